-- A fresh board in memory, with tables of 2,048 entries: it reads as the rules' fresh board, and is known to be good.
use mathlib.Core.Path.{◌≡◌, sym}
use mathlib.Core.List.{List}
use Prim.Native.Nat.{ℕ, ◌≤◌}
use lib.ListN.{length}
use Rattle.rules.specs.Board.{Place, free_place, at, fresh}
use Rattle.rules.proofs.Run.{all_free}
use Rattle.rules.proofs.Frame.{seventeen_fresh}
use Rattle.rules.proofs.Unspoilt.{tidy_fresh}
use Rattle.board.specs.declared.Board as struct
use Rattle.board.specs.Reading.{encode, lane_of, view, Holds}
use Rattle.board.specs.Leaving.{Known}
use Rattle.board.proofs.Rings.{empty_lane}
use Rattle.board.proofs.Reading.{view_encode, Fit}
use Rattle.board.proofs.Sound.{sound_encode}

holds_fresh : (L : ℕ) (ids lens : List ℕ) → Holds (fresh L) ids lens
unfolding fresh
holds_fresh L ids lens i = at_free (at (fresh L) i) (all_free 64 i)
  where
    at_free : (x : Place) → x ≡ free_place → x.lane ≡ lane_of ids lens i x (length x.lane)
    at_free x e = rw e (sym (empty_lane ids lens i free_place))

pub record Starts (b : struct.Board) (ids lens : List ℕ) (L : ℕ) : Type 0 where
  pub reads : view b ids lens ≡ fresh L
  pub good : Known b ids lens

pub starts : (L : ℕ) (ids lens : List ℕ) → 64 ≤ L → L ≤ 2048 → length ids ≡ 2048 → length lens ≡ 2048
    → Starts (encode (fresh L)) ids lens L
starts L ids lens lo hi a d =
    record {
      reads = view_encode (fresh L) ids lens fit (holds_fresh L ids lens);
      good =
          record { sound = sound_encode (fresh L) ids lens fit (holds_fresh L ids lens); ids_all = a; lens_all = d };
    }
  where
    fit : Fit (fresh L)
    fit = record { tidy = tidy_fresh L lo hi; classes = seventeen_fresh L }
