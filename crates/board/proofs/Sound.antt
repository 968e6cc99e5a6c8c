-- What a value that is not spoilt gives, and that no second value spells its board.
use mathlib.Core.Path.{◌≡◌, refl, sym, ap, subst, ◌∙◌}
use mathlib.Core.Bool.{true}
use mathlib.Core.Logic.{◌⊎◌, inl, inr}
use mathlib.Core.List.{List}
use Prim.Native.Nat.{ℕ, ◌≤◌, ◌<◌}
use native.Mathlib.Omega.{arith}
use lib.Dec.{eqb}
use lib.ListN.{length, get_or, get_or-eq_default}
use Rattle.base.specs.Tests.{every, same_list}
use Rattle.base.proofs.Numbers.{split, eqb_yes, eqb_true}
use Rattle.base.proofs.Decides.{d_iff, d_true, d_and, Each, d_every, d_list}
use Rattle.rules.specs.Board
use Rattle.rules.specs.Board.{Seventeen, Place, free_place, at}
use Rattle.rules.specs.Spoilt.{unspoilt}
use Rattle.rules.proofs.Spoilt.{tidy_unspoilt, unspoilt_tidy}
use Rattle.board.specs.declared.Board as struct
use Rattle.board.specs.Reading.{tab, encode, lane_of, bare_of, place_of, follow, view}
use Rattle.board.specs.Reading.{Holds, Sound, alike_in_each, is_spelt, is_sound, SpeltDecides, IsSoundDecides}
use Rattle.board.specs.Laws.{WrittenRead, WrittenSound, SoundOne}
use Rattle.board.proofs.Lists.{get_d_tab, length_tab}
use Rattle.board.proofs.Rings.{length_lane, empty_lane, lane_by}
use Rattle.board.proofs.Same.{Same, same}
use Rattle.board.proofs.Reading.{Fit, view_encode}

-- THE TEST IN THE PROMISES decides it: it holds of the value that spells a board, and of the one that is not spoilt

-- what a value that is alike in each field gives
alike_same : (a b : struct.Board) → Each (alike_in_each a b) → Same a b
alike_same a b (
  numbers,
  (shares, (deficits, (starts, (counts, (ready, (next, (heads, (tails, (held, (largest, (clock, (active, (pending, (slot, (left, _))))))))))))))),
) = record {
  numbers = (d_list a.numbers b.numbers).yes numbers;
  shares = (d_list a.shares b.shares).yes shares;
  deficits = (d_list a.deficits b.deficits).yes deficits;
  starts = (d_list a.starts b.starts).yes starts;
  counts = (d_list a.counts b.counts).yes counts;
  ready = (d_list a.ready b.ready).yes ready;
  next = (d_list a.next b.next).yes next;
  heads = (d_list a.heads b.heads).yes heads;
  tails = (d_list a.tails b.tails).yes tails;
  held = (d_list a.held b.held).yes held;
  largest = eqb_true a.largest b.largest largest;
  clock = eqb_true a.clock b.clock clock;
  active = eqb_true a.active b.active active;
  pending = eqb_true a.pending b.pending pending;
  slot = eqb_true a.slot b.slot slot;
  left = eqb_true a.left.0 b.left.0 left;
}

own_list : (xs : List ℕ) → same_list xs xs ≡ true
own_list xs = (d_list xs xs).no refl

own_number : (n : ℕ) → eqb n n ≡ true
own_number n = eqb_yes n n refl

alike_self : (b : struct.Board) → every (alike_in_each b b) ≡ true
alike_self b =
    rw (own_list b.numbers, own_list b.shares, own_list b.deficits, own_list b.starts, own_list b.counts, own_list b.ready)
    rw (own_list b.next, own_list b.heads, own_list b.tails, own_list b.held)
    rw (own_number b.largest, own_number b.clock, own_number b.active, own_number b.pending, own_number b.slot, own_number b.left.0)
    refl

pub spelt_decides : SpeltDecides
unfolding is_spelt
spelt_decides b ids lens = record {
  yes = λ t. same (alike_same (encode (view b ids lens)) b ((d_every (alike_in_each (encode (view b ids lens)) b)).yes t));
  no = λ e. subst (λ (c : struct.Board). every (alike_in_each c b) ≡ true) (sym e) (alike_self b);
}

pub is_sound_decides : IsSoundDecides
unfolding is_sound
is_sound_decides b ids lens =
    d_iff (d_and (spelt_decides b ids lens) (d_true (unspoilt (view b ids lens)))) (λ w. record { spells = w.0; keeps = w.1 }) (λ s. (s.spells, s.keeps))

-- NO SECOND VALUE: two that are not spoilt and spell one board are one
pub sound_one : SoundOne
sound_one b c ids lens ids' lens' s t e = sym s.spells ∙ ap encode e ∙ t.spells

-- a board of the rules that keeps every clause, written, is not spoilt
pub sound_encode : (m : Board.Board) (ids lens : List ℕ) → Fit m → Holds m ids lens → Sound (encode m) ids lens
sound_encode m ids lens f holds = record { spells = ap encode read; keeps = rw read (tidy_unspoilt m f.tidy) }
  where
    read : view (encode m) ids lens ≡ m
    read = view_encode m ids lens f holds

-- both in the words of the rules
fit : (m : Board.Board) → Seventeen m → unspoilt m ≡ true → Fit m
fit m high h = record { tidy = unspoilt_tidy m high h; classes = high }

pub written_read : WrittenRead
written_read m ids lens high h holds = view_encode m ids lens (fit m high h) holds

pub written_sound : WrittenSound
written_sound m ids lens high h holds = sound_encode m ids lens (fit m high h) holds

-- what is read has seventeen classes
pub seventeen_view : (b : struct.Board) (ids lens : List ℕ) → length b.heads ≡ 17 → length b.held ≡ 17 → Seventeen (view b ids lens)
unfolding view follow
seventeen_view b ids lens heads held = record {
  no_order = λ k h. ap (follow b.next 64) (get_or-eq_default b.heads 0 (omega (arith, heads)));
  no_held = λ k h. get_or-eq_default b.held 0 (omega (arith, held));
}

module _ (b : struct.Board) (ids lens : List ℕ) (s : Sound b ids lens) where
  heads_17 : length b.heads ≡ 17
  unfolding encode
  heads_17 = ap (λ (c : struct.Board). length c.heads) (sym s.spells) ∙ length_tab 17 _

  held_17 : length b.held ≡ 17
  unfolding encode
  held_17 = ap (λ (c : struct.Board). length c.held) (sym s.spells) ∙ length_tab 17 (view b ids lens).held

  high : Seventeen (view b ids lens)
  high = seventeen_view b ids lens heads_17 held_17

  pub fit_view : Fit (view b ids lens)
  fit_view = fit (view b ids lens) high s.keeps

  pub holds_view : Holds (view b ids lens) ids lens
  unfolding view place_of bare_of
  holds_view i = go (split 64 i)
    where
      lane : (x : Place) → x ≡ place_of b ids lens i → x.lane ≡ lane_of ids lens i x (length x.lane)
      lane x e =
          rw e (lane_by ids lens i (bare_of b i) (place_of b ids lens i) (get_or b.counts i 0) refl
          ∙ ap (lane_of ids lens i (place_of b ids lens i)) (sym (length_lane ids lens i (bare_of b i) (get_or b.counts i 0))))

      free : (x : Place) → x ≡ free_place → x.lane ≡ lane_of ids lens i x (length x.lane)
      free x e = rw e (sym (empty_lane ids lens i free_place))

      go : (64 ≤ i) ⊎ (i < 64) → (at (view b ids lens) i).lane ≡ lane_of ids lens i (at (view b ids lens) i) (length (at (view b ids lens) i).lane)
      go (inl h) =
          free (at (view b ids lens) i) (get_or-eq_default (tab 64 (place_of b ids lens)) free_place (omega (arith, length_tab 64 (place_of b ids lens))))
      go (inr h) = lane (at (view b ids lens) i) (get_d_tab 64 (place_of b ids lens) i free_place h)
