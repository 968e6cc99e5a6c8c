-- RENAME, OPEN AND CLOSE: codes and steps of the code are the rules' turns, with the tables; on a value that is known to
-- be good what the code asks holds, and what it leaves is the promise.
use mathlib.Core.Path.{◌≡◌, refl, sym, ap, ap₂, subst, ◌∙◌}
use mathlib.Core.Bool.{false, not, ◌||◌}
use mathlib.Core.Logic.{◌⊎◌, inl, inr}
use mathlib.Core.List.{List}
use Prim.Native.Nat.{ℕ, suc, ◌+◌, ◌-◌, ◌≤◌, ◌<◌}
use native.Mathlib.Omega.{arith}
use lib.Dec.{eqb, leb, ltb}
use lib.ListN.{length, set}
use Rattle.base.proofs.Numbers.{split, leb_yes, leb_no, false_lt}
use Rattle.base.specs.Sums.{below}
use Rattle.arrays.specs.Lists.{total_of}
use Rattle.arrays.proofs.Totals.{total_map, total_below}
use Rattle.rules.specs.Board
use Rattle.rules.specs.Board.{Place, free_place, at, waits, out, used_share}
use Rattle.rules.specs.Spoilt.{is_queued}
use Rattle.rules.specs.Choice.{Turn, where_is, number_outside, go_on}
use Rattle.rules.specs.Blocks.{meant, opened, free_at, share_outside, all_taken, over_free, open_block, rename_block, closed, close_block}
use Rattle.rules.specs.Calls.{open!, rename!, close!, step, one, done! }
use Rattle.rules.proofs.Cases.{or_right, in_range, free_found, CanClose, can_close}
use Rattle.rules.proofs.Calls.{in_places, empty_out}
use Rattle.operands.specs.declared.Opening.{Opening}
use Rattle.board.specs.declared.Board as struct
use Rattle.board.specs.Reading.{encode, tab, view}
use Rattle.board.specs.Memory.{blocks_of, with_blocks}
use Rattle.board.specs.Leaving.{Reply, Returned, returned, replied, written, Known, ruled}
use Rattle.board.proofs.Lists.{length_tab, get_d_tab}
use Rattle.board.proofs.Reading.{Fit}
use Rattle.board.proofs.Sound.{fit_view}
use Rattle.board.proofs.Fields.{share_is, count_is}
use Rattle.board.proofs.Bounds.{bought, within, held_most}
use Rattle.board.proofs.Agrees.{turned, agrees, by_spelling}
use Rattle.finding.proofs.Finding.{free_is, none_is, free_le, known_by, unknown_by}
use Rattle.blocks.specs.Blocks.{Renaming, renaming, renamed_at, renamed_in, with_renaming}
use Rattle.blocks.specs.Blocks.{Answered, answered, open_at, opened_in, close_at, closed_at, closed_in, CloseNeeds}
use Rattle.blocks.proofs.Blocks.{rename_is, open_is, close_is, quiet_active}

module _ (m : Board.Board) (f : Fit m) where
  used_is : total_of (encode m).shares + total_of (encode m).held ≡ used_share m
  unfolding encode used_share
  used_is = ap₂ (λ (a c : ℕ). a + c) (total_map (λ (y : Place). y.share) m.places) held_is
    where
      held_is : total_of (tab 17 m.held) ≡ below m.held 17
      held_is = total_below (tab 17 m.held) 17 m.held (length_tab 17 m.held) (λ k h. get_d_tab 17 m.held k 0 h)

  room_is : (s : ℕ) → 1 ≤ s → ltb 65536 (total_of (encode m).shares + total_of (encode m).held + s) ≡ over_free m s
  room_is s pos = ap (λ (n : ℕ). ltb 65536 (n + s)) used_is ∙ go (split (65537 - used_share m) s)
    where
      go : (65537 - used_share m ≤ s) ⊎ (s < 65537 - used_share m) → leb 65537 (used_share m + s) ≡ leb (suc (65536 - used_share m)) s
      go (inl h) = leb_yes 65537 (used_share m + s) (omega arith) ∙ sym (leb_yes (suc (65536 - used_share m)) s (omega arith))
      go (inr h) = leb_no 65537 (used_share m + s) (omega arith) ∙ sym (leb_no (suc (65536 - used_share m)) s (omega arith))

  inside : (p : ℕ) → p < 64 → p < length m.places
  inside p h = omega (arith, f.tidy.shape.all64)

-- ---- RENAME
module _ (m : Board.Board) (f : Fit m) (ids lens : List ℕ) (old new : ℕ) where
  abbrev renamed_to : Renaming → Returned Reply
  renamed_to x = returned (replied x.code (with_renaming (encode m) x)) ids lens

  abbrev numbers : List ℕ
  numbers = (encode m).numbers

  abbrev by_rename : Turn → Returned Reply
  by_rename = turned (encode m) ids lens m (rename! old new)

  pub renamed_is : renamed_to (renamed_in (encode m).numbers old new) ≡ written (encode m) ids lens (done! m (one (rename! old new)))
  unfolding renamed_in step rename_block
  renamed_is =
      agrees renamed_to by_rename m _ (number_outside new) 4 _ _ _ refl refl λ e4.
      known_by m f.tidy renamed_to by_rename old (renamed_at numbers new) (renaming 6 numbers) _ refl λ h.
      let next = rename_is m f.tidy (where_is m old) (inside m f (where_is m old) h) new in
      let goes = renaming 0 (set numbers (where_is m old) new) in
      unknown_by m f.tidy renamed_to by_rename new (λ j. renaming 5 numbers) goes _ refl
      (ap (λ (c : struct.Board). returned (replied 0 c) ids lens) next)

-- ---- OPEN
module _ (m : Board.Board) (f : Fit m) (ids lens : List ℕ) (o : Opening) where
  abbrev n : ℕ
  n = o.number

  abbrev s : ℕ
  s = o.share

  abbrev opened_to : Answered → Returned Reply
  opened_to x = returned (replied x.code (with_blocks (encode m) x.blocks)) ids lens

  abbrev by_open : Turn → Returned Reply
  by_open = turned (encode m) ids lens m (open! (meant o))

  opened_at_lem : leb 64 (free_at m) ≡ false
      → with_blocks (encode m) (open_at (free_at m) o (blocks_of (encode m))) ≡ encode (go_on m (free_at m) (opened (meant o)))
  opened_at_lem e = go (f.tidy.shape.place_ok p).named
    where
      p : ℕ
      p = free_at m

      go : (at m p ≡ free_place) ⊎ ((1 ≤ (at m p).number) × (1 ≤ (at m p).share))
          → with_blocks (encode m) (open_at p o (blocks_of (encode m))) ≡ encode (go_on m p (opened (meant o)))
      go (inl q) =
          open_is m f.tidy p (inside m f p (false_lt 64 p e)) (ap (λ (y : Place). y.stand) q) (ap (λ (y : Place). length y.lane) q)
          (ap (λ (y : Place). y.deficit) q) o (ap (λ (y : Place). y.start) q)
      go (inr h) = absurd (omega (arith, free_found m (false_lt 64 (free_at m) e)))

  pub opened_is : opened_to (opened_in (blocks_of (encode m)) o) ≡ written (encode m) ids lens (done! m (one (open! (meant o))))
  unfolding opened_in step open_block
  opened_is =
      agrees opened_to by_open m _ (number_outside n || share_outside s) 4 _ _ _ refl refl λ e4.
      let taken = ap (λ (i : ℕ). eqb i 64) (free_is m f.tidy) ∙ none_is (free_at m) (free_le m) in
      let pos = (in_range s 65536 (or_right (number_outside n) (share_outside s) e4)).0 in
      unknown_by m f.tidy opened_to by_open n (λ j. answered 5 (blocks_of (encode m))) _ _ refl
      (agrees opened_to by_open m _ (all_taken m) 7 _ _ _ taken refl λ e7.
      agrees opened_to by_open m _ (over_free m s) 8 _ _ _ (room_is m f s pos) refl λ e8.
      ap (λ (i : ℕ). opened_to (answered 0 (open_at i o (blocks_of (encode m))))) (free_is m f.tidy)
      ∙ ap (λ (c : struct.Board). returned (replied 0 c) ids lens) (opened_at_lem e7))

-- ---- CLOSE
module _ (m : Board.Board) (f : Fit m) (ids lens : List ℕ) (n : ℕ) where
  abbrev b : struct.Board
  b = encode m

  abbrev closed_to : Answered → Returned Reply
  closed_to x = returned (replied x.code (with_blocks b x.blocks)) ids lens

  abbrev by_close : Turn → Returned Reply
  by_close = turned (encode m) ids lens m (close! n)

  closed_at_lem : CanClose m (where_is m n) n
      → with_blocks b (close_at b.active (at m (where_is m n)).share (where_is m n) (blocks_of b)) ≡ encode (closed m (where_is m n))
  closed_at_lem can =
      let owed = (f.tidy.shape.place_ok p).clear (ap (λ s. is_queued s) was) in
      close_is m f.tidy p (in_places m f.tidy.shape p can.has.inside) was can.empty owed (quiet_active m f.tidy)
    where
      p : ℕ
      p = where_is m n

      was : (at m (where_is m n)).stand ≡ out
      was = empty_out m f.tidy.shape (where_is m n) (omega (arith, can.empty))

  pub closed_is : closed_to (closed_in b.active b.counts (blocks_of b) n) ≡ written (encode m) ids lens (done! m (one (close! n)))
  unfolding closed_in step close_block
  closed_is =
      known_by m f.tidy closed_to by_close n (closed_at b.active b.counts (blocks_of b)) (answered 6 (blocks_of b)) _ refl λ h.
      let waiting = ap (ltb 0) (count_is m (where_is m n)) in
      agrees closed_to by_close m _ (waits (at m (where_is m n))) 10 _ _ _ waiting refl λ e10.
      let can = can_close m n (ap not (leb_yes (suc (where_is m n)) 64 h), (e10, tt)) in
      ap (λ (s : ℕ). closed_to (answered 0 (close_at b.active s (where_is m n) (blocks_of b)))) (share_is m (where_is m n))
      ∙ ap (λ (c : struct.Board). returned (replied 0 c) ids lens) (closed_at_lem can)

module _ (m : Board.Board) (f : Fit m) where
  written_close_needs : CloseNeeds (encode m).numbers (encode m).shares (encode m).held
  written_close_needs = record { low = bought m f; high = within m f; most = held_most m f }

-- ---- On a value that is known to be good
module _ (b : struct.Board) (ids lens : List ℕ) (k : Known b ids lens) where
  abbrev m : Board.Board
  m = view b ids lens

  f : Fit (view b ids lens)
  f = fit_view b ids lens k.sound

  pub close_needs : CloseNeeds b.numbers b.shares b.held
  close_needs = subst (λ (c : struct.Board). CloseNeeds c.numbers c.shares c.held) k.sound.spells (written_close_needs m f)

  pub rename_known : (old new : ℕ) (x : Renaming) → x ≡ renamed_in b.numbers old new
      → returned (replied x.code (with_renaming b x)) ids lens ≡ ruled b ids lens (rename! old new)
  rename_known old new x e =
      rw e (by_spelling b ids lens k (rename! old new)
      (λ c. returned (replied (renamed_in c.numbers old new).code (with_renaming c (renamed_in c.numbers old new))) ids lens)
      (renamed_is m f ids lens old new))

  -- the board with what was answered on its arrays
  abbrev in_board : struct.Board → Answered → Returned Reply
  in_board c x = returned (replied x.code (with_blocks c x.blocks)) ids lens

  pub open_known : (o : Opening) (x : Answered) → x ≡ opened_in (blocks_of b) o → in_board b x ≡ ruled b ids lens (open! (meant o))
  open_known o x e =
      rw e (by_spelling b ids lens k (open! (meant o)) (λ c. in_board c (opened_in (blocks_of c) o)) (opened_is m f ids lens o))

  pub close_known : (n : ℕ) (x : Answered) → x ≡ closed_in b.active b.counts (blocks_of b) n
      → in_board b x ≡ ruled b ids lens (close! n)
  close_known n x e =
      rw e (by_spelling b ids lens k (close! n) (λ c. in_board c (closed_in c.active c.counts (blocks_of c) n)) (closed_is m f ids lens n))
