-- What a call's promise gives to the next call: the board that is left reads as the rules' next board, and is known to be good, so that it isn't tested again.
use mathlib.Core.Path.{◌≡◌, refl, sym, ap, ◌∙◌}
use mathlib.Core.Bool.{Bool, true, false, cond, true≢false}
use mathlib.Core.Logic.{◌≢◌}
use mathlib.Core.List.{List, [], ◌∷◌, ◌++◌}
use Prim.Native.Nat.{ℕ, suc, ◌≤◌, ◌<◌}
use native.Mathlib.Omega.{arith}
use native.Mathlib.Decide.{ℕ_discrete}
use lib.Dec.{leb}
use lib.ListN.{length, set, length-set, length-append}
use lib.Seq.{get_or-set_same, get_or-set_other}
use Rattle.base.proofs.Numbers.{true_le}
use Rattle.rules.specs.Board
use Rattle.rules.specs.Board.{Record, Place, free_place, at, depth, entry}
use Rattle.rules.specs.Choice.{Turn, go_on, joining, joins, more, taken_in}
use Rattle.rules.specs.Blocks.{opened, free_at, renamed, closed}
use Rattle.rules.specs.Calls.{Single, step, code_of, told}
use Rattle.rules.specs.Runs.{is_serve}
use Rattle.rules.proofs.Cases.{refusal_not0, CallCases, call_cases}
use Rattle.rules.proofs.Refusals.{writes_refused}
use Rattle.rules.proofs.Frame.{seventeen_step}
use Rattle.rules.proofs.Orders.{pl}
use Rattle.rules.proofs.TidyCalls.{tidy_step}
use Rattle.board.specs.declared.Board as struct
use Rattle.board.specs.Reading.{lane_of, encode, view, Holds}
use Rattle.board.proofs.Rings.{lane_by, lane_put, lane_away, entry_apart, empty_lane}
use Rattle.board.proofs.Reading.{Fit, view_encode}
use Rattle.board.proofs.Sound.{sound_encode, fit_view, holds_view}
use Rattle.board.specs.Leaving.{Reply, Returned, returned, NoSecondAnswer, replied, Known, ruled}
use Rattle.board.proofs.Agrees.{turned}

-- ---- THE TABLES HOLD THE LANES after it

-- a change at one place, whose lane the new tables hold, where they hold the others' as before
holds_set : (l : List Place) (p : ℕ) (y : Place) (ids lens ids' lens' : List ℕ) → p < length l
    → ((i : ℕ) → (pl l i).lane ≡ lane_of ids lens i (pl l i) (length (pl l i).lane))
    → y.lane ≡ lane_of ids' lens' p y (length y.lane)
    → ((i : ℕ) → i ≢ p → lane_of ids' lens' i (pl l i) (length (pl l i).lane) ≡ lane_of ids lens i (pl l i) (length (pl l i).lane))
    → (i : ℕ) → (pl (set l p y) i).lane ≡ lane_of ids' lens' i (pl (set l p y) i) (length (pl (set l p y) i).lane)
holds_set l p y ids lens ids' lens' h old new away i = go (ℕ_discrete i p)
  where
    go : Dec (i ≡ p) → (pl (set l p y) i).lane ≡ lane_of ids' lens' i (pl (set l p y) i) (length (pl (set l p y) i).lane)
    go (yes e) = rw (e, get_or-set_same l p y free_place h) new
    go (no e) = rw (get_or-set_other l p i y free_place e) (old i ∙ sym (away i e))

module _ (m : Board.Board) (ids lens : List ℕ) (f : Fit m) (holds : Holds m ids lens) (p : ℕ) (p64 : p < 64) where
  inside : p < length m.places
  inside = omega (arith, f.tidy.shape.all64)

  holds_idle : (y : Place) → y.lane ≡ [] → (i : ℕ)
      → (pl (set m.places p y) i).lane ≡ lane_of ids lens i (pl (set m.places p y) i) (length (pl (set m.places p y) i).lane)
  holds_idle y e =
      holds_set m.places p y ids lens ids lens inside holds (e ∙ sym (ap (λ (l : List Record). lane_of ids lens p y (length l)) e ∙ empty_lane ids lens p y))
      (λ i ne. refl)

  holds_renamed : (n : ℕ) → Holds (go_on m p (renamed n (at m p))) ids lens
  holds_renamed n =
      holds_set m.places p (renamed n (at m p)) ids lens ids lens inside holds
      (holds p ∙ lane_by ids lens p (at m p) (renamed n (at m p)) (length (at m p).lane) refl) (λ i ne. refl)

  module _ (x : Record) (room : length (at m p).lane < depth (at m p)) (a : length ids ≡ 2048) (d : length lens ≡ 2048) where
    abbrev e : ℕ
    e = entry p (at m p) (length (at m p).lane)

    abbrev ids' : List ℕ
    ids' = set ids (entry p (at m p) (length (at m p).lane)) x.number

    abbrev lens' : List ℕ
    lens' = set lens (entry p (at m p) (length (at m p).lane)) x.bytes

    put_is : (at m p).lane ++ (x ∷ []) ≡ lane_of ids' lens' p (at m p) (suc (length (at m p).lane))
    put_is = ap (λ (r : List Record). r ++ (x ∷ [])) (holds p) ∙ sym (lane_put ids lens p (at m p) (length (at m p).lane) x.number x.bytes p64 room a d)

    away : (i : ℕ) → i ≢ p → lane_of ids' lens' i (at m i) (length (at m i).lane) ≡ lane_of ids lens i (at m i) (length (at m i).lane)
    away i ne =
        lane_away ids lens i (at m i) (length (at m i).lane) (entry p (at m p) (length (at m p).lane)) x.number x.bytes
        (λ j l. entry_apart i p (at m i) (at m p) j (length (at m p).lane) ne)

    empty : (xs : List Record) → length xs ≤ 0 → xs ≡ []
    empty [] h = refl
    empty (y ∷ ys) h = absurd (omega arith)

    holds_taken : Holds (taken_in m p x) ids' lens'
    unfolding taken_in
    holds_taken = go (leb (length (at m p).lane) 0) refl
      where
        go : (t : Bool) → leb (length (at m p).lane) 0 ≡ t → Holds (cond t (joining m p (joins m.clock (at m p) x)) (go_on m p (more (at m p) x))) ids' lens'
        go true q = holds_set m.places p (joins m.clock (at m p) x) ids lens ids' lens' inside holds single away
          where
            none! : (at m p).lane ≡ []
            none! = empty (at m p).lane (true_le (length (at m p).lane) 0 q)

            single : x ∷ [] ≡ lane_of ids' lens' p (joins m.clock (at m p) x) 1
            single =
                ap (λ (r : List Record). r ++ (x ∷ [])) (sym none!) ∙ put_is ∙ ap (λ (n : ℕ). lane_of ids' lens' p (at m p) (suc n)) (ap length none!)
                ∙ lane_by ids' lens' p (at m p) (joins m.clock (at m p) x) 1 refl
        go false q = holds_set m.places p (more (at m p) x) ids lens ids' lens' inside holds longer_is away
          where
            longer : suc (length (at m p).lane) ≡ length ((at m p).lane ++ (x ∷ []))
            longer = omega (arith, length-append (at m p).lane (x ∷ []))

            longer_is : (at m p).lane ++ (x ∷ []) ≡ lane_of ids' lens' p (more (at m p) x) (length ((at m p).lane ++ (x ∷ [])))
            longer_is =
                put_is ∙ ap (lane_of ids' lens' p (at m p)) longer ∙ lane_by ids' lens' p (at m p) (more (at m p) x) (length ((at m p).lane ++ (x ∷ []))) refl

-- ---- THE NEXT BOARD

-- what a call on b gives back whose turn by the rules is t: a refusal gives all back as it was
pub record ReturnsTurn (b : struct.Board) (ids lens : List ℕ) (r : Returned Reply) (t : Turn) : Type 0 where
  pub code : r.reply.code ≡ code_of (told (view b ids lens) t.out)
  pub same : r.reply.code ≢ 0 → r ≡ returned (replied r.reply.code b) ids lens
  pub reads : view r.reply.board r.ids r.lens ≡ t.next
  pub good : Known r.reply.board r.ids r.lens

-- no second answer fits a promise
pub only_one : (A : Type 0) → NoSecondAnswer A
only_one A w r s ids lens ids' lens' e f =
    let g = e ∙ sym f in (ap (λ (x : Returned A). x.reply) g, ap (λ (x : Returned A). x.ids) g, ap (λ (x : Returned A). x.lens) g)

fit_step : (m : Board.Board) (x : Single) → Fit m → Fit (step m x).next
fit_step m x f = record { tidy = tidy_step m x f.tidy; classes = seventeen_step m x f.classes }

module _ (b : struct.Board) (ids lens : List ℕ) (k : Known b ids lens) where
  abbrev m : Board.Board
  m = view b ids lens

  f : Fit (view b ids lens)
  f = fit_view b ids lens k.sound

  holds : Holds (view b ids lens) ids lens
  holds = holds_view b ids lens k.sound

  -- a next board that fits, whose lanes the tables hold
  next_good : (t : Turn) (ids' lens' : List ℕ) → 0 ≡ code_of (told m t.out) → Fit t.next → Holds t.next ids' lens' → length ids' ≡ 2048
      → length lens' ≡ 2048 → ReturnsTurn b ids lens (returned (replied 0 (encode t.next)) ids' lens') t
  next_good t ids' lens' e fit h a d =
      record {
        code = e;
        same = λ ne. absurd (ne refl);
        reads = view_encode t.next ids' lens' fit h;
        good =
            record { sound = sound_encode t.next ids' lens' fit h; ids_all = a; lens_all = d };
      }

  abbrev Goal : Single → Turn → Type 0
  Goal x t = Fit t.next → is_serve x ≡ false → ReturnsTurn b ids lens (turned b ids lens m x t) t

  cases : CallCases m Goal
  unfolding closed
  cases = record {
    refused = λ x code r fit e. rw (writes_refused x code, refusal_not0 code r) (record { code = refl; same = λ ne. refl; reads = refl; good = k });
    opens = λ o can fit e. next_good _ ids lens refl fit (holds_idle m ids lens f holds (free_at m) can.inside (opened o) refl) k.ids_all k.lens_all;
    renames = λ p old new can fit e. next_good _ ids lens refl fit (holds_renamed m ids lens f holds p can.has.inside new) k.ids_all k.lens_all;
    closes = λ p n can fit e. next_good _ ids lens refl fit (holds_idle m ids lens f holds p can.has.inside free_place refl) k.ids_all k.lens_all;
    takes =
        λ p n r can fit e. next_good _ _ _ refl fit (holds_taken m ids lens f holds p can.has.inside r can.room k.ids_all k.lens_all)
        (length-set ids _ r.number ∙ k.ids_all) (length-set lens _ r.bytes ∙ k.lens_all);
    goes_on = λ p on fit e. absurd (true≢false e);
    begins = λ r t p on q fit e. absurd (true≢false e);
  }

  -- OPEN, RENAME, CLOSE AND RECORD: done or refused, what is left follows the rules, and the next call may be made on it
  pub call_follows : (x : Single) → is_serve x ≡ false → ReturnsTurn b ids lens (ruled b ids lens x) (step m x)
  unfolding ruled
  call_follows x e = call_cases m f.tidy Goal cases x (fit_step m x f) e
