-- Demand 3, its slots, said of a block by its number.
use mathlib.Core.Path.{◌≡◌, refl, sym, ap, ap₂, subst, ◌∙◌}
use mathlib.Core.Bool.{Bool, true, false, cond, ◌&&◌}
use mathlib.Core.Logic.{◌⊎◌, inl, inr}
use mathlib.Core.List.{List, [], ◌∷◌}
use Prim.Native.Nat.{ℕ, suc, ◌+◌, ◌-◌, ◌^◌, ◌≤◌}
use native.Mathlib.Omega.{arith}
use lib.Dec.{leb, ltb}
use lib.ListN.{length}
use Rattle.base.specs.Sums.{one_if}
use Rattle.units.specs.Classes.{Start, class_of}
use Rattle.rules.specs.Board.{Record, Board, at, block_class, Has}
use Rattle.rules.specs.Choice.{Out, refused, done, taken, sent, Found, open_at, unknown, find, is_none, by_found, taken_in, joining, joins, go_on, more}
use Rattle.rules.specs.Calls.{Single, serve!, step, told}
use Rattle.rules.specs.Runs.{play, answer, number_after, closes, is_for, lane_of, class_at, clock_of, begins_slot, begins_in, slots_in}
use Rattle.rules.specs.Promises.{WaitsAt}
use Rattle.rules.proofs.Turns.{Good, in_line, from_place, slot_clock, begun}
use Rattle.rules.proofs.Run.{keeps_step, lane_waits, lane_none}
use Rattle.rules.proofs.Stretch.{slots_at, Keeping, never_two}
use Rattle.rules.proofs.Reached.{slot_when_reached}
use Rattle.rules.proofs.Tidy.{Tidy}
use Rattle.rules.proofs.TidyCalls.{tidy_step}
use Rattle.rules.proofs.Cases.{call_cases}
use Rattle.rules.proofs.Names.{Follows, follows, has_lane, has_share, find_has}
use Rattle.rules.proofs.Bounds.{waits_open}
use Rattle.rules.specs.Blocks.{closed}

clock_told : (b : Board) (o : Out) → clock_of (told b o) ≡ slot_clock o
clock_told b (refused code) = refl
clock_told b done = refl
clock_told b (taken a) = refl
clock_told b (sent s) = refl

begins_at : (lo hi : ℕ) (b : Board) (p n : ℕ) (x : Single) → is_for n (answer b x) ≡ from_place p (step b x).out
    → begins_in lo hi n b x ≡ begun b (step b x) p && leb lo (slot_clock (step b x).out) && leb (suc (slot_clock (step b x).out)) hi
begins_at lo hi b p n x e = rw (e, clock_told b (step b x).out)

-- the calls up to the one that closes the block at p, and no slot of it after them
record UntilClosed (lo hi : ℕ) (b : Board) (p n : ℕ) (xs : List Single) : Type 0 where
  first : List Single
  keeping : Keeping p b first
  counts : slots_in lo hi n b xs ≡ slots_at lo hi p b first
  end : (first ≡ xs) ⊎ (in_line (at (play b first) p).stand ≡ false)

lives : (lo hi : ℕ) (b : Board) (p n : ℕ) (xs : List Single) → Tidy b → Good b → Has b p n → UntilClosed lo hi b p n xs
unfolding slots_in slots_at Keeping play
lives lo hi b p n [] t g h = record { first = []; keeping = tt; counts = refl; end = inl refl }
lives lo hi b p n (x ∷ xs) t g h =
    go (closes n x (answer b x)) refl (lives lo hi (step b x).next p (number_after n x (answer b x)) xs (tidy_step b x t) (keeps_step b x g).good)
  where
    f : Follows b p n x (step b x)
    f = follows b p n t h x

    slot : one_if (begins_in lo hi n b x) ≡ one_if (begun b (step b x) p && leb lo (slot_clock (step b x).out) && leb (suc (slot_clock (step b x).out)) hi)
    slot = ap one_if (begins_at lo hi b p n x f.sent)

    never : (u v w : Bool) → one_if (u && false && v && w) ≡ 0
    never true v w = refl
    never false v w = refl

    silent : closes n x (answer b x) ≡ true → one_if (begins_in lo hi n b x) ≡ 0
    silent c =
        ap (λ (z : Bool). one_if (is_none b.slot && z && leb lo (clock_of (answer b x)) && ltb (clock_of (answer b x)) hi)) (f.sent ∙ (f.ends c).2)
        ∙ never (is_none b.slot) (leb lo (clock_of (answer b x))) (ltb (clock_of (answer b x)) hi)

    go : (c : Bool) → closes n x (answer b x) ≡ c
        → (Has (step b x).next p (number_after n x (answer b x)) → UntilClosed lo hi (step b x).next p (number_after n x (answer b x)) xs)
        → UntilClosed lo hi b p n (x ∷ xs)
    go true c rest = record {
      first = [];
      keeping = tt;
      counts = rw c (omega (arith, silent c));
      end = inr (lane_none b.largest (at b p).share (at b p).lane (at b p).stand (g.fine.shape.place_ok p).stand_ok (f.ends c).0);
    }
    go false c rest =
        let l = rest (f.stays c).0 in
        record { first = x ∷ l.first; keeping = ((f.stays c).1, l.keeping); counts = rw c (ap₂ (λ (u v : ℕ). u + v) slot l.counts); end = longer l.end }
      where
        longer : {ys : List Single} → (ys ≡ xs) ⊎ (in_line (at (play (step b x).next ys) p).stand ≡ false)
            → (x ∷ ys ≡ x ∷ xs) ⊎ (in_line (at (play (step b x).next ys) p).stand ≡ false)
        longer (inl e) = inl (ap (λ (zs : List Single). x ∷ zs) e)
        longer (inr e) = inr e

pub slots_twice : (b : Board) (n p lo : ℕ) (after : List Single) → Tidy b → Good b → find b n ≡ open_at p → Start (class_at b n) lo
    → slots_in lo (lo + 2 ^ class_at b n) n b after ≤ 1
slots_twice b n p lo after t g e m =
    rw (has_share b p n t h) (rw l.counts (never_two b l.first p (block_class (at b p)) lo g l.keeping refl (rw (has_share b p n t h) at m)))
  where
    h : Has b p n
    h = find_has b p n e

    l : UntilClosed lo (lo + 2 ^ block_class (at b p)) b p n after
    l = lives lo (lo + 2 ^ block_class (at b p)) b p n after t g h

-- a block whose lane is not empty has a place
lane_has : (b : Board) (n : ℕ) → 1 ≤ length (lane_of b n) → (p : ℕ) × (find b n ≡ open_at p)
lane_has b n l = go (find b n) refl l
  where
    go : (f : Found) → find b n ≡ f → 1 ≤ length (by_found f (λ q. (at b q).lane) []) → (p : ℕ) × (find b n ≡ open_at p)
    go (open_at p) e h = (p, e)
    go unknown e h = absurd (omega arith)

-- only a serving call moves the clock
moves : (b : Board) → Tidy b → (x : Single) → ((step b x).next.clock ≡ b.clock) ⊎ (x ≡ serve!)
unfolding taken_in closed
moves b t =
    call_cases b t (λ x u. (u.next.clock ≡ b.clock) ⊎ (x ≡ serve!))
    (record {
      refused = λ x code r. inl refl;
      opens = λ o c. inl refl;
      renames = λ p old new c. inl refl;
      closes = λ p n c. inl refl;
      takes =
          λ p n r c. inl (took p r (leb (length (at b p).lane) 0));
      goes_on = λ p c. inr refl;
      begins = λ r s p c e. inr refl;
    })
  where
    took : (p : ℕ) (r : Record) (z : Bool) → (cond z (joining b p (joins b.clock (at b p) r)) (go_on b p (more (at b p) r))).clock ≡ b.clock
    took p r true = refl
    took p r false = refl

pub slots_once : (b : Board) (n lo : ℕ) (x : Single) (after : List Single) → Tidy b → Good b → WaitsAt n lo b x
    → lo + 2 ^ class_at b n ≤ (play (step b x).next after).clock
    → slots_in lo (lo + 2 ^ class_at b n) n b (x ∷ after) ≡ 1
unfolding play slots_in slots_at Keeping
slots_once b n lo x after t g w end = go (lane_has b n w.before) (moves b t x)
  where
    nb : Board
    nb = (step b x).next

    tn : Tidy nb
    tn = tidy_step b x t

    gn : Good nb
    gn = (keeps_step b x g).good

    go : (p : ℕ) × (find b n ≡ open_at p) → (nb.clock ≡ b.clock) ⊎ (x ≡ serve!) → slots_in lo (lo + 2 ^ class_at b n) n b (x ∷ after) ≡ 1
    go (p, e) (inl q) = absurd (omega (arith, w.early, w.reached))
    go (p, e) (inr q) =
        subst (λ (m : ℕ). slots_in lo (lo + 2 ^ m) n b (x ∷ after) ≡ 1) (sym share) (rw (stay)
        (ap₂ (λ (u v : ℕ). u + v) (ap one_if (begins_at lo (lo + 2 ^ k) b p n x f.sent)) (ap (λ (m : ℕ). slots_in lo (lo + 2 ^ k) m nb after) same ∙ l.counts)
        ∙ once))
      where
        h : Has b p n
        h = find_has b p n e

        share : class_at b n ≡ block_class (at b p)
        share = ap class_of (has_share b p n t h)

        k : ℕ
        k = block_class (at b p)

        f : Follows b p n x (step b x)
        f = follows b p n t h x

        waits! : in_line (at b p).stand ≡ true
        waits! =
            lane_waits b.largest (at b p).share (at b p).lane (at b p).stand (g.fine.shape.place_ok p).stand_ok (rw (has_lane b p n t h) at w.before)

        stay : closes n x (answer b x) ≡ false
        stay = waits_open b p n x t g h waits!

        same : number_after n x (answer b x) ≡ n
        same = ap (λ (z : Single). number_after n z (answer b x)) q

        hn : Has nb p n
        hn = subst (Has nb p) same (f.stays stay).0

        l : UntilClosed lo (lo + 2 ^ k) nb p n after
        l = lives lo (lo + 2 ^ k) nb p n after tn gn hn

        how : (1 ≤ length (lane_of nb n)) ⊎ ((begins_slot n b x ≡ true) × (lo ≤ clock_of (answer b x)))
            → (in_line (at nb p).stand ≡ true) ⊎ ((begun b (step b x) p ≡ true) × (lo ≤ slot_clock (step b x).out))
        how (inl y) =
            inl (lane_waits nb.largest (at nb p).share (at nb p).lane (at nb p).stand (gn.fine.shape.place_ok p).stand_ok
            (rw (has_lane nb p n tn hn) at y))
        how (inr y) = inr (ap (λ (z : Bool). is_none b.slot && z) (sym f.sent) ∙ y.0, rw (clock_told b (step b x).out) at y.1)

        stops : (l.first ≡ after) ⊎ (in_line (at (play nb l.first) p).stand ≡ false)
            → (lo + 2 ^ k ≤ (play nb l.first).clock) ⊎ (in_line (at (play nb l.first) p).stand ≡ false)
        stops (inl y) = inl (rw (y, ← share) end)
        stops (inr y) = inr y

        once : slots_at lo (lo + 2 ^ k) p b (x ∷ l.first) ≡ 1
        once =
            slot_when_reached b x l.first p lo g (rw share at w.start) w.early w.reached waits! (how w.after) ((f.stays stay).1, l.keeping)
            (stops l.end)
