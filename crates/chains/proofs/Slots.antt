-- The slots that a chain's answers tell of are the rules' slots: an open slot has the clock of the last send, and no later one does.
use mathlib.Core.Path.{◌≡◌, refl, sym, ap, ap₂, subst, ◌∙◌}
use mathlib.Core.Bool.{Bool, true, false, cond, not, ◌&&◌}
use mathlib.Core.Option.{Option, none, some}
use mathlib.Core.List.{List, [], ◌∷◌, ◌++◌}
use Prim.Native.Nat.{ℕ, ◌+◌, ◌*◌, ◌≤◌, ◌<◌}
use native.Mathlib.Omega.{arith}
use lib.Dec.{leb, ltb, eqb}
use lib.ListN.{length, get_or, drop}
use Rattle.base.specs.Sums.{one_if}
use Rattle.base.proofs.Numbers.{eqb_yes, eqb_no}
use Rattle.rules.specs.Board
use Rattle.rules.specs.Board.{at, bytes_charged, no_record, block_class, fresh}
use Rattle.rules.specs.Choice.{Turn, is_none, upd, go_on, joining, joins, more, taken_in, emptied, short, going, ended, send_from, send, begin, chosen}
use Rattle.rules.specs.Choice.{left_after}
use Rattle.rules.specs.Blocks.{closed}
use Rattle.rules.specs.Calls.{Single, step, told}
use Rattle.rules.specs.Runs
use Rattle.rules.specs.Runs.{play, answer, is_for, clock_of, closes, number_after}
use Rattle.rules.proofs.Tidy.{Tidy}
use Rattle.rules.proofs.TidyCalls.{tidy_step}
use Rattle.rules.proofs.Cases.{call_cases}
use Rattle.chains.specs.Demands.{slot_after, last_slot, is_new, begins_slot, slots_in}
use Rattle.chains.proofs.Rows.{said_of}

-- the last send, if any, came before the clock
abbrev Before : Option ℕ → ℕ → Type 0
Before none c = Unit {0}
Before (some t) c = t < c

-- No slot is open, and the last send came before the clock; or one is, and the last send was at the clock.
abbrev LastSendBy : Option ℕ → ℕ → Option ℕ → Type 0
LastSendBy last c none = Before last c
LastSendBy last c (some p) = last ≡ some c

abbrev pub LastSend : Option ℕ → Board.Board → Type 0
LastSend last b = LastSendBy last b.clock b.slot

pub last_fresh : (L : ℕ) → LastSend none (fresh L)
unfolding fresh
last_fresh L = tt

-- a slot that goes on is not new, and one that begins at the clock or later is
new_same : (last : Option ℕ) (t : ℕ) → last ≡ some t → is_new last t ≡ false
new_same last t e = ap (λ (o : Option ℕ). is_new o t) e ∙ ap not (eqb_yes t t refl)

new_later : (last : Option ℕ) (c t : ℕ) → Before last c → c ≤ t → is_new last t ≡ true
new_later none c t h l = refl
new_later (some u) c t h l = ap not (eqb_no u t (λ e. omega arith))

-- after a send the slot has ended, and the clock has gone on, or it is open at the clock
last_sent : (b : Board.Board) (p : ℕ) → b.slot ≡ some p → LastSend (some b.clock) (send_from b p)
unfolding send_from ended
last_sent b p e = go (leb (length (at b p).lane) 1) (ltb (left_after (at b p)) (bytes_charged (get_or (drop 1 (at b p).lane) 0 no_record) * 65536))
  where
    go : (t u : Bool) → LastSend (some b.clock)
        (cond t (ended b p (emptied (at b p)) b.orders)
        (cond u (ended b p (short b.clock (at b p)) (upd b.orders (block_class (at b p)) (b.orders (block_class (at b p)) ++ (p ∷ []))))
        (go_on b p (going (at b p)))))
    go true u = omega arith
    go false true = omega arith
    go false false = subst (LastSendBy (some b.clock) b.clock) (sym e) refl

begin_slot : (b : Board.Board) (t : ℕ) → (begin b t).slot ≡ some (chosen b t)
unfolding begin
begin_slot b t = refl

begin_clock : (b : Board.Board) (t : ℕ) → (begin b t).clock ≡ t
unfolding begin
begin_clock b t = refl

-- a call of a run: what is seen after it, and whether its answer tells of a slot that begins
record Sees (last : Option ℕ) (b : Board.Board) (t : Turn) : Type 0 where
  after : LastSend (slot_after last (told b t.out)) t.next
  begins : (n : ℕ) → begins_slot n last (told b t.out) ≡ is_none b.slot && is_for n (told b t.out)

sees : (last : Option ℕ) (b : Board.Board) → Tidy b → LastSend last b → (x : Single) → Sees last b (step b x)
unfolding send closed taken_in
sees last b g s = call_cases b g (λ x t. Sees last b t) (record {
  refused = λ x code r. record { after = s; begins = λ n. nothing (is_new last 0) (is_none b.slot) };
  opens = λ o c. record { after = s; begins = λ n. nothing (is_new last 0) (is_none b.slot) };
  renames = λ p old new c. record { after = s; begins = λ n. nothing (is_new last 0) (is_none b.slot) };
  closes = λ p n c. record { after = s; begins = λ n. nothing (is_new last 0) (is_none b.slot) };
  takes = λ p n r c. record { after = took p r; begins = λ n. nothing (is_new last 0) (is_none b.slot) };
  goes_on =
      λ p c. record {
        after = last_sent b p c.slot;
        begins =
            λ n. ap (λ (u : Bool). u && eqb n (at b p).number) (new_same last b.clock (subst (LastSendBy last b.clock) c.slot s))
            ∙ ap (λ (o : Option ℕ). is_none o && eqb n (at b p).number) (sym c.slot);
      };
  begins = λ r t p c e. record {
    after = last_sent (begin b t) p (begin_slot b t ∙ ap some (sym e));
    begins =
        λ n. ap (λ (u : Bool). u && eqb n (at b p).number)
        (new_later last b.clock (begin b t).clock (subst (LastSendBy last b.clock) c.slot s) (omega (arith, begin_clock b t, c.time)))
        ∙ ap (λ (o : Option ℕ). is_none o && eqb n (at b p).number) (sym c.slot);
  };
})
  where
    nothing : (t u : Bool) → t && false ≡ u && false
    nothing true true = refl
    nothing true false = refl
    nothing false true = refl
    nothing false false = refl

    took : (p : ℕ) (r : Board.Record) → LastSend last (taken_in b p r)
    took p r = go (leb (length (at b p).lane) 0)
      where
        go : (t : Bool) → LastSend last (cond t (joining b p (joins b.clock (at b p) r)) (go_on b p (more (at b p) r)))
        go true = s
        go false = s

pub last_play : (last : Option ℕ) (b : Board.Board) (xs : List Single) → Tidy b → LastSend last b → LastSend (last_slot last (said_of b xs)) (play b xs)
unfolding last_slot said_of play
last_play last b [] g s = s
last_play last b (x ∷ xs) g s = last_play (slot_after last (answer b x)) (step b x).next xs (tidy_step b x g) (sees last b g s x).after

pub last_step : (last : Option ℕ) (b : Board.Board) (x : Single) → Tidy b → LastSend last b → LastSend (slot_after last (answer b x)) (step b x).next
last_step last b x g s = (sees last b g s x).after

pub begins_said : (last : Option ℕ) (b : Board.Board) (x : Single) (n : ℕ) → Tidy b → LastSend last b → begins_slot n last (answer b x) ≡ Runs.begins_slot n b x
begins_said last b x n g s = (sees last b g s x).begins n

pub slots_said : (lo hi n : ℕ) (last : Option ℕ) (b : Board.Board) (xs : List Single) → Tidy b → LastSend last b
    → slots_in lo hi n last xs (said_of b xs) ≡ Runs.slots_in lo hi n b xs
unfolding slots_in Runs.slots_in said_of
slots_said lo hi n last b [] g s = refl
slots_said lo hi n last b (x ∷ xs) g s =
    ap₂ (λ (t : Bool) (m : ℕ). one_if (t && leb lo (clock_of (answer b x)) && ltb (clock_of (answer b x)) hi) + cond (closes n x (answer b x)) 0 m)
    (begins_said last b x n g s)
    (slots_said lo hi (number_after n x (answer b x)) (slot_after last (answer b x)) (step b x).next xs (tidy_step b x g) (last_step last b x g s))
