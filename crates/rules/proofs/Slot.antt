-- The place that has the slot: what a send makes of it.
use mathlib.Core.Path.{◌≡◌, refl, sym, ap, ◌∙◌}
use mathlib.Core.Bool.{true, false, true≢false, false≢true}
use mathlib.Core.Logic.{◌⊎◌, inl, inr, ◌≢◌}
use mathlib.Core.List.{List}
use Prim.Native.Nat.{ℕ, ◌*◌, ◌-◌, ◌≤◌, ◌<◌}
use native.Mathlib.Omega.{arith}
use native.Mathlib.Decide.{ℕ_discrete}
use lib.Dec.{eqb}
use lib.ListN.{length, get_or, set, drop, length-drop, get_or-eq_default}
use lib.Seq.{get_or-set_same, get_or-set_other}
use Rattle.base.proofs.Numbers.{split, eqb_yes, eqb_no}
use Rattle.base.specs.Tests.{least}
use Rattle.units.specs.Credit.{largest_charge}
use Rattle.rules.specs.Spoilt.{is_queued, is_serving, ready_num}
use Rattle.lanes.proofs.Rings.{ring_on_inside}
use Rattle.lanes.proofs.Lanes.{depth_positive}
use Rattle.rules.specs.Board.{Record, no_record, bytes_charged, Stand, out, queued, serving, Place, free_place, front, onward, depth}
use Rattle.rules.specs.Choice.{left_of, emptied, short, going, more}
use Rattle.rules.proofs.Orders.{pl}
use Rattle.rules.proofs.Shape.{All, all_rest, all_front, StandOk, InSize, PlaceOk, named_num, Shape, most_pos, fit_charge}

pub ring_on_lem : (x : Place) → onward x < depth x
unfolding onward
ring_on_lem x = ring_on_inside (depth x) x.start depth_positive

pub serving_ok : (L share : ℕ) (lane : List Record) (s : Stand) → is_serving s ≡ true → StandOk L share lane s
    → (1 ≤ length lane) × (1 ≤ share) × (bytes_charged (get_or lane 0 no_record) * 65536 ≤ left_of s) × (left_of s < 3 * largest_charge L * 65536)
unfolding StandOk
serving_ok L share lane out e h = absurd (false≢true e)
serving_ok L share lane (queued r) e h = absurd (false≢true e)
serving_ok L share lane (serving n) e h = h

pub serving_in : (l : List Place) (p : ℕ) → is_serving (pl l p).stand ≡ true → p < length l
serving_in l p e = go (split (length l) p)
  where
    go : (length l ≤ p) ⊎ (p < length l) → p < length l
    go (inr h) = h
    go (inl h) = absurd (true≢false (sym e ∙ ap (λ (x : Place). is_serving x.stand) (get_or-eq_default l free_place h)))

-- the place p has the slot, and no other
pub one_serves : (l : List Place) (p : ℕ) (x : Place) → p < length l → is_serving x.stand ≡ true
    → ((q : ℕ) → q ≢ p → is_serving (pl l q).stand ≡ false) → (q : ℕ) → is_serving (pl (set l p x) q).stand ≡ eqb q p
one_serves l p x h e others q = go (ℕ_discrete q p)
  where
    go : Dec (q ≡ p) → is_serving (pl (set l p x) q).stand ≡ eqb q p
    go (yes f) = rw (f, get_or-set_same l p x free_place h) (e ∙ sym (eqb_yes p p refl))
    go (no f) = rw (get_or-set_other l p q x free_place f, eqb_no q p f) (others q f)

pub serving_not_queued : (s : Stand) → is_serving s ≡ true → is_queued s ≡ false
serving_not_queued out e = refl
serving_not_queued (queued r) e = sym e
serving_not_queued (serving n) e = refl

pub serving_ready : (s : Stand) → is_serving s ≡ true → ready_num s ≡ 0
serving_ready out e = refl
serving_ready (queued r) e = absurd (false≢true e)
serving_ready (serving n) e = refl

module _ (L c : ℕ) (l : List Place) (o : ℕ → List ℕ) (H : ℕ → ℕ) (p : ℕ) (sh : Shape L c l o H) (one : (q : ℕ) → is_serving (pl l q).stand ≡ eqb q p) where
  pub is_s : is_serving (pl l p).stand ≡ true
  is_s = one p ∙ eqb_yes p p refl

  pub in_l : p < length l
  in_l = serving_in l p is_s

  pub facts : (1 ≤ length (pl l p).lane) × (1 ≤ (pl l p).share) × (bytes_charged (front (pl l p)) * 65536 ≤ left_of (pl l p).stand)
      × (left_of (pl l p).stand < 3 * largest_charge L * 65536)
  facts = serving_ok L (pl l p).share (pl l p).lane (pl l p).stand is_s (sh.place_ok p).stand_ok

  pub is_named : {x : Place} → (x ≡ free_place) ⊎ ((1 ≤ (pl l p).number) × (1 ≤ (pl l p).share))
  is_named = inr (named_num (pl l p) facts.1 (sh.place_ok p).named, facts.1)

  -- nobody is serving once the slot's block has another stand
  pub none_serves : (x : Place) → is_serving x.stand ≡ false → (q : ℕ) → is_serving (pl (set l p x) q).stand ≡ false
  none_serves x e q = go (ℕ_discrete q p)
    where
      go : Dec (q ≡ p) → is_serving (pl (set l p x) q).stand ≡ false
      go (yes f) = rw (f, get_or-set_same l p x free_place in_l) e
      go (no f) = rw (get_or-set_other l p q x free_place f) (one q ∙ eqb_no q p f)

  -- the slot goes on
  module _ (more : 2 ≤ length (pl l p).lane)
      (fits : bytes_charged (get_or (drop 1 (pl l p).lane) 0 no_record) * 65536 ≤ left_of (pl l p).stand - bytes_charged (front (pl l p)) * 65536) where
    pub going_ok : PlaceOk L (going (pl l p))
    unfolding StandOk
    going_ok = record {
      items = all_rest (InSize L) (pl l p).lane (sh.place_ok p).items;
      owed = omega (arith, most_pos L sh.least);
      most = (sh.place_ok p).most;
      stand_ok = (rw (length-drop 1 (pl l p).lane) (omega arith), facts.1, fits, omega (arith, facts.3));
      brief = rw (length-drop 1 (pl l p).lane) (omega (arith, (sh.place_ok p).brief));
      ring = ring_on_lem (pl l p);
      clear = λ _. refl;
      named = is_named;
    }

  -- the lane is empty: the slot ends
  pub emptied_ok : PlaceOk L (emptied (pl l p))
  unfolding StandOk All
  emptied_ok =
      record {
        items = tt;
        owed = omega (arith, most_pos L sh.least);
        most = (sh.place_ok p).most;
        stand_ok = refl;
        brief = omega arith;
        ring =
            ring_on_lem (pl l p);
        clear = λ _. refl;
        named = is_named;
      }

  -- the new front needs more than is left: the slot ends, and the block joins its order again
  module _ (more : 2 ≤ length (pl l p).lane)
      (lacks : left_of (pl l p).stand - bytes_charged (front (pl l p)) * 65536 < bytes_charged (get_or (drop 1 (pl l p).lane) 0 no_record) * 65536) where
    pub short_ok : PlaceOk L (short c (pl l p))
    unfolding StandOk
    short_ok = record {
      items = rest;
      owed =
          omega (arith, lacks, (fit_charge L (get_or (drop 1 (pl l p).lane) 0 no_record) (all_front (InSize L) no_record (drop 1 (pl l p).lane) long rest)).1);
      most = (sh.place_ok p).most;
      stand_ok = (long, facts.1);
      brief = rw (length-drop 1 (pl l p).lane) (omega (arith, (sh.place_ok p).brief));
      ring = ring_on_lem (pl l p);
      clear = λ e. absurd (true≢false e);
      named = is_named;
    }
      where
        rest : All (InSize L) (drop 1 (pl l p).lane)
        rest = all_rest (InSize L) (pl l p).lane (sh.place_ok p).items

        long : 1 ≤ length (drop 1 (pl l p).lane)
        long = rw (length-drop 1 (pl l p).lane) (omega arith)
