-- A board that is not spoilt stays so, whatever is called: no run is needed for this.
use mathlib.Core.Path.{◌≡◌, refl, sym, ap, subst, ◌∙◌}
use mathlib.Core.Bool.{Bool, true, false, cond, false≢true}
use mathlib.Core.Logic.{◌≢◌}
use mathlib.Core.Option.{Option, none, some}
use mathlib.Core.List.{List, [], ◌∷◌, ◌++◌}
use Prim.Native.Nat.{ℕ, suc, ◌+◌, ◌*◌, ◌-◌, ◌^◌, ◌≤◌, ◌<◌, max}
use native.Mathlib.Omega.{arith}
use lib.Dec.{leb, ltb, eqb}
use lib.ListN.{length, get_or, set, drop}
use Rattle.base.proofs.Numbers.{true_le, false_lt, eqb_no}
use Rattle.rules.specs.Spoilt.{is_queued, is_serving, ready_num, is_at}
use Rattle.rules.specs.Board.{no_record, onward, bytes_charged, Place, block_class, front, Board, at}
use Rattle.rules.specs.Choice.{upd, left_of, release, settle, started, emptied, short, going, ended, go_on, send_from, begin, lowest}
use Rattle.rules.specs.Blocks.{quiet}
use Rattle.rules.proofs.Orders.{pl}
use Rattle.rules.proofs.Shape.{Shape, PlaceOk, names_kept, shape_same, shape_join, shape_clock, shape_begin, settle_le, release_le, Chosen, choose}
use Rattle.rules.proofs.Shape.{LeastIs, queued_in}
use Rattle.rules.proofs.Slot.{one_serves, serving_not_queued, serving_ready}
use Rattle.rules.proofs.Turns.{busy, lit}
use Rattle.rules.proofs.Slot

pub record Tidy (b : Board) : Type 0 where
  pub shape : Shape b.largest b.clock b.places b.orders b.held
  pub one : (p : ℕ) → is_serving (at b p).stand ≡ is_at p b.slot
  pub calm : quiet b ≡ true → (j : ℕ) → b.held j ≡ 0
  pub time : b.clock + busy b.slot ≤ 2 ^ 62

module _ (L c : ℕ) (l : List Place) (o : ℕ → List ℕ) (H : ℕ → ℕ) (p : ℕ) (g : Tidy (lit L c l o (some p) H)) where
  is_s : is_serving (pl l p).stand ≡ true
  is_s = Slot.is_s L c l o H p g.shape g.one

  in_l : p < length l
  in_l = Slot.in_l L c l o H p g.shape g.one

  -- the slot ends with the place x and the orders o'
  tidy_ended : (x : Place) (o' : ℕ → List ℕ) → is_serving x.stand ≡ false → Shape L c (set l p x) o' H → Tidy (ended (lit L c l o (some p) H) p x o')
  unfolding ended quiet settle
  tidy_ended x o' e sh = record {
    shape = shape_clock (suc c) (settle (set l p x) (release c (suc c) H)) (omega arith) (settle_le c (suc c) (set l p x) H) sh;
    one = Slot.none_serves L c l o H p g.shape g.one x e;
    calm = λ q j. rw q;
    time = omega (arith, g.time);
  }

  -- and where it goes on
  tidy_go_on : (x : Place) → is_serving x.stand ≡ true → Shape L c (set l p x) o H → Tidy (lit L c (set l p x) o (some p) H)
  unfolding quiet
  tidy_go_on x e sh = record { shape = sh; one = one; calm = λ q. absurd (false≢true q); time = g.time }
    where
      one : (q : ℕ) → is_serving (pl (set l p x) q).stand ≡ eqb q p
      one = one_serves l p x in_l e (λ q f. g.one q ∙ eqb_no q p f)

  same : (x : Place) → x.number ≡ (pl l p).number → x.share ≡ (pl l p).share → is_queued x.stand ≡ false → ready_num x.stand ≡ 0 → PlaceOk L x
      → Shape L c (set l p x) o H
  same x n s q r new =
      shape_same p x in_l s (q ∙ sym (serving_not_queued (pl l p).stand is_s)) (r ∙ sym (serving_ready (pl l p).stand is_s))
      (names_kept l p x in_l n s g.shape.names) new g.shape

  tidy_lit : Tidy (send_from (lit L c l o (some p) H) p)
  unfolding send_from
  tidy_lit = go (leb (length (pl l p).lane) 1) refl
    where
      nx : ℕ
      nx = bytes_charged (get_or (drop 1 (pl l p).lane) 0 no_record) * 65536

      rest : ℕ
      rest = left_of (pl l p).stand - bytes_charged (front (pl l p)) * 65536

      b : Board
      b = lit L c l o (some p) H

      o' : ℕ → List ℕ
      o' = upd o (block_class (pl l p)) (o (block_class (pl l p)) ++ (p ∷ []))

      two : 2 ≤ length (pl l p).lane → (t : Bool) → ltb rest nx ≡ t → Tidy (cond t (ended b p (short c (pl l p)) o') (go_on b p (going (pl l p))))
      two m true e =
          tidy_ended (short c (pl l p)) o' refl
          (shape_join p (onward (pl l p)) (drop 1 (pl l p).lane) (left_of (pl l p).stand - bytes_charged (front (pl l p)) * 65536) in_l
          (serving_not_queued (pl l p).stand is_s) (Slot.short_ok L c l o H p g.shape g.one m (true_le (suc rest) nx e)) g.shape)
      two m false e =
          tidy_go_on (going (pl l p)) refl
          (same (going (pl l p)) refl refl refl refl (Slot.going_ok L c l o H p g.shape g.one m (omega (arith, false_lt (suc rest) nx e))))

      go : (t : Bool) → leb (length (pl l p).lane) 1 ≡ t
          → Tidy (cond t (ended b p (emptied (pl l p)) o) (cond (ltb rest nx) (ended b p (short c (pl l p)) o') (go_on b p (going (pl l p)))))
      go true e = tidy_ended (emptied (pl l p)) o refl (same (emptied (pl l p)) refl refl refl refl (Slot.emptied_ok L c l o H p g.shape g.one))
      go false e = two (false_lt (length (pl l p).lane) 1 e) (ltb rest nx) refl

pub tidy_send : (b : Board) (p : ℕ) → b.slot ≡ some p → Tidy b → Tidy (send_from b p)
tidy_send b p e =
    subst (λ (s : Option ℕ). Tidy (set_slot s) → Tidy (send_from (set_slot s) p)) (sym e) (tidy_lit b.largest b.clock b.places b.orders b.held p)
  where
    set_slot : Option ℕ → Board
    set_slot s = lit b.largest b.clock b.places b.orders s b.held

-- a slot begins
module _ (b : Board) (r : ℕ) (free : b.slot ≡ none) (least : LeastIs b.places (some r)) (soon : max b.clock r < 2 ^ 62) (g : Tidy b) where
  abbrev pub t : ℕ
  t = max b.clock r

  abbrev pub k : ℕ
  k = lowest b (max b.clock r)

  abbrev pub p : ℕ
  p = get_or (b.orders (lowest b (max b.clock r))) 0 0

  pub chosen : Chosen b.places b.orders t k p
  unfolding lowest
  chosen = choose b.places b.orders t r g.shape.listed g.shape.rising least (omega arith)

  pub tidy_begin : Tidy (begin b t)
  unfolding begin quiet
  tidy_begin =
      record {
        shape = shape_begin t k p chosen (shape_clock t (release b.clock t b.held) (omega arith) (release_le b.clock t b.held) g.shape);
        one = one;
        calm = λ q. absurd (false≢true q);
        time = omega (arith, soon);
      }
    where
      h : p < length b.places
      h = queued_in b.places p chosen.is_q

      one : (q : ℕ) → is_serving (pl (set b.places p (started b.largest (at b p))) q).stand ≡ eqb q p
      one = one_serves b.places p (started b.largest (at b p)) h refl (λ q e. g.one q ∙ ap (is_at q) free)

  pub tidy_sent : Tidy (send_from (begin b t) p)
  unfolding begin
  tidy_sent = tidy_send (begin b t) p refl tidy_begin
