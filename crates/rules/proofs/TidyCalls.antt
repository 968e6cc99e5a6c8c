-- The other calls keep a board from being spoilt, and so does every call.
use mathlib.Core.Path.{◌≡◌, refl, sym, ap, ◌∙◌}
use mathlib.Core.Bool.{Bool, true, false, cond, ◌&&◌, true≢false, false≢true}
use mathlib.Core.Logic.{◌≢◌}
use mathlib.Core.Option.{Option, none, some}
use mathlib.Core.List.{List, [], ◌∷◌}
use Prim.Native.Nat.{ℕ, zero, suc, ◌+◌, ◌-◌, ◌≤◌, ◌<◌}
use native.Mathlib.Omega.{arith}
use lib.Dec.{leb}
use lib.ListN.{length, set}
use lib.Seq.{get_or-set_same}
use Rattle.base.specs.Sums.{sum, below}
use Rattle.base.proofs.Sums.{below_one}
use Rattle.base.specs.Tests.{least}
use Rattle.base.proofs.Tests.{and_right}
use Rattle.base.proofs.Numbers.{true_le, false_lt}
use Rattle.units.proofs.Classes.{class_le}
use Rattle.rules.specs.Calls.{Single, step}
use Rattle.rules.specs.Spoilt.{is_queued, is_serving}
use Rattle.rules.specs.Board.{Record, out, Place, free_place, block_class, Board, at, used_share}
use Rattle.rules.specs.Choice.{upd, least_ready, ready_of, is_none, go_on, more, joins, joining, taken_in, where_is, send, serve}
use Rattle.rules.specs.Blocks.{Opening, opened, free_at, quiet, closed, renamed}
use Rattle.rules.proofs.Orders.{pl, upd_same, upd_other}
use Rattle.rules.proofs.Shape.{Shape, Distinct, PlaceOk, names_kept, free_ok, shape_same, shape_join}
use Rattle.rules.proofs.Shape.{shape_other, LeastIs, least_is}
use Rattle.rules.proofs.Good.{names_free}
use Rattle.rules.proofs.Turns.{lit}
use Rattle.rules.proofs.Calls.{set_field, in_places, names_new, free_out, empty_out, opened_ok, renamed_ok, joins_ok, more_ok}
use Rattle.rules.proofs.Tidy.{Tidy, tidy_send, tidy_sent}
use Rattle.rules.proofs.Cases.{CanOpen, CanRename, CanClose, CanTake, other_cases, serve_turns, least_of}

-- the least ready time hangs on the stands alone
least_set : (l : List Place) (p : ℕ) (x : Place) → ready_of x.stand ≡ ready_of (pl l p).stand → least_ready (set l p x) ≡ least_ready l
unfolding least_ready
least_set [] p x e = refl
least_set (y ∷ l) zero x e = rw e
least_set (y ∷ l) (suc p) x e = rw (least_set l p x e)

-- a call that leaves the clock, the slot and the stands as they were
tidy_quiet : (b : Board) (p : ℕ) (x : Place) (H' : ℕ → ℕ) → p < length b.places → x.stand ≡ (at b p).stand → (quiet b ≡ true → (j : ℕ) → H' j ≡ 0)
    → Shape b.largest b.clock (set b.places p x) b.orders H' → Tidy b
    → Tidy (lit b.largest b.clock (set b.places p x) b.orders b.slot H')
unfolding quiet
tidy_quiet b p x H' h e calm sh g = record {
  shape = sh;
  one = λ q. set_field (λ w. is_serving w.stand) b.places p x h (ap is_serving e) q ∙ g.one q;
  calm = λ q. calm (sym (ap (λ (m : Option ℕ). is_none b.slot && is_none m) (least_set b.places p x (ap ready_of e))) ∙ q);
  time = g.time;
}

module _ (b : Board) (p n : ℕ) (x : Record) (can : CanTake b p n x) (g : Tidy b) where
  in_l_lem : p < length b.places
  in_l_lem = in_places b g.shape p can.has.inside

  tidy_taken : Tidy (taken_in b p x)
  unfolding taken_in quiet LeastIs
  tidy_taken = go (leb (length (at b p).lane) 0) refl
    where
      go : (t : Bool) → leb (length (at b p).lane) 0 ≡ t → Tidy (cond t (joining b p (joins b.clock (at b p) x)) (go_on b p (more (at b p) x)))
      go true e = record {
        shape = shape_join p (at b p).start (x ∷ []) (at b p).deficit in_l_lem (ap is_queued was) (joins_ok b g.shape p n x can) g.shape;
        one = λ q. set_field (λ z. is_serving z.stand) b.places p y in_l_lem (sym (ap is_serving was)) q ∙ g.one q;
        calm = λ q. absurd (noisy (least_ready l) (least_is l) (and_right (is_none b.slot) (is_none (least_ready l)) q));
        time = g.time;
      }
        where
          y : Place
          y = joins b.clock (at b p) x

          l : List Place
          l = set b.places p y

          was : (at b p).stand ≡ out
          was = empty_out b g.shape p (true_le (length (at b p).lane) 0 e)

          noisy : (m : Option ℕ) → LeastIs (set b.places p y) m → is_none m ≡ true → ⊥
          noisy none l f = true≢false (rw (get_or-set_same b.places p y free_place in_l_lem) at (l p))
          noisy (some r) l f = false≢true f
      go false e =
          tidy_quiet b p z b.held in_l_lem refl g.calm
          (shape_same p z in_l_lem refl refl refl (names_kept b.places p z in_l_lem refl refl g.shape.names) zok g.shape) g
        where
          z : Place
          z = more (at b p) x

          zok : PlaceOk b.largest (more (at b p) x)
          zok = more_ok b g.shape p n x can (false_lt (length (at b p).lane) 0 e)

tidy_rename : (b : Board) (p old new : ℕ) → CanRename b p old new → Tidy b → Tidy (go_on b p (renamed new (at b p)))
tidy_rename b p old new can g =
    let z = renamed new (at b p) in
    let in_p = in_places b g.shape p can.has.inside in
    tidy_quiet b p z b.held in_p refl g.calm
    (shape_same p z in_p refl refl refl (names_new b g.shape p z can.has.inside can.nobody) (renamed_ok b g.shape p old new can) g.shape) g

tidy_open : (b : Board) (o : Opening) → CanOpen b o → Tidy b → Tidy (go_on b (free_at b) (opened o))
unfolding used_share
tidy_open b o can g =
    let p = free_at b in
    let z = opened o in
    let in_p = in_places b g.shape p can.inside in
    let was = free_out b g.shape o can in
    let names = names_new b g.shape p z can.inside can.nobody in
    tidy_quiet b p z b.held in_p (sym was) g.calm
    (shape_other p z b.held in_p (ap is_queued was) refl names (opened_ok b g.shape o can) (omega (arith, can.room)) g.shape) g

tidy_close : (b : Board) (p n : ℕ) → CanClose b p n → Tidy b → Tidy (closed b p)
unfolding closed
tidy_close b p n can g =
    tidy_quiet b p free_place H' in_p (sym was) (λ q j. rw q (g.calm q j))
    (shape_other p free_place H' in_p (ap is_queued was) refl names (free_ok b.largest g.shape.least) (room (quiet b)) g.shape) g
  where
    k : ℕ
    k = block_class (at b p)

    held : ℕ → ℕ
    held = upd b.held k (b.held k + (at b p).share)

    H' : ℕ → ℕ
    H' = cond (quiet b) b.held held

    in_p : p < length b.places
    in_p = in_places b g.shape p can.has.inside

    was : (at b p).stand ≡ out
    was = empty_out b g.shape p (omega (arith, can.empty))

    names : Distinct (set b.places p free_place)
    names = names_free b.places p in_p g.shape.names

    room : (t : Bool) → sum (λ y. y.share) b.places + below (cond t b.held held) 17 + 0 ≤ 65536 + (at b p).share
    room true = omega (arith, g.shape.used_share)
    room false =
        omega (
          arith,
          g.shape.used_share,
          below_one held b.held 17 k (omega (arith, class_le (at b p).share)) (λ j e. upd_other b.held k (b.held k + (at b p).share) j e),
          upd_same b.held k (b.held k + (at b p).share),
        )

pub tidy_serve : (b : Board) → Tidy b → Tidy (serve b).next
unfolding send
tidy_serve b g = serve_turns b (λ u. Tidy u.next)
    (λ code u. g)
    (λ p e. tidy_send b p e g)
    (λ r m. tidy_sent b r m.slot (least_of b r m.least) m.soon g)

-- EVERY CALL
pub tidy_step : (b : Board) (x : Single) → Tidy b → Tidy (step b x).next
tidy_step b x g = other_cases b (λ c u. Tidy u.next) (record {
  refused = λ c code r. g;
  opens = λ o c. tidy_open b o c g;
  renames = λ old new c. tidy_rename b (where_is b old) old new c g;
  closes = λ n c. tidy_close b (where_is b n) n c g;
  takes = λ n r c. tidy_taken b (where_is b n) n r c g;
}) (tidy_serve b g) x
