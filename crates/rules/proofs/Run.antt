-- DEMAND 3 over runs: from a fresh board, by any row of calls.
use mathlib.Core.Path.{◌≡◌, refl, ap, ◌∙◌}
use mathlib.Core.Bool.{true, false, false≢true}
use mathlib.Core.Logic.{◌⊎◌, inl, inr, ◌≢◌}
use mathlib.Core.List.{List, [], ◌∷◌}
use Prim.Native.Nat.{ℕ, zero, suc, ◌+◌, ◌-◌, ◌≤◌}
use native.Mathlib.Omega.{arith}
use lib.ListN.{length, get_or, replicate, length-replicate}
use Rattle.base.proofs.Sums.{sum_zero, below_zero}
use Rattle.rules.specs.Calls.{Single, step}
use Rattle.rules.specs.Spoilt.{count}
use Rattle.rules.specs.Board.{Record, Stand, out, queued, serving, Place, free_place, block_class, Board, at, fresh}
use Rattle.rules.specs.Choice.{where_is}
use Rattle.rules.specs.Runs.{play}
use Rattle.rules.proofs.Line.{Seat, free}
use Rattle.rules.proofs.Steps.{idle_in_time}
use Rattle.rules.proofs.Orders.{Rising}
use Rattle.rules.proofs.Shape.{free_ok, StandOk, All}
use Rattle.rules.proofs.Good.{seat_of, seats, seat_at, Fine}
use Rattle.rules.proofs.Turns.{Good, in_line, most, phi, bytes_sent, from_place, most_ahead, Keeps, keeps_refuse}
use Rattle.rules.proofs.Cases.{other_cases}
use Rattle.rules.proofs.Serve.{keeps_serve}
use Rattle.rules.proofs.Calls.{keeps_record, keeps_rename, keeps_open, keeps_close}

pub keeps_step : (b : Board) (x : Single) → Good b → Keeps b (step b x)
keeps_step b x g = other_cases b (λ c u. Keeps b u) (record {
  refused = λ c code r. keeps_refuse b code g;
  opens = λ o c. keeps_open b o c g;
  renames = λ old new c. keeps_rename b (where_is b old) old new c g;
  closes = λ n c. keeps_close b (where_is b n) n c g;
  takes = λ n r c. keeps_record b (where_is b n) n r c g;
}) (keeps_serve b g) x

pub good_play : (b : Board) (xs : List Single) → Good b → Good (play b xs)
unfolding play
good_play b [] g = g
good_play b (x ∷ xs) g = good_play (step b x).next xs (keeps_step b x g).good

-- A FRESH BOARD
pub all_free : (n i : ℕ) → get_or (replicate n free_place) i free_place ≡ free_place
all_free zero i = refl
all_free (suc n) zero = refl
all_free (suc n) (suc i) = all_free n i

pub good_fresh : (L : ℕ) → 64 ≤ L → L ≤ 2048 → Good (fresh L)
unfolding fresh Rising count StandOk All
good_fresh L lo hi = record { fine = fine; one = λ p. rw (all_free 64 p) }
  where
    l : List Place
    l = replicate 64 free_place

    seat : (i : ℕ) → get_or (seats l) i free ≡ free
    seat i = seat_at l i ∙ ap seat_of (all_free 64 i)

    fine : Fine L 0 0 l (λ k. []) (λ j. 0)
    fine = record {
      shape = record {
        least = lo;
        most = hi;
        all64 = length-replicate 64 free_place;
        place_ok = λ p. rw (all_free 64 p) (free_ok L lo);
        seat = λ p. rw (all_free 64 p) (λ e. absurd (false≢true e));
        used_share = omega (arith, sum_zero (λ (x : Place). x.share) free_place l (λ i. rw (all_free 64 i)), below_zero (λ j. 0) 17 (λ j _. refl));
        names = λ p q a _ _. absurd (omega (arith, ap (λ (x : Place). x.share) (all_free 64 p)));
        listed = λ k q. rw (all_free 64 q);
        rising = λ k. tt;
      };
      in_time =
          idle_in_time (seats l) (λ j. 0) 0 0 (λ i. rw (seat i))
          (omega (arith, sum_zero (λ (s : Seat). s.share) free (seats l) (λ i. rw (seat i)), below_zero (λ j. 0) 17 (λ j _. refl)));
    }

-- what the calls send, in bytes
unfoldable pub sent_bytes : Board → List Single → ℕ
sent_bytes b [] = 0
sent_bytes b (x ∷ xs) = bytes_sent (step b x).out + sent_bytes (step b x).next xs

-- none of the calls sends from place p
unfoldable pub UnsentAt : ℕ → Board → List Single → Type 0
UnsentAt p b [] = Unit {0}
UnsentAt p b (x ∷ xs) = (from_place p (step b x).out ≡ false) × UnsentAt p (step b x).next xs

pub run_phi : (b : Board) (xs : List Single) (p : ℕ) → Good b → in_line (at b p).stand ≡ true → UnsentAt p b xs → phi (play b xs) p + sent_bytes b xs ≤ phi b p
unfolding play sent_bytes UnsentAt
run_phi b [] p g w u = omega arith
run_phi b (x ∷ xs) p g w u = omega (arith, (k.stays p w u.0).2, run_phi (step b x).next xs p k.good (k.stays p w u.0).0 u.1)
  where
    k : Keeps b (step b x)
    k = keeps_step b x g

-- THE BOUND.
-- the call x brings a record to the front of place p's lane: the lane was empty before, or x sent from it, and it is not empty now
abbrev pub ToFront : Board → Single → ℕ → Type 0
ToFront b x p = (1 ≤ length (at (step b x).next p).lane) × ((length (at b p).lane ≡ 0) ⊎ (from_place p (step b x).out ≡ true))

pub lane_waits : (L share : ℕ) (lane : List Record) (s : Stand) → StandOk L share lane s → 1 ≤ length lane → in_line s ≡ true
unfolding StandOk
lane_waits L share lane out k h = absurd (omega arith)
lane_waits L share lane (queued r) k h = refl
lane_waits L share lane (serving n) k h = refl

pub lane_none : (L share : ℕ) (lane : List Record) (s : Stand) → StandOk L share lane s → length lane ≡ 0 → in_line s ≡ false
unfolding StandOk
lane_none L share lane out k h = refl
lane_none L share lane (queued r) k h = absurd (omega (arith, k.0))
lane_none L share lane (serving n) k h = absurd (omega (arith, k.0))

pub front_waits : (b : Board) (x : Single) (p : ℕ) → Good b → ToFront b x p → in_line (at (step b x).next p).stand ≡ true
front_waits b x p g f =
    lane_waits nb.largest (at nb p).share (at nb p).lane (at nb p).stand ((keeps_step b x g).good.fine.shape.place_ok p).stand_ok f.0
  where
    nb : Board
    nb = (step b x).next

pub bound_good : (b : Board) (x : Single) (after : List Single) (p : ℕ) → Good b → ToFront b x p → UnsentAt p (step b x).next after
    → sent_bytes (step b x).next after ≤ most_ahead (step b x).next.largest (block_class (at (step b x).next p))
bound_good b x after p g f u = omega (arith, run_phi nb after p k.good w u, k.comes p w (came f.1))
  where
    nb : Board
    nb = (step b x).next

    k : Keeps b (step b x)
    k = keeps_step b x g

    w : in_line (at nb p).stand ≡ true
    w = front_waits b x p g f

    came : (length (at b p).lane ≡ 0) ⊎ (from_place p (step b x).out ≡ true) → (in_line (at b p).stand ≡ false) ⊎ (from_place p (step b x).out ≡ true)
    came (inl e) = inl (lane_none b.largest (at b p).share (at b p).lane (at b p).stand (g.fine.shape.place_ok p).stand_ok e)
    came (inr e) = inr e
