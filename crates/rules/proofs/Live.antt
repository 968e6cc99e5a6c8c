-- A serve sends, unless nobody waits or the clock has run out; so a record at the front is sent within a counted number of serves.
use mathlib.Core.Path.{◌≡◌, refl, sym, ap, subst, ◌∙◌}
use mathlib.Core.Bool.{true, false, true≢false, false≢true}
use mathlib.Core.Logic.{◌⊎◌, inl, inr, ◌≢◌}
use mathlib.Core.List.{List, [], ◌∷◌}
use Prim.Native.Nat.{ℕ, ◌-◌, ◌≤◌}
use native.Mathlib.Omega.{arith}
use lib.Dec.{eqb}
use Rattle.base.specs.Sums.{one_if}
use Rattle.rules.specs.Calls.{Single, open!, close!, rename!, record!, serve!, step, code_of, told}
use Rattle.rules.specs.Spoilt.{is_at}
use Rattle.rules.specs.Board.{out, block_class, Board, at}
use Rattle.rules.specs.Choice.{Out, refused, send, serve}
use Rattle.rules.proofs.Shape.{LeastIs, least_is}
use Rattle.rules.proofs.Cases.{Unserved, nobody, late, serve_turns}
use Rattle.rules.proofs.Turns.{Good, in_line, bytes_sent, is_sent, most_ahead, Keeps, waits_not_serving}
use Rattle.rules.proofs.Run.{keeps_step, sent_bytes, UnsentAt, ToFront, bound_good, front_waits}
use Rattle.rules.specs.Runs.{NotSpent, serves_in, answer, is_serve}

pub serve_live : (b : Board) (p : ℕ) → Good b → in_line (at b p).stand ≡ true → ((serve b).out ≡ refused 11) ⊎ (is_sent (serve b).out ≡ true)
unfolding LeastIs send
serve_live b p g w = serve_turns b (λ u. (u.out ≡ refused 11) ⊎ (is_sent u.out ≡ true)) stop (λ q e. inr refl) (λ r m. inr refl)
  where
    stop : (code : ℕ) → Unserved b code → (refused code ≡ refused 11) ⊎ (false ≡ true)
    stop code (nobody e l) =
        let unqueued = subst (LeastIs b.places) l (least_is b.places) p in
        absurd (false≢true (sym unqueued ∙ waits_not_serving (at b p).stand w (g.one p ∙ ap (is_at p) e)))
    stop code (late r e l h) = inl refl

-- while a block waits, a serve that isn't given 11 sends at least a byte
try_one : (b : Board) (x : Single) (p : ℕ) → Good b → in_line (at b p).stand ≡ true → eqb (code_of (answer b x)) 11 ≡ false
    → one_if (is_serve x) ≤ bytes_sent (step b x).out
unfolding step
try_one b (open! o) p g w h = omega arith
try_one b (close! n) p g w h = omega arith
try_one b (rename! n m) p g w h = omega arith
try_one b (record! n x) p g w h = omega arith
try_one b serve! p g w h = go (serve_live b p g w)
  where
    same : step b serve! ≡ serve b
    same = refl

    go : ((serve b).out ≡ refused 11) ⊎ (is_sent (serve b).out ≡ true) → 1 ≤ bytes_sent (step b serve!).out
    go (inl e) = absurd (true≢false (sym (ap (λ (o : Out). eqb (code_of (told b o)) 11) e) ∙ h))
    go (inr e) = (keeps_step b serve! g).some! (rw same e)

pub serves_bytes : (b : Board) (xs : List Single) (p : ℕ) → Good b → in_line (at b p).stand ≡ true → UnsentAt p b xs → NotSpent b xs
    → serves_in xs ≤ sent_bytes b xs
unfolding sent_bytes UnsentAt NotSpent serves_in
serves_bytes b [] p g w u n = omega arith
serves_bytes b (x ∷ xs) p g w u n = omega (arith, try_one b x p g w n.0, serves_bytes (step b x).next xs p k.good (k.stays p w u.0).0 u.1 n.1)
  where
    k : Keeps b (step b x)
    k = keeps_step b x g

-- a record at the front is sent within most_ahead + 1 serves, unless one of them is given 11
pub bound_serves : (b : Board) (x : Single) (after : List Single) (p : ℕ) → Good b → ToFront b x p → UnsentAt p (step b x).next after
    → NotSpent (step b x).next after
    → serves_in after ≤ most_ahead (step b x).next.largest (block_class (at (step b x).next p))
bound_serves b x after p g f u n =
    omega (arith, bound_good b x after p g f u, serves_bytes (step b x).next after p (keeps_step b x g).good (front_waits b x p g f) u n)
