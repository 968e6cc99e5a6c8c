-- THE THEOREMS: one for each proposition of specs/Promises.antt, in its order.
use mathlib.Core.Path.{◌≡◌, refl, sym, ap, subst, ◌∙◌}
use mathlib.Core.Bool.{Bool, true, false, not, true≢false}
use mathlib.Core.Logic.{inl, inr, ◌≢◌}
use mathlib.Core.List.{List, [], ◌∷◌, ◌++◌}
use Prim.Native.Nat.{ℕ, ◌*◌, ◌-◌, ◌≤◌, ◌<◌}
use native.Mathlib.Omega.{arith}
use lib.ListN.{length, replicate}
use Rattle.base.proofs.Numbers.{eqb_yes}
use Rattle.rules.specs.Board.{Board, at, Seventeen, fresh}
use Rattle.rules.specs.Choice.{send}
use Rattle.rules.specs.Burst.{burst}
use Rattle.rules.specs.Spoilt.{spoilt, unspoilt}
use Rattle.rules.specs.Calls.{Single, step, Call, one, burst!, told, code_of, done!, serve! }
use Rattle.rules.specs.Runs.{play, singles, leaves, runs, row, bytes_in, serves_in, slot_bytes, class_at}
use Rattle.rules.specs.Promises.{OfRun, RunIsRow, RefusalKeeps, BurstRefusalKeeps, RefusedMaking, StaysUnspoilt, NeverSpoilt, Conserved, ByteBound}
use Rattle.rules.specs.Promises.{SentInTime, ServesSend, SlotOnce, NeverTwice, BurstIsServes, DeficitsSmall, SlotsSmall, JumpIsStart, HeldAreClosings}
use Rattle.rules.specs.Promises.{ServeRefusals, SendsTell, bound}
use Rattle.rules.proofs.Turns.{Good, most}
use Rattle.rules.proofs.Run.{good_fresh, good_play}
use Rattle.rules.proofs.Tidy.{Tidy}
use Rattle.rules.proofs.Frame.{seventeen_fresh, seventeen_step, seventeen_play, size_step, size_play}
use Rattle.rules.proofs.Spoilt.{unspoilt_tidy, tidy_unspoilt}
use Rattle.rules.proofs.Unspoilt.{tidy_fresh, tidy_play, unspoilt_step, unspoilt_burst}
use Rattle.rules.proofs.Jump.{unspoilt_least_ready}
use Rattle.rules.proofs.Cases.{Refusal, refusal_not2, refusal_not3, call_cases}
use Rattle.rules.proofs.Refusals.{refusal_keeps, burst_refusal_keeps, refused_making_lem, call_done, burst_codes, stop_else}
use Rattle.rules.proofs.Burst.{burst_serves}
use Rattle.rules.proofs.Stories.{conserved}
use Rattle.rules.proofs.Bounds.{bytes_bound, serves_bound}
use Rattle.rules.proofs.Intervals.{slots_once, slots_twice}
use Rattle.rules.proofs.Waiting.{serve_sends, serve_refusals}
use Rattle.rules.proofs.Sendings.{sends_tell}
use Rattle.rules.proofs.SlotBytes.{slot_bytes_lem}
use Rattle.rules.proofs.Holds.{held_row, held_fresh}
use Rattle.units.specs.Credit.{largest_charge}

-- ---- boards of a run

tidy : (L : ℕ) (b : Board) → OfRun L b → Tidy b
tidy L b r = rw r.is (tidy_play (fresh L) r.calls (tidy_fresh L r.size.low r.size.high))

good : (L : ℕ) (b : Board) → OfRun L b → Good b
good L b r = rw r.is (good_play (fresh L) r.calls (good_fresh L r.size.low r.size.high))

seventeen : (L : ℕ) (b : Board) → OfRun L b → Seventeen b
seventeen L b r = rw r.is (seventeen_play (fresh L) r.calls (seventeen_fresh L))

largest_fresh : (L : ℕ) → (fresh L).largest ≡ L
unfolding fresh
largest_fresh L = refl

size : (L : ℕ) (b : Board) → OfRun L b → b.largest ≡ L
size L b r = ap (λ (z : Board). z.largest) r.is ∙ size_play (fresh L) r.calls ∙ largest_fresh L

not_not : (t : Bool) → not t ≡ false → t ≡ true
not_not true e = refl
not_not false e = absurd (true≢false e)

unspoilt_not : (b : Board) → spoilt b ≡ false → unspoilt b ≡ true
unspoilt_not b e = not_not (unspoilt b) e

spoilt_not : (b : Board) → unspoilt b ≡ true → spoilt b ≡ false
spoilt_not b e = ap not e

-- ---- runs

pub play_join : (b : Board) (xs ys : List Single) → play (play b xs) ys ≡ play b (xs ++ ys)
unfolding play
play_join b [] ys = refl
play_join b (x ∷ xs) ys = play_join (step b x).next xs ys

leaves_row : (b : Board) (c : Call) → leaves b c ≡ play b (singles b c)
unfolding play
leaves_row b (one x) = refl
leaves_row b (burst! bytes list) = (burst_serves b bytes (length list)).next

pub run_is_row : RunIsRow
unfolding runs row play
run_is_row b [] = refl
run_is_row b (c ∷ cs) =
    run_is_row (leaves b c) cs ∙ ap (λ (z : Board). play z (row (leaves b c) cs)) (leaves_row b c) ∙ play_join b (singles b c) (row (leaves b c) cs)

-- ---- demand 1

pub refusal_keeps_all : RefusalKeeps
refusal_keeps_all = refusal_keeps

pub burst_refusal_keeps_all : BurstRefusalKeeps
burst_refusal_keeps_all = burst_refusal_keeps

pub refused_making_keeps : RefusedMaking
refused_making_keeps = refused_making_lem

pub stays_unspoilt : StaysUnspoilt
stays_unspoilt b (one x) h e = (spoilt_not (step b x).next (unspoilt_step b x h (unspoilt_not b e)), seventeen_step b x h)
stays_unspoilt b (burst! bytes list) h e = (
  spoilt_not (burst b bytes (length list)).next (unspoilt_burst b bytes (length list) h (unspoilt_not b e)),
  rw (burst_serves b bytes (length list)).next (seventeen_play b (replicate (burst b bytes (length list)).count serve!) h),
)

-- the codes of a call on a board of a run
codes : (b : Board) → Tidy b → (c : Call) → (code_of (done! b c).answer ≢ 3) × (code_of (done! b c).answer ≢ 2)
unfolding send
codes b g (burst! bytes list) = (
  λ e. stop_else (burst b bytes (length list)).code (burst_codes b bytes (length list)) (inl e),
  λ e. stop_else (burst b bytes (length list)).code (burst_codes b bytes (length list)) (inr e),
)
codes b g (one x) =
    call_cases b g (λ x u. (code_of (told b u.out) ≢ 3) × (code_of (told b u.out) ≢ 2))
    (record {
      refused = refusal;
      opens = λ o c. done0;
      renames = λ p old new c. done0;
      closes = λ p n c. done0;
      takes = λ p n r c. done0;
      goes_on = λ p c. done0;
      begins = λ r t p c e. done0;
    }) x
  where
    done0 : ((◌≡◌ {A = ℕ} 0 3) → ⊥) × ((◌≡◌ {A = ℕ} 0 2) → ⊥)
    done0 = (λ e. omega arith, λ e. omega arith)

    refusal : (x : Single) (code : ℕ) → Refusal code → (code ≢ 3) × (code ≢ 2)
    refusal x code r = (λ e. true≢false (sym (eqb_yes code 3 e) ∙ refusal_not3 code r), λ e. true≢false (sym (eqb_yes code 2 e) ∙ refusal_not2 code r))

pub never_spoilt : NeverSpoilt
never_spoilt L b r = (whole, λ c. record { does = call_done b c whole; not3 = (codes b (tidy L b r) c).0; not2 = (codes b (tidy L b r) c).1 })
  where
    whole : spoilt b ≡ false
    whole = spoilt_not b (tidy_unspoilt b (tidy L b r))

-- ---- demand 2

pub conserved_all : Conserved
conserved_all L b r o after e = conserved b (tidy L b r) o after e

-- ---- demand 3

largest_next : (L : ℕ) (b : Board) (x : Single) → OfRun L b → (step b x).next.largest ≡ L
largest_next L b x r = size_step b x ∙ size L b r

pub byte_bound : ByteBound
byte_bound L b r n x after c u =
    subst (λ (z : ℕ). bytes_in (step b x).next after ≤ bound z (class_at (step b x).next n)) (largest_next L b x r)
    (bytes_bound b n x after (tidy L b r) (good L b r) c u)

pub sent_in_time : SentInTime
sent_in_time L b r n x after c u s =
    subst (λ (z : ℕ). serves_in after ≤ bound z (class_at (step b x).next n)) (largest_next L b x r) (serves_bound b n x after (tidy L b r) (good L b r) c u s)

pub serves_send : ServesSend
serves_send L b r w = serve_sends b (tidy L b r) w

pub slot_once : SlotOnce
slot_once L b r n lo x after w e = slots_once b n lo x after (tidy L b r) (good L b r) w e

pub never_twice : NeverTwice
never_twice L b r n p lo after f m = slots_twice b n p lo after (tidy L b r) (good L b r) f m

-- ---- bursts

pub burst_is_serves : BurstIsServes
burst_is_serves = burst_serves

-- ---- boards of a run on the way

pub deficits_small : DeficitsSmall
deficits_small L b r p = subst (λ (z : ℕ). (at b p).deficit < largest_charge z * 65536) (size L b r) ((tidy L b r).shape.place_ok p).owed

pub slots_small : SlotsSmall
unfolding most
slots_small L b r t after = subst (λ (z : ℕ). slot_bytes t b after ≤ 3 * largest_charge z - 1) (size L b r) (slot_bytes_lem t b after (tidy L b r))

pub jump_is_start : JumpIsStart
jump_is_start b h e = unspoilt_least_ready b h (unspoilt_not b e)

pub held_are_closings : HeldAreClosings
held_are_closings L i xs k = held_row (fresh L) [] xs (tidy_fresh L i.low i.high) (held_fresh L) k

pub serve_refusals_exact : ServeRefusals
serve_refusals_exact b h e = serve_refusals b (unspoilt_tidy b h (unspoilt_not b e))

-- ---- what a send tells

pub sends_tell_all : SendsTell
sends_tell_all b h e = sends_tell b (unspoilt_tidy b h (unspoilt_not b e))
