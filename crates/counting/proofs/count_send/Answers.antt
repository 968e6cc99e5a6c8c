-- `counting::count_send` meets its contract: where no slot began nothing is added to the credit, which is at most 2^62;
-- where the sum is above it nothing is added, else each sum is stored (send_stops, send_goes). Assumes nothing.
use mathlib.Core.Path.{◌≡◌, sym, ap, ◌∙◌}
use mathlib.Core.Bool.{cond, ◌||◌}
use Prim.Native.Nat.{◌+◌}
use lib.ListN.{get_or}
use Rattle.std.proofs.Math.Bool.{or-true, or-false}
use Rattle.counting.specs.Counting.{zero_account}
use Rattle.counting.specs.Steps.{Tallied}
use Rattle.counting.proofs.Accounts.{send_stops, send_goes}
use Rattle.counting.proofs.count_send.Goals.{then-began, else-began}
use Rattle.counting.proofs.count_send.Goals as goal

pub returns-then-given-gt-GREATEST_CREDIT-clause-added : goal.returns-then-given-gt-GREATEST_CREDIT-clause-added
returns-then-given-gt-GREATEST_CREDIT-clause-added c =
    let a = (get_or c.args.c.now.accounts c.args.place zero_account).credit.0 in
    let e : c.if-began.given ≡ cond c.args.began (a + c.args.credit.0) a =
    elim c.if-began.branch [ then-began w ↦ rw w.if-began.true w.given-is | else-began w ↦ rw w.if-began.false w.given-is ] in
    sym (ap (λ (x : Tallied). x.tallies) (send_stops c.args.c.now _ _ _ _ _ c.requires _ e c.if-given-gt-GREATEST_CREDIT.true))

pub returns-then-given-gt-GREATEST_CREDIT-clause-stopped : goal.returns-then-given-gt-GREATEST_CREDIT-clause-stopped
returns-then-given-gt-GREATEST_CREDIT-clause-stopped c =
    let a = (get_or c.args.c.now.accounts c.args.place zero_account).credit.0 in
    let e : c.if-began.given ≡ cond c.args.began (a + c.args.credit.0) a =
    elim c.if-began.branch [ then-began w ↦ rw w.if-began.true w.given-is | else-began w ↦ rw w.if-began.false w.given-is ] in
    sym (ap (λ (x : Tallied). c.args.c.now.full || x.stops) (send_stops c.args.c.now _ _ _ _ _ c.requires _ e c.if-given-gt-GREATEST_CREDIT.true)
    ∙ or-true c.args.c.now.full)

pub returns-clause-added : goal.returns-clause-added
returns-clause-added c =
    let a = (get_or c.args.c.now.accounts c.args.place zero_account).credit.0 in
    let e : c.if-began.given ≡ cond c.args.began (a + c.args.credit.0) a =
    elim c.if-began.branch [ then-began w ↦ rw w.if-began.true w.given-is | else-began w ↦ rw w.if-began.false w.given-is ] in
    sym (ap (λ (x : Tallied). x.tallies) (send_goes c.args.c.now _ _ _ _ _ c.requires _ e _ c.from.ensures c.if-given-gt-GREATEST_CREDIT.false))

pub returns-clause-stopped : goal.returns-clause-stopped
returns-clause-stopped c =
    let a = (get_or c.args.c.now.accounts c.args.place zero_account).credit.0 in
    let e : c.if-began.given ≡ cond c.args.began (a + c.args.credit.0) a =
    elim c.if-began.branch [ then-began w ↦ rw w.if-began.true w.given-is | else-began w ↦ rw w.if-began.false w.given-is ] in
    sym (ap (λ (x : Tallied). c.args.c.now.full || x.stops)
    (send_goes c.args.c.now _ _ _ _ _ c.requires _ e _ c.from.ensures c.if-given-gt-GREATEST_CREDIT.false) ∙ or-false c.args.c.now.full)
