-- WHICH FAILURE IS A REFUSAL: of the reasons why a log has no whole report, the one that the report itself gives. The
-- others are a read's and a write's.
use Rattle.std.specs.Prelude.{◌≡◌, Bool, true, false, Result, IfErr}
use Rattle.report_output.specs.declared.Failure.{Failure}
use Rattle.report_output.specs.declared.Failure.TheVariants.{Unread, Unwritten, Refused}

abbrev pub by_refusal : Failure → Bool
by_refusal (Unread _) = false
by_refusal (Unwritten _) = false
by_refusal (Refused _) = true

-- Whatever fails, no call was refused.
abbrev pub Unrefused : {A : Type 0} → Result A Failure → Type 0
Unrefused result = IfErr result (λ failure. by_refusal failure ≡ false)
