-- What a call does that is not refused, by what it answers; and that the calls at a log's end come to an end. Assumes
-- nothing.
use Rattle.std.proofs.Common.{◌≡◌, refl, sym, subst, Bool, true, false, ◌⊎◌, inl, inr, List, ℕ, suc, ◌-◌, ◌^◌, ◌≤◌, ◌<◌, arith, Result, Ok}
use Rattle.std.proofs.lemmas.Bool.{true≢false}
use Rattle.numbers.specs.declared.refusal.Refusal.{Refusal}
use Rattle.operands.specs.declared.Fed.{Fed}
use Rattle.report_play.specs.declared.State.{State}
use Rattle.report_play.specs.Playing.{offset_of}
use Rattle.reporting.proofs.Feeding.{feed_low}
use Rattle.reporting.specs.Feeding.{piece, piece_in, FeedDone, FeedOf, CloseDone, CloseOf}

pub fed_done : (s : State) (ids lens fragment out : List ℕ) (r : Result Fed Refusal) (fed : Fed) (s' : State) (ids' lens' out' : List ℕ)
    → FeedOf s ids lens fragment out (piece_in r s') ids' lens' out' → r ≡ Ok fed → FeedDone s ids lens fragment out (piece fed s') ids' lens' out'
fed_done s ids lens fragment out r fed s' ids' lens' out' p e =
    (subst (λ (x : Result Fed Refusal). FeedOf s ids lens fragment out (piece_in x s') ids' lens' out') e p).done refl

pub fed_low : (s : State) (ids lens fragment out : List ℕ) (r : Result Fed Refusal) (fed : Fed) (s' : State) (ids' lens' out' : List ℕ)
    → FeedOf s ids lens fragment out (piece_in r s') ids' lens' out' → r ≡ Ok fed → s'.over ≡ false → offset_of s' ≤ 2 ^ 48
fed_low s ids lens fragment out r fed s' ids' lens' out' p e over =
    feed_low s ids lens fragment out (piece fed s') ids' lens' out'
    (subst (λ (x : Result Fed Refusal). FeedOf s ids lens fragment out (piece_in x s') ids' lens' out') e p) refl over

pub closed_done : (s : State) (ids lens out : List ℕ) (r : Result Fed Refusal) (fed : Fed) (s' : State) (out' : List ℕ)
    → CloseOf s ids lens out (piece_in r s') out' → r ≡ Ok fed → CloseDone s ids lens out (piece fed s') out'
closed_done s ids lens out r fed s' out' p e =
    (subst (λ (x : Result Fed Refusal). CloseOf s ids lens out (piece_in x s') out') e p).done refl

-- how many places are still to be shown, and one more for the end
abbrev pub places_left : (over : Bool) (shown : ℕ) → ℕ
places_left true shown = 0
places_left false shown = suc (64 - shown)

pub places_fall : (over over' : Bool) (shown shown' : ℕ) → over ≡ false → (over' ≡ true) ⊎ ((shown < shown') × (shown' ≤ 64))
    → places_left over' shown' < places_left over shown
places_fall true over' shown shown' e on = absurd (true≢false e)
places_fall false true shown shown' e on = omega arith
places_fall false false shown shown' e (inl o) = absurd (true≢false (sym o))
places_fall false false shown shown' e (inr on) = omega (arith, on.0, on.1)
