-- What a call does that is not refused, by what it answers. Assumes nothing.
use Rattle.std.proofs.Common.{◌≡◌, subst, ◌∙◌, List, ℕ, Result, Ok}
use Rattle.numbers.specs.declared.refusal.Refusal.{Refusal}
use Rattle.operands.specs.declared.Fed.{Fed}
use Rattle.player.specs.declared.State.{State}
use Rattle.player.specs.Feeding.{feed_code, piece, piece_in, FeedDone, FeedOf, CloseDone, CloseOf}
use Rattle.player.proofs.Ends.{feed_next}

pub fed_done : (s : State) (ids lens fragment out : List ℕ) (r : Result Fed Refusal) (fed : Fed) (s' : State) (ids' lens' out' : List ℕ)
    → FeedOf s ids lens fragment out (piece_in r s') ids' lens' out' → r ≡ Ok fed → feed_code s ids lens ≡ 0
    → FeedDone s ids lens fragment out (piece fed s') ids' lens' out'
fed_done s ids lens fragment out r fed s' ids' lens' out' p e z =
    feed_next s ids lens fragment out (piece fed s') ids' lens' out'
    (subst (λ (x : Result Fed Refusal). FeedOf s ids lens fragment out (piece_in x s') ids' lens' out') e p) z

pub closed_done : (s : State) (ids lens out : List ℕ) (r : Result Fed Refusal) (fed : Fed) (s' : State) (out' : List ℕ)
    → CloseOf s ids lens out (piece_in r s') out' → r ≡ Ok fed → feed_code s ids lens ≡ 0 → CloseDone s ids lens out (piece fed s') out'
closed_done s ids lens out r fed s' out' p e z =
    let q = subst (λ (x : Result Fed Refusal). CloseOf s ids lens out (piece_in x s') out') e p in q.done (q.code ∙ z)
