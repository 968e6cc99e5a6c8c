-- A test of the code and a check of the rules that agree: both refuse, or both go on.
use mathlib.Core.Path.{◌≡◌, refl, ap, subst, ◌∙◌}
use mathlib.Core.Bool.{Bool, true, false, cond}
use mathlib.Core.Option.{some}
use mathlib.Core.List.{List, []}
use Prim.Native.Nat.{ℕ}
use Rattle.rules.specs.Board
use Rattle.rules.specs.Choice.{Turn, refuse}
use Rattle.rules.specs.Calls.{Single, one, told, writes, done! }
use Rattle.board.specs.declared.Board as struct
use Rattle.board.specs.Reading.{encode, view}
use Rattle.board.specs.Leaving.{Reply, Returned, written, Known, ruled}

-- what a turn of the rules leaves in memory
abbrev pub turned : struct.Board → List ℕ → List ℕ → Board.Board → Single → Turn → Returned Reply
turned b ids lens m x t = written b ids lens (record { answer = told m t.out; board = some t.next; entries = writes x t.out; list = [] })

pub agrees : {A R : Type 0} (left : A → R) (came : Turn → R) (m : Board.Board) (t holds : Bool) (code : ℕ)
    (stop rest : A) (u : Turn) → t ≡ holds → left stop ≡ came (refuse m code) → (holds ≡ false → left rest ≡ came u)
    → left (cond t stop rest) ≡ came (cond holds (refuse m code) u)
agrees left came m t holds code stop rest u e stopped later = ap (λ (c : Bool). left (cond c stop rest)) e ∙ go holds refl
  where
    go : (c : Bool) → holds ≡ c → left (cond c stop rest) ≡ came (cond c (refuse m code) u)
    go true h = stopped
    go false h = later h

-- a law of what is written for a board holds of a value that is known to be good
pub by_spelling : (b : struct.Board) (ids lens : List ℕ) (k : Known b ids lens) (x : Single) (S : struct.Board → Returned Reply)
    → S (encode (view b ids lens)) ≡ written (encode (view b ids lens)) ids lens (done! (view b ids lens) (one x)) → S b ≡ ruled b ids lens x
unfolding ruled
by_spelling b ids lens k x S law = subst (λ (c : struct.Board). S c ≡ written c ids lens (done! (view b ids lens) (one x))) k.sound.spells law
