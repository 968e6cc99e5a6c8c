-- WHAT IS WRITTEN OF A LOG AS IT COMES, where it is known which bytes are read and which are written. As in the crate
-- fragments, S is what stands in memory, and `rest s later` is what is still to be written if these bytes follow and
-- the log then ends.
use Rattle.std.specs.Prelude.{◌≡◌, Option, None, Some, List, ◌++◌, ℕ, ⊤}
use Rattle.std.specs.Io.KnownBytes.{Appends}

-- What is written grows by what there is to tell of the log.
abbrev pub TellsWhole : (whole : List ℕ → List ℕ) (log before after : Option (List ℕ)) → Type 0
TellsWhole whole None before after = ⊤
TellsWhole whole (Some log) before after = Appends before after (whole log)

-- What is written grows by what was still to be written of the bytes that were left to read, and is not to be written
-- of those that now are.
abbrev pub TellsOn : {S : Type 0} (rest : S → List ℕ → List ℕ) (left left' before after : Option (List ℕ)) (from to : S)
    → Type 0
TellsOn rest None left' before after from to = ⊤
TellsOn rest (Some left) None before after from to = ⊥
TellsOn rest (Some left) (Some left') before after from to =
    (text : List ℕ) × (Appends before after text × (text ++ rest to left' ≡ rest from left))

-- The same of the bytes of a fragment, whatever follows them.
pub record TellsPart {S : Type 0} (rest : S → List ℕ → List ℕ) (before after : Option (List ℕ)) (from to : S)
    (came left : List ℕ)
    : Type 0 where
  pub text : List ℕ
  pub written : Appends before after text
  pub joined : (later : List ℕ) → text ++ rest to (left ++ later) ≡ rest from (came ++ later)
