-- A serve on a value that is known to be good: what the code asks of its arrays holds, and what it answers goes by cases.
use Rattle.std.specs.Prelude.{Result, Ok, Err}
use mathlib.Core.Path.{◌≡◌, refl, sym, ap, subst, ◌∙◌}
use mathlib.Core.Logic.{◌⊎◌, inl, inr}
use mathlib.Core.List.{List}
use Prim.Native.Nat.{ℕ}
use lib.ListN.{length}
use Rattle.rules.specs.Board
use Rattle.rules.specs.Choice.{Out, refused, serve}
use Rattle.board.specs.declared.Board as struct
use Rattle.board.specs.Reading.{encode, view, Holds}
use Rattle.board.specs.Memory.{engine_of, with_engine}
use Rattle.board.specs.Leaving.{Known}
use Rattle.board.proofs.Reading.{Fit}
use Rattle.board.proofs.Sound.{sound_encode, fit_view, holds_view}
use Rattle.numbers.specs.declared.refusal.Refusal.{Refusal}
use Rattle.numbers.proofs.Refusals.{refusal_not_done}
use Rattle.serving.specs.declared.Served.{Served}
use Rattle.serving.specs.Serving.{Within, engine_after, within_in, served_within, CanServe}
use Rattle.serving.proofs.Serves.{ByAnswer, serve_by_lem, can_serve}
use Rattle.serving.proofs.Within.{fit_serve, Stops, SendsOne, within_by}

-- the engine's answer on a value
abbrev pub within : struct.Board → List ℕ → ℕ → ℕ → Within
within b lens bytes room = served_within b.shares lens b.largest bytes room (engine_of b)

-- a board of the rules, written, is known to be good
pub known_encode : (n : Board.Board) (ids lens : List ℕ) → Fit n → Holds n ids lens → length ids ≡ 2048 → length lens ≡ 2048 → Known (encode n) ids lens
known_encode n ids lens fit holds a d = record { sound = sound_encode n ids lens fit holds; ids_all = a; lens_all = d }

module _ (b : struct.Board) (ids lens : List ℕ) (known : Known b ids lens) where
  abbrev m : Board.Board
  m = view b ids lens

  pub spells : encode (view b ids lens) ≡ b
  spells = known.sound.spells

  pub fit : Fit (view b ids lens)
  fit = fit_view b ids lens known.sound

  pub holds : Holds (view b ids lens) ids lens
  holds = holds_view b ids lens known.sound

  -- what the engine asks
  pub can_known : CanServe b.shares lens b.largest (engine_of b)
  can_known = subst (λ (c : struct.Board). CanServe c.shares lens c.largest (engine_of c)) spells (can_serve m fit ids lens holds known.lens_all)

  pub by_cases : (bytes room : ℕ) (w : Within) → w ≡ within b lens bytes room → Stops m bytes room w ⊎ SendsOne m ids lens bytes room w
  by_cases bytes room w e =
      subst (λ (x : Within). Stops m bytes room x ⊎ SendsOne m ids lens bytes room x) (ap (λ (c : struct.Board). within c lens bytes room) spells ∙ sym e)
      (within_by m fit ids lens holds bytes room)

  pub after_is : (w : Within) → with_engine (encode m) (engine_after w) ≡ encode (serve m).next → with_engine b (engine_after w) ≡ encode (serve m).next
  after_is w e = ap (λ (c : struct.Board). with_engine c (engine_after w)) (sym spells) ∙ e

  pub known_next : Holds (serve m).next ids lens → Known (encode (serve m).next) ids lens
  known_next h = known_encode (serve m).next ids lens (fit_serve m fit) h known.ids_all known.lens_all

  -- a refused serve leaves the board as it was
  pub refused_stays : (code : ℕ) → (serve m).out ≡ refused code → (serve m).next ≡ m
  unfolding ByAnswer
  refused_stays code e = (subst (λ (o : Out). ByAnswer m ids lens o (serve m).next) e (serve_by_lem m fit ids lens holds)).stays

  -- ---- What came of a serve on the board itself: w is `within_in outcome left`
  module _ (left : struct.Board) (bytes room : ℕ) where
    -- a record was sent
    pub sent_in : (served : Served) → within_in (Ok served) left ≡ within b lens bytes room → SendsOne m ids lens bytes room (within_in (Ok served) left)
    sent_in served e = go (by_cases bytes room (within_in (Ok served) left) e)
      where
        go : Stops m bytes room (within_in (Ok served) left) ⊎ SendsOne m ids lens bytes room (within_in (Ok served) left)
            → SendsOne m ids lens bytes room (within_in (Ok served) left)
        go (inl s) = absurd (s.code refl)
        go (inr g) = g

    -- none was
    pub stops_in : (refusal : Refusal) → within_in (Err refusal) left ≡ within b lens bytes room → Stops m bytes room (within_in (Err refusal) left)
    stops_in refusal e = go (by_cases bytes room (within_in (Err refusal) left) e)
      where
        go : Stops m bytes room (within_in (Err refusal) left) ⊎ SendsOne m ids lens bytes room (within_in (Err refusal) left)
            → Stops m bytes room (within_in (Err refusal) left)
        go (inl s) = s
        go (inr g) = absurd (refusal_not_done refusal g.code)

    -- the board after a record was sent
    pub sent_left : (outcome : Result Served Refusal) → left ≡ with_engine b (engine_of left) → SendsOne m ids lens bytes room (within_in outcome left)
        → left ≡ encode (serve m).next
    sent_left outcome rest g = rest ∙ after_is (within_in outcome left) g.next

    -- a serve that stops leaves the board as it was
    pub stops_left : (outcome : Result Served Refusal) → left ≡ with_engine b (engine_of left) → Stops m bytes room (within_in outcome left) → left ≡ b
    stops_left outcome rest s =
        rest ∙ ap (λ (w : Within). with_engine b (engine_after w)) s.same ∙ ap (λ (c : struct.Board). with_engine b (engine_of c)) spells
