-- What is written, from piece to piece. Assumes nothing.
use Rattle.std.proofs.Common.{◌≡◌, refl, sym, ap, subst, ◌∙◌, Bool, true, false, Option, None, Some, List, [], ◌++◌, append_assoc}
use Rattle.std.proofs.Common.{ℕ, suc, ◌-◌, ◌^◌, ◌<◌, ◌≤◌, arith, length, take, drop}
use Rattle.std.proofs.lemmas.Bool.{true≢false}
use Rattle.std.proofs.lemmas.List.{append-nil, length-drop}
use Rattle.std.proofs.Math.Seq.{take-length}
use Rattle.std.specs.Io.KnownBytes.{Appends, Consumes, IsAtEnd}
use Rattle.log_input.specs.Telling.{TellsWhole, TellsOn, TellsPart}

-- ---- What a writer holds

pub appends_nothing : (known : Option (List ℕ)) → Appends known known []
appends_nothing None = tt
appends_nothing (Some held) = sym (append-nil held)

pub appends_on : (a b c : Option (List ℕ)) (one two : List ℕ) → Appends a b one → Appends b c two → Appends a c (one ++ two)
appends_on None b c one two p q = tt
appends_on (Some x) None c one two p q = absurd p
appends_on (Some x) (Some y) None one two p q = absurd q
appends_on (Some x) (Some y) (Some z) one two p q = q ∙ ap (λ (t : List ℕ). t ++ two) p ∙ append_assoc x one two

-- the rest of a fragment, as it is lent from an index on
pub rest_from : (i : ℕ) (xs : List ℕ) → take (length xs - i) (drop i xs) ≡ drop i xs
rest_from i xs = ap (λ (n : ℕ). take n (drop i xs)) (sym (length-drop i xs)) ∙ take-length (drop i xs)

module _ {S : Type 0} (rest : S → List ℕ → List ℕ) where
  -- ---- A fragment

  pub part_none : (known : Option (List ℕ)) (s : S) (fragment : List ℕ) → TellsPart rest known known s s fragment fragment
  part_none known s fragment = record { text = []; written = appends_nothing known; joined = λ later. refl }

  module _ (a b : Option (List ℕ)) (from to : S) (came left : List ℕ) (p : TellsPart rest a b from to came left) where
    -- another piece of it
    pub part_on : (c : Option (List ℕ)) (text left' : List ℕ) (after : S)
        → ((later : List ℕ) → text ++ rest after (left' ++ later) ≡ rest to (left ++ later))
        → Appends b c text → TellsPart rest a c from after came left'
    part_on c text left' after joined w = record {
      text = p.text ++ text;
      written = appends_on a b c p.text text p.written w;
      joined = λ later.
          append_assoc p.text text (rest after (left' ++ later))
          ∙ ap (λ (t : List ℕ). p.text ++ t) (joined later)
          ∙ p.joined later;
    }

    -- nothing is told of what follows where all is told
    pub part_over : ((later : List ℕ) → rest to later ≡ []) → TellsPart rest a b from to came []
    part_over over = record {
      text = p.text;
      written = p.written;
      joined = λ later. ap (λ (t : List ℕ). p.text ++ t) (over later ∙ sym (over (left ++ later))) ∙ p.joined later;
    }

  -- ---- A log

  pub on_none : (left known : Option (List ℕ)) (s : S) → TellsOn rest left left known known s s
  on_none None known s = tt
  on_none (Some left) known s = ([], (appends_nothing known, refl))

  pub on_join : (left left' left'' a b c : Option (List ℕ)) (s s' s'' : S) → TellsOn rest left left' a b s s' → TellsOn rest left' left'' b c s' s''
      → TellsOn rest left left'' a c s s''
  on_join None left' left'' a b c s s' s'' p q = tt
  on_join (Some left) None left'' a b c s s' s'' p q = absurd p
  on_join (Some left) (Some left') None a b c s s' s'' p q = absurd q
  on_join (Some left) (Some left') (Some left'') a b c s s' s'' p q = (
    p.0 ++ q.0,
    (
      appends_on a b c p.0 q.0 p.1.0 q.1.0,
      append_assoc p.0 q.0 (rest s'' left'') ∙ ap (λ (t : List ℕ). p.0 ++ t) q.1.1 ∙ p.1.1,
    ),
  )

  -- a fragment that was read
  pub on_part : (left left' a b : Option (List ℕ)) (s s' : S) (came : List ℕ) → Consumes left left' came → TellsPart rest a b s s' came []
      → TellsOn rest left left' a b s s'
  on_part None left' a b s s' came r p = tt
  on_part (Some left) None a b s s' came r p = absurd r
  on_part (Some left) (Some left') a b s s' came r p = (p.text, (p.written, p.joined left' ∙ ap (rest s) (sym r)))

  -- the end
  pub on_end : (left left' a b : Option (List ℕ)) (s s' : S) (text : List ℕ) → Consumes left left' [] → IsAtEnd left' → Appends a b text
      → text ++ rest s' [] ≡ rest s [] → TellsOn rest left left' a b s s'
  on_end None left' a b s s' text r e w joined = tt
  on_end (Some left) None a b s s' text r e w joined = absurd r
  on_end (Some left) (Some left') a b s s' text r e w joined =
      (text, (w, ap (λ (t : List ℕ). text ++ rest s' t) e ∙ joined ∙ ap (rest s) (sym (r ∙ e))))

  -- all is told
  pub on_over : (whole : List ℕ → List ℕ) (log left a b : Option (List ℕ)) (s s' : S) → ((bytes : List ℕ) → rest s bytes ≡ whole bytes)
      → ((later : List ℕ) → rest s' later ≡ []) → TellsOn rest log left a b s s' → TellsWhole whole log a b
  on_over whole None left a b s s' is over p = tt
  on_over whole (Some log) None a b s s' is over p = absurd p
  on_over whole (Some log) (Some left) a b s s' is over p =
      subst (λ (t : List ℕ). Appends a b t) (sym (append-nil p.0) ∙ ap (λ (t : List ℕ). p.0 ++ t) (sym (over left)) ∙ p.1.1 ∙ is log) p.1.0

-- ---- That it ends

-- how many bytes can still come, by the offset of the next one, and one more for the end
abbrev pub bytes_left : (over : Bool) (offset : ℕ) → ℕ
bytes_left true offset = 0
bytes_left false offset = suc (2 ^ 48) - offset

pub bytes_fall : (over over' : Bool) (offset offset' : ℕ) → over ≡ false → offset ≤ 2 ^ 48 → (over' ≡ false → offset < offset')
    → bytes_left over' offset' < bytes_left over offset
bytes_fall true over' offset offset' e low on = absurd (true≢false e)
bytes_fall false true offset offset' e low on = omega arith
bytes_fall false false offset offset' e low on = let more = on refl in omega arith
