-- What a reader is behind a part of a log, and what the part brings. Assumes nothing.
use mathlib.Core.Path.{◌≡◌, refl, sym, ap, subst, ◌∙◌}
use mathlib.Core.List.{List}
use Prim.Native.Nat.{ℕ, ◌+◌, ◌-◌, ◌≤◌, ◌<◌}
use native.Mathlib.Omega.{arith}
use lib.ListN.{length}
use Rattle.std.specs.Prelude.{Option, None, Some, Ok}
use Rattle.log_bytes.specs.declared.Event.{Event}
use Rattle.fragments.specs.declared.Reader.{Reader}
use Rattle.fragments.specs.declared.Read.{Read}
use Rattle.fragments.specs.Reading.{GoesOnWith, KeptOn, ReadOn}
use Rattle.fragments.specs.Readers.{cut_at, at_next, next_by, next_told, after_by, after_read}

module _ (was : Reader) (part : List ℕ) (read : Read) (now : Reader)
    (told : ReadOn was.at was.stage was.kept was.came part (next_told (Ok read) was.came) now.kept) (after : now ≡ after_read (Ok read) was now.kept) where
  abbrev size : ℕ
  size = was.came + read.taken

  -- the field is whole with it
  pub read_whole : (e : Event) → read.event ≡ Some e → GoesOnWith was.at was.stage was.kept was.came part e (was.came + read.taken)
  read_whole e q = told.goes e size (ap (λ (x : Option Event). next_by x size) q)

  -- or it is not finished
  read_none : read.event ≡ None → KeptOn was.at was.stage was.kept was.came part (was.came + read.taken) now.kept
  read_none q = told.more size (ap (λ (x : Option Event). next_by x size) q)

  none_is : ((e : Event) → read.event ≡ Some e → ⊥) → read.event ≡ None
  none_is never = go read.event refl
    where
      go : (x : Option Event) → read.event ≡ x → read.event ≡ None
      go None q = q
      go (Some e) q = absurd (never e q)

  pub read_part : ((e : Event) → read.event ≡ Some e → ⊥) → KeptOn was.at was.stage was.kept was.came part (was.came + read.taken) now.kept
  read_part never = read_none (none_is never)

  -- either way some of the part is taken, and no more than there is
  pub read_moves : (0 < read.taken) × (read.taken ≤ length part)
  read_moves = go read.event refl
    where
      go : (x : Option Event) → read.event ≡ x → (0 < read.taken) × (read.taken ≤ length part)
      go None q = let k = read_none q in (omega (arith, k.moves), omega (arith, k.ends))
      go (Some e) q = let g = read_whole e q in (omega (arith, g.begins), omega (arith, g.ends))

  more_is : size - was.came ≡ read.taken
  more_is = omega (arith)

  -- what holds of the reader that stands behind it, and of so many bytes, holds of this one
  pub whole_now : (P : Reader → ℕ → Type 0) (e : Event) → read.event ≡ Some e
      → P (at_next was e (was.came + read.taken) now.kept) (was.came + read.taken - was.came) → P now read.taken
  whole_now P e q p =
      subst (λ (r : Reader). P r read.taken) (sym (after ∙ ap (λ (x : Option Event). after_by x size was now.kept) q))
      (subst (P (at_next was e size now.kept)) more_is p)

  pub part_now : (P : Reader → ℕ → Type 0) → ((e : Event) → read.event ≡ Some e → ⊥)
      → P (cut_at was (was.came + read.taken) now.kept) (was.came + read.taken - was.came) → P now read.taken
  part_now P never p =
      subst (λ (r : Reader). P r read.taken) (sym (after ∙ ap (λ (x : Option Event). after_by x size was now.kept) (none_is never)))
      (subst (P (cut_at was size now.kept)) more_is p)
