-- `fragments::Reader::read_on` meets its contract. What a part brings is what is known behind it, less what had come.
-- Assumes nothing.
use mathlib.Core.Path.{◌≡◌, refl, ap}
use Prim.Native.Nat.{◌+◌, ◌-◌}
use native.Mathlib.Omega.{arith}
use Rattle.fragments.specs.declared.Reader.{Reader}
use Rattle.fragments.specs.Readers.{cut_at, at_next}
use Rattle.fragments.proofs.Reader.read_on.Goals as goal

pub overflow_sub-result : goal.overflow_sub-result
overflow_sub-result c = omega (arith, (c.in-Unfinished.ensures.read.more _ refl).moves)

pub overflow_add-self : goal.overflow_add-self
overflow_add-self c =
    omega (arith, (c.in-GoesOn.ensures.read.goes _ _ refl).low, ap (λ (r : Reader). r.at) c.in-GoesOn.ensures.rest)

pub overflow_sub-result-in-GoesOn : goal.overflow_sub-result-in-GoesOn
overflow_sub-result-in-GoesOn c = omega (arith, (c.in-GoesOn.ensures.read.goes _ _ refl).begins)

pub returns-in-Unfinished-clause-read : goal.returns-in-Unfinished-clause-read
returns-in-Unfinished-clause-read c =
    let came = c.args.self.now.came in
    let now = c.in-Unfinished.now in
    let e : came + (now - came) ≡ now = omega (arith, (c.in-Unfinished.ensures.read.more _ refl).moves) in
    rw e c.in-Unfinished.ensures.read

pub returns-in-Unfinished-clause-after : goal.returns-in-Unfinished-clause-after
returns-in-Unfinished-clause-after c =
    let came = c.args.self.now.came in
    let now = c.in-Unfinished.now in
    let e : came + (now - came) ≡ now = omega (arith, (c.in-Unfinished.ensures.read.more _ refl).moves) in
    rw e (ap (λ (r : Reader). cut_at r now c.next.new.self.kept) c.in-Unfinished.ensures.rest)

pub returns-in-GoesOn-clause-read : goal.returns-in-GoesOn-clause-read
returns-in-GoesOn-clause-read c =
    let came = c.args.self.now.came in
    let size = c.in-GoesOn.size in
    let e : came + (size - came) ≡ size = omega (arith, (c.in-GoesOn.ensures.read.goes _ _ refl).begins) in
    rw e c.in-GoesOn.ensures.read

pub returns-in-GoesOn-clause-after : goal.returns-in-GoesOn-clause-after
returns-in-GoesOn-clause-after c =
    let came = c.args.self.now.came in
    let size = c.in-GoesOn.size in
    let e : came + (size - came) ≡ size = omega (arith, (c.in-GoesOn.ensures.read.goes _ _ refl).begins) in
    rw (e, c.stage_after-self.ensures) (ap (λ (r : Reader). at_next r c.in-GoesOn.event size c.next.new.self.kept) c.in-GoesOn.ensures.rest)
