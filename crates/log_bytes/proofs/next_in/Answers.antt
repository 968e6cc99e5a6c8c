-- `log_bytes::next_in` meets its contract. Each return is what the tests that led there leave of what is known of a field.
-- Assumes nothing.
use mathlib.Core.Path.{sym, ◌∙◌}
use mathlib.Core.Logic.{⊎_elim}
use native.Mathlib.Omega.{arith}
use Rattle.std.proofs.lemmas.Grind.{common_steps}
use Rattle.log_bytes.proofs.Fields.{read_only, right_room, event_fits, next_steps}
use Rattle.log_bytes.proofs.Tags.{known_tag, known_no_tag}
use Rattle.log_bytes.proofs.next_in.Goals as goal

pub returns-then-not-is_read : goal.returns-then-not-is_read
returns-then-not-is_read c =
    c.not_known.ensures ∙ rw (next_steps c.args.at c.args.bytes.now c.args.came c.args.stage, ← c.if-not-is_read.ensures)

pub bounds-bytes-0 : goal.bounds-bytes-0
bounds-bytes-0 c =
    let there = (read_only _ _ _ (sym c.if-not-is_read.ensures)).0 in
    ⊎_elim (λ w. omega (arith, w, there)) (λ w. omega (arith, w)) c.requires

pub returns-in_default : goal.returns-in_default
returns-in_default c =
    sym (known_no_tag _ _ _ _ (sym c.if-not-is_read.ensures) c.in_default.ensures)

pub returns-then-not-may_stand : goal.returns-then-not-may_stand
returns-then-not-may_stand c =
    let e = known_tag c.args.at c.args.bytes.now c.args.came c.args.stage c.in-Some.tag c.in-Some.ensures in grind (arith, common_steps)

pub returns-then-not-is_read-2 : goal.returns-then-not-is_read-2
returns-then-not-is_read-2 c =
    let e = known_tag c.args.at c.args.bytes.now c.args.came c.args.stage c.in-Some.tag c.in-Some.ensures in grind (arith, common_steps)

pub length_in-n-requires : goal.length_in-n-requires
length_in-n-requires c =
    let there = (read_only _ _ _ (sym c.if-not-is_read-2.ensures)).0 in
    ⊎_elim (λ w. omega (arith, w, there)) (λ w. omega (arith, w)) c.requires

pub returns-then-not-may_have : goal.returns-then-not-may_have
returns-then-not-may_have c =
    let e = known_tag c.args.at c.args.bytes.now c.args.came c.args.stage c.in-Some.tag c.in-Some.ensures in grind (arith, common_steps)

pub returns-then-not-is_read-3 : goal.returns-then-not-is_read-3
returns-then-not-is_read-3 c =
    let e = known_tag c.args.at c.args.bytes.now c.args.came c.args.stage c.in-Some.tag c.in-Some.ensures in grind (arith, common_steps)

pub event-event-requires : goal.event-event-requires
event-event-requires c =
    let r = right_room _ _ (sym c.if-not-may_have.ensures) in
    let there = (read_only _ _ _ (sym c.if-not-is_read-3.ensures)).0 in
    event_fits _ _ _ _ r there c.requires

pub returns-then-not-in_turn : goal.returns-then-not-in_turn
returns-then-not-in_turn c =
    let e = known_tag c.args.at c.args.bytes.now c.args.came c.args.stage c.in-Some.tag c.in-Some.ensures in grind (arith, common_steps)

pub returns : goal.returns
returns c =
    let e = known_tag c.args.at c.args.bytes.now c.args.came c.args.stage c.in-Some.tag c.in-Some.ensures in grind (arith, common_steps)
