-- `c_face::next_piece` meets its contract: it is the player's feeding, or its finishing. Assumes nothing.
use mathlib.Core.Path.{refl, ◌∙◌}
use native.Mathlib.Omega.{arith}
use lib.ListN.{length-drop}
use Rattle.c_face.proofs.Whole.{fed_ok, moved_fed, moved_last}
use Rattle.c_face.proofs.next_piece.Goals as goal

pub unwrap-requires : goal.unwrap-requires
unwrap-requires c = fed_ok _ _ (c.finish.ensures.code ∙ c.requires.1.1)

pub returns-then-log-taken : goal.returns-then-log-taken
returns-then-log-taken c =
    moved_last _ _ _ _ _ _ _ _ c.requires.1.1 c.requires.1.0 _
    (omega (arith, length-drop c.args.taken c.args.log.now, c.if-log-taken.true)) (refl, refl) (rw c.unwrap.ensures at c.finish.ensures)

pub unwrap-requires-2 : goal.unwrap-requires-2
unwrap-requires-2 c = fed_ok _ _ (c.feed.ensures.code ∙ c.requires.1.1)

pub returns : goal.returns
returns c =
    moved_fed _ _ _ _ _ _ _ _ c.requires.1.1 c.requires.1.0 _ _ c.if-log-taken.false (rw c.unwrap-2.ensures at c.feed.ensures)
