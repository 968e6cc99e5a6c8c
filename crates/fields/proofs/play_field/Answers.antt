-- `fields::play_field` meets its contract. A field is done, shown, and its bytes are added. Assumes nothing.
use Rattle.fields.proofs.Fields.{no_line, field_plays}
use Rattle.fields.proofs.play_field.Goals.{in-Some, in-None}
use Rattle.fields.proofs.play_field.Goals as goal

pub returns : goal.returns
returns c =
    field_plays _ c.requires.known_memory.0 _ c.requires.known_memory.1.1 _ _ c.act-came.ensures.acted _ c.line_of.ensures _
    (c.charged.ensures _) _ _ _ _
    (elim c.match-line_of.branch [
      | in-Some w ↦ rw (w.in-Some.is, w.used-is, w.out-is) w.put-used.ensures
      | in-None w ↦ rw (w.in-None.is, w.used-is, w.out-is) (no_line _ _)
    ])
