-- `report_fields::play_counted` meets its contract. The field is done, and what it came to is counted. Assumes nothing.
use Rattle.report_fields.proofs.Fields.{can_count, done_counted, refused_counted}
use Rattle.report_fields.proofs.play_counted.Goals as goal

pub count_field-requires-clause-sends : goal.count_field-requires-clause-sends
count_field-requires-clause-sends c =
    can_count _ c.requires.0 _ _ _ c.in-Ok.ensures.told c.in-Ok.ensures.acted

pub returns-in-Ok : goal.returns-in-Ok
returns-in-Ok c =
    done_counted _ c.requires.0 _ c.requires.1 _ _ c.in-Ok.ensures.told c.in-Ok.ensures.acted _
    (rw (← c.closing_place-closing.ensures.found) c.count_field.ensures)

pub returns-in_default : goal.returns-in_default
returns-in_default c = refused_counted _ c.requires.0 _ c.requires.1 _ _ c.in_default.ensures.acted
