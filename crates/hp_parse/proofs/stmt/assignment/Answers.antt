use Rattle.std.proofs.Common.{[]}
use Rattle.hp_parse.proofs.Steps.{stops_after, beside, stops_beside, reaches_then, thrown}
use Rattle.hp_parse.proofs.Lines.{name_begins, assign_taken, no_assign, assignment_read}
use Rattle.hp_parse.proofs.stmt.assignment.Goals as goal

pub returns-in_err-expect-clause-stopped : goal.returns-in_err-expect-clause-stopped
returns-in_err-expect-clause-stopped c =
    thrown _ c.from_residual.ensures (stops_after (name_begins c.requires c.advance.ensures) (stops_beside _ [] (no_assign c.in_err-expect.ensures.refused)))

pub returns-in_err-value-clause-stopped : goal.returns-in_err-value-clause-stopped
returns-in_err-value-clause-stopped c =
    thrown _ c.from_residual-in_err-value.ensures
    (stops_after (reaches_then (name_begins c.requires c.advance.ensures) (beside _ [] (assign_taken c.in_ok-expect.ensures.ok))) (stops_beside _ [] c.in_err-value.ensures.stopped))

pub returns-clause-read : goal.returns-clause-read
returns-clause-read c = assignment_read c.requires c.place-at.ensures c.advance.ensures c.in_ok-expect.ensures.ok c.in_ok-value.ensures.read c.in_ok-of.ensures
