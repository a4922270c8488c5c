use Rattle.std.proofs.Common.{[], ◌∷◌, ◌∙◌}
use Rattle.hp_parse.proofs.Steps.{stays, stops_after, beside, over, stops_beside, reaches_then, thrown}
use Rattle.hp_parse.proofs.Phrases.{holds, fails, took, left_alone, still_not, still_some, reaches_to}
use Rattle.hp_parse.proofs.Lines.{reaches_stmts, body_blank, body_statement, body_more, body_last, not_after, body_ends, finishes}
use Rattle.hp_parse.proofs.stmt.body.Goals as goal

pub loop-cursor-init : goal.loop-cursor-init
loop-cursor-init c = reaches_stmts c.new-list.ensures.items (stays _ _ _)

pub loop-cursor-preserved-then-takes_newline : goal.loop-cursor-preserved-then-takes_newline
loop-cursor-preserved-then-takes_newline c =
    reaches_then c.loop-cursor.invariant
    (over _ (body_blank (took c.loop-cursor.cursor c.takes_newline.result c.takes_newline.ensures.next c.takes_newline.ensures.taken c.if-takes_newline.true)))

pub returns-in_err-statement-clause-stopped : goal.returns-in_err-statement-clause-stopped
returns-in_err-statement-clause-stopped c =
    let past = left_alone c.loop-cursor.cursor c.takes_newline.result c.takes_newline.ensures.next c.takes_newline.ensures.taken c.if-takes_newline.false in
    let some = still_some past.1 (fails c.is_at_end.result c.is_at_end.ensures c.loop-cursor-test.true) in
    thrown _ c.from_residual.ensures
    (stops_after (reaches_to past.1 c.loop-cursor.invariant)
    (stops_after (over _ (body_statement some (still_not past))) (stops_beside _ _ c.in_err-statement.ensures.stopped)))

pub returns-then-is_at_end-clause-read : goal.returns-then-is_at_end-clause-read
returns-then-is_at_end-clause-read c =
    let past = left_alone c.loop-cursor.cursor c.takes_newline.result c.takes_newline.ensures.next c.takes_newline.ensures.taken c.if-takes_newline.false in
    let some = still_some past.1 (fails c.is_at_end.result c.is_at_end.ensures c.loop-cursor-test.true) in
    finishes (reaches_then (reaches_to past.1 c.loop-cursor.invariant)
    (body_last c.loop-cursor.list.items some (still_not past) c.in_ok-statement.ensures.read
    (holds c.is_at_end-in-loop-cursor.result c.is_at_end-in-loop-cursor.ensures c.if-is_at_end.true)))
    (c.from_vec.ensures ∙ c.in_ok-push.ensures.items)

pub loop-cursor-preserved : goal.loop-cursor-preserved
loop-cursor-preserved c =
    let past = left_alone c.loop-cursor.cursor c.takes_newline.result c.takes_newline.ensures.next c.takes_newline.ensures.taken c.if-takes_newline.false in
    let some = still_some past.1 (fails c.is_at_end.result c.is_at_end.ensures c.loop-cursor-test.true) in
    reaches_stmts c.in_ok-push.ensures.items (reaches_then (reaches_to past.1 c.loop-cursor.invariant)
    (body_more c.loop-cursor.list.items some (still_not past) c.depth-before.ensures.value c.in_ok-statement.ensures.read c.in_ok-end_line.ensures.ok))

pub returns-in_err-end_line-clause-stopped : goal.returns-in_err-end_line-clause-stopped
returns-in_err-end_line-clause-stopped c =
    let past = left_alone c.loop-cursor.cursor c.takes_newline.result c.takes_newline.ensures.next c.takes_newline.ensures.taken c.if-takes_newline.false in
    let some = still_some past.1 (fails c.is_at_end.result c.is_at_end.ensures c.loop-cursor-test.true) in
    thrown _ c.from_residual-in_err-end_line.ensures
    (stops_after (reaches_to past.1 c.loop-cursor.invariant)
    (stops_after (over _ (body_statement some (still_not past)))
    (stops_after (beside _ _ c.in_ok-statement.ensures.read)
    (stops_beside [] _ (not_after (fails c.is_at_end-in-loop-cursor.result c.is_at_end-in-loop-cursor.ensures c.if-is_at_end.false) c.in_err-end_line.ensures.refused)))))

pub returns-clause-read : goal.returns-clause-read
returns-clause-read c =
    finishes (reaches_then c.loop-cursor.invariant (over _ (body_ends (holds c.is_at_end.result c.is_at_end.ensures c.loop-cursor-test.false)))) c.from_vec-2.ensures
