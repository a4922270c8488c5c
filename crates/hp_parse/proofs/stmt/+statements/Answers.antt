use Rattle.std.proofs.Common.{[], ◌∷◌, ◌++◌, List, refl, ap, sym, subst, ◌∙◌, Option}
use Rattle.hp_word.specs.declared.place.Place.{Place}
use Rattle.hp_script.specs.declared.tree.Stmt.{Stmt}
use Rattle.hp_script.specs.declared.tree.Stmt.TheViews as stmt_views
use Rattle.hp_script.specs.Lexemes.{Lexeme}
use Rattle.hp_parse.specs.Machine.{expr, stmts}
use Rattle.hp_parse.proofs.Steps.{stays, stops_after, beside, over, stops_beside, reaches_then, thrown}
use Rattle.hp_parse.proofs.Phrases.{took, left_alone, still_no_word, still_not, reaches_to, peek_none, peek_at, peek_word}
use Rattle.hp_parse.proofs.Lines.{reaches_stmt, reaches_stmts, println_taken, export_taken, print_read, export_read, BeginsNoStatement, at_the_end, at_word, seen_other, statement_stops, if_opens, if_too_deep, while_opens, while_too_deep, no_line, line_then_block, test_read, body_read, else_taken, alone_ended, alone_not_ended, ended, not_ended, else_read, thrown_rest, rest_stops, rest_read, while_read, blank_taken, block_statement, block_ends, line_not_ended, block_more}
use Rattle.hp_parse.proofs.stmt.+statements.Goals as goal

-- ---- statements

pub statement-returns-in_default-clause-stopped : goal.statement-returns-in_default-clause-stopped
statement-returns-in_default-clause-stopped t c = statement_stops (subst (λ (o : Option Lexeme). BeginsNoStatement o) (peek_none c.peek.ensures c.in_default.is) at_the_end) c.syntax.ensures

pub statement-returns-in_err-bracket-in-Println-clause-stopped : goal.statement-returns-in_err-bracket-in-Println-clause-stopped
statement-returns-in_err-bracket-in-Println-clause-stopped t c =
    thrown _ c.from_residual.ensures (stops_after (println_taken (peek_word c.peek.ensures c.in-Some.is c.in-Word.is c.in-Println.is) c.advance.ensures) (stops_beside _ [] c.in_err-bracket-in-Println.ensures.stopped))

pub statement-returns-in_err-bracket-in-WriteCsv-clause-stopped : goal.statement-returns-in_err-bracket-in-WriteCsv-clause-stopped
statement-returns-in_err-bracket-in-WriteCsv-clause-stopped t c =
    thrown _ c.from_residual-in_err-bracket-in-WriteCsv.ensures (stops_after (export_taken (peek_word c.peek.ensures c.in-Some.is c.in-Word.is c.in-WriteCsv.is) c.advance-in-WriteCsv.ensures) (stops_beside _ [] c.in_err-bracket-in-WriteCsv.ensures.stopped))

pub statement-returns-in_ok-bracket-in-Println-clause-read : goal.statement-returns-in_ok-bracket-in-Println-clause-read
statement-returns-in_ok-bracket-in-Println-clause-read t c = print_read (peek_word c.peek.ensures c.in-Some.is c.in-Word.is c.in-Println.is) c.place-at.ensures c.advance.ensures c.in_ok-bracket-in-Println.ensures.read

pub statement-returns-in_ok-bracket-in-WriteCsv-clause-read : goal.statement-returns-in_ok-bracket-in-WriteCsv-clause-read
statement-returns-in_ok-bracket-in-WriteCsv-clause-read t c =
    export_read (peek_word c.peek.ensures c.in-Some.is c.in-Word.is c.in-WriteCsv.is) c.place-at-in-WriteCsv.ensures c.advance-in-WriteCsv.ensures c.in_ok-bracket-in-WriteCsv.ensures.read

pub statement-returns-in_default-word-clause-stopped : goal.statement-returns-in_default-word-clause-stopped
statement-returns-in_default-word-clause-stopped t c =
    statement_stops (subst (λ (o : Option Lexeme). BeginsNoStatement o) (sym (peek_at c.peek.ensures c.in-Some.is c.in-Word.is))
    (at_word _ c.in_default-word.not-Println c.in_default-word.not-WriteCsv c.in_default-word.not-If c.in_default-word.not-While)) c.syntax-in_default-word.ensures

pub statement-returns-in_default-next-clause-stopped : goal.statement-returns-in_default-next-clause-stopped
statement-returns-in_default-next-clause-stopped t c =
    statement_stops (subst (λ (o : Option Lexeme). BeginsNoStatement o) (sym (peek_at c.peek.ensures c.in-Some.is c.in-Some.next-is))
    (seen_other _ c.in_default-next.not-Identifier c.in_default-next.not-Word)) c.syntax-in_default-next.ensures

-- ---- conditions

pub conditional-returns-in_err-before-clause-stopped : goal.conditional-returns-in_err-before-clause-stopped
conditional-returns-in_err-before-clause-stopped t c = thrown _ c.from_residual.ensures (if_too_deep c.requires c.in_err-before.ensures.refused)

pub conditional-returns-in_err-test-clause-stopped : goal.conditional-returns-in_err-test-clause-stopped
conditional-returns-in_err-test-clause-stopped t c =
    thrown _ c.from_residual-in_err-test.ensures (stops_after (if_opens c.requires c.in_ok-before.ensures.ok) (stops_beside _ [] c.in_err-test.ensures.stopped))

pub conditional-returns-in_err-expect_newline-clause-stopped : goal.conditional-returns-in_err-expect_newline-clause-stopped
conditional-returns-in_err-expect_newline-clause-stopped t c =
    thrown _ c.from_residual-in_err-expect_newline.ensures
    (stops_after (if_opens c.requires c.in_ok-before.ensures.ok)
    (stops_after (beside _ [] c.in_ok-test.ensures.read) (stops_beside _ _ (no_line c.in_err-expect_newline.ensures.refused))))

pub conditional-returns-in_err-body-clause-stopped : goal.conditional-returns-in_err-body-clause-stopped
conditional-returns-in_err-body-clause-stopped t c =
    thrown _ c.from_residual-in_err-body.ensures
    (stops_after (if_opens c.requires c.in_ok-before.ensures.ok)
    (stops_after (test_read _ c.in_ok-test.ensures.read c.in_ok-expect_newline.ensures.ok) (stops_beside _ _ c.in_err-body.ensures.stopped)))

pub conditional-returns-in_err-other-clause-stopped : goal.conditional-returns-in_err-other-clause-stopped
conditional-returns-in_err-other-clause-stopped t c =
    thrown _ c.from_residual-in_err-other.ensures
    (stops_after (if_opens c.requires c.in_ok-before.ensures.ok)
    (stops_after (body_read _ c.in_ok-test.ensures.read c.in_ok-expect_newline.ensures.ok c.in_ok-body.ensures.read)
    (stops_beside [] _ (rest_stops _ c.in_ok-before.ensures.before c.in_err-other.ensures.stopped))))

pub conditional-returns-clause-read : goal.conditional-returns-clause-read
conditional-returns-clause-read t c =
    reaches_stmt (ap (λ (at : Place). stmt_views.If at c.in_ok-test.test c.in_ok-body.body c.in_ok-other.other) c.place-at.ensures)
    (reaches_then (if_opens c.requires c.in_ok-before.ensures.ok)
    (reaches_then (body_read _ c.in_ok-test.ensures.read c.in_ok-expect_newline.ensures.ok c.in_ok-body.ensures.read)
    (rest_read _ _ _ _ c.in_ok-before.ensures.before c.in_ok-other.ensures.read)))

-- ---- what stands behind the block of a condition

pub alternative-returns-in_err-expect_newline-clause-stopped : goal.alternative-returns-in_err-expect_newline-clause-stopped
alternative-returns-in_err-expect_newline-clause-stopped t c =
    thrown_rest c.args.before c.from_residual.result c.from_residual.ensures
    (λ at. stops_after (else_taken (took c.args.cursor.now c.takes_word.result c.takes_word.ensures.next c.takes_word.ensures.taken c.if-takes_word.true))
    (stops_beside _ [] (no_line c.in_err-expect_newline.ensures.refused)))

pub alternative-returns-in_err-other-clause-stopped : goal.alternative-returns-in_err-other-clause-stopped
alternative-returns-in_err-other-clause-stopped t c =
    thrown_rest c.args.before c.from_residual-in_err-other.result c.from_residual-in_err-other.ensures
    (λ at. stops_after (else_taken (took c.args.cursor.now c.takes_word.result c.takes_word.ensures.next c.takes_word.ensures.taken c.if-takes_word.true))
    (stops_after (beside _ [] (line_then_block c.in_ok-expect_newline.ensures.ok)) (stops_beside _ [] c.in_err-other.ensures.stopped)))

pub alternative-returns-in_err-end-clause-stopped : goal.alternative-returns-in_err-end-clause-stopped
alternative-returns-in_err-end-clause-stopped t c =
    thrown_rest c.args.before c.from_residual-in_err-end.result c.from_residual-in_err-end.ensures
    (λ at. stops_after (else_taken (took c.args.cursor.now c.takes_word.result c.takes_word.ensures.next c.takes_word.ensures.taken c.if-takes_word.true))
    (stops_after (beside _ [] (line_then_block c.in_ok-expect_newline.ensures.ok))
    (stops_after (beside _ [] c.in_ok-other.ensures.read) (stops_beside _ _ (not_ended c.in_err-end.ensures.refused)))))

pub alternative-returns-then-takes_word-clause-read : goal.alternative-returns-then-takes_word-clause-read
alternative-returns-then-takes_word-clause-read t c =
    λ at test body. reaches_then (over _ (else_taken (took c.args.cursor.now c.takes_word.result c.takes_word.ensures.next c.takes_word.ensures.taken c.if-takes_word.true)))
    (else_read c.in_ok-expect_newline.ensures.ok c.in_ok-other.ensures.read refl c.in_ok-end.ensures.ok)

pub alternative-returns-in_err-end-2-clause-stopped : goal.alternative-returns-in_err-end-2-clause-stopped
alternative-returns-in_err-end-2-clause-stopped t c =
    let past = (left_alone c.args.cursor.now c.takes_word.result c.takes_word.ensures.next c.takes_word.ensures.taken c.if-takes_word.false) in
    thrown_rest c.args.before c.from_residual-in_err-end-2.result c.from_residual-in_err-end-2.ensures
    (λ at. stops_after (reaches_to past.1 (stays _ _ _)) (alone_not_ended (still_no_word past) c.in_err-end-2.ensures.refused))

pub alternative-returns-clause-read : goal.alternative-returns-clause-read
alternative-returns-clause-read t c =
    let past = (left_alone c.args.cursor.now c.takes_word.result c.takes_word.ensures.next c.takes_word.ensures.taken c.if-takes_word.false) in
    λ at test body. reaches_stmt (ap (λ (ys : List Stmt). stmt_views.If at test body ys) c.new.ensures)
    (reaches_then (reaches_to past.1 (stays _ _ _)) (alone_ended refl c.in_ok-end-2.ensures.ok))

pub repeated-returns-in_err-before-clause-stopped : goal.repeated-returns-in_err-before-clause-stopped
repeated-returns-in_err-before-clause-stopped t c = thrown _ c.from_residual.ensures (while_too_deep c.requires c.in_err-before.ensures.refused)

pub repeated-returns-in_err-test-clause-stopped : goal.repeated-returns-in_err-test-clause-stopped
repeated-returns-in_err-test-clause-stopped t c =
    thrown _ c.from_residual-in_err-test.ensures (stops_after (while_opens c.requires c.in_ok-before.ensures.ok) (stops_beside _ [] c.in_err-test.ensures.stopped))

pub repeated-returns-in_err-expect_newline-clause-stopped : goal.repeated-returns-in_err-expect_newline-clause-stopped
repeated-returns-in_err-expect_newline-clause-stopped t c =
    thrown _ c.from_residual-in_err-expect_newline.ensures
    (stops_after (while_opens c.requires c.in_ok-before.ensures.ok)
    (stops_after (beside _ [] c.in_ok-test.ensures.read) (stops_beside _ _ (no_line c.in_err-expect_newline.ensures.refused))))

pub repeated-returns-in_err-body-clause-stopped : goal.repeated-returns-in_err-body-clause-stopped
repeated-returns-in_err-body-clause-stopped t c =
    thrown _ c.from_residual-in_err-body.ensures
    (stops_after (while_opens c.requires c.in_ok-before.ensures.ok)
    (stops_after (test_read _ c.in_ok-test.ensures.read c.in_ok-expect_newline.ensures.ok) (stops_beside _ _ c.in_err-body.ensures.stopped)))

pub repeated-returns-in_err-end-clause-stopped : goal.repeated-returns-in_err-end-clause-stopped
repeated-returns-in_err-end-clause-stopped t c =
    thrown _ c.from_residual-in_err-end.ensures
    (stops_after (while_opens c.requires c.in_ok-before.ensures.ok)
    (stops_after (body_read _ c.in_ok-test.ensures.read c.in_ok-expect_newline.ensures.ok c.in_ok-body.ensures.read) (stops_beside _ _ (not_ended c.in_err-end.ensures.refused))))

pub repeated-returns-clause-read : goal.repeated-returns-clause-read
repeated-returns-clause-read t c =
    reaches_stmt (ap (λ (at : Place). stmt_views.While at c.in_ok-test.test c.in_ok-body.body) c.place-at.ensures)
    (reaches_then (while_opens c.requires c.in_ok-before.ensures.ok)
    (reaches_then (body_read _ c.in_ok-test.ensures.read c.in_ok-expect_newline.ensures.ok c.in_ok-body.ensures.read)
    (while_read c.in_ok-before.ensures.before c.in_ok-end.ensures.ok)))

-- ---- blocks

pub block-loop-cursor-init : goal.block-loop-cursor-init
block-loop-cursor-init t c = reaches_stmts c.new-list.ensures.items (stays _ _ _)

pub block-loop-cursor-preserved-then-takes_newline : goal.block-loop-cursor-preserved-then-takes_newline
block-loop-cursor-preserved-then-takes_newline t c =
    reaches_then c.loop-cursor.invariant
    (over _ (blank_taken (took c.loop-cursor.cursor c.takes_newline.result c.takes_newline.ensures.next c.takes_newline.ensures.taken c.if-takes_newline.true)))

pub block-returns-then-not-begins_statement-clause-read : goal.block-returns-then-not-begins_statement-clause-read
block-returns-then-not-begins_statement-clause-read t c =
    let past = left_alone c.loop-cursor.cursor c.takes_newline.result c.takes_newline.ensures.next c.takes_newline.ensures.taken c.if-takes_newline.false in
    reaches_stmts c.from_vec.ensures (reaches_then (reaches_to past.1 c.loop-cursor.invariant)
    (over _ (block_ends (sym c.begins_statement.ensures ∙ c.if-not-begins_statement.true) (still_not past))))

pub block-returns-in_err-statement-clause-stopped : goal.block-returns-in_err-statement-clause-stopped
block-returns-in_err-statement-clause-stopped t c =
    let past = left_alone c.loop-cursor.cursor c.takes_newline.result c.takes_newline.ensures.next c.takes_newline.ensures.taken c.if-takes_newline.false in
    thrown _ c.from_residual.ensures
    (stops_after (reaches_to past.1 c.loop-cursor.invariant)
    (stops_after (over _ (block_statement (sym c.begins_statement.ensures ∙ c.if-not-begins_statement.false))) (stops_beside _ _ c.in_err-statement.ensures.stopped)))

pub block-loop-cursor-preserved : goal.block-loop-cursor-preserved
block-loop-cursor-preserved t c =
    let past = left_alone c.loop-cursor.cursor c.takes_newline.result c.takes_newline.ensures.next c.takes_newline.ensures.taken c.if-takes_newline.false in
    reaches_stmts c.in_ok-push.ensures.items (reaches_then (reaches_to past.1 c.loop-cursor.invariant)
    (block_more c.loop-cursor.list.items (sym c.begins_statement.ensures ∙ c.if-not-begins_statement.false) c.depth-before.ensures.value c.in_ok-statement.ensures.read c.in_ok-end_line.ensures.ok))

pub block-returns-in_err-end_line-clause-stopped : goal.block-returns-in_err-end_line-clause-stopped
block-returns-in_err-end_line-clause-stopped t c =
    let past = left_alone c.loop-cursor.cursor c.takes_newline.result c.takes_newline.ensures.next c.takes_newline.ensures.taken c.if-takes_newline.false in
    thrown _ c.from_residual-in_err-end_line.ensures
    (stops_after (reaches_to past.1 c.loop-cursor.invariant)
    (stops_after (over _ (block_statement (sym c.begins_statement.ensures ∙ c.if-not-begins_statement.false)))
    (stops_after (beside _ _ c.in_ok-statement.ensures.read) (stops_beside _ _ (line_not_ended c.in_err-end_line.ensures.refused)))))
