use Rattle.std.proofs.Common.{ℤ, List, [], ◌∷◌, ◌++◌, refl, sym, ap, subst, ◌∙◌, Option, Some, rules, FitsSigned, w64, to_z-of_z}
use Rattle.hp_script.specs.Trees.{number_node}
use Rattle.hp_script.specs.declared.tree.Arg.{Arg}
use Rattle.hp_parse.specs.Readers.{next}
use Rattle.std.specs.Option.{option_map}
use Rattle.hp_script.specs.declared.tree.Level.TheVariants.{Disjunction}
use Rattle.hp_script.specs.Lexemes.{seen, Lexeme}
use Rattle.hp_parse.specs.Machine.{want, make, expr, arg, args, Indexed, Primary}
use Rattle.hp_parse.proofs.Steps.{stays, reaches_then, stops_after, beside, over, stops_beside, thrown, read_after, stopped_after}
use Rattle.hp_parse.proofs.Phrases.{holds, fails, took, left_alone, peek_none, peek_at, peek_word, peek_mark, still_no, closed_at, read_for, stopped_for, thrown_any, left_is, goes_on, ends_there, reaches_to, reaches_args, chain_begins, tail_takes, tail_too_deep, tail_ends, tail_more, unary_takes, unary_too_deep, unary_passes, unary_more, index_takes, index_too_deep, index_ends, index_open, index_more, number_read, text_read, true_read, false_read, column_read, column_stops, primary_brackets, name_taken, primary_stops, BeginsNone, at_the_end, at_newline, at_word, at_sign, brackets_take, brackets_too_deep, closed, not_closed, dots_taken, dot_taken, call_opens, call_too_deep, call_read, field_read, field_stops, name_read, none_read, some_begin, appended, comma_taken, all_closed, all_not_closed}
use Rattle.hp_parse.proofs.Detour.{expression_read, expression_stops, range_read, range_stops, plain_read, arrow_taken, assign_taken, lambda_read, given_read}
use Rattle.hp_parse.proofs.expr.+expressions.Goals as goal

-- ---- chains

pub chain-returns-in_err-left-clause-stopped : goal.chain-returns-in_err-left-clause-stopped
chain-returns-in_err-left-clause-stopped t c =
    thrown _ c.from_residual.ensures (stops_after (chain_begins _ _) (stops_beside _ [] c.in_err-left.ensures.stopped))

pub chain-loop-op-init : goal.chain-loop-op-init
chain-loop-op-init t c = reaches_then (chain_begins _ _) (beside _ [] c.in_ok-left.ensures.read)

pub chain-returns-in_err-deepen-clause-stopped : goal.chain-returns-in_err-deepen-clause-stopped
chain-returns-in_err-deepen-clause-stopped t c =
    thrown _ c.from_residual-in_err-deepen.ensures
    (stops_after c.loop-op.invariant (stops_beside [] _ (tail_too_deep (sym c.operator.ensures ∙ c.in-Some.is) c.in_err-deepen.ensures.refused)))

pub chain-returns-in_err-right-clause-stopped : goal.chain-returns-in_err-right-clause-stopped
chain-returns-in_err-right-clause-stopped t c =
    thrown _ c.from_residual-in_err-right.ensures
    (stops_after c.loop-op.invariant
    (stops_after (over _ (tail_takes (sym c.operator.ensures ∙ c.in-Some.is) c.in_ok-deepen.ensures.ok c.head-head.ensures.taken))
    (stops_beside _ _ c.in_err-right.ensures.stopped)))

pub chain-returns-in-Comparison-clause-read : goal.chain-returns-in-Comparison-clause-read
chain-returns-in-Comparison-clause-read t c =
    reaches_then c.loop-op.invariant
    (left_is (ends_there _ c.in-Comparison.is) (tail_more (sym c.operator.ensures ∙ c.in-Some.is) c.in_ok-deepen.ensures.ok c.head-head.ensures.id c.head-head.ensures.at c.head-head.ensures.taken
    c.in_ok-right.ensures.read c.in_ok-left-2.ensures))

pub chain-loop-op-preserved : goal.chain-loop-op-preserved
chain-loop-op-preserved t c =
    reaches_then c.loop-op.invariant
    (left_is (goes_on _ c.in_default-level.not-Comparison) (tail_more (sym c.operator.ensures ∙ c.in-Some.is) c.in_ok-deepen.ensures.ok c.head-head.ensures.id c.head-head.ensures.at c.head-head.ensures.taken
    c.in_ok-right.ensures.read c.in_ok-left-2.ensures))

pub chain-returns-clause-read : goal.chain-returns-clause-read
chain-returns-clause-read t c = reaches_then c.loop-op.invariant (over _ (tail_ends (sym c.operator.ensures ∙ c.in_default.is)))

-- ---- operators with one operand

pub unary-returns-in_err-deepen-clause-stopped : goal.unary-returns-in_err-deepen-clause-stopped
unary-returns-in_err-deepen-clause-stopped t c =
    thrown _ c.from_residual.ensures (unary_too_deep (sym c.unary_operator.ensures ∙ c.in-Some.is) c.in_err-deepen.ensures.refused)

pub unary-returns-in_err-operand-clause-stopped : goal.unary-returns-in_err-operand-clause-stopped
unary-returns-in_err-operand-clause-stopped t c =
    thrown _ c.from_residual-in_err-operand.ensures
    (stops_after (unary_takes (sym c.unary_operator.ensures ∙ c.in-Some.is) c.in_ok-deepen.ensures.ok c.head-head.ensures.taken) (stops_beside _ [] c.in_err-operand.ensures.stopped))

pub unary-returns-in-Some-clause-read : goal.unary-returns-in-Some-clause-read
unary-returns-in-Some-clause-read t c =
    unary_more (sym c.unary_operator.ensures ∙ c.in-Some.is) c.in_ok-deepen.ensures.ok c.head-head.ensures.id c.head-head.ensures.at c.head-head.ensures.taken
    c.in_ok-operand.ensures.read c.in_ok-unary.ensures

pub unary-returns-in_err-first-clause-stopped : goal.unary-returns-in_err-first-clause-stopped
unary-returns-in_err-first-clause-stopped t c =
    thrown _ c.from_residual-in_err-first.ensures (stops_after (unary_passes (sym c.unary_operator.ensures ∙ c.in_default.is)) (stops_beside _ [] c.in_err-first.ensures.stopped))

pub unary-returns-clause-read : goal.unary-returns-clause-read
unary-returns-clause-read t c =
    read_after _ c.indexed.result (λ x. expr x)
    (reaches_then (unary_passes (sym c.unary_operator.ensures ∙ c.in_default.is)) (beside (want Indexed ∷ []) [] c.in_ok-first.ensures.read)) c.indexed.ensures.read

pub unary-returns-clause-stopped : goal.unary-returns-clause-stopped
unary-returns-clause-stopped t c =
    stopped_after c.indexed.result
    (reaches_then (unary_passes (sym c.unary_operator.ensures ∙ c.in_default.is)) (beside (want Indexed ∷ []) [] c.in_ok-first.ensures.read)) c.indexed.ensures.stopped

-- ---- indices

pub indexed-loop-cursor-init : goal.indexed-loop-cursor-init
indexed-loop-cursor-init t c = stays _ _ _

pub indexed-returns-in_err-deepen-clause-stopped : goal.indexed-returns-in_err-deepen-clause-stopped
indexed-returns-in_err-deepen-clause-stopped t c =
    thrown _ c.from_residual.ensures
    (stops_after c.loop-cursor.invariant (stops_beside [] _ (index_too_deep (holds c.is_at.result c.is_at.ensures c.loop-cursor-test.true) c.in_err-deepen.ensures.refused)))

pub indexed-returns-in_err-index-clause-stopped : goal.indexed-returns-in_err-index-clause-stopped
indexed-returns-in_err-index-clause-stopped t c =
    thrown _ c.from_residual-in_err-index.ensures
    (stops_after c.loop-cursor.invariant
    (stops_after (over _ (index_takes (holds c.is_at.result c.is_at.ensures c.loop-cursor-test.true) c.in_ok-deepen.ensures.ok c.head-head.ensures.taken))
    (stops_beside _ _ c.in_err-index.ensures.stopped)))

pub indexed-returns-in_err-close-clause-stopped : goal.indexed-returns-in_err-close-clause-stopped
indexed-returns-in_err-close-clause-stopped t c =
    thrown _ c.from_residual-in_err-close.ensures
    (stops_after c.loop-cursor.invariant
    (stops_after (over _ (index_takes (holds c.is_at.result c.is_at.ensures c.loop-cursor-test.true) c.in_ok-deepen.ensures.ok c.head-head.ensures.taken))
    (stops_after (beside _ _ c.in_ok-index.ensures.read) (stops_beside _ _ (index_open c.in_err-close.ensures.refused)))))

pub indexed-loop-cursor-preserved : goal.indexed-loop-cursor-preserved
indexed-loop-cursor-preserved t c =
    reaches_then c.loop-cursor.invariant
    (index_more (holds c.is_at.result c.is_at.ensures c.loop-cursor-test.true) c.depth-before.ensures.value c.in_ok-deepen.ensures.ok c.head-head.ensures.id c.head-head.ensures.at c.head-head.ensures.taken
    c.in_ok-index.ensures.read c.in_ok-close.ensures.ok c.in_ok-left.ensures)

pub indexed-returns-clause-read : goal.indexed-returns-clause-read
indexed-returns-clause-read t c = reaches_then c.loop-cursor.invariant (over _ (index_ends (fails c.is_at.result c.is_at.ensures c.loop-cursor-test.false)))

-- ---- literals, columns, names and brackets

pub primary-returns-in_default-clause-stopped : goal.primary-returns-in_default-clause-stopped
primary-returns-in_default-clause-stopped t c = primary_stops (subst (λ (o : Option Lexeme). BeginsNone o) (peek_none c.peek.ensures c.in_default.is) at_the_end) c.syntax.ensures

pub primary-returns-in-Numeral-clause-read : goal.primary-returns-in-Numeral-clause-read
primary-returns-in-Numeral-clause-read t c =
    let f : FitsSigned w64 c.in-Numeral.value = search rules in
    number_read (peek_at c.peek.ensures c.in-Some.is c.in-Numeral.is) c.head.ensures.id c.head.ensures.at c.head.ensures.taken
    (c.number.ensures ∙ ap (λ (v : ℤ). number_node c.head.result.id.0 c.head.result.at v) (to_z-of_z f))

pub primary-returns-in_ok-text-in-Quoted-clause-read : goal.primary-returns-in_ok-text-in-Quoted-clause-read
primary-returns-in_ok-text-in-Quoted-clause-read t c =
    text_read (peek_at c.peek.ensures c.in-Some.is c.in-Quoted.is) c.head-in-Quoted.ensures.id c.head-in-Quoted.ensures.at c.head-in-Quoted.ensures.taken c.in_ok-text-in-Quoted.ensures

pub primary-returns-in-True-clause-read : goal.primary-returns-in-True-clause-read
primary-returns-in-True-clause-read t c =
    true_read (peek_word c.peek.ensures c.in-Some.is c.in-Word.is c.in-True.is) c.head-in-True.ensures.id c.head-in-True.ensures.at c.head-in-True.ensures.taken c.truth.ensures

pub primary-returns-in-False-clause-read : goal.primary-returns-in-False-clause-read
primary-returns-in-False-clause-read t c =
    false_read (peek_word c.peek.ensures c.in-Some.is c.in-Word.is c.in-False.is) c.head-in-False.ensures.id c.head-in-False.ensures.at c.head-in-False.ensures.taken c.truth-in-False.ensures

pub primary-returns-in_default-word : goal.primary-returns-in_default-word
primary-returns-in_default-word t c =
    record { read = tt; stopped = primary_stops (subst (λ (o : Option Lexeme). BeginsNone o) (sym (peek_at c.peek.ensures c.in-Some.is c.in-Word.is)) (at_word _ c.in_default-word.not-True c.in_default-word.not-False)) c.syntax-in_default-word.ensures }

pub primary-returns-in_err-name-in-Colon-clause-stopped : goal.primary-returns-in_err-name-in-Colon-clause-stopped
primary-returns-in_err-name-in-Colon-clause-stopped t c =
    thrown _ c.from_residual-in_err-name-in-Colon.ensures (column_stops (peek_mark c.peek.ensures c.in-Some.is c.in-Mark.is c.in-Colon.is) c.head-head.ensures.taken c.in_err-name-in-Colon.ensures.refused)

pub primary-returns-in_ok-column-in-Colon-clause-read : goal.primary-returns-in_ok-column-in-Colon-clause-read
primary-returns-in_ok-column-in-Colon-clause-read t c =
    column_read (peek_mark c.peek.ensures c.in-Some.is c.in-Mark.is c.in-Colon.is) c.head-head.ensures.id c.head-head.ensures.at c.head-head.ensures.taken c.in_ok-name-in-Colon.ensures.ok c.in_ok-column-in-Colon.ensures

pub primary-returns-in-Open-clause-read : goal.primary-returns-in-Open-clause-read
primary-returns-in-Open-clause-read t c = read_for c.args.cursor.now _ Primary c.bracketed.result (primary_brackets _ (peek_mark c.peek.ensures c.in-Some.is c.in-Mark.is c.in-Open.is)) c.bracketed.ensures.read

pub primary-returns-in-Open-clause-stopped : goal.primary-returns-in-Open-clause-stopped
primary-returns-in-Open-clause-stopped t c = stopped_for c.args.cursor.now Primary c.bracketed.result (primary_brackets _ (peek_mark c.peek.ensures c.in-Some.is c.in-Mark.is c.in-Open.is)) c.bracketed.ensures.stopped

pub primary-returns-in_default-sign : goal.primary-returns-in_default-sign
primary-returns-in_default-sign t c =
    record { read = tt; stopped = primary_stops (subst (λ (o : Option Lexeme). BeginsNone o) (sym (peek_at c.peek.ensures c.in-Some.is c.in-Mark.is)) (at_sign _ c.in_default-sign.not-Colon c.in_default-sign.not-Open)) c.syntax-in_default-sign.ensures }

pub primary-returns-in-Identifier-clause-read : goal.primary-returns-in-Identifier-clause-read
primary-returns-in-Identifier-clause-read t c =
    read_after _ c.after_name.result (λ x. expr x)
    (name_taken (peek_at c.peek.ensures c.in-Some.is c.in-Identifier.is) c.head-head-in-Identifier.ensures.id c.head-head-in-Identifier.ensures.at c.head-head-in-Identifier.ensures.taken) c.after_name.ensures.read

pub primary-returns-in-Identifier-clause-stopped : goal.primary-returns-in-Identifier-clause-stopped
primary-returns-in-Identifier-clause-stopped t c =
    stopped_after c.after_name.result
    (name_taken (peek_at c.peek.ensures c.in-Some.is c.in-Identifier.is) c.head-head-in-Identifier.ensures.id c.head-head-in-Identifier.ensures.at c.head-head-in-Identifier.ensures.taken) c.after_name.ensures.stopped

pub primary-returns-in-Newline-clause-stopped : goal.primary-returns-in-Newline-clause-stopped
primary-returns-in-Newline-clause-stopped t c =
    primary_stops (subst (λ (o : Option Lexeme). BeginsNone o) (sym (peek_at c.peek.ensures c.in-Some.is c.in-Newline.is)) at_newline) c.syntax-in-Newline.ensures

-- ---- brackets

pub bracketed-returns-in_err-before-clause-stopped : goal.bracketed-returns-in_err-before-clause-stopped
bracketed-returns-in_err-before-clause-stopped t c =
    thrown_any c.from_residual.result c.from_residual.ensures (λ phrase move. brackets_too_deep c.requires move c.in_err-before.ensures.refused)

pub bracketed-returns-in_err-inner-clause-stopped : goal.bracketed-returns-in_err-inner-clause-stopped
bracketed-returns-in_err-inner-clause-stopped t c =
    thrown_any c.from_residual-in_err-inner.result c.from_residual-in_err-inner.ensures
    (λ phrase move. stops_after (brackets_take c.requires move c.in_ok-before.ensures.ok) (stops_beside _ [] c.in_err-inner.ensures.stopped))

pub bracketed-returns-in_err-close-clause-stopped : goal.bracketed-returns-in_err-close-clause-stopped
bracketed-returns-in_err-close-clause-stopped t c =
    thrown_any c.from_residual-in_err-close.result c.from_residual-in_err-close.ensures
    (λ phrase move. stops_after (brackets_take c.requires move c.in_ok-before.ensures.ok)
    (stops_after (beside _ [] c.in_ok-inner.ensures.read) (stops_beside [] _ (not_closed c.in_err-close.ensures.refused))))

pub bracketed-returns-clause-read : goal.bracketed-returns-clause-read
bracketed-returns-clause-read t c =
    λ phrase move. reaches_then (brackets_take c.requires move c.in_ok-before.ensures.ok)
    (reaches_then (beside _ [] c.in_ok-inner.ensures.read) (over _ (closed_at c.in_ok-before.ensures.before c.in_ok-close.ensures.ok)))

-- ---- calls

pub after_name-returns-in_err-before-clause-stopped : goal.after_name-returns-in_err-before-clause-stopped
after_name-returns-in_err-before-clause-stopped t c =
    thrown _ c.from_residual.ensures
    (stops_after (dots_taken c.takes-dotted.ensures.next c.takes-dotted.ensures.taken)
    (call_too_deep c.takes-dotted.result _ _ _ (holds c.is_at.result c.is_at.ensures c.if-is_at.true) c.in_err-before.ensures.refused))

pub after_name-returns-in_err-args-clause-stopped : goal.after_name-returns-in_err-args-clause-stopped
after_name-returns-in_err-args-clause-stopped t c =
    thrown _ c.from_residual-in_err-args.ensures
    (stops_after (dots_taken c.takes-dotted.ensures.next c.takes-dotted.ensures.taken)
    (stops_after (call_opens c.takes-dotted.result _ _ _ (holds c.is_at.result c.is_at.ensures c.if-is_at.true) c.in_ok-before.ensures.before c.in_ok-before.ensures.ok)
    (stops_beside _ [] c.in_err-args.ensures.stopped)))

pub after_name-returns-then-is_at-clause-read : goal.after_name-returns-then-is_at-clause-read
after_name-returns-then-is_at-clause-read t c =
    reaches_then (dots_taken c.takes-dotted.ensures.next c.takes-dotted.ensures.taken)
    (call_read c.takes-dotted.result _ _ _ (holds c.is_at.result c.is_at.ensures c.if-is_at.true) c.in_ok-before.ensures.before c.in_ok-before.ensures.ok
    c.in_ok-args.ensures.read c.in_ok-call.ensures)

pub after_name-returns-in_err-column-clause-stopped : goal.after_name-returns-in_err-column-clause-stopped
after_name-returns-in_err-column-clause-stopped t c =
    thrown _ c.from_residual-in_err-column.ensures
    (stops_after (dot_taken c.takes-dotted.result c.takes-dotted.ensures.next c.takes-dotted.ensures.taken c.if-dotted.true)
    (field_stops c.in_err-column.ensures.refused (fails c.is_at.result c.is_at.ensures c.if-is_at.false)))

pub after_name-returns-then-dotted-clause-read : goal.after_name-returns-then-dotted-clause-read
after_name-returns-then-dotted-clause-read t c =
    reaches_then (dot_taken c.takes-dotted.result c.takes-dotted.ensures.next c.takes-dotted.ensures.taken c.if-dotted.true)
    (field_read c.in_ok-column.ensures.ok c.in_ok-field.ensures)

pub after_name-returns-clause-read : goal.after_name-returns-clause-read
after_name-returns-clause-read t c =
    name_read c.takes-dotted.ensures.next c.takes-dotted.ensures.taken c.if-dotted.false (fails c.is_at.result c.is_at.ensures c.if-is_at.false) c.in_ok-name.ensures

-- ---- arguments

pub arguments-returns-then-takes-clause-read : goal.arguments-returns-then-takes-clause-read
arguments-returns-then-takes-clause-read t c =
    let past = took c.args.cursor.now c.takes.result c.takes.ensures.next c.takes.ensures.taken c.if-takes.true in
    reaches_args (c.from_vec.ensures ∙ c.new-args.ensures.items) (over (args [] ∷ []) (none_read past.0 past.1 c.restore.ensures))

pub arguments-returns-in_err-argument-clause-stopped : goal.arguments-returns-in_err-argument-clause-stopped
arguments-returns-in_err-argument-clause-stopped t c =
    let past = left_alone c.args.cursor.now c.takes.result c.takes.ensures.next c.takes.ensures.taken c.if-takes.false in
    thrown _ c.from_residual.ensures (stops_after (over (args [] ∷ []) (reaches_to past.1 (some_begin past.0))) (stops_beside _ _ c.in_err-argument.ensures.stopped))

pub arguments-loop-cursor-init : goal.arguments-loop-cursor-init
arguments-loop-cursor-init t c =
    let past = left_alone c.args.cursor.now c.takes.result c.takes.ensures.next c.takes.ensures.taken c.if-takes.false in
    reaches_args (c.in_ok-push.ensures.items ∙ ap (λ (xs : List Arg). xs ++ c.in_ok-argument.field-0 ∷ []) c.new-args.ensures.items)
    (reaches_then (over (args [] ∷ []) (reaches_to past.1 (some_begin past.0))) (appended [] c.in_ok-argument.ensures.read))

pub arguments-returns-in_err-argument-2-clause-stopped : goal.arguments-returns-in_err-argument-2-clause-stopped
arguments-returns-in_err-argument-2-clause-stopped t c =
    let past = took c.loop-cursor.cursor c.takes-in-loop-cursor.result c.takes-in-loop-cursor.ensures.next c.takes-in-loop-cursor.ensures.taken c.loop-cursor-test.true in
    thrown _ c.from_residual-in_err-argument-2.ensures
    (stops_after c.loop-cursor.invariant
    (stops_after (over _ (comma_taken past.0 past.1 c.restore-in-loop-cursor.ensures)) (stops_beside _ _ c.in_err-argument-2.ensures.stopped)))

pub arguments-loop-cursor-preserved : goal.arguments-loop-cursor-preserved
arguments-loop-cursor-preserved t c =
    let past = took c.loop-cursor.cursor c.takes-in-loop-cursor.result c.takes-in-loop-cursor.ensures.next c.takes-in-loop-cursor.ensures.taken c.loop-cursor-test.true in
    reaches_args c.in_ok-push-2.ensures.items
    (reaches_then c.loop-cursor.invariant
    (reaches_then (over _ (comma_taken past.0 past.1 c.restore-in-loop-cursor.ensures)) (appended c.loop-cursor.args.items c.in_ok-argument-2.ensures.read)))

pub arguments-returns-in_err-close-clause-stopped : goal.arguments-returns-in_err-close-clause-stopped
arguments-returns-in_err-close-clause-stopped t c =
    let past = left_alone c.loop-cursor.cursor c.takes-in-loop-cursor.result c.takes-in-loop-cursor.ensures.next c.takes-in-loop-cursor.ensures.taken c.loop-cursor-test.false in
    thrown _ c.from_residual-in_err-close.ensures
    (stops_after (reaches_to past.1 c.loop-cursor.invariant) (stops_beside [] _ (all_not_closed (still_no past) c.in_err-close.ensures.refused)))

pub arguments-returns-clause-read : goal.arguments-returns-clause-read
arguments-returns-clause-read t c =
    let past = left_alone c.loop-cursor.cursor c.takes-in-loop-cursor.result c.takes-in-loop-cursor.ensures.next c.takes-in-loop-cursor.ensures.taken c.loop-cursor-test.false in
    reaches_args c.from_vec-2.ensures (reaches_then (reaches_to past.1 c.loop-cursor.invariant) (over _ (all_closed c.in_ok-close.ensures.ok)))

pub argument-returns-in_err-value-clause-stopped : goal.argument-returns-in_err-value-clause-stopped
argument-returns-in_err-value-clause-stopped t c =
    thrown _ c.from_residual.ensures
    (stops_after (arrow_taken c.in-Some.ensures c.advance.ensures c.advance-in-Some.ensures) (stops_beside _ [] c.in_err-value.ensures.stopped))

pub argument-returns-in-Some-clause-read : goal.argument-returns-in-Some-clause-read
argument-returns-in-Some-clause-read t c =
    lambda_read c.in-Some.ensures c.advance.ensures c.advance-in-Some.ensures c.in_ok-value.ensures.read c.in_ok-of.ensures

pub argument-returns-in_err-value-2-clause-stopped : goal.argument-returns-in_err-value-2-clause-stopped
argument-returns-in_err-value-2-clause-stopped t c =
    thrown _ c.from_residual-in_err-value-2.ensures
    (stops_after (assign_taken c.in-Some-name_before.ensures c.advance-in-Some-name_before.ensures c.advance-in-Some-name_before-2.ensures) (stops_beside _ [] c.in_err-value-2.ensures.stopped))

pub argument-returns-in-Some-name_before-clause-read : goal.argument-returns-in-Some-name_before-clause-read
argument-returns-in-Some-name_before-clause-read t c =
    given_read c.in-Some-name_before.ensures c.advance-in-Some-name_before.ensures c.advance-in-Some-name_before-2.ensures c.place-at.ensures
    c.in_ok-value-2.ensures.read c.in_ok-of-2.ensures

pub argument-returns-in_err-first-clause-stopped : goal.argument-returns-in_err-first-clause-stopped
argument-returns-in_err-first-clause-stopped t c =
    thrown _ c.from_residual-in_err-first.ensures (expression_stops c.in_default.ensures c.in_default-name_before.ensures c.in_err-first.ensures.stopped)

pub argument-returns-in_err-last-clause-stopped : goal.argument-returns-in_err-last-clause-stopped
argument-returns-in_err-last-clause-stopped t c =
    thrown _ c.from_residual-in_err-last.ensures
    (stops_after (expression_read c.in_default.ensures c.in_default-name_before.ensures c.in_ok-first.ensures.read)
    (range_stops (took c.chain-2.new.cursor c.takes.result c.takes.ensures.next c.takes.ensures.taken c.if-takes.true) c.in_err-last.ensures.stopped))

pub argument-returns-then-takes-clause-read : goal.argument-returns-then-takes-clause-read
argument-returns-then-takes-clause-read t c =
    reaches_then (expression_read c.in_default.ensures c.in_default-name_before.ensures c.in_ok-first.ensures.read)
    (range_read (took c.chain-2.new.cursor c.takes.result c.takes.ensures.next c.takes.ensures.taken c.if-takes.true) c.in_ok-last.ensures.read)

pub argument-returns-clause-read : goal.argument-returns-clause-read
argument-returns-clause-read t c =
    reaches_then (expression_read c.in_default.ensures c.in_default-name_before.ensures c.in_ok-first.ensures.read)
    (plain_read (left_alone c.chain-2.new.cursor c.takes.result c.takes.ensures.next c.takes.ensures.taken c.if-takes.false))
