use Rattle.std.proofs.Common.{◌∙◌, sym, arith}
use Rattle.hp_types.proofs.FormLemmas.{measures_only, measures_other, measures_many}
use Rattle.hp_types.proofs.forms.is_measure_call.Goals as goal

pub returns-then-is_column : goal.returns-then-is_column
returns-then-is_column c =
    c.measures_column.ensures ∙ sym (measures_only c.args.function.now c.args.args.now c.only-item.result (omega arith) (omega arith) c.only-item.is c.if-is_column.ensures)

pub returns-else-is_column : goal.returns-else-is_column
returns-else-is_column c =
    c.if-is_column.false ∙ sym (measures_other c.args.function.now c.args.args.now c.only-item.result (omega arith) (omega arith) c.only-item.is c.if-is_column.ensures)

pub returns-in_default : goal.returns-in_default
returns-in_default c = sym (measures_many c.args.function.now c.args.args.now (omega arith))
