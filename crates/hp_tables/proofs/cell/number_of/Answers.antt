-- A cell with a minus.
use Rattle.std.proofs.Common.{◌≡◌, drop, sym, ap, ◌∙◌, Some, None}
use Rattle.hp_tables.specs.Running.{numeral_within}
use Rattle.hp_tables.proofs.CellLemmas.{minus_none, minus_some, rest_of}
use Rattle.hp_tables.proofs.cell.number_of.Goals as goal

pub returns-in_err-magnitude : goal.returns-in_err-magnitude
returns-in_err-magnitude c =
    let none : numeral_within (drop 1 c.args.cell.now) ≡ None = ap numeral_within (sym (rest_of c.args.cell.now)) ∙ sym c.magnitude.ensures ∙ c.in_err-magnitude.was in
    c.from_residual.ensures ∙ sym (minus_none c.args.cell.now c.if-cell-eq45.true none)

pub returns-in_ok-magnitude : goal.returns-in_ok-magnitude
returns-in_ok-magnitude c =
    let some : numeral_within (drop 1 c.args.cell.now) ≡ Some c.in_ok-magnitude.field-0 = ap numeral_within (sym (rest_of c.args.cell.now)) ∙ sym c.magnitude.ensures ∙ c.in_ok-magnitude.was in
    minus_some c.args.cell.now _ _ c.if-cell-eq45.true some c.checked_sub_unsigned.ensures
