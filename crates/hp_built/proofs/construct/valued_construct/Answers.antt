-- The forms whose construct is known from the form alone.
use Rattle.std.proofs.Common.{Some, sym, ap, ◌∙◌}
use Rattle.hp_built.specs.declared.construct.Construct.{Construct}
use Rattle.hp_built.proofs.FormConstructs.{of_column, of_field, of_unary}
use Rattle.hp_built.proofs.construct.valued_construct.Goals as goal

pub returns-in-Column : goal.returns-in-Column
returns-in-Column c = sym (of_column c.args.shapes.now c.args.found.now c.args.x.now c.in-Column.field-0 c.in-Column.is)

pub returns-in-Field : goal.returns-in-Field
returns-in-Field c = sym (of_field c.args.shapes.now c.args.found.now c.args.x.now c.in-Field.field-0 c.in-Field.field-1 c.in-Field.is)

pub returns-in-Unary : goal.returns-in-Unary
returns-in-Unary c =
    ap (λ (made : Construct). Some made) c.unary_construct.ensures
    ∙ sym (of_unary c.args.shapes.now c.args.found.now c.args.x.now c.in-Unary.op c.in-Unary.dotted c.in-Unary.field-2 c.in-Unary.is)
