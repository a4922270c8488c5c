-- A condition.
use Rattle.std.proofs.lemmas.Result.{err_from_is_err_and}
use Rattle.hp_script.specs.declared.rule.Rule.TheVariants.{WrongType}
use Rattle.hp_script.specs.Breaks.{unless}
use Rattle.hp_script.specs.Checked.{is_test}
use Rattle.hp_script.specs.Mirror.{tree_of}
use Rattle.hp_types.proofs.Telling.{refuses_first}
use Rattle.hp_types.proofs.statements.condition.Goals as goal
use Rattle.hp_script.specs.Walk.{break_of, shape_of}

pub returns-in_err-shape : goal.returns-in_err-shape
returns-in_err-shape c s at =
    let p = err_from_is_err_and c.from_residual.result c.from_residual.ensures.1 in
    rw (p.1, p.2)
    (refuses_first (break_of s (tree_of c.args.test.now)) (unless (is_test (shape_of s (tree_of c.args.test.now))) c.args.at WrongType) c.in_err-shape.field-0.0 (c.in_err-shape.ensures s at))
