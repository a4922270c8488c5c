-- What the expression tells at the point that is kept, it tells at the point of the script.
use Rattle.hp_script.specs.Mirror.{tree_of}
use Rattle.hp_types.proofs.Telling.{value_told}
use Rattle.hp_types.proofs.statements.value.Goals as goal

pub returns : goal.returns
returns c s at =
    value_told s c.args.assigned.now c.args.variables.now (tree_of c.args.x.now) c.args.found.now c.expression.new.found c.expression.result c.new-scope.result
    c.new-scope.ensures c.expression.ensures.told c.expression.ensures.grew at
