-- What is found by its name.
use Rattle.std.proofs.Common.{refl}
use Rattle.hp_meaning.proofs.ScopeLemmas.{value_found, value_missing}
use Rattle.hp_meaning.proofs.scope.value_named.Goals as goal

pub returns-in-Some : goal.returns-in-Some
returns-in-Some c = value_found c.args.name.now c.args.vars.now c.in-Some.var.now c.in-Some.ensures

pub returns-in-None : goal.returns-in-None
returns-in-None c = (refl, value_missing c.args.name.now c.args.vars.now c.in-None.ensures)
