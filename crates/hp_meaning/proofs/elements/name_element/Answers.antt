-- The parameter, or the variable of the name.
use Rattle.std.proofs.Common.{rules, ◌≡◌, true, false, Some}
use Rattle.std.specs.Prelude.{bytes_eq}
use Rattle.hp_meaning.specs.Scopes.{value_named}
use Rattle.hp_meaning.proofs.ElementLemmas.{named_parameter, named_variable}
use Rattle.hp_meaning.proofs.elements.name_element.Goals as goal

pub returns-then-eq : goal.returns-then-eq
returns-then-eq c =
    let is : true ≡ bytes_eq c.args.name.now c.args.binding.parameter.now = search rules in
    named_parameter c.args.name.now c.args.binding.parameter.now c.args.binding.role c.args.binding.vars.now c.parameter.result is c.parameter.ensures

pub returns-in-Ok : goal.returns-in-Ok
returns-in-Ok c =
    let other : false ≡ bytes_eq c.args.name.now c.args.binding.parameter.now = search rules in
    let found : value_named c.args.name.now c.args.binding.vars.now ≡ Some c.in-Ok.found.now = search rules in
    named_variable c.args.name.now c.args.binding.parameter.now c.args.binding.role c.args.binding.vars.now c.in-Ok.found.now c.variable.result other found c.variable.ensures
