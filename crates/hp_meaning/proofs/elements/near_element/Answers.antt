-- A neighbour of the place is read in the halo.
use Rattle.std.proofs.Common.{rules, ◌≡◌, true, Some, FitsSigned, w64}
use Rattle.std.proofs.lemmas.Int.{to_z-of_z}
use Rattle.hp_script.specs.Mirror.{tree_of}
use Rattle.hp_meaning.specs.LambdaRules.{distance, is_variable}
use Rattle.hp_meaning.proofs.ElementLemmas.{is_near}
use Rattle.hp_meaning.proofs.elements.near_element.Goals as goal

pub returns : goal.returns
returns c =
    let named : true ≡ is_variable c.args.binding.parameter.now (tree_of c.args.x.now) = search rules in
    let far : distance (tree_of c.args.d.now) ≡ Some c.in-Some.by = search rules in
    let fits : FitsSigned w64 c.in-Some.by = search rules in
    let elem = rw (to_z-of_z w64 c.in-Some.by fits) at c.in-Some-near_by.ensures in
    is_near (tree_of c.args.x.now) (tree_of c.args.d.now) c.args.binding.parameter.now c.args.binding.role c.args.binding.vars.now c.in-Some.by c.in-Some-near_by.elem named c.in-Around.is far elem
