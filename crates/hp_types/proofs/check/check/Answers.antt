-- The statements are those of a script that begins.
use Rattle.std.proofs.Common.{◌∙◌}
use Rattle.std.proofs.lemmas.Result.{err_from_is_err_and}
use Rattle.hp_script.specs.Mirror.{block_of}
use Rattle.hp_script.proofs.FittingBlocks.{one_each, valued, narrow_vars, narrow_shapes}
use Rattle.hp_script.proofs.TypingLaws.{sound}
use Rattle.hp_types.proofs.Scripts.{Said, script_refuses, script_said}
use Rattle.hp_types.proofs.check.check.Goals as goal

pub returns-in_err-vars-clause-refused : goal.returns-in_err-vars-clause-refused
returns-in_err-vars-clause-refused c =
    let p = err_from_is_err_and c.from_residual.result c.from_residual.ensures.1 in
    rw (p.1, p.2)
    (script_refuses c.as_slice.result.now c.args.script.body c.new-variables.result c.in_err-vars.field-0.0 c.as_slice.ensures c.new-variables.ensures c.in_err-vars.ensures.told)

pub invariant_of-result : goal.invariant_of-result
invariant_of-result c =
    let said : Said (block_of c.args.script.body) c.tested.new.variables.list c.tested.new.found.shapes c.tested.new.found.reads =
    script_said c.as_slice.result.now c.args.script.body c.new-variables.result c.tested.new.variables c.new-found.result c.tested.new.found
    c.as_slice.ensures c.new-variables.ensures c.new-found.ensures c.in_ok-vars.ensures.told in
    record {
      one_each = one_each c.args.script said.fits c.tested.new.found.shapes said.shapes_are;
      valued = valued c.args.script said.fits c.tested.new.found.shapes said.shapes_are;
      narrow_vars = narrow_vars c.args.script said.fits c.in_ok-vars.vars (c.in_ok-vars.ensures.listed ∙ said.vars_are);
      narrow_shapes = narrow_shapes c.args.script said.fits c.tested.new.found.shapes said.shapes_are;
    }

pub returns-clause-checked : goal.returns-clause-checked
returns-clause-checked c =
    let said : Said (block_of c.args.script.body) c.tested.new.variables.list c.tested.new.found.shapes c.tested.new.found.reads =
    script_said c.as_slice.result.now c.args.script.body c.new-variables.result c.tested.new.variables c.new-found.result c.tested.new.found
    c.as_slice.ensures c.new-variables.ensures c.new-found.ensures c.in_ok-vars.ensures.told in
    record { fits = said.fits; vars = c.in_ok-vars.ensures.listed ∙ said.vars_are; shapes = said.shapes_are; reads = said.reads_are }

pub returns-clause-sound : goal.returns-clause-sound
returns-clause-sound c = sound _ (returns-clause-checked c)
