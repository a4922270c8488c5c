-- An assignment.
use Rattle.std.proofs.Common.{◌≡◌, ℕ, List, Some, Option, ◌∙◌, ap, refl, sym, subst}
use Rattle.std.proofs.lemmas.Result.{err_from_is_err_and}
use Rattle.hp_script.specs.declared.typed.Shape.{Shape}
use Rattle.hp_script.specs.Checked.{keeps_shape}
use Rattle.hp_script.specs.Mirror.{tree_of}
use Rattle.hp_script.specs.Scope.{shape_among, variables_with}
use Rattle.hp_types.specs.Names.{with_name}
use Rattle.hp_types.specs.Statements.{Begins}
use Rattle.hp_types.proofs.NameSets.{begins_with}
use Rattle.hp_types.proofs.Blocks.{assign_value, assign_changes, assign_passes}
use Rattle.hp_types.proofs.Standing.{at_assignment}
use Rattle.hp_types.proofs.statements.assignment.Goals as goal

pub returns-in_err-shape-clause-told : goal.returns-in_err-shape-clause-told
returns-in_err-shape-clause-told c s at =
    let p = err_from_is_err_and c.from_residual.result c.from_residual.ensures.1 in
    rw (p.1, p.2) (assign_value s c.args.at (tree_of c.args.x.now) c.in_err-shape.field-0.0 c.args.name.now.bytes (c.in_err-shape.ensures s at))

pub returns-in_err-demand-clause-told : goal.returns-in_err-demand-clause-told
returns-in_err-demand-clause-told c s at =
    let p = err_from_is_err_and c.from_residual-in_err-demand.result c.from_residual-in_err-demand.ensures.1 in
    let told = c.in_ok-shape.ensures s at in
    let first : shape_among c.args.variables.now.list c.as_slice.result.now ≡ shape_among s.vars c.args.name.now.bytes = rw (c.as_slice.ensures, at.vars) refl in
    let keeps : c.keeps_shape.result ≡ keeps_shape (shape_among s.vars c.args.name.now.bytes) (Some c.in_ok-shape.shape) =
    c.keeps_shape.ensures ∙ ap (λ (o : Option Shape). keeps_shape o (Some c.in_ok-shape.shape)) (c.shape_of-first.ensures ∙ first) in
    rw (p.1, p.2) (assign_changes s c.args.at (tree_of c.args.x.now) c.in_err-demand.field-0.0 c.args.name.now.bytes c.in_ok-shape.shape c.keeps_shape.result told.0 told.1 keeps c.in_err-demand.ensures)

pub returns-clause-told : goal.returns-clause-told
returns-clause-told c s at =
    let first : shape_among c.args.variables.now.list c.as_slice.result.now ≡ shape_among s.vars c.args.name.now.bytes = rw (c.as_slice.ensures, at.vars) refl in
    let keeps : c.keeps_shape.result ≡ keeps_shape (shape_among s.vars c.args.name.now.bytes) (Some c.in_ok-shape.shape) =
    c.keeps_shape.ensures ∙ ap (λ (o : Option Shape). keeps_shape o (Some c.in_ok-shape.shape)) (c.shape_of-first.ensures ∙ first) in
    assign_passes s c.args.assigned.now c.args.at (tree_of c.args.x.now) c.args.found.now c.value.new.found c.assign.new.self c.args.name.now.bytes c.in_ok-shape.shape c.keeps_shape.result
    (c.in_ok-shape.ensures s at) keeps c.in_ok-demand.ensures
    (at_assignment s c.args.assigned.now c.args.variables.now c.assign.new.self c.args.name.now.bytes c.in_ok-shape.shape at
    (c.in_ok-assign.ensures.list ∙ ap (λ (n : List ℕ). variables_with (shape_among c.args.variables.now.list n) c.args.variables.now.list n c.in_ok-shape.shape) c.as_slice-2.ensures)
    (c.in_ok-assign.ensures.sure ∙ ap (λ (n : List ℕ). with_name n c.args.variables.now.sure) c.as_slice-2.ensures))

pub returns-clause-kept : goal.returns-clause-kept
returns-clause-kept c = subst (Begins c.args.variables.now.sure) (sym c.in_ok-assign.ensures.sure) (begins_with c.as_slice-2.result.now c.args.variables.now.sure)
