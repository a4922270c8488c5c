-- What is told of the parts of statements is told of the whole.
use Rattle.std.proofs.Common.{◌≡◌, take, drop, sym, ap, ◌∙◌, subst, refl, arith}
use Rattle.std.proofs.lemmas.Result.{err_from_is_err_and}
use Rattle.hp_script.specs.Checked.{second_branch, after, break_in, entries_in, files_of}
use Rattle.hp_script.specs.Mirror.{Block, tree_of, block_of}
use Rattle.hp_types.specs.declared.variables.Variables.{Variables}
use Rattle.hp_types.specs.Statements.{Begins, TellsBlock}
use Rattle.hp_types.proofs.Blocks.{grew_on, second_refuses, print_value, print_told, export_value, export_told, choose_test, choose_told, loop_test, loop_told, start_told, more_told, more_refuses, all_told, assign_block, print_block, export_block, choose_block, loop_block}
use Rattle.hp_types.specs.Names.{with_common}
use Rattle.hp_types.proofs.NameSets.{begins_same, begins_on, begins_common, front_kept, rest_kept, common_by}
use Rattle.hp_types.proofs.Sizes.{size_of, size_item, size_choose, size_loop}
use Rattle.hp_types.proofs.Standing.{at_second, at_branches, at_loop}
use Rattle.hp_types.proofs.Telling.{refuses_first}
use Rattle.hp_types.proofs.statements.+statements.Goals as goal

-- ---- less is called for

pub branches-statements-requires : goal.branches-statements-requires
branches-statements-requires t c = (omega (arith, c.decreases), tt)

pub branches-statements-requires-2 : goal.branches-statements-requires-2
branches-statements-requires-2 t c = (omega (arith, c.decreases), tt)

pub repeated-statements-requires : goal.repeated-statements-requires
repeated-statements-requires t c = (omega (arith, c.decreases), tt)

pub statement-branches-requires : goal.statement-branches-requires
statement-branches-requires t c =
    let whole = size_choose c.args.stmt.now c.in-If.at c.in-If.test c.in-If.first c.in-If.second c.in-If.is in
    let first = ap size_of c.as_slice.ensures in
    let second = ap size_of c.as_slice-in-If.ensures in
    (omega (arith, c.decreases, whole, first, second), tt)

pub statement-repeated-requires : goal.statement-repeated-requires
statement-repeated-requires t c =
    let whole = size_loop c.args.stmt.now c.in-While.at c.in-While.test c.in-While.inner c.in-While.is in
    let inner = ap size_of c.as_slice-in-While.ensures in
    (omega (arith, c.decreases, whole, inner), tt)

pub statements-statement-requires : goal.statements-statement-requires
statements-statement-requires t c =
    let item = size_item c.args.block.now c.loop-stmt.stmt-index c.stmt-item.result c.loop-stmt-test.true c.stmt-item.is in
    (omega (arith, c.decreases, item), tt)

-- ---- branches

pub branches-returns-in_err-statements-clause-told : goal.branches-returns-in_err-statements-clause-told
branches-returns-in_err-statements-clause-told t c s at =
    let p = err_from_is_err_and c.from_residual.result c.from_residual.ensures.1 in
    rw (p.1, p.2)
    (refuses_first (break_in s (block_of c.args.first.now)) (break_in (second_branch s (after s (block_of c.args.first.now))) (block_of c.args.second.now)) c.in_err-statements.field-0.0 (c.in_err-statements.ensures.told s at))

pub branches-returns-in_err-statements-2-clause-told : goal.branches-returns-in_err-statements-2-clause-told
branches-returns-in_err-statements-2-clause-told t c s at =
    let p = err_from_is_err_and c.from_residual-in_err-statements-2.result c.from_residual-in_err-statements-2.ensures.1 in
    let one = c.in_ok-statements.ensures.told s at in
    let mid : Variables = record { list = c.statements.new.variables.list; sure = c.split_off.new.self } in
    let kept : mid.sure ≡ c.args.variables.now.sure =
    c.in_ok-by_first.ensures.kept ∙ ap (λ n. take n c.statements.new.variables.sure) c.len-before.ensures ∙ front_kept c.args.variables.now.sure c.statements.new.variables.sure c.in_ok-statements.ensures.kept in
    let behind = at_second s c.args.assigned.now (block_of c.args.first.now) c.args.variables.now c.statements.new.variables mid at one.1 refl kept in
    rw (p.1, p.2)
    (second_refuses s (block_of c.args.first.now) (block_of c.args.second.now) c.in_err-statements-2.field-0.0 one.0 (c.in_err-statements-2.ensures.told (second_branch s (after s (block_of c.args.first.now))) behind))

pub branches-returns-clause-told : goal.branches-returns-clause-told
branches-returns-clause-told t c s at =
    let one = c.in_ok-statements.ensures.told s at in
    let mid : Variables = record { list = c.statements.new.variables.list; sure = c.split_off.new.self } in
    let kept : mid.sure ≡ c.args.variables.now.sure =
    c.in_ok-by_first.ensures.kept ∙ ap (λ n. take n c.statements.new.variables.sure) c.len-before.ensures ∙ front_kept c.args.variables.now.sure c.statements.new.variables.sure c.in_ok-statements.ensures.kept in
    let behind = at_second s c.args.assigned.now (block_of c.args.first.now) c.args.variables.now c.statements.new.variables mid at one.1 refl kept in
    let two = c.in_ok-statements-2.ensures.told (second_branch s (after s (block_of c.args.first.now))) behind in
    let new : Variables = record { list = c.statements-2.new.variables.list; sure = c.keep_common.new.self } in
    let second : Begins c.args.variables.now.sure c.statements-2.new.variables.sure = subst (λ front. Begins front c.statements-2.new.variables.sure) kept c.in_ok-statements-2.ensures.kept in
    let by_first : c.in_ok-by_first.by_first ≡ c.in_ok-statements.ensures.kept.more =
    c.in_ok-by_first.ensures.others ∙ ap (λ n. drop n c.statements.new.variables.sure) c.len-before.ensures ∙ rest_kept c.args.variables.now.sure c.statements.new.variables.sure c.in_ok-statements.ensures.kept in
    let by_second : drop c.len-before.result c.statements-2.new.variables.sure ≡ second.more =
    ap (λ n. drop n c.statements-2.new.variables.sure) c.len-before.ensures ∙ rest_kept c.args.variables.now.sure c.statements-2.new.variables.sure second in
    let left : take c.len-before.result c.statements-2.new.variables.sure ≡ c.args.variables.now.sure =
    ap (λ n. take n c.statements-2.new.variables.sure) c.len-before.ensures ∙ front_kept c.args.variables.now.sure c.statements-2.new.variables.sure second in
    let both : new.sure ≡ with_common c.in_ok-statements.ensures.kept.more second.more c.args.variables.now.sure =
    c.in_ok-keep_common.ensures ∙ common_by c.in_ok-by_first.by_first c.in_ok-statements.ensures.kept.more (drop c.len-before.result c.statements-2.new.variables.sure) second.more (take c.len-before.result c.statements-2.new.variables.sure) c.args.variables.now.sure by_first by_second left in (
      rw (one.0) (two.0),
      at_branches s c.args.assigned.now (block_of c.args.first.now) (block_of c.args.second.now) c.args.variables.now c.statements.new.variables c.statements-2.new.variables new c.in_ok-statements.ensures.kept second one.1 two.1 refl both,
      grew_on c.args.found.now c.statements.new.found c.statements-2.new.found (entries_in s (block_of c.args.first.now)) (entries_in (second_branch s (after s (block_of c.args.first.now))) (block_of c.args.second.now))
          (files_of (block_of c.args.first.now)) (files_of (block_of c.args.second.now)) one.2 two.2,
    )

pub branches-returns-clause-kept : goal.branches-returns-clause-kept
branches-returns-clause-kept t c =
    let kept : c.split_off.new.self ≡ c.args.variables.now.sure =
    c.in_ok-by_first.ensures.kept ∙ ap (λ n. take n c.statements.new.variables.sure) c.len-before.ensures ∙ front_kept c.args.variables.now.sure c.statements.new.variables.sure c.in_ok-statements.ensures.kept in
    let second : Begins c.args.variables.now.sure c.statements-2.new.variables.sure = subst (λ front. Begins front c.statements-2.new.variables.sure) kept c.in_ok-statements-2.ensures.kept in
    let left : take c.len-before.result c.statements-2.new.variables.sure ≡ c.args.variables.now.sure =
    ap (λ n. take n c.statements-2.new.variables.sure) c.len-before.ensures ∙ front_kept c.args.variables.now.sure c.statements-2.new.variables.sure second in
    subst (λ front. Begins front c.keep_common.new.self) left (subst (Begins (take c.len-before.result c.statements-2.new.variables.sure)) (sym c.in_ok-keep_common.ensures) (begins_common c.in_ok-by_first.by_first (drop c.len-before.result c.statements-2.new.variables.sure) (take c.len-before.result c.statements-2.new.variables.sure)))

-- ---- loops

pub repeated-returns-in_err-statements-clause-told : goal.repeated-returns-in_err-statements-clause-told
repeated-returns-in_err-statements-clause-told t c s at =
    let p = err_from_is_err_and c.from_residual.result c.from_residual.ensures.1 in
    rw (p.1, p.2) (c.in_err-statements.ensures.told s at)

pub repeated-returns-clause-told : goal.repeated-returns-clause-told
repeated-returns-clause-told t c s at =
    let told = c.in_ok-statements.ensures.told s at in
    let new : Variables = record { list = c.statements.new.variables.list; sure = c.truncate.new.self } in
    let kept : new.sure ≡ c.args.variables.now.sure =
    c.truncate.ensures ∙ ap (λ n. take n c.statements.new.variables.sure) c.len-before.ensures ∙ front_kept c.args.variables.now.sure c.statements.new.variables.sure c.in_ok-statements.ensures.kept in
    (told.0, at_loop s c.args.assigned.now (block_of c.args.inner.now) c.args.variables.now c.statements.new.variables new at told.1 refl kept, told.2)

pub repeated-returns-clause-kept : goal.repeated-returns-clause-kept
repeated-returns-clause-kept t c =
    subst (Begins c.args.variables.now.sure)
    (sym (c.truncate.ensures ∙ ap (λ n. take n c.statements.new.variables.sure) c.len-before.ensures ∙ front_kept c.args.variables.now.sure c.statements.new.variables.sure c.in_ok-statements.ensures.kept))
    (begins_same c.args.variables.now.sure)

-- ---- one statement

pub statement-returns-in-Assign-clause-told : goal.statement-returns-in-Assign-clause-told
statement-returns-in-Assign-clause-told t c s at =
    subst (λ (b : Block). TellsBlock s c.args.assigned.now b c.args.found.now c.assignment.new.variables c.assignment.new.found c.assignment.result)
    (sym (assign_block c.args.stmt.now c.in-Assign.at c.in-Assign.name c.in-Assign.x c.in-Assign.is)) (c.assignment.ensures.told s at)

pub statement-returns-in_err-shape-in-Print-clause-told : goal.statement-returns-in_err-shape-in-Print-clause-told
statement-returns-in_err-shape-in-Print-clause-told t c s at =
    let p = err_from_is_err_and c.from_residual.result c.from_residual.ensures.1 in
    rw (p.1, p.2, print_block c.args.stmt.now c.in-Print.at c.in-Print.x c.in-Print.is)
    (print_value s c.in-Print.at (tree_of c.in-Print.x) c.in_err-shape-in-Print.field-0.0 (c.in_err-shape-in-Print.ensures s at))

pub statement-returns-in_ok-shape-in-Print-clause-told : goal.statement-returns-in_ok-shape-in-Print-clause-told
statement-returns-in_ok-shape-in-Print-clause-told t c s at =
    subst (λ (b : Block). TellsBlock s c.args.assigned.now b c.args.found.now c.args.variables.now c.value.new.found c.demand.result)
    (sym (print_block c.args.stmt.now c.in-Print.at c.in-Print.x c.in-Print.is))
    (print_told s c.args.assigned.now c.in-Print.at (tree_of c.in-Print.x) c.args.found.now c.value.new.found c.args.variables.now c.demand.result c.in_ok-shape-in-Print.shape c.is_printed.result
    (c.in_ok-shape-in-Print.ensures s at) c.is_printed.ensures c.demand.ensures at)

pub statement-returns-in_err-shape-in-Export-clause-told : goal.statement-returns-in_err-shape-in-Export-clause-told
statement-returns-in_err-shape-in-Export-clause-told t c s at =
    let p = err_from_is_err_and c.from_residual-in_err-shape-in-Export.result c.from_residual-in_err-shape-in-Export.ensures.1 in
    rw (p.1, p.2, export_block c.args.stmt.now c.in-Export.at c.in-Export.x c.in-Export.is)
    (export_value s c.in-Export.at (tree_of c.in-Export.x) c.in_err-shape-in-Export.field-0.0 (c.in_err-shape-in-Export.ensures s at))

pub statement-returns-in_ok-shape-in-Export-clause-told : goal.statement-returns-in_ok-shape-in-Export-clause-told
statement-returns-in_ok-shape-in-Export-clause-told t c s at =
    subst (λ (b : Block). TellsBlock s c.args.assigned.now b c.args.found.now c.args.variables.now c.value-in-Export.new.found c.demand-in-Export.result)
    (sym (export_block c.args.stmt.now c.in-Export.at c.in-Export.x c.in-Export.is))
    (export_told s c.args.assigned.now c.in-Export.at (tree_of c.in-Export.x) c.args.found.now c.value-in-Export.new.found c.args.variables.now c.demand-in-Export.result c.in_ok-shape-in-Export.shape
    c.is_frame.result (c.in_ok-shape-in-Export.ensures s at) c.is_frame.ensures c.demand-in-Export.ensures at)

pub statement-returns-in_err-condition-in-If-clause-told : goal.statement-returns-in_err-condition-in-If-clause-told
statement-returns-in_err-condition-in-If-clause-told t c s at =
    let p = err_from_is_err_and c.from_residual-in_err-condition-in-If.result c.from_residual-in_err-condition-in-If.ensures.1 in
    rw (p.1, p.2, choose_block c.args.stmt.now c.in-If.at c.in-If.test c.in-If.first c.in-If.second c.in-If.is)
    (choose_test s c.in-If.at (tree_of c.in-If.test) c.in_err-condition-in-If.field-0.0 (block_of c.in-If.first) (block_of c.in-If.second) (c.in_err-condition-in-If.ensures s at))

pub statement-returns-in_ok-condition-in-If-clause-told : goal.statement-returns-in_ok-condition-in-If-clause-told
statement-returns-in_ok-condition-in-If-clause-told t c s at =
    let parts = rw (c.as_slice.ensures, c.as_slice-in-If.ensures) at (c.branches.ensures.told s at) in
    subst (λ (b : Block). TellsBlock s c.args.assigned.now b c.args.found.now c.branches.new.variables c.branches.new.found c.branches.result)
    (sym (choose_block c.args.stmt.now c.in-If.at c.in-If.test c.in-If.first c.in-If.second c.in-If.is))
    (choose_told s c.args.assigned.now c.in-If.at (tree_of c.in-If.test) c.args.found.now c.branches.new.found c.branches.new.variables c.condition.new.found c.branches.result
    (block_of c.in-If.first) (block_of c.in-If.second) c.in_ok-condition-in-If.field-0 (c.in_ok-condition-in-If.ensures s at) parts)

pub statement-returns-in_err-condition-in-While-clause-told : goal.statement-returns-in_err-condition-in-While-clause-told
statement-returns-in_err-condition-in-While-clause-told t c s at =
    let p = err_from_is_err_and c.from_residual-in_err-condition-in-While.result c.from_residual-in_err-condition-in-While.ensures.1 in
    rw (p.1, p.2, loop_block c.args.stmt.now c.in-While.at c.in-While.test c.in-While.inner c.in-While.is)
    (loop_test s c.in-While.at (tree_of c.in-While.test) c.in_err-condition-in-While.field-0.0 (block_of c.in-While.inner) (c.in_err-condition-in-While.ensures s at))

pub statement-returns-in_ok-condition-in-While-clause-told : goal.statement-returns-in_ok-condition-in-While-clause-told
statement-returns-in_ok-condition-in-While-clause-told t c s at =
    let part = rw (c.as_slice-in-While.ensures) at (c.repeated.ensures.told s at) in
    subst (λ (b : Block). TellsBlock s c.args.assigned.now b c.args.found.now c.repeated.new.variables c.repeated.new.found c.repeated.result)
    (sym (loop_block c.args.stmt.now c.in-While.at c.in-While.test c.in-While.inner c.in-While.is))
    (loop_told s c.args.assigned.now c.in-While.at (tree_of c.in-While.test) c.args.found.now c.repeated.new.found c.repeated.new.variables c.condition-in-While.new.found c.repeated.result
    (block_of c.in-While.inner) c.in_ok-condition-in-While.field-0 (c.in_ok-condition-in-While.ensures s at) part)

-- ---- statements one after the other

pub statements-loop-stmt-init : goal.statements-loop-stmt-init
statements-loop-stmt-init t c = (λ s at. start_told s c.args.assigned.now c.args.variables.now c.args.found.now c.args.block.now at, begins_same c.args.variables.now.sure)

pub statements-returns-in_err-statement-clause-told : goal.statements-returns-in_err-statement-clause-told
statements-returns-in_err-statement-clause-told t c s at =
    let p = err_from_is_err_and c.from_residual.result c.from_residual.ensures.1 in
    let told = c.loop-stmt.invariant.0 s at in
    rw (p.1, p.2)
    (more_refuses s c.args.block.now c.loop-stmt.stmt-index c.stmt-item.result c.in_err-statement.field-0.0 c.loop-stmt-test.true c.stmt-item.is told.0
    (c.in_err-statement.ensures.told (after s (block_of (take c.loop-stmt.stmt-index c.args.block.now))) told.1))

pub statements-loop-stmt-preserved : goal.statements-loop-stmt-preserved
statements-loop-stmt-preserved t c = (
  λ s at.
      let told = c.loop-stmt.invariant.0 s at in
      more_told s c.args.assigned.now c.args.block.now c.loop-stmt.stmt-index c.stmt-item.result c.args.found.now c.loop-stmt.found c.statement.new.found c.loop-stmt.variables c.statement.new.variables
      c.loop-stmt-test.true c.stmt-item.is told (c.in_ok-statement.ensures.told (after s (block_of (take c.loop-stmt.stmt-index c.args.block.now))) told.1),
  begins_on c.args.variables.now.sure c.loop-stmt.variables.sure c.statement.new.variables.sure c.loop-stmt.invariant.1 c.in_ok-statement.ensures.kept,
)

pub statements-returns-clause-told : goal.statements-returns-clause-told
statements-returns-clause-told t c s at =
    all_told s c.args.assigned.now c.args.block.now c.loop-stmt.stmt-index c.args.found.now c.loop-stmt.found c.loop-stmt.variables (omega arith) (c.loop-stmt.invariant.0 s at)
