-- The rows of one more block, or its trap.
use Rattle.std.proofs.Common.{◌≤◌, ◌+◌, ◌++◌, List, refl, arith, subst}
use Rattle.hp_kernels.specs.declared.loops.columns.Operand.{Operand}
use Rattle.hp_kernels.specs.LoopColumns.{first_rows}
use Rattle.hp_kernels.specs.Loops.{IsMadeOf}
use Rattle.hp_kernels.proofs.RowsLemmas.{tells_all, tells_trap}
use Rattle.hp_kernels.proofs.loops.run_loop.Goals as goal

pub returns-in-Some : goal.returns-in-Some
returns-in-Some g c =
    let done = c.loop-first.invariant in
    tells_trap (g.S.Sources.sight c.args.source.now) c.args.lets.now c.loop-first.first c.args.count _ c.lets_of_block.new.reach done.0 c.in_ok-kept.kept.items c.in-Some.trap c.args.outs.now c.args.folds.now
    done.1 c.in_ok-kept.ensures refl c.in-Some.is (omega (arith, c.min-places.ensures, c.loop-first-test.true))

pub loop-first-preserved : goal.loop-first-preserved
loop-first-preserved g c =
    let done = c.loop-first.invariant in
    let places = c.min-places.result in
    let within : c.loop-first.first + places ≤ c.args.count = omega (arith, c.min-places.ensures, c.loop-first-test.true) in
    let all = tells_all (g.S.Sources.sight c.args.source.now) c.args.lets.now c.loop-first.first (c.loop-first.first + places) places _ c.lets_of_block.new.reach done.0 c.in_ok-kept.kept.items
    done.1 c.in_ok-kept.ensures refl c.in-None.is refl in
    let made = subst (λ (ks : List Operand). IsMadeOf c.args.outs.now c.args.folds.now (done.0 ++ first_rows places ks) c.add_block.new.made) c.as_slice.ensures.value (c.in_ok-add_block-in-None.ensures done.0 done.2) in
    (done.0 ++ first_rows places c.in_ok-kept.kept.items, all.0, made, within)
