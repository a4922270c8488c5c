use Rattle.std.proofs.Common.{length-drop, ◌∙◌, arith}
use Rattle.std.proofs.lemmas.List.{take_rest}
use Rattle.hp_outside.proofs.Growth.{grew_more}
use Rattle.hp_outside.proofs.sinks.put_all.Goals as goal

-- the piece is the bytes that are left, of which the sink took some
pub loop-at-preserved : goal.loop-at-preserved
loop-at-preserved g c =
    let within = rw take_rest at c.in_ok-taken.ensures.within in
    let took = rw take_rest at c.in_ok-taken.ensures.took in (
      omega (arith, within, length-drop c.loop-at.at c.args.bytes.now),
      grew_more _ _ _ c.loop-at.at c.in_ok-taken.taken c.args.bytes.now c.loop-at.invariant.1 took,
      c.in_ok-taken.ensures.cause.kept ∙ c.loop-at.invariant.2,
    )
