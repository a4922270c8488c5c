-- A call leaves the run of all turns that were made.
use Rattle.std.proofs.Common.{length}
use Rattle.hp_machine.proofs.RunLemmas.{later_is_run}
use Rattle.hp_machine_tests.proofs.runs.run.Goals as goal

pub loop-call-preserved : goal.loop-call-preserved
loop-call-preserved g c = (
  later_is_run c.args.code.now (record { list = c.new.result }) (λ k. g.T.Turns.named c.loop-call.turns (g.T.Turns.seed c.loop-call.turns) k (length c.loop-call.machine.ranks.items)) (g.T.Turns.asked c.loop-call.turns) c.loop-call.machine c.run.new.self c.loop-call.taken.items c.run.new.taken.items
      c.loop-call.invariant.0 c.run.ensures.follows c.run.ensures.ranks c.run.ensures.room,
  c.run.ensures.within,
)
