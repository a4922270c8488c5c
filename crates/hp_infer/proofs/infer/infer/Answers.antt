-- Where no constraint is linked, what was found is the greatest solution.
use Rattle.hp_infer.proofs.TurnLemmas.{work_ends}
use Rattle.hp_infer.proofs.infer.infer.Goals as goal

pub returns-clause-greatest : goal.returns-clause-greatest
returns-clause-greatest g c = work_ends c.work.inside.system c.settle.new.dists c.settle.new.board c.settle.ensures.work c.settle.ensures.none
