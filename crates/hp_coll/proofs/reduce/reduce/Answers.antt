use Rattle.hp_coll.proofs.Folding.{reduce_shares}
use Rattle.hp_coll.proofs.reduce.reduce.Goals as goal

pub returns-clause-shares : goal.returns-clause-shares
returns-clause-shares c = reduce_shares c.args.folds.now c.in_ok-list.list c.in_ok-list.ensures
