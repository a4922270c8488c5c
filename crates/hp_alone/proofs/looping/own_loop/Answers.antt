use Rattle.std.proofs.Common.{rules}
use Rattle.hp_alone.proofs.LoopedWhole.{own_loop_folds, own_loop_performs, own_loop_shares, own_loop_whole}
use Rattle.hp_alone.proofs.looping.own_loop.Goals as goal

pub returns-clause-does : goal.returns-clause-does
returns-clause-does c = own_loop_performs c.args.body c.in_ok-list.list (search rules)

pub returns-clause-folds : goal.returns-clause-folds
returns-clause-folds c = own_loop_folds c.args.body c.in_ok-list.list (search rules)

pub returns-clause-whole : goal.returns-clause-whole
returns-clause-whole c = own_loop_whole c.args.body c.in_ok-list.list (search rules)

pub returns-clause-shares : goal.returns-clause-shares
returns-clause-shares c = own_loop_shares c.args.body c.in_ok-list.list (search rules)
