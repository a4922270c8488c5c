use Rattle.std.proofs.Common.{rules}
use Rattle.hp_alone.proofs.Summed.{sums_performs, sums_shares}
use Rattle.hp_alone.proofs.summing.running_sums.Goals as goal

pub returns-clause-does : goal.returns-clause-does
returns-clause-does c = sums_performs c.args.to c.args.from c.args.part c.args.start c.in_ok-list.list (search rules)

pub returns-clause-shares : goal.returns-clause-shares
returns-clause-shares c = sums_shares c.args.to c.args.from c.args.part c.args.start c.in_ok-list.list (search rules)
