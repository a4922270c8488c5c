use Rattle.std.proofs.Common.{rules}
use Rattle.hp_exchange.proofs.Concatenating.{concat_deals, concat_shares, list_concatenates}
use Rattle.hp_exchange.proofs.concats.concat.Goals as goal

pub returns-clause-does : goal.returns-clause-does
returns-clause-does c = list_concatenates c.args.left c.args.right c.args.part c.args.to c.args.at c.in_ok-list.list (search rules)

pub returns-clause-gets : goal.returns-clause-gets
returns-clause-gets c = concat_deals c.args.left c.args.right c.args.part c.args.to c.args.at c.in_ok-list.list (search rules)

pub returns-clause-shares : goal.returns-clause-shares
returns-clause-shares c = concat_shares c.args.left c.args.right c.args.part c.args.to c.args.at c.in_ok-list.list (search rules)
