use Rattle.std.proofs.Common.{rules}
use Rattle.hp_exchange.proofs.Haloing.{halo_leaves, halo_shares, halo_surrounds}
use Rattle.hp_exchange.proofs.halos.halo.Goals as goal

pub returns-clause-does : goal.returns-clause-does
returns-clause-does c = halo_leaves c.args.array c.args.reach c.args.to c.in_ok-list.list (search rules)

pub returns-clause-gets : goal.returns-clause-gets
returns-clause-gets c = halo_surrounds c.args.array c.args.reach c.args.to c.in_ok-list.list (search rules)

pub returns-clause-shares : goal.returns-clause-shares
returns-clause-shares c = halo_shares c.args.array c.args.reach c.args.to c.in_ok-list.list (search rules)
