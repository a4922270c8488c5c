-- The receiver is one of the ranks.
use Rattle.std.proofs.Common.{◌<◌, subst}
use Rattle.hp_machine.proofs.ActLemmas.{receives_among}
use Rattle.hp_machine.proofs.action.has_space.Goals as goal

pub len-requires-clause-receiver : goal.len-requires-clause-receiver
len-requires-clause-receiver c =
    subst (λ n. c.in-Some.to < n) c.requires.ranks (receives_among c.args.code.now c.args.rank.now.store c.post_to.result c.in-Some.to c.requires.able c.post_to.ensures c.in-Some.is)
