-- The owner is the rank that the quotient names, in the long blocks and in the short ones.
use Rattle.std.proofs.Common.{arith}
use Rattle.hp_cuts.proofs.BlockLemmas.{counted_long, counted_short, one_owner}
use Rattle.hp_cuts.proofs.cuts.owner.Goals.{then-place-longer, else-place-longer}
use Rattle.hp_cuts.proofs.cuts.owner.Goals as goal

pub returns-clause-owns : goal.returns-clause-owns
returns-clause-owns c =
    elim c.if-place-longer.branch [
      | then-place-longer w ↦ counted_long c.args.place c.args.length c.from-count.result c.args.ranks c.if-place-longer.rank c.from-count.ensures c.requires.some (omega (arith, w.if-place-longer)) w.rank-is
      | else-place-longer w ↦ counted_short c.args.place c.args.length c.from-count.result c.args.ranks c.if-place-longer.rank c.from-count.ensures c.requires.some c.requires.inside (omega (arith, w.if-place-longer)) w.rank-is
    ]

pub returns-clause-alone : goal.returns-clause-alone
returns-clause-alone c other owns =
    one_owner c.args.place c.args.length c.args.ranks other c.if-place-longer.rank owns (returns-clause-owns c)
