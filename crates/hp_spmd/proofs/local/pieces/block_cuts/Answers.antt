-- Each step adds the next start.
use Rattle.std.proofs.Common.{arith, ◌∙◌}
use Rattle.hp_spmd.proofs.LocalCuts.{cuts_more, cuts_all}
use Rattle.hp_spmd.proofs.local.pieces.block_cuts.Goals as goal

pub loop-rank-preserved : goal.loop-rank-preserved
loop-rank-preserved c =
    let more = cuts_more c.args.length c.args.ranks c.loop-rank.rank in
    cc (more, c.in_ok-push.ensures.items)

pub returns : goal.returns
returns c = c.from_vec.ensures ∙ cuts_all c.args.length c.args.ranks c.loop-rank.rank _ c.loop-rank.invariant (omega arith)
