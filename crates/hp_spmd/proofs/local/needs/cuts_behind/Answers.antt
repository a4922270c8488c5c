-- All cuts.
use Rattle.std.proofs.Common.{◌∙◌, ◌-◌, min, arith, suc}
use Rattle.hp_cuts.specs.Blocks.{block_start}
use Rattle.hp_spmd.proofs.GatherLemmas.{made_all}
use Rattle.hp_spmd.proofs.local.needs.cuts_behind.Goals as goal

pub returns : goal.returns
returns c =
    c.from_vec.ensures
    ∙ made_all (λ r. min (block_start r c.args.both c.args.ranks - c.args.before) c.args.length) c.loop-rank.rank (suc c.args.ranks) _ c.loop-rank.invariant (omega arith)
