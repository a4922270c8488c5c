-- One more cut.
use Rattle.std.proofs.Common.{refl}
use Rattle.hp_spmd.proofs.SealLemmas.{running_more, total_more}
use Rattle.hp_spmd.proofs.local.seals.running.Goals as goal

pub loop-size-preserved : goal.loop-size-preserved
loop-size-preserved c =
    let sizes = c.args.sizes.now in
    let i = c.loop-size.size-index in
    let was = c.loop-size.invariant.total_is in
    record {
      cuts_are = running_more sizes c.loop-size.cuts c.push-in-loop-size.new.self i c.loop-size.total _ c.loop-size-test.true c.loop-size.invariant.cuts_are was refl c.in_ok-push-2.ensures.ok;
      total_is = total_more sizes i c.loop-size.total _ c.loop-size-test.true was refl;
    }
