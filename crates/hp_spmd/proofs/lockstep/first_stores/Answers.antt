use Rattle.std.proofs.Common.{◌∙◌}
use Rattle.hp_spmd.proofs.LockLoop.{first_more}
use Rattle.hp_spmd.proofs.lockstep.first_stores.Goals as goal

pub loop-number-preserved : goal.loop-number-preserved
loop-number-preserved c =
    c.in_ok-push.ensures.items
    ∙ first_more c.args.code.now c.args.ranks c.loop-number.number c.loop-number.stores.items c.in_ok-new.field-0 c.loop-number.invariant c.in_ok-new.ensures
