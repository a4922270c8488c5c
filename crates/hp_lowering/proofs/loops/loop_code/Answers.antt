use Rattle.hp_air.specs.Placed.{dist_at}
use Rattle.hp_lowering.specs.Room.{room_of}
use Rattle.hp_lowering.proofs.LoopCodes.{loop_is}
use Rattle.hp_lowering.proofs.loops.loop_code.Goals as goal

pub returns : goal.returns
returns c =
    loop_is (room_of c.args.plan.now.slots.now c.args.plan.now.words) c.args.plan.now.slots.now (dist_at c.args.plan.now.dists.now) c.args.p.now c.in_ok-list.list c.add_loop.new.list c.in_ok-list.ensures c.in_ok-add_loop.ensures
