use Rattle.std.proofs.Common.{get_or}
use Rattle.std.proofs.lemmas.List.{get_or_default}
use Rattle.hp_air.specs.Placed.{dist_at}
use Rattle.hp_lowering.specs.Room.{room_of}
use Rattle.hp_lowering.proofs.LoopCodes.{input_more, next_number}
use Rattle.hp_lowering.proofs.loops.inputs_at.Goals as goal

pub loop-input-preserved : goal.loop-input-preserved
loop-input-preserved c = (
  next_number c.loop-input.input-index c.loop-input.number c.in_ok-number.number c.loop-input.invariant.0 c.in_ok-number.ensures,
  input_more (room_of c.args.plan.now.slots.now c.args.plan.now.words) (dist_at c.args.plan.now.dists.now) c.args.leader c.args.inputs.now c.loop-input.input-index c.loop-input.number (get_or c.args.inputs.now c.loop-input.input-index 0) c.in_ok-stands.stands c.loop-input.made c.push.new.self
      c.loop-input-test.true (get_or_default c.args.inputs.now c.loop-input.input-index 0 _ c.loop-input-test.true) c.loop-input.invariant.0 c.loop-input.invariant.1 c.in_ok-stands.ensures c.in_ok-push.ensures.ok,
)
