use Rattle.std.proofs.Common.{◌≡◌, take}
use Rattle.hp_air.specs.Placed.{dist_at}
use Rattle.hp_lowering.specs.CodeOf.{code_from}
use Rattle.hp_lowering.specs.PartCode.{part_code}
use Rattle.hp_lowering.specs.Room.{room_of}
use Rattle.hp_parfor.specs.Parts.{program_of}
use Rattle.hp_lowering.proofs.steps.+steps.Given as goal

abbrev pub invariant-steps_code-loop-step : goal.invariant-steps_code-loop-step
invariant-steps_code-loop-step l = l.list ≡ code_from (part_code (room_of l.plan.slots.now l.plan.words) l.plan.slots.now (dist_at l.plan.dists.now)) l.place (program_of (take l.step-index l.steps))
