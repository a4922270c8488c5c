-- The constraints of the slots so far are added, and their first slots are held.
use Rattle.std.proofs.Common.{take, flat_map}
use Rattle.std.specs.List.{range_with_len}
use Rattle.hp_air.specs.Placed.{frame_bounds}
use Rattle.hp_constrain.specs.Firsts.{HasFirsts}
use Rattle.hp_constrain.specs.Listed.{Adds}
use Rattle.hp_constrain.proofs.frames.add_frames.Given as goal

abbrev pub invariant-loop-number : goal.invariant-loop-number
invariant-loop-number l = record {
  added : Adds (flat_map (frame_bounds l.slots) (range_with_len 0 l.number)) l.initial.list.items l.list.items;
  held : HasFirsts (take l.number l.slots) l.firsts;
}
