-- The measures so far are made.
use Rattle.std.proofs.Common.{◌≡◌, map, take}
use Rattle.hp_script.specs.Mirror.{tree_of}
use Rattle.hp_meaning.specs.HeldValues.{measured_in}
use Rattle.hp_flat.specs.FlatCalls.{frame_at, measure_at}
use Rattle.hp_normal.proofs.frames.measures_of.Given as goal

abbrev pub invariant-loop-measure : goal.invariant-loop-measure
invariant-loop-measure l = l.measures.items ≡ map (measure_at (frame_at l.homes (tree_of l.x))) (map measured_in (take l.measure-index l.wanted))
