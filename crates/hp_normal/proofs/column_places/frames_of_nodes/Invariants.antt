-- What is held so far are columns of frames.
use Rattle.std.specs.Prelude.{None, nat_eq, slice_index_or}
use Rattle.indexmap.specs.IndexMap.{get}
use Rattle.hp_normal.specs.PlacesFound.{HasFrames}
use Rattle.hp_normal.proofs.column_places.frames_of_nodes.Given as goal

abbrev pub invariant-loop-node : goal.invariant-loop-node
invariant-loop-node l = HasFrames (λ n. slice_index_or l.shapes n None) (get nat_eq l.frames)
