-- What is held so far are columns of frames.
use Rattle.std.specs.Prelude.{nat_eq, slice_get}
use Rattle.std.specs.Option.{option_map}
use Rattle.indexmap.specs.IndexMap.{get}
use Rattle.hp_normal.specs.PlacesFound.{HasFrames}
use Rattle.hp_normal.proofs.column_places.frames_of_vars.Given as goal

abbrev pub invariant-loop-place : goal.invariant-loop-place
invariant-loop-place l = HasFrames (λ n. option_map (λ v. v.shape) (slice_get l.vars n)) (get nat_eq l.frames)
