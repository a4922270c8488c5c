-- Of each number the first place of those so far is held.
use Rattle.std.proofs.Common.{take}
use Rattle.std.specs.Prelude.{nat_eq}
use Rattle.indexmap.specs.IndexMap.{get}
use Rattle.hp_normal.specs.PlacesFound.{HasNumbers}
use Rattle.hp_normal.proofs.places.places_of_numbers.Given as goal

abbrev pub invariant-loop-place : goal.invariant-loop-place
invariant-loop-place l = HasNumbers (take l.place l.numbers) (get nat_eq l.places)
