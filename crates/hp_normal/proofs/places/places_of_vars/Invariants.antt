-- Of each name the first of the variables so far is held.
use Rattle.std.proofs.Common.{take}
use Rattle.hp_normal.specs.PlacesFound.{HasNames}
use Rattle.hp_normal.proofs.places.places_of_vars.Given as goal

abbrev pub invariant-loop-place : goal.invariant-loop-place
invariant-loop-place l = HasNames (take l.place l.vars) l.places.entries
