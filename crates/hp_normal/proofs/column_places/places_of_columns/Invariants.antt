-- Of each name the first of the columns so far is held.
use Rattle.std.proofs.Common.{take}
use Rattle.hp_normal.specs.PlacesFound.{HasColumns}
use Rattle.hp_normal.proofs.column_places.places_of_columns.Given as goal

abbrev pub invariant-loop-place : goal.invariant-loop-place
invariant-loop-place l = HasColumns (take l.place l.columns) l.places.entries
