-- The places so far.
use Rattle.std.proofs.Common.{◌≡◌, map, take}
use Rattle.hp_meaning.specs.KeyedRows.{first_place}
use Rattle.hp_meaning.proofs.groups.places_of.Given as goal

abbrev pub invariant-loop-first : goal.invariant-loop-first
invariant-loop-first l = l.made ≡ map first_place (take l.first-index l.firsts)
