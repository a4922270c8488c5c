-- The places so far.
use Rattle.std.proofs.Common.{◌≡◌, map, take}
use Rattle.hp_meaning.specs.KeyedRows.{next_place}
use Rattle.hp_meaning.proofs.joins.places_of.Given as goal

abbrev pub invariant-loop-pair : goal.invariant-loop-pair
invariant-loop-pair l = l.made ≡ map next_place (take l.pair-index l.pairs)
