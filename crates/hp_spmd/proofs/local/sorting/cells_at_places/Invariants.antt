-- The cells so far.
use Rattle.std.proofs.Common.{◌≡◌, map, take}
use Rattle.hp_word.specs.LoopRules.{word_at}
use Rattle.hp_spmd.proofs.local.sorting.cells_at_places.Given as goal

abbrev pub invariant-loop-place : goal.invariant-loop-place
invariant-loop-place l = l.made.items ≡ map (word_at l.cells) (take l.place-index l.places)
