-- The sums so far.
use Rattle.std.proofs.Common.{◌≡◌, take}
use Rattle.hp_word.specs.Folds.{sum_z}
use Rattle.hp_word.specs.ListRules.{prefix_sums}
use Rattle.hp_word.specs.Words.{wrap}
use Rattle.hp_meaning.proofs.lists.prefix_sums.Given as goal

abbrev pub invariant-loop-x : goal.invariant-loop-x
invariant-loop-x l = record { made_is : l.made ≡ prefix_sums (take l.x-index l.xs); total_is : l.total ≡ wrap (sum_z (take l.x-index l.xs)) }
