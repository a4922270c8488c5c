-- The cells so far.
use Rattle.std.proofs.Common.{◌≡◌, map, take}
use Rattle.hp_word.specs.LoopRules.{word_at}
use Rattle.hp_spmd.proofs.local.joins.right_cells.Given as goal

abbrev pub invariant-loop-pair : goal.invariant-loop-pair
invariant-loop-pair l = l.made.items ≡ map (λ p. word_at l.cells p.right) (take l.pair-index l.pairs)
