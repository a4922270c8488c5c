-- The columns so far.
use Rattle.std.proofs.Common.{◌≡◌, ◌++◌, map, take}
use Rattle.hp_word.specs.LoopRules.{word_at}
use Rattle.hp_spmd.proofs.local.joins.add_left.Given as goal

abbrev pub invariant-loop-cells : goal.invariant-loop-cells
invariant-loop-cells l = l.made.items ≡ l.initial.made.items ++ map (λ cells. map (λ p. word_at cells p.left) l.pairs) (map (λ c. c.now) (take l.cells-index l.columns))
