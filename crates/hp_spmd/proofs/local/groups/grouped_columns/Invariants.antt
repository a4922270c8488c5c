-- The keys of the groups and then the measures so far.
use Rattle.std.proofs.Common.{◌≡◌, ◌∷◌, map, take}
use Rattle.hp_word.specs.LoopRules.{word_at}
use Rattle.hp_word.specs.RowRules.{column_at, firsts_from_0, group_keys, measured}
use Rattle.hp_spmd.proofs.local.groups.grouped_columns.Given as goal

abbrev pub invariant-loop-measure : goal.invariant-loop-measure
invariant-loop-measure l = l.made.items ≡ map (word_at l.keys) (firsts_from_0 l.keys) ∷ map (λ m. map (measured m.kind l.keys (column_at m.column (map (λ c. c.now) l.columns))) (group_keys l.keys)) (take l.measure-index l.measures)
