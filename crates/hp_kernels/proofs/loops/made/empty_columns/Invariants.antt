-- The columns so far.
use Rattle.std.proofs.Common.{◌≡◌, [], map, take}
use Rattle.hp_word.specs.LoopRules.{column_of}
use Rattle.hp_kernels.proofs.loops.made.empty_columns.Given as goal

abbrev pub invariant-loop-out : goal.invariant-loop-out
invariant-loop-out l = map (λ c. c.items) l.columns.items ≡ map (λ k. column_of k []) (take l._out-index l.outs)
