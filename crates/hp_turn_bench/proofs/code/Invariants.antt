use Rattle.std.proofs.Common.{◌≡◌, length}
use Rattle.hp_turn_bench.proofs.CodeLemmas.{Sets}
use Rattle.hp_turn_bench.proofs.code.Given as goal

-- the code so far sets a word, so many times
abbrev pub invariant-loop-value : goal.invariant-loop-value
invariant-loop-value l = Sets l.list × (length l.list ≡ l.value)
