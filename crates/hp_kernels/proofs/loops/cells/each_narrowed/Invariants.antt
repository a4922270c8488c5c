-- The places so far say whether they count further, and the others are as they were.
use Rattle.std.proofs.Common.{◌≡◌, ℕ, ◌≤◌}
use Rattle.hp_word.specs.LoopRules.{word_at}
use Rattle.hp_kernels.specs.LoopColumns.{Narrows}
use Rattle.hp_kernels.proofs.loops.cells.each_narrowed.Given as goal

abbrev pub invariant-loop-i : goal.invariant-loop-i
invariant-loop-i l = record {
  done : Narrows l.wanted l.mask l.i l.initial.cells l.cells;
  rest : (k : ℕ) → l.i ≤ k → word_at l.cells k ≡ word_at l.initial.cells k;
}
