-- The places so far have their values, and the others are as they were.
use Rattle.std.proofs.Common.{◌≡◌, ℕ, ◌≤◌}
use Rattle.hp_word.specs.LoopRules.{word_at}
use Rattle.hp_kernels.specs.LoopColumns.{AreValues, calculated_on, counts}
use Rattle.hp_kernels.proofs.loops.cells.each_cell.Given as goal

abbrev pub invariant-loop-i : goal.invariant-loop-i
invariant-loop-i l = record {
  done : AreValues (counts l.mask) (λ k. calculated_on l.side l.op (word_at l.initial.cells k) (word_at l.others k)) l.i (word_at l.cells);
  rest : (k : ℕ) → l.i ≤ k → word_at l.cells k ≡ word_at l.initial.cells k;
}
