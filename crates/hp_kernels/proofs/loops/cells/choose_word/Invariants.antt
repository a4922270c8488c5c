-- The places so far are chosen, and the others are as they were.
use Rattle.std.proofs.Common.{◌≡◌, ℕ, ◌≤◌}
use Rattle.hp_word.specs.LoopRules.{word_at}
use Rattle.hp_kernels.specs.LoopColumns.{Chooses}
use Rattle.hp_kernels.proofs.loops.cells.choose_word.Given as goal

abbrev pub invariant-loop-i : goal.invariant-loop-i
invariant-loop-i l = record {
  done : Chooses (λ _. l.given) l.word l.i l.initial.cells l.cells;
  rest : (k : ℕ) → l.i ≤ k → word_at l.cells k ≡ word_at l.initial.cells k;
}
