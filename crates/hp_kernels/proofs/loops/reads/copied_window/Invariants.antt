-- The cells so far.
use Rattle.std.proofs.Common.{◌≡◌, ◌+◌, ◌<◌, ◌+ℤ◌, ℕ, pos, length}
use Rattle.hp_word.specs.LoopRules.{cell_at, word_at}
use Rattle.hp_kernels.proofs.loops.reads.copied_window.Given as goal

abbrev pub invariant-loop-i : goal.invariant-loop-i
invariant-loop-i l = record {
  long : length l.made.items ≡ l.places;
  done : (k : ℕ) → k < l.i → word_at l.made.items k ≡ cell_at l.cells (pos (l.first + k) +ℤ l.by);
}
