-- The true words so far are counted.
use Rattle.std.proofs.Common.{◌≡◌, ◌≤◌, length, take}
use Rattle.std.specs.Prelude.{filter}
use Rattle.hp_word.specs.Words.{is_true}
use Rattle.hp_meaning.proofs.lists.count_true.Given as goal

abbrev pub invariant-loop-x : goal.invariant-loop-x
invariant-loop-x l = record { is : l.count ≡ length (filter is_true (take l.x-index l.xs)); few : l.count ≤ l.x-index }
