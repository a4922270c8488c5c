-- The words so far are added.
use Rattle.std.proofs.Common.{◌≡◌, ◌++◌, map, take}
use Rattle.std.specs.Prelude.{codes}
use Rattle.hp_word.specs.Text.{joined_by, word_text}
use Rattle.hp_word.proofs.text.add_words.Given as goal

abbrev pub invariant-loop-i : goal.invariant-loop-i
invariant-loop-i l = l.out.items ≡ l.initial.out.items ++ joined_by (codes ", ") (map (word_text l.truth) (take l.i l.xs))
