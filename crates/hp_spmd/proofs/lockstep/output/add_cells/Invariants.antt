-- The cells so far are added.
use Rattle.std.proofs.Common.{◌≡◌, ◌++◌, ℤ, List, map, take}
use Rattle.std.specs.Fmt.{signed_decimal}
use Rattle.std.specs.Prelude.{codes}
use Rattle.hp_word.specs.LoopRules.{word_at}
use Rattle.hp_word.specs.Text.{joined_by}
use Rattle.hp_spmd.proofs.lockstep.output.add_cells.Given as goal

abbrev pub invariant-loop-i : goal.invariant-loop-i
invariant-loop-i l = l.out.items ≡ l.initial.out.items ++ joined_by (codes ",") (map (λ (cells : List ℤ). signed_decimal (word_at cells l.place)) (take l.i l.columns))
