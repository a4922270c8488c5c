-- The cells so far are added.
use Rattle.std.proofs.Common.{◌≡◌, ◌++◌, map, take, pos}
use Rattle.std.specs.Fmt.{signed_decimal}
use Rattle.std.specs.Prelude.{codes, slice_index_or}
use Rattle.hp_meaning.specs.declared.value.Column.{Column}
use Rattle.hp_word.specs.Text.{joined_by}
use Rattle.hp_meaning.proofs.output.add_cells.Given as goal

abbrev pub invariant-loop-i : goal.invariant-loop-i
invariant-loop-i l = l.out.items ≡ l.initial.out.items ++ joined_by (codes ",") (map (λ (c : Column). signed_decimal (slice_index_or c.cells l.place (pos 0))) (take l.i l.columns))
