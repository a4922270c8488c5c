-- A separator stands before each text but the first.
use Rattle.std.proofs.Common.{rules, FitsSigned, w64, pos}
use Rattle.std.specs.Fmt.{signed_decimal}
use Rattle.std.specs.Prelude.{codes, slice_index_or}
use Rattle.std.proofs.lemmas.Int.{to_z-of_z}
use Rattle.hp_meaning.specs.declared.value.Column.{Column}
use Rattle.hp_word.proofs.TextLemmas.{next_text}
use Rattle.hp_meaning.proofs.output.add_cells.Goals as goal

pub loop-i-preserved : goal.loop-i-preserved
loop-i-preserved c =
    let fits : FitsSigned w64 c.cell_at.result = search rules in
    next_text (λ (column : Column). signed_decimal (slice_index_or column.cells c.args.place (pos 0))) (codes ",") c.args.columns.now c.loop-i.i c.index-columns-i.result c.index-columns-i.result
    c.args.out.now.items c.loop-i.out.items c.add_between.new.out.items c.add_number.new.out.items
    c.loop-i-test.true c.index-columns-i.is c.loop-i.invariant (rw c.as_slice.ensures at c.in_ok-add_between.ensures) (rw (to_z-of_z w64 c.cell_at.result fits, c.cell_at.ensures, c.as_slice-in-loop-i.ensures) at c.in_ok-add_number.ensures)
