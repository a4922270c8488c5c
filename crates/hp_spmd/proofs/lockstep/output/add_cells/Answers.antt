-- A separator stands before each text but the first.
use Rattle.std.proofs.Common.{rules, FitsSigned, w64, ℤ, List}
use Rattle.std.specs.Fmt.{signed_decimal}
use Rattle.std.specs.Prelude.{codes}
use Rattle.std.proofs.lemmas.Int.{to_z-of_z}
use Rattle.hp_word.specs.LoopRules.{word_at}
use Rattle.hp_word.proofs.TextLemmas.{next_text}
use Rattle.hp_spmd.proofs.lockstep.output.add_cells.Goals as goal

pub loop-i-preserved : goal.loop-i-preserved
loop-i-preserved c =
    let fits : FitsSigned w64 c.cell_in.result = search rules in
    next_text (λ (cells : List ℤ). signed_decimal (word_at cells c.args.place)) (codes ",") c.args.columns.now c.loop-i.i c.index-columns-i.result c.index-columns-i.result
    c.args.out.now.items c.loop-i.out.items c.add_between.new.out.items c.add_number.new.out.items
    c.loop-i-test.true c.index-columns-i.is c.loop-i.invariant (rw c.as_slice.ensures at c.in_ok-add_between.ensures) (rw (to_z-of_z w64 c.cell_in.result fits, c.cell_in.ensures, c.as_slice-in-loop-i.ensures) at c.in_ok-add_number.ensures)
