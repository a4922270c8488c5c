-- One more cell.
use Rattle.std.proofs.Common.{◌+◌, ◌*◌, FitsSigned, rules, w64}
use Rattle.std.proofs.lemmas.Int.{to_z-of_z}
use Rattle.hp_word.specs.LoopRules.{word_at}
use Rattle.hp_spmd.proofs.GatherLemmas.{made_behind}
use Rattle.hp_spmd.proofs.local.receipts.add_column.Goals as goal

pub loop-row-preserved : goal.loop-row-preserved
loop-row-preserved c =
    let fits : FitsSigned w64 c.cell_of_row.result = search rules in
    let pushed = rw (to_z-of_z w64 c.cell_of_row.result fits) at c.in_ok-push.ensures.items in
    made_behind (λ i. word_at c.args.words.now (i * c.args.width + c.args.place)) c.loop-row.row c.args.column.now.items c.loop-row.column.items c.push.new.self.items c.cell_of_row.result c.loop-row.invariant pushed c.cell_of_row.ensures
