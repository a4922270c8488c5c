-- One more row.
use Rattle.std.proofs.Common.{arith}
use Rattle.hp_word.specs.RowRules.{row_at}
use Rattle.std.proofs.lemmas.List.FromFn.{map-range_with_len_more}
use Rattle.hp_meaning.proofs.matrices.rows_of.Goals as goal

pub loop-i-preserved : goal.loop-i-preserved
loop-i-preserved c =
    let made = map-range_with_len_more (row_at c.args.matrix.now.columns) 0 c.loop-i.i c.loop-i.i (omega arith) in
    cc (made, c.in_ok-push.ensures.ok, c.in_ok-row_at.ensures, c.as_slice.ensures)
