-- One more cell, or none where the mask is not true.
use Rattle.std.proofs.Common.{FitsSigned, w64, pos, get_or, ◌∙◌, sym, rules}
use Rattle.std.proofs.lemmas.Int.{to_z-of_z}
use Rattle.hp_kernels.proofs.FilterLemmas.{rows_pushed, rows_same, rows_end}
use Rattle.hp_kernels.proofs.filters.select.Goals.{then-i-column+then-is_true+in_ok-push, else-i-column, else-i-column-via-then-i-column+else-is_true, else-i-column-via-else-i-column}
use Rattle.hp_kernels.proofs.filters.select.Goals as goal

pub loop-i-preserved : goal.loop-i-preserved
loop-i-preserved c =
    let mask = c.args.mask.now in
    let column = c.args.column.now in
    let i = c.loop-i.i in
    elim c.if-i-column.branch [
      | then-i-column+then-is_true+in_ok-push w ↦
          let test : FitsSigned w64 (get_or c.args.mask.now c.loop-i.i (pos 0)) = search rules in
          let cell : FitsSigned w64 (get_or c.args.column.now c.loop-i.i (pos 0)) = search rules in
          let holds = rw (to_z-of_z w64 (get_or c.args.mask.now c.loop-i.i (pos 0)) test) at w.if-is_true.ensures in
          let pushed = rw (to_z-of_z w64 (get_or c.args.column.now c.loop-i.i (pos 0)) cell) at w.in_ok-push.ensures.items in
          rw w.made-is (rows_pushed mask column i c.loop-i.made.items w.push.new.self.items c.loop-i-test.true w.if-i-column.true holds c.loop-i.invariant pushed)
      | else-i-column w ↦
          elim w.else-i-column.branch [
            | else-i-column-via-then-i-column+else-is_true w' ↦
                let test : FitsSigned w64 (get_or c.args.mask.now c.loop-i.i (pos 0)) = search rules in
                let fails = rw (to_z-of_z w64 (get_or c.args.mask.now c.loop-i.i (pos 0)) test) at w'.if-is_true.ensures in
                rw w.made-is (c.loop-i.invariant ∙ sym (rows_same mask column i c.loop-i-test.true fails))
            | else-i-column-via-else-i-column w' ↦ rw w.made-is (c.loop-i.invariant ∙ sym (rows_end mask column i w'.if-i-column.false))
          ]
    ]
