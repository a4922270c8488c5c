-- One more column has the cells.
use Rattle.std.proofs.Common.{map, ap, ◌∙◌}
use Rattle.hp_kernels.specs.LoopColumns.{first_rows, with_cells}
use Rattle.hp_kernels.proofs.BlockLemmas.{changed_end, column_step, column_stays}
use Rattle.hp_kernels.proofs.loops.made.add_columns.Goals as goal
use Rattle.hp_kernels.proofs.loops.made.add_columns.Goals.{then-k-columns+in_ok-add_let, else-k-columns}

pub loop-k-preserved : goal.loop-k-preserved
loop-k-preserved c =
    elim c.if-k-columns.branch [
      | then-k-columns+in_ok-add_let w ↦
          column_step (first_rows c.args.places c.args.kept.now) c.loop-k.k c.args.outs.now c.args.columns.now c.loop-k.columns _ w.index-columns-k.result w.add_let.new.cells c.loop-k.invariant c.loop-k-test.true w.if-k-columns.true w.in_ok-add_let.ensures w.columns-is
      | else-k-columns w ↦ ap (map (λ v. v.items)) w.columns-is ∙ column_stays (first_rows c.args.places c.args.kept.now) c.loop-k.k c.args.outs.now c.args.columns.now c.loop-k.columns c.loop-k.invariant w.if-k-columns.false
    ]

pub returns : goal.returns
returns c = changed_end (with_cells (first_rows c.args.places c.args.kept.now)) c.loop-k.k c.args.outs.now (map (λ c. c.items) c.args.columns.now) _ c.loop-k.invariant c.loop-k-test.false
