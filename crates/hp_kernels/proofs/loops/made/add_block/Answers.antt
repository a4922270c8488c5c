-- The columns and the words of more rows.
use Rattle.std.proofs.Common.{ap, ◌∙◌}
use Rattle.hp_kernels.specs.LoopColumns.{changed_by, first_rows, joined_with, with_cells}
use Rattle.hp_kernels.proofs.BlockLemmas.{columns_more, words_more, written_back, written_words}
use Rattle.hp_kernels.proofs.loops.made.add_block.Goals as goal

pub returns : goal.returns
returns c = λ rows h. record {
  columns = written_back (λ v. v.items) (with_cells (first_rows c.args.places c.args.kept.now)) c.args.outs.now c.args.made.now.columns _ _ (c.args.made.now.columns.ok.0) c.add_columns.auto.columns c.as_mut_slice.ensures.value c.in_ok-add_columns.ensures
      ∙ ap (changed_by (with_cells (first_rows c.args.places c.args.kept.now)) c.args.outs.now) h.columns ∙ columns_more rows (first_rows c.args.places c.args.kept.now) c.args.outs.now;
  words = written_words (joined_with (first_rows c.args.places c.args.kept.now)) c.args.folds.now c.args.made.now.words _ _ (c.args.made.now.words.ok.0) c.as_mut_slice-2.ensures.value c.join_words.ensures
      ∙ ap (changed_by (joined_with (first_rows c.args.places c.args.kept.now)) c.args.folds.now) h.words ∙ words_more rows (first_rows c.args.places c.args.kept.now) c.args.folds.now;
}
