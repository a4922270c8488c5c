-- One more word is joined.
use Rattle.std.proofs.Common.{rules, pos, get_or, ◌∙◌, ap, refl, set, FitsSigned, w64}
use Rattle.std.proofs.lemmas.Int.{to_z-of_z}
use Rattle.hp_word.specs.Folds.{joined}
use Rattle.hp_kernels.specs.LoopColumns.{first_rows, joined_with}
use Rattle.hp_kernels.proofs.BlockLemmas.{changed_end, changed_step, changed_stays}
use Rattle.hp_kernels.proofs.loops.made.join_words.Goals as goal
use Rattle.hp_kernels.proofs.loops.made.join_words.Goals.{then-k-words, else-k-words}

pub loop-k-preserved : goal.loop-k-preserved
loop-k-preserved c =
    elim c.if-k-words.branch [
      | then-k-words w ↦
          let rows = first_rows c.args.places c.args.kept.now in
          let i = c.loop-k.k in
          let now = c.loop-k.words in
          let value_fits : FitsSigned w64 w.fold_let-word.result = search rules in
          let word_fits : FitsSigned w64 (get_or now i (pos 0)) = search rules in
          let fits : FitsSigned w64 w.fold.result = search rules in
          let written = rw (to_z-of_z w64 w.fold.result fits) at w.words-is in
          let joins = rw (to_z-of_z w64 w.fold_let-word.result value_fits, to_z-of_z w64 (get_or now i (pos 0)) word_fits) at w.fold.ensures in
          changed_step (joined_with rows) i c.args.folds.now c.args.words.now now _ _ (get_or now i (pos 0)) (pos 0) c.loop-k.invariant c.loop-k-test.true w.if-k-words.true refl
          (written ∙ ap (set now i) (joins ∙ ap (joined _ (get_or now i (pos 0))) w.fold_let-word.ensures))
      | else-k-words w ↦ w.words-is ∙ changed_stays (joined_with (first_rows c.args.places c.args.kept.now)) c.loop-k.k c.args.folds.now c.args.words.now c.loop-k.words c.loop-k.invariant w.if-k-words.false
    ]

pub returns : goal.returns
returns c = changed_end (joined_with (first_rows c.args.places c.args.kept.now)) c.loop-k.k c.args.folds.now c.args.words.now _ c.loop-k.invariant c.loop-k-test.false
