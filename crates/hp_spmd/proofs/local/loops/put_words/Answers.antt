-- Each fold's word is set.
use Rattle.std.proofs.Common.{pos, get_or, FitsSigned, rules, ◌∙◌, w64}
use Rattle.std.proofs.lemmas.Int.{to_z-of_z}
use Rattle.hp_spmd.proofs.LocalLoops.{words_step, words_past}
use Rattle.hp_spmd.proofs.local.loops.put_words.Goals as goal
use Rattle.hp_spmd.proofs.local.loops.put_words.Goals.{then-k-made, else-k-made}

pub loop-k-preserved : goal.loop-k-preserved
loop-k-preserved c =
    elim c.if-k-made.branch [
      | then-k-made w ↦
          let fits : FitsSigned w64 (get_or c.args.made.now c.loop-k.k (pos 0)) = search rules in
          let written = rw (to_z-of_z w64 (get_or c.args.made.now c.loop-k.k (pos 0)) fits) at w.put.ensures in
          words_step c.args.folds.now _ c.args.made.now c.loop-k.words _ c.loop-k.k _ c.as_slice-folding-items.ensures c.loop-k-test.true w.if-k-made.true (w.words-is ∙ written) ∙ c.loop-k.invariant
      | else-k-made w ↦ words_past c.args.folds.now c.args.made.now c.loop-k.words _ c.loop-k.k w.if-k-made.false w.words-is ∙ c.loop-k.invariant
    ]
