-- One more place says whether it counts further.
use Rattle.std.proofs.Common.{◌≡◌, ◌<◌, rules, arith, ℕ, ℤ, ◌&&◌, length, FitsSigned, w64}
use Rattle.std.proofs.lemmas.Int.{to_z-of_z}
use Rattle.hp_word.specs.LoopRules.{word_at}
use Rattle.hp_word.specs.Words.{is_true}
use Rattle.hp_kernels.specs.LoopColumns.{counts, is_wanted}
use Rattle.hp_kernels.proofs.CellLemmas.{changed_next, rest_next}
use Rattle.hp_kernels.proofs.loops.cells.each_narrowed.Goals as goal

pub loop-i-preserved : goal.loop-i-preserved
loop-i-preserved c =
    let i = c.loop-i.i in
    let now = c.loop-i.cells in
    let first = c.args.cells.now in
    let word = c.narrowed_word-word.result in
    let fits : FitsSigned w64 word = search rules in
    let there : i < length now = omega arith in
    let this : is_true word ≡ (counts c.args.mask i && is_wanted c.args.wanted (word_at first i)) = search rules in
    rw (to_z-of_z w64 word fits)
    (record {
      done = changed_next (λ (k : ℕ) (x : ℤ). is_true x ≡ (counts c.args.mask k && is_wanted c.args.wanted (word_at first k))) i first now word there this c.loop-i.invariant.done;
      rest = rest_next i first now word c.loop-i.invariant.rest;
    })
