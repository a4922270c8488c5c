-- One more word.
use Rattle.std.proofs.Common.{FitsSigned, rules, w64}
use Rattle.std.proofs.lemmas.Int.{to_z-of_z}
use Rattle.hp_word.specs.LoopRules.{word_at}
use Rattle.hp_spmd.proofs.MappedLemmas.{mapped_from}
use Rattle.hp_spmd.proofs.local.exchange.picked.Goals as goal

pub loop-at-preserved : goal.loop-at-preserved
loop-at-preserved c =
    let fits : FitsSigned w64 c.word_at.result = search rules in
    let pushed = rw (to_z-of_z w64 c.word_at.result fits) at c.in_ok-push.ensures.items in
    mapped_from (word_at c.args.words.now) c.args.which.now _ c.loop-at.at-index _ c.loop-at.list.items _ _ c.as_slice-at-items.ensures c.loop-at-test.true c.loop-at.invariant pushed c.word_at.ensures
