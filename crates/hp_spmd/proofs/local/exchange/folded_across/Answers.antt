-- Each message adds its word.
use Rattle.std.proofs.Common.{FitsSigned, refl, rules, w64}
use Rattle.std.proofs.lemmas.Int.{to_z-of_z}
use Rattle.hp_spmd.proofs.LocalFolds.{across_step}
use Rattle.hp_spmd.proofs.local.exchange.folded_across.Goals as goal

pub loop-message-preserved : goal.loop-message-preserved
loop-message-preserved c =
    let fits : FitsSigned w64 c.fold-so_far.result = search rules in
    let word_fits : FitsSigned w64 c.item_or.result = search rules in
    let joins = rw (to_z-of_z w64 c.item_or.result word_fits) at c.fold-so_far.ensures in
    rw (to_z-of_z w64 c.fold-so_far.result fits) (across_step c.args.kind c.args.at c.loop-message.message-index c.args.inbox.now _ c.message-item.result _ _ _ refl c.loop-message-test.true c.message-item.is c.item_or.ensures c.loop-message.invariant joins)
