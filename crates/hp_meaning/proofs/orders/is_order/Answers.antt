-- Both tests together tell an order.
use Rattle.std.proofs.Common.{◌∙◌, sym}
use Rattle.hp_meaning.proofs.PlaceLemmas.{order_counted, once_and, not_once}
use Rattle.hp_meaning.proofs.orders.is_order.Goals as goal
use Rattle.hp_meaning.proofs.orders.is_order.Goals.{then-each_once, else-each_once}

pub returns-clause-ok : goal.returns-clause-ok
returns-clause-ok c =
    let whole = order_counted c.args.plain.now c.args.places.now c.in_ok-all.all c.in_ok-given.given c.in_ok-all.ensures.ok c.in_ok-given.ensures.ok in
    elim c.if-each_once.branch [
      | then-each_once w ↦ once_and _ _ c.if-each_once.result (sym c.each_once.ensures ∙ w.if-each_once.true) (w.result-is ∙ w.all_stand.ensures) ∙ whole
      | else-each_once w ↦ not_once _ _ c.if-each_once.result (sym c.each_once.ensures ∙ w.if-each_once.false) (w.result-is ∙ w.if-each_once.false) ∙ whole
    ]
