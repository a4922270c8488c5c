-- The groups are made in the order that is taken, whose places are of the rows.
use Rattle.std.proofs.Common.{◌∙◌, ap, map}
use Rattle.std.proofs.lemmas.Result.{err_from_is_err_and}
use Rattle.hp_word.specs.RowRules.{order_taken}
use Rattle.hp_meaning.specs.HeldValues.{measured_in}
use Rattle.hp_meaning.proofs.GroupLemmas.{grouped_stop, grouped_made}
use Rattle.hp_meaning.proofs.RowPlaces.{order_rows}
use Rattle.hp_meaning.proofs.groups.grouped_keys.Goals as goal

pub grouped_rows-requires-clause-rows : goal.grouped_rows-requires-clause-rows
grouped_rows-requires-clause-rows c =
    let order = c.in_ok-taken.taken in
    order_rows c.args.keys.now c.in_ok-number.number c.args.orders.now order.places.now order.is_bad
    (c.in_ok-taken.ensures.ok ∙ ap (order_taken c.in_ok-number.number c.args.orders.now) (c.as_slice.ensures ∙ c.in_ok-plain.ensures.ok))

pub returns-in_err-made : goal.returns-in_err-made
returns-in_err-made c =
    let p = err_from_is_err_and c.from_residual-in_err-made.result c.from_residual-in_err-made.ensures.1 in
    let order = c.in_ok-taken.taken in
    rw (p.1, p.2)
    (grouped_stop c.args.orders.now c.args.key.now c.args.columns.now (map measured_in c.args.measures.now) c.args.keys.now c.args.met.now c.in_ok-number.number c.as_slice.result.now
    order.places.now order.is_bad _ (c.as_slice.ensures ∙ c.in_ok-plain.ensures.ok) c.in_ok-number.ensures.ok c.in_ok-taken.ensures.ok c.in_err-made.ensures)

pub returns : goal.returns
returns c =
    let order = c.in_ok-taken.taken in
    grouped_made c.args.orders.now c.args.key.now c.args.columns.now (map measured_in c.args.measures.now) c.args.keys.now c.args.met.now c.execute.new.self c.in_ok-number.number c.as_slice.result.now
    order.places.now order.is_bad c.in_ok-made.made (c.as_slice.ensures ∙ c.in_ok-plain.ensures.ok) c.in_ok-number.ensures.ok c.in_ok-taken.ensures.ok c.in_ok-made.ensures c.in_ok-execute.ensures.ok
