-- The rows of a join are made in the order that is taken.
use Rattle.std.proofs.lemmas.Result.{err_from_is_err_and}
use Rattle.hp_meaning.proofs.JoinLemmas.{joined_stop, joined_made}
use Rattle.hp_meaning.proofs.joins.joined_keys.Goals as goal

pub returns-in_err-plain : goal.returns-in_err-plain
returns-in_err-plain c =
    let p = err_from_is_err_and c.from_residual.result c.from_residual.ensures.1 in
    rw (p.1, p.2)
    (joined_stop c.args.orders.now c.args.at c.args.key.now c.args.left.columns.now c.args.right.columns.now c.args.left.keys.now c.args.right.keys.now c.args.met.now _ c.in_err-plain.ensures)

pub returns : goal.returns
returns c =
    let order = c.in_ok-taken.taken in
    joined_made c.args.orders.now c.args.at c.args.key.now c.args.left.columns.now c.args.right.columns.now c.args.left.keys.now c.args.right.keys.now c.args.met.now c.execute.new.self
    c.in_ok-number.number c.in_ok-plain.plain order.places.now order.is_bad c.in_ok-made.made
    c.in_ok-plain.ensures c.in_ok-number.ensures.ok (rw c.as_slice.ensures at c.in_ok-taken.ensures.ok) c.in_ok-made.ensures c.in_ok-execute.ensures.ok
