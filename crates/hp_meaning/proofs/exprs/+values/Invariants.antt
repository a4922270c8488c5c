-- Each function evaluates parts of what it is given; what the loops have made stands before what is to come.
use Rattle.std.proofs.Common.{◌≡◌, ◌+◌, ◌*◌, drop}
use Rattle.hp_script.specs.Mirror.{tree_of, args_of}
use Rattle.hp_meaning.specs.HeldValues.{supply_in, scope_in}
use Rattle.hp_meaning.specs.ValueOf.{parts, rows_among, columns_among}
use Rattle.hp_meaning.proofs.ArrayLemmas.{behind}
use Rattle.hp_meaning.proofs.TreeSizes.{tree_size, args_size}
use Rattle.hp_meaning.proofs.exprs.+values.Given as goal

abbrev pub decreases-value : goal.decreases-value
decreases-value l = 4 * tree_size (tree_of l.x.now)

abbrev pub decreases-binary : goal.decreases-binary
decreases-binary l = 4 * tree_size (tree_of l.left.now) + 4 * tree_size (tree_of l.right.now) + 3

abbrev pub decreases-unary : goal.decreases-unary
decreases-unary l = 4 * tree_size (tree_of l.operand.now) + 1

abbrev pub decreases-strictly : goal.decreases-strictly
decreases-strictly l = 4 * tree_size (tree_of l.left.now) + 4 * tree_size (tree_of l.right.now) + 1

abbrev pub decreases-masked : goal.decreases-masked
decreases-masked l = 4 * tree_size (tree_of l.test.now) + 1

abbrev pub decreases-flipped : goal.decreases-flipped
decreases-flipped l = 4 * tree_size (tree_of l.left.now) + 4 * tree_size (tree_of l.right.now) + 1

abbrev pub decreases-lazily : goal.decreases-lazily
decreases-lazily l = 4 * tree_size (tree_of l.left.now) + 4 * tree_size (tree_of l.right.now) + 1

abbrev pub decreases-element : goal.decreases-element
decreases-element l = 4 * tree_size (tree_of l.array.now) + 4 * tree_size (tree_of l.index.now) + 1

abbrev pub decreases-call : goal.decreases-call
decreases-call l = 4 * args_size (args_of l.args.now) + 3

abbrev pub decreases-one_call : goal.decreases-one_call
decreases-one_call l = 4 * args_size (args_of l.args.now) + 1

abbrev pub decreases-two_call : goal.decreases-two_call
decreases-two_call l = 4 * args_size (args_of l.args.now) + 1

abbrev pub decreases-range_call : goal.decreases-range_call
decreases-range_call l = 4 * args_size (args_of l.args.now) + 1

abbrev pub decreases-lambda_call : goal.decreases-lambda_call
decreases-lambda_call l = 4 * args_size (args_of l.args.now) + 1

abbrev pub decreases-rows : goal.decreases-rows
decreases-rows l = 4 * args_size (args_of l.args.now) + 1

abbrev pub decreases-columns : goal.decreases-columns
decreases-columns l = 4 * args_size (args_of l.args.now) + 1

abbrev pub decreases-filter_call : goal.decreases-filter_call
decreases-filter_call l = 4 * args_size (args_of l.args.now) + 1

abbrev pub decreases-join_call : goal.decreases-join_call
decreases-join_call l = 4 * args_size (args_of l.args.now) + 1

abbrev pub decreases-aggregate_call : goal.decreases-aggregate_call
decreases-aggregate_call l = 4 * args_size (args_of l.args.now) + 1

abbrev pub decreases-sort_call : goal.decreases-sort_call
decreases-sort_call l = 4 * args_size (args_of l.args.now) + 1

-- The arrays so far stand before those to come.
abbrev pub invariant-rows-loop-arg : goal.invariant-rows-loop-arg
invariant-rows-loop-arg l =
    rows_among (parts (supply_in l.supply) (args_of l.args)) (scope_in l.scope) l.fn.seen
    ≡ behind l.made (rows_among (parts (supply_in l.supply) (args_of (drop l.arg-index l.args))) (scope_in l.scope) l.seen)

-- The columns so far stand before those to come.
abbrev pub invariant-columns-loop-arg : goal.invariant-columns-loop-arg
invariant-columns-loop-arg l =
    columns_among (parts (supply_in l.supply) (args_of l.args)) (scope_in l.scope) l.fn.seen
    ≡ behind l.made (columns_among (parts (supply_in l.supply) (args_of (drop l.arg-index l.args))) (scope_in l.scope) l.seen)
