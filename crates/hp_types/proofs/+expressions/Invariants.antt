-- What is left of arguments in the loop over them; and how deep the trees of each call are: a function that passes its
-- trees on stands above the one that gets them.
use Rattle.std.proofs.Common.{◌+◌, ◌*◌, max, drop}
use Rattle.hp_script.proofs.tree.Expr.TheLaws.{the_size}
use Rattle.hp_types.proofs.ArgumentForms.{Left}
use Rattle.hp_types.proofs.+expressions.Given as goal

abbrev pub invariant-arguments::among-loop-arg : goal.invariant-arguments::among-loop-arg
invariant-arguments::among-loop-arg l = Left l.scope l.at l.function l.args l.initial.found l.found l.before (drop l.arg-index l.args)

abbrev pub decreases-expression::expression : goal.decreases-expression::expression
decreases-expression::expression l = 8 * goal.size-expression::expression l

abbrev pub decreases-expression::unary : goal.decreases-expression::unary
decreases-expression::unary l = 8 * goal.size-expression::unary l + 1

abbrev pub decreases-expression::binary : goal.decreases-expression::binary
decreases-expression::binary l = 8 * max (the_size l.left.now) (the_size l.right.now) + 2

abbrev pub decreases-expression::right_side : goal.decreases-expression::right_side
decreases-expression::right_side l = 8 * goal.size-expression::right_side l + 1

abbrev pub decreases-expression::indexed : goal.decreases-expression::indexed
decreases-expression::indexed l = 8 * max (the_size l.array.now) (the_size l.place.now) + 1

abbrev pub decreases-expression::call : goal.decreases-expression::call
decreases-expression::call l = 8 * goal.size-expression::call l + 6

abbrev pub decreases-expression::parts : goal.decreases-expression::parts
decreases-expression::parts l = 8 * goal.size-expression::parts l + 5

abbrev pub decreases-arguments::arguments : goal.decreases-arguments::arguments
decreases-arguments::arguments l = 8 * goal.size-arguments::arguments l + 4

abbrev pub decreases-arguments::array_first : goal.decreases-arguments::array_first
decreases-arguments::array_first l = 8 * goal.size-arguments::array_first l + 3

abbrev pub decreases-arguments::among : goal.decreases-arguments::among
decreases-arguments::among l = 8 * goal.size-arguments::among l + 2

abbrev pub decreases-arguments::with_next : goal.decreases-arguments::with_next
decreases-arguments::with_next l = 8 * goal.size-arguments::with_next l + 1

abbrev pub decreases-arguments::argument : goal.decreases-arguments::argument
decreases-arguments::argument l = 8 * goal.size-arguments::argument l

abbrev pub decreases-arguments::plain : goal.decreases-arguments::plain
decreases-arguments::plain l = 8 * goal.size-arguments::plain l + 3

abbrev pub decreases-arguments::value : goal.decreases-arguments::value
decreases-arguments::value l = 8 * goal.size-arguments::value l + 2

abbrev pub decreases-arguments::operand : goal.decreases-arguments::operand
decreases-arguments::operand l = 8 * goal.size-arguments::operand l + 1

abbrev pub decreases-arguments::range : goal.decreases-arguments::range
decreases-arguments::range l = 8 * max (the_size l.first.now) (the_size l.last.now) + 1

abbrev pub decreases-arguments::lambda : goal.decreases-arguments::lambda
decreases-arguments::lambda l = 8 * goal.size-arguments::lambda l + 1

abbrev pub decreases-arguments::named : goal.decreases-arguments::named
decreases-arguments::named l = 8 * goal.size-arguments::named l + 2
