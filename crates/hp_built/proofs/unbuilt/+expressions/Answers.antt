-- The least place of a part is among those of the whole.
use Rattle.hp_built.proofs.WalkLemmas.{least_binary, next_argument}
use Rattle.hp_built.proofs.unbuilt.+expressions.Goals as goal

pub in_expression-returns-in-Binary : goal.in_expression-returns-in-Binary
in_expression-returns-in-Binary g t c =
    rw (c.earlier-in-Binary-2.ensures, c.place_unless-own.ensures, c.construct_of.ensures, c.earlier-in-Binary.ensures, c.in_expression-first.ensures, c.in_expression-second.ensures, c.get-in-Binary.ensures, c.get-in-Binary-2.ensures)
    (least_binary _ c.args.shapes.now c.args.x.now c.in-Binary.field-0 c.in-Binary.field-1 c.in-Binary.left c.in-Binary.right c.in-Binary.is)

pub in_arguments-loop-arg-preserved : goal.in_arguments-loop-arg-preserved
in_arguments-loop-arg-preserved g t c =
    rw (c.earlier-found.ensures, c.in_argument.ensures)
    (next_argument _ c.args.shapes.now c.loop-arg.found c.args.args.now c.loop-arg.arg-index c.arg-item.result c.loop-arg-test.true c.arg-item.is c.loop-arg.invariant)
