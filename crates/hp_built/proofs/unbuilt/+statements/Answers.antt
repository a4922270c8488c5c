-- One more statement.
use Rattle.hp_built.proofs.WalkLemmas.{next_statement}
use Rattle.hp_built.proofs.unbuilt.+statements.Goals as goal

pub in_statements-loop-stmt-preserved : goal.in_statements-loop-stmt-preserved
in_statements-loop-stmt-preserved g t c =
    rw (c.earlier-found.ensures, c.in_statement.ensures)
    (next_statement _ c.args.shapes.now c.loop-stmt.found c.args.body.now c.loop-stmt.stmt-index c.stmt-item.result c.loop-stmt-test.true c.stmt-item.is c.loop-stmt.invariant)
