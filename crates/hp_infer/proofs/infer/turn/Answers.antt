-- What was evaluated holds already, or its low unknown falls.
use Rattle.std.proofs.Common.{sym, ◌∙◌}
use Rattle.hp_infer.proofs.TurnLemmas.{Evaluated, kept, fell}
use Rattle.hp_infer.proofs.infer.turn.Goals as goal

pub returns-then-below-clause-turn : goal.returns-then-below-clause-turn
returns-then-below-clause-turn g c =
    let v : Evaluated c.args.system.now c.args.dists.now c.as_slice.result.now c.as_slice-2.result.now c.args.board.now c.unlink.new.self c.args.at c.constraint-constraint.result c.evaluate-dist.result = record {
      work = c.requires.work;
      here = c.requires.linked;
      within = c.requires.within;
      taken_is = c.unlink.ensures;
      of_is = c.constraint-constraint.ensures.constraint;
      low = c.constraint-constraint.ensures.low;
      high = c.constraint-constraint.ensures.high;
      one_is = c.as_slice.ensures;
      two_is = c.as_slice-2.ensures;
      dist_is = c.evaluate-dist.ensures.dist;
    } in
    kept v (sym c.below.ensures ∙ c.if-below.true)

pub returns-clause-turn : goal.returns-clause-turn
returns-clause-turn g c =
    let v : Evaluated c.args.system.now c.args.dists.now c.as_slice.result.now c.as_slice-2.result.now c.args.board.now c.unlink.new.self c.args.at c.constraint-constraint.result c.evaluate-dist.result = record {
      work = c.requires.work;
      here = c.requires.linked;
      within = c.requires.within;
      taken_is = c.unlink.ensures;
      of_is = c.constraint-constraint.ensures.constraint;
      low = c.constraint-constraint.ensures.low;
      high = c.constraint-constraint.ensures.high;
      one_is = c.as_slice.ensures;
      two_is = c.as_slice-2.ensures;
      dist_is = c.evaluate-dist.ensures.dist;
    } in
    fell v (sym c.below.ensures ∙ c.if-below.false) c.link_readers.new.board c.unlink_if_whole.new.board c.set.new.self c.set.ensures c.link_readers.ensures.nodes c.link_readers.ensures.linked c.unlink_if_whole.ensures.nodes c.unlink_if_whole.ensures.linked
