-- Each step of the walk links one more.
use Rattle.std.proofs.Common.{◌<◌, sym, ◌∙◌, subst}
use Rattle.hp_infer.proofs.ChainLemmas.{none_left, walk_within, walk_links, walk_ends, walk_shortens}
use Rattle.hp_infer.proofs.infer.link_readers.Goals as goal

pub link_if_free-requires : goal.link_if_free-requires
link_if_free-requires c = subst (λ n. c.in-Some.at < n) (sym (c.loop-next.invariant.nodes ∙ c.requires.nodes)) (walk_within c.loop-next.invariant.walked c.in-Some.at c.in-Some.is)

pub next-next-requires : goal.next-next-requires
next-next-requires c = walk_within c.loop-next.invariant.walked c.in-Some.at c.in-Some.is

pub loop-next-smaller : goal.loop-next-smaller
loop-next-smaller c = rw c.in-Some.is (walk_shortens c.loop-next.invariant.walked c.in-Some.at c.in-Some.is c.next-next.result c.next-next.ensures)

pub loop-next-preserved : goal.loop-next-preserved
loop-next-preserved c = record {
  nodes = c.link_if_free.ensures.nodes ∙ c.loop-next.invariant.nodes;
  walked = walk_links c.loop-next.invariant.walked c.in-Some.at c.in-Some.is c.next-next.result c.link_if_free.new.board.list c.next-next.ensures c.link_if_free.ensures.linked;
}

pub returns-clause-linked : goal.returns-clause-linked
returns-clause-linked c = walk_ends c.loop-next.invariant.walked (none_left c.loop-next.next c.in_default.not-Some)
