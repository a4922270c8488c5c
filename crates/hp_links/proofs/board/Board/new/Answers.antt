-- A table of free nodes.
use Rattle.std.proofs.Common.{List, [], None, sym, subst}
use Rattle.hp_links.specs.declared.board.Node.{Node}
use Rattle.hp_links.specs.Links.{IsLinked}
use Rattle.hp_links.proofs.LinkLemmas.{closed, none_linked}
use Rattle.hp_links.proofs.board.Board.new.Goals as goal

pub invariant_of-result : goal.invariant_of-result
invariant_of-result c =
    closed (subst (λ (t : List Node). IsLinked t None None []) (sym (c.in_ok-vec.ensures.items_if_clones_equal (λ y same. same))) (none_linked c.args.nodes))
