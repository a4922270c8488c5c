-- One more node behind those that are linked.
use Rattle.std.proofs.Common.{◌++◌, ◌∷◌, [], ap, ◌∙◌, arith}
use Rattle.std.proofs.lemmas.Bool.{le-ltb}
use Rattle.hp_links.specs.Boards.{Linked, board, is_in}
use Rattle.hp_infer.proofs.ChainLemmas.{in_range, range_more}
use Rattle.hp_infer.proofs.infer.all_linked.Goals as goal

pub link-requires-clause-free : goal.link-requires-clause-free
link-requires-clause-free c =
    ap (λ (b : Linked). is_in c.loop-node.node b.list) c.loop-node.invariant ∙ in_range c.loop-node.node c.loop-node.node ∙ le-ltb c.loop-node.node c.loop-node.node (omega arith)

pub loop-node-preserved : goal.loop-node-preserved
loop-node-preserved c =
    c.link.ensures ∙ ap (λ (b : Linked). board b.nodes (b.list ++ c.loop-node.node ∷ [])) c.loop-node.invariant ∙ ap (board c.args.nodes) (range_more c.loop-node.node)
