-- What is added by one call after the other are the constraints of the node.
use Rattle.hp_constrain.proofs.AddingLemmas.{ok_adds}
use Rattle.hp_constrain.proofs.ProgramLemmas.{no_nodes, plain_bounds, choose_bounds, loop_bounds, nodes_next}
use Rattle.hp_constrain.proofs.constraints.+nodes.Goals as goal

pub add_node-returns-in-Do : goal.add_node-returns-in-Do
add_node-returns-in-Do t c = plain_bounds c.in-Do.op c.args.node.now c.add_row.result c.args.list.now.items c.add_row.new.list.items c.in-Do.is c.add_row.ensures

pub add_node-returns-in_ok-add_nodes-in-If : goal.add_node-returns-in_ok-add_nodes-in-If
add_node-returns-in_ok-add_nodes-in-If t c =
    ok_adds c.add_nodes-in-If.result c.args.list.now.items c.add_nodes.new.list.items c.add_nodes-in-If.new.list.items _ _ _
    (rw c.as_slice.ensures at c.in_ok-add_nodes-in-If.ensures) (choose_bounds c.in-If.field-0 c.in-If.first c.in-If.second c.args.node.now c.in-If.is)
    (rw c.as_slice-in-If.ensures at c.add_nodes-in-If.ensures)

pub add_node-returns-in_ok-add_nodes-in-While : goal.add_node-returns-in_ok-add_nodes-in-While
add_node-returns-in_ok-add_nodes-in-While t c =
    ok_adds c.add_nodes-in-While-2.result c.args.list.now.items c.add_nodes-in-While.new.list.items c.add_nodes-in-While-2.new.list.items _ _ _
    (rw c.as_slice-in-While.ensures at c.in_ok-add_nodes-in-While.ensures) (loop_bounds c.in-While.field-1 c.in-While.test c.in-While.turn c.args.node.now c.in-While.is)
    (rw c.as_slice-in-While-2.ensures at c.add_nodes-in-While-2.ensures)

pub add_nodes-loop-node-init : goal.add_nodes-loop-node-init
add_nodes-loop-node-init t c = no_nodes c.args.list.now.items

pub add_nodes-loop-node-preserved : goal.add_nodes-loop-node-preserved
add_nodes-loop-node-preserved t c =
    nodes_next c.args.nodes.now c.loop-node.node-index c.node-item.result c.args.list.now.items c.loop-node.list.items c.add_node.new.list.items
    c.loop-node-test.true c.node-item.is c.loop-node.invariant c.in_ok-add_node.ensures
