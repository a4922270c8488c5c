-- The constraints of the nodes so far are added.
use Rattle.std.proofs.Common.{take}
use Rattle.hp_air.specs.Nodes.{program_of}
use Rattle.hp_air.specs.Placed.{operation_bounds}
use Rattle.hp_constrain.specs.Listed.{Adds}
use Rattle.hp_constrain.proofs.constraints.+nodes.Given as goal

abbrev pub invariant-add_nodes-loop-node : goal.invariant-add_nodes-loop-node
invariant-add_nodes-loop-node l = Adds (operation_bounds (program_of (take l.node-index l.nodes))) l.initial.list.items l.list.items
