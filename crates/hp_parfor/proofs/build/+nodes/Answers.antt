-- What is added by one call after the other are the steps that stand for the nodes.
use Rattle.std.proofs.Common.{◌∙◌, ap, sym}
use Rattle.hp_parfor.specs.Parts.{program_of}
use Rattle.hp_parfor.proofs.StepLemmas.{steps_none, built_none, built_next, plain_added, choice_added, turns_added}
use Rattle.hp_parfor.proofs.build.+nodes.Goals as goal

pub add_node-returns-in-Do : goal.add_node-returns-in-Do
add_node-returns-in-Do t c =
    plain_added c.add_operation.result c.in-Do.op c.args.node.now (program_of c.args.steps.now) (program_of c.add_operation.new.steps) c.in-Do.is c.add_operation.ensures

pub add_node-returns-in_ok-second-in-If : goal.add_node-returns-in_ok-second-in-If
add_node-returns-in_ok-second-in-If t c =
    choice_added c.push_choice.result c.in-If.word c.in-If.first c.in-If.second c.args.node.now (program_of c.in_ok-first-in-If.first) (program_of c.in_ok-second-in-If.second) (program_of c.args.steps.now) (program_of c.push_choice.new.steps)
    c.in-If.is (rw c.as_slice.ensures at c.in_ok-first-in-If.ensures) (rw c.as_slice-in-If.ensures at c.in_ok-second-in-If.ensures) c.push_choice.ensures

pub add_node-returns-in_ok-body-in-While : goal.add_node-returns-in_ok-body-in-While
add_node-returns-in_ok-body-in-While t c =
    turns_added c.push_turns.result c.in-While.test c.in-While.word c.in-While.body c.args.node.now (program_of c.in_ok-test-in-While.test) (program_of c.in_ok-body-in-While.body) (program_of c.args.steps.now) (program_of c.push_turns.new.steps)
    c.in-While.is (rw c.as_slice-in-While.ensures at c.in_ok-test-in-While.ensures) (rw c.as_slice-in-While-2.ensures at c.in_ok-body-in-While.ensures) c.push_turns.ensures

pub build_nodes-loop-node-init : goal.build_nodes-loop-node-init
build_nodes-loop-node-init t c = ap program_of c.new-steps.ensures ∙ steps_none ∙ sym built_none

pub build_nodes-loop-node-preserved : goal.build_nodes-loop-node-preserved
build_nodes-loop-node-preserved t c =
    built_next c.args.nodes.now c.loop-node.node-index c.node-item.result (program_of c.loop-node.steps) (program_of c.add_node.new.steps) c.loop-node-test.true c.node-item.is c.loop-node.invariant c.in_ok-add_node.ensures
