use Rattle.std.proofs.Common.{◌∙◌, ap, refl, max}
use Rattle.hp_lowering.specs.Room.{loose_of, spares_of}
use Rattle.hp_lowering.proofs.CountLemmas.{both_most, most_choice, most_loop, most_next, most_none, most_plain, most_turns}
use Rattle.hp_lowering.proofs.counts.+counts.Goals as goal

pub counts_in-returns-in-Plain-clause-spares : goal.counts_in-returns-in-Plain-clause-spares
counts_in-returns-in-Plain-clause-spares t c = most_plain spares_of c.in-Plain.op c.args.step.now 0 c.in-Plain.is refl

pub counts_in-returns-in-Plain-clause-loose : goal.counts_in-returns-in-Plain-clause-loose
counts_in-returns-in-Plain-clause-loose t c = most_plain loose_of c.in-Plain.op c.args.step.now c.loose_in.result c.in-Plain.is c.loose_in.ensures

pub counts_in-returns-in-Loop-clause-spares : goal.counts_in-returns-in-Loop-clause-spares
counts_in-returns-in-Loop-clause-spares t c = most_loop spares_of c.in-Loop.p c.args.step.now c.len.result c.in-Loop.is c.len.ensures

pub counts_in-returns-in-Loop-clause-loose : goal.counts_in-returns-in-Loop-clause-loose
counts_in-returns-in-Loop-clause-loose t c = most_loop loose_of c.in-Loop.p c.args.step.now c.len-in-Loop.result c.in-Loop.is c.len-in-Loop.ensures

pub counts_in-returns-in-If-clause-spares : goal.counts_in-returns-in-If-clause-spares
counts_in-returns-in-If-clause-spares t c =
    most_choice spares_of c.in-If.field-0 c.in-If.first c.in-If.second c.args.step.now c.most.result.spares c.in-If.is
    (c.most.ensures.spares ∙ both_most (rw c.as_slice.ensures at c.counts_of.ensures.spares) (rw c.as_slice-in-If.ensures at c.counts_of-in-If.ensures.spares))

pub counts_in-returns-in-If-clause-loose : goal.counts_in-returns-in-If-clause-loose
counts_in-returns-in-If-clause-loose t c =
    most_choice loose_of c.in-If.field-0 c.in-If.first c.in-If.second c.args.step.now c.most.result.loose c.in-If.is
    (c.most.ensures.loose ∙ both_most (rw c.as_slice.ensures at c.counts_of.ensures.loose) (rw c.as_slice-in-If.ensures at c.counts_of-in-If.ensures.loose))

pub counts_in-returns-in-While-clause-spares : goal.counts_in-returns-in-While-clause-spares
counts_in-returns-in-While-clause-spares t c =
    most_turns spares_of c.in-While.field-1 c.in-While.test c.in-While.body c.args.step.now c.most-in-While.result.spares c.in-While.is
    (c.most-in-While.ensures.spares ∙ both_most (rw c.as_slice-in-While.ensures at c.counts_of-in-While.ensures.spares) (rw c.as_slice-in-While-2.ensures at c.counts_of-in-While-2.ensures.spares))

pub counts_in-returns-in-While-clause-loose : goal.counts_in-returns-in-While-clause-loose
counts_in-returns-in-While-clause-loose t c =
    most_turns loose_of c.in-While.field-1 c.in-While.test c.in-While.body c.args.step.now c.most-in-While.result.loose c.in-While.is
    (c.most-in-While.ensures.loose ∙ both_most (rw c.as_slice-in-While.ensures at c.counts_of-in-While.ensures.loose) (rw c.as_slice-in-While-2.ensures at c.counts_of-in-While-2.ensures.loose))

pub counts_of-loop-step-preserved : goal.counts_of-loop-step-preserved
counts_of-loop-step-preserved t c = (
  most_next spares_of c.args.steps.now c.loop-step.step-index c.step-item.result c.loop-step.counts.spares c.most-counts.result.spares c.loop-step-test.true c.step-item.is c.loop-step.invariant.0 (c.most-counts.ensures.spares ∙ ap (max c.loop-step.counts.spares) c.counts_in.ensures.spares),
  most_next loose_of c.args.steps.now c.loop-step.step-index c.step-item.result c.loop-step.counts.loose c.most-counts.result.loose c.loop-step-test.true c.step-item.is c.loop-step.invariant.1 (c.most-counts.ensures.loose ∙ ap (max c.loop-step.counts.loose) c.counts_in.ensures.loose),
)

pub counts_of-loop-step-init : goal.counts_of-loop-step-init
counts_of-loop-step-init t c = (most_none spares_of, most_none loose_of)
