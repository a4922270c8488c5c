-- One more variable, one more expression, and their end.
use Rattle.std.proofs.Common.{ℕ, ◌+◌, ap, ◌∙◌}
use Rattle.hp_air.specs.Unknowns.{width}
use Rattle.hp_normal.specs.HomesHeld.{firsts, widths, node_widths}
use Rattle.hp_normal.proofs.FirstSlots.{next_var, past_vars, next_node, past_nodes}
use Rattle.hp_normal.proofs.spans.first_slots.Goals as goal

pub loop-var-preserved : goal.loop-var-preserved
loop-var-preserved c =
    next_var (firsts 0 (widths c.args.shapes.now c.args.vars.now)) c.loop-var.slots.items c.with_next.new.slots.items c.loop-var.next _ c.args.vars.now c.loop-var.var-index c.var-item.result
    (node_widths c.args.shapes.now) c.loop-var-test.true c.var-item.is c.loop-var.invariant (c.in_ok-next.ensures.behind ∙ ap (λ (w : ℕ). c.loop-var.next + w) c.width_of.ensures) c.in_ok-next.ensures.added

pub loop-shape-init : goal.loop-shape-init
loop-shape-init c =
    past_vars (firsts 0 (widths c.args.shapes.now c.args.vars.now)) c.loop-var.slots.items c.loop-var.next c.args.vars.now c.loop-var.var-index c.args.shapes.now c.loop-var-test.false c.loop-var.invariant

pub loop-shape-preserved : goal.loop-shape-preserved
loop-shape-preserved c =
    next_node (firsts 0 (widths c.args.shapes.now c.args.vars.now)) c.loop-shape.slots.items c.with_next-in-loop-shape.new.slots.items c.loop-shape.next _ c.args.shapes.now c.loop-shape.shape-index
    c.shape-item.result c.loop-shape-test.true c.shape-item.is c.loop-shape.invariant
    (c.in_ok-next-2.ensures.behind ∙ ap (λ (w : ℕ). c.loop-shape.next + w) (c.width_of-in-loop-shape.ensures ∙ ap width c.as_ref.ensures.value)) c.in_ok-next-2.ensures.added

pub returns : goal.returns
returns c =
    past_nodes (firsts 0 (widths c.args.shapes.now c.args.vars.now)) c.loop-shape.slots.items c.push.new.self.items c.loop-shape.next c.args.shapes.now c.loop-shape.shape-index c.loop-shape-test.false
    c.loop-shape.invariant c.in_ok-push.ensures.items
