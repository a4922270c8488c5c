-- A column's name is among those before it, or one more of them.
use Rattle.std.proofs.Common.{◌∙◌, ap}
use Rattle.hp_script.specs.Breaks.{repeats}
use Rattle.hp_types.proofs.Columns.{repeats_start, repeats_next}
use Rattle.hp_types.proofs.forms.repeats.Goals as goal

pub loop-column-init : goal.loop-column-init
loop-column-init c = repeats_start c.args.columns.now c.new-seen.result.keys c.new-seen.ensures.empty

pub loop-column-preserved : goal.loop-column-preserved
loop-column-preserved c =
    repeats_next c.args.columns.now c.loop-column.seen.keys c.insert.new.self.keys c.loop-column.column-index c.column-item.result c.as_slice.result (repeats c.args.columns.now) c.in_ok-insert.field-0
    c.loop-column-test.true c.column-item.is (c.as_slice.ensures ∙ ap (λ n. n.bytes) c.name.ensures) c.in_ok-insert.ensures.added c.if-not-branch.false c.in_ok-insert.ensures.keys c.loop-column.invariant
