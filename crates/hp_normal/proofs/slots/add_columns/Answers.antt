-- One more column.
use Rattle.hp_normal.proofs.SlotForms.{next_column}
use Rattle.hp_normal.proofs.slots.add_columns.Goals as goal

pub loop-column-preserved : goal.loop-column-preserved
loop-column-preserved c =
    next_column c.args.slots.now.items c.loop-column.slots.items c.push.new.self.items (λ k. record c.args.first { column = k; matrix = c.is_matrix-matrix.result }) c.loop-column.column c.loop-column.invariant
    c.in_ok-push.ensures.items
