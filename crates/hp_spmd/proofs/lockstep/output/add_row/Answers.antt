-- The cells and the end of the line.
use Rattle.std.proofs.Common.{ℕ, List, ◌++◌, ◌∙◌, ap}
use Rattle.hp_spmd.proofs.OutputLemmas.{row_text}
use Rattle.hp_spmd.proofs.lockstep.output.add_row.Goals as goal

pub returns : goal.returns
returns c =
    row_text c.args.columns.now c.args.place c.args.out.now.items c.add_cells.new.out.items c.add.new.out.items c.in_ok-add_cells.ensures
    (c.in_ok-add.ensures ∙ ap (λ (t : List ℕ). c.add_cells.new.out.items ++ t) c.as_slice.ensures)
