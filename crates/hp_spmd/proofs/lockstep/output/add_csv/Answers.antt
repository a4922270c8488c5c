-- Each row is added behind those before.
use Rattle.std.proofs.Common.{◌≡◌, ℕ, List, ◌++◌, ◌∙◌, ap, arith, map}
use Rattle.hp_word.specs.declared.name.Name.{Name}
use Rattle.hp_word.specs.Tables.{row_count}
use Rattle.hp_spmd.proofs.OutputLemmas.{rows_more, csv_all}
use Rattle.hp_spmd.proofs.lockstep.output.add_csv.Goals as goal

pub loop-place-preserved : goal.loop-place-preserved
loop-place-preserved c = rows_more c.args.columns.now c.loop-place.place c.add.new.out.items c.loop-place.out.items c.add_row.new.out.items c.loop-place.invariant c.in_ok-add_row.ensures

pub returns : goal.returns
returns c =
    let last : c.loop-place.place ≡ row_count c.args.columns.now = omega (arith, c.row_count-place-end.ensures) in
    csv_all (map (λ (name : Name). name.bytes) c.args.names.now) c.args.columns.now c.loop-place.place c.args.out.now.items c.add_names.new.out.items c.add.new.out.items c.loop-place.out.items
    c.in_ok-add_names.ensures (c.in_ok-add.ensures ∙ ap (λ (t : List ℕ). c.add_names.new.out.items ++ t) c.as_slice.ensures) c.loop-place.invariant last
