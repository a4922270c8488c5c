-- Each row goes to the target of its key.
use Rattle.std.proofs.Common.{◌∙◌, refl, ap, length, map, FitsSigned, rules, w64}
use Rattle.std.proofs.lemmas.Int.{to_z-of_z}
use Rattle.hp_cuts.specs.Targets.{target_of}
use Rattle.hp_spmd.specs.Arrays.{cells_at}
use Rattle.hp_spmd.specs.HashParts.{row_behind}
use Rattle.hp_spmd.proofs.HashLemmas.{no_rows, row_goes}
use Rattle.hp_spmd.proofs.local.packs.add_rows.Goals as goal

pub loop-row-init : goal.loop-row-init
loop-row-init c = no_rows (length c.args.messages.now) c.args.keys.now (row_behind c.args.before (map (cells_at c.args.pieces.now) c.args.arrays.now)) c.args.messages.now c.requires.empty

pub loop-row-preserved : goal.loop-row-preserved
loop-row-preserved c =
    let ranks = length c.args.messages.now in
    let fits : FitsSigned w64 c.cell_in.result = search rules in
    let exact = rw (to_z-of_z w64 c.cell_in.result fits) at c.target-to.ensures.exact in
    row_goes ranks c.args.keys.now (row_behind c.args.before (map (cells_at c.args.pieces.now) c.args.arrays.now)) c.loop-row.row c.target-to.result c.loop-row.messages _ c.index-messages-to.result c.add_row.new.message
    c.target-to.ensures.rank (exact ∙ ap (target_of ranks) c.cell_in.ensures) c.loop-row.invariant c.in_ok-add_row.ensures refl
