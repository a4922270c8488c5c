-- The row of a place has a group, and the group a measure.
use Rattle.std.proofs.Common.{rules, ◌∙◌, ◌++◌, [], ◌∷◌, ap, arith, pos, FitsSigned, w64}
use Rattle.std.proofs.lemmas.Int.{to_z-of_z}
use Rattle.std.proofs.lemmas.List.{get_or_default}
use Rattle.hp_meaning.proofs.RowPlaces.{row_numbered, group_measured, measure_more}
use Rattle.hp_meaning.proofs.groups.measures_by_left.Goals as goal

pub index-requires : goal.index-requires
index-requires c =
    omega (arith, row_numbered c.args.keys.now c.args.groups.now c.args.places.now c.loop-p.p-index c.saturating_sub-row.result _ c.requires.grouped c.requires.rows c.loop-p-test.true c.saturating_sub-row.ensures)

pub index-requires-in-loop-p : goal.index-requires-in-loop-p
index-requires-in-loop-p c =
    omega (
      arith,
      group_measured c.args.kind c.args.keys.now c.args.cells.now c.args.groups.now c.args.places.now c.loop-p.p-index c.saturating_sub-row.result c.index.result.now _ _ c.in_ok-all.all.items
          c.requires.grouped c.requires.rows c.loop-p-test.true c.in_ok-all.ensures c.saturating_sub-row.ensures c.index.ensures,
    )

pub loop-p-preserved : goal.loop-p-preserved
loop-p-preserved c =
    let all = c.in_ok-all.all.items in
    let group = c.index.result.now in
    let x = c.index-in-loop-p.result.now in
    let made = c.loop-p.made in
    let measure : FitsSigned w64 x = search rules in
    let there = group_measured c.args.kind c.args.keys.now c.args.cells.now c.args.groups.now c.args.places.now c.loop-p.p-index c.saturating_sub-row.result group _ _ all
    c.requires.grouped c.requires.rows c.loop-p-test.true c.in_ok-all.ensures c.saturating_sub-row.ensures c.index.ensures in
    measure_more c.args.kind c.args.keys.now c.args.cells.now c.args.groups.now c.args.places.now c.loop-p.p-index c.saturating_sub-row.result group _ _ all made c.push.new.self x
    c.requires.grouped c.requires.rows c.loop-p-test.true c.in_ok-all.ensures c.saturating_sub-row.ensures c.index.ensures (c.index-in-loop-p.ensures ∙ get_or_default all group _ (pos 0) there)
    c.loop-p.invariant (c.in_ok-push.ensures.ok ∙ ap (λ z. made ++ z ∷ []) (to_z-of_z w64 x measure))
