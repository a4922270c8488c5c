-- Each cell is folded into its group.
use Rattle.std.proofs.Common.{rules, ◌≡◌, ◌∙◌, ap, arith, pos, get_or, length, replicate, slice_set, FitsSigned, w64}
use Rattle.std.proofs.lemmas.Int.{to_z-of_z}
use Rattle.std.proofs.lemmas.List.{get_or_default}
use Rattle.hp_word.specs.Folds.{joined}
use Rattle.hp_kernels.proofs.MeasureLemmas.{fold_so_far, folds_none, folds_next, folds_pass, folds_all, all_numbered, row_number, number_made}
use Rattle.hp_kernels.proofs.measures.fold_groups.Goals as goal
use Rattle.hp_kernels.proofs.measures.fold_groups.Goals.{then-i-cells, else-i-cells}

pub loop-i-init : goal.loop-i-init
loop-i-init c =
    let all : c.len.result ≡ length c.args.groups.now.firsts.items = omega (arith, c.len.ensures) in
    c.in_ok-made.ensures.items_if_clones_equal (λ y h. h) ∙ (λ j. replicate (all j) (to_z-of_z w64 c.empty.result (search rules) j)) ∙ folds_none c.args.kind c.args.keys.now c.args.cells.now c.args.groups.now c.empty.result c.requires c.empty.ensures.none

pub index-requires : goal.index-requires
index-requires c = omega (arith, c.loop-i-test.true, all_numbered c.args.keys.now c.args.groups.now c.requires)

pub index-requires-then-i-cells : goal.index-requires-then-i-cells
index-requires-then-i-cells c =
    omega (arith, number_made c.args.keys.now c.args.groups.now (fold_so_far c.args.kind c.args.keys.now c.args.cells.now c.loop-i.i) c.loop-i.i c.index.result.now _ c.loop-i.made.items c.requires c.loop-i-test.true c.index.ensures c.loop-i.invariant)

pub index_mut-requires : goal.index_mut-requires
index_mut-requires c =
    omega (arith, number_made c.args.keys.now c.args.groups.now (fold_so_far c.args.kind c.args.keys.now c.args.cells.now c.loop-i.i) c.loop-i.i c.index.result.now _ c.loop-i.made.items c.requires c.loop-i-test.true c.index.ensures c.loop-i.invariant)

pub loop-i-preserved : goal.loop-i-preserved
loop-i-preserved c =
    let kind = c.args.kind in
    let keys = c.args.keys.now in
    let cells = c.args.cells.now in
    let i = c.loop-i.i in
    let made = c.loop-i.made.items in
    elim c.if-i-cells.branch [
      | then-i-cells w ↦
          let n = w.index.result.now in
          let x = w.index-then-i-cells.result.now in
          let cell : FitsSigned w64 (get_or cells i (pos 0)) = search rules in
          let held : FitsSigned w64 x = search rules in
          let there = number_made keys c.args.groups.now (fold_so_far kind keys cells i) i n _ made c.requires c.loop-i-test.true w.index.ensures c.loop-i.invariant in
          let folded = w.fold.ensures ∙ (λ j. joined kind ((to_z-of_z w64 x held ∙ w.index-then-i-cells.ensures ∙ get_or_default made n _ (pos 0) there) j) (to_z-of_z w64 (get_or cells i (pos 0)) cell j)) in
          folds_next kind keys cells i c.loop-i-test.true n made c.if-i-cells.made.items w.if-i-cells.true (w.index.ensures ∙ row_number keys c.args.groups.now i _ c.requires c.loop-i-test.true) c.loop-i.invariant
          (ap (λ v. v.items) w.made-is ∙ ap (slice_set made n) (to_z-of_z w64 w.fold.result (search rules) ∙ folded))
      | else-i-cells w ↦ rw w.made-is (folds_pass c.args.kind c.args.keys.now c.args.cells.now c.loop-i.i c.loop-i-test.true c.loop-i.made.items w.if-i-cells.false c.loop-i.invariant)
    ]

pub returns : goal.returns
returns c = folds_all c.args.kind c.args.keys.now c.args.cells.now c.loop-i.i c.loop-i.made.items c.loop-i-test.false c.loop-i.invariant
