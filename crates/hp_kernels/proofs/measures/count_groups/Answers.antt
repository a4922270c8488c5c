-- Each row is counted for its group.
use Rattle.std.proofs.Common.{rules, ◌≡◌, ◌∙◌, ap, arith, pos, ◌+ℤ◌, length, replicate, slice_set, FitsSigned, w64}
use Rattle.std.proofs.lemmas.Int.{to_z-of_z}
use Rattle.std.proofs.lemmas.List.{get_or_default}
use Rattle.hp_kernels.proofs.MeasureLemmas.{count_so_far, counts_none, counts_next, counts_all, all_numbered, row_number, number_made}
use Rattle.hp_kernels.proofs.measures.count_groups.Goals as goal

pub loop-i-init : goal.loop-i-init
loop-i-init c =
    let all : c.len.result ≡ length c.args.groups.now.firsts.items = omega (arith, c.len.ensures) in
    c.in_ok-made.ensures.items_if_clones_equal (λ y h. h) ∙ ap (λ n. replicate n (pos 0)) all ∙ counts_none c.args.keys.now c.args.groups.now c.requires

pub index-requires : goal.index-requires
index-requires c = omega (arith, c.loop-i-test.true, all_numbered c.args.keys.now c.args.groups.now c.requires)

pub index-requires-in-loop-i : goal.index-requires-in-loop-i
index-requires-in-loop-i c =
    omega (arith, number_made c.args.keys.now c.args.groups.now (count_so_far c.args.keys.now c.loop-i.i) c.loop-i.i c.index.result.now _ c.loop-i.made.items c.requires c.loop-i-test.true c.index.ensures c.loop-i.invariant)

pub index_mut-requires : goal.index_mut-requires
index_mut-requires c =
    omega (arith, number_made c.args.keys.now c.args.groups.now (count_so_far c.args.keys.now c.loop-i.i) c.loop-i.i c.index.result.now _ c.loop-i.made.items c.requires c.loop-i-test.true c.index.ensures c.loop-i.invariant)

pub loop-i-preserved : goal.loop-i-preserved
loop-i-preserved c =
    let keys = c.args.keys.now in
    let made = c.loop-i.made.items in
    let n = c.index.result.now in
    let held : FitsSigned w64 c.index-in-loop-i.result.now = search rules in
    let there = number_made keys c.args.groups.now (count_so_far keys c.loop-i.i) c.loop-i.i n _ made c.requires c.loop-i-test.true c.index.ensures c.loop-i.invariant in
    let counted = c.in-Some.ensures in
    counts_next keys c.loop-i.i n made _ c.in-Some.count c.loop-i-test.true (c.index.ensures ∙ row_number keys c.args.groups.now c.loop-i.i _ c.requires c.loop-i-test.true) c.loop-i.invariant
    (counted.1 ∙ ap (λ x. x +ℤ pos 1) (to_z-of_z w64 c.index-in-loop-i.result.now held ∙ c.index-in-loop-i.ensures ∙ get_or_default made n _ (pos 0) there))
    (ap (slice_set made n) (to_z-of_z w64 c.in-Some.count (search rules)))

pub returns : goal.returns
returns c = counts_all c.args.keys.now c.loop-i.i c.loop-i.made.items c.loop-i-test.false c.loop-i.invariant
