-- The chains begin empty, behind the last constraint, and one constraint more stands before them with each step.
use Rattle.std.proofs.Common.{◌≡◌, ◌+◌, ◌-◌, ◌<◌, None, length, replicate, refl, arith, rules}
use Rattle.std.proofs.lemmas.List.{get_or_read}
use Rattle.hp_infer.proofs.ChainLemmas.{chaining_starts, chaining_more, end_within}
use Rattle.hp_infer.proofs.system.Chains.new.Goals as goal

pub loop-from-init : goal.loop-from-init
loop-from-init c =
    let first : c.in_ok-first.first.items ≡ replicate c.args.unknowns None = c.in_ok-first.ensures.items_if_clones_equal (λ y same. search rules) in
    let next : c.in_ok-next.next.items ≡ replicate (length c.args.constraints.now) None = c.in_ok-next.ensures.items_if_clones_equal (λ y same. search rules) in
    rw (first, next) (chaining_starts c.args.side c.args.unknowns c.args.constraints.now (length c.args.constraints.now) refl)

pub loop-from-preserved : goal.loop-from-preserved
loop-from-preserved c =
    let h = c.loop-from.invariant in
    let before : c.loop-from.from - 1 + 1 ≡ c.loop-from.from = omega arith in
    let within : c.end_of-unknown.result < length c.loop-from.first.items = omega (arith, h.unknown_count, h.short, c.end_of-unknown.ensures, end_within c.args.side c.args.unknowns c.args.constraints.now (c.loop-from.from - 1) c.requires.within (omega (arith, h.short))) in
    chaining_more c.requires.within h (c.loop-from.from - 1) before c.end_of-unknown.result c.end_of-unknown.ensures c.index.result.now
    (get_or_read c.loop-from.first.items c.end_of-unknown.result c.index.result.now within c.index.ensures None)
