-- Each step of the walk pairs one more row.
use Rattle.std.proofs.Common.{◌≡◌, rules, ◌∙◌, ◌+◌, ◌++◌, ◌<◌, ap, subst, length, arith, length-append, FitsSigned, w64}
use Rattle.std.proofs.lemmas.Int.{to_z-of_z}
use Rattle.std.proofs.lemmas.Result.{err_from_is_err_and}
use Rattle.hp_word.specs.Lengths.{longest}
use Rattle.hp_word.specs.RowRules.{matches_of}
use Rattle.hp_kernels.proofs.LinkedLemmas.{pairing_starts, pairing_within, pairing_next, pairing_shortens, pairing_many, pairing_ends, none_left}
use Rattle.hp_kernels.proofs.joins.add_matches.Goals as goal

pub loop-next-init : goal.loop-next-init
loop-next-init c = record {
  all = pairing_starts c.args.column.now c.args.rows.now c.args.left _ _ c.first-next.result c.requires c.first-next.ensures;
  few = λ l. l;
}

pub next-next-requires : goal.next-next-requires
next-next-requires c = pairing_within _ _ _ _ _ c.in-Some.right c.loop-next.invariant.all c.in-Some.is

pub loop-next-smaller : goal.loop-next-smaller
loop-next-smaller c = rw c.in-Some.is (pairing_shortens _ _ _ _ _ c.next-next.result c.in-Some.right c.loop-next.invariant.all c.in-Some.is c.next-next.ensures)

pub loop-next-preserved : goal.loop-next-preserved
loop-next-preserved c =
    let one : length c.add_pair.new.pairs.items ≡ length c.loop-next.pairs.items + 1 = ap length c.in_ok-add_pair.ensures.ok ∙ length-append c.loop-next.pairs.items _ in
    record {
      all = pairing_next _ _ _ _ _ _ c.next-next.result c.in-Some.right c.loop-next.invariant.all c.in-Some.is c.next-next.ensures c.in_ok-add_pair.ensures.ok;
      few = λ few. omega (arith, one, c.in_ok-add_pair.ensures.few);
    }

pub returns-in_err-add_pair-clause-many : goal.returns-in_err-add_pair-clause-many
returns-in_err-add_pair-clause-many c =
    let p = err_from_is_err_and c.from_residual.result c.from_residual.ensures.1 in
    let key : FitsSigned w64 c.args.key = search rules in
    rw (p.1, p.2) (λ e. subst (λ k. longest < length c.args.pairs.now.items + length (matches_of c.args.left k 0 c.args.column.now)) (to_z-of_z w64 c.args.key key)
    (pairing_many _ _ _ _ _ _ c.in-Some.right longest c.loop-next.invariant.all c.in-Some.is (c.in_err-add_pair.ensures.many e)))

pub returns-clause-ok : goal.returns-clause-ok
returns-clause-ok c =
    let key : FitsSigned w64 c.args.key = search rules in
    pairing_ends _ _ _ _ _ c.loop-next.invariant.all (none_left c.loop-next.next c.in_default.not-Some)
    ∙ ap (λ k. c.args.pairs.now.items ++ matches_of c.args.left k 0 c.args.column.now) (to_z-of_z w64 c.args.key key)
