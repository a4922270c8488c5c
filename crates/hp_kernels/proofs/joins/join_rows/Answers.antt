-- All pairs are made, or they are too many.
use Rattle.std.proofs.Common.{rules, ◌∙◌, ap, List, ◌++◌, ◌+◌, ◌<◌, ◌≤◌, drop, get_or, length, pos, subst, FitsSigned, w64}
use Rattle.std.proofs.lemmas.Int.{to_z-of_z}
use Rattle.std.proofs.lemmas.Result.{err_from_is_err_and}
use Rattle.hp_word.specs.declared.order.RowPlace.{RowPlace}
use Rattle.hp_word.specs.Lengths.{longest}
use Rattle.hp_word.specs.RowRules.{matches_of, pairs_from, pairs_from_0}
use Rattle.hp_kernels.proofs.PairLemmas.{pairs_next, pairs_many, pairs_all}
use Rattle.hp_kernels.proofs.RowLemmas.{some_made}
use Rattle.hp_kernels.proofs.joins.join_rows.Goals as goal

pub loop-i-preserved : goal.loop-i-preserved
loop-i-preserved c =
    let left = c.args.left.now in
    let right = c.args.right.now in
    let i = c.loop-i.i in
    let item : FitsSigned w64 (get_or left i (pos 0)) = search rules in
    let made = c.in_ok-add_matches.ensures.ok ∙ ap (λ k. c.loop-i.pairs.items ++ matches_of i k 0 right) (to_z-of_z w64 (get_or left i (pos 0)) item) in
    record {
      all = some_made c.loop-i.pairs.items c.add_matches.new.pairs.items (pairs_from i 0 (drop i left) right) (pairs_from (i + 1) 0 (drop (i + 1) left) right) (pairs_from_0 left right)
          (matches_of i (get_or left i (pos 0)) 0 right) made (pairs_next left right i c.loop-i-test.true) c.loop-i.invariant.all;
      few = c.in_ok-add_matches.ensures.few c.loop-i.invariant.few;
    }

pub returns-in_err-add_matches-clause-many : goal.returns-in_err-add_matches-clause-many
returns-in_err-add_matches-clause-many c =
    let p = err_from_is_err_and c.from_residual-in_err-add_matches.result c.from_residual-in_err-add_matches.ensures.1 in
    let left = c.args.left.now in
    let right = c.args.right.now in
    let i = c.loop-i.i in
    let item : FitsSigned w64 (get_or left i (pos 0)) = search rules in
    let same = to_z-of_z w64 (get_or left i (pos 0)) item in
    rw (p.1, p.2) (λ e. pairs_many left right i c.loop-i.pairs.items c.loop-i-test.true c.loop-i.invariant.all
    (subst (λ k. longest < length c.loop-i.pairs.items + length (matches_of i k 0 right)) same (c.in_err-add_matches.ensures.many e)))

pub returns-clause-ok : goal.returns-clause-ok
returns-clause-ok c = pairs_all c.args.left.now c.args.right.now c.loop-i.i c.loop-i.pairs.items c.loop-i-test.false c.loop-i.invariant.all

pub returns-clause-few : goal.returns-clause-few
returns-clause-few c =
    subst (λ (l : List RowPlace). length l ≤ longest) (pairs_all c.args.left.now c.args.right.now c.loop-i.i c.loop-i.pairs.items c.loop-i-test.false c.loop-i.invariant.all) c.loop-i.invariant.few
