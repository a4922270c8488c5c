-- Each key is new, or among those before; it has the number of its group.
use Rattle.std.proofs.Common.{◌≡◌, rules, ◌+◌, ◌++◌, [], map, ◌∙◌, ap, refl, drop, get_or, pos, List, ℤ, ℕ, FitsSigned, w64}
use Rattle.std.proofs.lemmas.Int.{to_z-of_z}
use Rattle.hp_word.specs.RowRules.{firsts_from, firsts_from_0, group_keys}
use Rattle.hp_kernels.proofs.GroupLemmas.{added, number_in, firsts_new, firsts_old, firsts_done, all_added, keys_next, number_is, numbers_next, numbers_all, numbers_none}
use Rattle.hp_kernels.proofs.RowLemmas.{one_made, none_made, all_are_made}
use Rattle.hp_kernels.proofs.groups.group_rows.Goals as goal
use Rattle.hp_kernels.proofs.groups.group_rows.Goals.{then-is_new+in_ok-push, else-is_new}

pub loop-i-init : goal.loop-i-init
loop-i-init c =
    let keys = c.args.keys.now in
    let none : c.new-numbered.result.keys ≡ [] = search rules in
    record {
      firsts = λ j. c.new-firsts.ensures.items j ++ firsts_from 0 (none j) keys;
      keys = ap (λ (l : List ℤ). l ++ added l keys) none ∙ all_added keys;
      numbers = ap (λ (l : List ℕ). l ++ map (number_in (group_keys keys)) keys) c.new-group_of.ensures.items ∙ numbers_none keys;
    }

pub loop-i-preserved : goal.loop-i-preserved
loop-i-preserved c =
    let keys = c.args.keys.now in
    let i = c.loop-i.i in
    let before = c.loop-i.numbered.keys in
    let after = c.insert_full.new.self.keys in
    let item : FitsSigned w64 (get_or keys i (pos 0)) = search rules in
    let whole = to_z-of_z w64 (get_or keys i (pos 0)) item in
    let left = firsts_from i before (drop i keys) in
    let rest = firsts_from (i + 1) after (drop (i + 1) keys) in
    record {
      firsts = elim c.if-is_new.branch [
        | then-is_new+in_ok-push w ↦
            rw w.firsts-is
            (one_made c.loop-i.firsts.items w.push.new.self.items left rest (firsts_from_0 keys) i w.in_ok-push.ensures.items
            (firsts_new keys before after i _ c.in_ok-group.is_new c.loop-i-test.true whole c.in_ok-group.ensures.added c.in_ok-group.ensures.keys w.if-is_new.true) c.loop-i.invariant.firsts)
        | else-is_new w ↦
            rw w.firsts-is
            (none_made c.loop-i.firsts.items c.loop-i.firsts.items left rest (firsts_from_0 keys)
            refl (firsts_old keys before after i _ c.in_ok-group.is_new c.loop-i-test.true whole c.in_ok-group.ensures.added c.in_ok-group.ensures.keys w.if-is_new.false) c.loop-i.invariant.firsts)
      ];
      keys = keys_next keys before after i _ c.loop-i-test.true whole c.in_ok-group.ensures.keys c.loop-i.invariant.keys;
      numbers = numbers_next keys i c.in_ok-group.group c.loop-i.group_of.items c.push-in-loop-i.new.self.items c.loop-i-test.true
          (number_is keys before i _ c.in_ok-group.group c.loop-i-test.true whole c.in_ok-group.ensures.index c.loop-i.invariant.keys)
          c.in_ok-push-2.ensures.items c.loop-i.invariant.numbers;
    }

pub returns-clause-firsts : goal.returns-clause-firsts
returns-clause-firsts c =
    let keys = c.args.keys.now in
    all_are_made c.loop-i.firsts.items (firsts_from c.loop-i.i c.loop-i.numbered.keys (drop c.loop-i.i keys)) (firsts_from_0 keys)
    (firsts_done keys c.loop-i.numbered.keys c.loop-i.i c.loop-i-test.false) c.loop-i.invariant.firsts

pub returns-clause-numbers : goal.returns-clause-numbers
returns-clause-numbers c = numbers_all c.args.keys.now c.loop-i.i c.loop-i.group_of.items c.loop-i-test.false c.loop-i.invariant.numbers
