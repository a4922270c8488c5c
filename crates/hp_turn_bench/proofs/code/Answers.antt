-- The code is one that all ranks may run.
use Rattle.std.proofs.Common.{◌≡◌, sym, subst, IsTrue, ◌<◌, ◌^◌, length}
use Rattle.hp_spmd.specs.declared.instr.Instr.TheVariants as instr
use Rattle.hp_spmd.specs.Names.{ends_in_halt, names_within, targets_within}
use Rattle.hp_turn_bench.proofs.CodeLemmas.{ends_at_halt, few_longer, sets_halt}
use Rattle.hp_turn_bench.proofs.code.Goals as goal

pub invariant_of-result : goal.invariant_of-result
invariant_of-result c =
    let is = c.in_ok-push-2.ensures.ok in
    let sets = sets_halt c.loop-value.list c.loop-value.invariant.0 in
    record {
      small = subst (λ l. length l < 2 ^ 32) (sym is) (few_longer c.loop-value.list instr.Halt c.loop-value.value c.loop-value.invariant.1 c.loop-value.auto.value-end);
      ends = subst (λ l. IsTrue (ends_in_halt l)) (sym is) (ends_at_halt c.loop-value.list);
      within = subst (λ a. IsTrue (names_within 1 (length a) 0 c.push-2.new.self)) (sym c.new.ensures) (subst (λ l. IsTrue (names_within 1 0 0 l)) (sym is) sets.within);
      targets = subst (λ l. IsTrue (targets_within (length l) l)) (sym is) (sets.targets _);
    }
