-- The slots are few, what the constraints name is there, and what is found is the greatest of what the list was made of.
use Rattle.std.proofs.Common.{rules, arith, ◌≡◌, ◌<◌, ◌^◌, length, sym, subst}
use Rattle.std.proofs.lemmas.Grind.{common_steps}
use Rattle.std.specs.List.{AllByRecursion}
use Rattle.hp_air.specs.declared.constraint.Constraint.{Constraint}
use Rattle.hp_air.specs.Nodes.{program_of}
use Rattle.hp_air.specs.Placed.{dist_at}
use Rattle.hp_compile.proofs.FewSlots.{few_slots}
use Rattle.hp_compile.proofs.GreatestAlike.{found_greatest}
use Rattle.hp_compile.proofs.greatest.greatest_dists.Goals as goal

-- src/greatest.rt:39:43
pub overflow_cast-len : goal.overflow_cast-len
overflow_cast-len c =
    let few : c.len.result < 2 ^ 32 = few_slots c.args.air.now.slots c.args.air.now.words (program_of c.args.air.now.body) c.len.result c.args.air.now.few_names (search rules) in
    omega (arith, few)

-- src/greatest.rt:39:20
pub new-requires-clause-within : goal.new-requires-clause-within
new-requires-clause-within c =
    let is : c.len.result ≡ length c.args.air.now.slots = search rules in
    subst (λ n. AllByRecursion (λ (it : Constraint). (it.low < n) × (it.high < n)) c.in_ok-list.list.items) (sym is) c.in_ok-list.ensures.within

-- src/greatest.rt:34:1
pub returns-clause-greatest : goal.returns-clause-greatest
returns-clause-greatest c =
    found_greatest c.args.air.now.slots (program_of c.args.air.now.body) (length c.into_dists.result.list) c.in_ok-list.list.items (dist_at c.into_dists.result.list) c.in_ok-list.ensures.exact (grind (arith, common_steps)) (search rules)
