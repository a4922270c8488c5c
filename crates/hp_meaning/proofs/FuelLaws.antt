-- The laws of fuel: what a script means under more and under less of it, and that the number that turns are counted by
-- does not matter.
use Rattle.std.proofs.Common.{◌≡◌, ℕ, ◌+◌, ◌-◌, ◌<◌, ◌≤◌, inl, inr, List, Option, Some, None, refl, sym, ap, ◌∙◌, subst, arith}
use Rattle.std.proofs.lemmas.Bool.{cases_lt}
use Rattle.hp_word.specs.declared.order.Order.{Order}
use Rattle.hp_word.specs.declared.table.Table.{Table}
use Rattle.hp_word.specs.Runs.{Went, Trapped, Spent, Mistaken, turns, IsFrontOf, Writes}
use Rattle.hp_word.proofs.RunFuel.{Further, went, trapped, spent, mistaken, turns_same}
use Rattle.hp_word.proofs.RunGrowth.{front_same, Grows, writes_of}
use Rattle.hp_word.proofs.RunGrowth as growth
use Rattle.hp_script.specs.Mirror.{Block}
use Rattle.hp_meaning.specs.declared.seq.SeqStatus.TheVariants as status
use Rattle.hp_meaning.specs.FuelLaws.{IsOver, end_with_more, end_with, EndsAfter}
use Rattle.hp_meaning.specs.ReadCalls.{reads_of}
use Rattle.hp_meaning.specs.Run.{State, Ran, decided, in_turn, run, End, end_of, start, eval}
use Rattle.hp_meaning.specs.ValueOf.{Supply, supply, Meaning}
use Rattle.hp_meaning.proofs.FuelGrowth.{turn_growing, run_grows, run_growing}
use Rattle.hp_meaning.proofs.FuelRuns.{decided_lawful, run_further}

-- ---- turns

-- the number that turns are counted by does not matter where it is greater than the fuel
pub same_turns : (g : Supply) (test : Meaning) (b : Block) (j k : ℕ) (s : State) → s.fuel < j → s.fuel < k → turns j (decided test) (in_turn (run g b)) s ≡ turns k (decided test) (in_turn (run g b)) s
same_turns g test b j k s less less2 = turns_same (decided test) (in_turn (run g b)) (decided_lawful test) (turn_growing (run g b) (run_growing g b)) j k s less less2

-- ---- ends

some_end : {e later : End} → Some e ≡ Some later → e ≡ later
some_end h = cc

over_later : {limit more : ℕ} {a b : Ran} (e : End) → Further limit more a b → end_of a ≡ Some e → IsOver e.status → end_of b ≡ Some (end_with_more more e)
over_later {more = more} e (went {s = s} le) is over = ap (λ (f : End). Some (end_with_more more f)) (some_end is)
over_later {more = more} e (trapped le) is over = ap (λ (f : End). Some (end_with_more more f)) (some_end is)
over_later {more = more} {b = b} e (spent grown) is over = absurd (subst (λ (f : End). IsOver f.status) (sym (some_end is)) over)
over_later e mistaken is over = absurd cc

wrong_later : {limit more : ℕ} {a b : Ran} → Further limit more a b → end_of a ≡ None → end_of b ≡ None
wrong_later (went le) is = absurd cc
wrong_later (trapped le) is = absurd cc
wrong_later (spent grown) is = absurd cc
wrong_later mistaken is = refl

writes_at_end : (before : List ℕ) (ran : Ran) (later : End) → Writes before ran → end_of ran ≡ Some later → IsFrontOf before later.at.out
writes_at_end before (Went s) later p is = subst (λ (f : End). IsFrontOf before f.at.out) (some_end is) p
writes_at_end before (Trapped t s) later p is = subst (λ (f : End). IsFrontOf before f.at.out) (some_end is) p
writes_at_end before (Spent s) later p is = subst (λ (f : End). IsFrontOf before f.at.out) (some_end is) p
writes_at_end before Mistaken later p is = absurd cc

front_at_end : {limit more : ℕ} {a b : Ran} (e later : End) → Further limit more a b → end_of a ≡ Some e → end_of b ≡ Some later → IsFrontOf e.at.out later.at.out
front_at_end {b = b} e later (went {s = s} le) is ends = subst (λ (f : End). IsFrontOf f.at.out later.at.out) (some_end is) (writes_at_end s.out b later (front_same s.out) ends)
front_at_end {b = b} e later (trapped {s = s} le) is ends = subst (λ (f : End). IsFrontOf f.at.out later.at.out) (some_end is) (writes_at_end s.out b later (front_same s.out) ends)
front_at_end {b = b} e later (spent {s = s} grown) is ends = subst (λ (f : End). IsFrontOf f.at.out later.at.out) (some_end is) (writes_at_end s.out b later (writes_of grown) ends)
front_at_end e later mistaken is ends = absurd cc

left_at_end : {out : List ℕ} {fuel : ℕ} {ran : Ran} (e : End) → Grows out fuel ran → end_of ran ≡ Some e → e.at.fuel ≤ fuel
left_at_end {fuel = fuel} e (growth.went p le) is = subst (λ (f : End). f.at.fuel ≤ fuel) (some_end is) le
left_at_end {fuel = fuel} e (growth.trapped p le) is = subst (λ (f : End). f.at.fuel ≤ fuel) (some_end is) le
left_at_end {fuel = fuel} e (growth.spent p none) is = subst (λ (f : End). f.at.fuel ≤ fuel) (some_end is) (omega arith)
left_at_end e growth.mistaken is = absurd cc

-- of the end of a run that is out of fuel
abbrev IsSpent : End → Type 0
IsSpent e = e.status ≡ status.Fuel → e.at.fuel ≡ 0

none_at_end : {out : List ℕ} {fuel : ℕ} {ran : Ran} (e : End) → Grows out fuel ran → end_of ran ≡ Some e → IsSpent e
none_at_end e (growth.went p le) is = subst IsSpent (some_end is) (λ same. absurd cc)
none_at_end e (growth.trapped p le) is = subst IsSpent (some_end is) (λ same. absurd cc)
none_at_end e (growth.spent p none) is = subst IsSpent (some_end is) (λ same. none)
none_at_end e growth.mistaken is = absurd cc

-- ---- scripts

eval_further : (body : Block) (tables : List Table) (orders : List Order) (fuel more : ℕ) → Further fuel more (run (supply tables (reads_of body) orders) body (start fuel)) (run (supply tables (reads_of body) orders) body (start (fuel + more)))
eval_further body tables orders fuel more = run_further (supply tables (reads_of body) orders) body more (start fuel)

-- a script that is over is over in the same way under more fuel, but for the fuel left
pub more_fuel : (body : Block) (tables : List Table) (orders : List Order) (fuel more : ℕ) (e : End) → eval body tables orders fuel ≡ Some e → IsOver e.status → eval body tables orders (fuel + more) ≡ Some (end_with_more more e)
unfolding eval
more_fuel body tables orders fuel more e is over = over_later e (eval_further body tables orders fuel more) is over

-- a script that is wrong is wrong under more fuel
pub still_wrong : (body : Block) (tables : List Table) (orders : List Order) (fuel more : ℕ) → eval body tables orders fuel ≡ None → eval body tables orders (fuel + more) ≡ None
unfolding eval
still_wrong body tables orders fuel more is = wrong_later (eval_further body tables orders fuel more) is

-- the output under less fuel is a front of the output under more
pub less_fuel : (body : Block) (tables : List Table) (orders : List Order) (fuel more : ℕ) (e later : End) → eval body tables orders fuel ≡ Some e → eval body tables orders (fuel + more) ≡ Some later → IsFrontOf e.at.out later.at.out
unfolding eval
less_fuel body tables orders fuel more e later is ends = front_at_end e later (eval_further body tables orders fuel more) is ends

-- a script takes no more fuel than it is given
pub fuel_left : (body : Block) (tables : List Table) (orders : List Order) (fuel : ℕ) (e : End) → eval body tables orders fuel ≡ Some e → e.at.fuel ≤ fuel
unfolding eval
fuel_left body tables orders fuel e is = left_at_end e (run_grows (supply tables (reads_of body) orders) body (start fuel)) is

-- a script that is out of fuel has taken all
pub none_left : (body : Block) (tables : List Table) (orders : List Order) (fuel : ℕ) (e : End) → eval body tables orders fuel ≡ Some e → e.status ≡ status.Fuel → e.at.fuel ≡ 0
unfolding eval
none_left body tables orders fuel e is = none_at_end e (run_grows (supply tables (reads_of body) orders) body (start fuel)) is

-- ---- less fuel

-- where a script is over under more fuel, it ends under less by the turns that it has taken
ends_after : {limit more : ℕ} {a b : Ran} (e : End) → 0 < more → Further limit more a b → end_of b ≡ Some e → IsOver e.status → EndsAfter ((limit + more) - e.at.fuel) e limit (end_of a)
ends_after {limit = limit} {more = more} e some (went {s = s} le) is over =
    let same : s.fuel ≡ limit - ((limit + more) - (s.fuel + more)) = omega arith in
    subst (λ (f : End). EndsAfter ((limit + more) - f.at.fuel) f limit (end_of (Went s))) (some_end is) (record {
      enough = λ turns. ap (λ (k : ℕ). end_of (Went (record s { fuel = k }))) same;
      too_few = λ few. absurd (omega arith);
    })
ends_after {limit = limit} {more = more} e some (trapped {t = t} {s = s} le) is over =
    let same : s.fuel ≡ limit - ((limit + more) - (s.fuel + more)) = omega arith in
    subst (λ (f : End). EndsAfter ((limit + more) - f.at.fuel) f limit (end_of (Trapped t s))) (some_end is) (record {
      enough = λ turns. ap (λ (k : ℕ). end_of (Trapped t (record s { fuel = k }))) same;
      too_few = λ few. absurd (omega arith);
    })
ends_after {limit = limit} {more = more} e some (spent {s = s} grown) is over =
    let left : e.at.fuel ≤ more - 1 = left_at_end e grown is in
    record { enough = λ turns. absurd (omega (arith, left)); too_few = λ few. refl }
ends_after e some mistaken is over = absurd cc

ends_with_more : (turns fuel more : ℕ) (e : End) (found : Option End) → turns ≡ fuel - e.at.fuel → e.at.fuel ≤ fuel → found ≡ Some (end_with_more more e) → EndsAfter turns e (fuel + more) found
ends_with_more turns fuel more e found taken le is =
    let same : e.at.fuel + more ≡ (fuel + more) - turns = omega (arith, taken) in
    record { enough = λ enough. is ∙ ap (λ k. Some (end_with k e)) same; too_few = λ few. absurd (omega (arith, taken)) }

less_turns : (body : Block) (tables : List Table) (orders : List Order) (fuel more : ℕ) (e : End) → 0 < more → eval body tables orders (fuel + more) ≡ Some e → IsOver e.status → EndsAfter ((fuel + more) - e.at.fuel) e fuel (eval body tables orders fuel)
unfolding eval
less_turns body tables orders fuel more e some is over = ends_after e some (eval_further body tables orders fuel more) is over

more_turns : (body : Block) (tables : List Table) (orders : List Order) (fuel more : ℕ) (e : End) → eval body tables orders fuel ≡ Some e → IsOver e.status → EndsAfter (fuel - e.at.fuel) e (fuel + more) (eval body tables orders (fuel + more))
more_turns body tables orders fuel more e is over =
    ends_with_more (fuel - e.at.fuel) fuel more e (eval body tables orders (fuel + more)) refl (fuel_left body tables orders fuel e is) (more_fuel body tables orders fuel more e is over)

-- a script that is over begins as many loop turns as fuel was taken: it ends so under just that fuel, and not under less
pub turns_begun : (body : Block) (tables : List Table) (orders : List Order) (fuel other : ℕ) (e : End) → eval body tables orders fuel ≡ Some e → IsOver e.status → EndsAfter (fuel - e.at.fuel) e other (eval body tables orders other)
turns_begun body tables orders fuel other e is over = elim (cases_lt other fuel) [
  | inl less ↦ let same : other + (fuel - other) ≡ fuel = omega arith in
      subst (λ f. EndsAfter (f - e.at.fuel) e other (eval body tables orders other)) same
      (less_turns body tables orders other (fuel - other) e (omega arith) (subst (λ f. eval body tables orders f ≡ Some e) (sym same) is) over)
  | inr enough ↦ let same : fuel + (other - fuel) ≡ other = omega arith in
      subst (λ o. EndsAfter (fuel - e.at.fuel) e o (eval body tables orders o)) same (more_turns body tables orders fuel (other - fuel) e is over)
]
