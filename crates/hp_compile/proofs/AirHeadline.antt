-- What the ranks write is what the program of the array IR means.
use Rattle.std.proofs.Common.{◌≡◌, ◌∙◌, refl, sym, subst, ap, arith, ℕ, ◌+◌, ◌*◌, ◌≤◌, List, ◌++◌}
use Rattle.std.proofs.Math.Nat.{mul-le-mul_left}
use Rattle.hp_word.specs.declared.order.Order.{Order}
use Rattle.hp_word.specs.Runs as runs
use Rattle.hp_word.specs.Runs.{Ran, Went}
use Rattle.hp_network.specs.Network.{rounds}
use Rattle.hp_program.specs.Programs.{EndsAs, both_went, operations}
use Rattle.hp_program.proofs.Keeping.{first_holds}
use Rattle.hp_air.specs.Meaning.{Ending, Done, ending, mean}
use Rattle.hp_air.specs.Wholes.{Env}
use Rattle.hp_parfor.specs.Built.{IsSameAtTrap}
use Rattle.hp_parfor.proofs.BuiltMeaning.{built_ends, lists_fit, no_more_work, same_ending}
use Rattle.hp_lowering.specs.Room.{room_of}
use Rattle.hp_lowering.specs.Standing.{IsOf}
use Rattle.hp_compile.specs.Meant.{BeginsWith, IsDoneWith, IsStoppedWith, Meant, Ranks, Stops, WriteAsMeant, after, orders_after}
use Rattle.hp_compile.specs.RanksLaws.{program_meant, program_work}
use Rattle.hp_compile.specs.HeadlineLaws.{AirEndIsHeld, AirIsOver, AirIsWritten, BuiltMeansAsAir, air_meant, air_work}
use Rattle.hp_compile.proofs.RanksWrite.{programs_hold_end, programs_write}
use Rattle.hp_compile.proofs.RoundsEnd.{programs_are_over}

-- ---- another meaning

-- what is meant by what ends in the same way under all orders is written as well
pub write_same : (r : Ranks) (first second : Meant) (turns : List ℕ) → ((orders : List Order) (fuel : ℕ) → first orders fuel ≡ second orders fuel) → WriteAsMeant r first turns → WriteAsMeant r second turns
write_same r first second turns same h =
    record {
      front = λ fuel le. subst (BeginsWith (after r turns).out) (same (orders_after r turns) fuel) (h.front fuel le);
      done = λ fuel le halted. subst (IsDoneWith (after r turns).out) (same (orders_after r turns) fuel) (h.done fuel le halted);
      stopped = λ fuel le trapped. subst (IsStoppedWith (after r turns).out) (same (orders_after r turns) fuel) (h.stopped fuel le trapped);
    }

-- less work costs no more
pub less_cost : (n less more count : ℕ) → less ≤ more → (2 * n + 14) * more + n ≤ count → (2 * n + 14) * less + n ≤ count
less_cost n less more count le enough = let cost = mul-le-mul_left {m = less} {n = more} (2 * n + 14) le in omega (arith, cost, enough)

-- ---- programs of the array IR

pub air_is_written : AirIsWritten
air_is_written p air r turns h as_air = write_same r (program_meant p r.tables) (air_meant p.slots air r.tables) turns as_air.endings (programs_write p r turns h)

-- what ends as what is done is done
record DoneThere (ran : Ran Env ℕ) : Type 0 where
  end : runs.State Env ℕ
  is : ran ≡ Went end

abbrev IsDone : Ending → Type 0
IsDone (Done out bad) = Unit {0}
IsDone _ = ⊥

done_there : (ran : Ran Env ℕ) → IsDone (ending ran) → DoneThere ran
done_there (runs.Went s) h = record { end = s; is = refl }
done_there (runs.Trapped t s) h = absurd h
done_there (runs.Spent s) h = absurd h
done_there runs.Mistaken h = absurd h

pub air_end_is_held : AirEndIsHeld
air_end_is_held p air r turns fuel h as_air le halted =
    let held = programs_hold_end p r turns fuel h le halted in
    let os = orders_after r turns in
    let done : IsDone (air_meant p.slots air r.tables os fuel) = subst IsDone (ap ending (sym held.done) ∙ as_air.endings os fuel) tt in
    let there = done_there (mean p.slots air r.tables.list os fuel) done in
    let same = as_air.envs os fuel held.end there.end held.done there.is in
    record { end = there.end; done = there.is; env = held.env; lays = held.lays; is = subst (λ e. IsOf (room_of p.slots p.words) e held.env) same held.is }

pub air_is_over : AirIsOver
air_is_over p air r h as_air count more fuel stops enough =
    let os = orders_after r (rounds r.count count ++ more) in
    programs_are_over p r h count more fuel (subst Stops (sym (as_air.endings os fuel)) stops)
    (less_cost r.count (program_work p r.tables os fuel) (air_work p.slots air r.tables os fuel) count (as_air.work os fuel) enough)

-- ---- what is built

abbrev EndsAlike : Ran Env ℕ → Ran Env ℕ → Type 0
EndsAlike a b = EndsAs (λ e f. e ≡ f) IsSameAtTrap a b

went_alike : {a b : Ran Env ℕ} (s t : runs.State Env ℕ) → EndsAlike a b → b ≡ Went s → a ≡ Went t → s.env ≡ t.env
went_alike {a = a} {b = b} s t alike e f = by (subst (λ x. EndsAlike x (Went s)) f (subst (λ y. EndsAlike a y) e alike))
  where
    by : EndsAlike (Went t) (Went s) → s.env ≡ t.env
    by (both_went like) = sym like.env

pub built_means_as_air : BuiltMeansAsAir
built_means_as_air slots words air dists tables kept =
    let alike = λ (orders : List Order) (fuel : ℕ). built_ends slots dists air tables.list orders fuel (lists_fit slots words (operations air) (first_holds _ _ kept)) in
    record {
      endings = λ orders fuel. sym (same_ending (alike orders fuel));
      envs = λ orders fuel s t. went_alike s t (alike orders fuel);
      work = λ orders fuel. no_more_work (alike orders fuel);
    }
