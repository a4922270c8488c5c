-- Turns in rounds of the ranks of a program's code are over soon.
use Rattle.std.proofs.Common.{◌≡◌, refl, subst, ap, arith, ℕ, zero, suc, ◌+◌, ◌*◌, ◌<◌, ◌≤◌, List, ◌++◌, ◌⊎◌, inl, inr}
use Rattle.hp_word.specs.declared.order.Order.{Order}
use Rattle.hp_word.specs.declared.table.Tables.{Tables}
use Rattle.hp_word.specs.Runs as runs
use Rattle.hp_word.specs.Runs.{Ran}
use Rattle.hp_network.specs.Network.{rounds}
use Rattle.hp_spmd.specs.declared.code.Code.{Code}
use Rattle.hp_spmd.specs.Kinds.{Kind, Posts, Takes, TakesRoot, kind_of}
use Rattle.hp_spmd.specs.Lockstep.{State, Step, Ends, Trips, Steps, IsOver, first_state, lockstep_of, position_of, state_of, step}
use Rattle.hp_spmd.specs.Store.{instr_at}
use Rattle.hp_turns.specs.Apart as apart
use Rattle.hp_turns.specs.Apart.{LogsPast, price}
use Rattle.hp_turns.proofs.Over.{rounds_end}
use Rattle.hp_turns.proofs.Passed.{rounds_pass}
use Rattle.hp_snippet.specs.Leads.{paid, price_then}
use Rattle.hp_program.specs.Programs.{start}
use Rattle.hp_program.proofs.Fuel.{run_further}
use Rattle.hp_air.specs.Meaning.{ending, work_of}
use Rattle.hp_air.specs.Wholes.{Env, unset}
use Rattle.hp_parfor.specs.LoopMeaning.{part_doing, parts_mean}
use Rattle.hp_lowering.specs.RunLaws.{HasStopped}
use Rattle.hp_lowering.specs.Standing.{HasLogged}
use Rattle.hp_lowering.proofs.RunsParts.{ranks_stop, same_work}
use Rattle.hp_compile.specs.Meant.{HasTrapped, HaveHalted, Ranks, Stops, orders_after}
use Rattle.hp_compile.specs.RanksLaws.{Program, ProgramsAreOver, RunProgram}
use Rattle.hp_compile.proofs.RanksWrite.{beside, comes_to}
use Rattle.hp_compile.proofs.RunsApart.{looks_below, may_run_apart}

-- ---- prices

-- an instruction costs a rank no more than there are ranks
price_most : (n : ℕ) (k : Kind) → 1 ≤ n → price n k ≤ n
price_most n Posts some = omega arith
price_most n Takes some = omega arith
price_most n TakesRoot some = omega arith
price_most n k some = some

then_same : (here : ℕ) (f g : State → ℕ) (u : Step) → ((s : State) → f s ≡ g s) → price_then here f u ≡ apart.paid_then here g u
then_same here f g Ends h = refl
then_same here f g (Trips t) h = refl
then_same here f g (Steps s) h = ap (λ k. here + k) (h s)

-- what is paid at these prices is what turns take
paid_same : (code : Code) (tables : Tables) (n k : ℕ) (s : State) → paid code tables (price n) k s ≡ apart.paid code tables n k s
unfolding paid apart.paid
paid_same code tables n zero s = refl
paid_same code tables n (suc k) s = then_same (price n (kind_of (instr_at code.list (position_of s.ranks)))) (paid code tables (price n) k) (apart.paid code tables n k) (step code tables s) (λ t. paid_same code tables n k t)

then_more : (here n : ℕ) (f g : State → ℕ) (u : Step) → ((s : State) → f s ≤ g s + n) → price_then here f u ≤ price_then here g u + n
then_more here n f g Ends h = omega arith
then_more here n f g (Trips t) h = omega arith
then_more here n f g (Steps s) h = let le = h s in omega (arith, le)

then_first : (here n : ℕ) (f : State → ℕ) (u : Step) → here ≤ n → ((s : State) → f s ≡ 0) → price_then here f u ≤ n
then_first here n f Ends le h = omega arith
then_first here n f (Trips t) le h = omega arith
then_first here n f (Steps s) le h = let none = h s in omega (arith, le, none)

-- one instruction more costs no more than there are ranks
paid_more : (code : Code) (tables : Tables) (n k : ℕ) (s : State) → 1 ≤ n → paid code tables (price n) (suc k) s ≤ paid code tables (price n) k s + n
unfolding paid
paid_more code tables n zero s some =
    let i = kind_of (instr_at code.list (position_of s.ranks)) in
    let le = then_first (price n i) n (paid code tables (price n) 0) (step code tables s) (price_most n i some) (λ t. refl) in
    omega (arith, le)
paid_more code tables n (suc k) s some =
    then_more (price n (kind_of (instr_at code.list (position_of s.ranks)))) n (paid code tables (price n) (suc k)) (paid code tables (price n) k) (step code tables s) (λ t. paid_more code tables n k t some)

-- ---- rounds

stops_stopped : (ran : Ran Env ℕ) → Stops (ending ran) → HasStopped ran
stops_stopped (runs.Went s) h = tt
stops_stopped (runs.Trapped t s) h = tt
stops_stopped (runs.Spent s) h = h
stops_stopped runs.Mistaken h = h

-- more fuel is no more work where a program stops
work_there : (p : Program) (r : Ranks) (orders : List Order) (fuel more : ℕ) → Stops (ending (comes_to p r orders fuel)) → work_of (comes_to p r orders (fuel + more)) ≡ work_of (comes_to p r orders fuel)
unfolding parts_mean
work_there p r orders fuel more h = same_work (run_further more (part_doing p.slots p.dists r.tables.list orders) p.steps (start unset fuel)) (stops_stopped (comes_to p r orders fuel) h)

next_paid : (paid1 paid2 cost n count : ℕ) → paid2 ≤ paid1 + n → paid1 + 0 ≤ cost → cost + n ≤ count → paid2 ≤ count
next_paid paid1 paid2 cost n count a b c = omega (arith, a, b, c)

last_paid : (paid1 cost n count : ℕ) → 1 ≤ n → paid1 + 0 ≤ cost → cost + n ≤ count → paid1 < count
last_paid paid1 cost n count a b c = omega (arith, a, b, c)

module _ (p : Program) (r : Ranks) (h : RunProgram p r) (count : ℕ) (more : List ℕ) (fuel : ℕ) where
  abbrev turns : List ℕ
  turns = rounds r.count count ++ more

  abbrev os : List Order
  os = orders_after r turns

  abbrev units : ℕ
  units = work_of (comes_to p r os fuel)

  abbrev limit : ℕ
  limit = 16 * units

  abbrev first : State
  first = first_state r.code r.count

  module _ (stops : Stops (ending (comes_to p r os fuel))) (enough : (2 * r.count + 14) * units + r.count ≤ count) where
    cost_at : (j : ℕ) → j ≤ limit → HasLogged os (state_of (lockstep_of r.code r.tables r.count j)) → paid r.code r.tables (price r.count) j first + 0 ≤ (2 * r.count + 14) * units
    cost_at j le logged =
        let few : j ≤ fuel + limit = omega (arith, le) in
        let comes = beside p r os (fuel + limit) j h logged few in
        subst (λ w. paid r.code r.tables (price r.count) j first + 0 ≤ (2 * r.count + 14) * w) (work_there p r os fuel limit stops) comes.cost

    -- so many rounds pass where so much is paid
    passed : (j : ℕ) → paid r.code r.tables (price r.count) j first ≤ count → HasTrapped r turns ⊎ HasLogged os (state_of (lockstep_of r.code r.tables r.count j))
    passed j le = by (rounds_pass r.code r.tables r.room r.count j count more (may_run_apart p r h) (subst (λ k. k ≤ count) (paid_same r.code r.tables r.count j first) le))
      where
        by : HasTrapped r turns ⊎ LogsPast r.code r.tables r.room r.count j turns → HasTrapped r turns ⊎ HasLogged os (state_of (lockstep_of r.code r.tables r.count j))
        by (inl trapped) = inl trapped
        by (inr past) = inr past.orders

    logged_at : (j : ℕ) → j ≤ limit → HasTrapped r turns ⊎ HasLogged os (state_of (lockstep_of r.code r.tables r.count j))
    unfolding paid
    logged_at zero le = passed zero (omega arith)
    logged_at (suc j) le = by (logged_at j (omega (arith, le)))
      where
        by : HasTrapped r turns ⊎ HasLogged os (state_of (lockstep_of r.code r.tables r.count j)) → HasTrapped r turns ⊎ HasLogged os (state_of (lockstep_of r.code r.tables r.count (suc j)))
        by (inl trapped) = inl trapped
        by (inr logged) =
            let one = paid_more r.code r.tables r.count j first h.some in
            let few : j ≤ limit = omega (arith, le) in
            passed (suc j) (next_paid (paid r.code r.tables (price r.count) j first) (paid r.code r.tables (price r.count) (suc j) first) ((2 * r.count + 14) * units) r.count count one (cost_at j few logged) enough)

    pub rounds_over : HasTrapped r turns ⊎ HaveHalted r turns
    rounds_over = by (logged_at limit (omega arith))
      where
        by : HasTrapped r turns ⊎ HasLogged os (state_of (lockstep_of r.code r.tables r.count limit)) → HasTrapped r turns ⊎ HaveHalted r turns
        by (inl trapped) = inl trapped
        by (inr logged) =
            let over : IsOver (lockstep_of r.code r.tables r.count limit) = ranks_stop p.slots p.words p.steps p.dists r.code r.tables r.count os fuel limit h.some h.list (looks_below p h.kept) (h.carried os) logged (stops_stopped (comes_to p r os fuel) stops) (omega arith) in
            let all : limit ≤ limit = omega arith in
            let lt = last_paid (paid r.code r.tables (price r.count) limit first) ((2 * r.count + 14) * units) r.count count h.some (cost_at limit all logged) enough in
            rounds_end r.code r.tables r.room r.count limit count more (may_run_apart p r h) over (subst (λ k. k < count) (paid_same r.code r.tables r.count limit first) lt)

pub programs_are_over : ProgramsAreOver
programs_are_over p r h count more fuel stops enough = rounds_over p r h count more fuel stops enough
