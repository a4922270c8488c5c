-- What the ranks of a program's code write, and what they come to, is what the program means.
use Rattle.std.proofs.Common.{◌≡◌, ◌∙◌, ◌+◌, ◌*◌, refl, sym, subst, arith, ℕ, ◌≤◌, List, length}
use Rattle.hp_word.specs.declared.order.Order.{Order}
use Rattle.hp_word.specs.declared.place.Trap.{Trap}
use Rattle.hp_word.specs.Runs as runs
use Rattle.hp_word.specs.Runs.{IsFrontOf, Ran, Went, Writes}
use Rattle.hp_word.proofs.RunGrowth.{front_trans}
use Rattle.hp_spmd.specs.Layout.{Layout}
use Rattle.hp_spmd.specs.Lockstep.{State, Reached, Ended, Trapped, first_state, lockstep_of, state_of}
use Rattle.hp_turns.specs.Apart.{EndsAsLockstep, LogsAsLockstep, MayRunApart, price}
use Rattle.hp_turns.specs.Turns.{kept_orders}
use Rattle.hp_turns.proofs.Clauses.{ends_only, never_stuck, shares_always}
use Rattle.hp_turns.proofs.Over.{traps_only}
use Rattle.hp_turns.proofs.Written.{logs_with_output}
use Rattle.hp_program.specs.Programs.{start}
use Rattle.hp_program.proofs.Growth as growth
use Rattle.hp_program.proofs.Growth.{Rises, run_rises}
use Rattle.hp_air.specs.Meaning.{ending}
use Rattle.hp_air.specs.Wholes.{Env, unset}
use Rattle.hp_parfor.specs.LoopMeaning.{part_doing, parts_mean}
use Rattle.hp_lowering.specs.Flow.{Comes, Meets, ends, trips, passes}
use Rattle.hp_lowering.specs.Room.{room_of}
use Rattle.hp_lowering.specs.Standing.{AreSound, HasLogged, StandFor}
use Rattle.hp_lowering.proofs.RunsParts.{ranks_run_parts}
use Rattle.hp_compile.specs.Meant.{BeginsWith, IsDoneWith, IsStoppedWith, Ranks, HaveHalted, HasTrapped, Stand, after, orders_after}
use Rattle.hp_compile.specs.RanksLaws.{HoldEnd, Program, ProgramsHoldEnd, ProgramsStand, ProgramsWrite, RunProgram}
use Rattle.hp_compile.proofs.RunsApart.{looks_below, may_run_apart}

-- ---- the program beside the lockstep

-- what a program with loops comes to under orders
abbrev pub comes_to : Program → Ranks → List Order → (fuel : ℕ) → Ran Env ℕ
comes_to p r orders fuel = parts_mean p.slots p.dists p.steps r.tables.list orders fuel

abbrev pub stand_for : Program → Ranks → State → Env → Type 0
stand_for p r = StandFor r.code (room_of p.slots p.words) r.count

abbrev pub ComesBeside : Program → Ranks → (k : ℕ) → Ran Env ℕ → Type 0
ComesBeside p r k ran = Comes r.code r.tables (price r.count) (2 * r.count + 14) (AreSound r.code r.tables r.count) (stand_for p r) k (first_state r.code r.count) 0 0 ran

pub beside : (p : Program) (r : Ranks) (orders : List Order) (fuel k : ℕ) → RunProgram p r → HasLogged orders (state_of (lockstep_of r.code r.tables r.count k)) → k ≤ fuel → ComesBeside p r k (comes_to p r orders fuel)
beside p r orders fuel k h logged le = ranks_run_parts p.slots p.words p.steps p.dists r.code r.tables r.count orders fuel k h.some h.list (looks_below p h.kept) (h.carried orders) logged le

-- no run of a program is wrong
abbrev pub IsRight : Ran Env ℕ → Type 0
IsRight runs.Mistaken = ⊥
IsRight _ = Unit {0}

rises_right : {work : ℕ} {ran : Ran Env ℕ} → Rises work ran → IsRight ran
rises_right (growth.went le) = tt
rises_right (growth.trapped le) = tt
rises_right (growth.spent le) = tt

pub never_wrong : (p : Program) (r : Ranks) (orders : List Order) (fuel : ℕ) → IsRight (comes_to p r orders fuel)
unfolding parts_mean
never_wrong p r orders fuel = rises_right (run_rises (part_doing p.slots p.dists r.tables.list orders) p.steps (start unset fuel))

-- ---- fronts

same_front : (a b c : List ℕ) → IsFrontOf a b → b ≡ c → IsFrontOf a c
same_front a b c p e = subst (IsFrontOf a) e p

writes_begin : (text out : List ℕ) (ran : Ran Env ℕ) → IsFrontOf text out → Writes out ran → IsRight ran → BeginsWith text (ending ran)
writes_begin text out (runs.Went s) f w right = front_trans text out s.out f w
writes_begin text out (runs.Trapped t s) f w right = front_trans text out s.out f w
writes_begin text out (runs.Spent s) f w right = front_trans text out s.out f w
writes_begin text out runs.Mistaken f w right = right

begins : {SF : State → Env → Type 0} {reached : Reached} {ran : Ran Env ℕ} (text : List ℕ) → IsFrontOf text (state_of reached).out → Meets SF reached ran → IsRight ran → BeginsWith text (ending ran)
begins text f (ends {end = end} {t = t} same stands) right = same_front text end.out t.out f same
begins text f (trips {end = end} {t = t} same) right = same_front text end.out t.out f same
begins text f (passes {s = s} {ran = ran} w) right = writes_begin text s.out ran f w right

-- ---- after any turns

module _ (p : Program) (r : Ranks) (turns : List ℕ) (h : RunProgram p r) where
  apart : MayRunApart r.code r.tables r.count
  apart = may_run_apart p r h

  pub stands : Stand r turns
  stands = record { going = never_stuck r.code r.tables r.room r.count turns apart; placed = shares_always r.code r.tables r.room r.count turns apart }

  pub writes_front_of : (fuel : ℕ) → length turns ≤ fuel → BeginsWith (after r turns).out (ending (comes_to p r (orders_after r turns) fuel))
  writes_front_of fuel le =
      let logs : LogsAsLockstep r.code r.tables r.room r.count turns = logs_with_output r.code r.tables r.room r.count turns apart in
      let k = logs.limit in
      let few : k ≤ fuel = let least = logs.least in omega (arith, least, le) in
      let comes = beside p r (orders_after r turns) fuel k h logs.orders few in
      begins {reached = lockstep_of r.code r.tables r.count k} {ran = comes_to p r (orders_after r turns) fuel} (after r turns).out logs.out comes.meets (never_wrong p r (orders_after r turns) fuel)

-- ---- where all have halted

own_logged : (end : State) → HasLogged (kept_orders end.ranks).list end
own_logged end last executed number some le plain = refl

-- where the lockstep has ended, so has the program
pub record EndedAs (SF : State → Env → Type 0) (end : State) (ran : Ran Env ℕ) : Type 0 where
  pub last : runs.State Env ℕ
  pub is : ran ≡ Went last
  pub out : end.out ≡ last.out
  pub stands : SF end last.env

ended_as : {SF : State → Env → Type 0} {end : State} {ran : Ran Env ℕ} → Meets SF (Ended end) ran → EndedAs SF end ran
ended_as (ends {t = t} same stands) = record { last = t; is = refl; out = same; stands = stands }

-- where the lockstep has trapped, so has the program
stops_by : {SF : State → Env → Type 0} {trap : Trap} {end : State} {ran : Ran Env ℕ} (text : List ℕ) → Meets SF (Trapped trap end) ran → BeginsWith text (ending ran) → IsStoppedWith text (ending ran)
stops_by text (trips same) front = front

module _ (p : Program) (r : Ranks) (turns : List ℕ) (h : RunProgram p r) (fuel : ℕ) (le : length turns ≤ fuel) where
  abbrev os : List Order
  os = orders_after r turns

  pub ended : HaveHalted r turns → (e : EndsAsLockstep r.code r.tables r.room r.count turns) × EndedAs (stand_for p r) e.end (comes_to p r os fuel)
  ended halted =
      let e = ends_only r.code r.tables r.room r.count turns (may_run_apart p r h) halted in
      let own : HasLogged os e.end = subst (λ xs. HasLogged (kept_orders xs).list e.end) (sym e.stores) (own_logged e.end) in
      let logged : HasLogged os (state_of (lockstep_of r.code r.tables r.count e.limit)) = subst (λ x. HasLogged os (state_of x)) (sym e.ends) own in
      let few : e.limit ≤ fuel = let least = e.least in omega (arith, least, le) in
      (e, ended_as (subst (λ x. Meets (stand_for p r) x (comes_to p r os fuel)) e.ends (beside p r os fuel e.limit h logged few).meets))

  pub halts_done : HaveHalted r turns → IsDoneWith (after r turns).out (ending (comes_to p r os fuel))
  halts_done halted =
      let both = ended halted in
      subst (λ x. IsDoneWith (after r turns).out (ending x)) (sym both.1.is) (both.0.out ∙ both.1.out)

  pub holds_end : HaveHalted r turns → HoldEnd p r turns fuel
  holds_end halted =
      let both = ended halted in
      let stands = both.1.stands in
      record { end = both.1.last; done = both.1.is; env = stands.env; lays = subst (λ xs. Layout r.code xs stands.env) (sym both.0.stores) stands.lays; is = stands.is }

  pub trap_stops : HasTrapped r turns → IsStoppedWith (after r turns).out (ending (comes_to p r os fuel))
  trap_stops trapped =
      let e = traps_only r.code r.tables r.room r.count turns trapped.0 (may_run_apart p r h) trapped.1 in
      let logged : HasLogged os (state_of (lockstep_of r.code r.tables r.count e.limit)) = subst (λ x. HasLogged os (state_of x)) (sym e.traps) e.orders in
      let few : e.limit ≤ fuel = let least = e.least in omega (arith, least, le) in
      let meets = subst (λ x. Meets (stand_for p r) x (comes_to p r os fuel)) e.traps (beside p r os fuel e.limit h logged few).meets in
      stops_by (after r turns).out meets (writes_front_of p r turns h fuel le)

-- ---- the laws

pub programs_stand : ProgramsStand
programs_stand p r turns h = stands p r turns h

pub programs_write : ProgramsWrite
programs_write p r turns h =
    record { front = λ fuel le. writes_front_of p r turns h fuel le; done = λ fuel le halted. halts_done p r turns h fuel le halted; stopped = λ fuel le trapped. trap_stops p r turns h fuel le trapped }

pub programs_hold_end : ProgramsHoldEnd
programs_hold_end p r turns fuel h le halted = holds_end p r turns h fuel le halted
