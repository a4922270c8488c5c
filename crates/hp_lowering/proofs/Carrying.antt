-- A piece of code that does what it promises carries an operation of a program, where the operation does on slots and words what the piece
-- does on what the ranks stand for.
use Rattle.std.proofs.Common.{◌≡◌, ◌∙◌, sym, subst, ap, arith, inl, inr, ℕ, suc, ◌+◌, ◌-◌, ◌*◌, ◌<◌, ◌≤◌, List, ◌++◌, get_or, length, Result, Ok, Err}
use Rattle.std.specs.List.{All, AllByRecursion, AllZip}
use Rattle.std.proofs.lemmas.Bool.{cases_lt}
use Rattle.std.proofs.lemmas.List.Elements.{All-from_recursion, recursion_from_All}
use Rattle.hp_word.specs.declared.order.Order.{Order}
use Rattle.hp_word.specs.declared.order.Orders.{Orders}
use Rattle.hp_word.specs.declared.place.Trap.{Trap}
use Rattle.hp_word.specs.declared.table.Tables.{Tables}
use Rattle.hp_spmd.specs.declared.code.Code.{Code}
use Rattle.hp_spmd.specs.declared.instr.Instr.{Instr}
use Rattle.hp_spmd.specs.declared.store.Store.{Store}
use Rattle.hp_spmd.specs.Layout as layout
use Rattle.hp_spmd.specs.Layout.{Layout}
use Rattle.hp_spmd.specs.Lockstep.{State, position_of, run, state_of, step}
use Rattle.hp_spmd.specs.Lockstep as lock
use Rattle.hp_spmd.proofs.LockRun.{run_trips}
use Rattle.hp_turns.specs.Apart.{price}
use Rattle.hp_program.specs.Programs.{Doing, Effect}
use Rattle.hp_air.specs.Wholes as wholes
use Rattle.hp_snippet.specs.Outcomes.{After, Does, Went}
use Rattle.hp_snippet.specs.Promises.{IsSound, IsStraight, IsWork, Slots, StandAt, StandBehind, Stays, price_of}
use Rattle.hp_snippet.proofs.Keeping.{stays_at, stays_count}
use Rattle.hp_snippet.proofs.Leading.{leads_wider}
use Rattle.hp_lowering.specs.Flow.{Carries, comes_to}
use Rattle.hp_lowering.specs.Room.{Room}
use Rattle.hp_lowering.specs.Standing.{AreSound, HasLogged, IsOf, LogsExecuted, StandFor}
use Rattle.hp_lowering.proofs.Coming.{Anything, leads_state}
use Rattle.hp_lowering.proofs.Walking.{AreAt, Walked, position_at, walked}

-- What an operation makes of slots and words is what a piece makes of what the ranks stand for; it executes no join and no aggregate.
pub record AreAfter (room : Room) (e : wholes.Env) (effect : Effect wholes.Env) (after : After layout.Env) : Type 0 where
  pub text : effect.text ≡ after.text
  pub is : IsOf room effect.env after.env
  pub executed : effect.env.executed ≡ e.executed
  pub bad : effect.env.bad ≡ e.bad

-- What a piece does to what the ranks stand for is what an operation does to slots and words: the same text and what is then of it, or the
-- same trap.
abbrev pub DoesAs : Room → wholes.Env → Result (Effect wholes.Env) Trap → Result (After layout.Env) Trap → Type 0
DoesAs room e (Ok effect) (Ok after) = AreAfter room e effect after
DoesAs room e (Ok effect) (Err t) = ⊥
DoesAs room e (Err t) (Ok after) = ⊥
DoesAs room e (Err t) (Err u) = t ≡ u

-- what holds of each rank, and is kept with all that it has but what is written
pub stays_all : (written : Slots) (P : Store → Type 0) → ((x y : Store) → Stays written x y → P x → P y) → (xs ys : List Store) → AllZip (Stays written) xs ys → All P xs → All P ys
stays_all written P keeps xs ys zips h k d lt =
    let count = stays_count written xs ys zips in
    keeps (get_or xs k d) (get_or ys k d) (stays_at written xs ys zips k d lt) (h k d (omega (arith, lt, count)))

pub logs_stay : (written : Slots) (x y : Store) → Stays written x y → LogsExecuted x → LogsExecuted y
logs_stay written x y stays h =
    subst (λ (n : ℕ). AllByRecursion (λ (o : Order). (1 ≤ o.number) × (o.number ≤ n)) y.log.list) (sym stays.executed)
    (subst (λ (l : Orders). AllByRecursion (λ (o : Order). (1 ≤ o.number) × (o.number ≤ x.executed)) l.list) (sym stays.log) h)

-- ---- straight instructions

-- Straight instructions, where all ranks are at the first of them.
module _ (code : Code) (tables : Tables) (n : ℕ) (list : List Instr) (s : State) (some : 1 ≤ length s.ranks) (at_one : All (λ (x : Store). x.position ≡ position_of s.ranks) s.ranks) (stand : StandAt code.list (position_of s.ranks) list) (straight : IsStraight list) where
  abbrev here : ℕ
  here = position_of s.ranks

  abbrev until : ℕ
  until = here + length list

  abbrev Sound : State → Type 0
  Sound t = IsSound code tables n until t

  walks : (k : ℕ) → k ≤ length list → Walked here k (state_of (run code tables k s)).ranks
  walks k le = walked code tables list here k s stand straight.jumps le some (recursion_from_All (λ (x : Store). x.position ≡ here) s.ranks at_one)

  -- at each of its instructions they are sound
  sound_at : (k : ℕ) → k < length list → Sound (state_of (run code tables k s)) → AreSound code tables n (state_of (run code tables k s))
  sound_at k lt sound =
      let w = walks k (omega (arith, lt)) in
      let low = w.low in
      let at = position_at w.here (state_of (run code tables k s)).ranks w.some w.at in
      record { each = sound.each; agree = sound.agree (omega (arith, low, at, lt)) }

  -- where it goes to its end, it is gone through once
  went_count : (count : ℕ) → count ≤ length list → position_of (state_of (run code tables count s)).ranks ≡ until → count ≡ length list
  went_count count le at =
      let w = walks count le in
      let low = w.low in
      let is = position_at w.here (state_of (run code tables count s)).ranks w.some w.at in
      omega (arith, le, low, at, is)

  pub gone_count : (E : Type 0) (StandsFor : State → E → Type 0) (after : After E) (w : Went code tables (price n) Sound (λ t. Unit {0}) E StandsFor (length list) (price_of (price n) list) until s after) → w.count ≡ length list
  gone_count E StandsFor after w =
      let leads = leads_wider code tables (price n) Sound Anything w.count w.cost s w.to (λ x i. tt) w.leads in
      went_count w.count w.count_within (ap (λ (t : State). position_of t.ranks) (leads_state code tables (price n) w.count w.cost s w.to leads) ∙ w.place)

  pub keeps_by : (E : Type 0) (StandsFor : State → E → Type 0) (a : Result (After E) Trap) → Does code tables (price n) Sound (λ t. Unit {0}) E StandsFor (length list) (price_of (price n) list) until s a
      → (k : ℕ) → k < length list → AreSound code tables n (state_of (run code tables k s))
  keeps_by E StandsFor (Ok after) w k lt =
      let all = gone_count E StandsFor after w in
      sound_at k lt (w.leads.keeps k (omega (arith, lt, all)))
  keeps_by E StandsFor (Err t) w k lt = elim (cases_lt w.count k) [
    | inr le ↦ sound_at k lt (w.leads.keeps k le)
    | inl later ↦
        let leads = leads_wider code tables (price n) Sound Anything w.count w.cost s w.to (λ x i. tt) w.leads in
        let same = leads_state code tables (price n) w.count w.cost s w.to leads in
        let least : w.count ≤ w.count = omega arith in
        let few = w.count_within in
        let inside : w.count < length list = omega (arith, few) in
        let there = subst (AreSound code tables n) same (sound_at w.count inside (w.leads.keeps w.count least)) in
        let split : w.count + suc (k - suc w.count) ≡ k = omega (arith, later) in
        let stopped = ap (λ m. state_of (run code tables m s)) (sym split) ∙ ap state_of (leads.by (suc (k - suc w.count))) ∙ ap state_of (run_trips (step code tables) (k - suc w.count) w.to t w.trips) in
        subst (AreSound code tables n) (sym stopped) there
  ]

  -- where they are gone through all ranks are at one place again, and the ranks are those of the code
  pub at_end : (E : Type 0) (StandsFor : State → E → Type 0) (after : After E) (w : Went code tables (price n) Sound (λ t. Unit {0}) E StandsFor (length list) (price_of (price n) list) until s after) → All (λ (x : Store). x.position ≡ position_of w.to.ranks) w.to.ranks
  at_end E StandsFor after w =
      let leads = leads_wider code tables (price n) Sound Anything w.count w.cost s w.to (λ x i. tt) w.leads in
      let same = leads_state code tables (price n) w.count w.cost s w.to leads in
      let walk = subst (λ (t : State). Walked here w.count t.ranks) same (walks w.count w.count_within) in
      All-from_recursion (λ (x : Store). x.position ≡ position_of w.to.ranks) w.to.ranks (subst (λ p. AreAt p w.to.ranks) (sym (position_at walk.here w.to.ranks walk.some walk.at)) walk.at)

  pub end_sound : (E : Type 0) (StandsFor : State → E → Type 0) (after : After E) (w : Went code tables (price n) Sound (λ t. Unit {0}) E StandsFor (length list) (price_of (price n) list) until s after) → Sound w.to
  end_sound E StandsFor after w =
      let leads = leads_wider code tables (price n) Sound Anything w.count w.cost s w.to (λ x i. tt) w.leads in
      let same = leads_state code tables (price n) w.count w.cost s w.to leads in
      let least : w.count ≤ w.count = omega arith in
      subst Sound same (w.leads.keeps w.count least)

-- ---- a piece that carries an operation

module _ (code : Code) (tables : Tables) (n : ℕ) (room : Room) (orders : List Order) (list : List Instr) (written : Slots) (s : State) (e : wholes.Env) (h : StandFor code room n s e) (stand : StandAt code.list (position_of s.ranks) list) (straight : IsStraight list) where
  abbrev place : ℕ
  place = position_of s.ranks

  abbrev past : ℕ
  past = place + length list

  abbrev Kept : State → Type 0
  Kept t = IsSound code tables n past t

  some_ranks : 1 ≤ length s.ranks
  some_ranks = let some = h.some in let count = h.count in omega (arith, some, count)

  went_stands : (effect : Effect wholes.Env) (after : After layout.Env) → Went code tables (price n) Kept (λ t. Unit {0}) layout.Env (StandBehind code written s.ranks) (length list) (price_of (price n) list) past s after → AreAfter room e effect after
      → Went code tables (price n) Anything (HasLogged orders) wholes.Env (StandFor code room n) (length list) (price_of (price n) list) past s (record { env = effect.env; text = effect.text })
  went_stands effect after w same_after =
      let leads = leads_wider code tables (price n) Kept Anything w.count w.cost s w.to (λ x i. tt) w.leads in
      let sound = end_sound code tables n list s some_ranks h.at_one stand straight layout.Env (StandBehind code written s.ranks) after w in
      let behind = w.stands tt in
      record {
        count = w.count;
        cost = w.cost;
        to = w.to;
        leads = leads;
        count_within = w.count_within;
        cost_within = w.cost_within;
        place = w.place;
        out = w.out ∙ ap (λ t. s.out ++ t) (sym same_after.text);
        stands = λ logged. record {
          some = h.some;
          count = stays_count written s.ranks w.to.ranks behind.stays ∙ h.count;
          each = sound.each;
          at_one = at_end code tables n list s some_ranks h.at_one stand straight layout.Env (StandBehind code written s.ranks) after w;
          executed = stays_all written (λ (x : Store). x.executed ≡ effect.env.executed) (λ x y stays has. stays.executed ∙ has) s.ranks w.to.ranks behind.stays (subst (λ n. All (λ (x : Store). x.executed ≡ n) s.ranks) (sym same_after.executed) h.executed);
          logged = stays_all written LogsExecuted (logs_stay written) s.ranks w.to.ranks behind.stays h.logged;
          bad = same_after.bad ∙ h.bad;
          env = after.env;
          lays = behind.lays;
          is = same_after.is;
        };
      }

  pub does_as : (r : Result (Effect wholes.Env) Trap) (a : Result (After layout.Env) Trap) → DoesAs room e r a
      → Does code tables (price n) Kept (λ t. Unit {0}) layout.Env (StandBehind code written s.ranks) (length list) (price_of (price n) list) past s a
      → Does code tables (price n) Anything (HasLogged orders) wholes.Env (StandFor code room n) (length list) (price_of (price n) list) past s (comes_to r)
  does_as (Ok effect) (Ok after) same w = went_stands effect after w same
  does_as (Ok effect) (Err t) same w = absurd same
  does_as (Err t) (Ok after) same w = absurd same
  does_as (Err t) (Err u) same w =
      record {
        count = w.count;
        cost = w.cost;
        to = w.to;
        leads = leads_wider code tables (price n) Kept Anything w.count w.cost s w.to (λ x i. tt) w.leads;
        count_within = w.count_within;
        cost_within = w.cost_within;
        out = w.out;
        trips = w.trips ∙ ap lock.Trips (sym same);
      }

-- A straight piece that is the work of an operation's units, and does on what the ranks stand for what the operation does on
-- slots and words, carries the operation.
pub carries_by : {Op : Type 0} (d : Doing Op wholes.Env) (steps : Op → List Instr) (code : Code) (tables : Tables) (n : ℕ) (room : Room) (orders : List Order) (op : Op) (written : Slots) → IsStraight (steps op) → IsWork (d.units op) (steps op)
    → (operation : List Store → layout.Env → Result (After layout.Env) Trap)
    → ((s : State) (e : wholes.Env) → (h : StandFor code room n s e) → StandAt code.list (position_of s.ranks) (steps op)
    → DoesAs room e (d.does op e) (operation s.ranks h.env)
    × Does code tables (price n) (IsSound code tables n (position_of s.ranks + length (steps op))) (λ t. Unit {0}) layout.Env (StandBehind code written s.ranks) (length (steps op)) (price_of (price n) (steps op)) (position_of s.ranks + length (steps op)) s (operation s.ranks h.env))
    → Carries d steps code tables (price n) (2 * n + 14) (AreSound code tables n) (HasLogged orders) (StandFor code room n) op
carries_by d steps code tables n room orders op written straight work operation promise =
    record {
      few = work.few;
      cheap = work.cheap n;
      does = λ s e h stand.
          let p = promise s e h stand in
          does_as code tables n room orders (steps op) written s e h stand straight (d.does op e) (operation s.ranks h.env) p.0 p.1;
      keeps = λ s e h stand k lt.
          let p = promise s e h stand in
          keeps_by code tables n (steps op) s (let some = h.some in let count = h.count in omega (arith, some, count)) h.at_one stand straight layout.Env (StandBehind code written s.ranks) (operation s.ranks h.env) p.1 k lt;
    }
