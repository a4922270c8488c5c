-- Pieces of code one behind the other carry a step: what each needs of the ranks, and what they have behind it.
use Rattle.std.proofs.Common.{◌≡◌, ◌∙◌, refl, sym, subst, ap, arith, inl, inr, ℕ, suc, ◌+◌, ◌-◌, ◌<◌, ◌≤◌, List, [], ◌∷◌, ◌++◌, append_assoc, append-nil, length, Result, Ok, Err}
use Rattle.std.specs.List.{All, AllZip}
use Rattle.std.proofs.lemmas.Bool.{cases_lt}
use Rattle.std.proofs.lemmas.List.{length-append}
use Rattle.hp_word.specs.declared.place.Trap.{Trap}
use Rattle.hp_word.specs.declared.table.Tables.{Tables}
use Rattle.hp_word.specs.LoopRules.{and_then}
use Rattle.hp_spmd.specs.declared.code.Code.{Code}
use Rattle.hp_spmd.specs.declared.instr.Instr.{Instr}
use Rattle.hp_spmd.specs.declared.store.Store.{Store}
use Rattle.hp_spmd.specs.Layout.{Env, Layout}
use Rattle.hp_spmd.specs.Lockstep.{State, position_of, run, state_of, step}
use Rattle.hp_spmd.proofs.LockRun.{run_trips}
use Rattle.hp_turns.specs.Apart.{price}
use Rattle.hp_snippet.specs.Leads.{Leads}
use Rattle.hp_snippet.specs.Moves.{Moves}
use Rattle.hp_snippet.specs.Outcomes.{After, Does, IsSilent, Trips, after_both, one_after}
use Rattle.hp_snippet.specs.Promises.{IsRankOf, IsSound, IsStraight, Performs, Slots, StandAt, StandBehind, Stays, price_of}
use Rattle.hp_snippet.proofs.Keeping.{stays_count}
use Rattle.hp_snippet.proofs.Leading.{leads_join, leads_none, leads_wider}
use Rattle.hp_lowering.specs.Standing.{AreSound, LogsExecuted}
use Rattle.hp_lowering.proofs.Carrying.{at_end, end_sound, gone_count, keeps_by, logs_stay, stays_all}
use Rattle.hp_lowering.proofs.Coming.{Anything, leads_state}
use Rattle.hp_lowering.proofs.PartForm.{price_join}

-- So many ranks of a code, all at one instruction, each of which has executed so many joins and aggregates, stand for this, and have
-- besides what `Has` says.
pub record Stand (code : Code) (n m : ℕ) (Has : List Store → Env → Type 0) (s : State) (f : Env) : Type 0 where
  pub some : 1 ≤ n
  pub count : length s.ranks ≡ n
  pub each : All (IsRankOf code n) s.ranks
  pub at_one : All (λ (x : Store). x.position ≡ position_of s.ranks) s.ranks
  pub executed : All (λ (x : Store). x.executed ≡ m) s.ranks
  pub logged : All LogsExecuted s.ranks
  pub lays : Layout code s.ranks f
  pub has : Has s.ranks f

-- The run has gone through instructions, each of them once, and has then what `To` says.
pub record Gone (code : Code) (tables : Tables) (n m : ℕ) (list : List Instr) (To : List Store → Env → Type 0) (s : State) (after : After Env) : Type 0 where
  pub cost : ℕ
  pub to : State
  pub leads : Leads code tables (price n) Anything (length list) cost s to
  pub cost_within : cost ≤ price_of (price n) list
  pub place : position_of to.ranks ≡ position_of s.ranks + length list
  pub out : to.out ≡ s.out ++ after.text
  pub stands : Stand code n m To to after.env

-- it has gone through, or trips
abbrev pub GoesAs : (code : Code) (tables : Tables) (n m : ℕ) (list : List Instr) (To : List Store → Env → Type 0) (s : State) → Result (After Env) Trap → Type 0
GoesAs code tables n m list To s (Ok after) = Gone code tables n m list To s after
GoesAs code tables n m list To s (Err t) = Trips code tables (price n) Anything (length list) (price_of (price n) list) s t

-- These instructions do an operation on what the ranks stand for: with `From` before them there is `To` behind them; and at each of them
-- the ranks are sound.
pub record Piece (code : Code) (tables : Tables) (n m : ℕ) (list : List Instr) (From To : List Store → Env → Type 0) (op : Env → Result (After Env) Trap) : Type 0 where
  pub goes : (s : State) (f : Env) → Stand code n m From s f → StandAt code.list (position_of s.ranks) list → GoesAs code tables n m list To s (op f)
  pub keeps : (s : State) (f : Env) → Stand code n m From s f → StandAt code.list (position_of s.ranks) list → (k : ℕ) → k < length list → AreSound code tables n (state_of (run code tables k s))

-- ---- from what a piece promises

some_stand : (code : Code) (n m : ℕ) (Has : List Store → Env → Type 0) (s : State) (f : Env) → Stand code n m Has s f → 1 ≤ length s.ranks
some_stand code n m Has s f h = let some = h.some in let count = h.count in omega (arith, some, count)

module _ (code : Code) (tables : Tables) (n m : ℕ) (list : List Instr) (From To : List Store → Env → Type 0) (Gets : Code → Env → (before after : Store) → Type 0) (Needs : Code → List Store → Env → Type 0) (operation : List Store → Env → Result (After Env) Trap) (written : Slots)
    (straight : IsStraight list) (promise : Moves Gets Needs operation written list) (needs : (s : State) (f : Env) → Stand code n m From s f → Needs code s.ranks f)
    (gives : (s : State) (f : Env) → Stand code n m From s f → (ys : List Store) (after : After Env) → operation s.ranks f ≡ Ok after → AllZip (Stays written) s.ranks ys → AllZip (Gets code f) s.ranks ys → Layout code ys after.env → To ys after.env) where
  abbrev Behind : List Store → Env → State → Env → Type 0
  Behind xs f t env = StandBehind code written xs t env × AllZip (Gets code f) xs t.ranks

  promised : (s : State) (f : Env) (h : Stand code n m From s f) → StandAt code.list (position_of s.ranks) list
      → Does code tables (price n) (IsSound code tables n (position_of s.ranks + length list)) (λ t. Unit {0}) Env (Behind s.ranks f) (length list) (price_of (price n) list) (position_of s.ranks + length list) s (operation s.ranks f)
  promised s f h stand =
      subst (λ k. Does code tables (price n) (IsSound code tables k (position_of s.ranks + length list)) (λ t. Unit {0}) Env (Behind s.ranks f) (length list) (price_of (price n) list) (position_of s.ranks + length list) s (operation s.ranks f)) h.count
      (promise code tables (price n) s f (record { stand = stand; some = some_stand code n m From s f h; each = subst (λ k. All (IsRankOf code k) s.ranks) (sym h.count) h.each; lays = h.lays }) (needs s f h))

  goes_so : (s : State) (f : Env) (h : Stand code n m From s f) (stand : StandAt code.list (position_of s.ranks) list) (a : Result (After Env) Trap) → operation s.ranks f ≡ a
      → Does code tables (price n) (IsSound code tables n (position_of s.ranks + length list)) (λ t. Unit {0}) Env (Behind s.ranks f) (length list) (price_of (price n) list) (position_of s.ranks + length list) s a
      → GoesAs code tables n m list To s a
  goes_so s f h stand (Ok after) is w =
      let until = position_of s.ranks + length list in
      let some = some_stand code n m From s f h in
      let leads = leads_wider code tables (price n) (IsSound code tables n until) Anything w.count w.cost s w.to (λ x i. tt) w.leads in
      let behind = w.stands tt in
      let sound = end_sound code tables n list s some h.at_one stand straight Env (Behind s.ranks f) after w in
      record {
        cost = w.cost;
        to = w.to;
        leads = subst (λ c. Leads code tables (price n) Anything c w.cost s w.to) (gone_count code tables n list s some h.at_one stand straight Env (Behind s.ranks f) after w) leads;
        cost_within = w.cost_within;
        place = w.place;
        out = w.out;
        stands = record {
          some = h.some;
          count = stays_count written s.ranks w.to.ranks behind.0.stays ∙ h.count;
          each = sound.each;
          at_one = at_end code tables n list s some h.at_one stand straight Env (Behind s.ranks f) after w;
          executed = stays_all written (λ (x : Store). x.executed ≡ m) (λ x y stays has. stays.executed ∙ has) s.ranks w.to.ranks behind.0.stays h.executed;
          logged = stays_all written LogsExecuted (logs_stay written) s.ranks w.to.ranks behind.0.stays h.logged;
          lays = behind.0.lays;
          has = gives s f h w.to.ranks after is behind.0.stays behind.1 behind.0.lays;
        };
      }
  goes_so s f h stand (Err t) is w =
      record {
        count = w.count;
        cost = w.cost;
        to = w.to;
        leads = leads_wider code tables (price n) (IsSound code tables n (position_of s.ranks + length list)) Anything w.count w.cost s w.to (λ x i. tt) w.leads;
        count_within = w.count_within;
        cost_within = w.cost_within;
        out = w.out;
        trips = w.trips;
      }

  pub piece_of : (op : Env → Result (After Env) Trap) → ((ranks : List Store) (f : Env) → operation ranks f ≡ op f) → Piece code tables n m list From To op
  piece_of op same =
      record {
        goes = λ s f h stand. subst (GoesAs code tables n m list To s) (same s.ranks f) (goes_so s f h stand (operation s.ranks f) refl (promised s f h stand));
        keeps = λ s f h stand k lt. keeps_by code tables n list s (some_stand code n m From s f h) h.at_one stand straight Env (Behind s.ranks f) (operation s.ranks f) (promised s f h stand) k lt;
      }

-- what performs an operation and says no more
pub as_moves : (Needs : Code → List Store → Env → Type 0) (operation : List Store → Env → Result (After Env) Trap) (written : Slots) (list : List Instr) → Performs Needs operation written list → Moves (λ code f x y. Unit {0}) Needs operation written list
as_moves Needs operation written list performs code tables price s env h needs = with_nothing (operation s.ranks env) (performs code tables price s env h needs)
  where
    nothing_zip : (xs ys : List Store) → AllZip (Stays written) xs ys → AllZip (λ x y. Unit {0}) xs ys
    nothing_zip [] [] h = tt
    nothing_zip [] (y ∷ ys) h = absurd h
    nothing_zip (x ∷ xs) [] h = absurd h
    nothing_zip (x ∷ xs) (y ∷ ys) h = (tt, nothing_zip xs ys h.1)

    with_nothing : (a : Result (After Env) Trap)
        → Does code tables price (IsSound code tables (length s.ranks) (position_of s.ranks + length list)) (λ t. Unit {0}) Env (StandBehind code written s.ranks) (length list) (price_of price list) (position_of s.ranks + length list) s a
        → Does code tables price (IsSound code tables (length s.ranks) (position_of s.ranks + length list)) (λ t. Unit {0}) Env (λ t after. StandBehind code written s.ranks t after × AllZip (λ x y. Unit {0}) s.ranks t.ranks) (length list) (price_of price list) (position_of s.ranks + length list) s a
    with_nothing (Ok after) w =
        record { count = w.count; cost = w.cost; to = w.to; leads = w.leads; count_within = w.count_within; cost_within = w.cost_within; place = w.place; out = w.out; stands = λ t. (w.stands t, nothing_zip s.ranks w.to.ranks (w.stands t).stays) }
    with_nothing (Err t) w = w

-- ---- no instruction

pub no_piece : (code : Code) (tables : Tables) (n m : ℕ) (Has : List Store → Env → Type 0) → Piece code tables n m [] Has Has (λ f. Ok (record { env = f; text = [] }))
no_piece code tables n m Has =
    record {
      goes = λ s f h stand. record {
        cost = 0;
        to = s;
        leads = leads_none code tables (price n) Anything s tt;
        cost_within = omega arith;
        place = let e : position_of s.ranks ≡ position_of s.ranks + 0 = omega arith in e;
        out = sym (append-nil s.out);
        stands = h;
      };
      keeps = λ s f h stand k lt. absurd (omega (arith, lt));
    }

-- ---- one behind the other

stand_front : (code : List Instr) (place : ℕ) (xs ys : List Instr) → StandAt code place (xs ++ ys) → StandAt code place xs
stand_front code place [] ys h = tt
stand_front code place (x ∷ xs) ys h = (h.0, stand_front code (suc place) xs ys h.1)

stand_rest : (code : List Instr) (place : ℕ) (xs ys : List Instr) → StandAt code place (xs ++ ys) → StandAt code (place + length xs) ys
stand_rest code place [] ys h = let e : place ≡ place + 0 = omega arith in subst (λ p. StandAt code p ys) e h
stand_rest code place (x ∷ xs) ys h = let e : suc place + length xs ≡ place + suc (length xs) = omega arith in subst (λ p. StandAt code p ys) e (stand_rest code (suc place) xs ys h.1)

module _ (code : Code) (tables : Tables) (n m : ℕ) (xs ys : List Instr) (From Mid To : List Store → Env → Type 0) (one two : Env → Result (After Env) Trap) (first : Piece code tables n m xs From Mid one) (second : Piece code tables n m ys Mid To two) where
  both_long : length (xs ++ ys) ≡ length xs + length ys
  both_long = length-append xs ys

  both_cost : price_of (price n) (xs ++ ys) ≡ price_of (price n) xs + price_of (price n) ys
  both_cost = price_join (price n) xs ys

  -- the rest stands where the first has ended
  there : (s : State) (a : After Env) → StandAt code.list (position_of s.ranks) (xs ++ ys) → (g : Gone code tables n m xs Mid s a) → StandAt code.list (position_of g.to.ranks) ys
  there s a stand g = subst (λ p. StandAt code.list p ys) (sym g.place) (stand_rest code.list (position_of s.ranks) xs ys stand)

  gone_both : (s : State) (a b : After Env) → a.text ≡ [] → (g : Gone code tables n m xs Mid s a) → Gone code tables n m ys To g.to b → Gone code tables n m (xs ++ ys) To s (after_both a b)
  gone_both s a b silent g h =
      let p = g.cost_within in
      let q = h.cost_within in
      let place = h.place ∙ ap (λ k. k + length ys) g.place in
      record {
        cost = g.cost + h.cost;
        to = h.to;
        leads = subst (λ c. Leads code tables (price n) Anything c (g.cost + h.cost) s h.to) (sym both_long) (leads_join code tables (price n) Anything (length xs) g.cost (length ys) h.cost s g.to h.to g.leads h.leads);
        cost_within = let e = both_cost in omega (arith, p, q, e);
        place = let e = both_long in omega (arith, place, e);
        out = h.out ∙ ap (λ o. o ++ b.text) g.out ∙ append_assoc s.out a.text b.text;
        stands = h.stands;
      }

  gone_trips : (s : State) (a : After Env) (t : Trap) → a.text ≡ [] → (g : Gone code tables n m xs Mid s a) → Trips code tables (price n) Anything (length ys) (price_of (price n) ys) g.to t → Trips code tables (price n) Anything (length (xs ++ ys)) (price_of (price n) (xs ++ ys)) s t
  gone_trips s a t silent g h =
      let k = h.count_within in
      let p = g.cost_within in
      let q = h.cost_within in
      let e = both_long in
      let c = both_cost in
      record {
        count = length xs + h.count;
        cost = g.cost + h.cost;
        to = h.to;
        leads = leads_join code tables (price n) Anything (length xs) g.cost h.count h.cost s g.to h.to g.leads h.leads;
        count_within = omega (arith, k, e);
        cost_within = omega (arith, p, q, c);
        out = h.out ∙ g.out ∙ ap (λ text. s.out ++ text) silent ∙ append-nil s.out;
        trips = h.trips;
      }

  second_goes : (s : State) (a : After Env) (b : Result (After Env) Trap) → a.text ≡ [] → (g : Gone code tables n m xs Mid s a) → GoesAs code tables n m ys To g.to b → GoesAs code tables n m (xs ++ ys) To s (and_then b (λ c. Ok (after_both a c)))
  second_goes s a (Ok b) silent g h = gone_both s a b silent g h
  second_goes s a (Err t) silent g h = gone_trips s a t silent g h

  first_goes : (s : State) (a : Result (After Env) Trap) → IsSilent a → StandAt code.list (position_of s.ranks) (xs ++ ys) → GoesAs code tables n m xs Mid s a → GoesAs code tables n m (xs ++ ys) To s (one_after a two)
  first_goes s (Ok a) silent stand g = second_goes s a (two a.env) silent g (second.goes g.to a.env g.stands (there s a stand g))
  first_goes s (Err t) silent stand w =
      let k = w.count_within in
      let p = w.cost_within in
      let e = both_long in
      let c = both_cost in
      record { count = w.count; cost = w.cost; to = w.to; leads = w.leads; count_within = omega (arith, k, e); cost_within = omega (arith, p, c); out = w.out; trips = w.trips }

  -- at each instruction of both the ranks are sound
  later_sound : (s : State) (f : Env) → Stand code n m From s f → StandAt code.list (position_of s.ranks) (xs ++ ys) → (a : Result (After Env) Trap) → GoesAs code tables n m xs Mid s a → (k : ℕ) → length xs ≤ k → k < length (xs ++ ys) → AreSound code tables n (state_of (run code tables k s))
  later_sound s f h stand (Ok a) g k le lt =
      let e = both_long in
      let split : length xs + (k - length xs) ≡ k = omega (arith, le) in
      let same = ap (λ j. state_of (run code tables j s)) (sym split) ∙ ap state_of (g.leads.by (k - length xs)) in
      subst (AreSound code tables n) (sym same) (second.keeps g.to a.env g.stands (there s a stand g) (k - length xs) (omega (arith, le, lt, e)))
  later_sound s f h stand (Err t) w k le lt =
      let same = leads_state code tables (price n) w.count w.cost s w.to w.leads in
      let few = w.count_within in
      let inside : w.count < length xs = omega (arith, few) in
      let there = subst (AreSound code tables n) same (first.keeps s f h (stand_front code.list (position_of s.ranks) xs ys stand) w.count inside) in
      let split : w.count + suc (k - suc w.count) ≡ k = omega (arith, inside, le) in
      let stopped = ap (λ j. state_of (run code tables j s)) (sym split) ∙ ap state_of (w.leads.by (suc (k - suc w.count))) ∙ ap state_of (run_trips (step code tables) (k - suc w.count) w.to t w.trips) in
      subst (AreSound code tables n) (sym stopped) there

  pub pieces_join : ((f : Env) → IsSilent (one f)) → Piece code tables n m (xs ++ ys) From To (λ f. one_after (one f) two)
  pieces_join silent =
      record {
        goes = λ s f h stand. first_goes s (one f) (silent f) stand (first.goes s f h (stand_front code.list (position_of s.ranks) xs ys stand));
        keeps = λ s f h stand k lt. elim (cases_lt k (length xs)) [
          | inl less ↦ first.keeps s f h (stand_front code.list (position_of s.ranks) xs ys stand) k less
          | inr more ↦ later_sound s f h stand (one f) (first.goes s f h (stand_front code.list (position_of s.ranks) xs ys stand)) k more lt
        ];
      }
