-- One operation's code after another's, and what the ranks stand for.
use Rattle.std.proofs.Common.{◌≡◌, ◌∙◌, refl, ap, arith, ℕ, ◌+◌, List, [], ◌++◌, append_assoc, append-nil, Result, Ok, Err}
use Rattle.hp_word.specs.declared.place.Trap.{Trap}
use Rattle.hp_word.specs.declared.table.Tables.{Tables}
use Rattle.hp_word.specs.LoopRules.{and_then}
use Rattle.hp_spmd.specs.declared.code.Code.{Code}
use Rattle.hp_spmd.specs.declared.store.Store.{Store}
use Rattle.hp_spmd.specs.Kinds.{Kind}
use Rattle.hp_spmd.specs.Layout.{Env, Layout}
use Rattle.hp_spmd.specs.Lockstep.{State, position_of}
use Rattle.hp_snippet.specs.Holds.{HoldAll}
use Rattle.hp_snippet.specs.Outcomes.{After, Does, IsSilent, Trips, Went, after_both, one_after}
use Rattle.hp_snippet.proofs.Leading.{leads_join}

-- ---- one after the other

went_went : (code : Code) (tables : Tables) (price : Kind → ℕ) (I Agrees : State → Type 0) (E : Type 0) (StandsFor : State → E → Type 0) (m c n d mid until : ℕ) (s : State) (a b : After E)
    → (first : Went code tables price I Agrees E StandsFor m c mid s a) → Went code tables price I Agrees E StandsFor n d until first.to b
    → Went code tables price I Agrees E StandsFor (m + n) (c + d) until s (after_both a b)
went_went code tables price I Agrees E StandsFor m c n d mid until s a b first second =
    let k = first.count_within in
    let l = second.count_within in
    let p = first.cost_within in
    let q = second.cost_within in
    record {
      count = first.count + second.count;
      cost = first.cost + second.cost;
      to = second.to;
      leads = leads_join code tables price I first.count first.cost second.count second.cost s first.to second.to first.leads second.leads;
      count_within = omega (arith, k, l);
      cost_within = omega (arith, p, q);
      place = second.place;
      out = second.out ∙ ap (λ o. o ++ b.text) first.out ∙ append_assoc s.out a.text b.text;
      stands = second.stands;
    }

went_trips : (code : Code) (tables : Tables) (price : Kind → ℕ) (I Agrees : State → Type 0) (E : Type 0) (StandsFor : State → E → Type 0) (m c n d mid : ℕ) (s : State) (a : After E) (t : Trap) → a.text ≡ []
    → (first : Went code tables price I Agrees E StandsFor m c mid s a) → Trips code tables price I n d first.to t
    → Trips code tables price I (m + n) (c + d) s t
went_trips code tables price I Agrees E StandsFor m c n d mid s a t silent first second =
    let k = first.count_within in
    let l = second.count_within in
    let p = first.cost_within in
    let q = second.cost_within in
    record {
      count = first.count + second.count;
      cost = first.cost + second.cost;
      to = second.to;
      leads = leads_join code tables price I first.count first.cost second.count second.cost s first.to second.to first.leads second.leads;
      count_within = omega (arith, k, l);
      cost_within = omega (arith, p, q);
      out = second.out ∙ first.out ∙ ap (λ text. s.out ++ text) silent ∙ append-nil s.out;
      trips = second.trips;
    }

-- a trap within less is one within more
trips_within : (code : Code) (tables : Tables) (price : Kind → ℕ) (I : State → Type 0) (m c n d : ℕ) (s : State) (t : Trap) → Trips code tables price I m c s t → Trips code tables price I (m + n) (c + d) s t
trips_within code tables price I m c n d s t h =
    let k = h.count_within in
    let p = h.cost_within in
    record { count = h.count; cost = h.cost; to = h.to; leads = h.leads; count_within = omega (arith, k); cost_within = omega (arith, p); out = h.out; trips = h.trips }

then_by : (code : Code) (tables : Tables) (price : Kind → ℕ) (I Agrees : State → Type 0) (E : Type 0) (StandsFor : State → E → Type 0) (m c n d mid until : ℕ) (s : State) (a : After E) (r : Result (After E) Trap) → a.text ≡ []
    → (first : Went code tables price I Agrees E StandsFor m c mid s a) → Does code tables price I Agrees E StandsFor n d until first.to r
    → Does code tables price I Agrees E StandsFor (m + n) (c + d) until s (and_then r (λ b. Ok (after_both a b)))
then_by code tables price I Agrees E StandsFor m c n d mid until s a (Ok b) silent first second = went_went code tables price I Agrees E StandsFor m c n d mid until s a b first second
then_by code tables price I Agrees E StandsFor m c n d mid until s a (Err t) silent first second = went_trips code tables price I Agrees E StandsFor m c n d mid s a t silent first second

pub operations_join : (code : Code) (tables : Tables) (price : Kind → ℕ) (I Agrees : State → Type 0) (E : Type 0) (StandsFor : State → E → Type 0) (m c n d mid until : ℕ) (s : State)
    (r : Result (After E) Trap) (f : E → Result (After E) Trap) → IsSilent r
    → Does code tables price I Agrees E StandsFor m c mid s r
    → ((a : After E) (t : State) → r ≡ Ok a → position_of t.ranks ≡ mid → (Agrees t → StandsFor t a.env) → Does code tables price I Agrees E StandsFor n d until t (f a.env))
    → Does code tables price I Agrees E StandsFor (m + n) (c + d) until s (one_after r f)
operations_join code tables price I Agrees E StandsFor m c n d mid until s (Ok a) f silent first next =
    then_by code tables price I Agrees E StandsFor m c n d mid until s a (f a.env) silent first (next a first.to refl first.place first.stands)
operations_join code tables price I Agrees E StandsFor m c n d mid until s (Err t) f silent first next = trips_within code tables price I m c n d s t first

-- ---- what the ranks stand for

each_holds : (code : Code) (ranks : List Store) (env : Env) → Layout code ranks env → HoldAll code ranks env
each_holds code ranks env l =
    record {
      numbers = l.numbers;
      cuts = l.cuts;
      may = λ slot h. record { columns = (l.arrays slot h).columns; size = (l.arrays slot h).size; may = (l.arrays slot h).may };
      holds = λ k x lt. record { ranks_are = l.counts k x lt; arrays = λ slot h. (l.arrays slot h).held k x lt; words = λ w value e. l.words w value e k x lt };
    }

all_stand : (code : Code) (ranks : List Store) (env : Env) → HoldAll code ranks env → Layout code ranks env
all_stand code ranks env h =
    record {
      numbers = h.numbers;
      counts = λ k x lt. (h.holds k x lt).ranks_are;
      cuts = h.cuts;
      arrays = λ slot l. record { columns = (h.may slot l).columns; size = (h.may slot l).size; may = (h.may slot l).may; held = λ k x lt. (h.holds k x lt).arrays slot l };
      words = λ w value e k x lt. (h.holds k x lt).words w value e;
    }

pub layout_each : (code : Code) (ranks : List Store) (env : Env) → (Layout code ranks env → HoldAll code ranks env) × (HoldAll code ranks env → Layout code ranks env)
layout_each code ranks env = (each_holds code ranks env, all_stand code ranks env)
