-- What leads composes by arithmetic.
use Rattle.std.proofs.Common.{◌≡◌, ◌∙◌, refl, sym, subst, ap, arith, ℕ, zero, suc, ◌+◌, ◌-◌, ◌<◌, ◌≤◌, inl, inr, List, [], ◌∷◌, ◌++◌}
use Rattle.std.specs.List.{AllByRecursion}
use Rattle.std.proofs.lemmas.Bool.{cases_lt}
use Rattle.hp_word.specs.declared.table.Tables.{Tables}
use Rattle.hp_spmd.specs.declared.code.Code.{Code}
use Rattle.hp_spmd.specs.declared.instr.Instr.{Instr}
use Rattle.hp_spmd.specs.Kinds.{Kind, kind_of}
use Rattle.hp_spmd.specs.Lockstep.{State, Step, Ends, Trips, Steps, at_limit, position_of, run, run_by, state_of, step}
use Rattle.hp_spmd.specs.Store.{instr_at}
use Rattle.hp_spmd.proofs.LockRun.{run_steps}
use Rattle.hp_snippet.specs.Leads.{IsLimit, IsOneOf, Leads, LeadsBy, paid, price_then}

-- ---- runs of no instruction

stays : (t : Step) (s : State) → state_of (at_limit t s) ≡ s
stays Ends s = refl
stays (Trips u) s = refl
stays (Steps s2) s = refl

pub run_none : (code : Code) (tables : Tables) (s : State) → state_of (run code tables 0 s) ≡ s
unfolding run_by
run_none code tables s = stays (step code tables s) s

-- where there is a next state, a run of no instruction has come to its limit
pub run_limit : (code : Code) (tables : Tables) (s t : State) → step code tables s ≡ Steps t → IsLimit (run code tables 0 s)
unfolding run_by
run_limit code tables s t e = subst (λ u. IsLimit (at_limit u s)) (sym e) tt

-- ---- one after the other

pub leads_join : (code : Code) (tables : Tables) (price : Kind → ℕ) (I : State → Type 0) (c a d b : ℕ) (s t u : State) → Leads code tables price I c a s t → Leads code tables price I d b t u
    → Leads code tables price I (c + d) (a + b) s u
leads_join code tables price I c a d b s t u first second =
    record {
      by = λ k.
          let e : (c + d) + k ≡ c + (d + k) = omega arith in
          ap (λ m. run code tables m s) e ∙ first.by (d + k) ∙ second.by k;
      pays = λ k.
          let e : (c + d) + k ≡ c + (d + k) = omega arith in
          let q = paid code tables price k u in
          let sum : a + (b + q) ≡ (a + b) + q = omega arith in
          ap (λ m. paid code tables price m s) e ∙ first.pays (d + k) ∙ ap (λ q. a + q) (second.pays k) ∙ sum;
      goes = λ k h. elim (cases_lt k c) [
        | inl l ↦ first.goes k l
        | inr l ↦
            let e : c + (k - c) ≡ k = omega arith in
            let within : k - c < d = omega (arith, h) in
            subst (λ m. IsLimit (run code tables m s)) e (subst IsLimit (sym (first.by (k - c))) (second.goes (k - c) within))
      ];
      keeps = λ k h. elim (cases_lt k c) [
        | inl l ↦ let within : k ≤ c = omega arith in first.keeps k within
        | inr l ↦
            let e : c + (k - c) ≡ k = omega arith in
            let within : k - c ≤ d = omega (arith, h) in
            subst (λ m. I (state_of (run code tables m s))) e (subst (λ r. I (state_of r)) (sym (first.by (k - c))) (second.keeps (k - c) within))
      ];
    }

-- a state leads to itself by nothing
pub leads_none : (code : Code) (tables : Tables) (price : Kind → ℕ) (I : State → Type 0) (s : State) → I s → Leads code tables price I 0 0 s s
leads_none code tables price I s i =
    record {
      by = λ k. let e : 0 + k ≡ k = omega arith in ap (λ m. run code tables m s) e;
      pays = λ k.
          let e : 0 + k ≡ k = omega arith in
          let q = paid code tables price k s in
          let same : q ≡ 0 + q = omega arith in
          ap (λ m. paid code tables price m s) e ∙ same;
      goes = λ k h. absurd (omega (arith, h));
      keeps = λ k h.
          let e : 0 ≡ k = omega (arith, h) in
          subst (λ m. I (state_of (run code tables m s))) e (subst I (sym (run_none code tables s)) i);
    }

-- ---- one instruction

pays_one : (code : Code) (tables : Tables) (price : Kind → ℕ) (s t : State) → step code tables s ≡ Steps t → (k : ℕ) → paid code tables price (suc k) s ≡ price (kind_of (instr_at code.list (position_of s.ranks))) + paid code tables price k t
unfolding paid
pays_one code tables price s t e k = ap (price_then (price (kind_of (instr_at code.list (position_of s.ranks)))) (paid code tables price k)) e

goes_one : (code : Code) (tables : Tables) (s t : State) → step code tables s ≡ Steps t → (k : ℕ) → k < 1 → IsLimit (run code tables k s)
goes_one code tables s t e zero h = run_limit code tables s t e
goes_one code tables s t e (suc k) h = absurd (omega (arith, h))

keeps_one : (code : Code) (tables : Tables) (I : State → Type 0) (s t : State) → step code tables s ≡ Steps t → I s → I t → (k : ℕ) → k ≤ 1 → I (state_of (run code tables k s))
keeps_one code tables I s t e i j zero h = subst I (sym (run_none code tables s)) i
keeps_one code tables I s t e i j (suc zero) h = subst (λ r. I (state_of r)) (sym (run_steps (step code tables) 0 s t e)) (subst I (sym (run_none code tables t)) j)
keeps_one code tables I s t e i j (suc (suc k)) h = absurd (omega (arith, h))

pub leads_one : (code : Code) (tables : Tables) (price : Kind → ℕ) (I : State → Type 0) (s t : State) → step code tables s ≡ Steps t → I s → I t
    → Leads code tables price I 1 (price (kind_of (instr_at code.list (position_of s.ranks)))) s t
leads_one code tables price I s t e i j =
    record {
      by = λ k. let one : 1 + k ≡ suc k = omega arith in ap (λ m. run code tables m s) one ∙ run_steps (step code tables) k s t e;
      pays = λ k. let one : 1 + k ≡ suc k = omega arith in ap (λ m. paid code tables price m s) one ∙ pays_one code tables price s t e k;
      goes = goes_one code tables s t e;
      keeps = keeps_one code tables I s t e i j;
    }

-- the instruction is known
pub leads_at : (code : Code) (tables : Tables) (price : Kind → ℕ) (I : State → Type 0) (i : Instr) (s t : State) → instr_at code.list (position_of s.ranks) ≡ i → step code tables s ≡ Steps t → I s → I t
    → Leads code tables price I 1 (price (kind_of i)) s t
leads_at code tables price I i s t is e a b = subst (λ j. Leads code tables price I 1 (price (kind_of j)) s t) is (leads_one code tables price I s t e a b)

-- what holds wherever this holds is kept, too
pub leads_wider : (code : Code) (tables : Tables) (price : Kind → ℕ) (I J : State → Type 0) (c a : ℕ) (s t : State) → ((x : State) → I x → J x) → Leads code tables price I c a s t → Leads code tables price J c a s t
leads_wider code tables price I J c a s t wider h = record { by = h.by; pays = h.pays; goes = h.goes; keeps = λ k le. wider (state_of (run code tables k s)) (h.keeps k le) }

-- ---- by a known way

one_of_left : (way on : List State) (x : State) → IsOneOf way x → IsOneOf (way ++ on) x
one_of_left [] on x h = absurd h
one_of_left (w ∷ way) on x (inl h) = inl h
one_of_left (w ∷ way) on x (inr h) = inr (one_of_left way on x h)

one_of_right : (way on : List State) (x : State) → IsOneOf on x → IsOneOf (way ++ on) x
one_of_right [] on x h = h
one_of_right (w ∷ way) on x h = inr (one_of_right way on x h)

pub ways_join : (code : Code) (tables : Tables) (price : Kind → ℕ) (way on : List State) (c a d b : ℕ) (s t u : State) → LeadsBy code tables price way c a s t → LeadsBy code tables price on d b t u
    → LeadsBy code tables price (way ++ on) (c + d) (a + b) s u
ways_join code tables price way on c a d b s t u first second =
    leads_join code tables price (IsOneOf (way ++ on)) c a d b s t u
    (leads_wider code tables price (IsOneOf way) (IsOneOf (way ++ on)) c a s t (one_of_left way on) first)
    (leads_wider code tables price (IsOneOf on) (IsOneOf (way ++ on)) d b t u (one_of_right way on) second)

-- what holds of each state of the way is kept on it
pub leads_through : (code : Code) (tables : Tables) (price : Kind → ℕ) (I : State → Type 0) (way : List State) (c a : ℕ) (s t : State) → AllByRecursion I way → LeadsBy code tables price way c a s t → Leads code tables price I c a s t
leads_through code tables price I way c a s t all h = leads_wider code tables price (IsOneOf way) I c a s t (kept_by way all) h
  where
    kept_by : (way : List State) → AllByRecursion I way → (x : State) → IsOneOf way x → I x
    kept_by [] all x h = absurd h
    kept_by (w ∷ way) all x (inl e) = subst I (sym e) all.0
    kept_by (w ∷ way) all x (inr h) = kept_by way all.1 x h
