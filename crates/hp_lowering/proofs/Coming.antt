-- How far a run comes from a state on, by how far it comes from where that state leads.
use Rattle.std.proofs.Common.{◌≡◌, ◌∙◌, refl, sym, subst, ap, arith, ℕ, zero, suc, ◌+◌, ◌-◌, ◌*◌, ◌<◌, ◌≤◌, [], append-nil}
use Rattle.std.proofs.Math.Nat.{mul-le-mul_left}
use Rattle.hp_word.specs.declared.place.Trap.{Trap}
use Rattle.hp_word.specs.declared.table.Tables.{Tables}
use Rattle.hp_word.specs.Runs as runs
use Rattle.hp_word.specs.Runs.{IsFrontOf, Ran}
use Rattle.hp_spmd.specs.declared.code.Code.{Code}
use Rattle.hp_spmd.specs.Kinds.{Kind}
use Rattle.hp_spmd.specs.Lockstep.{State, Reached, Ended, Trapped, Limit, Step, Ends, Trips, run, state_of, step}
use Rattle.hp_spmd.proofs.LockRun.{IsEnd, run_at_limit, run_ends, run_trips}
use Rattle.hp_snippet.specs.Leads.{IsLimit, Leads, paid}
use Rattle.hp_snippet.proofs.Leading.{run_none}
use Rattle.hp_air.specs.Meaning.{work_of}
use Rattle.hp_lowering.specs.Flow.{Comes, Meets, ends, passes, trips}
use Rattle.hp_lowering.proofs.Later.{Later, later_still, later_work, later_writes}
use Rattle.hp_lowering.proofs.Rising.{paid_end, paid_grows, paid_none, run_grows}

-- nothing is asked of the states on the way
abbrev pub Anything : State → Type 0
Anything s = Unit {0}

limit_is : (r : Reached) → IsLimit r → r ≡ Limit (state_of r)
limit_is (Ended s) h = absurd h
limit_is (Trapped t s) h = absurd h
limit_is (Limit s) h = refl

-- where it has led
pub leads_state : (code : Code) (tables : Tables) (price : Kind → ℕ) (c a : ℕ) (s t : State) → Leads code tables price Anything c a s t → state_of (run code tables c s) ≡ t
leads_state code tables price c a s t leads =
    let same : c ≡ c + 0 = omega arith in
    ap (λ n. state_of (run code tables n s)) same ∙ ap state_of (leads.by 0) ∙ run_none code tables t

-- what is paid on the way there
leads_paid : (code : Code) (tables : Tables) (price : Kind → ℕ) (c a k : ℕ) (s t : State) → k ≤ c → Leads code tables price Anything c a s t → paid code tables price k s ≤ a
unfolding paid
leads_paid code tables price c a k s t le leads =
    let more = paid_grows code tables price k (c - k) s in
    let split : k + (c - k) ≡ c = omega (arith, le) in
    let here = ap (λ n. paid code tables price n s) split in
    let same : c ≡ c + 0 = omega arith in
    let all = ap (λ n. paid code tables price n s) same ∙ leads.pays 0 in
    omega (arith, more, here, all)

-- what is written on the way there
leads_front : (code : Code) (tables : Tables) (price : Kind → ℕ) (c a k : ℕ) (s t : State) → k ≤ c → Leads code tables price Anything c a s t → IsFrontOf (state_of (run code tables k s)).out t.out
leads_front code tables price c a k s t le leads =
    let split : k + (c - k) ≡ c = omega (arith, le) in
    subst (λ (u : State). IsFrontOf (state_of (run code tables k s)).out u.out) (leads_state code tables price c a s t leads)
    (subst (λ n. IsFrontOf (state_of (run code tables k s)).out (state_of (run code tables n s)).out) split (run_grows code tables k (c - k) s))

module _ {E : Type 0} (code : Code) (tables : Tables) (price : Kind → ℕ) (most : ℕ) (I : State → Type 0) (StandsFor : State → E → Type 0) where
  -- what leads to a state comes as far as a run from there does
  pub comes_on : (k c a before next paid_before paid_next : ℕ) (s t : State) (ran : Ran E ℕ) → c ≤ k → Leads code tables price Anything c a s t → c + before ≤ next → a + paid_before ≤ paid_next
      → Comes code tables price most I StandsFor (k - c) t next paid_next ran → Comes code tables price most I StandsFor k s before paid_before ran
  comes_on k c a before next paid_before paid_next s t ran le leads few cheap h =
      let split : c + (k - c) ≡ k = omega (arith, le) in
      let same : run code tables k s ≡ run code tables (k - c) t = ap (λ n. run code tables n s) (sym split) ∙ leads.by (k - c) in
      let costs : paid code tables price k s ≡ a + paid code tables price (k - c) t = ap (λ n. paid code tables price n s) (sym split) ∙ leads.pays (k - c) in
      let cost = h.cost in
      record {
        meets = subst (λ r. Meets StandsFor r ran) (sym same) h.meets;
        keeps = subst (λ r. I (state_of r)) (sym same) h.keeps;
        cost = omega (arith, costs, cost, cheap);
        more = λ limit. let more = h.more (subst IsLimit same limit) in omega (arith, more, few, le);
      }

  -- a run that has come to its limit, where the program's goes on
  pub comes_short : (k before paid_before work : ℕ) (s : State) (ran : Ran E ℕ) → IsLimit (run code tables k s) → I (state_of (run code tables k s)) → Later (state_of (run code tables k s)).out work ran
      → paid code tables price k s + paid_before ≤ most * work → suc k + before ≤ 16 * work → Comes code tables price most I StandsFor k s before paid_before ran
  comes_short k before paid_before work s ran limit i later cost more =
      let le = later_work later in
      let dear : most * work ≤ most * work_of ran = mul-le-mul_left most le in
      record {
        meets = subst (λ r. Meets StandsFor r ran) (sym (limit_is (run code tables k s) limit)) (passes (later_writes later));
        keeps = i;
        cost = omega (arith, cost, dear);
        more = λ l. omega (arith, more, le);
      }

  -- a run on the way to where a state leads
  pub comes_between : (k c a before paid_before work : ℕ) (s t : State) (ran : Ran E ℕ) → k < c → Leads code tables price Anything c a s t → I (state_of (run code tables k s)) → Later t.out work ran
      → a + paid_before ≤ most * work → c + before ≤ 16 * work → Comes code tables price most I StandsFor k s before paid_before ran
  comes_between k c a before paid_before work s t ran lt leads i later cheap few =
      let le : k ≤ c = omega (arith, lt) in
      let same : work ≤ work = omega arith in
      let less = leads_paid code tables price c a k s t le leads in
      let cost : paid code tables price k s + paid_before ≤ most * work = omega (arith, less, cheap) in
      let more : suc k + before ≤ 16 * work = omega (arith, lt, few) in
      comes_short k before paid_before work s ran (leads.goes k lt) i (later_still (leads_front code tables price c a k s t le leads) same later) cost more

  -- where the next instruction trips
  not_end : (u : Step) (t : Trap) → u ≡ Trips t → IsEnd u → ⊥
  not_end u t e h = subst IsEnd e h

  pub comes_to_trap : (k before paid_before : ℕ) (s : State) (t : Trap) (end : runs.State E ℕ) → step code tables s ≡ Trips t → I s → s.out ≡ end.out → paid_before ≤ most * end.seen → suc before ≤ 16 * end.seen
      → Comes code tables price most I StandsFor k s before paid_before (runs.Trapped t end)
  comes_to_trap zero before paid_before s t end stops i out cheap few =
      let at = run_at_limit (step code tables) s (not_end (step code tables s) t stops) in
      let none = paid_none code tables price 0 s t stops in
      record {
        meets = subst (λ r. Meets StandsFor r (runs.Trapped t end)) (sym at) (passes (subst (λ o. IsFrontOf o end.out) (sym out) ([], sym (append-nil end.out))));
        keeps = subst I (sym (run_none code tables s)) i;
        cost = omega (arith, none, cheap);
        more = λ limit. omega (arith, few);
      }
  comes_to_trap (suc k) before paid_before s t end stops i out cheap few =
      let at = run_trips (step code tables) k s t stops in
      let none = paid_none code tables price (suc k) s t stops in
      record {
        meets = subst (λ r. Meets StandsFor r (runs.Trapped t end)) (sym at) (trips out);
        keeps = subst (λ r. I (state_of r)) (sym at) i;
        cost = omega (arith, none, cheap);
        more = λ limit. absurd (subst IsLimit at limit);
      }

  -- where the code ends
  pub comes_to_end : (k before paid_before : ℕ) (s : State) (end : runs.State E ℕ) → step code tables s ≡ Ends → I s → s.out ≡ end.out → StandsFor s end.env → paid_before ≤ most * end.seen → Comes code tables price most I StandsFor k s before paid_before (runs.Went end)
  comes_to_end k before paid_before s end stops i out stands cheap =
      let at = run_ends (step code tables) k s stops in
      let none = paid_end code tables price k s stops in
      record {
        meets = subst (λ r. Meets StandsFor r (runs.Went end)) (sym at) (ends out stands);
        keeps = subst (λ r. I (state_of r)) (sym at) i;
        cost = omega (arith, none, cheap);
        more = λ limit. absurd (subst IsLimit at limit);
      }
