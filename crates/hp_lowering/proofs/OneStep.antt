-- One step of a program: its code, or a jump, comes as far as the program does.
use Rattle.std.proofs.Common.{◌≡◌, ◌∙◌, refl, sym, subst, ap, arith, inl, inr, ℕ, zero, suc, ◌+◌, ◌-◌, ◌*◌, ◌<◌, ◌≤◌, Bool, true, false, List, [], ◌∷◌, ◌++◌, length, Some, None, Result, Ok, Err}
use Rattle.std.specs.Prelude.{Option, if◌then◌else◌}
use Rattle.std.proofs.lemmas.Bool.{cases_lt}
use Rattle.std.proofs.Math.Nat.{mul-add, mul-one}
use Rattle.hp_word.specs.declared.place.Trap.{Trap}
use Rattle.hp_word.specs.declared.table.Tables.{Tables}
use Rattle.hp_word.specs.Runs as runs
use Rattle.hp_word.specs.Runs.{IsFrontOf, Ran, Runs, behind}
use Rattle.hp_word.specs.Words.{is_true}
use Rattle.hp_word.proofs.RunGrowth.{front_same}
use Rattle.hp_spmd.specs.declared.code.Code.{Code}
use Rattle.hp_spmd.specs.declared.instr.Instr.{Instr}
use Rattle.hp_spmd.specs.declared.instr.Instr.TheVariants as instr
use Rattle.hp_spmd.specs.declared.store.Store.{Store}
use Rattle.hp_spmd.specs.Kinds.{Kind, Jumps}
use Rattle.hp_spmd.specs.Lockstep.{State, place_of_first, position_of, run, state_of}
use Rattle.hp_spmd.specs.Store.{instr_at}
use Rattle.hp_program.specs.Programs.{Doing, Effect, by_word, told, worked}
use Rattle.hp_program.specs.Programs as programs
use Rattle.hp_snippet.specs.Laws.{once_jumped}
use Rattle.hp_snippet.specs.Outcomes.{After, Does, Trips, Went}
use Rattle.hp_snippet.specs.Promises.{StandAt, price_of}
use Rattle.hp_snippet.proofs.Exchanges.{jump_leads}
use Rattle.hp_snippet.proofs.Leading.{run_none}
use Rattle.hp_lowering.specs.Flow.{Carries, CarriesJumps, Comes, Looks, comes_to}
use Rattle.hp_lowering.proofs.Coming.{Anything, comes_between, comes_on, comes_to_trap, leads_state}
use Rattle.hp_lowering.proofs.Later.{Grows, Later}

-- The ranks have come to a place with at most k instructions left, and stand for where the program has come to, which has
-- as many turns left or more; the orders are those that they have logged then.
pub record Ready {E : Type 0} (code : Code) (tables : Tables) (Agrees : State → Type 0) (StandsFor : State → E → Type 0) (place k : ℕ) (s : State) (src : runs.State E ℕ) : Type 0 where
  pub at : position_of s.ranks ≡ place
  pub out : s.out ≡ src.out
  pub stands : StandsFor s src.env
  pub fuel : k ≤ src.fuel
  pub agrees : Agrees (state_of (run code tables k s))

module _ (Op E : Type 0) (d : Doing Op E) (steps : Op → List Instr) (code : Code) (tables : Tables) (price : Kind → ℕ) (most : ℕ) (I Agrees : State → Type 0) (StandsFor : State → E → Type 0) where
  abbrev pub IsReady : (place k : ℕ) → State → runs.State E ℕ → Type 0
  IsReady place k s src = Ready code tables Agrees StandsFor place k s src

  -- From a place on the lockstep comes as far as a run of the program from where that stands, which has at most so much fuel;
  -- so many instructions, and so much of the cost, are left over of what its work has paid.
  abbrev pub Claim : (fuel slack left place : ℕ) → Runs E ℕ → Type 0
  Claim fuel slack left place f =
      (k before paid_before : ℕ) (s : State) (src : runs.State E ℕ) → IsReady place k s src → src.fuel ≤ fuel → before + slack ≤ 16 * src.seen → paid_before + left ≤ most * src.seen
      → Comes code tables price most I StandsFor k s before paid_before (f src)

  -- ---- operations

  step_went : (op : Op) (fuel slack left place until : ℕ) (rest : Runs E ℕ) (k before paid_before : ℕ) (s : State) (src : runs.State E ℕ) (a : After E) → Carries d steps code tables price most I Agrees StandsFor op
      → ((n : ℕ) (t : State) → Agrees (state_of (run code tables n t)) → Agrees t) → Grows rest → Claim fuel slack left until rest → StandAt code.list (position_of s.ranks) (steps op)
      → Went code tables price Anything Agrees E StandsFor (length (steps op)) (price_of price (steps op)) until s a
      → IsReady place k s src → src.fuel ≤ fuel → before + slack ≤ 16 * src.seen → paid_before + left ≤ most * src.seen
      → Comes code tables price most I StandsFor k s before paid_before (rest (record src { env = a.env; seen = src.seen + d.units op; out = src.out ++ a.text }))
  step_went op fuel slack left place until rest k before paid_before s src a c earlier grows next stand w ready low few cheap =
      let after : runs.State E ℕ = record src { env = a.env; seen = src.seen + d.units op; out = src.out ++ a.text } in
      let long = w.count_within in
      let dear = w.cost_within in
      let short = c.few in
      let good = c.cheap in
      let both : most * (src.seen + d.units op) ≡ most * src.seen + most * d.units op = mul-add most src.seen (d.units op) in
      let out : w.to.out ≡ src.out ++ a.text = w.out ∙ ap (λ o. o ++ a.text) ready.out in
      elim (cases_lt k w.count) [
        | inl lt ↦
            let inside : k < length (steps op) = omega (arith, lt, long) in
            let later : Later w.to.out (src.seen + d.units op) (rest after) = subst (λ o. Later o (src.seen + d.units op) (rest after)) (sym out) (grows.from after) in
            let paid_all : w.cost + paid_before ≤ most * (src.seen + d.units op) = omega (arith, dear, good, both, cheap) in
            let all : w.count + before ≤ 16 * (src.seen + d.units op) = omega (arith, long, short, few) in
            comes_between {E = E} code tables price most I StandsFor k w.count w.cost before paid_before (src.seen + d.units op) s w.to (rest after) lt w.leads
            (c.keeps s src.env ready.stands stand k inside) later paid_all all
        | inr le ↦
            let split : w.count + (k - w.count) ≡ k = omega (arith, le) in
            let same : run code tables k s ≡ run code tables (k - w.count) w.to = ap (λ n. run code tables n s) (sym split) ∙ w.leads.by (k - w.count) in
            let agrees : Agrees (state_of (run code tables (k - w.count) w.to)) = subst (λ r. Agrees (state_of r)) same ready.agrees in
            let fuel_left = ready.fuel in
            let enough : k - w.count ≤ src.fuel = omega (arith, fuel_left) in
            let few2 : (w.count + before) + slack ≤ 16 * (src.seen + d.units op) = omega (arith, long, short, few) in
            let cheap2 : (w.cost + paid_before) + left ≤ most * (src.seen + d.units op) = omega (arith, dear, good, both, cheap) in
            let start : w.count + before ≤ w.count + before = omega arith in
            let start2 : w.cost + paid_before ≤ w.cost + paid_before = omega arith in
            comes_on {E = E} code tables price most I StandsFor k w.count w.cost before (w.count + before) paid_before (w.cost + paid_before) s w.to (rest after) le w.leads start start2
            (next (k - w.count) (w.count + before) (w.cost + paid_before) w.to after
            (record { at = w.place; out = out; stands = w.stands (earlier (k - w.count) w.to agrees); fuel = enough; agrees = agrees }) low few2 cheap2)
      ]

  step_trips : (op : Op) (slack left place : ℕ) (k before paid_before : ℕ) (s : State) (src : runs.State E ℕ) (t : Trap) → Carries d steps code tables price most I Agrees StandsFor op
      → StandAt code.list (position_of s.ranks) (steps op) → Trips code tables price Anything (length (steps op)) (price_of price (steps op)) s t
      → IsReady place k s src → before + slack ≤ 16 * src.seen → paid_before + left ≤ most * src.seen
      → Comes code tables price most I StandsFor k s before paid_before (runs.Trapped t (worked (d.units op) src))
  step_trips op slack left place k before paid_before s src t c stand w ready few cheap =
      let end : runs.State E ℕ = worked (d.units op) src in
      let long = w.count_within in
      let dear = w.cost_within in
      let short = c.few in
      let good = c.cheap in
      let both : most * (src.seen + d.units op) ≡ most * src.seen + most * d.units op = mul-add most src.seen (d.units op) in
      let out : w.to.out ≡ src.out = w.out ∙ ready.out in
      let paid_all : w.cost + paid_before ≤ most * (src.seen + d.units op) = omega (arith, dear, good, both, cheap) in
      let all : suc (w.count + before) ≤ 16 * (src.seen + d.units op) = omega (arith, long, short, few) in
      elim (cases_lt k w.count) [
        | inl lt ↦
            let inside : k < length (steps op) = omega (arith, lt, long) in
            let same : src.seen + d.units op ≤ src.seen + d.units op = omega arith in
            let less : w.count + before ≤ 16 * (src.seen + d.units op) = omega (arith, all) in
            let later : Later w.to.out (src.seen + d.units op) (runs.Trapped t end) = Later.trapped (subst (λ o. IsFrontOf o src.out) (sym out) (front_same src.out)) same in
            comes_between {E = E} code tables price most I StandsFor k w.count w.cost before paid_before (src.seen + d.units op) s w.to (runs.Trapped t end) lt w.leads (c.keeps s src.env ready.stands stand k inside) later paid_all less
        | inr le ↦
            let inside : w.count < length (steps op) = omega (arith, long) in
            let sound : I w.to = subst I (leads_state code tables price w.count w.cost s w.to w.leads) (c.keeps s src.env ready.stands stand w.count inside) in
            let start : w.count + before ≤ w.count + before = omega arith in
            let start2 : w.cost + paid_before ≤ w.cost + paid_before = omega arith in
            comes_on {E = E} code tables price most I StandsFor k w.count w.cost before (w.count + before) paid_before (w.cost + paid_before) s w.to (runs.Trapped t end) le w.leads start start2
            (comes_to_trap {E = E} code tables price most I StandsFor (k - w.count) (w.count + before) (w.cost + paid_before) w.to t end w.trips sound out paid_all all)
      ]

  step_comes : (op : Op) (fuel slack left place : ℕ) (rest : Runs E ℕ) (k before paid_before : ℕ) (s : State) (src : runs.State E ℕ) (r : Result (Effect E) Trap) → Carries d steps code tables price most I Agrees StandsFor op
      → ((n : ℕ) (t : State) → Agrees (state_of (run code tables n t)) → Agrees t) → Grows rest → Claim fuel slack left (place + length (steps op)) rest → StandAt code.list (position_of s.ranks) (steps op)
      → Does code tables price Anything Agrees E StandsFor (length (steps op)) (price_of price (steps op)) (place + length (steps op)) s (comes_to r)
      → IsReady place k s src → src.fuel ≤ fuel → before + slack ≤ 16 * src.seen → paid_before + left ≤ most * src.seen
      → Comes code tables price most I StandsFor k s before paid_before (behind (told r (worked (d.units op) src)) rest)
  unfolding told
  step_comes op fuel slack left place rest k before paid_before s src (Ok effect) c earlier grows next stand w ready low few cheap =
      step_went op fuel slack left place (place + length (steps op)) rest k before paid_before s src (record { env = effect.env; text = effect.text }) c earlier grows next stand w ready low few cheap
  step_comes op fuel slack left place rest k before paid_before s src (Err t) c earlier grows next stand w ready low few cheap =
      step_trips op slack left place k before paid_before s src t c stand w ready few cheap

  -- an operation and what is behind it
  pub operation_comes : (op : Op) (fuel slack left place : ℕ) (rest : Runs E ℕ) → Carries d steps code tables price most I Agrees StandsFor op → ((n : ℕ) (t : State) → Agrees (state_of (run code tables n t)) → Agrees t)
      → Grows rest → Claim fuel slack left (place + length (steps op)) rest → StandAt code.list place (steps op) → Claim fuel slack left place (λ src. behind (programs.step d op src) rest)
  operation_comes op fuel slack left place rest c earlier grows next stand k before paid_before s src ready low few cheap =
      let here : StandAt code.list (position_of s.ranks) (steps op) = subst (λ p. StandAt code.list p (steps op)) (sym ready.at) stand in
      let does = subst (λ p. Does code tables price Anything Agrees E StandsFor (length (steps op)) (price_of price (steps op)) (p + length (steps op)) s (comes_to (d.does op src.env))) ready.at (c.does s src.env ready.stands here) in
      step_comes op fuel slack left place rest k before paid_before s src (d.does op src.env) c earlier grows next here does ready low few cheap

  -- ---- jumps

  first_target : (target : ℕ) (ranks : List Store) → 1 ≤ length ranks → place_of_first target None ranks ≡ target
  first_target target [] some = absurd (omega (arith, some))
  first_target target (x ∷ xs) some = refl

  jumped_place : (target : ℕ) (unless : Option ℕ) (ranks : List Store) (out : List ℕ) → 1 ≤ length ranks → position_of (once_jumped target unless ranks out).ranks ≡ place_of_first target unless ranks
  jumped_place target unless [] out some = absurd (omega (arith, some))
  jumped_place target unless (x ∷ xs) out some = refl

  -- what stands for the program behind a jump
  jumped_ready : (target : ℕ) (unless : Option ℕ) (there n : ℕ) (s : State) (src after : runs.State E ℕ) → CarriesJumps code tables price most I Agrees StandsFor → instr_at code.list (position_of s.ranks) ≡ instr.Jump target unless
      → place_of_first target unless s.ranks ≡ there → s.out ≡ src.out → StandsFor s src.env → Agrees (state_of (run code tables (suc n) s)) → after.env ≡ src.env → after.out ≡ src.out → n ≤ after.fuel
      → IsReady there n (once_jumped target unless s.ranks s.out) after
  jumped_ready target unless there n s src after j is goes out stands agrees env same fuel =
      let leads = jump_leads code tables price Anything target unless s.ranks s.out is tt tt in
      let one : suc n ≡ 1 + n = omega arith in
      let on : run code tables (suc n) s ≡ run code tables n (once_jumped target unless s.ranks s.out) = ap (λ m. run code tables m s) one ∙ leads.by n in
      record {
        at = jumped_place target unless s.ranks s.out (j.some s src.env stands) ∙ goes;
        out = out ∙ sym same;
        stands = subst (StandsFor (once_jumped target unless s.ranks s.out)) (sym env) (j.jumped s src.env target unless stands);
        fuel = fuel;
        agrees = subst (λ r. Agrees (state_of r)) on agrees;
      }

  jump_comes : (target : ℕ) (unless : Option ℕ) (k before paid_before work : ℕ) (s : State) (ran : Ran E ℕ) → instr_at code.list (position_of s.ranks) ≡ instr.Jump target unless → I s → Later s.out work ran
      → suc before ≤ 16 * work → price (Jumps target unless) + paid_before ≤ most * work
      → ((n : ℕ) → k ≡ suc n → Comes code tables price most I StandsFor n (once_jumped target unless s.ranks s.out) (suc before) (price (Jumps target unless) + paid_before) ran)
      → Comes code tables price most I StandsFor k s before paid_before ran
  jump_comes target unless zero before paid_before work s ran is i later few cheap next =
      let leads = jump_leads code tables price Anything target unless s.ranks s.out is tt tt in
      let one : 0 < 1 = omega arith in
      let all : 1 + before ≤ 16 * work = omega (arith, few) in
      comes_between {E = E} code tables price most I StandsFor 0 1 (price (Jumps target unless)) before paid_before work s (once_jumped target unless s.ranks s.out) ran one leads (subst I (sym (run_none code tables s)) i) later cheap all
  jump_comes target unless (suc n) before paid_before work s ran is i later few cheap next =
      let leads = jump_leads code tables price Anything target unless s.ranks s.out is tt tt in
      let one : 1 ≤ suc n = omega arith in
      let start : 1 + before ≤ suc before = omega arith in
      let start2 : price (Jumps target unless) + paid_before ≤ price (Jumps target unless) + paid_before = omega arith in
      let same : n ≡ suc n - 1 = omega arith in
      let to = once_jumped target unless s.ranks s.out in
      comes_on {E = E} code tables price most I StandsFor (suc n) 1 (price (Jumps target unless)) before (suc before) paid_before (price (Jumps target unless) + paid_before) s to ran one leads start start2
      (subst (λ m. Comes code tables price most I StandsFor m to (suc before) (price (Jumps target unless) + paid_before) ran) same (next n refl))

  -- a jump that goes ahead in any case
  pub goto_comes : (fuel slack left here there : ℕ) (rest : Runs E ℕ) → CarriesJumps code tables price most I Agrees StandsFor → instr_at code.list here ≡ instr.Jump there None → Grows rest
      → Claim fuel slack left there rest → Claim fuel (suc slack) (left + price (Jumps there None)) here rest
  goto_comes fuel slack left here there rest j is grows next k before paid_before s src ready low few cheap =
      let at : instr_at code.list (position_of s.ranks) ≡ instr.Jump there None = ap (instr_at code.list) ready.at ∙ is in
      let few2 : suc before + slack ≤ 16 * src.seen = omega (arith, few) in
      let cheap2 : (price (Jumps there None) + paid_before) + left ≤ most * src.seen = omega (arith, cheap) in
      let few1 : suc before ≤ 16 * src.seen = omega (arith, few2) in
      let cheap1 : price (Jumps there None) + paid_before ≤ most * src.seen = omega (arith, cheap2) in
      let left_over = ready.fuel in
      jump_comes there None k before paid_before src.seen s (rest src) at (j.keeps s src.env there ready.stands at) (subst (λ o. Later o src.seen (rest src)) (sym ready.out) (grows.from src)) few1 cheap1
      (λ n e.
      let enough : n ≤ src.fuel = omega (arith, e, left_over) in
      next n (suc before) (price (Jumps there None) + paid_before) (once_jumped there None s.ranks s.out) src
      (jumped_ready there None there n s src src j at (first_target there s.ranks (j.some s src.env ready.stands)) ready.out ready.stands (subst (λ m. Agrees (state_of (run code tables m s))) e ready.agrees) refl refl enough) low few2 cheap2)

  -- The same, where so many instructions are left that the program has a turn for one more.
  abbrev pub ClaimBelow : (fuel slack left place : ℕ) → Runs E ℕ → Type 0
  ClaimBelow fuel slack left place f =
      (k before paid_before : ℕ) (s : State) (src : runs.State E ℕ) → k < src.fuel → IsReady place k s src → src.fuel ≤ fuel → before + slack ≤ 16 * src.seen → paid_before + left ≤ most * src.seen
      → Comes code tables price most I StandsFor k s before paid_before (f src)

  -- a look at a word, which pays for a jump behind what is done where it is true
  look_by : (w fuel slack left here there other : ℕ) (first second : Runs E ℕ) (k before paid_before : ℕ) (s : State) (src : runs.State E ℕ) (holds : Bool) → CarriesJumps code tables price most I Agrees StandsFor
      → instr_at code.list (position_of s.ranks) ≡ instr.Jump other (Some w) → I s → place_of_first other (Some w) s.ranks ≡ (if holds then suc here else other)
      → Grows first → Grows second → ClaimBelow fuel (suc slack) (left + price (Jumps there None)) (suc here) first → Claim fuel slack left other second
      → IsReady here k s src → src.fuel ≤ fuel → before + slack ≤ 16 * src.seen → paid_before + left ≤ most * src.seen
      → Comes code tables price most I StandsFor k s before paid_before (if holds then first (worked 1 src) else second (worked 1 src))
  look_by w fuel slack left here there other first second k before paid_before s src true j at i goes grows grows2 do_first do_second ready low few cheap =
      let after : runs.State E ℕ = worked 1 src in
      let both : most * (src.seen + 1) ≡ most * src.seen + most * 1 = mul-add most src.seen 1 in
      let one : most * 1 ≡ most = mul-one most in
      let a = j.cheap other (Some w) in
      let b = j.cheap there None in
      let few2 : suc before + suc slack ≤ 16 * (src.seen + 1) = omega (arith, few) in
      let cheap2 : (price (Jumps other (Some w)) + paid_before) + (left + price (Jumps there None)) ≤ most * (src.seen + 1) = omega (arith, cheap, both, one, a, b) in
      let few1 : suc before ≤ 16 * (src.seen + 1) = omega (arith, few2) in
      let cheap1 : price (Jumps other (Some w)) + paid_before ≤ most * (src.seen + 1) = omega (arith, cheap2) in
      let left_over = ready.fuel in
      jump_comes other (Some w) k before paid_before (src.seen + 1) s (first after) at i (subst (λ o. Later o (src.seen + 1) (first after)) (sym ready.out) (grows.from after)) few1 cheap1
      (λ n e.
      let below : n < src.fuel = omega (arith, e, left_over) in
      let enough : n ≤ src.fuel = omega (arith, below) in
      do_first n (suc before) (price (Jumps other (Some w)) + paid_before) (once_jumped other (Some w) s.ranks s.out) after below
      (jumped_ready other (Some w) (suc here) n s src after j at goes ready.out ready.stands (subst (λ m. Agrees (state_of (run code tables m s))) e ready.agrees) refl refl enough) low few2 cheap2)
  look_by w fuel slack left here there other first second k before paid_before s src false j at i goes grows grows2 do_first do_second ready low few cheap =
      let after : runs.State E ℕ = worked 1 src in
      let both : most * (src.seen + 1) ≡ most * src.seen + most * 1 = mul-add most src.seen 1 in
      let one : most * 1 ≡ most = mul-one most in
      let a = j.cheap other (Some w) in
      let few2 : suc before + slack ≤ 16 * (src.seen + 1) = omega (arith, few) in
      let cheap2 : (price (Jumps other (Some w)) + paid_before) + left ≤ most * (src.seen + 1) = omega (arith, cheap, both, one, a) in
      let few1 : suc before ≤ 16 * (src.seen + 1) = omega (arith, few2) in
      let cheap1 : price (Jumps other (Some w)) + paid_before ≤ most * (src.seen + 1) = omega (arith, cheap2) in
      let left_over = ready.fuel in
      jump_comes other (Some w) k before paid_before (src.seen + 1) s (second after) at i (subst (λ o. Later o (src.seen + 1) (second after)) (sym ready.out) (grows2.from after)) few1 cheap1
      (λ n e.
      let enough : n ≤ src.fuel = omega (arith, e, left_over) in
      do_second n (suc before) (price (Jumps other (Some w)) + paid_before) (once_jumped other (Some w) s.ranks s.out) after
      (jumped_ready other (Some w) other n s src after j at goes ready.out ready.stands (subst (λ m. Agrees (state_of (run code tables m s))) e ready.agrees) refl refl enough) low few2 cheap2)

  pub look_comes : (w fuel slack left here there other : ℕ) (first second : Runs E ℕ) → CarriesJumps code tables price most I Agrees StandsFor → Looks d code I StandsFor w → instr_at code.list here ≡ instr.Jump other (Some w)
      → Grows first → Grows second → ClaimBelow fuel (suc slack) (left + price (Jumps there None)) (suc here) first → Claim fuel slack left other second
      → Claim fuel slack left here (by_word d w first second)
  unfolding by_word
  look_comes w fuel slack left here there other first second j looks is grows grows2 do_first do_second k before paid_before s src ready low few cheap =
      let at : instr_at code.list (position_of s.ranks) ≡ instr.Jump other (Some w) = ap (instr_at code.list) ready.at ∙ is in
      let holds = is_true (d.word src.env w) in
      let goes : place_of_first other (Some w) s.ranks ≡ (if holds then suc here else other) = looks.goes s src.env other ready.stands ∙ ap (λ p. if holds then suc p else other) ready.at in
      look_by w fuel slack left here there other first second k before paid_before s src holds j at (looks.keeps s src.env other ready.stands at) goes grows grows2 do_first do_second ready low few cheap
