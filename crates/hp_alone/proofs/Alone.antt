-- One instruction, which each rank does by itself.
use Rattle.std.proofs.Common.{◌≡◌, ◌∙◌, refl, sym, subst, arith, ℕ, suc, ◌+◌, ◌≤◌, List, [], ◌∷◌, ◌++◌, append-nil, length, map, Result, Ok, Err}
use Rattle.std.specs.Bool.{IsTrue}
use Rattle.std.specs.List.{All, AllZip}
use Rattle.std.proofs.lemmas.List.{length-map}
use Rattle.std.proofs.lemmas.List.Elements.{All-map}
use Rattle.hp_word.specs.declared.place.Trap.{Trap}
use Rattle.hp_word.specs.declared.table.Tables.{Tables}
use Rattle.hp_spmd.specs.declared.code.Code.{Code}
use Rattle.hp_spmd.specs.declared.instr.Instr.{Instr}
use Rattle.hp_spmd.specs.declared.store.Store.{Store}
use Rattle.hp_spmd.specs.Kinds.{Kind, Computes, kind_of}
use Rattle.hp_spmd.specs.Layout.{Env, Layout}
use Rattle.hp_spmd.specs.Local.{local_next}
use Rattle.hp_spmd.specs.Lockstep.{State, state, One, position_of, together}
use Rattle.hp_spmd.specs.Names.{instr_within}
use Rattle.hp_spmd.specs.Next.{Next, Goes}
use Rattle.hp_spmd.specs.Ranks.{IsTogether}
use Rattle.hp_spmd.specs.Spread.{IsPlaced, SpreadsWell}
use Rattle.hp_spmd.specs.Store.{Data}
use Rattle.hp_spmd.proofs.MovedLemmas.{sum_first}
use Rattle.hp_spmd.proofs.ShareNext.{OnNext, next_placed}
use Rattle.hp_turns.specs.Apart.{AgreeBy}
use Rattle.hp_snippet.specs.Leads.{Leads}
use Rattle.hp_snippet.specs.Outcomes.{After, Does, Trips, Went}
use Rattle.hp_snippet.specs.Promises.{IsNoneOf, IsRankOf, IsSound, Slots, StandAt, StandBefore, StandBehind, Stays, price_of}
use Rattle.hp_snippet.proofs.Exchanges.{together_stops}
use Rattle.hp_snippet.proofs.Keeping.{zip_map}
use Rattle.hp_snippet.proofs.Leading.{leads_join, leads_none, run_none}
use Rattle.hp_snippet.proofs.Performing.{agree_at, computed_at, computed_by, computes_sound, sound_behind}

-- an instruction that computes is done by all together, and there is nothing on which they must agree
is_together : (i : Instr) → kind_of i ≡ Computes → IsTogether (kind_of i)
is_together i e = subst IsTogether (sym e) tt

agree_on : (i : Instr) (f : Store → Next) (ranks : List Store) → kind_of i ≡ Computes → AgreeBy (kind_of i) f ranks
agree_on i f ranks e = subst (λ k. AgreeBy k f ranks) (sym e) tt

-- a rank of a code is one still
pub rank_alone : (code : Code) (tables : Tables) (n : ℕ) (i : Instr) (f : Store → Data) (x : Store) → 1 ≤ n → SpreadsWell code.arrays i → IsTrue (instr_within code.words (length code.arrays) code.loose i) → local_next code.arrays tables i x ≡ Goes (computed_by f x)
    → length (f x).words ≡ length x.words → length (f x).loose ≡ length x.loose → IsRankOf code n x → IsRankOf code n (computed_by f x)
rank_alone code tables n i f x some spreads named goes words loose h =
    record {
      placed = subst (OnNext (IsPlaced code n)) goes (next_placed code tables n i x some spreads named h.placed);
      words = words ∙ h.words;
      loose = loose ∙ h.loose;
    }

-- where each rank makes something by it, all have gone to the next instruction, and stand for something, in any sense
pub alone_comes : (code : Code) (tables : Tables) (price : Kind → ℕ) (i : Instr) (s : State) (before after : Env) (StandsFor : State → Env → Type 0) (f : Store → Data) → kind_of i ≡ Computes
    → StandBefore code (i ∷ []) s before
    → All (λ x. local_next code.arrays tables i x ≡ Goes (computed_by f x)) s.ranks
    → All (λ x. IsRankOf code (length s.ranks) (computed_by f x)) s.ranks
    → StandsFor (state (map (computed_by f) s.ranks) s.out) after
    → Went code tables price (IsSound code tables (length s.ranks) (position_of s.ranks + 1)) (λ t. Unit {0}) Env StandsFor 1 (price_of price (i ∷ [])) (position_of s.ranks + 1) s (record { env = after; text = [] })
alone_comes code tables price i s before after StandsFor f e h goes each stands =
    let at = computed_at f s.ranks h.some in
    record {
      count = 1;
      cost = price (kind_of i);
      to = state (map (computed_by f) s.ranks) s.out;
      leads = computes_sound code tables price i s.ranks s.out (length s.ranks) (position_of s.ranks + 1) f (is_together i e) (agree_on i (local_next code.arrays tables i) s.ranks e) h.stand.0 h.each goes
          (sound_behind code tables (length s.ranks) (position_of s.ranks + 1) (state (map (computed_by f) s.ranks) s.out) (All-map (IsRankOf code (length s.ranks)) (computed_by f) s.ranks each) at);
      count_within = omega arith;
      cost_within = omega arith;
      place = at;
      out = sym (append-nil s.out);
      stands = λ t. stands;
    }

-- and what is not written is as it was
pub alone_went : (code : Code) (tables : Tables) (price : Kind → ℕ) (i : Instr) (s : State) (before after : Env) (written : Slots) (f : Store → Data) → kind_of i ≡ Computes
    → StandBefore code (i ∷ []) s before
    → All (λ x. local_next code.arrays tables i x ≡ Goes (computed_by f x)) s.ranks
    → All (λ x. IsRankOf code (length s.ranks) (computed_by f x)) s.ranks
    → All (λ x. Stays written x (computed_by f x)) s.ranks
    → Layout code (map (computed_by f) s.ranks) after
    → Went code tables price (IsSound code tables (length s.ranks) (position_of s.ranks + 1)) (λ t. Unit {0}) Env (StandBehind code written s.ranks) 1 (price_of price (i ∷ [])) (position_of s.ranks + 1) s (record { env = after; text = [] })
alone_went code tables price i s before after written f e h goes each stays lays =
    alone_comes code tables price i s before after (StandBehind code written s.ranks) f e h goes each (record { lays = lays; stays = zip_map (Stays written) (computed_by f) s.ranks stays })

-- where the lowest rank that traps does so by this trap, so do all, whatever stands behind the instruction
pub first_fails : (code : Code) (tables : Tables) (price : Kind → ℕ) (i : Instr) (rest : List Instr) (s : State) (before : Env) (t : Trap) → kind_of i ≡ Computes
    → StandBefore code (i ∷ rest) s before → together (local_next code.arrays tables i) s.ranks ≡ One t
    → Trips code tables price (IsSound code tables (length s.ranks) (position_of s.ranks + suc (length rest))) (suc (length rest)) (price_of price (i ∷ rest)) s t
first_fails code tables price i rest s before t e h trap =
    let until = position_of s.ranks + suc (length rest) in
    let sound : IsSound code tables (length s.ranks) until s =
    record { each = h.each; agree = λ lt. agree_at code tables i s.ranks h.stand.0 (agree_on i (local_next code.arrays tables i) s.ranks e) } in
    record {
      count = 0;
      cost = 0;
      to = s;
      leads = leads_none code tables price (IsSound code tables (length s.ranks) until) s sound;
      count_within = omega arith;
      cost_within = omega arith;
      out = refl;
      trips = together_stops code tables i s.ranks s.out t (is_together i e) h.stand.0 trap;
    }

pub alone_fails : (code : Code) (tables : Tables) (price : Kind → ℕ) (i : Instr) (s : State) (before : Env) (t : Trap) → kind_of i ≡ Computes
    → StandBefore code (i ∷ []) s before → together (local_next code.arrays tables i) s.ranks ≡ One t
    → Trips code tables price (IsSound code tables (length s.ranks) (position_of s.ranks + 1)) 1 (price_of price (i ∷ [])) s t
alone_fails code tables price i s before t e h trap = first_fails code tables price i [] s before t e h trap

-- ---- code behind it

-- what two pieces of code write
abbrev pub written_both : Slots → Slots → Slots
written_both a b = record { words = a.words ++ b.words; arrays = a.arrays ++ b.arrays; loose = a.loose ++ b.loose }

none_of_both : (names more : List ℕ) (k : ℕ) → IsNoneOf (names ++ more) k → IsNoneOf names k × IsNoneOf more k
none_of_both [] more k h = (tt, h)
none_of_both (name ∷ names) more k h = let rest = none_of_both names more k h.1 in ((h.0, rest.0), rest.1)

stays_both : (a b : Slots) (x y z : Store) → Stays a x y → Stays b y z → Stays (written_both a b) x z
stays_both a b x y z h g =
    record {
      number = g.number ∙ h.number;
      ranks_are = g.ranks_are ∙ h.ranks_are;
      words = λ w apart. let both = none_of_both a.words b.words w apart in g.words w both.1 ∙ h.words w both.0;
      arrays = λ k apart. let both = none_of_both a.arrays b.arrays k apart in g.arrays k both.1 ∙ h.arrays k both.0;
      loose = λ k apart. let both = none_of_both a.loose b.loose k apart in g.loose k both.1 ∙ h.loose k both.0;
      executed = g.executed ∙ h.executed;
      log = g.log ∙ h.log;
    }

stay_both : (a b : Slots) (xs ys zs : List Store) → AllZip (Stays a) xs ys → AllZip (Stays b) ys zs → AllZip (Stays (written_both a b)) xs zs
stay_both a b [] [] [] h g = tt
stay_both a b [] [] (z ∷ zs) h g = absurd g
stay_both a b [] (y ∷ ys) zs h g = absurd h
stay_both a b (x ∷ xs) [] zs h g = absurd h
stay_both a b (x ∷ xs) (y ∷ ys) [] h g = absurd g
stay_both a b (x ∷ xs) (y ∷ ys) (z ∷ zs) h g = (stays_both a b x y z h.0 g.0, stay_both a b xs ys zs h.1 g.1)

-- An instruction that each rank does by itself, and more code behind it. What holds of the ranks behind the instruction is
-- what the code finds before it.
module _ (code : Code) (tables : Tables) (price : Kind → ℕ) (i : Instr) (rest : List Instr) (s : State) (before : Env) (f : Store → Data) (h : StandBefore code (i ∷ rest) s before) where
  abbrev once_done : List Store
  once_done = map (computed_by f) s.ranks

  done_count : length once_done ≡ length s.ranks
  done_count = length-map s.ranks (computed_by f)

  done_at : position_of once_done ≡ position_of s.ranks + 1
  done_at = computed_at f s.ranks h.some

  pub stand_behind : (middle : Env) → All (λ x. IsRankOf code (length s.ranks) (computed_by f x)) s.ranks → Layout code once_done middle → StandBefore code rest (state once_done s.out) middle
  stand_behind middle each lays =
      let count = done_count in
      let some = h.some in
      let one : position_of s.ranks + 1 ≡ suc (position_of s.ranks) = omega arith in
      record {
        stand = subst (λ p. StandAt code.list p rest) (sym (done_at ∙ one)) h.stand.1;
        some = omega (arith, count, some);
        each = subst (λ n. All (IsRankOf code n) once_done) (sym count) (All-map (IsRankOf code (length s.ranks)) (computed_by f) s.ranks each);
        lays = lays;
      }

  abbrev until : ℕ
  until = position_of s.ranks + suc (length rest)

  abbrev Sound : State → Type 0
  Sound t = IsSound code tables (length s.ranks) until t

  leads_first : kind_of i ≡ Computes → All (λ x. local_next code.arrays tables i x ≡ Goes (computed_by f x)) s.ranks → Sound (state once_done s.out)
      → Leads code tables price Sound 1 (price (kind_of i)) s (state once_done s.out)
  leads_first e goes end =
      computes_sound code tables price i s.ranks s.out (length s.ranks) until f (is_together i e) (agree_on i (local_next code.arrays tables i) s.ranks e) h.stand.0 h.each goes end

  -- where it begins, it is sound
  sound_first : (count cost : ℕ) (t : State) → Leads code tables price Sound count cost (state once_done s.out) t → Sound (state once_done s.out)
  sound_first count cost t leads = let least : 0 ≤ count = omega arith in subst Sound (run_none code tables (state once_done s.out)) (leads.keeps 0 least)

  abbrev Later : Slots → Result (After Env) Trap → Type 0
  Later second r = Does code tables price Sound (λ t. Unit {0}) Env (StandBehind code second once_done) (length rest) (price_of price rest) until (state once_done s.out) r

  cost_split : price_of price (i ∷ rest) ≡ price (kind_of i) + price_of price rest
  cost_split = sum_first (price (kind_of i)) (map (λ j. price (kind_of j)) rest)

  both_do : (first second : Slots) (r : Result (After Env) Trap) → kind_of i ≡ Computes → All (λ x. local_next code.arrays tables i x ≡ Goes (computed_by f x)) s.ranks → All (λ x. Stays first x (computed_by f x)) s.ranks → Later second r
      → Does code tables price Sound (λ t. Unit {0}) Env (StandBehind code (written_both first second) s.ranks) (suc (length rest)) (price_of price (i ∷ rest)) until s r
  both_do first second (Ok after) e goes stays w =
      let few = w.count_within in
      let cheap = w.cost_within in
      let split = cost_split in
      record {
        count = 1 + w.count;
        cost = price (kind_of i) + w.cost;
        to = w.to;
        leads = leads_join code tables price Sound 1 (price (kind_of i)) w.count w.cost s (state once_done s.out) w.to (leads_first e goes (sound_first w.count w.cost w.to w.leads)) w.leads;
        count_within = omega (arith, few);
        cost_within = omega (arith, cheap, split);
        place = w.place;
        out = w.out;
        stands = λ t.
            let behind = w.stands tt in
            record { lays = behind.lays; stays = stay_both first second s.ranks once_done w.to.ranks (zip_map (Stays first) (computed_by f) s.ranks stays) behind.stays };
      }
  both_do first second (Err t) e goes stays w =
      let few = w.count_within in
      let cheap = w.cost_within in
      let split = cost_split in
      record {
        count = 1 + w.count;
        cost = price (kind_of i) + w.cost;
        to = w.to;
        leads = leads_join code tables price Sound 1 (price (kind_of i)) w.count w.cost s (state once_done s.out) w.to (leads_first e goes (sound_first w.count w.cost w.to w.leads)) w.leads;
        count_within = omega (arith, few);
        cost_within = omega (arith, cheap, split);
        out = w.out;
        trips = w.trips;
      }

  -- both together do what the code behind it does from there
  pub alone_then : (first second : Slots) (r : Result (After Env) Trap) → kind_of i ≡ Computes → All (λ x. local_next code.arrays tables i x ≡ Goes (computed_by f x)) s.ranks → All (λ x. Stays first x (computed_by f x)) s.ranks
      → Does code tables price (IsSound code tables (length once_done) (position_of once_done + length rest)) (λ t. Unit {0}) Env (StandBehind code second once_done) (length rest) (price_of price rest) (position_of once_done + length rest) (state once_done s.out) r
      → Does code tables price (IsSound code tables (length s.ranks) (position_of s.ranks + suc (length rest))) (λ t. Unit {0}) Env (StandBehind code (written_both first second) s.ranks) (suc (length rest)) (price_of price (i ∷ rest)) (position_of s.ranks + suc (length rest)) s r
  alone_then first second r e goes stays does =
      let at = done_at in
      let same : position_of once_done + length rest ≡ until = omega (arith, at) in
      both_do first second r e goes stays
      (subst (λ p. Does code tables price (IsSound code tables (length s.ranks) p) (λ t. Unit {0}) Env (StandBehind code second once_done) (length rest) (price_of price rest) p (state once_done s.out) r) same
      (subst (λ n. Does code tables price (IsSound code tables n (position_of once_done + length rest)) (λ t. Unit {0}) Env (StandBehind code second once_done) (length rest) (price_of price rest) (position_of once_done + length rest) (state once_done s.out) r) done_count does))
