-- What all ranks do stands for what the program does.
use Rattle.std.proofs.Common.{◌≡◌, ◌∙◌, refl, sym, ap, arith, ℕ, suc, ◌+◌, ◌*◌, ◌<◌, ◌≤◌, Bool, true, false, List, [], ◌∷◌, length, map, get_or, Some, None}
use Rattle.std.specs.Prelude.{ℤ, pos, if◌then◌else◌, not, Option}
use Rattle.std.specs.List.{All, AllByRecursion}
use Rattle.std.specs.Ordering.{int_eq}
use Rattle.std.proofs.lemmas.List.{length-map}
use Rattle.std.proofs.lemmas.List.Elements.{All-map}
use Rattle.hp_word.specs.declared.order.Order.{Order}
use Rattle.hp_word.specs.declared.table.Tables.{Tables}
use Rattle.hp_word.specs.LoopRules.{word_at}
use Rattle.hp_word.specs.Runs.{Ran}
use Rattle.hp_word.specs.Words.{is_true}
use Rattle.hp_word.proofs.RunFuel.{Further}
use Rattle.hp_word.proofs.RunFuel as fuel
use Rattle.hp_lattice.specs.declared.dist.Dist.{Dist}
use Rattle.hp_spmd.specs.declared.code.Code.{Code}
use Rattle.hp_spmd.specs.declared.instr.Instr.TheVariants as instr
use Rattle.hp_spmd.specs.declared.store.Store.{Store}
use Rattle.hp_spmd.specs.Kinds.{Jumps}
use Rattle.hp_spmd.specs.Local.{next_place}
use Rattle.hp_spmd.specs.Lockstep.{State, Reached, Ended, Trapped, Limit, IsOver, first_state, lockstep_of, place_of_first, position_of, state_of}
use Rattle.hp_spmd.specs.Next.{at_place}
use Rattle.hp_turns.specs.Apart.{price}
use Rattle.hp_turns.specs.Turns.{kept_orders}
use Rattle.hp_program.specs.Programs.{Prog, operations, start, tests}
use Rattle.hp_program.specs.Programs as programs
use Rattle.hp_program.proofs.Fuel.{run_further}
use Rattle.hp_air.specs.declared.slot.Slot.{Slot}
use Rattle.hp_air.specs.Meaning.{work_of}
use Rattle.hp_air.specs.Placed as placed
use Rattle.hp_air.specs.Wholes.{Env, unset}
use Rattle.hp_parfor.specs.LoopMeaning.{part_doing, parts_mean}
use Rattle.hp_parfor.specs.Parts.{Part}
use Rattle.hp_snippet.specs.Laws.{once_jumped}
use Rattle.hp_snippet.specs.Leads.{IsLimit}
use Rattle.hp_snippet.specs.Promises.{IsRankOf, Slots, Stays}
use Rattle.hp_snippet.proofs.Keeping.{words_layout, word_stays, zip_map}
use Rattle.hp_snippet.proofs.Performing.{agree_at, all_map, rank_same}
use Rattle.hp_lowering.specs.CodeOf.{code_list}
use Rattle.hp_lowering.specs.Flow.{CarriesJumps, Looks}
use Rattle.hp_lowering.specs.PartCode.{part_code}
use Rattle.hp_lowering.specs.Room.{Room, room_of}
use Rattle.hp_lowering.specs.RunLaws.{HasStopped, RanksAgree, RanksRunParts, RanksStop}
use Rattle.hp_lowering.specs.Standing.{AreSound, HasLogged, LogsExecuted, StandFor}
use Rattle.hp_lowering.proofs.FirstRanks.{first_out, first_place, first_stands}
use Rattle.hp_lowering.proofs.Flow.{whole_comes}
use Rattle.hp_lowering.proofs.Logging.{logged_earlier}

-- ---- words

-- all ranks have a program's word
stand_word : (code : Code) (room : Room) (n w : ℕ) (s : State) (e : Env) → w < room.words → StandFor code room n s e → All (λ (x : Store). word_at x.words w ≡ e.words w) s.ranks
stand_word code room n w s e lt h = h.lays.words w (e.words w) (h.is.words w lt)

goes_by : (value : ℤ) (here target : ℕ) (zero : Bool) → (if zero then target else here) ≡ (if not zero then here else target)
goes_by value here target true = refl
goes_by value here target false = refl

first_goes : (w target : ℕ) (value : ℤ) (xs : List Store) → 1 ≤ length xs → All (λ (x : Store). word_at x.words w ≡ value) xs → place_of_first target (Some w) xs ≡ (if is_true value then suc (position_of xs) else target)
first_goes w target value [] some h = absurd (omega (arith, some))
first_goes w target value (x ∷ xs) some h =
    let first : 0 < length (x ∷ xs) = omega arith in
    ap (λ v. if int_eq v (pos 0) then target else suc x.position) (h 0 x first) ∙ goes_by value (suc x.position) target (int_eq value (pos 0))

-- where each rank goes
each_goes : (w target : ℕ) (value : ℤ) (xs : List Store) → 1 ≤ length xs → All (λ (x : Store). word_at x.words w ≡ value) xs → All (λ (x : Store). x.position ≡ position_of xs) xs
    → All (λ (x : Store). next_place target (Some w) x.words x.position ≡ place_of_first target (Some w) xs) xs
each_goes w target value xs some h at k d lt =
    ap (λ v. if int_eq v (pos 0) then target else suc (get_or xs k d).position) (h k d lt)
    ∙ ap (λ p. if int_eq value (pos 0) then target else suc p) (at k d lt)
    ∙ goes_by value (suc (position_of xs)) target (int_eq value (pos 0))
    ∙ sym (first_goes w target value xs some h)

-- ---- jumps

some_ranks : (code : Code) (room : Room) (n : ℕ) (s : State) (e : Env) → StandFor code room n s e → 1 ≤ length s.ranks
some_ranks code room n s e h = let some = h.some in let count = h.count in omega (arith, some, count)

abbrev nothing : Slots
nothing = record { words = []; arrays = []; loose = [] }

place_stays : (p : ℕ) (x : Store) → Stays nothing x (at_place p x)
place_stays p x = record { number = refl; ranks_are = refl; words = λ w apart. refl; arrays = λ k apart. refl; loose = λ k apart. refl; executed = refl; log = refl }

all_at : (p : ℕ) (xs : List Store) → All (λ (x : Store). x.position ≡ position_of (map (at_place p) xs)) (map (at_place p) xs)
all_at p [] k d lt = absurd (omega (arith, lt))
all_at p (x ∷ xs) k d lt = All-map (λ (y : Store). y.position ≡ p) (at_place p) (x ∷ xs) (λ k d lt. refl) k d lt

jumped_stands : (code : Code) (room : Room) (n target : ℕ) (unless : Option ℕ) (s : State) (e : Env) → StandFor code room n s e → StandFor code room n (once_jumped target unless s.ranks s.out) e
jumped_stands code room n target unless s e h =
    let p = place_of_first target unless s.ranks in
    let zips = zip_map (Stays nothing) (at_place p) s.ranks (λ k d lt. place_stays p (get_or s.ranks k d)) in
    record {
      some = h.some;
      count = length-map s.ranks (at_place p) ∙ h.count;
      each = all_map (IsRankOf code n) (IsRankOf code n) (at_place p) (λ x r. rank_same code n x (at_place p x) refl refl refl refl refl r) s.ranks h.each;
      at_one = all_at p s.ranks;
      executed = all_map (λ (x : Store). x.executed ≡ e.executed) (λ (x : Store). x.executed ≡ e.executed) (at_place p) (λ x r. r) s.ranks h.executed;
      logged = all_map LogsExecuted LogsExecuted (at_place p) (λ x r. r) s.ranks h.logged;
      bad = h.bad;
      env = h.env;
      lays = words_layout code nothing s.ranks (map (at_place p) s.ranks) h.env h.env refl zips h.lays refl (λ w value is. word_stays code nothing s.ranks (map (at_place p) s.ranks) h.env zips h.lays w value tt is);
      is = h.is;
    }

jump_price : (n target : ℕ) (unless : Option ℕ) → 2 * price n (Jumps target unless) ≤ 2 * n + 14
jump_price n target unless = omega arith

-- ---- what is asked besides the steps

jumps_carry : (code : Code) (tables : Tables) (room : Room) (n : ℕ) (orders : List Order) → CarriesJumps code tables (price n) (2 * n + 14) (AreSound code tables n) (HasLogged orders) (StandFor code room n)
jumps_carry code tables room n orders =
    record {
      some = some_ranks code room n;
      jumped = λ s e target unless h. jumped_stands code room n target unless s e h;
      keeps = λ s e target h is. record { each = h.each; agree = agree_at code tables (instr.Jump target None) s.ranks is (ahead target s.ranks (some_ranks code room n s e h)) };
      ended = λ s e h is. record { each = h.each; agree = agree_at code tables instr.Halt s.ranks is tt };
      cheap = jump_price n;
      earlier = λ k s h. logged_earlier code tables orders k s h;
    }
  where
    ahead : (target : ℕ) (xs : List Store) → 1 ≤ length xs → All (λ (x : Store). next_place target None x.words x.position ≡ place_of_first target None xs) xs
    ahead target [] some k d lt = absurd (omega (arith, some))
    ahead target (x ∷ xs) some k d lt = refl

look_holds : (slots : List Slot) (words : ℕ) (dists : List Dist) (code : Code) (tables : Tables) (n w : ℕ) (orders : List Order) → w < words
    → Looks (part_doing slots dists tables.list orders) code (AreSound code tables n) (StandFor code (room_of slots words) n) w
look_holds slots words dists code tables n w orders lt =
    let room = room_of slots words in
    record {
      goes = λ s e target h. first_goes w target (e.words w) s.ranks (some_ranks code room n s e h) (stand_word code room n w s e lt h);
      keeps = λ s e target h is. record {
        each = h.each;
        agree = agree_at code tables (instr.Jump target (Some w)) s.ranks is (each_goes w target (e.words w) s.ranks (some_ranks code room n s e h) (stand_word code room n w s e lt h) h.at_one);
      };
    }

looks_hold : (slots : List Slot) (words : ℕ) (dists : List Dist) (code : Code) (tables : Tables) (n : ℕ) (orders : List Order) (ws : List ℕ) → AllByRecursion (λ w. w < words) ws
    → AllByRecursion (Looks (part_doing slots dists tables.list orders) code (AreSound code tables n) (StandFor code (room_of slots words) n)) ws
looks_hold slots words dists code tables n orders [] h = tt
looks_hold slots words dists code tables n orders (w ∷ ws) h = (look_holds slots words dists code tables n w orders h.0, looks_hold slots words dists code tables n orders ws h.1)

-- ---- the run

pub ranks_run_parts : RanksRunParts
unfolding parts_mean code_list
ranks_run_parts slots words p dists code tables ranks orders fuel k some list looks carried logged enough =
    let room = room_of slots words in
    let d = part_doing slots dists tables.list orders in
    whole_comes Part Env d (part_code room slots (placed.dist_at dists)) code tables (price ranks) (2 * ranks + 14) (AreSound code tables ranks) (HasLogged orders) (StandFor code room ranks) p unset fuel k (first_state code ranks)
    (record { each = carried; looks = looks_hold slots words dists code tables ranks orders (tests p) looks; jumps = jumps_carry code tables room ranks orders }) list (first_place code ranks some) (first_out code ranks) (first_stands code room ranks some) enough logged

-- ---- its end

over_or_limit : (r : Reached) → (IsLimit r → ⊥) → IsOver r
over_or_limit (Ended s) h = tt
over_or_limit (Trapped t s) h = tt
over_or_limit (Limit s) h = absurd (h tt)

-- more fuel is no more work where a run has stopped
pub same_work : {limit more : ℕ} {less greater : Ran Env ℕ} → Further limit more less greater → HasStopped less → work_of greater ≡ work_of less
same_work (fuel.went le) h = refl
same_work (fuel.trapped le) h = refl
same_work (fuel.spent grown) h = absurd h
same_work fuel.mistaken h = absurd h

pub ranks_stop : RanksStop
unfolding parts_mean
ranks_stop slots words p dists code tables ranks orders turns k some list looks carried logged stops enough =
    let d = part_doing slots dists tables.list orders in
    let more : k ≤ turns + k = omega arith in
    let comes = ranks_run_parts slots words p dists code tables ranks orders (turns + k) k some list looks carried logged more in
    let same : work_of (programs.run d p (start unset (turns + k))) ≡ work_of (programs.run d p (start unset turns)) = same_work (run_further k d p (start unset turns)) stops in
    over_or_limit (lockstep_of code tables ranks k) (λ limit. let still = comes.more limit in omega (arith, still, same, enough))

own_orders : (code : Code) (tables : Tables) (ranks k : ℕ) → HasLogged (kept_orders (state_of (lockstep_of code tables ranks k)).ranks).list (state_of (lockstep_of code tables ranks k))
own_orders code tables ranks k last executed number some le plain = refl

pub ranks_agree : RanksAgree
ranks_agree slots words p dists code tables ranks some list looks carried k =
    let orders = (kept_orders (state_of (lockstep_of code tables ranks k)).ranks).list in
    let least : k ≤ k = omega arith in
    (ranks_run_parts slots words p dists code tables ranks orders k k some list looks (carried orders) (own_orders code tables ranks k) least).keeps
