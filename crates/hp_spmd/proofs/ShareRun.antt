-- In a lockstep run each rank's arrays are shared as the code says.
use Rattle.std.proofs.Common.{◌≡◌, refl, sym, subst, arith, ℕ, zero, suc, ◌+◌, ◌<◌, ◌≤◌, List, [], ◌∷◌, length, map}
use Rattle.std.specs.Bool.{IsTrue}
use Rattle.std.specs.List.{All as Each, AllByRecursion as EachInTurn, range_with_len}
use Rattle.std.proofs.lemmas.Bool.{and_parts}
use Rattle.std.proofs.lemmas.List.Elements.{All-from_recursion, All-weaker}
use Rattle.hp_word.specs.declared.table.Tables.{Tables}
use Rattle.hp_spmd.specs.declared.code.Code.{Code}
use Rattle.hp_lattice.specs.declared.dist.Dist.{Dist}
use Rattle.hp_spmd.specs.declared.instr.Instr.{Instr}
use Rattle.hp_spmd.specs.declared.store.Store.{Store}
use Rattle.hp_spmd.specs.Layout.{AreShared, Share}
use Rattle.hp_spmd.specs.Kinds.{Kind, Computes, Jumps, Packs, Posts, Takes, PostsRoot, TakesRoot, Unpacks, Writes, Halts, kind_of}
use Rattle.hp_spmd.specs.Local.{local_next}
use Rattle.hp_spmd.specs.Next.{Next, Goes, Traps, at_place, moved}
use Rattle.hp_spmd.specs.Lockstep.{State, Step, Ends, Trips, Steps, Together, All, One, with_first, joined_to, together, delivered, delivered_to_root, of_together, place_of_first, step, step_by, position_of, at_limit, go_on, run_by, Reached, state_of, first_state, lockstep_of}
use Rattle.hp_spmd.specs.Names.{instr_within, names_within}
use Rattle.hp_spmd.specs.Spread.{SpreadsWell, Spreads, IsPlaced}
use Rattle.hp_spmd.specs.Store.{instr_at, dealt, first_store}
use Rattle.hp_spmd.proofs.ShareCuts.{dealt_shared}
use Rattle.hp_spmd.proofs.ShareNext.{OnNext, next_placed}

-- ---- the first store

first_pieces_shared : (number ranks : ℕ) (dists : List Dist) → 1 ≤ ranks → number < ranks → AreShared dists ranks number (map (λ dist. dealt dist number ranks []) dists)
first_pieces_shared number ranks [] some below = tt
first_pieces_shared number ranks (d ∷ ds) some below = (dealt_shared d number ranks [] some below, first_pieces_shared number ranks ds some below)

-- each rank begins with its arrays shared
pub first_shared : (code : Code) (number ranks : ℕ) → 1 ≤ ranks → number < ranks → Share code (first_store code number ranks)
unfolding first_store
first_shared code number ranks some below = first_pieces_shared number ranks code.arrays some below

pub first_placed : (code : Code) (number ranks : ℕ) → 1 ≤ ranks → number < ranks → IsPlaced code ranks (first_store code number ranks)
unfolding first_store
first_placed code number ranks some below =
    record { ranks_are = refl; number_below = below; shared = first_shared code number ranks some below }

first_all_placed : (code : Code) (ranks from n : ℕ) → 1 ≤ ranks → from + n ≤ ranks → EachInTurn (IsPlaced code ranks) (map (λ r. first_store code r ranks) (range_with_len from n))
first_all_placed code ranks from zero some h = tt
first_all_placed code ranks from (suc n) some h =
    let below : from < ranks = omega arith in
    let rest : from + 1 + n ≤ ranks = omega arith in
    (first_placed code from ranks some below, first_all_placed code ranks (from + 1) n some rest)

-- ---- what all ranks keep in a step they keep in a run

-- each rank of the next state, if there is one, is such
abbrev pub OnStep : (Store → Type 0) → Step → Type 0
OnStep P Ends = Unit {0}
OnStep P (Trips t) = Unit {0}
OnStep P (Steps s) = EachInTurn P s.ranks

abbrev OnTogether : (Store → Type 0) → Together → Type 0
OnTogether P (All xs) = EachInTurn P xs
OnTogether P (One t) = Unit {0}

with_first_keeps : (P : Store → Type 0) (x : Store) (rest : Together) → P x → OnTogether P rest → OnTogether P (with_first x rest)
with_first_keeps P x (All xs) h hs = (h, hs)
with_first_keeps P x (One t) h hs = tt

joined_to_keeps : (P : Store → Type 0) (next : Next) (rest : Together) → OnNext P next → OnTogether P rest → OnTogether P (joined_to next rest)
joined_to_keeps P (Goes x) rest h hs = with_first_keeps P x rest h hs
joined_to_keeps P (Traps t) rest h hs = tt

together_keeps : (P : Store → Type 0) (f : Store → Next) → ((x : Store) → P x → OnNext P (f x)) → (xs : List Store) → EachInTurn P xs → OnTogether P (together f xs)
together_keeps P f h [] each = tt
together_keeps P f h (x ∷ xs) each = joined_to_keeps P (f x) (together f xs) (h x each.0) (together_keeps P f h xs each.1)

of_together_keeps : (P : Store → Type 0) (t : Together) (out : List ℕ) → OnTogether P t → OnStep P (of_together t out)
of_together_keeps P (All xs) out h = h
of_together_keeps P (One t) out h = tt

map_keeps : (P : Store → Type 0) (f : Store → Store) → ((x : Store) → P x → P (f x)) → (xs : List Store) → EachInTurn P xs → EachInTurn P (map f xs)
map_keeps P f h [] each = tt
map_keeps P f h (x ∷ xs) each = (h x each.0, map_keeps P f h xs each.1)

at_limit_same : (t : Step) (s : State) → state_of (at_limit t s) ≡ s
at_limit_same Ends s = refl
at_limit_same (Trips t) s = refl
at_limit_same (Steps s2) s = refl

go_on_keeps : (P : Store → Type 0) (t : Step) (s : State) (rest : State → Reached) → ((s2 : State) → EachInTurn P s2.ranks → EachInTurn P (state_of (rest s2)).ranks) → EachInTurn P s.ranks → OnStep P t → EachInTurn P (state_of (go_on t s rest)).ranks
go_on_keeps P Ends s rest h here next = here
go_on_keeps P (Trips t) s rest h here next = here
go_on_keeps P (Steps s2) s rest h here next = h s2 next

-- a fact on each rank that each step keeps holds where a run came to
pub run_keeps : (P : Store → Type 0) (f : State → Step) → ((s : State) → EachInTurn P s.ranks → OnStep P (f s)) → (k : ℕ) (s : State) → EachInTurn P s.ranks → EachInTurn P (state_of (run_by f k s)).ranks
unfolding run_by
run_keeps P f h zero s here = subst (λ s2. EachInTurn P s2.ranks) (sym (at_limit_same (f s) s)) here
run_keeps P f h (suc k) s here = go_on_keeps P (f s) s (run_by f k) (run_keeps P f h k) here (h s here)

-- ---- the steps of a code

moved_placed : (code : Code) (ranks : ℕ) (x : Store) → IsPlaced code ranks x → IsPlaced code ranks (moved x)
moved_placed code ranks x h = record { ranks_are = h.ranks_are; number_below = h.number_below; shared = h.shared }

delivered_placed : (code : Code) (ranks : ℕ) (all : List Store) (x : Store) → IsPlaced code ranks x → IsPlaced code ranks (delivered all x)
delivered_placed code ranks all x h = record { ranks_are = h.ranks_are; number_below = h.number_below; shared = h.shared }

root_placed : (code : Code) (ranks : ℕ) (all : List Store) (x : Store) → IsPlaced code ranks x → IsPlaced code ranks (delivered_to_root all x)
root_placed code ranks all x h = record { ranks_are = h.ranks_are; number_below = h.number_below; shared = h.shared }

at_place_placed : (code : Code) (ranks place : ℕ) (x : Store) → IsPlaced code ranks x → IsPlaced code ranks (at_place place x)
at_place_placed code ranks place x h = record { ranks_are = h.ranks_are; number_below = h.number_below; shared = h.shared }

kind_placed : (code : Code) (ranks : ℕ) (kind : Kind) (f : Store → Next) (s : State) → ((x : Store) → IsPlaced code ranks x → OnNext (IsPlaced code ranks) (f x)) → EachInTurn (IsPlaced code ranks) s.ranks → OnStep (IsPlaced code ranks) (step_by kind f s)
kind_placed code ranks Computes f s h each = of_together_keeps (IsPlaced code ranks) (together f s.ranks) s.out (together_keeps (IsPlaced code ranks) f h s.ranks each)
kind_placed code ranks (Jumps target unless) f s h each =
    let place = place_of_first target unless s.ranks in
    map_keeps (IsPlaced code ranks) (at_place place) (at_place_placed code ranks place) s.ranks each
kind_placed code ranks (Packs what) f s h each = of_together_keeps (IsPlaced code ranks) (together f s.ranks) s.out (together_keeps (IsPlaced code ranks) f h s.ranks each)
kind_placed code ranks Posts f s h each = map_keeps (IsPlaced code ranks) (delivered s.ranks) (delivered_placed code ranks s.ranks) s.ranks each
kind_placed code ranks Takes f s h each = map_keeps (IsPlaced code ranks) moved (moved_placed code ranks) s.ranks each
kind_placed code ranks PostsRoot f s h each = map_keeps (IsPlaced code ranks) (delivered_to_root s.ranks) (root_placed code ranks s.ranks) s.ranks each
kind_placed code ranks TakesRoot f s h each = map_keeps (IsPlaced code ranks) moved (moved_placed code ranks) s.ranks each
kind_placed code ranks (Unpacks what) f s h each = of_together_keeps (IsPlaced code ranks) (together f s.ranks) s.out (together_keeps (IsPlaced code ranks) f h s.ranks each)
kind_placed code ranks (Writes output) f s h each = map_keeps (IsPlaced code ranks) moved (moved_placed code ranks) s.ranks each
kind_placed code ranks Halts f s h each = tt

-- what the list of instructions meets, the instruction at each position meets; past the end that is Halt
pub spreads_at : (dists : List Dist) (list : List Instr) (k : ℕ) → Spreads dists list → SpreadsWell dists (instr_at list k)
spreads_at dists [] k h = tt
spreads_at dists (i ∷ is) zero h = h.0
spreads_at dists (i ∷ is) (suc k) h = spreads_at dists is k h.1

pub within_at : (words arrays loose : ℕ) (list : List Instr) (k : ℕ) → IsTrue (names_within words arrays loose list) → IsTrue (instr_within words arrays loose (instr_at list k))
within_at words arrays loose [] k h = refl
within_at words arrays loose (i ∷ is) zero h = (and_parts (instr_within words arrays loose i) (names_within words arrays loose is) h).0
within_at words arrays loose (i ∷ is) (suc k) h = within_at words arrays loose is k (and_parts (instr_within words arrays loose i) (names_within words arrays loose is) h).1

-- each step keeps the arrays of all ranks shared
pub step_placed : (code : Code) (tables : Tables) (ranks : ℕ) → 1 ≤ ranks → Spreads code.arrays code.list → (s : State) → EachInTurn (IsPlaced code ranks) s.ranks → OnStep (IsPlaced code ranks) (step code tables s)
unfolding step
step_placed code tables ranks some spreads s each =
    let k = position_of s.ranks in
    let i = instr_at code.list k in
    let well = spreads_at code.arrays code.list k spreads in
    let within = within_at code.words (length code.arrays) code.loose code.list k code.within in
    kind_placed code ranks (kind_of i) (local_next code.arrays tables i) s (λ x h. next_placed code tables ranks i x some well within h) each

first_state_placed : (code : Code) (ranks : ℕ) → 1 ≤ ranks → EachInTurn (IsPlaced code ranks) (first_state code ranks).ranks
unfolding first_state
first_state_placed code ranks some = let all : 0 + ranks ≤ ranks = omega arith in first_all_placed code ranks 0 ranks some all

-- in a run each store is that of a rank among all, with its arrays shared
pub run_placed : (code : Code) (tables : Tables) (ranks limit : ℕ) → 1 ≤ ranks → Spreads code.arrays code.list → Each (IsPlaced code ranks) (state_of (lockstep_of code tables ranks limit)).ranks
run_placed code tables ranks limit some spreads =
    let reached = state_of (lockstep_of code tables ranks limit) in
    All-from_recursion (IsPlaced code ranks) reached.ranks
    (run_keeps (IsPlaced code ranks) (step code tables) (step_placed code tables ranks some spreads) limit (first_state code ranks) (first_state_placed code ranks some))

-- the same of the sharing alone
pub run_shared : (code : Code) (tables : Tables) (ranks limit : ℕ) → 1 ≤ ranks → ranks ≤ 32 → Spreads code.arrays code.list → Each (Share code) (state_of (lockstep_of code tables ranks limit)).ranks
run_shared code tables ranks limit some few spreads =
    let reached = state_of (lockstep_of code tables ranks limit) in
    All-weaker (IsPlaced code ranks) (Share code) (λ x h. h.shared) reached.ranks (run_placed code tables ranks limit some spreads)
