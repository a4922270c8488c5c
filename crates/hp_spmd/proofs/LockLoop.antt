-- A run as a loop over rounds.
use Rattle.std.proofs.Common.{◌≡◌, ◌∙◌, refl, sym, subst, ap, arith, ℕ, suc, ◌+◌, ◌-◌, ◌<◌, ◌≤◌, List, [], ◌∷◌, ◌++◌, length, map, get_or, cond, true, false, ◌⊎◌, ⊎_elim, inl, inr}
use Rattle.std.specs.List.{All as Each, AllZip, range_with_len}
use Rattle.std.proofs.lemmas.List.{length-replicate}
use Rattle.std.proofs.lemmas.List.FromFn.{length-map-range_with_len, get_or-map-range_with_len, map-range_with_len_more}
use Rattle.std.proofs.lemmas.List.Elements.{AllZip-get_or, length_all_zip}
use Rattle.hp_word.specs.declared.place.Place.{Place}
use Rattle.hp_word.specs.declared.place.TrapKind.{TrapKind}
use Rattle.hp_word.specs.declared.table.Tables.{Tables}
use Rattle.hp_word.specs.Lengths.{trap}
use Rattle.hp_spmd.specs.declared.code.Code.{Code}
use Rattle.hp_spmd.specs.declared.instr.Instr.{Instr}
use Rattle.hp_spmd.specs.declared.instr.Instr.TheVariants as instr
use Rattle.hp_spmd.specs.declared.lockstep.LockEnd.{LockEnd}
use Rattle.hp_spmd.specs.declared.lockstep.LockStatus.TheVariants as lock
use Rattle.hp_spmd.specs.declared.lockstep.round.RoundEnd.TheVariants as round
use Rattle.hp_spmd.specs.declared.store.Store.{Store}
use Rattle.hp_spmd.specs.Kinds.{Kind, Computes, Jumps, Packs, Posts, Takes, PostsRoot, TakesRoot, Unpacks, Writes, Halts, kind_of}
use Rattle.hp_spmd.specs.Local.{local_next}
use Rattle.hp_spmd.specs.Lockstep.{State, state, Step, Ends, Trips, Steps, Reached, Ended, Trapped, Limit, Answers, lockstep_of, run, first_state, step, step_by, position_of}
use Rattle.hp_spmd.specs.Names.{is_halt}
use Rattle.hp_spmd.specs.Ranks.{IsRank, AreRanks, AreTogether, Rounds}
use Rattle.hp_spmd.specs.Store.{first_store, instr_at, no_message}
use Rattle.hp_spmd.proofs.LockFrame.{Kept, KeepsAll, place_after, step_keeps, ranks_go_on, together_at, first_position}
use Rattle.hp_spmd.proofs.LockRun.{IsEnd, IsHalt, run_ends, run_trips, run_steps, run_at_limit, only_halt_ends}

-- what a round's answer tells of the step

round_moved : (t : Step) (before out : List ℕ) (new : List Store) → Rounds t round.Moved before new out → t ≡ Steps (state new out)
round_moved Ends before out new h = absurd h
round_moved (Trips t) before out new h = absurd h
round_moved (Steps s) before out new h = ap (λ xs. Steps (state xs s.out)) (sym h.0) ∙ ap (λ o. Steps (state new o)) (sym h.1)

round_ended : (t : Step) (before out : List ℕ) (new : List Store) → Rounds t round.Ended before new out → (t ≡ Ends) × (out ≡ before)
round_ended Ends before out new h = (refl, h)
round_ended (Trips t) before out new h = absurd h
round_ended (Steps s) before out new h = absurd h

round_trapped : (t : Step) (before out : List ℕ) (new : List Store) (at : Place) (kind : TrapKind) → Rounds t (round.Trapped at kind) before new out
    → (t ≡ Trips (trap at kind)) × (out ≡ before)
round_trapped Ends before out new at kind h = absurd h
round_trapped (Trips t) before out new at kind h = (ap Trips h.0, h.1)
round_trapped (Steps s) before out new at kind h = absurd h

-- ranks that are at some position are at that of the first
together_is : (p : ℕ) (xs : List Store) → 1 ≤ length xs → AreRanks p xs → AreTogether xs
together_is p [] some h = absurd (omega (arith, some))
together_is p (x ∷ xs) some h = subst (λ q. AreRanks q (x ∷ xs)) (sym (h 0 x some).position_is) h

-- each rank can execute so many joins and aggregates more, up to this number of them
abbrev pub Rooms : (most left : ℕ) → List Store → Type 0
Rooms most left xs = (k : ℕ) (d : Store) → k < length xs → (get_or xs k d).executed + left ≤ most

-- what is left to run leads to the same as the whole; an instruction is one join or aggregate at most
pub record Going (code : Code) (tables : Tables) (ranks most : ℕ) (whole : Reached) (left : ℕ) (xs : List Store) (out : List ℕ) : Type 0 where
  pub count : length xs ≡ ranks
  pub room : Rooms most left xs
  pub ranks_are : AreTogether xs
  pub same : run code tables left (state xs out) ≡ whole

pub going_first : (code : Code) (tables : Tables) (most limit : ℕ) (xs : List Store) (out : List ℕ) → limit ≤ most → AreTogether xs → Each (λ x. x.executed ≡ 0) xs → out ≡ []
    → Going code tables (length xs) most (run code tables limit (state xs [])) limit xs out
going_first code tables most limit xs out few together none e =
    record { count = refl; room = λ k d l. let zero = none k d l in omega (arith, zero, few); ranks_are = together; same = ap (λ o. run code tables limit (state xs o)) e }

-- the stores of one rank more
pub first_more : (code : Code) (ranks number : ℕ) (xs : List Store) (x : Store) → xs ≡ map (λ r. first_store code r ranks) (range_with_len 0 number)
    → x ≡ first_store code number ranks → xs ++ x ∷ [] ≡ map (λ r. first_store code r ranks) (range_with_len 0 (number + 1))
first_more code ranks number xs x e first =
    let from : 0 + number ≡ number = omega arith in
    ap (λ l. l ++ x ∷ []) e
    ∙ ap (λ y. map (λ r. first_store code r ranks) (range_with_len 0 number) ++ y ∷ []) first
    ∙ sym (map-range_with_len_more (λ r. first_store code r ranks) 0 number number from)

first_rank : (code : Code) (ranks k : ℕ) → IsRank ranks 0 k (first_store code k ranks)
unfolding first_store
first_rank code ranks k =
    record { number_is = refl; ranks_are = refl; position_is = refl; outbox_has = length-replicate ranks no_message }

first_is : (code : Code) (ranks : ℕ) → state (map (λ r. first_store code r ranks) (range_with_len 0 ranks)) [] ≡ first_state code ranks
unfolding first_state
first_is code ranks = refl

-- the first stores
pub first_together : (code : Code) (ranks : ℕ) (xs : List Store) → 1 ≤ ranks → xs ≡ map (λ r. first_store code r ranks) (range_with_len 0 ranks)
    → AreTogether xs × (length xs ≡ ranks)
first_together code ranks xs some xs_is =
    let f : ℕ → Store = λ r. first_store code r ranks in
    let n : length (map f (range_with_len 0 ranks)) ≡ ranks = length-map-range_with_len f 0 ranks in
    let count : length xs ≡ ranks = ap length xs_is ∙ n in
    let some' : 1 ≤ length xs = omega (arith, some, count) in
    let each : AreRanks 0 xs =
    λ k d l.
    let l' : k < ranks = omega (arith, l, count) in
    let k' : 0 + k ≡ k = omega arith in
    subst (λ m. IsRank m 0 k (get_or xs k d)) (sym count)
    (subst (λ y. IsRank ranks 0 k y)
    (sym (ap (λ ys. get_or ys k d) xs_is ∙ get_or-map-range_with_len f 0 ranks k k d l' k'))
    (first_rank code ranks k)) in
    (together_is 0 xs some' each, count)

pub first_run : (code : Code) (tables : Tables) (ranks limit : ℕ) (xs : List Store) → xs ≡ map (λ r. first_store code r ranks) (range_with_len 0 ranks)
    → run code tables limit (state xs []) ≡ lockstep_of code tables ranks limit
first_run code tables ranks limit xs e =
    ap (λ ys. run code tables limit (state ys [])) e ∙ ap (λ s. run code tables limit s) (first_is code ranks)

-- no rank has executed anything
pub first_fresh : (code : Code) (ranks : ℕ) (xs : List Store) → xs ≡ map (λ r. first_store code r ranks) (range_with_len 0 ranks) → Each (λ x. x.executed ≡ 0) xs
unfolding first_store
first_fresh code ranks xs xs_is k d l =
    let f : ℕ → Store = λ r. first_store code r ranks in
    let n : length (map f (range_with_len 0 ranks)) ≡ ranks = length-map-range_with_len f 0 ranks in
    let l' : k < ranks = omega (arith, l, ap length xs_is, n) in
    let k' : 0 + k ≡ k = omega arith in
    ap (λ ys. (get_or ys k d).executed) xs_is ∙ ap (λ (x : Store). x.executed) (get_or-map-range_with_len f 0 ranks k k d l' k')

-- there is room for one more before an instruction
pub room_of : (code : Code) (tables : Tables) (ranks most : ℕ) (whole : Reached) (left : ℕ) (xs : List Store) (out : List ℕ) → 0 < left → Going code tables ranks most whole left xs out
    → (k : ℕ) (d : Store) → k < length xs → (get_or xs k d).executed < most
room_of code tables ranks most whole left xs out more h k d l = let room = h.room k d l in omega (arith, room, more)

kept_all : (place : ℕ) (xs : List Store) (t : Step) (s : State) → t ≡ Steps s → KeepsAll place xs t → AllZip (Kept place) xs s.ranks
kept_all place xs t s e h = subst (λ u. KeepsAll place xs u) e h

-- one instruction was done
pub going_on : (code : Code) (tables : Tables) (ranks most : ℕ) (whole : Reached) (left : ℕ) (xs new : List Store) (before out : List ℕ) → 1 ≤ ranks → 0 < left
    → Going code tables ranks most whole left xs before → Rounds (step code tables (state xs before)) round.Moved before new out
    → Going code tables ranks most whole (left - 1) new out
going_on code tables ranks most whole left xs new before out some more h told =
    let steps = round_moved (step code tables (state xs before)) before out new told in
    let place = place_after (kind_of (instr_at code.list (position_of xs))) xs in
    let kept = kept_all place xs (step code tables (state xs before)) (state new out) steps (step_keeps code tables (state xs before) (together_at (position_of xs) xs h.ranks_are)) in
    let some' : 1 ≤ length xs = omega (arith, some, h.count) in
    let count : length new ≡ ranks = sym (length_all_zip (Kept place) xs new kept) ∙ h.count in
    let some2 : 1 ≤ length new = omega (arith, some, count) in
    let left_is : left ≡ suc (left - 1) = omega (arith, more) in
    record {
      count = count;
      room =
          λ k d l.
          let l' : k < length xs = subst (λ n. k < n) (sym (length_all_zip (Kept place) xs new kept)) l in
          let one = (AllZip-get_or (Kept place) xs new k d d kept l').one_more in
          let before = h.room k d l' in
          omega (arith, one, before, more);
      ranks_are = together_is place new some2 (ranks_go_on (position_of xs) place xs new some' h.ranks_are kept);
      same =
          sym (run_steps (step code tables) (left - 1) (state xs before) (state new out) steps)
          ∙ ap (λ k. run code tables k (state xs before)) (sym left_is)
          ∙ h.same;
    }

pub answers_by : (r q : Reached) (end : LockEnd) → q ≡ r → Answers q end → Answers r end
answers_by r q end e h = subst (λ u. Answers u end) e h

-- the code has ended
pub going_ended : (code : Code) (tables : Tables) (ranks most : ℕ) (whole : Reached) (left : ℕ) (xs new : List Store) (before out : List ℕ) (end : LockEnd)
    → Going code tables ranks most whole left xs before → Rounds (step code tables (state xs before)) round.Ended before new out
    → end.status ≡ lock.Ended → end.out.items ≡ out → Answers whole end
going_ended code tables ranks most whole left xs new before out end h told status items =
    let ends = round_ended (step code tables (state xs before)) before out new told in
    answers_by whole (Ended (state xs before)) end
    (sym (run_ends (step code tables) left (state xs before) ends.0) ∙ h.same) (status, items ∙ ends.1)

-- some rank trapped
pub going_trapped : (code : Code) (tables : Tables) (ranks most : ℕ) (whole : Reached) (left : ℕ) (xs new : List Store) (before out : List ℕ) (at : Place) (kind : TrapKind) (end : LockEnd)
    → 0 < left → Going code tables ranks most whole left xs before → Rounds (step code tables (state xs before)) (round.Trapped at kind) before new out
    → end.status ≡ lock.Trapped at kind → end.out.items ≡ out → Answers whole end
going_trapped code tables ranks most whole left xs new before out at kind end more h told status items =
    let trips = round_trapped (step code tables (state xs before)) before out new at kind told in
    let left_is : left ≡ suc (left - 1) = omega (arith, more) in
    answers_by whole (Trapped (trap at kind) (state xs before)) end
    (sym (run_trips (step code tables) (left - 1) (state xs before) (trap at kind) trips.0)
    ∙ ap (λ k. run code tables k (state xs before)) (sym left_is)
    ∙ h.same)
    (status, items ∙ trips.1)

-- ---- at the limit

end_is_halt : (code : Code) (tables : Tables) (s : State) → IsEnd (step code tables s) → IsHalt (kind_of (instr_at code.list (position_of s.ranks)))
unfolding step
end_is_halt code tables s h =
    let i = instr_at code.list (position_of s.ranks) in
    only_halt_ends (kind_of i) (local_next code.arrays tables i) s h

halt_ends : (code : Code) (tables : Tables) (s : State) → instr_at code.list (position_of s.ranks) ≡ instr.Halt → step code tables s ≡ Ends
unfolding step
halt_ends code tables s e = ap (λ i. step_by (kind_of i) (local_next code.arrays tables i) s) e

ended_at : (code : Code) (tables : Tables) (s : State) → instr_at code.list (position_of s.ranks) ≡ instr.Halt → run code tables 0 s ≡ Ended s
ended_at code tables s e = run_ends (step code tables) 0 s (halt_ends code tables s e)

stopped_at : (code : Code) (tables : Tables) (s : State) (i : Instr) → (IsHalt (kind_of i) → ⊥) → instr_at code.list (position_of s.ranks) ≡ i
    → run code tables 0 s ≡ Limit s
stopped_at code tables s i no_halt e =
    run_at_limit (step code tables) s (λ h. no_halt (subst (λ j. IsHalt (kind_of j)) e (end_is_halt code tables s h)))

-- how a run ends that has come to its limit before this instruction
abbrev EndsAt : Reached → State → Instr → Type 0
EndsAt r s i = (end : LockEnd) → end.status ≡ cond (is_halt i) lock.Ended lock.Limit → end.out.items ≡ s.out → Answers r end

limit_answer : (r : Reached) (s : State) (end : LockEnd) → r ≡ Limit s → end.status ≡ lock.Limit → end.out.items ≡ s.out → Answers r end
limit_answer r s end e status items = answers_by r (Limit s) end (sym e) (status, items)

-- an instruction of a shape that does not halt is no Halt
other_kind : (i : Instr) → (IsHalt (kind_of i) → ⊥) → is_halt i ≡ false
other_kind instr.Halt no_halt = absurd (no_halt tt)
other_kind _ no_halt = refl

-- the only instruction that halts
halt_alone : (i : Instr) → IsHalt (kind_of i) → i ≡ instr.Halt
halt_alone instr.Halt h = refl
halt_alone (instr.Post true) h = absurd h
halt_alone (instr.Post false) h = absurd h
halt_alone (instr.Take true) h = absurd h
halt_alone (instr.Take false) h = absurd h
halt_alone _ h = absurd h

decided : (kind : Kind) → IsHalt kind ⊎ (IsHalt kind → ⊥)
decided Computes = inr (λ h. h)
decided (Jumps target unless) = inr (λ h. h)
decided (Packs what) = inr (λ h. h)
decided Posts = inr (λ h. h)
decided Takes = inr (λ h. h)
decided PostsRoot = inr (λ h. h)
decided TakesRoot = inr (λ h. h)
decided (Unpacks what) = inr (λ h. h)
decided (Writes output) = inr (λ h. h)
decided Halts = inl tt

ends_at : (code : Code) (tables : Tables) (s : State) (i : Instr) → instr_at code.list (position_of s.ranks) ≡ i → EndsAt (run code tables 0 s) s i
ends_at code tables s i e end status items =
    ⊎_elim
    (λ h.
    let halt = halt_alone i h in
    answers_by (run code tables 0 s) (Ended s) end (sym (ended_at code tables s (e ∙ halt)))
    (status ∙ ap (λ j. cond (is_halt j) lock.Ended lock.Limit) halt, items))
    (λ h. limit_answer (run code tables 0 s) s end (stopped_at code tables s i h e) (status ∙ ap (λ b. cond b lock.Ended lock.Limit) (other_kind i h)) items)
    (decided (kind_of i))

-- the run has come to its limit
pub going_out : (code : Code) (tables : Tables) (ranks most : ℕ) (whole : Reached) (left at : ℕ) (xs : List Store) (out : List ℕ) (end : LockEnd)
    → left ≤ 0 → Going code tables ranks most whole left xs out → at ≡ position_of xs
    → end.status ≡ cond (is_halt (instr_at code.list at)) lock.Ended lock.Limit → end.out.items ≡ out → Answers whole end
going_out code tables ranks most whole left at xs out end none h here status items =
    let left_is : left ≡ 0 = omega (arith, none) in
    answers_by whole (run code tables 0 (state xs out)) end
    (ap (λ k. run code tables k (state xs out)) (sym left_is) ∙ h.same)
    (ends_at code tables (state xs out) (instr_at code.list at) (ap (λ p. instr_at code.list p) (sym here)) end status items)

pub first_of_going : (code : Code) (tables : Tables) (ranks most : ℕ) (whole : Reached) (left : ℕ) (xs : List Store) (out : List ℕ) (d : Store) → 1 ≤ ranks
    → Going code tables ranks most whole left xs out → (get_or xs 0 d).position ≡ position_of xs
first_of_going code tables ranks most whole left xs out d some h =
    let some' : 1 ≤ length xs = omega (arith, some, h.count) in
    first_position xs d some'
