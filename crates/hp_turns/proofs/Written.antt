-- What was written belongs to the orders that the ranks have logged.
use Rattle.std.proofs.Common.{◌≡◌, ◌∙◌, refl, sym, subst, ap, arith, ℕ, zero, suc, ◌<◌, ◌≤◌, List, ◌++◌, length, map, get_or, ltb, ltb-true, ltb-false, Bool, true, false, Some, slice_get, ◌⊎◌, inl, inr}
use Rattle.std.proofs.lemmas.List.{length-map}
use Rattle.hp_word.specs.declared.table.Tables.{Tables}
use Rattle.hp_word.specs.Runs.{IsFrontOf}
use Rattle.hp_network.specs.Network.{Room}
use Rattle.hp_network.proofs.Worlds.{World, IsFront}
use Rattle.hp_network.proofs.Joins.{Reaches, reaches_same, one_past}
use Rattle.hp_network.proofs.Ends.{get_at}
use Rattle.hp_network.proofs.Own.{own_there}
use Rattle.hp_network.proofs.States.{Tracks}
use Rattle.hp_spmd.specs.declared.code.Code.{Code}
use Rattle.hp_spmd.specs.declared.instr.Output.{Output}
use Rattle.hp_spmd.specs.declared.store.Store.{Store}
use Rattle.hp_spmd.specs.Exchanges.{RootTaken, wants}
use Rattle.hp_spmd.specs.Kinds.{Kind, Computes, Jumps, Packs, Posts, Takes, PostsRoot, TakesRoot, Unpacks, Writes, Halts}
use Rattle.hp_spmd.specs.Lockstep.{State, Step, Steps, Trips, Ends, Together, One as OneTrap, together, of_together, text_of, step, step_by, run_by, state_of, at_limit, go_on, first_state, lockstep_of}
use Rattle.hp_spmd.specs.Lockstep as lock
use Rattle.hp_spmd.specs.Next.{Next, moved}
use Rattle.hp_turns.specs.Apart.{MayRunApart, LogGrows, HaveExecuted, OrdersAgree, LogsAsLockstep}
use Rattle.hp_turns.specs.Turns.{machine, run}
use Rattle.hp_turns.proofs.Acts.{kind_at, next_at, IsRankOf}
use Rattle.hp_turns.proofs.Agree.{orders_agree}
use Rattle.hp_turns.proofs.Clauses.{always_placed, writes_front}
use Rattle.hp_turns.proofs.Courses.{Comes, limit_same, here_same, step_is}
use Rattle.hp_turns.proofs.First.{first_world, first_listed, first_count, first_moves}
use Rattle.hp_turns.proofs.Lags.{Pend}
use Rattle.hp_turns.proofs.Logs.{Grown, grown_same, grown_next}
use Rattle.hp_turns.proofs.Over.{lag_log}
use Rattle.hp_turns.proofs.Past.{log_same}
use Rattle.hp_turns.proofs.Scenes.{tracks_of, comes_of, comes_there}
use Rattle.hp_turns.proofs.Stages.{Held, get_map}
use Rattle.hp_turns.proofs.Tied.{Plain, plain_at}

-- ---- one instruction more

-- the state after a step, or where there is none
abbrev stepped : Step → State → State
stepped Ends s = s
stepped (Trips t) s = s
stepped (Steps u) s = u

run_next : (f : State → Step) (k : ℕ) (s : State) → state_of (run_by f (suc k) s) ≡ stepped (f (state_of (run_by f k s))) (state_of (run_by f k s))
unfolding run_by
run_next f zero s = first (f s) ∙ ap (λ z. stepped (f z) z) (sym (limit_same (f s) s))
  where
    first : (t : Step) → state_of (go_on t s (run_by f 0)) ≡ stepped t s
    first Ends = refl
    first (Trips t) = refl
    first (Steps u) = limit_same (f u) u
run_next f (suc k) s = by (f s) refl (λ u. run_next f k u)
  where
    by : (t : Step) → f s ≡ t → ((u : State) → state_of (run_by f (suc k) u) ≡ stepped (f (state_of (run_by f k u))) (state_of (run_by f k u)))
        → state_of (go_on t s (run_by f (suc k))) ≡ stepped (f (state_of (go_on t s (run_by f k)))) (state_of (go_on t s (run_by f k)))
    by Ends e more = ap (λ t. stepped t s) (sym e)
    by (Trips t) e more = ap (λ z. stepped z s) (sym e)
    by (Steps u) e more = more u

-- only a Write writes
abbrev Silent : Kind → (Store → Next) → State → Type 0
Silent k f s = ((output : Output) × (k ≡ Writes output)) ⊎ ((stepped (step_by k f s) s).out ≡ s.out)

silent : (k : Kind) (f : Store → Next) (s : State) → Silent k f s
silent k f s = by k
  where
    together_out : (t : Together) → (stepped (of_together t s.out) s).out ≡ s.out
    together_out (lock.All xs) = refl
    together_out (OneTrap t) = refl

    by : (k : Kind) → Silent k f s
    by Computes = inr (together_out (together f s.ranks))
    by (Jumps target unless) = inr refl
    by (Packs what) = inr (together_out (together f s.ranks))
    by Posts = inr refl
    by Takes = inr refl
    by PostsRoot = inr refl
    by TakesRoot = inr refl
    by (Unpacks what) = inr (together_out (together f s.ranks))
    by (Writes output) = inl (output, refl)
    by Halts = inr refl

-- ---- the ranks at a Write, and at the beginning

moved_logs : (x y : Store) → LogGrows x y → LogGrows (moved x) y
moved_logs x y g = record { rest = g.rest; log = g.log; later = g.later }

-- a rank on its way from where it is in the one world to where it is in the other
pub forward : (code : Code) (tables : Tables) (room : Room) (n : ℕ) → MayRunApart code tables n → (v x : World Store) → Reaches (machine code tables room) n (first_world code n) v → Reaches (machine code tables room) n (first_world code n) x → (r : ℕ) → r < n → (v r).moves ≤ (x r).moves → LogGrows (v r).now (x r).now
forward code tables room n p v x there at r lt le =
    (own_there (machine code tables room) n (Grown (v r).now) (first_world code n) v x r
    (λ z z_at few g. grown_next code tables room n (v r).now (z r).now p.keeps (always_placed code tables room n p (x r).moves z z_at r lt few) g) there at le (grown_same (v r).now)).logs

pub listed_logs : (xs ys : List Store) (r : ℕ) (d a b : Store) → slice_get xs r ≡ Some a → slice_get ys r ≡ Some b → LogGrows a b → LogGrows (get_or xs r d) (get_or ys r d)
listed_logs xs ys r d a b p q g = subst (λ z. LogGrows z (get_or ys r d)) (sym (get_at xs r d a p)) (subst (LogGrows a) (sym (get_at ys r d b q)) g)

-- where the lockstep is after so many instructions
abbrev place_of : Code → Tables → ℕ → ℕ → State
place_of code tables n k = state_of (lockstep_of code tables n k)

found : (code : Code) (tables : Tables) (room : Room) (n : ℕ) (turns : List ℕ) (k : ℕ) (s : State) → s ≡ place_of code tables n k → k ≤ length turns → length s.ranks ≡ n → IsFrontOf (run code tables room n turns).out s.out
    → ((r : ℕ) (d : Store) → r < n → LogGrows (get_or s.ranks r d) (get_or (run code tables room n turns).ranks r d)) → LogsAsLockstep code tables room n turns
found code tables room n turns k s e le count front logs =
    let end = run code tables room n turns in
    let apart = (tracks_of code tables room n turns).is.count in
    record {
      limit = k;
      least = le;
      count = ap (λ (z : State). length z.ranks) (sym e) ∙ count;
      count_apart = apart;
      out = subst (λ (z : State). IsFrontOf end.out z.out) e front;
      logs = subst (λ (z : State). (r : ℕ) (d : Store) → r < n → LogGrows (get_or z.ranks r d) (get_or end.ranks r d)) e logs;
      orders = subst (λ (z : State). (last : ℕ) → HaveExecuted last z.ranks → OrdersAgree last z.ranks end.ranks) e (orders_agree n s.ranks end.ranks count apart logs);
    }

first_found : (code : Code) (tables : Tables) (room : Room) (n : ℕ) (turns : List ℕ) → MayRunApart code tables n → IsFrontOf (run code tables room n turns).out (place_of code tables n 0).out → LogsAsLockstep code tables room n turns
first_found code tables room n turns p front =
    let m = machine code tables room in
    let o = first_world code n in
    let s = first_state code n in
    let t = tracks_of code tables room n turns in
    let same : place_of code tables n 0 ≡ s = here_same code tables s in
    found code tables room n turns 0 s (sym same) (omega arith) (first_count code n) (subst (λ (z : State). IsFrontOf (run code tables room n turns).out z.out) same front)
    (λ r d lr.
    listed_logs s.ranks (run code tables room n turns).ranks r d (o r).now (t.at r).now (first_listed code n r lr) (t.is.ranks r lr)
    (forward code tables room n p o t.at (reaches_same m n o) t.there r lr (let z = first_moves code n r in omega (arith, z))))

-- at a Write that rank 0 has done each rank has the log of the lockstep, or it and later orders
write_found : (code : Code) (tables : Tables) (room : Room) (n : ℕ) (turns : List ℕ) (p : MayRunApart code tables n) (k : ℕ) (output : Output) → suc k ≤ length turns → (held : Held code tables n (place_of code tables n k) (comes_of code tables room n p k).world) → kind_at code held.at.pos ≡ Writes output
    → ((comes_of code tables room n p k).world 0).moves ≤ ((tracks_of code tables room n turns).at 0).moves → IsFrontOf (run code tables room n turns).out (place_of code tables n (suc k)).out → LogsAsLockstep code tables room n turns
write_found code tables room n turns p k output le held is ahead front =
    found code tables room n turns (suc k) next (sym same) le (length-map s.ranks moved ∙ held.at.count) (subst (λ (z : State). IsFrontOf (run code tables room n turns).out z.out) same front)
    (λ r d lr.
    listed_logs next.ranks (run code tables room n turns).ranks r d (moved (v r).now) (x r).now (get_map moved s.ranks r (v r).now (plain r lr).store) (t.is.ranks r lr)
    (moved_logs (v r).now (x r).now (by r lr (ltb (x r).moves (v r).moves) refl)))
  where
    o : World Store
    o = first_world code n

    s : State
    s = place_of code tables n k

    v : World Store
    v = (comes_of code tables room n p k).world

    there : Reaches (machine code tables room) n o v
    there = comes_there code tables room n k (first_state code n) o (comes_of code tables room n p k)

    t : Tracks (machine code tables room) n (IsRankOf n) o (length turns) (run code tables room n turns)
    t = tracks_of code tables room n turns

    x : World Store
    x = t.at

    next : State
    next = lock.state (map moved s.ranks) (s.out ++ text_of output s.ranks)

    same : place_of code tables n (suc k) ≡ next
    same =
        run_next (step code tables) k (first_state code n) ∙ ap (λ u. stepped u s) (step_is code tables n s v held)
        ∙ ap (λ j. stepped (step_by j (next_at code tables held.at.pos) s) s) is

    plain : (r : ℕ) → r < n → Plain n s v r
    plain = plain_at code n s v held.at RootTaken (ap wants is) (λ r. refl)

    zero_lt : 0 < n
    zero_lt = let h = p.some in omega (arith, h)

    none : (r : ℕ) → r < n → Pend 0 (kind_at code (v r).now.position) (v r).now → ⊥
    none r lr pend = subst (λ j. Pend 0 j (v r).now) (ap (kind_at code) (held.at.ranks r lr).on.position_is ∙ is) pend

    by : (r : ℕ) → r < n → (b : Bool) → ltb (x r).moves (v r).moves ≡ b → LogGrows (v r).now (x r).now
    by r lr true q = log_same (v r).now (x r).now (sym (lag_log code tables room n p x v t.there there t.is.sound 0 r zero_lt lr ((plain 0 zero_lt).empty r lr) (none r lr) ahead (ltb-true (x r).moves (v r).moves q)))
    by r lr false q = forward code tables room n p v x there t.there r lr (let h = ltb-false (x r).moves (v r).moves q in omega (arith, h))

-- back to the last Write that rank 0 has done, or to the beginning
seek : (code : Code) (tables : Tables) (room : Room) (n : ℕ) (turns : List ℕ) (p : MayRunApart code tables n) (k : ℕ) → k ≤ length turns → IsFrontOf (run code tables room n turns).out (place_of code tables n k).out → LogsAsLockstep code tables room n turns
seek code tables room n turns p zero le front = first_found code tables room n turns p front
seek code tables room n turns p (suc k) le front =
    by (silent (kind_at code c.held.at.pos) (next_at code tables c.held.at.pos) s) (λ h. seek code tables room n turns p k (omega (arith, le)) h)
  where
    o : World Store
    o = first_world code n

    s : State
    s = place_of code tables n k

    c : Comes code tables room n k (first_state code n) o
    c = comes_of code tables room n p k

    out : List ℕ
    out = (run code tables room n turns).out

    t : Tracks (machine code tables room) n (IsRankOf n) o (length turns) (run code tables room n turns)
    t = tracks_of code tables room n turns

    same : place_of code tables n (suc k) ≡ stepped (step_by (kind_at code c.held.at.pos) (next_at code tables c.held.at.pos) s) s
    same = run_next (step code tables) k (first_state code n) ∙ ap (λ u. stepped u s) (step_is code tables n s c.world c.held)

    before : (t.at 0).moves ≤ (c.world 0).moves → IsFrontOf out s.out
    before le =
        subst (λ l. IsFrontOf l s.out) (sym t.is.out)
        (subst (IsFront (t.at 0).wrote) (sym c.held.at.out) (one_past (machine code tables room) n o t.at c.world 0 t.there (comes_there code tables room n k (first_state code n) o c) le).wrote)

    wrote : (output : Output) → kind_at code c.held.at.pos ≡ Writes output → (b : Bool) → ltb (c.world 0).moves (t.at 0).moves ≡ b → (IsFrontOf out s.out → LogsAsLockstep code tables room n turns) → LogsAsLockstep code tables room n turns
    wrote output is true q more = write_found code tables room n turns p k output le c.held is (let h = ltb-true (c.world 0).moves (t.at 0).moves q in omega (arith, h)) front
    wrote output is false q more = more (before (let h = ltb-false (c.world 0).moves (t.at 0).moves q in omega (arith, h)))

    by : Silent (kind_at code c.held.at.pos) (next_at code tables c.held.at.pos) s → (IsFrontOf out s.out → LogsAsLockstep code tables room n turns) → LogsAsLockstep code tables room n turns
    by (inl w) more = wrote w.0 w.1 (ltb (c.world 0).moves (t.at 0).moves) refl more
    by (inr e) more = more (subst (IsFrontOf out) (ap (λ (z : State). z.out) same ∙ e) front)

pub logs_with_output : (code : Code) (tables : Tables) (room : Room) (n : ℕ) (turns : List ℕ) → MayRunApart code tables n → LogsAsLockstep code tables room n turns
logs_with_output code tables room n turns p = seek code tables room n turns p (length turns) (omega arith) (writes_front code tables room n turns (length turns) p (omega arith))
