-- The run in which all ranks take each instruction together.
use Rattle.std.specs.Prelude.{ℕ, zero, suc, ◌≡◌, List, [], ◌∷◌, ◌++◌, map, slice_set, Option}
use Rattle.std.specs.List.{range_with_len}
use Rattle.hp_word.specs.declared.place.Trap.{Trap}
use Rattle.hp_word.specs.declared.table.Message.{Message}
use Rattle.hp_word.specs.declared.table.Tables.{Tables}
use Rattle.hp_spmd.specs.declared.code.Code.{Code}
use Rattle.hp_spmd.specs.declared.instr.Output.{Output}
use Rattle.hp_spmd.specs.declared.lockstep.LockEnd.{LockEnd}
use Rattle.hp_spmd.specs.declared.lockstep.LockStatus.TheVariants as lock
use Rattle.hp_spmd.specs.declared.store.Store.{Store}
use Rattle.hp_spmd.specs.Kinds.{Kind, Computes, Jumps, Packs, Posts, Takes, PostsRoot, TakesRoot, Unpacks, Writes, Halts, kind_of}
use Rattle.hp_spmd.specs.Local.{local_next, next_place}
use Rattle.hp_spmd.specs.Exchange.{written}
use Rattle.hp_spmd.specs.Next.{Next, Goes, Traps, at_place, moved}
use Rattle.hp_spmd.specs.Store.{message_at, no_message, instr_at, first_store}

-- the ranks, from 0 on, and what was written
pub record State : Type 0 where
  pub ranks : List Store
  pub out : List ℕ

abbrev pub state : List Store → List ℕ → State
state ranks out = record { ranks = ranks; out = out }

-- one step: the code has ended, some rank traps, or all ranks have done the instruction
pub data Step : Type 0 where
  Ends : Step
  Trips : Trap → Step
  Steps : State → Step

-- all stores, or the trap of the lowest rank that traps
pub data Together : Type 0 where
  All : List Store → Together
  One : Trap → Together

abbrev pub with_first : Store → Together → Together
with_first x (All xs) = All (x ∷ xs)
with_first x (One t) = One t

abbrev pub joined_to : Next → Together → Together
joined_to (Goes x) rest = with_first x rest
joined_to (Traps t) rest = One t

abbrev pub together : (Store → Next) → List Store → Together
together f [] = All []
together f (x ∷ xs) = joined_to (f x) (together f xs)

-- the store of a rank once each rank has posted its messages: it holds the one from each rank
abbrev pub delivered : List Store → Store → Store
delivered ranks x =
    moved (record x { inbox = map (λ y. message_at y.outbox x.number) ranks; outbox = map (λ m. no_message) x.outbox; sent = 0 })

-- the inbox once each rank has posted its first message to rank 0
abbrev pub root_inbox : List Store → ℕ → List Message → List Message
root_inbox ranks zero inbox = map (λ y. message_at y.outbox 0) ranks
root_inbox ranks (suc rank) inbox = inbox

abbrev pub delivered_to_root : List Store → Store → Store
delivered_to_root ranks x =
    moved (record x { inbox = root_inbox ranks x.number x.inbox; outbox = slice_set x.outbox 0 no_message })

-- what the first rank writes
abbrev pub text_of : Output → List Store → List ℕ
text_of output [] = []
text_of output (x ∷ xs) = written output x.inbox

abbrev pub of_together : Together → List ℕ → Step
of_together (All xs) out = Steps (state xs out)
of_together (One t) out = Trips t

-- where all ranks go from a jump: rank 0's word decides
abbrev pub place_of_first : (target : ℕ) → (unless : Option ℕ) → List Store → ℕ
place_of_first target unless [] = 0
place_of_first target unless (x ∷ xs) = next_place target unless x.words x.position

abbrev pub step_by : Kind → (Store → Next) → State → Step
step_by Computes f s = of_together (together f s.ranks) s.out
step_by (Jumps target unless) f s = Steps (state (map (at_place (place_of_first target unless s.ranks)) s.ranks) s.out)
step_by (Packs what) f s = of_together (together f s.ranks) s.out
step_by Posts f s = Steps (state (map (delivered s.ranks) s.ranks) s.out)
step_by Takes f s = Steps (state (map moved s.ranks) s.out)
step_by PostsRoot f s = Steps (state (map (delivered_to_root s.ranks) s.ranks) s.out)
step_by TakesRoot f s = Steps (state (map moved s.ranks) s.out)
step_by (Unpacks what) f s = of_together (together f s.ranks) s.out
step_by (Writes output) f s = Steps (state (map moved s.ranks) (s.out ++ text_of output s.ranks))
step_by Halts f s = Ends

-- the one position of all ranks
abbrev pub position_of : List Store → ℕ
position_of [] = 0
position_of (x ∷ xs) = x.position

unfoldable pub step : Code → Tables → State → Step
step code tables s =
    let i = instr_at code.list (position_of s.ranks) in
    step_by (kind_of i) (local_next code.arrays tables i) s

-- ---- runs

-- how far a run came, with the state there
pub data Reached : Type 0 where
  Ended : State → Reached
  Trapped : Trap → State → Reached
  Limit : State → Reached

-- the run has ended or trapped, and has not come to its limit
abbrev pub IsOver : Reached → Type 0
IsOver (Ended s) = Unit {0}
IsOver (Trapped t s) = Unit {0}
IsOver (Limit s) = ⊥

-- at the limit: ended where the next instruction is Halt
abbrev pub at_limit : Step → State → Reached
at_limit Ends s = Ended s
at_limit (Trips t) s = Limit s
at_limit (Steps s2) s = Limit s

abbrev pub go_on : Step → State → (State → Reached) → Reached
go_on Ends s rest = Ended s
go_on (Trips t) s rest = Trapped t s
go_on (Steps s2) s rest = rest s2

-- at most k steps
unfoldable pub run_by : (State → Step) → ℕ → State → Reached
run_by f zero s = at_limit (f s) s
run_by f (suc k) s = go_on (f s) s (run_by f k)

abbrev pub run : Code → Tables → ℕ → State → Reached
run code tables k s = run_by (step code tables) k s

-- no output, and each rank's first store
unfoldable pub first_state : Code → ℕ → State
first_state code ranks = state (map (λ r. first_store code r ranks) (range_with_len 0 ranks)) []

-- the lockstep of a code over these tables on so many ranks, of at most `limit` instructions
abbrev pub lockstep_of : Code → Tables → ℕ → ℕ → Reached
lockstep_of code tables ranks limit = run code tables limit (first_state code ranks)

-- ---- whole exchanges: packing, posting and taking are one step

-- the step after this one, if there is one
abbrev pub then_step : Step → (State → Step) → Step
then_step Ends f = Ends
then_step (Trips t) f = Trips t
then_step (Steps s) f = f s

-- a Pack with the Post and the Take behind it; any other instruction by itself
abbrev pub stride_by : Kind → (State → Step) → State → Step
stride_by Computes f s = f s
stride_by (Jumps target unless) f s = f s
stride_by (Packs what) f s = then_step (then_step (f s) f) f
stride_by Posts f s = f s
stride_by Takes f s = f s
stride_by PostsRoot f s = f s
stride_by TakesRoot f s = f s
stride_by (Unpacks what) f s = f s
stride_by (Writes output) f s = f s
stride_by Halts f s = f s

-- one step in which a whole exchange counts as one
unfoldable pub stride : Code → Tables → State → Step
stride code tables s = stride_by (kind_of (instr_at code.list (position_of s.ranks))) (step code tables) s

-- the lockstep of at most `limit` such steps
abbrev pub lockstep_by_exchanges : Code → Tables → ℕ → ℕ → Reached
lockstep_by_exchanges code tables ranks limit = run_by (stride code tables) limit (first_state code ranks)

-- ---- what the code answers

abbrev pub state_of : Reached → State
state_of (Ended s) = s
state_of (Trapped t s) = s
state_of (Limit s) = s

-- the status and the output are those of the run
abbrev pub Answers : Reached → LockEnd → Type 0
Answers (Ended s) end = (end.status ≡ lock.Ended) × (end.out.items ≡ s.out)
Answers (Trapped t s) end = (end.status ≡ lock.Trapped t.at t.kind) × (end.out.items ≡ s.out)
Answers (Limit s) end = (end.status ≡ lock.Limit) × (end.out.items ≡ s.out)
