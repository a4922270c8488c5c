-- What a rank does next, by its instruction.
use Rattle.std.proofs.Common.{◌≡◌, refl, sym, subst, ap, ℕ, zero, suc, List, Some, None, Result, Ok, Err, IfOk}
use Rattle.hp_word.specs.declared.place.NoMemory.{NoMemory}
use Rattle.std.specs.Prelude.{slice_get}
use Rattle.hp_word.specs.declared.table.Message.{Message}
use Rattle.hp_word.specs.declared.table.Tables.{Tables}
use Rattle.hp_spmd.specs.declared.code.Code.{Code}
use Rattle.hp_spmd.specs.declared.instr.Instr.{Instr}
use Rattle.hp_spmd.specs.declared.instr.Instr.TheVariants as instr
use Rattle.hp_spmd.specs.declared.local.Local.{Local}
use Rattle.hp_spmd.specs.declared.local.Local.TheVariants as local
use Rattle.hp_spmd.specs.declared.store.Store.{Store}
use Rattle.hp_spmd.specs.Act.{Act, act, act_by, of_next, first_only, after_take, Gets, Prints}
use Rattle.hp_spmd.specs.Kinds.{Kind, Computes, Jumps, Packs, Posts, Takes, PostsRoot, TakesRoot, Unpacks, Writes, Halts, kind_of, IsLocal}
use Rattle.hp_spmd.specs.Local.{local_next}
use Rattle.hp_spmd.specs.Next.{Next, Goes, Traps, Tells, moved}
use Rattle.hp_spmd.specs.Exchange.{written}
use Rattle.hp_spmd.specs.Store.{instr_at}
use Rattle.hp_spmd.proofs.LockRound.{instr_here, instr_past}
use Rattle.hp_rank.specs.declared.rank.Did.{Did}
use Rattle.hp_rank.specs.declared.rank.Did.TheVariants as did
use Rattle.hp_rank.specs.Steps.{Does, Gave, Wrote, receiver_of, receiver_by}

-- ---- a local instruction

abbrev pub did_of : Local → Did
did_of local.Moved = did.Moved
did_of (local.Trapped at kind) = did.Trapped at kind

next_does : (next : Next) (l : Local) (old new : Store) → Tells next l old new → Does (of_next next) (did_of l) old new
next_does (Goes x) local.Moved old new h = h
next_does (Goes x) (local.Trapped at kind) old new h = absurd h
next_does (Traps t) local.Moved old new h = absurd h
next_does (Traps t) (local.Trapped at kind) old new h = h

pub local_does : (k : Kind) (next : Next) (l : Local) (x old new : Store) → IsLocal k → Tells next l old new → Does (act_by k next x) (did_of l) old new
local_does Computes next l x old new is h = next_does next l old new h
local_does (Jumps target unless) next l x old new is h = next_does next l old new h
local_does (Packs what) next l x old new is h = next_does next l old new h
local_does Posts next l x old new is h = absurd is
local_does Takes next l x old new is h = absurd is
local_does PostsRoot next l x old new is h = absurd is
local_does TakesRoot next l x old new is h = absurd is
local_does (Unpacks what) next l x old new is h = next_does next l old new h
local_does (Writes output) next l x old new is h = absurd is
local_does Halts next l x old new is h = absurd is

-- ---- by the shape of an instruction

pub does_by : (k : Kind) (i : Instr) (next : Next) (d : Did) (x new : Store) → kind_of i ≡ k → ((n : Next) → Does (act_by k n x) d x new) → Does (act_by (kind_of i) next x) d x new
does_by k i next d x new is h = subst (λ j. Does (act_by j next x) d x new) (sym is) (h next)

pub does_by_ok : (k : Kind) (i : Instr) (next : Next) (r : Result Did NoMemory) (x new : Store) → kind_of i ≡ k → IfOk r (λ d. (n : Next) → Does (act_by k n x) d x new)
    → IfOk r (λ d. Does (act_by (kind_of i) next x) d x new)
does_by_ok k i next (Ok d) x new is h = does_by k i next d x new is h
does_by_ok k i next (Err e) x new is h = tt

-- ---- by the instruction at the rank's position

abbrev act_at : Code → Tables → Instr → Store → Act
act_at code tables i x = act_by (kind_of i) (local_next code.arrays tables i x) x

act_here : (code : Code) (tables : Tables) (i : Instr) (x : Store) → slice_get code.list x.position ≡ Some i → act code tables x ≡ act_at code tables i x
unfolding act
act_here code tables i x h = ap (λ j. act_at code tables j x) (instr_here code.list x.position i h)

act_past : (code : Code) (tables : Tables) (x : Store) → slice_get code.list x.position ≡ None → act code tables x ≡ act_at code tables instr.Halt x
unfolding act
act_past code tables x h = ap (λ j. act_at code tables j x) (instr_past code.list x.position h)

pub does_here : (code : Code) (tables : Tables) (i : Instr) (d : Did) (x new : Store) → slice_get code.list x.position ≡ Some i
    → Does (act_by (kind_of i) (local_next code.arrays tables i x) x) d x new → Does (act code tables x) d x new
does_here code tables i d x new at h = subst (λ a. Does a d x new) (sym (act_here code tables i x at)) h

pub does_past : (code : Code) (tables : Tables) (x : Store) → slice_get code.list x.position ≡ None → Does (act code tables x) did.Halted x x
does_past code tables x at = subst (λ a. Does a did.Halted x x) (sym (act_past code tables x at)) refl

-- ---- receivers

next_receives : (next : Next) → receiver_of (of_next next) ≡ None
next_receives (Goes x) = refl
next_receives (Traps t) = refl

take_receives : (number got : ℕ) (f : Message → Store) (x : Store) → receiver_of (first_only number (Gets got f) x) ≡ None
take_receives zero got f x = refl
take_receives (suc k) got f x = refl

print_receives : (number : ℕ) (text : List ℕ) (y x : Store) → receiver_of (first_only number (Prints text y) x) ≡ None
print_receives zero text y x = refl
print_receives (suc k) text y x = refl

receives_by : (k : Kind) (next : Next) (x : Store) → receiver_by k x ≡ receiver_of (act_by k next x)
unfolding receiver_by
receives_by Computes next x = sym (next_receives next)
receives_by (Jumps target unless) next x = sym (next_receives next)
receives_by (Packs what) next x = sym (next_receives next)
receives_by Posts next x = refl
receives_by Takes next x = refl
receives_by PostsRoot next x = refl
receives_by TakesRoot next x = sym (take_receives x.number x.got (after_take x) x)
receives_by (Unpacks what) next x = sym (next_receives next)
receives_by (Writes output) next x = sym (print_receives x.number (written output x.inbox) (moved x) x)
receives_by Halts next x = refl

pub receives_here : (code : Code) (tables : Tables) (i : Instr) (x : Store) → slice_get code.list x.position ≡ Some i → receiver_by (kind_of i) x ≡ receiver_of (act code tables x)
receives_here code tables i x at = subst (λ a. receiver_by (kind_of i) x ≡ receiver_of a) (sym (act_here code tables i x at)) (receives_by (kind_of i) (local_next code.arrays tables i x) x)

pub receives_past : (code : Code) (tables : Tables) (x : Store) → slice_get code.list x.position ≡ None → None ≡ receiver_of (act code tables x)
receives_past code tables x at = subst (λ a. None ≡ receiver_of a) (sym (act_past code tables x at)) refl

-- ---- what was given and written

next_gave : (next : Next) (m : Message) (new : Store) → Gave (of_next next) m new
next_gave (Goes x) m new = tt
next_gave (Traps t) m new = tt

root_gave : (number : ℕ) (x : Store) (m : Message) → Gave (first_only number (Gets x.got (after_take x)) x) m (after_take x m)
root_gave zero x m = refl
root_gave (suc k) x m = tt

print_gave : (number : ℕ) (text : List ℕ) (y x : Store) (m : Message) (new : Store) → Gave (first_only number (Prints text y) x) m new
print_gave zero text y x m new = tt
print_gave (suc k) text y x m new = tt

gave_by : (k : Kind) (next : Next) (x : Store) (m : Message) → Gave (act_by k next x) m (after_take x m)
gave_by Computes next x m = next_gave next m (after_take x m)
gave_by (Jumps target unless) next x m = next_gave next m (after_take x m)
gave_by (Packs what) next x m = next_gave next m (after_take x m)
gave_by Posts next x m = tt
gave_by Takes next x m = refl
gave_by PostsRoot next x m = tt
gave_by TakesRoot next x m = root_gave x.number x m
gave_by (Unpacks what) next x m = next_gave next m (after_take x m)
gave_by (Writes output) next x m = print_gave x.number (written output x.inbox) (moved x) x m (after_take x m)
gave_by Halts next x m = tt

pub gave : (code : Code) (tables : Tables) (x : Store) (m : Message) → Gave (act code tables x) m (after_take x m)
unfolding act
gave code tables x m = let i = instr_at code.list x.position in gave_by (kind_of i) (local_next code.arrays tables i x) x m

next_wrote : (next : Next) (new : Store) → Wrote (of_next next) new
next_wrote (Goes x) new = tt
next_wrote (Traps t) new = tt

take_wrote : (number got : ℕ) (f : Message → Store) (x new : Store) → Wrote (first_only number (Gets got f) x) new
take_wrote zero got f x new = tt
take_wrote (suc k) got f x new = tt

print_wrote : (number : ℕ) (text : List ℕ) (x : Store) → Wrote (first_only number (Prints text (moved x)) x) (moved x)
print_wrote zero text x = refl
print_wrote (suc k) text x = tt

wrote_by : (k : Kind) (next : Next) (x : Store) → Wrote (act_by k next x) (moved x)
wrote_by Computes next x = next_wrote next (moved x)
wrote_by (Jumps target unless) next x = next_wrote next (moved x)
wrote_by (Packs what) next x = next_wrote next (moved x)
wrote_by Posts next x = tt
wrote_by Takes next x = tt
wrote_by PostsRoot next x = tt
wrote_by TakesRoot next x = take_wrote x.number x.got (after_take x) x (moved x)
wrote_by (Unpacks what) next x = next_wrote next (moved x)
wrote_by (Writes output) next x = print_wrote x.number (written output x.inbox) x
wrote_by Halts next x = tt

pub wrote : (code : Code) (tables : Tables) (x : Store) → Wrote (act code tables x) (moved x)
unfolding act
wrote code tables x = let i = instr_at code.list x.position in wrote_by (kind_of i) (local_next code.arrays tables i x) x
