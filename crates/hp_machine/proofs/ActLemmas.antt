-- What a rank does next, among the others.
use Rattle.std.proofs.Common.{◌≡◌, ◌∙◌, sym, subst, ap, ℕ, zero, suc, ◌<◌, ◌≤◌, List, [], Option, Some}
use Rattle.hp_word.specs.declared.table.Message.{Message}
use Rattle.hp_word.specs.declared.table.Tables.{Tables}
use Rattle.hp_rank.specs.Steps.{CanStep, receiver_of}
use Rattle.hp_spmd.specs.declared.code.Code.{Code}
use Rattle.hp_spmd.specs.declared.store.Store.{Store}
use Rattle.hp_spmd.specs.Act.{Act, HasHalted, Trips, Goes, Sends, Gets, Prints, act, act_by, of_next, first_only, after_take}
use Rattle.hp_spmd.specs.Exchange.{written}
use Rattle.hp_spmd.specs.Kinds.{Kind, Computes, Jumps, Packs, Posts, Takes, PostsRoot, TakesRoot, Unpacks, Writes, Halts, kind_of}
use Rattle.hp_spmd.specs.Local.{local_next}
use Rattle.hp_spmd.specs.Next.{Next, Goes as goes, Traps as traps, moved}
use Rattle.hp_spmd.specs.Store.{instr_at}
use Rattle.hp_machine.specs.Parts.{has_space}

-- ---- with whom it exchanges messages

-- posts and takes are to and from ranks below n
abbrev pub IsAmong : (n : ℕ) → Act → Type 0
IsAmong n HasHalted = Unit {0}
IsAmong n (Trips t) = Unit {0}
IsAmong n (Goes x) = Unit {0}
IsAmong n (Sends to message x) = to < n
IsAmong n (Gets sender f) = sender < n
IsAmong n (Prints text x) = Unit {0}

next_among : (n : ℕ) (next : Next) → IsAmong n (of_next next)
next_among n (goes x) = tt
next_among n (traps t) = tt

root_among : (n number got : ℕ) (f : Message → Store) (x : Store) → got < n → IsAmong n (first_only number (Gets got f) x)
root_among n zero got f x lt = lt
root_among n (suc k) got f x lt = tt

print_among : (n number : ℕ) (text : List ℕ) (y x : Store) → IsAmong n (first_only number (Prints text y) x)
print_among n zero text y x = tt
print_among n (suc k) text y x = tt

by_among : (n : ℕ) (k : Kind) (next : Next) (x : Store) → 1 ≤ n → x.sent < n → x.got < n → IsAmong n (act_by k next x)
by_among n Computes next x some sent got = next_among n next
by_among n (Jumps target unless) next x some sent got = next_among n next
by_among n (Packs what) next x some sent got = next_among n next
by_among n Posts next x some sent got = sent
by_among n Takes next x some sent got = got
by_among n PostsRoot next x some sent got = some
by_among n TakesRoot next x some sent got = root_among n x.number x.got (after_take x) x got
by_among n (Unpacks what) next x some sent got = next_among n next
by_among n (Writes output) next x some sent got = print_among n x.number (written output x.inbox) (moved x) x
by_among n Halts next x some sent got = tt

pub is_among : (code : Code) (tables : Tables) (x : Store) → CanStep x → IsAmong x.ranks (act code tables x)
unfolding act
is_among code tables x can =
    let i = instr_at code.list x.position in by_among x.ranks (kind_of i) (local_next code.arrays tables i x) x can.some can.sent can.got

receiver_among : (n : ℕ) (a : Act) (to : ℕ) → IsAmong n a → receiver_of a ≡ Some to → to < n
receiver_among n (Sends k message x) to h is = let e : k ≡ to = cc in subst (λ j. j < n) e h
receiver_among n (Gets sender f) to h is = absurd cc
receiver_among n HasHalted to h is = absurd cc
receiver_among n (Trips t) to h is = absurd cc
receiver_among n (Goes x) to h is = absurd cc
receiver_among n (Prints text x) to h is = absurd cc

abbrev no_tables : Tables
no_tables = record { list = [] }

pub receives_among : (code : Code) (x : Store) (o : Option ℕ) (to : ℕ) → CanStep x → ((tables : Tables) → o ≡ receiver_of (act code tables x)) → o ≡ Some to → to < x.ranks
receives_among code x o to can h is = receiver_among x.ranks (act code no_tables x) to (is_among code no_tables x can) (sym (h no_tables) ∙ is)

pub space_by : (a : Act) (o : Option ℕ) (queues : ℕ → List Message) (room : ℕ) → o ≡ receiver_of a → has_space o queues room ≡ has_space (receiver_of a) queues room
space_by a o queues room is = ap (λ r. has_space r queues room) is
