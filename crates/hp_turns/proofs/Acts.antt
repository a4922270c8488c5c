-- What a rank of a code does next, by the shape of its instruction; and where it comes to.
use Rattle.std.proofs.Common.{◌≡◌, ◌∙◌, refl, sym, subst, ap, ℕ, zero, suc, List, [], ◌∷◌, Result, Ok, Err, Option, Some, None, eqb, cond, true, false, Bool}
use Rattle.hp_word.specs.declared.place.Trap.{Trap}
use Rattle.hp_word.specs.declared.table.Message.{Message}
use Rattle.hp_word.specs.declared.table.Tables.{Tables}
use Rattle.hp_network.specs.Network.{Room}
use Rattle.hp_network.proofs.States.{KeepsRank, KeepsRanks}
use Rattle.hp_spmd.specs.declared.code.Code.{Code}
use Rattle.hp_spmd.specs.declared.instr.Instr.{Instr}
use Rattle.hp_spmd.specs.declared.store.Store.{Store}
use Rattle.hp_spmd.specs.Act as act
use Rattle.hp_spmd.specs.Act.{act_by, of_next, first_only, after_post, after_take}
use Rattle.hp_spmd.specs.Exchanges.{Outside, HasForm, JumpsOutside, AllJumpOutside, wants, leaves}
use Rattle.hp_spmd.specs.Kinds.{Kind, Computes, Jumps, Packs, Posts, Takes, PostsRoot, TakesRoot, Unpacks, Writes, Halts, kind_of}
use Rattle.hp_spmd.specs.Local.{local_next, alone, computed, jumped, pack_done, next_place}
use Rattle.hp_spmd.specs.Exchange.{unpacked, written}
use Rattle.hp_spmd.specs.Next.{Next, Goes, Traps, moved, lifted}
use Rattle.hp_spmd.specs.Store.{Data, data_of, instr_at}
use Rattle.hp_spmd.proofs.Forms.{leads_next, inside}
use Rattle.hp_turns.specs.Turns.{of_act, machine}

-- the shape of the instruction at a place
abbrev pub kind_at : Code → ℕ → Kind
kind_at code p = kind_of (instr_at code.list p)

-- what the instruction at a place does to a rank
abbrev pub next_at : Code → Tables → ℕ → Store → Next
next_at code tables p x = local_next code.arrays tables (instr_at code.list p) x

pub act_is : (code : Code) (tables : Tables) (room : Room) (x : Store) (p : ℕ) (k : Kind) → x.position ≡ p → kind_at code p ≡ k → (machine code tables room).act x ≡ of_act (act_by k (next_at code tables p x) x)
unfolding act.act
act_is code tables room x p k at is =
    ap (λ q. of_act (act_by (kind_at code q) (next_at code tables q x) x)) at ∙ ap (λ j. of_act (act_by j (next_at code tables p x) x)) is

-- ---- the rank stays that rank

-- a rank of this number among so many
pub record IsRankOf (n r : ℕ) (x : Store) : Type 0 where
  pub number_is : x.number ≡ r
  pub ranks_are : x.ranks ≡ n

abbrev OwnNext : ℕ → ℕ → Next → Type 0
OwnNext n r (Goes x) = IsRankOf n r x
OwnNext n r (Traps t) = Unit {0}

of_next_own : (n r : ℕ) (next : Next) → OwnNext n r next → KeepsRank (IsRankOf n) r (of_act (of_next next))
of_next_own n r (Goes x) h = h
of_next_own n r (Traps t) h = tt

lifted_own : (n r : ℕ) (d : Result Data Trap) (x : Store) → IsRankOf n r x → OwnNext n r (lifted d x)
lifted_own n r (Ok d) x h = record { number_is = h.number_is; ranks_are = h.ranks_are }
lifted_own n r (Err t) x h = tt

own_if : (n r : ℕ) (b : Bool) (x y : Store) → IsRankOf n r x → IsRankOf n r y → IsRankOf n r (cond b x y)
own_if n r true x y h g = h
own_if n r false x y h g = g

post_own : (n r : ℕ) (x : Store) → IsRankOf n r x → IsRankOf n r (after_post x)
post_own n r x h = own_if n r (eqb (suc x.sent) x.ranks) _ _ (record { number_is = h.number_is; ranks_are = h.ranks_are }) (record { number_is = h.number_is; ranks_are = h.ranks_are })

take_own : (n r : ℕ) (x : Store) (m : Message) → IsRankOf n r x → IsRankOf n r (after_take x m)
take_own n r x m h = own_if n r (eqb (suc x.got) x.ranks) _ _ (record { number_is = h.number_is; ranks_are = h.ranks_are }) (record { number_is = h.number_is; ranks_are = h.ranks_are })

moved_own : (n r : ℕ) (x : Store) → IsRankOf n r x → IsRankOf n r (moved x)
moved_own n r x h = record { number_is = h.number_is; ranks_are = h.ranks_are }

root_own : (n r number : ℕ) (a : act.Act) (x : Store) → number ≡ r → KeepsRank (IsRankOf n) r (of_act a) → IsRankOf n r x → KeepsRank (IsRankOf n) r (of_act (first_only number a x))
root_own n r zero a x e h g = h
root_own n r (suc k) a x e h g = moved_own n r x g

print_own : (n r number : ℕ) (text : List ℕ) (x : Store) → number ≡ r → IsRankOf n r x → KeepsRank (IsRankOf n) r (of_act (first_only number (act.Prints text (moved x)) x))
print_own n r zero text x e h = (sym e, moved_own n r x h)
print_own n r (suc k) text x e h = moved_own n r x h

kind_own : (code : Code) (n r : ℕ) (k : Kind) (f : Data → Result Data Trap) (x : Store) → IsRankOf n r x → KeepsRank (IsRankOf n) r (of_act (act_by k (alone code.arrays k f x) x))
unfolding jumped pack_done
kind_own code n r Computes f x h = of_next_own n r (lifted (f (data_of x)) x) (lifted_own n r (f (data_of x)) x h)
kind_own code n r (Jumps target unless) f x h = record { number_is = h.number_is; ranks_are = h.ranks_are }
kind_own code n r (Packs what) f x h = record { number_is = h.number_is; ranks_are = h.ranks_are }
kind_own code n r Posts f x h = post_own n r x h
kind_own code n r Takes f x h = λ m. take_own n r x m h
kind_own code n r PostsRoot f x h = record { number_is = h.number_is; ranks_are = h.ranks_are }
kind_own code n r TakesRoot f x h = root_own n r x.number (act.Gets x.got (after_take x)) x h.number_is (λ m. take_own n r x m h) h
kind_own code n r (Unpacks what) f x h = of_next_own n r (lifted (unpacked code.arrays what x.number x.ranks x.inbox (data_of x)) x) (lifted_own n r (unpacked code.arrays what x.number x.ranks x.inbox (data_of x)) x h)
kind_own code n r (Writes output) f x h = print_own n r x.number (written output x.inbox) x h.number_is h
kind_own code n r Halts f x h = tt

pub ranks_own : (code : Code) (tables : Tables) (room : Room) (n : ℕ) → KeepsRanks (machine code tables room) (IsRankOf n)
ranks_own code tables room n r x h =
    subst (KeepsRank (IsRankOf n) r) (sym (act_is code tables room x x.position (kind_at code x.position) refl refl))
    (kind_own code n r (kind_at code x.position) (computed code.arrays tables x.number x.ranks (instr_at code.list x.position)) x h)

-- ---- the form, by places

-- the instruction behind one that is not Halt stands in the phase that it leaves
pub next_phase : (code : Code) (p : ℕ) (k : Kind) → HasForm code.list → kind_at code p ≡ k → (k ≡ Halts → ⊥) → wants (kind_at code (suc p)) ≡ leaves k
next_phase code p k form is some =
    sym (leads_next Outside code.list p form.leads (inside code.list p (λ e. some (sym is ∙ e)))) ∙ ap leaves is

jumps_at : (list some : List Instr) (p : ℕ) → AllJumpOutside list some → JumpsOutside list (kind_of (instr_at some p))
jumps_at list [] p h = tt
jumps_at list (i ∷ is) zero h = h.0
jumps_at list (i ∷ is) (suc p) h = jumps_at list is p h.1

jump_outside : (code : Code) (p target : ℕ) (unless : Option ℕ) → HasForm code.list → kind_at code p ≡ Jumps target unless → wants (kind_at code target) ≡ Outside
jump_outside code p target unless form is = subst (JumpsOutside code.list) is (jumps_at code.list code.list p form.jumps)

jumps_halts : (target : ℕ) (unless : Option ℕ) → Jumps target unless ≡ Halts → ⊥
jumps_halts target unless e = cc

-- from a jump a rank comes to an instruction outside of exchanges
pub jumped_phase : (code : Code) (p target : ℕ) (unless : Option ℕ) (words : List _) → HasForm code.list → kind_at code p ≡ Jumps target unless → wants (kind_at code (next_place target unless words p)) ≡ Outside
jumped_phase code p target None words form is = jump_outside code p target None form is
jumped_phase code p target (Some w) words form is = by _
  where
    by : (b : Bool) → wants (kind_at code (cond b target (suc p))) ≡ Outside
    by true = jump_outside code p target (Some w) form is
    by false = next_phase code p (Jumps target (Some w)) form is (jumps_halts target (Some w))
