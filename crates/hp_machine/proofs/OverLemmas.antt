-- Ranks whose next instruction is Halt are those that have halted.
use Rattle.std.proofs.Common.{◌≡◌, ◌∙◌, refl, sym, subst, ap, ℕ, zero, suc, ◌<◌, Bool, true, false, List, map, length, get_or}
use Rattle.std.specs.List.{All}
use Rattle.std.proofs.lemmas.List.Elements.{All-map}
use Rattle.std.proofs.lemmas.List.Sums.{AllPass-from_list_all, list_all-from_AllPass}
use Rattle.std.proofs.lemmas.List.{get_or-map, length-map}
use Rattle.hp_word.specs.declared.table.Tables.{Tables}
use Rattle.hp_network.specs.Network.{IsHalt}
use Rattle.hp_rank.specs.declared.rank.Rank.{Rank}
use Rattle.hp_spmd.specs.declared.code.Code.{Code}
use Rattle.hp_spmd.specs.declared.instr.Instr.{Instr}
use Rattle.hp_spmd.specs.declared.instr.Instr.TheVariants as instr
use Rattle.hp_spmd.specs.declared.store.Store.{Store}
use Rattle.hp_spmd.specs.Act.{Act, Gets, Prints, act, act_by, of_next, first_only, after_take}
use Rattle.hp_spmd.specs.Exchange.{written}
use Rattle.hp_spmd.specs.Kinds.{Kind, Computes, Jumps, Packs, Posts, Takes, PostsRoot, TakesRoot, Unpacks, Writes, Halts, kind_of}
use Rattle.hp_spmd.specs.Local.{local_next}
use Rattle.hp_spmd.specs.Names.{is_halt}
use Rattle.hp_spmd.specs.Next.{Next, Goes as goes, Traps as traps, moved}
use Rattle.hp_spmd.specs.Store.{instr_at}
use Rattle.hp_turns.specs.Turns.{of_act}
use Rattle.hp_machine.specs.Sound.{all_over, is_over}

-- the action is none, exactly where this holds
abbrev HaltsIf : Bool → Act → Type 0
HaltsIf true a = IsHalt (of_act a)
HaltsIf false a = IsHalt (of_act a) → ⊥

next_goes : (next : Next) → IsHalt (of_act (of_next next)) → ⊥
next_goes (goes x) h = h
next_goes (traps t) h = h

first_goes : (number : ℕ) (a : Act) (x : Store) → (IsHalt (of_act a) → ⊥) → IsHalt (of_act (first_only number a x)) → ⊥
first_goes zero a x h = h
first_goes (suc number) a x h = λ g. g

kind_goes : (k : Kind) (next : Next) (x : Store) → (k ≡ Halts → ⊥) → IsHalt (of_act (act_by k next x)) → ⊥
kind_goes Computes next x other h = next_goes next h
kind_goes (Jumps target unless) next x other h = next_goes next h
kind_goes (Packs what) next x other h = next_goes next h
kind_goes Posts next x other h = h
kind_goes Takes next x other h = h
kind_goes PostsRoot next x other h = h
kind_goes TakesRoot next x other h = first_goes x.number (Gets x.got (after_take x)) x (λ g. g) h
kind_goes (Unpacks what) next x other h = next_goes next h
kind_goes (Writes output) next x other h = first_goes x.number (Prints (written output x.inbox) (moved x)) x (λ g. g) h
kind_goes Halts next x other h = other refl

instr_halts : (i : Instr) (next : Next) (x : Store) → HaltsIf (is_halt i) (act_by (kind_of i) next x)
instr_halts instr.Halt next x = tt
instr_halts (instr.Post false) next x = λ g. g
instr_halts (instr.Post true) next x = λ g. g
instr_halts (instr.Take false) next x = λ g. g
instr_halts (instr.Take true) next x = kind_goes TakesRoot next x (λ e. cc)
instr_halts i next x = kind_goes (kind_of i) next x (λ e. cc)

halts_if : (code : Code) (tables : Tables) (x : Store) → HaltsIf (is_over code x) (act code tables x)
unfolding act is_over
halts_if code tables x = let i = instr_at code.list x.position in instr_halts i (local_next code.arrays tables i x) x

pub over_halts : (code : Code) (tables : Tables) (x : Store) → is_over code x ≡ true → IsHalt (of_act (act code tables x))
over_halts code tables x is = subst (λ b. HaltsIf b (act code tables x)) is (halts_if code tables x)

pub goes_on : (code : Code) (tables : Tables) (x : Store) → is_over code x ≡ false → IsHalt (of_act (act code tables x)) → ⊥
goes_on code tables x is = subst (λ b. HaltsIf b (act code tables x)) is (halts_if code tables x)

over_if : (code : Code) (tables : Tables) (x : Store) (b : Bool) → is_over code x ≡ b → IsHalt (of_act (act code tables x)) → b ≡ true
over_if code tables x true is h = refl
over_if code tables x false is h = absurd (goes_on code tables x is h)

-- ---- all ranks

pub all_ended : (code : Code) (tables : Tables) (ranks : List Rank) → all_over code ranks ≡ true → All (λ x. IsHalt (of_act (act code tables x))) (map (λ (rank : Rank). rank.store) ranks)
all_ended code tables ranks is =
    All-map (λ x. IsHalt (of_act (act code tables x))) (λ (rank : Rank). rank.store) ranks
    (λ k d lt. over_halts code tables (get_or ranks k d).store (AllPass-from_list_all (λ (rank : Rank). is_over code rank.store) ranks is k d lt))

pub ended_all : (code : Code) (tables : Tables) (ranks : List Rank) → All (λ x. IsHalt (of_act (act code tables x))) (map (λ (rank : Rank). rank.store) ranks) → all_over code ranks ≡ true
ended_all code tables ranks h =
    list_all-from_AllPass (λ (rank : Rank). is_over code rank.store) ranks
    (λ k d lt. let x = (get_or ranks k d).store in
    over_if code tables x (is_over code x) refl (subst (λ y. IsHalt (of_act (act code tables y))) (get_or-map (λ (rank : Rank). rank.store) ranks k d d.store lt) (h k d.store (subst (λ n. k < n) (sym (length-map ranks (λ (rank : Rank). rank.store))) lt))))

-- where some rank goes on, not all have halted
pub one_goes : (code : Code) (tables : Tables) (ranks : List Rank) (r : ℕ) (x : Rank) → r < length ranks → x ≡ get_or ranks r x → is_over code x.store ≡ false
    → All (λ y. IsHalt (of_act (act code tables y))) (map (λ (rank : Rank). rank.store) ranks) → ⊥
one_goes code tables ranks r x lt is on h =
    let at : get_or (map (λ (rank : Rank). rank.store) ranks) r x.store ≡ x.store = get_or-map (λ (rank : Rank). rank.store) ranks r x x.store lt ∙ sym (ap (λ (k : Rank). k.store) is) in
    goes_on code tables x.store on (subst (λ y. IsHalt (of_act (act code tables y))) at (h r x.store (subst (λ n. r < n) (sym (length-map ranks (λ (rank : Rank). rank.store))) lt)))
