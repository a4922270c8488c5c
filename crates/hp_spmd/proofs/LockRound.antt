-- One round of all ranks.
use Rattle.std.proofs.Common.{◌≡◌, ◌∙◌, refl, sym, subst, ap, ℕ, List, Some, None}
use Rattle.std.specs.Prelude.{slice_get, unwrap_or}
use Rattle.std.proofs.lemmas.Option.{get_or_from_slice_get, unwrap_or-slice_get}
use Rattle.hp_word.specs.declared.table.Tables.{Tables}
use Rattle.hp_spmd.specs.declared.code.Code.{Code}
use Rattle.hp_spmd.specs.declared.instr.Instr.{Instr}
use Rattle.hp_spmd.specs.declared.instr.Instr.TheVariants as instr
use Rattle.hp_spmd.specs.declared.lockstep.round.RoundEnd.{RoundEnd}
use Rattle.hp_spmd.specs.declared.lockstep.round.RoundEnd.TheVariants as round
use Rattle.hp_spmd.specs.declared.store.Store.{Store}
use Rattle.hp_spmd.specs.Kinds.{Kind, Computes, Jumps, Packs, Posts, Takes, PostsRoot, TakesRoot, Unpacks, Writes, Halts, kind_of, IsLocal}
use Rattle.hp_spmd.specs.Local.{local_next}
use Rattle.hp_spmd.specs.Next.{Next}
use Rattle.hp_spmd.specs.Lockstep.{Together, All, One, state, step, step_by, of_together, together, position_of}
use Rattle.hp_spmd.specs.Ranks.{IsTogether, TellsAll, Rounds}
use Rattle.hp_spmd.specs.Store.{instr_at}

together_told : (u : Together) (t : RoundEnd) (new : List Store) (out : List ℕ) → TellsAll u t new → Rounds (of_together u out) t out new out
together_told (All xs) round.Moved new out h = (h, refl)
together_told (All xs) (round.Trapped at kind) new out h = absurd h
together_told (All xs) round.Ended new out h = absurd h
together_told (One u) round.Moved new out h = absurd h
together_told (One u) (round.Trapped at kind) new out h = (h, refl)
together_told (One u) round.Ended new out h = absurd h

-- an instruction that each rank does by itself
pub rounds_together : (t : RoundEnd) (kind : Kind) (f : Store → Next) (xs new : List Store) (out : List ℕ) → IsTogether kind
    → TellsAll (together f xs) t new → Rounds (step_by kind f (state xs out)) t out new out
rounds_together t Computes f xs new out e h = together_told (together f xs) t new out h
rounds_together t (Jumps target unless) f xs new out e h = absurd e
rounds_together t (Packs what) f xs new out e h = together_told (together f xs) t new out h
rounds_together t Posts f xs new out e h = absurd e
rounds_together t Takes f xs new out e h = absurd e
rounds_together t PostsRoot f xs new out e h = absurd e
rounds_together t TakesRoot f xs new out e h = absurd e
rounds_together t (Unpacks what) f xs new out e h = together_told (together f xs) t new out h
rounds_together t (Writes output) f xs new out e h = absurd e
rounds_together t Halts f xs new out e h = absurd e

-- the step is that of the instruction at the ranks' position
pub rounds_at : (code : Code) (tables : Tables) (t : RoundEnd) (i : Instr) (xs new : List Store) (before out : List ℕ)
    → instr_at code.list (position_of xs) ≡ i
    → Rounds (step_by (kind_of i) (local_next code.arrays tables i) (state xs before)) t before new out
    → Rounds (step code tables (state xs before)) t before new out
unfolding step
rounds_at code tables t i xs new before out e h =
    subst (λ j. Rounds (step_by (kind_of j) (local_next code.arrays tables j) (state xs before)) t before new out) (sym e) h

-- past the end of the code
pub rounds_past : (code : Code) (tables : Tables) (xs : List Store) (out : List ℕ) → instr_at code.list (position_of xs) ≡ instr.Halt
    → Rounds (step code tables (state xs out)) round.Ended out xs out
rounds_past code tables xs out e = rounds_at code tables round.Ended instr.Halt xs xs out out e refl

pub instr_here : (list : List Instr) (k : ℕ) (i : Instr) → slice_get list k ≡ Some i → instr_at list k ≡ i
instr_here list k i e = get_or_from_slice_get list k i instr.Halt e

pub instr_past : (list : List Instr) (k : ℕ) → slice_get list k ≡ None → instr_at list k ≡ instr.Halt
instr_past list k e = sym (unwrap_or-slice_get list k instr.Halt) ∙ ap (λ o. unwrap_or o instr.Halt) e

pub together_local : (kind : Kind) → IsTogether kind → IsLocal kind
together_local Computes h = h
together_local (Jumps target unless) h = absurd h
together_local (Packs what) h = h
together_local Posts h = absurd h
together_local Takes h = absurd h
together_local PostsRoot h = absurd h
together_local TakesRoot h = absurd h
together_local (Unpacks what) h = h
together_local (Writes output) h = absurd h
together_local Halts h = absurd h
