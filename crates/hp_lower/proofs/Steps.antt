-- Steps of the lockstep at a known instruction.
use Rattle.std.proofs.Common.{◌≡◌, ℕ, suc, List, [], ◌∷◌, map, refl, ap, ◌∙◌}
use Rattle.hp_word.specs.declared.table.Tables.{Tables}
use Rattle.hp_spmd.specs.declared.code.Code.{Code}
use Rattle.hp_spmd.specs.declared.instr.Instr.{Instr}
use Rattle.hp_spmd.specs.declared.store.Store.{Store}
use Rattle.hp_spmd.specs.Kinds.{kind_of}
use Rattle.hp_spmd.specs.Local.{local_next}
use Rattle.hp_spmd.specs.Next.{Next, Goes}
use Rattle.hp_spmd.specs.Lockstep.{State, state, All, of_together, together, step_by, step, position_of, run}
use Rattle.hp_spmd.specs.Store.{instr_at}
use Rattle.hp_spmd.proofs.LockRun.{run_steps}

-- ---- the step at a known instruction

pub step_at : (code : Code) (tables : Tables) (ranks : List Store) (out : List ℕ) (p : ℕ) (i : Instr) → position_of ranks ≡ p → instr_at code.list p ≡ i → step code tables (state ranks out) ≡ step_by (kind_of i) (local_next code.arrays tables i) (state ranks out)
unfolding step
step_at code tables ranks out p i at is =
    ap (λ j. step_by (kind_of j) (local_next code.arrays tables j) (state ranks out)) (ap (instr_at code.list) at ∙ is)

-- ---- what all ranks do together

-- a fact of each store
abbrev pub Each : (Store → Type 0) → List Store → Type 0
Each P [] = Unit {0}
Each P (x ∷ xs) = P x × Each P xs

pub Each_map : (P Q : Store → Type 0) (g : Store → Store) → ((x : Store) → P x → Q (g x)) → (xs : List Store) → Each P xs → Each Q (map g xs)
Each_map P Q g h [] e = tt
Each_map P Q g h (x ∷ xs) e = (h x e.0, Each_map P Q g h xs e.1)

pub together_goes : (P : Store → Type 0) (f : Store → Next) (g : Store → Store) → ((x : Store) → P x → f x ≡ Goes (g x)) → (xs : List Store) → Each P xs → together f xs ≡ All (map g xs)
together_goes P f g h [] e = refl
together_goes P f g h (x ∷ xs) e = rw (h x e.0, together_goes P f g h xs e.1) refl

-- the next instruction is one that each rank does by itself
pub computes : (code : Code) (tables : Tables) (P : Store → Type 0) (g : Store → Store) (ranks : List Store) (out : List ℕ) (p : ℕ) (i : Instr) → position_of ranks ≡ p → instr_at code.list p ≡ i → ((f : Store → Next) (s : State) → step_by (kind_of i) f s ≡ of_together (together f s.ranks) s.out) → ((x : Store) → P x → local_next code.arrays tables i x ≡ Goes (g x)) → Each P ranks → (k : ℕ) → run code tables (suc k) (state ranks out) ≡ run code tables k (state (map g ranks) out)
computes code tables P g ranks out p i at is alone h each k =
    run_steps (step code tables) k (state ranks out) (state (map g ranks) out)
    (step_at code tables ranks out p i at is ∙ alone (local_next code.arrays tables i) (state ranks out) ∙ rw (together_goes P (local_next code.arrays tables i) g h ranks each) refl)
