-- Which distributions of its slots a program with loops can run by.
use Rattle.std.specs.Prelude.{◌≡◌, ◌≢◌, ℕ, ◌≤◌, Bool, true, false, not, ◌&&◌, List, [], ◌∷◌, filter, length, refl}
use Rattle.std.specs.List.{AllByRecursion}
use Rattle.hp_lattice.specs.declared.dist.Dist.{Dist}
use Rattle.hp_lattice.specs.declared.dist.Dist.TheVariants.{Var, Block}
use Rattle.hp_program.specs.Programs.{Prog, operations}
use Rattle.hp_air.specs.declared.slot.Slot.{Slot}
use Rattle.hp_air.specs.Arrays.{Arrays, Copy, arrays_of}
use Rattle.hp_air.specs.Constraints.{IsUpTo, Meets, copy_meets}
use Rattle.hp_air.specs.Frames.{numbers_of, slot_at, is_one_node, balanced_copies, first_of, node_slot, balanced_slot}
use Rattle.hp_air.specs.Placed.{dist_at}
use Rattle.hp_spmd.specs.Spread.{LiesAs}
use Rattle.hp_parfor.specs.declared.parfor.Parfor.{Parfor}
use Rattle.hp_parfor.specs.Parts.{Part, Does, Loops, loop_writes}

-- ---- operations

-- the arrays of the value of the stencil whose balanced copy this is
abbrev pub stencil_slots : List Slot → ℕ → List ℕ
stencil_slots slots k = filter (λ j. is_one_node (slot_at slots k).node (slot_at slots j).node && not (slot_at slots j).balanced) (numbers_of slots)

-- a copy to a balanced copy
abbrev pub is_dealt : List Slot → Arrays ℕ → Bool
is_dealt slots (Copy (k ∷ []) (x ∷ [])) = (slot_at slots k).balanced
is_dealt slots _ = false

-- The arrays of an operation lie as its row of the table asks, where a copy to a balanced copy counts as its stencil: the
-- copy and the array, and the copy and the stencil's value, are up to each other.
pub data OperationMeets (slots : List Slot) (d : ℕ → Dist) : Arrays ℕ → Type 0 where
  as_itself : {a : Arrays ℕ} → is_dealt slots a ≡ false → Meets d a → OperationMeets slots d a
  as_stencil : {k x : ℕ} → (slot_at slots k).balanced ≡ true → IsUpTo d k x → IsUpTo d x k
      → AllByRecursion (λ out. IsUpTo d out k × IsUpTo d k out) (stencil_slots slots k) → OperationMeets slots d (Copy (k ∷ []) (x ∷ []))

-- ---- loops

-- The inputs of a loop lie as its leader, and so do its outs, but for pieces of blocks. The array of a halo is the leader,
-- which then lies in no uneven pieces.
pub record LoopMeets (d : ℕ → Dist) (p : Parfor) : Type 0 where
  pub inputs : AllByRecursion (λ x. d x ≡ d p.leader) p.inputs
  pub outs : AllByRecursion (λ out. LiesAs (d p.leader) (d out)) (loop_writes p)
  pub halos : AllByRecursion (λ h. (h.array ≡ p.leader) × (d p.leader ≢ Var)) p.halos

abbrev pub PartMeets : List Slot → (ℕ → Dist) → Part → Type 0
PartMeets slots d (Does op) = OperationMeets slots d (arrays_of op.what)
PartMeets slots d (Loops p) = LoopMeets d p

-- ---- programs

-- Each slot has a distribution, and that of its frame's first slot; the arrays of each operation and loop lie as it asks;
-- and no balanced copy lies in uneven pieces.
pub record PlacedParts (slots : List Slot) (p : Prog Part) (dists : List Dist) : Type 0 where
  pub each : length slots ≤ length dists
  pub frames : AllByRecursion (λ k. dist_at dists k ≡ dist_at dists (first_of slots k)) (numbers_of slots)
  pub parts : AllByRecursion (PartMeets slots (dist_at dists)) (operations p)
  pub balanced : AllByRecursion (λ k. dist_at dists k ≢ Var) (balanced_copies slots)

-- ---- worked rows

-- filtered rows in pieces are dealt out in blocks for a stencil
abbrev dealt_slots : List Slot
dealt_slots = node_slot 0 0 ∷ node_slot 3 0 ∷ balanced_slot 3 ∷ []

dealt_row : OperationMeets dealt_slots (dist_at (Var ∷ Block ∷ Block ∷ [])) (Copy (2 ∷ []) (0 ∷ []))
dealt_row = as_stencil refl refl refl ((refl, refl), tt)

-- they are not copied so to another array
copied_row : OperationMeets dealt_slots (dist_at (Var ∷ Block ∷ Block ∷ [])) (Copy (1 ∷ []) (0 ∷ [])) → ⊥
copied_row (as_itself dealt (copy_meets same)) = let wrong : Block ≡ Var = same.0 in absurd cc
copied_row (as_stencil balanced p q outs) = absurd cc
