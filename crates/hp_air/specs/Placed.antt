-- Which distributions of its slots a program can run by.
use Rattle.std.specs.Prelude.{◌≡◌, ◌≢◌, ℕ, ◌==◌, ◌≤◌, if◌then◌else◌, List, [], ◌++◌, flat_map, length, slice_index_or}
use Rattle.std.specs.List.{AllByRecursion}
use Rattle.hp_lattice.specs.declared.dist.Dist.{Dist}
use Rattle.hp_lattice.specs.declared.dist.Dist.TheVariants.{Rep, Var}
use Rattle.hp_program.specs.Programs.{Prog, operations}
use Rattle.hp_air.specs.declared.slot.Slot.{Slot}
use Rattle.hp_air.specs.declared.what.Op.{Op}
use Rattle.hp_air.specs.Arrays.{arrays_of}
use Rattle.hp_air.specs.Constraints.{Meets, Bound, equal, bounds_of}
use Rattle.hp_air.specs.Frames.{numbers_of, balanced_copies, first_of}

-- the distribution of a slot; one without an entry counts as whole
abbrev pub dist_at : List Dist → ℕ → Dist
dist_at dists k = slice_index_or dists k Rep

-- Each slot has a distribution, and that of its frame's first slot; each operation's arrays lie as it asks; and no
-- balanced copy lies in uneven pieces.
pub record Placed (slots : List Slot) (p : Prog Op) (dists : List Dist) : Type 0 where
  pub each : length slots ≤ length dists
  pub frames : AllByRecursion (λ k. dist_at dists k ≡ dist_at dists (first_of slots k)) (numbers_of slots)
  pub rows : AllByRecursion (λ op. Meets (dist_at dists) (arrays_of op.what)) (operations p)
  pub balanced : AllByRecursion (λ k. dist_at dists k ≢ Var) (balanced_copies slots)

-- ---- the constraints of a program

-- a slot that is not the first of its frame is equal to that
unfoldable pub frame_bounds : List Slot → ℕ → List (Bound ℕ)
frame_bounds slots k = if first_of slots k == k then [] else equal k (first_of slots k)

-- the constraints of the operations at all depths, in the order of the text
abbrev pub operation_bounds : Prog Op → List (Bound ℕ)
operation_bounds p = flat_map (λ op. bounds_of (arrays_of op.what)) (operations p)

-- the constraints of the frames and of the operations
unfoldable pub program_bounds : List Slot → Prog Op → List (Bound ℕ)
program_bounds slots p = flat_map (frame_bounds slots) (numbers_of slots) ++ operation_bounds p
