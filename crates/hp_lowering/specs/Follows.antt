-- A code follows a program with loops: its packs are what the ranks send for it, and its loops are the program's.
use Rattle.std.specs.Prelude.{◌≡◌, ℕ, ◌<◌, ◌≤◌, ◌⊎◌, Bool, List, [], ◌∷◌, length}
use Rattle.std.specs.List.{AllZip}
use Rattle.hp_word.specs.declared.name.Name.{Name}
use Rattle.hp_lattice.specs.declared.dist.Dist.{Dist}
use Rattle.hp_spmd.specs.declared.code.Code.{Code}
use Rattle.hp_spmd.specs.declared.instr.HaloFrom.{HaloFrom}
use Rattle.hp_spmd.specs.declared.instr.HaloFrom.TheVariants as halo_from
use Rattle.hp_spmd.specs.declared.instr.Instr.{Instr}
use Rattle.hp_spmd.specs.declared.instr.Instr.TheVariants as instr
use Rattle.hp_spmd.specs.declared.instr.Loop.{Loop}
use Rattle.hp_spmd.specs.declared.instr.Need.{Need}
use Rattle.hp_spmd.specs.declared.instr.Need.TheVariants.{Like}
use Rattle.hp_spmd.specs.declared.instr.Output.TheVariants as output
use Rattle.hp_spmd.specs.declared.instr.Packing.{Packing}
use Rattle.hp_spmd.specs.declared.instr.Packing.TheVariants as packing
use Rattle.hp_spmd.specs.declared.instr.Unpacking.TheVariants.{Halo as Haloed, Moved}
use Rattle.hp_spmd.specs.Store.{instr_at}
use Rattle.hp_spmd.specs.Store as store
use Rattle.hp_program.specs.Programs.{Prog, operations}
use Rattle.hp_air.specs.declared.slot.Slot.{Slot}
use Rattle.hp_air.specs.Placed.{dist_at}
use Rattle.hp_parfor.specs.declared.parfor.Halo.{Halo}
use Rattle.hp_parfor.specs.declared.parfor.Parfor.{Parfor}
use Rattle.hp_parfor.specs.Parts.{Part, Does, Loops}
use Rattle.hp_parfor.specs.Talk.{Pack, Words, OwnWord, Sizes, Partial, Moves, Hashes, GathersWord, GathersList, GathersTable, Talk}

-- ---- packs

-- what the packs among some instructions pack, in order
abbrev pub packed_in : List Instr → List Packing
packed_in [] = []
packed_in (instr.Pack what ∷ is) = what ∷ packed_in is
packed_in (i ∷ is) = packed_in is

-- A pack of the code is one that the ranks send for the program, which has so many words. Any loose column may stand where
-- one is sent, and any word that is not the program's where such a word is.
pub data IsPack (words : ℕ) : Packing → Pack → Type 0 where
  of_words : {ws : List ℕ} → IsPack words (packing.Words ws) (Words ws)
  of_own_word : {w : ℕ} → words ≤ w → IsPack words (packing.Words (w ∷ [])) OwnWord
  of_sizes : {k : ℕ} → IsPack words (packing.Sizes k) Sizes
  of_partial : {k : ℕ} → IsPack words (packing.Partial k) Partial
  of_moves : {arrays : List ℕ} {need : Need} → IsPack words (packing.Move arrays need) (Moves arrays need)
  of_hashes : {arrays : List ℕ} {key : ℕ} → IsPack words (packing.Hash arrays key) (Hashes arrays key)
  of_word : {w : ℕ} {truth : Bool} → IsPack words (packing.Gather (output.Word w truth)) (GathersWord w truth)
  of_list : {k : ℕ} {truth : Bool} → IsPack words (packing.Gather (output.List k truth)) (GathersList k truth)
  of_table : {arrays : List ℕ} {names : List Name} → IsPack words (packing.Gather (output.Table arrays names)) (GathersTable arrays names)

-- ---- loops

abbrev pub loops_in : List Instr → List Loop
loops_in [] = []
loops_in (instr.Loop l ∷ is) = l ∷ loops_in is
loops_in (i ∷ is) = loops_in is

abbrev pub parfors_in : List Part → List Parfor
parfors_in [] = []
parfors_in (Loops p ∷ parts) = p ∷ parfors_in parts
parfors_in (Does op ∷ parts) = parfors_in parts

-- an instruction stands among some
abbrev pub HasInstr : List Instr → Instr → Type 0
HasInstr list i = (k : ℕ) × (k < length list) × (instr_at list k ≡ i)

-- An input of a loop is read itself, or a copy of it that was moved to the leader's pieces.
abbrev pub IsReadAs : List Instr → (leader : ℕ) → (array read : ℕ) → Type 0
IsReadAs list leader array read = (read ≡ array) ⊎ HasInstr list (instr.Unpack (Moved (read ∷ []) (array ∷ []) (Like leader)))

-- A halo is read from the array itself, or from a loose column that was made of it.
abbrev pub IsHaloAs : List Instr → Halo → HaloFrom → Type 0
IsHaloAs list h from = (from ≡ halo_from.Whole h.array) ⊎ ((column : ℕ) × (from ≡ halo_from.Loose column h.reach) × HasInstr list (instr.Unpack (Haloed column h.array h.reach)))

pub record IsLoopOf (list : List Instr) (l : Loop) (p : Parfor) : Type 0 where
  pub leader : l.leader ≡ p.leader
  pub inputs : AllZip (IsReadAs list p.leader) p.inputs l.inputs
  pub halos : AllZip (IsHaloAs list) p.halos l.halos
  pub lets : l.lets ≡ p.lets
  pub outs : l.outs ≡ p.outs
  pub folds : l.folds ≡ p.folds

-- ---- the whole

-- The packs of the code are what the ranks send for the program, its loops are the program's loops, both in order, and each
-- slot is the array of its number, which lies as the slot.
pub record Follows (code : Code) (slots : List Slot) (words : ℕ) (p : Prog Part) (dists : List Dist) : Type 0 where
  pub packs : AllZip (IsPack words) (packed_in code.list) (Talk slots p dists)
  pub loops : AllZip (IsLoopOf code.list) (loops_in code.list) (parfors_in (operations p))
  pub arrays : (k : ℕ) → k < length slots → store.dist_at code.arrays k ≡ dist_at dists k
