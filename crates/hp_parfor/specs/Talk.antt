-- What the ranks send each other for a program with loops: the packs of each step in order, with what they carry.
use Rattle.std.specs.Prelude.{ℕ, Bool, true, ◌&&◌, if◌then◌else◌, List, [], ◌∷◌, ◌++◌, map, flat_map, filter}
use Rattle.hp_word.specs.declared.name.Name.{Name}
use Rattle.hp_lattice.specs.declared.dist.Dist.{Dist}
use Rattle.hp_spmd.specs.declared.instr.Need.{Need}
use Rattle.hp_spmd.specs.declared.instr.Need.TheVariants.{Like, Blocks, Wide, Whole, First, Second}
use Rattle.hp_program.specs.Programs.{Prog, operations}
use Rattle.hp_air.specs.declared.slot.Slot.{Slot}
use Rattle.hp_air.specs.declared.what.What.{What}
use Rattle.hp_air.specs.declared.what.What.TheVariants as what
use Rattle.hp_air.specs.Frames.{slot_at}
use Rattle.hp_air.specs.Placed.{dist_at}
use Rattle.hp_parfor.specs.declared.parfor.Parfor.{Parfor}
use Rattle.hp_parfor.specs.LoopMeaning.{is_rep, is_var, is_moved, is_replicated}
use Rattle.hp_parfor.specs.Parts.{Part, Does, Loops, loop_words}

-- ---- packs

-- A pack, with what it carries of the program. Which loose column it sends, and which word that is not the program's, is
-- left open.
pub data Pack : Type 0 where
  -- words of the program
  Words : List ℕ → Pack
  -- a word that is not the program's
  OwnWord : Pack
  -- the length of a loose column
  Sizes : Pack
  -- the cells of a loose column
  Partial : Pack
  -- of these arrays what each rank needs
  Moves : List ℕ → Need → Pack
  -- the rows of these arrays, by the key at this position
  Hashes : List ℕ → (key : ℕ) → Pack
  -- an output: a word or an array, of truth values where the flag says so, or a table
  GathersWord : ℕ → (truth : Bool) → Pack
  GathersList : ℕ → (truth : Bool) → Pack
  GathersTable : List ℕ → List Name → Pack

-- an array moved to another one's pieces, where it lies in uneven pieces itself
abbrev pub moved_like : (ℕ → Dist) → (to : ℕ) → List ℕ → List Pack
moved_like d to xs = map (λ x. Moves (x ∷ []) (Like to)) (filter (is_moved d to) xs)

-- the words of a loop's folds, all at once
abbrev pub folds_sent : List ℕ → List Pack
folds_sent [] = []
folds_sent (w ∷ ws) = Words (w ∷ ws) ∷ []

-- ---- steps

-- a loop: the inputs that are moved, what is read round the rank's own places, the folds
unfoldable pub loop_sends : (ℕ → Dist) → Parfor → List Pack
loop_sends d p = moved_like d p.leader p.inputs ++ map (λ h. Moves (h.array ∷ []) (Wide h.reach)) p.halos ++ folds_sent (loop_words p)

-- the arrays behind the first are moved to it
abbrev pub moved_to_first : (ℕ → Dist) → List ℕ → List Pack
moved_to_first d [] = []
moved_to_first d (x ∷ xs) = moved_like d x xs

-- a copy to a balanced copy, and no other, deals its array out in blocks, where that lies in uneven pieces
abbrev pub dealt : List Slot → (ℕ → Dist) → (outs ins : List ℕ) → List Pack
dealt slots d (k ∷ []) (x ∷ []) = if (slot_at slots k).balanced && is_var (d x) then Moves (x ∷ []) Blocks ∷ [] else []
dealt slots d outs ins = []

-- the first array of a frame lies whole
abbrev pub is_first_rep : (ℕ → Dist) → List ℕ → Bool
is_first_rep d [] = true
is_first_rep d (x ∷ xs) = is_rep (d x)

-- a filter's mask goes with the rows
abbrev pub mask_moved : (ℕ → Dist) → (ins : List ℕ) → (mask : ℕ) → List Pack
mask_moved d [] mask = []
mask_moved d (x ∷ xs) mask = if is_var (d x) then Moves (mask ∷ []) (Like x) ∷ [] else []

-- an operation whose arrays are not all whole, but for outputs
unfoldable pub whole_sends : List Slot → (ℕ → Dist) → What → List Pack
whole_sends slots d (what.Copy outs ins) = dealt slots d outs ins
whole_sends slots d (what.Scan out array) = OwnWord ∷ []
whole_sends slots d (what.Filter outs ins mask) = mask_moved d ins mask ++ Sizes ∷ []
whole_sends slots d (what.Join outs lefts left_key rights right_key) = if is_first_rep d rights then Sizes ∷ [] else Hashes lefts left_key ∷ Hashes rights right_key ∷ Sizes ∷ []
whole_sends slots d (what.Group outs ins key measures) = Hashes ins key ∷ Sizes ∷ []
whole_sends slots d (what.Concat out left right) = Moves (left ∷ []) (First right) ∷ Moves (right ∷ []) (Second left) ∷ []
whole_sends slots d (what.Sort outs ins key) = if is_first_rep d ins then [] else Moves ins Whole ∷ []
whole_sends slots d (what.Frame outs ins) = moved_to_first d ins
whole_sends slots d (what.Stack out ins) = moved_to_first d ins
whole_sends slots d (what.ProductT out left right) = (if is_var (d right) then Moves (right ∷ []) (Like left) ∷ [] else []) ++ Partial ∷ []
whole_sends slots d _ = []

-- an output is gathered always
unfoldable pub output_sends : What → List Pack
output_sends (what.PrintWord word truth) = GathersWord word truth ∷ []
output_sends (what.PrintList array truth) = GathersList array truth ∷ []
output_sends (what.Export arrays names) = GathersTable arrays names ∷ []
output_sends _ = []

-- a part; where all its arrays are whole on each rank, only an output is sent
unfoldable pub part_sends : List Slot → (ℕ → Dist) → Part → List Pack
part_sends slots d (Does op) = (if is_replicated d (Does op) then [] else whole_sends slots d op.what) ++ output_sends op.what
part_sends slots d (Loops p) = if is_replicated d (Loops p) then [] else loop_sends d p

-- ---- programs

-- the packs of a program with these slots, in the order of its steps
unfoldable pub Talk : List Slot → Prog Part → List Dist → List Pack
Talk slots p dists = flat_map (part_sends slots (dist_at dists)) (operations p)
