-- The instructions that stand for a step: an operation on whole arrays, or a loop. They hang on how the arrays lie.
use Rattle.std.specs.Prelude.{ℕ, suc, Bool, true, false, ◌&&◌, if◌then◌else◌, Option, Some, None, List, [], ◌∷◌, ◌++◌, map}
use Rattle.std.specs.List.{list_any}
use Rattle.hp_word.specs.declared.place.Place.{Place}
use Rattle.hp_lattice.specs.declared.dist.Dist.{Dist}
use Rattle.hp_spmd.specs.declared.instr.CheckRule.TheVariants as rule
use Rattle.hp_spmd.specs.declared.instr.Folding.{Folding}
use Rattle.hp_spmd.specs.declared.instr.HaloFrom.{HaloFrom}
use Rattle.hp_spmd.specs.declared.instr.HaloFrom.TheVariants as halo_from
use Rattle.hp_spmd.specs.declared.instr.Instr.{Instr}
use Rattle.hp_spmd.specs.declared.instr.Instr.TheVariants as instr
use Rattle.hp_spmd.specs.declared.instr.Need.TheVariants.{Like, Blocks}
use Rattle.hp_spmd.specs.declared.instr.Output.TheVariants as output
use Rattle.hp_air.specs.declared.slot.Slot.{Slot}
use Rattle.hp_air.specs.declared.what.What.{What}
use Rattle.hp_air.specs.declared.what.What.TheVariants as what
use Rattle.hp_air.specs.Frames.{slot_at}
use Rattle.hp_parfor.specs.declared.parfor.Halo.{Halo}
use Rattle.hp_parfor.specs.declared.parfor.Parfor.{Parfor}
use Rattle.hp_parfor.specs.LoopMeaning.{is_moved, is_replicated, is_var, needs_some}
use Rattle.hp_parfor.specs.Parts.{Part, Does, Loops}
use Rattle.hp_parfor.specs.Talk.{Pack, dealt}
use Rattle.hp_alone.specs.Dealing.{fill_code, range_code}
use Rattle.hp_alone.specs.Joining.{join_code}
use Rattle.hp_alone.specs.Picking.{pick_code}
use Rattle.hp_alone.specs.Summing.{sums_code}
use Rattle.hp_alone.specs.Scalars.{at_code, calc_code, const_code, length_code}
use Rattle.hp_coll.specs.Arriving.{arrive_code}
use Rattle.hp_coll.specs.Reducing.{reduce_code}
use Rattle.hp_coll.specs.Scanning.{scan_code}
use Rattle.hp_exchange.specs.Concats.{concat_code}
use Rattle.hp_exchange.specs.Halos.{halo_code}
use Rattle.hp_exchange.specs.Ranges.{move_code}
use Rattle.hp_lowering.specs.Room.{Room, part_word, spare, start_word}

-- ---- loops

-- A look at the lengths of the leader and the inputs, and where a fold needs a value, at whether there is a place.
abbrev pub checks : Parfor → List Instr
checks p =
    instr.Check (p.leader ∷ p.inputs) rule.Equal p.at ∷ (if list_any (λ (f : Folding). needs_some f.kind) p.folds then instr.Check (p.leader ∷ []) rule.Some p.at ∷ [] else [])

-- Where the inputs from the i-th on stand: one that lies in other pieces than the leader is moved to a spare array first.
abbrev pub inputs_at : Room → (ℕ → Dist) → (leader i : ℕ) → List ℕ → List ℕ
inputs_at room d leader i [] = []
inputs_at room d leader i (x ∷ xs) = (if is_moved d leader x then spare room i else x) ∷ inputs_at room d leader (suc i) xs

abbrev pub input_moves : Room → (ℕ → Dist) → (leader i : ℕ) → List ℕ → List Instr
input_moves room d leader i [] = []
input_moves room d leader i (x ∷ xs) =
    (if is_moved d leader x then move_code (spare room i ∷ []) (x ∷ []) (Like leader) else []) ++ input_moves room d leader (suc i) xs

-- the halos from the i-th on, each in the loose column of its number; or of arrays that are whole on each rank
abbrev pub halos_at : (i : ℕ) → List Halo → List HaloFrom
halos_at i [] = []
halos_at i (h ∷ hs) = halo_from.Loose i h.reach ∷ halos_at (suc i) hs

abbrev pub halo_moves : (i : ℕ) → List Halo → List Instr
halo_moves i [] = []
halo_moves i (h ∷ hs) = halo_code h.array h.reach i ++ halo_moves (suc i) hs

abbrev pub whole_halos : List Halo → List HaloFrom
whole_halos halos = map (λ (h : Halo). halo_from.Whole h.array) halos

-- the loop itself, over these inputs and halos
abbrev pub loop_instr : (inputs : List ℕ) → List HaloFrom → Parfor → Instr
loop_instr inputs halos p = instr.Loop (record { leader = p.leader; inputs = inputs; halos = halos; lets = p.lets; outs = p.outs; folds = p.folds })

-- the words of a loop's folds, over all ranks
abbrev pub folds_over : List Folding → List Instr
folds_over [] = []
folds_over (f ∷ fs) = reduce_code (f ∷ fs)

-- where all its arrays are whole on each rank, a loop has no exchange
unfoldable pub loop_code : Room → (ℕ → Dist) → Parfor → List Instr
loop_code room d p =
    if is_replicated d (Loops p) then checks p ++ (loop_instr p.inputs (whole_halos p.halos) p ∷ [])
    else checks p ++ (input_moves room d p.leader 0 p.inputs ++ (halo_moves 0 p.halos ++ (loop_instr (inputs_at room d p.leader 0 p.inputs) (halos_at 0 p.halos) p ∷ folds_over p.folds)))

-- ---- operations

-- the balanced copy and the array that is dealt out to it, where a copy is such
abbrev pub dealt_pair : List Slot → (ℕ → Dist) → (outs ins : List ℕ) → Option (ℕ × ℕ)
dealt_pair slots d (k ∷ []) (x ∷ []) = if (slot_at slots k).balanced && is_var (d x) then Some (k, x) else None
dealt_pair slots d outs ins = None

-- a copy, or where its array is dealt out in blocks, an exchange
abbrev pub copied_or_dealt : List Pack → (outs ins : List ℕ) → List Instr
copied_or_dealt [] outs ins = instr.Copy outs ins ∷ []
copied_or_dealt (p ∷ ps) outs ins = move_code outs ins Blocks

-- An operation, where `alone` says that all its arrays are whole on each rank; of one that is not built, nothing.
unfoldable pub whole_code : Room → List Slot → (ℕ → Dist) → (alone : Bool) → Place → What → List Instr
whole_code room slots d alone at (what.Const to value) = const_code to value
whole_code room slots d alone at (what.Calc to op left right) = calc_code to op left right at
whole_code room slots d alone at (what.Length to array) = length_code to array
whole_code room slots d alone at (what.Fill out value count) = fill_code out value count at
whole_code room slots d alone at (what.Range out first last) = range_code out first last at
whole_code room slots d alone at (what.Copy outs ins) = copied_or_dealt (if alone then [] else dealt slots d outs ins) outs ins
whole_code room slots d alone at (what.Scan out array) = if alone then sums_code out array (part_word room) (start_word room) else scan_code out array (part_word room) (start_word room)
whole_code room slots d alone at (what.Concat out left right) = if alone then join_code out left right at else concat_code left right 0 out at
whole_code room slots d alone at (what.At to array index) = at_code to array index at
whole_code room slots d alone at (what.Pick out array index) = pick_code out array index at
whole_code room slots d alone at (what.PrintWord word truth) = arrive_code (output.Word word truth)
whole_code room slots d alone at (what.PrintList array truth) = arrive_code (output.List array truth)
whole_code room slots d alone at _ = []

-- the operations that are built
abbrev pub is_whole_built : What → Bool
is_whole_built (what.Const to value) = true
is_whole_built (what.Calc to op left right) = true
is_whole_built (what.Length to array) = true
is_whole_built (what.Fill out value count) = true
is_whole_built (what.Range out first last) = true
is_whole_built (what.Copy outs ins) = true
is_whole_built (what.Scan out array) = true
is_whole_built (what.Concat out left right) = true
is_whole_built (what.At to array index) = true
is_whole_built (what.Pick out array index) = true
is_whole_built (what.PrintWord word truth) = true
is_whole_built (what.PrintList array truth) = true
is_whole_built _ = false

-- ---- steps

unfoldable pub part_code : Room → List Slot → (ℕ → Dist) → Part → List Instr
part_code room slots d (Does op) = whole_code room slots d (is_replicated d (Does op)) op.at op.what
part_code room slots d (Loops p) = loop_code room d p

abbrev pub is_part_built : Part → Bool
is_part_built (Does op) = is_whole_built op.what
is_part_built (Loops p) = true
