-- Which programs with loops carry a script.
use Rattle.std.specs.Prelude.{◌≡◌, List, [], ◌∷◌, map, refl}
use Rattle.hp_word.specs.declared.elem.Elem.{Elem}
use Rattle.hp_word.specs.declared.place.Place.{Place}
use Rattle.hp_script.specs.declared.typed.Typed.{Typed}
use Rattle.hp_program.specs.Programs.{Prog, operations}
use Rattle.hp_air.specs.declared.slot.Slot.{Slot}
use Rattle.hp_air.specs.Arrays.{arrays_of, renamed}
use Rattle.hp_air.specs.Carried.{Step, Loop, step_of, CarriedBy}
use Rattle.hp_air.specs.Frames.{slot_at, node_slot, balanced_slot}
use Rattle.hp_air.specs.Unknowns.{Unknown, of_node, balanced_of, unknown_of, constructs}
use Rattle.hp_parfor.specs.Built.{stencil_loop}
use Rattle.hp_parfor.specs.Parts.{Part, Does, Loops, loop_reads, loop_writes}

-- A part over the unknowns that its slots stand for. What a loop reads are its leader, its inputs and its halos' arrays.
unfoldable pub part_step : List Slot → Part → Step Unknown
part_step slots (Does op) = step_of (renamed (λ k. unknown_of (slot_at slots k)) (arrays_of op.what))
part_step slots (Loops p) =
    Loop (map (λ k. unknown_of (slot_at slots k)) (loop_writes p)) (map (λ k. unknown_of (slot_at slots k)) (loop_reads p)) (map (λ f. f.kind) p.folds)

-- the program with these slots carries the script
abbrev pub CarriedParts : Typed → List Slot → Prog Part → Type 0
CarriedParts typed slots p = CarriedBy (constructs typed) (map (part_step slots) (operations p))

-- ---- a worked row

-- the loop of a stencil reads the balanced copy, as its leader and round each place
stencil_row : (at : Place) (elem : Elem)
    → part_step (node_slot 0 0 ∷ node_slot 3 0 ∷ balanced_slot 3 ∷ []) (Loops (stencil_loop at 1 2 1 elem)) ≡ Loop (of_node 3 0 ∷ []) (balanced_of 3 ∷ balanced_of 3 ∷ []) []
unfolding part_step
stencil_row at elem = refl
