-- What every program with loops keeps: of each operation and loop, and of its size.
use Rattle.std.specs.Prelude.{◌≡◌, ℕ, ◌+◌, pos, negsuc, Bool, true, false, ◌&&◌, List, [], ◌∷◌, ◌++◌, map, length, sum_by, refl}
use Rattle.std.specs.List.{list_all}
use Rattle.hp_word.specs.declared.elem.Elem.{Elem}
use Rattle.hp_word.specs.declared.elem.Elem.TheVariants.{Input, Near, Earlier}
use Rattle.hp_program.specs.Programs.{Prog, operations, tests}
use Rattle.hp_air.specs.declared.slot.Slot.{Slot}
use Rattle.hp_air.specs.declared.what.What.{What}
use Rattle.hp_air.specs.declared.what.What.TheVariants as what
use Rattle.hp_air.specs.Arrays.{arrays_of}
use Rattle.hp_air.specs.Kept.{elem_fits, are_below, is_within, has_lists, are_distinct, is_apart, is_frame, has_frames, none_matrix, has_matrices, moves_in, items_in}
use Rattle.hp_parfor.specs.declared.parfor.Parfor.{Parfor}
use Rattle.hp_parfor.specs.Parts.{Part, Does, Loops, loop_reads, loop_writes, loop_words}

-- ---- loops

-- Each let names what there is, and of the lets only those before it; it looks no further than the reach of a halo.
abbrev pub lets_fit : (words inputs : ℕ) (reaches : List ℕ) (before : ℕ) → List Elem → Bool
lets_fit words inputs reaches before [] = true
lets_fit words inputs reaches before (e ∷ es) = elem_fits words inputs reaches before e && lets_fit words inputs reaches (before + 1) es

-- the lets that outs and folds are made of
abbrev pub loop_values : Parfor → List ℕ
loop_values p = map (λ o. o.value) p.outs ++ map (λ f. f.value) p.folds

-- what a loop names is there
abbrev pub names_loop : List Slot → (words : ℕ) → Parfor → Bool
names_loop slots words p =
    are_below (length slots) (loop_writes p ++ loop_reads p) && are_below words (loop_words p) && are_below (length p.lets) (loop_values p)
    && lets_fit words (length p.inputs) (map (λ h. h.reach) p.halos) 0 p.lets

-- A loop names what there is, and writes no slot and no word twice. Each out is a frame by itself, and no array is a
-- matrix.
abbrev pub is_loop_kept : List Slot → (words : ℕ) → Parfor → Bool
is_loop_kept slots words p =
    names_loop slots words p && are_distinct (loop_writes p) && are_distinct (loop_words p) && list_all (λ k. is_frame slots (k ∷ [])) (loop_writes p)
    && none_matrix slots (loop_writes p ++ loop_reads p)

-- ---- operations

-- no loop: a map, a reduction and a stencil are loops
abbrev pub is_whole : What → Bool
is_whole (what.Map out ins elem) = false
is_whole (what.Reduce to kind array elem) = false
is_whole (what.Stencil out array balanced reach elem) = false
is_whole _ = true

-- what an operation keeps; a balanced copy may stand in it as any other array
abbrev pub is_operation_kept : List Slot → (words : ℕ) → What → Bool
is_operation_kept slots words op =
    is_whole op && is_within slots words op && has_lists op && is_apart (arrays_of op) && has_frames slots (arrays_of op) && has_matrices slots (arrays_of op)

-- ---- programs

abbrev pub is_part_kept : List Slot → (words : ℕ) → Part → Bool
is_part_kept slots words (Does op) = is_operation_kept slots words op.what
is_part_kept slots words (Loops p) = is_loop_kept slots words p

-- each operation and each loop keeps its laws, and the words that are looked at are the program's
abbrev pub are_parts : List Slot → (words : ℕ) → Prog Part → Bool
are_parts slots words p = list_all (is_part_kept slots words) (operations p) && are_below words (tests p)

-- ---- sizes

-- how many arrays of a part can each need a move
unfoldable pub part_moves : Part → ℕ
part_moves (Does op) = moves_in op.what
part_moves (Loops p) = length p.inputs + length p.halos

-- the items of a part's lists
unfoldable pub part_items : Part → ℕ
part_items (Does op) = items_in op.what
part_items (Loops p) = length p.inputs + length p.halos + length p.lets + length p.outs + length p.folds

-- steps at all depths, and the arrays that can need a move
unfoldable pub parts_size : Prog Part → ℕ
parts_size p = length (operations p) + length (tests p) + sum_by part_moves (operations p)

-- slots, words and the items of all lists
unfoldable pub parts_names : List Slot → (words : ℕ) → Prog Part → ℕ
parts_names slots words p = length slots + words + sum_by part_items (operations p)

-- ---- worked rows

-- a let reads those before it, and no further than a halo reaches
lets_row : (lets_fit 0 1 (1 ∷ []) 0 (Input 0 ∷ Earlier 0 ∷ Near 0 (negsuc 0) ∷ []) ≡ true) × (lets_fit 0 1 [] 0 (Earlier 0 ∷ []) ≡ false) × (lets_fit 0 0 (1 ∷ []) 0 (Near 0 (pos 2) ∷ []) ≡ false)
unfolding elem_fits
lets_row = (refl, refl, refl)
