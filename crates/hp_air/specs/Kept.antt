-- What every program of the array IR keeps: of its slots, of each operation, and of its size.
use Rattle.std.specs.Prelude.{◌≡◌, ℕ, ◌+◌, ◌==◌, ℤ, pos, negsuc, neg_ℤ, nat_lt, int_le, Bool, true, false, not, ◌&&◌, ◌||◌, if◌then◌else◌, List, [], ◌∷◌, ◌++◌, take, zip, length, count_by, sum_by, slice_get, Option, Some, None, refl}
use Rattle.std.specs.List.{list_any, list_all}
use Rattle.std.specs.Option.{is_some}
use Rattle.hp_word.specs.declared.elem.Elem.{Elem}
use Rattle.hp_word.specs.declared.elem.Elem.TheVariants.{Number, Word, Input, Near, Earlier, Calc', Both', Either'}
use Rattle.hp_word.specs.declared.elem.Elem.TheBlock.{Row_of-Elem, end_of-Elem, more_of-Elem}
use Rattle.hp_word.specs.declared.table.Measure.{Measure}
use Rattle.hp_word.specs.declared.table.MeasureKind.TheVariants.{Count}
use Rattle.hp_program.specs.Programs.{Prog, operations, tests}
use Rattle.hp_air.specs.declared.slot.Slot.{Slot}
use Rattle.hp_air.specs.declared.what.Op.{Op}
use Rattle.hp_air.specs.declared.what.What.{What}
use Rattle.hp_air.specs.declared.what.What.TheVariants as what
use Rattle.hp_air.specs.Arrays.{Arrays, Scalar, Length, Fill, Range, Read, Copy, Map, Reduce, Scan, Stencil, Filter, Join, Group, Concat, Sort, At, Pick, Frame, Stack, Row, Product, ProductT, PrintWord, PrintList, Export, arrays_of, outs, reads}
use Rattle.hp_air.specs.Frames.{numbers_of, slot_at, is_one_node, is_one_frame, frame_of, node_slot, balanced_slot}

-- ---- slots

-- a slot holds the value of an expression or that of a variable; a balanced copy stands beside the value of a stencil
abbrev pub stands_for_one : Slot → Bool
stands_for_one s = (is_some s.node && not (is_some s.var)) || (not (is_some s.node) && is_some s.var && not s.balanced)

-- the columns of a frame are numbered in the order of their slots
abbrev pub is_in_order : List Slot → ℕ → Bool
is_in_order slots k =
    (if (slot_at slots k).balanced then 1 else count_by (is_one_frame (slot_at slots k)) (take k slots)) == (slot_at slots k).column

abbrev pub are_slots : List Slot → Bool
are_slots slots = list_all stands_for_one slots && list_all (is_in_order slots) (numbers_of slots)

-- ---- names

-- no further than this before or behind
abbrev pub is_near : ℤ → (reach : Option ℕ) → Bool
is_near by None = false
is_near by (Some reach) = int_le by (pos reach) && int_le (neg_ℤ by) (pos reach)

-- The element of a loop with so many words, inputs and lets before it, and with halos of these reaches: it names what
-- there is, and looks no further than the reach of a halo.
unfoldable mutual
  pub elem_fits : (words inputs : ℕ) (reaches : List ℕ) (lets : ℕ) → Elem → Bool
  elem_fits words inputs reaches lets (Number n) = true
  elem_fits words inputs reaches lets (Word w) = nat_lt w words
  elem_fits words inputs reaches lets (Input k) = nat_lt k inputs
  elem_fits words inputs reaches lets (Near k by) = is_near by (slice_get reaches k)
  elem_fits words inputs reaches lets (Earlier k) = nat_lt k lets
  elem_fits words inputs reaches lets (Calc' op at p a q b) = part_fits words inputs reaches lets a && part_fits words inputs reaches lets b
  elem_fits words inputs reaches lets (Both' p a q b) = part_fits words inputs reaches lets a && part_fits words inputs reaches lets b
  elem_fits words inputs reaches lets (Either' p a q b) = part_fits words inputs reaches lets a && part_fits words inputs reaches lets b

  -- all elements of a row; a part is held as the only one
  pub part_fits : {n : _} → (words inputs : ℕ) (reaches : List ℕ) (lets : ℕ) → Row_of-Elem n → Bool
  part_fits words inputs reaches lets end_of-Elem = true
  part_fits words inputs reaches lets (more_of-Elem e rest) = part_fits words inputs reaches lets rest && elem_fits words inputs reaches lets e

-- the element of an operation
abbrev pub has_elem : (words : ℕ) → What → Bool
has_elem words (what.Map out ins elem) = elem_fits words (length ins) [] 0 elem
has_elem words (what.Reduce to kind array elem) = elem_fits words 1 [] 0 elem
has_elem words (what.Stencil out array balanced reach elem) = elem_fits words 0 (reach ∷ []) 0 elem
has_elem words _ = true

-- the words that an operation names outside of its element
abbrev pub words_in : What → List ℕ
words_in (what.Const to value) = to ∷ []
words_in (what.Calc to op left right) = to ∷ left ∷ right ∷ []
words_in (what.Length to array) = to ∷ []
words_in (what.Fill out value count) = value ∷ count ∷ []
words_in (what.Range out first last) = first ∷ last ∷ []
words_in (what.Reduce to kind array elem) = to ∷ []
words_in (what.At to array index) = to ∷ index ∷ []
words_in (what.Row out matrix index) = index ∷ []
words_in (what.PrintWord word truth) = word ∷ []
words_in _ = []

abbrev pub are_below : ℕ → List ℕ → Bool
are_below count ks = list_all (λ k. nat_lt k count) ks

-- the slots that an operation writes or reads
abbrev pub slots_in : What → List ℕ
slots_in op = outs (arrays_of op) ++ reads (arrays_of op)

-- every slot and word of an operation is one of the program's
abbrev pub is_within : List Slot → (words : ℕ) → What → Bool
is_within slots words op = are_below (length slots) (slots_in op) && are_below words (words_in op) && has_elem words op

-- ---- lists

abbrev pub has_some : {A : Type 0} → List A → Bool
has_some [] = false
has_some (x ∷ xs) = true

-- two lists of one length, with some item
abbrev pub are_paired : {A B : Type 0} → List A → List B → Bool
are_paired xs ys = has_some xs && length xs == length ys

-- a measure is of one of so many columns; a count is of none
abbrev pub is_measure_of : ℕ → Measure → Bool
is_measure_of columns m = elim m.kind [ Count ↦ true | _ ↦ nat_lt m.column columns ]

-- no list is empty, lists that go together are of one length, and a key and a measured column are positions in their lists
unfoldable pub has_lists : What → Bool
has_lists (what.Read os table) = has_some os
has_lists (what.Copy os ins) = are_paired os ins
has_lists (what.Map out ins elem) = has_some ins
has_lists (what.Filter os ins mask) = are_paired os ins
-- one out fewer than columns on both sides, which share the key
has_lists (what.Join os lefts left_key rights right_key) = length os + 1 == length lefts + length rights && nat_lt left_key (length lefts) && nat_lt right_key (length rights)
-- one out more than measures, for the key
has_lists (what.Group os ins key measures) = has_some measures && length os == length measures + 1 && nat_lt key (length ins) && list_all (is_measure_of (length ins)) measures
has_lists (what.Sort os ins key) = are_paired os ins && nat_lt key (length ins)
has_lists (what.Frame os ins) = are_paired os ins
has_lists (what.Stack out ins) = has_some ins
has_lists (what.Export arrays names) = are_paired arrays names
has_lists _ = true

-- ---- what an operation writes

abbrev pub is_one_of : List ℕ → ℕ → Bool
is_one_of ks k = list_any (λ j. j == k) ks

abbrev pub are_distinct : List ℕ → Bool
are_distinct [] = true
are_distinct (k ∷ ks) = not (is_one_of ks k) && are_distinct ks

abbrev pub is_copy : Arrays ℕ → Bool
is_copy (Copy os ins) = true
is_copy _ = false

-- no operation writes a slot twice, and none but a copy reads a slot that it writes
abbrev pub is_apart : Arrays ℕ → Bool
is_apart a = are_distinct (outs a) && (is_copy a || not (list_any (is_one_of (reads a)) (outs a)))

-- ---- frames

abbrev pub are_equal : List ℕ → List ℕ → Bool
are_equal [] [] = true
are_equal (j ∷ js) (k ∷ ks) = j == k && are_equal js ks
are_equal _ _ = false

-- the arrays of the value that an operation makes; the balanced copy of a stencil stands beside it
abbrev pub values : Arrays ℕ → List ℕ
values (Stencil out array balanced) = out ∷ []
values a = outs a

-- the sides of an operation that are frames
abbrev pub frame_sides : Arrays ℕ → List (List ℕ)
frame_sides (Copy os ins) = ins ∷ []
frame_sides (Filter os ins mask) = ins ∷ []
frame_sides (Join os lefts rights) = lefts ∷ rights ∷ []
frame_sides (Group os ins) = ins ∷ []
frame_sides (Sort os ins) = ins ∷ []
frame_sides (Export arrays) = arrays ∷ []
frame_sides _ = []

-- all slots of one frame, in their order
abbrev pub is_frame : List Slot → List ℕ → Bool
is_frame slots [] = true
is_frame slots (k ∷ ks) = are_equal (frame_of slots k) (k ∷ ks)

-- a single slot, or all of one frame
abbrev pub is_side : List Slot → List ℕ → Bool
is_side slots (k ∷ []) = true
is_side slots ks = is_frame slots ks

-- a value is made whole, all columns of its frame at once, and what is read as a frame is a whole one or a single column
abbrev pub has_frames : List Slot → Arrays ℕ → Bool
has_frames slots a = is_frame slots (values a) && list_all (is_side slots) (frame_sides a)

-- ---- balanced copies

abbrev pub none_balanced : List Slot → List ℕ → Bool
none_balanced slots ks = not (list_any (λ k. (slot_at slots k).balanced) ks)

-- a balanced copy stands in stencils alone, as that of the expression whose value the stencil makes
abbrev pub has_copy : List Slot → Arrays ℕ → Bool
has_copy slots (Stencil out array balanced) =
    (slot_at slots balanced).balanced && is_one_node (slot_at slots balanced).node (slot_at slots out).node && none_balanced slots (out ∷ array ∷ [])
has_copy slots a = none_balanced slots (outs a ++ reads a)

-- ---- matrices

abbrev pub is_matrix : List Slot → ℕ → Bool
is_matrix slots k = (slot_at slots k).matrix

abbrev pub none_matrix : List Slot → List ℕ → Bool
none_matrix slots ks = not (list_any (is_matrix slots) ks)

-- the in of a copy is a matrix where its out is
abbrev pub are_both : List Slot → ℕ × ℕ → Bool
are_both slots p = if is_matrix slots p.0 then is_matrix slots p.1 else not (is_matrix slots p.1)

-- matrices stand where the operation is on matrices, and there alone
abbrev pub has_matrices : List Slot → Arrays ℕ → Bool
has_matrices slots (Copy os ins) = list_all (are_both slots) (zip os ins)
has_matrices slots (Stack out ins) = is_matrix slots out && none_matrix slots ins
has_matrices slots (Row out matrix) = is_matrix slots matrix && none_matrix slots (out ∷ [])
has_matrices slots (Product out left right) = list_all (is_matrix slots) (out ∷ left ∷ right ∷ [])
has_matrices slots (ProductT out left right) = list_all (is_matrix slots) (out ∷ left ∷ right ∷ [])
has_matrices slots a = none_matrix slots (outs a ++ reads a)

-- ---- operations and programs

-- what an operation keeps
abbrev pub is_kept : List Slot → (words : ℕ) → What → Bool
is_kept slots words op =
    is_within slots words op && has_lists op && is_apart (arrays_of op) && has_frames slots (arrays_of op) && has_copy slots (arrays_of op)
    && has_matrices slots (arrays_of op)

-- each operation keeps its laws, and the words that are looked at are the program's
abbrev pub are_kept : List Slot → (words : ℕ) → Prog Op → Bool
are_kept slots words p = list_all (λ op. is_kept slots words op.what) (operations p) && are_below words (tests p)

-- ---- sizes

-- how many arrays of an operation can each need a move
unfoldable pub moves_in : What → ℕ
moves_in (what.Map out ins elem) = length ins
moves_in (what.Frame os ins) = length ins
moves_in (what.Stack out ins) = length ins
moves_in _ = 0

-- the items of an operation's lists
unfoldable pub items_in : What → ℕ
items_in (what.Read os table) = length os
items_in (what.Copy os ins) = length os + length ins
items_in (what.Map out ins elem) = length ins
items_in (what.Filter os ins mask) = length os + length ins
items_in (what.Join os lefts left_key rights right_key) = length os + length lefts + length rights
items_in (what.Group os ins key measures) = length os + length ins + length measures
items_in (what.Sort os ins key) = length os + length ins
items_in (what.Frame os ins) = length os + length ins
items_in (what.Stack out ins) = length ins
items_in (what.Export arrays names) = length arrays + length names
items_in _ = 0

-- operations, branches and loops at all depths, and the arrays that can need a move
unfoldable pub size_of : Prog Op → ℕ
size_of p = length (operations p) + length (tests p) + sum_by (λ op. moves_in op.what) (operations p)

-- slots, words and the items of all lists
unfoldable pub names_of : List Slot → (words : ℕ) → Prog Op → ℕ
names_of slots words p = length slots + words + sum_by (λ op. items_in op.what) (operations p)

-- ---- worked rows

-- a map that writes what it reads, and a copy that does
apart_rows : (is_apart (Map 0 (0 ∷ 1 ∷ [])) ≡ false) × (is_apart (Copy (0 ∷ 1 ∷ []) (1 ∷ 0 ∷ [])) ≡ true)
unfolding outs Rattle.hp_air.specs.Arrays.sides
apart_rows = (refl, refl)

-- the balanced copy of another expression's stencil
copy_rows : (has_copy (node_slot 3 0 ∷ node_slot 0 0 ∷ balanced_slot 3 ∷ []) (Stencil 0 1 2) ≡ true) × (has_copy (node_slot 3 0 ∷ node_slot 0 0 ∷ balanced_slot 4 ∷ []) (Stencil 0 1 2) ≡ false)
copy_rows = (refl, refl)

-- a distance past the reach
near_rows : (elem_fits 0 0 (1 ∷ []) 0 (Near 0 (negsuc 0)) ≡ true) × (elem_fits 0 0 (1 ∷ []) 0 (Near 0 (negsuc 1)) ≡ false)
unfolding elem_fits
near_rows = (refl, refl)

-- the columns of a frame in their order
order_rows : (are_slots (node_slot 3 0 ∷ node_slot 3 1 ∷ []) ≡ true) × (are_slots (node_slot 3 1 ∷ node_slot 3 0 ∷ []) ≡ false)
order_rows = (refl, refl)

-- one column of a frame of two is not made alone, but may be read alone
frame_rows : (has_frames (node_slot 3 0 ∷ node_slot 3 1 ∷ node_slot 4 0 ∷ []) (Fill 0) ≡ false) × (has_frames (node_slot 3 0 ∷ node_slot 3 1 ∷ node_slot 4 0 ∷ []) (Copy (2 ∷ []) (1 ∷ [])) ≡ true)
unfolding outs
frame_rows = (refl, refl)
