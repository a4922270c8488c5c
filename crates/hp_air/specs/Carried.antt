-- Which programs carry a script: each of its array constructs is one step, whatever passes went over the program. The
-- steps are compared with the script alone, by what they write, read and fold.
use Rattle.std.specs.Prelude.{◌≡◌, ◌≢◌, ℕ, ◌==◌, Bool, true, false, not, ◌&&◌, ◌||◌, List, [], ◌∷◌, ◌++◌, map, flat_map, filter, zip, length, count_by, slice_get, Option, Some, None, IsTrue}
use Rattle.std.specs.List.{list_any, list_all, AllByRecursion, AllZip}
use Rattle.hp_word.specs.declared.fold.FoldKind.{FoldKind}
use Rattle.hp_word.specs.declared.fold.FoldKind.TheVariants as folds
use Rattle.hp_script.specs.declared.typed.Typed.{Typed}
use Rattle.hp_program.specs.Programs.{Prog, operations}
use Rattle.hp_air.specs.declared.slot.Slot.{Slot}
use Rattle.hp_air.specs.declared.what.Op.{Op}
use Rattle.hp_air.specs.Arrays.{Arrays, Scalar, Length, Fill, Range, Read, Copy, Map, Reduce, Scan, Stencil, Filter, Join, Group, Concat, Sort, At, Pick, Frame, Stack, Row, Product, ProductT, PrintWord, PrintList, Export, arrays_of, outs, sides, reads, renamed, is_variant}
use Rattle.hp_air.specs.Frames.{slot_at}
use Rattle.hp_air.specs.Unknowns.{Unknown, balanced_of, same_unknown, unknown_of, constructs}

-- ---- steps

-- A step of a program by its arrays: a loop, with what it writes, its leader and inputs, and its folds; or an operation.
pub data Step (X : Type 0) : Type 0 where
  Loop : (writes inputs : List X) → List FoldKind → Step X
  Plain : Arrays X → Step X

-- in the array IR a map, a reduction and a stencil are loops
abbrev pub step_of : {X : Type 0} → Arrays X → Step X
step_of (Map out ins) = Loop (out ∷ []) ins []
step_of (Reduce kind array) = Loop [] (array ∷ []) (kind ∷ [])
step_of (Stencil out array balanced) = Loop (out ∷ []) (array ∷ []) []
step_of a = Plain a

-- what a step reads
abbrev pub step_reads : {X : Type 0} → Step X → List X
step_reads (Loop writes inputs kinds) = inputs
step_reads (Plain a) = reads a

-- ---- unknowns among others

-- an item of a list
abbrev pub IsItem : {A : Type 0} → List A → A → Type 0
IsItem xs x = (k : ℕ) × (slice_get xs k ≡ Some x)

abbrev pub is_among : List Unknown → Unknown → Bool
is_among us u = list_any (same_unknown u) us

abbrev pub are_same : List Unknown → List Unknown → Bool
are_same [] [] = true
are_same (u ∷ us) (v ∷ vs) = same_unknown u v && are_same us vs
are_same _ _ = false

-- ---- sources

-- what a construct copies: an out beside its in
abbrev pub pairs_copied : Arrays Unknown → List (Unknown × Unknown)
pairs_copied (Copy os ins) = zip os ins
pairs_copied _ = []

abbrev pub copies : List (Arrays Unknown) → List (Unknown × Unknown)
copies cs = flat_map pairs_copied cs

-- The sources of an unknown: the least set that has it and, of each copy of the script whose out is in it, the in.
pub data IsSource (cs : List (Arrays Unknown)) (u : Unknown) : Unknown → Type 0 where
  itself : IsSource cs u u
  copied_from : {v w : Unknown} → IsSource cs u v → IsItem (copies cs) (v, w) → IsSource cs u w

-- ---- steps of constructs

-- the constructs that are steps of their own, no loops
abbrev pub is_plain : Arrays Unknown → Bool
is_plain (Fill out) = true
is_plain (Range out) = true
is_plain (Read os) = true
is_plain (Scan out array) = true
is_plain (Filter os ins mask) = true
is_plain (Join os lefts rights) = true
is_plain (Group os ins) = true
is_plain (Concat out left right) = true
is_plain (Sort os ins) = true
is_plain (Pick out array index) = true
is_plain (Frame os ins) = true
is_plain (Stack out ins) = true
is_plain (Row out matrix) = true
is_plain (Product out left right) = true
is_plain (ProductT out left right) = true
is_plain _ = false

-- the result of a map or of a stencil, which a loop writes
abbrev pub looped_of : Arrays Unknown → Option Unknown
looped_of (Map out ins) = Some out
looped_of (Stencil out array balanced) = Some out
looped_of _ = None

-- a step of the variant of a construct that writes the arrays of its value
abbrev pub is_plain_step : Arrays Unknown → Step Unknown → Bool
is_plain_step c (Plain a) = is_variant a c && are_same (outs a) (outs c)
is_plain_step c (Loop writes inputs kinds) = false

-- a loop that writes this
abbrev pub is_loop_step : Unknown → Step Unknown → Bool
is_loop_step out (Loop writes inputs kinds) = is_among writes out
is_loop_step out (Plain a) = false

-- how many steps do a construct
abbrev pub steps_for : Arrays Unknown → List (Step Unknown) → ℕ
steps_for c steps = elim (looped_of c) [ None ↦ count_by (is_plain_step c) steps | Some out ↦ count_by (is_loop_step out) steps ]

-- the constructs that may be left out where nothing reads what they make
abbrev pub may_be_left_out : Arrays Unknown → Bool
may_be_left_out (Read os) = true
may_be_left_out (Scan out array) = true
may_be_left_out (Sort os ins) = true
may_be_left_out (Stencil out array balanced) = true
may_be_left_out (Map out ins) = length ins == 1
may_be_left_out _ = false

-- no step reads what the construct makes
abbrev pub is_unread : Arrays Unknown → List (Step Unknown) → Bool
is_unread c steps = not (list_any (λ s. list_any (is_among (outs c)) (step_reads s)) steps)

-- the constructs that a step stands for
abbrev pub is_made : Arrays Unknown → Bool
is_made (Map out ins) = true
is_made (Stencil out array balanced) = true
is_made c = is_plain c

-- exactly one step does the construct; or none, where it may be left out and nothing reads it
abbrev pub is_done : List (Step Unknown) → Arrays Unknown → Bool
is_done steps c = not (is_made c) || steps_for c steps == 1 || (steps_for c steps == 0 && may_be_left_out c && is_unread c steps)

-- ---- what steps read

abbrev pub is_balanced : Unknown → Bool
is_balanced (balanced_of node) = true
is_balanced _ = false

-- what a copy reads is a source of what it writes, and what a copy to a balanced copy reads one of the stencil's array
pub data CopyReads (cs : List (Arrays Unknown)) : (out x : Unknown) → Type 0 where
  copy_of : {out x : Unknown} → is_balanced out ≡ false → IsSource cs out x → CopyReads cs out x
  copy_to_balanced : {out array x : Unknown} {node : ℕ} → IsItem cs (Stencil out array (balanced_of node)) → IsSource cs array x → CopyReads cs (balanced_of node) x

-- `Reads cs a`: what an operation that is no loop reads are sources of what its construct reads.
pub data Reads (cs : List (Arrays Unknown)) : Arrays Unknown → Type 0 where
  -- words alone
  scalar_reads : Reads cs Scalar
  -- the step of a construct, side by side
  construct_reads : {a c : Arrays Unknown} → IsItem cs c → IsTrue (is_plain c) → IsTrue (is_plain_step c (Plain a)) → AllZip (AllZip (IsSource cs)) (sides c) (sides a) → Reads cs a
  -- the array of some `length`, or a column of the frame of some `nrow`
  length_reads : {x u : Unknown} → IsItem cs (Length u) → IsSource cs u x → Reads cs (Length x)
  -- the array of some `a[i]`
  at_reads : {x u : Unknown} → IsItem cs (At u) → IsSource cs u x → Reads cs (At x)
  copy_reads : {os ins : List Unknown} → AllZip (CopyReads cs) os ins → Reads cs (Copy os ins)
  -- an output is compared with its statement
  word_reads : Reads cs PrintWord
  list_reads : {x : Unknown} → Reads cs (PrintList x)
  export_reads : {xs : List Unknown} → Reads cs (Export xs)

-- `LoopReads cs writes kinds x`: the leader, or an input, of a loop that writes these and has these folds.
pub data LoopReads (cs : List (Arrays Unknown)) (writes : List Unknown) (kinds : List FoldKind) : Unknown → Type 0 where
  -- a balanced copy
  balanced_read : {node : ℕ} → LoopReads cs writes kinds (balanced_of node)
  -- a source of an array of a map whose result the loop writes
  map_read : {out u x : Unknown} {ins : List Unknown} → IsItem cs (Map out ins) → IsTrue (is_among writes out) → IsItem ins u → IsSource cs u x → LoopReads cs writes kinds x
  -- a source of the array of a stencil whose result the loop writes
  stencil_read : {out u balanced x : Unknown} → IsItem cs (Stencil out u balanced) → IsTrue (is_among writes out) → IsSource cs u x → LoopReads cs writes kinds x
  -- where the loop has a fold, a source of the array of a reduction
  fold_read : {kind : FoldKind} {u x : Unknown} → kinds ≢ [] → IsItem cs (Reduce kind u) → IsSource cs u x → LoopReads cs writes kinds x

-- the result of some map or stencil
abbrev pub is_result : List (Arrays Unknown) → Unknown → Bool
is_result cs u = list_any (λ c. elim (looped_of c) [ None ↦ false | Some out ↦ same_unknown out u ]) cs

-- a step of the script: an operation as above, or a loop that writes results of maps and stencils alone
pub data StepReads (cs : List (Arrays Unknown)) : Step Unknown → Type 0 where
  plain_step : {a : Arrays Unknown} → Reads cs a → StepReads cs (Plain a)
  loop_step : {writes inputs : List Unknown} {kinds : List FoldKind}
      → IsTrue (list_all (is_result cs) writes) → AllByRecursion (LoopReads cs writes kinds) inputs → StepReads cs (Loop writes inputs kinds)

-- ---- folds, elements and outputs

abbrev pub is_kind : FoldKind → FoldKind → Bool
is_kind folds.Sum folds.Sum = true
is_kind folds.Prod folds.Prod = true
is_kind folds.Min folds.Min = true
is_kind folds.Max folds.Max = true
is_kind folds.Any folds.Any = true
is_kind folds.All folds.All = true
is_kind _ _ = false

-- the folds of the steps
abbrev pub folds_in : List (Step Unknown) → List FoldKind
folds_in [] = []
folds_in (Loop writes inputs kinds ∷ steps) = kinds ++ folds_in steps
folds_in (Plain a ∷ steps) = folds_in steps

-- the reductions of the script
abbrev pub reductions_in : List (Arrays Unknown) → List FoldKind
reductions_in [] = []
reductions_in (Reduce kind array ∷ cs) = kind ∷ reductions_in cs
reductions_in (_ ∷ cs) = reductions_in cs

abbrev pub is_element : Arrays Unknown → Bool
is_element (At array) = true
is_element _ = false

abbrev pub is_output : Arrays Unknown → Bool
is_output PrintWord = true
is_output (PrintList array) = true
is_output (Export arrays) = true
is_output _ = false

-- the operations among the steps
abbrev pub plain_in : List (Step Unknown) → List (Arrays Unknown)
plain_in [] = []
plain_in (Loop writes inputs kinds ∷ steps) = plain_in steps
plain_in (Plain a ∷ steps) = a ∷ plain_in steps

-- an output statement, and the operation that writes it
pub data Outputs (cs : List (Arrays Unknown)) : (statement operation : Arrays Unknown) → Type 0 where
  word_output : Outputs cs PrintWord PrintWord
  list_output : {u x : Unknown} → IsSource cs u x → Outputs cs (PrintList u) (PrintList x)
  table_output : {us xs : List Unknown} → AllZip (IsSource cs) us xs → Outputs cs (Export us) (Export xs)

-- ---- programs that carry a script

-- The steps carry a script that does this with its arrays: each construct is done by exactly one step; each step reads
-- what it may, and none but copies and the steps of constructs write; there are as many folds of each kind as reductions,
-- and as many elements taken; and the outputs are those of the statements, in order.
pub record CarriedBy (cs : List (Arrays Unknown)) (steps : List (Step Unknown)) : Type 0 where
  pub done : IsTrue (list_all (is_done steps) cs)
  pub reads : AllByRecursion (StepReads cs) steps
  pub folds : (kind : FoldKind) → count_by (is_kind kind) (folds_in steps) ≡ count_by (is_kind kind) (reductions_in cs)
  pub elements : count_by is_element (plain_in steps) ≡ count_by is_element cs
  pub outputs : AllZip (Outputs cs) (filter is_output cs) (filter is_output (plain_in steps))

-- in the array IR the loop of a map is a map with one in for each array, a source of it, and the loop of a stencil is a
-- stencil over a source of its array
pub data IsLoopOf (cs : List (Arrays Unknown)) : Arrays Unknown → Type 0 where
  map_loop : {out : Unknown} {ins us : List Unknown} → IsItem cs (Map out us) → AllZip (IsSource cs) us ins → IsLoopOf cs (Map out ins)
  stencil_loop : {out x u balanced : Unknown} → IsItem cs (Stencil out u balanced) → IsSource cs u x → IsLoopOf cs (Stencil out x balanced)
  no_loop : {a : Arrays Unknown} → looped_of a ≡ None → IsLoopOf cs a

-- the operations of a program over the unknowns that its slots stand for
abbrev pub rows_of : List Slot → Prog Op → List (Arrays Unknown)
rows_of slots p = map (λ op. renamed (λ k. unknown_of (slot_at slots k)) (arrays_of op.what)) (operations p)

-- the program with these slots carries the script
pub record Carried (typed : Typed) (slots : List Slot) (p : Prog Op) : Type 0 where
  pub steps : CarriedBy (constructs typed) (map step_of (rows_of slots p))
  pub loops : AllByRecursion (IsLoopOf (constructs typed)) (rows_of slots p)
