-- Worked rows: what three scripts do with their arrays, and programs that carry them.
use Rattle.std.specs.Prelude.{◌≡◌, ℕ, pos, true, false, List, [], ◌∷◌, map, count_by, slice_get, zero, suc, codes, Some, None, refl}
use Rattle.std.specs.List.{AllZip}
use Rattle.hp_word.specs.declared.fold.FoldKind.{FoldKind}
use Rattle.hp_word.specs.declared.fold.FoldKind.TheVariants as folds
use Rattle.hp_word.specs.declared.place.Place.{Place}
use Rattle.hp_script.specs.declared.tree.BinOp.TheVariants.{Add, Gt}
use Rattle.hp_script.specs.declared.tree.UnOp.TheVariants.{Neg}
use Rattle.hp_script.specs.declared.typed.Shape.{Shape}
use Rattle.hp_script.specs.declared.typed.Shape.TheVariants as shape
use Rattle.hp_script.specs.declared.typed.Var.{Var}
use Rattle.hp_script.specs.Functions.{function_named, scalar_named, fold_named, array_named, frame_named}
use Rattle.hp_script.specs.Mirror.{Head, head, Tree, Block, number, variable, column, field, unary, binary, index, call, none, plain, range, lambda, named, done, assign, print}
use Rattle.hp_script.specs.Trees as trees
use Rattle.hp_air.specs.Arrays.{Arrays, Scalar, Fill, Range, Copy, Map, Reduce, Stencil, Filter, At, Frame, PrintWord, PrintList, outs, sides, is_variant}
use Rattle.hp_air.specs.Unknowns.{Unknown, of_variable, of_node, balanced_of, Known, constructs_of, constructs_in, constructs_among, call_arrays, variables_from, nodes_from, unknowns_among, same_unknown}
use Rattle.hp_air.specs.Carried.{IsSource, step_of, is_kind, itself, copied_from, scalar_reads, construct_reads, at_reads, copy_reads, copy_of, word_reads, list_reads, map_read, stencil_read, fold_read, plain_step, loop_step, word_output, list_output, CarriedBy, IsLoopOf, map_loop, stencil_loop, no_loop}

-- ---- short forms

abbrev at : Place
at = record { line = 1; col = 1 }

abbrev h : ℕ → Head
h id = head id at

abbrev var : List ℕ → Shape → Var
var name found = record { name = trees.named name; shape = found }

abbrev x : List ℕ
x = codes "x"

abbrev y : List ℕ
y = codes "y"

-- an expression's array
abbrev n : ℕ → Unknown
n k = of_node k 0

-- a variable's array
abbrev v : ℕ → Unknown
v k = of_variable k 0

-- a copy of one array
abbrev copy : Unknown → Unknown → Arrays Unknown
copy out from = Copy (out ∷ []) (from ∷ [])

-- ---- the sum of an array: `x = fill(3, 10)`, `println(sum(x))`

abbrev sum_known : Known
sum_known = record { shapes = Some shape.Ints ∷ Some shape.Int ∷ Some shape.Int ∷ Some shape.Int ∷ Some shape.Ints ∷ []; vars = var x shape.Ints ∷ [] }

abbrev sum_script : Block
sum_script =
    assign at x (call (h 0) (codes "fill") false (plain (number (h 1) (pos 3)) (plain (number (h 2) (pos 10)) none)))
    (print at (call (h 3) (codes "sum") false (plain (variable (h 4) x) none)) done)

abbrev sum_arrays : List (Arrays Unknown)
sum_arrays = Fill (n 0) ∷ copy (v 0) (n 0) ∷ copy (n 4) (v 0) ∷ Reduce folds.Sum (n 4) ∷ PrintWord ∷ []

sum_constructs : constructs_of sum_known sum_script ≡ sum_arrays
unfolding constructs_of constructs_in constructs_among call_arrays function_named scalar_named fold_named array_named frame_named
sum_constructs = refl

-- the program that normalization gives: two constants besides
abbrev sum_program : List (Arrays Unknown)
sum_program = Scalar ∷ Scalar ∷ Fill (n 0) ∷ copy (v 0) (n 0) ∷ copy (n 4) (v 0) ∷ Reduce folds.Sum (n 4) ∷ PrintWord ∷ []

sum_folds : (kind : FoldKind) → count_by (is_kind kind) (folds.Sum ∷ []) ≡ count_by (is_kind kind) (folds.Sum ∷ [])
sum_folds kind = refl

-- each reads what its construct reads
sum_carried : CarriedBy sum_arrays (map step_of sum_program)
unfolding outs sides is_variant same_unknown
sum_carried =
    record {
      done = refl;
      reads = (
        plain_step scalar_reads,
        (
          plain_step scalar_reads,
          (
            plain_step (construct_reads (0, refl) refl refl tt),
            (
              plain_step (copy_reads (copy_of refl (copied_from itself (0, refl)), tt)),
              (plain_step (copy_reads (copy_of refl (copied_from itself (1, refl)), tt)), (loop_step refl (fold_read (λ e. absurd cc) (3, refl) itself, tt), (plain_step word_reads, tt))),
            ),
          ),
        ),
      );
      folds = sum_folds;
      elements = refl;
      outputs = (word_output, tt);
    }

-- ---- an element: `x = fill(1, 4)`, `y = x .+ 1`, `println(y[2])`

abbrev element_known : Known
element_known =
    record {
      shapes = Some shape.Ints ∷ Some shape.Int ∷ Some shape.Int ∷ Some shape.Ints ∷ Some shape.Ints ∷ Some shape.Int ∷ Some shape.Ints ∷ Some shape.Int ∷ Some shape.Int ∷ [];
      vars = var x shape.Ints ∷ var y shape.Ints ∷ [];
    }

abbrev element_script : Block
element_script =
    assign at x (call (h 0) (codes "fill") false (plain (number (h 1) (pos 1)) (plain (number (h 2) (pos 4)) none)))
    (assign at y (binary (h 4) Add true (variable (h 3) x) (number (h 5) (pos 1)))
    (print at (index (h 7) (variable (h 6) y) (number (h 8) (pos 2))) done))

abbrev element_arrays : List (Arrays Unknown)
element_arrays = Fill (n 0) ∷ copy (v 0) (n 0) ∷ copy (n 3) (v 0) ∷ Map (n 4) (n 3 ∷ []) ∷ copy (v 1) (n 4) ∷ copy (n 6) (v 1) ∷ At (n 6) ∷ PrintWord ∷ []

element_constructs : constructs_of element_known element_script ≡ element_arrays
unfolding constructs_of constructs_in constructs_among call_arrays function_named scalar_named fold_named array_named frame_named
element_constructs = refl

-- a program without the copies
abbrev element_program : List (Arrays Unknown)
element_program = Fill (n 0) ∷ Map (n 4) (n 0 ∷ []) ∷ At (n 4) ∷ PrintWord ∷ []

-- what is read is what was copied
element_carried : CarriedBy element_arrays (map step_of element_program)
unfolding outs sides is_variant same_unknown
element_carried =
    record {
      done = refl;
      reads = (
        plain_step (construct_reads (0, refl) refl refl tt),
        (
          loop_step refl (map_read (3, refl) refl (0, refl) (copied_from (copied_from itself (1, refl)) (0, refl)), tt),
          (plain_step (at_reads (6, refl) (copied_from (copied_from itself (3, refl)) (2, refl))), (plain_step word_reads, tt)),
        ),
      );
      folds = λ kind. refl;
      elements = refl;
      outputs = (word_output, tt);
    }

-- the map of the program is that of the construct, over an array that was copied
element_loop : IsLoopOf element_arrays (Map (n 4) (n 0 ∷ []))
element_loop = map_loop (3, refl) (copied_from (copied_from itself (1, refl)) (0, refl), tt)

-- a map of two ins is none of a construct with one array
two_ins : (k : ℕ) (us : List Unknown) → slice_get (Map (n 4) (n 3 ∷ []) ∷ []) k ≡ Some (Map (n 4) us) → AllZip (IsSource (Map (n 4) (n 3 ∷ []) ∷ [])) us (n 3 ∷ n 3 ∷ []) → ⊥
two_ins k [] item alike = alike
two_ins k (u ∷ []) item alike = alike.1
two_ins zero (u ∷ w ∷ us) item alike = absurd cc
two_ins (suc k) (u ∷ w ∷ us) item alike = absurd cc

two_ins_row : IsLoopOf (Map (n 4) (n 3 ∷ []) ∷ []) (Map (n 4) (n 3 ∷ n 3 ∷ [])) → ⊥
two_ins_row (map_loop {us = us} item alike) = two_ins item.0 us item.1 alike
two_ins_row (no_loop e) = absurd cc

-- ---- a stencil of a filtered column: `f = DataFrame(v = collect(1:8))`, `g = filter(f, :v .> 4)`,
-- `s = stencil(x -> x[-1] + x[0] + x[1], g.v)`, `println(s)`

abbrev column_name : List ℕ
column_name = codes "v"

abbrev frame : Shape
frame = shape.Frame (trees.named column_name ∷ [])

abbrev stencil_known : Known
stencil_known =
    record {
      shapes =
          Some frame ∷ Some shape.Ints ∷ Some shape.Int ∷ Some shape.Int ∷ Some frame ∷ Some frame ∷ Some shape.Ints ∷ Some shape.Bools ∷ Some shape.Int
          ∷ Some shape.Ints ∷ None ∷ Some shape.Int ∷ Some shape.Int ∷ Some shape.Int ∷ Some shape.Int ∷ None ∷ Some shape.Int ∷ Some shape.Int ∷ Some shape.Int
          ∷ None ∷ Some shape.Int ∷ Some shape.Int ∷ Some shape.Ints ∷ Some shape.Ints ∷ [];
      vars = var (codes "f") frame ∷ var (codes "g") frame ∷ var (codes "s") shape.Ints ∷ [];
    }

abbrev neighbours : Tree
neighbours =
    binary (h 18) Add false
    (binary (h 14) Add false (index (h 11) (variable (h 10) x) (unary (h 12) Neg false (number (h 13) (pos 1)))) (index (h 16) (variable (h 15) x) (number (h 17) (pos 0))))
    (index (h 20) (variable (h 19) x) (number (h 21) (pos 1)))

abbrev stencil_script : Block
stencil_script =
    assign at (codes "f") (call (h 0) (codes "DataFrame") false (named column_name at (call (h 1) (codes "collect") false (range (number (h 2) (pos 1)) (number (h 3) (pos 8)) none)) none))
    (assign at (codes "g") (call (h 4) (codes "filter") false (plain (variable (h 5) (codes "f")) (plain (binary (h 7) Gt true (column (h 6) column_name) (number (h 8) (pos 4))) none)))
    (assign at (codes "s") (call (h 9) (codes "stencil") false (lambda x neighbours (plain (field (h 22) (codes "g") column_name) none)))
    (print at (variable (h 23) (codes "s")) done)))

abbrev stencil_arrays : List (Arrays Unknown)
stencil_arrays =
    Range (n 1) ∷ Frame (n 0 ∷ []) (n 1 ∷ []) ∷ copy (v 0) (n 0) ∷ copy (n 5) (v 0) ∷ copy (n 6) (n 5) ∷ Map (n 7) (n 6 ∷ []) ∷ Filter (n 4 ∷ []) (n 5 ∷ []) (n 7)
    ∷ copy (v 1) (n 4) ∷ copy (n 22) (v 1) ∷ Stencil (n 9) (n 22) (balanced_of 9) ∷ copy (v 2) (n 9) ∷ copy (n 23) (v 2) ∷ PrintList (n 23) ∷ []

stencil_constructs : constructs_of stencil_known stencil_script ≡ stencil_arrays
unfolding constructs_of constructs_in constructs_among call_arrays function_named scalar_named fold_named array_named frame_named
stencil_constructs = refl

-- the variables, the values of expressions, and the stencil's balanced copy
stencil_unknowns : unknowns_among stencil_known stencil_arrays ≡ v 0 ∷ v 1 ∷ v 2 ∷ n 0 ∷ n 1 ∷ n 4 ∷ n 5 ∷ n 6 ∷ n 7 ∷ n 9 ∷ n 22 ∷ n 23 ∷ balanced_of 9 ∷ []
unfolding variables_from nodes_from
stencil_unknowns = refl

abbrev stencil_program : List (Arrays Unknown)
stencil_program =
    Range (n 1) ∷ Frame (n 0 ∷ []) (n 1 ∷ []) ∷ Map (n 7) (n 0 ∷ []) ∷ Filter (n 4 ∷ []) (n 0 ∷ []) (n 7) ∷ Stencil (n 9) (n 4) (balanced_of 9) ∷ PrintList (n 9) ∷ []

-- the column in the mask, and what is filtered, are copies of the frame
stencil_carried : CarriedBy stencil_arrays (map step_of stencil_program)
unfolding outs sides is_variant same_unknown
stencil_carried =
    record {
      done = refl;
      reads = (
        plain_step (construct_reads (0, refl) refl refl tt),
        (
          plain_step (construct_reads (1, refl) refl refl ((itself, tt), tt)),
          (
            loop_step refl (map_read (5, refl) refl (0, refl) (copied_from (copied_from (copied_from itself (2, refl)) (1, refl)) (0, refl)), tt),
            (
              plain_step (construct_reads (6, refl) refl refl ((copied_from (copied_from itself (1, refl)) (0, refl), tt), ((itself, tt), tt))),
              (loop_step refl (stencil_read (9, refl) refl (copied_from (copied_from itself (4, refl)) (3, refl)), tt), (plain_step list_reads, tt)),
            ),
          ),
        ),
      );
      folds = λ kind. refl;
      elements = refl;
      outputs = (list_output (copied_from (copied_from itself (6, refl)) (5, refl)), tt);
    }

-- the stencil of the program is that of the construct, over an array that was copied twice
stencil_row : IsLoopOf stencil_arrays (Stencil (n 9) (n 4) (balanced_of 9))
stencil_row = stencil_loop (9, refl) (copied_from (copied_from itself (4, refl)) (3, refl))

-- a stencil over an array that was not copied is none of the construct
other_array : (k : ℕ) (u : Unknown) → slice_get (Stencil (n 9) (n 4) (balanced_of 9) ∷ []) k ≡ Some (Stencil (n 9) u (balanced_of 9)) → IsSource (Stencil (n 9) (n 4) (balanced_of 9) ∷ []) u (n 6) → ⊥
other_array zero u item itself = absurd cc
other_array (suc k) u item itself = absurd cc
other_array k u item (copied_from source copied) = absurd cc

other_array_row : IsLoopOf (Stencil (n 9) (n 4) (balanced_of 9) ∷ []) (Stencil (n 9) (n 6) (balanced_of 9)) → ⊥
other_array_row (stencil_loop {u = u} item source) = other_array item.0 u item.1 source
other_array_row (no_loop e) = absurd cc

-- a program that leaves the stencil out is none that carries the script
left_out_row : CarriedBy stencil_arrays (map step_of (Range (n 1) ∷ Frame (n 0 ∷ []) (n 1 ∷ []) ∷ Map (n 7) (n 0 ∷ []) ∷ Filter (n 4 ∷ []) (n 0 ∷ []) (n 7) ∷ PrintList (n 9) ∷ [])) → ⊥
unfolding outs sides is_variant same_unknown
left_out_row carried = let no : false ≡ true = carried.done in absurd cc
