-- Worked rows of what is said of a script in which no rule breaks.
use Rattle.std.specs.Prelude.{◌≡◌, pos, true, false, [], ◌∷◌, codes, Some, None, refl}
use Rattle.hp_word.specs.declared.place.Place.{Place}
use Rattle.hp_script.specs.declared.tree.BinOp.TheVariants.{Ge}
use Rattle.hp_script.specs.declared.typed.Shape.TheVariants.{Int, Ints, Bools, Frame}
use Rattle.hp_script.specs.Breaks.{name_break, column_break, plain_break, named_break, call_break, result_break}
use Rattle.hp_script.specs.Checked.{assigned_in, after, break_in, entries_in, files_of, start_of, first_break}
use Rattle.hp_script.specs.Entries.{plain_entries, named_entries, files_in}
use Rattle.hp_script.specs.Functions.{scalar_named, fold_named, array_named, frame_named, function_named}
use Rattle.hp_script.specs.Mirror.{Head, Block, number, text, variable, column, binary, index, call, none, plain, lambda, named, done, assign}
use Rattle.hp_script.specs.Results.{call_result}
use Rattle.hp_script.specs.Trees as trees
use Rattle.hp_script.specs.Typing.{wanted, inside, plain_argument, named_argument}
use Rattle.hp_script.specs.Walk.{found_of, finds_of, in_turn}

-- `d = read_csv("t.csv", :a, :b)`, `e = aggregate(filter(d, :a .>= 1), :b, n = count())`
abbrev reading : (at : Place) (h : Head) → Block
reading at h =
    assign at (codes "d") (call h (codes "read_csv") false (plain (text h (codes "t.csv")) (plain (column h (codes "a")) (plain (column h (codes "b")) none))))
    (assign at (codes "e") (call h (codes "aggregate") false
    (plain (call h (codes "filter") false (plain (variable h (codes "d")) (plain (binary h Ge true (column h (codes "a")) (number h (pos 1))) none)))
    (plain (column h (codes "b")) (named (codes "n") at (call h (codes "count") false none) none)))) done)

row_of_reading : (at : Place) (h : Head) → first_break (reading at h) ≡ None
unfolding first_break break_in assigned_in found_of finds_of in_turn name_break column_break plain_break named_break call_break result_break scalar_named fold_named array_named frame_named function_named wanted inside plain_argument named_argument call_result
row_of_reading at h = refl

-- its variables, with the columns of the frames
row_of_variables : (at : Place) (h : Head)
    → (after (start_of (reading at h)) (reading at h)).vars
    ≡ record { name = trees.named (codes "d"); shape = Frame (trees.named (codes "a") ∷ trees.named (codes "b") ∷ []) }
    ∷ record { name = trees.named (codes "e"); shape = Frame (trees.named (codes "b") ∷ trees.named (codes "n") ∷ []) } ∷ []
unfolding after assigned_in found_of finds_of in_turn scalar_named fold_named array_named frame_named function_named wanted inside plain_argument named_argument call_result
row_of_variables at h = refl

-- its file and the columns that it reads of it
row_of_files : (at : Place) (h : Head)
    → files_of (reading at h) ≡ record { file = trees.named (codes "t.csv"); columns = trees.named (codes "a") ∷ trees.named (codes "b") ∷ [] } ∷ []
unfolding files_of files_in
row_of_files at h = refl

-- `x = stencil(p -> p[1], fill(1, 2))`
abbrev reaching : (at : Place) (h : Head) → Block
reaching at h =
    assign at (codes "x") (call h (codes "stencil") false (lambda (codes "p") (index h (variable h (codes "p")) (number h (pos 1)))
    (plain (call h (codes "fill") false (plain (number h (pos 1)) (plain (number h (pos 2)) none))) none))) done

-- the types of the call of `stencil`, of `p`, which has none, of `p[1]` and of `1`, and of the call of `fill` with its
-- arguments
row_of_entries : (at : Place) (h : Head)
    → entries_in (start_of (reaching at h)) (reaching at h) ≡ Some Ints ∷ None ∷ Some Int ∷ Some Int ∷ Some Ints ∷ Some Int ∷ Some Int ∷ []
unfolding entries_in assigned_in found_of finds_of in_turn plain_entries scalar_named fold_named array_named frame_named function_named wanted inside plain_argument call_result
row_of_entries at h = refl

-- the names of columns and the measure have none
row_of_absent_entries : (at : Place) (h : Head)
    → entries_in (start_of (reading at h)) (reading at h)
    ≡ Some (Frame (trees.named (codes "a") ∷ trees.named (codes "b") ∷ [])) ∷ None ∷ None ∷ None
    ∷ Some (Frame (trees.named (codes "b") ∷ trees.named (codes "n") ∷ [])) ∷ Some (Frame (trees.named (codes "a") ∷ trees.named (codes "b") ∷ []))
    ∷ Some (Frame (trees.named (codes "a") ∷ trees.named (codes "b") ∷ [])) ∷ Some Ints ∷ Some Bools ∷ Some Int ∷ None ∷ None ∷ []
unfolding entries_in assigned_in found_of finds_of in_turn plain_entries named_entries scalar_named fold_named array_named frame_named function_named wanted inside plain_argument named_argument call_result
row_of_absent_entries at h = refl
