-- Worked rows of the rules: scripts as trees, and the first test of each that fails.
use Rattle.std.specs.Prelude.{◌≡◌, pos, negsuc, true, false, codes, None, refl}
use Rattle.hp_word.specs.declared.place.Place.{Place}
use Rattle.hp_script.specs.declared.rule.Rule.TheVariants.{UnknownName, MaybeUnset, WrongType, TypeChanged, UnknownColumn, DoubleColumn, UnknownCall, WrongCount, ReachTooWide}
use Rattle.hp_script.specs.declared.tree.BinOp.TheVariants.{Add, Mul}
use Rattle.hp_script.specs.declared.tree.UnOp.TheVariants.{Neg}
use Rattle.hp_script.specs.Breaks.{broken, name_break, field_break, column_break, plain_break, lambda_break, named_break, call_break, result_break}
use Rattle.hp_script.specs.Checked.{assigned_in, after, break_in, first_break}
use Rattle.hp_script.specs.Functions.{scalar_named, fold_named, array_named, frame_named, function_named}
use Rattle.hp_script.specs.Mirror.{Head, Tree, number, truth, variable, column, field, unary, binary, index, call, none, plain, lambda, named, done, assign, print, choose, loop}
use Rattle.hp_script.specs.Results.{call_result}
use Rattle.hp_script.specs.Typing.{wanted, inside, plain_argument, named_argument}
use Rattle.hp_script.specs.Walk.{found_of, parts_break, finds_of, in_turn}

-- `fill(1, 2)`
abbrev filled : Head → Tree
filled h = call h (codes "fill") false (plain (number h (pos 1)) (plain (number h (pos 2)) none))

-- ---- names

-- `println(y)`
row_of_unknown_names : (at : Place) (h : Head) → first_break (print at (variable h (codes "y")) done) ≡ broken h.at UnknownName
unfolding first_break break_in assigned_in found_of name_break
row_of_unknown_names at h = refl

-- `if true`, `x = 1`, `end`, `println(x)`
row_of_one_branch : (at : Place) (h k : Head)
    → first_break (choose at (truth h true) (assign at (codes "x") (number h (pos 1)) done) done (print at (variable k (codes "x")) done)) ≡ broken k.at MaybeUnset
unfolding first_break break_in after assigned_in found_of name_break
row_of_one_branch at h k = refl

-- `if true`, `x = 1`, `else`, `x = 2`, `end`, `println(x)`
row_of_both_branches : (at : Place) (h k : Head)
    → first_break (choose at (truth h true) (assign at (codes "x") (number h (pos 1)) done) (assign at (codes "x") (number h (pos 2)) done) (print at (variable k (codes "x")) done)) ≡ None
unfolding first_break break_in after assigned_in found_of name_break
row_of_both_branches at h k = refl

-- `while true`, `x = 1`, `end`, `println(x)`
row_of_loops : (at : Place) (h k : Head)
    → first_break (loop at (truth h true) (assign at (codes "x") (number h (pos 1)) done) (print at (variable k (codes "x")) done)) ≡ broken k.at MaybeUnset
unfolding first_break break_in after assigned_in found_of name_break
row_of_loops at h k = refl

-- ---- types

-- `x = 1`, `x = true`
row_of_changes : (at later : Place) (h : Head) → first_break (assign at (codes "x") (number h (pos 1)) (assign later (codes "x") (truth h true) done)) ≡ broken later TypeChanged
unfolding first_break break_in assigned_in found_of
row_of_changes at later h = refl

-- `x = 1 .+ 2`
row_of_operators : (at : Place) (h k : Head) → first_break (assign at (codes "x") (binary k Add true (number h (pos 1)) (number h (pos 2))) done) ≡ broken k.at WrongType
unfolding first_break break_in assigned_in found_of
row_of_operators at h k = refl

-- `stack(fill(1, 2))`
abbrev matrix : Head → Tree
matrix h = call h (codes "stack") false (plain (filled h) none)

-- `m = stack(fill(1, 2))`, `p = m * transpose(m)`
row_of_products : (at : Place) (h : Head)
    → first_break (assign at (codes "m") (matrix h) (assign at (codes "p") (binary h Mul false (variable h (codes "m")) (call h (codes "transpose") false (plain (variable h (codes "m")) none))) done)) ≡ None
unfolding first_break break_in assigned_in found_of parts_break finds_of in_turn name_break plain_break call_break result_break scalar_named fold_named array_named frame_named function_named wanted inside plain_argument call_result
row_of_products at h = refl

-- `m = stack(fill(1, 2))`, `p = transpose(m)`
row_of_transposes : (at : Place) (h k : Head)
    → first_break (assign at (codes "m") (matrix h) (assign at (codes "p") (call k (codes "transpose") false (plain (variable h (codes "m")) none)) done)) ≡ broken k.at WrongType
unfolding first_break break_in assigned_in found_of finds_of in_turn name_break plain_break call_break result_break scalar_named fold_named array_named frame_named function_named wanted inside plain_argument call_result
row_of_transposes at h k = refl

-- ---- calls

-- `x = foo(1)`
row_of_unknown_calls : (at : Place) (h k : Head) → first_break (assign at (codes "x") (call k (codes "foo") false (plain (number h (pos 1)) none)) done) ≡ broken k.at UnknownCall
unfolding first_break break_in assigned_in found_of scalar_named fold_named array_named frame_named function_named
row_of_unknown_calls at h k = refl

-- `x = fill(y)`
row_of_counts : (at : Place) (h k : Head) → first_break (assign at (codes "x") (call k (codes "fill") false (plain (variable h (codes "y")) none)) done) ≡ broken k.at WrongCount
unfolding first_break break_in assigned_in found_of scalar_named fold_named array_named frame_named function_named
row_of_counts at h k = refl

-- `x = map(p -> y, z)`: the second argument before the first
row_of_maps : (at : Place) (h k : Head)
    → first_break (assign at (codes "x") (call h (codes "map") false (lambda (codes "p") (variable h (codes "y")) (plain (variable k (codes "z")) none))) done) ≡ broken k.at UnknownName
unfolding first_break break_in assigned_in found_of finds_of in_turn name_break plain_break scalar_named fold_named array_named frame_named function_named wanted inside plain_argument
row_of_maps at h k = refl

-- `x = stencil(p -> p[65], fill(1, 2))`
row_of_reach : (at : Place) (h k : Head)
    → first_break (assign at (codes "x") (call h (codes "stencil") false (lambda (codes "p") (index k (variable h (codes "p")) (number h (pos 65))) (plain (filled h) none))) done) ≡ broken k.at ReachTooWide
unfolding first_break break_in assigned_in found_of finds_of in_turn name_break plain_break lambda_break scalar_named fold_named array_named frame_named function_named wanted inside plain_argument
row_of_reach at h k = refl

-- `x = stencil(p -> p[-65], fill(1, 2))`
row_of_reach_before : (at : Place) (h k : Head)
    → first_break (assign at (codes "x") (call h (codes "stencil") false (lambda (codes "p") (index k (variable h (codes "p")) (unary h Neg false (number h (pos 65)))) (plain (filled h) none))) done)
    ≡ broken k.at ReachTooWide
unfolding first_break break_in assigned_in found_of finds_of in_turn name_break plain_break lambda_break scalar_named fold_named array_named frame_named function_named wanted inside plain_argument
row_of_reach_before at h k = refl

-- the same of a tree whose number is itself below 0
row_of_reach_below : (at : Place) (h k : Head)
    → first_break (assign at (codes "x") (call h (codes "stencil") false (lambda (codes "p") (index k (variable h (codes "p")) (number h (negsuc 64))) (plain (filled h) none))) done)
    ≡ broken k.at ReachTooWide
unfolding first_break break_in assigned_in found_of finds_of in_turn name_break plain_break lambda_break scalar_named fold_named array_named frame_named function_named wanted inside plain_argument
row_of_reach_below at h k = refl

-- `v = fill(1, 2)`, `x = map(p -> v, v)`: inside a lambda an array is no value
row_of_lambdas : (at : Place) (h k : Head)
    → first_break (assign at (codes "v") (filled h) (assign at (codes "x") (call h (codes "map") false (lambda (codes "p") (variable k (codes "v")) (plain (variable h (codes "v")) none))) done))
    ≡ broken k.at WrongType
unfolding first_break break_in assigned_in found_of finds_of in_turn name_break plain_break lambda_break call_break result_break scalar_named fold_named array_named frame_named function_named wanted inside plain_argument call_result
row_of_lambdas at h k = refl

-- ---- frames

-- `d = DataFrame(a = fill(1, 2), a = fill(1, 2))`
row_of_double_columns : (at first later : Place) (h : Head)
    → first_break (assign at (codes "d") (call h (codes "DataFrame") false
    (named (codes "a") first (filled h)
    (named (codes "a") later (filled h) none))) done) ≡ broken later DoubleColumn
unfolding first_break break_in assigned_in found_of finds_of in_turn plain_break named_break call_break result_break scalar_named fold_named array_named frame_named function_named wanted inside plain_argument named_argument call_result
row_of_double_columns at first later h = refl

-- `d = DataFrame(a = fill(1, 2))`, `println(d.b)`
row_of_unknown_columns : (at place : Place) (h k : Head)
    → first_break (assign at (codes "d") (call h (codes "DataFrame") false (named (codes "a") place (filled h) none))
    (print at (field k (codes "d") (codes "b")) done)) ≡ broken k.at UnknownColumn
unfolding first_break break_in after assigned_in found_of finds_of in_turn field_break plain_break named_break call_break result_break scalar_named fold_named array_named frame_named function_named wanted inside plain_argument named_argument call_result
row_of_unknown_columns at place h k = refl

-- `println(:a)`: outside of filters a column is no value
row_of_columns : (at : Place) (h : Head) → first_break (print at (column h (codes "a")) done) ≡ broken h.at WrongType
unfolding first_break break_in assigned_in found_of column_break
row_of_columns at h = refl
