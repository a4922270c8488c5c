-- Worked rows of named arguments where the mask of a `filter` is meant: such a one is tested with the columns of that
-- `filter`, and is then refused at its name.
use Rattle.std.specs.Prelude.{◌≡◌, pos, true, false, codes, refl}
use Rattle.hp_word.specs.declared.place.Place.{Place}
use Rattle.hp_script.specs.declared.rule.Rule.TheVariants.{WrongType, UnknownColumn}
use Rattle.hp_script.specs.declared.tree.BinOp.TheVariants.{Gt, BitAnd}
use Rattle.hp_script.specs.Breaks.{broken, name_break, column_break, plain_break, named_break, call_break, result_break}
use Rattle.hp_script.specs.Checked.{assigned_in, break_in, first_break}
use Rattle.hp_script.specs.Functions.{scalar_named, fold_named, array_named, frame_named, function_named}
use Rattle.hp_script.specs.Mirror.{Head, Tree, Block, number, truth, variable, column, binary, call, none, plain, named, done, assign}
use Rattle.hp_script.specs.Results.{call_result}
use Rattle.hp_script.specs.Typing.{wanted, inside, plain_argument, named_argument}
use Rattle.hp_script.specs.Walk.{found_of, parts_break, finds_of, in_turn}

-- `v = fill(1, 3)`, `b = fill(true, 3)`, `d = DataFrame(a = v, c = v)`, `x = ..`
abbrev behind_frame : (at : Place) (h : Head) → Tree → Block
behind_frame at h x =
    assign at (codes "v") (call h (codes "fill") false (plain (number h (pos 1)) (plain (number h (pos 3)) none)))
    (assign at (codes "b") (call h (codes "fill") false (plain (truth h true) (plain (number h (pos 3)) none)))
    (assign at (codes "d") (call h (codes "DataFrame") false (named (codes "a") at (variable h (codes "v")) (named (codes "c") at (variable h (codes "v")) none)))
    (assign at (codes "x") x done)))

-- `filter(d, m = ..)`, with the name at this place
abbrev masked : Head → Place → Tree → Tree
masked h name mask = call h (codes "filter") false (plain (variable h (codes "d")) (named (codes "m") name mask none))

-- `x = filter(d, m = :a .> 1)`
row_of_named_masks : (at name : Place) (h : Head)
    → first_break (behind_frame at h (masked h name (binary h Gt true (column h (codes "a")) (number h (pos 1))))) ≡ broken name WrongType
unfolding first_break break_in assigned_in found_of parts_break finds_of in_turn name_break column_break plain_break named_break call_break result_break scalar_named fold_named array_named frame_named function_named wanted inside plain_argument named_argument call_result
row_of_named_masks at name h = refl

-- `x = filter(d, m = :q .> 1)`
row_of_their_columns : (at name : Place) (h k : Head)
    → first_break (behind_frame at h (masked h name (binary h Gt true (column k (codes "q")) (number h (pos 1))))) ≡ broken k.at UnknownColumn
unfolding first_break break_in assigned_in found_of parts_break finds_of in_turn name_break column_break plain_break named_break call_break result_break scalar_named fold_named array_named frame_named function_named wanted inside plain_argument named_argument call_result
row_of_their_columns at name h k = refl

-- `x = filter(d, m = b .& (:a .> :q))`
row_of_later_columns : (at name : Place) (h k : Head)
    → first_break (behind_frame at h (masked h name (binary h BitAnd true (variable h (codes "b")) (binary h Gt true (column h (codes "a")) (column k (codes "q")))))) ≡ broken k.at UnknownColumn
unfolding first_break break_in assigned_in found_of parts_break finds_of in_turn name_break column_break plain_break named_break call_break result_break scalar_named fold_named array_named frame_named function_named wanted inside plain_argument named_argument call_result
row_of_later_columns at name h k = refl

-- `x = filter(d, m = sum(:a))`
row_of_sums_of_columns : (at name : Place) (h : Head)
    → first_break (behind_frame at h (masked h name (call h (codes "sum") false (plain (column h (codes "a")) none)))) ≡ broken name WrongType
unfolding first_break break_in assigned_in found_of parts_break finds_of in_turn name_break column_break plain_break named_break call_break result_break scalar_named fold_named array_named frame_named function_named wanted inside plain_argument named_argument call_result
row_of_sums_of_columns at name h = refl

-- `x = filter(d, filter(v, m = :a))`: the innermost `filter` has no columns
row_of_inner_filters : (at name : Place) (h k : Head)
    → first_break (behind_frame at h (call h (codes "filter") false (plain (variable h (codes "d"))
    (plain (call h (codes "filter") false (plain (variable h (codes "v")) (named (codes "m") name (column k (codes "a")) none))) none)))) ≡ broken k.at WrongType
unfolding first_break break_in assigned_in found_of parts_break finds_of in_turn name_break column_break plain_break named_break call_break result_break scalar_named fold_named array_named frame_named function_named wanted inside plain_argument named_argument call_result
row_of_inner_filters at name h k = refl
