-- The rules of the language as tests: each names a rule and a place, and passes or fails.
use Rattle.std.specs.Prelude.{ℕ, suc, ℤ, pos, negsuc, Bool, true, false, not, ◌&&◌, ◌||◌, if◌then◌else◌, nat_le, List, [], ◌∷◌, length, codes, bytes_eq, Option, Some, None, int_le}
use Rattle.std.specs.List.{list_all}
use Rattle.std.specs.Option.{option_or}
use Rattle.hp_word.specs.declared.name.Name.{Name}
use Rattle.hp_word.specs.declared.place.Place.{Place}
use Rattle.hp_script.specs.declared.rule.Rule.{Rule}
use Rattle.hp_script.specs.declared.rule.Rule.TheVariants.{UnknownName, MaybeUnset, WrongType, UnknownColumn, DoubleColumn, UnknownCall, TooManyColumns, ReachTooWide}
use Rattle.hp_script.specs.declared.rule.Refusal.{Refusal}
use Rattle.hp_script.specs.declared.tree.UnOp.TheVariants.{Neg}
use Rattle.hp_script.specs.declared.tree.BinOp.{BinOp}
use Rattle.hp_script.specs.declared.tree.BinOp.TheVariants.{Mul}
use Rattle.hp_script.specs.declared.typed.Shape.{Shape}
use Rattle.hp_script.specs.declared.typed.Shape.TheVariants as shape
use Rattle.hp_script.specs.declared.argument.Argument.{Argument}
use Rattle.hp_script.specs.declared.argument.Argument.TheVariants.{Column, Given, Measure}
use Rattle.hp_script.specs.declared.function.Function.{Function}
use Rattle.hp_script.specs.declared.function.Function.TheVariants as function
use Rattle.hp_script.specs.Mirror.{Tree, Args, number, truth, text, variable, column, field, unary, binary, index, call, none, plain, range, lambda, named}
use Rattle.hp_script.specs.Scope.{Role, element, window, Scope, has, has_column, is_set, shape_among, is_in_lambda}
use Rattle.hp_script.specs.Typing.{Wanted, an_interval, a_lambda, a_text, a_column, a_given, a_measure, nothing}
use Rattle.hp_script.specs.Valued.{is_measure}

-- ---- tests

abbrev pub broken : Place → Rule → Option Refusal
broken at rule = Some (record { at = at; rule = rule })

-- a rule at a place, which passes where this holds
abbrev pub unless : (passes : Bool) → Place → Rule → Option Refusal
unless true at rule = None
unless false at rule = broken at rule

-- ---- names

-- a variable at this place, before what is made of its value
abbrev pub variable_break : Scope → Place → List ℕ → Option Refusal
variable_break s at x = option_or (unless (has x s.assigned) at UnknownName) (unless (is_set s.ways x) at MaybeUnset)

abbrev pub is_scalar : Option Shape → Bool
is_scalar (Some shape.Int) = true
is_scalar (Some shape.Bool) = true
is_scalar _ = false

-- A name as a value, by what the parameter of this name is, if there is one: inside a lambda, variables are scalars.
unfoldable pub name_break : Option Role → Scope → Place → List ℕ → Option Refusal
name_break (Some (element kind)) s at x = None
name_break (Some window) s at x = broken at WrongType
name_break None s at x =
    option_or (variable_break s at x) (unless (not (is_in_lambda s) || is_scalar (shape_among s.vars x)) at WrongType)

abbrev pub is_frame : Option Shape → Bool
is_frame (Some (shape.Frame columns)) = true
is_frame _ = false

abbrev pub frame_has : List ℕ → Option Shape → Bool
frame_has c (Some (shape.Frame columns)) = has_column c columns
frame_has c _ = false

-- a column of a variable, by what the parameter of this name is, if there is one
unfoldable pub field_break : Option Role → Scope → Place → List ℕ → List ℕ → Option Refusal
field_break (Some role) s at x c = broken at WrongType
field_break None s at x c =
    option_or (variable_break s at x)
    (option_or (unless (not (is_in_lambda s) && is_frame (shape_among s.vars x)) at WrongType)
    (unless (frame_has c (shape_among s.vars x)) at UnknownColumn))

-- a column inside a filter, by the columns of its frame
unfoldable pub column_break : Option (List Name) → Scope → Place → List ℕ → Option Refusal
column_break None s at c = broken at WrongType
column_break (Some columns) s at c = option_or (unless (not (is_in_lambda s)) at WrongType) (unless (has_column c columns) at UnknownColumn)

-- ---- the places of a stencil

-- the place of an expression
abbrev pub place_of : Tree → Place
place_of (number h value) = h.at
place_of (truth h holds) = h.at
place_of (text h bytes) = h.at
place_of (variable h x) = h.at
place_of (column h c) = h.at
place_of (field h x c) = h.at
place_of (unary h op dotted x) = h.at
place_of (binary h op dotted x y) = h.at
place_of (index h x i) = h.at
place_of (call h f dotted xs) = h.at

-- how far from an element `p[d]` is: d is a number, or `-` and a number
abbrev pub distance_of : Tree → Option ℤ
distance_of (number h value) = Some value
distance_of (unary h Neg false (number g value)) = Some value
distance_of _ = None

-- `p[d]` of a stencil's parameter at the first place, with its `[` at the second: a distance of at most 64
-- either way
abbrev pub reach_break : Place → Place → Option ℤ → Option Refusal
reach_break at bracket None = broken at WrongType
reach_break at bracket (Some distance) = unless (int_le (negsuc 63) distance && int_le distance (pos 64)) bracket ReachTooWide

-- ---- arguments

-- the names that arguments give or name, in their order
abbrev pub names_among : List Argument → List (List ℕ)
names_among [] = []
names_among (Column x ∷ rest) = x.bytes ∷ names_among rest
names_among (Given x kind ∷ rest) = x.bytes ∷ names_among rest
names_among (Measure x ∷ rest) = x.bytes ∷ names_among rest
names_among (_ ∷ rest) = names_among rest

-- a name that is not among those before
abbrev pub new_break : Place → List ℕ → (before : List Argument) → Option Refusal
new_break at x before = unless (not (has x (names_among before))) at DoubleColumn

-- the name of a column that each of the frames has
abbrev pub column_known : Place → List ℕ → List (List Name) → Option Refusal
column_known at c frames = unless (list_all (has_column c) frames) at UnknownColumn

-- A call of a function at a place, with its arguments that are tested so far.
pub record CallSoFar : Type 0 where
  pub function : Function
  pub at : Place
  pub before : List Argument

abbrev pub so_far : Function → Place → (before : List Argument) → CallSoFar
so_far f at before = record { function = f; at = at; before = before }

-- a plain argument, the next of this call; `tested` is its test as a value
unfoldable pub plain_break : Wanted → CallSoFar → Tree → (tested : Option Refusal) → Option Refusal
plain_break nothing here x tested = broken here.at WrongType
plain_break a_text here (text h bytes) tested = None
plain_break a_text here (column h c) tested = broken h.at WrongType
plain_break (a_column frames) here (column h c) tested = option_or (column_known h.at c frames) (new_break h.at c here.before)
plain_break _ here x tested = tested

-- a range; its ends are tested only where one is meant
unfoldable pub range_break : Wanted → Place → (tested : Option Refusal) → Option Refusal
range_break an_interval at tested = tested
range_break _ at tested = broken at WrongType

unfoldable pub lambda_break : Wanted → Place → (tested : Option Refusal) → Option Refusal
lambda_break (a_lambda role) at tested = tested
lambda_break _ at tested = broken at WrongType

-- the column of a measure, if it has one
abbrev pub measure_break : List (List Name) → Tree → Option Refusal
measure_break frames (call h f dotted (plain (column g c) rest)) = column_known g.at c frames
measure_break frames _ = None

-- `name = ..`, the name at this place, the next argument of this call
unfoldable pub named_break : Wanted → CallSoFar → List ℕ → Place → Tree → (tested : Option Refusal) → Option Refusal
named_break nothing here name at x tested = broken here.at WrongType
named_break a_given here name at x tested = option_or tested (new_break at name here.before)
named_break (a_measure frames) here name at x tested = option_or (if is_measure x then measure_break frames x else tested) (new_break at name here.before)
named_break _ here name at x tested = option_or tested (broken at WrongType)

-- ---- calls

-- the call itself, by its result
abbrev pub repeats : List Name → Bool
repeats [] = false
repeats (x ∷ rest) = has_column x.bytes rest || repeats rest

abbrev pub is_join : Function → Bool
is_join function.Join = true
is_join _ = false

unfoldable pub result_break : Function → Place → (result : Option Shape) → Option Refusal
result_break f at None = broken at WrongType
result_break f at (Some (shape.Frame columns)) =
    option_or (unless (not (is_join f && repeats columns)) at DoubleColumn) (unless (nat_le (length columns) 1024) at TooManyColumns)
result_break f at (Some _) = None

-- inside a lambda only these are called
abbrev pub is_scalar_function : Function → Bool
is_scalar_function (function.Scalar f) = true
is_scalar_function _ = false

-- a call of this function at this place, behind its arguments
unfoldable pub call_break : Scope → Function → Place → (result : Option Shape) → Option Refusal
call_break s function.Transpose at result = broken at WrongType
call_break s f at result = option_or (unless (not (is_in_lambda s) || is_scalar_function f) at WrongType) (result_break f at result)

-- how many arguments there are
abbrev pub count_of : Args → ℕ
count_of none = 0
count_of (plain x xs) = suc (count_of xs)
count_of (range x y xs) = suc (count_of xs)
count_of (lambda p x xs) = suc (count_of xs)
count_of (named name at x xs) = suc (count_of xs)

-- the tests of a call, by the function of its name
abbrev pub with_function : Place → Option Function → (Function → Option Refusal) → Option Refusal
with_function at None tests = broken at UnknownCall
with_function at (Some f) tests = tests f

-- ---- products

abbrev pub is_transpose_call : Tree → Bool
is_transpose_call (call h f false xs) = bytes_eq f (codes "transpose")
is_transpose_call _ = false

-- the right side of a product of matrices, which may be transposed; inside a lambda it may not
abbrev pub is_flipped : Scope → BinOp → (dotted : Bool) → Tree → Bool
is_flipped s Mul false y = not (is_in_lambda s) && is_transpose_call y
is_flipped s _ _ y = false
