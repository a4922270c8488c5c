-- Parts of the forms of expressions, as the checker looks at them: bridges that nobody need believe.
use Rattle.std.specs.Prelude.{ℕ, ℤ, Bool, true, false, ◌||◌, List, codes, bytes_eq, Option, Some, None}
use Rattle.hp_script.specs.declared.tree.UnOp.{UnOp}
use Rattle.hp_script.specs.declared.tree.UnOp.TheVariants.{Neg}
use Rattle.hp_script.specs.Mirror.{Tree, Args, number, column, none, plain}

-- the value of a number
abbrev pub number_in : Tree → Option ℤ
number_in (number h value) = Some value
number_in _ = None

-- the functions that measure a column
abbrev pub measures_column : List ℕ → Bool
measures_column function = bytes_eq function (codes "sum") || bytes_eq function (codes "minimum") || bytes_eq function (codes "maximum")

-- whether a call of this function of these arguments, without a dot, is a measure
abbrev pub is_measure_call : List ℕ → Args → Bool
is_measure_call function (plain (column h name) none) = measures_column function
is_measure_call function none = bytes_eq function (codes "count")
is_measure_call function _ = false

-- the sign of a negative number
abbrev pub is_negation : UnOp → (dotted : Bool) → Bool
is_negation Neg false = true
is_negation _ _ = false
