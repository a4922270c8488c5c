-- The shapes of arguments, over the arguments themselves.
use Rattle.std.specs.Prelude.{ℕ, Bool, true, false, if◌then◌else◌, List, [], ◌∷◌, Option, Some, None}
use Rattle.std.specs.Option.{option_map, option_and_then}
use Rattle.hp_script.specs.declared.function.Function.{Function}
use Rattle.hp_script.specs.declared.function.Function.TheVariants as functions
use Rattle.hp_script.specs.Functions.{function_named}
use Rattle.hp_script.specs.Mirror.{Tree, Args, call, none, plain, range, lambda, named}
use Rattle.hp_script.specs.declared.tree.BinOp.{BinOp}
use Rattle.hp_meaning.specs.ValueOf.{Written, Alone, Under, Otherwise, is_product}

-- the first argument, where it is a plain one, and those behind it
abbrev pub first_plain : Args → Option (Tree × Args)
first_plain (plain x rest) = Some (x, rest)
first_plain _ = None

-- the only argument, the two and the three arguments, where they are plain ones
abbrev pub last_plain : Tree × Args → Option Tree
last_plain (x, none) = Some x
last_plain (x, rest) = None

unfoldable pub one_plain : Args → Option Tree
one_plain xs = option_and_then last_plain (first_plain xs)

unfoldable pub two_plain : Args → Option (Tree × Tree)
two_plain xs = option_and_then (λ p. option_map (λ y. (p.0, y)) (one_plain p.1)) (first_plain xs)

unfoldable pub three_plain : Args → Option (Tree × Tree × Tree)
three_plain xs = option_and_then (λ p. option_map (λ q. (p.0, q.0, q.1)) (two_plain p.1)) (first_plain xs)

-- the two ends of the only argument, where it is a range
unfoldable pub one_range : Args → Option (Tree × Tree)
one_range (range x y none) = Some (x, y)
one_range _ = None

-- the parameter and the body of a lambda, and the plain argument behind it
unfoldable pub lambda_and_plain : Args → Option (List ℕ × Tree × Tree)
lambda_and_plain (lambda parameter body rest) = option_map (λ x. (parameter, body, x)) (one_plain rest)
lambda_and_plain _ = None

-- the arguments as a call writes them
abbrev pub all_written : Args → List Written
all_written none = []
all_written (plain x rest) = Alone x ∷ all_written rest
all_written (range x y rest) = Otherwise ∷ all_written rest
all_written (lambda parameter x rest) = Otherwise ∷ all_written rest
all_written (named name at x rest) = Under name x ∷ all_written rest

-- the argument, where an expression is a call of `transpose`
abbrev pub is_transpose : Option Function → Bool
is_transpose (Some functions.Transpose) = true
is_transpose _ = false

unfoldable pub transposed_operand : Tree → Option Tree
transposed_operand (call h function dotted xs) = if is_transpose (function_named dotted function) then one_plain xs else None
transposed_operand _ = None

-- the argument, where the second side of a product is a call of `transpose`
unfoldable pub flipped_operand : BinOp → (dotted : Bool) → (right : Tree) → Option Tree
flipped_operand op dotted right = if is_product op dotted then transposed_operand right else None
