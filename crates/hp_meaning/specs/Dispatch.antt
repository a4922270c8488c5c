-- Calls by how many arguments with values they have.
use Rattle.std.specs.Prelude.{ℕ, Bool, if◌then◌else◌, List}
use Rattle.hp_word.specs.declared.place.Place.{Place}
use Rattle.hp_script.specs.declared.function.Function.{Function}
use Rattle.hp_script.specs.declared.function.Function.TheVariants as functions
use Rattle.hp_script.specs.declared.tree.UnOp.{UnOp}
use Rattle.hp_script.specs.Mirror.{Tree, Args, none}
use Rattle.hp_meaning.specs.declared.value.Value.{Value}
use Rattle.hp_meaning.specs.declared.value.Var.{Var}
use Rattle.hp_meaning.specs.ArgumentShapes.{first_plain, all_written}
use Rattle.hp_meaning.specs.FrameRules.{rows_value, tabled}
use Rattle.hp_meaning.specs.LambdaRules.{mapped, stencilled}
use Rattle.hp_meaning.specs.ListRules.{filled, concatenated, length_value, folded, counted, summed}
use Rattle.hp_meaning.specs.MatrixRules.{row_value}
use Rattle.hp_meaning.specs.Outcomes.{Answer, Refuses, given, followed, ended}
use Rattle.hp_meaning.specs.ReadCalls.{table_for}
use Rattle.hp_meaning.specs.ValueOf.{Supply, Meaning, is_text, names_in}
use Rattle.hp_meaning.specs.WordRules.{scalar_value, unary_value}

-- an operator on one operand
abbrev pub unary_operand : UnOp → (dotted : Bool) → Meaning → Meaning
unary_operand op dotted operand s n = followed (operand s n) (λ a. ended (unary_value op dotted a))

unfoldable pub one_value : Function → Place → Value → Answer Value
one_value (functions.Fold kind) at a = folded kind at a
one_value functions.Count at a = counted a
one_value functions.Length at a = length_value a
one_value functions.Cumsum at a = summed a
one_value functions.Nrow at a = rows_value a
one_value _ at a = Refuses

unfoldable pub two_value : Function → (dotted : Bool) → Place → Value → Value → Answer Value
two_value (functions.Scalar f) dotted at a b = scalar_value f dotted at a b
two_value functions.Fill dotted at a b = filled at a b
two_value functions.Vcat dotted at a b = concatenated at a b
two_value functions.Row dotted at a b = row_value at a b
two_value _ dotted at a b = Refuses

unfoldable pub lambda_value : Function → List Var → List ℕ → Tree → Value → Answer Value
lambda_value functions.Map vars parameter body a = mapped vars parameter body a
lambda_value functions.Stencil vars parameter body a = stencilled vars parameter body a
lambda_value _ vars parameter body a = Refuses

-- the table of a call of `read_csv` by its columns, of which there is one at least
abbrev pub read_by : Supply → (id : ℕ) → Tree → Args → Answer Value
read_by g id x none = Refuses
read_by g id x rest = if is_text x then given (names_in (all_written rest)) (λ names. tabled names (table_for g.reads id g.tables)) else Refuses

unfoldable pub table_value : Supply → (id : ℕ) → Args → Answer Value
table_value g id xs = given (first_plain xs) (λ p. read_by g id p.0 p.1)
