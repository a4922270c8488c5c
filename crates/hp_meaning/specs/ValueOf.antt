-- What an expression means, in a scope and after what was seen: a value, a trap, or that it is wrong. Operands are
-- evaluated from left to right, and each expression that has a value begins one tick.
use Rattle.std.specs.Prelude.{ℕ, ℤ, Bool, true, false, if◌then◌else◌, List, [], ◌∷◌, map, Option, Some, None}
use Rattle.std.specs.Option.{option_map, option_and_then}
use Rattle.hp_word.specs.declared.fold.FoldKind.TheVariants as folds
use Rattle.hp_word.specs.declared.order.Order.{Order}
use Rattle.hp_word.specs.declared.place.Place.{Place}
use Rattle.hp_word.specs.declared.table.MeasureKind.{MeasureKind}
use Rattle.hp_word.specs.declared.table.MeasureKind.TheVariants as measures
use Rattle.hp_word.specs.declared.table.Table.{Table}
use Rattle.hp_word.specs.Words.{truth}
use Rattle.hp_script.specs.declared.function.Function.{Function}
use Rattle.hp_script.specs.declared.function.Function.TheVariants as functions
use Rattle.hp_script.specs.declared.tree.BinOp.{BinOp}
use Rattle.hp_script.specs.declared.tree.BinOp.TheVariants as binary_op
use Rattle.hp_script.specs.Functions.{function_named}
use Rattle.hp_script.specs.Mirror.{Head, Tree, Args, number, truth as truth_tree, text, variable, column, field, unary, binary, index, call, none, plain, range, lambda, named}
use Rattle.hp_meaning.specs.declared.seen.Seen.{Seen}
use Rattle.hp_meaning.specs.declared.value.Column.{Column}
use Rattle.hp_meaning.specs.declared.value.Kind.TheVariants.{Number, Truth}
use Rattle.hp_meaning.specs.declared.value.Value.{Value}
use Rattle.hp_meaning.specs.declared.value.Value.TheVariants.{Word, Frame}
use Rattle.hp_meaning.specs.Outcomes.{Answer, Gives, Refuses, given, tick, Outcome, Is, Wrong, followed, needed, ended, meeting}
use Rattle.hp_meaning.specs.Operands.{as_numbers, as_frame, as_truth, as_matrix}
use Rattle.hp_meaning.specs.WordRules.{is_lazy, decides, decision, unary_value, plain_value, dotted_value, scalar_value}
use Rattle.hp_meaning.specs.ListRules.{filled, collected, concatenated, length_value, folded, counted, summed, indexed}
use Rattle.hp_meaning.specs.MatrixRules.{stacked, row_value, multiplied, flipped_value}
use Rattle.hp_meaning.specs.FrameRules as frames
use Rattle.hp_meaning.specs.FrameRules.{Measured, column_of, field_value, rows_value, framed, tabled, filtered, sorted_value, joined, grouped}
use Rattle.hp_meaning.specs.LambdaRules.{mapped, stencilled}
use Rattle.hp_meaning.specs.ReadCalls.{table_for}
use Rattle.hp_meaning.specs.Scopes.{Scope, value_named, within}

-- what a run is given: the tables, the numbers of the calls that read them, and the orders of joins and aggregates
pub record Supply : Type 0 where
  pub tables : List Table
  pub reads : List ℕ
  pub orders : List Order

abbrev pub supply : List Table → List ℕ → List Order → Supply
supply tables reads orders = record { tables = tables; reads = reads; orders = orders }

-- what an expression means in each scope, after what was seen
abbrev pub Meaning : Type 0
Meaning = Scope → Seen → Outcome Value

-- an argument of a call, with what its expressions mean
pub data Part : Type 0 where
  Plain : Tree → Meaning → Part
  Range : Meaning → Meaning → Part
  Lambda : List ℕ → Tree → Part
  Named : List ℕ → Tree → Meaning → Part

-- an argument as a call writes it: an expression alone, or under a name, or anything else
pub data Written : Type 0 where
  Alone : Tree → Written
  Under : List ℕ → Tree → Written
  Otherwise : Written

-- an argument of a call as it is written, whatever its expressions mean
abbrev pub as_written : Part → Written
as_written (Plain x m) = Alone x
as_written (Named name x m) = Under name x
as_written _ = Otherwise

-- ---- arguments

-- the name of an argument that is a column
abbrev pub column_name : Tree → Option (List ℕ)
column_name (column h name) = Some name
column_name _ = None

abbrev pub is_text : Tree → Bool
is_text (text h bytes) = true
is_text _ = false

-- what is made of the only argument, of the two arguments, of the two ends of the only range
unfoldable pub one : List Part → Scope → Seen → (Value → Answer Value) → Outcome Value
one (Plain x m ∷ []) s n rule = followed (m s n) (λ a. ended (rule a))
one _ s n rule = Wrong

unfoldable pub two : List Part → Scope → Seen → (Value → Value → Answer Value) → Outcome Value
two (Plain x m ∷ Plain y k ∷ []) s n rule = followed (m s n) (λ a n. followed (k s n) (λ b. ended (rule a b)))
two _ s n rule = Wrong

unfoldable pub ends : List Part → Scope → Seen → (Value → Value → Answer Value) → Outcome Value
ends (Range m k ∷ []) s n rule = followed (m s n) (λ a n. followed (k s n) (λ b. ended (rule a b)))
ends _ s n rule = Wrong

-- what is made of a lambda and the array behind it
unfoldable pub with_lambda : List Part → Scope → Seen → (List ℕ → Tree → Value → Answer Value) → Outcome Value
with_lambda (Lambda parameter body ∷ Plain x m ∷ []) s n rule = followed (m s n) (λ a. ended (rule parameter body a))
with_lambda _ s n rule = Wrong

-- the arrays of numbers that the arguments are
unfoldable pub rows_among : List Part → Scope → Seen → Outcome (List (List ℤ))
rows_among [] s n = Is [] n
rows_among (Plain x m ∷ rest) s n =
    followed (m s n) (λ a n. needed (as_numbers a) (λ xs. followed (rows_among rest s n) (λ xss. Is (xs ∷ xss))))
rows_among (_ ∷ rest) s n = Wrong

-- the columns that named arguments are
unfoldable pub columns_among : List Part → Scope → Seen → Outcome (List Column)
columns_among [] s n = Is [] n
columns_among (Named name x m ∷ rest) s n =
    followed (m s n) (λ a n. needed (as_numbers a) (λ xs. followed (columns_among rest s n) (λ columns. Is (frames.column name xs ∷ columns))))
columns_among (_ ∷ rest) s n = Wrong

-- the names of the columns that the arguments are
unfoldable pub names_in : List Written → Option (List (List ℕ))
names_in [] = Some []
names_in (Alone x ∷ rest) = option_and_then (λ name. option_map (λ names. name ∷ names) (names_in rest)) (column_name x)
names_in (_ ∷ rest) = None

abbrev pub sole_column : Args → Option (List ℕ)
sole_column (plain x none) = column_name x
sole_column _ = None

abbrev pub no_column : Args → Option (List ℕ)
no_column none = Some []
no_column _ = None

-- what a measure works out, and the column that it is of
abbrev pub measure_by : Option Function → Args → Option (MeasureKind × List ℕ)
measure_by (Some (functions.Fold folds.Sum)) xs = option_map (λ c. (measures.Sum, c)) (sole_column xs)
measure_by (Some (functions.Fold folds.Min)) xs = option_map (λ c. (measures.Min, c)) (sole_column xs)
measure_by (Some (functions.Fold folds.Max)) xs = option_map (λ c. (measures.Max, c)) (sole_column xs)
measure_by (Some functions.Count) xs = option_map (λ c. (measures.Count, c)) (no_column xs)
measure_by _ xs = None

unfoldable pub measure_of : Tree → Option (MeasureKind × List ℕ)
measure_of (call h function dotted xs) = measure_by (function_named dotted function) xs
measure_of _ = None

-- the measures that the arguments are
unfoldable pub measures_in : List Written → Option (List Measured)
measures_in [] = Some []
measures_in (Under name x ∷ rest) =
    option_and_then (λ found. option_map (λ more. record { name = name; kind = found.0; of_it = found.1 } ∷ more) (measures_in rest)) (measure_of x)
measures_in (_ ∷ rest) = None

-- ---- calls with arguments of their own

-- the table of this call, by one or more columns
unfoldable pub table_read : Supply → (id : ℕ) → List Part → Seen → Outcome Value
table_read g id (Plain x m ∷ y ∷ rest) n =
    if is_text x then elim (names_in (map as_written (y ∷ rest))) [ None ↦ Wrong | Some names ↦ ended (tabled names (table_for g.reads id g.tables)) n ] else Wrong
table_read g id _ n = Wrong

-- the mask sees the columns of the frame
abbrev pub filtered_by : Place → Value → Meaning → Meaning
filtered_by at a mask s n = needed (as_frame a) (λ columns. followed (mask (within columns s) n) (λ b. ended (filtered at columns b)))

unfoldable pub filter_call : Place → List Part → Meaning
filter_call at (Plain x m ∷ Plain y mask ∷ []) s n = followed (m s n) (λ a. filtered_by at a mask s)
filter_call at _ s n = Wrong

-- a join, among what else was seen
abbrev pub join_in : Supply → Place → List ℕ → Value → Value → Seen → Outcome Value
join_in g at key a b n = meeting (joined g.orders at key a b n.met) n

unfoldable pub join_call : Supply → Place → List Part → Meaning
join_call g at (Plain x m ∷ Plain y k ∷ Plain z _ ∷ []) s n =
    elim (column_name z) [ None ↦ Wrong | Some key ↦ followed (m s n) (λ a n. followed (k s n) (join_in g at key a)) ]
join_call g at _ s n = Wrong

-- an aggregate, among what else was seen
abbrev pub group_in : Supply → List ℕ → List Measured → Value → Seen → Outcome Value
group_in g key measures a n = meeting (grouped g.orders key measures a n.met) n

abbrev pub grouped_by : Supply → Option (List ℕ) → Option (List Measured) → Outcome Value → Outcome Value
grouped_by g (Some key) (Some (m ∷ ms)) first = followed first (group_in g key (m ∷ ms))
grouped_by g _ _ first = Wrong

unfoldable pub aggregate_call : Supply → List Part → Meaning
aggregate_call g (Plain x m ∷ Plain y _ ∷ rest) s n = grouped_by g (column_name y) (measures_in (map as_written rest)) (m s n)
aggregate_call g _ s n = Wrong

unfoldable pub sort_call : List Part → Meaning
sort_call (Plain x m ∷ Plain y _ ∷ []) s n = elim (column_name y) [ None ↦ Wrong | Some key ↦ followed (m s n) (λ a. ended (sorted_value key a)) ]
sort_call _ s n = Wrong

-- ---- calls

-- a call of a function, at its node, dotted or not
unfoldable pub called_as : Supply → Function → Head → (dotted : Bool) → List Part → Meaning
called_as g (functions.Scalar f) h dotted parts s n = two parts s n (scalar_value f dotted h.at)
called_as g (functions.Fold kind) h dotted parts s n = one parts s n (folded kind h.at)
called_as g functions.Count h dotted parts s n = one parts s n counted
called_as g functions.Length h dotted parts s n = one parts s n length_value
called_as g functions.Fill h dotted parts s n = two parts s n (filled h.at)
called_as g functions.Collect h dotted parts s n = ends parts s n (collected h.at)
called_as g functions.Cumsum h dotted parts s n = one parts s n summed
called_as g functions.Map h dotted parts s n = with_lambda parts s n (mapped s.vars)
called_as g functions.Stencil h dotted parts s n = with_lambda parts s n (stencilled s.vars)
called_as g functions.Vcat h dotted parts s n = two parts s n (concatenated h.at)
called_as g functions.DataFrame h dotted parts s n = followed (columns_among parts s n) (λ columns. ended (framed h.at columns))
called_as g functions.ReadCsv h dotted parts s n = table_read g h.id parts n
called_as g functions.Nrow h dotted parts s n = one parts s n rows_value
called_as g functions.Filter h dotted parts s n = filter_call h.at parts s n
called_as g functions.Join h dotted parts s n = join_call g h.at parts s n
called_as g functions.Aggregate h dotted parts s n = aggregate_call g parts s n
called_as g functions.Sort h dotted parts s n = sort_call parts s n
called_as g functions.Stack h dotted parts s n = followed (rows_among parts s n) (λ rows. ended (stacked h.at rows))
called_as g functions.Row h dotted parts s n = two parts s n (row_value h.at)
called_as g functions.Transpose h dotted parts s n = Wrong

abbrev pub called : Supply → Option Function → Head → (dotted : Bool) → List Part → Meaning
called g (Some f) h dotted parts s n = called_as g f h dotted parts s n
called g None h dotted parts s n = Wrong

-- ---- operators

abbrev pub is_product : BinOp → (dotted : Bool) → Bool
is_product binary_op.Mul false = true
is_product _ _ = false

-- an operator on two values, but for `&&` and `||`: `*` also multiplies matrices
abbrev pub undotted_value : Place → BinOp → Value → Value → Answer Value
undotted_value at op a b =
    elim (as_matrix a) [ None ↦ plain_value at op a b | Some m ↦ if is_product op false then given (as_matrix b) (multiplied at m) else Refuses ]

unfoldable pub operator_value : Place → BinOp → (dotted : Bool) → Value → Value → Answer Value
operator_value at op false a b = undotted_value at op a b
operator_value at op true a b = dotted_value at op a b

-- a truth value, which the second side of `&&` or `||` must be
abbrev pub second_side : Value → Seen → Outcome Value
second_side a n = needed (as_truth a) (λ x. Is (Word Truth x) n)

-- `&&` or `||` behind its first side
unfoldable pub lazily : BinOp → Value → Meaning → Meaning
lazily op a second s n = needed (as_truth a) (λ x. if decides op x then Is (Word Truth (decision op)) n else followed (second s n) second_side)

-- an operator on two sides
unfoldable pub strict_operands : Place → BinOp → (dotted : Bool) → Meaning → Meaning → Meaning
strict_operands at op dotted first second s n = followed (first s n) (λ a n. followed (second s n) (λ b. ended (operator_value at op dotted a b)))

unfoldable pub lazy_operands : BinOp → Meaning → Meaning → Meaning
lazy_operands op first second s n = followed (first s n) (λ a. lazily op a second s)

-- `A * transpose(B)`
unfoldable pub flipped_operands : Place → Meaning → Meaning → Meaning
flipped_operands at first second s n = followed (first s n) (λ a n. followed (second s n) (λ b. ended (flipped_value at a b)))

-- any of these; `flipped` is what B means
unfoldable pub operated : Place → BinOp → (dotted : Bool) → Meaning → Meaning → (flipped : Option Meaning) → Meaning
operated at op dotted first second (Some flipped) s n = flipped_operands at first flipped s n
operated at op dotted first second None s n =
    if is_lazy op then (if dotted then Wrong else lazy_operands op first second s n) else strict_operands at op dotted first second s n

-- `a[i]` and `a[k]`
unfoldable pub index_operands : Place → Meaning → Meaning → Meaning
index_operands at first second s n = followed (first s n) (λ a n. followed (second s n) (λ b. ended (indexed at a b)))

-- the argument of `transpose`
abbrev pub transposed_part : Option Function → List Part → Option Meaning
transposed_part (Some functions.Transpose) (Plain x m ∷ []) = Some m
transposed_part _ _ = None

-- ---- names

unfoldable pub column_value : List ℕ → Option (List Column) → Answer Value
column_value name frame = given frame (λ columns. field_value name (Frame columns))

-- ---- expressions

unfoldable mutual
  pub value : Supply → Tree → Meaning
  value g (number h z) s n = Is (Word Number z) (tick n)
  value g (truth_tree h holds) s n = Is (Word Truth (truth holds)) (tick n)
  value g (text h bytes) s n = Wrong
  value g (variable h name) s n = ended (given (value_named name s.vars) Gives) (tick n)
  value g (column h name) s n = ended (column_value name s.frame) (tick n)
  value g (field h name of_it) s n = ended (given (value_named name s.vars) (field_value of_it)) (tick n)
  value g (unary h op dotted x) s n = followed (value g x s (tick n)) (λ a. ended (unary_value op dotted a))
  value g (binary h op dotted x y) s n =
      operated h.at op dotted (value g x) (value g y) (if is_product op dotted then flipped g y else None) s (tick n)
  value g (index h x i) s n = index_operands h.at (value g x) (value g i) s (tick n)
  value g (call h function dotted xs) s n = called g (function_named dotted function) h dotted (parts g xs) s (tick n)

  -- the arguments of a call
  pub parts : Supply → Args → List Part
  parts g none = []
  parts g (plain x xs) = Plain x (value g x) ∷ parts g xs
  parts g (range x y xs) = Range (value g x) (value g y) ∷ parts g xs
  parts g (lambda parameter x xs) = Lambda parameter x ∷ parts g xs
  parts g (named name at x xs) = Named name x (value g x) ∷ parts g xs

  -- what the argument means, where the expression is a call of `transpose`
  pub flipped : Supply → Tree → Option Meaning
  flipped g (call h function dotted xs) = transposed_part (function_named dotted function) (parts g xs)
  flipped g _ = None

-- an operator on two expressions
unfoldable pub binary_value : Supply → Place → BinOp → (dotted : Bool) → (left right : Tree) → Meaning
binary_value g at op dotted left right s n = operated at op dotted (value g left) (value g right) (if is_product op dotted then flipped g right else None) s n
