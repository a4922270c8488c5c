-- What the orders of joins and aggregates can change of a run, and how many of them a run can execute.
use Rattle.std.specs.Prelude.{◌≡◌, ℕ, ◌+◌, ◌≤◌, Bool, true, false, not, ◌&&◌, List, [], ◌∷◌, codes, Option, Some, IfSome, refl}
use Rattle.hp_word.specs.declared.order.Order.{Order}
use Rattle.hp_word.specs.declared.order.RowPlace.{RowPlace}
use Rattle.hp_word.specs.declared.place.Place.{Place}
use Rattle.hp_script.specs.declared.function.Function.{Function}
use Rattle.hp_script.specs.declared.function.Function.TheVariants as functions
use Rattle.hp_script.specs.Functions.{function_named}
use Rattle.hp_script.specs.Mirror.{Head, Tree, Args, Block, number, truth, text, variable, column, field, unary, binary, index, call, none, plain, range, lambda, named, done, assign, print, export, choose, loop}
use Rattle.hp_meaning.specs.declared.seen.Seen.{Seen}
use Rattle.hp_meaning.specs.Outcomes.{Outcome, Is, Stops, Wrong}
use Rattle.hp_word.specs.RowRules.{row_place, order_named, order_taken, taken}
use Rattle.hp_meaning.specs.Run.{Ran, End}
use Rattle.hp_word.specs.Runs.{Went, Trapped, Spent, Mistaken}

-- ---- how many are executed

-- from what was seen first to what was seen later at most one join or aggregate was executed for each tick
abbrev pub IsFew : (first later : Seen) → Type 0
IsFew first later = (first.met.executed ≤ later.met.executed) × (later.met.executed + first.ticks ≤ first.met.executed + later.ticks)

-- the same until an expression has a value or traps
abbrev pub EvaluatesFew : {A : Type 0} → Seen → Outcome A → Type 0
EvaluatesFew n (Is a m) = IsFew n m
EvaluatesFew n (Stops t m) = IsFew n m
EvaluatesFew n Wrong = Unit {0}

-- the same until statements end, trap or want a turn for which there is no fuel
abbrev pub RunsFew : Seen → Ran → Type 0
RunsFew n (Went s) = IsFew n s.seen
RunsFew n (Trapped t s) = IsFew n s.seen
RunsFew n (Spent s) = IsFew n s.seen
RunsFew n Mistaken = Unit {0}

-- a whole run has executed at most as many as its ticks
abbrev pub EndsWithFew : Option End → Type 0
EndsWithFew found = IfSome found (λ e. e.at.seen.met.executed ≤ e.at.seen.ticks)

-- ---- orders that agree

-- up to a number two lists give the same orders, so that they agree (`AgreeUpTo`)
abbrev pub NameSameUpTo : (last : ℕ) → List Order → List Order → Type 0
NameSameUpTo last a b = (number : ℕ) → 1 ≤ number → number ≤ last → order_named number a ≡ order_named number b

-- a run that executes at most so many ends in the same way by other orders
abbrev pub EndsSame : (last : ℕ) → Option End → Option End → Type 0
EndsSame last found other = IfSome found (λ e. e.at.seen.met.executed ≤ last → other ≡ Some e)

-- ---- scripts without joins and aggregates

-- the functions whose rows are made in an order that a run is given
abbrev pub takes_order : Option Function → Bool
takes_order (Some functions.Join) = true
takes_order (Some functions.Aggregate) = true
takes_order _ = false

-- whether no call in an expression is of such a function; of the body of a lambda none is executed
unfoldable mutual
  pub joins_none_in : Tree → Bool
  joins_none_in (number h z) = true
  joins_none_in (truth h holds) = true
  joins_none_in (text h bytes) = true
  joins_none_in (variable h name) = true
  joins_none_in (column h name) = true
  joins_none_in (field h name of_it) = true
  joins_none_in (unary h op dotted x) = joins_none_in x
  joins_none_in (binary h op dotted x y) = joins_none_in x && joins_none_in y
  joins_none_in (index h x i) = joins_none_in x && joins_none_in i
  joins_none_in (call h function dotted xs) = not (takes_order (function_named dotted function)) && joins_none_among xs

  pub joins_none_among : Args → Bool
  joins_none_among none = true
  joins_none_among (plain x xs) = joins_none_in x && joins_none_among xs
  joins_none_among (range x y xs) = joins_none_in x && (joins_none_in y && joins_none_among xs)
  joins_none_among (lambda parameter x xs) = joins_none_among xs
  joins_none_among (named name at x xs) = joins_none_in x && joins_none_among xs

-- the same of statements
unfoldable pub joins_none : Block → Bool
joins_none done = true
joins_none (assign at name x rest) = joins_none_in x && joins_none rest
joins_none (print at x rest) = joins_none_in x && joins_none rest
joins_none (export at x rest) = joins_none_in x && joins_none rest
joins_none (choose at test body other rest) = joins_none_in test && (joins_none body && (joins_none other && joins_none rest))
joins_none (loop at test body rest) = joins_none_in test && (joins_none body && joins_none rest)

-- ---- worked rows

abbrev pairs_row : List RowPlace
pairs_row = row_place 1 0 ∷ row_place 2 0 ∷ []

abbrev turned_row : List RowPlace
turned_row = row_place 2 0 ∷ row_place 1 0 ∷ []

-- an order for the second join says nothing of the first
first_row : order_taken 1 (record { number = 2; places = turned_row } ∷ []) pairs_row ≡ order_taken 1 [] pairs_row
unfolding order_taken order_named
first_row = refl

second_row : order_taken 2 (record { number = 2; places = turned_row } ∷ []) pairs_row ≡ taken turned_row false
unfolding order_taken order_named Rattle.hp_word.specs.RowRules.is_order
second_row = refl

-- `println(nrow(x))` has none, and `println(nrow(join(x, x, :x)))` has one
abbrev of_one : Head → List ℕ → Tree → Tree
of_one h function x = call h function false (plain x none)

none_row : (at : Place) (h : Head) → joins_none (print at (of_one h (codes "nrow") (variable h (codes "x"))) done) ≡ true
unfolding joins_none joins_none_in joins_none_among function_named Rattle.hp_script.specs.Functions.scalar_named Rattle.hp_script.specs.Functions.fold_named Rattle.hp_script.specs.Functions.array_named Rattle.hp_script.specs.Functions.frame_named
none_row at h = refl

abbrev joined_self : Head → Tree
joined_self h = call h (codes "join") false (plain (variable h (codes "x")) (plain (variable h (codes "x")) (plain (column h (codes "x")) none)))

join_row : (at : Place) (h : Head) → joins_none (print at (of_one h (codes "nrow") (joined_self h)) done) ≡ false
unfolding joins_none joins_none_in joins_none_among function_named Rattle.hp_script.specs.Functions.scalar_named Rattle.hp_script.specs.Functions.fold_named Rattle.hp_script.specs.Functions.array_named Rattle.hp_script.specs.Functions.frame_named
join_row at h = refl
