-- Which expressions of a script have a value.
use Rattle.std.specs.Prelude.{ℕ, pos, ◌≡◌, ◌||◌, ◌&&◌, Bool, true, false, if◌then◌else◌, List, [], ◌∷◌, ◌++◌, map, codes, bytes_eq, Option, Some, None, refl}
use Rattle.hp_word.specs.declared.place.Place.{Place}
use Rattle.hp_script.specs.Mirror.{Tree, Args, Block, number, truth, text, variable, column, field, unary, binary, index, call, none, plain, range, lambda, named, done, assign, print, export, choose, loop}
use Rattle.hp_script.specs.Nodes.{nodes_in}

-- the calls among whose arguments the name of a column has no value
abbrev pub takes_columns : List ℕ → Bool
takes_columns function = bytes_eq function (codes "read_csv") || bytes_eq function (codes "join") || bytes_eq function (codes "aggregate") || bytes_eq function (codes "sort")

abbrev pub is_column : Tree → Bool
is_column (column h name) = true
is_column _ = false

-- a measure of `aggregate`: `sum(:b)`, `minimum(:b)`, `maximum(:b)` or `count()`
abbrev pub is_measure : Tree → Bool
is_measure (call h function false (plain (column of_it name) none)) = bytes_eq function (codes "sum") || bytes_eq function (codes "minimum") || bytes_eq function (codes "maximum")
is_measure (call h function false none) = bytes_eq function (codes "count")
is_measure _ = false

-- the variable that is this parameter
abbrev pub is_parameter : Option (List ℕ) → Tree → Bool
is_parameter (Some parameter) (variable h name) = bytes_eq parameter name
is_parameter _ _ = false

-- no part of an expression has a value
abbrev pub without_value : Tree → List Bool
without_value x = map (λ id. false) (nodes_in x)

-- For each part of an expression, in the order of the text, whether it has a value. All have one but a text, a call
-- of `transpose`, and by where they stand: the name of a column as an argument of a call that takes columns, a measure
-- of `aggregate`, and what is indexed where it is the parameter of a lambda that is an argument of `stencil`.
-- `parameter` is that of the lambda around the expression, where that is an argument of `stencil`.
abbrev mutual
  pub values_in : (parameter : Option (List ℕ)) → Tree → List Bool
  values_in parameter (number h value) = true ∷ []
  values_in parameter (truth h holds) = true ∷ []
  values_in parameter (text h bytes) = false ∷ []
  values_in parameter (variable h name) = true ∷ []
  values_in parameter (column h name) = true ∷ []
  values_in parameter (field h name of_it) = true ∷ []
  values_in parameter (unary h op dotted x) = true ∷ values_in parameter x
  values_in parameter (binary h op dotted x y) = values_in parameter x ++ true ∷ values_in parameter y
  values_in parameter (index h x i) = (if is_parameter parameter x then without_value x else values_in parameter x) ++ true ∷ values_in parameter i
  values_in parameter (call h function dotted xs) = (if bytes_eq function (codes "transpose") then false else true) ∷ values_among parameter function xs

  -- the same of the arguments of a call of this function
  pub values_among : (parameter : Option (List ℕ)) (function : List ℕ) → Args → List Bool
  values_among parameter function none = []
  values_among parameter function (plain x xs) =
      (if takes_columns function && is_column x then without_value x else values_in parameter x) ++ values_among parameter function xs
  values_among parameter function (range x y xs) = values_in parameter x ++ values_in parameter y ++ values_among parameter function xs
  values_among parameter function (lambda own x xs) =
      values_in (if bytes_eq function (codes "stencil") then Some own else None) x ++ values_among parameter function xs
  values_among parameter function (named name at x xs) =
      (if bytes_eq function (codes "aggregate") && is_measure x then without_value x else values_in parameter x) ++ values_among parameter function xs

-- for each expression of a block, in the order of the text, whether it has a value
unfoldable pub values_of : Block → List Bool
values_of done = []
values_of (assign at name x rest) = values_in None x ++ values_of rest
values_of (print at x rest) = values_in None x ++ values_of rest
values_of (export at x rest) = values_in None x ++ values_of rest
values_of (choose at test body other rest) = values_in None test ++ values_of body ++ values_of other ++ values_of rest
values_of (loop at test body rest) = values_in None test ++ values_of body ++ values_of rest

-- ---- worked rows

-- in `d = aggregate(f, :k, n = count())` the call of `aggregate` and `f` have a value
row_of_measures : (h : _) (at : Place) (d f k n : List ℕ)
    → values_of (assign at d (call h (codes "aggregate") false (plain (variable h f) (plain (column h k) (named n at (call h (codes "count") false none) none)))) done) ≡ true ∷ true ∷ false ∷ false ∷ []
unfolding values_of
row_of_measures h at d f k n = refl

-- in `println(stencil(p -> p[1], p))` the first `p` that is read has no value
row_of_stencils : (h : _) (at : Place)
    → values_of (print at (call h (codes "stencil") false (lambda (codes "p") (index h (variable h (codes "p")) (number h (pos 1))) (plain (variable h (codes "p")) none))) done) ≡ true ∷ false ∷ true ∷ true ∷ true ∷ []
unfolding values_of
row_of_stencils h at = refl
