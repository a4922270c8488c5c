-- The numbers of the expressions of a script.
use Rattle.std.specs.Prelude.{ℕ, ◌≡◌, false, List, [], ◌∷◌, ◌++◌, refl}
use Rattle.hp_word.specs.declared.place.Place.{Place}
use Rattle.hp_script.specs.declared.tree.BinOp.TheVariants.{Sub}
use Rattle.hp_script.specs.Mirror.{Tree, Args, Block, head, number, truth, text, variable, column, field, unary, binary, index, call, none, plain, range, lambda, named, done, assign, print, export, choose, loop}

-- The numbers of an expression and of its parts, in the order of the text: that of an operator stands where its sign
-- does, between its operands or before the only one, that of an index at its bracket, and that of a call at its name.
abbrev mutual
  pub nodes_in : Tree → List ℕ
  nodes_in (number h value) = h.id ∷ []
  nodes_in (truth h holds) = h.id ∷ []
  nodes_in (text h bytes) = h.id ∷ []
  nodes_in (variable h name) = h.id ∷ []
  nodes_in (column h name) = h.id ∷ []
  nodes_in (field h name of_it) = h.id ∷ []
  nodes_in (unary h op dotted x) = h.id ∷ nodes_in x
  nodes_in (binary h op dotted x y) = nodes_in x ++ h.id ∷ nodes_in y
  nodes_in (index h x i) = nodes_in x ++ h.id ∷ nodes_in i
  nodes_in (call h function dotted xs) = h.id ∷ nodes_in_args xs

  pub nodes_in_args : Args → List ℕ
  nodes_in_args none = []
  nodes_in_args (plain x xs) = nodes_in x ++ nodes_in_args xs
  nodes_in_args (range x y xs) = nodes_in x ++ nodes_in y ++ nodes_in_args xs
  nodes_in_args (lambda parameter x xs) = nodes_in x ++ nodes_in_args xs
  nodes_in_args (named name at x xs) = nodes_in x ++ nodes_in_args xs

-- the numbers of the expressions of statements, in the order of the text
unfoldable pub nodes_of : Block → List ℕ
nodes_of done = []
nodes_of (assign at name x rest) = nodes_in x ++ nodes_of rest
nodes_of (print at x rest) = nodes_in x ++ nodes_of rest
nodes_of (export at x rest) = nodes_in x ++ nodes_of rest
nodes_of (choose at test body other rest) = nodes_in test ++ nodes_of body ++ nodes_of other ++ nodes_of rest
nodes_of (loop at test body rest) = nodes_in test ++ nodes_of body ++ nodes_of rest

-- ---- a worked row

-- in `x[y] - z` the operator comes behind the index
row_of_operators : (at : Place) (x y z : List ℕ) → nodes_of (print at (binary (head 3 at) Sub false (index (head 1 at) (variable (head 0 at) x) (variable (head 2 at) y)) (variable (head 4 at) z)) done) ≡ 0 ∷ 1 ∷ 2 ∷ 3 ∷ 4 ∷ []
unfolding nodes_of
row_of_operators at x y z = refl
