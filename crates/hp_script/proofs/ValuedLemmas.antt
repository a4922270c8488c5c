-- What is said of which expressions have a value has an entry for each expression.
use Rattle.std.proofs.Common.{◌≡◌, ℕ, suc, Bool, true, false, if◌then◌else◌, List, ◌∷◌, ◌++◌, length, Option, refl, sym, ap, ◌∙◌, arith}
use Rattle.std.proofs.lemmas.List.{length-append, length-map}
use Rattle.hp_script.specs.Mirror.{Tree, Args, Block, number, truth, text, variable, column, field, unary, binary, index, call, none, plain, range, lambda, named, done, assign, print, export, choose, loop}
use Rattle.hp_script.specs.Nodes.{nodes_in, nodes_in_args, nodes_of}
use Rattle.hp_script.specs.Valued.{without_value, values_in, values_among, values_of}

-- as many entries in both parts, and so in the whole
both_many : {X Y : Type 0} (xs ys : List X) (ns ms : List Y) → length xs ≡ length ns → length ys ≡ length ms → length (xs ++ ys) ≡ length (ns ++ ms)
both_many xs ys ns ms a b = length-append xs ys ∙ (omega (arith, a, b)) ∙ sym (length-append ns ms)

either_many : (b : Bool) (x : Tree) (ys : List Bool) → length ys ≡ length (nodes_in x) → length (if b then without_value x else ys) ≡ length (nodes_in x)
either_many true x ys h = length-map (nodes_in x) (λ id. false)
either_many false x ys h = h

mutual
  in_many : (parameter : Option (List ℕ)) (x : Tree) → length (values_in parameter x) ≡ length (nodes_in x)
  in_many parameter (number h value) = refl
  in_many parameter (truth h holds) = refl
  in_many parameter (text h bytes) = refl
  in_many parameter (variable h name) = refl
  in_many parameter (column h name) = refl
  in_many parameter (field h name of_it) = refl
  in_many parameter (unary h op dotted x) = ap suc (in_many parameter x)
  in_many parameter (binary h op dotted x y) =
      both_many (values_in parameter x) (true ∷ values_in parameter y) (nodes_in x) (h.id ∷ nodes_in y) (in_many parameter x) (ap suc (in_many parameter y))
  in_many parameter (index h x i) =
      both_many _ (true ∷ values_in parameter i) (nodes_in x) (h.id ∷ nodes_in i) (either_many _ x (values_in parameter x) (in_many parameter x)) (ap suc (in_many parameter i))
  in_many parameter (call h function dotted xs) = ap suc (among_many parameter function xs)

  among_many : (parameter : Option (List ℕ)) (function : List ℕ) (xs : Args) → length (values_among parameter function xs) ≡ length (nodes_in_args xs)
  among_many parameter function none = refl
  among_many parameter function (plain x xs) =
      both_many _ (values_among parameter function xs) (nodes_in x) (nodes_in_args xs) (either_many _ x (values_in parameter x) (in_many parameter x)) (among_many parameter function xs)
  among_many parameter function (range x y xs) =
      both_many (values_in parameter x ++ values_in parameter y) (values_among parameter function xs) (nodes_in x ++ nodes_in y) (nodes_in_args xs)
      (both_many (values_in parameter x) (values_in parameter y) (nodes_in x) (nodes_in y) (in_many parameter x) (in_many parameter y)) (among_many parameter function xs)
  among_many parameter function (lambda own x xs) =
      both_many _ (values_among parameter function xs) (nodes_in x) (nodes_in_args xs) (in_many _ x) (among_many parameter function xs)
  among_many parameter function (named name at x xs) =
      both_many _ (values_among parameter function xs) (nodes_in x) (nodes_in_args xs) (either_many _ x (values_in parameter x) (in_many parameter x)) (among_many parameter function xs)

pub values_many : (body : Block) → length (values_of body) ≡ length (nodes_of body)
unfolding values_of nodes_of
values_many done = refl
values_many (assign at name x rest) = both_many _ (values_of rest) (nodes_in x) (nodes_of rest) (in_many _ x) (values_many rest)
values_many (print at x rest) = both_many _ (values_of rest) (nodes_in x) (nodes_of rest) (in_many _ x) (values_many rest)
values_many (export at x rest) = both_many _ (values_of rest) (nodes_in x) (nodes_of rest) (in_many _ x) (values_many rest)
values_many (choose at test body other rest) =
    both_many _ (values_of rest) (nodes_in test ++ nodes_of body ++ nodes_of other) (nodes_of rest)
    (both_many _ (values_of other) (nodes_in test ++ nodes_of body) (nodes_of other) (both_many _ (values_of body) (nodes_in test) (nodes_of body) (in_many _ test) (values_many body)) (values_many other))
    (values_many rest)
values_many (loop at test body rest) =
    both_many _ (values_of rest) (nodes_in test ++ nodes_of body) (nodes_of rest) (both_many _ (values_of body) (nodes_in test) (nodes_of body) (in_many _ test) (values_many body)) (values_many rest)
