-- The constructs of a script: none but a stencil makes a balanced copy, and a stencil that of its own expression.
use Rattle.std.proofs.Common.{◌≡◌, ℕ, zero, suc, ◌==◌, Bool, true, false, not, cond, bytes_eq, codes, List, [], ◌∷◌, ◌++◌, map, slice_get, Option, Some, None, IsTrue, refl, subst}
use Rattle.std.proofs.lemmas.Bool.{eq-eqb}
use Rattle.std.specs.List.{list_all, range_with_len}
use Rattle.hp_script.specs.declared.function.Function.{Function}
use Rattle.hp_script.specs.declared.function.Function.TheVariants as function
use Rattle.hp_script.specs.declared.tree.BinOp.{BinOp}
use Rattle.hp_script.specs.declared.tree.BinOp.TheVariants as op
use Rattle.hp_script.specs.declared.typed.Shape.{Shape}
use Rattle.hp_script.specs.declared.typed.Typed.{Typed}
use Rattle.hp_script.specs.Functions.{function_named}
use Rattle.hp_script.specs.Mirror.{Tree, Args, Block, number, truth, text, variable, column, field, unary, binary, index, call, none, plain, range, lambda, named, done, assign, print, export, choose, loop, block_of}
use Rattle.hp_program.proofs.Keeping.{first_holds, second_holds}
use Rattle.hp_air.specs.Arrays.{Arrays, Length, Map, Reduce, Scan, Stencil, Filter, Concat, Row, At, Pick, Product, ProductT, outs}
use Rattle.hp_air.specs.Carried.{IsItem, is_balanced}
use Rattle.hp_air.specs.Unknowns.{Known, Columns, Unknown, of_variable, of_node, balanced_of, width, shape_at, at_node, arrays_at, at_variable, variable_named, shape_named, arrays_named, columns_of, column_named, copied, of_one, of_two, arguments_of, first, second, call_arrays, call_of, product_of, binary_of, index_of, frame_around, no_frame, constructs_in, constructs_among, constructs_at, print_of, constructs_of, constructs, known_of}
use Rattle.hp_parfor.proofs.BuiltKept.{both, all_join}

-- no balanced copy among these
abbrev pub are_plain : List Unknown → Bool
are_plain us = list_all (λ u. not (is_balanced u)) us

-- the value of an expression that is an array, and the balanced copy of that expression
abbrev pub is_of_one : (out balanced : Unknown) → Bool
is_of_one (of_node n zero) (balanced_of m) = n == m
is_of_one _ _ = false

abbrev pub is_formed : Arrays Unknown → Bool
is_formed (Stencil out array balanced) = is_of_one out balanced
is_formed c = are_plain (outs c)

-- ---- arrays of values and variables

nodes_plain : (node : ℕ) (columns : List ℕ) → IsTrue (are_plain (map (of_node node) columns))
nodes_plain node [] = refl
nodes_plain node (c ∷ cs) = nodes_plain node cs

variables_plain : (v : ℕ) (columns : List ℕ) → IsTrue (are_plain (map (of_variable v) columns))
variables_plain v [] = refl
variables_plain v (c ∷ cs) = variables_plain v cs

value_plain : (g : Known) (node : ℕ) → IsTrue (are_plain (at_node g node))
value_plain g node = nodes_plain node (range_with_len 0 (width (shape_at g node)))

variable_plain : (v : Option ℕ) (found : Option Shape) → IsTrue (are_plain (at_variable v found))
variable_plain (Some v) found = variables_plain v (range_with_len 0 (width found))
variable_plain None found = refl

-- ---- constructs

abbrev Formed : List (Arrays Unknown) → Type 0
Formed cs = IsTrue (list_all is_formed cs)

copied_formed : (os ins : List Unknown) → IsTrue (are_plain os) → Formed (copied os ins)
unfolding outs
copied_formed [] ins p = refl
copied_formed (o ∷ os) ins p = both _ _ p refl

of_one_formed : (xs : List Unknown) (made : Unknown → Arrays Unknown) → ((x : Unknown) → IsTrue (is_formed (made x))) → Formed (of_one xs made)
of_one_formed [] made p = refl
of_one_formed (x ∷ []) made p = both _ _ (p x) refl
of_one_formed (x ∷ y ∷ xs) made p = refl

of_two_formed : (xs ys : List Unknown) (made : Unknown → Unknown → Arrays Unknown) → ((x y : Unknown) → IsTrue (is_formed (made x y))) → Formed (of_two xs ys made)
of_two_formed (x ∷ []) (y ∷ []) made p = both _ _ (p x y) refl
of_two_formed [] ys made p = refl
of_two_formed (x ∷ z ∷ xs) ys made p = refl
of_two_formed (x ∷ []) [] made p = refl
of_two_formed (x ∷ []) (y ∷ z ∷ ys) made p = refl

lengths_formed : (xs : List Unknown) → Formed (map Length xs)
unfolding outs
lengths_formed [] = refl
lengths_formed (x ∷ xs) = lengths_formed xs

same_number : (n : ℕ) → IsTrue (n == n)
same_number n = rw (eq-eqb n n refl) refl

call_formed : (node : ℕ) (value : List Unknown) (f : Function) (sides : List (List Unknown)) → IsTrue (are_plain value) → Formed (call_arrays node value f sides)
unfolding call_arrays outs
call_formed node value function.ReadCsv sides p = both _ _ p refl
call_formed node value function.Length sides p = lengths_formed (first sides)
call_formed node value function.Nrow sides p = lengths_formed (first sides)
call_formed node value (function.Fold kind) sides p = of_one_formed (first sides) (Reduce kind) (λ x. refl)
call_formed node value function.Count sides p = of_one_formed (first sides) _ (λ x. refl)
call_formed node value function.Cumsum sides p = of_one_formed (first sides) (Scan (of_node node 0)) (λ x. refl)
call_formed node value function.Stencil sides p = of_one_formed (first sides) (λ array. Stencil (of_node node 0) array (balanced_of node)) (λ x. same_number node)
call_formed node value function.Filter sides p = of_one_formed (second sides) (Filter value (first sides)) (λ x. p)
call_formed node value function.Join sides p = both _ _ p refl
call_formed node value function.Aggregate sides p = both _ _ p refl
call_formed node value function.Vcat sides p = of_two_formed (first sides) (second sides) (Concat (of_node node 0)) (λ x y. refl)
call_formed node value function.Sort sides p = both _ _ p refl
call_formed node value function.DataFrame sides p = both _ _ p refl
call_formed node value function.Row sides p = of_one_formed (first sides) (Row (of_node node 0)) (λ x. refl)
call_formed node value _ sides p = refl

calls_formed : (node : ℕ) (value : List Unknown) (dotted : Bool) (f : Option Function) (sides : List (List Unknown)) → IsTrue (are_plain value) → Formed (call_of node value dotted f sides)
unfolding outs
calls_formed node value true f sides p = refl
calls_formed node value false (Some f) sides p = call_formed node value f sides p
calls_formed node value false None sides p = refl

one_of_both : (b : Bool) (cs ds : List (Arrays Unknown)) → Formed cs → Formed ds → Formed (cond b cs ds)
one_of_both true cs ds p q = p
one_of_both false cs ds p q = q

index_formed : (node : ℕ) (array at : List Unknown) → Formed (index_of node array at)
unfolding outs
index_formed node array [] = of_one_formed array At (λ x. refl)
index_formed node array (k ∷ ks) = of_one_formed array (λ x. Pick (of_node node 0) x k) (λ x. refl)

product_formed : (g : Known) (node : ℕ) (x y : Tree) → Formed (product_of g node x y)
unfolding outs
product_formed g node x (call h f false (plain y none)) =
    one_of_both (bytes_eq f (codes "transpose")) _ _ (of_two_formed (arrays_at g x) (arrays_at g y) (ProductT (of_node node 0)) (λ a b. refl)) (of_two_formed (arrays_at g x) (at_node g h.id) (Product (of_node node 0)) (λ a b. refl))
product_formed g node x y = of_two_formed (arrays_at g x) (arrays_at g y) (Product (of_node node 0)) (λ a b. refl)

binary_formed : (g : Known) (node : ℕ) (o : BinOp) (dotted : Bool) (x y : Tree) → Formed (binary_of g node o dotted x y)
unfolding outs
binary_formed g node o true x y = refl
binary_formed g node op.Mul false x y = product_formed g node x y
binary_formed g node _ false x y = refl

-- ---- expressions

joined : (cs ds : List (Arrays Unknown)) → Formed cs → Formed ds → Formed (cs ++ ds)
joined cs ds p q = all_join is_formed cs ds p q

mutual
  unfolding constructs_in constructs_among outs

  in_formed : (g : Known) (around : Columns) (x : Tree) → Formed (constructs_in g around x)
  in_formed g around (number h value) = refl
  in_formed g around (truth h holds) = refl
  in_formed g around (text h bytes) = refl
  in_formed g around (variable h x) = copied_formed (at_node g h.id) (arrays_named g x) (value_plain g h.id)
  in_formed g around (column h c) = copied_formed (at_node g h.id) (column_named around c) (value_plain g h.id)
  in_formed g around (field h d c) = copied_formed (at_node g h.id) (column_named (columns_of (shape_named g d) (arrays_named g d)) c) (value_plain g h.id)
  in_formed g around (unary h o dotted x) = joined (constructs_in g around x) _ (in_formed g around x) (one_of_both dotted (Map (of_node h.id 0) (arrays_at g x) ∷ []) [] refl refl)
  in_formed g around (binary h o dotted x y) =
      joined (constructs_in g around x ++ constructs_in g around y) _ (joined (constructs_in g around x) _ (in_formed g around x) (in_formed g around y)) (binary_formed g h.id o dotted x y)
  in_formed g around (index h x i) =
      joined (constructs_in g around x ++ constructs_in g around i) _ (joined (constructs_in g around x) _ (in_formed g around x) (in_formed g around i)) (index_formed h.id (arrays_at g x) (arrays_at g i))
  in_formed g around (call h f dotted xs) =
      joined (constructs_among g around (frame_around g f xs around) xs) _ (among_formed g around (frame_around g f xs around) xs)
      (calls_formed h.id (at_node g h.id) dotted (function_named dotted f) (arguments_of g xs) (value_plain g h.id))

  among_formed : (g : Known) (around behind : Columns) (xs : Args) → Formed (constructs_among g around behind xs)
  among_formed g around behind none = refl
  among_formed g around behind (plain x xs) = joined (constructs_in g around x) _ (in_formed g around x) (among_formed g behind behind xs)
  among_formed g around behind (range x y xs) =
      joined (constructs_in g around x ++ constructs_in g around y) _ (joined (constructs_in g around x) _ (in_formed g around x) (in_formed g around y)) (among_formed g behind behind xs)
  among_formed g around behind (lambda p x xs) = among_formed g behind behind xs
  among_formed g around behind (named name at x xs) = joined (constructs_in g around x) _ (in_formed g around x) (among_formed g behind behind xs)

-- ---- scripts

print_formed : (us : List Unknown) → IsTrue (is_formed (print_of us))
unfolding outs
print_formed [] = refl
print_formed (u ∷ us) = refl

block_formed : (g : Known) (b : Block) → Formed (constructs_of g b)
unfolding constructs_of outs
block_formed g done = refl
block_formed g (assign at x e rest) =
    joined (constructs_at g e ++ copied (arrays_named g x) (arrays_at g e)) _
    (joined (constructs_at g e) _ (in_formed g no_frame e) (copied_formed (arrays_named g x) (arrays_at g e) (variable_plain (variable_named g x) (shape_named g x)))) (block_formed g rest)
block_formed g (print at e rest) = joined (constructs_at g e) _ (in_formed g no_frame e) (both _ _ (print_formed (arrays_at g e)) (block_formed g rest))
block_formed g (export at e rest) = joined (constructs_at g e) _ (in_formed g no_frame e) (block_formed g rest)
block_formed g (choose at test body other rest) =
    joined ((constructs_at g test ++ constructs_of g body) ++ constructs_of g other) _
    (joined (constructs_at g test ++ constructs_of g body) _ (joined (constructs_at g test) _ (in_formed g no_frame test) (block_formed g body)) (block_formed g other)) (block_formed g rest)
block_formed g (loop at test body rest) =
    joined (constructs_at g test ++ constructs_of g body) _ (joined (constructs_at g test) _ (in_formed g no_frame test) (block_formed g body)) (block_formed g rest)

pub script_formed : (typed : Typed) → IsTrue (list_all is_formed (constructs typed))
unfolding constructs
script_formed typed = block_formed (known_of typed) (block_of typed.script.body)

pub item_formed : (cs : List (Arrays Unknown)) (c : Arrays Unknown) → IsTrue (list_all is_formed cs) → IsItem cs c → IsTrue (is_formed c)
item_formed cs c formed item = at cs item.0 formed item.1
  where
    at : (ds : List (Arrays Unknown)) (k : ℕ) → IsTrue (list_all is_formed ds) → slice_get ds k ≡ Some c → IsTrue (is_formed c)
    at [] k p e = absurd cc
    at (d ∷ ds) zero p e = let same : d ≡ c = cc in subst (λ x. IsTrue (is_formed x)) same (first_holds _ _ p)
    at (d ∷ ds) (suc k) p e = at ds k (second_holds (is_formed d) _ p) e
