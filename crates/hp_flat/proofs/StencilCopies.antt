-- The balanced copies of a script: one for each stencil, and each stencil has a number of its own.
use Rattle.std.proofs.Common.{◌≡◌, ℕ, zero, suc, ◌+◌, ◌<◌, ◌≤◌, ◌==◌, Bool, true, false, cond, bytes_eq, codes, List, [], ◌∷◌, ◌++◌, map, flat_map, length, Option, Some, None, IsTrue, slice_get, refl, sym, ap, ◌∙◌, subst, append-nil, arith}
use Rattle.std.proofs.lemmas.Bool.{eqb-true, ne_eqb, or_left}
use Rattle.std.proofs.lemmas.List.{length-append}
use Rattle.std.proofs.lemmas.List.Concat.{flat_map-append}
use Rattle.std.specs.List.{AllByRecursion, range_with_len}
use Rattle.hp_word.specs.declared.fold.FoldKind.TheVariants as folds
use Rattle.hp_script.specs.declared.function.Function.{Function}
use Rattle.hp_script.specs.declared.function.Function.TheVariants as function
use Rattle.hp_script.specs.declared.tree.BinOp.{BinOp}
use Rattle.hp_script.specs.declared.tree.BinOp.TheVariants as op
use Rattle.hp_script.specs.Functions.{function_named}
use Rattle.hp_script.specs.Mirror.{Tree, Args, Block, number, truth, text, variable, column, field, unary, binary, index, call, none, plain, range, lambda, named, done, assign, print, export, choose, loop}
use Rattle.hp_script.specs.Nodes.{nodes_in, nodes_in_args, nodes_of}
use Rattle.hp_air.specs.Arrays.{Arrays, Length, Map, Reduce, Scan, Filter, Concat, Row, Stencil, Export, At, Pick, Product, ProductT}
use Rattle.hp_air.specs.Carried.{is_among}
use Rattle.hp_air.specs.Unknowns.{Known, Columns, first, second, Unknown, of_variable, of_node, balanced_of, of_nothing, same_unknown, arrays_at, arrays_named, at_node, arguments_of, of_one, of_two, copied, column_named, columns_of, shape_named, print_of, product_of, binary_of, index_of, call_of, call_arrays, frame_around, no_frame, constructs_in, constructs_among, constructs_of, balanced_by}
use Rattle.hp_flat.proofs.ArrayBlocks.{IsArray, all_append, once_next, regrouped, same_itself, times, times_append}
use Rattle.hp_flat.proofs.SlotPlaces.{among_right}

-- ---- the copies of constructs

abbrev pub IsCopy : Unknown → Type 0
IsCopy (balanced_of n) = Unit {0}
IsCopy _ = ⊥

-- how often a number stands in a list
abbrev pub among : ℕ → List ℕ → ℕ
among n [] = 0
among n (m ∷ ms) = cond (n == m) 1 0 + among n ms

abbrev pub copies : List (Arrays Unknown) → List Unknown
copies cs = flat_map balanced_by cs

-- what stands beside arrays in the order of balanced copies is a copy of one of these expressions, no more often than it;
-- so there are no more than expressions
pub record Copies (us : List Unknown) (nodes : List ℕ) : Type 0 where
  pub are : AllByRecursion IsCopy us
  pub most : (n : ℕ) → times (balanced_of n) us ≤ among n nodes
  pub fewer : length us ≤ length nodes

none_at_all : (nodes : List ℕ) → Copies [] nodes
none_at_all nodes = record { are = tt; most = λ n. omega arith; fewer = omega arith }

by_equal : (us vs : List Unknown) (nodes : List ℕ) → vs ≡ us → Copies us nodes → Copies vs nodes
by_equal us vs nodes e c = subst (λ (l : List Unknown). Copies l nodes) (sym e) c

pub among_append : (n : ℕ) (xs ys : List ℕ) → among n (xs ++ ys) ≡ among n xs + among n ys
among_append n [] ys = omega arith
among_append n (x ∷ xs) ys = regrouped (cond (n == x) 1 0) (among n xs) (among n ys) (among n (xs ++ ys)) (among_append n xs ys)

joined : (us vs : List Unknown) (ns ms : List ℕ) → Copies us ns → Copies vs ms → Copies (us ++ vs) (ns ++ ms)
joined us vs ns ms a b = record {
  are = all_append IsCopy us vs a.are b.are;
  most = λ n. omega (arith, times_append (balanced_of n) us vs, among_append n ns ms, a.most n, b.most n);
  fewer = let one = a.fewer in let other = b.fewer in omega (arith, length-append us vs, length-append ns ms, one, other);
}

-- constructs behind each other
pub both : (cs ds : List (Arrays Unknown)) (ns ms : List ℕ) → Copies (copies cs) ns → Copies (copies ds) ms → Copies (copies (cs ++ ds)) (ns ++ ms)
both cs ds ns ms a b = by_equal (copies cs ++ copies ds) (copies (cs ++ ds)) (ns ++ ms) (flat_map-append balanced_by cs ds) (joined (copies cs) (copies ds) ns ms a b)

-- a construct's own number stands before those of its parts, or between them
before_parts : (us : List Unknown) (ns : List ℕ) (m : ℕ) → Copies us (ns ++ m ∷ []) → Copies us (m ∷ ns)
before_parts us ns m c = record { are = c.are; most = λ n. omega (arith, c.most n, among_append n ns (m ∷ [])); fewer = let all = c.fewer in omega (arith, length-append ns (m ∷ []), all) }

between_parts : (us : List Unknown) (ns ms : List ℕ) (m : ℕ) → Copies us (ns ++ ms) → Copies us (ns ++ m ∷ ms)
between_parts us ns ms m c = record { are = c.are; most = λ n. omega (arith, c.most n, among_append n ns ms, among_append n ns (m ∷ ms)); fewer = let all = c.fewer in omega (arith, length-append ns ms, length-append ns (m ∷ ms), all) }

-- constructs without a stencil
without : (us : List Unknown) (nodes : List ℕ) → us ≡ [] → Copies us nodes
without us nodes e = by_equal [] us nodes e (none_at_all nodes)

-- constructs behind which one stands that is no stencil
pub and_plain : (cs ds : List (Arrays Unknown)) (ns : List ℕ) → copies ds ≡ [] → Copies (copies cs) ns → Copies (copies (cs ++ ds)) ns
and_plain cs ds ns e c =
    by_equal (copies cs) (copies (cs ++ ds)) ns (flat_map-append balanced_by cs ds ∙ ap (λ (l : List Unknown). copies cs ++ l) e ∙ append-nil (copies cs)) c

-- ---- constructs that are no stencils

of_one_plain : (xs : List Unknown) (made : Unknown → Arrays Unknown) → ((x : Unknown) → balanced_by (made x) ≡ []) → copies (of_one xs made) ≡ []
of_one_plain [] made never = refl
of_one_plain (x ∷ []) made never = rw (never x) refl
of_one_plain (x ∷ y ∷ xs) made never = refl

of_two_plain : (xs ys : List Unknown) (made : Unknown → Unknown → Arrays Unknown) → ((x y : Unknown) → balanced_by (made x y) ≡ []) → copies (of_two xs ys made) ≡ []
of_two_plain (x ∷ []) (y ∷ []) made never = rw (never x y) refl
of_two_plain [] ys made never = refl
of_two_plain (x ∷ z ∷ xs) ys made never = refl
of_two_plain (x ∷ []) [] made never = refl
of_two_plain (x ∷ []) (y ∷ z ∷ ys) made never = refl

copied_plain : (outs ins : List Unknown) → copies (copied outs ins) ≡ []
copied_plain [] ins = refl
copied_plain (out ∷ outs) ins = refl

lengths_plain : (xs : List Unknown) → copies (map Length xs) ≡ []
lengths_plain [] = refl
lengths_plain (x ∷ xs) = lengths_plain xs

index_plain : (node : ℕ) (array index : List Unknown) → copies (index_of node array index) ≡ []
index_plain node array [] = of_one_plain array At (λ x. refl)
index_plain node array (k ∷ ks) = of_one_plain array (λ x. Pick (of_node node 0) x k) (λ x. refl)

one_of_both : (b : Bool) (cs ds : List (Arrays Unknown)) → copies cs ≡ [] → copies ds ≡ [] → copies (cond b cs ds) ≡ []
one_of_both true cs ds c d = c
one_of_both false cs ds c d = d

plain_product : (g : Known) (node : ℕ) (x y : Tree) → copies (of_two (arrays_at g x) (arrays_at g y) (Product (of_node node 0))) ≡ []
plain_product g node x y = of_two_plain (arrays_at g x) (arrays_at g y) (Product (of_node node 0)) (λ a b. refl)

product_plain : (g : Known) (node : ℕ) (x y : Tree) → copies (product_of g node x y) ≡ []
product_plain g node x (call h f false (plain y none)) =
    one_of_both (bytes_eq f (codes "transpose")) (of_two (arrays_at g x) (arrays_at g y) (ProductT (of_node node 0))) (of_two (arrays_at g x) (at_node g h.id) (Product (of_node node 0)))
    (of_two_plain (arrays_at g x) (arrays_at g y) (ProductT (of_node node 0)) (λ a b. refl)) (plain_product g node x (call h f false (plain y none)))
product_plain g node x (number h value) = plain_product g node x (number h value)
product_plain g node x (truth h holds) = plain_product g node x (truth h holds)
product_plain g node x (text h bytes) = plain_product g node x (text h bytes)
product_plain g node x (variable h name) = plain_product g node x (variable h name)
product_plain g node x (column h name) = plain_product g node x (column h name)
product_plain g node x (field h name of_it) = plain_product g node x (field h name of_it)
product_plain g node x (unary h op dotted y) = plain_product g node x (unary h op dotted y)
product_plain g node x (binary h op dotted y z) = plain_product g node x (binary h op dotted y z)
product_plain g node x (index h y i) = plain_product g node x (index h y i)
product_plain g node x (call h f true ys) = plain_product g node x (call h f true ys)
product_plain g node x (call h f false none) = plain_product g node x (call h f false none)
product_plain g node x (call h f false (plain y (plain z zs))) = plain_product g node x (call h f false (plain y (plain z zs)))
product_plain g node x (call h f false (plain y (range z w zs))) = plain_product g node x (call h f false (plain y (range z w zs)))
product_plain g node x (call h f false (plain y (lambda p z zs))) = plain_product g node x (call h f false (plain y (lambda p z zs)))
product_plain g node x (call h f false (plain y (named p at z zs))) = plain_product g node x (call h f false (plain y (named p at z zs)))
product_plain g node x (call h f false (range y z zs)) = plain_product g node x (call h f false (range y z zs))
product_plain g node x (call h f false (lambda p y zs)) = plain_product g node x (call h f false (lambda p y zs))
product_plain g node x (call h f false (named p at y zs)) = plain_product g node x (call h f false (named p at y zs))

binary_plain : (g : Known) (node : ℕ) (o : BinOp) (dotted : Bool) (x y : Tree) → copies (binary_of g node o dotted x y) ≡ []
binary_plain g node o true x y = refl
binary_plain g node op.Mul false x y = product_plain g node x y
binary_plain g node op.Or false x y = refl
binary_plain g node op.And false x y = refl
binary_plain g node op.Eq false x y = refl
binary_plain g node op.Ne false x y = refl
binary_plain g node op.Lt false x y = refl
binary_plain g node op.Le false x y = refl
binary_plain g node op.Gt false x y = refl
binary_plain g node op.Ge false x y = refl
binary_plain g node op.Add false x y = refl
binary_plain g node op.Sub false x y = refl
binary_plain g node op.BitOr false x y = refl
binary_plain g node op.BitAnd false x y = refl

-- ---- calls

-- a stencil has the copy of its own number
stencil_copy : (node : ℕ) (xs : List Unknown) → Copies (copies (of_one xs (λ array. Stencil (of_node node 0) array (balanced_of node)))) (node ∷ [])
unfolding same_unknown
stencil_copy node [] = none_at_all (node ∷ [])
stencil_copy node (x ∷ []) = record { are = (tt, tt); most = λ n. omega arith; fewer = omega arith }
stencil_copy node (x ∷ y ∷ xs) = none_at_all (node ∷ [])

function_copies : (node : ℕ) (value : List Unknown) (f : Function) (sides : List (List Unknown)) → Copies (copies (call_arrays node value f sides)) (node ∷ [])
unfolding call_arrays
function_copies node value function.Map sides = none_at_all _
function_copies node value function.Fill sides = none_at_all _
function_copies node value function.Collect sides = none_at_all _
function_copies node value function.ReadCsv sides = none_at_all _
function_copies node value function.Length sides = without _ _ (lengths_plain (first sides))
function_copies node value function.Nrow sides = without _ _ (lengths_plain (first sides))
function_copies node value (function.Fold kind) sides = without _ _ (of_one_plain (first sides) (Reduce kind) (λ x. refl))
function_copies node value function.Count sides = without _ _ (of_one_plain (first sides) (Reduce folds.Sum) (λ x. refl))
function_copies node value function.Cumsum sides = without _ _ (of_one_plain (first sides) (Scan (of_node node 0)) (λ x. refl))
function_copies node value function.Stencil sides = stencil_copy node (first sides)
function_copies node value function.Filter sides = without _ _ (of_one_plain (second sides) (Filter value (first sides)) (λ x. refl))
function_copies node value function.Join sides = none_at_all _
function_copies node value function.Aggregate sides = none_at_all _
function_copies node value function.Vcat sides = without _ _ (of_two_plain (first sides) (second sides) (Concat (of_node node 0)) (λ x y. refl))
function_copies node value function.Sort sides = none_at_all _
function_copies node value function.DataFrame sides = none_at_all _
function_copies node value function.Stack sides = none_at_all _
function_copies node value function.Row sides = without _ _ (of_one_plain (first sides) (Row (of_node node 0)) (λ x. refl))
function_copies node value (function.Scalar f) sides = none_at_all _
function_copies node value function.Transpose sides = none_at_all _

call_copies : (node : ℕ) (value : List Unknown) (dotted : Bool) (f : Option Function) (sides : List (List Unknown)) → Copies (copies (call_of node value dotted f sides)) (node ∷ [])
call_copies node value true f sides = none_at_all _
call_copies node value false None sides = none_at_all _
call_copies node value false (Some f) sides = function_copies node value f sides

-- ---- expressions

with_own : (us : List Unknown) (ns : List ℕ) (m : ℕ) → Copies us ns → Copies us (m ∷ ns)
with_own us ns m c = record { are = c.are; most = λ n. omega (arith, c.most n); fewer = let all = c.fewer in omega (arith, all) }

behind : (us : List Unknown) (ns ms : List ℕ) → Copies us ms → Copies us (ns ++ ms)
behind us ns ms c = record { are = c.are; most = λ n. omega (arith, c.most n, among_append n ns ms); fewer = let all = c.fewer in omega (arith, length-append ns ms, all) }

mutual
  unfolding constructs_in

  tree_copies : (g : Known) (around : Columns) (x : Tree) → Copies (copies (constructs_in g around x)) (nodes_in x)
  tree_copies g around (number h value) = none_at_all _
  tree_copies g around (truth h holds) = none_at_all _
  tree_copies g around (text h bytes) = none_at_all _
  tree_copies g around (variable h x) = without _ _ (copied_plain (at_node g h.id) (arrays_named g x))
  tree_copies g around (column h c) = without _ _ (copied_plain (at_node g h.id) (column_named around c))
  tree_copies g around (field h d c) = without _ _ (copied_plain (at_node g h.id) (column_named (columns_of (shape_named g d) (arrays_named g d)) c))
  tree_copies g around (unary h o dotted x) = with_own _ _ h.id
      (and_plain (constructs_in g around x) _ (nodes_in x) (one_of_both dotted (Map (of_node h.id 0) (arrays_at g x) ∷ []) [] refl refl) (tree_copies g around x))
  tree_copies g around (binary h o dotted x y) = between_parts _ (nodes_in x) (nodes_in y) h.id
      (and_plain (constructs_in g around x ++ constructs_in g around y) (binary_of g h.id o dotted x y) (nodes_in x ++ nodes_in y) (binary_plain g h.id o dotted x y)
      (both (constructs_in g around x) (constructs_in g around y) (nodes_in x) (nodes_in y) (tree_copies g around x) (tree_copies g around y)))
  tree_copies g around (index h x i) = between_parts _ (nodes_in x) (nodes_in i) h.id
      (and_plain (constructs_in g around x ++ constructs_in g around i) (index_of h.id (arrays_at g x) (arrays_at g i)) (nodes_in x ++ nodes_in i) (index_plain h.id (arrays_at g x) (arrays_at g i))
      (both (constructs_in g around x) (constructs_in g around i) (nodes_in x) (nodes_in i) (tree_copies g around x) (tree_copies g around i)))
  tree_copies g around (call h f dotted xs) = before_parts _ (nodes_in_args xs) h.id
      (both (constructs_among g around (frame_around g f xs around) xs) (call_of h.id (at_node g h.id) dotted (function_named dotted f) (arguments_of g xs)) (nodes_in_args xs) (h.id ∷ [])
      (args_copies g around (frame_around g f xs around) xs) (call_copies h.id (at_node g h.id) dotted (function_named dotted f) (arguments_of g xs)))

  args_copies : (g : Known) (around after : Columns) (xs : Args) → Copies (copies (constructs_among g around after xs)) (nodes_in_args xs)
  args_copies g around after none = none_at_all _
  args_copies g around after (plain x xs) = both (constructs_in g around x) (constructs_among g after after xs) (nodes_in x) (nodes_in_args xs) (tree_copies g around x) (args_copies g after after xs)
  args_copies g around after (range x y xs) =
      both (constructs_in g around x ++ constructs_in g around y) (constructs_among g after after xs) (nodes_in x ++ nodes_in y) (nodes_in_args xs)
      (both (constructs_in g around x) (constructs_in g around y) (nodes_in x) (nodes_in y) (tree_copies g around x) (tree_copies g around y))
      (args_copies g after after xs)
  args_copies g around after (lambda p x xs) = behind _ (nodes_in x) (nodes_in_args xs) (args_copies g after after xs)
  args_copies g around after (named name at x xs) = both (constructs_in g around x) (constructs_among g after after xs) (nodes_in x) (nodes_in_args xs) (tree_copies g around x) (args_copies g after after xs)

-- ---- statements

plain_first : (c : Arrays Unknown) (cs : List (Arrays Unknown)) (ns : List ℕ) → balanced_by c ≡ [] → Copies (copies cs) ns → Copies (copies (c ∷ cs)) ns
plain_first c cs ns e found = rw e found

print_plain : (xs : List Unknown) → balanced_by (print_of xs) ≡ []
print_plain [] = refl
print_plain (x ∷ xs) = refl

pub block_copies : (g : Known) (b : Block) → Copies (copies (constructs_of g b)) (nodes_of b)
unfolding constructs_of nodes_of
block_copies g done = none_at_all _
block_copies g (assign at x e rest) =
    both (constructs_in g no_frame e ++ copied (arrays_named g x) (arrays_at g e)) (constructs_of g rest) (nodes_in e) (nodes_of rest)
    (and_plain (constructs_in g no_frame e) (copied (arrays_named g x) (arrays_at g e)) (nodes_in e) (copied_plain (arrays_named g x) (arrays_at g e)) (tree_copies g no_frame e))
    (block_copies g rest)
block_copies g (print at e rest) =
    both (constructs_in g no_frame e) (print_of (arrays_at g e) ∷ constructs_of g rest) (nodes_in e) (nodes_of rest) (tree_copies g no_frame e)
    (plain_first (print_of (arrays_at g e)) (constructs_of g rest) (nodes_of rest) (print_plain (arrays_at g e)) (block_copies g rest))
block_copies g (export at e rest) =
    both (constructs_in g no_frame e) (Export (arrays_at g e) ∷ constructs_of g rest) (nodes_in e) (nodes_of rest) (tree_copies g no_frame e)
    (plain_first (Export (arrays_at g e)) (constructs_of g rest) (nodes_of rest) refl (block_copies g rest))
block_copies g (choose at test body other rest) =
    both (constructs_in g no_frame test ++ constructs_of g body ++ constructs_of g other) (constructs_of g rest) (nodes_in test ++ nodes_of body ++ nodes_of other) (nodes_of rest)
    (both (constructs_in g no_frame test ++ constructs_of g body) (constructs_of g other) (nodes_in test ++ nodes_of body) (nodes_of other)
    (both (constructs_in g no_frame test) (constructs_of g body) (nodes_in test) (nodes_of body) (tree_copies g no_frame test) (block_copies g body))
    (block_copies g other))
    (block_copies g rest)
block_copies g (loop at test body rest) =
    both (constructs_in g no_frame test ++ constructs_of g body) (constructs_of g rest) (nodes_in test ++ nodes_of body) (nodes_of rest)
    (both (constructs_in g no_frame test) (constructs_of g body) (nodes_in test) (nodes_of body) (tree_copies g no_frame test) (block_copies g body))
    (block_copies g rest)

-- ---- numbers in a row

range_behind : (n a w : ℕ) → n < a → among n (range_with_len a w) ≡ 0
range_behind n a zero less = refl
range_behind n a (suc w) less = rw (ne_eqb n a (λ e. omega (arith, less, e))) (omega (arith, range_behind n (a + 1) w (omega (arith, less))))

pub range_once : (n a w : ℕ) → among n (range_with_len a w) ≤ 1
range_once n a zero = omega arith
range_once n a (suc w) =
    once_next (n == a) (among n (range_with_len (a + 1) w)) (λ e. range_behind n (a + 1) w (next (eqb-true n a e))) (range_once n (a + 1) w)
  where
    next : n ≡ a → n < a + 1
    next e = omega (arith, e)

-- ---- a stencil's copy is among them

all_right : (P : Unknown → Type 0) (xs ys : List Unknown) → AllByRecursion P (xs ++ ys) → AllByRecursion P ys
all_right P [] ys p = p
all_right P (x ∷ xs) ys p = all_right P xs ys p.1

pub copy_is_array : (u : Unknown) → IsCopy u → IsArray u
copy_is_array (balanced_of n) is = tt
copy_is_array (of_variable v c) is = absurd is
copy_is_array (of_node n c) is = absurd is
copy_is_array of_nothing is = absurd is

pub among_copies : (out array copy : Unknown) (cs : List (Arrays Unknown)) (k : ℕ) → AllByRecursion IsCopy (copies cs) → slice_get cs k ≡ Some (Stencil out array copy) → IsTrue (is_among (copies cs) copy)
among_copies out array copy [] k are e = absurd cc
among_copies out array copy (c ∷ cs) zero are e =
    let is : c ≡ Stencil out array copy = cc in
    subst (λ (d : Arrays Unknown). AllByRecursion IsCopy (balanced_by d ++ copies cs) → IsTrue (is_among (balanced_by d ++ copies cs) copy)) (sym is)
    (λ all. or_left _ _ (same_itself copy (copy_is_array copy all.0))) are
among_copies out array copy (c ∷ cs) (suc k) are e =
    among_right copy (balanced_by c) (copies cs) (among_copies out array copy cs k (all_right IsCopy (balanced_by c) (copies cs) are) e)
