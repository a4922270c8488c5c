-- Each expression of a script makes its arrays by at most one construct.
use Rattle.std.proofs.Common.{◌≡◌, ℕ, zero, suc, ◌+◌, ◌≤◌, ◌==◌, Bool, true, false, ◌&&◌, cond, if◌then◌else◌, bytes_eq, codes, List, [], ◌∷◌, ◌++◌, map, Option, Some, None, refl, arith}
use Rattle.std.specs.List.{range_with_len}
use Rattle.hp_word.specs.declared.fold.FoldKind.TheVariants as folds
use Rattle.hp_script.specs.declared.function.Function.{Function}
use Rattle.hp_script.specs.declared.function.Function.TheVariants as function
use Rattle.hp_script.specs.declared.tree.BinOp.{BinOp}
use Rattle.hp_script.specs.declared.tree.BinOp.TheVariants as binary_op
use Rattle.hp_script.specs.declared.typed.Typed.{Typed}
use Rattle.hp_script.specs.Functions.{function_named}
use Rattle.hp_script.specs.Mirror.{Tree, Args, Block, number, truth, text, variable, column, field, unary, binary, index, call, none, plain, range, lambda, named, done, assign, print, export, choose, loop, block_of}
use Rattle.hp_script.specs.Nodes.{nodes_in, nodes_in_args, nodes_of}
use Rattle.hp_air.specs.Arrays.{Arrays, Length, Read, Map, Reduce, Scan, Stencil, Filter, Join, Group, Concat, Sort, At, Pick, Frame, Stack, Row, Product, ProductT, Export, Fill, Range, outs}
use Rattle.hp_air.specs.Carried.{is_made}
use Rattle.hp_air.specs.Unknowns.{Known, Unknown, of_node, balanced_of, Columns, columns_of, column_named, at_node, arrays_at, arrays_named, arguments_of, shape_at, shape_named, width, copied, of_one, of_two, first, second, all, call_arrays, call_of, product_of, binary_of, index_of, frame_around, no_frame, print_of, known_of, constructs_in, constructs_among, constructs_of, constructs}
use Rattle.hp_flat.proofs.ArrayBlocks.{regrouped}
use Rattle.hp_flat.proofs.StencilCopies.{among, among_append}
use Rattle.hp_flat.proofs.SlotLaws.{numbered}

-- ---- what makes the arrays of an expression

-- the first of these arrays is one of this expression
abbrev pub starts_at : ℕ → List Unknown → Bool
starts_at n (of_node m k ∷ us) = n == m
starts_at n _ = false

-- the construct makes arrays of this expression
abbrev pub made_at : ℕ → Arrays Unknown → Bool
made_at n c = is_made c && starts_at n (outs c)

-- how many of some constructs do
abbrev pub total : ℕ → List (Arrays Unknown) → ℕ
total n [] = 0
total n (c ∷ cs) = cond (made_at n c) 1 0 + total n cs

pub total_append : (n : ℕ) (cs ds : List (Arrays Unknown)) → total n (cs ++ ds) ≡ total n cs + total n ds
total_append n [] ds = omega arith
total_append n (c ∷ cs) ds = regrouped (cond (made_at n c) 1 0) (total n cs) (total n ds) (total n (cs ++ ds)) (total_append n cs ds)

-- ---- the constructs of one expression

abbrev Few : ℕ → List (Arrays Unknown) → Type 0
Few m cs = (n : ℕ) → total n cs ≤ cond (n == m) 1 0

small : (made s t : Bool) → (s ≡ true → t ≡ true) → cond (made && s) 1 0 + 0 ≤ cond t 1 0
small false s t h = omega arith
small true false t h = omega arith
small true true true h = omega arith
small true true false h = let never : false ≡ true = h refl in absurd cc

few_none : (m : ℕ) → Few m []
few_none m n = omega arith

few_one : (m : ℕ) (c : Arrays Unknown) → ((n : ℕ) → starts_at n (outs c) ≡ true → (n == m) ≡ true) → Few m (c ∷ [])
few_one m c h n = small (is_made c) (starts_at n (outs c)) (n == m) (h n)

starts_value : (n m w : ℕ) → starts_at n (map (of_node m) (range_with_len 0 w)) ≡ true → (n == m) ≡ true
starts_value n m zero e = absurd cc
starts_value n m (suc w) e = e

few_of_one : (m : ℕ) (us : List Unknown) (made : Unknown → Arrays Unknown) → ((u : Unknown) → Few m (made u ∷ [])) → Few m (of_one us made)
few_of_one m [] made each = few_none m
few_of_one m (u ∷ []) made each = each u
few_of_one m (u ∷ v ∷ us) made each = few_none m

few_of_two : (m : ℕ) (us vs : List Unknown) (made : Unknown → Unknown → Arrays Unknown) → ((u v : Unknown) → Few m (made u v ∷ [])) → Few m (of_two us vs made)
few_of_two m (u ∷ []) (v ∷ []) made each = each u v
few_of_two m _ _ made each = few_none m

few_lengths : (m : ℕ) (us : List Unknown) → Few m (map Length us)
few_lengths m [] n = omega arith
few_lengths m (u ∷ us) n = omega (arith, few_lengths m us n)

few_copied : (m : ℕ) (os ins : List Unknown) → Few m (copied os ins)
few_copied m [] ins n = omega arith
few_copied m (o ∷ os) ins n = omega arith

few_either : (m : ℕ) (b : Bool) (cs ds : List (Arrays Unknown)) → Few m cs → Few m ds → Few m (if b then cs else ds)
few_either m true cs ds c d = c
few_either m false cs ds c d = d

few_call : (g : Known) (m : ℕ) (f : Function) (sides : List (List Unknown)) → Few m (call_arrays m (at_node g m) f sides)
unfolding call_arrays outs
few_call g m function.Map sides = few_one m (Map (of_node m 0) (first sides)) (λ n e. e)
few_call g m function.Fill sides = few_one m (Fill (of_node m 0)) (λ n e. e)
few_call g m function.Collect sides = few_one m (Range (of_node m 0)) (λ n e. e)
few_call g m function.ReadCsv sides = few_one m (Read (at_node g m)) (λ n e. starts_value n m (width (shape_at g m)) e)
few_call g m function.Length sides = few_lengths m (first sides)
few_call g m function.Nrow sides = few_lengths m (first sides)
few_call g m (function.Fold kind) sides = few_of_one m (first sides) (Reduce kind) (λ u. few_one m (Reduce kind u) (λ n e. absurd cc))
few_call g m function.Count sides = few_of_one m (first sides) (Reduce folds.Sum) (λ u. few_one m (Reduce folds.Sum u) (λ n e. absurd cc))
few_call g m function.Cumsum sides = few_of_one m (first sides) (Scan (of_node m 0)) (λ u. few_one m (Scan (of_node m 0) u) (λ n e. e))
few_call g m function.Stencil sides = few_of_one m (first sides) (λ array. Stencil (of_node m 0) array (balanced_of m)) (λ u. few_one m (Stencil (of_node m 0) u (balanced_of m)) (λ n e. e))
few_call g m function.Filter sides =
    few_of_one m (second sides) (Filter (at_node g m) (first sides)) (λ u. few_one m (Filter (at_node g m) (first sides) u) (λ n e. starts_value n m (width (shape_at g m)) e))
few_call g m function.Join sides = few_one m (Join (at_node g m) (first sides) (second sides)) (λ n e. starts_value n m (width (shape_at g m)) e)
few_call g m function.Aggregate sides = few_one m (Group (at_node g m) (first sides)) (λ n e. starts_value n m (width (shape_at g m)) e)
few_call g m function.Vcat sides = few_of_two m (first sides) (second sides) (Concat (of_node m 0)) (λ u v. few_one m (Concat (of_node m 0) u v) (λ n e. e))
few_call g m function.Sort sides = few_one m (Sort (at_node g m) (first sides)) (λ n e. starts_value n m (width (shape_at g m)) e)
few_call g m function.DataFrame sides = few_one m (Frame (at_node g m) (all sides)) (λ n e. starts_value n m (width (shape_at g m)) e)
few_call g m function.Stack sides = few_one m (Stack (of_node m 0) (all sides)) (λ n e. e)
few_call g m function.Row sides = few_of_one m (first sides) (Row (of_node m 0)) (λ u. few_one m (Row (of_node m 0) u) (λ n e. e))
few_call g m _ sides = few_none m

few_called : (g : Known) (m : ℕ) (dotted : Bool) (f : Option Function) (sides : List (List Unknown)) → Few m (call_of m (at_node g m) dotted f sides)
unfolding outs
few_called g m true f sides = few_one m (Map (of_node m 0) (all sides)) (λ n e. e)
few_called g m false (Some f) sides = few_call g m f sides
few_called g m false None sides = few_none m

few_product : (m : ℕ) (us vs : List Unknown) → Few m (of_two us vs (Product (of_node m 0)))
unfolding outs
few_product m us vs = few_of_two m us vs (Product (of_node m 0)) (λ u v. few_one m (Product (of_node m 0) u v) (λ n e. e))

few_transposed : (m : ℕ) (us vs : List Unknown) → Few m (of_two us vs (ProductT (of_node m 0)))
unfolding outs
few_transposed m us vs = few_of_two m us vs (ProductT (of_node m 0)) (λ u v. few_one m (ProductT (of_node m 0) u v) (λ n e. e))

few_products : (g : Known) (m : ℕ) (x y : Tree) → Few m (product_of g m x y)
few_products g m x (call h f false (plain y none)) =
    few_either m (bytes_eq f (codes "transpose")) (of_two (arrays_at g x) (arrays_at g y) (ProductT (of_node m 0))) (of_two (arrays_at g x) (at_node g h.id) (Product (of_node m 0)))
    (few_transposed m (arrays_at g x) (arrays_at g y)) (few_product m (arrays_at g x) (at_node g h.id))
few_products g m x y = few_product m (arrays_at g x) (arrays_at g y)

few_binary : (g : Known) (m : ℕ) (op : BinOp) (dotted : Bool) (x y : Tree) → Few m (binary_of g m op dotted x y)
unfolding outs
few_binary g m op true x y = few_one m (Map (of_node m 0) (arrays_at g x ++ arrays_at g y)) (λ n e. e)
few_binary g m binary_op.Mul false x y = few_products g m x y
few_binary g m _ false x y = few_none m

few_index : (m : ℕ) (us is : List Unknown) → Few m (index_of m us is)
unfolding outs
few_index m us [] = few_of_one m us At (λ u. few_one m (At u) (λ n e. absurd cc))
few_index m us (k ∷ ks) = few_of_one m us (λ x. Pick (of_node m 0) x k) (λ u. few_one m (Pick (of_node m 0) u k) (λ n e. e))

few_unary : (m : ℕ) (dotted : Bool) (us : List Unknown) → Few m (if dotted then Map (of_node m 0) us ∷ [] else [])
unfolding outs
few_unary m true us = few_one m (Map (of_node m 0) us) (λ n e. e)
few_unary m false us = few_none m

-- ---- expressions

leaf : (n m t : ℕ) → t ≤ cond (n == m) 1 0 → t ≤ cond (n == m) 1 0 + 0
leaf n m t h = omega (arith, h)

mutual
  unfolding constructs_in constructs_among

  pub tree_total : (g : Known) (around : Columns) (x : Tree) (n : ℕ) → total n (constructs_in g around x) ≤ among n (nodes_in x)
  tree_total g around (number h z) n = omega arith
  tree_total g around (truth h holds) n = omega arith
  tree_total g around (text h bytes) n = omega arith
  tree_total g around (variable h x) n = leaf n h.id _ (few_copied h.id (at_node g h.id) (arrays_named g x) n)
  tree_total g around (column h c) n = leaf n h.id _ (few_copied h.id (at_node g h.id) (column_named around c) n)
  tree_total g around (field h d c) n = leaf n h.id _ (few_copied h.id (at_node g h.id) (column_named (columns_of (shape_named g d) (arrays_named g d)) c) n)
  tree_total g around (unary h op dotted x) n =
      omega (arith, total_append n (constructs_in g around x) (if dotted then Map (of_node h.id 0) (arrays_at g x) ∷ [] else []), tree_total g around x n, few_unary h.id dotted (arrays_at g x) n)
  tree_total g around (binary h op dotted x y) n =
      omega (
        arith,
        total_append n (constructs_in g around x ++ constructs_in g around y) (binary_of g h.id op dotted x y),
        total_append n (constructs_in g around x) (constructs_in g around y),
        among_append n (nodes_in x) (h.id ∷ nodes_in y),
        tree_total g around x n,
        tree_total g around y n,
        few_binary g h.id op dotted x y n,
      )
  tree_total g around (index h x i) n =
      omega (
        arith,
        total_append n (constructs_in g around x ++ constructs_in g around i) (index_of h.id (arrays_at g x) (arrays_at g i)),
        total_append n (constructs_in g around x) (constructs_in g around i),
        among_append n (nodes_in x) (h.id ∷ nodes_in i),
        tree_total g around x n,
        tree_total g around i n,
        few_index h.id (arrays_at g x) (arrays_at g i) n,
      )
  tree_total g around (call h f dotted xs) n =
      omega (
        arith,
        total_append n (constructs_among g around (frame_around g f xs around) xs) (call_of h.id (at_node g h.id) dotted (function_named dotted f) (arguments_of g xs)),
        args_total g around (frame_around g f xs around) xs n,
        few_called g h.id dotted (function_named dotted f) (arguments_of g xs) n,
      )

  args_total : (g : Known) (around behind : Columns) (xs : Args) (n : ℕ) → total n (constructs_among g around behind xs) ≤ among n (nodes_in_args xs)
  args_total g around behind none n = omega arith
  args_total g around behind (plain x xs) n =
      omega (arith, total_append n (constructs_in g around x) (constructs_among g behind behind xs), among_append n (nodes_in x) (nodes_in_args xs), tree_total g around x n, args_total g behind behind xs n)
  args_total g around behind (range x y xs) n =
      omega (
        arith,
        total_append n (constructs_in g around x ++ constructs_in g around y) (constructs_among g behind behind xs),
        total_append n (constructs_in g around x) (constructs_in g around y),
        among_append n (nodes_in x ++ nodes_in y) (nodes_in_args xs),
        among_append n (nodes_in x) (nodes_in y),
        tree_total g around x n,
        tree_total g around y n,
        args_total g behind behind xs n,
      )
  args_total g around behind (lambda p x xs) n = omega (arith, among_append n (nodes_in x) (nodes_in_args xs), args_total g behind behind xs n)
  args_total g around behind (named name at x xs) n =
      omega (arith, total_append n (constructs_in g around x) (constructs_among g behind behind xs), among_append n (nodes_in x) (nodes_in_args xs), tree_total g around x n, args_total g behind behind xs n)

-- ---- statements

printed_total : (n : ℕ) (us : List Unknown) (cs : List (Arrays Unknown)) → total n (print_of us ∷ cs) ≡ total n cs
printed_total n [] cs = omega arith
printed_total n (u ∷ us) cs = omega arith

few_store : (n : ℕ) (os ins : List Unknown) → total n (copied os ins) ≡ 0
few_store n [] ins = refl
few_store n (o ∷ os) ins = refl

pub block_total : (g : Known) (b : Block) (n : ℕ) → total n (constructs_of g b) ≤ among n (nodes_of b)
unfolding constructs_of nodes_of
block_total g done n = omega arith
block_total g (assign at x e rest) n =
    omega (
      arith,
      total_append n (constructs_in g no_frame e ++ copied (arrays_named g x) (arrays_at g e)) (constructs_of g rest),
      total_append n (constructs_in g no_frame e) (copied (arrays_named g x) (arrays_at g e)),
      few_store n (arrays_named g x) (arrays_at g e),
      among_append n (nodes_in e) (nodes_of rest),
      tree_total g no_frame e n,
      block_total g rest n,
    )
block_total g (print at e rest) n =
    omega (arith, total_append n (constructs_in g no_frame e) (print_of (arrays_at g e) ∷ constructs_of g rest), printed_total n (arrays_at g e) (constructs_of g rest), among_append n (nodes_in e) (nodes_of rest), tree_total g no_frame e n, block_total g rest n)
block_total g (export at e rest) n =
    omega (arith, total_append n (constructs_in g no_frame e) (Export (arrays_at g e) ∷ constructs_of g rest), among_append n (nodes_in e) (nodes_of rest), tree_total g no_frame e n, block_total g rest n)
block_total g (choose at test body other rest) n =
    omega (
      arith,
      total_append n (constructs_in g no_frame test ++ constructs_of g body ++ constructs_of g other) (constructs_of g rest),
      total_append n (constructs_in g no_frame test ++ constructs_of g body) (constructs_of g other),
      total_append n (constructs_in g no_frame test) (constructs_of g body),
      among_append n (nodes_in test ++ nodes_of body ++ nodes_of other) (nodes_of rest),
      among_append n (nodes_in test ++ nodes_of body) (nodes_of other),
      among_append n (nodes_in test) (nodes_of body),
      tree_total g no_frame test n,
      block_total g body n,
      block_total g other n,
      block_total g rest n,
    )
block_total g (loop at test body rest) n =
    omega (
      arith,
      total_append n (constructs_in g no_frame test ++ constructs_of g body) (constructs_of g rest),
      total_append n (constructs_in g no_frame test) (constructs_of g body),
      among_append n (nodes_in test ++ nodes_of body) (nodes_of rest),
      among_append n (nodes_in test) (nodes_of body),
      tree_total g no_frame test n,
      block_total g body n,
      block_total g rest n,
    )

-- of a script at most one
pub made_once : (typed : Typed) (n : ℕ) → total n (constructs typed) ≤ 1
unfolding constructs
made_once typed n = omega (arith, block_total (known_of typed) (block_of typed.script.body) n, numbered typed n)
