-- The stencils that are found are those that have a balanced copy, and with these the places of a script are held.
use Rattle.std.proofs.Common.{◌≡◌, ℕ, ◌+◌, ◌==◌, zero, suc, Bool, true, false, if◌then◌else◌, List, [], ◌∷◌, ◌++◌, map, flat_map, slice_index_or, Option, Some, None, refl, sym, ap, ◌∙◌, append_assoc, append-nil, arith}
use Rattle.std.proofs.lemmas.List.{map-append}
use Rattle.std.proofs.lemmas.Grind.{flat_map-append}
use Rattle.std.specs.List.{range_with_len}
use Rattle.hp_script.specs.declared.function.Function.{Function}
use Rattle.hp_script.specs.declared.function.Function.TheVariants as function
use Rattle.hp_script.specs.declared.tree.BinOp.{BinOp}
use Rattle.hp_script.specs.declared.tree.BinOp.TheVariants as binary_op
use Rattle.hp_script.specs.declared.typed.Shape.{Shape}
use Rattle.hp_script.specs.declared.typed.Typed.{Typed}
use Rattle.hp_script.specs.declared.typed.Var.{Var}
use Rattle.hp_script.specs.Functions.{function_named}
use Rattle.hp_script.specs.Mirror.{Tree, Args, Block, number, truth, text, variable, column, field, unary, binary, index, call, none, plain, range, lambda, named, done, assign, print, export, choose, loop, block_of}
use Rattle.hp_air.specs.Arrays.{Arrays, Map, Length, Stencil}
use Rattle.hp_air.specs.Unknowns
use Rattle.hp_air.specs.Unknowns.{Unknown, of_node, balanced_of, Known, Columns, width, shape_at, at_node, arrays_at, arrays_named, no_frame, number_of, arguments_of, first, copied, of_one, of_two, call_of, call_arrays, binary_of, product_of, index_of, print_of, frame_around, constructs_in, constructs_among, constructs_of, constructs_at, balanced_by, variables_from, nodes_from}
use Rattle.hp_meaning.specs.ReadCalls.{reads_of}
use Rattle.hp_flat.specs.Homes.{Homes, homes_of}
use Rattle.hp_normal.specs.HomesHeld.{homes_with}
use Rattle.hp_normal.specs.Values.{values_among, first_width, copy_by, copies_in, copies_among, copies_of}
use Rattle.hp_normal.proofs.ValueForms.{sides_are}

abbrev Found : List (Arrays Unknown) → List ℕ → Type 0
Found cs copies = flat_map balanced_by cs ≡ map balanced_of copies

-- ---- one behind the other

two : (cs ds : List (Arrays Unknown)) (xs ys : List ℕ) → Found cs xs → Found ds ys → Found (cs ++ ds) (xs ++ ys)
two cs ds xs ys f g = flat_map-append balanced_by cs ds ∙ rw (f, g) (sym (map-append balanced_of xs ys))

with_none : (cs ds : List (Arrays Unknown)) (xs : List ℕ) → Found cs xs → Found ds [] → Found (cs ++ ds) xs
with_none cs ds xs f g = flat_map-append balanced_by cs ds ∙ rw (f, g) (append-nil _)

copied_none : (outs ins : List Unknown) → Found (copied outs ins) []
copied_none [] ins = refl
copied_none (x ∷ xs) ins = refl

one_none : (us : List Unknown) (made : Unknown → Arrays Unknown) → ((u : Unknown) → balanced_by (made u) ≡ []) → Found (of_one us made) []
one_none [] made plain_one = refl
one_none (u ∷ []) made plain_one = rw (plain_one u) refl
one_none (u ∷ v ∷ us) made plain_one = refl

two_none : (us vs : List Unknown) (made : Unknown → Unknown → Arrays Unknown) → ((u v : Unknown) → balanced_by (made u v) ≡ []) → Found (of_two us vs made) []
two_none [] vs made plain_one = refl
two_none (u ∷ []) [] made plain_one = refl
two_none (u ∷ []) (v ∷ []) made plain_one = rw (plain_one u v) refl
two_none (u ∷ []) (v ∷ w ∷ vs) made plain_one = refl
two_none (u ∷ x ∷ us) vs made plain_one = refl

lengths_none : (us : List Unknown) → Found (map Length us) []
lengths_none [] = refl
lengths_none (u ∷ us) = lengths_none us

-- ---- operators

unary_none : (dotted : Bool) (node : ℕ) (us : List Unknown) → Found (if dotted then Map (of_node node 0) us ∷ [] else []) []
unary_none true node us = refl
unary_none false node us = refl

product_none : (g : Known) (node : ℕ) (x y : Tree) → Found (product_of g node x y) []
product_none g node x y = product_cases y
  where
    either_none : (b : Bool) (us vs ws : List Unknown) → Found (if b then of_two us vs (Rattle.hp_air.specs.Arrays.ProductT (of_node node 0)) else of_two us ws (Rattle.hp_air.specs.Arrays.Product (of_node node 0))) []
    either_none true us vs ws = two_none us vs _ (λ u v. refl)
    either_none false us vs ws = two_none us ws _ (λ u v. refl)

    product_cases : (y : Tree) → Found (product_of g node x y) []
    product_cases (call h f false (plain z none)) = either_none _ (arrays_at g x) (arrays_at g z) (at_node g h.id)
    product_cases y = two_none (arrays_at g x) (arrays_at g y) _ (λ u v. refl)

binary_none : (g : Known) (node : ℕ) (op : BinOp) (dotted : Bool) (x y : Tree) → Found (binary_of g node op dotted x y) []
binary_none g node op true x y = refl
binary_none g node binary_op.Mul false x y = product_none g node x y
binary_none g node op false x y = refl

index_none : (node : ℕ) (us ks : List Unknown) → Found (index_of node us ks) []
index_none node us [] = one_none us _ (λ u. refl)
index_none node us (k ∷ ks) = one_none us _ (λ u. refl)

-- ---- calls

more_than_one : (w : ℕ) → (suc (suc w) == 1) ≡ false
more_than_one w = grind arith

stencil_of : (node k w : ℕ) → Found (of_one (map (of_node k) (range_with_len 0 w)) (λ array. Stencil (of_node node 0) array (balanced_of node))) (if w == 1 then node ∷ [] else [])
stencil_of node k zero = refl
stencil_of node k (suc zero) = refl
stencil_of node k (suc (suc w)) = rw (more_than_one w) refl

stencil_by : (g : Known) (node : ℕ) (values : List ℕ)
    → Found (of_one (first (map (at_node g) values)) (λ array. Stencil (of_node node 0) array (balanced_of node))) (if first_width g.shapes values == 1 then node ∷ [] else [])
stencil_by g node [] = refl
stencil_by g node (k ∷ values) = stencil_of node k (width (shape_at g k))

call_found : (g : Known) (node : ℕ) (value : List Unknown) (f : Function) (xs : Args) → Found (call_arrays node value f (arguments_of g xs)) (copy_by g.shapes node false (Some f) (values_among xs))
unfolding call_arrays
call_found g node value (function.Scalar f) xs = refl
call_found g node value (function.Fold kind) xs = one_none (first (arguments_of g xs)) _ (λ u. refl)
call_found g node value function.Count xs = one_none (first (arguments_of g xs)) _ (λ u. refl)
call_found g node value function.Length xs = lengths_none (first (arguments_of g xs))
call_found g node value function.Fill xs = refl
call_found g node value function.Collect xs = refl
call_found g node value function.Cumsum xs = one_none (first (arguments_of g xs)) _ (λ u. refl)
call_found g node value function.Map xs = refl
call_found g node value function.Stencil xs = rw (sides_are g xs) (stencil_by g node (values_among xs))
call_found g node value function.Vcat xs = two_none (first (arguments_of g xs)) _ _ (λ u v. refl)
call_found g node value function.DataFrame xs = refl
call_found g node value function.ReadCsv xs = refl
call_found g node value function.Nrow xs = lengths_none (first (arguments_of g xs))
call_found g node value function.Filter xs = one_none (slice_index_or (arguments_of g xs) 1 []) _ (λ u. refl)
call_found g node value function.Join xs = refl
call_found g node value function.Aggregate xs = refl
call_found g node value function.Sort xs = refl
call_found g node value function.Stack xs = refl
call_found g node value function.Row xs = one_none (first (arguments_of g xs)) _ (λ u. refl)
call_found g node value function.Transpose xs = refl

calls_found : (g : Known) (node : ℕ) (value : List Unknown) (dotted : Bool) (f : Option Function) (xs : Args)
    → Found (call_of node value dotted f (arguments_of g xs)) (copy_by g.shapes node dotted f (values_among xs))
calls_found g node value true f xs = refl
calls_found g node value false None xs = refl
calls_found g node value false (Some f) xs = call_found g node value f xs

-- ---- expressions

mutual
  unfolding constructs_in constructs_among copies_in copies_among

  in_expression : (g : Known) (around : Columns) (x : Tree) → Found (constructs_in g around x) (copies_in g.shapes x)
  in_expression g around (number h value) = refl
  in_expression g around (truth h holds) = refl
  in_expression g around (text h bytes) = refl
  in_expression g around (variable h x) = copied_none (at_node g h.id) _
  in_expression g around (column h c) = copied_none (at_node g h.id) _
  in_expression g around (field h d c) = copied_none (at_node g h.id) _
  in_expression g around (unary h op dotted x) = with_none (constructs_in g around x) _ (copies_in g.shapes x) (in_expression g around x) (unary_none dotted h.id (arrays_at g x))
  in_expression g around (binary h op dotted x y) =
      with_none (constructs_in g around x ++ constructs_in g around y) (binary_of g h.id op dotted x y) (copies_in g.shapes x ++ copies_in g.shapes y)
      (two (constructs_in g around x) (constructs_in g around y) (copies_in g.shapes x) (copies_in g.shapes y) (in_expression g around x) (in_expression g around y)) (binary_none g h.id op dotted x y)
  in_expression g around (index h x i) =
      with_none (constructs_in g around x ++ constructs_in g around i) (index_of h.id (arrays_at g x) (arrays_at g i)) (copies_in g.shapes x ++ copies_in g.shapes i)
      (two (constructs_in g around x) (constructs_in g around i) (copies_in g.shapes x) (copies_in g.shapes i) (in_expression g around x) (in_expression g around i)) (index_none h.id (arrays_at g x) (arrays_at g i))
  in_expression g around (call h f dotted xs) =
      two (constructs_among g around (frame_around g f xs around) xs) (call_of h.id (at_node g h.id) dotted (function_named dotted f) (arguments_of g xs))
      (copies_among g.shapes xs) (copy_by g.shapes h.id dotted (function_named dotted f) (values_among xs))
      (in_arguments g around (frame_around g f xs around) xs) (calls_found g h.id (at_node g h.id) dotted (function_named dotted f) xs)

  in_arguments : (g : Known) (around behind : Columns) (xs : Args) → Found (constructs_among g around behind xs) (copies_among g.shapes xs)
  in_arguments g around behind none = refl
  in_arguments g around behind (plain x xs) =
      two (constructs_in g around x) (constructs_among g behind behind xs) (copies_in g.shapes x) (copies_among g.shapes xs) (in_expression g around x) (in_arguments g behind behind xs)
  in_arguments g around behind (range x y xs) =
      two (constructs_in g around x ++ constructs_in g around y) (constructs_among g behind behind xs) (copies_in g.shapes x ++ copies_in g.shapes y) (copies_among g.shapes xs)
      (two (constructs_in g around x) (constructs_in g around y) (copies_in g.shapes x) (copies_in g.shapes y) (in_expression g around x) (in_expression g around y)) (in_arguments g behind behind xs)
  in_arguments g around behind (lambda parameter x xs) = in_arguments g behind behind xs
  in_arguments g around behind (named name at x xs) =
      two (constructs_in g around x) (constructs_among g behind behind xs) (copies_in g.shapes x) (copies_among g.shapes xs) (in_expression g around x) (in_arguments g behind behind xs)

-- ---- statements

print_none : (us : List Unknown) (cs : List (Arrays Unknown)) (xs : List ℕ) → Found cs xs → Found (print_of us ∷ cs) xs
print_none [] cs xs f = f
print_none (u ∷ us) cs xs f = f

in_block : (g : Known) (b : Block) → Found (constructs_of g b) (copies_of g.shapes b)
unfolding constructs_of copies_of
in_block g done = refl
in_block g (assign at x e rest) =
    two (constructs_at g e ++ copied (arrays_named g x) (arrays_at g e)) (constructs_of g rest) (copies_in g.shapes e) (copies_of g.shapes rest)
    (with_none (constructs_at g e) (copied (arrays_named g x) (arrays_at g e)) (copies_in g.shapes e) (in_expression g no_frame e) (copied_none (arrays_named g x) (arrays_at g e))) (in_block g rest)
in_block g (print at e rest) =
    two (constructs_at g e) (print_of (arrays_at g e) ∷ constructs_of g rest) (copies_in g.shapes e) (copies_of g.shapes rest) (in_expression g no_frame e)
    (print_none (arrays_at g e) (constructs_of g rest) (copies_of g.shapes rest) (in_block g rest))
in_block g (export at e rest) =
    two (constructs_at g e) (Rattle.hp_air.specs.Arrays.Export (arrays_at g e) ∷ constructs_of g rest) (copies_in g.shapes e) (copies_of g.shapes rest) (in_expression g no_frame e) (in_block g rest)
in_block g (choose at test body other rest) =
    two ((constructs_at g test ++ constructs_of g body) ++ constructs_of g other) (constructs_of g rest) ((copies_in g.shapes test ++ copies_of g.shapes body) ++ copies_of g.shapes other) (copies_of g.shapes rest)
    (two (constructs_at g test ++ constructs_of g body) (constructs_of g other) (copies_in g.shapes test ++ copies_of g.shapes body) (copies_of g.shapes other)
    (two (constructs_at g test) (constructs_of g body) (copies_in g.shapes test) (copies_of g.shapes body) (in_expression g no_frame test) (in_block g body)) (in_block g other)) (in_block g rest)
in_block g (loop at test body rest) =
    two (constructs_at g test ++ constructs_of g body) (constructs_of g rest) (copies_in g.shapes test ++ copies_of g.shapes body) (copies_of g.shapes rest)
    (two (constructs_at g test) (constructs_of g body) (copies_in g.shapes test) (copies_of g.shapes body) (in_expression g no_frame test) (in_block g body)) (in_block g rest)

-- ---- scripts

-- the places of a script are those by its reads and its stencils
pub all_places : (typed : Typed) (reads copies : List ℕ) → reads ≡ reads_of (block_of typed.script.body) → copies ≡ copies_of typed.shapes (block_of typed.script.body)
    → homes_with typed.shapes typed.vars reads copies ≡ homes_of typed
unfolding Rattle.hp_flat.specs.Homes.homes_of Rattle.hp_flat.specs.Homes.homes_in
all_places typed reads copies r c =
    let g : Known = record { shapes = typed.shapes; vars = typed.vars } in
    let found = in_block g (block_of typed.script.body) in
    rw (r, c, sym found) (ap (λ (l : List Unknown). homes_by l) (sym (append_assoc (variables_from 0 typed.vars) (nodes_from 0 typed.shapes) _)))
  where
    homes_by : List Unknown → Homes
    homes_by l = record { known = record { shapes = typed.shapes; vars = typed.vars }; reads = reads_of (block_of typed.script.body); arrays = l }
