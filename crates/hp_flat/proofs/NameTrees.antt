-- How many names the lists of a script's operations have: so many for each expression.
use Rattle.std.proofs.Common.{◌≡◌, ℕ, suc, ◌+◌, ◌*◌, ◌≤◌, List, [], ◌∷◌, ◌++◌, length, refl, arith}
use Rattle.std.proofs.lemmas.List.{length-append, length-map}
use Rattle.std.proofs.Math.Nat.{suc-mul}
use Rattle.hp_script.specs.Mirror.{Tree, Args, Block, number, truth, text, variable, column, field, unary, binary, index, call, none, plain, range, lambda, named, done, assign, print, export, choose, loop}
use Rattle.hp_script.specs.Nodes.{nodes_in, nodes_in_args, nodes_of}
use Rattle.hp_program.specs.Programs.{Prog, choose as branch, joined}
use Rattle.hp_air.specs.declared.what.Op.{Op}
use Rattle.hp_air.specs.Kept.{items_in}
use Rattle.hp_air.specs.Unknowns.{number_of, Unknown, Columns, columns_of, no_frame, shape_at, shape_named, at_node, arrays_at, arrays_named, arguments_of, all, frame_around, width}
use Rattle.hp_flat.specs.Flat.{flat, flat_among, flat_at, flat_block, store_code, print_code, export_code}
use Rattle.hp_flat.specs.FlatCalls.{unary_code, binary_code, index_code, named_call}
use Rattle.hp_flat.specs.Homes.{Homes, slot_of, slots_of, word_of}
use Rattle.hp_flat.proofs.NameCode.{names, names_joined, count, slots_many, value_copy, column_copy, unary_names, binary_names, index_names, own_names, store_names, print_names, export_names}
use Rattle.hp_flat.proofs.SmallCode.{value_count}

-- ---- what the expressions allow

-- so much for each expression
abbrev weight : ℕ → List ℕ → ℕ
weight each [] = 0
weight each (n ∷ ns) = each + weight each ns

weight_append : (each : ℕ) (xs ys : List ℕ) → weight each (xs ++ ys) ≡ weight each xs + weight each ys
weight_append each [] ys = omega arith
weight_append each (x ∷ xs) ys = omega (arith, weight_append each xs ys)

weight_is : (each : ℕ) (ns : List ℕ) → weight each ns ≡ length ns * each
weight_is each [] = omega arith
weight_is each (n ∷ ns) = omega (arith, suc-mul (length ns) each, weight_is each ns)

module _ (h : Homes) (most : ℕ) (some : 1 ≤ most) (values : (k : ℕ) → width (shape_at h.known k) ≤ most) (variables : (x : List ℕ) → length (arrays_named h.known x) ≤ most) where
  w : List ℕ → ℕ
  w ns = weight (5 * most) ns

  w_append : (xs ys : List ℕ) → w (xs ++ ys) ≡ w xs + w ys
  unfolding w
  w_append xs ys = weight_append (5 * most) xs ys

  w_more : (n : ℕ) (ns : List ℕ) → w (n ∷ ns) ≡ 5 * most + w ns
  unfolding w
  w_more n ns = refl

  w_none : w [] ≡ 0
  unfolding w
  w_none = refl

  value_many : (k : ℕ) → length (at_node h.known k) ≤ most
  value_many k = omega (arith, value_count h k (shape_at h.known k) refl, slots_many h most some values variables (at_node h.known k), values k)

  sides_more : (x : Tree) (us : List Unknown) → length (slots_of h (arrays_at h.known x ++ us)) ≤ most + length (slots_of h us)
  sides_more x us =
      omega (arith, length-map (arrays_at h.known x ++ us) (slot_of h), length-append (arrays_at h.known x) us, length-map us (slot_of h), value_many (number_of x))

  one_alone : (n k : ℕ) → n ≤ 2 * most → n + 2 * most ≤ w (k ∷ [])
  one_alone n k few = omega (arith, few, w_more k [], w_none)

  abbrev Few : Prog Op → List ℕ → Type 0
  Few p ns = names p + 2 * most ≤ w ns

  abbrev FewAmong : Prog Op → Args → Type 0
  FewAmong p xs = names p + length (slots_of h (all (arguments_of h.known xs))) + count xs ≤ w (nodes_in_args xs)

  before_sign : (p c : Prog Op) (k : ℕ) (ns : List ℕ) → Few p ns → names c ≤ 5 * most → Few (joined p c) (k ∷ ns)
  before_sign p c k ns one last = omega (arith, names_joined p c, one, last, w_more k ns)

  between_sign : (p c : Prog Op) (n k : ℕ) (ns ms : List ℕ) → Few p ns → n + 2 * most ≤ w ms → names c ≤ n + 2 * most → Few (joined p c) (ns ++ k ∷ ms)
  between_sign p c n k ns ms one other last = omega (arith, names_joined p c, one, other, last, w_append ns (k ∷ ms), w_more k ms)

  call_few : (p c : Prog Op) (k : ℕ) (xs : Args) → FewAmong p xs → names c ≤ 3 * most + length (slots_of h (all (arguments_of h.known xs))) + count xs → Few (joined p c) (k ∷ nodes_in_args xs)
  call_few p c k xs before last = omega (arith, names_joined p c, before, last, w_more k (nodes_in_args xs))

  one_more : (x : Tree) (xs : Args) (p q : Prog Op) → Few p (nodes_in x) → FewAmong q xs
      → names (joined p q) + length (slots_of h (arrays_at h.known x ++ all (arguments_of h.known xs))) + suc (count xs) ≤ w (nodes_in x ++ nodes_in_args xs)
  one_more x xs p q one more = omega (arith, names_joined p q, one, more, some, sides_more x (all (arguments_of h.known xs)), w_append (nodes_in x) (nodes_in_args xs))

  range_more : (x y : Tree) (xs : Args) (p q r : Prog Op) → Few p (nodes_in x) → Few q (nodes_in y) → FewAmong r xs
      → names (joined p (joined q r)) + length (slots_of h (all (arguments_of h.known xs))) + suc (count xs) ≤ w ((nodes_in x ++ nodes_in y) ++ nodes_in_args xs)
  range_more x y xs p q r one other more =
      omega (arith, names_joined p (joined q r), names_joined q r, one, other, more, some, w_append (nodes_in x ++ nodes_in y) (nodes_in_args xs), w_append (nodes_in x) (nodes_in y))

  lambda_more : (x : Tree) (xs : Args) (p q : Prog Op) → Few p (nodes_in x) → FewAmong q xs → names q + length (slots_of h (all (arguments_of h.known xs))) + suc (count xs) ≤ w (nodes_in x ++ nodes_in_args xs)
  lambda_more x xs p q one more = omega (arith, one, more, some, w_append (nodes_in x) (nodes_in_args xs))

  mutual
    unfolding flat flat_among items_in

    tree_names : (x : Tree) (around : Columns) → Few (flat h around x) (nodes_in x)
    tree_names (number n z) around = one_alone _ n.id (omega arith)
    tree_names (truth n holds) around = one_alone _ n.id (omega arith)
    tree_names (text n bytes) around = one_alone _ n.id (omega arith)
    tree_names (variable n x) around = one_alone _ n.id (value_copy h most some values variables n.at n.id (arrays_named h.known x) (variables x))
    tree_names (column n c) around = one_alone _ n.id (column_copy h most some values variables n.at n.id around c)
    tree_names (field n d c) around = one_alone _ n.id (column_copy h most some values variables n.at n.id (columns_of (shape_named h.known d) (arrays_named h.known d)) c)
    tree_names (unary n op dotted x) around = before_sign (flat h around x) (unary_code h n op dotted x) n.id (nodes_in x) (tree_names x around) (omega (arith, unary_names h most some values variables n op dotted x))
    tree_names (binary n op dotted x y) around =
        between_sign (flat h around x) (binary_code h n op dotted x y (flat h around y)) (names (flat h around y)) n.id (nodes_in x) (nodes_in y) (tree_names x around) (tree_names y around)
        (binary_names h most some values variables n op dotted x y (flat h around y))
    tree_names (index n x i) around =
        between_sign (flat h around x) (joined (flat h around i) (index_code h n x i)) (names (flat h around i)) n.id (nodes_in x) (nodes_in i) (tree_names x around) (tree_names i around)
        (omega (arith, names_joined (flat h around i) (index_code h n x i), index_names h most some values variables n x i))
    tree_names (call n f dotted xs) around =
        call_few (flat_among h around (frame_around h.known f xs around) xs) (named_call h n dotted _ xs) n.id xs (args_names xs around (frame_around h.known f xs around)) (own_names h most some values variables n dotted _ xs)

    args_names : (xs : Args) (around behind : Columns) → FewAmong (flat_among h around behind xs) xs
    args_names none around behind = omega (arith, w_none)
    args_names (plain x xs) around behind = one_more x xs (flat h around x) (flat_among h behind behind xs) (tree_names x around) (args_names xs behind behind)
    args_names (range x y xs) around behind = range_more x y xs (flat h around x) (flat h around y) (flat_among h behind behind xs) (tree_names x around) (tree_names y around) (args_names xs behind behind)
    args_names (lambda parameter x xs) around behind = lambda_more x xs (flat h around x) (flat_among h behind behind xs) (tree_names x around) (args_names xs behind behind)
    args_names (named name at x xs) around behind = one_more x xs (flat h around x) (flat_among h behind behind xs) (tree_names x around) (args_names xs behind behind)

  statement : (p c q : Prog Op) (ns ms : List ℕ) → Few p ns → names c ≤ 2 * most → names q ≤ w ms → names (joined p (joined c q)) ≤ w (ns ++ ms)
  statement p c q ns ms one last more = omega (arith, names_joined p (joined c q), names_joined c q, w_append ns ms, one, last, more)

  block_names : (b : Block) → names (flat_block h b) ≤ w (nodes_of b)
  unfolding flat_block nodes_of
  block_names done = omega arith
  block_names (assign at x e rest) = statement (flat_at h e) (store_code h at x e) (flat_block h rest) (nodes_in e) (nodes_of rest) (tree_names e no_frame) (store_names h most some values variables at x e) (block_names rest)
  block_names (print at e rest) = statement (flat_at h e) (print_code h at e) (flat_block h rest) (nodes_in e) (nodes_of rest) (tree_names e no_frame) (omega (arith, print_names h most some values variables at e)) (block_names rest)
  block_names (export at e rest) = statement (flat_at h e) (export_code h at e) (flat_block h rest) (nodes_in e) (nodes_of rest) (tree_names e no_frame) (export_names h most some values variables at e) (block_names rest)
  block_names (choose at test body other rest) =
      omega (
        arith,
        names_joined (flat_at h test) (branch (word_of h test) (flat_block h body) (flat_block h other) (flat_block h rest)),
        w_append ((nodes_in test ++ nodes_of body) ++ nodes_of other) (nodes_of rest),
        w_append (nodes_in test ++ nodes_of body) (nodes_of other),
        w_append (nodes_in test) (nodes_of body),
        tree_names test no_frame,
        block_names body,
        block_names other,
        block_names rest,
      )
  block_names (loop at test body rest) =
      omega (arith, w_append (nodes_in test ++ nodes_of body) (nodes_of rest), w_append (nodes_in test) (nodes_of body), tree_names test no_frame, block_names body, block_names rest)

  pub few_items : (b : Block) → names (flat_block h b) ≤ length (nodes_of b) * (5 * most)
  unfolding w
  few_items b = omega (arith, block_names b, weight_is (5 * most) (nodes_of b))
