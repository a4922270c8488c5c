-- The program of an expression reads tables as its calls of `read_csv` do: where these are served, the program is.
use Rattle.std.proofs.Common.{◌≡◌, ℕ, Bool, true, false, cond, bytes_eq, codes, List, [], ◌∷◌, ◌++◌, map, pos, Option, Some, None, IsTrue, refl, ap, ◌∙◌}
use Rattle.std.proofs.lemmas.Bool.{and_from}
use Rattle.std.proofs.lemmas.List.Folds.{list_all-append}
use Rattle.std.specs.List.{AllByRecursion, list_all}
use Rattle.hp_word.specs.declared.table.Table.{Table}
use Rattle.hp_word.specs.declared.elem.Elem.{Elem}
use Rattle.hp_word.specs.declared.elem.Elem.TheVariants.{Input}
use Rattle.hp_word.specs.declared.fold.FoldKind.TheVariants as folds
use Rattle.hp_script.specs.declared.function.Function.{Function}
use Rattle.hp_script.specs.declared.function.Function.TheVariants as function
use Rattle.hp_script.specs.declared.tree.BinOp.{BinOp}
use Rattle.hp_script.specs.declared.tree.BinOp.TheVariants as binary_op
use Rattle.hp_script.specs.declared.tree.UnOp.{UnOp}
use Rattle.hp_script.specs.Functions.{function_named}
use Rattle.hp_script.specs.Mirror.{Head, Tree, Args, number, truth, text, variable, column, field, unary, binary, index, call, none, plain, range, lambda, named, Block, done, assign, print, export, choose, loop}
use Rattle.hp_program.specs.Programs.{Prog, stop, choose as branch, joined, operations}
use Rattle.hp_air.specs.declared.what.Op.{Op}
use Rattle.hp_air.specs.declared.what.What.TheVariants as what
use Rattle.hp_air.specs.Meaning.{Serves, serves}
use Rattle.hp_air.specs.Unknowns.{Unknown, Columns, at_node, arrays_at, arrays_named, arguments_of, number_of, balanced_of, frame_around, columns_of, column_named, shape_named, first, second, no_frame}
use Rattle.hp_meaning.specs.ArgumentShapes.{first_plain, two_plain, three_plain, one_range, lambda_and_plain, all_written}
use Rattle.hp_meaning.specs.FrameRules.{Measured}
use Rattle.hp_meaning.specs.WordRules.{calc_of, scalar_calc}
use Rattle.hp_meaning.specs.ValueOf.{column_name, measures_in}
use Rattle.hp_meaning.specs.ReadCalls.{is_read, reads_in, reads_among, reads_of}
use Rattle.hp_meaning.proofs.ReadNames.{reads, reads_same}
use Rattle.hp_flat.proofs.Operations.{operations_both}
use Rattle.hp_flat.specs.Homes.{Homes, slot_of, slots_of, word_at, word_of, word_named}
use Rattle.hp_flat.specs.Elements.{elem_of, reach_of, dotted_elem}
use Rattle.hp_flat.specs.FlatCalls.{code_of, out_of, outs_of, ins_of, frame_at, key_in, measure_at, word_copy, where_some, of_array, of_arrays, of_first, array_copy, keyed, unary_code, product_code, binary_code, lazy_code, index_code, dotted_code, multiplied, calculated_code, table_of, call_code, dotted_call, named_call}
use Rattle.hp_flat.specs.Flat.{flat, flat_among, flat_at, store_code, holds_truths, print_code, export_code, flat_block}

-- all of some items, and all of others
pub all_apart : {A : Type 0} (P : A → Type 0) (xs ys : List A) → AllByRecursion P (xs ++ ys) → AllByRecursion P xs × AllByRecursion P ys
all_apart P [] ys all = (tt, all)
all_apart P (x ∷ xs) ys all = let rest = all_apart P xs ys all.1 in ((all.0, rest.0), rest.1)

pub all_both : {A : Type 0} (P : A → Type 0) (xs ys : List A) → AllByRecursion P xs → AllByRecursion P ys → AllByRecursion P (xs ++ ys)
all_both P [] ys first second = second
all_both P (x ∷ xs) ys first second = (first.0, all_both P xs ys first.1 second)

-- the call with this number finds a table as wide as its value
abbrev pub IsServed : Homes → List Table → ℕ → Type 0
IsServed h tables id = IsTrue (serves tables (what.Read (slots_of h (at_node h.known id)) (table_of h id)))

pub served_joined : (tables : List Table) (p q : Prog Op) → Serves p tables → Serves q tables → Serves (joined p q) tables
served_joined tables p q first second =
    ap (list_all (λ (op : Op). serves tables op.what)) (operations_both p q) ∙ list_all-append (λ (op : Op). serves tables op.what) (operations p) (operations q) ∙ and_from _ _ first second

module _ (h : Homes) (tables : List Table) where
  abbrev Fine : Prog Op → Type 0
  Fine p = Serves p tables

  -- ---- short forms

  where_fine : {A : Type 0} (o : Option A) (made : A → Prog Op) → ((a : A) → Fine (made a)) → Fine (where_some o made)
  unfolding operations
  where_fine (Some a) made each = each a
  where_fine None made each = refl

  array_fine : (xs : List Unknown) (made : Unknown → Prog Op) → ((x : Unknown) → Fine (made x)) → Fine (of_array xs made)
  unfolding operations
  array_fine [] made each = refl
  array_fine (x ∷ []) made each = each x
  array_fine (x ∷ y ∷ xs) made each = refl

  arrays_fine : (xs ys : List Unknown) (made : Unknown → Unknown → Prog Op) → ((x y : Unknown) → Fine (made x y)) → Fine (of_arrays xs ys made)
  unfolding operations
  arrays_fine (x ∷ []) (y ∷ []) made each = each x y
  arrays_fine _ _ made each = refl

  first_fine : (xs : List Unknown) (made : Unknown → Prog Op) → ((x : Unknown) → Fine (made x)) → Fine (of_first xs made)
  unfolding operations
  first_fine [] made each = refl
  first_fine (x ∷ xs) made each = each x

  keyed_fine : (xs : Args) (made : Tree → List ℕ → Args → Prog Op) → ((x : Tree) (key : List ℕ) (rest : Args) → Fine (made x key rest)) → Fine (keyed xs made)
  keyed_fine xs made each =
      where_fine (first_plain xs) (λ p. where_some (first_plain p.1) (λ q. where_some (column_name q.0) (λ key. made p.0 key q.1)))
      (λ p. where_fine (first_plain p.1) (λ q. where_some (column_name q.0) (λ key. made p.0 key q.1)) (λ q. where_fine (column_name q.0) (λ key. made p.0 key q.1) (λ key. each p.0 key q.1)))

  copy_fine : (at : _) (outs ins : List Unknown) → Fine (array_copy h at outs ins)
  unfolding array_copy operations
  copy_fine at [] ins = refl
  copy_fine at (out ∷ outs) ins = refl

  -- ---- operators

  unary_fine : (n : Head) (op : UnOp) (dotted : Bool) (x : Tree) → Fine (unary_code h n op dotted x)
  unfolding unary_code operations
  unary_fine n op false x = refl
  unary_fine n op true x = refl

  product_fine : (n : Head) (x y : Tree) → Fine (product_code h n x y)
  unfolding product_code operations
  product_fine n x (call m f false (plain y none)) =
      either (bytes_eq f (codes "transpose")) (of_arrays (arrays_at h.known x) (arrays_at h.known y) (transposed n)) (of_arrays (arrays_at h.known x) (at_node h.known m.id) (multiplied_by n))
      (arrays_fine (arrays_at h.known x) (arrays_at h.known y) (transposed n) (λ a b. refl)) (arrays_fine (arrays_at h.known x) (at_node h.known m.id) (multiplied_by n) (λ a b. refl))
    where
      transposed : Head → Unknown → Unknown → Prog Op
      transposed n a b = code_of n.at (what.ProductT (out_of h n) (slot_of h a) (slot_of h b))

      multiplied_by : Head → Unknown → Unknown → Prog Op
      multiplied_by n a b = code_of n.at (what.Product (out_of h n) (slot_of h a) (slot_of h b))

      either : (b : Bool) (p q : Prog Op) → Fine p → Fine q → Fine (cond b p q)
      either true p q e f = e
      either false p q e f = f
  product_fine n x y = arrays_fine (arrays_at h.known x) (at_node h.known (number_of y)) (λ a b. code_of n.at (what.Product (out_of h n) (slot_of h a) (slot_of h b))) (λ a b. refl)

  multiplied_fine : (n : Head) (x y : Tree) (arrays : List Unknown) (words : Prog Op) → Fine words → Fine (elim arrays [ [] ↦ words | (_ ∷ _) ↦ product_code h n x y ])
  multiplied_fine n x y [] words e = e
  multiplied_fine n x y (a ∷ arrays) words e = product_fine n x y

  dotted_fine : (n : Head) (elem : Elem) (x y : Tree) → Fine (dotted_code h n elem x y)
  unfolding dotted_code operations
  dotted_fine n elem x y = refl

  branch_fine : (w : ℕ) (p q : Prog Op) → Fine p → Fine q → Fine (branch w p q stop)
  unfolding operations
  branch_fine w p q e f =
      list_all-append (λ (op : Op). serves tables op.what) (operations p ++ operations q) []
      ∙ and_from _ _ (list_all-append (λ (op : Op). serves tables op.what) (operations p) (operations q) ∙ and_from _ _ e f) refl

  binary_fine : (n : Head) (op : BinOp) (dotted : Bool) (x y : Tree) (second : Prog Op) → Fine second → Fine (binary_code h n op dotted x y second)
  unfolding binary_code lazy_code word_copy operations
  binary_fine n op true x y second e = served_joined tables second (dotted_code h n (dotted_elem h n.at (calc_of op) x y) x y) e (dotted_fine n (dotted_elem h n.at (calc_of op) x y) x y)
  binary_fine n binary_op.And false x y second e = branch_fine (word_of h x) (joined second (word_copy n.at (word_at h n.id) (word_of h y))) (code_of n.at (what.Const (word_at h n.id) (pos 0)))
      (served_joined tables second (word_copy n.at (word_at h n.id) (word_of h y)) e refl) refl
  binary_fine n binary_op.Or false x y second e = branch_fine (word_of h x) (code_of n.at (what.Const (word_at h n.id) (pos 1))) (joined second (word_copy n.at (word_at h n.id) (word_of h y)))
      refl (served_joined tables second (word_copy n.at (word_at h n.id) (word_of h y)) e refl)
  binary_fine n binary_op.Mul false x y second e = served_joined tables second (multiplied h n x y (calculated_code h n binary_op.Mul x y)) e (multiplied_fine n x y (arrays_at h.known x) (calculated_code h n binary_op.Mul x y) refl)
  binary_fine n other false x y second e = served_joined tables second (calculated_code h n other x y) e refl

  picked_fine : (n : Head) (at : Unknown) (x i : Tree) (found : List Unknown) → Fine (elim found [
    | [] ↦ code_of n.at (what.At (word_at h n.id) (slot_of h at) (word_of h i))
    | (k ∷ _) ↦ code_of n.at (what.Pick (out_of h n) (slot_of h at) (slot_of h k))
  ])
  unfolding operations
  picked_fine n at x i [] = refl
  picked_fine n at x i (k ∷ found) = refl

  index_fine : (n : Head) (x i : Tree) → Fine (index_code h n x i)
  unfolding index_code operations
  index_fine n x i = array_fine (arrays_at h.known x) (λ at. elim (arrays_at h.known i) [
    | [] ↦ code_of n.at (what.At (word_at h n.id) (slot_of h at) (word_of h i))
    | (k ∷ _) ↦ code_of n.at (what.Pick (out_of h n) (slot_of h at) (slot_of h k))
  ]) (λ at. picked_fine n at x i (arrays_at h.known i))

  -- ---- calls

  call_fine : (n : Head) (f : Function) (xs : Args) (sides : List (List Unknown)) → (reads f ≡ true → IsServed h tables n.id) → Fine (call_code h n f xs sides)
  unfolding call_code operations
  call_fine n (function.Scalar f) xs sides served =
      where_fine (two_plain xs) (λ p. code_of n.at (what.Calc (word_at h n.id) (scalar_calc f) (word_of h p.0) (word_of h p.1))) (λ p. refl)
  call_fine n (function.Fold kind) xs sides served = array_fine (first sides) (λ array. code_of n.at (what.Reduce (word_at h n.id) kind (slot_of h array) (Input 0))) (λ a. refl)
  call_fine n function.Count xs sides served = array_fine (first sides) (λ array. code_of n.at (what.Reduce (word_at h n.id) folds.Sum (slot_of h array) (Input 0))) (λ a. refl)
  call_fine n function.Length xs sides served = first_fine (first sides) (λ array. code_of n.at (what.Length (word_at h n.id) (slot_of h array))) (λ a. refl)
  call_fine n function.Nrow xs sides served = first_fine (first sides) (λ array. code_of n.at (what.Length (word_at h n.id) (slot_of h array))) (λ a. refl)
  call_fine n function.Fill xs sides served = where_fine (two_plain xs) (λ p. code_of n.at (what.Fill (out_of h n) (word_of h p.0) (word_of h p.1))) (λ p. refl)
  call_fine n function.Collect xs sides served = where_fine (one_range xs) (λ p. code_of n.at (what.Range (out_of h n) (word_of h p.0) (word_of h p.1))) (λ p. refl)
  call_fine n function.Cumsum xs sides served = array_fine (first sides) (λ array. code_of n.at (what.Scan (out_of h n) (slot_of h array))) (λ a. refl)
  call_fine n function.Map xs sides served = where_fine (lambda_and_plain xs) (λ p. code_of n.at (what.Map (out_of h n) (ins_of h p.2) (elem_of h p.0 p.1))) (λ p. refl)
  call_fine n function.Stencil xs sides served =
      where_fine (lambda_and_plain xs)
      (λ p. of_array (arrays_at h.known p.2) (λ array. code_of n.at (what.Stencil (out_of h n) (slot_of h array) (slot_of h (balanced_of n.id)) (reach_of p.1) (elem_of h p.0 p.1))))
      (λ p. array_fine (arrays_at h.known p.2) (λ array. code_of n.at (what.Stencil (out_of h n) (slot_of h array) (slot_of h (balanced_of n.id)) (reach_of p.1) (elem_of h p.0 p.1))) (λ a. refl))
  call_fine n function.Vcat xs sides served = arrays_fine (first sides) (second sides) (λ a b. code_of n.at (what.Concat (out_of h n) (slot_of h a) (slot_of h b))) (λ a b. refl)
  call_fine n function.DataFrame xs sides served = refl
  call_fine n function.ReadCsv xs sides served = and_from _ _ (served refl) refl
  call_fine n function.Filter xs sides served = array_fine (second sides) (λ mask. code_of n.at (what.Filter (outs_of h n) (slots_of h (first sides)) (slot_of h mask))) (λ a. refl)
  call_fine n function.Join xs sides served =
      where_fine (three_plain xs) (λ p. where_some (column_name p.2) (joined_by n p.0 p.1)) (λ p. where_fine (column_name p.2) (joined_by n p.0 p.1) (λ key. refl))
    where
      joined_by : Head → (x y : Tree) → List ℕ → Prog Op
      joined_by n x y key = code_of n.at (what.Join (outs_of h n) (ins_of h x) (key_in (frame_at h x) key) (ins_of h y) (key_in (frame_at h y) key))
  call_fine n function.Aggregate xs sides served =
      keyed_fine xs (λ x key rest. where_some (measures_in (all_written rest)) (grouped_by n x key)) (λ x key rest. where_fine (measures_in (all_written rest)) (grouped_by n x key) (λ measures. refl))
    where
      grouped_by : Head → Tree → List ℕ → List Measured → Prog Op
      grouped_by n x key measures = code_of n.at (what.Group (outs_of h n) (ins_of h x) (key_in (frame_at h x) key) (map (measure_at (frame_at h x)) measures))
  call_fine n function.Sort xs sides served = keyed_fine xs (λ x key rest. code_of n.at (what.Sort (outs_of h n) (ins_of h x) (key_in (frame_at h x) key))) (λ x key rest. refl)
  call_fine n function.Stack xs sides served = refl
  call_fine n function.Row xs sides served =
      where_fine (two_plain xs) (λ p. of_array (arrays_at h.known p.0) (λ m. code_of n.at (what.Row (out_of h n) (slot_of h m) (word_of h p.1))))
      (λ p. array_fine (arrays_at h.known p.0) (λ m. code_of n.at (what.Row (out_of h n) (slot_of h m) (word_of h p.1))) (λ a. refl))
  call_fine n function.Transpose xs sides served = refl

  dotted_call_fine : (n : Head) (f : Function) (xs : Args) → Fine (dotted_call h n f xs)
  unfolding operations
  dotted_call_fine n (function.Scalar f) xs =
      where_fine (two_plain xs) (λ p. dotted_code h n (dotted_elem h n.at (scalar_calc f) p.0 p.1) p.0 p.1) (λ p. dotted_fine n (dotted_elem h n.at (scalar_calc f) p.0 p.1) p.0 p.1)
  dotted_call_fine n _ xs = refl

  named_fine : (n : Head) (name : List ℕ) (dotted : Bool) (found : Option Function) (xs : Args) → function_named dotted name ≡ found → (is_read name dotted ≡ true → IsServed h tables n.id)
      → Fine (named_call h n dotted found xs)
  unfolding named_call operations
  named_fine n name true found xs is served = where_fine found (λ f. dotted_call h n f xs) (λ f. dotted_call_fine n f xs)
  named_fine n name false None xs is served = refl
  named_fine n name false (Some f) xs is served = call_fine n f xs (arguments_of h.known xs) (λ r. served (reads_same false name f is ∙ r))

  own_served : (is : Bool) (id : ℕ) (rest : List ℕ) → AllByRecursion (IsServed h tables) (cond is (id ∷ []) [] ++ rest) → is ≡ true → IsServed h tables id
  own_served true id rest all e = all.0
  own_served false id rest all e = absurd cc

  -- ---- expressions

  mutual
    unfolding flat flat_among reads_in reads_among operations

    pub tree_fine : (around : Columns) (x : Tree) → AllByRecursion (IsServed h tables) (reads_in x) → Fine (flat h around x)
    tree_fine around (number n z) all = refl
    tree_fine around (truth n holds) all = refl
    tree_fine around (text n bytes) all = refl
    tree_fine around (variable n x) all = copy_fine n.at (at_node h.known n.id) (arrays_named h.known x)
    tree_fine around (column n c) all = copy_fine n.at (at_node h.known n.id) (column_named around c)
    tree_fine around (field n d c) all = copy_fine n.at (at_node h.known n.id) (column_named (columns_of (shape_named h.known d) (arrays_named h.known d)) c)
    tree_fine around (unary n op dotted x) all = served_joined tables (flat h around x) (unary_code h n op dotted x) (tree_fine around x all) (unary_fine n op dotted x)
    tree_fine around (binary n op dotted x y) all =
        let parts = all_apart (IsServed h tables) (reads_in x) (reads_in y) all in
        served_joined tables (flat h around x) (binary_code h n op dotted x y (flat h around y)) (tree_fine around x parts.0) (binary_fine n op dotted x y (flat h around y) (tree_fine around y parts.1))
    tree_fine around (index n x i) all =
        let parts = all_apart (IsServed h tables) (reads_in x) (reads_in i) all in
        served_joined tables (flat h around x) (joined (flat h around i) (index_code h n x i)) (tree_fine around x parts.0) (served_joined tables (flat h around i) (index_code h n x i) (tree_fine around i parts.1) (index_fine n x i))
    tree_fine around (call n f dotted xs) all =
        let parts = all_apart (IsServed h tables) (cond (is_read f dotted) (n.id ∷ []) []) (reads_among xs) all in
        served_joined tables (flat_among h around (frame_around h.known f xs around) xs) (named_call h n dotted (function_named dotted f) xs) (args_fine around (frame_around h.known f xs around) xs parts.1)
        (named_fine n f dotted (function_named dotted f) xs refl (λ e. own_served (is_read f dotted) n.id (reads_among xs) all e))

    args_fine : (around behind : Columns) (xs : Args) → AllByRecursion (IsServed h tables) (reads_among xs) → Fine (flat_among h around behind xs)
    args_fine around behind none all = refl
    args_fine around behind (plain x xs) all =
        let parts = all_apart (IsServed h tables) (reads_in x) (reads_among xs) all in
        served_joined tables (flat h around x) (flat_among h behind behind xs) (tree_fine around x parts.0) (args_fine behind behind xs parts.1)
    args_fine around behind (range x y xs) all =
        let parts = all_apart (IsServed h tables) (reads_in x ++ reads_in y) (reads_among xs) all in
        let sides = all_apart (IsServed h tables) (reads_in x) (reads_in y) parts.0 in
        served_joined tables (flat h around x) (joined (flat h around y) (flat_among h behind behind xs)) (tree_fine around x sides.0) (served_joined tables (flat h around y) (flat_among h behind behind xs) (tree_fine around y sides.1) (args_fine behind behind xs parts.1))
    args_fine around behind (lambda parameter x xs) all = args_fine behind behind xs all
    args_fine around behind (named name at x xs) all =
        let parts = all_apart (IsServed h tables) (reads_in x) (reads_among xs) all in
        served_joined tables (flat h around x) (flat_among h behind behind xs) (tree_fine around x parts.0) (args_fine behind behind xs parts.1)

  -- ---- statements

  store_fine : (at : _) (x : List ℕ) (e : Tree) (ins arrays : List Unknown) → Fine (elim arrays [ [] ↦ word_copy at (word_named h x) (word_of h e) | (_ ∷ _) ↦ array_copy h at (arrays_named h.known x) ins ])
  unfolding word_copy operations
  store_fine at x e ins [] = refl
  store_fine at x e ins (a ∷ arrays) = copy_fine at (arrays_named h.known x) ins

  print_fine : (at : _) (e : Tree) (arrays : List Unknown) → Fine (elim arrays [ [] ↦ code_of at (what.PrintWord (word_of h e) (holds_truths h e)) | (x ∷ _) ↦ code_of at (what.PrintList (slot_of h x) (holds_truths h e)) ])
  unfolding operations
  print_fine at e [] = refl
  print_fine at e (x ∷ arrays) = refl

  list_fine : (ps qs : List Op) → IsTrue (list_all (λ (op : Op). serves tables op.what) ps) → IsTrue (list_all (λ (op : Op). serves tables op.what) qs) → IsTrue (list_all (λ (op : Op). serves tables op.what) (ps ++ qs))
  list_fine ps qs e f = list_all-append (λ (op : Op). serves tables op.what) ps qs ∙ and_from _ _ e f

  pub block_fine : (b : Block) → AllByRecursion (IsServed h tables) (reads_of b) → Fine (flat_block h b)
  unfolding flat_block reads_of operations store_code print_code export_code
  block_fine done all = refl
  block_fine (assign at x e rest) all =
      let parts = all_apart (IsServed h tables) (reads_in e) (reads_of rest) all in
      served_joined tables (flat_at h e) (joined (store_code h at x e) (flat_block h rest)) (tree_fine no_frame e parts.0) (served_joined tables (store_code h at x e) (flat_block h rest) (store_fine at x e (arrays_at h.known e) (arrays_at h.known e)) (block_fine rest parts.1))
  block_fine (print at e rest) all =
      let parts = all_apart (IsServed h tables) (reads_in e) (reads_of rest) all in
      served_joined tables (flat_at h e) (joined (print_code h at e) (flat_block h rest)) (tree_fine no_frame e parts.0) (served_joined tables (print_code h at e) (flat_block h rest) (print_fine at e (arrays_at h.known e)) (block_fine rest parts.1))
  block_fine (export at e rest) all =
      let parts = all_apart (IsServed h tables) (reads_in e) (reads_of rest) all in
      served_joined tables (flat_at h e) (joined (export_code h at e) (flat_block h rest)) (tree_fine no_frame e parts.0) (served_joined tables (export_code h at e) (flat_block h rest) refl (block_fine rest parts.1))
  block_fine (choose at test body other rest) all =
      let parts = all_apart (IsServed h tables) (reads_in test ++ (reads_of body ++ reads_of other)) (reads_of rest) all in
      let front = all_apart (IsServed h tables) (reads_in test) (reads_of body ++ reads_of other) parts.0 in
      let ways = all_apart (IsServed h tables) (reads_of body) (reads_of other) front.1 in
      served_joined tables (flat_at h test) (branch (word_of h test) (flat_block h body) (flat_block h other) (flat_block h rest)) (tree_fine no_frame test front.0)
      (list_fine (operations (flat_block h body) ++ operations (flat_block h other)) (operations (flat_block h rest))
      (list_fine (operations (flat_block h body)) (operations (flat_block h other)) (block_fine body ways.0) (block_fine other ways.1)) (block_fine rest parts.1))
  block_fine (loop at test body rest) all =
      let parts = all_apart (IsServed h tables) (reads_in test ++ reads_of body) (reads_of rest) all in
      let front = all_apart (IsServed h tables) (reads_in test) (reads_of body) parts.0 in
      list_fine (operations (flat_at h test) ++ operations (flat_block h body)) (operations (flat_block h rest))
      (list_fine (operations (flat_at h test)) (operations (flat_block h body)) (tree_fine no_frame test front.0) (block_fine body front.1)) (block_fine rest parts.1)
