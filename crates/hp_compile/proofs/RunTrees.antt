-- An expression in which each construct is one that ranks can run is flattened into operations that ranks can run.
use Rattle.std.proofs.Common.{◌≡◌, ℕ, ℤ, Bool, true, false, if◌then◌else◌, codes, List, [], ◌∷◌, ◌++◌, Option, Some, None, IsTrue, refl, subst, sym}
use Rattle.hp_word.specs.declared.place.Place.{Place}
use Rattle.hp_script.specs.declared.function.Function.{Function}
use Rattle.hp_script.specs.declared.function.Function.TheVariants as function
use Rattle.hp_script.specs.declared.tree.BinOp.{BinOp}
use Rattle.hp_script.specs.declared.tree.BinOp.TheVariants as op
use Rattle.hp_script.specs.declared.tree.UnOp.{UnOp}
use Rattle.hp_script.specs.declared.tree.UnOp.TheVariants.{Neg, Not}
use Rattle.hp_script.specs.declared.typed.Shape.{Shape}
use Rattle.hp_script.specs.declared.typed.Shape.TheVariants as shape
use Rattle.hp_script.specs.Functions.{scalar_named, fold_named, array_named, frame_named, function_named}
use Rattle.hp_script.specs.Mirror.{Head, Tree, Args, number, text, variable, column, unary, binary, index, call, plain, none, range, lambda, named}
use Rattle.hp_script.specs.Scope.{Scope}
use Rattle.hp_script.specs.Shaped.{HasShape, of_number, of_truth, of_parameter, of_variable, of_scalar_variable, of_field, of_column, of_negation, of_not, of_nots, of_arithmetic, of_arithmetics, of_comparison, of_comparisons, of_logic, of_mask, of_product, of_transposed, of_element, of_elements, of_window, of_scalar_call, of_scalar_calls, of_map, of_stencil, of_fill, of_collect, of_length, of_fold, of_truth_fold, of_count, of_cumsum, of_vcat, of_stack, of_row, of_frame, of_read, of_nrow, of_filter, of_join, of_aggregate, of_sort, IsArithmetic, addition, subtraction, multiplication, IsComparison, equal, not_equal, less, at_most, greater, at_least, IsLogic, conjunction, disjunction, IsDistance, ahead, behind}
use Rattle.hp_program.specs.Programs.{Prog, stop, joined}
use Rattle.hp_air.specs.declared.what.Op.{Op}
use Rattle.hp_air.specs.declared.what.What.{What}
use Rattle.hp_air.specs.declared.what.What.TheVariants as what
use Rattle.hp_air.specs.Unknowns.{Unknown, Columns, columns_of, column_named, shape_named, number_of, at_node, arrays_at, arrays_named, arguments_of, first, second, frame_around}
use Rattle.hp_built.specs.declared.construct.Construct.{Construct}
use Rattle.hp_built.specs.declared.construct.Construct.TheVariants as construct
use Rattle.hp_built.specs.Constructs.{call_construct, construct_of}
use Rattle.hp_built.specs.Ranks.{for_ranks}
use Rattle.hp_built.specs.Unbuilt.{place_unless, unbuilt_in, unbuilt_among}
use Rattle.hp_meaning.specs.ArgumentShapes.{two_plain, one_range, lambda_and_plain}
use Rattle.hp_meaning.specs.WordRules.{calc_of, scalar_calc}
use Rattle.hp_flat.specs.Elements.{dotted_elem}
use Rattle.hp_flat.specs.Flat.{flat, flat_among}
use Rattle.hp_flat.specs.FlatCalls.{code_of, out_of, array_copy, dotted_code, calculated_code, multiplied, binary_code, lazy_code, index_code, call_code, named_call, unary_code, word_copy, product_code}
use Rattle.hp_flat.specs.Homes.{Homes, slot_of, word_at, word_of}
use Rattle.hp_flat.proofs.Throughout.{Throughout, through_both, through_some, through_array, through_arrays, through_first}
use Rattle.hp_flat.proofs.ToldTrees.{scalar_of_name, number_fold_of_name, truth_fold_of_name}
use Rattle.hp_flat.proofs.ToldTypes.{IsAt, IsUntold, Parts}
use Rattle.hp_lowering.specs.PartCode.{is_whole_built}

-- ---- what ranks can run

-- an operation of the array IR that ranks can run: a loop, or one that is lowered as it stands
abbrev pub is_run : What → Bool
is_run (what.Map out ins elem) = true
is_run (what.Reduce to kind array elem) = true
is_run (what.Stencil out array balanced reach elem) = true
is_run w = is_whole_built w

abbrev pub Runs : Prog Op → Type 0
Runs p = Throughout (λ w. true) is_run p

pub run_both : (p q : Prog Op) → Runs p → Runs q → Runs (joined p q)
run_both p q first second = through_both (λ w. true) is_run p q first second

-- ---- lists with nothing in them

pub first_nil : {A : Type 0} (xs ys : List A) → xs ++ ys ≡ [] → xs ≡ []
first_nil [] ys e = refl
first_nil (x ∷ xs) ys e = absurd cc

pub second_nil : {A : Type 0} (xs ys : List A) → xs ++ ys ≡ [] → ys ≡ []
second_nil [] ys e = e
second_nil (x ∷ xs) ys e = absurd cc

-- a construct that is not built has its place in the list
pub no_place : (at : Place) (c : Option Construct) (k : Construct) (rest : List Place) → c ≡ Some k → for_ranks k ≡ false → place_unless for_ranks at c ++ rest ≡ [] → ⊥
no_place at c k rest is missing e = let there : at ∷ rest ≡ [] = subst (λ (b : Bool). (if b then [] else at ∷ []) ++ rest ≡ []) missing (subst (λ (o : Option Construct). place_unless for_ranks at o ++ rest ≡ []) is e) in absurd cc

-- ---- single constructs

-- the functions of which no call is of frames or matrices
abbrev is_run_function : Function → Bool
is_run_function (function.Scalar f) = true
is_run_function (function.Fold kind) = true
is_run_function function.Count = true
is_run_function function.Length = true
is_run_function function.Nrow = true
is_run_function function.Fill = true
is_run_function function.Collect = true
is_run_function function.Cumsum = true
is_run_function function.Map = true
is_run_function function.Stencil = true
is_run_function function.Vcat = true
is_run_function function.Transpose = true
is_run_function _ = false

module _ (h : Homes) where
  pub copied_runs : (at : Place) (os ins : List Unknown) → Runs (array_copy h at os ins)
  unfolding array_copy
  copied_runs at [] ins = tt
  copied_runs at (o ∷ os) ins = (refl, tt)

  unary_runs : (n : Head) (o : UnOp) (dotted : Bool) (x : Tree) → Runs (unary_code h n o dotted x)
  unfolding unary_code
  unary_runs n o true x = (refl, tt)
  unary_runs n o false x = (refl, tt)

  calculated_runs : (n : Head) (o : BinOp) (x y : Tree) → Runs (calculated_code h n o x y)
  calculated_runs n o x y = (refl, tt)

  -- numbers have no arrays, so that their product is one of words
  multiplied_runs : (n : Head) (x y : Tree) (words : Prog Op) → IsAt h.known x shape.Int → Runs words → Runs (multiplied h n x y words)
  multiplied_runs n x y words at p = by (arrays_at h.known x) (no_arrays at)
    where
      no_arrays : IsAt h.known x shape.Int → arrays_at h.known x ≡ []
      no_arrays is = rw is refl

      by : (us : List Unknown) → us ≡ [] → Runs (elim us [ [] ↦ words | (_ ∷ _) ↦ product_code h n x y ])
      by [] e = p
      by (u ∷ us) e = absurd cc

  lazy_runs : (n : Head) (o : BinOp) (x y : Tree) (q : Prog Op) → Runs q → Runs (lazy_code h n o x y q)
  unfolding lazy_code word_copy
  lazy_runs n op.And x y q p = (refl, run_both q _ p (refl, tt), (refl, tt), tt)
  lazy_runs n op.Or x y q p = (refl, (refl, tt), run_both q _ p (refl, tt), tt)
  lazy_runs n op.Add x y q p = (refl, (refl, tt), run_both q _ p (refl, tt), tt)
  lazy_runs n op.Sub x y q p = (refl, (refl, tt), run_both q _ p (refl, tt), tt)
  lazy_runs n op.Mul x y q p = (refl, (refl, tt), run_both q _ p (refl, tt), tt)
  lazy_runs n op.BitOr x y q p = (refl, (refl, tt), run_both q _ p (refl, tt), tt)
  lazy_runs n op.BitAnd x y q p = (refl, (refl, tt), run_both q _ p (refl, tt), tt)
  lazy_runs n op.Eq x y q p = (refl, (refl, tt), run_both q _ p (refl, tt), tt)
  lazy_runs n op.Ne x y q p = (refl, (refl, tt), run_both q _ p (refl, tt), tt)
  lazy_runs n op.Lt x y q p = (refl, (refl, tt), run_both q _ p (refl, tt), tt)
  lazy_runs n op.Le x y q p = (refl, (refl, tt), run_both q _ p (refl, tt), tt)
  lazy_runs n op.Gt x y q p = (refl, (refl, tt), run_both q _ p (refl, tt), tt)
  lazy_runs n op.Ge x y q p = (refl, (refl, tt), run_both q _ p (refl, tt), tt)

  dotted_runs : (n : Head) (o : BinOp) (x y : Tree) (q : Prog Op) → Runs q → Runs (binary_code h n o true x y q)
  unfolding binary_code dotted_code
  dotted_runs n o x y q p = run_both q _ p (refl, tt)

  index_runs : (n : Head) (x i : Tree) → Runs (index_code h n x i)
  unfolding index_code
  index_runs n x i = through_array (λ w. true) is_run (arrays_at h.known x) _ (λ u e. by u (arrays_at h.known i))
    where
      by : (u : Unknown) (us : List Unknown) → Runs (elim us [ [] ↦ code_of n.at (what.At (word_at h n.id) (slot_of h u) (word_of h i)) | (k ∷ _) ↦ code_of n.at (what.Pick (out_of h n) (slot_of h u) (slot_of h k)) ])
      by u [] = (refl, tt)
      by u (k ∷ us) = (refl, tt)

  call_runs : (n : Head) (f : Function) (xs : Args) (sides : List (List Unknown)) → IsTrue (is_run_function f) → Runs (call_code h n f xs sides)
  unfolding call_code
  call_runs n (function.Scalar f) xs sides p = through_some (λ w. true) is_run (two_plain xs) _ (λ a e. (refl, tt))
  call_runs n (function.Fold kind) xs sides p = through_array (λ w. true) is_run (first sides) _ (λ u e. (refl, tt))
  call_runs n function.Count xs sides p = through_array (λ w. true) is_run (first sides) _ (λ u e. (refl, tt))
  call_runs n function.Length xs sides p = through_first (λ w. true) is_run (first sides) _ (λ u more e. (refl, tt))
  call_runs n function.Nrow xs sides p = through_first (λ w. true) is_run (first sides) _ (λ u more e. (refl, tt))
  call_runs n function.Fill xs sides p = through_some (λ w. true) is_run (two_plain xs) _ (λ a e. (refl, tt))
  call_runs n function.Collect xs sides p = through_some (λ w. true) is_run (one_range xs) _ (λ a e. (refl, tt))
  call_runs n function.Cumsum xs sides p = through_array (λ w. true) is_run (first sides) _ (λ u e. (refl, tt))
  call_runs n function.Map xs sides p = through_some (λ w. true) is_run (lambda_and_plain xs) _ (λ a e. (refl, tt))
  call_runs n function.Stencil xs sides p = through_some (λ w. true) is_run (lambda_and_plain xs) _ (λ a e. through_array (λ w. true) is_run (arrays_at h.known a.2) _ (λ u e. (refl, tt)))
  call_runs n function.Vcat xs sides p = through_arrays (λ w. true) is_run (first sides) (second sides) _ (λ u v e f. (refl, tt))
  call_runs n function.Transpose xs sides p = tt
  call_runs n function.DataFrame xs sides p = absurd cc
  call_runs n function.ReadCsv xs sides p = absurd cc
  call_runs n function.Filter xs sides p = absurd cc
  call_runs n function.Join xs sides p = absurd cc
  call_runs n function.Aggregate xs sides p = absurd cc
  call_runs n function.Sort xs sides p = absurd cc
  call_runs n function.Stack xs sides p = absurd cc
  call_runs n function.Row xs sides p = absurd cc

  called_runs : (n : Head) (f : Function) (name : List ℕ) (xs : Args) (p : Prog Op) → function_named false name ≡ Some f → IsTrue (is_run_function f) → Runs p → Runs (joined p (named_call h n false (function_named false name) xs))
  unfolding named_call
  called_runs n f name xs p is can before = rw is (run_both p _ before (call_runs n f xs (arguments_of h.known xs) can))

  dotted_call_runs : (n : Head) (f : Option Function) (xs : Args) → Runs (named_call h n true f xs)
  unfolding named_call dotted_code
  dotted_call_runs n None xs = tt
  dotted_call_runs n (Some (function.Scalar f)) xs = through_some (λ w. true) is_run (two_plain xs) _ (λ a e. (refl, tt))
  dotted_call_runs n (Some (function.Fold kind)) xs = tt
  dotted_call_runs n (Some function.Count) xs = tt
  dotted_call_runs n (Some function.Length) xs = tt
  dotted_call_runs n (Some function.Nrow) xs = tt
  dotted_call_runs n (Some function.Fill) xs = tt
  dotted_call_runs n (Some function.Collect) xs = tt
  dotted_call_runs n (Some function.Cumsum) xs = tt
  dotted_call_runs n (Some function.Map) xs = tt
  dotted_call_runs n (Some function.Stencil) xs = tt
  dotted_call_runs n (Some function.Vcat) xs = tt
  dotted_call_runs n (Some function.Transpose) xs = tt
  dotted_call_runs n (Some function.DataFrame) xs = tt
  dotted_call_runs n (Some function.ReadCsv) xs = tt
  dotted_call_runs n (Some function.Filter) xs = tt
  dotted_call_runs n (Some function.Join) xs = tt
  dotted_call_runs n (Some function.Aggregate) xs = tt
  dotted_call_runs n (Some function.Sort) xs = tt
  dotted_call_runs n (Some function.Stack) xs = tt
  dotted_call_runs n (Some function.Row) xs = tt

  -- ---- operators of words

  behind_two : (p q c : Prog Op) → Runs p → Runs q → Runs c → Runs (joined p (joined q c))
  behind_two p q c first second last = run_both p (joined q c) first (run_both q c second last)

  arithmetic_runs : (n : Head) {o : BinOp} (is : IsArithmetic o) (x y : Tree) (p q : Prog Op) → IsAt h.known x shape.Int → Runs p → Runs q → Runs (joined p (binary_code h n o false x y q))
  unfolding binary_code
  arithmetic_runs n addition x y p q at first second = behind_two p q _ first second (calculated_runs n op.Add x y)
  arithmetic_runs n subtraction x y p q at first second = behind_two p q _ first second (calculated_runs n op.Sub x y)
  arithmetic_runs n multiplication x y p q at first second = behind_two p q _ first second (multiplied_runs n x y (calculated_code h n op.Mul x y) at (calculated_runs n op.Mul x y))

  comparison_runs : (n : Head) {o : BinOp} (is : IsComparison o) (x y : Tree) (p q : Prog Op) → Runs p → Runs q → Runs (joined p (binary_code h n o false x y q))
  unfolding binary_code
  comparison_runs n {o = o} equal x y p q first second = behind_two p q _ first second (calculated_runs n o x y)
  comparison_runs n {o = o} not_equal x y p q first second = behind_two p q _ first second (calculated_runs n o x y)
  comparison_runs n {o = o} less x y p q first second = behind_two p q _ first second (calculated_runs n o x y)
  comparison_runs n {o = o} at_most x y p q first second = behind_two p q _ first second (calculated_runs n o x y)
  comparison_runs n {o = o} greater x y p q first second = behind_two p q _ first second (calculated_runs n o x y)
  comparison_runs n {o = o} at_least x y p q first second = behind_two p q _ first second (calculated_runs n o x y)

  logic_runs : (n : Head) {o : BinOp} (is : IsLogic o) (x y : Tree) (p q : Prog Op) → Runs p → Runs q → Runs (joined p (binary_code h n o false x y q))
  unfolding binary_code
  logic_runs n conjunction x y p q first second = run_both p _ first (lazy_runs n op.And x y q second)
  logic_runs n disjunction x y p q first second = run_both p _ first (lazy_runs n op.Or x y q second)

  distance_runs : {i : Tree} {d : ℤ} (around : Columns) → IsDistance i d → Runs (flat h around i)
  unfolding flat unary_code joined
  distance_runs around (ahead {h = n}) = (refl, tt)
  distance_runs around (behind {h = n} {g = k}) = (refl, (refl, tt))

  -- ---- the parts of an expression in which all is built

  abbrev places : Tree → List Place
  places x = unbuilt_in for_ranks h.known.shapes x

  abbrev own : Place → Tree → List Place
  own at x = place_unless for_ranks at (construct_of h.known.shapes x)

  unary_part : (n : Head) (o : UnOp) (dotted : Bool) (x : Tree) → places (unary n o dotted x) ≡ [] → places x ≡ []
  unfolding unbuilt_in
  unary_part n o dotted x e = second_nil (own n.at (unary n o dotted x)) (places x) e

  binary_parts : (n : Head) (o : BinOp) (dotted : Bool) (x y : Tree) → places (binary n o dotted x y) ≡ [] → (places x ≡ []) × (places y ≡ [])
  unfolding unbuilt_in
  binary_parts n o dotted x y e =
      let rest = second_nil (own n.at (binary n o dotted x y)) (places x ++ places y) e in
      (first_nil (places x) (places y) rest, second_nil (places x) (places y) rest)

  index_parts : (n : Head) (x i : Tree) → places (index n x i) ≡ [] → (places x ≡ []) × (places i ≡ [])
  unfolding unbuilt_in
  index_parts n x i e =
      let rest = second_nil (own n.at (index n x i)) (places x ++ places i) e in
      (first_nil (places x) (places i) rest, second_nil (places x) (places i) rest)

  call_parts : (n : Head) (f : List ℕ) (dotted : Bool) (xs : Args) → places (call n f dotted xs) ≡ [] → unbuilt_among for_ranks h.known.shapes xs ≡ []
  unfolding unbuilt_in
  call_parts n f dotted xs e = second_nil (own n.at (call n f dotted xs)) (unbuilt_among for_ranks h.known.shapes xs) e

  one_part : (n : Head) (f : List ℕ) (dotted : Bool) (x : Tree) → places (call n f dotted (plain x none)) ≡ [] → places x ≡ []
  unfolding unbuilt_among
  one_part n f dotted x e = first_nil (places x) [] (call_parts n f dotted (plain x none) e)

  two_parts : (n : Head) (f : List ℕ) (dotted : Bool) (x y : Tree) → places (call n f dotted (plain x (plain y none))) ≡ [] → (places x ≡ []) × (places y ≡ [])
  unfolding unbuilt_among
  two_parts n f dotted x y e =
      let rest = call_parts n f dotted (plain x (plain y none)) e in
      (first_nil (places x) (places y ++ []) rest, first_nil (places y) [] (second_nil (places x) (places y ++ []) rest))

  -- the array behind a lambda
  behind_part : (n : Head) (f v : List ℕ) (b x : Tree) → places (call n f false (lambda v b (plain x none))) ≡ [] → places x ≡ []
  unfolding unbuilt_among
  behind_part n f v b x e = first_nil (places x) [] (second_nil (places b) (places x ++ []) (call_parts n f false (lambda v b (plain x none)) e))

  range_parts : (n : Head) (f : List ℕ) (x y : Tree) → places (call n f false (range x y none)) ≡ [] → (places x ≡ []) × (places y ≡ [])
  unfolding unbuilt_among
  range_parts n f x y e =
      let rest = first_nil (places x ++ places y) [] (call_parts n f false (range x y none) e) in
      (first_nil (places x) (places y) rest, second_nil (places x) (places y) rest)

  -- ---- what has its place where something is not built

  -- the construct of an expression by the type that is told of it
  product_place : (n : Head) (x y : Tree) → IsAt h.known (binary n op.Mul false x y) shape.Matrix → IsAt h.known y shape.Matrix → construct_of h.known.shapes (binary n op.Mul false x y) ≡ Some construct.Product
  unfolding construct_of
  product_place n x y at right = rw (at, right) refl

  -- a call of `transpose` has no type of its own
  transposed_place : (n k : Head) (x y : Tree) → IsAt h.known (binary n op.Mul false x (call k (codes "transpose") false (plain y none))) shape.Matrix → IsUntold h.known k
      → construct_of h.known.shapes (binary n op.Mul false x (call k (codes "transpose") false (plain y none))) ≡ Some construct.TransposedProduct
  unfolding construct_of
  transposed_place n k x y at untold = rw (at, untold) refl

  call_place : (n : Head) (name : List ℕ) (xs : Args) (a : Shape) (f : Function) (c : Construct) → IsAt h.known (call n name false xs) a → function_named false name ≡ Some f
      → call_construct (Some f) false ≡ Some c → construct_of h.known.shapes (call n name false xs) ≡ Some c
  unfolding construct_of
  call_place n name xs a f c at is made = rw (at, is) made

  product_unbuilt : (n : Head) (x y : Tree) (c : Construct) → construct_of h.known.shapes (binary n op.Mul false x y) ≡ Some c → for_ranks c ≡ false → places (binary n op.Mul false x y) ≡ [] → ⊥
  unfolding unbuilt_in
  product_unbuilt n x y c is missing e = no_place n.at (construct_of h.known.shapes (binary n op.Mul false x y)) c (places x ++ places y) is missing e

  call_unbuilt : (n : Head) (name : List ℕ) (xs : Args) (a : Shape) (f : Function) (c : Construct) → IsAt h.known (call n name false xs) a → function_named false name ≡ Some f
      → call_construct (Some f) false ≡ Some c → for_ranks c ≡ false → places (call n name false xs) ≡ [] → ⊥
  unfolding unbuilt_in
  call_unbuilt n name xs a f c at is made missing e =
      no_place n.at (construct_of h.known.shapes (call n name false xs)) c (unbuilt_among for_ranks h.known.shapes xs) (call_place n name xs a f c at is made) missing e

  -- ---- expressions

  mutual
    unfolding flat function_named scalar_named fold_named array_named frame_named

    pub runs : {s : Scope} {x : Tree} {a : Shape} (p : HasShape s x a) → IsAt h.known x a → Parts h.known p → places x ≡ [] → (around : Columns) → Runs (flat h around x)
    runs of_number at t e around = (refl, tt)
    runs of_truth at t e around = (refl, tt)
    runs (of_parameter {h = n} {p = v} role) at t e around = copied_runs n.at (at_node h.known n.id) (arrays_named h.known v)
    runs (of_variable {h = n} {v = v} out is) at t e around = copied_runs n.at (at_node h.known n.id) (arrays_named h.known v)
    runs (of_scalar_variable {h = n} {v = v} one is) at t e around = copied_runs n.at (at_node h.known n.id) (arrays_named h.known v)
    runs (of_field {h = n} {d = d} {c = c} out v known) at t e around = copied_runs n.at (at_node h.known n.id) (column_named (columns_of (shape_named h.known d) (arrays_named h.known d)) c)
    runs (of_column {h = n} {c = c} out is known) at t e around = copied_runs n.at (at_node h.known n.id) (column_named around c)
    runs (of_negation {h = n} {a = x} p) at t e around = run_both (flat h around x) _ (runs p t.0 t.1 (unary_part n Neg false x e) around) (unary_runs n Neg false x)
    runs (of_not {h = n} {a = x} p) at t e around = run_both (flat h around x) _ (runs p t.0 t.1 (unary_part n Not false x e) around) (unary_runs n Not false x)
    runs (of_nots {h = n} {a = x} p) at t e around = run_both (flat h around x) _ (runs p t.0 t.1 (unary_part n Not true x e) around) (unary_runs n Not true x)
    runs (of_arithmetic {h = n} {op = o} {a = x} {b = y} is p q) at t e around =
        arithmetic_runs n is x y (flat h around x) (flat h around y) t.0.0 (runs p t.0.0 t.0.1 (binary_parts n o false x y e).0 around) (runs q t.1.0 t.1.1 (binary_parts n o false x y e).1 around)
    runs (of_arithmetics {h = n} {op = o} {a = x} {b = y} is each p q) at t e around =
        run_both (flat h around x) _ (runs p t.0.0 t.0.1 (binary_parts n o true x y e).0 around) (dotted_runs n o x y (flat h around y) (runs q t.1.0 t.1.1 (binary_parts n o true x y e).1 around))
    runs (of_comparison {h = n} {op = o} {a = x} {b = y} is p q) at t e around =
        comparison_runs n is x y (flat h around x) (flat h around y) (runs p t.0.0 t.0.1 (binary_parts n o false x y e).0 around) (runs q t.1.0 t.1.1 (binary_parts n o false x y e).1 around)
    runs (of_comparisons {h = n} {op = o} {a = x} {b = y} is each p q) at t e around =
        run_both (flat h around x) _ (runs p t.0.0 t.0.1 (binary_parts n o true x y e).0 around) (dotted_runs n o x y (flat h around y) (runs q t.1.0 t.1.1 (binary_parts n o true x y e).1 around))
    runs (of_logic {h = n} {op = o} {a = x} {b = y} is p q) at t e around =
        logic_runs n is x y (flat h around x) (flat h around y) (runs p t.0.0 t.0.1 (binary_parts n o false x y e).0 around) (runs q t.1.0 t.1.1 (binary_parts n o false x y e).1 around)
    runs (of_mask {h = n} {op = o} {a = x} {b = y} is each p q) at t e around =
        run_both (flat h around x) _ (runs p t.0.0 t.0.1 (binary_parts n o true x y e).0 around) (dotted_runs n o x y (flat h around y) (runs q t.1.0 t.1.1 (binary_parts n o true x y e).1 around))
    runs (of_product {h = n} {a = x} {b = y} p q) at t e around = absurd (product_unbuilt n x y construct.Product (product_place n x y at t.1.0) refl e)
    runs (of_transposed {h = n} {g = k} {a = x} {b = y} out p q) at t e around = absurd (product_unbuilt n x (call k (codes "transpose") false (plain y none)) construct.TransposedProduct (transposed_place n k x y at t.1) refl e)
    runs (of_element {h = n} {a = x} {i = i} out array p q) at t e around =
        behind_two (flat h around x) (flat h around i) (index_code h n x i) (runs p t.0.0 t.0.1 (index_parts n x i e).0 around) (runs q t.1.0 t.1.1 (index_parts n x i e).1 around) (index_runs n x i)
    runs (of_elements {h = n} {a = x} {k = i} out array p q) at t e around =
        behind_two (flat h around x) (flat h around i) (index_code h n x i) (runs p t.0.0 t.0.1 (index_parts n x i e).0 around) (runs q t.1.0 t.1.1 (index_parts n x i e).1 around) (index_runs n x i)
    runs (of_window {h = n} {g = k} {p = v} {d = i} role is d) at t e around =
        behind_two (flat h around (variable k v)) (flat h around i) (index_code h n (variable k v) i) (copied_runs k.at (at_node h.known k.id) (arrays_named h.known v)) (distance_runs around is) (index_runs n (variable k v) i)
    runs (of_scalar_call {h = n} {f = f} {a = x} {b = y} is p q) at t e around =
        let o = scalar_of_name false is in
        called_runs n (function.Scalar o.of_it) f (plain x (plain y none)) _ o.is refl (behind_two (flat h around x) (flat h (frame_around h.known f (plain x (plain y none)) around) y) stop (runs p t.0.0 t.0.1 (two_parts n f false x y e).0 around) (runs q t.1.0 t.1.1 (two_parts n f false x y e).1 (frame_around h.known f (plain x (plain y none)) around)) tt)
    runs (of_scalar_calls {h = n} {f = f} {a = x} {b = y} is each p q) at t e around =
        run_both (flat_among h around (frame_around h.known f (plain x (plain y none)) around) (plain x (plain y none))) _ (behind_two (flat h around x) (flat h (frame_around h.known f (plain x (plain y none)) around) y) stop (runs p t.0.0 t.0.1 (two_parts n f true x y e).0 around) (runs q t.1.0 t.1.1 (two_parts n f true x y e).1 (frame_around h.known f (plain x (plain y none)) around)) tt) (dotted_call_runs n (function_named true f) (plain x (plain y none)))
    runs (of_map {h = n} {p = v} {e = b} {a = x} out array p becomes q) at t e around =
        called_runs n function.Map (codes "map") (lambda v b (plain x none)) _ refl refl (run_both (flat h (frame_around h.known (codes "map") (lambda v b (plain x none)) around) x) stop (runs p t.0.0 t.0.1 (behind_part n (codes "map") v b x e) (frame_around h.known (codes "map") (lambda v b (plain x none)) around)) tt)
    runs (of_stencil {h = n} {p = v} {e = b} {a = x} out p q) at t e around =
        called_runs n function.Stencil (codes "stencil") (lambda v b (plain x none)) _ refl refl (run_both (flat h (frame_around h.known (codes "stencil") (lambda v b (plain x none)) around) x) stop (runs q t.1.0 t.1.1 (behind_part n (codes "stencil") v b x e) (frame_around h.known (codes "stencil") (lambda v b (plain x none)) around)) tt)
    runs (of_fill {h = n} {v = x} {k = y} out array p q) at t e around =
        called_runs n function.Fill (codes "fill") (plain x (plain y none)) _ refl refl (behind_two (flat h around x) (flat h (frame_around h.known (codes "fill") (plain x (plain y none)) around) y) stop (runs p t.0.0 t.0.1 (two_parts n (codes "fill") false x y e).0 around) (runs q t.1.0 t.1.1 (two_parts n (codes "fill") false x y e).1 (frame_around h.known (codes "fill") (plain x (plain y none)) around)) tt)
    runs (of_collect {h = n} {a = x} {b = y} out p q) at t e around =
        called_runs n function.Collect (codes "collect") (range x y none) _ refl refl
        (behind_two (flat h around x) (flat h around y) stop (runs p t.0.0 t.0.1 (range_parts n (codes "collect") x y e).0 around) (runs q t.1.0 t.1.1 (range_parts n (codes "collect") x y e).1 around) tt)
    runs (of_length {h = n} {a = x} out array p) at t e around = called_runs n function.Length (codes "length") (plain x none) _ refl refl (run_both (flat h around x) stop (runs p t.0 t.1 (one_part n (codes "length") false x e) around) tt)
    runs (of_fold {h = n} {f = f} {a = x} out is p) at t e around =
        let o = number_fold_of_name is in
        called_runs n (function.Fold o.of_it) f (plain x none) _ o.is refl (run_both (flat h around x) stop (runs p t.0 t.1 (one_part n f false x e) around) tt)
    runs (of_truth_fold {h = n} {f = f} {a = x} out is p) at t e around =
        let o = truth_fold_of_name is in
        called_runs n (function.Fold o.of_it) f (plain x none) _ o.is refl (run_both (flat h around x) stop (runs p t.0 t.1 (one_part n f false x e) around) tt)
    runs (of_count {h = n} {a = x} out p) at t e around = called_runs n function.Count (codes "count") (plain x none) _ refl refl (run_both (flat h around x) stop (runs p t.0 t.1 (one_part n (codes "count") false x e) around) tt)
    runs (of_cumsum {h = n} {a = x} out p) at t e around = called_runs n function.Cumsum (codes "cumsum") (plain x none) _ refl refl (run_both (flat h around x) stop (runs p t.0 t.1 (one_part n (codes "cumsum") false x e) around) tt)
    runs (of_vcat {h = n} {a = x} {b = y} out array p q) at t e around =
        called_runs n function.Vcat (codes "vcat") (plain x (plain y none)) _ refl refl (behind_two (flat h around x) (flat h (frame_around h.known (codes "vcat") (plain x (plain y none)) around) y) stop (runs p t.0.0 t.0.1 (two_parts n (codes "vcat") false x y e).0 around) (runs q t.1.0 t.1.1 (two_parts n (codes "vcat") false x y e).1 (frame_around h.known (codes "vcat") (plain x (plain y none)) around)) tt)
    runs (of_stack {h = n} {a = x} {rest = rest} out p more) at t e around = absurd (call_unbuilt n (codes "stack") (plain x rest) _ function.Stack construct.Stack at refl refl refl e)
    runs (of_row {h = n} {m = x} {i = y} out p q) at t e around = absurd (call_unbuilt n (codes "row") (plain x (plain y none)) _ function.Row construct.Row at refl refl refl e)
    runs (of_frame {h = n} {c = c} {at = place} {a = x} {rest = rest} out given narrow) at t e around =
        absurd (call_unbuilt n (codes "DataFrame") (named c place x rest) _ function.DataFrame construct.DataFrame at refl refl refl e)
    runs (of_read {h = n} {g = k} {k = m} {f = f} {c = c} {rest = rest} out columns narrow) at t e around =
        absurd (call_unbuilt n (codes "read_csv") (plain (text k f) (plain (column m c) rest)) _ function.ReadCsv construct.ReadCsv at refl refl refl e)
    runs (of_nrow {h = n} {d = x} out p) at t e around = absurd (call_unbuilt n (codes "nrow") (plain x none) _ function.Nrow construct.Nrow at refl refl refl e)
    runs (of_filter {h = n} {d = x} {m = y} out p q narrow) at t e around =
        absurd (call_unbuilt n (codes "filter") (plain x (plain y none)) _ function.Filter construct.Filter at refl refl refl e)
    runs (of_join {h = n} {g = k} {l = x} {r = y} {k = c} out p q first second distinct narrow) at t e around =
        absurd (call_unbuilt n (codes "join") (plain x (plain y (plain (column k c) none))) _ function.Join construct.Join at refl refl refl e)
    runs (of_aggregate {h = n} {g = k} {d = x} {m = m} {k = c} {c = v} {at = place} {rest = rest} out p known measures narrow) at t e around =
        absurd (call_unbuilt n (codes "aggregate") (plain x (plain (column k c) (named v place m rest))) _ function.Aggregate construct.Aggregate at refl refl refl e)
    runs (of_sort {h = n} {g = k} {d = x} {k = c} out p known narrow) at t e around =
        absurd (call_unbuilt n (codes "sort") (plain x (plain (column k c) none)) _ function.Sort construct.Sort at refl refl refl e)
