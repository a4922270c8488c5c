-- What a lambda's body comes to is what its element comes to, at each place: a word of its kind, or the same trap.
use Rattle.std.proofs.Common.{◌≡◌, ℕ, ℤ, pos, ◌+ℤ◌, Bool, true, false, not, if◌then◌else◌, neg_ℤ, bytes_eq, unwrap_or, List, [], ◌∷◌, Option, Some, None, Result, Ok, Err, refl, sym, ap, subst, ◌∙◌}
use Rattle.hp_word.specs.declared.elem.Elem.{Elem}
use Rattle.hp_word.specs.declared.elem.Elem.TheVariants as elem
use Rattle.hp_word.specs.declared.elem.Elem.TheViews as views
use Rattle.hp_word.specs.declared.place.Place.{Place}
use Rattle.hp_word.specs.declared.place.Trap.{Trap}
use Rattle.hp_word.specs.declared.place.TrapKind.{TrapKind}
use Rattle.hp_word.specs.declared.word.CalcOp.{CalcOp}
use Rattle.hp_word.specs.declared.word.CalcOp.TheVariants as calc
use Rattle.hp_word.specs.Elem.{Sight, elem_value, trapped_at, calc_of as calc_value, both_of, either_of}
use Rattle.hp_word.specs.LoopRules.{cell_at}
use Rattle.hp_word.specs.Words.{wrap, truth, is_true, calculated}
use Rattle.hp_word.proofs.ElemLemmas.{value_Number, value_Word, value_Input, value_Near, value_Calc, value_Both, value_Either}
use Rattle.hp_script.specs.declared.function.ScalarFunction.{ScalarFunction}
use Rattle.hp_script.specs.declared.function.ScalarFunction.TheVariants as scalars
use Rattle.hp_script.specs.declared.tree.BinOp.{BinOp}
use Rattle.hp_script.specs.declared.tree.BinOp.TheVariants as binary_op
use Rattle.hp_script.specs.declared.tree.UnOp.TheVariants as unary_op
use Rattle.hp_script.specs.declared.typed.Shape.{Shape}
use Rattle.hp_script.specs.declared.typed.Shape.TheVariants.{Int, Bool as Truth, Ints, Bools}
use Rattle.hp_script.specs.Functions.{function_named, scalar_named}
use Rattle.hp_script.specs.Mirror.{Tree}
use Rattle.hp_script.specs.Scope.{Scope, Role, element, window, Parameter, role_of, are_some}
use Rattle.hp_script.specs.Shaped.{IsScalar, scalar_number, scalar_truth, IsArithmetic, addition, subtraction, multiplication, IsComparison, equal, not_equal, less, at_most, greater, at_least, IsLogic, conjunction, disjunction, IsScalarName, named_div, named_rem, named_min, named_max, AreSpread, two_arrays, array_and_element, element_and_array, IsDistance, ahead, behind, HasShape, of_number, of_truth, of_parameter, of_variable, of_scalar_variable, of_field, of_column, of_negation, of_not, of_nots, of_arithmetic, of_arithmetics, of_comparison, of_comparisons, of_logic, of_mask, of_product, of_transposed, of_element, of_elements, of_window, of_scalar_call, of_scalar_calls, of_map, of_stencil, of_fill, of_collect, of_length, of_fold, of_truth_fold, of_count, of_cumsum, of_vcat, of_stack, of_row, of_frame, of_read, of_nrow, of_filter, of_join, of_aggregate, of_sort}
use Rattle.hp_meaning.specs.declared.value.Kind.{Kind}
use Rattle.hp_meaning.specs.declared.value.Kind.TheVariants as kinds
use Rattle.hp_meaning.specs.declared.value.Value.{Value}
use Rattle.hp_meaning.specs.declared.value.Value.TheVariants.{Word}
use Rattle.hp_meaning.specs.Fitting.{Bound, bound, Keeps, a_number, a_truth, HasShape as IsOf}
use Rattle.hp_meaning.specs.LambdaRules.{Sight as Seen, Element, Around, Inside, scalar_only, parameter_value, name_value, distance, element_near, near_value, lazy_value, strict_value, operator_value, call_value, scalar, scalars as scalar_args}
use Rattle.hp_meaning.specs.Operands.{as_truth}
use Rattle.hp_meaning.specs.Outcomes.{Answer, Gives, Traps, Refuses, also, given, answered}
use Rattle.hp_meaning.specs.Scopes.{value_named}
use Rattle.hp_meaning.specs.WordRules.{calc_of, scalar_calc, operands_of, result_of, is_lazy, worded, calculated_words, unary_value, plain_value, scalar_value}
use Rattle.hp_flat.specs.Elements.{elem_of, elems_of, binary_elem, call_elem}
use Rattle.hp_flat.specs.Homes.{Homes, word_named}

-- ---- words and traps

-- the element gives the word of the body, which is of this kind, or its trap
pub data GoesAs (kind : Kind) : Answer Value → Result ℤ Trap → Type 0 where
  word_goes : {x : ℤ} → GoesAs kind (Gives (Word kind x)) (Ok x)
  trap_goes : {t : Trap} → GoesAs kind (Traps t) (Err t)

-- by the type of the body: inside a lambda there are numbers and truth values alone
abbrev pub GoesBy : Shape → Answer Value → Result ℤ Trap → Type 0
GoesBy Int answer result = GoesAs kinds.Number answer result
GoesBy Truth answer result = GoesAs kinds.Truth answer result
GoesBy _ answer result = ⊥

-- the kind of a type of words
pub data IsKind : Shape → Kind → Type 0 where
  number_kind : IsKind Int kinds.Number
  truth_kind : IsKind Truth kinds.Truth

goes_by : {a : Shape} {kind : Kind} {answer : Answer Value} {result : Result ℤ Trap} → IsKind a kind → GoesAs kind answer result → GoesBy a answer result
goes_by number_kind goes = goes
goes_by truth_kind goes = goes

by_result : {kind : Kind} {answer : Answer Value} {r q : Result ℤ Trap} → q ≡ r → GoesAs kind answer r → GoesAs kind answer q
by_result {kind = kind} {answer = answer} e goes = subst (GoesAs kind answer) (sym e) goes

-- ---- operations

calculated_goes : (kind : Kind) (at : Place) (r : Result ℤ TrapKind) → GoesAs kind (worded kind (answered at r)) (trapped_at at r)
calculated_goes kind at (Ok x) = word_goes
calculated_goes kind at (Err why) = trap_goes

words_go : (at : Place) (op : CalcOp) (operands result : Kind) (x y : ℤ) → GoesAs result (calculated_words at op operands result (Word operands x) (Word operands y)) (calc_value op at (Ok x) (Ok y))
unfolding calculated_words calc_value
words_go at op kinds.Number result x y = calculated_goes result at (calculated op x y)
words_go at op kinds.Truth result x y = calculated_goes result at (calculated op x y)

-- an operation on two sides, by what it makes of two words
two_go : (at : Place) (op : CalcOp) (operands result : Kind) (rule : Value → Value → Answer Value) {first second : Answer Value} {r q : Result ℤ Trap}
    → ((x y : ℤ) → GoesAs result (rule (Word operands x) (Word operands y)) (calc_value op at (Ok x) (Ok y)))
    → GoesAs operands first r → GoesAs operands second q → GoesAs result (also first (λ v. also second (rule v))) (calc_value op at r q)
unfolding calc_value
two_go at op operands result rule each (word_goes {x = x}) (word_goes {x = y}) = each x y
two_go at op operands result rule each (word_goes {x = x}) trap_goes = trap_goes
two_go at op operands result rule each trap_goes second = trap_goes

strict_go : (at : Place) (op : BinOp) {first second : Answer Value} {r q : Result ℤ Trap} → is_lazy op ≡ false
    → GoesAs (operands_of op) first r → GoesAs (operands_of op) second q → GoesAs (result_of op) (strict_value at op first second) (calc_value (calc_of op) at r q)
unfolding strict_value plain_value
strict_go at op strict p q =
    two_go at (calc_of op) (operands_of op) (result_of op) (plain_value at op)
    (λ x y. subst (λ (b : Bool). GoesAs (result_of op) (if b then Refuses else calculated_words at (calc_of op) (operands_of op) (result_of op) (Word (operands_of op) x) (Word (operands_of op) y)) (calc_value (calc_of op) at (Ok x) (Ok y)))
    (sym strict) (words_go at (calc_of op) (operands_of op) (result_of op) x y)) p q

-- the second side is looked at where the first does not decide
both_go : {first second : Answer Value} {r q : Result ℤ Trap} → GoesAs kinds.Truth first r → GoesAs kinds.Truth second q → GoesAs kinds.Truth (lazy_value binary_op.And first second) (both_of r q)
unfolding lazy_value both_of
both_go (word_goes {x = x}) second = go (is_true x) second
  where
    go : {second : Answer Value} {q : Result ℤ Trap} (holds : Bool) → GoesAs kinds.Truth second q
        → GoesAs kinds.Truth (if not holds then Gives (Word kinds.Truth (truth false)) else also second (λ w. given (as_truth w) (λ y. Gives (Word kinds.Truth y)))) (if holds then q else Ok (pos 0))
    go true word_goes = word_goes
    go true trap_goes = trap_goes
    go false second = word_goes
both_go trap_goes second = trap_goes

either_goes : {first second : Answer Value} {r q : Result ℤ Trap} → GoesAs kinds.Truth first r → GoesAs kinds.Truth second q → GoesAs kinds.Truth (lazy_value binary_op.Or first second) (either_of r q)
unfolding lazy_value either_of
either_goes (word_goes {x = x}) second = go (is_true x) second
  where
    go : {second : Answer Value} {q : Result ℤ Trap} (holds : Bool) → GoesAs kinds.Truth second q
        → GoesAs kinds.Truth (if holds then Gives (Word kinds.Truth (truth true)) else also second (λ w. given (as_truth w) (λ y. Gives (Word kinds.Truth y)))) (if holds then Ok (pos 1) else q)
    go true second = word_goes
    go false word_goes = word_goes
    go false trap_goes = trap_goes
either_goes trap_goes second = trap_goes

negation_goes : (at : Place) {first : Answer Value} {r : Result ℤ Trap} → GoesAs kinds.Number first r → GoesAs kinds.Number (also first (unary_value unary_op.Neg false)) (calc_value calc.Neg at r (Ok (pos 0)))
unfolding unary_value calc_value
negation_goes at word_goes = word_goes
negation_goes at trap_goes = trap_goes

opposite_goes : (at : Place) {first : Answer Value} {r : Result ℤ Trap} → GoesAs kinds.Truth first r → GoesAs kinds.Truth (also first (unary_value unary_op.Not false)) (calc_value calc.Not at r (Ok (pos 0)))
unfolding unary_value calc_value
opposite_goes at word_goes = word_goes
opposite_goes at trap_goes = trap_goes

-- ---- elements

module _ (sight : Sight) where
  calc_goes : {kind : Kind} {answer : Answer Value} (op : CalcOp) (at : Place) (a b : Elem) → GoesAs kind answer (calc_value op at (elem_value sight a) (elem_value sight b)) → GoesAs kind answer (elem_value sight (views.Calc op at a b))
  calc_goes op at a b goes = by_result (value_Calc sight op at a b) goes

  unary_goes : {kind : Kind} {answer : Answer Value} (op : CalcOp) (at : Place) (a : Elem) → GoesAs kind answer (calc_value op at (elem_value sight a) (Ok (pos 0))) → GoesAs kind answer (elem_value sight (views.Calc op at a (elem.Number (pos 0))))
  unary_goes op at a goes = by_result (value_Calc sight op at a (elem.Number (pos 0)) ∙ ap (calc_value op at (elem_value sight a)) (value_Number sight (pos 0))) goes

-- ---- names

-- What the parameter stands for, and how its element reads it: in `map` by the only input, in `stencil` round its place in
-- the only halo.
pub data ReadsAs (sight : Sight) : Role → Seen → Type 0 where
  reads_element : {one : Shape} {kind : Kind} {x : ℤ} → IsKind one kind → sight.input 0 ≡ x → ReadsAs sight (element one) (Element kind x)
  reads_around : {xs : List ℤ} {k : ℕ} → ((by : ℤ) → sight.near 0 by ≡ cell_at xs (pos k +ℤ by)) → ReadsAs sight window (Around xs k)

-- a variable that is a word
record IsWord (a : Shape) (found : Option Value) : Type 0 where
  kind : Kind
  is_kind : IsKind a kind
  word : ℤ
  is : found ≡ Some (Word kind word)

scalar_word : {a : Shape} {v : Value} → IsScalar a → IsOf a v → IsWord a (Some v)
scalar_word scalar_number (a_number x) = record { kind = kinds.Number; is_kind = number_kind; word = x; is = refl }
scalar_word scalar_truth (a_truth x holds) = record { kind = kinds.Truth; is_kind = truth_kind; word = x; is = refl }

bound_word : {a : Shape} {o : Option Shape} {found : Option Value} → IsScalar a → Bound o found → o ≡ Some a → IsWord a found
bound_word {a = a} one (bound {kind = b} {a = v} of_it) e = let same : b ≡ a = cc in scalar_word one (subst (λ (s : Shape). IsOf s v) same of_it)

-- ---- bodies

-- A body stands in one lambda of this parameter; the variables have values of their types, and their words are what elements
-- read.
pub record IsBody (h : Homes) (s : Scope) (i : Inside) (sight : Sight) : Type 0 where
  pub role : Role
  pub parameters : s.parameters ≡ record { name = i.parameter; role = role } ∷ []
  pub reads : ReadsAs sight role i.sight
  pub keeps : Keeps s i.vars
  pub words : (x : List ℕ) (kind : Kind) (z : ℤ) → value_named x i.vars ≡ Some (Word kind z) → sight.word (word_named h x) ≡ z

-- nothing that stands outside of lambdas stands in one
in_lambda : {A : Type 0} (parameters : List Parameter) (parameter : Parameter) → parameters ≡ parameter ∷ [] → are_some parameters ≡ false → A
in_lambda parameters parameter e outside =
    let both : true ≡ false = sym (ap are_some e) ∙ outside in
    absurd cc

numbers_never : {one other : Shape} (first second : Answer Value) (r q : Result ℤ Trap) → AreSpread Int Ints one other → GoesBy one first r → GoesBy other second q → ⊥
numbers_never _ _ _ _ two_arrays first second = first
numbers_never _ _ _ _ array_and_element first second = first
numbers_never _ _ _ _ element_and_array first second = second

truths_never : {one other : Shape} (first second : Answer Value) (r q : Result ℤ Trap) → AreSpread Truth Bools one other → GoesBy one first r → GoesBy other second q → ⊥
truths_never _ _ _ _ two_arrays first second = first
truths_never _ _ _ _ array_and_element first second = first
truths_never _ _ _ _ element_and_array first second = second

-- the distance that is written
record HasDistance (d : Tree) : Type 0 where
  by : ℤ
  is : distance d ≡ Some by

has_distance : {d : Tree} {z : ℤ} → IsDistance d z → HasDistance d
has_distance (ahead {value = z}) = record { by = z; is = refl }
has_distance (behind {value = z}) = record { by = wrap (neg_ℤ z); is = refl }

module _ (h : Homes) (sight : Sight) where
  parameter_goes : {a : Shape} {role : Role} {seen : Seen} (same : Bool) (found : Option Value) (k : ℕ) → ReadsAs sight role seen → (if same then Some role else None) ≡ Some (element a)
      → GoesBy a (if same then parameter_value seen else scalar_only found) (elem_value sight (if same then elem.Input 0 else elem.Word k))
  parameter_goes {a = a} true found k (reads_element {one = one} {kind = kind} {x = x} is e) own =
      let same : one ≡ a = cc in
      subst (λ (s : Shape). GoesBy s (Gives (Word kind x)) (elem_value sight (elem.Input 0))) same (goes_by is (by_result (value_Input sight 0 ∙ ap Ok e) word_goes))
  parameter_goes true found k (reads_around near) own = absurd cc
  parameter_goes false found k reads own = absurd cc

  window_goes : {role : Role} {seen : Seen} (same : Bool) (found : Option ℤ) (by : ℤ) → ReadsAs sight role seen → (if same then Some role else None) ≡ Some window → found ≡ Some by
      → GoesAs kinds.Number (if same then element_near seen found else Refuses) (elem_value sight (elem.Near 0 (unwrap_or found (pos 0))))
  window_goes true found by (reads_element is e) own distant = absurd cc
  window_goes true found by (reads_around {xs = xs} {k = k} near) own distant =
      subst (λ (o : Option ℤ). GoesAs kinds.Number (element_near (Around xs k) o) (elem_value sight (elem.Near 0 (unwrap_or o (pos 0))))) (sym distant)
      (by_result (value_Near sight 0 by ∙ ap Ok (near by)) word_goes)
  window_goes false found by reads own distant = absurd cc

  variable_goes : {a : Shape} (role : Role) (seen : Seen) (same : Bool) (found : Option Value) (k : ℕ) (w : IsWord a found) → (if same then Some role else None) ≡ None → sight.word k ≡ w.word
      → GoesBy a (if same then parameter_value seen else scalar_only found) (elem_value sight (if same then elem.Input 0 else elem.Word k))
  variable_goes role seen true found k w own e = absurd cc
  variable_goes {a = a} role seen false found k w own e =
      subst (λ (o : Option Value). GoesBy a (scalar_only o) (elem_value sight (elem.Word k))) (sym w.is) (goes_by w.is_kind (by_result (value_Word sight k ∙ ap Ok e) word_goes))

  arithmetic_goes : {op : BinOp} {first second : Answer Value} (at : Place) (a b : Elem) → IsArithmetic op → GoesAs kinds.Number first (elem_value sight a) → GoesAs kinds.Number second (elem_value sight b)
      → GoesAs kinds.Number (operator_value at op false first second) (elem_value sight (binary_elem at op a b))
  unfolding operator_value
  arithmetic_goes at a b addition p q = calc_goes sight calc.Add at a b (strict_go at binary_op.Add refl p q)
  arithmetic_goes at a b subtraction p q = calc_goes sight calc.Sub at a b (strict_go at binary_op.Sub refl p q)
  arithmetic_goes at a b multiplication p q = calc_goes sight calc.Mul at a b (strict_go at binary_op.Mul refl p q)

  comparison_goes : {op : BinOp} {first second : Answer Value} (at : Place) (a b : Elem) → IsComparison op → GoesAs kinds.Number first (elem_value sight a) → GoesAs kinds.Number second (elem_value sight b)
      → GoesAs kinds.Truth (operator_value at op false first second) (elem_value sight (binary_elem at op a b))
  unfolding operator_value
  comparison_goes at a b equal p q = calc_goes sight calc.Eq at a b (strict_go at binary_op.Eq refl p q)
  comparison_goes at a b not_equal p q = calc_goes sight calc.Ne at a b (strict_go at binary_op.Ne refl p q)
  comparison_goes at a b less p q = calc_goes sight calc.Lt at a b (strict_go at binary_op.Lt refl p q)
  comparison_goes at a b at_most p q = calc_goes sight calc.Le at a b (strict_go at binary_op.Le refl p q)
  comparison_goes at a b greater p q = calc_goes sight calc.Gt at a b (strict_go at binary_op.Gt refl p q)
  comparison_goes at a b at_least p q = calc_goes sight calc.Ge at a b (strict_go at binary_op.Ge refl p q)

  logic_goes : {op : BinOp} {first second : Answer Value} (at : Place) (a b : Elem) → IsLogic op → GoesAs kinds.Truth first (elem_value sight a) → GoesAs kinds.Truth second (elem_value sight b)
      → GoesAs kinds.Truth (operator_value at op false first second) (elem_value sight (binary_elem at op a b))
  unfolding operator_value
  logic_goes at a b conjunction p q = by_result (value_Both sight a b) (both_go p q)
  logic_goes at a b disjunction p q = by_result (value_Either sight a b) (either_goes p q)

  function_goes : {first second : Answer Value} (f : ScalarFunction) (at : Place) (a b : Elem) → GoesAs kinds.Number first (elem_value sight a) → GoesAs kinds.Number second (elem_value sight b)
      → GoesAs kinds.Number (also first (λ v. also second (scalar_value f false at v))) (elem_value sight (views.Calc (scalar_calc f) at a b))
  unfolding scalar_value
  function_goes f at a b p q =
      calc_goes sight (scalar_calc f) at a b (two_go at (scalar_calc f) kinds.Number kinds.Number (scalar_value f false at) (λ x y. words_go at (scalar_calc f) kinds.Number kinds.Number x y) p q)

  call_goes : {f : List ℕ} {first second : Answer Value} (at : Place) (a b : Elem) → IsScalarName f → GoesAs kinds.Number first (elem_value sight a) → GoesAs kinds.Number second (elem_value sight b)
      → GoesAs kinds.Number (call_value (function_named false f) false at (first ∷ second ∷ [])) (elem_value sight (call_elem at (function_named false f) (a ∷ b ∷ [])))
  unfolding call_value function_named scalar_named
  call_goes at a b named_div p q = function_goes scalars.Div at a b p q
  call_goes at a b named_rem p q = function_goes scalars.Rem at a b p q
  call_goes at a b named_min p q = function_goes scalars.Min at a b p q
  call_goes at a b named_max p q = function_goes scalars.Max at a b p q

  -- an element gives what its body does
  pub body_goes : {s : Scope} {x : Tree} {a : Shape} (p : HasShape s x a) (i : Inside) → IsBody h s i sight → GoesBy a (scalar x i) (elem_value sight (elem_of h i.parameter x))
  unfolding scalar scalar_args elem_of elems_of name_value near_value
  body_goes (of_number {value = z}) i body = by_result (value_Number sight z) word_goes
  body_goes (of_truth {holds = holds}) i body = by_result (value_Number sight (truth holds)) word_goes
  body_goes (of_parameter {p = x} {a = a} own) i body =
      parameter_goes (bytes_eq x i.parameter) (value_named x i.vars) (word_named h x) body.reads (ap (λ (ps : List Parameter). role_of ps x) (sym body.parameters) ∙ own)
  body_goes (of_scalar_variable {v = x} {a = a} one v) i body =
      let w = bound_word one (body.keeps.known x v.set) v.shape in
      variable_goes body.role i.sight (bytes_eq x i.parameter) (value_named x i.vars) (word_named h x) w (ap (λ (ps : List Parameter). role_of ps x) (sym body.parameters) ∙ v.bare) (body.words x w.kind w.word w.is)
  body_goes (of_window {p = x} {d = d} own is fits) i body =
      let far = has_distance is in
      window_goes (bytes_eq x i.parameter) (distance d) far.by body.reads (ap (λ (ps : List Parameter). role_of ps x) (sym body.parameters) ∙ own) far.is
  body_goes (of_negation {h = n} {a = x} p) i body = unary_goes sight calc.Neg n.at (elem_of h i.parameter x) (negation_goes n.at (body_goes p i body))
  body_goes (of_not {h = n} {a = x} p) i body = unary_goes sight calc.Not n.at (elem_of h i.parameter x) (opposite_goes n.at (body_goes p i body))
  body_goes (of_arithmetic {h = n} {a = x} {b = y} is p q) i body = arithmetic_goes n.at (elem_of h i.parameter x) (elem_of h i.parameter y) is (body_goes p i body) (body_goes q i body)
  body_goes (of_comparison {h = n} {a = x} {b = y} is p q) i body = comparison_goes n.at (elem_of h i.parameter x) (elem_of h i.parameter y) is (body_goes p i body) (body_goes q i body)
  body_goes (of_logic {h = n} {a = x} {b = y} is p q) i body = logic_goes n.at (elem_of h i.parameter x) (elem_of h i.parameter y) is (body_goes p i body) (body_goes q i body)
  body_goes (of_scalar_call {h = n} {a = x} {b = y} is p q) i body = call_goes n.at (elem_of h i.parameter x) (elem_of h i.parameter y) is (body_goes p i body) (body_goes q i body)
  -- no array stands in a lambda
  body_goes (of_nots p) i body = absurd (body_goes p i body)
  body_goes (of_arithmetics is e p q) i body = absurd (numbers_never _ _ _ _ e (body_goes p i body) (body_goes q i body))
  body_goes (of_comparisons is e p q) i body = absurd (numbers_never _ _ _ _ e (body_goes p i body) (body_goes q i body))
  body_goes (of_mask is e p q) i body = absurd (truths_never _ _ _ _ e (body_goes p i body) (body_goes q i body))
  body_goes (of_scalar_calls is e p q) i body = absurd (numbers_never _ _ _ _ e (body_goes p i body) (body_goes q i body))
  body_goes (of_product p q) i body = absurd (body_goes p i body)
  body_goes {s = s} (of_variable out v) i body = in_lambda s.parameters _ body.parameters out
  body_goes {s = s} (of_field out v known) i body = in_lambda s.parameters _ body.parameters out
  body_goes {s = s} (of_column out within known) i body = in_lambda s.parameters _ body.parameters out
  body_goes {s = s} (of_transposed out p q) i body = in_lambda s.parameters _ body.parameters out
  body_goes {s = s} (of_element out array p q) i body = in_lambda s.parameters _ body.parameters out
  body_goes {s = s} (of_elements out array p q) i body = in_lambda s.parameters _ body.parameters out
  body_goes {s = s} (of_map out array p becomes q) i body = in_lambda s.parameters _ body.parameters out
  body_goes {s = s} (of_stencil out p q) i body = in_lambda s.parameters _ body.parameters out
  body_goes {s = s} (of_fill out array p q) i body = in_lambda s.parameters _ body.parameters out
  body_goes {s = s} (of_collect out p q) i body = in_lambda s.parameters _ body.parameters out
  body_goes {s = s} (of_length out array p) i body = in_lambda s.parameters _ body.parameters out
  body_goes {s = s} (of_fold out is p) i body = in_lambda s.parameters _ body.parameters out
  body_goes {s = s} (of_truth_fold out is p) i body = in_lambda s.parameters _ body.parameters out
  body_goes {s = s} (of_count out p) i body = in_lambda s.parameters _ body.parameters out
  body_goes {s = s} (of_cumsum out p) i body = in_lambda s.parameters _ body.parameters out
  body_goes {s = s} (of_vcat out array p q) i body = in_lambda s.parameters _ body.parameters out
  body_goes {s = s} (of_stack out p more) i body = in_lambda s.parameters _ body.parameters out
  body_goes {s = s} (of_row out p q) i body = in_lambda s.parameters _ body.parameters out
  body_goes {s = s} (of_frame out given narrow) i body = in_lambda s.parameters _ body.parameters out
  body_goes {s = s} (of_read out columns narrow) i body = in_lambda s.parameters _ body.parameters out
  body_goes {s = s} (of_nrow out p) i body = in_lambda s.parameters _ body.parameters out
  body_goes {s = s} (of_filter out p q narrow) i body = in_lambda s.parameters _ body.parameters out
  body_goes {s = s} (of_join out p q first second distinct narrow) i body = in_lambda s.parameters _ body.parameters out
  body_goes {s = s} (of_aggregate out p known measures narrow) i body = in_lambda s.parameters _ body.parameters out
  body_goes {s = s} (of_sort out p known narrow) i body = in_lambda s.parameters _ body.parameters out
