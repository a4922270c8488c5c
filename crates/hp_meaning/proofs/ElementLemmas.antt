-- What elements of loops give, by the forms of bodies.
use Rattle.std.proofs.Common.{◌≡◌, ℕ, ℤ, pos, ◌+ℤ◌, Bool, true, false, not, if◌then◌else◌, List, [], ◌∷◌, length, ◌<◌, get_or, Option, Some, None, Result, Ok, Err, refl, ap, sym, ◌∙◌, subst}
use Rattle.std.specs.Prelude.{bytes_eq, IfOk, IfSome}
use Rattle.hp_word.specs.declared.elem.Elem.{Elem}
use Rattle.hp_word.specs.declared.elem.Elem.TheVariants.{Number as NumberElem, Input, Near}
use Rattle.hp_word.specs.declared.elem.Elem.TheViews.{Calc}
use Rattle.hp_word.specs.declared.place.NoMemory.{NoMemory}
use Rattle.hp_word.specs.declared.place.Place.{Place}
use Rattle.hp_word.specs.declared.place.Trap.{Trap}
use Rattle.hp_word.specs.declared.word.CalcOp.{CalcOp}
use Rattle.hp_word.specs.Elem.{Sight as Seen, elem_value, calc_of as calc_of_parts, both_of, either_of}
use Rattle.hp_word.specs.LoopRules.{cell_at, sight_in, word_at}
use Rattle.hp_word.specs.Words.{calculated, is_true, truth}
use Rattle.hp_word.proofs.ElemLemmas.{value_Number, value_Input, value_Near, value_Calc, value_Both, value_Either}
use Rattle.hp_word.specs.declared.name.Name.{Name}
use Rattle.hp_script.specs.declared.function.Function.{Function}
use Rattle.hp_script.specs.declared.function.Function.TheVariants as functions
use Rattle.hp_script.specs.declared.function.ScalarFunction.{ScalarFunction}
use Rattle.hp_script.specs.declared.tree.Arg.{Arg}
use Rattle.hp_script.specs.declared.tree.Arg.TheViews.{Plain, Unary, Binary, Index, Call}
use Rattle.hp_script.specs.declared.tree.Expr.{Expr}
use Rattle.hp_script.specs.declared.tree.Form.TheVariants as forms
use Rattle.hp_script.specs.Functions.{function_named}
use Rattle.hp_script.specs.declared.tree.BinOp.{BinOp}
use Rattle.hp_script.specs.declared.tree.BinOp.TheVariants as binary_op
use Rattle.hp_script.specs.declared.tree.UnOp.{UnOp}
use Rattle.hp_script.specs.declared.tree.UnOp.TheVariants as unary_op
use Rattle.hp_script.specs.Mirror.{Tree, head, tree_of, form_of, args_of, arg_of}
use Rattle.hp_meaning.specs.declared.elements.Binding.{Binding}
use Rattle.hp_meaning.specs.declared.elements.Role.{Role}
use Rattle.hp_meaning.specs.declared.elements.Role.TheVariants as role
use Rattle.hp_meaning.specs.declared.elements.Typed.{Typed}
use Rattle.hp_meaning.specs.declared.value.Kind.{Kind}
use Rattle.hp_meaning.specs.declared.value.Kind.TheVariants.{Number, Truth}
use Rattle.hp_meaning.specs.declared.value.Value.{Value}
use Rattle.hp_meaning.specs.declared.value.Value.TheVariants.{Word}
use Rattle.hp_meaning.specs.declared.value.Var.{Var}
use Rattle.hp_meaning.specs.Elements.{IsElement, IsGuard, inside_at, stands_for, unary_calc}
use Rattle.hp_meaning.specs.LambdaRules.{Around, Element, Inside, inside, argument_value, call_value, scalar, scalars, distance, element_near, is_variable, lazy_value, name_value, near_value, number_in, one_truth, operator_value, parameter_value, scalar_only, strict_value, unary_kind, word_in}
use Rattle.hp_meaning.specs.LoopLaws.{element_of}
use Rattle.hp_meaning.specs.Operands.{as_word, as_word_of, is_kind}
use Rattle.hp_meaning.specs.Outcomes.{Answer, Gives, Refuses, also, given, told}
use Rattle.hp_meaning.specs.Scopes.{value_named}
use Rattle.hp_meaning.specs.WordRules.{calc_of, scalar_calc, scalar_value, calculated_words, is_lazy, operands_of, result_of, unary_value, worded}
use Rattle.hp_meaning.proofs.Answering.{yes_of, no_of}
use Rattle.hp_meaning.proofs.FormLemmas.{tree_call}
use Rattle.hp_meaning.proofs.LambdaLemmas.{tree_index, unary_is, binary_is, call_is}
use Rattle.hp_meaning.proofs.LoopForms.{told_at}
use Rattle.hp_meaning.proofs.OperatorLemmas.{both_words, plain_is}

abbrev pub Rule : Type 0
Rule = List ℤ → ℕ → Answer Value

abbrev typed : Kind → Elem → Typed
typed kind elem = record { kind = kind; elem = elem }

-- ---- the same answer

pub same_element : (f g : Rule) (made : Typed) → ((xs : List ℤ) (i : ℕ) → g xs i ≡ f xs i) → IsElement f made → IsElement g made
same_element f g made same is = record { gives = λ xs i. same xs i ∙ is.gives xs i }

pub same_found : (f g : Rule) (found : Option Typed) → ((xs : List ℤ) (i : ℕ) → g xs i ≡ f xs i) → IfSome found (IsElement f) → IfSome found (IsElement g)
same_found f g None same is = is
same_found f g (Some made) same is = same_element f g made same is

pub same_made : (f g : Rule) (r : Result (Option Typed) NoMemory) → ((xs : List ℤ) (i : ℕ) → g xs i ≡ f xs i) → IfOk r (λ o. IfSome o (IsElement f)) → IfOk r (λ o. IfSome o (IsElement g))
same_made f g (Ok found) same is = same_found f g found same is
same_made f g (Err e) same is = is

-- ---- words

pub is_constant : (kind : Kind) (x : ℤ) → IsElement (λ xs i. Gives (Word kind x)) (typed kind (NumberElem x))
is_constant kind x = record { gives = λ xs i. sym (ap (λ r. worded kind (told r)) (value_Number (sight_in (xs ∷ []) i []) x)) }

pub is_each : (kind : Kind) → IsElement (λ xs i. parameter_value (Element kind (word_at xs i))) (typed kind (Input 0))
is_each kind = record { gives = λ xs i. sym (ap (λ r. worded kind (told r)) (value_Input (sight_in (xs ∷ []) i []) 0)) }

pub is_word : (kind : Kind) (x : ℤ) (value : Value) → value ≡ Word kind x → IsElement (λ xs i. given (as_word value) (λ w. Gives (Word w.0 w.1))) (typed kind (NumberElem x))
is_word kind x value e =
    same_element (λ xs i. Gives (Word kind x)) (λ xs i. given (as_word value) (λ w. Gives (Word w.0 w.1))) (typed kind (NumberElem x)) (λ xs i. ap (λ a. given (as_word a) (λ w. Gives (Word w.0 w.1))) e) (is_constant kind x)

pub named_parameter : (name parameter : List ℕ) (r : Role) (vars : List Var) (found : Option Typed) → true ≡ bytes_eq name parameter → IfSome found (IsElement (λ xs i. parameter_value (stands_for r xs i)))
    → IfSome found (IsElement (λ xs i. name_value name (inside parameter (stands_for r xs i) vars)))
unfolding name_value
named_parameter name parameter r vars found h is =
    same_found (λ xs i. parameter_value (stands_for r xs i)) (λ xs i. name_value name (inside parameter (stands_for r xs i) vars)) found
    (λ xs i. yes_of (bytes_eq name parameter) (parameter_value (stands_for r xs i)) (scalar_only (value_named name vars)) h) is

pub named_variable : (name parameter : List ℕ) (r : Role) (vars : List Var) (value : Value) (found : Option Typed) → false ≡ bytes_eq name parameter → value_named name vars ≡ Some value
    → IfSome found (IsElement (λ xs i. given (as_word value) (λ w. Gives (Word w.0 w.1)))) → IfSome found (IsElement (λ xs i. name_value name (inside parameter (stands_for r xs i) vars)))
unfolding name_value
named_variable name parameter r vars value found h e is =
    same_found (λ xs i. given (as_word value) (λ w. Gives (Word w.0 w.1))) (λ xs i. name_value name (inside parameter (stands_for r xs i) vars)) found
    (λ xs i. no_of (bytes_eq name parameter) (parameter_value (stands_for r xs i)) (scalar_only (value_named name vars)) h ∙ ap scalar_only e) is

near_is : (x d : Tree) (parameter : List ℕ) (vars : List Var) (by : ℤ) (xs : List ℤ) (i : ℕ) → true ≡ is_variable parameter x → distance d ≡ Some by
    → near_value x d (inside parameter (Around xs i) vars) ≡ Gives (Word Number (cell_at xs (pos i +ℤ by)))
unfolding near_value
near_is x d parameter vars by xs i h e = yes_of (is_variable parameter x) (element_near (Around xs i) (distance d)) Refuses h ∙ ap (element_near (Around xs i)) e

pub is_near : (x d : Tree) (parameter : List ℕ) (r : Role) (vars : List Var) (by : ℤ) (elem : Elem) → true ≡ is_variable parameter x → r ≡ role.Around → distance d ≡ Some by → elem ≡ Near 0 by
    → IsElement (λ xs i. near_value x d (inside parameter (stands_for r xs i) vars)) (typed Number elem)
is_near x d parameter r vars by elem h around e is = record {
  gives = λ xs i. ap (λ s. near_value x d (inside parameter (stands_for s xs i) vars)) around ∙ near_is x d parameter vars by xs i h e
      ∙ sym (ap (λ (m : Elem). worded Number (element_of (sight_in (xs ∷ [])) m i)) is ∙ ap (λ a. worded Number (told a)) (value_Near (sight_in (xs ∷ []) i []) 0 by));
}

-- ---- operations

word_of_kind : (k l : Kind) (x : ℤ) → true ≡ is_kind k l → as_word_of k (Word l x) ≡ Some x
word_of_kind k l x h = yes_of (is_kind k l) (Some x) None h

worded_calc : (at : Place) (op : CalcOp) (k r ka kb : Kind) (a b : Result ℤ Trap) → true ≡ is_kind k ka → true ≡ is_kind k kb
    → also (worded ka (told a)) (λ v. also (worded kb (told b)) (calculated_words at op k r v)) ≡ worded r (told (calc_of_parts op at a b))
unfolding calc_of_parts
worded_calc at op k r ka kb (Err t) b h g = refl
worded_calc at op k r ka kb (Ok x) (Err t) h g = refl
worded_calc at op k r ka kb (Ok x) (Ok y) h g =
    both_words at op k r (Word ka x) (Word kb y) x y (word_of_kind k ka x h) (word_of_kind k kb y g) ∙ ap (worded r) (sym (told_at at (calculated op x y)))

pub is_calculation : (at : Place) (op : CalcOp) (k r : Kind) (f g : Rule) (a b : Typed) (elem : Elem) → true ≡ is_kind k a.kind → true ≡ is_kind k b.kind → elem ≡ Calc op at a.elem b.elem → IsElement f a → IsElement g b
    → IsElement (λ xs i. also (f xs i) (λ v. also (g xs i) (calculated_words at op k r v))) (typed r elem)
is_calculation at op k r f g a b elem h j is p q = record {
  gives = λ xs i. let sight = sight_in (xs ∷ []) i [] in
      ap (λ v. also v (λ v. also (g xs i) (calculated_words at op k r v))) (p.gives xs i)
      ∙ ap (λ w. also (worded a.kind (told (elem_value sight a.elem))) (λ v. also w (calculated_words at op k r v))) (q.gives xs i)
      ∙ worded_calc at op k r a.kind b.kind (elem_value sight a.elem) (elem_value sight b.elem) h j
      ∙ sym (ap (λ (m : Elem). worded r (told (elem_value sight m))) is ∙ ap (λ s. worded r (told s)) (value_Calc sight op at a.elem b.elem));
}

opposite_value : (at : Place) (op : UnOp) (k : Kind) (a : Result ℤ Trap) → true ≡ is_kind (unary_kind op) k → also (worded k (told a)) (unary_value op false) ≡ worded (unary_kind op) (told (calc_of_parts (unary_calc op) at a (Ok (pos 0))))
unfolding unary_value calc_of_parts
opposite_value at op k (Err t) h = refl
opposite_value at unary_op.Neg Number (Ok x) h = refl
opposite_value at unary_op.Neg Truth (Ok x) h = absurd (cc)
opposite_value at unary_op.Not Number (Ok x) h = absurd (cc)
opposite_value at unary_op.Not Truth (Ok x) h = refl

pub is_opposite : (at : Place) (op : UnOp) (dotted : Bool) (f : Rule) (a : Typed) (elem : Elem) → dotted ≡ false → true ≡ is_kind (unary_kind op) a.kind → elem ≡ Calc (unary_calc op) at a.elem (NumberElem (pos 0)) → IsElement f a
    → IsElement (λ xs i. also (f xs i) (unary_value op dotted)) (typed (unary_kind op) elem)
is_opposite at op dotted f a elem plain h is p = record {
  gives = λ xs i. let sight = sight_in (xs ∷ []) i [] in
      ap (λ d. also (f xs i) (unary_value op d)) plain ∙ ap (λ v. also v (unary_value op false)) (p.gives xs i) ∙ opposite_value at op a.kind (elem_value sight a.elem) h
      ∙ sym (ap (λ (m : Elem). worded (unary_kind op) (told (elem_value sight m))) is ∙ ap (λ s. worded (unary_kind op) (told s)) (value_Calc sight (unary_calc op) at a.elem (NumberElem (pos 0)) ∙ ap (calc_of_parts (unary_calc op) at (elem_value sight a.elem)) (value_Number sight (pos 0))));
}

-- ---- guards

is_truth : (k : Kind) → true ≡ is_kind Truth k → Truth ≡ k
is_truth Truth h = refl
is_truth Number h = absurd (cc)

or_chosen : (b : Bool) (second : Result ℤ Trap) → (if b then Gives (Word Truth (truth true)) else also (worded Truth (told second)) (λ w. one_truth w (λ y. Gives (Word Truth y)))) ≡ worded Truth (told (if b then Ok (pos 1) else second))
or_chosen true second = refl
or_chosen false (Ok y) = refl
or_chosen false (Err t) = refl

and_chosen : (b : Bool) (second : Result ℤ Trap) → (if not b then Gives (Word Truth (truth false)) else also (worded Truth (told second)) (λ w. one_truth w (λ y. Gives (Word Truth y)))) ≡ worded Truth (told (if b then second else Ok (pos 0)))
and_chosen true (Ok y) = refl
and_chosen true (Err t) = refl
and_chosen false second = refl

or_is : (a b : Result ℤ Trap) → lazy_value binary_op.Or (worded Truth (told a)) (worded Truth (told b)) ≡ worded Truth (told (either_of a b))
unfolding lazy_value either_of
or_is (Err t) b = refl
or_is (Ok x) b = or_chosen (is_true x) b

and_is : (a b : Result ℤ Trap) → lazy_value binary_op.And (worded Truth (told a)) (worded Truth (told b)) ≡ worded Truth (told (both_of a b))
unfolding lazy_value both_of
and_is (Err t) b = refl
and_is (Ok x) b = and_chosen (is_true x) b

guard_is : (op : BinOp) (sight : Seen) (a b elem : Elem) → IsGuard op a b elem → lazy_value op (worded Truth (told (elem_value sight a))) (worded Truth (told (elem_value sight b))) ≡ worded Truth (told (elem_value sight elem))
guard_is binary_op.Or sight a b elem is = or_is (elem_value sight a) (elem_value sight b) ∙ sym (ap (λ (m : Elem). worded Truth (told (elem_value sight m))) is ∙ ap (λ s. worded Truth (told s)) (value_Either sight a b))
guard_is binary_op.And sight a b elem is = and_is (elem_value sight a) (elem_value sight b) ∙ sym (ap (λ (m : Elem). worded Truth (told (elem_value sight m))) is ∙ ap (λ s. worded Truth (told s)) (value_Both sight a b))
guard_is _ sight a b elem is = absurd is

pub is_guard : (op : BinOp) (f g : Rule) (a b : Typed) (elem : Elem) → true ≡ is_kind Truth a.kind → true ≡ is_kind Truth b.kind → IsGuard op a.elem b.elem elem → IsElement f a → IsElement g b
    → IsElement (λ xs i. lazy_value op (f xs i) (g xs i)) (typed Truth elem)
is_guard op f g a b elem h j is p q = record {
  gives = λ xs i. let sight = sight_in (xs ∷ []) i [] in
      ap (λ v. lazy_value op v (g xs i)) (p.gives xs i ∙ ap (λ k. worded k (told (elem_value sight a.elem))) (sym (is_truth a.kind h)))
      ∙ ap (lazy_value op (worded Truth (told (elem_value sight a.elem)))) (q.gives xs i ∙ ap (λ k. worded k (told (elem_value sight b.elem))) (sym (is_truth b.kind j)))
      ∙ guard_is op sight a.elem b.elem elem is;
}

-- ---- operators

pub lazily : (at : Place) (op : BinOp) (f g : Rule) (r : Result (Option Typed) NoMemory) → true ≡ is_lazy op → IfOk r (λ o. IfSome o (IsElement (λ xs i. lazy_value op (f xs i) (g xs i))))
    → IfOk r (λ o. IfSome o (IsElement (λ xs i. operator_value at op false (f xs i) (g xs i))))
unfolding operator_value
lazily at op f g r h is =
    same_made (λ xs i. lazy_value op (f xs i) (g xs i)) (λ xs i. operator_value at op false (f xs i) (g xs i)) r (λ xs i. yes_of (is_lazy op) (lazy_value op (f xs i) (g xs i)) (strict_value at op (f xs i) (g xs i)) h) is

strict_is : (at : Place) (op : BinOp) (a b : Answer Value) → false ≡ is_lazy op → operator_value at op false a b ≡ also a (λ v. also b (calculated_words at (calc_of op) (operands_of op) (result_of op) v))
unfolding operator_value strict_value
strict_is at op a b h = no_of (is_lazy op) (lazy_value op a b) (strict_value at op a b) h ∙ (λ j. also a (λ v. also b (λ w. plain_is at op v w h j)))

pub strictly : (at : Place) (op : BinOp) (f g : Rule) (r : Result (Option Typed) NoMemory) → false ≡ is_lazy op → IfOk r (λ o. IfSome o (IsElement (λ xs i. also (f xs i) (λ v. also (g xs i) (calculated_words at (calc_of op) (operands_of op) (result_of op) v)))))
    → IfOk r (λ o. IfSome o (IsElement (λ xs i. operator_value at op false (f xs i) (g xs i))))
strictly at op f g r h is =
    same_made (λ xs i. also (f xs i) (λ v. also (g xs i) (calculated_words at (calc_of op) (operands_of op) (result_of op) v))) (λ xs i. operator_value at op false (f xs i) (g xs i)) r (λ xs i. strict_is at op (f xs i) (g xs i) h) is

-- ---- what loops of them make

word_back : (kind : Kind) (r : Result ℤ Trap) → also (worded kind (told r)) word_in ≡ told r
word_back kind (Ok x) = refl
word_back kind (Err t) = refl

pub mapped_element : (f : Rule) (made : Typed) (xs : List ℤ) → IsElement f made → (i : ℕ) → i < length xs → also (f xs i) word_in ≡ element_of (sight_in (xs ∷ [])) made.elem i
mapped_element f made xs is i lt = ap (λ a. also a word_in) (is.gives xs i) ∙ word_back made.kind (elem_value (sight_in (xs ∷ []) i []) made.elem)

number_back : (kind : Kind) (r : Result ℤ Trap) → true ≡ is_kind Number kind → also (worded kind (told r)) number_in ≡ told r
number_back Number (Ok x) h = refl
number_back Number (Err t) h = refl
number_back Truth r h = absurd (cc)

pub stencil_element : (f : Rule) (made : Typed) (xs : List ℤ) → true ≡ is_kind Number made.kind → IsElement f made → (i : ℕ) → i < length xs → also (f xs i) number_in ≡ element_of (sight_in (xs ∷ [])) made.elem i
stencil_element f made xs h is i lt = ap (λ a. also a number_in) (is.gives xs i) ∙ number_back made.kind (elem_value (sight_in (xs ∷ []) i []) made.elem) h

-- ---- forms of bodies

abbrev body : Tree → Binding → Rule
body tree b xs i = scalar tree (inside_at b xs i)

-- what an element that was found is
pub found_is : (f : Rule) (o : Option Typed) (made : Typed) → o ≡ Some made → IfSome o (IsElement f) → IsElement f made
found_is f o made e is = subst (λ (found : Option Typed). IfSome found (IsElement f)) e is

-- the element of a part, which is read behind its box
pub part_is : (x y : Expr) (b : Binding) (o : Option Typed) (made : Typed) → y ≡ x → o ≡ Some made → IfSome o (IsElement (λ xs i. scalar (tree_of y) (inside_at b xs i)))
    → IsElement (λ xs i. scalar (tree_of x) (inside_at b xs i)) made
part_is x y b o made same e is = subst (λ (z : Expr). IsElement (body (tree_of z) b) made) same (found_is (body (tree_of y) b) o made e is)

number_is : (x : Expr) (z : ℤ) (i : Inside) → x.form ≡ forms.Number z → scalar (tree_of x) i ≡ Gives (Word Number z)
unfolding scalar tree_of form_of
number_is x z i is = ap (λ f. scalar (form_of (head x.id.0 x.at) f) i) is

pub literal_element : (x : Expr) (z : ℤ) (b : Binding) (made : Typed) → x.form ≡ forms.Number z → IsElement (λ xs i. Gives (Word Number z)) made → IsElement (λ xs i. scalar (tree_of x) (inside_at b xs i)) made
literal_element x z b made is of = same_element (λ xs i. Gives (Word Number z)) (body (tree_of x) b) made (λ xs i. number_is x z (inside_at b xs i) is) of

truth_is : (x : Expr) (holds : Bool) (w : ℤ) (i : Inside) → x.form ≡ forms.Truth holds → w ≡ truth holds → scalar (tree_of x) i ≡ Gives (Word Truth w)
unfolding scalar tree_of form_of
truth_is x holds w i is same = ap (λ f. scalar (form_of (head x.id.0 x.at) f) i) is ∙ ap (λ z. Gives (Word Truth z)) (sym same)

pub truth_element : (x : Expr) (holds : Bool) (w : ℤ) (b : Binding) (made : Typed) → x.form ≡ forms.Truth holds → w ≡ truth holds → IsElement (λ xs i. Gives (Word Truth w)) made
    → IsElement (λ xs i. scalar (tree_of x) (inside_at b xs i)) made
truth_element x holds w b made is same of = same_element (λ xs i. Gives (Word Truth w)) (body (tree_of x) b) made (λ xs i. truth_is x holds w (inside_at b xs i) is same) of

name_is : (x : Expr) (name : Name) (i : Inside) → x.form ≡ forms.Name name → scalar (tree_of x) i ≡ name_value name.bytes i
unfolding scalar tree_of form_of
name_is x name i is = ap (λ f. scalar (form_of (head x.id.0 x.at) f) i) is

pub variable_element : (x : Expr) (name : Name) (b : Binding) (found : Option Typed) → x.form ≡ forms.Name name → IfSome found (IsElement (λ xs i. name_value name.bytes (inside_at b xs i)))
    → IfSome found (IsElement (λ xs i. scalar (tree_of x) (inside_at b xs i)))
variable_element x name b found is made = same_found (λ xs i. name_value name.bytes (inside_at b xs i)) (body (tree_of x) b) found (λ xs i. name_is x name (inside_at b xs i) is) made

argument_is : (a : Arg) (x : Expr) (i : Inside) → a ≡ Plain x → argument_value (args_of (a ∷ [])) i ≡ scalar (tree_of x) i
unfolding argument_value scalars args_of arg_of tree_of
argument_is a x i is = rw is refl

pub argument_element : (a : Arg) (x : Expr) (b : Binding) (r : Result (Option Typed) NoMemory) → a ≡ Plain x → IfOk r (λ o. IfSome o (IsElement (λ xs i. scalar (tree_of x) (inside_at b xs i))))
    → IfOk r (λ o. IfSome o (IsElement (λ xs i. argument_value (args_of (a ∷ [])) (inside_at b xs i))))
argument_element a x b r is made = same_made (body (tree_of x) b) (λ xs i. argument_value (args_of (a ∷ [])) (inside_at b xs i)) r (λ xs i. argument_is a x (inside_at b xs i) is) made

pub unary_element : (x a : Expr) (op : UnOp) (dotted : Bool) (b : Binding) (r : Result (Option Typed) NoMemory) → x.form ≡ Unary op dotted a
    → IfOk r (λ o. IfSome o (IsElement (λ xs i. also (scalar (tree_of a) (inside_at b xs i)) (unary_value op dotted)))) → IfOk r (λ o. IfSome o (IsElement (λ xs i. scalar (tree_of x) (inside_at b xs i))))
unary_element x a op dotted b r is made = same_made (λ xs i. also (scalar (tree_of a) (inside_at b xs i)) (unary_value op dotted)) (body (tree_of x) b) r (λ xs i. unary_is x a op dotted (inside_at b xs i) is) made

pub binary_element : (x l r : Expr) (op : BinOp) (dotted : Bool) (b : Binding) (found : Result (Option Typed) NoMemory) → x.form ≡ Binary op dotted l r → dotted ≡ false
    → IfOk found (λ o. IfSome o (IsElement (λ xs i. operator_value x.at op false (scalar (tree_of l) (inside_at b xs i)) (scalar (tree_of r) (inside_at b xs i))))) → IfOk found (λ o. IfSome o (IsElement (λ xs i. scalar (tree_of x) (inside_at b xs i))))
binary_element x l r op dotted b found is plain made =
    same_made (λ xs i. operator_value x.at op false (scalar (tree_of l) (inside_at b xs i)) (scalar (tree_of r) (inside_at b xs i))) (body (tree_of x) b) found (λ xs i. binary_is x l r op dotted (inside_at b xs i) is plain) made

index_is : (x a d : Expr) (i : Inside) → x.form ≡ Index a d → scalar (tree_of x) i ≡ near_value (tree_of a) (tree_of d) i
unfolding scalar
index_is x a d i is = ap (λ t. scalar t i) (tree_index x a d is)

pub index_element : (x a d y z : Expr) (b : Binding) (found : Option Typed) → x.form ≡ Index a d → y ≡ a → z ≡ d → IfSome found (IsElement (λ xs i. near_value (tree_of y) (tree_of z) (inside_at b xs i)))
    → IfSome found (IsElement (λ xs i. scalar (tree_of x) (inside_at b xs i)))
index_element x a d y z b found is array distance made =
    same_found (λ xs i. near_value (tree_of y) (tree_of z) (inside_at b xs i)) (body (tree_of x) b) found
    (λ xs i. index_is x a d (inside_at b xs i) is ∙ ap (λ (e : Expr). near_value (tree_of e) (tree_of d) (inside_at b xs i)) (sym array) ∙ ap (λ (e : Expr). near_value (tree_of y) (tree_of e) (inside_at b xs i)) (sym distance)) made

call_form : (x : Expr) (name : Name) (dotted : Bool) (args : List Arg) (i : Inside) → x.form ≡ Call name dotted args → scalar (tree_of x) i ≡ call_value (function_named dotted name.bytes) dotted x.at (scalars (args_of args) i)
unfolding scalar
call_form x name dotted args i is = ap (λ t. scalar t i) (tree_call x name dotted args is)

pub call_element : (x : Expr) (name : Name) (dotted : Bool) (args held : List Arg) (function : Option Function) (b : Binding) (r : Result (Option Typed) NoMemory) → x.form ≡ Call name dotted args → function ≡ function_named dotted name.bytes → held ≡ args
    → IfOk r (λ o. IfSome o (IsElement (λ xs i. call_value function dotted x.at (scalars (args_of held) (inside_at b xs i))))) → IfOk r (λ o. IfSome o (IsElement (λ xs i. scalar (tree_of x) (inside_at b xs i))))
call_element x name dotted args held function b r is named same made =
    same_made (λ xs i. call_value function dotted x.at (scalars (args_of held) (inside_at b xs i))) (body (tree_of x) b) r
    (λ xs i. call_form x name dotted args (inside_at b xs i) is ∙ ap (λ (o : Option Function). call_value o dotted x.at (scalars (args_of args) (inside_at b xs i))) (sym named)
    ∙ ap (λ (l : List Arg). call_value function dotted x.at (scalars (args_of l) (inside_at b xs i))) (sym same)) made

-- a call of a function of two numbers is their operation
pub operation_element : (function : Option Function) (g : Function) (f : ScalarFunction) (dotted : Bool) (at : Place) (args : List Arg) (x y : Arg) (b : Binding) (r : Result (Option Typed) NoMemory)
    → function ≡ Some g → g ≡ functions.Scalar f → dotted ≡ false → length args ≡ 2 → x ≡ get_or args 0 x → y ≡ get_or args 1 y
    → IfOk r (λ o. IfSome o (IsElement (λ xs i. also (argument_value (args_of (x ∷ [])) (inside_at b xs i)) (λ v. also (argument_value (args_of (y ∷ [])) (inside_at b xs i)) (calculated_words at (scalar_calc f) Number Number v)))))
    → IfOk r (λ o. IfSome o (IsElement (λ xs i. call_value function dotted at (scalars (args_of args) (inside_at b xs i)))))
unfolding scalar_value
operation_element function g f dotted at args x y b r is scalar_is plain two_of first second made =
    same_made (λ xs i. also (argument_value (args_of (x ∷ [])) (inside_at b xs i)) (λ v. also (argument_value (args_of (y ∷ [])) (inside_at b xs i)) (calculated_words at (scalar_calc f) Number Number v)))
    (λ xs i. call_value function dotted at (scalars (args_of args) (inside_at b xs i))) r
    (λ xs i. call_is function g f dotted at args x y (inside_at b xs i) is scalar_is plain two_of first second) made
