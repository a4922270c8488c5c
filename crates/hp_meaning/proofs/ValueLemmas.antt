-- What expressions mean, step by step.
use Rattle.std.proofs.Common.{◌≡◌, ℕ, ℤ, Bool, true, false, if◌then◌else◌, List, Option, Some, None, Result, Ok, Err, refl, ap, sym, ◌∙◌, subst, Bor, FitsSigned, w64, to_z, of_z}
use Rattle.std.proofs.lemmas.Int.{to_z-of_z}
use Rattle.std.specs.Option.{option_map}
use Rattle.hp_word.specs.declared.name.Name.{Name}
use Rattle.hp_word.specs.declared.place.Place.{Place}
use Rattle.hp_word.specs.Words.{truth}
use Rattle.hp_script.specs.declared.function.Function.{Function}
use Rattle.hp_script.specs.declared.function.Function.TheVariants as functions
use Rattle.hp_script.specs.declared.tree.Arg.{Arg}
use Rattle.hp_script.specs.declared.tree.Arg.TheViews.{Unary, Binary, Index, Call}
use Rattle.hp_script.specs.declared.tree.BinOp.{BinOp}
use Rattle.hp_script.specs.declared.tree.UnOp.{UnOp}
use Rattle.hp_script.specs.declared.tree.Expr.{Expr}
use Rattle.hp_script.specs.declared.tree.Form.TheVariants as forms
use Rattle.hp_script.specs.Functions.{function_named}
use Rattle.hp_script.specs.Mirror.{Tree, Args, head, number, truth as truth_tree, text, variable, column, field, unary, binary, index, call, none, plain, range, lambda, named, tree_of, form_of, args_of}
use Rattle.hp_meaning.specs.declared.seen.Seen.{Seen}
use Rattle.hp_meaning.specs.declared.seen.Stop.{Stop}
use Rattle.hp_meaning.specs.declared.seen.Stop.TheVariants as stop
use Rattle.hp_meaning.specs.declared.value.Kind.TheVariants.{Number, Truth}
use Rattle.hp_meaning.specs.declared.value.Value.{Value}
use Rattle.hp_meaning.specs.declared.value.Value.TheVariants.{Word}
use Rattle.hp_meaning.specs.ArgumentShapes.{one_plain, is_transpose, transposed_operand, flipped_operand}
use Rattle.hp_meaning.specs.FrameRules.{field_value}
use Rattle.hp_meaning.specs.ListRules.{indexed}
use Rattle.hp_meaning.specs.MatrixRules.{flipped_value}
use Rattle.hp_meaning.specs.Operands.{as_truth}
use Rattle.hp_meaning.specs.Outcomes.{Answer, Gives, given, tick, Outcome, Is, Wrong, followed, ended, Tells, ComesTo}
use Rattle.hp_meaning.specs.Scopes.{Scope, value_named}
use Rattle.hp_meaning.specs.ValueOf.{Supply, Meaning, value, parts, flipped, transposed_part, operator_value, binary_value, operated, strict_operands, lazy_operands, lazily, second_side, flipped_operands, index_operands, column_value, called, is_product}
use Rattle.hp_meaning.specs.WordRules.{is_lazy, decides, unary_value, decision}
use Rattle.hp_meaning.proofs.OutcomeLemmas.{comes_as, comes_wrong, first_stops, first_goes, none_stops, some_goes, answer_comes}
use Rattle.hp_meaning.proofs.TreeSizes.{tree_unary, tree_binary, tree_index, tree_call}

-- ---- two operands, one after the other

-- what is made of two expressions
unfoldable pub both : Meaning → Meaning → (Value → Value → Answer Value) → Meaning
both first second rule s n = followed (first s n) (λ a n. followed (second s n) (λ b. ended (rule a b)))

pub both_first : (f k : Meaning) (rule : Value → Value → Answer Value) (s : Scope) (n m : Seen) (e : Stop) → ComesTo (f s n) (Err e) m → ComesTo (both f k rule s n) (Err e) m
unfolding both
both_first f k rule s n m e h = first_stops (f s n) (λ a n. followed (k s n) (λ b. ended (rule a b))) e m h

pub both_second : (f k : Meaning) (rule : Value → Value → Answer Value) (s : Scope) (n m l : Seen) (a : Value) (e : Stop) → f s n ≡ Is a m → ComesTo (k s m) (Err e) l → ComesTo (both f k rule s n) (Err e) l
unfolding both
both_second f k rule s n m l a e g h =
    first_goes (f s n) (λ a n. followed (k s n) (λ b. ended (rule a b))) a m l (Err e) g
    (first_stops (k s m) (λ b. ended (rule a b)) e l h)

pub both_made : (f k : Meaning) (rule : Value → Value → Answer Value) (s : Scope) (n m l : Seen) (a b x y : Value) (r : Result Value Stop)
    → f s n ≡ Is a m → k s m ≡ Is b l → x ≡ a → y ≡ b → Tells (rule x y) r → ComesTo (both f k rule s n) r l
unfolding both
both_made f k rule s n m l a b x y r g h p q t =
    first_goes (f s n) (λ a n. followed (k s n) (λ b. ended (rule a b))) a m l r g
    (first_goes (k s m) (λ b. ended (rule a b)) b l l r h
    (answer_comes (rule a b) r l (subst (λ (v : Value). Tells (rule v b) r) p (subst (λ (v : Value). Tells (rule x v) r) q t))))

pub flipped_is : (at : Place) (f k : Meaning) (s : Scope) (n : Seen) → flipped_operands at f k s n ≡ both f k (flipped_value at) s n
unfolding flipped_operands both
flipped_is at f k s n = refl

pub index_is : (at : Place) (f k : Meaning) (s : Scope) (n : Seen) → index_operands at f k s n ≡ both f k (indexed at) s n
unfolding index_operands both
index_is at f k s n = refl

pub strict_is : (at : Place) (op : BinOp) (dotted : Bool) (f k : Meaning) (s : Scope) (n : Seen) → strict_operands at op dotted f k s n ≡ both f k (operator_value at op dotted) s n
unfolding strict_operands both
strict_is at op dotted f k s n = refl

-- ---- an operator on two sides

transposed_is : (g : Supply) (o : Option Function) (xs : Args) → transposed_part o (parts g xs) ≡ option_map (value g) (if is_transpose o then one_plain xs else None)
unfolding one_plain parts value
transposed_is g None xs = refl
transposed_is g (Some functions.Transpose) none = refl
transposed_is g (Some functions.Transpose) (plain x none) = refl
transposed_is g (Some functions.Transpose) (plain x (plain y ys)) = refl
transposed_is g (Some functions.Transpose) (plain x (range y z ys)) = refl
transposed_is g (Some functions.Transpose) (plain x (lambda parameter y ys)) = refl
transposed_is g (Some functions.Transpose) (plain x (named name at y ys)) = refl
transposed_is g (Some functions.Transpose) (range x y xs) = refl
transposed_is g (Some functions.Transpose) (lambda parameter x xs) = refl
transposed_is g (Some functions.Transpose) (named name at x xs) = refl
transposed_is g (Some _) xs = refl

operand_is : (g : Supply) (t : Tree) → flipped g t ≡ option_map (value g) (transposed_operand t)
unfolding flipped value parts transposed_operand
operand_is g (number h z) = refl
operand_is g (truth_tree h holds) = refl
operand_is g (text h bytes) = refl
operand_is g (variable h name) = refl
operand_is g (column h name) = refl
operand_is g (field h name of_it) = refl
operand_is g (unary h op dotted x) = refl
operand_is g (binary h op dotted x y) = refl
operand_is g (index h x i) = refl
operand_is g (call h function dotted xs) = transposed_is g (function_named dotted function) xs

chosen : (g : Supply) (b : Bool) (y : Tree) → (if b then flipped g y else None) ≡ option_map (value g) (if b then transposed_operand y else None)
chosen g true y = operand_is g y
chosen g false y = refl

pub sides_are : (g : Supply) (at : Place) (op : BinOp) (dotted : Bool) (x y : Tree) (s : Scope) (n : Seen)
    → binary_value g at op dotted x y s n ≡ operated at op dotted (value g x) (value g y) (option_map (value g) (flipped_operand op dotted y)) s n
unfolding binary_value flipped_operand
sides_are g at op dotted x y s n = ap (λ (o : Option Meaning). operated at op dotted (value g x) (value g y) o s n) (chosen g (is_product op dotted) y)

pub sides_flipped : (g : Supply) (at : Place) (op : BinOp) (dotted : Bool) (x y z : Tree) (s : Scope) (n m : Seen) (r : Result Value Stop)
    → Some z ≡ flipped_operand op dotted y → ComesTo (flipped_operands at (value g x) (value g z) s n) r m → ComesTo (binary_value g at op dotted x y s n) r m
unfolding operated
sides_flipped g at op dotted x y z s n m r e h =
    comes_as (binary_value g at op dotted x y s n) (flipped_operands at (value g x) (value g z) s n) r m
    (sides_are g at op dotted x y s n ∙ ap (λ (o : Option Tree). operated at op dotted (value g x) (value g y) (option_map (value g) o) s n) (sym e)) h

-- the code has found no operand
pub none_for : (o : Option (Bor Expr)) (p : Option Tree) → option_map (λ y. tree_of y.now) o ≡ p → ((x : Bor Expr) → o ≡ Some x → ⊥) → None ≡ p
none_for None p e h = e
none_for (Some x) p e h = absurd (h x refl)

unflipped : (g : Supply) (at : Place) (op : BinOp) (dotted : Bool) (x y : Tree) (s : Scope) (n : Seen) → None ≡ flipped_operand op dotted y
    → binary_value g at op dotted x y s n ≡ (if is_lazy op then (if dotted then Wrong else lazy_operands op (value g x) (value g y) s n) else strict_operands at op dotted (value g x) (value g y) s n)
unfolding operated
unflipped g at op dotted x y s n e =
    sides_are g at op dotted x y s n ∙ ap (λ (o : Option Tree). operated at op dotted (value g x) (value g y) (option_map (value g) o) s n) (sym e)

lazy_dotted : (l d : Bool) (a b : Outcome Value) → l ≡ true → d ≡ true → (if l then (if d then Wrong else a) else b) ≡ Wrong
lazy_dotted l d a b e h = ap (λ (l : Bool). if l then (if d then Wrong else a) else b) e ∙ ap (λ (d : Bool). if d then Wrong else a) h

lazy_plain : (l d : Bool) (a b : Outcome Value) → l ≡ true → d ≡ false → (if l then (if d then Wrong else a) else b) ≡ a
lazy_plain l d a b e h = ap (λ (l : Bool). if l then (if d then Wrong else a) else b) e ∙ ap (λ (d : Bool). if d then Wrong else a) h

strict : (l d : Bool) (a b : Outcome Value) → l ≡ false → (if l then (if d then Wrong else a) else b) ≡ b
strict l d a b e = ap (λ (l : Bool). if l then (if d then Wrong else a) else b) e

pub sides_dotted : (g : Supply) (at : Place) (op : BinOp) (dotted : Bool) (x y : Tree) (s : Scope) (n : Seen)
    → None ≡ flipped_operand op dotted y → is_lazy op ≡ true → dotted ≡ true → ComesTo (binary_value g at op dotted x y s n) (Err stop.Wrong) n
sides_dotted g at op dotted x y s n e l d =
    comes_wrong (binary_value g at op dotted x y s n) stop.Wrong n refl
    (unflipped g at op dotted x y s n e
    ∙ lazy_dotted (is_lazy op) dotted (lazy_operands op (value g x) (value g y) s n) (strict_operands at op dotted (value g x) (value g y) s n) l d)

pub sides_lazy : (g : Supply) (at : Place) (op : BinOp) (dotted : Bool) (x y : Tree) (s : Scope) (n m : Seen) (r : Result Value Stop)
    → None ≡ flipped_operand op dotted y → is_lazy op ≡ true → dotted ≡ false → ComesTo (lazy_operands op (value g x) (value g y) s n) r m → ComesTo (binary_value g at op dotted x y s n) r m
sides_lazy g at op dotted x y s n m r e l d h =
    comes_as (binary_value g at op dotted x y s n) (lazy_operands op (value g x) (value g y) s n) r m
    (unflipped g at op dotted x y s n e
    ∙ lazy_plain (is_lazy op) dotted (lazy_operands op (value g x) (value g y) s n) (strict_operands at op dotted (value g x) (value g y) s n) l d) h

pub sides_strict : (g : Supply) (at : Place) (op : BinOp) (dotted : Bool) (x y : Tree) (s : Scope) (n m : Seen) (r : Result Value Stop)
    → None ≡ flipped_operand op dotted y → is_lazy op ≡ false → ComesTo (strict_operands at op dotted (value g x) (value g y) s n) r m → ComesTo (binary_value g at op dotted x y s n) r m
sides_strict g at op dotted x y s n m r e l h =
    comes_as (binary_value g at op dotted x y s n) (strict_operands at op dotted (value g x) (value g y) s n) r m
    (unflipped g at op dotted x y s n e
    ∙ strict (is_lazy op) dotted (lazy_operands op (value g x) (value g y) s n) (strict_operands at op dotted (value g x) (value g y) s n) l) h

-- ---- `&&` and `||`

pub lazy_first : (op : BinOp) (f k : Meaning) (s : Scope) (n m : Seen) (e : Stop) → ComesTo (f s n) (Err e) m → ComesTo (lazy_operands op f k s n) (Err e) m
unfolding lazy_operands
lazy_first op f k s n m e h = first_stops (f s n) (λ a. lazily op a k s) e m h

behind_first : (op : BinOp) (f k : Meaning) (s : Scope) (n m l : Seen) (a : Value) (r : Result Value Stop) → f s n ≡ Is a m → ComesTo (lazily op a k s m) r l → ComesTo (lazy_operands op f k s n) r l
unfolding lazy_operands
behind_first op f k s n m l a r g h = first_goes (f s n) (λ a. lazily op a k s) a m l r g h

pub lazy_word : (op : BinOp) (f k : Meaning) (s : Scope) (n m : Seen) (a x : Value) (e : Stop)
    → f s n ≡ Is a m → x ≡ a → (e ≡ stop.Wrong) × (as_truth x ≡ None) → ComesTo (lazy_operands op f k s n) (Err e) m
unfolding lazily
lazy_word op f k s n m a x e g p h =
    behind_first op f k s n m m a (Err e) g
    (none_stops (as_truth a) (λ z. if decides op z then Is (Word Truth (decision op)) m else followed (k s m) second_side) e m (h.0, sym (ap as_truth p) ∙ h.1))

pub lazy_decided : (op : BinOp) (f k : Meaning) (s : Scope) (n m : Seen) (a x : Value) (z w : ℤ)
    → f s n ≡ Is a m → x ≡ a → as_truth x ≡ Some z → decides op z ≡ true → w ≡ decision op → lazy_operands op f k s n ≡ Is (Word Truth w) m
unfolding lazily
lazy_decided op f k s n m a x z w g p h d e =
    behind_first op f k s n m m a (Ok (Word Truth w)) g
    (some_goes (as_truth a) (λ z. if decides op z then Is (Word Truth (decision op)) m else followed (k s m) second_side) z m (Ok (Word Truth w)) (sym (ap as_truth p) ∙ h)
    (ap (λ (b : Bool). if b then Is (Word Truth (decision op)) m else followed (k s m) second_side) d ∙ ap (λ (w : ℤ). Is (Word Truth w) m) (sym e)))

-- the second side, where the first does not decide
undecided : (op : BinOp) (f k : Meaning) (s : Scope) (n m l : Seen) (a x : Value) (z : ℤ) (r : Result Value Stop)
    → f s n ≡ Is a m → x ≡ a → as_truth x ≡ Some z → decides op z ≡ false → ComesTo (followed (k s m) second_side) r l → ComesTo (lazy_operands op f k s n) r l
unfolding lazily
undecided op f k s n m l a x z r g p h d c =
    behind_first op f k s n m l a r g
    (some_goes (as_truth a) (λ z. if decides op z then Is (Word Truth (decision op)) m else followed (k s m) second_side) z l r (sym (ap as_truth p) ∙ h)
    (comes_as (if decides op z then Is (Word Truth (decision op)) m else followed (k s m) second_side) (followed (k s m) second_side) r l
    (ap (λ (b : Bool). if b then Is (Word Truth (decision op)) m else followed (k s m) second_side) d) c))

pub lazy_second : (op : BinOp) (f k : Meaning) (s : Scope) (n m l : Seen) (a x : Value) (z : ℤ) (e : Stop)
    → f s n ≡ Is a m → x ≡ a → as_truth x ≡ Some z → decides op z ≡ false → ComesTo (k s m) (Err e) l → ComesTo (lazy_operands op f k s n) (Err e) l
lazy_second op f k s n m l a x z e g p h d c = undecided op f k s n m l a x z (Err e) g p h d (first_stops (k s m) second_side e l c)

pub lazy_other : (op : BinOp) (f k : Meaning) (s : Scope) (n m l : Seen) (a x b y : Value) (z : ℤ) (e : Stop)
    → f s n ≡ Is a m → x ≡ a → as_truth x ≡ Some z → decides op z ≡ false → k s m ≡ Is b l → y ≡ b → (e ≡ stop.Wrong) × (as_truth y ≡ None) → ComesTo (lazy_operands op f k s n) (Err e) l
lazy_other op f k s n m l a x b y z e g p h d c q w =
    undecided op f k s n m l a x z (Err e) g p h d
    (first_goes (k s m) second_side b l l (Err e) c (none_stops (as_truth b) (λ x. Is (Word Truth x) l) e l (w.0, sym (ap as_truth q) ∙ w.1)))

pub lazy_made : (op : BinOp) (f k : Meaning) (s : Scope) (n m l : Seen) (a x b y : Value) (z w : ℤ)
    → f s n ≡ Is a m → x ≡ a → as_truth x ≡ Some z → decides op z ≡ false → k s m ≡ Is b l → y ≡ b → as_truth y ≡ Some w → lazy_operands op f k s n ≡ Is (Word Truth w) l
lazy_made op f k s n m l a x b y z w g p h d c q t =
    undecided op f k s n m l a x z (Ok (Word Truth w)) g p h d
    (first_goes (k s m) second_side b l l (Ok (Word Truth w)) c (some_goes (as_truth b) (λ x. Is (Word Truth x) l) w l (Ok (Word Truth w)) (sym (ap as_truth q) ∙ t) refl))

-- what the code has decided, of a word that it read
pub decided : (op : BinOp) (z : ℤ) (b c : Bool) → FitsSigned w64 z → b ≡ decides op (to_z w64 (of_z w64 z)) → b ≡ c → decides op z ≡ c
decided op z b c f e h = sym (e ∙ ap (decides op) (to_z-of_z w64 z f)) ∙ h

-- ---- the forms of an expression

pub number_is : (g : Supply) (x : Expr) (z : ℤ) (s : Scope) (n m : Seen) → x.form ≡ forms.Number z → m ≡ tick n → value g (tree_of x) s n ≡ Is (Word Number z) m
unfolding value tree_of form_of
number_is g x z s n m e t = ap (λ f. value g (form_of (head x.id.0 x.at) f) s n) e ∙ ap (Is (Word Number z)) (sym t)

pub truth_is : (g : Supply) (x : Expr) (holds : Bool) (w : ℤ) (s : Scope) (n m : Seen) → x.form ≡ forms.Truth holds → w ≡ truth holds → m ≡ tick n → value g (tree_of x) s n ≡ Is (Word Truth w) m
unfolding value tree_of form_of
truth_is g x holds w s n m e h t =
    ap (λ f. value g (form_of (head x.id.0 x.at) f) s n) e ∙ ap (Is (Word Truth (truth holds))) (sym t) ∙ ap (λ (w : ℤ). Is (Word Truth w) m) (sym h)

pub text_is : (g : Supply) (x : Expr) (bytes : Name) (s : Scope) (n : Seen) → x.form ≡ forms.Text bytes → value g (tree_of x) s n ≡ Wrong
unfolding value tree_of form_of
text_is g x bytes s n e = ap (λ f. value g (form_of (head x.id.0 x.at) f) s n) e

pub name_is : (g : Supply) (x : Expr) (name : Name) (s : Scope) (n m : Seen) → x.form ≡ forms.Name name → m ≡ tick n
    → value g (tree_of x) s n ≡ ended (given (value_named name.bytes s.vars) Gives) m
unfolding value tree_of form_of
name_is g x name s n m e t = ap (λ f. value g (form_of (head x.id.0 x.at) f) s n) e ∙ ap (ended (given (value_named name.bytes s.vars) Gives)) (sym t)

pub column_is : (g : Supply) (x : Expr) (name : Name) (s : Scope) (n m : Seen) → x.form ≡ forms.Column name → m ≡ tick n
    → value g (tree_of x) s n ≡ ended (column_value name.bytes s.frame) m
unfolding value tree_of form_of
column_is g x name s n m e t = ap (λ f. value g (form_of (head x.id.0 x.at) f) s n) e ∙ ap (ended (column_value name.bytes s.frame)) (sym t)

pub field_is : (g : Supply) (x : Expr) (name of_it : Name) (s : Scope) (n m : Seen) → x.form ≡ forms.Field name of_it → m ≡ tick n
    → value g (tree_of x) s n ≡ ended (given (value_named name.bytes s.vars) (field_value of_it.bytes)) m
unfolding value tree_of form_of
field_is g x name of_it s n m e t = ap (λ f. value g (form_of (head x.id.0 x.at) f) s n) e ∙ ap (ended (given (value_named name.bytes s.vars) (field_value of_it.bytes))) (sym t)

pub unary_is : (g : Supply) (x : Expr) (op : UnOp) (dotted : Bool) (a b : Expr) (s : Scope) (n m : Seen) → x.form ≡ Unary op dotted a → b ≡ a → m ≡ tick n
    → value g (tree_of x) s n ≡ followed (value g (tree_of b) s m) (λ v. ended (unary_value op dotted v))
unfolding value
unary_is g x op dotted a b s n m e p t =
    ap (λ (y : Tree). value g y s n) (tree_unary x op dotted a e)
    ∙ ap (λ (k : Seen). followed (value g (tree_of a) s k) (λ v. ended (unary_value op dotted v))) (sym t)
    ∙ ap (λ (y : Expr). followed (value g (tree_of y) s m) (λ v. ended (unary_value op dotted v))) (sym p)

pub binary_is : (g : Supply) (x : Expr) (op : BinOp) (dotted : Bool) (a b c d : Expr) (s : Scope) (n m : Seen) → x.form ≡ Binary op dotted a b → c ≡ a → d ≡ b → m ≡ tick n
    → value g (tree_of x) s n ≡ binary_value g x.at op dotted (tree_of c) (tree_of d) s m
unfolding value binary_value
binary_is g x op dotted a b c d s n m e p q t =
    ap (λ (y : Tree). value g y s n) (tree_binary x op dotted a b e)
    ∙ ap (λ (k : Seen). binary_value g x.at op dotted (tree_of a) (tree_of b) s k) (sym t)
    ∙ ap (λ (y : Expr). binary_value g x.at op dotted (tree_of y) (tree_of b) s m) (sym p)
    ∙ ap (λ (y : Expr). binary_value g x.at op dotted (tree_of c) (tree_of y) s m) (sym q)

pub element_is : (g : Supply) (x a b c d : Expr) (s : Scope) (n m : Seen) → x.form ≡ Index a b → c ≡ a → d ≡ b → m ≡ tick n
    → value g (tree_of x) s n ≡ index_operands x.at (value g (tree_of c)) (value g (tree_of d)) s m
unfolding value
element_is g x a b c d s n m e p q t =
    ap (λ (y : Tree). value g y s n) (tree_index x a b e)
    ∙ ap (λ (k : Seen). index_operands x.at (value g (tree_of a)) (value g (tree_of b)) s k) (sym t)
    ∙ ap (λ (y : Expr). index_operands x.at (value g (tree_of y)) (value g (tree_of b)) s m) (sym p)
    ∙ ap (λ (y : Expr). index_operands x.at (value g (tree_of c)) (value g (tree_of y)) s m) (sym q)

pub call_is : (g : Supply) (x : Expr) (function : Name) (dotted : Bool) (args items : List Arg) (name : List ℕ) (o : Option Function) (s : Scope) (n m : Seen)
    → x.form ≡ Call function dotted args → items ≡ args → name ≡ function.bytes → o ≡ function_named dotted name → m ≡ tick n
    → value g (tree_of x) s n ≡ called g o (head x.id.0 x.at) dotted (parts g (args_of items)) s m
unfolding value
call_is g x function dotted args items name o s n m e p q f t =
    ap (λ (y : Tree). value g y s n) (tree_call x function dotted args e)
    ∙ ap (λ (k : Seen). called g (function_named dotted function.bytes) (head x.id.0 x.at) dotted (parts g (args_of args)) s k) (sym t)
    ∙ ap (λ (o : Option Function). called g o (head x.id.0 x.at) dotted (parts g (args_of args)) s m) (ap (function_named dotted) (sym q) ∙ sym f)
    ∙ ap (λ (l : List Arg). called g o (head x.id.0 x.at) dotted (parts g (args_of l)) s m) (sym p)
