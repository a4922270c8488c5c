-- What bodies of lambdas give, step by step.
use Rattle.std.proofs.Common.{◌≡◌, ℕ, suc, ℤ, pos, map, take, ◌++◌, ◌+◌, ◌<◌, ◌≤◌, Bool, true, false, if◌then◌else◌, List, [], ◌∷◌, length, get_or, Option, Some, None, Result, Ok, Err, refl, ap, sym, ◌∙◌, arith}
use Rattle.std.specs.Prelude.{neg_ℤ}
use Rattle.std.specs.List.{range_with_len}
use Rattle.std.specs.Option.{option_map}
use Rattle.std.proofs.lemmas.List.FromFn.{get_or-range_with_len, length-range_with_len}
use Rattle.hp_word.specs.declared.name.Name.{Name}
use Rattle.hp_word.specs.declared.place.Place.{Place}
use Rattle.hp_word.specs.Words.{wrap}
use Rattle.hp_script.specs.declared.function.Function.{Function}
use Rattle.hp_script.specs.declared.function.Function.TheVariants as functions
use Rattle.hp_script.specs.declared.function.ScalarFunction.{ScalarFunction}
use Rattle.hp_script.specs.declared.tree.UnOp.{UnOp}
use Rattle.hp_script.specs.declared.tree.UnOp.TheVariants as unary_op
use Rattle.hp_script.specs.declared.tree.BinOp.{BinOp}
use Rattle.hp_script.specs.declared.tree.Expr.{Expr}
use Rattle.hp_script.specs.declared.tree.Arg.{Arg}
use Rattle.hp_script.specs.declared.tree.Arg.TheVariants as arg
use Rattle.hp_script.specs.declared.tree.Arg.TheViews.{Unary, Index}
use Rattle.hp_script.specs.declared.tree.Arg.TheViews as views
use Rattle.hp_script.specs.Functions.{function_named}
use Rattle.hp_script.specs.Mirror.{Tree, head, unary, index, tree_of, form_of, args_of, arg_of}
use Rattle.hp_script.proofs.MirrorLemmas as mirror
use Rattle.hp_meaning.specs.declared.seen.Stop.{Stop}
use Rattle.hp_meaning.specs.declared.seen.Stop.TheVariants as stop
use Rattle.hp_meaning.specs.declared.value.Kind.{Kind}
use Rattle.hp_meaning.specs.declared.value.Value.{Value}
use Rattle.hp_meaning.specs.declared.value.Var.{Var}
use Rattle.hp_meaning.specs.HeldValues.{Finds}
use Rattle.hp_meaning.specs.LambdaRules.{Inside, inside, Element, Around, word_in, number_in, mapped_words, stencil_words, distance, literal, near_value, lazy_value, strict_value, operator_value, call_value, scalar, scalars, argument_value}
use Rattle.hp_meaning.specs.Operands.{as_word, as_number}
use Rattle.hp_meaning.specs.Outcomes.{Answer, Gives, Refuses, also, all_of, halted, Tells}
use Rattle.hp_meaning.specs.WordRules.{is_lazy, unary_value, plain_value, scalar_value}
use Rattle.hp_meaning.proofs.Answering.{also_gives, also_halts, given_some, given_none, refuses, yes_of, no_of, all_none, all_more, all_halts, all_made}
use Rattle.hp_meaning.proofs.FormLemmas.{tree_call, tree_sum}
use Rattle.hp_meaning.proofs.OperatorLemmas.{tells_same}

-- ---- trees

pub tree_unary : (x : Expr) (op : UnOp) (dotted : Bool) (a : Expr) → x.form ≡ Unary op dotted a → tree_of x ≡ unary (head x.id.0 x.at) op dotted (tree_of a)
unfolding tree_of
tree_unary x op dotted a e = ap (form_of (head x.id.0 x.at)) e ∙ mirror.tree_unary x.id.0 x.at op dotted a

pub tree_index : (x a b : Expr) → x.form ≡ Index a b → tree_of x ≡ index (head x.id.0 x.at) (tree_of a) (tree_of b)
unfolding tree_of
tree_index x a b e = ap (form_of (head x.id.0 x.at)) e ∙ mirror.tree_index x.id.0 x.at a b

pub distance_minus : (x a : Expr) (op : UnOp) (dotted : Bool) (r : Option ℤ) → x.form ≡ Unary op dotted a → op ≡ unary_op.Neg → dotted ≡ false → r ≡ option_map (λ z. wrap (neg_ℤ z)) (literal (tree_of a)) → r ≡ distance (tree_of x)
distance_minus x a op dotted r is minus plain e =
    let h = head x.id.0 x.at in
    e ∙ sym (ap distance (tree_unary x op dotted a is) ∙ ap (λ op. distance (unary h op dotted (tree_of a))) minus ∙ ap (λ dotted. distance (unary h unary_op.Neg dotted (tree_of a))) plain)

-- ---- one side

pub unary_is : (x a : Expr) (op : UnOp) (dotted : Bool) (i : Inside) → x.form ≡ Unary op dotted a → scalar (tree_of x) i ≡ also (scalar (tree_of a) i) (unary_value op dotted)
unfolding scalar
unary_is x a op dotted i is = ap (λ t. scalar t i) (tree_unary x op dotted a is)

pub unary_halts : (x a b : Expr) (op : UnOp) (dotted : Bool) (i : Inside) (e : Stop) → x.form ≡ Unary op dotted b → a ≡ b → Tells (scalar (tree_of a) i) (Err e) → Tells (scalar (tree_of x) i) (Err e)
unary_halts x a b op dotted i e is same h = λ ne.
    unary_is x b op dotted i is ∙ also_halts (scalar (tree_of b) i) e (unary_value op dotted) (ap (λ a. scalar (tree_of a) i) (sym same) ∙ h ne)

pub unary_goes : (x a : Expr) (op : UnOp) (dotted : Bool) (i : Inside) (v : Value) (r : Result Value Stop) → x.form ≡ Unary op dotted a → scalar (tree_of a) i ≡ Gives v
    → Tells (unary_value op dotted v) r → Tells (scalar (tree_of x) i) r
unary_goes x a op dotted i v r is g h =
    tells_same (scalar (tree_of x) i) (unary_value op dotted v) r (unary_is x a op dotted i is ∙ also_gives (scalar (tree_of a) i) v (unary_value op dotted) g) h

-- ---- two sides

pub binary_is : (x a b : Expr) (op : BinOp) (dotted : Bool) (i : Inside) → x.form ≡ views.Binary op dotted a b → dotted ≡ false → scalar (tree_of x) i ≡ operator_value x.at op false (scalar (tree_of a) i) (scalar (tree_of b) i)
unfolding scalar
binary_is x a b op dotted i is plain =
    ap (λ t. scalar t i) (tree_sum x op dotted a b is) ∙ ap (λ dotted. operator_value x.at op dotted (scalar (tree_of a) i) (scalar (tree_of b) i)) plain

either_halts : (lazy : Bool) (at : Place) (op : BinOp) (a b : Answer Value) (e : Stop) → a ≡ halted e → (if lazy then lazy_value op a b else strict_value at op a b) ≡ halted e
unfolding lazy_value strict_value
either_halts true at op a b e h = also_halts a e _ h
either_halts false at op a b e h = also_halts a e _ h

first_halts : (at : Place) (op : BinOp) (a b : Answer Value) (e : Stop) → a ≡ halted e → operator_value at op false a b ≡ halted e
unfolding operator_value
first_halts at op a b e h = either_halts (is_lazy op) at op a b e h

pub binary_halts : (x a l r : Expr) (op : BinOp) (dotted : Bool) (i : Inside) (e : Stop) → x.form ≡ views.Binary op dotted l r → dotted ≡ false → a ≡ l → Tells (scalar (tree_of a) i) (Err e) → Tells (scalar (tree_of x) i) (Err e)
binary_halts x a l r op dotted i e is plain same h = λ ne.
    binary_is x l r op dotted i is plain ∙ first_halts x.at op (scalar (tree_of l) i) (scalar (tree_of r) i) e (ap (λ a. scalar (tree_of a) i) (sym same) ∙ h ne)

pub binary_goes : (x a b : Expr) (op : BinOp) (dotted : Bool) (i : Inside) (v : Value) (r : Result Value Stop) → x.form ≡ views.Binary op dotted a b → dotted ≡ false → scalar (tree_of a) i ≡ Gives v
    → Tells (operator_value x.at op false (Gives v) (scalar (tree_of b) i)) r → Tells (scalar (tree_of x) i) r
binary_goes x a b op dotted i v r is plain g h =
    tells_same (scalar (tree_of x) i) (operator_value x.at op false (Gives v) (scalar (tree_of b) i)) r
    (binary_is x a b op dotted i is plain ∙ ap (λ a. operator_value x.at op false a (scalar (tree_of b) i)) g) h

pub operated_lazily : (at : Place) (op : BinOp) (a b : Answer Value) (r : Result Value Stop) → true ≡ is_lazy op → Tells (lazy_value op a b) r → Tells (operator_value at op false a b) r
unfolding operator_value
operated_lazily at op a b r lazy h = tells_same _ (lazy_value op a b) r (yes_of (is_lazy op) (lazy_value op a b) (strict_value at op a b) lazy) h

strictly : (at : Place) (op : BinOp) (v : Value) (b : Answer Value) → false ≡ is_lazy op → operator_value at op false (Gives v) b ≡ also b (λ w. plain_value at op v w)
unfolding operator_value strict_value
strictly at op v b strict = no_of (is_lazy op) (lazy_value op (Gives v) b) (strict_value at op (Gives v) b) strict

pub operated_halts : (at : Place) (op : BinOp) (v : Value) (b : Answer Value) (e : Stop) → false ≡ is_lazy op → Tells b (Err e) → Tells (operator_value at op false (Gives v) b) (Err e)
operated_halts at op v b e strict h = λ ne. strictly at op v b strict ∙ also_halts b e (λ w. plain_value at op v w) (h ne)

pub operated_goes : (at : Place) (op : BinOp) (v w : Value) (b : Answer Value) (r : Result Value Stop) → false ≡ is_lazy op → b ≡ Gives w → Tells (plain_value at op v w) r → Tells (operator_value at op false (Gives v) b) r
operated_goes at op v w b r strict g h = tells_same _ (plain_value at op v w) r (strictly at op v b strict ∙ also_gives b w (λ w. plain_value at op v w) g) h

-- ---- neighbours and calls

pub index_goes : (x a b : Expr) (i : Inside) (r : Result Value Stop) → x.form ≡ Index a b → Tells (near_value (tree_of a) (tree_of b) i) r → Tells (scalar (tree_of x) i) r
unfolding scalar
index_goes x a b i r is h = tells_same (scalar (tree_of x) i) (near_value (tree_of a) (tree_of b) i) r (ap (λ t. scalar t i) (tree_index x a b is)) h

pub call_goes : (x : Expr) (name : Name) (dotted : Bool) (args : List Arg) (i : Inside) (r : Result Value Stop) → x.form ≡ views.Call name dotted args
    → Tells (call_value (function_named dotted name.bytes) dotted x.at (scalars (args_of args) i)) r → Tells (scalar (tree_of x) i) r
unfolding scalar
call_goes x name dotted args i r is h =
    tells_same (scalar (tree_of x) i) (call_value (function_named dotted name.bytes) dotted x.at (scalars (args_of args) i)) r (ap (λ t. scalar t i) (tree_call x name dotted args is)) h

scalars_cons : (x : Arg) (xs : List Arg) (i : Inside) → scalars (args_of (x ∷ xs)) i ≡ argument_value (args_of (x ∷ [])) i ∷ scalars (args_of xs) i
unfolding scalars args_of arg_of argument_value
scalars_cons (arg.Plain' id at form) xs i = refl
scalars_cons (arg.Range' id at form last_id last_at last) xs i = refl
scalars_cons (arg.Lambda' parameter id at form) xs i = refl
scalars_cons (arg.Named' name place id at form) xs i = refl

scalars_none : (i : Inside) → scalars (args_of []) i ≡ []
unfolding scalars args_of
scalars_none i = refl

-- two arguments
two : (args : List Arg) (a b : Arg) (i : Inside) → length args ≡ 2 → a ≡ get_or args 0 a → b ≡ get_or args 1 b
    → scalars (args_of args) i ≡ argument_value (args_of (a ∷ [])) i ∷ argument_value (args_of (b ∷ [])) i ∷ []
two [] a b i two_of first second = absurd (omega arith)
two (x ∷ []) a b i two_of first second = absurd (omega arith)
two (x ∷ y ∷ []) a b i two_of first second =
    let value = λ (z : Arg). argument_value (args_of (z ∷ [])) i in
    scalars_cons x (y ∷ []) i ∙ ap (λ l. value x ∷ l) (scalars_cons y [] i ∙ ap (λ l. value y ∷ l) (scalars_none i))
    ∙ ap (λ z. value z ∷ value y ∷ []) (sym first) ∙ ap (λ z. value a ∷ value z ∷ []) (sym second)
two (x ∷ y ∷ z ∷ rest) a b i two_of first second = absurd (omega arith)

called : (function : Option Function) (g : Function) (f : ScalarFunction) (dotted : Bool) (at : Place) (v w : Answer Value) → function ≡ Some g → g ≡ functions.Scalar f → dotted ≡ false
    → call_value function dotted at (v ∷ w ∷ []) ≡ also v (λ v. also w (scalar_value f false at v))
unfolding call_value
called function g f dotted at v w is scalar_is plain =
    ap (λ o. call_value o dotted at (v ∷ w ∷ [])) (is ∙ ap Some scalar_is) ∙ ap (λ dotted. call_value (Some (functions.Scalar f)) dotted at (v ∷ w ∷ [])) plain

-- a call with the values of its two arguments
pub call_is : (function : Option Function) (g : Function) (f : ScalarFunction) (dotted : Bool) (at : Place) (args : List Arg) (a b : Arg) (i : Inside)
    → function ≡ Some g → g ≡ functions.Scalar f → dotted ≡ false → length args ≡ 2 → a ≡ get_or args 0 a → b ≡ get_or args 1 b
    → call_value function dotted at (scalars (args_of args) i) ≡ also (argument_value (args_of (a ∷ [])) i) (λ v. also (argument_value (args_of (b ∷ [])) i) (scalar_value f false at v))
call_is function g f dotted at args a b i is scalar_is plain two_of first second =
    ap (call_value function dotted at) (two args a b i two_of first second) ∙ called function g f dotted at (argument_value (args_of (a ∷ [])) i) (argument_value (args_of (b ∷ [])) i) is scalar_is plain

first_of_two : (function : Option Function) (g : Function) (f : ScalarFunction) (dotted : Bool) (at : Place) (args : List Arg) (a b : Arg) (i : Inside) (e : Stop)
    → function ≡ Some g → g ≡ functions.Scalar f → dotted ≡ false → length args ≡ 2 → a ≡ get_or args 0 a → b ≡ get_or args 1 b
    → Tells (argument_value (args_of (a ∷ [])) i) (Err e) → Tells (call_value function dotted at (scalars (args_of args) i)) (Err e)
first_of_two function g f dotted at args a b i e is scalar_is plain two_of first second h = λ ne.
    call_is function g f dotted at args a b i is scalar_is plain two_of first second ∙ also_halts (argument_value (args_of (a ∷ [])) i) e (λ v. also (argument_value (args_of (b ∷ [])) i) (scalar_value f false at v)) (h ne)

pub call_first : (function : Option Function) (g : Function) (f : ScalarFunction) (dotted : Bool) (at : Place) (args : List Arg) (a : Arg) (i : Inside) (e : Stop)
    → function ≡ Some g → g ≡ functions.Scalar f → dotted ≡ false → length args ≡ 2 → a ≡ get_or args 0 a → Tells (argument_value (args_of (a ∷ [])) i) (Err e) → Tells (call_value function dotted at (scalars (args_of args) i)) (Err e)
call_first function g f dotted at [] a i e is scalar_is plain two_of first h = absurd (omega arith)
call_first function g f dotted at (x ∷ []) a i e is scalar_is plain two_of first h = absurd (omega arith)
call_first function g f dotted at (x ∷ y ∷ []) a i e is scalar_is plain two_of first h = first_of_two function g f dotted at (x ∷ y ∷ []) a y i e is scalar_is plain two_of first refl h
call_first function g f dotted at (x ∷ y ∷ z ∷ rest) a i e is scalar_is plain two_of first h = absurd (omega arith)

call_second_is : (function : Option Function) (g : Function) (f : ScalarFunction) (dotted : Bool) (at : Place) (args : List Arg) (a b : Arg) (i : Inside) (v : Value)
    → function ≡ Some g → g ≡ functions.Scalar f → dotted ≡ false → length args ≡ 2 → a ≡ get_or args 0 a → b ≡ get_or args 1 b
    → argument_value (args_of (a ∷ [])) i ≡ Gives v → call_value function dotted at (scalars (args_of args) i) ≡ also (argument_value (args_of (b ∷ [])) i) (scalar_value f false at v)
call_second_is function g f dotted at args a b i v is scalar_is plain two_of first second h =
    call_is function g f dotted at args a b i is scalar_is plain two_of first second ∙ also_gives (argument_value (args_of (a ∷ [])) i) v (λ v. also (argument_value (args_of (b ∷ [])) i) (scalar_value f false at v)) h

pub call_second : (function : Option Function) (g : Function) (f : ScalarFunction) (dotted : Bool) (at : Place) (args : List Arg) (a b : Arg) (i : Inside) (v : Value) (e : Stop)
    → function ≡ Some g → g ≡ functions.Scalar f → dotted ≡ false → length args ≡ 2 → a ≡ get_or args 0 a → b ≡ get_or args 1 b
    → argument_value (args_of (a ∷ [])) i ≡ Gives v → Tells (argument_value (args_of (b ∷ [])) i) (Err e) → Tells (call_value function dotted at (scalars (args_of args) i)) (Err e)
call_second function g f dotted at args a b i v e is scalar_is plain two_of first second g1 h = λ ne.
    call_second_is function g f dotted at args a b i v is scalar_is plain two_of first second g1 ∙ also_halts (argument_value (args_of (b ∷ [])) i) e (scalar_value f false at v) (h ne)

pub call_made : (function : Option Function) (g : Function) (f : ScalarFunction) (dotted : Bool) (at : Place) (args : List Arg) (a b : Arg) (i : Inside) (v w : Value) (r : Result Value Stop)
    → function ≡ Some g → g ≡ functions.Scalar f → dotted ≡ false → length args ≡ 2 → a ≡ get_or args 0 a → b ≡ get_or args 1 b
    → argument_value (args_of (a ∷ [])) i ≡ Gives v → argument_value (args_of (b ∷ [])) i ≡ Gives w → Tells (scalar_value f false at v w) r → Tells (call_value function dotted at (scalars (args_of args) i)) r
call_made function g f dotted at args a b i v w r is scalar_is plain two_of first second g1 g2 h =
    tells_same (call_value function dotted at (scalars (args_of args) i)) (scalar_value f false at v w) r
    (call_second_is function g f dotted at args a b i v is scalar_is plain two_of first second g1 ∙ also_gives (argument_value (args_of (b ∷ [])) i) w (scalar_value f false at v) g2) h

-- no call with fewer or more
others_refuse : (function : Option Function) (dotted : Bool) (at : Place) (values : List (Answer Value)) → (length values ≡ 2 → ⊥) → call_value function dotted at values ≡ Refuses
unfolding call_value
others_refuse None dotted at values h = refl
others_refuse (Some (functions.Scalar f)) true at values h = refl
others_refuse (Some (functions.Scalar f)) false at [] h = refl
others_refuse (Some (functions.Scalar f)) false at (a ∷ []) h = refl
others_refuse (Some (functions.Scalar f)) false at (a ∷ b ∷ []) h = absurd (h refl)
others_refuse (Some (functions.Scalar f)) false at (a ∷ b ∷ c ∷ rest) h = refl
others_refuse (Some _) dotted at values h = refl

as_many : (args : List Arg) (i : Inside) → length (scalars (args_of args) i) ≡ length args
as_many [] i = ap length (scalars_none i)
as_many (x ∷ xs) i = ap length (scalars_cons x xs i) ∙ ap suc (as_many xs i)

pub call_others : (function : Option Function) (dotted : Bool) (at : Place) (args : List Arg) (i : Inside) → (length args ≡ 2 → ⊥) → Tells (call_value function dotted at (scalars (args_of args) i)) (Err stop.Wrong)
call_others function dotted at args i h = λ ne. refuses _ (others_refuse function dotted at (scalars (args_of args) i) (λ e. h (sym (as_many args i) ∙ e)))

-- ---- each element

-- what a `map` makes of an element
abbrev made_of_word : List Var → List ℕ → Tree → Kind → ℤ → Answer ℤ
made_of_word vars parameter body kind x = also (scalar body (inside parameter (Element kind x) vars)) word_in

-- what a `stencil` makes of an element
abbrev made_around : List Var → List ℕ → Tree → List ℤ → ℕ → Answer ℤ
made_around vars parameter body xs k = also (scalar body (inside parameter (Around xs k) vars)) number_in

-- as far as an element without a value
pub word_halts : {A B : Type 0} (a : Answer A) (more : A → Answer B) (e : Stop) → Tells a (Err e) → Tells (also a more) (Err e)
word_halts a more e h = λ ne. also_halts a e more (h ne)

pub word_refuses : (a : Answer Value) (v : Value) (e : Stop) → a ≡ Gives v → (e ≡ stop.Wrong) × (as_word v ≡ None) → Tells (also a word_in) (Err e)
word_refuses a v e g h = λ ne. also_gives a v word_in g ∙ given_none (as_word v) e (λ w. Gives w.1) h.0 h.1

pub word_made : (a : Answer Value) (v : Value) (w : Kind × ℤ) (x : ℤ) → a ≡ Gives v → as_word v ≡ Some w → x ≡ w.1 → also a word_in ≡ Gives x
word_made a v w x g h e = also_gives a v word_in g ∙ given_some (as_word v) w (λ w. Gives w.1) h ∙ ap Gives (sym e)

pub number_told : (a : Answer Value) (v : Value) (r : Result ℤ Stop) → a ≡ Gives v → Finds (λ (x : ℤ). x) (as_number v) r → Tells (also a number_in) r
number_told a v (Ok x) g h = also_gives a v number_in g ∙ given_some (as_number v) x Gives h
number_told a v (Err e) g h = λ ne. also_gives a v number_in g ∙ given_none (as_number v) e Gives h.0 h.1

pub mapped_none : (vars : List Var) (parameter : List ℕ) (body : Tree) (kind : Kind) (xs made : List ℤ) → made ≡ [] → all_of (map (made_of_word vars parameter body kind) (take 0 xs)) ≡ Gives made
mapped_none vars parameter body kind xs made e = all_none (made_of_word vars parameter body kind) xs ∙ ap Gives (sym e)

pub mapped_stop : (vars : List Var) (parameter : List ℕ) (body : Tree) (kind : Kind) (xs : List ℤ) (k : ℕ) (made : List ℤ) (e : Stop) → k < length xs
    → all_of (map (made_of_word vars parameter body kind) (take k xs)) ≡ Gives made → Tells (made_of_word vars parameter body kind (get_or xs k (pos 0))) (Err e)
    → Tells (mapped_words vars parameter body kind xs) (Err e)
unfolding mapped_words
mapped_stop vars parameter body kind xs k made e lt h s = λ ne. all_halts (made_of_word vars parameter body kind) xs k (pos 0) made e lt h (s ne)

pub mapped_more : (vars : List Var) (parameter : List ℕ) (body : Tree) (kind : Kind) (xs : List ℤ) (k : ℕ) (made now : List ℤ) (z : ℤ) → k < length xs
    → all_of (map (made_of_word vars parameter body kind) (take k xs)) ≡ Gives made → made_of_word vars parameter body kind (get_or xs k (pos 0)) ≡ Gives z → now ≡ made ++ z ∷ []
    → all_of (map (made_of_word vars parameter body kind) (take (k + 1) xs)) ≡ Gives now
mapped_more vars parameter body kind xs k made now z lt h s e = all_more (made_of_word vars parameter body kind) xs k (pos 0) made z lt h s ∙ ap Gives (sym e)

pub mapped_made : (vars : List Var) (parameter : List ℕ) (body : Tree) (kind : Kind) (xs : List ℤ) (k : ℕ) (made : List ℤ) → length xs ≤ k
    → all_of (map (made_of_word vars parameter body kind) (take k xs)) ≡ Gives made → mapped_words vars parameter body kind xs ≡ Gives made
unfolding mapped_words
mapped_made vars parameter body kind xs k made le h = all_made (made_of_word vars parameter body kind) xs k made le h

-- the places of an array
below : (xs : List ℤ) (k : ℕ) → k < length xs → k < length (range_with_len 0 (length xs))
below xs k lt = omega (arith, length-range_with_len 0 (length xs))

place_at : (n k : ℕ) → k < n → get_or (range_with_len 0 n) k 0 ≡ k
place_at n k lt = get_or-range_with_len 0 n k 0 lt ∙ omega arith

pub stencil_none : (vars : List Var) (parameter : List ℕ) (body : Tree) (xs made : List ℤ) → made ≡ [] → all_of (map (made_around vars parameter body xs) (take 0 (range_with_len 0 (length xs)))) ≡ Gives made
stencil_none vars parameter body xs made e = all_none (made_around vars parameter body xs) (range_with_len 0 (length xs)) ∙ ap Gives (sym e)

pub stencil_stop : (vars : List Var) (parameter : List ℕ) (body : Tree) (xs : List ℤ) (k : ℕ) (made : List ℤ) (e : Stop) → k < length xs
    → all_of (map (made_around vars parameter body xs) (take k (range_with_len 0 (length xs)))) ≡ Gives made → Tells (made_around vars parameter body xs k) (Err e)
    → Tells (stencil_words vars parameter body xs) (Err e)
unfolding stencil_words
stencil_stop vars parameter body xs k made e lt h s = λ ne.
    all_halts (made_around vars parameter body xs) (range_with_len 0 (length xs)) k 0 made e (below xs k lt) h (ap (made_around vars parameter body xs) (place_at (length xs) k lt) ∙ s ne)

pub stencil_more : (vars : List Var) (parameter : List ℕ) (body : Tree) (xs : List ℤ) (k : ℕ) (made now : List ℤ) (z : ℤ) → k < length xs
    → all_of (map (made_around vars parameter body xs) (take k (range_with_len 0 (length xs)))) ≡ Gives made → made_around vars parameter body xs k ≡ Gives z → now ≡ made ++ z ∷ []
    → all_of (map (made_around vars parameter body xs) (take (k + 1) (range_with_len 0 (length xs)))) ≡ Gives now
stencil_more vars parameter body xs k made now z lt h s e =
    all_more (made_around vars parameter body xs) (range_with_len 0 (length xs)) k 0 made z (below xs k lt) h (ap (made_around vars parameter body xs) (place_at (length xs) k lt) ∙ s) ∙ ap Gives (sym e)

pub stencil_made : (vars : List Var) (parameter : List ℕ) (body : Tree) (xs : List ℤ) (k : ℕ) (made : List ℤ) → length xs ≤ k
    → all_of (map (made_around vars parameter body xs) (take k (range_with_len 0 (length xs)))) ≡ Gives made → stencil_words vars parameter body xs ≡ Gives made
unfolding stencil_words
stencil_made vars parameter body xs k made le h =
    let all : length (range_with_len 0 (length xs)) ≤ k = omega (arith, length-range_with_len 0 (length xs)) in
    all_made (made_around vars parameter body xs) (range_with_len 0 (length xs)) k made all h
