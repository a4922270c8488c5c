-- A call is safe where its arguments agree with what they mean, by the order in which they are tested; and what is
-- transposed.
use Rattle.std.proofs.Common.{◌≡◌, ℕ, Bool, true, false, cond, List, [], ◌∷◌, ◌++◌, length, Option, Some, None, refl, sym, ap, subst, ◌∙◌}
use Rattle.hp_word.specs.declared.place.Place.{Place}
use Rattle.hp_script.specs.declared.argument.Argument.{Argument}
use Rattle.hp_script.specs.declared.function.Function.{Function}
use Rattle.hp_script.specs.declared.function.Function.TheVariants as function
use Rattle.hp_script.specs.declared.rule.Refusal.{Refusal}
use Rattle.hp_script.specs.declared.tree.BinOp.{BinOp}
use Rattle.hp_script.specs.declared.tree.BinOp.TheVariants.{Mul}
use Rattle.hp_script.specs.declared.typed.ReadSpec.{ReadSpec}
use Rattle.hp_script.specs.declared.typed.Shape.{Shape}
use Rattle.hp_script.specs.Breaks.{is_flipped, count_of}
use Rattle.hp_script.specs.Functions.{function_named, takes_count}
use Rattle.hp_script.specs.Mirror.{Head, Tree, Args}
use Rattle.hp_script.specs.Mirror as trees
use Rattle.hp_script.specs.Results.{of_both, binary_result, map_result, call_result}
use Rattle.hp_script.specs.Scope.{Scope, role_of}
use Rattle.hp_script.specs.Typing.{is_window, is_window_role, inside}
use Rattle.hp_script.specs.Walk.{found_of, break_of}
use Rattle.hp_script.proofs.FunctionNames.{is_transpose}
use Rattle.hp_script.proofs.Shaped.{called, call_passes}
use Rattle.hp_script.proofs.Turns.{arguments, in_order}
use Rattle.hp_meaning.specs.LambdaRules.{mapped}
use Rattle.hp_meaning.specs.ValueOf.{Supply, Meaning, Part, with_lambda, called_as, is_product, operated, transposed_part, value, parts, flipped}
use Rattle.hp_meaning.proofs.Accorded.{Passed}
use Rattle.hp_meaning.proofs.Called.{parts_many, is_map, called_safe, transpose_flips, FirstText, found_columns, read_columns}
use Rattle.hp_meaning.proofs.Parts.{finds, Found, Supplies, Agree}
use Rattle.hp_meaning.proofs.ReadNames.{reads}
use Rattle.hp_meaning.proofs.Safe.{SafeAs}
use Rattle.hp_meaning.proofs.SafeForms.{Flips, binary_safe, flipped_safe}
use Rattle.hp_script.proofs.TestLemmas.{or_right}

-- ---- arguments

-- the arguments behind others agree, and the tables and files behind them are left
pub record Argued (g : Supply) (s : Scope) (f : Function) (before all : List Argument) (ps : List Part) (ids : List ℕ) (files : List ReadSpec) : Type 0 where
  pub later : List Argument
  pub is : all ≡ before ++ later
  pub agree : Agree s f before later ps
  pub rest : Supplies (finds g) ids files

-- a call of `map`
pub record Mapped (g : Supply) (s : Scope) (all : List Argument) (ps : List Part) (ids : List ℕ) (files : List ReadSpec) : Type 0 where
  pub safe : SafeAs s (map_result all) (λ v n. with_lambda ps v n (mapped v.vars))
  pub rest : Supplies (finds g) ids files

-- ---- calls

call_in_text : {g : Supply} {s : Scope} {ids : List ℕ} {files : List ReadSpec} (f : Function) (h : Head) (dotted : Bool) (xs : Args) → is_transpose f ≡ false → is_map f ≡ false → takes_count f (count_of xs) ≡ true
    → (reads f ≡ true → FirstText xs) → (reads f ≡ true → Found (finds g) h.id (length (read_columns xs))) → Argued g s f [] (arguments s h.at f [] xs) (parts g xs) ids files
    → Passed g s (call_result f dotted (arguments s h.at f [] xs)) (λ v n. called_as g f h dotted (parts g xs) v n) ids files
call_in_text {g} {s} f h dotted xs t m count text there argued = record {
  safe = subst (λ all. SafeAs s (call_result f dotted all) (λ v n. called_as g f h dotted (parts g xs) v n)) (sym argued.is)
      (called_safe g f h dotted (parts g xs) t m (ap (takes_count f) (parts_many g xs) ∙ count) argued.agree (λ r. found_columns g (text r) (there r)));
  rest = argued.rest;
}

map_in_order : {g : Supply} {s : Scope} {ids : List ℕ} {files : List ReadSpec} (h : Head) (dotted : Bool) (xs : Args) (all : List Argument) → Mapped g s all (parts g xs) ids files
    → Passed g s (call_result function.Map dotted all) (λ v n. called_as g function.Map h dotted (parts g xs) v n) ids files
unfolding call_result called_as
map_in_order h dotted xs all mapped = record { safe = mapped.safe; rest = mapped.rest }

-- the arguments of `map` by themselves, those of any other function in the order of the text
pub call_in_order : {g : Supply} {s : Scope} {ids : List ℕ} {files : List ReadSpec} (f : Function) (h : Head) (dotted : Bool) (xs : Args) (first : List Argument) (first_break in_text : Option Refusal)
    → is_transpose f ≡ false → takes_count f (count_of xs) ≡ true → (reads f ≡ true → FirstText xs) → (reads f ≡ true → Found (finds g) h.id (length (read_columns xs))) → in_order f first_break in_text ≡ None
    → (first_break ≡ None → Mapped g s first (parts g xs) ids files) → (in_text ≡ None → Argued g s f [] (arguments s h.at f [] xs) (parts g xs) ids files)
    → Passed g s (call_result f dotted (in_order f first (arguments s h.at f [] xs))) (λ v n. called_as g f h dotted (parts g xs) v n) ids files
call_in_order function.Map h dotted xs first first_break in_text t count text there e map_case case = map_in_order h dotted xs first (map_case e)
call_in_order _ h dotted xs first first_break in_text t count text there e map_case case = call_in_text _ h dotted xs t refl count text there (case e)

-- ---- what is transposed

-- the argument of `transpose` on the right of a product
pub record Flipped (g : Supply) (s : Scope) (found : Option Shape) (m : Option Meaning) (ids : List ℕ) (files : List ReadSpec) : Type 0 where
  pub flips : Flips s found m
  pub rest : Supplies (finds g) ids files

pub transpose_call : {g : Supply} {s : Scope} {ids : List ℕ} {files : List ReadSpec} (f : Function) (at : Place) (xs : Args) (first : List Argument) (first_break in_text : Option Refusal) → is_transpose f ≡ true → in_order f first_break in_text ≡ None
    → (in_text ≡ None → Argued g s f [] (arguments s at f [] xs) (parts g xs) ids files)
    → Flipped g s (call_result f false (in_order f first (arguments s at f [] xs))) (transposed_part (Some f) (parts g xs)) ids files
unfolding call_result
transpose_call {g} {s} function.Transpose at xs first first_break in_text t e case =
    let argued = case e in
    record {
      flips = subst (λ all. Flips s (call_result function.Transpose false all) (transposed_part (Some function.Transpose) (parts g xs))) (sym argued.is) (transpose_flips argued.agree);
      rest = argued.rest;
    }
transpose_call _ at xs first first_break in_text t e case = absurd cc

not_transposed : (f : Function) (ps : List Part) → is_transpose f ≡ false → transposed_part (Some f) ps ≡ None
not_transposed function.Transpose ps t = absurd cc
not_transposed _ ps t = refl

-- an expression with a value does not transpose
never_flipped : (g : Supply) (s : Scope) (y : Tree) → break_of s y ≡ None → flipped g y ≡ None
unfolding flipped found_of
never_flipped g s (trees.call h name dotted xs) e =
    called (λ found. transposed_part found (parts g xs) ≡ None) h.at (function_named dotted name) _
    (λ f same t. not_transposed f (parts g xs) (call_passes s f h.at _ (or_right _ _ (or_right _ _ t))).flips_not) e
never_flipped g s _ e = refl

cond_none : {A : Type 0} (b : Bool) (x : Option A) → x ≡ None → cond b x None ≡ None
cond_none true x e = e
cond_none false x e = refl

product_flipped : {g : Supply} {s : Scope} {fa fb : Option Shape} {m : Meaning} {ids : List ℕ} {files : List ReadSpec} (at : Place) (op : BinOp) (dotted : Bool) (y : Tree) → is_flipped s op dotted y ≡ true → SafeAs s fa m → Flipped g s fb (flipped g y) ids files
    → Passed g s (of_both (binary_result op dotted) fa fb) (operated at op dotted m (value g y) (cond (is_product op dotted) (flipped g y) None)) ids files
product_flipped {g} at Mul false y is left right = record { safe = flipped_safe at (value g y) left right.flips; rest = right.rest }
product_flipped at _ _ y is left right = absurd cc

-- both sides, of which the right one may be transposed
pub sides_pass : {g : Supply} {s : Scope} {fa fb : Option Shape} {m : Meaning} {ids : List ℕ} {files : List ReadSpec} (at : Place) (op : BinOp) (dotted : Bool) (y : Tree) (is : Bool) (parts_tested : Option Refusal) → is_flipped s op dotted y ≡ is
    → cond is parts_tested (break_of s y) ≡ None → SafeAs s fa m → (parts_tested ≡ None → is_flipped s op dotted y ≡ true → Flipped g s fb (flipped g y) ids files) → (break_of s y ≡ None → Passed g s fb (value g y) ids files)
    → Passed g s (of_both (binary_result op dotted) fa fb) (operated at op dotted m (value g y) (cond (is_product op dotted) (flipped g y) None)) ids files
sides_pass at op dotted y true parts_tested is e left flips_case case = product_flipped at op dotted y is left (flips_case e is)
sides_pass {g} {s} at op dotted y false parts_tested is e left flips_case case =
    let right = case e in
    record { safe = binary_safe at op dotted (cond (is_product op dotted) (flipped g y) None) (cond_none (is_product op dotted) (flipped g y) (never_flipped g s y e)) left right.safe; rest = right.rest }

-- ---- outside lambdas

pub no_role : (s : Scope) → s.parameters ≡ [] → (x : List ℕ) → role_of s.parameters x ≡ None
no_role s out x = ap (λ parameters. role_of parameters x) out

pub no_window : (s : Scope) (x : Tree) → s.parameters ≡ [] → is_window s x ≡ false
no_window s (trees.variable h x) out = ap is_window_role (no_role s out x)
no_window s _ out = refl

pub inside_out : (s : Scope) (f : Function) (before : List Argument) → s.parameters ≡ [] → (inside s f before).parameters ≡ []
unfolding inside
inside_out s function.Filter [] out = out
inside_out s function.Filter (x ∷ before) out = out
inside_out s _ before out = out
