-- The shapes of arguments that stand behind others.
use Rattle.std.proofs.Common.{◌≡◌, ℕ, List, [], ◌∷◌, Bool, true, false, length, Some, None, refl, ap, sym, ◌∙◌}
use Rattle.std.specs.Prelude.{◌==◌, if◌then◌else◌}
use Rattle.std.specs.Option.{option_map, option_and_then}
use Rattle.hp_word.specs.declared.name.Name.{Name}
use Rattle.hp_word.specs.declared.table.MeasureKind.TheVariants as measures
use Rattle.hp_script.specs.declared.function.Function.{Function}
use Rattle.hp_script.specs.declared.function.Function.TheVariants as functions
use Rattle.hp_script.specs.declared.tree.Expr.{Expr}
use Rattle.hp_script.specs.declared.tree.Arg.{Arg}
use Rattle.hp_script.specs.declared.tree.Arg.TheVariants as arg
use Rattle.hp_script.specs.declared.tree.Arg.TheViews.{Call}
use Rattle.hp_script.specs.Functions.{function_named}
use Rattle.hp_script.specs.Mirror.{Tree, Args, none, plain, range, lambda, named, head, form_of, tree_of, args_of, arg_of}
use Rattle.hp_meaning.specs.ArgumentShapes.{first_plain, last_plain, one_plain, one_range, lambda_and_plain, all_written}
use Rattle.hp_meaning.specs.Dispatch.{read_by, table_value}
use Rattle.hp_meaning.specs.FrameRules.{tabled}
use Rattle.hp_meaning.specs.Outcomes.{Refuses, given}
use Rattle.hp_meaning.specs.ReadCalls.{table_for}
use Rattle.hp_meaning.specs.ValueOf.{Supply, is_text, column_name, names_in, sole_column, no_column, measure_by, measure_of}
use Rattle.hp_meaning.proofs.Answering.{yes_of, given_some}
use Rattle.hp_meaning.proofs.FormLemmas.{tree_call}

-- behind a tree some argument stands
pub last_none : (t : Tree) (xs : List Arg) → (xs ≡ [] → ⊥) → last_plain (t, args_of xs) ≡ None
unfolding args_of arg_of
last_none t [] h = absurd (h refl)
last_none t (arg.Plain' id at form ∷ rest) h = refl
last_none t (arg.Range' id at form last_id last_at last ∷ rest) h = refl
last_none t (arg.Lambda' parameter id at form ∷ rest) h = refl
last_none t (arg.Named' name place id at form ∷ rest) h = refl

-- behind a range some argument stands
pub range_none : (x : Arg) (xs : List Arg) → (xs ≡ [] → ⊥) → one_range (args_of (x ∷ xs)) ≡ None
unfolding one_range args_of arg_of
range_none x [] h = absurd (h refl)
range_none (arg.Plain' id at form) (y ∷ ys) h = refl
range_none (arg.Lambda' parameter id at form) (y ∷ ys) h = refl
range_none (arg.Named' name place id at form) (y ∷ ys) h = refl
range_none (arg.Range' id at form last_id last_at last) (arg.Plain' i p f ∷ ys) h = refl
range_none (arg.Range' id at form last_id last_at last) (arg.Range' i p f j q g ∷ ys) h = refl
range_none (arg.Range' id at form last_id last_at last) (arg.Lambda' parameter i p f ∷ ys) h = refl
range_none (arg.Range' id at form last_id last_at last) (arg.Named' name place i p f ∷ ys) h = refl

-- behind a lambda no plain argument stands
pub lambda_none : (x : Arg) (xs : List Arg) → one_plain (args_of xs) ≡ None → lambda_and_plain (args_of (x ∷ xs)) ≡ None
unfolding lambda_and_plain args_of arg_of
lambda_none (arg.Plain' id at form) xs h = refl
lambda_none (arg.Range' id at form last_id last_at last) xs h = refl
lambda_none (arg.Lambda' parameter id at form) xs h = ap (option_map (λ x. (parameter.bytes, form_of (head id.0 at) form, x))) h
lambda_none (arg.Named' name place id at form) xs h = refl

-- ---- measures

sole_is : (xs : Args) → sole_column xs ≡ option_and_then column_name (one_plain xs)
unfolding one_plain
sole_is none = refl
sole_is (plain x none) = refl
sole_is (plain x (plain y rest)) = refl
sole_is (plain x (range y z rest)) = refl
sole_is (plain x (lambda parameter y rest)) = refl
sole_is (plain x (named name at y rest)) = refl
sole_is (range x y rest) = refl
sole_is (lambda parameter x rest) = refl
sole_is (named name at x rest) = refl

pub sole_some : (xs : Args) (t : Tree) → one_plain xs ≡ Some t → sole_column xs ≡ column_name t
sole_some xs t h = sole_is xs ∙ ap (option_and_then column_name) h

pub sole_none : (xs : Args) → one_plain xs ≡ None → sole_column xs ≡ None
sole_none xs h = sole_is xs ∙ ap (option_and_then column_name) h

-- a count has no argument
no_none : (xs : List Arg) → false ≡ (length xs == 0) → no_column (args_of xs) ≡ None
unfolding args_of arg_of
no_none [] h = absurd (cc)
no_none (arg.Plain' id at form ∷ rest) h = refl
no_none (arg.Range' id at form last_id last_at last ∷ rest) h = refl
no_none (arg.Lambda' parameter id at form ∷ rest) h = refl
no_none (arg.Named' name place id at form ∷ rest) h = refl

pub count_none : (f : Function) (xs : List Arg) → f ≡ functions.Count → false ≡ (length xs == 0) → measure_by (Some f) (args_of xs) ≡ None
count_none f xs e h = ap (λ f. measure_by (Some f) (args_of xs)) e ∙ ap (option_map (λ (c : List ℕ). (measures.Count, c))) (no_none xs h)

pub measure_call : (x : Expr) (name : Name) (dotted : Bool) (args : List Arg) (f : Function) → x.form ≡ Call name dotted args → Some f ≡ function_named dotted name.bytes
    → measure_of (tree_of x) ≡ measure_by (Some f) (args_of args)
unfolding measure_of
measure_call x name dotted args f e h = ap measure_of (tree_call x name dotted args e) ∙ ap (λ f. measure_by f (args_of args)) (sym h)

-- ---- tables

text_first : (g : Supply) (id : ℕ) (x : Tree) (rest : List Arg) → false ≡ (length rest == 0)
    → read_by g id x (args_of rest) ≡ (if is_text x then given (names_in (all_written (args_of rest))) (λ names. tabled names (table_for g.reads id g.tables)) else Refuses)
unfolding args_of arg_of
text_first g id x [] h = absurd (cc)
text_first g id x (arg.Plain' k at form ∷ rest) h = refl
text_first g id x (arg.Range' k at form last_id last_at last ∷ rest) h = refl
text_first g id x (arg.Lambda' parameter k at form ∷ rest) h = refl
text_first g id x (arg.Named' name place k at form ∷ rest) h = refl

-- the columns behind the text are those of the call's table
pub table_read : (g : Supply) (id : ℕ) (xs : Args) (x : Tree) (rest : List Arg) (names : List (List ℕ)) → first_plain xs ≡ Some (x, args_of rest) → false ≡ (length rest == 0)
    → true ≡ is_text x → names_in (all_written (args_of rest)) ≡ Some names → table_value g id xs ≡ tabled names (table_for g.reads id g.tables)
unfolding table_value
table_read g id xs x rest names first some text found =
    let more = λ (names : List (List ℕ)). tabled names (table_for g.reads id g.tables) in
    ap (λ p. given p (λ (p : Tree × Args). read_by g id p.0 p.1)) first ∙ text_first g id x rest some
    ∙ yes_of (is_text x) (given (names_in (all_written (args_of rest))) more) Refuses text ∙ given_some (names_in (all_written (args_of rest))) names more found
