-- What an expression's tests, type, parts and files are by its form, and how the answers of its parts make its own.
use Rattle.std.proofs.Common.{◌≡◌, ℕ, suc, ℤ, Bool, true, false, not, ◌&&◌, List, [], ◌∷◌, ◌++◌, length, if◌then◌else◌, refl, sym, ap, ◌∙◌, append_assoc, Option, Some, None, Result, Ok, Err, OnOk, slice_set}
use Rattle.std.specs.Option.{option_or, is_some, option_and_then}
use Rattle.std.proofs.Math.Seq.{set-append_seam}
use Rattle.std.proofs.lemmas.Result.{on_ok_weaker}
use Rattle.std.proofs.lemmas.Bool.{and_parts}
use Rattle.std.proofs.Math.Bool.{and-false}
use Rattle.std.proofs.lemmas.Slice.Eq.{bytes_eq-Decides}
use Rattle.std.specs.Prelude.{codes}
use Rattle.hp_word.specs.declared.name.Name.{Name}
use Rattle.hp_word.specs.declared.place.Place.{Place}
use Rattle.hp_script.specs.declared.rule.Refusal.{Refusal}
use Rattle.hp_script.specs.declared.rule.Rule.TheVariants.{WrongType, WrongCount}
use Rattle.hp_script.specs.declared.typed.Shape.{Shape}
use Rattle.hp_script.specs.declared.typed.Shape.TheVariants as shape
use Rattle.hp_script.specs.declared.typed.ReadSpec.{ReadSpec}
use Rattle.hp_script.specs.declared.function.Function.{Function}
use Rattle.hp_script.specs.declared.function.Function.TheVariants as function
use Rattle.hp_script.specs.declared.argument.Argument.{Argument}
use Rattle.hp_script.specs.declared.tree.UnOp.{UnOp}
use Rattle.hp_script.specs.declared.tree.BinOp.{BinOp}
use Rattle.hp_script.specs.declared.tree.BinOp.TheVariants.{Mul}
use Rattle.hp_script.specs.declared.tree.Expr.{Expr}
use Rattle.hp_script.specs.declared.tree.Form.{Form, roll-Form, roll-out-Form}
use Rattle.hp_script.specs.declared.tree.Form.TheVariants as forms
use Rattle.hp_script.specs.declared.tree.Arg.{Arg}
use Rattle.hp_script.specs.declared.tree.Arg.TheVariants as arg
use Rattle.hp_script.specs.declared.tree.Arg.TheViews as views
use Rattle.hp_script.specs.declared.tree.Arg.TheViews.{outs-Call', rolls-Call}
use Rattle.hp_script.specs.Breaks.{unless, count_of, is_flipped, is_transpose_call, call_break, result_break, reach_break, distance_of, place_of, name_break, column_break, field_break}
use Rattle.hp_script.specs.Entries.{files_in, files_among, file_of_call, known_shape, own_shape, of_known}
use Rattle.hp_script.specs.Functions.{function_named, scalar_named, fold_named, array_named, takes_count}
use Rattle.hp_script.specs.Mirror.{Head, Tree, Args, head, tree_of, args_of, arg_of, form_of, unary, binary, index, call}
use Rattle.hp_script.specs.Results.{of_both, unary_result, binary_result, index_result, call_result}
use Rattle.hp_script.specs.Scope.{Scope, shape_among, role_of, is_in_lambda}
use Rattle.hp_script.specs.Typing.{name_shape, is_window}
use Rattle.hp_script.proofs.PrintLemmas.{by_form, unary_at, binary_at, index_at, call_at}
use Rattle.hp_types.specs.Answers.{Refuses, Tells, Gives, Grew}
use Rattle.hp_types.specs.declared.error.CheckError.{CheckError}
use Rattle.hp_types.specs.declared.error.CheckError.TheVariants.{Refused, NoMemory}
use Rattle.hp_types.specs.declared.found.Found.{Found}
use Rattle.hp_script.specs.Walk.{break_of, entries_of, parts_break, shape_of, site, found_of, found_among, finds_of, entries_among}

-- ---- the first test that fails

pub refused_as : (first other : Option Refusal) (e : CheckError) → first ≡ other → Refuses other e → Refuses first e
refused_as first other (Refused r) same h = same ∙ h
refused_as first other NoMemory same h = tt

pub told_refused : {A : Type 0} (first : Option Refusal) (meaning : Option A) (r : Result A CheckError) (e : CheckError) → r ≡ Err e → Refuses first e → Tells first meaning r
told_refused first meaning r e is h = rw is h

pub given_refused : {A : Type 0} (first : Option Refusal) (meaning : A) (r : Result A CheckError) (e : CheckError) → r ≡ Err e → Refuses first e → Gives first meaning r
given_refused first meaning r e is h = rw is h

pub told_as : {A : Type 0} (first other : Option Refusal) (meaning same : Option A) (r : Result A CheckError) → first ≡ other → meaning ≡ same → Tells other same r → Tells first meaning r
told_as first other meaning same (Ok a) p q h = (p ∙ h.0, q ∙ h.1)
told_as first other meaning same (Err (Refused x)) p q h = p ∙ h
told_as first other meaning same (Err NoMemory) p q h = tt

-- ---- a tree but for its own number

pub record Alike (s : Scope) (x y : Tree) : Type 0 where
  pub broken : break_of s x ≡ break_of s y
  pub shaped : shape_of s x ≡ shape_of s y
  pub parts : entries_of s x ≡ entries_of s y
  pub reads : files_in x ≡ files_in y

pub told_by : (s : Scope) (x y : Tree) (r : Result Shape CheckError) → Alike s x y → Tells (break_of s y) (shape_of s y) r → Tells (break_of s x) (shape_of s x) r
told_by s x y r same h = told_as _ _ _ _ r same.broken same.shaped h

pub grew_as : {A : Type 0} (r : Result A CheckError) (before now : Found) (entries same : List (Option Shape)) (files read : List ReadSpec) → entries ≡ same → files ≡ read → OnOk r (Grew before now same read) → OnOk r (Grew before now entries files)
grew_as r before now entries same files read p q h =
    on_ok_weaker r
    (λ (both : Grew before now same read). (both.0 ∙ ap (λ (more : List (Option Shape)). before.shapes ++ more) (sym p), both.1 ∙ ap (λ (more : List ReadSpec). before.reads ++ more) (sym q))) h

pub grew_by : (s : Scope) (x y : Tree) (files : List ReadSpec) (r : Result Shape CheckError) (before now : Found) → Alike s x y → files_in y ≡ files → OnOk r (Grew before now (entries_of s y) files) → OnOk r (Grew before now (entries_of s x) (files_in x))
grew_by s x y files r before now same read h = grew_as r before now _ _ _ _ same.parts (same.reads ∙ read) h

pub alike_unary : (s : Scope) (x a b : Expr) (op : UnOp) (dotted : Bool) → x.form ≡ views.Unary op dotted a → b ≡ a → Alike s (tree_of x) (unary (head 0 x.at) op dotted (tree_of b))
unfolding found_of files_in
alike_unary s x a b op dotted e got = record {
  broken = rw (unary_at x op dotted a e, got) refl;
  shaped = rw (unary_at x op dotted a e, got) refl;
  parts = rw (unary_at x op dotted a e, got) refl;
  reads = rw (unary_at x op dotted a e, got) refl;
}

pub alike_binary : (s : Scope) (x a b a' b' : Expr) (op : BinOp) (dotted : Bool) → x.form ≡ views.Binary op dotted a b → a' ≡ a → b' ≡ b → Alike s (tree_of x) (binary (head 0 x.at) op dotted (tree_of a') (tree_of b'))
unfolding found_of files_in
alike_binary s x a b a' b' op dotted e left right = record {
  broken = rw (binary_at x op dotted a b e, left, right) refl;
  shaped = rw (binary_at x op dotted a b e, left, right) refl;
  parts = rw (binary_at x op dotted a b e, left, right) refl;
  reads = rw (binary_at x op dotted a b e, left, right) refl;
}

pub alike_index : (s : Scope) (x a b a' b' : Expr) → x.form ≡ views.Index a b → a' ≡ a → b' ≡ b → Alike s (tree_of x) (index (head 0 x.at) (tree_of a') (tree_of b'))
unfolding found_of files_in
alike_index s x a b a' b' e left right = record {
  broken = rw (index_at x a b e, left, right) refl;
  shaped = rw (index_at x a b e, left, right) refl;
  parts = rw (index_at x a b e, left, right) refl;
  reads = rw (index_at x a b e, left, right) refl;
}

pub alike_call : (s : Scope) (x : Expr) (name : Name) (bytes : List ℕ) (dotted : Bool) (xs ys : List Arg) → x.form ≡ views.Call name dotted xs → bytes ≡ name.bytes → ys ≡ xs → Alike s (tree_of x) (call (head 0 x.at) bytes dotted (args_of ys))
unfolding found_of files_in
alike_call s x name bytes dotted xs ys e named listed = record {
  broken = rw (call_at x name dotted xs e, named, listed) refl;
  shaped = rw (call_at x name dotted xs e, named, listed) refl;
  parts = rw (call_at x name dotted xs e, named, listed) refl;
  reads = rw (call_at x name dotted xs e, named, listed) refl;
}

-- ---- expressions without parts

pub told_number : (s : Scope) (x : Expr) (value : ℤ) (r : Result Shape CheckError) → x.form ≡ forms.Number value → Tells None (Some shape.Int) r → Tells (break_of s (tree_of x)) (shape_of s (tree_of x)) r
unfolding found_of form_of
told_number s x value r e h = told_as _ _ _ _ r (rw (by_form x _ e) refl) (rw (by_form x _ e) refl) h

pub grew_number : (s : Scope) (x : Expr) (value : ℤ) (r : Result Shape CheckError) (before now : Found) → x.form ≡ forms.Number value → OnOk r (Grew before now (Some shape.Int ∷ []) []) → OnOk r (Grew before now (entries_of s (tree_of x)) (files_in (tree_of x)))
unfolding found_of files_in form_of
grew_number s x value r before now e h = grew_as r before now _ _ _ _ (rw (by_form x _ e) refl) (rw (by_form x _ e) refl) h

pub told_truth : (s : Scope) (x : Expr) (holds : Bool) (r : Result Shape CheckError) → x.form ≡ forms.Truth holds → Tells None (Some shape.Bool) r → Tells (break_of s (tree_of x)) (shape_of s (tree_of x)) r
unfolding found_of form_of
told_truth s x holds r e h = told_as _ _ _ _ r (rw (by_form x _ e) refl) (rw (by_form x _ e) refl) h

pub grew_truth : (s : Scope) (x : Expr) (holds : Bool) (r : Result Shape CheckError) (before now : Found) → x.form ≡ forms.Truth holds → OnOk r (Grew before now (Some shape.Bool ∷ []) []) → OnOk r (Grew before now (entries_of s (tree_of x)) (files_in (tree_of x)))
unfolding found_of files_in form_of
grew_truth s x holds r before now e h = grew_as r before now _ _ _ _ (rw (by_form x _ e) refl) (rw (by_form x _ e) refl) h

pub refused_text : (s : Scope) (x : Expr) (bytes : Name) (e : CheckError) → x.form ≡ forms.Text bytes → e ≡ Refused (record { at = x.at; rule = WrongType }) → Refuses (break_of s (tree_of x)) e
unfolding found_of form_of
refused_text s x bytes e form is = rw (is, by_form x _ form) refl

pub refused_variable : (s : Scope) (x : Expr) (name : Name) (bytes : List ℕ) (e : CheckError) → x.form ≡ forms.Name name → bytes ≡ name.bytes → Refuses (name_break (role_of s.parameters bytes) s x.at bytes) e → Refuses (break_of s (tree_of x)) e
unfolding found_of form_of
refused_variable s x name bytes e form same h = refused_as _ _ e (rw (by_form x _ form, same) refl) h

pub told_variable : (s : Scope) (x : Expr) (name : Name) (bytes : List ℕ) (kind : Shape) (r : Result Shape CheckError) → x.form ≡ forms.Name name → bytes ≡ name.bytes
    → name_break (role_of s.parameters bytes) s x.at bytes ≡ None → name_shape (role_of s.parameters bytes) (shape_among s.vars bytes) ≡ Some kind
    → Tells None (Some kind) r → Tells (break_of s (tree_of x)) (shape_of s (tree_of x)) r
unfolding found_of form_of
told_variable s x name bytes kind r form same fits typed h = told_as _ _ _ _ r (rw (by_form x _ form, ← same) fits) (rw (by_form x _ form, ← same) typed) h

pub grew_variable : (s : Scope) (x : Expr) (name : Name) (bytes : List ℕ) (kind : Shape) (r : Result Shape CheckError) (before now : Found) → x.form ≡ forms.Name name → bytes ≡ name.bytes
    → name_shape (role_of s.parameters bytes) (shape_among s.vars bytes) ≡ Some kind
    → OnOk r (Grew before now (Some kind ∷ []) []) → OnOk r (Grew before now (entries_of s (tree_of x)) (files_in (tree_of x)))
unfolding found_of files_in form_of
grew_variable s x name bytes kind r before now form same typed h =
    grew_as r before now _ _ _ _ (rw (by_form x _ form, ← same) (ap (λ (o : Option Shape). o ∷ []) typed)) (rw (by_form x _ form) refl) h

pub refused_column : (s : Scope) (x : Expr) (name : Name) (bytes : List ℕ) (e : CheckError) → x.form ≡ forms.Column name → bytes ≡ name.bytes → Refuses (column_break s.around s x.at bytes) e → Refuses (break_of s (tree_of x)) e
unfolding found_of form_of
refused_column s x name bytes e form same h = refused_as _ _ e (rw (by_form x _ form, same) refl) h

pub told_column : (s : Scope) (x : Expr) (name : Name) (bytes : List ℕ) (r : Result Shape CheckError) → x.form ≡ forms.Column name → bytes ≡ name.bytes
    → column_break s.around s x.at bytes ≡ None → Tells None (Some shape.Ints) r → Tells (break_of s (tree_of x)) (shape_of s (tree_of x)) r
unfolding found_of form_of
told_column s x name bytes r form same fits h = told_as _ _ _ _ r (rw (by_form x _ form, ← same) fits) (rw (by_form x _ form) refl) h

pub grew_column : (s : Scope) (x : Expr) (name : Name) (r : Result Shape CheckError) (before now : Found) → x.form ≡ forms.Column name → OnOk r (Grew before now (Some shape.Ints ∷ []) []) → OnOk r (Grew before now (entries_of s (tree_of x)) (files_in (tree_of x)))
unfolding found_of files_in form_of
grew_column s x name r before now e h = grew_as r before now _ _ _ _ (rw (by_form x _ e) refl) (rw (by_form x _ e) refl) h

pub refused_field : (s : Scope) (x : Expr) (name of_it : Name) (bytes part : List ℕ) (e : CheckError) → x.form ≡ forms.Field name of_it → bytes ≡ name.bytes → part ≡ of_it.bytes
    → Refuses (field_break (role_of s.parameters bytes) s x.at bytes part) e → Refuses (break_of s (tree_of x)) e
unfolding found_of form_of
refused_field s x name of_it bytes part e form same too h = refused_as _ _ e (rw (by_form x _ form, same, too) refl) h

pub told_field : (s : Scope) (x : Expr) (name of_it : Name) (bytes part : List ℕ) (r : Result Shape CheckError) → x.form ≡ forms.Field name of_it → bytes ≡ name.bytes → part ≡ of_it.bytes
    → field_break (role_of s.parameters bytes) s x.at bytes part ≡ None → Tells None (Some shape.Ints) r → Tells (break_of s (tree_of x)) (shape_of s (tree_of x)) r
unfolding found_of form_of
told_field s x name of_it bytes part r form same too fits h = told_as _ _ _ _ r (rw (by_form x _ form, ← same, ← too) fits) (rw (by_form x _ form) refl) h

pub grew_field : (s : Scope) (x : Expr) (name of_it : Name) (r : Result Shape CheckError) (before now : Found) → x.form ≡ forms.Field name of_it → OnOk r (Grew before now (Some shape.Ints ∷ []) []) → OnOk r (Grew before now (entries_of s (tree_of x)) (files_in (tree_of x)))
unfolding found_of files_in form_of
grew_field s x name of_it r before now e h = grew_as r before now _ _ _ _ (rw (by_form x _ e) refl) (rw (by_form x _ e) refl) h

-- ---- a type that is put in behind the parts

-- for an operator before its operand
pub put_in : (old held inner new entries : List (Option Shape)) (n : ℕ) (found : Option Shape) → held ≡ old ++ None ∷ [] → n ≡ length old → inner ≡ held ++ entries
    → new ≡ slice_set inner n found → new ≡ old ++ found ∷ entries
put_in old held inner new entries n found was at more put =
    put ∙ ap (λ (all : List (Option Shape)). slice_set all n found) (more ∙ ap (λ (all : List (Option Shape)). all ++ entries) was ∙ append_assoc old (None ∷ []) entries)
    ∙ ap (λ (k : ℕ). slice_set (old ++ None ∷ entries) k found) at ∙ set-append_seam old None entries found

-- for one between its operands
pub put_between : (old first held inner new left right : List (Option Shape)) (n : ℕ) (found : Option Shape) → first ≡ old ++ left → held ≡ first ++ None ∷ [] → n ≡ length first → inner ≡ held ++ right
    → new ≡ slice_set inner n found → new ≡ old ++ (left ++ found ∷ right)
put_between old first held inner new left right n found before was at more put =
    put_in first held inner new right n found was at more put ∙ ap (λ (all : List (Option Shape)). all ++ found ∷ right) before ∙ append_assoc old left (found ∷ right)

-- the files of both operands
pub read_both : (old first held inner new left right : List ReadSpec) → first ≡ old ++ left → held ≡ first → inner ≡ held ++ right → new ≡ inner → new ≡ old ++ (left ++ right)
read_both old first held inner new left right before was more last =
    last ∙ more ∙ ap (λ (all : List ReadSpec). all ++ right) (was ∙ before) ∙ append_assoc old left right

pub grew_unary : (s : Scope) (at : Place) (op : UnOp) (dotted : Bool) (x : Tree) (a : Shape) (n : ℕ) (kind : Option Shape) (old held inner new : Found) (r : Result Shape CheckError)
    → held.shapes ≡ old.shapes ++ None ∷ [] → n ≡ length old.shapes → held.reads ≡ old.reads
    → Grew held inner (entries_of s x) (files_in x) → shape_of s x ≡ Some a → kind ≡ unary_result op dotted a
    → OnOk r (new.shapes ≡ slice_set inner.shapes n kind) → OnOk r (new.reads ≡ inner.reads)
    → OnOk r (Grew old new (entries_of s (unary (head 0 at) op dotted x)) (files_in x))
unfolding found_of
grew_unary s at op dotted x a n kind old held inner new (Ok made) was place same parts typed is put read =
    let own : kind ≡ shape_of s (unary (head 0 at) op dotted x) = is ∙ sym (ap (option_and_then (unary_result op dotted)) typed) in (
      put_in old.shapes held.shapes inner.shapes new.shapes (entries_of s x) n kind was place parts.0 put ∙ ap (λ (o : Option Shape). old.shapes ++ o ∷ entries_of s x) own,
      read ∙ parts.1 ∙ ap (λ (all : List ReadSpec). all ++ files_in x) same,
    )
grew_unary s at op dotted x a n kind old held inner new (Err e) was place same parts typed is put read = tt

pub grew_binary : (s : Scope) (at : Place) (op : BinOp) (dotted : Bool) (x y : Tree) (a : Shape) (b : Option Shape) (n : ℕ) (kind : Option Shape) (old first held inner new : Found) (r : Result Shape CheckError)
    → Grew old first (entries_of s x) (files_in x) → held.shapes ≡ first.shapes ++ None ∷ [] → n ≡ length first.shapes → held.reads ≡ first.reads
    → Grew held inner (entries_of s y) (files_in y) → shape_of s x ≡ Some a → shape_of s y ≡ b → kind ≡ of_both (binary_result op dotted) (Some a) b
    → OnOk r (new.shapes ≡ slice_set inner.shapes n kind) → OnOk r (new.reads ≡ inner.reads)
    → OnOk r (Grew old new (entries_of s (binary (head 0 at) op dotted x y)) (files_in x ++ files_in y))
unfolding found_of
grew_binary s at op dotted x y a b n kind old first held inner new (Ok made) before was place same parts left right is put read =
    let own : kind ≡ shape_of s (binary (head 0 at) op dotted x y) = is ∙ sym (rw (left, right) refl) in (
      put_between old.shapes first.shapes held.shapes inner.shapes new.shapes (entries_of s x) (entries_of s y) n kind before.0 was place parts.0 put ∙ ap (λ (o : Option Shape). old.shapes ++ (entries_of s x ++ o ∷ entries_of s y)) own,
      read_both old.reads first.reads held.reads inner.reads new.reads (files_in x) (files_in y) before.1 same parts.1 read,
    )
grew_binary s at op dotted x y a b n kind old first held inner new (Err e) before was place same parts left right is put read = tt

pub grew_index : (s : Scope) (at : Place) (x y : Tree) (a b : Shape) (n : ℕ) (kind : Option Shape) (old first held inner new : Found) (r : Result Shape CheckError)
    → is_window s x ≡ false
    → Grew old first (entries_of s x) (files_in x) → held.shapes ≡ first.shapes ++ None ∷ [] → n ≡ length first.shapes → held.reads ≡ first.reads
    → Grew held inner (entries_of s y) (files_in y) → shape_of s x ≡ Some a → shape_of s y ≡ Some b → kind ≡ index_result a b
    → OnOk r (new.shapes ≡ slice_set inner.shapes n kind) → OnOk r (new.reads ≡ inner.reads)
    → OnOk r (Grew old new (entries_of s (index (head 0 at) x y)) (files_in x ++ files_in y))
unfolding found_of
grew_index s at x y a b n kind old first held inner new (Ok made) other before was place same parts left right is put read =
    let own : kind ≡ shape_of s (index (head 0 at) x y) = is ∙ sym (rw (other, left, right) refl) in
    let listed : entries_of s (index (head 0 at) x y) ≡ entries_of s x ++ shape_of s (index (head 0 at) x y) ∷ entries_of s y = rw other refl in (
      put_between old.shapes first.shapes held.shapes inner.shapes new.shapes (entries_of s x) (entries_of s y) n kind before.0 was place parts.0 put
          ∙ ap (λ (o : Option Shape). old.shapes ++ (entries_of s x ++ o ∷ entries_of s y)) own ∙ ap (λ (all : List (Option Shape)). old.shapes ++ all) (sym listed),
      read_both old.reads first.reads held.reads inner.reads new.reads (files_in x) (files_in y) before.1 same parts.1 read,
    )
grew_index s at x y a b n kind old first held inner new (Err e) other before was place same parts left right is put read = tt

-- ---- calls

pub count_args : (xs : List Arg) → count_of (args_of xs) ≡ length xs
unfolding args_of arg_of
count_args [] = refl
count_args (arg.Plain' id at form ∷ xs) = ap suc (count_args xs)
count_args (arg.Range' id at form last_id last_at last ∷ xs) = ap suc (count_args xs)
count_args (arg.Lambda' parameter id at form ∷ xs) = ap suc (count_args xs)
count_args (arg.Named' name place id at form ∷ xs) = ap suc (count_args xs)

behind_none : (a b c : Option Refusal) → option_or a b ≡ None → option_or a (option_or b c) ≡ c
behind_none None None c h = refl
behind_none None (Some y) c h = cc
behind_none (Some x) b c h = cc

some_last : (first : Option Refusal) (x : Refusal) → option_or first (Some x) ≡ None → {A : Type 0} → A
some_last None x h = cc
some_last (Some y) x h = cc

-- a call that passes its own tests has a type, and is none of `transpose`
typed_call : (s : Scope) (f : Function) (at : Place) → call_break s f at None ≡ None → {A : Type 0} → A
unfolding call_break result_break
typed_call s function.Transpose at h = cc
typed_call s f at h = some_last _ _ h

own_call : (s : Scope) (f : Function) (at : Place) (kind : Option Shape) → call_break s f at kind ≡ None → own_shape f kind ≡ kind
unfolding call_break
own_call s function.Transpose at kind h = cc
own_call s _ at kind h = refl

call_shape : (s : Scope) (at : Place) (name : List ℕ) (dotted : Bool) (xs : Args) (f : Function) (given : List Argument) (kind : Option Shape)
    → function_named dotted name ≡ Some f → (found_among f (finds_of (site s at f) xs)).arguments ≡ given → kind ≡ call_result f dotted given
    → shape_of s (call (head 0 at) name dotted xs) ≡ kind
unfolding found_of
call_shape s at name dotted xs f given kind named order is = rw (named, order) (sym is)

call_passes : (s : Scope) (at : Place) (name : List ℕ) (dotted : Bool) (xs : Args) (f : Function) (kind : Option Shape)
    → parts_break s (call (head 0 at) name dotted xs) ≡ None → function_named dotted name ≡ Some f → shape_of s (call (head 0 at) name dotted xs) ≡ kind
    → call_break s f at kind ≡ None → break_of s (call (head 0 at) name dotted xs) ≡ None
unfolding found_of
call_passes s at name dotted xs f kind parts named typed own =
    let inner : option_or (unless (takes_count f (count_of xs)) at WrongCount) (found_among f (finds_of (site s at f) xs)).refusal ≡ None = rw named at parts in
    let made : call_result f dotted (found_among f (finds_of (site s at f) xs)).arguments ≡ kind = rw named at typed in
    rw named (behind_none _ _ _ inner ∙ ap (call_break s f at) made ∙ own)

pub told_call : (s : Scope) (at : Place) (name : List ℕ) (dotted : Bool) (xs : Args) (f : Function) (given : List Argument) (kind : Option Shape) (r : Result Shape CheckError)
    → parts_break s (call (head 0 at) name dotted xs) ≡ None → function_named dotted name ≡ Some f → (found_among f (finds_of (site s at f) xs)).arguments ≡ given
    → kind ≡ call_result f dotted given → call_break s f at kind ≡ None → Tells (unless (is_some kind) at WrongType) kind r
    → Tells (break_of s (call (head 0 at) name dotted xs)) (shape_of s (call (head 0 at) name dotted xs)) r
told_call s at name dotted xs f given kind (Ok made) parts named order is own h =
    let typed : shape_of s (call (head 0 at) name dotted xs) ≡ kind = call_shape s at name dotted xs f given kind named order is in
    (call_passes s at name dotted xs f kind parts named typed own, typed ∙ h.1)
told_call s at name dotted xs f given (Some shape) (Err (Refused x)) parts named order is own h = cc
told_call s at name dotted xs f given None (Err (Refused x)) parts named order is own h = typed_call s f at own
told_call s at name dotted xs f given kind (Err NoMemory) parts named order is own h = tt

pub grew_call : (s : Scope) (at : Place) (name : List ℕ) (dotted : Bool) (xs : Args) (f : Function) (given : List Argument) (kind : Option Shape) (n : ℕ) (old inner new : Found) (r : Result Shape CheckError)
    → function_named dotted name ≡ Some f → (found_among f (finds_of (site s at f) xs)).arguments ≡ given → kind ≡ call_result f dotted given → call_break s f at kind ≡ None
    → n ≡ length old.shapes
    → Grew old inner (None ∷ of_known (function_named dotted name) (λ f. entries_among f (found_among f (finds_of (site s at f) xs)))) (file_of_call name dotted xs ++ files_among xs)
    → OnOk r (new.shapes ≡ slice_set inner.shapes n kind) → OnOk r (new.reads ≡ inner.reads)
    → OnOk r (Grew old new (entries_of s (call (head 0 at) name dotted xs)) (files_in (call (head 0 at) name dotted xs)))
unfolding found_of files_in
grew_call s at name dotted xs f given kind n old inner new (Ok made) named order is own place parts put read =
    let typed : shape_of s (call (head 0 at) name dotted xs) ≡ kind = call_shape s at name dotted xs f given kind named order is in
    let first : known_shape (function_named dotted name) (shape_of s (call (head 0 at) name dotted xs)) ≡ kind =
    rw named (ap (own_shape f) (ap (λ (g : List Argument). call_result f dotted g) order ∙ sym is) ∙ own_call s f at kind own) in (
      put ∙ ap (λ (all : List (Option Shape)). slice_set all n kind) parts.0 ∙ ap (λ (k : ℕ). slice_set (old.shapes ++ None ∷ of_known (function_named dotted name) (λ f. entries_among f (found_among f (finds_of (site s at f) xs)))) k kind) place ∙ set-append_seam old.shapes None _ kind
          ∙ ap (λ (o : Option Shape). old.shapes ++ o ∷ of_known (function_named dotted name) (λ f. entries_among f (found_among f (finds_of (site s at f) xs)))) (sym first),
      read ∙ parts.1,
    )
grew_call s at name dotted xs f given kind n old inner new (Err e) named order is own place parts put read = tt

-- ---- a transposed matrix

named_transpose : function_named false (codes "transpose") ≡ Some function.Transpose
unfolding function_named scalar_named fold_named array_named
named_transpose = refl

transposing : (h : Head) (name : List ℕ) (plain : Bool) (xs : Args) → is_transpose_call (call h name plain xs) ≡ true → function_named plain name ≡ Some function.Transpose
transposing h name false xs is = ap (function_named false) ((bytes_eq-Decides name (codes "transpose")).0 is) ∙ named_transpose
transposing h name true xs is = cc

flipped : (s : Scope) (op : BinOp) (dotted : Bool) (y : Tree) → is_flipped s op dotted y ≡ true → is_transpose_call y ≡ true
flipped s Mul false y is = (and_parts (not (is_in_lambda s)) (is_transpose_call y) is).1
flipped s Mul true y is = cc
flipped s _ dotted y is = cc

pub parts_at : (s : Scope) (x : Expr) (name : Name) (bytes : List ℕ) (plain : Bool) (xs ys : List Arg) → x.form ≡ views.Call name plain xs → bytes ≡ name.bytes → ys ≡ xs
    → parts_break s (tree_of x) ≡ parts_break s (call (head 0 x.at) bytes plain (args_of ys))
unfolding found_of
parts_at s x name bytes plain xs ys form same listed = rw (call_at x name plain xs form, same, listed) refl

pub flipped_tests : (s : Scope) (op : BinOp) (dotted : Bool) (y : Tree) → is_flipped s op dotted y ≡ true → (if is_flipped s op dotted y then parts_break s y else break_of s y) ≡ parts_break s y
flipped_tests s op dotted y is = rw is refl

pub value_tests : (s : Scope) (op : BinOp) (dotted : Bool) (y : Tree) → is_flipped s op dotted y ≡ false → (if is_flipped s op dotted y then parts_break s y else break_of s y) ≡ break_of s y
value_tests s op dotted y is = rw is refl

pub shape_at : (s : Scope) (x : Expr) (name : Name) (bytes : List ℕ) (plain : Bool) (xs ys : List Arg) (f : Function) (given : List Argument) (kind : Option Shape) → x.form ≡ views.Call name plain xs → bytes ≡ name.bytes → ys ≡ xs
    → function_named plain bytes ≡ Some f → (found_among f (finds_of (site s x.at f) (args_of ys))).arguments ≡ given → kind ≡ call_result f plain given
    → shape_of s (tree_of x) ≡ kind
shape_at s x name bytes plain xs ys f given kind form same listed named order is =
    (alike_call s x name bytes plain xs ys form same listed).shaped ∙ call_shape s x.at bytes plain (args_of ys) f given kind named order is

pub flipped_entries : (s : Scope) (op : BinOp) (dotted : Bool) (x : Expr) (name : Name) (bytes : List ℕ) (plain : Bool) (xs ys : List Arg) → x.form ≡ views.Call name plain xs → bytes ≡ name.bytes → ys ≡ xs
    → is_flipped s op dotted (tree_of x) ≡ true
    → entries_of s (tree_of x) ≡ None ∷ of_known (function_named plain bytes) (λ f. entries_among f (found_among f (finds_of (site s x.at f) (args_of ys))))
unfolding found_of
flipped_entries s op dotted x name bytes plain xs ys form same listed is =
    let tree : tree_of x ≡ call (head x.id.0 x.at) bytes plain (args_of ys) = call_at x name plain xs form ∙ rw (same, listed) refl in
    let transpose : function_named plain bytes ≡ Some function.Transpose = transposing (head x.id.0 x.at) bytes plain (args_of ys) (rw tree at (flipped s op dotted (tree_of x) is)) in
    rw tree (ap (λ (o : Option Function). known_shape o (shape_of s (call (head x.id.0 x.at) bytes plain (args_of ys))) ∷ of_known (function_named plain bytes) (λ f. entries_among f (found_among f (finds_of (site s x.at f) (args_of ys))))) transpose)

pub grew_flipped : (s : Scope) (op : BinOp) (dotted : Bool) (x : Expr) (name : Name) (bytes : List ℕ) (plain : Bool) (xs ys : List Arg) (old new : Found) → x.form ≡ views.Call name plain xs → bytes ≡ name.bytes → ys ≡ xs
    → is_flipped s op dotted (tree_of x) ≡ true
    → Grew old new (None ∷ of_known (function_named plain bytes) (λ f. entries_among f (found_among f (finds_of (site s x.at f) (args_of ys))))) (file_of_call bytes plain (args_of ys) ++ files_among (args_of ys))
    → Grew old new (entries_of s (tree_of x)) (files_in (tree_of x))
unfolding files_in
grew_flipped s op dotted x name bytes plain xs ys old new form same listed is h = (
  h.0 ∙ ap (λ (all : List (Option Shape)). old.shapes ++ all) (sym (flipped_entries s op dotted x name bytes plain xs ys form same listed is)),
  h.1 ∙ ap (λ (all : List ReadSpec). old.reads ++ all) (sym ((alike_call s x name bytes plain xs ys form same listed).reads)),
)

-- what is no call is no call of `transpose`
other_form : (h : Head) (f : Form) → ((name : Name) (plain : Bool) (xs : List Arg) → f ≡ views.Call name plain xs → ⊥) → is_transpose_call (form_of h f) ≡ false
unfolding form_of
other_form h (forms.Number value) none = refl
other_form h (forms.Truth holds) none = refl
other_form h (forms.Text bytes) none = refl
other_form h (forms.Name name) none = refl
other_form h (forms.Column name) none = refl
other_form h (forms.Field name part) none = refl
other_form h (forms.Unary' op dotted p a) none = refl
other_form h (forms.Binary' op dotted p a q b) none = refl
other_form h (forms.Index' p a q b) none = refl
other_form h (forms.Call' name plain p xs) none =
    absurd (none name plain _ (sym (roll-out-Form (forms.Call' name plain p xs)) ∙ ap roll-Form (outs-Call' name plain p xs) ∙ rolls-Call name plain _))

unflipped : (s : Scope) (op : BinOp) (dotted : Bool) (y : Tree) → is_transpose_call y ≡ false → is_flipped s op dotted y ≡ false
unflipped s Mul false y other = ap (λ (b : Bool). not (is_in_lambda s) && b) other ∙ and-false (not (is_in_lambda s))
unflipped s Mul true y other = refl
unflipped s _ dotted y other = refl

pub never_flipped : (s : Scope) (op : BinOp) (dotted : Bool) (x : Expr) → ((name : Name) (plain : Bool) (xs : List Arg) → x.form ≡ views.Call name plain xs → ⊥) → is_flipped s op dotted (tree_of x) ≡ false
unfolding tree_of
never_flipped s op dotted x none = unflipped s op dotted (tree_of x) (other_form (head x.id.0 x.at) x.form none)

-- ---- the places of a stencil

place_form : (h : Head) (f : Form) → place_of (form_of h f) ≡ h.at
unfolding form_of
place_form h (forms.Number value) = refl
place_form h (forms.Truth holds) = refl
place_form h (forms.Text bytes) = refl
place_form h (forms.Name name) = refl
place_form h (forms.Column name) = refl
place_form h (forms.Field name part) = refl
place_form h (forms.Unary' op dotted p a) = refl
place_form h (forms.Binary' op dotted p a q b) = refl
place_form h (forms.Index' p a q b) = refl
place_form h (forms.Call' name plain p xs) = refl

pub refused_reach : (x y : Expr) (bracket : Place) (e : CheckError) → Refuses (reach_break x.at bracket (distance_of (tree_of y))) e → Refuses (reach_break (place_of (tree_of x)) bracket (distance_of (tree_of y))) e
unfolding tree_of
refused_reach x y bracket e h = refused_as _ _ e (ap (λ (at : Place). reach_break at bracket (distance_of (tree_of y))) (place_form (head x.id.0 x.at) x.form)) h
