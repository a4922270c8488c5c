-- What is tested of an argument, by what is meant where it stands.
use Rattle.std.proofs.Common.{◌≡◌, ℕ, length, List, [], ◌∷◌, Bool, true, false, not, true≢false, Option, Some, None, Result, refl, sym, ap, subst, ◌∙◌, arith}
use Rattle.std.specs.Prelude.{◌==◌, OnOk}
use Rattle.std.specs.List.{list_all}
use Rattle.std.specs.Option.{option_or}
use Rattle.hp_word.specs.declared.place.Place.{Place}
use Rattle.hp_word.specs.declared.name.Name.{Name}
use Rattle.hp_script.specs.declared.argument.Argument.{Argument}
use Rattle.hp_script.specs.declared.argument.Argument.TheVariants.{Body, Text, Column, Given, Measure}
use Rattle.hp_script.specs.declared.function.Function.{Function}
use Rattle.hp_script.specs.declared.function.Function.TheVariants as function
use Rattle.hp_script.specs.declared.rule.Rule.TheVariants.{WrongType, UnknownColumn, DoubleColumn}
use Rattle.hp_script.specs.declared.rule.Refusal.{Refusal}
use Rattle.hp_script.specs.declared.tree.Expr.{Expr}
use Rattle.hp_script.specs.declared.tree.Form.{Form}
use Rattle.hp_script.specs.declared.tree.Form.TheVariants as forms
use Rattle.hp_script.specs.declared.typed.Shape.{Shape}
use Rattle.hp_script.specs.declared.typed.ReadSpec.{ReadSpec}
use Rattle.hp_script.specs.Breaks.{broken, unless, plain_break, range_break, lambda_break, named_break, measure_break, names_among, new_break, column_known, CallSoFar}
use Rattle.hp_script.specs.Entries.{plain_entries, named_entries, no_shapes, files_in, files_among}
use Rattle.hp_script.specs.Mirror as mirror
use Rattle.hp_script.specs.Mirror.{Tree, Head, head, tree_of, form_of}
use Rattle.hp_script.specs.Scope.{Scope, Role, has, has_column, with_parameter, with_columns}
use Rattle.hp_script.specs.Typing.{Wanted, an_interval, a_lambda, a_text, a_column, a_given, a_measure, nothing, role_wanted, inside, columns_for_mask, value_or_misfit, given_or_misfit, plain_argument, lambda_argument, named_argument}
use Rattle.hp_script.specs.Valued.{is_measure}
use Rattle.hp_types.specs.Answers.{Refuses, Tells, Gives, Grew}
use Rattle.hp_types.specs.Known.{wanted_seen}
use Rattle.hp_types.specs.declared.error.CheckError.{CheckError}
use Rattle.hp_types.specs.declared.found.Found.{Found}
use Rattle.hp_types.specs.declared.scope.ParameterRole.{ParameterRole}
use Rattle.hp_types.specs.declared.wanted.Meant.{Meant}
use Rattle.hp_types.specs.declared.wanted.Meant.TheVariants as meant
use Rattle.hp_script.specs.Walk.{break_of, entries_of, found_of, shape_of}
use Rattle.hp_types.proofs.ArgumentForms.{refused_as, refused_first, refused_next, both_pass, gives_as}

-- ---- forms that are no more than their name

pub by_form : (x : Expr) (f : Form) → x.form ≡ f → tree_of x ≡ form_of (head x.id.0 x.at) f
unfolding tree_of
by_form x f is = ap (form_of (head x.id.0 x.at)) is

text_at : (x : Expr) (n : Name) → x.form ≡ forms.Text n → tree_of x ≡ mirror.text (head x.id.0 x.at) n.bytes
unfolding form_of
text_at x n is = by_form x _ is

column_at : (x : Expr) (n : Name) → x.form ≡ forms.Column n → tree_of x ≡ mirror.column (head x.id.0 x.at) n.bytes
unfolding form_of
column_at x n is = by_form x _ is

-- ---- ranges

pub range_meant : (w : Wanted) (at : Place) (tested : Option Refusal) → an_interval ≡ w → range_break w at tested ≡ tested
unfolding range_break
range_meant w at tested is = rw (← is) refl

pub no_range : (m : Meant) (w : Wanted) (at : Place) (tested : Option Refusal) → wanted_seen m ≡ w → (m ≡ meant.Interval → ⊥) → range_break w at tested ≡ broken at WrongType
unfolding range_break
no_range meant.Value w at tested is other = rw (← is) refl
no_range meant.Interval w at tested is other = absurd (other refl)
no_range (meant.Lambda role) w at tested is other = rw (← is) refl
no_range meant.Text w at tested is other = rw (← is) refl
no_range (meant.Column frames) w at tested is other = rw (← is) refl
no_range meant.Given w at tested is other = rw (← is) refl
no_range (meant.Measure frames) w at tested is other = rw (← is) refl
no_range meant.Nothing w at tested is other = rw (← is) refl

-- ---- lambdas

pub lambda_meant : (w : Wanted) (role : Role) (at : Place) (tested : Option Refusal) → a_lambda role ≡ w → lambda_break w at tested ≡ tested
unfolding lambda_break
lambda_meant w role at tested is = rw (← is) refl

pub no_lambda : (m : Meant) (w : Wanted) (at : Place) (tested : Option Refusal) → wanted_seen m ≡ w → ((role : ParameterRole) → m ≡ meant.Lambda role → ⊥) → lambda_break w at tested ≡ broken at WrongType
unfolding lambda_break
no_lambda meant.Value w at tested is other = rw (← is) refl
no_lambda meant.Interval w at tested is other = rw (← is) refl
no_lambda (meant.Lambda role) w at tested is other = absurd (other role refl)
no_lambda meant.Text w at tested is other = rw (← is) refl
no_lambda (meant.Column frames) w at tested is other = rw (← is) refl
no_lambda meant.Given w at tested is other = rw (← is) refl
no_lambda (meant.Measure frames) w at tested is other = rw (← is) refl
no_lambda meant.Nothing w at tested is other = rw (← is) refl

-- inside the lambda
pub inside_lambda : (s inner : Scope) (p : List ℕ) (w : Wanted) (role : Role) → a_lambda role ≡ w → inner ≡ with_parameter s p role → with_parameter s p (role_wanted w) ≡ inner
inside_lambda s inner p w role is so = ap (λ (v : Wanted). with_parameter s p (role_wanted v)) (sym is) ∙ sym so

pub lambda_refused : (s inner : Scope) (p : List ℕ) (w : Wanted) (role : Role) (at : Place) (x : Tree) (e : CheckError) → a_lambda role ≡ w → inner ≡ with_parameter s p role
    → Refuses (break_of inner x) e → Refuses (lambda_break w at (break_of (with_parameter s p (role_wanted w)) x)) e
lambda_refused s inner p w role at x e is so refused =
    refused_as _ _ e (lambda_meant w role at _ is ∙ ap (λ (i : Scope). break_of i x) (inside_lambda s inner p w role is so)) refused

pub lambda_tested : (s inner : Scope) (p : List ℕ) (w : Wanted) (role : Role) (at : Place) (x : Tree) (made : Shape) → a_lambda role ≡ w → inner ≡ with_parameter s p role
    → (break_of inner x ≡ None) × (shape_of inner x ≡ Some made)
    → (lambda_break w at (break_of (with_parameter s p (role_wanted w)) x) ≡ None) × (lambda_argument (shape_of (with_parameter s p (role_wanted w)) x) ≡ Body made)
lambda_tested s inner p w role at x made is so told = (
  lambda_meant w role at _ is ∙ ap (λ (i : Scope). break_of i x) (inside_lambda s inner p w role is so) ∙ told.0,
  ap lambda_argument (ap (λ (i : Scope). shape_of i x) (inside_lambda s inner p w role is so) ∙ told.1),
)

-- ---- plain arguments

pub plain_nothing : (w : Wanted) (here : CallSoFar) (x : Tree) (tested : Option Refusal) → nothing ≡ w → plain_break w here x tested ≡ broken here.at WrongType
unfolding plain_break
plain_nothing w here x tested is = rw (← is) refl

pub text_read : (x : Expr) (n copy : Name) (w : Wanted) (here : CallSoFar) (tested : Option Refusal) (found : Option Shape) → a_text ≡ w → x.form ≡ forms.Text n → copy ≡ n
    → (plain_break w here (tree_of x) tested ≡ None) × (plain_argument w (tree_of x) found ≡ Text copy)
unfolding plain_break plain_argument
text_read x n copy w here tested found is form same = (rw (← is, text_at x n form) refl, rw (← is, text_at x n form, same) refl)

pub text_entries : (s : Scope) (x : Expr) (n : Name) (w : Wanted) → a_text ≡ w → x.form ≡ forms.Text n → plain_entries w (tree_of x) (entries_of s (tree_of x)) ≡ None ∷ []
unfolding plain_entries found_of
text_entries s x n w is form = rw (← is, text_at x n form) refl

pub text_files : (x : Expr) (n : Name) → x.form ≡ forms.Text n → files_in (tree_of x) ≡ []
unfolding files_in
text_files x n form = rw (text_at x n form) refl

pub no_text : (x : Expr) (n : Name) (w : Wanted) (here : CallSoFar) (tested : Option Refusal) → a_text ≡ w → x.form ≡ forms.Column n
    → plain_break w here (tree_of x) tested ≡ broken x.at WrongType
unfolding plain_break
no_text x n w here tested is form = rw (← is, column_at x n form) refl

pub column_tests : (x : Expr) (n : Name) (bytes : List ℕ) (frames : List (List Name)) (w : Wanted) (here : CallSoFar) (tested : Option Refusal)
    → a_column frames ≡ w → x.form ≡ forms.Column n → bytes ≡ n.bytes
    → plain_break w here (tree_of x) tested ≡ option_or (column_known x.at bytes frames) (new_break x.at bytes here.before)
unfolding plain_break
column_tests x n bytes frames w here tested is form same = rw (← is, column_at x n form, same) refl

pub column_unknown : (x : Expr) (n : Name) (bytes : List ℕ) (frames : List (List Name)) (known : Bool) (w : Wanted) (here : CallSoFar) (tested : Option Refusal) (e : CheckError)
    → a_column frames ≡ w → x.form ≡ forms.Column n → bytes ≡ n.bytes → known ≡ list_all (has_column bytes) frames
    → Refuses (unless known x.at UnknownColumn) e → Refuses (plain_break w here (tree_of x) tested) e
column_unknown x n bytes frames known w here tested e is form same so refused =
    refused_as _ _ e (column_tests x n bytes frames w here tested is form same)
    (refused_first (column_known x.at bytes frames) _ e (refused_as _ _ e (ap (λ (b : Bool). unless b x.at UnknownColumn) (sym so)) refused))

pub column_again : (x : Expr) (n : Name) (bytes again : List ℕ) (frames : List (List Name)) (known taken : Bool) (w : Wanted) (here : CallSoFar) (tested : Option Refusal) (e : CheckError)
    → a_column frames ≡ w → x.form ≡ forms.Column n → bytes ≡ n.bytes → known ≡ list_all (has_column bytes) frames → unless known x.at UnknownColumn ≡ None
    → again ≡ n.bytes → taken ≡ has again (names_among here.before)
    → Refuses (unless (not taken) x.at DoubleColumn) e → Refuses (plain_break w here (tree_of x) tested) e
column_again x n bytes again frames known taken w here tested e is form same so passed same_too so_too refused =
    refused_as _ _ e (column_tests x n bytes frames w here tested is form same)
    (refused_next (column_known x.at bytes frames) _ e (ap (λ (b : Bool). unless b x.at UnknownColumn) (sym so) ∙ passed)
    (refused_as _ _ e (ap (λ (b : Bool). unless (not b) x.at DoubleColumn) (sym (so_too ∙ ap (λ (t : List ℕ). has t (names_among here.before)) (same_too ∙ sym same)))) refused))

pub column_read : (x : Expr) (n copy : Name) (bytes again : List ℕ) (frames : List (List Name)) (known taken : Bool) (w : Wanted) (here : CallSoFar) (tested : Option Refusal) (found : Option Shape)
    → a_column frames ≡ w → x.form ≡ forms.Column n → bytes ≡ n.bytes → known ≡ list_all (has_column bytes) frames → unless known x.at UnknownColumn ≡ None
    → again ≡ n.bytes → taken ≡ has again (names_among here.before) → unless (not taken) x.at DoubleColumn ≡ None → copy ≡ n
    → (plain_break w here (tree_of x) tested ≡ None) × (plain_argument w (tree_of x) found ≡ Column copy)
unfolding plain_argument
column_read x n copy bytes again frames known taken w here tested found is form same so passed same_too so_too passed_too copied = (
  column_tests x n bytes frames w here tested is form same
      ∙ both_pass (column_known x.at bytes frames) (new_break x.at bytes here.before) (ap (λ (b : Bool). unless b x.at UnknownColumn) (sym so) ∙ passed)
      (ap (λ (b : Bool). unless (not b) x.at DoubleColumn) (sym (so_too ∙ ap (λ (t : List ℕ). has t (names_among here.before)) (same_too ∙ sym same))) ∙ passed_too),
  rw (← is, column_at x n form, copied) refl,
)

pub column_entries : (x : Expr) (n : Name) (frames : List (List Name)) (w : Wanted) (parts : List (Option Shape)) → a_column frames ≡ w → x.form ≡ forms.Column n → plain_entries w (tree_of x) parts ≡ None ∷ []
unfolding plain_entries
column_entries x n frames w parts is form = rw (← is, column_at x n form) refl

pub column_files : (x : Expr) (n : Name) → x.form ≡ forms.Column n → files_in (tree_of x) ≡ []
unfolding files_in
column_files x n form = rw (column_at x n form) refl

-- A plain argument that is tested as a value.
pub record AsValue (w : Wanted) (x : Tree) : Type 0 where
  pub breaks : (here : CallSoFar) (tested : Option Refusal) → plain_break w here x tested ≡ tested
  pub meaning : (found : Option Shape) → plain_argument w x found ≡ value_or_misfit found
  pub entries : (parts : List (Option Shape)) → plain_entries w x parts ≡ parts

text_value : (h : Head) (f : Form) → ((n : Name) → f ≡ forms.Text n → ⊥) → ((n : Name) → f ≡ forms.Column n → ⊥) → AsValue a_text (form_of h f)
unfolding form_of plain_break plain_argument plain_entries
text_value h (forms.Text n) no_text no_column = absurd (no_text n refl)
text_value h (forms.Column n) no_text no_column = absurd (no_column n refl)
text_value h f no_text no_column = record { breaks = λ here tested. refl; meaning = λ found. refl; entries = λ parts. refl }

column_value : (h : Head) (f : Form) (frames : List (List Name)) → ((n : Name) → f ≡ forms.Column n → ⊥) → AsValue (a_column frames) (form_of h f)
unfolding form_of plain_break plain_argument plain_entries
column_value h (forms.Column n) frames no_column = absurd (no_column n refl)
column_value h f frames no_column = record { breaks = λ here tested. refl; meaning = λ found. refl; entries = λ parts. refl }

pub value_for_text : (x : Expr) (w : Wanted) → a_text ≡ w → ((n : Name) → x.form ≡ forms.Text n → ⊥) → ((n : Name) → x.form ≡ forms.Column n → ⊥) → AsValue w (tree_of x)
unfolding tree_of
value_for_text x w is no_text no_column = subst (λ (v : Wanted). AsValue v (tree_of x)) is (text_value (head x.id.0 x.at) x.form no_text no_column)

pub value_for_column : (x : Expr) (frames : List (List Name)) (w : Wanted) → a_column frames ≡ w → ((n : Name) → x.form ≡ forms.Column n → ⊥) → AsValue w (tree_of x)
unfolding tree_of
value_for_column x frames w is no_column = subst (λ (v : Wanted). AsValue v (tree_of x)) is (column_value (head x.id.0 x.at) x.form frames no_column)

pub value_for_other : (m : Meant) (w : Wanted) (x : Tree) → wanted_seen m ≡ w → (m ≡ meant.Text → ⊥) → ((frames : _) → m ≡ meant.Column frames → ⊥) → (m ≡ meant.Nothing → ⊥) → AsValue w x
unfolding plain_break plain_argument plain_entries
value_for_other meant.Value w x is no_text no_column some = subst (λ (v : Wanted). AsValue v x) is (record { breaks = λ here tested. refl; meaning = λ found. refl; entries = λ parts. refl })
value_for_other meant.Interval w x is no_text no_column some = subst (λ (v : Wanted). AsValue v x) is (record { breaks = λ here tested. refl; meaning = λ found. refl; entries = λ parts. refl })
value_for_other (meant.Lambda role) w x is no_text no_column some = subst (λ (v : Wanted). AsValue v x) is (record { breaks = λ here tested. refl; meaning = λ found. refl; entries = λ parts. refl })
value_for_other meant.Text w x is no_text no_column some = absurd (no_text refl)
value_for_other (meant.Column frames) w x is no_text no_column some = absurd (no_column frames refl)
value_for_other meant.Given w x is no_text no_column some = subst (λ (v : Wanted). AsValue v x) is (record { breaks = λ here tested. refl; meaning = λ found. refl; entries = λ parts. refl })
value_for_other (meant.Measure frames) w x is no_text no_column some = subst (λ (v : Wanted). AsValue v x) is (record { breaks = λ here tested. refl; meaning = λ found. refl; entries = λ parts. refl })
value_for_other meant.Nothing w x is no_text no_column some = absurd (some refl)

-- ---- values of filters

pub inside_mask : (s inner : Scope) (f : Function) (before : List Argument) (empty : Bool) (columns : Option (List Name)) → f ≡ function.Filter → empty ≡ (length before == 0) → empty ≡ false
    → columns ≡ columns_for_mask before → inner ≡ with_columns s columns → inside s f before ≡ inner
unfolding inside
inside_mask s inner f [] empty columns is so some same then = absurd (true≢false (sym so ∙ some))
inside_mask s inner f (x ∷ before) empty columns is so some same then = rw is (ap (with_columns s) (sym same) ∙ sym then)

pub inside_first : (s : Scope) (f : Function) (before : List Argument) (empty : Bool) → f ≡ function.Filter → empty ≡ (length before == 0) → empty ≡ true → inside s f before ≡ s
unfolding inside
inside_first s f [] empty is so none = rw is refl
inside_first s f (x ∷ before) empty is so none = absurd (grind arith)

pub inside_other : (s : Scope) (f : Function) (before : List Argument) → (f ≡ function.Filter → ⊥) → inside s f before ≡ s
unfolding inside
inside_other s function.Filter before other = absurd (other refl)
inside_other s f before other = refl

pub told_inside : (s inner : Scope) (x : Tree) (r : Result Shape CheckError) → s ≡ inner → Tells (break_of inner x) (shape_of inner x) r → Tells (break_of s x) (shape_of s x) r
told_inside s inner x r same told = subst (λ (i : Scope). Tells (break_of i x) (shape_of i x) r) (sym same) told

pub grew_inside : (s inner : Scope) (x : Tree) (start new : Found) (files : List ReadSpec) (r : Result Shape CheckError) → s ≡ inner
    → OnOk r (Grew start new (entries_of inner x) files) → OnOk r (Grew start new (entries_of s x) files)
grew_inside s inner x start new files r same grew = subst (λ (i : Scope). OnOk r (Grew start new (entries_of i x) files)) (sym same) grew

-- ---- named arguments

pub named_nothing : (w : Wanted) (here : CallSoFar) (name : List ℕ) (at : Place) (x : Tree) (tested : Option Refusal) → nothing ≡ w → named_break w here name at x tested ≡ broken here.at WrongType
unfolding named_break
named_nothing w here name at x tested is = rw (← is) refl

-- where no name is meant
pub no_name : (m : Meant) (w : Wanted) (here : CallSoFar) (name : List ℕ) (at : Place) (x : Tree) (tested : Option Refusal) → wanted_seen m ≡ w
    → (m ≡ meant.Given → ⊥) → ((frames : _) → m ≡ meant.Measure frames → ⊥) → (m ≡ meant.Nothing → ⊥) → named_break w here name at x tested ≡ option_or tested (broken at WrongType)
unfolding named_break
no_name meant.Value w here name at x tested is no_given no_measure some = rw (← is) refl
no_name meant.Interval w here name at x tested is no_given no_measure some = rw (← is) refl
no_name (meant.Lambda role) w here name at x tested is no_given no_measure some = rw (← is) refl
no_name meant.Text w here name at x tested is no_given no_measure some = rw (← is) refl
no_name (meant.Column frames) w here name at x tested is no_given no_measure some = rw (← is) refl
no_name meant.Given w here name at x tested is no_given no_measure some = absurd (no_given refl)
no_name (meant.Measure frames) w here name at x tested is no_given no_measure some = absurd (no_measure frames refl)
no_name meant.Nothing w here name at x tested is no_given no_measure some = absurd (some refl)

-- A named argument that is tested as a value.
pub record GivesValue (w : Wanted) (x : Tree) : Type 0 where
  pub breaks : (here : CallSoFar) (name : List ℕ) (at : Place) (tested : Option Refusal) → named_break w here name at x tested ≡ option_or tested (new_break at name here.before)
  pub meaning : (name : List ℕ) (found : Option Shape) → named_argument w name x found ≡ given_or_misfit name found
  pub entries : (parts : List (Option Shape)) → named_entries w x parts ≡ parts

pub given_meant : (w : Wanted) (x : Tree) → a_given ≡ w → GivesValue w x
unfolding named_break named_argument named_entries
given_meant w x is = subst (λ (v : Wanted). GivesValue v x) is (record { breaks = λ here name at tested. refl; meaning = λ name found. refl; entries = λ parts. refl })

pub measure_meant : (w : Wanted) (frames : List (List Name)) (x : Tree) → a_measure frames ≡ w → is_measure x ≡ false → GivesValue w x
unfolding named_break named_argument named_entries
measure_meant w frames x is other =
    subst (λ (v : Wanted). GivesValue v x) is (record { breaks = λ here name at tested. rw other refl; meaning = λ name found. rw other refl; entries = λ parts. rw other refl })

pub given_refused : (w : Wanted) (here : CallSoFar) (name : List ℕ) (at : Place) (x : Tree) (tested : Option Refusal) (e : CheckError) → GivesValue w x
    → Refuses tested e → Refuses (named_break w here name at x tested) e
given_refused w here name at x tested e g refused = refused_as _ _ e (g.breaks here name at tested) (refused_first tested (new_break at name here.before) e refused)

pub given_tested : (w : Wanted) (here : CallSoFar) (name : Name) (at : Place) (x : Tree) (tested : Option Refusal) (found : Option Shape) (shape : Shape) (r : Result Argument CheckError) → GivesValue w x
    → (tested ≡ None) × (found ≡ Some shape) → Gives (new_break at name.bytes here.before) (Given name shape) r
    → Gives (named_break w here name.bytes at x tested) (named_argument w name.bytes x found) r
given_tested w here name at x tested found shape r g told given =
    gives_as (named_break w here name.bytes at x tested) (new_break at name.bytes here.before) (named_argument w name.bytes x found) (Given name shape) r
    (g.breaks here name.bytes at tested ∙ ap (λ (t : Option Refusal). option_or t (new_break at name.bytes here.before)) told.0) (g.meaning name.bytes found ∙ rw told.1 refl) given

-- ---- measures

pub measure_tests : (w : Wanted) (frames : List (List Name)) (here : CallSoFar) (name : List ℕ) (at : Place) (x : Tree) (tested : Option Refusal) → a_measure frames ≡ w → is_measure x ≡ true
    → named_break w here name at x tested ≡ option_or (measure_break frames x) (new_break at name here.before)
unfolding named_break
measure_tests w frames here name at x tested is so = rw (← is, so) refl

pub measure_is : (w : Wanted) (frames : List (List Name)) (name : Name) (x : Tree) (found : Option Shape) → a_measure frames ≡ w → is_measure x ≡ true → named_argument w name.bytes x found ≡ Measure name
unfolding named_argument
measure_is w frames name x found is so = rw (← is, so) refl

pub measure_entries : (w : Wanted) (frames : List (List Name)) (x : Tree) (parts : List (Option Shape)) → a_measure frames ≡ w → is_measure x ≡ true → named_entries w x parts ≡ no_shapes x
unfolding named_entries
measure_entries w frames x parts is so = rw (← is, so) refl

pub measure_files : (x : Tree) → is_measure x ≡ true → files_in x ≡ []
unfolding files_in files_among
measure_files (mirror.call h f false (mirror.plain (mirror.column g c) mirror.none)) so = refl
measure_files (mirror.call h f false mirror.none) so = refl
measure_files x so = absurd (true≢false (sym so))
