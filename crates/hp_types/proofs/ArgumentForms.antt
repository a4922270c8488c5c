-- The arguments of a call: one before the others, and each by its form.
use Rattle.std.proofs.Common.{◌≡◌, ℕ, suc, ◌+◌, ◌<◌, ◌≤◌, length, get_or, drop, List, [], ◌∷◌, ◌++◌, Option, Some, None, Result, Ok, Err, refl, sym, ap, subst, ◌∙◌, append_assoc, append-nil, arith}
use Rattle.std.proofs.Math.Seq.{drop-cons}
use Rattle.std.proofs.lemmas.List.{drop_all}
use Rattle.std.specs.Prelude.{OnOk}
use Rattle.std.specs.Option.{option_or}
use Rattle.std.specs.Result.{IsErrAnd}
use Rattle.hp_word.specs.declared.place.Place.{Place}
use Rattle.hp_word.specs.declared.name.Name.{Name}
use Rattle.hp_script.specs.declared.argument.Argument.{Argument}
use Rattle.hp_script.specs.declared.function.Function.{Function}
use Rattle.hp_script.specs.declared.function.Function.TheVariants as function
use Rattle.hp_script.specs.declared.rule.Rule.{Rule}
use Rattle.hp_script.specs.declared.rule.Refusal.{Refusal}
use Rattle.hp_script.specs.declared.tree.Expr.{Expr}
use Rattle.hp_script.specs.declared.tree.Arg.{Arg}
use Rattle.hp_script.specs.declared.tree.Arg.TheVariants as arg
use Rattle.hp_script.specs.declared.tree.Arg.TheViews as views
use Rattle.hp_script.specs.declared.typed.Shape.{Shape}
use Rattle.hp_script.specs.declared.typed.ReadSpec.{ReadSpec}
use Rattle.hp_script.specs.Breaks.{broken, plain_break, range_break, lambda_break, named_break, so_far}
use Rattle.hp_script.specs.Entries.{plain_entries, named_entries, files_in, files_among}
use Rattle.hp_script.specs.Mirror as mirror
use Rattle.hp_script.specs.Mirror.{Args, tree_of, args_of, arg_of}
use Rattle.hp_script.specs.Scope.{Scope, with_parameter}
use Rattle.hp_script.specs.Typing.{wanted, role_wanted, inside, plain_argument, range_argument, lambda_argument, named_argument}
use Rattle.hp_script.proofs.MirrorLemmas.{args_none, args_plain, args_range, args_lambda, args_named}
use Rattle.hp_types.specs.Answers.{Refuses, Gives, GivesNext, Grew}
use Rattle.hp_types.specs.declared.error.CheckError.{CheckError}
use Rattle.hp_types.specs.declared.error.CheckError.TheVariants.{Refused, NoMemory}
use Rattle.hp_types.specs.declared.found.Found.{Found}
use Rattle.hp_script.specs.Walk.{break_of, entries_of, shape_of, found_of, in_turn, site, finds_of, found_among, entries_among as walked_among}
use Rattle.hp_script.proofs.Turns.{arguments, array_first, array_first_break, breaks_among, entries_from, lambda_entries}

-- ---- answers

pub option_or_none : {A : Type 0} (first : Option A) → option_or first None ≡ first
option_or_none None = refl
option_or_none (Some a) = refl

pub option_or_assoc : {A : Type 0} (first second : Option A) → option_or first second ≡ option_or (option_or first None) second
option_or_assoc None second = refl
option_or_assoc (Some a) second = refl

option_or_inner : {A : Type 0} (first second : Option A) → option_or first second ≡ option_or first (option_or second None)
option_or_inner None second = sym (option_or_none second)
option_or_inner (Some a) second = refl

pub refused_as : (first second : Option Refusal) (e : CheckError) → first ≡ second → Refuses second e → Refuses first e
refused_as first second e same h = subst (λ (test : Option Refusal). Refuses test e) (sym same) h

pub refused_first : (first rest : Option Refusal) (e : CheckError) → Refuses first e → Refuses (option_or first rest) e
refused_first first rest (Refused refusal) h = ap (λ (test : Option Refusal). option_or test rest) h
refused_first first rest NoMemory h = h

pub refused_next : (first rest : Option Refusal) (e : CheckError) → first ≡ None → Refuses rest e → Refuses (option_or first rest) e
refused_next first rest e none h = refused_as (option_or first rest) rest e (ap (λ (test : Option Refusal). option_or test rest) none) h

pub refused_by : (first : Option Refusal) (at : Place) (rule : Rule) (e : CheckError) → first ≡ broken at rule → e ≡ Refused (record { at = at; rule = rule }) → Refuses first e
refused_by first at rule e same is = subst (λ (d : CheckError). Refuses first d) (sym is) same

pub both_pass : (first rest : Option Refusal) → first ≡ None → rest ≡ None → option_or first rest ≡ None
both_pass first rest none too = ap (λ (test : Option Refusal). option_or test rest) none ∙ too

-- what is answered where a part was refused
pub gives_exit : {A : Type 0} (first : Option Refusal) (meaning : A) (r : Result A CheckError) (e : CheckError) → IsErrAnd r (λ d. d ≡ e) → Refuses first e → Gives first meaning r
gives_exit first meaning (Ok a) e h refused = absurd h
gives_exit first meaning (Err d) e h refused = subst (λ (f : CheckError). Refuses first f) (sym h) refused

pub gives_as : {A : Type 0} (first second : Option Refusal) (meaning other : A) (r : Result A CheckError) → first ≡ second → meaning ≡ other → Gives second other r → Gives first meaning r
gives_as first second meaning other (Ok a) same too h = (same ∙ h.0, too ∙ h.1)
gives_as first second meaning other (Err e) same too h = refused_as first second e same h

pub next_given : {A : Type 0} (first second : Option Refusal) (before meanings : List A) (meaning : A) (r : Result A CheckError) → first ≡ second → meanings ≡ before ++ meaning ∷ [] → Gives second meaning r → GivesNext first before meanings r
next_given first second before meanings meaning (Ok a) same too h = (same ∙ h.0, too ∙ ap (λ (y : _). before ++ y ∷ []) h.1)
next_given first second before meanings meaning (Err e) same too h = refused_as first second e same h

pub grew_as : {A : Type 0} (r : Result A CheckError) (start new : Found) (entries parts : List (Option Shape)) (files reads : List ReadSpec)
    → entries ≡ parts → files ≡ reads → OnOk r (Grew start new parts reads) → OnOk r (Grew start new entries files)
grew_as (Ok a) start new entries parts files reads same too h =
    (h.0 ∙ ap (λ (t : List (Option Shape)). start.shapes ++ t) (sym same), h.1 ∙ ap (λ (t : List ReadSpec). start.reads ++ t) (sym too))
grew_as (Err e) start new entries parts files reads same too h = tt

pub grew_always : {A : Type 0} (r : Result A CheckError) (start new : Found) (entries parts : List (Option Shape)) (files : List ReadSpec)
    → entries ≡ parts → Grew start new parts files → OnOk r (Grew start new entries files)
grew_always (Ok a) start new entries parts files same h = (h.0 ∙ ap (λ (t : List (Option Shape)). start.shapes ++ t) (sym same), h.1)
grew_always (Err e) start new entries parts files same h = tt

-- an expression that has no value
pub grew_none : (start new : Found) (entries : List (Option Shape)) (files : List ReadSpec)
    → entries ≡ None ∷ [] → files ≡ [] → new.shapes ≡ start.shapes ++ None ∷ [] → new.reads ≡ start.reads → Grew start new entries files
grew_none start new entries files same too shapes reads =
    (shapes ∙ ap (λ (t : List (Option Shape)). start.shapes ++ t) (sym same), reads ∙ sym (append-nil start.reads) ∙ ap (λ (t : List ReadSpec). start.reads ++ t) (sym too))

pub grew_nothing : (found : Found) (entries : List (Option Shape)) (files : List ReadSpec) → entries ≡ [] → files ≡ [] → Grew found found entries files
grew_nothing found entries files none too =
    (sym (ap (λ (t : List (Option Shape)). found.shapes ++ t) none ∙ append-nil found.shapes), sym (ap (λ (t : List ReadSpec). found.reads ++ t) too ∙ append-nil found.reads))

-- ---- an argument before the others

head_breaks : (s : Scope) (at : Place) (f : Function) (before : List Argument) (x : Arg) (rest : Args)
    → breaks_among s at f before (arg_of x rest) ≡ option_or (breaks_among s at f before (arg_of x mirror.none)) (breaks_among s at f (arguments s at f before (arg_of x mirror.none)) rest)
unfolding arg_of in_turn found_of
head_breaks s at f before (arg.Plain' id place form) rest = search option_or_assoc
head_breaks s at f before (arg.Range' id place form last_id last_at last) rest = search option_or_assoc
head_breaks s at f before (arg.Lambda' parameter id place form) rest = search option_or_assoc
head_breaks s at f before (arg.Named' name at_name id place form) rest = search option_or_assoc

head_meaning : (s : Scope) (at : Place) (f : Function) (before : List Argument) (x : Arg) (rest : Args) → arguments s at f before (arg_of x rest) ≡ arguments s at f (arguments s at f before (arg_of x mirror.none)) rest
unfolding arg_of in_turn found_of
head_meaning s at f before (arg.Plain' id place form) rest = refl
head_meaning s at f before (arg.Range' id place form last_id last_at last) rest = refl
head_meaning s at f before (arg.Lambda' parameter id place form) rest = refl
head_meaning s at f before (arg.Named' name at_name id place form) rest = refl

split_off : {A : Type 0} (p r : List A) → p ++ r ≡ (p ++ []) ++ r
split_off p r = ap (λ (t : List _). t ++ r) (sym (append-nil p))

head_entries : (s : Scope) (at : Place) (f : Function) (before : List Argument) (x : Arg) (rest : Args)
    → entries_from s at f before (arg_of x rest) ≡ entries_from s at f before (arg_of x mirror.none) ++ entries_from s at f (arguments s at f before (arg_of x mirror.none)) rest
unfolding arg_of in_turn found_of
head_entries s at f before (arg.Plain' id place form) rest = search split_off
head_entries s at f before (arg.Range' id place form last_id last_at last) rest = search split_off
head_entries s at f before (arg.Lambda' parameter id place form) rest = search split_off
head_entries s at f before (arg.Named' name at_name id place form) rest = search split_off

head_files : (x : Arg) (rest : Args) → files_among (arg_of x rest) ≡ files_among (arg_of x mirror.none) ++ files_among rest
unfolding arg_of files_among
head_files (arg.Plain' id place form) rest = search split_off
head_files (arg.Range' id place form last_id last_at last) rest = search split_off
head_files (arg.Lambda' parameter id place form) rest = search split_off
head_files (arg.Named' name at_name id place form) rest = search split_off

pub args_breaks : (s : Scope) (at : Place) (f : Function) (before : List Argument) (x : Arg) (rest : List Arg)
    → breaks_among s at f before (args_of (x ∷ rest)) ≡ option_or (breaks_among s at f before (args_of (x ∷ []))) (breaks_among s at f (arguments s at f before (args_of (x ∷ []))) (args_of rest))
unfolding args_of
args_breaks s at f before x rest = head_breaks s at f before x (args_of rest)

pub args_meaning : (s : Scope) (at : Place) (f : Function) (before : List Argument) (x : Arg) (rest : List Arg)
    → arguments s at f before (args_of (x ∷ rest)) ≡ arguments s at f (arguments s at f before (args_of (x ∷ []))) (args_of rest)
unfolding args_of
args_meaning s at f before x rest = head_meaning s at f before x (args_of rest)

pub args_entries : (s : Scope) (at : Place) (f : Function) (before : List Argument) (x : Arg) (rest : List Arg)
    → entries_from s at f before (args_of (x ∷ rest)) ≡ entries_from s at f before (args_of (x ∷ [])) ++ entries_from s at f (arguments s at f before (args_of (x ∷ []))) (args_of rest)
unfolding args_of
args_entries s at f before x rest = head_entries s at f before x (args_of rest)

pub args_files : (x : Arg) (rest : List Arg) → files_among (args_of (x ∷ rest)) ≡ files_among (args_of (x ∷ [])) ++ files_among (args_of rest)
unfolding args_of
args_files x rest = head_files x (args_of rest)

-- ---- the arguments of `map`, the first behind the others

last_breaks : (s : Scope) (at : Place) (x : Arg) (rest : Args)
    → array_first_break s at (arg_of x rest) ≡ option_or (breaks_among s at function.Map [] rest) (breaks_among s at function.Map (arguments s at function.Map [] rest) (arg_of x mirror.none))
unfolding arg_of in_turn found_of inside
last_breaks s at (arg.Plain' id place form) rest = search option_or_inner
last_breaks s at (arg.Range' id place form last_id last_at last) rest = search option_or_inner
last_breaks s at (arg.Lambda' parameter id place form) rest = search option_or_inner
last_breaks s at (arg.Named' name at_name id place form) rest = search option_or_inner

last_meaning : (s : Scope) (at : Place) (x : Arg) (rest : Args) → array_first s at (arg_of x rest) ≡ arguments s at function.Map (arguments s at function.Map [] rest) (arg_of x mirror.none)
unfolding arg_of in_turn found_of inside
last_meaning s at (arg.Plain' id place form) rest = refl
last_meaning s at (arg.Range' id place form last_id last_at last) rest = refl
last_meaning s at (arg.Lambda' parameter id place form) rest = refl
last_meaning s at (arg.Named' name at_name id place form) rest = refl

last_entries : (s : Scope) (at : Place) (x : Arg) (rest : Args)
    → lambda_entries s at (arg_of x rest) ≡ entries_from s at function.Map (arguments s at function.Map [] rest) (arg_of x mirror.none) ++ entries_from s at function.Map [] rest
unfolding arg_of in_turn found_of inside
last_entries s at (arg.Plain' id place form) rest = search split_off
last_entries s at (arg.Range' id place form last_id last_at last) rest = search split_off
last_entries s at (arg.Lambda' parameter id place form) rest = search split_off
last_entries s at (arg.Named' name at_name id place form) rest = search split_off

-- no argument
pub no_array : (s : Scope) (at : Place) (args : List Arg) → length args ≡ 0 → (array_first_break s at (args_of args) ≡ None) × (array_first s at (args_of args) ≡ [])
unfolding args_of in_turn found_of
no_array s at [] none = (refl, refl)
no_array s at (x ∷ rest) none = absurd (omega (arith, none))

pub no_entries : (s : Scope) (at : Place) (args : List Arg) → length args ≡ 0 → (lambda_entries s at (args_of args) ≡ []) × (files_among (args_of args) ≡ [])
unfolding args_of in_turn found_of files_among
no_entries s at [] none = (refl, refl)
no_entries s at (x ∷ rest) none = absurd (omega (arith, none))

-- the others are refused
pub others_refused : (s : Scope) (at : Place) (args rest : List Arg) (x : Arg) (e : CheckError) → args ≡ x ∷ rest
    → Refuses (breaks_among s at function.Map [] (args_of rest)) e → Refuses (array_first_break s at (args_of args)) e
unfolding args_of
others_refused s at args rest x e is refused =
    refused_as _ _ e (ap (λ (t : List Arg). array_first_break s at (args_of t)) is ∙ last_breaks s at x (args_of rest))
    (refused_first (breaks_among s at function.Map [] (args_of rest)) _ e refused)

-- the first is refused, behind these others
pub last_refused : (s : Scope) (at : Place) (args rest : List Arg) (x : Arg) (before : List Argument) (e : CheckError) → args ≡ x ∷ rest
    → breaks_among s at function.Map [] (args_of rest) ≡ None → arguments s at function.Map [] (args_of rest) ≡ before
    → Refuses (breaks_among s at function.Map before (args_of (x ∷ []))) e → Refuses (array_first_break s at (args_of args)) e
unfolding args_of
last_refused s at args rest x before e is none meaning refused =
    refused_as _ _ e (ap (λ (t : List Arg). array_first_break s at (args_of t)) is ∙ last_breaks s at x (args_of rest))
    (refused_next (breaks_among s at function.Map [] (args_of rest)) _ e none
    (refused_as _ _ e (ap (λ (t : List Argument). breaks_among s at function.Map t (args_of (x ∷ []))) meaning) refused))

pub array_tested : (s : Scope) (at : Place) (args rest : List Arg) (x : Arg) (before after : List Argument) → args ≡ x ∷ rest
    → breaks_among s at function.Map [] (args_of rest) ≡ None → arguments s at function.Map [] (args_of rest) ≡ before
    → breaks_among s at function.Map before (args_of (x ∷ [])) ≡ None → arguments s at function.Map before (args_of (x ∷ [])) ≡ after
    → (array_first_break s at (args_of args) ≡ None) × (array_first s at (args_of args) ≡ after)
unfolding args_of
array_tested s at args rest x before after is none meaning none_too meaning_too = (
  ap (λ (t : List Arg). array_first_break s at (args_of t)) is ∙ last_breaks s at x (args_of rest)
      ∙ both_pass _ _ none (ap (λ (t : List Argument). breaks_among s at function.Map t (args_of (x ∷ []))) meaning ∙ none_too),
  ap (λ (t : List Arg). array_first s at (args_of t)) is ∙ last_meaning s at x (args_of rest)
      ∙ ap (λ (t : List Argument). arguments s at function.Map t (args_of (x ∷ []))) meaning ∙ meaning_too,
)

join_lists : {A : Type 0} (start mid new later empty front back : List A) → empty ≡ [] → later ≡ empty ++ back → mid ≡ start ++ front → new ≡ mid ++ later → new ≡ start ++ (front ++ back)
join_lists start mid new later empty front back none others first joined =
    joined ∙ ap (λ (t : List _). t ++ later) first ∙ ap (λ (t : List _). (start ++ front) ++ t) (others ∙ ap (λ (t : List _). t ++ back) none) ∙ append_assoc start front back

-- What was found for the others, apart, is put behind what was found for the first.
pub array_grew : (s : Scope) (at : Place) (args rest : List Arg) (x : Arg) (before : List Argument) (start empty later mid new : Found) → args ≡ x ∷ rest
    → arguments s at function.Map [] (args_of rest) ≡ before → (empty.shapes ≡ []) × (empty.reads ≡ [])
    → Grew empty later (entries_from s at function.Map [] (args_of rest)) (files_among (args_of rest))
    → Grew start mid (entries_from s at function.Map before (args_of (x ∷ []))) (files_among (args_of (x ∷ [])))
    → Grew mid new later.shapes later.reads
    → Grew start new (lambda_entries s at (args_of args)) (files_among (args_of args))
unfolding args_of
array_grew s at args rest x before start empty later mid new is meaning none others first joined = (
  join_lists start.shapes mid.shapes new.shapes later.shapes empty.shapes _ _ none.0 others.0 first.0 joined.0
      ∙ ap (λ (t : List (Option Shape)). start.shapes ++ t)
      (sym (ap (λ (t : List Arg). lambda_entries s at (args_of t)) is ∙ last_entries s at x (args_of rest)
      ∙ ap (λ (t : List Argument). entries_from s at function.Map t (args_of (x ∷ [])) ++ entries_from s at function.Map [] (args_of rest)) meaning)),
  join_lists start.reads mid.reads new.reads later.reads empty.reads _ _ none.1 others.1 first.1 joined.1
      ∙ ap (λ (t : List ReadSpec). start.reads ++ t) (sym (ap (λ (t : List Arg). files_among (args_of t)) is ∙ head_files x (args_of rest))),
)

-- ---- one after the other

-- What is known behind these arguments, in front of those that are left.
pub record Left (s : Scope) (at : Place) (f : Function) (whole : List Arg) (start now : Found) (before : List Argument) (rest : List Arg) : Type 0 where
  pub breaks : breaks_among s at f [] (args_of whole) ≡ breaks_among s at f before (args_of rest)
  pub meaning : arguments s at f [] (args_of whole) ≡ arguments s at f before (args_of rest)
  pub shapes : start.shapes ++ entries_from s at f [] (args_of whole) ≡ now.shapes ++ entries_from s at f before (args_of rest)
  pub reads : start.reads ++ files_among (args_of whole) ≡ now.reads ++ files_among (args_of rest)

moved : {A : Type 0} (start whole mid new front back both : List A) → start ++ whole ≡ mid ++ both → both ≡ front ++ back → new ≡ mid ++ front → start ++ whole ≡ new ++ back
moved start whole mid new front back both known split added =
    known ∙ ap (λ (t : List _). mid ++ t) split ∙ sym (append_assoc mid front back) ∙ ap (λ (t : List _). t ++ back) (sym added)

pub left_next : (s : Scope) (at : Place) (f : Function) (whole : List Arg) (start mid new : Found) (before : List Argument) (x : Arg) (after : List Argument) (rest : List Arg)
    → Left s at f whole start mid before (x ∷ rest)
    → breaks_among s at f before (args_of (x ∷ [])) ≡ None → arguments s at f before (args_of (x ∷ [])) ≡ after
    → Grew mid new (entries_from s at f before (args_of (x ∷ []))) (files_among (args_of (x ∷ [])))
    → Left s at f whole start new after rest
left_next s at f whole start mid new before x after rest l none meaning grew = record {
  breaks =
      l.breaks ∙ args_breaks s at f before x rest ∙ ap (λ (t : Option Refusal). option_or t (breaks_among s at f (arguments s at f before (args_of (x ∷ []))) (args_of rest))) none
      ∙ ap (λ (t : List Argument). breaks_among s at f t (args_of rest)) meaning;
  meaning = l.meaning ∙ args_meaning s at f before x rest ∙ ap (λ (t : List Argument). arguments s at f t (args_of rest)) meaning;
  shapes =
      moved start.shapes (entries_from s at f [] (args_of whole)) mid.shapes new.shapes _ _ _ l.shapes (args_entries s at f before x rest) grew.0
      ∙ ap (λ (t : List Argument). new.shapes ++ entries_from s at f t (args_of rest)) meaning;
  reads = moved start.reads (files_among (args_of whole)) mid.reads new.reads _ _ _ l.reads (args_files x rest) grew.1;
}

pub left_refused : (s : Scope) (at : Place) (f : Function) (whole : List Arg) (start mid : Found) (before : List Argument) (x : Arg) (rest : List Arg) (e : CheckError)
    → Left s at f whole start mid before (x ∷ rest) → Refuses (breaks_among s at f before (args_of (x ∷ []))) e → Refuses (breaks_among s at f [] (args_of whole)) e
left_refused s at f whole start mid before x rest e l refused =
    refused_as _ _ e (l.breaks ∙ args_breaks s at f before x rest) (refused_first (breaks_among s at f before (args_of (x ∷ []))) _ e refused)

pub left_end : (s : Scope) (at : Place) (f : Function) (whole : List Arg) (start now : Found) (before : List Argument)
    → Left s at f whole start now before [] → (breaks_among s at f [] (args_of whole) ≡ None) × (arguments s at f [] (args_of whole) ≡ before)
unfolding args_of in_turn found_of
left_end s at f whole start now before l = (l.breaks, l.meaning)

pub left_grew : (s : Scope) (at : Place) (f : Function) (whole : List Arg) (start now : Found) (before : List Argument)
    → Left s at f whole start now before [] → Grew start now (entries_from s at f [] (args_of whole)) (files_among (args_of whole))
unfolding args_of in_turn found_of files_among
left_grew s at f whole start now before l = (sym (l.shapes ∙ append-nil now.shapes), sym (l.reads ∙ append-nil now.reads))

-- ---- at a position

item_first : (xs : List Arg) (i : ℕ) (x : Arg) → i < length xs → x ≡ get_or xs i x → drop i xs ≡ x ∷ drop (i + 1) xs
item_first xs i x lt item =
    let next : suc i ≡ i + 1 = omega arith in
    drop-cons xs i x lt ∙ ap (λ (y : Arg). y ∷ drop (suc i) xs) (sym item) ∙ ap (λ (k : ℕ). x ∷ drop k xs) next

pub loop_refused : (s : Scope) (at : Place) (f : Function) (whole : List Arg) (start mid : Found) (before seen : List Argument) (i : ℕ) (x : Arg) (e : CheckError)
    → Left s at f whole start mid before (drop i whole) → i < length whole → x ≡ get_or whole i x → seen ≡ before
    → Refuses (breaks_among s at f seen (args_of (x ∷ []))) e → Refuses (breaks_among s at f [] (args_of whole)) e
loop_refused s at f whole start mid before seen i x e l lt item same refused =
    left_refused s at f whole start mid before x (drop (i + 1) whole) e (subst (λ (t : List Arg). Left s at f whole start mid before t) (item_first whole i x lt item) l)
    (subst (λ (t : List Argument). Refuses (breaks_among s at f t (args_of (x ∷ []))) e) same refused)

pub loop_next : (s : Scope) (at : Place) (f : Function) (whole : List Arg) (start mid new : Found) (before seen after : List Argument) (i : ℕ) (x : Arg)
    → Left s at f whole start mid before (drop i whole) → i < length whole → x ≡ get_or whole i x → seen ≡ before
    → (breaks_among s at f seen (args_of (x ∷ [])) ≡ None) × (arguments s at f seen (args_of (x ∷ [])) ≡ after)
    → Grew mid new (entries_from s at f seen (args_of (x ∷ []))) (files_among (args_of (x ∷ [])))
    → Left s at f whole start new after (drop (i + 1) whole)
loop_next s at f whole start mid new before seen after i x l lt item same told grew =
    left_next s at f whole start mid new seen x after (drop (i + 1) whole)
    (subst (λ (t : List Argument). Left s at f whole start mid t (x ∷ drop (i + 1) whole)) (sym same)
    (subst (λ (t : List Arg). Left s at f whole start mid before t) (item_first whole i x lt item) l)) told.0 told.1 grew

pub loop_end : (s : Scope) (at : Place) (f : Function) (whole : List Arg) (start now : Found) (before : List Argument) (i : ℕ)
    → Left s at f whole start now before (drop i whole) → length whole ≤ i → Left s at f whole start now before []
loop_end s at f whole start now before i l le = subst (λ (t : List Arg). Left s at f whole start now before t) (drop_all i whole le) l

-- ---- one argument by its form

one_plain : (a : Arg) (x : Expr) → a ≡ views.Plain x → args_of (a ∷ []) ≡ mirror.plain (tree_of x) mirror.none
one_plain a x is = rw is (args_plain x [] ∙ ap (mirror.plain (tree_of x)) args_none)

one_range : (a : Arg) (x y : Expr) → a ≡ views.Range x y → args_of (a ∷ []) ≡ mirror.range (tree_of x) (tree_of y) mirror.none
one_range a x y is = rw is (args_range x y [] ∙ ap (mirror.range (tree_of x) (tree_of y)) args_none)

one_lambda : (a : Arg) (p : Name) (x : Expr) → a ≡ views.Lambda p x → args_of (a ∷ []) ≡ mirror.lambda p.bytes (tree_of x) mirror.none
one_lambda a p x is = rw is (args_lambda p x [] ∙ ap (mirror.lambda p.bytes (tree_of x)) args_none)

one_named : (a : Arg) (name : Name) (place : Place) (x : Expr) → a ≡ views.Named name place x → args_of (a ∷ []) ≡ mirror.named name.bytes place (tree_of x) mirror.none
one_named a name place x is = rw is (args_named name place x [] ∙ ap (mirror.named name.bytes place (tree_of x)) args_none)

pub plain_next : (s : Scope) (at : Place) (f : Function) (before : List Argument) (a : Arg) (x : Expr) (r : Result Argument CheckError) → a ≡ views.Plain x
    → Gives (plain_break (wanted f before) (so_far f at before) (tree_of x) (break_of (inside s f before) (tree_of x))) (plain_argument (wanted f before) (tree_of x) (shape_of (inside s f before) (tree_of x))) r
    → GivesNext (breaks_among s at f before (args_of (a ∷ []))) before (arguments s at f before (args_of (a ∷ []))) r
unfolding in_turn found_of
plain_next s at f before a x r is told =
    next_given _ (plain_break (wanted f before) (so_far f at before) (tree_of x) (break_of (inside s f before) (tree_of x))) before _
    (plain_argument (wanted f before) (tree_of x) (shape_of (inside s f before) (tree_of x))) r (rw (one_plain a x is) (option_or_none _)) (rw (one_plain a x is) refl) told

pub plain_grew : (s : Scope) (at : Place) (f : Function) (before : List Argument) (a : Arg) (x : Expr) (start new : Found) (r : Result Argument CheckError) → a ≡ views.Plain x
    → OnOk r (Grew start new (plain_entries (wanted f before) (tree_of x) (entries_of (inside s f before) (tree_of x))) (files_in (tree_of x)))
    → OnOk r (Grew start new (entries_from s at f before (args_of (a ∷ []))) (files_among (args_of (a ∷ []))))
unfolding in_turn found_of files_among
plain_grew s at f before a x start new r is grew = grew_as r start new _ _ _ _ (rw (one_plain a x is) (append-nil _)) (rw (one_plain a x is) (append-nil _)) grew

pub range_next : (s : Scope) (at : Place) (f : Function) (before : List Argument) (a : Arg) (x y : Expr) (r : Result Argument CheckError) → a ≡ views.Range x y
    → Gives (range_break (wanted f before) at (option_or (break_of s (tree_of x)) (break_of s (tree_of y)))) (range_argument (shape_of s (tree_of x)) (shape_of s (tree_of y))) r
    → GivesNext (breaks_among s at f before (args_of (a ∷ []))) before (arguments s at f before (args_of (a ∷ []))) r
unfolding in_turn found_of
range_next s at f before a x y r is told =
    next_given _ (range_break (wanted f before) at (option_or (break_of s (tree_of x)) (break_of s (tree_of y)))) before _
    (range_argument (shape_of s (tree_of x)) (shape_of s (tree_of y))) r (rw (one_range a x y is) (option_or_none _)) (rw (one_range a x y is) refl) told

pub range_grew : (s : Scope) (at : Place) (f : Function) (before : List Argument) (a : Arg) (x y : Expr) (start new : Found) (r : Result Argument CheckError) → a ≡ views.Range x y
    → OnOk r (Grew start new (entries_of s (tree_of x) ++ entries_of s (tree_of y)) (files_in (tree_of x) ++ files_in (tree_of y)))
    → OnOk r (Grew start new (entries_from s at f before (args_of (a ∷ []))) (files_among (args_of (a ∷ []))))
unfolding in_turn found_of files_among
range_grew s at f before a x y start new r is grew = grew_as r start new _ _ _ _ (rw (one_range a x y is) (append-nil _)) (rw (one_range a x y is) (append-nil _)) grew

pub lambda_next : (s : Scope) (at : Place) (f : Function) (before : List Argument) (a : Arg) (p : Name) (x : Expr) (r : Result Argument CheckError) → a ≡ views.Lambda p x
    → Gives (lambda_break (wanted f before) at (break_of (with_parameter s p.bytes (role_wanted (wanted f before))) (tree_of x)))
    (lambda_argument (shape_of (with_parameter s p.bytes (role_wanted (wanted f before))) (tree_of x))) r
    → GivesNext (breaks_among s at f before (args_of (a ∷ []))) before (arguments s at f before (args_of (a ∷ []))) r
unfolding in_turn found_of
lambda_next s at f before a p x r is told =
    next_given _ (lambda_break (wanted f before) at (break_of (with_parameter s p.bytes (role_wanted (wanted f before))) (tree_of x))) before _
    (lambda_argument (shape_of (with_parameter s p.bytes (role_wanted (wanted f before))) (tree_of x))) r (rw (one_lambda a p x is) (option_or_none _)) (rw (one_lambda a p x is) refl) told

pub lambda_grew : (s : Scope) (at : Place) (f : Function) (before : List Argument) (a : Arg) (p : Name) (x : Expr) (start new : Found) (r : Result Argument CheckError) → a ≡ views.Lambda p x
    → OnOk r (Grew start new (entries_of (with_parameter s p.bytes (role_wanted (wanted f before))) (tree_of x)) (files_in (tree_of x)))
    → OnOk r (Grew start new (entries_from s at f before (args_of (a ∷ []))) (files_among (args_of (a ∷ []))))
unfolding in_turn found_of files_among
lambda_grew s at f before a p x start new r is grew = grew_as r start new _ _ _ _ (rw (one_lambda a p x is) (append-nil _)) (rw (one_lambda a p x is) (append-nil _)) grew

pub named_next : (s : Scope) (at : Place) (f : Function) (before : List Argument) (a : Arg) (name : Name) (place : Place) (x : Expr) (r : Result Argument CheckError) → a ≡ views.Named name place x
    → Gives (named_break (wanted f before) (so_far f at before) name.bytes place (tree_of x) (break_of (inside s f before) (tree_of x))) (named_argument (wanted f before) name.bytes (tree_of x) (shape_of (inside s f before) (tree_of x))) r
    → GivesNext (breaks_among s at f before (args_of (a ∷ []))) before (arguments s at f before (args_of (a ∷ []))) r
unfolding in_turn found_of
named_next s at f before a name place x r is told =
    next_given _ (named_break (wanted f before) (so_far f at before) name.bytes place (tree_of x) (break_of (inside s f before) (tree_of x))) before _
    (named_argument (wanted f before) name.bytes (tree_of x) (shape_of (inside s f before) (tree_of x))) r (rw (one_named a name place x is) (option_or_none _)) (rw (one_named a name place x is) refl) told

pub named_grew : (s : Scope) (at : Place) (f : Function) (before : List Argument) (a : Arg) (name : Name) (place : Place) (x : Expr) (start new : Found) (r : Result Argument CheckError) → a ≡ views.Named name place x
    → OnOk r (Grew start new (named_entries (wanted f before) (tree_of x) (entries_of (inside s f before) (tree_of x))) (files_in (tree_of x)))
    → OnOk r (Grew start new (entries_from s at f before (args_of (a ∷ []))) (files_among (args_of (a ∷ []))))
unfolding in_turn found_of files_among
named_grew s at f before a name place x start new r is grew = grew_as r start new _ _ _ _ (rw (one_named a name place x is) (append-nil _)) (rw (one_named a name place x is) (append-nil _)) grew

-- ---- in the order of tests

abbrev Told : Scope → Place → Function → Args → Result (List Argument) CheckError → Type 0
Told s at f xs r = Gives (found_among f (finds_of (site s at f) xs)).refusal (found_among f (finds_of (site s at f) xs)).arguments r

abbrev Added : Scope → Place → Function → Args → Found → Found → Result (List Argument) CheckError → List ReadSpec → Type 0
Added s at f xs start new r files = OnOk r (Grew start new (walked_among f (found_among f (finds_of (site s at f) xs))) files)

pub map_told : (s : Scope) (at : Place) (f : Function) (xs : Args) (r : Result (List Argument) CheckError) → f ≡ function.Map → Told s at function.Map xs r → Told s at f xs r
map_told s at f xs r is h = subst (λ (g : Function). Told s at g xs r) (sym is) h

pub map_added : (s : Scope) (at : Place) (f : Function) (xs : Args) (start new : Found) (r : Result (List Argument) CheckError) (files : List ReadSpec) → f ≡ function.Map
    → Added s at function.Map xs start new r files → Added s at f xs start new r files
map_added s at f xs start new r files is h = subst (λ (g : Function). Added s at g xs start new r files) (sym is) h

pub text_told : (s : Scope) (at : Place) (f : Function) (xs : Args) (r : Result (List Argument) CheckError) → (f ≡ function.Map → ⊥)
    → Gives (breaks_among s at f [] xs) (arguments s at f [] xs) r → Told s at f xs r
text_told s at function.Map xs r other h = absurd (other refl)
text_told s at f xs r other h = h

pub text_added : (s : Scope) (at : Place) (f : Function) (xs : Args) (start new : Found) (r : Result (List Argument) CheckError) (files : List ReadSpec) → (f ≡ function.Map → ⊥)
    → OnOk r (Grew start new (entries_from s at f [] xs) files) → Added s at f xs start new r files
text_added s at function.Map xs start new r files other h = absurd (other refl)
text_added s at f xs start new r files other h = h
