-- What is gathered from arguments, one after the other.
use Rattle.std.proofs.Common.{◌≡◌, ℕ, ◌+◌, ◌<◌, ◌≤◌, List, [], ◌∷◌, ◌++◌, length, get_or, drop, drop-cons, map, subst, Option, Some, None, refl, ap, sym, ◌∙◌, suc, append_assoc, append-nil, arith}
use Rattle.std.specs.Option.{option_map, option_and_then}
use Rattle.std.proofs.lemmas.List.{drop_all, map-append}
use Rattle.hp_word.specs.declared.name.Name.{Name}
use Rattle.hp_word.specs.declared.place.Place.{Place}
use Rattle.hp_word.specs.declared.table.MeasureKind.{MeasureKind}
use Rattle.hp_script.specs.declared.tree.Arg.{Arg}
use Rattle.hp_script.specs.declared.tree.Arg.TheVariants as arg
use Rattle.hp_script.specs.declared.tree.Arg.TheViews.{Named}
use Rattle.hp_script.specs.declared.tree.Expr.{Expr}
use Rattle.hp_script.specs.Mirror.{Tree, head, form_of, tree_of, args_of, arg_of}
use Rattle.hp_meaning.specs.ArgumentShapes.{one_plain, all_written}
use Rattle.hp_meaning.specs.declared.groups.Wanted.{Wanted}
use Rattle.hp_meaning.specs.FrameRules.{Measured}
use Rattle.hp_meaning.specs.HeldValues.{measured_in}
use Rattle.hp_meaning.specs.ValueOf.{column_name, names_in, measure_of, measures_in}

-- ---- lists

-- some items, and what stands behind them
abbrev pub behind : {A : Type 0} → List A → Option (List A) → Option (List A)
behind front found = option_map (λ more. front ++ more) found

pub behind_none : {A : Type 0} (found : Option (List A)) → found ≡ behind [] found
behind_none (Some xs) = refl
behind_none None = refl

behind_more : {A : Type 0} (front : List A) (x : A) (found : Option (List A)) → behind front (option_map (λ more. x ∷ more) found) ≡ behind (front ++ x ∷ []) found
behind_more front x (Some xs) = ap Some (sym (append_assoc front (x ∷ []) xs))
behind_more front x None = refl

next_is : {A : Type 0} (xs : List A) (i : ℕ) (x : A) → i < length xs → x ≡ get_or xs i x → drop i xs ≡ x ∷ drop (i + 1) xs
next_is xs i x lt is =
    let step : suc i ≡ i + 1 = omega arith in
    drop-cons xs i x lt ∙ ap (λ y. y ∷ drop (suc i) xs) (sym is) ∙ ap (λ k. x ∷ drop k xs) step

-- ---- names of columns

-- these names are those of the first arguments
abbrev pub HasNames : List Arg → List (List ℕ) → ℕ → Type 0
HasNames args names i = names_in (all_written (args_of args)) ≡ behind names (names_in (all_written (args_of (drop i args))))

names_go : (x : Arg) (rest : List Arg) (t : Tree) (name : List ℕ) → one_plain (args_of (x ∷ [])) ≡ Some t → column_name t ≡ Some name
    → names_in (all_written (args_of (x ∷ rest))) ≡ option_map (λ names. name ∷ names) (names_in (all_written (args_of rest)))
unfolding one_plain names_in args_of arg_of
names_go (arg.Plain' id at form) rest t name h g =
    let same : form_of (head id.0 at) form ≡ t = cc in
    let more = λ (name : List ℕ). option_map (λ names. name ∷ names) (names_in (all_written (args_of rest))) in
    ap (λ t. option_and_then more (column_name t)) same ∙ ap (option_and_then more) g
names_go (arg.Range' id at form last_id last_at last) rest t name h g = absurd (cc)
names_go (arg.Lambda' parameter id at form) rest t name h g = absurd (cc)
names_go (arg.Named' other place id at form) rest t name h g = absurd (cc)

names_stop : (x : Arg) (rest : List Arg) → one_plain (args_of (x ∷ [])) ≡ None → names_in (all_written (args_of (x ∷ rest))) ≡ None
unfolding one_plain names_in args_of arg_of
names_stop (arg.Plain' id at form) rest h = absurd (cc)
names_stop (arg.Range' id at form last_id last_at last) rest h = refl
names_stop (arg.Lambda' parameter id at form) rest h = refl
names_stop (arg.Named' other place id at form) rest h = refl

names_miss : (x : Arg) (rest : List Arg) (t : Tree) → one_plain (args_of (x ∷ [])) ≡ Some t → column_name t ≡ None → names_in (all_written (args_of (x ∷ rest))) ≡ None
unfolding one_plain names_in args_of arg_of
names_miss (arg.Plain' id at form) rest t h g =
    let same : form_of (head id.0 at) form ≡ t = cc in
    let more = λ (name : List ℕ). option_map (λ names. name ∷ names) (names_in (all_written (args_of rest))) in
    ap (λ t. option_and_then more (column_name t)) same ∙ ap (option_and_then more) g
names_miss (arg.Range' id at form last_id last_at last) rest t h g = refl
names_miss (arg.Lambda' parameter id at form) rest t h g = refl
names_miss (arg.Named' other place id at form) rest t h g = refl

-- one more name
names_more : (args : List Arg) (names : List (List ℕ)) (i : ℕ) (x : Arg) (t : Tree) (name : List ℕ) → i < length args → x ≡ get_or args i x
    → one_plain (args_of (x ∷ [])) ≡ Some t → column_name t ≡ Some name → HasNames args names i → HasNames args (names ++ name ∷ []) (i + 1)
names_more args names i x t name lt is h g has =
    has ∙ ap (λ rest. behind names (names_in (all_written (args_of rest)))) (next_is args i x lt is)
    ∙ ap (behind names) (names_go x (drop (i + 1) args) t name h g) ∙ behind_more names name (names_in (all_written (args_of (drop (i + 1) args))))

pub names_pushed : {A : Type 0} (f : A → List ℕ) (args : List Arg) (before after : List A) (i : ℕ) (x : Arg) (t : Tree) (y : A) → i < length args → x ≡ get_or args i x
    → after ≡ before ++ y ∷ [] → one_plain (args_of (x ∷ [])) ≡ Some t → column_name t ≡ Some (f y) → HasNames args (map f before) i → HasNames args (map f after) (i + 1)
names_pushed f args before after i x t y lt is e h g has =
    let all : map f before ++ f y ∷ [] ≡ map f after = sym (ap (map f) e ∙ map-append f before (y ∷ [])) in
    subst (λ names. HasNames args names (i + 1)) all (names_more args (map f before) i x t (f y) lt is h g has)

-- an argument that is none
pub names_stopped : (args : List Arg) (names : List (List ℕ)) (i : ℕ) (x : Arg) → i < length args → x ≡ get_or args i x
    → one_plain (args_of (x ∷ [])) ≡ None → HasNames args names i → names_in (all_written (args_of args)) ≡ None
names_stopped args names i x lt is h has =
    has ∙ ap (λ rest. behind names (names_in (all_written (args_of rest)))) (next_is args i x lt is) ∙ ap (behind names) (names_stop x (drop (i + 1) args) h)

pub names_missed : (args : List Arg) (names : List (List ℕ)) (i : ℕ) (x : Arg) (t : Tree) → i < length args → x ≡ get_or args i x
    → one_plain (args_of (x ∷ [])) ≡ Some t → column_name t ≡ None → HasNames args names i → names_in (all_written (args_of args)) ≡ None
names_missed args names i x t lt is h g has =
    has ∙ ap (λ rest. behind names (names_in (all_written (args_of rest)))) (next_is args i x lt is) ∙ ap (behind names) (names_miss x (drop (i + 1) args) t h g)

pub names_all : (args : List Arg) (names : List (List ℕ)) (i : ℕ) → length args ≤ i → HasNames args names i → names_in (all_written (args_of args)) ≡ Some names
unfolding names_in args_of
names_all args names i end has = has ∙ ap (λ rest. behind names (names_in (all_written (args_of rest)))) (drop_all i args end) ∙ ap Some (append-nil names)

-- ---- measures

abbrev pub measured : List ℕ → MeasureKind → List ℕ → Measured
measured name kind of_it = record { name = name; kind = kind; of_it = of_it }

-- these measures are those of the first arguments
abbrev pub HasMeasures : List Arg → List Measured → ℕ → Type 0
HasMeasures args found i = measures_in (all_written (args_of args)) ≡ behind found (measures_in (all_written (args_of (drop i args))))

measures_go : (name : Name) (place : Place) (x : Expr) (rest : List Arg) (kind : MeasureKind) (of_it : List ℕ) → measure_of (tree_of x) ≡ Some (kind, of_it)
    → measures_in (all_written (args_of (Named name place x ∷ rest))) ≡ option_map (λ more. measured name.bytes kind of_it ∷ more) (measures_in (all_written (args_of rest)))
unfolding measures_in args_of arg_of tree_of
measures_go name place x rest kind of_it h =
    ap (option_and_then (λ (found : MeasureKind × List ℕ). option_map (λ more. measured name.bytes found.0 found.1 ∷ more) (measures_in (all_written (args_of rest))))) h

measures_miss : (name : Name) (place : Place) (x : Expr) (rest : List Arg) → measure_of (tree_of x) ≡ None → measures_in (all_written (args_of (Named name place x ∷ rest))) ≡ None
unfolding measures_in args_of arg_of tree_of
measures_miss name place x rest h =
    ap (option_and_then (λ (found : MeasureKind × List ℕ). option_map (λ more. measured name.bytes found.0 found.1 ∷ more) (measures_in (all_written (args_of rest))))) h

measures_stop : (x : Arg) (rest : List Arg) → ((name : Name) (place : Place) (value : Expr) → x ≡ Named name place value → ⊥) → measures_in (all_written (args_of (x ∷ rest))) ≡ None
unfolding measures_in args_of arg_of
measures_stop (arg.Plain' id at form) rest h = refl
measures_stop (arg.Range' id at form last_id last_at last) rest h = refl
measures_stop (arg.Lambda' parameter id at form) rest h = refl
measures_stop (arg.Named' name place id at form) rest h = absurd (h name place (record { id = id; at = at; form = form }) refl)

-- one more measure
measures_more : (args : List Arg) (found : List Measured) (i : ℕ) (x : Arg) (name : Name) (place : Place) (value : Expr) (kind : MeasureKind) (of_it : List ℕ)
    → i < length args → x ≡ get_or args i x → x ≡ Named name place value → measure_of (tree_of value) ≡ Some (kind, of_it)
    → HasMeasures args found i → HasMeasures args (found ++ measured name.bytes kind of_it ∷ []) (i + 1)
measures_more args found i x name place value kind of_it lt is named h has =
    let rest = drop (i + 1) args in
    has ∙ ap (λ rest. behind found (measures_in (all_written (args_of rest)))) (next_is args i x lt is) ∙ ap (λ x. behind found (measures_in (all_written (args_of (x ∷ rest))))) named
    ∙ ap (behind found) (measures_go name place value rest kind of_it h) ∙ behind_more found (measured name.bytes kind of_it) (measures_in (all_written (args_of rest)))

-- an argument that is none
pub measures_missed : (args : List Arg) (found : List Measured) (i : ℕ) (x : Arg) (name : Name) (place : Place) (value : Expr)
    → i < length args → x ≡ get_or args i x → x ≡ Named name place value → measure_of (tree_of value) ≡ None → HasMeasures args found i → measures_in (all_written (args_of args)) ≡ None
measures_missed args found i x name place value lt is named h has =
    let rest = drop (i + 1) args in
    has ∙ ap (λ rest. behind found (measures_in (all_written (args_of rest)))) (next_is args i x lt is) ∙ ap (λ x. behind found (measures_in (all_written (args_of (x ∷ rest))))) named
    ∙ ap (behind found) (measures_miss name place value rest h)

pub measures_stopped : (args : List Arg) (found : List Measured) (i : ℕ) (x : Arg) → i < length args → x ≡ get_or args i x
    → ((name : Name) (place : Place) (value : Expr) → x ≡ Named name place value → ⊥) → HasMeasures args found i → measures_in (all_written (args_of args)) ≡ None
measures_stopped args found i x lt is h has =
    has ∙ ap (λ rest. behind found (measures_in (all_written (args_of rest)))) (next_is args i x lt is) ∙ ap (behind found) (measures_stop x (drop (i + 1) args) h)

pub measures_all : (args : List Arg) (found : List Measured) (i : ℕ) → length args ≤ i → HasMeasures args found i → measures_in (all_written (args_of args)) ≡ Some found
unfolding measures_in args_of
measures_all args found i end has = has ∙ ap (λ rest. behind found (measures_in (all_written (args_of rest)))) (drop_all i args end) ∙ ap Some (append-nil found)

pub measures_pushed : (args : List Arg) (before after : List Wanted) (i : ℕ) (x : Arg) (name : Name) (place : Place) (value : Expr) (wanted : Wanted)
    → i < length args → x ≡ get_or args i x → x ≡ Named name place value → after ≡ before ++ wanted ∷ []
    → measured_in wanted ≡ measured name.bytes wanted.kind wanted.of_it.now → measure_of (tree_of value) ≡ Some (wanted.kind, wanted.of_it.now)
    → HasMeasures args (map measured_in before) i → HasMeasures args (map measured_in after) (i + 1)
measures_pushed args before after i x name place value wanted lt is named e same h has =
    let all : map measured_in before ++ measured name.bytes wanted.kind wanted.of_it.now ∷ [] ≡ map measured_in after =
    ap (λ m. map measured_in before ++ m ∷ []) (sym same) ∙ sym (ap (map measured_in) e ∙ map-append measured_in before (wanted ∷ [])) in
    subst (λ found. HasMeasures args found (i + 1)) all (measures_more args (map measured_in before) i x name place value wanted.kind wanted.of_it.now lt is named h has)
