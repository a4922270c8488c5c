-- What is told of an expression from what is told of its parts: operators, and calls by their functions.
use Rattle.std.proofs.Common.{◌≡◌, ℕ, Bool, true, false, if◌then◌else◌, codes, List, [], ◌∷◌, ◌++◌, Option, Some, None, refl, sym, ap, ap₂, ◌∙◌}
use Rattle.hp_word.specs.declared.name.Name.{Name}
use Rattle.hp_word.specs.declared.place.Place.{Place}
use Rattle.hp_script.specs.declared.argument.Argument.{Argument}
use Rattle.hp_script.specs.declared.argument.Argument.TheVariants.{Column}
use Rattle.hp_script.specs.declared.function.Function.{Function}
use Rattle.hp_script.specs.declared.function.Function.TheVariants as function
use Rattle.hp_script.specs.declared.tree.BinOp.{BinOp}
use Rattle.hp_script.specs.declared.tree.UnOp.{UnOp}
use Rattle.hp_script.specs.declared.typed.Shape.{Shape}
use Rattle.hp_script.specs.declared.typed.Shape.TheVariants.{Frame}
use Rattle.hp_script.specs.Entries.{known_shape, of_known, own_shape, no_shapes, named_entries, plain_entries}
use Rattle.hp_script.specs.Functions.{scalar_named, fold_named, array_named, function_named}
use Rattle.hp_script.specs.Mirror.{Head, Tree, Args, variable, unary, binary, index, call, none, plain, lambda}
use Rattle.hp_script.specs.Nodes.{nodes_in, nodes_in_args}
use Rattle.hp_script.specs.Scope.{Role, element, window, Scope, role_of, with_parameter, with_columns}
use Rattle.hp_script.specs.Shaped.{IsArrayOf, array_of_numbers, array_of_truths, IsDistance, ahead, behind, AreColumns, no_more_columns, one_column, IsMeasure, measured_sum, measured_minimum, measured_maximum, measured_count, AreMeasures, no_more_measures, one_measure}
use Rattle.hp_script.specs.Trees as trees
use Rattle.hp_script.specs.Typing.{wanted, inside, role_wanted, plain_argument, named_argument, value_or_misfit, columns_for_mask, is_window_role, is_window}
use Rattle.hp_script.specs.Walk.{found_of, shape_of, entries_of, finds_of, in_turn, found_among, entries_among, site}
use Rattle.hp_script.proofs.CompleteFrames.{measure_is}
use Rattle.hp_script.proofs.FunctionNames.{is_transpose}
use Rattle.hp_script.proofs.Turns.{in_order, lambda_entries, entries_from, order_entries}
use Rattle.hp_air.specs.Unknowns.{Known, shape_at}
use Rattle.hp_flat.proofs.Fronts.{AreAt, Gives, gives_nothing, gives_one, gives_behind, gives_both, gives_mapped, gives_as, gives_last}
use Rattle.hp_flat.proofs.ToldTypes.{ToldColumns, ToldMeasure, ToldMeasures}

-- ---- operators and indices

pub gives_unary : (g : Known) {P : Type 0} {a : Shape} (s : Scope) (h : Head) (op : UnOp) (dotted : Bool) (x : Tree) → shape_of s (unary h op dotted x) ≡ Some a
    → Gives (AreAt g) P (nodes_in x) (entries_of s x) → Gives (AreAt g) ((shape_at g h.id ≡ Some a) × P) (nodes_in (unary h op dotted x)) (entries_of s (unary h op dotted x))
unfolding found_of
gives_unary g s h op dotted x e p = gives_as (ap (λ (o : Option Shape). o ∷ entries_of s x) (sym e)) (gives_behind g p)

-- what stands before, at and behind a sign
gives_between : (g : Known) {P Q : Type 0} {a : Shape} {ns ms : List ℕ} {es fs : List (Option Shape)} (n : ℕ) (o : Option Shape) → o ≡ Some a → Gives (AreAt g) P ns es → Gives (AreAt g) Q ms fs
    → Gives (AreAt g) ((shape_at g n ≡ Some a) × (P × Q)) (ns ++ n ∷ ms) (es ++ o ∷ fs)
gives_between g {es = es} {fs = fs} n o e p q =
    gives_as (ap (λ (k : Option Shape). es ++ k ∷ fs) (sym e)) (gives_mapped (λ r. (r.1.0, (r.0, r.1.1))) (gives_both p (gives_behind g q)))

pub gives_binary : (g : Known) {P Q : Type 0} {a : Shape} (s : Scope) (h : Head) (op : BinOp) (dotted : Bool) (x y : Tree) → shape_of s (binary h op dotted x y) ≡ Some a
    → Gives (AreAt g) P (nodes_in x) (entries_of s x) → Gives (AreAt g) Q (nodes_in y) (entries_of s y)
    → Gives (AreAt g) ((shape_at g h.id ≡ Some a) × (P × Q)) (nodes_in (binary h op dotted x y)) (entries_of s (binary h op dotted x y))
unfolding found_of
gives_binary g s h op dotted x y e p q = gives_between g h.id (shape_of s (binary h op dotted x y)) e p q

pub gives_index : (g : Known) {P Q : Type 0} {a : Shape} (s : Scope) (h : Head) (x i : Tree) → is_window s x ≡ false → shape_of s (index h x i) ≡ Some a
    → Gives (AreAt g) P (nodes_in x) (entries_of s x) → Gives (AreAt g) Q (nodes_in i) (entries_of s i)
    → Gives (AreAt g) ((shape_at g h.id ≡ Some a) × (P × Q)) (nodes_in (index h x i)) (entries_of s (index h x i))
unfolding found_of
gives_index g s h x i operand e p q =
    gives_as (ap (λ (b : Bool). (if b then None ∷ [] else entries_of s x) ++ shape_of s (index h x i) ∷ entries_of s i) (sym operand)) (gives_between g h.id (shape_of s (index h x i)) e p q)

-- a distance is no operand
gives_distance : (g : Known) {i : Tree} {d : _} (s : Scope) → IsDistance i d → Gives (AreAt g) (Unit {0}) (nodes_in i) (entries_of s i)
unfolding found_of
gives_distance g s ahead = gives_mapped (λ r. tt) (gives_one g)
gives_distance g s behind = gives_mapped (λ r. tt) (gives_behind g (gives_one g))

pub gives_window : (g : Known) {d : _} {a : Shape} (s : Scope) (h k : Head) (p : List ℕ) (i : Tree) → role_of s.parameters p ≡ Some window → IsDistance i d
    → shape_of s (index h (variable k p) i) ≡ Some a → Gives (AreAt g) ((shape_at g h.id ≡ Some a) × Unit {0}) (nodes_in (index h (variable k p) i)) (entries_of s (index h (variable k p) i))
unfolding found_of
gives_window g s h k p i role is e =
    let one : is_window s (variable k p) ≡ true = ap is_window_role role in
    let at : Gives (AreAt g) (shape_at g k.id ≡ None) (k.id ∷ []) (None ∷ []) = (gives_one g) in
    gives_as (ap (λ (b : Bool). (if b then None ∷ [] else entries_of s (variable k p)) ++ shape_of s (index h (variable k p) i) ∷ entries_of s i) (sym one))
    (gives_mapped (λ r. (r.0, tt)) (gives_between g h.id (shape_of s (index h (variable k p) i)) e at (gives_distance g s is)))

-- ---- calls

own_is : (f : Function) (a : Shape) → is_transpose f ≡ false → own_shape f (Some a) ≡ Some a
own_is function.Transpose a e = absurd cc
own_is _ a e = refl

own_known : (o : Option Function) (f : Function) (found : Option Shape) (a : Shape) → o ≡ Some f → is_transpose f ≡ false → found ≡ Some a → known_shape o found ≡ Some a
own_known o f found a is other e = ap₂ known_shape is e ∙ own_is f a other

-- a call of this function, by its arguments in the order of the text
pub gives_call : (g : Known) {P : Type 0} {a : Shape} (f : Function) (s : Scope) (h : Head) (name : List ℕ) (dotted : Bool) (xs : Args) → function_named dotted name ≡ Some f → is_transpose f ≡ false
    → shape_of s (call h name dotted xs) ≡ Some a → Gives (AreAt g) P (nodes_in_args xs) (in_order f (lambda_entries s h.at xs) (entries_from s h.at f [] xs))
    → Gives (AreAt g) ((shape_at g h.id ≡ Some a) × P) (nodes_in (call h name dotted xs)) (entries_of s (call h name dotted xs))
unfolding found_of
gives_call g {a = a} f s h name dotted xs is other e p =
    let among : of_known (function_named dotted name) (λ (k : Function). entries_among k (found_among k (finds_of (site s h.at k) xs))) ≡ in_order f (lambda_entries s h.at xs) (entries_from s h.at f [] xs) =
    ap (λ (o : Option Function). of_known o (λ (k : Function). entries_among k (found_among k (finds_of (site s h.at k) xs)))) is ∙ order_entries s h.at f xs in
    let own : known_shape (function_named dotted name) (shape_of s (call h name dotted xs)) ≡ Some a = own_known (function_named dotted name) f (shape_of s (call h name dotted xs)) a is other e in
    gives_as (ap₂ (λ (o : Option Shape) (l : List (Option Shape)). o ∷ l) (sym own) (sym among)) (gives_behind g p)

-- the call of `transpose` on the right of a product
pub gives_transpose : (g : Known) {P : Type 0} (s : Scope) (h : Head) (y : Tree) → Gives (AreAt g) P (nodes_in y) (entries_of s y)
    → Gives (AreAt g) ((shape_at g h.id ≡ None) × P) (nodes_in (call h (codes "transpose") false (plain y none))) (entries_of s (call h (codes "transpose") false (plain y none)))
unfolding found_of function_named scalar_named fold_named array_named in_turn finds_of plain_entries wanted inside
gives_transpose g s h y p = gives_behind g (gives_last p)

-- ---- what depends on the arguments before

map_role : {one many : Shape} (o : Option Shape) → IsArrayOf one many → o ≡ Some many → role_wanted (wanted function.Map (value_or_misfit o ∷ [])) ≡ element one
unfolding wanted
map_role o array_of_numbers e = ap (λ (k : Option Shape). role_wanted (wanted function.Map (value_or_misfit k ∷ []))) e
map_role o array_of_truths e = ap (λ (k : Option Shape). role_wanted (wanted function.Map (value_or_misfit k ∷ []))) e

pub gives_map : (g : Known) {P Q : Type 0} {one many : Shape} (s : Scope) (at : Place) (p : List ℕ) (e x : Tree) → IsArrayOf one many → shape_of s x ≡ Some many
    → Gives (AreAt g) P (nodes_in x) (entries_of s x) → Gives (AreAt g) Q (nodes_in e) (entries_of (with_parameter s p (element one)) e)
    → Gives (AreAt g) (P × Q) (nodes_in_args (lambda p e (plain x none))) (lambda_entries s at (lambda p e (plain x none)))
unfolding in_turn finds_of plain_entries plain_argument wanted inside
gives_map g s at p e x array is first body =
    gives_mapped (λ r. (r.1, r.0))
    (gives_both (gives_as (ap (λ (r : Role). entries_of (with_parameter s p r) e) (sym (map_role (shape_of s x) array is))) body) (gives_last first))

pub gives_filter : (g : Known) {P Q : Type 0} {columns : List Name} (s : Scope) (at : Place) (x y : Tree) → shape_of s x ≡ Some (Frame columns)
    → Gives (AreAt g) P (nodes_in x) (entries_of s x) → Gives (AreAt g) Q (nodes_in y) (entries_of (with_columns s (Some columns)) y)
    → Gives (AreAt g) (P × Q) (nodes_in_args (plain x (plain y none))) (entries_from s at function.Filter [] (plain x (plain y none)))
unfolding in_turn finds_of plain_entries plain_argument wanted inside
gives_filter g s at x y is p q =
    gives_both p (gives_last (gives_as (ap (λ (o : Option Shape). entries_of (with_columns s (columns_for_mask (value_or_misfit o ∷ []))) y) (sym is)) q))

-- the names of columns behind a text
pub gives_columns : (g : Known) {given : List (List ℕ)} {xs : Args} {names : List Name} (s : Scope) (at : Place) (columns : AreColumns given xs names) (first : Argument) (before : List Argument)
    → Gives (AreAt g) (ToldColumns g columns) (nodes_in_args xs) (entries_from s at function.ReadCsv (first ∷ before) xs)
unfolding in_turn finds_of plain_entries plain_argument wanted
gives_columns g s at no_more_columns first before = gives_nothing
gives_columns g s at (one_column {c = c} new more) first before = gives_behind g (gives_columns g s at more first (before ++ Column (trees.named c) ∷ []))

gives_measure : (g : Known) {columns : List Name} {x : Tree} (is : IsMeasure columns x) → Gives (AreAt g) (ToldMeasure g is) (nodes_in x) (no_shapes x)
gives_measure g (measured_sum known) = gives_behind g (gives_one g)
gives_measure g (measured_minimum known) = gives_behind g (gives_one g)
gives_measure g (measured_maximum known) = gives_behind g (gives_one g)
gives_measure g measured_count = (gives_one g)

-- the measures behind a frame and its key
pub gives_measures : (g : Known) {columns : List Name} {given : List (List ℕ)} {xs : Args} {names : List Name} (s : Scope) (at : Place) (are : AreMeasures columns given xs names)
    (first second : Argument) (before : List Argument) → Gives (AreAt g) (ToldMeasures g are) (nodes_in_args xs) (entries_from s at function.Aggregate (first ∷ second ∷ before) xs)
unfolding in_turn finds_of named_entries wanted inside
gives_measures g s at no_more_measures first second before = gives_nothing
gives_measures g s at (one_measure {x = x} {m = m} is new more) first second before =
    gives_both (gives_as (ap (λ (b : Bool). if b then no_shapes m else entries_of s m) (sym (measure_is is))) (gives_measure g is))
    (gives_measures g s at more first second (before ++ named_argument (wanted function.Aggregate (first ∷ second ∷ before)) x m (shape_of s m) ∷ []))
