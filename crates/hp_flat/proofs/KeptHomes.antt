-- What operations keep that write the places of some expressions alone, and the values that stand behind them.
use Rattle.std.proofs.Common.{◌≡◌, ℕ, zero, suc, ◌+◌, ◌<◌, ◌==◌, ◌||◌, ℤ, Bool, true, false, List, [], ◌∷◌, ◌++◌, map, length, Option, Some, None, refl, sym, ap, subst, ◌∙◌}
use Rattle.std.proofs.lemmas.Bool.{eqb-true, eq-eqb}
use Rattle.std.proofs.lemmas.List.Folds.{list_any-append}
use Rattle.std.specs.List.{AllByRecursion, range_with_len}
use Rattle.hp_script.specs.Mirror.{Tree, number, truth, text, variable, column, field, unary, binary, index, call}
use Rattle.hp_script.specs.Nodes.{nodes_in, nodes_in_args}
use Rattle.hp_meaning.specs.declared.value.Column.{Column}
use Rattle.hp_meaning.specs.declared.value.Kind.{Kind}
use Rattle.hp_meaning.specs.declared.value.Value.{Value}
use Rattle.hp_meaning.specs.declared.value.Value.TheVariants.{Word}
use Rattle.hp_meaning.specs.declared.value.Var.{Var}
use Rattle.hp_meaning.specs.Scopes.{value_named}
use Rattle.hp_air.specs.Unknowns.{Unknown, of_node, of_variable, balanced_of, of_nothing, Columns, at_variable, arrays_at, arrays_named, number_of, shape_at, shape_named, variable_named, width}
use Rattle.hp_air.specs.Wholes.{Env}
use Rattle.hp_flat.specs.Homes.{Homes, word_at, word_of, word_named}
use Rattle.hp_flat.specs.Standing.{Stands, a_word, an_array, a_matrix, a_frame, ColumnsStand, VarsStand, FrameStands, no_frame_stands, frame_stands, KeepsOthers, is_node_of, is_array_of}

-- ---- numbers of expressions

-- those of the first list are among those of the second
pub record Within (xs ys : List ℕ) : Type 0 where
  pub without : (k : ℕ) → is_node_of ys k ≡ false → is_node_of xs k ≡ false

pub neither : (a b : Bool) → (a || b) ≡ false → (a ≡ false) × (b ≡ false)
neither false b e = (refl, e)
neither true b e = absurd cc

either_left : (a b : Bool) → a ≡ true → (a || b) ≡ true
either_left true b e = refl
either_left false b e = absurd cc

either_right : (a b : Bool) → b ≡ true → (a || b) ≡ true
either_right true b e = refl
either_right false b e = e

pub in_neither : (xs ys : List ℕ) (k : ℕ) → is_node_of (xs ++ ys) k ≡ false → (is_node_of xs k ≡ false) × (is_node_of ys k ≡ false)
in_neither xs ys k e = neither (is_node_of xs k) (is_node_of ys k) (sym (list_any-append (λ j. j == k) xs ys) ∙ e)

pub in_left : (xs ys : List ℕ) (k : ℕ) → is_node_of xs k ≡ true → is_node_of (xs ++ ys) k ≡ true
in_left xs ys k e = list_any-append (λ j. j == k) xs ys ∙ either_left (is_node_of xs k) (is_node_of ys k) e

pub in_right : (xs ys : List ℕ) (k : ℕ) → is_node_of ys k ≡ true → is_node_of (xs ++ ys) k ≡ true
in_right xs ys k e = list_any-append (λ j. j == k) xs ys ∙ either_right (is_node_of xs k) (is_node_of ys k) e

pub within_same : {xs : List ℕ} → Within xs xs
within_same = record { without = λ k e. e }

pub within_left : {xs ys : List ℕ} (zs : List ℕ) → Within xs ys → Within xs (ys ++ zs)
within_left {ys = ys} zs p = record { without = λ k e. p.without k (in_neither ys zs k e).0 }

pub within_right : {xs zs : List ℕ} (ys : List ℕ) → Within xs zs → Within xs (ys ++ zs)
within_right {zs = zs} ys p = record { without = λ k e. p.without k (in_neither ys zs k e).1 }

pub within_behind : {xs zs : List ℕ} {j : ℕ} → Within xs zs → Within xs (j ∷ zs)
within_behind {zs = zs} {j = j} p = record { without = λ k e. p.without k (neither (j == k) (is_node_of zs k) e).1 }

pub within_first : {zs : List ℕ} {j : ℕ} → Within (j ∷ []) (j ∷ zs)
within_first {zs = zs} {j = j} = record { without = λ k e. let not : (j == k) ≡ false = (neither (j == k) (is_node_of zs k) e).0 in ap (λ (b : Bool). b || false) not }

pub within_both : {xs ys zs : List ℕ} → Within xs zs → Within ys zs → Within (xs ++ ys) zs
within_both {xs = xs} {ys = ys} p q = record { without = λ k e. list_any-append (λ j. j == k) xs ys ∙ (ap (λ (b : Bool). b || is_node_of ys k) (p.without k e) ∙ q.without k e) }

-- no number stands twice
abbrev pub Differ : List ℕ → Type 0
Differ [] = Unit {0}
Differ (k ∷ ks) = (is_node_of ks k ≡ false) × Differ ks

pub record Apart (xs ys : List ℕ) : Type 0 where
  pub first : Differ xs
  pub second : Differ ys
  pub none : (k : ℕ) → is_node_of xs k ≡ true → is_node_of ys k ≡ false

first_or : (b c : Bool) {A : Type 0} → (b || c) ≡ true → (b ≡ true → A) → (c ≡ true → A) → A
first_or true c e f g = f refl
first_or false c e f g = g e

pub differ_both : (xs ys : List ℕ) → Differ (xs ++ ys) → Apart xs ys
differ_both [] ys p = record { first = tt; second = p; none = λ k e. absurd cc }
differ_both (j ∷ xs) ys p =
    let rest = differ_both xs ys p.1 in
    let not = in_neither xs ys j p.0 in
    record {
      first = (not.0, rest.first);
      second = rest.second;
      none = λ k e. first_or (j == k) (is_node_of xs k) e (λ same. subst (λ (i : ℕ). is_node_of ys i ≡ false) (eqb-true j k same) not.1) (rest.none k);
    }

first_is : (k : ℕ) (ks : List ℕ) → is_node_of (k ∷ ks) k ≡ true
first_is k ks = either_left (k == k) (is_node_of ks k) (eq-eqb k k refl)

-- an expression's own number is among its numbers
pub own_number : (x : Tree) → is_node_of (nodes_in x) (number_of x) ≡ true
own_number (number n z) = first_is n.id []
own_number (truth n holds) = first_is n.id []
own_number (text n bytes) = first_is n.id []
own_number (variable n x) = first_is n.id []
own_number (column n c) = first_is n.id []
own_number (field n x c) = first_is n.id []
own_number (unary n op dotted x) = first_is n.id (nodes_in x)
own_number (binary n op dotted x y) = in_right (nodes_in x) (n.id ∷ nodes_in y) n.id (first_is n.id (nodes_in y))
own_number (index n x i) = in_right (nodes_in x) (n.id ∷ nodes_in i) n.id (first_is n.id (nodes_in i))
own_number (call n f dotted xs) = first_is n.id (nodes_in_args xs)

-- ---- what is kept

module _ (h : Homes) where
  pub array_without : {xs ys : List ℕ} → Within xs ys → (u : Unknown) → is_array_of ys u ≡ false → is_array_of xs u ≡ false
  array_without p (of_node k c) e = p.without k e
  array_without p (balanced_of k) e = p.without k e
  array_without p (of_variable v c) e = refl
  array_without p of_nothing e = refl

  abbrev pub IsNotOf : List ℕ → Unknown → Type 0
  IsNotOf xs u = is_array_of xs u ≡ false

  -- what is not of some expressions is not of fewer
  pub not_of : {xs ys : List ℕ} → Within xs ys → (us : List Unknown) → AllByRecursion (IsNotOf ys) us → AllByRecursion (IsNotOf xs) us
  not_of p [] are = tt
  not_of p (u ∷ us) are = (array_without p u are.0, not_of p us are.1)

  pub keeps_all : {xs : List ℕ} {e : Env} → KeepsOthers h xs e e
  keeps_all = record { slots = λ u not. refl; variables = λ v less. refl; words = λ k not. refl }

  pub keeps_within : {xs ys : List ℕ} {e f : Env} → Within xs ys → KeepsOthers h xs e f → KeepsOthers h ys e f
  keeps_within p keeps = record { slots = λ u not. keeps.slots u (array_without p u not); variables = keeps.variables; words = λ k not. keeps.words k (p.without k not) }

  -- one behind the other
  pub keeps_both : {xs : List ℕ} {e f g : Env} → KeepsOthers h xs e f → KeepsOthers h xs f g → KeepsOthers h xs e g
  keeps_both p q = record {
    slots = λ u not. q.slots u not ∙ p.slots u not;
    variables = λ v less. q.variables v less ∙ p.variables v less;
    words = λ k not. q.words k not ∙ p.words k not;
  }

  -- ---- values that stand

  pub word_stands : {e : Env} {us : List Unknown} {w : ℕ} {kind : Kind} {x : ℤ} → Stands h e us w (Word kind x) → e.words w ≡ x
  word_stands (a_word is) = is

  columns_kept : {xs : List ℕ} {e f : Env} (us : List Unknown) (columns : List Column) → KeepsOthers h xs e f → AllByRecursion (IsNotOf xs) us → ColumnsStand h e us columns → ColumnsStand h f us columns
  columns_kept [] [] keeps apart stand = stand
  columns_kept (u ∷ us) (c ∷ columns) keeps apart stand = (keeps.slots u apart.0 ∙ stand.0, columns_kept us columns keeps apart.1 stand.1)
  columns_kept [] (c ∷ columns) keeps apart stand = stand
  columns_kept (u ∷ us) [] keeps apart stand = stand

  pub stands_kept : {xs : List ℕ} {e f : Env} {us : List Unknown} {w : ℕ} {a : Value} → KeepsOthers h xs e f → AllByRecursion (IsNotOf xs) us → f.words w ≡ e.words w → Stands h e us w a → Stands h f us w a
  stands_kept keeps apart same (a_word is) = a_word (same ∙ is)
  stands_kept keeps apart same (an_array {u = u} is) = an_array (keeps.slots u apart.0 ∙ is)
  stands_kept keeps apart same (a_matrix {u = u} is) = a_matrix (keeps.slots u apart.0 ∙ is)
  stands_kept keeps apart same (a_frame {us = us} {columns = columns} stand) = a_frame (columns_kept us columns keeps apart stand)

  -- the word of an expression is its own, or that of a variable of the script
  pub data HasWord (x : Tree) : Type 0 where
    own_word : word_of h x ≡ word_at h (number_of x) → HasWord x
    variable_word : word_of h x < length h.known.vars → HasWord x

  node_apart : (xs : List ℕ) (k a w : ℕ) → is_node_of xs k ≡ false → AllByRecursion (IsNotOf xs) (map (of_node k) (range_with_len a w))
  node_apart xs k a zero not = tt
  node_apart xs k a (suc w) not = (not, node_apart xs k (a + 1) w not)

  pub arrays_apart : (xs : List ℕ) (x : Tree) → is_node_of xs (number_of x) ≡ false → AllByRecursion (IsNotOf xs) (arrays_at h.known x)
  arrays_apart xs x not = node_apart xs (number_of x) 0 (width (shape_at h.known (number_of x))) not

  word_kept : {xs : List ℕ} {e f : Env} (x : Tree) → HasWord x → is_node_of xs (number_of x) ≡ false → KeepsOthers h xs e f → f.words (word_of h x) ≡ e.words (word_of h x)
  word_kept {e = e} {f = f} x (own_word is) not keeps = subst (λ (w : ℕ). f.words w ≡ e.words w) (sym is) (keeps.words (number_of x) not)
  word_kept x (variable_word less) not keeps = keeps.variables (word_of h x) less

  -- the value of an expression stands behind what writes other expressions
  pub value_kept : {xs : List ℕ} {e f : Env} {a : Value} (x : Tree) → HasWord x → is_node_of xs (number_of x) ≡ false → KeepsOthers h xs e f
      → Stands h e (arrays_at h.known x) (word_of h x) a → Stands h f (arrays_at h.known x) (word_of h x) a
  value_kept {xs = xs} x has not keeps stands = stands_kept keeps (arrays_apart xs x not) (word_kept x has not keeps) stands

  -- the variables, each of which is one of the script
  abbrev pub AreOfScript : List Var → Type 0
  AreOfScript vars = (x : List ℕ) (a : Value) → value_named x vars ≡ Some a → word_named h x < length h.known.vars

  places_apart : (xs : List ℕ) (v a w : ℕ) → AllByRecursion (IsNotOf xs) (map (of_variable v) (range_with_len a w))
  places_apart xs v a zero = tt
  places_apart xs v a (suc w) = (refl, places_apart xs v (a + 1) w)

  named_apart : (xs : List ℕ) (x : List ℕ) → AllByRecursion (IsNotOf xs) (arrays_named h.known x)
  named_apart xs x = apart (variable_named h.known x)
    where
      apart : (found : Option ℕ) → AllByRecursion (IsNotOf xs) (at_variable found (shape_named h.known x))
      apart (Some v) = places_apart xs v 0 (width (shape_named h.known x))
      apart None = tt

  pub vars_kept : {xs : List ℕ} {e f : Env} (vars : List Var) → AreOfScript vars → KeepsOthers h xs e f → VarsStand h e vars → VarsStand h f vars
  vars_kept {xs = xs} vars known keeps stand x a is = stands_kept keeps (named_apart xs x) (keeps.variables (word_named h x) (known x a is)) (stand x a is)

  pub frame_kept : {xs : List ℕ} {e f : Env} {around : Columns} {frame : Option (List Column)} → AllByRecursion (IsNotOf xs) around.arrays → KeepsOthers h xs e f → FrameStands h e around frame → FrameStands h f around frame
  frame_kept apart keeps no_frame_stands = no_frame_stands
  frame_kept {around = around} apart keeps (frame_stands {columns = columns} names stand) = frame_stands names (columns_kept around.arrays columns keeps apart stand)
