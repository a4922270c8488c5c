-- Columns of one name, found by a set of the names before them.
use Rattle.std.proofs.Common.{◌≡◌, ℕ, ◌+◌, ◌<◌, Bool, true, false, not, ◌||◌, List, [], ◌∷◌, ◌++◌, length, get_or, drop, refl, ap, sym, ◌∙◌}
use Rattle.std.specs.Prelude.{bytes_eq}
use Rattle.std.specs.Borrow.{Bor}
use Rattle.std.specs.List.{list_any}
use Rattle.std.proofs.lemmas.List.Folds.{list_any-append}
use Rattle.indexmap.specs.IndexSet.{insert_key}
use Rattle.hp_word.specs.declared.name.Name.{Name}
use Rattle.hp_script.specs.Breaks.{repeats}
use Rattle.hp_script.specs.Scope.{has_column}
use Rattle.hp_script.proofs.TestLemmas.{same_bytes, bytes_same}
use Rattle.hp_types.proofs.Lists.{at_place}

-- the name is among these
abbrev pub among : List (Bor (List ℕ)) → List ℕ → Bool
among seen x = list_any (λ (name : Bor (List ℕ)). bytes_eq x name.now) seen

-- one of the columns has one of the names before them, or the name of another
abbrev pub repeats_behind : List (Bor (List ℕ)) → List Name → Bool
repeats_behind seen columns = list_any (λ (column : Name). among seen column.bytes) columns || repeats columns

either_way : (x y : List ℕ) → bytes_eq x y ≡ bytes_eq y x
either_way x y = by (bytes_eq x y) (bytes_eq y x) (λ e. bytes_same y x (sym (same_bytes x y e))) (λ e. bytes_same x y (sym (same_bytes y x e)))
  where
    by : (a b : Bool) → (a ≡ true → b ≡ true) → (b ≡ true → a ≡ true) → a ≡ b
    by true b h g = sym (h refl)
    by false true h g = g refl
    by false false h g = refl

or_false : (b : Bool) → (b || false) ≡ b
or_false true = refl
or_false false = refl

in_turn : (a s p q : Bool) → ((a || s) || (p || q)) ≡ ((a || p) || (s || q))
in_turn true s p q = refl
in_turn false true true q = refl
in_turn false true false q = refl
in_turn false false true q = refl
in_turn false false false q = refl

one_more : (seen : List (Bor (List ℕ))) (k : Bor (List ℕ)) (columns : List Name)
    → list_any (λ (column : Name). among (seen ++ k ∷ []) column.bytes) columns ≡ (list_any (λ (column : Name). among seen column.bytes) columns || has_column k.now columns)
one_more seen k [] = refl
one_more seen k (c ∷ columns) =
    ap (λ (b : Bool). b || list_any (λ (column : Name). among (seen ++ k ∷ []) column.bytes) columns)
    (list_any-append (λ (name : Bor (List ℕ)). bytes_eq c.bytes name.now) seen (k ∷ []) ∙ ap (λ (b : Bool). among seen c.bytes || b) (or_false (bytes_eq c.bytes k.now) ∙ either_way c.bytes k.now))
    ∙ ap (λ (b : Bool). (among seen c.bytes || bytes_eq k.now c.bytes) || b) (one_more seen k columns)
    ∙ in_turn (among seen c.bytes) (bytes_eq k.now c.bytes) (list_any (λ (column : Name). among seen column.bytes) columns) (has_column k.now columns)

or_moved : (a b c : Bool) → ((a || b) || c) ≡ (a || (b || c))
or_moved true b c = refl
or_moved false b c = refl

repeats_past : (columns : List Name) (seen : List (Bor (List ℕ))) (i : ℕ) (c : Name) (k : Bor (List ℕ)) (whole : Bool) → i < length columns → c ≡ get_or columns i c → k.now ≡ c.bytes
    → among seen c.bytes ≡ false → whole ≡ repeats_behind seen (drop i columns) → whole ≡ repeats_behind (seen ++ k ∷ []) (drop (i + 1) columns)
repeats_past columns seen i c k whole h e is other so_far =
    so_far ∙ ap (repeats_behind seen) (at_place columns i c h e)
    ∙ ap (λ (b : Bool). (b || list_any (λ (column : Name). among seen column.bytes) (drop (i + 1) columns)) || (has_column c.bytes (drop (i + 1) columns) || repeats (drop (i + 1) columns))) other
    ∙ sym (or_moved (list_any (λ (column : Name). among seen column.bytes) (drop (i + 1) columns)) (has_column c.bytes (drop (i + 1) columns)) (repeats (drop (i + 1) columns)))
    ∙ ap (λ (b : Bool). b || repeats (drop (i + 1) columns))
    (ap (λ (x : List ℕ). list_any (λ (column : Name). among seen column.bytes) (drop (i + 1) columns) || has_column x (drop (i + 1) columns)) (sym is) ∙ sym (one_more seen k (drop (i + 1) columns)))

inserted : (seen : List (Bor (List ℕ))) (k : Bor (List ℕ)) → among seen k.now ≡ false → insert_key (λ (a b : Bor (List ℕ)). bytes_eq a.now b.now) seen k ≡ seen ++ k ∷ []
inserted seen k e = rw e refl

not_added : (b : Bool) → not b ≡ true → b ≡ false
not_added true e = sym e
not_added false e = refl

-- a name that was added was not among those before it
pub repeats_next : (columns : List Name) (seen now : List (Bor (List ℕ))) (i : ℕ) (c : Name) (k : Bor (List ℕ)) (whole added : Bool) → i < length columns → c ≡ get_or columns i c → k.now ≡ c.bytes
    → added ≡ not (among seen k.now) → added ≡ true → now ≡ insert_key (λ (a b : Bor (List ℕ)). bytes_eq a.now b.now) seen k
    → whole ≡ repeats_behind seen (drop i columns) → whole ≡ repeats_behind now (drop (i + 1) columns)
repeats_next columns seen now i c k whole added h e is says holds put so_far =
    let other : among seen k.now ≡ false = not_added (among seen k.now) (sym says ∙ holds) in
    repeats_past columns seen i c k whole h e is (ap (among seen) (sym is) ∙ other) so_far
    ∙ ap (λ (names : List (Bor (List ℕ))). repeats_behind names (drop (i + 1) columns)) (sym (put ∙ inserted seen k other))

none_seen : (columns : List Name) → list_any (λ (column : Name). among [] column.bytes) columns ≡ false
none_seen [] = refl
none_seen (c ∷ columns) = none_seen columns

pub repeats_start : (columns : List Name) (seen : List (Bor (List ℕ))) → seen ≡ [] → repeats columns ≡ repeats_behind seen columns
repeats_start columns seen e = rw e (sym (ap (λ (b : Bool). b || repeats columns) (none_seen columns)))
