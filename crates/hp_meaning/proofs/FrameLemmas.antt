-- What the constructs of frames give, step by step.
use Rattle.std.proofs.Common.{◌≡◌, ℕ, ℤ, ◌+◌, ◌<◌, ◌≤◌, Bool, true, false, List, [], ◌∷◌, ◌++◌, map, length, take, get_or, zero, suc, refl, ap, sym, ◌∙◌, add-one, arith}
use Rattle.std.specs.Prelude.{◌==◌, ◌&&◌, if◌then◌else◌, Ok, Err}
use Rattle.std.specs.List.{list_all}
use Rattle.hp_word.specs.declared.place.Place.{Place}
use Rattle.hp_word.specs.declared.place.TrapKind.TheVariants.{Mismatch}
use Rattle.hp_word.specs.Lengths.{trap}
use Rattle.hp_meaning.specs.declared.value.Column.{Column}
use Rattle.hp_meaning.specs.declared.value.Value.TheVariants.{Frame}
use Rattle.hp_meaning.specs.FrameRules.{column, cells_of, rows_of, framed, named_columns}
use Rattle.hp_meaning.specs.Outcomes.{Gives, Traps, also, told}
use Rattle.hp_word.specs.RowRules.{level}

-- ---- frames

abbrev are_level : List Column → Bool
are_level columns = list_all (λ c. length c.cells == rows_of columns) columns

-- the columns are looked at by their cells
all_cells : (n : ℕ) (columns : List Column) → list_all (λ (cells : List ℤ). length cells == n) (cells_of columns) ≡ list_all (λ (c : Column). length c.cells == n) columns
all_cells n [] = refl
all_cells n (c ∷ columns) = ap (λ (b : Bool). (length c.cells == n) && b) (all_cells n columns)

level_is : (at : Place) (columns : List Column) (b : Bool) → b ≡ are_level columns → level at (cells_of columns) ≡ (if b then Ok (cells_of columns) else Err (trap at Mismatch))
unfolding level
level_is at columns b e = ap (λ (t : Bool). if t then Ok (cells_of columns) else Err (trap at Mismatch)) (all_cells (rows_of columns) columns ∙ sym e)

pub framed_level : (at : Place) (columns : List Column) → (columns ≡ [] → false ≡ true) → true ≡ are_level columns → framed at columns ≡ Gives (Frame columns)
unfolding framed
framed_level at [] ne h = let no = ne refl in absurd (cc)
framed_level at (c ∷ rest) ne h = ap (λ r. also (told r) (λ cells. Gives (Frame (c ∷ rest)))) (level_is at (c ∷ rest) true h)

pub framed_uneven : (at : Place) (columns : List Column) → (columns ≡ [] → false ≡ true) → false ≡ are_level columns → framed at columns ≡ Traps (trap at Mismatch)
unfolding framed
framed_uneven at [] ne h = let no = ne refl in absurd (cc)
framed_uneven at (c ∷ rest) ne h = ap (λ r. also (told r) (λ cells. Gives (Frame (c ∷ rest)))) (level_is at (c ∷ rest) false h)

-- ---- columns by their names

columns_next : {A : Type 0} (f : A → List ℕ) (names : List A) (lists : List (List ℤ)) (k : ℕ) (name : A) (cells : List ℤ) → k < length names → k < length lists
    → name ≡ get_or names k name → cells ≡ get_or lists k cells → named_columns (map f (take (suc k) names)) lists ≡ named_columns (map f (take k names)) lists ++ column (f name) cells ∷ []
unfolding named_columns
columns_next f [] lists k name cells low lt is cells_is = absurd (omega arith)
columns_next f (n ∷ names) [] k name cells low lt is cells_is = absurd (omega arith)
columns_next f (n ∷ names) (l ∷ lists) zero name cells low lt is cells_is =
    ap (λ n. column (f n) l ∷ []) (sym is) ∙ ap (λ l. column (f name) l ∷ []) (sym cells_is)
columns_next f (n ∷ names) (l ∷ lists) (suc k) name cells low lt is cells_is =
    ap (λ cs. column (f n) l ∷ cs) (columns_next f names lists k name cells (omega arith) (omega arith) is cells_is)

columns_end : {A : Type 0} (f : A → List ℕ) (names : List A) (lists : List (List ℤ)) (k : ℕ) → length lists ≤ k
    → named_columns (map f (take (suc k) names)) lists ≡ named_columns (map f (take k names)) lists
unfolding named_columns
columns_end f [] lists zero le = refl
columns_end f [] lists (suc k) le = refl
columns_end f (n ∷ names) [] zero le = refl
columns_end f (n ∷ names) [] (suc k) le = refl
columns_end f (n ∷ names) (l ∷ lists) zero le = absurd (omega arith)
columns_end f (n ∷ names) (l ∷ lists) (suc k) le = ap (λ cs. column (f n) l ∷ cs) (columns_end f names lists k (omega arith))

pub columns_more : {A : Type 0} (f : A → List ℕ) (names : List A) (lists : List (List ℤ)) (k : ℕ) (name : A) (cells : List ℤ) → k < length names → k < length lists
    → name ≡ get_or names k name → cells ≡ get_or lists k cells → named_columns (map f (take (k + 1) names)) lists ≡ named_columns (map f (take k names)) lists ++ column (f name) cells ∷ []
columns_more f names lists k name cells low lt is cells_is = rw (add-one k) (columns_next f names lists k name cells low lt is cells_is)

pub columns_same : {A : Type 0} (f : A → List ℕ) (names : List A) (lists : List (List ℤ)) (k : ℕ) → length lists ≤ k
    → named_columns (map f (take (k + 1) names)) lists ≡ named_columns (map f (take k names)) lists
columns_same f names lists k le = rw (add-one k) (columns_end f names lists k le)

pub columns_pushed : {A : Type 0} (f : A → List ℕ) (names : List A) (lists : List (List ℤ)) (k : ℕ) (name : A) (cells : List ℤ) (made now : List Column) (c : Column)
    → k < length names → k < length lists → name ≡ get_or names k name → cells ≡ get_or lists k cells
    → made ≡ named_columns (map f (take k names)) lists → now ≡ made ++ c ∷ [] → c ≡ column (f name) cells → now ≡ named_columns (map f (take (k + 1) names)) lists
columns_pushed f names lists k name cells made now c low lt is cells_is m e same =
    e ∙ ap (λ l. l ++ c ∷ []) m ∙ ap (λ c. named_columns (map f (take k names)) lists ++ c ∷ []) same ∙ sym (columns_more f names lists k name cells low lt is cells_is)
