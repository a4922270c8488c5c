-- Columns that are read and made, step by step.
use Rattle.std.proofs.Common.{◌≡◌, ◌∙◌, refl, sym, ap, arith, ℕ, zero, suc, ◌+◌, ◌-◌, ◌<◌, ◌≤◌, ℤ, pos, if◌then◌else◌, List, [], ◌∷◌, ◌++◌, append-nil, append_assoc, length, map, get_or, take, inl, inr, Result, Ok, Err}
use Rattle.std.specs.Prelude.{◌≢◌, remove, IfOk}
use Rattle.std.proofs.lemmas.Bool.{cases_lt}
use Rattle.std.proofs.lemmas.List.{map-append, take_more, take_all, drop_all, get_or-map, get_or-take, length-map, length-take, take-map}
use Rattle.std.proofs.lemmas.List.Edits.{remove-append_left, remove-append_right}
use Rattle.std.proofs.lemmas.List.FromFn.{fill_by_all, map-range_with_len_more}
use Rattle.hp_word.specs.LoopRules.{word_at}
use Rattle.hp_word.specs.RowRules.{column_at, filter_rows, key_first, sorted_places}
use Rattle.hp_word.specs.Tables.{row_count}
use Rattle.hp_word.specs.Words.{is_true}
use Rattle.hp_spmd.specs.Frames.{levelled}
use Rattle.hp_spmd.specs.declared.store.Piece.{Piece}
use Rattle.hp_spmd.specs.Matrices.{whole_piece}

-- ---- columns that are read

pub column_there : {A : Type 0} (cells : A → List ℤ) (columns : List A) (at : ℕ) (d : A) → at < length columns → cells (get_or columns at d) ≡ column_at at (map cells columns)
column_there cells columns at d lt = sym (get_or-map cells columns at d [] lt)

pub column_none : {A : Type 0} (cells : A → List ℤ) (columns : List A) (at : ℕ) → length columns ≤ at → [] ≡ column_at at (map cells columns)
column_none cells [] at le = refl
column_none cells (c ∷ columns) zero le = absurd (omega arith)
column_none cells (c ∷ columns) (suc at) le = column_none cells columns at (omega arith)

-- nothing is left out of a list that is too short
none_removed : {X : Type 0} (xs : List X) (at : ℕ) → length xs ≤ at → remove xs at ≡ xs
none_removed xs at le = (λ j. take_all at xs le j ++ drop_all (suc at) xs (omega arith) j) ∙ append-nil xs

-- one more item that stays, the one that does not, and all
other_more : {X : Type 0} (xs : List X) (k at : ℕ) (d : X) → k < length xs → k ≢ at → remove (take (k + 1) xs) at ≡ remove (take k xs) at ++ get_or xs k d ∷ []
other_more xs k at d lt ne =
    elim (cases_lt k at) [
      | inl below ↦
          let one = length-take (k + 1) xs in
          let few = length-take k xs in
          none_removed (take (k + 1) xs) at (omega (arith, one)) ∙ take_more xs k d lt ∙ ap (λ l. l ++ get_or xs k d ∷ []) (sym (none_removed (take k xs) at (omega (arith, few))))
      | inr above ↦
          let few = length-take k xs in
          let inside : at < length (take k xs) = omega (arith, few, above, ne) in
          ap (λ l. remove l at) (take_more xs k d lt) ∙ remove-append_left (take k xs) (get_or xs k d ∷ []) at inside
    ]

other_same : {X : Type 0} (xs : List X) (k at : ℕ) (d : X) → k < length xs → k ≡ at → remove (take (k + 1) xs) at ≡ remove (take k xs) at
other_same xs k at d lt e =
    let few = length-take k xs in
    let count : length (take k xs) ≡ at = omega (arith, few, e) in
    let none : at - at ≡ 0 = omega arith in
    ap (λ l. remove l at) (take_more xs k d lt) ∙ remove-append_right (take k xs) (get_or xs k d ∷ []) at at count (omega arith)
    ∙ ap (λ n. take k xs ++ remove (get_or xs k d ∷ []) n) none ∙ append-nil (take k xs) ∙ sym (none_removed (take k xs) at (omega (arith, count)))

pub other_pushed : {A X : Type 0} (f : A → X) (xs : List A) (k at : ℕ) (d : A) (made now : List A) (base : List X) → k < length xs → k ≢ at → now ≡ made ++ get_or xs k d ∷ []
    → map f made ≡ base ++ remove (map f (take k xs)) at → map f now ≡ base ++ remove (map f (take (k + 1) xs)) at
other_pushed f xs k at d made now base lt ne n m =
    let all = map f xs in
    let x = get_or xs k d in
    let inside : k < length all = omega (arith, lt, length-map xs f) in
    ap (map f) n ∙ map-append f made (x ∷ []) ∙ ap (λ l. l ++ f x ∷ []) m
    ∙ append_assoc base (remove (map f (take k xs)) at) (f x ∷ [])
    ∙ ap (λ l. base ++ l)
    (ap (λ l. remove l at ++ f x ∷ []) (sym (take-map f k xs))
    ∙ ap (λ y. remove (take k all) at ++ y ∷ []) (sym (get_or-map f xs k d (f d) lt))
    ∙ sym (other_more all k at (f d) inside ne)
    ∙ ap (λ l. remove l at) (take-map f (k + 1) xs))

pub other_left : {A X : Type 0} (f : A → X) (xs : List A) (k at : ℕ) (d : A) (made : List A) (base : List X) → k < length xs → k ≡ at
    → map f made ≡ base ++ remove (map f (take k xs)) at → map f made ≡ base ++ remove (map f (take (k + 1) xs)) at
other_left f xs k at d made base lt e m =
    let inside : k < length (map f xs) = omega (arith, lt, length-map xs f) in
    m ∙ ap (λ l. base ++ l) (ap (λ l. remove l at) (sym (take-map f k xs)) ∙ sym (other_same (map f xs) k at (f d) inside e) ∙ ap (λ l. remove l at) (take-map f (k + 1) xs))

pub others_are : {X : Type 0} (xs : List X) (k at : ℕ) → length xs ≤ k → remove (take k xs) at ≡ remove xs at
others_are xs k at le = ap (λ l. remove l at) (take_all k xs le)

-- ---- rows that are kept

-- the first cells of a column that has as many
levelled_first : (n : ℕ) (cells : List ℤ) → n ≤ length cells → levelled n cells ≡ take n cells
levelled_first n cells le = sym (fill_by_all (word_at cells) (take n cells) n (pos 0) (omega (arith, length-take n cells)) (λ k lt. get_or-take n cells k (pos 0) lt))

pub levelled_more : (cells : List ℤ) (k : ℕ) (made now : List ℤ) (y : ℤ) → made ≡ levelled k cells → y ≡ word_at cells k → now ≡ made ++ y ∷ [] → now ≡ levelled (k + 1) cells
levelled_more cells k made now y m is n = n ∙ (λ j. m j ++ is j ∷ []) ∙ sym (map-range_with_len_more (word_at cells) 0 k k (omega arith))

filter_first : (mask cells : List ℤ) → filter_rows mask (take (length mask) cells) ≡ filter_rows mask cells
unfolding filter_rows
filter_first [] cells = refl
filter_first (m ∷ mask) [] = refl
filter_first (m ∷ mask) (c ∷ cells) = ap (λ l. if is_true m then c ∷ l else l) (filter_first mask cells)

pub filter_levelled : (mask cells : List ℤ) → length mask ≤ length cells → filter_rows mask cells ≡ filter_rows mask (levelled (length mask) cells)
filter_levelled mask cells le = sym (ap (filter_rows mask) (levelled_first (length mask) cells le) ∙ filter_first mask cells)

-- ---- rows that are sorted

pub map_twice : {A B C : Type 0} (f : B → C) (g : A → B) (xs : List A) → map f (map g xs) ≡ map (λ x. f (g x)) xs
map_twice f g [] = refl
map_twice f g (x ∷ xs) = ap (λ l. f (g x) ∷ l) (map_twice f g xs)

-- sorted columns that were read as `read`, each as a whole vector
pub sorted_whole : {A E : Type 0} (items : A → List Piece) (r : Result A E) (key : ℕ) (made read all : List (List ℤ)) → IfOk r (λ pieces. items pieces ≡ map (whole_piece 1) made)
    → made ≡ map (λ cells. map (word_at cells) (sorted_places (key_first key read) (row_count read))) read → read ≡ all
    → IfOk r (λ pieces. items pieces ≡ map (λ cells. whole_piece 1 (map (word_at cells) (sorted_places (key_first key all) (row_count all)))) all)
sorted_whole items (Err e) key made read all h m s = tt
sorted_whole items (Ok pieces) key made read all h m s =
    let sorting = λ (cs : List (List ℤ)) (cells : List ℤ). map (word_at cells) (sorted_places (key_first key cs) (row_count cs)) in
    h ∙ ap (map (whole_piece 1)) (m ∙ ap (λ cs. map (sorting cs) cs) s) ∙ map_twice (whole_piece 1) (sorting all) all
