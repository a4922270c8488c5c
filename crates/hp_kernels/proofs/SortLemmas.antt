-- Sorted rows: how two rows stand is an order, and a list in that order whose equal rows stand as they stood is the
-- sorted one; it has each row once, and rises by rows and places.
use Rattle.std.proofs.Common.{◌≡◌, ℕ, zero, suc, ◌+◌, ◌-◌, ◌<◌, ◌≤◌, ℤ, pos, Bool, true, false, cond, if◌then◌else◌, List, [], ◌∷◌, ◌++◌, map, length, get_or, take, drop, refl, sym, ap, ◌∙◌, add-one, arith}
use Rattle.std.specs.Prelude.{⊤, not, ◌&&◌, ◌==◌, slice_index_or, nat_lt, IsPermutation}
use Rattle.std.specs.List.{filter, range_with_len}
use Rattle.std.specs.List.Sorted.{ties, IsStableBy, IsSortedBy}
use Rattle.std.specs.Cmp.{IsTotalOrder, IsStrictWeakOrder, on_total, then_total}
use Rattle.std.specs.declared.cmp.Ordering.{Ordering}
use Rattle.std.specs.declared.cmp.Ordering.TheVariants.{Less, Equal, Greater}
use Rattle.std.specs.Ordering.{is_lt, nat_cmp, ordering_then}
use Rattle.std.proofs.lemmas.Bool.{le-ltb}
use Rattle.std.proofs.lemmas.Cmp.{int_cmp_total, nat_cmp_total}
use Rattle.std.specs.List.{take-map, drop-map}
use Rattle.std.proofs.lemmas.List.{get_or-map, take_all, length-drop}
use Rattle.std.proofs.lemmas.List.Sorted.{ranks_by, sorted_far, IsPermutation-refl, IsPermutation-sym, IsPermutation-trans, IsPermutation-cons, IsPermutation-middle}
use Rattle.hp_word.specs.RowRules.{row_order, row_at, is_before, inserted, sorted, sorted_places, place_order, key_first, IsSortingOf}

-- ---- how two rows stand

-- the rows at two places
abbrev pub places_order : List (List ℤ) → ℕ → ℕ → Ordering
places_order columns p q = row_order (row_at columns p) (row_at columns q)

abbrev pub places_before : List (List ℤ) → ℕ → ℕ → Bool
places_before columns p q = is_before (row_at columns p) (row_at columns q)

order_total : (columns : List (List ℤ)) → IsTotalOrder (places_order columns)
unfolding row_order
order_total [] = record { antisymm = λ p q. refl; trans = λ p q r h k. h; congr = λ p q r h. refl }
order_total (cells ∷ columns) = then_total (on_total (λ p. slice_index_or cells p (pos 0)) int_cmp_total) (order_total columns)

pub places_ranked : (columns : List (List ℤ)) → IsStrictWeakOrder (places_before columns)
places_ranked columns = ranks_by (order_total columns) (λ p. p)

-- ---- lists in order

true_is_not_false : true ≡ false → ⊥
true_is_not_false e = cc

module _ {X : Type 0} (lt : X → X → Bool) where
  -- no item is before x
  abbrev NoneBefore : X → List X → Type 0
  NoneBefore x [] = ⊤
  NoneBefore x (y ∷ ys) = (lt y x ≡ false) × NoneBefore x ys

  -- no item is before one that stands before it
  abbrev Rises : List X → Type 0
  Rises [] = ⊤
  Rises (x ∷ xs) = NoneBefore x xs × Rises xs

  -- items that tie stand alike
  abbrev AlikeTies : List X → List X → Type 0
  AlikeTies xs ys = (x : X) → filter (ties lt x) xs ≡ filter (ties lt x) ys

  none_before : (x : X) (xs : List X) → ((k : ℕ) → k < length xs → lt (get_or xs k x) x ≡ false) → NoneBefore x xs
  none_before x [] h = tt
  none_before x (y ∷ ys) h = (h 0 (omega arith), none_before x ys (λ k p. h (suc k) (omega arith)))

  rises : (xs : List X) → ((i j : ℕ) (d : X) → i ≤ j → j < length xs → lt (get_or xs j d) (get_or xs i d) ≡ false) → Rises xs
  rises [] h = tt
  rises (x ∷ xs) h = (none_before x xs (λ k p. h 0 (suc k) x (omega arith) (omega arith)), rises xs (λ i j d p q. h (suc i) (suc j) d (omega arith) (omega arith)))

  tie_of : (x y : X) → lt x y ≡ false → lt y x ≡ false → ties lt x y ≡ true
  tie_of x y p q = λ i. not (p i) && not (q i)

  tie_parts : (x y : X) (a b : Bool) → lt x y ≡ a → lt y x ≡ b → ties lt x y ≡ true → (lt x y ≡ false) × (lt y x ≡ false)
  tie_parts x y true b p q h = absurd (true_is_not_false (sym h ∙ ap (λ (c : Bool). not c && not (lt y x)) p))
  tie_parts x y false true p q h = absurd (true_is_not_false (sym h ∙ (λ i. not (p i) && not (q i))))
  tie_parts x y false false p q h = (p, q)

  no_tie : (x y : X) → lt x y ≡ true → ties lt x y ≡ false
  no_tie x y p = ap (λ (b : Bool). not b && not (lt y x)) p

kept_if : {X : Type 0} (x : X) (xs : List X) (b : Bool) → b ≡ false → cond b (x ∷ xs) xs ≡ xs
kept_if x xs b e = ap (λ (b : Bool). cond b (x ∷ xs) xs) e

not_none : {X : Type 0} (x : X) (xs ys : List X) → x ∷ xs ≡ ys → ys ≡ [] → ⊥
not_none x xs ys e n = cc

same_rest : {X : Type 0} (b : Bool) (x : X) (xs ys : List X) → cond b (x ∷ xs) xs ≡ cond b (x ∷ ys) ys → xs ≡ ys
same_rest true x xs ys e = cc
same_rest false x xs ys e = e

first_same : {X : Type 0} (x y : X) (xs ys : List X) → x ∷ xs ≡ y ∷ ys → x ≡ y
first_same x y xs ys e = cc

one_kept : {X : Type 0} (x y : X) (l : List X) (a b : Bool) → (a ≡ true → b ≡ true → ⊥) → cond b (y ∷ cond a (x ∷ l) l) (cond a (x ∷ l) l) ≡ cond a (x ∷ cond b (y ∷ l) l) (cond b (y ∷ l) l)
one_kept x y l true true h = absurd (h refl refl)
one_kept x y l true false h = refl
one_kept x y l false true h = refl
one_kept x y l false false h = refl

-- ---- the one list that is sorted

module _ {X : Type 0} (lt : X → X → Bool) (o : IsStrictWeakOrder lt) where
  never_before : (x : X) → lt x x ≡ false
  never_before x = by (lt x x) refl
    where
      by : (b : Bool) → lt x x ≡ b → lt x x ≡ false
      by true e = o.one_way x x e
      by false e = e

  -- x is before y, and z is not before y
  before_then : (x y z : X) → lt x y ≡ true → lt z y ≡ false → lt x z ≡ true
  before_then x y z p q = by (lt x z) refl
    where
      by : (b : Bool) → lt x z ≡ b → lt x z ≡ true
      by true e = e
      by false e = absurd (true_is_not_false (sym p ∙ o.chain x z y e q))

  -- what is before the first ties with none
  none_tie : (x y : X) (ys : List X) → lt x y ≡ true → NoneBefore lt y ys → filter (ties lt x) ys ≡ []
  none_tie x y [] p h = refl
  none_tie x y (z ∷ ys) p h = kept_if z (filter (ties lt x) ys) (ties lt x z) (no_tie lt x z (before_then x y z p h.0)) ∙ none_tie x y ys p h.1

  first_ties : (x : X) (xs : List X) → filter (ties lt x) (x ∷ xs) ≡ x ∷ filter (ties lt x) xs
  first_ties x xs = ap (λ (b : Bool). cond b (x ∷ filter (ties lt x) xs) (filter (ties lt x) xs)) (tie_of lt x x (never_before x) (never_before x))

  none_ties : (x y : X) (ys : List X) → lt x y ≡ true → NoneBefore lt y ys → filter (ties lt x) (y ∷ ys) ≡ []
  none_ties x y ys p h = kept_if y (filter (ties lt x) ys) (ties lt x y) (no_tie lt x y p) ∙ none_tie x y ys p h

  -- the first items of two lists that rise and have alike ties are one
  firsts : (x y : X) (xs ys : List X) → Rises lt (x ∷ xs) → Rises lt (y ∷ ys) → AlikeTies lt (x ∷ xs) (y ∷ ys) → x ≡ y
  firsts x y xs ys u v h = by (lt x y) (lt y x) refl refl
    where
      by : (a b : Bool) → lt x y ≡ a → lt y x ≡ b → x ≡ y
      by true b p q = absurd (not_none x (filter (ties lt x) xs) (filter (ties lt x) (y ∷ ys)) (sym (first_ties x xs) ∙ h x) (none_ties x y ys p v.0))
      by false true p q = absurd (not_none y (filter (ties lt y) ys) (filter (ties lt y) (x ∷ xs)) (sym (first_ties y ys) ∙ sym (h y)) (none_ties y x xs q u.0))
      by false false p q =
          first_same x y (filter (ties lt x) xs) (filter (ties lt x) ys)
          (sym (first_ties x xs) ∙ h x ∙ ap (λ (b : Bool). cond b (y ∷ filter (ties lt x) ys) (filter (ties lt x) ys)) (tie_of lt x y p q))

  rests : (x y : X) (xs ys : List X) → x ≡ y → AlikeTies lt (x ∷ xs) (y ∷ ys) → AlikeTies lt xs ys
  rests x y xs ys e h z = same_rest (ties lt z x) x (filter (ties lt z) xs) (filter (ties lt z) ys) (h z ∙ ap (λ (w : X). cond (ties lt z w) (w ∷ filter (ties lt z) ys) (filter (ties lt z) ys)) (sym e))

  one_sorted : (xs ys : List X) → Rises lt xs → Rises lt ys → AlikeTies lt xs ys → xs ≡ ys
  one_sorted [] [] u v h = refl
  one_sorted [] (y ∷ ys) u v h = absurd (not_none y (filter (ties lt y) ys) (filter (ties lt y) []) (sym (first_ties y ys) ∙ sym (h y)) refl)
  one_sorted (x ∷ xs) [] u v h = absurd (not_none x (filter (ties lt x) xs) (filter (ties lt x) []) (sym (first_ties x xs) ∙ h x) refl)
  one_sorted (x ∷ xs) (y ∷ ys) u v h =
      let e : x ≡ y = firsts x y xs ys u v h in
      ap (λ (w : X). w ∷ xs) e ∙ ap (λ (l : List X). y ∷ l) (one_sorted xs ys u.1 v.1 (rests x y xs ys e h))

  none_through : (x y : X) (ys : List X) → lt y x ≡ false → NoneBefore lt y ys → NoneBefore lt x ys
  none_through x y [] e h = tt
  none_through x y (z ∷ ys) e h = (o.chain z y x h.0 e, none_through x y ys e h.1)

  -- what ties with both x and y makes them tie
  no_third : (x y z : X) → lt y x ≡ true → ties lt z x ≡ true → ties lt z y ≡ true → ⊥
  no_third x y z h p q = true_is_not_false (sym h ∙ o.chain y z x (tie_parts lt z y _ _ refl refl q).1 (tie_parts lt z x _ _ refl refl p).0)

-- ---- the places that are sorted

module _ (columns : List (List ℤ)) (lt : ℕ → ℕ → Bool) (o : IsStrictWeakOrder lt) where
  -- how the rows at these places stand to the one at p is what the order says
  abbrev Agrees : ℕ → List ℕ → Type 0
  Agrees p [] = ⊤
  Agrees p (q ∷ qs) = (lt q p ≡ places_before columns q p) × Agrees p qs

  none_if : (x p q : ℕ) (qs more : List ℕ) (b : Bool) → lt p x ≡ false → NoneBefore lt x (q ∷ qs) → NoneBefore lt x more → NoneBefore lt x (if b then q ∷ more else p ∷ q ∷ qs)
  none_if x p q qs more true h k m = (k.0, m)
  none_if x p q qs more false h k m = (h, k)

  none_inserted : (x p : ℕ) (qs : List ℕ) → lt p x ≡ false → NoneBefore lt x qs → NoneBefore lt x (inserted columns p qs)
  unfolding inserted
  none_inserted x p [] h k = (h, tt)
  none_inserted x p (q ∷ qs) h k = none_if x p q qs (inserted columns p qs) (places_before columns q p) h k (none_inserted x p qs h k.1)

  rises_if : (p q : ℕ) (qs more : List ℕ) (b : Bool) → lt q p ≡ b → Rises lt (q ∷ qs) → (lt p q ≡ false → NoneBefore lt q more) → Rises lt more
      → Rises lt (if b then q ∷ more else p ∷ q ∷ qs)
  rises_if p q qs more true e u n m = (n (o.one_way q p e), m)
  rises_if p q qs more false e u n m = ((e, none_through lt o p q qs e u.0), u)

  rises_inserted : (p : ℕ) (qs : List ℕ) → Agrees p qs → Rises lt qs → Rises lt (inserted columns p qs)
  unfolding inserted
  rises_inserted p [] a u = (tt, tt)
  rises_inserted p (q ∷ qs) a u = rises_if p q qs (inserted columns p qs) (places_before columns q p) a.0 u (λ e. none_inserted q p qs e u.0) (rises_inserted p qs a.1 u.1)

module _ (columns : List (List ℤ)) where
  abbrev before : ℕ → ℕ → Bool
  before = places_before columns

  agrees_itself : (p : ℕ) (qs : List ℕ) → Agrees columns before (places_ranked columns) p qs
  agrees_itself p [] = tt
  agrees_itself p (q ∷ qs) = (refl, agrees_itself p qs)

  rises_sorted : (ps : List ℕ) → Rises before (sorted columns ps)
  unfolding sorted
  rises_sorted [] = tt
  rises_sorted (p ∷ ps) = rises_inserted columns before (places_ranked columns) p (sorted columns ps) (agrees_itself p (sorted columns ps)) (rises_sorted ps)

  ties_if : (z p q : ℕ) (qs more : List ℕ) (b : Bool) → before q p ≡ b → filter (ties before z) more ≡ filter (ties before z) (p ∷ qs)
      → filter (ties before z) (if b then q ∷ more else p ∷ q ∷ qs) ≡ filter (ties before z) (p ∷ q ∷ qs)
  ties_if z p q qs more true e m =
      ap (λ (l : List ℕ). cond (ties before z q) (q ∷ l) l) m
      ∙ one_kept p q (filter (ties before z) qs) (ties before z p) (ties before z q) (no_third before (places_ranked columns) p q z e)
  ties_if z p q qs more false e m = refl

  ties_inserted : (z p : ℕ) (qs : List ℕ) → filter (ties before z) (inserted columns p qs) ≡ filter (ties before z) (p ∷ qs)
  unfolding inserted
  ties_inserted z p [] = refl
  ties_inserted z p (q ∷ qs) = ties_if z p q qs (inserted columns p qs) (before q p) refl (ties_inserted z p qs)

  ties_sorted : (z : ℕ) (ps : List ℕ) → filter (ties before z) (sorted columns ps) ≡ filter (ties before z) ps
  unfolding sorted
  ties_sorted z [] = refl
  ties_sorted z (p ∷ ps) = ties_inserted z p (sorted columns ps) ∙ ap (λ (l : List ℕ). cond (ties before z p) (p ∷ l) l) (ties_sorted z ps)

range_more : (a n j : ℕ) → a + n ≡ j → range_with_len a (suc n) ≡ range_with_len a n ++ j ∷ []
range_more a zero j e = let same : a ≡ j = omega arith in ap (λ (x : ℕ). x ∷ []) same
range_more a (suc n) j e = ap (λ (l : List ℕ). a ∷ l) (range_more (a + 1) n j (omega arith))

-- one more place
pub places_more : (old now : List ℕ) (k : ℕ) → old ≡ range_with_len 0 k → now ≡ old ++ k ∷ [] → now ≡ range_with_len 0 (k + 1)
places_more old now k e m = m ∙ ap (λ (l : List ℕ). l ++ k ∷ []) e ∙ sym (range_more 0 k k (omega arith)) ∙ ap (range_with_len 0) (sym (add-one k))

-- what a stable sort of the places makes
pub sorted_are : (columns : List (List ℤ)) (rows : ℕ) (old now : List ℕ) → old ≡ range_with_len 0 rows → IsSortedBy (places_before columns) now → IsStableBy (places_before columns) old now
    → now ≡ sorted_places columns rows
unfolding sorted_places
sorted_are columns rows old now start up stable =
    let o = places_ranked columns in
    let all : List ℕ = range_with_len 0 rows in
    one_sorted (places_before columns) o now (sorted columns all) (rises (places_before columns) now (sorted_far (places_before columns) o now up)) (rises_sorted columns all)
    (λ z. stable z ∙ ap (filter (ties (places_before columns) z)) start ∙ sym (ties_sorted columns z all))

-- ---- what sorted places are

-- by their rows, and of equal rows by themselves
abbrev earlier : List (List ℤ) → ℕ → ℕ → Bool
earlier columns p q = is_lt (place_order columns p q)

earlier_ranked : (columns : List (List ℤ)) → IsStrictWeakOrder (earlier columns)
earlier_ranked columns = ranks_by (then_total (order_total columns) nat_cmp_total) (λ p. p)

-- of two places the later one is earlier only by its row
cmp_later : (a b : Bool) → a ≡ false → is_lt (cond a Less (cond b Equal Greater)) ≡ false
cmp_later true b e = absurd (true_is_not_false e)
cmp_later false true e = refl
cmp_later false false e = refl

by_row : (o tie : Ordering) → is_lt tie ≡ false → is_lt (ordering_then o tie) ≡ is_lt o
by_row Less tie e = refl
by_row Equal tie e = e
by_row Greater tie e = refl

later : (columns : List (List ℤ)) (p q : ℕ) → p < q → earlier columns q p ≡ places_before columns q p
later columns p q lt =
    by_row (places_order columns q p) (nat_cmp q p) (cmp_later (nat_lt q p) (q == p) (le-ltb q p (omega arith)))

-- all these places come after p
abbrev Above : ℕ → List ℕ → Type 0
Above p [] = ⊤
Above p (q ∷ qs) = (p < q) × Above p qs

above_range : (p a n : ℕ) → p < a → Above p (range_with_len a n)
above_range p a zero lt = tt
above_range p a (suc n) lt = (lt, above_range p (a + 1) n (omega arith))

module _ (columns : List (List ℤ)) where
  above_if : (x p q : ℕ) (qs more : List ℕ) (b : Bool) → x < p → Above x (q ∷ qs) → Above x more → Above x (if b then q ∷ more else p ∷ q ∷ qs)
  above_if x p q qs more true lt u m = (u.0, m)
  above_if x p q qs more false lt u m = (lt, u)

  above_inserted : (x p : ℕ) (qs : List ℕ) → x < p → Above x qs → Above x (inserted columns p qs)
  unfolding inserted
  above_inserted x p [] lt u = (lt, tt)
  above_inserted x p (q ∷ qs) lt u = above_if x p q qs (inserted columns p qs) (places_before columns q p) lt u (above_inserted x p qs lt u.1)

  above_sorted : (x : ℕ) (ps : List ℕ) → Above x ps → Above x (sorted columns ps)
  unfolding sorted
  above_sorted x [] u = tt
  above_sorted x (p ∷ ps) u = above_inserted x p (sorted columns ps) u.0 (above_sorted x ps u.1)

  agrees_above : (p : ℕ) (qs : List ℕ) → Above p qs → Agrees columns (earlier columns) (earlier_ranked columns) p qs
  agrees_above p [] u = tt
  agrees_above p (q ∷ qs) u = (later columns p q u.0, agrees_above p qs u.1)

  rises_by_place : (a n : ℕ) → Rises (earlier columns) (sorted columns (range_with_len a n))
  unfolding sorted
  rises_by_place a zero = tt
  rises_by_place a (suc n) =
      let rest : List ℕ = sorted columns (range_with_len (a + 1) n) in
      rises_inserted columns (earlier columns) (earlier_ranked columns) a rest
      (agrees_above a rest (above_sorted a (range_with_len (a + 1) n) (above_range a (a + 1) n (omega arith)))) (rises_by_place (a + 1) n)

  moved_if : (p q : ℕ) (qs more : List ℕ) (b : Bool) → IsPermutation (p ∷ qs) more → IsPermutation (p ∷ q ∷ qs) (if b then q ∷ more else p ∷ q ∷ qs)
  moved_if p q qs more true m =
      IsPermutation-trans _ _ _ (IsPermutation-sym _ _ (IsPermutation-middle (q ∷ []) p qs)) (IsPermutation-cons q (p ∷ qs) more m)
  moved_if p q qs more false m = IsPermutation-refl (p ∷ q ∷ qs)

  moved_inserted : (p : ℕ) (qs : List ℕ) → IsPermutation (p ∷ qs) (inserted columns p qs)
  unfolding inserted
  moved_inserted p [] = IsPermutation-refl (p ∷ [])
  moved_inserted p (q ∷ qs) = moved_if p q qs (inserted columns p qs) (places_before columns q p) (moved_inserted p qs)

  moved_sorted : (ps : List ℕ) → IsPermutation ps (sorted columns ps)
  unfolding sorted
  moved_sorted [] = IsPermutation-refl []
  moved_sorted (p ∷ ps) = IsPermutation-trans _ _ _ (IsPermutation-cons p ps (sorted columns ps) (moved_sorted ps)) (moved_inserted p (sorted columns ps))

-- a list that rises is sorted
sorted_of : {X : Type 0} (lt : X → X → Bool) (xs : List X) → Rises lt xs → (k : ℕ) (d : X) → suc k < length xs → lt (slice_index_or xs (suc k) d) (slice_index_or xs k d) ≡ false
sorted_of lt [] u k d l = absurd (omega arith)
sorted_of lt (x ∷ []) u k d l = absurd (omega arith)
sorted_of lt (x ∷ y ∷ xs) u zero d l = u.0.0
sorted_of lt (x ∷ y ∷ xs) u (suc k) d l = sorted_of lt (y ∷ xs) u.1 k d (omega arith)

-- the sorted places are each row's, once, and they rise by their rows, those of equal rows by place
pub sorted_places_are : (columns : List (List ℤ)) (rows : ℕ) → IsSortingOf columns rows (sorted_places columns rows)
unfolding sorted_places
sorted_places_are columns rows = record {
  all = moved_sorted columns (range_with_len 0 rows);
  rises = λ k d low high. rw (add-one k) (sorted_of (earlier columns) (sorted columns (range_with_len 0 rows)) (rises_by_place columns 0 rows) k d (omega arith));
}

-- ---- the key as the first column

-- what is left behind a place
left_behind : {A : Type 0} (xs : List A) (n : ℕ) → take (length xs - n) (drop n xs) ≡ drop n xs
left_behind xs n = take_all (length xs - n) (drop n xs) (omega (arith, length-drop n xs))

pub key_is_first : {A : Type 0} (cells : A → List ℤ) (columns : List A) (k : ℕ) (d : A) → k < length columns
    → (cells (get_or columns k d) ∷ map cells (take k columns)) ++ map cells (take (length columns - (k + 1)) (drop (k + 1) columns)) ≡ key_first k (map cells columns)
key_is_first cells columns k d lt =
    ap (λ (l : List _). (cells (get_or columns k d) ∷ map cells (take k columns)) ++ map cells l) (left_behind columns (k + 1))
    ∙ (λ j. (sym (get_or-map cells columns k d [] lt) j ∷ sym (take-map cells k columns) j) ++ map cells (drop (add-one k j) columns))
    ∙ ap (λ (l : List (List ℤ)). (get_or (map cells columns) k [] ∷ take k (map cells columns)) ++ l) (sym (drop-map cells (suc k) columns))
