-- The slot of an array is its place among the arrays of the script: there it stands, and there stands no other.
use Rattle.std.proofs.Common.{◌≡◌, ℕ, zero, suc, ◌+◌, ◌<◌, Bool, true, false, not, ◌||◌, cond, List, [], ◌∷◌, ◌++◌, map, slice_get, Some, IsTrue, option_map, refl, sym, ap, ◌∙◌, subst, arith}
use Rattle.std.proofs.lemmas.Bool.{or_left, or_right}
use Rattle.std.proofs.lemmas.Option.{slice_get-map}
use Rattle.std.proofs.lemmas.List.Folds.{list_any-append}
use Rattle.std.specs.Prelude.{slice_index_or}
use Rattle.std.specs.List.{range_with_len, position_or_len}
use Rattle.hp_air.specs.Carried.{is_among}
use Rattle.hp_air.specs.Unknowns.{Unknown, same_unknown}
use Rattle.hp_flat.proofs.ArrayBlocks.{IsArray, is_same, same_itself, blocks}

-- ---- places

next_place : {X : Type 0} (x : X) (xs : List X) (n : ℕ) → slice_get (x ∷ xs) (1 + n) ≡ slice_get xs n
next_place x xs n = let next : 1 + n ≡ suc n = omega arith in ap (slice_get (x ∷ xs)) next

-- an array that is in a list stands at its first place
module _ (u : Unknown) where
  place_next : (t : Bool) (v : Unknown) (vs : List Unknown) → (IsTrue t → u ≡ v) → (IsTrue (is_among vs u) → slice_get vs (position_or_len (same_unknown u) vs) ≡ Some u)
      → IsTrue (t || is_among vs u) → slice_get (v ∷ vs) (cond (not t) (1 + position_or_len (same_unknown u) vs) 0) ≡ Some u
  place_next true v vs same next is = ap Some (sym (same refl))
  place_next false v vs same next is = next_place v vs (position_or_len (same_unknown u) vs) ∙ next is

  pub at_its_place : (us : List Unknown) → IsTrue (is_among us u) → slice_get us (position_or_len (same_unknown u) us) ≡ Some u
  at_its_place [] is = absurd cc
  at_its_place (v ∷ vs) is = place_next (same_unknown u v) v vs (is_same u v) (at_its_place vs) is

  only_next : (t : Bool) (v w : Unknown) (vs : List Unknown) → (IsTrue t → u ≡ v) → (slice_get vs (position_or_len (same_unknown u) vs) ≡ Some w → u ≡ w)
      → slice_get (v ∷ vs) (cond (not t) (1 + position_or_len (same_unknown u) vs) 0) ≡ Some w → u ≡ w
  only_next true v w vs same next at = let is : v ≡ w = cc in same refl ∙ is
  only_next false v w vs same next at = next (sym (next_place v vs (position_or_len (same_unknown u) vs)) ∙ at)

  -- what stands at the first place of an array is that array
  pub only_at_its_place : (w : Unknown) (us : List Unknown) → slice_get us (position_or_len (same_unknown u) us) ≡ Some w → u ≡ w
  only_at_its_place w [] at = absurd cc
  only_at_its_place w (v ∷ vs) at = only_next (same_unknown u v) v w vs (is_same u v) (only_at_its_place w vs) at

pub found_as : {X : Type 0} (f : Unknown → X) (u : Unknown) (us : List Unknown) → IsTrue (is_among us u) → slice_get (map f us) (position_or_len (same_unknown u) us) ≡ Some (f u)
found_as f u us is = slice_get-map f us (position_or_len (same_unknown u) us) ∙ ap (option_map f) (at_its_place u us is)

pub one_place : (u v : Unknown) (us : List Unknown) → IsTrue (is_among us u) → position_or_len (same_unknown u) us ≡ position_or_len (same_unknown v) us → u ≡ v
one_place u v us is same = sym (only_at_its_place v u us (ap (slice_get us) (sym same) ∙ at_its_place u us is))

-- ---- what is among the arrays

pub among_left : (u : Unknown) (xs ys : List Unknown) → IsTrue (is_among xs u) → IsTrue (is_among (xs ++ ys) u)
among_left u xs ys is = list_any-append (same_unknown u) xs ys ∙ or_left _ _ is

pub among_right : (u : Unknown) (xs ys : List Unknown) → IsTrue (is_among ys u) → IsTrue (is_among (xs ++ ys) u)
among_right u xs ys is = list_any-append (same_unknown u) xs ys ∙ or_right _ _ is

module _ (made : ℕ → ℕ → Unknown) (are : (n k : ℕ) → IsArray (made n k)) where
  itself_at : (n b k : ℕ) → b ≡ k → same_unknown (made n k) (made n b) ≡ true
  itself_at n b k e = ap (λ (c : ℕ). same_unknown (made n k) (made n c)) e ∙ same_itself (made n k) (are n k)

  among_columns : (n b w k : ℕ) → k < w → IsTrue (is_among (map (made n) (range_with_len b w)) (made n (b + k)))
  among_columns n b zero k less = absurd (omega (arith, less))
  among_columns n b (suc w) zero less = or_left _ _ (itself_at n b (b + 0) (omega arith))
  among_columns n b (suc w) (suc k) less =
      let next : (b + 1) + k ≡ b + suc k = omega arith in
      or_right (same_unknown (made n (b + suc k)) (made n b)) _
      (subst (λ (c : ℕ). IsTrue (is_among (map (made n) (range_with_len (b + 1) w)) (made n c))) next (among_columns n (b + 1) w k (omega (arith, less))))

  among_first : (n w k : ℕ) → k < w → IsTrue (is_among (map (made n) (range_with_len 0 w)) (made n k))
  among_first n w k less =
      let same : 0 + k ≡ k = omega arith in
      subst (λ (c : ℕ). IsTrue (is_among (map (made n) (range_with_len 0 w)) (made n c))) same (among_columns n 0 w k less)

  -- each column of each value is among its blocks
  pub among_blocks : (n : ℕ) (ws : List ℕ) (m c : ℕ) → c < slice_index_or ws m 0 → IsTrue (is_among (blocks made n ws) (made (n + m) c))
  among_blocks n [] m c less = absurd (none m less)
    where
      none : (m : ℕ) → c < slice_index_or {A = ℕ} [] m 0 → ⊥
      none zero l = omega (arith, l)
      none (suc m) l = omega (arith, l)
  among_blocks n (w ∷ ws) zero c less =
      let same : n ≡ n + 0 = omega arith in
      subst (λ (k : ℕ). IsTrue (is_among (blocks made n (w ∷ ws)) (made k c))) same
      (among_left (made n c) (map (made n) (range_with_len 0 w)) (blocks made (n + 1) ws) (among_first n w c less))
  among_blocks n (w ∷ ws) (suc m) c less =
      let next : (n + 1) + m ≡ n + suc m = omega arith in
      subst (λ (k : ℕ). IsTrue (is_among (blocks made n (w ∷ ws)) (made k c))) next
      (among_right (made ((n + 1) + m) c) (map (made n) (range_with_len 0 w)) (blocks made (n + 1) ws) (among_blocks (n + 1) ws m c less))
