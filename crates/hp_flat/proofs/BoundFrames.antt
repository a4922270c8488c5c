-- The constraints of frames: the first slot of an array's frame stands for the array's first column.
use Rattle.std.proofs.Common.{◌≡◌, ℕ, zero, suc, ◌+◌, ◌==◌, Bool, true, false, not, ◌&&◌, ◌||◌, cond, if◌then◌else◌, nat_lt, List, [], ◌∷◌, ◌++◌, length, map, slice_get, Some, None, IsTrue, unwrap_or, refl, sym, ap, ap₂, subst, ◌∙◌, arith}
use Rattle.std.proofs.lemmas.Bool.{eqb-true, eq-eqb, ne_eqb, and_parts, or_left, or_right}
use Rattle.std.specs.List.{AllByRecursion, position_or_len}
use Rattle.hp_air.specs.declared.slot.Slot.{Slot}
use Rattle.hp_air.specs.Carried.{is_among}
use Rattle.hp_air.specs.Constraints.{equal}
use Rattle.hp_air.specs.Frames.{is_one_frame, slot_at, first_of}
use Rattle.hp_air.specs.Placed.{frame_bounds}
use Rattle.hp_air.specs.ScriptBounds.{first_column, column_bounds}
use Rattle.hp_air.specs.Unknowns.{Known, Unknown, same_unknown}
use Rattle.hp_flat.specs.FlatLaws.{are_apart, rebound}
use Rattle.hp_flat.specs.Homes.{slot_for}
use Rattle.hp_flat.proofs.ArrayBlocks.{IsArray, is_same, same_itself}
use Rattle.hp_flat.proofs.ServedCode.{all_both}
use Rattle.hp_flat.proofs.SlotOrder.{InOrder, Follows, beside, beside_none}
use Rattle.hp_flat.proofs.SlotPlaces.{at_its_place, found_as}

-- ---- places

agree : (b z : Bool) → (b ≡ true → z ≡ true) → b ≡ (b && z)
agree true z h = sym (h refl)
agree false z h = refl

both_places : (s t : Bool) (p q : ℕ) → s ≡ t → (s ≡ false → p ≡ q) → cond (not s) (1 + p) 0 ≡ cond (not t) (1 + q) 0
both_places true true p q e next = refl
both_places false false p q e next = ap (λ (n : ℕ). 1 + n) (next refl)
both_places true false p q e next = absurd cc
both_places false true p q e next = absurd cc

below_some : {A : Type 0} (xs : List A) (k : ℕ) (x : A) → slice_get xs k ≡ Some x → nat_lt k (length xs) ≡ true
below_some [] k x e = absurd cc
below_some (y ∷ xs) zero x e = grind arith
below_some (y ∷ xs) (suc k) x e = shifted k (length xs) (below_some xs k x e)
  where
    shifted : (k n : ℕ) → nat_lt k n ≡ true → nat_lt (suc k) (suc n) ≡ true
    shifted k n h = grind arith

among_at : (us : List Unknown) (k : ℕ) (u : Unknown) → IsArray u → slice_get us k ≡ Some u → IsTrue (is_among us u)
among_at [] k u is e = absurd cc
among_at (x ∷ us) zero u is e = let same : x ≡ u = cc in or_left (same_unknown u x) (is_among us u) (subst (λ (v : Unknown). same_unknown u v ≡ true) (sym same) (same_itself u is))
among_at (x ∷ us) (suc k) u is e = or_right (same_unknown u x) (is_among us u) (among_at us k u is e)

-- in a list without repeats each array stands at its own place
pub apart_place : (us : List Unknown) (k : ℕ) (u : Unknown) → IsArray u → IsTrue (are_apart us) → slice_get us k ≡ Some u → position_or_len (same_unknown u) us ≡ k
apart_place [] k u is apart e = absurd cc
apart_place (x ∷ us) zero u is apart e =
    let same : x ≡ u = cc in
    let own : same_unknown u x ≡ true = subst (λ (v : Unknown). same_unknown u v ≡ true) (sym same) (same_itself u is) in
    ap (λ (b : Bool). cond (not b) (1 + position_or_len (same_unknown u) us) 0) own
apart_place (x ∷ us) (suc k) u is apart e =
    let parts = and_parts (not (is_among us x)) (are_apart us) apart in
    other (same_unknown u x) refl parts.0 (apart_place us k u is parts.1 e)
  where
    other : (b : Bool) → same_unknown u x ≡ b → not (is_among us x) ≡ true → position_or_len (same_unknown u) us ≡ k → cond (not b) (1 + position_or_len (same_unknown u) us) 0 ≡ suc k
    other false same new next = ap (λ (n : ℕ). 1 + n) next ∙ omega arith
    other true same new next =
        let equal : u ≡ x = is_same u x same in
        let there : is_among us x ≡ true = subst (λ (v : Unknown). is_among us v ≡ true) equal (among_at us k u is e) in
        absurd cc

-- ---- the first column of a frame

-- the arrays of one kind
pub data Kind (g : Known) (made : ℕ → ℕ → Unknown) : Unknown → Type 0 where
  of_it : (m j : ℕ) → Kind g made (made m j)
  other : {w : Unknown} → ((n k : ℕ) → is_one_frame (slot_for g (made n k)) (slot_for g w) ≡ false) → ((n k : ℕ) → same_unknown (made n k) w ≡ false) → Kind g made w

module _ (g : Known) (made : ℕ → ℕ → Unknown) (kind : (w : Unknown) → Kind g made w) (array : (n k : ℕ) → IsArray (made n k))
    (plain : (n k : ℕ) → (slot_for g (made n k)).balanced ≡ false) (column : (n k : ℕ) → (slot_for g (made n k)).column ≡ k)
    (frame : (n k m j : ℕ) → is_one_frame (slot_for g (made n k)) (slot_for g (made m j)) ≡ (n == m))
    (same : (n k m j : ℕ) → same_unknown (made n k) (made m j) ≡ ((n == m) && (k == j)))
    (any_column : (n k j : ℕ) (w : Unknown) → is_one_frame (slot_for g (made n k)) (slot_for g w) ≡ is_one_frame (slot_for g (made n j)) (slot_for g w)) where
  abbrev in_frame : Unknown → Unknown → Bool
  in_frame u w = is_one_frame (slot_for g u) (slot_for g w)

  abbrev None_in : (n c : ℕ) → List Unknown → Type 0
  None_in n c before = AllByRecursion (λ x. in_frame (made n c) x ≡ false) before

  none_moved : (n c m j : ℕ) → n ≡ m → (before : List Unknown) → None_in n c before → None_in m j before
  none_moved n c m j e [] none = tt
  none_moved n c m j e (x ∷ before) none = (sym (any_column m c j x) ∙ ap (λ (k : ℕ). in_frame (made k c) x) (sym e) ∙ none.0, none_moved n c m j e before none.1)

  follows_plain : (b : Bool) (before : List Unknown) (w : Unknown) (k : ℕ) → b ≡ false → (if b then 1 else beside g w before) ≡ k → beside g w before ≡ k
  follows_plain false before w k e h = h
  follows_plain true before w k e h = absurd cc

  -- an array behind others of which none is of this frame is of it where it is its first column
  agrees : (n c : ℕ) (w : Unknown) (before : List Unknown) → Kind g made w → Follows g before w → None_in n c before → in_frame (made n c) w ≡ same_unknown (made n 0) w
  agrees n c _ before (of_it m j) follows none =
      frame n c m j
      ∙ agree (n == m) (0 == j)
      (λ e.
      let first : beside g (made m j) before ≡ 0 = beside_none g (made m j) before (none_moved n c m j (eqb-true n m e) before none) in
      let own : beside g (made m j) before ≡ j = follows_plain ((slot_for g (made m j)).balanced) before (made m j) j (plain m j) (follows ∙ column m j) in
      eq-eqb 0 j (sym first ∙ own))
      ∙ sym (same n 0 m j)
  agrees n c w before (other not_in not_same) follows none = not_in n c ∙ sym (not_same n 0)

  first_place : (n c : ℕ) (before us : List Unknown) → InOrder g before us → None_in n c before
      → position_or_len (is_one_frame (slot_for g (made n c))) (map (slot_for g) us) ≡ position_or_len (same_unknown (made n 0)) us
  first_place n c before [] order none = refl
  first_place n c before (w ∷ us) order none =
      both_places (in_frame (made n c) w) (same_unknown (made n 0) w) _ _ (agrees n c w before (kind w) order.0 none)
      (λ e. first_place n c (before ++ w ∷ []) us order.1 (all_both (λ (x : Unknown). in_frame (made n c) x ≡ false) before (w ∷ []) none (e, tt)))

  same_in : (n c : ℕ) (w : Unknown) → Kind g made w → same_unknown (made n c) w ≡ true → in_frame (made n c) w ≡ true
  same_in n c _ (of_it m j) e = frame n c m j ∙ (and_parts (n == m) (c == j) (sym (same n c m j) ∙ e)).0
  same_in n c w (other not_in not_same) e = let never : same_unknown (made n c) w ≡ false = not_same n c in absurd cc

  first_among : (n c : ℕ) (before us : List Unknown) → InOrder g before us → None_in n c before → IsTrue (is_among us (made n c)) → IsTrue (is_among us (made n 0))
  first_among n c before [] order none is = absurd cc
  first_among n c before (w ∷ us) order none is =
      split (in_frame (made n c) w) (same_unknown (made n c) w) refl (agrees n c w before (kind w) order.0 none) (same_in n c w (kind w)) is
      (λ e. first_among n c (before ++ w ∷ []) us order.1 (all_both (λ (x : Unknown). in_frame (made n c) x ≡ false) before (w ∷ []) none (e, tt)))
    where
      split : (b s : Bool) → in_frame (made n c) w ≡ b → b ≡ same_unknown (made n 0) w → (s ≡ true → b ≡ true) → (s || is_among us (made n c)) ≡ true
          → (in_frame (made n c) w ≡ false → IsTrue (is_among us (made n c)) → IsTrue (is_among us (made n 0))) → (same_unknown (made n 0) w || is_among us (made n 0)) ≡ true
      split true s b_is e h is next = or_left (same_unknown (made n 0) w) (is_among us (made n 0)) (sym e)
      split false false b_is e h is next = or_right (same_unknown (made n 0) w) (is_among us (made n 0)) (next b_is is)
      split false true b_is e h is next = let never : false ≡ true = h refl in absurd cc

  -- ---- the constraints of a column

  module _ (us : List Unknown) (order : InOrder g [] us) (apart : IsTrue (are_apart us)) (back : ℕ → Unknown) (backs : (u : Unknown) → IsTrue (is_among us u) → back (position_or_len (same_unknown u) us) ≡ u) where
    column_is : (n c k : ℕ) → slot_at (map (slot_for g) us) k ≡ slot_for g (made n c) → IsTrue (is_among us (made n c)) → first_of (map (slot_for g) us) k ≡ position_or_len (same_unknown (made n 0)) us
    unfolding first_of
    column_is n c k slot is =
        let q = position_or_len (same_unknown (made n 0)) us in
        let at : slice_get (map (slot_for g) us) q ≡ Some (slot_for g (made n 0)) = found_as (slot_for g) (made n 0) us (first_among n c [] us order tt is) in
        ap (λ (s : Slot). unwrap_or (cond (nat_lt (position_or_len (is_one_frame s) (map (slot_for g) us)) (length (map (slot_for g) us))) (Some (position_or_len (is_one_frame s) (map (slot_for g) us))) None) k) slot
        ∙ ap (λ (p : ℕ). unwrap_or (cond (nat_lt p (length (map (slot_for g) us))) (Some p) None) k) (first_place n c [] us order tt)
        ∙ ap (λ (b : Bool). unwrap_or (cond b (Some q) None) k) (below_some (map (slot_for g) us) q (slot_for g (made n 0)) at)

    pub column_bounded : (n c k : ℕ) → first_column (made n c) ≡ made n 0 → slot_at (map (slot_for g) us) k ≡ slot_for g (made n c) → slice_get us k ≡ Some (made n c)
        → map (rebound back) (frame_bounds (map (slot_for g) us) k) ≡ column_bounds (made n c)
    unfolding frame_bounds column_bounds
    column_bounded n c k first slot at =
        let q = position_or_len (same_unknown (made n 0)) us in
        let is = among_at us k (made n c) (array n c) at in
        let own : position_or_len (same_unknown (made n c)) us ≡ k = apart_place us k (made n c) (array n c) apart at in
        ap (λ (p : ℕ). map (rebound back) (if p == k then [] else equal k p)) (column_is n c k slot is)
        ∙ decided (c == 0) refl q own is
        ∙ ap (λ (u : Unknown). if same_unknown (made n c) u then [] else equal (made n c) u) (sym first)
      where
        decided : (b : Bool) → (c == 0) ≡ b → (q : ℕ) → position_or_len (same_unknown (made n c)) us ≡ k → IsTrue (is_among us (made n c))
            → map (rebound back) (if position_or_len (same_unknown (made n 0)) us == k then [] else equal k (position_or_len (same_unknown (made n 0)) us)) ≡ (if same_unknown (made n c) (made n 0) then [] else equal (made n c) (made n 0))
        decided true e q own is =
            let zero_is : c ≡ 0 = eqb-true c 0 e in
            let here : position_or_len (same_unknown (made n 0)) us ≡ k = subst (λ (d : ℕ). position_or_len (same_unknown (made n d)) us ≡ k) zero_is own in
            let one : same_unknown (made n c) (made n 0) ≡ true = same n c n 0 ∙ ap₂ (λ (x y : Bool). x && y) (eq-eqb n n refl) e in
            ap (λ (b : Bool). map (rebound back) (if b then [] else equal k (position_or_len (same_unknown (made n 0)) us))) (eq-eqb (position_or_len (same_unknown (made n 0)) us) k here)
            ∙ ap (λ (b : Bool). if b then [] else equal (made n c) (made n 0)) (sym one)
        decided false e q own is =
            let there = first_among n c [] us order tt is in
            let apart_from : position_or_len (same_unknown (made n 0)) us ≡ k → ⊥ =
            λ same_place.
            let first_at : slice_get us (position_or_len (same_unknown (made n 0)) us) ≡ Some (made n 0) = at_its_place (made n 0) us there in
            let moved : slice_get us k ≡ Some (made n 0) = subst (λ (p : ℕ). slice_get us p ≡ Some (made n 0)) same_place first_at in
            let both : made n c ≡ made n 0 = cc in
            let now : same_unknown (made n c) (made n c) ≡ true = same_itself (made n c) (array n c) in
            let so : same_unknown (made n c) (made n 0) ≡ true = subst (λ (u : Unknown). same_unknown (made n c) u ≡ true) both now in
            let third : (c == 0) ≡ true = (and_parts (n == n) (c == 0) (sym (same n c n 0) ∙ so)).1 in
            absurd cc in
            let differ : same_unknown (made n c) (made n 0) ≡ false = same n c n 0 ∙ ap₂ (λ (x y : Bool). x && y) (eq-eqb n n refl) e in
            ap (λ (b : Bool). map (rebound back) (if b then [] else equal k (position_or_len (same_unknown (made n 0)) us))) (ne_eqb (position_or_len (same_unknown (made n 0)) us) k apart_from)
            ∙ ap₂ (λ (u v : Unknown). equal u v) (ap back (sym own) ∙ backs (made n c) is) (backs (made n 0) there)
            ∙ ap (λ (b : Bool). if b then [] else equal (made n c) (made n 0)) (sym differ)
