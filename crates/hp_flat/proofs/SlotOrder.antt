-- The columns of each value stand in the order of their slots.
use Rattle.std.proofs.Common.{◌≡◌, ◌≢◌, ℕ, zero, suc, ◌+◌, ◌≤◌, ◌==◌, Bool, true, false, cond, if◌then◌else◌, List, [], ◌∷◌, ◌++◌, map, length, take, IsTrue, refl, sym, ap, ◌∙◌, subst, append_assoc, append-nil, arith}
use Rattle.std.proofs.lemmas.Bool.{eq-eqb, ne_eqb, and_from}
use Rattle.std.proofs.lemmas.List.Sums.{sum_by-cons}
use Rattle.std.specs.Prelude.{count_by}
use Rattle.std.specs.List.{AllByRecursion, list_all, range_with_len}
use Rattle.hp_air.specs.declared.slot.Slot.{Slot}
use Rattle.hp_air.specs.Frames.{is_one_frame, slot_at}
use Rattle.hp_air.specs.Kept.{stands_for_one, is_in_order}
use Rattle.hp_air.specs.Unknowns.{Known, Unknown, of_variable, of_node, balanced_of, of_nothing}
use Rattle.hp_flat.specs.Homes.{slot_for}
use Rattle.hp_flat.proofs.ArrayBlocks.{IsArray, blocks, regrouped}

-- ---- how many columns of an array's frame stand in a list

module _ (g : Known) where
  abbrev pub beside : Unknown → List Unknown → ℕ
  beside u [] = 0
  beside u (v ∷ vs) = cond (is_one_frame (slot_for g u) (slot_for g v)) 1 0 + beside u vs

  pub beside_append : (u : Unknown) (xs ys : List Unknown) → beside u (xs ++ ys) ≡ beside u xs + beside u ys
  beside_append u [] ys = omega arith
  beside_append u (x ∷ xs) ys = regrouped (cond (is_one_frame (slot_for g u) (slot_for g x)) 1 0) (beside u xs) (beside u ys) (beside u (xs ++ ys)) (beside_append u xs ys)

  pub beside_none : (u : Unknown) (us : List Unknown) → AllByRecursion (λ v. is_one_frame (slot_for g u) (slot_for g v) ≡ false) us → beside u us ≡ 0
  beside_none u [] none = refl
  beside_none u (v ∷ vs) none = rw none.0 (omega (arith, beside_none u vs none.1))

  -- ---- arrays in order

  -- an array behind these has its own number among the columns of its frame
  abbrev pub Follows : (before : List Unknown) → Unknown → Type 0
  Follows before u = (if (slot_for g u).balanced then 1 else beside u before) ≡ (slot_for g u).column

  abbrev pub InOrder : (before behind : List Unknown) → Type 0
  InOrder before [] = Unit {0}
  InOrder before (u ∷ us) = Follows before u × InOrder (before ++ u ∷ []) us

  one_further : (before : List Unknown) (x : Unknown) (xs : List Unknown) → (before ++ x ∷ []) ++ xs ≡ before ++ x ∷ xs
  one_further before x xs = append_assoc before (x ∷ []) xs

  pub order_append : (before xs ys : List Unknown) → InOrder before xs → InOrder (before ++ xs) ys → InOrder before (xs ++ ys)
  order_append before [] ys first second = subst (λ (l : List Unknown). InOrder l ys) (append-nil before) second
  order_append before (x ∷ xs) ys first second =
      (first.0, order_append (before ++ x ∷ []) xs ys first.1 (subst (λ (l : List Unknown). InOrder l ys) (sym (one_further before x xs)) second))

  -- balanced copies stand each by itself
  pub copies_in_order : (before us : List Unknown) → AllByRecursion (λ u. Follows [] u × ((slot_for g u).balanced ≡ true)) us → InOrder before us
  copies_in_order before [] are = tt
  copies_in_order before (u ∷ us) are = (alone ((slot_for g u).balanced) are.0.1 are.0.0, copies_in_order (before ++ u ∷ []) us are.1)
    where
      alone : (b : Bool) → b ≡ true → (if b then 1 else 0) ≡ (slot_for g u).column → (if b then 1 else beside u before) ≡ (slot_for g u).column
      alone true e is = is
      alone false e is = absurd cc

  module _ (made : ℕ → ℕ → Unknown)
      (plain : (n k : ℕ) → (slot_for g (made n k)).balanced ≡ false) (column : (n k : ℕ) → (slot_for g (made n k)).column ≡ k)
      (frame : (n k m j : ℕ) → is_one_frame (slot_for g (made n k)) (slot_for g (made m j)) ≡ (n == m)) where
    beside_one : (n k b : ℕ) → beside (made n k) (made n b ∷ []) ≡ 1
    beside_one n k b = rw (frame n k n b, eq-eqb n n refl) refl

    beside_other : (m n k b w : ℕ) → m ≢ n → beside (made m k) (map (made n) (range_with_len b w)) ≡ 0
    beside_other m n k b zero apart = refl
    beside_other m n k b (suc w) apart = rw (frame m k n b, ne_eqb m n apart) (omega (arith, beside_other m n k (b + 1) w apart))

    follows : (before : List Unknown) (n b : ℕ) → beside (made n b) before ≡ b → Follows before (made n b)
    follows before n b many = rw (plain n b, column n b) many

    columns_in_order : (before : List Unknown) (n b w : ℕ) → ((k : ℕ) → beside (made n k) before ≡ b) → InOrder before (map (made n) (range_with_len b w))
    columns_in_order before n b zero many = tt
    columns_in_order before n b (suc w) many = (
      follows before n b (many b),
      columns_in_order (before ++ made n b ∷ []) n (b + 1) w (λ k. beside_append (made n k) before (made n b ∷ []) ∙ omega (arith, many k, beside_one n k b)),
    )

    pub blocks_in_order : (before : List Unknown) (n : ℕ) (ws : List ℕ) → ((m k : ℕ) → n ≤ m → beside (made m k) before ≡ 0) → InOrder before (blocks made n ws)
    blocks_in_order before n [] none = tt
    blocks_in_order before n (w ∷ ws) none =
        order_append before (map (made n) (range_with_len 0 w)) (blocks made (n + 1) ws)
        (columns_in_order before n 0 w (λ k. none n k (omega arith)))
        (blocks_in_order (before ++ map (made n) (range_with_len 0 w)) (n + 1) ws
        (λ m k le. beside_append (made m k) before (map (made n) (range_with_len 0 w)) ∙ omega (arith, none m k (omega (arith, le)), beside_other m n k 0 w (λ e. omega (arith, le, e)))))

  -- ---- the slots of a program in order

  counted : (u : Unknown) (us : List Unknown) → count_by (is_one_frame (slot_for g u)) (map (slot_for g) us) ≡ beside u us
  counted u [] = refl
  counted u (v ∷ vs) =
      sum_by-cons (λ (s : Slot). cond (is_one_frame (slot_for g u) s) 1 0) (slot_for g v) (map (slot_for g) vs)
      ∙ ap (λ (n : ℕ). cond (is_one_frame (slot_for g u) (slot_for g v)) 1 0 + n) (counted u vs)

  taken : (before behind : List Unknown) → take (length before) (map (slot_for g) (before ++ behind)) ≡ map (slot_for g) before
  taken [] behind = refl
  taken (x ∷ before) behind = ap (λ (l : List Slot). slot_for g x ∷ l) (taken before behind)

  standing : (before : List Unknown) (u : Unknown) (behind : List Unknown) → slot_at (map (slot_for g) (before ++ u ∷ behind)) (length before) ≡ slot_for g u
  standing [] u behind = refl
  standing (x ∷ before) u behind = standing before u behind

  one_in_order : (before : List Unknown) (u : Unknown) (behind : List Unknown) → Follows before u → IsTrue (is_in_order (map (slot_for g) (before ++ u ∷ behind)) (length before))
  one_in_order before u behind follows =
      rw (standing before u behind, taken before (u ∷ behind), counted u before) (eq-eqb _ _ follows)

  longer : (before : List Unknown) (u : Unknown) → length (before ++ u ∷ []) ≡ length before + 1
  longer [] u = refl
  longer (x ∷ before) u = ap suc (longer before u) ∙ omega arith

  pub slots_in_order : (before behind : List Unknown) → InOrder before behind
      → IsTrue (list_all (is_in_order (map (slot_for g) (before ++ behind))) (range_with_len (length before) (length behind)))
  slots_in_order before [] order = refl
  slots_in_order before (u ∷ us) order =
      let rest = slots_in_order (before ++ u ∷ []) us order.1 in
      and_from _ _ (one_in_order before u us order.0)
      (subst (λ (n : ℕ). IsTrue (list_all (is_in_order (map (slot_for g) (before ++ u ∷ us))) (range_with_len n (length us)))) (longer before u)
      (subst (λ (l : List Unknown). IsTrue (list_all (is_in_order (map (slot_for g) l)) (range_with_len (length (before ++ u ∷ [])) (length us)))) (one_further before u us) rest))

  each_stands : (u : Unknown) → IsArray u → IsTrue (stands_for_one (slot_for g u))
  unfolding slot_for
  each_stands (of_variable v c) is = refl
  each_stands (of_node n c) is = refl
  each_stands (balanced_of n) is = refl
  each_stands of_nothing is = absurd is

  pub all_stand : (us : List Unknown) → AllByRecursion IsArray us → IsTrue (list_all stands_for_one (map (slot_for g) us))
  all_stand [] are = refl
  all_stand (u ∷ us) are = and_from _ _ (each_stands u are.0) (all_stand us are.1)
