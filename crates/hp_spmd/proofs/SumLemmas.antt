-- Running sums, and what is set one for one.
use Rattle.std.proofs.Common.{◌≡◌, ◌∙◌, refl, sym, ap, ℕ, ℤ, ◌+◌, ◌+ℤ◌, ◌<◌, ◌≤◌, List, [], ◌∷◌, ◌++◌, append_assoc, length, drop, get_or}
use Rattle.std.proofs.lemmas.Int.{int_wrap-add_left}
use Rattle.std.proofs.lemmas.List.{append-nil, drop_more, drop_all}
use Rattle.std.specs.Int.{w64}
use Rattle.hp_word.specs.ListRules.{sums_after}
use Rattle.hp_word.specs.Words.{wrap}
use Rattle.hp_spmd.specs.Setting.{with_all}

-- sums behind a number are those behind it as a word
pub sums_wrapped : (before : ℤ) (xs : List ℤ) → sums_after (wrap before) xs ≡ sums_after before xs
unfolding sums_after
sums_wrapped before [] = refl
sums_wrapped before (x ∷ xs) =
    ap (λ w. w ∷ sums_after (wrap before +ℤ x) xs) (int_wrap-add_left w64 before x)
    ∙ ap (λ l. wrap (before +ℤ x) ∷ l) (sym (sums_wrapped (wrap before +ℤ x) xs) ∙ ap (λ b. sums_after b xs) (int_wrap-add_left w64 before x) ∙ sums_wrapped (before +ℤ x) xs)

sums_one : (made : List ℤ) (total x : ℤ) (xs : List ℤ) → (made ++ wrap (total +ℤ x) ∷ []) ++ sums_after (wrap (total +ℤ x)) xs ≡ made ++ sums_after total (x ∷ xs)
unfolding sums_after
sums_one made total x xs =
    append_assoc made (wrap (total +ℤ x) ∷ []) (sums_after (wrap (total +ℤ x)) xs)
    ∙ ap (λ l. made ++ wrap (total +ℤ x) ∷ l) (sums_wrapped (total +ℤ x) xs)

-- one more cell
pub sums_more : (made now : List ℤ) (total next d : ℤ) (xs : List ℤ) (i : ℕ) (whole : List ℤ) → i < length xs → made ++ sums_after total (drop i xs) ≡ whole → next ≡ wrap (total +ℤ get_or xs i d) → now ≡ made ++ next ∷ []
    → now ++ sums_after next (drop (i + 1) xs) ≡ whole
sums_more made now total next d xs i whole lt so e p =
    ap (λ l. l ++ sums_after next (drop (i + 1) xs)) p
    ∙ ap (λ n. (made ++ n ∷ []) ++ sums_after n (drop (i + 1) xs)) e
    ∙ sums_one made total (get_or xs i d) (drop (i + 1) xs)
    ∙ sym (ap (λ l. made ++ sums_after total l) (drop_more xs i d lt))
    ∙ so

pub sums_end : (made : List ℤ) (total : ℤ) (xs : List ℤ) (i : ℕ) (whole : List ℤ) → length xs ≤ i → made ++ sums_after total (drop i xs) ≡ whole → made ≡ whole
unfolding sums_after
sums_end made total xs i whole le so = sym (append-nil made) ∙ sym (ap (λ l. made ++ sums_after total l) (drop_all i xs le)) ∙ so

pub nothing_set : {X : Type 0} (to : List ℕ) (made xs : List X) → made ≡ [] → with_all to made xs ≡ xs
nothing_set [] made xs e = refl
nothing_set (t ∷ to) made xs e = ap (λ m. with_all (t ∷ to) m xs) e
