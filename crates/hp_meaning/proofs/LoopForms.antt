-- What is worked out element by element is the column of a loop of one let.
use Rattle.std.proofs.Common.{◌≡◌, ℕ, ℤ, zero, suc, ◌<◌, ◌≤◌, pos, List, [], ◌∷◌, ◌++◌, map, take, length, get_or, not, Result, Ok, Err, refl, ap, sym, ◌∙◌, add-one, arith}
use Rattle.std.specs.Prelude.{zip}
use Rattle.std.specs.List.{range_with_len}
use Rattle.std.proofs.lemmas.List.{map-append, take_more, take_all}
use Rattle.std.proofs.lemmas.List.FromFn.{get_or-range_with_len, length-range_with_len}
use Rattle.std.proofs.lemmas.Slice.Zip.{length-zip}
use Rattle.hp_word.specs.declared.elem.Elem.{Elem}
use Rattle.hp_word.specs.declared.elem.Elem.TheVariants.{Number, Input}
use Rattle.hp_word.specs.declared.elem.Elem.TheViews.{Calc}
use Rattle.hp_word.specs.declared.place.Place.{Place}
use Rattle.hp_word.specs.declared.place.Trap.{Trap}
use Rattle.hp_word.specs.declared.place.TrapKind.{TrapKind}
use Rattle.hp_word.specs.declared.word.CalcOp.{CalcOp}
use Rattle.hp_word.specs.declared.word.CalcOp.TheVariants.{Not}
use Rattle.hp_word.specs.Elem.{Sight, elem_value, trapped_at, calc_of}
use Rattle.hp_word.specs.LoopRules.{and_then, word_at, column_of, sight_in}
use Rattle.hp_word.specs.Words.{calculated, is_true, truth}
use Rattle.hp_word.proofs.ElemLemmas.{value_Calc, value_Input, value_Number, calc_of_values}
use Rattle.hp_script.specs.Mirror.{Tree}
use Rattle.hp_meaning.specs.declared.value.Kind.{Kind}
use Rattle.hp_meaning.specs.declared.value.Var.{Var}
use Rattle.hp_meaning.specs.LambdaRules.{Element, Around, inside, scalar, word_in, number_in, mapped_words, stencil_words}
use Rattle.hp_meaning.specs.LoopLaws.{element_of, looped}
use Rattle.hp_meaning.specs.Outcomes.{Answer, Gives, Traps, Refuses, also, answered, told, all_of}
use Rattle.hp_meaning.specs.WordRules.{calculated_at, negated, pairwise, with_left, with_right}
use Rattle.hp_meaning.proofs.PairLemmas.{at_place, whole}

-- ---- one more place

-- one more value behind others, where there are all
abbrev behind : {A : Type 0} → Answer (List A) → Answer A → Answer (List A)
behind rest a = also rest (λ vs. also a (λ v. Gives (vs ++ v ∷ [])))

first_and_last : {A : Type 0} (b : Answer A) (rest : Answer (List A)) (a : Answer A) (all : Answer (List A)) → all ≡ behind rest a
    → also b (λ x. also all (λ xs. Gives (x ∷ xs))) ≡ behind (also b (λ x. also rest (λ xs. Gives (x ∷ xs)))) a
first_and_last (Gives x) (Gives vs) (Gives v) all e = ap (λ r. also r (λ xs. Gives (x ∷ xs))) e
first_and_last (Gives x) (Gives vs) (Traps t) all e = ap (λ r. also r (λ xs. Gives (x ∷ xs))) e
first_and_last (Gives x) (Gives vs) Refuses all e = ap (λ r. also r (λ xs. Gives (x ∷ xs))) e
first_and_last (Gives x) (Traps t) a all e = ap (λ r. also r (λ xs. Gives (x ∷ xs))) e
first_and_last (Gives x) Refuses a all e = ap (λ r. also r (λ xs. Gives (x ∷ xs))) e
first_and_last (Traps t) rest a all e = refl
first_and_last Refuses rest a all e = refl

last_of : {A : Type 0} (xs : List (Answer A)) (a : Answer A) → all_of (xs ++ a ∷ []) ≡ behind (all_of xs) a
unfolding all_of
last_of [] a = refl
last_of (b ∷ rest) a = first_and_last b (all_of rest) a (all_of (rest ++ a ∷ [])) (last_of rest a)

row_more : (rows : Result (List (List ℤ)) Trap) (value : Result ℤ Trap)
    → told (and_then (and_then rows (λ rows. and_then (and_then value (λ v. Ok (v ∷ []))) (λ r. Ok (rows ++ r ∷ [])))) (λ rows. Ok (column_of 0 rows)))
    ≡ behind (told (and_then rows (λ rows. Ok (column_of 0 rows)))) (told value)
row_more (Ok rows) (Ok v) = ap Gives (map-append (λ row. word_at row 0) rows ((v ∷ []) ∷ []))
row_more (Ok rows) (Err t) = refl
row_more (Err t) value = refl

looped_more : (sight : ℕ → List ℤ → Sight) (e : Elem) (k : ℕ) → told (looped sight e (suc k)) ≡ behind (told (looped sight e k)) (element_of sight e k)
looped_more sight e k = row_more _ (elem_value (sight k []) e)

-- ---- all places

so_far : {X : Type 0} (f : X → Answer ℤ) (items : List X) (d : X) (sight : ℕ → List ℤ → Sight) (e : Elem)
    → ((i : ℕ) → i < length items → f (get_or items i d) ≡ element_of sight e i) → (k : ℕ) → k ≤ length items → all_of (map f (take k items)) ≡ told (looped sight e k)
unfolding all_of
so_far f items d sight e h zero le = refl
so_far f items d sight e h (suc k) le =
    let lt : k < length items = omega arith in
    let item = get_or items k d in
    let more : take (suc k) items ≡ take k items ++ item ∷ [] = rw (← add-one) (take_more items k d lt) in
    ap (λ l. all_of (map f l)) more ∙ ap all_of (map-append f (take k items) (item ∷ [])) ∙ last_of (map f (take k items)) (f item)
    ∙ ap (λ r. behind r (f item)) (so_far f items d sight e h k (omega arith)) ∙ ap (behind (told (looped sight e k))) (h k lt)
    ∙ sym (looped_more sight e k)

all_looped : {X : Type 0} (f : X → Answer ℤ) (items : List X) (d : X) (sight : ℕ → List ℤ → Sight) (e : Elem)
    → ((i : ℕ) → i < length items → f (get_or items i d) ≡ element_of sight e i) → all_of (map f items) ≡ told (looped sight e (length items))
all_looped f items d sight e h =
    ap (λ l. all_of (map f l)) (sym (take_all (length items) items (omega arith))) ∙ so_far f items d sight e h (length items) (omega arith)

-- ---- operators

pub told_at : (at : Place) (r : Result ℤ TrapKind) → told (trapped_at at r) ≡ answered at r
told_at at (Ok x) = refl
told_at at (Err kind) = refl

calc_is : (sight : Sight) (at : Place) (op : CalcOp) (a b : Elem) (x y : ℤ) → elem_value sight a ≡ Ok x → elem_value sight b ≡ Ok y
    → calculated_at at op x y ≡ told (elem_value sight (Calc op at a b))
calc_is sight at op a b x y p q =
    sym (ap told (value_Calc sight op at a b ∙ ap (λ r. calc_of op at r (elem_value sight b)) p ∙ ap (calc_of op at (Ok x)) q ∙ calc_of_values op at x y) ∙ told_at at (calculated op x y))

pub pairs_looped : (at : Place) (op : CalcOp) (xs ys : List ℤ) → length xs ≡ length ys
    → pairwise at op xs ys ≡ told (looped (sight_in (xs ∷ ys ∷ [])) (Calc op at (Input 0) (Input 1)) (length xs))
pairs_looped at op xs ys same =
    let sight = sight_in (xs ∷ ys ∷ []) in
    let e = Calc op at (Input 0) (Input 1) in
    let long : length (zip xs ys) ≡ length xs = omega (arith, length-zip xs ys) in
    whole at op xs ys same
    ∙ all_looped (λ (p : ℤ × ℤ). calculated_at at op p.0 p.1) (zip xs ys) (pos 0, pos 0) sight e
    (λ i lt. at_place at op xs ys i same (omega (arith, long)) ∙ calc_is (sight i []) at op (Input 0) (Input 1) (get_or xs i (pos 0)) (get_or ys i (pos 0)) (value_Input (sight i []) 0) (value_Input (sight i []) 1))
    ∙ ap (λ n. told (looped sight e n)) long

pub right_looped : (at : Place) (op : CalcOp) (xs : List ℤ) (y : ℤ) → with_right at op xs y ≡ told (looped (sight_in (xs ∷ [])) (Calc op at (Input 0) (Number y)) (length xs))
unfolding with_right
right_looped at op xs y =
    let sight = sight_in (xs ∷ []) in
    all_looped (λ x. calculated_at at op x y) xs (pos 0) sight (Calc op at (Input 0) (Number y))
    (λ i lt. calc_is (sight i []) at op (Input 0) (Number y) (get_or xs i (pos 0)) y (value_Input (sight i []) 0) (value_Number (sight i []) y))

pub left_looped : (at : Place) (op : CalcOp) (x : ℤ) (ys : List ℤ) → with_left at op x ys ≡ told (looped (sight_in (ys ∷ [])) (Calc op at (Number x) (Input 0)) (length ys))
unfolding with_left
left_looped at op x ys =
    let sight = sight_in (ys ∷ []) in
    all_looped (λ y. calculated_at at op x y) ys (pos 0) sight (Calc op at (Number x) (Input 0))
    (λ i lt. calc_is (sight i []) at op (Number x) (Input 0) x (get_or ys i (pos 0)) (value_Number (sight i []) x) (value_Input (sight i []) 0))

all_given : (g : ℤ → ℤ) (xs : List ℤ) → Gives (map g xs) ≡ all_of (map (λ x. Gives (g x)) xs)
unfolding all_of
all_given g [] = refl
all_given g (x ∷ xs) = ap (λ r. also r (λ ys. Gives (g x ∷ ys))) (all_given g xs)

pub negated_looped : (at : Place) (xs : List ℤ) → Gives (negated xs) ≡ told (looped (sight_in (xs ∷ [])) (Calc Not at (Input 0) (Number (pos 0))) (length xs))
unfolding negated
negated_looped at xs =
    let sight = sight_in (xs ∷ []) in
    all_given (λ x. truth (not (is_true x))) xs
    ∙ all_looped (λ x. Gives (truth (not (is_true x)))) xs (pos 0) sight (Calc Not at (Input 0) (Number (pos 0)))
    (λ i lt. calc_is (sight i []) at Not (Input 0) (Number (pos 0)) (get_or xs i (pos 0)) (pos 0) (value_Input (sight i []) 0) (value_Number (sight i []) (pos 0)))

-- ---- lambdas

pub mapped_looped : (vars : List Var) (parameter : List ℕ) (body : Tree) (kind : Kind) (xs : List ℤ) (sight : ℕ → List ℤ → Sight) (e : Elem)
    → ((i : ℕ) → i < length xs → also (scalar body (inside parameter (Element kind (get_or xs i (pos 0))) vars)) word_in ≡ element_of sight e i)
    → mapped_words vars parameter body kind xs ≡ told (looped sight e (length xs))
unfolding mapped_words
mapped_looped vars parameter body kind xs sight e h = all_looped (λ x. also (scalar body (inside parameter (Element kind x) vars)) word_in) xs (pos 0) sight e h

place_is : (n i : ℕ) → i < n → get_or (range_with_len 0 n) i 0 ≡ i
place_is n i lt = get_or-range_with_len 0 n i 0 lt ∙ omega arith

pub stencil_looped : (vars : List Var) (parameter : List ℕ) (body : Tree) (xs : List ℤ) (sight : ℕ → List ℤ → Sight) (e : Elem)
    → ((i : ℕ) → i < length xs → also (scalar body (inside parameter (Around xs i) vars)) number_in ≡ element_of sight e i)
    → stencil_words vars parameter body xs ≡ told (looped sight e (length xs))
unfolding stencil_words
stencil_looped vars parameter body xs sight e h =
    let f = λ (k : ℕ). also (scalar body (inside parameter (Around xs k) vars)) number_in in
    let places = range_with_len 0 (length xs) in
    let long : length (range_with_len 0 (length xs)) ≡ length xs = length-range_with_len 0 (length xs) in
    all_looped f places 0 sight e (λ i lt. let below : i < length xs = omega (arith, long, lt) in ap f (place_is (length xs) i below) ∙ h i below)
    ∙ ap (λ n. told (looped sight e n)) long
