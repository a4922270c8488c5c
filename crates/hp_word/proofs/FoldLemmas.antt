-- Folds of whole lists by their parts.
use Rattle.std.proofs.Common.{◌≡◌, ℕ, ◌+◌, ◌<◌, ◌+ℤ◌, ◌*ℤ◌, ℤ, pos, Bool, true, false, ◌&&◌, ◌||◌, List, [], ◌∷◌, ◌++◌, map, flat_map, length, take, get_or, All, FitsSigned, refl, sym, ap, ◌∙◌, arith}
use Rattle.std.specs.Int.{cast_signed, cast_unsigned, int_wrap, int_min, int_max, w64}
use Rattle.std.specs.List.{list_any, list_all}
use Rattle.std.proofs.lemmas.Int.{ints, clamps, to_z-of_z, int_wrap-add_left, int_wrap-add_right, int_wrap-mul_left, int_wrap-mul_right, int_wrap_fits, SFits-int_wrap}
use Rattle.std.proofs.lemmas.List.{take_more}
use Rattle.std.proofs.lemmas.List.Elements.{All-head, All-tail}
use Rattle.std.proofs.lemmas.List.Concat.{flat_map-cons}
use Rattle.std.proofs.lemmas.List.Folds.{list_all-append, list_any-append}
use Rattle.hp_word.specs.declared.fold.FoldKind.{FoldKind}
use Rattle.hp_word.specs.declared.fold.FoldKind.TheVariants as kind
use Rattle.hp_word.specs.Words.{wrap, truth, is_true, least_word, greatest_word}
use Rattle.hp_word.specs.Products.{product_assoc}
use Rattle.hp_word.specs.LawfulFolds.{int_min_fits, int_max_fits}
use Rattle.hp_word.specs.Folds.{sum_z, product_z, least_of, greatest_of, fold_of, joined, unit_of}

-- ---- the parts of a list

-- sums and products of two lists put together
pub sum_z_append : (xs ys : List ℤ) → sum_z (xs ++ ys) ≡ sum_z xs +ℤ sum_z ys
sum_z_append [] ys = omega (arith, ints)
sum_z_append (x ∷ xs) ys = omega (arith, ints, sum_z_append xs ys)

pub product_z_append : (xs ys : List ℤ) → product_z (xs ++ ys) ≡ product_z xs *ℤ product_z ys
product_z_append [] ys = omega (arith, ints)
product_z_append (x ∷ xs) ys = ap (λ z. x *ℤ z) (product_z_append xs ys) ∙ sym (product_assoc x (product_z xs) (product_z ys))

int_min_assoc : (a b c : ℤ) → int_min a (int_min b c) ≡ int_min (int_min a b) c
int_min_assoc a b c = omega (arith, ints, clamps)

int_max_assoc : (a b c : ℤ) → int_max a (int_max b c) ≡ int_max (int_max a b) c
int_max_assoc a b c = omega (arith, ints, clamps)

-- no word is above that of none
least_of_unit : (xs : List ℤ) → int_min greatest_word (least_of xs) ≡ least_of xs
least_of_unit [] = refl
least_of_unit (x ∷ xs) = omega (arith, ints, clamps, least_of_unit xs)

greatest_of_unit : (xs : List ℤ) → int_max least_word (greatest_of xs) ≡ greatest_of xs
greatest_of_unit [] = refl
greatest_of_unit (x ∷ xs) = omega (arith, ints, clamps, greatest_of_unit xs)

pub least_of_append : (xs ys : List ℤ) → least_of (xs ++ ys) ≡ int_min (least_of xs) (least_of ys)
least_of_append [] ys = sym (least_of_unit ys)
least_of_append (x ∷ xs) ys = ap (int_min x) (least_of_append xs ys) ∙ int_min_assoc x (least_of xs) (least_of ys)

pub greatest_of_append : (xs ys : List ℤ) → greatest_of (xs ++ ys) ≡ int_max (greatest_of xs) (greatest_of ys)
greatest_of_append [] ys = sym (greatest_of_unit ys)
greatest_of_append (x ∷ xs) ys = ap (int_max x) (greatest_of_append xs ys) ∙ int_max_assoc x (greatest_of xs) (greatest_of ys)

truth_is_true : (b : Bool) → is_true (truth b) ≡ b
truth_is_true true = refl
truth_is_true false = refl

-- a truth value beside one more, by cases
or_one_more : (a b : Bool) → truth (is_true (truth a) || is_true (truth (b || false))) ≡ truth (is_true (truth a) || b)
or_one_more a true = refl
or_one_more a false = refl

and_one_more : (a b : Bool) → truth (is_true (truth a) && is_true (truth (b && true))) ≡ truth (is_true (truth a) && b)
and_one_more a true = refl
and_one_more a false = refl

or_alone : (a : Bool) → truth (is_true (truth a) || false) ≡ truth a
or_alone true = refl
or_alone false = refl

and_alone : (a : Bool) → truth (is_true (truth a) && true) ≡ truth a
and_alone true = refl
and_alone false = refl

-- the fold of two lists put together is the join of their folds
pub fold_of_parts : (kind : FoldKind) (xs ys : List ℤ) → fold_of kind (xs ++ ys) ≡ joined kind (fold_of kind xs) (fold_of kind ys)
fold_of_parts kind.Sum xs ys = ap wrap (sum_z_append xs ys) ∙ sym (int_wrap-add_left w64 (sum_z xs) (wrap (sum_z ys)) ∙ int_wrap-add_right w64 (sum_z xs) (sum_z ys))
fold_of_parts kind.Prod xs ys = ap wrap (product_z_append xs ys) ∙ sym (int_wrap-mul_left w64 (product_z xs) (wrap (product_z ys)) ∙ int_wrap-mul_right w64 (product_z xs) (product_z ys))
fold_of_parts kind.Min xs ys = least_of_append xs ys
fold_of_parts kind.Max xs ys = greatest_of_append xs ys
fold_of_parts kind.Any xs ys = ap truth (list_any-append is_true xs ys ∙ sym (ap (λ b. b || is_true (truth (list_any is_true ys))) (truth_is_true (list_any is_true xs)) ∙ ap (λ b. list_any is_true xs || b) (truth_is_true (list_any is_true ys))))
fold_of_parts kind.All xs ys = ap truth (list_all-append is_true xs ys ∙ sym (ap (λ b. b && is_true (truth (list_all is_true ys))) (truth_is_true (list_all is_true xs)) ∙ ap (λ b. list_all is_true xs && b) (truth_is_true (list_all is_true ys))))

-- the fold of no words
pub fold_of_none : (kind : FoldKind) → fold_of kind [] ≡ unit_of kind
unfolding int_wrap
fold_of_none kind.Sum = refl
fold_of_none kind.Prod = refl
fold_of_none kind.Min = refl
fold_of_none kind.Max = refl
fold_of_none kind.Any = refl
fold_of_none kind.All = refl

-- the fold of two lists put together, where the second has one word
pub fold_of_one_more : (kind : FoldKind) (xs : List ℤ) (x : ℤ) → fold_of kind (xs ++ x ∷ []) ≡ joined kind (fold_of kind xs) x
fold_of_one_more kind.Sum xs x =
    let e : x +ℤ pos 0 ≡ x = omega (arith, ints) in
    ap wrap (sum_z_append xs (x ∷ []) ∙ ap (λ z. sum_z xs +ℤ z) e) ∙ sym (int_wrap-add_left w64 (sum_z xs) x)
fold_of_one_more kind.Prod xs x =
    let e : x *ℤ pos 1 ≡ x = omega (arith, ints) in
    ap wrap (product_z_append xs (x ∷ []) ∙ ap (λ z. product_z xs *ℤ z) e) ∙ sym (int_wrap-mul_left w64 (product_z xs) x)
fold_of_one_more kind.Min xs x = least_of_append xs (x ∷ []) ∙ omega (arith, ints, clamps, least_of_unit xs)
fold_of_one_more kind.Max xs x = greatest_of_append xs (x ∷ []) ∙ omega (arith, ints, clamps, greatest_of_unit xs)
fold_of_one_more kind.Any xs x = fold_of_parts kind.Any xs (x ∷ []) ∙ or_one_more (list_any is_true xs) (is_true x)
fold_of_one_more kind.All xs x = fold_of_parts kind.All xs (x ∷ []) ∙ and_one_more (list_all is_true xs) (is_true x)

-- the fold of a fold alone
fold_of_fold : (kind : FoldKind) (xs : List ℤ) → fold_of kind (fold_of kind xs ∷ []) ≡ fold_of kind xs
fold_of_fold kind.Sum xs =
    let e : sum_z xs +ℤ pos 0 ≡ sum_z xs = omega (arith, ints) in
    int_wrap-add_left w64 (sum_z xs) (pos 0) ∙ ap wrap e
fold_of_fold kind.Prod xs =
    let e : product_z xs *ℤ pos 1 ≡ product_z xs = omega (arith, ints) in
    int_wrap-mul_left w64 (product_z xs) (pos 1) ∙ ap wrap e
fold_of_fold kind.Min xs = omega (arith, ints, clamps, least_of_unit xs)
fold_of_fold kind.Max xs = omega (arith, ints, clamps, greatest_of_unit xs)
fold_of_fold kind.Any xs = or_alone (list_any is_true xs)
fold_of_fold kind.All xs = and_alone (list_all is_true xs)

-- the fold of the folds of the pieces of a list is the fold of the whole list
pub fold_of_pieces : (kind : FoldKind) (pieces : List (List ℤ)) → fold_of kind (map (fold_of kind) pieces) ≡ fold_of kind (flat_map (λ piece. piece) pieces)
fold_of_pieces kind [] = refl
fold_of_pieces kind (piece ∷ rest) =
    fold_of_parts kind (fold_of kind piece ∷ []) (map (fold_of kind) rest)
    ∙ (λ i. joined kind (fold_of_fold kind piece i) (fold_of_pieces kind rest i))
    ∙ sym (fold_of_parts kind piece (flat_map (λ piece. piece) rest))
    ∙ ap (fold_of kind) (sym (flat_map-cons (λ (p : List ℤ). p) piece rest))

-- ---- 64 bits

truth_fits : (b : Bool) → FitsSigned w64 (truth b)
truth_fits true = omega (arith, ints)
truth_fits false = omega (arith, ints)

-- the join of two numbers of 64 bits is one
pub joined_fits : (kind : FoldKind) (a b : ℤ) → FitsSigned w64 a → FitsSigned w64 b → FitsSigned w64 (joined kind a b)
joined_fits kind.Sum a b f g = SFits-int_wrap w64 (a +ℤ b)
joined_fits kind.Prod a b f g = SFits-int_wrap w64 (a *ℤ b)
joined_fits kind.Min a b f g = int_min_fits a b f g
joined_fits kind.Max a b f g = int_max_fits a b f g
joined_fits kind.Any a b f g = truth_fits (is_true a || is_true b)
joined_fits kind.All a b f g = truth_fits (is_true a && is_true b)

least_of_fits : (xs : List ℤ) → All (FitsSigned w64) xs → FitsSigned w64 (least_of xs)
least_of_fits [] all = omega (arith, ints)
least_of_fits (x ∷ xs) all = int_min_fits x (least_of xs) (All-head (FitsSigned w64) x xs all) (least_of_fits xs (All-tail (FitsSigned w64) x xs all))

greatest_of_fits : (xs : List ℤ) → All (FitsSigned w64) xs → FitsSigned w64 (greatest_of xs)
greatest_of_fits [] all = omega (arith, ints)
greatest_of_fits (x ∷ xs) all = int_max_fits x (greatest_of xs) (All-head (FitsSigned w64) x xs all) (greatest_of_fits xs (All-tail (FitsSigned w64) x xs all))

-- the fold of numbers of 64 bits is one
pub fold_of_fits : (kind : FoldKind) (xs : List ℤ) → All (FitsSigned w64) xs → FitsSigned w64 (fold_of kind xs)
fold_of_fits kind.Sum xs all = SFits-int_wrap w64 (sum_z xs)
fold_of_fits kind.Prod xs all = SFits-int_wrap w64 (product_z xs)
fold_of_fits kind.Min xs all = least_of_fits xs all
fold_of_fits kind.Max xs all = greatest_of_fits xs all
fold_of_fits kind.Any xs all = truth_fits (list_any is_true xs)
fold_of_fits kind.All xs all = truth_fits (list_all is_true xs)

-- a sum fits without a premise
pub fold_of_sum_fits : (xs : List ℤ) → FitsSigned w64 (fold_of kind.Sum xs)
fold_of_sum_fits xs = SFits-int_wrap w64 (sum_z xs)

-- ---- a running fold

-- the fold of one more item of a list
pub fold_of_take_more : (kind : FoldKind) (xs : List ℤ) (i : ℕ) → i < length xs → fold_of kind (take (i + 1) xs) ≡ joined kind (fold_of kind (take i xs)) (get_or xs i (pos 0))
fold_of_take_more kind xs i lt = ap (fold_of kind) (take_more xs i (pos 0) lt) ∙ fold_of_one_more kind (take i xs) (get_or xs i (pos 0))

-- a loop's step, where `acc` has gone through the bits of an `i64`
pub fold_of_next : (kind : FoldKind) (xs : List ℤ) (i : ℕ) (acc next : ℤ) → i < length xs → FitsSigned w64 (get_or xs i (pos 0)) → FitsSigned w64 next
    → acc ≡ fold_of kind (take i xs) → next ≡ joined kind acc (cast_signed w64 (cast_unsigned w64 (get_or xs i (pos 0)))) → cast_signed w64 (cast_unsigned w64 next) ≡ fold_of kind (take (i + 1) xs)
fold_of_next kind xs i acc next lt item_fits next_fits before step =
    to_z-of_z w64 next next_fits ∙ step ∙ (λ j. joined kind (before j) (to_z-of_z w64 (get_or xs i (pos 0)) item_fits j)) ∙ sym (fold_of_take_more kind xs i lt)

-- what the contract of `folds_by_parts` says
pub ruleset fold_laws = (fold_of_none, fold_of_one_more, fold_of_parts, fold_of_pieces, fold_of_fits)

-- for a loop with the invariant `acc ≡ fold_of kind (take i xs)`
pub ruleset fold_steps = (fold_of_none, fold_of_take_more, to_z-of_z)
