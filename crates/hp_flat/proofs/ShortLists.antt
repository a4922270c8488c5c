-- Rules of words and lists make arrays of at most as many elements as an array may have, where their operands are such.
use Rattle.std.proofs.Common.{◌≡◌, ℕ, suc, ◌+◌, ◌≤◌, ◌==◌, ℤ, pos, negsuc, Bool, true, false, cond, nat_le, List, [], ◌∷◌, ◌++◌, map, length, replicate, Option, Some, None, Result, Ok, Err, refl, ap, subst, ◌∙◌, arith}
use Rattle.std.specs.Prelude.{zip, filter, not, neg_ℤ, ◌+ℤ◌}
use Rattle.std.specs.List.{range_with_len}
use Rattle.std.proofs.lemmas.List.{length-map, length-append, length-replicate}
use Rattle.std.proofs.lemmas.List.FromFn.{length-range_with_len}
use Rattle.hp_word.specs.declared.fold.FoldKind.{FoldKind}
use Rattle.hp_word.specs.declared.place.Place.{Place}
use Rattle.hp_word.specs.declared.place.Trap.{Trap}
use Rattle.hp_word.specs.declared.place.TrapKind.TheVariants.{TooLong}
use Rattle.hp_word.specs.declared.word.CalcOp.{CalcOp}
use Rattle.hp_word.specs.Lengths.{trap, longest}
use Rattle.hp_word.specs.ListRules as lists
use Rattle.hp_word.specs.ListRules.{range_of, range_count, count_from, span, appended, folded_list, sums_after, prefix_sums, elements_at, element_at}
use Rattle.hp_word.specs.LoopRules.{and_then, all_ok}
use Rattle.hp_word.specs.Words.{wrap, truth, is_true}
use Rattle.hp_script.specs.declared.function.ScalarFunction.{ScalarFunction}
use Rattle.hp_script.specs.declared.tree.BinOp.{BinOp}
use Rattle.hp_script.specs.declared.tree.UnOp.{UnOp}
use Rattle.hp_script.specs.declared.tree.UnOp.TheVariants as unary
use Rattle.hp_script.specs.Mirror.{Tree}
use Rattle.hp_script.proofs.TestLemmas.{true_le}
use Rattle.hp_meaning.specs.declared.value.Kind.{Kind}
use Rattle.hp_meaning.specs.declared.value.Kind.TheVariants.{Number, Truth}
use Rattle.hp_meaning.specs.declared.value.Value.{Value}
use Rattle.hp_meaning.specs.declared.value.Value.TheVariants.{Word, List as Listed, Matrix, Frame}
use Rattle.hp_meaning.specs.declared.value.Var.{Var}
use Rattle.hp_meaning.specs.LambdaRules.{mapped, mapped_words, stencilled, stencil_words}
use Rattle.hp_meaning.specs.ListRules.{filled, collected, concatenated, length_value, fold_kind, folded, counted, summed, indexed, indexed_by}
use Rattle.hp_meaning.specs.Operands.{is_kind, as_number, as_truth, as_numbers, as_truths, as_list_of, as_cells, Cells, One, Many}
use Rattle.hp_meaning.specs.Outcomes.{Answer, Gives, Traps, Refuses, also, given, told, all_of, Course, followed, needed, ended}
use Rattle.hp_meaning.specs.WordRules.{worded, listed, pairwise, with_right, with_left, spread, elementwise, calculated_words, negated, unary_value, plain_value, dotted_value, scalar_value, is_lazy, calc_of, scalar_calc, operands_of, result_of}
use Rattle.hp_flat.proofs.ShortScopes.{IsShort, OnlyGives, gives_such, traps_so, refuses_so, Only, is_such, stops_so, wrong_so}
use Rattle.hp_flat.proofs.WordMeanings.{of_two_words}

-- ---- answers

pub also_only : {A B : Type 0} {P : A → Type 0} {Q : B → Type 0} {answer : Answer A} (more : A → Answer B) → OnlyGives P answer → ((a : A) → P a → OnlyGives Q (more a)) → OnlyGives Q (also answer more)
also_only more (gives_such p) next = next _ p
also_only more traps_so next = traps_so
also_only more refuses_so next = refuses_so

pub given_only : {A B : Type 0} {Q : B → Type 0} (found : Option A) (more : A → Answer B) → ((a : A) → found ≡ Some a → OnlyGives Q (more a)) → OnlyGives Q (given found more)
given_only (Some a) more next = next a refl
given_only None more next = refuses_so

pub only_if : {A : Type 0} {P : A → Type 0} {a b : Answer A} (holds : Bool) → OnlyGives P a → OnlyGives P b → OnlyGives P (cond holds a b)
only_if true p q = p
only_if false p q = q

-- ---- outcomes

pub followed_only : {N A B : Type 0} {P : A → Type 0} {Q : B → Type 0} {course : Course N A} (more : A → N → Course N B) → Only P course → ((a : A) (n : N) → P a → Only Q (more a n)) → Only Q (followed course more)
followed_only more (is_such p) next = next _ _ p
followed_only more stops_so next = stops_so
followed_only more wrong_so next = wrong_so

pub ended_only : {N A : Type 0} {P : A → Type 0} {answer : Answer A} (n : N) → OnlyGives P answer → Only P (ended answer n)
ended_only n (gives_such p) = is_such p
ended_only n traps_so = stops_so
ended_only n refuses_so = wrong_so

pub needed_only : {N A B : Type 0} {Q : B → Type 0} (found : Option A) (more : A → Course N B) → ((a : A) → found ≡ Some a → Only Q (more a)) → Only Q (needed found more)
needed_only (Some a) more next = next a refl
needed_only None more next = wrong_so

-- ---- lists

any_answer : {A : Type 0} (answer : Answer A) → OnlyGives (λ a. Unit {0}) answer
any_answer (Gives a) = gives_such tt
any_answer (Traps t) = traps_so
any_answer Refuses = refuses_so

-- an array that is short
abbrev pub IsShortList : List ℤ → Type 0
IsShortList xs = length xs ≤ longest

pub listed_short : (kind : Kind) {answer : Answer (List ℤ)} → OnlyGives IsShortList answer → OnlyGives IsShort (listed kind answer)
listed_short kind (gives_such few) = gives_such few
listed_short kind traps_so = traps_so
listed_short kind refuses_so = refuses_so

worded_short : (kind : Kind) (answer : Answer ℤ) → OnlyGives IsShort (worded kind answer)
worded_short kind (Gives x) = gives_such tt
worded_short kind (Traps t) = traps_so
worded_short kind Refuses = refuses_so

-- no more than what is short
pub no_more : (a b most : ℕ) → a ≤ b → b ≤ most → a ≤ most
no_more a b most first second = omega (arith, first, second)

pub as_many : (a b most : ℕ) → a ≡ b → b ≤ most → a ≤ most
as_many a b most same few = omega (arith, same, few)

-- ---- all answers of a list

all_step : {A : Type 0} (n : ℕ) (first : Answer A) (rest : Answer (List A)) → OnlyGives (λ xs. length xs ≡ n) rest → OnlyGives (λ xs. length xs ≡ suc n) (also first (λ x. also rest (λ xs. Gives (x ∷ xs))))
all_step n (Gives x) _ (gives_such many) = gives_such (ap suc many)
all_step n (Gives x) _ traps_so = traps_so
all_step n (Gives x) _ refuses_so = refuses_so
all_step n (Traps t) rest p = traps_so
all_step n Refuses rest p = refuses_so

all_as_many : {X A : Type 0} (f : X → Answer A) (xs : List X) → OnlyGives (λ ys. length ys ≡ length xs) (all_of (map f xs))
unfolding all_of
all_as_many f [] = gives_such refl
all_as_many f (x ∷ xs) = all_step (length xs) (f x) (all_of (map f xs)) (all_as_many f xs)

such_lists : {answer : Answer (List ℤ)} (n : ℕ) → n ≤ longest → OnlyGives (λ ys. length ys ≡ n) answer → OnlyGives IsShortList answer
such_lists n few (gives_such {a = ys} many) = gives_such (as_many (length ys) n longest many few)
such_lists n few traps_so = traps_so
such_lists n few refuses_so = refuses_so

all_short : {X : Type 0} (f : X → Answer ℤ) (xs : List X) → length xs ≤ longest → OnlyGives IsShortList (all_of (map f xs))
all_short f xs few = such_lists (length xs) few (all_as_many f xs)

ok_step : (n : ℕ) (first : Result ℤ Trap) (rest : Result (List ℤ) Trap) → OnlyGives (λ xs. length xs ≡ n) (told rest) → OnlyGives (λ xs. length xs ≡ suc n) (told (and_then first (λ x. and_then rest (λ xs. Ok (x ∷ xs)))))
ok_step n (Ok x) (Ok xs) (gives_such many) = gives_such (ap suc many)
ok_step n (Ok x) (Err t) p = traps_so
ok_step n (Err t) rest p = traps_so

ok_as_many : {X : Type 0} (f : X → Result ℤ Trap) (xs : List X) → OnlyGives (λ ys. length ys ≡ length xs) (told (all_ok (map f xs)))
unfolding all_ok
ok_as_many f [] = gives_such refl
ok_as_many f (x ∷ xs) = ok_step (length xs) (f x) (all_ok (map f xs)) (ok_as_many f xs)

-- ---- making arrays

counted_out : (at : Place) (n : ℕ) (x : ℤ) (b : Bool) → nat_le n longest ≡ b → OnlyGives IsShortList (told (and_then (cond b (Ok n) (Err (trap at TooLong))) (λ k. Ok (replicate k x))))
counted_out at n x true fits = gives_such (as_many (length (replicate n x)) n longest (length-replicate n x) (true_le n longest fits))
counted_out at n x false fits = traps_so

words_filled : (at : Place) (count x : ℤ) → OnlyGives IsShortList (told (lists.filled at count x))
unfolding lists.filled
words_filled at (pos n) x = counted_out at n x (nat_le n longest) refl
words_filled at (negsuc n) x = traps_so

pub filled_short : (at : Place) (a b : Value) → OnlyGives IsShort (filled at a b)
unfolding filled
filled_short at (Word kind x) b = given_only (as_number b) (λ n. listed kind (told (lists.filled at n x))) (λ n number. listed_short kind (words_filled at n x))
filled_short at (Listed kind xs) b = refuses_so
filled_short at (Matrix m) b = refuses_so
filled_short at (Frame columns) b = refuses_so

spanned : (at : Place) (first : ℤ) (n : ℕ) (b : Bool) → nat_le n longest ≡ b → OnlyGives IsShortList (told (and_then (cond b (Ok n) (Err (trap at TooLong))) (λ k. Ok (span first k))))
unfolding span
spanned at first n true fits =
    gives_such (as_many (length (span first n)) n longest (length-map (range_with_len 0 n) _ ∙ length-range_with_len 0 n) (true_le n longest fits))
spanned at first n false fits = traps_so

words_ranged : (at : Place) (first last : ℤ) → OnlyGives IsShortList (told (range_of at first last))
unfolding range_of range_count
words_ranged at first last = spanned at first (count_from first last) (nat_le (count_from first last) longest) refl

pub collected_short : (at : Place) (a b : Value) → OnlyGives IsShort (collected at a b)
unfolding collected
collected_short at a b = of_two_words (OnlyGives IsShort) Number a b _ refuses_so (λ k j x y first second. listed_short Number (words_ranged at x y))

joined_lists : (at : Place) (xs ys : List ℤ) (b : Bool) → nat_le (length xs + length ys) longest ≡ b → OnlyGives IsShortList (told (cond b (Ok (xs ++ ys)) (Err (trap at TooLong))))
joined_lists at xs ys true fits = gives_such (as_many (length (xs ++ ys)) (length xs + length ys) longest (length-append xs ys) (true_le (length xs + length ys) longest fits))
joined_lists at xs ys false fits = traps_so

lists_appended : (at : Place) (xs ys : List ℤ) → OnlyGives IsShortList (told (appended at xs ys))
unfolding appended
lists_appended at xs ys = joined_lists at xs ys (nat_le (length xs + length ys) longest) refl

pub concatenated_short : (at : Place) (a b : Value) → OnlyGives IsShort (concatenated at a b)
unfolding concatenated
concatenated_short at (Listed kind xs) b = given_only (as_list_of kind b) (λ ys. listed kind (told (appended at xs ys))) (λ ys second. listed_short kind (lists_appended at xs ys))
concatenated_short at (Word kind x) b = refuses_so
concatenated_short at (Matrix m) b = refuses_so
concatenated_short at (Frame columns) b = refuses_so

-- ---- words of arrays

pub length_short : (a : Value) → OnlyGives IsShort (length_value a)
unfolding length_value
length_short (Listed kind xs) = gives_such tt
length_short (Word kind x) = refuses_so
length_short (Matrix m) = refuses_so
length_short (Frame columns) = refuses_so

pub folded_short : (kind : FoldKind) (at : Place) (a : Value) → OnlyGives IsShort (folded kind at a)
unfolding folded
folded_short kind at a = given_only (as_list_of (fold_kind kind) a) (λ xs. worded (fold_kind kind) (told (folded_list kind at xs))) (λ xs found. worded_short (fold_kind kind) (told (folded_list kind at xs)))

pub counted_short : (a : Value) → OnlyGives IsShort (counted a)
unfolding counted
counted_short a = given_only (as_truths a) (λ xs. Gives (Word Number (pos (length (filter is_true xs))))) (λ xs found. gives_such tt)

-- ---- arrays of arrays

-- an array of this kind is short
pub list_of : (wanted : Kind) (a : Value) (xs : List ℤ) → as_list_of wanted a ≡ Some xs → IsShort a → length xs ≤ longest
list_of wanted (Listed kind ys) xs found few = if_kind (is_kind wanted kind) found
  where
    if_kind : (b : Bool) → cond b (Some ys) None ≡ Some xs → length xs ≤ longest
    if_kind true found = let same : ys ≡ xs = cc in subst (λ (l : List ℤ). length l ≤ longest) same few
    if_kind false found = absurd cc
list_of wanted (Word kind x) xs found few = absurd cc
list_of wanted (Matrix m) xs found few = absurd cc
list_of wanted (Frame columns) xs found few = absurd cc

as_many_sums : (xs : List ℤ) (before : ℤ) → length (sums_after before xs) ≡ length xs
unfolding sums_after
as_many_sums [] before = refl
as_many_sums (x ∷ xs) before = ap suc (as_many_sums xs (before +ℤ x))

pub summed_short : (a : Value) → IsShort a → OnlyGives IsShort (summed a)
unfolding summed
summed_short a few = given_only (as_numbers a) (λ xs. Gives (Listed Number (prefix_sums xs))) (λ xs found. gives_such (as_many (length (sums_after (pos 0) xs)) (length xs) longest (as_many_sums xs (pos 0)) (list_of Number a xs found few)))

-- ---- words, or arrays of words

abbrev CellsAreShort : Cells → Type 0
CellsAreShort (One x) = Unit {0}
CellsAreShort (Many xs) = length xs ≤ longest

cells_short : (wanted : Kind) (a : Value) (cells : Cells) → as_cells wanted a ≡ Some cells → IsShort a → CellsAreShort cells
cells_short wanted (Word kind x) cells found few = if_kind (is_kind wanted kind) found
  where
    if_kind : (b : Bool) → cond b (Some (One x)) None ≡ Some cells → CellsAreShort cells
    if_kind true found = let same : One x ≡ cells = cc in subst CellsAreShort same tt
    if_kind false found = absurd cc
cells_short wanted (Listed kind xs) cells found few = if_kind (is_kind wanted kind) found
  where
    if_kind : (b : Bool) → cond b (Some (Many xs)) None ≡ Some cells → CellsAreShort cells
    if_kind true found = let same : Many xs ≡ cells = cc in subst CellsAreShort same few
    if_kind false found = absurd cc
cells_short wanted (Matrix m) cells found few = absurd cc
cells_short wanted (Frame columns) cells found few = absurd cc

positions_short : (at : Place) (kind : Kind) (xs : List ℤ) (cells : Cells) → CellsAreShort cells → OnlyGives IsShort (indexed_by at kind xs cells)
unfolding indexed_by elements_at
positions_short at kind xs (One i) few = worded_short kind _
positions_short at kind xs (Many positions) few = listed_short kind (such_lists (length positions) few (ok_as_many (element_at at xs) positions))

pub indexed_short : (at : Place) (a b : Value) → IsShort b → OnlyGives IsShort (indexed at a b)
unfolding indexed
indexed_short at (Listed kind xs) b few = given_only (as_cells Number b) (indexed_by at kind xs) (λ cells second. positions_short at kind xs cells (cells_short Number b cells second few))
indexed_short at (Word kind x) b few = refuses_so
indexed_short at (Matrix m) b few = refuses_so
indexed_short at (Frame columns) b few = refuses_so

zip_no_more : (xs ys : List ℤ) → length (zip xs ys) ≤ length xs
zip_no_more [] ys = omega arith
zip_no_more (x ∷ xs) [] = omega arith
zip_no_more (x ∷ xs) (y ∷ ys) = omega (arith, zip_no_more xs ys)

spread_short : (at : Place) (op : CalcOp) (a b : Cells) → CellsAreShort a → CellsAreShort b → OnlyGives IsShortList (spread at op a b)
unfolding spread pairwise with_right with_left
spread_short at op (Many xs) (Many ys) first second = only_if (length xs == length ys) (all_short _ (zip xs ys) (no_more (length (zip xs ys)) (length xs) longest (zip_no_more xs ys) first)) traps_so
spread_short at op (Many xs) (One y) first second = all_short _ xs first
spread_short at op (One x) (Many ys) first second = all_short _ ys second
spread_short at op (One x) (One y) first second = refuses_so

elementwise_short : (at : Place) (op : CalcOp) (operands result : Kind) (a b : Value) → IsShort a → IsShort b → OnlyGives IsShort (elementwise at op operands result a b)
unfolding elementwise
elementwise_short at op operands result a b first second =
    given_only (as_cells operands a) (λ x. given (as_cells operands b) (λ y. listed result (spread at op x y))) (λ x found.
    given_only (as_cells operands b) (λ y. listed result (spread at op x y)) (λ y other. listed_short result (spread_short at op x y (cells_short operands a x found first) (cells_short operands b y other second))))

calculated_short : (at : Place) (op : CalcOp) (operands result : Kind) (a b : Value) → OnlyGives IsShort (calculated_words at op operands result a b)
unfolding calculated_words
calculated_short at op operands result a b = of_two_words (OnlyGives IsShort) operands a b _ refuses_so (λ k j x y first second. worded_short result _)

-- ---- operators

pub unary_short : (op : UnOp) (dotted : Bool) (a : Value) → IsShort a → OnlyGives IsShort (unary_value op dotted a)
unfolding unary_value negated
unary_short unary.Neg false a few = given_only (as_number a) (λ x. Gives (Word Number (wrap (neg_ℤ x)))) (λ x found. gives_such tt)
unary_short unary.Neg true a few = refuses_so
unary_short unary.Not false a few = given_only (as_truth a) (λ x. Gives (Word Truth (truth (not (is_true x))))) (λ x found. gives_such tt)
unary_short unary.Not true a few = given_only (as_truths a) (λ xs. Gives (Listed Truth (negated xs))) (λ xs found. gives_such (as_many (length (negated xs)) (length xs) longest (length-map xs (λ (x : ℤ). truth (not (is_true x)))) (list_of Truth a xs found few)))

pub plain_short : (at : Place) (op : BinOp) (a b : Value) → OnlyGives IsShort (plain_value at op a b)
unfolding plain_value
plain_short at op a b = only_if (is_lazy op) refuses_so (calculated_short at (calc_of op) (operands_of op) (result_of op) a b)

pub dotted_short : (at : Place) (op : BinOp) (a b : Value) → IsShort a → IsShort b → OnlyGives IsShort (dotted_value at op a b)
unfolding dotted_value
dotted_short at op a b first second = only_if (is_lazy op) refuses_so (elementwise_short at (calc_of op) (operands_of op) (result_of op) a b first second)

pub scalar_short : (f : ScalarFunction) (dotted : Bool) (at : Place) (a b : Value) → IsShort a → IsShort b → OnlyGives IsShort (scalar_value f dotted at a b)
unfolding scalar_value
scalar_short f false at a b first second = calculated_short at (scalar_calc f) Number Number a b
scalar_short f true at a b first second = elementwise_short at (scalar_calc f) Number Number a b first second

-- ---- lambdas

pub mapped_short : (vars : List Var) (p : List ℕ) (body : Tree) (a : Value) → IsShort a → OnlyGives IsShort (mapped vars p body a)
unfolding mapped mapped_words
mapped_short vars p body (Listed kind xs) few = listed_short _ (all_short _ xs few)
mapped_short vars p body (Word kind x) few = refuses_so
mapped_short vars p body (Matrix m) few = refuses_so
mapped_short vars p body (Frame columns) few = refuses_so

pub stencilled_short : (vars : List Var) (p : List ℕ) (body : Tree) (a : Value) → IsShort a → OnlyGives IsShort (stencilled vars p body a)
unfolding stencilled stencil_words
stencilled_short vars p body a few =
    given_only (as_numbers a) (λ xs. listed Number (stencil_words vars p body xs)) (λ xs found. listed_short Number (all_short _ (range_with_len 0 (length xs)) (as_many (length (range_with_len 0 (length xs))) (length xs) longest (length-range_with_len 0 (length xs)) (list_of Number a xs found few))))
