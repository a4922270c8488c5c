-- The loop over the digits of a cell, from its last state to its first.
use Rattle.std.proofs.Common.{◌≡◌, ℕ, suc, ◌+◌, ◌-◌, ◌*◌, ◌^◌, ◌<◌, ◌≤◌, Bool, true, false, List, [], ◌∷◌, length, get_or, drop, take, Option, Some, None, refl, ap, sym, ◌∙◌, arith, drop-cons, add-one}
use Rattle.std.proofs.lemmas.List.{drop_all, length-drop, take_all}
use Rattle.std.specs.Prelude.{◌&&◌, ◌==◌, ◌≢◌, ◌-ℤ◌, ◌+ℤ◌, nat_lt, if◌then◌else◌, ℤ, pos, neg_ℤ, FitsSigned, SomeIff, option_map, option_and_then}
use Rattle.std.specs.Int.{w64}
use Rattle.std.proofs.lemmas.Int.{ints}
use Rattle.hp_word.specs.FoldLaws.{is_word}
use Rattle.hp_word.specs.LawfulFolds.{fits_is_word, is_word_fits}
use Rattle.std.specs.List.{list_all}
use Rattle.std.specs.Char.{is_ascii_digit, digit_value}
use Rattle.std.specs.Str.Parse.{digits_value_after}
use Rattle.std.proofs.lemmas.Bool.Decides.{nat_tests}
use Rattle.hp_tables.specs.Cells.{cell_value, numeral_value, signed_value}
use Rattle.hp_tables.specs.Running.{numeral_within}

-- the number of all digits, where acc is that of those before rest
unfoldable pub numeral_from : ℕ → List ℕ → Option ℕ
numeral_from acc rest = if list_all is_ascii_digit rest && nat_lt (digits_value_after 10 acc rest) (2 ^ 64) then Some (digits_value_after 10 acc rest) else None

pub of_none : (text : List ℕ) → length text ≡ 0 → numeral_within text ≡ None
unfolding numeral_within numeral_value
of_none [] h = refl
of_none (c ∷ text) h = absurd (omega arith)

pub of_some : (text : List ℕ) → 0 < length text → numeral_within text ≡ numeral_from 0 text
unfolding numeral_within numeral_value numeral_from
of_some [] h = absurd (omega arith)
of_some (c ∷ text) h = by (list_all is_ascii_digit (c ∷ text)) refl
  where
    by : (b : Bool) → list_all is_ascii_digit (c ∷ text) ≡ b → numeral_within (c ∷ text) ≡ numeral_from 0 (c ∷ text)
    by true e = rw e refl
    by false e = rw e refl

grows : (acc : ℕ) (rest : List ℕ) → acc ≤ digits_value_after 10 acc rest
grows acc [] = omega arith
grows acc (c ∷ rest) =
    let more = grows (acc * 10 + digit_value c) rest in
    omega arith

digit_code : (c : ℕ) → is_ascii_digit c ≡ true → digit_value c ≡ c - 48
digit_code c e = grind arith

at_digit : (acc c : ℕ) (rest : List ℕ) → is_ascii_digit c ≡ true → numeral_from acc (c ∷ rest) ≡ numeral_from (acc * 10 + (c - 48)) rest
unfolding numeral_from
at_digit acc c rest e = rw (e, digit_code c e) refl

at_other : (acc c : ℕ) (rest : List ℕ) → is_ascii_digit c ≡ false → numeral_from acc (c ∷ rest) ≡ None
unfolding numeral_from
at_other acc c rest e = rw e refl

large_test : (n : ℕ) → 2 ^ 64 ≤ n → nat_lt n (2 ^ 64) ≡ false
large_test n h = grind (arith, nat_tests)

small_test : (n : ℕ) → n < 2 ^ 64 → nat_lt n (2 ^ 64) ≡ true
small_test n h = grind (arith, nat_tests)

at_large : (acc : ℕ) (rest : List ℕ) → 2 ^ 64 ≤ acc → numeral_from acc rest ≡ None
unfolding numeral_from
at_large acc rest h = by (list_all is_ascii_digit rest) refl (large_test (digits_value_after 10 acc rest) (omega (arith, grows acc rest)))
  where
    by : (b : Bool) → list_all is_ascii_digit rest ≡ b → nat_lt (digits_value_after 10 acc rest) (2 ^ 64) ≡ false → numeral_from acc rest ≡ None
    by true e f = rw (e, f) refl
    by false e f = rw e refl

pub at_end : (acc i : ℕ) (xs : List ℕ) → length xs ≤ i → acc < 2 ^ 64 → numeral_from acc (drop i xs) ≡ Some acc
unfolding numeral_from
at_end acc i xs end h = rw (drop_all i xs end, small_test acc h) refl

-- ---- at a place in the text

pub step_digit : (acc i : ℕ) (xs : List ℕ) → i < length xs → is_ascii_digit (get_or xs i 0) ≡ true
    → numeral_from acc (drop i xs) ≡ numeral_from (acc * 10 + (get_or xs i 0 - 48)) (drop (i + 1) xs)
step_digit acc i xs h e = rw (add-one, drop-cons xs i 0) (at_digit acc (get_or xs i 0) (drop (suc i) xs) e)

pub step_other : (acc i : ℕ) (xs : List ℕ) → i < length xs → is_ascii_digit (get_or xs i 0) ≡ false → numeral_from acc (drop i xs) ≡ None
step_other acc i xs h e = rw (drop-cons xs i 0) (at_other acc (get_or xs i 0) (drop (suc i) xs) e)

pub step_large : (acc i : ℕ) (xs : List ℕ) → i < length xs → is_ascii_digit (get_or xs i 0) ≡ true
    → 2 ^ 64 ≤ acc * 10 + (get_or xs i 0 - 48) → numeral_from acc (drop i xs) ≡ None
step_large acc i xs h e large = step_digit acc i xs h e ∙ at_large (acc * 10 + (get_or xs i 0 - 48)) (drop (i + 1) xs) large

pub ruleset cell_steps = (of_none, of_some, at_end, step_digit, step_other, step_large)

-- ---- a cell, by its first byte

word_test : (z : ℤ) → FitsSigned w64 z → is_word z ≡ true
word_test z f = is_word_fits z f

wide_test : (z : ℤ) → ¬ (FitsSigned w64 z) → is_word z ≡ false
wide_test z f = by (is_word z) refl
  where
    by : (b : Bool) → is_word z ≡ b → is_word z ≡ false
    by true e = absurd (f (fits_is_word z e))
    by false e = e

-- a number that 64 bits hold, of digits that spell it
within_some : (text : List ℕ) (n : ℕ) → numeral_within text ≡ Some n → numeral_value text ≡ Some n
unfolding numeral_within
within_some text n e = by (numeral_value text) refl e
  where
    of_test : (m : ℕ) (b : Bool) → nat_lt m (2 ^ 64) ≡ b → (if nat_lt m (2 ^ 64) then Some m else None) ≡ Some n → Some m ≡ Some n
    of_test m true t h = rw t at h
    of_test m false t h = cc (rw t at h)

    by : (o : Option ℕ) → numeral_value text ≡ o → option_and_then (λ m. if nat_lt m (2 ^ 64) then Some m else None) o ≡ Some n → o ≡ Some n
    by None t h = cc h
    by (Some m) t h = of_test m (nat_lt m (2 ^ 64)) refl h

-- where digits spell no such number, neither it nor its negative is of 64 bits
signed_none : (f : ℕ → ℤ) → ((m : ℕ) → 2 ^ 64 ≤ m → ¬ (FitsSigned w64 (f m))) → (text : List ℕ) → numeral_within text ≡ None
    → option_and_then (λ z. if is_word z then Some z else None) (option_map f (numeral_value text)) ≡ None
unfolding numeral_within
signed_none f wide text e = by (numeral_value text) e
  where
    of_test : (m : ℕ) (b : Bool) → nat_lt m (2 ^ 64) ≡ b → (if nat_lt m (2 ^ 64) then Some m else None) ≡ None → (if is_word (f m) then Some (f m) else None) ≡ None
    of_test m true t h = cc (rw t at h)
    of_test m false t h = rw (wide_test (f m) (wide m (grind (arith, nat_tests)))) refl

    by : (o : Option ℕ) → option_and_then (λ m. if nat_lt m (2 ^ 64) then Some m else None) o ≡ None → option_and_then (λ z. if is_word z then Some z else None) (option_map f o) ≡ None
    by None h = refl
    by (Some m) h = of_test m (nat_lt m (2 ^ 64)) refl h

wide_pos : (m : ℕ) → 2 ^ 64 ≤ m → ¬ (FitsSigned w64 (pos m))
wide_pos m h f = omega (arith, ints)

wide_neg : (m : ℕ) → 2 ^ 64 ≤ m → ¬ (FitsSigned w64 (neg_ℤ (pos m)))
wide_neg m h f = omega (arith, ints)

minus_test : (c : ℕ) → c ≢ 45 → (c == 45) ≡ false
minus_test c h = grind (arith, nat_tests)

pub minus_none : (cell : List ℕ) → get_or cell 0 0 ≡ 45 → numeral_within (drop 1 cell) ≡ None → cell_value cell ≡ None
unfolding cell_value signed_value
minus_none [] h e = absurd (omega arith)
minus_none (c ∷ rest) h e = rw h (signed_none (λ n. neg_ℤ (pos n)) wide_neg rest e)

-- what a checked sum or difference gives, as the test of words says it
tested : (z y : ℤ) (r : Option ℤ) → z ≡ y → SomeIff r (FitsSigned w64 z) z → r ≡ (if is_word y then Some y else None)
tested z y None e s = rw (wide_test y (λ f. s (rw e f))) refl
tested z y (Some x) e s = rw (word_test y (rw e at s.0)) (ap (λ (w : ℤ). Some w) (s.1 ∙ e))

pub minus_some : (cell : List ℕ) (n : ℕ) (r : Option ℤ) → get_or cell 0 0 ≡ 45 → numeral_within (drop 1 cell) ≡ Some n
    → SomeIff r (FitsSigned w64 (pos 0 -ℤ pos n)) (pos 0 -ℤ pos n) → r ≡ cell_value cell
unfolding cell_value signed_value
minus_some [] n r h e s = absurd (omega arith)
minus_some (c ∷ rest) n r h e s = rw (h, within_some rest n e) (tested (pos 0 -ℤ pos n) (neg_ℤ (pos n)) r (omega (arith, ints)) s)

pub plain_none : (cell : List ℕ) → get_or cell 0 0 ≢ 45 → numeral_within cell ≡ None → cell_value cell ≡ None
unfolding cell_value signed_value
plain_none [] h e = refl
plain_none (c ∷ rest) h e = rw (minus_test c h) (signed_none (λ n. pos n) wide_pos (c ∷ rest) e)

pub plain_some : (cell : List ℕ) (n : ℕ) (r : Option ℤ) → get_or cell 0 0 ≢ 45 → numeral_within cell ≡ Some n
    → SomeIff r (FitsSigned w64 (pos 0 +ℤ pos n)) (pos 0 +ℤ pos n) → r ≡ cell_value cell
unfolding cell_value signed_value
plain_some [] n r h e s = none_within n e
  where
    none_within : (m : ℕ) → numeral_within [] ≡ Some m → r ≡ None
    none_within m e = cc (sym (of_none [] refl) ∙ e)
plain_some (c ∷ rest) n r h e s = rw (minus_test c h, within_some (c ∷ rest) n e) (tested (pos 0 +ℤ pos n) (pos n) r (omega (arith, ints)) s)

pub ruleset signs = (minus_none, minus_some, plain_none, plain_some)

-- all bytes after the first, as a range
pub rest_of : (cell : List ℕ) → take (length cell - 1) (drop 1 cell) ≡ drop 1 cell
rest_of cell = take_all (length cell - 1) (drop 1 cell) (omega (arith, length-drop 1 cell))
