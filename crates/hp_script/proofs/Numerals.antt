-- The value of decimal digits, digit by digit.
use Rattle.std.proofs.Common.{◌≡◌, ℕ, zero, suc, [], ◌∷◌, ◌+◌, ◌-◌, ◌*◌, ◌<◌, ◌≤◌, List, length, get_or, take, pos, Some, None, arith, nat_lt, if◌then◌else◌}
use Rattle.std.specs.Char.{digit_value}
use Rattle.std.specs.Str.Parse.{AllDigits, digits_value}
use Rattle.std.proofs.lemmas.Int.Digits.{digits_value_more}
use Rattle.std.proofs.lemmas.Str.{digit_value_digit}
use Rattle.std.proofs.lemmas.Str.Parse.{digit_from_value, digits_value-take-le}

digit_at : (ds : List ℕ) (i : ℕ) → AllDigits 10 ds → i < length ds → digit_value (get_or ds i 0) < 10
digit_at [] i h lt = absurd (omega arith)
digit_at (d ∷ ds) zero h lt = h.0
digit_at (d ∷ ds) (suc i) h lt = digit_at ds i h.1 (omega arith)

-- a digit, as the code reads it
digit_code : (c : ℕ) → digit_value c < 10 → (48 ≤ c) × (c ≤ 57) × (digit_value c + 48 ≡ c)
digit_code c h = let r = digit_from_value c h in let e = digit_value_digit c r in (omega arith, omega arith, e)

-- one more digit
digit_more : (ds : List ℕ) (i : ℕ) → AllDigits 10 ds → i < length ds → digits_value 10 (take (i + 1) ds) ≡ digits_value 10 (take i ds) * 10 + digit_value (get_or ds i 0)
digit_more ds i h lt = digits_value_more 10 ds i lt

pub digit_is : (ds : List ℕ) (i : ℕ) → AllDigits 10 ds → i < length ds → (48 ≤ get_or ds i 0) × (get_or ds i 0 ≤ 57)
digit_is ds i all lt = let d = digit_code (get_or ds i 0) (digit_at ds i all lt) in (d.0, d.1)

-- the value with one digit more, as the code makes it
pub one_more : (ds : List ℕ) (i value : ℕ) → AllDigits 10 ds → i < length ds → value ≡ digits_value 10 (take i ds)
    → value * 10 + (get_or ds i 0 - 48) ≡ digits_value 10 (take (i + 1) ds)
one_more ds i value all lt e =
    let d = digit_code (get_or ds i 0) (digit_at ds i all lt) in
    let more = digit_more ds i all lt in
    omega arith

-- what is wide with one digit more is wide
pub grows : (ds : List ℕ) (i value : ℕ) → AllDigits 10 ds → i < length ds → value ≡ digits_value 10 (take i ds)
    → value * 10 + (get_or ds i 0 - 48) ≤ digits_value 10 ds
grows ds i value all lt e =
    let more = one_more ds i value all lt e in
    let le = digits_value-take-le 10 ds (i + 1) (omega arith) in
    omega arith

pub none_above : (greatest value : ℕ) → greatest < value → None ≡ (if nat_lt greatest value then None else Some (pos value))
none_above greatest value lt = grind arith

pub some_below : (greatest value : ℕ) → value ≤ greatest → Some (pos value) ≡ (if nat_lt greatest value then None else Some (pos value))
some_below greatest value le = grind arith
