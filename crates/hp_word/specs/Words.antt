-- Arithmetic on 64-bit words, which wraps; a truth value is the word 0 or 1.
use Rattle.std.specs.Prelude.{◌≡◌, ◌^◌, ◌-◌, ◌+ℤ◌, ◌-ℤ◌, ◌*ℤ◌, ℤ, pos, negsuc, neg_ℤ, Bool, not, ◌&&◌, ◌||◌, if◌then◌else◌, Result, Ok, Err, int_div, int_rem, int_lt, int_le, refl}
use Rattle.std.specs.Int.{int_wrap, int_min, int_max, w64}
use Rattle.std.specs.Ordering.{int_eq}
use Rattle.hp_word.specs.declared.place.TrapKind.{TrapKind}
use Rattle.hp_word.specs.declared.place.TrapKind.TheVariants.{Divide}
use Rattle.hp_word.specs.declared.word.CalcOp.{CalcOp}
use Rattle.hp_word.specs.declared.word.CalcOp.TheVariants as op

-- the number from -2^63 to 2^63 - 1 that differs from z by a multiple of 2^64
abbrev pub wrap : ℤ → ℤ
wrap z = int_wrap w64 z

-- the least and the greatest number of 64 bits
abbrev pub least_word : ℤ
least_word = negsuc (2 ^ 63 - 1)

abbrev pub greatest_word : ℤ
greatest_word = pos (2 ^ 63 - 1)

-- a truth value as a word
abbrev pub truth : Bool → ℤ
truth b = if b then pos 1 else pos 0

-- a word is true unless it is 0
abbrev pub is_true : ℤ → Bool
is_true z = not (int_eq z (pos 0))

-- the quotient rounded toward zero; there is none by 0, nor where it does not fit 64 bits
abbrev pub divided : ℤ → ℤ → Result ℤ TrapKind
divided a b =
    if int_eq b (pos 0) || (int_eq a least_word && int_eq b (negsuc 0)) then Err Divide else Ok (int_div a b)

-- what is left of a, with the sign of a; there is nothing by 0
abbrev pub remainder : ℤ → ℤ → Result ℤ TrapKind
remainder a b = if int_eq b (pos 0) then Err Divide else Ok (int_rem a b)

-- what an operation gives of two words
abbrev pub calculated : CalcOp → ℤ → ℤ → Result ℤ TrapKind
calculated op.Add a b = Ok (wrap (a +ℤ b))
calculated op.Sub a b = Ok (wrap (a -ℤ b))
calculated op.Mul a b = Ok (wrap (a *ℤ b))
calculated op.Div a b = divided a b
calculated op.Rem a b = remainder a b
calculated op.Min a b = Ok (int_min a b)
calculated op.Max a b = Ok (int_max a b)
calculated op.Eq a b = Ok (truth (int_eq a b))
calculated op.Ne a b = Ok (truth (not (int_eq a b)))
calculated op.Lt a b = Ok (truth (int_lt a b))
calculated op.Le a b = Ok (truth (int_le a b))
calculated op.Gt a b = Ok (truth (int_lt b a))
calculated op.Ge a b = Ok (truth (int_le b a))
calculated op.And a b = Ok (truth (is_true a && is_true b))
calculated op.Or a b = Ok (truth (is_true a || is_true b))
calculated op.Not a b = Ok (truth (not (is_true a)))
calculated op.Neg a b = Ok (wrap (neg_ℤ a))

-- ---- worked rows

wrap_row : wrap (pos 9999999999999999990) ≡ negsuc 8446744073709551625
unfolding int_wrap
wrap_row = refl

sum_row : calculated op.Add greatest_word (pos 1) ≡ Ok least_word
unfolding int_wrap
sum_row = refl

difference_row : calculated op.Sub least_word (pos 1) ≡ Ok greatest_word
unfolding int_wrap
difference_row = refl

product_row : calculated op.Mul greatest_word (pos 2) ≡ Ok (negsuc 1)
unfolding int_wrap
product_row = refl

division_rows : (calculated op.Div (negsuc 6) (pos 2) ≡ Ok (negsuc 2)) × (calculated op.Rem (negsuc 6) (pos 2) ≡ Ok (negsuc 0))
division_rows = (refl, refl)

remainder_of_least_row : remainder least_word (negsuc 0) ≡ Ok (pos 0)
remainder_of_least_row = refl

least_by_minus_one_row : divided least_word (negsuc 0) ≡ Err Divide
least_by_minus_one_row = refl

division_by_zero_row : divided (pos 1) (pos 0) ≡ Err Divide
division_by_zero_row = refl

and_row : calculated op.And (pos 5) (negsuc 0) ≡ Ok (pos 1)
and_row = refl

less_row : calculated op.Lt (pos 5) (negsuc 0) ≡ Ok (pos 0)
less_row = refl

negated_least_row : calculated op.Neg least_word (pos 0) ≡ Ok least_word
unfolding int_wrap
negated_least_row = refl
