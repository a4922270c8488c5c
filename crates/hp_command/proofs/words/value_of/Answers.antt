use Rattle.std.proofs.Common.{◌≡◌, ℕ, ◌<◌, ◌^◌, length, true, Result, Ok, Err, rules, arith, Bool, ◌&&◌}
use Rattle.std.specs.Char.{is_ascii_digit}
use Rattle.std.specs.List.{list_all}
use Rattle.std.specs.Option.{SomeIff}
use Rattle.std.specs.Result.{OkIff, result_ok}
use Rattle.std.specs.Str.Parse.{digits_value}
use Rattle.std.proofs.lemmas.Str.Parse.{IsDigitsTest, numerals_by_value, parse_digits}
use Rattle.std.proofs.lemmas.Bool.{leb-true}
use Rattle.std.specs.Prelude.{nat_le}
use Rattle.hp_command.proofs.words.value_of.Goals as goal

digits_test : IsDigitsTest (λ ds. list_all is_ascii_digit ds ≡ true)
digits_test = search rules

-- what `ok` makes of the answer of `parse`
told : {E : Type 0} (r : Result ℕ E) (n v : ℕ) → 0 < n → OkIff r ((0 < n) × (v < 2 ^ 32)) v → SomeIff (result_ok r) (v < 2 ^ 32) v
told (Ok x) n v some h = (h.0.1, h.1)
told (Err e) n v some h = λ small. h (some, small)

first : (a b c : Bool) → (a && (b && c)) ≡ true → (a ≡ true) × (b ≡ true)
first a b c h = (grind arith, grind arith)

pub returns : goal.returns
returns c =
    let parts = first (list_all is_ascii_digit c.args.text.now) (nat_le 1 (length c.args.text.now)) (nat_le (length c.args.text.now) 20) c.requires in
    let some : 0 < length c.args.text.now = leb-true 1 (length c.args.text.now) parts.1 in
    let value = digits_value 10 c.args.text.now in
    let parsed = parse_digits (numerals_by_value (λ ds. list_all is_ascii_digit ds ≡ true) digits_test) 32 c.args.text.now c.parse.result c.parse.ensures.value.0 parts.0 in
    rw c.ok.ensures.value (told c.parse.result (length c.args.text.now) value some parsed)
