-- The numbers from one up to another, and how many there are.
use Rattle.std.proofs.Common.{◌≡◌, ℕ, ℤ, pos, negsuc, ◌+ℤ◌, ◌-ℤ◌, ◌≤ℤ◌, ◌≤◌, Bool, true, false, cond, List, [], ◌∷◌, ◌++◌, ◌+◌, map, Result, Ok, Err, refl, ap, sym, ◌∙◌, subst, arith}
use Rattle.std.specs.Prelude.{nat_le}
use Rattle.std.proofs.lemmas.Bool.{leb-true}
use Rattle.std.proofs.lemmas.Int.{ints}
use Rattle.std.specs.List.{range_with_len}
use Rattle.std.proofs.lemmas.List.FromFn.{map-range_with_len_more}
use Rattle.hp_word.specs.declared.place.Place.{Place}
use Rattle.hp_word.specs.declared.place.Trap.{Trap}
use Rattle.hp_word.specs.declared.place.TrapKind.TheVariants.{TooLong}
use Rattle.hp_word.specs.Lengths.{trap, longest}
use Rattle.hp_word.specs.ListRules.{at_least_zero, count_from, range_count}

ok_of : (b : Bool) (n k : ℕ) (t : Trap) → cond {A = Result ℕ Trap} b (Ok n) (Err t) ≡ Ok k → (b ≡ true) × (n ≡ k)
ok_of true n k t h = (refl, cc)
ok_of false n k t h = absurd (cc)

counted : (at : Place) (first last : ℤ) (count : ℕ) → range_count at first last ≡ Ok count → (nat_le (count_from first last) longest ≡ true) × (count_from first last ≡ count)
unfolding range_count
counted at first last count h = ok_of (nat_le (count_from first last) longest) (count_from first last) count (trap at TooLong) h

-- there are not too many
pub span_few : (at : Place) (first last : ℤ) (count : ℕ) → range_count at first last ≡ Ok count → count ≤ longest
span_few at first last count h =
    let p = counted at first last count h in
    let few = leb-true (count_from first last) longest p.0 in
    let same = p.1 in
    omega (arith, few, same)

reaches : (first limit z : ℤ) → first ≤ℤ limit → (first +ℤ z) ≤ℤ limit → (first +ℤ pos (at_least_zero z)) ≤ℤ limit
reaches first limit (pos n) low h = h
reaches first limit (negsuc n) low h = omega (arith, ints)

-- the last of them is not behind the end
pub span_fits : (at : Place) (first last limit : ℤ) (count : ℕ) → first ≤ℤ limit → (last +ℤ pos 1) ≤ℤ limit → range_count at first last ≡ Ok count → (first +ℤ pos count) ≤ℤ limit
span_fits at first last limit count low high h =
    let end : (first +ℤ ((last -ℤ first) +ℤ pos 1)) ≤ℤ limit = omega (arith, ints) in
    let same = (counted at first last count h).1 in
    subst (λ n. (first +ℤ pos n) ≤ℤ limit) same (reaches first limit ((last -ℤ first) +ℤ pos 1) low end)

-- one more number
pub span_pushed : (first : ℤ) (k : ℕ) (made now : List ℤ) (z : ℤ) → made ≡ map (λ k. first +ℤ pos k) (range_with_len 0 k) → now ≡ made ++ z ∷ [] → z ≡ first +ℤ pos k
    → now ≡ map (λ k. first +ℤ pos k) (range_with_len 0 (k + 1))
span_pushed first k made now z h e same =
    e ∙ ap (λ l. l ++ z ∷ []) h ∙ ap (λ z. map (λ k. first +ℤ pos k) (range_with_len 0 k) ++ z ∷ []) same
    ∙ sym (map-range_with_len_more (λ k. first +ℤ pos k) 0 k k (omega arith))
