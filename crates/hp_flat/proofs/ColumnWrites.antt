-- What is written into the slots of arrays that go by their columns stands there, and all other slots are as before.
use Rattle.std.proofs.Common.{◌≡◌, ℕ, zero, suc, ◌+◌, ◌≤◌, ◌<◌, List, [], ◌∷◌, map, length, IsTrue, refl, sym, ◌∙◌, arith}
use Rattle.std.specs.List.{AllZip, range_with_len}
use Rattle.hp_air.specs.Carried.{is_among}
use Rattle.hp_air.specs.Unknowns.{Unknown}
use Rattle.hp_air.specs.Wholes.{Whole, Env, changed_all, with_slots}
use Rattle.hp_flat.specs.Homes.{Homes, slot_of, slots_of}
use Rattle.hp_flat.proofs.LastSteps.{changed_there, changed_elsewhere, AreApart}

-- the arrays of one value, of which each column is another array
module _ (h : Homes) (apart : AreApart h) (made : ℕ → Unknown) (one : (b c : ℕ) → made b ≡ made c → b ≡ c) where
  -- the columns from a on
  abbrev pub columns_from : (a w : ℕ) → List Unknown
  columns_from a w = map made (range_with_len a w)

  abbrev pub ColumnsAreAmong : (a w : ℕ) → Type 0
  ColumnsAreAmong a w = (c : ℕ) → a ≤ c → c < a + w → IsTrue (is_among h.arrays (made c))

  fewer : (a w : ℕ) → ColumnsAreAmong a (suc w) → ColumnsAreAmong (a + 1) w
  fewer a w among c low high = among c (omega (arith, low)) (omega (arith, high))

  -- an array that is none of them has what it had
  pub others_as_before : (a w : ℕ) (wholes : List Whole) (held : ℕ → Whole) → ColumnsAreAmong a w → (u : Unknown) → ((c : ℕ) → made c ≡ u → ⊥)
      → changed_all (slots_of h (columns_from a w)) wholes held (slot_of h u) ≡ held (slot_of h u)
  unfolding changed_all
  others_as_before a zero wholes held among u other = refl
  others_as_before a (suc w) [] held among u other = refl
  others_as_before a (suc w) (x ∷ wholes) held among u other =
      changed_elsewhere (slot_of h (made a)) (slot_of h u) x (changed_all (slots_of h (columns_from (a + 1) w)) wholes held)
      (λ same. other a (apart (made a) u (among a (omega arith) (omega arith)) (sym same)))
      ∙ others_as_before (a + 1) w wholes held (fewer a w among) u other

  -- and each of them what was written
  columns_hold : (a w : ℕ) (wholes : List Whole) (held after : ℕ → Whole) → ColumnsAreAmong a w → length wholes ≡ w
      → ((c : ℕ) → a ≤ c → c < a + w → after (slot_of h (made c)) ≡ changed_all (slots_of h (columns_from a w)) wholes held (slot_of h (made c)))
      → AllZip (λ u x. after (slot_of h u) ≡ x) (columns_from a w) wholes
  unfolding changed_all
  columns_hold a zero [] held after among many is = tt
  columns_hold a zero (x ∷ wholes) held after among many is = absurd (omega (arith, many))
  columns_hold a (suc w) [] held after among many is = absurd (omega (arith, many))
  columns_hold a (suc w) (x ∷ wholes) held after among many is =
      let inner : ℕ → Whole = changed_all (slots_of h (columns_from (a + 1) w)) wholes held in (
        is a (omega arith) (omega arith) ∙ changed_there (slot_of h (made a)) x inner,
        columns_hold (a + 1) w wholes held after (fewer a w among) (omega (arith, many))
            (λ c low high. is c (omega (arith, low)) (omega (arith, high))
            ∙ changed_elsewhere (slot_of h (made a)) (slot_of h (made c)) x inner
            (λ same. let twice : a ≡ c = one a c (apart (made a) (made c) (among a (omega arith) (omega arith)) (sym same)) in omega (arith, twice, low))),
      )

  -- all the slots of the value are written
  pub columns_written : (w : ℕ) (wholes : List Whole) (e : Env) → ColumnsAreAmong 0 w → length wholes ≡ w
      → AllZip (λ u x. (with_slots (slots_of h (columns_from 0 w)) wholes e).slots (slot_of h u) ≡ x) (columns_from 0 w) wholes
  columns_written w wholes e among many = columns_hold 0 w wholes e.slots (changed_all (slots_of h (columns_from 0 w)) wholes e.slots) among many (λ c low high. refl)
