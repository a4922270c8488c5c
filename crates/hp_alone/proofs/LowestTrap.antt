-- Ranks that make the rows of their own places: where the whole has a trap, they trap together by that very one.
use Rattle.std.proofs.Common.{◌≡◌, ◌∙◌, subst, ap, arith, ℕ, suc, ◌+◌, ◌-◌, ◌<◌, ◌≤◌, ℤ, List, [], ◌∷◌, ◌++◌, length, map, Result, Ok, Err}
use Rattle.std.specs.List.{AllByRecursion}
use Rattle.hp_word.specs.declared.place.Trap.{Trap}
use Rattle.hp_word.specs.LoopRules.{and_then, rows_below}
use Rattle.hp_spmd.specs.declared.store.Store.{Store}
use Rattle.hp_spmd.specs.Layout.{Numbered}
use Rattle.hp_spmd.specs.Lockstep.{One, joined_to, together, with_first}
use Rattle.hp_spmd.specs.Next.{Next, lifted, moved}
use Rattle.hp_spmd.specs.Store.{Data, with_data}
use Rattle.hp_alone.specs.Looping.{places_in, rows_from, rows_of_parts}
use Rattle.hp_alone.proofs.OwnRows.{same_err}
use Rattle.hp_alone.proofs.RowsJoined.{rows_are_parts}

-- what a rank does that makes something of its own rows
abbrev pub made_by : (Store → List (List ℤ) → Data) → Store → Result (List (List ℤ)) Trap → Next
made_by made x rows = lifted (and_then rows (λ r. Ok (made x r))) x

-- each of the ranks makes something of the rows of its places, which follow on one another
abbrev Makes : (Store → Next) → (ℕ → Result (List ℤ) Trap) → (own : Store → ℕ) → (Store → List (List ℤ) → Data) → ℕ → List Store → Type 0
Makes f row own made start [] = Unit {0}
Makes f row own made start (x ∷ xs) = (f x ≡ made_by made x (rows_from row start (own x))) × Makes f row own made (start + own x) xs

-- the lowest rank that traps
lowest : (f : Store → Next) (row : ℕ → Result (List ℤ) Trap) (own : Store → ℕ) (made : Store → List (List ℤ) → Data) (t : Trap) (start : ℕ) (xs : List Store) → Makes f row own made start xs → rows_of_parts row start (map own xs) ≡ Err t → together f xs ≡ One t
lowest f row own made t start [] m e = absurd cc
lowest f row own made t start (x ∷ xs) m e = by_parts (rows_from row start (own x)) (rows_of_parts row (start + own x) (map own xs)) m.0 (lowest f row own made t (start + own x) xs m.1) e
  where
    by_parts : (mine rest : Result (List (List ℤ)) Trap) → f x ≡ made_by made x mine → (rest ≡ Err t → together f xs ≡ One t) → and_then mine (λ rows. and_then rest (λ more. Ok (rows ++ more))) ≡ Err t → joined_to (f x) (together f xs) ≡ One t
    by_parts (Err u) rest goes later same = ap (λ n. joined_to n (together f xs)) goes ∙ ap One (same_err {A = List (List ℤ)} u t same)
    by_parts (Ok rows) (Err u) goes later same =
        ap (λ n. joined_to n (together f xs)) goes ∙ ap (λ r. with_first (with_data (made x rows) (moved x)) r) (later (ap Err (same_err {A = List (List ℤ)} u t same)))
    by_parts (Ok rows) (Ok more) goes later same = absurd cc

-- ---- places between cuts

-- the places of each rank, and of all from the k-th on
makes_each : (f : Store → Next) (row : ℕ → Result (List ℤ) Trap) (made : Store → List (List ℤ) → Data) (cut : ℕ → ℕ) (k : ℕ) (xs : List Store) → Numbered k xs → ((j : ℕ) → j < k + length xs → cut j ≤ cut (suc j))
    → AllByRecursion (λ x. f x ≡ made_by made x (rows_from row (cut x.number) (cut (suc x.number) - cut x.number))) xs
    → Makes f row (λ (x : Store). cut (suc x.number) - cut x.number) made (cut k) xs
makes_each f row made cut k [] n rises each = tt
makes_each f row made cut k (x ∷ xs) n rises each =
    let here : k < k + length (x ∷ xs) = omega arith in
    let up = rises k here in
    let own = ap (λ r. cut (suc r) - cut r) n.0 in
    let next : cut (suc k) ≡ cut k + (cut (suc x.number) - cut x.number) = omega (arith, up, own) in (
      each.0 ∙ ap (λ r. made_by made x (rows_from row (cut r) (cut (suc x.number) - cut x.number))) n.0,
      subst (λ start. Makes f row (λ (y : Store). cut (suc y.number) - cut y.number) made start xs) next
          (makes_each f row made cut (suc k) xs n.1 (λ j lt. (let on : j < k + length (x ∷ xs) = omega (arith, lt) in rises j on)) each.1),
    )

places_each : (cut : ℕ → ℕ) (k : ℕ) (xs : List Store) → Numbered k xs → ((j : ℕ) → j < k + length xs → cut j ≤ cut (suc j)) → cut k + places_in (map (λ (x : Store). cut (suc x.number) - cut x.number) xs) ≡ cut (k + length xs)
places_each cut k [] n rises = let none : k ≡ k + 0 = omega arith in let same = ap cut none in omega (arith, same)
places_each cut k (x ∷ xs) n rises =
    let here : k < k + length (x ∷ xs) = omega arith in
    let up = rises k here in
    let own = ap (λ r. cut (suc r) - cut r) n.0 in
    let rest = places_each cut (suc k) xs n.1 (λ j lt. (let on : j < k + length (x ∷ xs) = omega (arith, lt) in rises j on)) in
    let all : suc k + length xs ≡ k + suc (length xs) = omega arith in
    let end = ap cut all in
    omega (arith, up, own, rest, end)

-- Where the rows of a whole trap, ranks that make the rows between their cuts trap so together.
pub trap_of_parts : (f : Store → Next) (row : ℕ → Result (List ℤ) Trap) (made : Store → List (List ℤ) → Data) (cut : ℕ → ℕ) (n : ℕ) (t : Trap) (xs : List Store) → Numbered 0 xs → ((j : ℕ) → j < length xs → cut j ≤ cut (suc j)) → cut 0 ≡ 0 → cut (length xs) ≡ n
    → AllByRecursion (λ x. f x ≡ made_by made x (rows_from row (cut x.number) (cut (suc x.number) - cut x.number))) xs
    → rows_below row n ≡ Err t → together f xs ≡ One t
trap_of_parts f row made cut n t xs numbers rises first last each trap =
    let own = λ (x : Store). cut (suc x.number) - cut x.number in
    let up : (j : ℕ) → j < 0 + length xs → cut j ≤ cut (suc j) = λ j lt. (let on : j < length xs = omega (arith, lt) in rises j on) in
    let none : 0 + length xs ≡ length xs = omega arith in
    let count = places_each cut 0 xs numbers up in
    let end = ap cut none in
    let all : places_in (map own xs) ≡ n = omega (arith, count, end, first, last) in
    let m = subst (λ start. Makes f row own made start xs) first (makes_each f row made cut 0 xs numbers up each) in
    lowest f row own made t 0 xs m (rows_are_parts row (map own xs) ∙ ap (rows_below row) all ∙ trap)
