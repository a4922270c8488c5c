-- Parts of all ranks, one behind the other, and where each begins.
use Rattle.std.proofs.Common.{◌≡◌, ◌∙◌, refl, sym, ap, arith, ℕ, zero, suc, ◌+◌, ◌-◌, ◌<◌, ◌≤◌, min, ℤ, List, [], ◌∷◌, ◌++◌, map, length, length-append, get_or, take, drop}
use Rattle.std.specs.Prelude.{flat_map, sum}
use Rattle.std.proofs.Math.Seq.{drop-append-add, take-append_seam}
use Rattle.std.proofs.lemmas.List.{get_or-map, length-map, take_all}
use Rattle.std.proofs.lemmas.List.FromFn.{get_or-map-range_with_len, length-map-range_with_len}
use Rattle.hp_spmd.specs.declared.store.Store.{Store}
use Rattle.hp_spmd.specs.Layout.{Rises}
use Rattle.hp_spmd.specs.Store.{kept}
use Rattle.hp_spmd.specs.Unpacks.{running}
use Rattle.hp_spmd.proofs.LocalCuts.{kept_part}
use Rattle.hp_spmd.proofs.MovedLemmas.{sum_first, sum_more}

-- how long each rank's part is
abbrev pub lengths_of : (Store → List ℤ) → List Store → List ℕ
lengths_of part xs = map (λ (x : Store). length (part x)) xs

pub total_length : (part : Store → List ℤ) (xs : List Store) → length (flat_map part xs) ≡ sum (lengths_of part xs)
total_length part [] = refl
total_length part (x ∷ xs) =
    length-append (part x) (flat_map part xs) ∙ ap (λ n. length (part x) + n) (total_length part xs) ∙ sym (sum_first (length (part x)) (lengths_of part xs))

-- ---- lengths as they are told: none above a greatest count

-- where all together are few, each is told as it is
pub told_few : (greatest most : ℕ) (lens : List ℕ) → sum lens ≤ most → most ≤ greatest → map (λ n. min n greatest) lens ≡ lens
told_few greatest most [] le within = refl
told_few greatest most (n ∷ ns) le within =
    let first = sum_first n ns in
    let one : min n greatest ≡ n = omega (arith, le, within, first) in
    let rest : sum ns ≤ most = omega (arith, le, first) in
    ap (λ m. m ∷ map (λ n. min n greatest) ns) one ∙ ap (λ ms. n ∷ ms) (told_few greatest most ns rest within)

told_least : (greatest : ℕ) (lens : List ℕ) → min (sum lens) greatest ≤ sum (map (λ n. min n greatest) lens)
told_least greatest [] = omega arith
told_least greatest (n ∷ ns) =
    let first = sum_first n ns in
    let made = sum_first (min n greatest) (map (λ n. min n greatest) ns) in
    let rest = told_least greatest ns in
    omega (arith, first, made, rest)

-- where they are more, so are those that are told
pub told_more : (greatest most : ℕ) (lens : List ℕ) → most < sum lens → most < greatest → most < sum (map (λ n. min n greatest) lens)
told_more greatest most lens lt within = let least = told_least greatest lens in omega (arith, lt, within, least)

-- ---- cuts

cut_at : (lens : List ℕ) (k : ℕ) → k ≤ length lens → get_or (running lens) k 0 ≡ sum (take k lens)
cut_at lens k le =
    let within : k < suc (length lens) = omega (arith, le) in
    let same : 0 + k ≡ k = omega arith in
    get_or-map-range_with_len (λ k. sum (take k lens)) 0 (suc (length lens)) k k 0 within same

-- where the parts begin rises from 0 to their whole length
pub running_rise : (part : Store → List ℤ) (xs : List Store) → Rises (running (lengths_of part xs)) (length (flat_map part xs)) (length xs)
running_rise part xs =
    let lens = lengths_of part xs in
    let many : length lens ≡ length xs = length-map xs (λ (x : Store). length (part x)) in
    let least : 0 ≤ length lens = omega arith in
    let all : length xs ≤ length lens = omega (arith, many) in
    let most : length lens ≤ length xs = omega (arith, many) in
    record {
      count = length-map-range_with_len (λ k. sum (take k lens)) 0 (suc (length lens)) ∙ ap suc many;
      first = cut_at lens 0 least;
      last = cut_at lens (length xs) all ∙ ap sum (take_all (length xs) lens most) ∙ sym (total_length part xs);
      rises = λ k h.
          let here : k ≤ length lens = omega (arith, h, many) in
          let next : suc k ≤ length lens = omega (arith, h, many) in
          let lt : k < length lens = omega (arith, h, many) in
          let at = cut_at lens k here in
          let on = cut_at lens (suc k) next in
          let more = sum_more lens k lt in
          let same : sum (take (k + 1) lens) ≡ sum (take (suc k) lens) = (let one : k + 1 ≡ suc k = omega arith in ap (λ n. sum (take n lens)) one) in
          omega (arith, at, on, more, same);
    }

-- a part is what stands between its cuts
part_between : (part : Store → List ℤ) (xs : List Store) (r : ℕ) (d : Store) → r < length xs
    → take (sum (take (suc r) (lengths_of part xs)) - sum (take r (lengths_of part xs))) (drop (sum (take r (lengths_of part xs))) (flat_map part xs)) ≡ part (get_or xs r d)
part_between part [] r d lt = absurd (omega (arith, lt))
part_between part (x ∷ xs) zero d lt =
    let n = length (part x) in
    let rest = flat_map part xs in
    let one : sum (take (suc zero) (lengths_of part (x ∷ xs))) ≡ n = (let none : n + 0 ≡ n = omega arith in sum_first n (take zero (lengths_of part xs)) ∙ none) in
    let whole : n - 0 ≡ n = omega arith in
    ap (λ m. take (m - 0) (part x ++ rest)) one ∙ ap (λ m. take m (part x ++ rest)) whole ∙ take-append_seam (part x) rest
part_between part (x ∷ xs) (suc r) d lt =
    let n = length (part x) in
    let lens = lengths_of part xs in
    let rest = flat_map part xs in
    let on : r < length xs = omega (arith, lt) in
    let from = sum_first n (take r lens) in
    let until = sum_first n (take (suc r) lens) in
    let gap : (n + sum (take (suc r) lens)) - (n + sum (take r lens)) ≡ sum (take (suc r) lens) - sum (take r lens) = omega arith in
    ap (λ m. take (m - sum (n ∷ take r lens)) (drop (sum (n ∷ take r lens)) (part x ++ rest))) until
    ∙ ap (λ m. take ((n + sum (take (suc r) lens)) - m) (drop m (part x ++ rest))) from
    ∙ ap (λ m. take m (drop (n + sum (take r lens)) (part x ++ rest))) gap
    ∙ ap (take (sum (take (suc r) lens) - sum (take r lens))) (drop-append-add (part x) rest (sum (take r lens)))
    ∙ part_between part xs r d on

pub part_kept : (part : Store → List ℤ) (xs : List Store) (r : ℕ) (d : Store) → r < length xs
    → kept (get_or (running (lengths_of part xs)) r 0) (get_or (running (lengths_of part xs)) (suc r) 0) 0 (flat_map part xs) ≡ part (get_or xs r d)
part_kept part xs r d lt =
    let lens = lengths_of part xs in
    let many : length lens ≡ length xs = length-map xs (λ (x : Store). length (part x)) in
    let here : r ≤ length lens = omega (arith, lt, many) in
    let next : suc r ≤ length lens = omega (arith, lt, many) in
    ap (λ a. kept a (get_or (running lens) (suc r) 0) 0 (flat_map part xs)) (cut_at lens r here)
    ∙ ap (λ b. kept (sum (take r lens)) b 0 (flat_map part xs)) (cut_at lens (suc r) next)
    ∙ kept_part (sum (take r lens)) (sum (take (suc r) lens)) (flat_map part xs)
    ∙ part_between part xs r d lt

-- as many places as the part has
pub part_count : (part : Store → List ℤ) (xs : List Store) (r : ℕ) (d : Store) → r < length xs
    → get_or (running (lengths_of part xs)) (suc r) 0 - get_or (running (lengths_of part xs)) r 0 ≡ length (part (get_or xs r d))
part_count part xs r d lt =
    let lens = lengths_of part xs in
    let many : length lens ≡ length xs = length-map xs (λ (x : Store). length (part x)) in
    let here : r ≤ length lens = omega (arith, lt, many) in
    let next : suc r ≤ length lens = omega (arith, lt, many) in
    let there : r < length lens = omega (arith, lt, many) in
    let at = cut_at lens r here in
    let on = cut_at lens (suc r) next in
    let more = sum_more lens r there in
    let same : sum (take (r + 1) lens) ≡ sum (take (suc r) lens) = (let one : r + 1 ≡ suc r = omega arith in ap (λ n. sum (take n lens)) one) in
    let one = get_or-map (λ (x : Store). length (part x)) xs r d 0 lt in
    omega (arith, at, on, more, same, one)
