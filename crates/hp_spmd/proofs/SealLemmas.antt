-- Sums of sizes, part by part.
use Rattle.std.proofs.Common.{◌≡◌, ◌∙◌, sym, ap, arith, ℕ, suc, ◌+◌, ◌-◌, ◌<◌, ◌≤◌, true, false, List, [], ◌∷◌, ◌++◌, length, map, get_or, take, drop}
use Rattle.std.specs.Prelude.{nat_le, sum}
use Rattle.std.specs.List.{range_with_len}
use Rattle.std.proofs.lemmas.Bool.{le-leb}
use Rattle.std.proofs.lemmas.List.{drop_more, drop_all, take_all}
use Rattle.std.proofs.lemmas.List.Sums.{sum_by-take-le}
use Rattle.hp_word.specs.declared.table.Message.{Message}
use Rattle.hp_word.specs.Lengths.{longest}
use Rattle.hp_word.specs.ListRules.{at_least_zero}
use Rattle.hp_word.specs.LoopRules.{word_at}
use Rattle.hp_spmd.specs.Unpacks.{running, sizes_of}
use Rattle.hp_spmd.proofs.CheckNext.{breaks_one, fits_one}
use Rattle.hp_spmd.proofs.GatherLemmas.{made_more}
use Rattle.hp_spmd.proofs.HashLemmas.{map_map}
use Rattle.hp_spmd.proofs.MovedLemmas.{sum_first, sum_more}

pub sizes_all : (inbox : List Message) (i : ℕ) (made : List ℕ) → made ≡ map (λ (m : Message). at_least_zero (word_at m.words 0)) (take i inbox) → length inbox ≤ i → made ≡ sizes_of inbox
sizes_all inbox i made h le = h ∙ ap (map (λ (m : Message). at_least_zero (word_at m.words 0))) (take_all i inbox le) ∙ sym (map_map (λ (m : Message). word_at m.words 0) at_least_zero inbox)

-- ---- whether they are few, by what is left of the longest

sum_next : (sizes : List ℕ) (i : ℕ) → i < length sizes → sum (drop i sizes) ≡ get_or sizes i 0 + sum (drop (i + 1) sizes)
sum_next sizes i lt = ap sum (drop_more sizes i 0 lt) ∙ sum_first (get_or sizes i 0) (drop (i + 1) sizes)

-- what is left of the longest holds the sizes from the i-th on where the longest holds all
abbrev pub AreLeft : List ℕ → (i left : ℕ) → Type 0
AreLeft sizes i left = nat_le (sum (drop i sizes)) left ≡ nat_le (sum sizes) longest

pub sum_past : (sizes : List ℕ) (i left : ℕ) → i < length sizes → left < get_or sizes i 0 → AreLeft sizes i left → false ≡ nat_le (sum sizes) longest
sum_past sizes i left lt more h = sym (ap (λ k. nat_le k left) (sum_next sizes i lt) ∙ breaks_one (get_or sizes i 0) (sum (drop (i + 1) sizes)) left more) ∙ h

pub sum_left : (sizes : List ℕ) (i left next : ℕ) → i < length sizes → get_or sizes i 0 ≤ left → next ≡ left - get_or sizes i 0 → AreLeft sizes i left → AreLeft sizes (i + 1) next
sum_left sizes i left next lt le e h =
    ap (nat_le (sum (drop (i + 1) sizes))) e ∙ sym (fits_one (get_or sizes i 0) (sum (drop (i + 1) sizes)) left le) ∙ ap (λ k. nat_le k left) (sym (sum_next sizes i lt)) ∙ h

pub sum_all : (sizes : List ℕ) (i left : ℕ) → length sizes ≤ i → AreLeft sizes i left → true ≡ nat_le (sum sizes) longest
sum_all sizes i left le h = sym (ap (λ l. nat_le (sum l) left) (drop_all i sizes le) ∙ le-leb 0 left (omega arith)) ∙ h

-- ---- where parts begin

pub running_first : (sizes cuts : List ℕ) (z : ℕ) → cuts ≡ [] ++ z ∷ [] → z ≡ 0 → cuts ≡ map (λ k. sum (take k sizes)) (range_with_len 0 1)
running_first sizes cuts z h e = h ∙ ap (λ n. n ∷ []) e

pub total_more : (sizes : List ℕ) (i total next : ℕ) → i < length sizes → total ≡ sum (take i sizes) → next ≡ total + get_or sizes i 0 → next ≡ sum (take (i + 1) sizes)
total_more sizes i total next lt t n = n ∙ ap (λ x. x + get_or sizes i 0) t ∙ sym (sum_more sizes i lt)

pub running_more : (sizes cuts now : List ℕ) (i total next : ℕ) → i < length sizes → cuts ≡ map (λ k. sum (take k sizes)) (range_with_len 0 (i + 1)) → total ≡ sum (take i sizes) → next ≡ total + get_or sizes i 0 → now ≡ cuts ++ next ∷ []
    → now ≡ map (λ k. sum (take k sizes)) (range_with_len 0 ((i + 1) + 1))
running_more sizes cuts now i total next lt h t n e =
    made_more (λ k. sum (take k sizes)) (i + 1) cuts now next h e (total_more sizes i total next lt t n)

pub running_all : (sizes cuts : List ℕ) (i : ℕ) → length sizes ≡ i → cuts ≡ map (λ k. sum (take k sizes)) (range_with_len 0 (i + 1)) → cuts ≡ running sizes
running_all sizes cuts i e h =
    let count : i + 1 ≡ suc (length sizes) = omega (arith, e) in
    h ∙ ap (λ n. map (λ k. sum (take k sizes)) (range_with_len 0 n)) count

-- a sum so far is no more than all
pub sum_within : (sizes : List ℕ) (i : ℕ) → i < length sizes → sum (take i sizes) + get_or sizes i 0 ≤ sum sizes
sum_within sizes i lt = let more = sum_more sizes i lt in let part = sum_by-take-le (λ n. n) sizes (i + 1) in omega (arith, more, part)
