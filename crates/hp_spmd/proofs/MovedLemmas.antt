-- What is read of the messages of a Move, array by array.
use Rattle.std.proofs.Common.{◌≡◌, ◌∙◌, refl, sym, ap, arith, ℕ, ◌+◌, ◌-◌, ◌<◌, ◌≤◌, ◌⊎◌, inl, inr, cond, Bool, true, false, pos, min, ℤ, List, [], ◌∷◌, ◌++◌, length, map, get_or, replicate, take, drop}
use Rattle.std.specs.Prelude.{◌&&◌, flat_map, nat_le, nat_lt, slice_index, sum}
use Rattle.std.specs.List.{range_with_len}
use Rattle.std.proofs.lemmas.Bool.{lt-leb, le-leb, lt-ltb, le-ltb}
use Rattle.std.proofs.lemmas.List.{get_or-map, get_or-replicate, length-map, length-replicate, take_more}
use Rattle.std.proofs.lemmas.List.FromFn.{fill_by_all, get_or-map-range_with_len, length-map-range_with_len}
use Rattle.std.proofs.lemmas.List.Sums.{sum_by-append, sum_by-cons}
use Rattle.hp_spmd.specs.MoveParts.{begins_of, most_counted}
use Rattle.hp_word.specs.LoopRules.{word_at}
use Rattle.hp_spmd.specs.Unpacks.{cell_round, part_at}
use Rattle.hp_spmd.proofs.HashLemmas.{flat_more}
use Rattle.hp_spmd.proofs.MoveLemmas.{part_still}

pub sum_first : (x : ℕ) (xs : List ℕ) → sum (x ∷ xs) ≡ x + sum xs
sum_first x xs = sum_by-cons (λ n. n) x xs

-- one more number in a sum
pub sum_more : (xs : List ℕ) (j : ℕ) → j < length xs → sum (take (j + 1) xs) ≡ sum (take j xs) + get_or xs j 0
sum_more xs j lt =
    let one : 0 + get_or xs j 0 ≡ get_or xs j 0 = omega arith in
    ap sum (take_more xs j 0 lt) ∙ sum_by-append (λ n. n) (take j xs) (get_or xs j 0 ∷ []) ∙ ap (λ n. sum (take j xs) + n) one

-- of some words, the part of the j-th length, by a begin and a count that stand still at the greatest
pub part_read : (f : ℕ → ℕ) (from : List ℕ) (j begin count : ℕ) (words : List ℤ) → j < length from → length words ≤ most_counted → begin ≡ min (sum (take j (map f from))) most_counted → count ≡ min (f (get_or from j 0)) most_counted
    → take count (drop begin words) ≡ part_at (map f from) j words
part_read f from j begin count words lt short b c =
    let same : f (get_or from j 0) ≡ slice_index (map f from) j = sym (get_or-map f from j 0 0 lt) in
    ap (λ n. take n (drop begin words)) (c ∙ ap (λ n. min n most_counted) same) ∙ ap (λ n. take (min (slice_index (map f from) j) most_counted) (drop n words)) b
    ∙ part_still words (sum (take j (map f from))) (slice_index (map f from) j) most_counted short

-- where the next part begins
pub next_begin : (f : ℕ → ℕ) (from : List ℕ) (j begin count next : ℕ) → j < length from → begin ≡ min (sum (take j (map f from))) most_counted → count ≡ min (f (get_or from j 0)) most_counted → next ≡ min (begin + count) most_counted
    → next ≡ min (sum (take (j + 1) (map f from))) most_counted
next_begin f from j begin count next lt b c n =
    let there : j < length (map f from) = omega (arith, lt, length-map from f) in
    let more = sum_more (map f from) j there in
    let same = get_or-map f from j 0 0 lt in
    omega (arith, b, c, n, more, same)

pub begins_count : (lengths : ℕ → List ℕ) (j messages : ℕ) (begins : List ℕ) → begins ≡ begins_of lengths j messages → length begins ≡ messages
begins_count lengths j messages begins h = ap length h ∙ length-map-range_with_len (λ r. min (sum (take j (lengths r))) most_counted) 0 messages

-- where the words of an array begin in a message
pub begin_at : (lengths : ℕ → List ℕ) (j messages sender : ℕ) (begins : List ℕ) → begins ≡ begins_of lengths j messages → sender < length begins → get_or begins sender 0 ≡ min (sum (take j (lengths sender))) most_counted
begin_at lengths j messages sender begins h lt =
    let f = λ (r : ℕ). min (sum (take j (lengths r))) most_counted in
    let there : sender < messages = omega (arith, lt, begins_count lengths j messages begins h) in
    ap (λ l. get_or l sender 0) h ∙ get_or-map-range_with_len f 0 messages sender sender 0 there (omega arith)

-- no words stand before the first array
pub no_begins : (lengths : ℕ → List ℕ) (messages : ℕ) (begins : List ℕ) → begins ≡ replicate messages 0 → begins ≡ begins_of lengths 0 messages
no_begins lengths messages begins h =
    h ∙ fill_by_all (λ r. min (sum (take 0 (lengths r))) most_counted) (replicate messages 0) messages 0 (length-replicate messages 0) (λ r l. get_or-replicate messages r 0 0 l)

-- one more part
pub part_more : {X : Type 0} (f : ℕ → List X) (k : ℕ) (made now part : List X) → made ≡ flat_map f (range_with_len 0 k) → now ≡ made ++ part → part ≡ f k → now ≡ flat_map f (range_with_len 0 (k + 1))
part_more f k made now part h e p = e ∙ ap (λ l. l ++ part) h ∙ ap (λ l. flat_map f (range_with_len 0 k) ++ l) p ∙ sym (flat_more f k)

-- the parts of all messages
pub parts_all : {X : Type 0} (f : ℕ → List X) (k n : ℕ) (made : List X) → made ≡ flat_map f (range_with_len 0 k) → k ≡ n → made ≡ flat_map f (range_with_len 0 n)
parts_all f k n made h e = h ∙ ap (λ n. flat_map f (range_with_len 0 n)) e

-- ---- halos

pub cell_outside : (reach len from place : ℕ) (cells : List ℤ) → (place < reach - from) ⊎ (len + reach ≤ from + place) → pos 0 ≡ cell_round reach len (from - reach) cells (from + place)
cell_outside reach len from place cells (inl h) = ap (λ b. cond (b && nat_lt (from + place) (len + reach)) (word_at cells ((from + place) - reach - (from - reach))) (pos 0)) (sym (lt-leb reach (from + place) (omega (arith, h))))
cell_outside reach len from place cells (inr h) =
    ap (λ b. cond b (word_at cells ((from + place) - reach - (from - reach))) (pos 0)) (sym (and_false (nat_le reach (from + place)) (nat_lt (from + place) (len + reach)) (le-ltb (from + place) (len + reach) h)))
  where
    and_false : (a b : Bool) → b ≡ false → (a && b) ≡ false
    and_false true b e = e
    and_false false b e = refl

pub cell_inside : (reach len from place : ℕ) (cells : List ℤ) → reach - from ≤ place → from + place < len + reach → word_at cells (place - (reach - from)) ≡ cell_round reach len (from - reach) cells (from + place)
cell_inside reach len from place cells low high =
    let same : place - (reach - from) ≡ (from + place) - reach - (from - reach) = omega (arith, low, high) in
    let low' : nat_le reach (from + place) ≡ true = le-leb reach (from + place) (omega (arith, low)) in
    let high' : nat_lt (from + place) (len + reach) ≡ true = lt-ltb (from + place) (len + reach) high in
    ap (word_at cells) same ∙ ap (λ b. cond b (word_at cells ((from + place) - reach - (from - reach))) (pos 0)) (sym (ap (λ b. b && nat_lt (from + place) (len + reach)) low' ∙ high'))
