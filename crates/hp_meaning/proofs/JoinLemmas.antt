-- The rows that a join pairs and an aggregate groups, by places that count from 1, and joins step by step.
use Rattle.std.proofs.Common.{◌≡◌, Ok, Err, ℕ, ◌+◌, ◌<◌, ◌≤◌, ℤ, Bool, true, false, if◌then◌else◌, List, [], ◌∷◌, ◌++◌, map, length, refl, sym, ap, ◌∙◌, arith}
use Rattle.std.specs.Prelude.{nat_le, Result, IfOk, IfErr}
use Rattle.std.specs.Ordering.{int_eq}
use Rattle.std.proofs.lemmas.Bool.{le-leb, lt-leb}
use Rattle.std.proofs.lemmas.List.{length-map, map-append}
use Rattle.hp_word.specs.declared.order.Order.{Order}
use Rattle.hp_word.specs.declared.order.RowPlace.{RowPlace}
use Rattle.hp_word.specs.declared.place.Place.{Place}
use Rattle.hp_word.specs.declared.place.TrapKind.TheVariants.{TooLong}
use Rattle.hp_word.specs.Lengths.{trap, longest}
use Rattle.hp_word.specs.RowRules.{row_place, matches_of, pairs, pairs_from, pairs_from_0, join_pairs, has, firsts_from, firsts_from_0, groups, Taken, taken, order_taken}
use Rattle.hp_meaning.specs.declared.seen.Met.{Met}
use Rattle.hp_meaning.specs.declared.seen.Stop.{Stop}
use Rattle.hp_meaning.specs.declared.seen.Stop.TheVariants as stop
use Rattle.hp_meaning.specs.declared.value.Column.{Column}
use Rattle.hp_meaning.specs.declared.value.Value.TheVariants.{Frame}
use Rattle.hp_meaning.specs.FrameRules.{executed, in_order, joined_rows, joined_keys}
use Rattle.hp_meaning.specs.KeyedRows.{next_place, first_place}
use Rattle.hp_meaning.specs.Outcomes.{Gives, Traps, Is, told, ended, Tells, ComesTo}
use Rattle.hp_meaning.proofs.Answering.{yes_of, no_of, followed_is, followed_stops, ended_gives, ended_halts}

-- ---- places that count from 1

mapped_if : (i j : ℕ) (b : Bool) (xs ys : List RowPlace) → map next_place xs ≡ ys → map next_place (if b then row_place i j ∷ xs else xs) ≡ (if b then row_place (i + 1) (j + 1) ∷ ys else ys)
mapped_if i j true xs ys e = ap (λ (l : List RowPlace). row_place (i + 1) (j + 1) ∷ l) e
mapped_if i j false xs ys e = e

next_matches : (i j : ℕ) (x : ℤ) (ys : List ℤ) → map next_place (matches_of i x j ys) ≡ matches_of (i + 1) x (j + 1) ys
unfolding matches_of
next_matches i j x [] = refl
next_matches i j x (y ∷ ys) = mapped_if i j (int_eq x y) (matches_of i x (j + 1) ys) (matches_of (i + 1) x (j + 1 + 1) ys) (next_matches i (j + 1) x ys)

next_pairs : (i j : ℕ) (left right : List ℤ) → map next_place (pairs_from i j left right) ≡ pairs_from (i + 1) (j + 1) left right
unfolding pairs_from
next_pairs i j [] right = refl
next_pairs i j (x ∷ left) right =
    map-append next_place (matches_of i x j right) (pairs_from (i + 1) j left right)
    ∙ (λ k. next_matches i j x right k ++ next_pairs (i + 1) j left right k)

pub pairs_made : (at : Place) (left right : List ℤ) (found made : List RowPlace) → found ≡ pairs_from_0 left right → length (pairs_from_0 left right) ≤ longest → made ≡ map next_place found
    → told (join_pairs at left right) ≡ Gives made
unfolding join_pairs
pairs_made at left right found made f few m =
    let whole : made ≡ pairs left right = m ∙ ap (map next_place) f ∙ next_pairs 0 0 left right in
    let fits : length (pairs left right) ≤ longest = omega (arith, few, length-map (pairs_from_0 left right) next_place, ap length (next_pairs 0 0 left right)) in
    ap told (yes_of (nat_le (length (pairs left right)) longest) (Ok (pairs left right)) (Err (trap at TooLong)) (sym (le-leb (length (pairs left right)) longest fits)))
    ∙ ap Gives (sym whole)

-- what the pairs by places from 1 tell, where the places were made or memory was refused
pub pairs_told : (at : Place) (left right : List ℤ) (found : List RowPlace) (r : Result (List RowPlace) Stop) → found ≡ pairs_from_0 left right → length (pairs_from_0 left right) ≤ longest
    → IfOk r (λ made. made ≡ map next_place found) → IfErr r (λ e. e ≡ stop.NoMemory) → Tells (told (join_pairs at left right)) r
pairs_told at left right found (Ok made) f few ok err = pairs_made at left right found made f few ok
pairs_told at left right found (Err e) f few ok err = λ ne. absurd (ne err)

pub pairs_many : (at : Place) (left right : List ℤ) → longest < length (pairs_from_0 left right) → told (join_pairs at left right) ≡ Traps (trap at TooLong)
unfolding join_pairs
pairs_many at left right many =
    let more : longest < length (pairs left right) = omega (arith, many, length-map (pairs_from_0 left right) next_place, ap length (next_pairs 0 0 left right)) in
    ap told (no_of (nat_le (length (pairs left right)) longest) (Ok (pairs left right)) (Err (trap at TooLong)) (sym (lt-leb (length (pairs left right)) longest more)))

-- ---- joins

pub joined_stop : (orders : List Order) (at : Place) (key : List ℕ) (left right : List Column) (left_keys right_keys : List ℤ) (n : Met) (e : Stop)
    → Tells (told (join_pairs at left_keys right_keys)) (Err e) → ComesTo (joined_keys orders at key left right left_keys right_keys n) (Err e) n
unfolding joined_keys
joined_stop orders at key left right left_keys right_keys n e s = λ ne.
    followed_stops (ended (told (join_pairs at left_keys right_keys)) n) e n (λ plain n. in_order (order_taken (n.executed + 1) orders plain) (joined_rows key left right) n)
    (ended_halts (told (join_pairs at left_keys right_keys)) e n (s ne))

pub joined_made : (orders : List Order) (at : Place) (key : List ℕ) (left right : List Column) (left_keys right_keys : List ℤ) (n now : Met) (number : ℕ) (plain places : List RowPlace) (is_bad : Bool) (made : List Column)
    → told (join_pairs at left_keys right_keys) ≡ Gives plain → number ≡ n.executed + 1 → taken places is_bad ≡ order_taken number orders plain
    → made ≡ joined_rows key left right places → now ≡ executed is_bad n → joined_keys orders at key left right left_keys right_keys n ≡ Is (Frame made) now
unfolding joined_keys
joined_made orders at key left right left_keys right_keys n now number plain places is_bad made p m o r e =
    let more = λ (plain : List RowPlace) (n : Met). in_order (order_taken (n.executed + 1) orders plain) (joined_rows key left right) n in
    followed_is (ended (told (join_pairs at left_keys right_keys)) n) plain n more (ended_gives (told (join_pairs at left_keys right_keys)) plain n p)
    ∙ ap (λ (t : Taken). in_order t (joined_rows key left right) n) (ap (λ (k : ℕ). order_taken k orders plain) (sym m) ∙ sym o)
    ∙ ap (λ (cs : List Column). Is (Frame cs) (executed is_bad n)) (sym r) ∙ ap (Is (Frame made)) (sym e)

-- ---- groups

next_firsts : (i : ℕ) (before keys : List ℤ) → map first_place (firsts_from i before keys) ≡ map (λ first. row_place first 0) (firsts_from (i + 1) before keys)
unfolding firsts_from
next_firsts i before [] = refl
next_firsts i before (x ∷ keys) = by (has before x) (next_firsts (i + 1) before keys) (next_firsts (i + 1) (before ++ x ∷ []) keys)
  where
    by : (b : Bool)
        → map first_place (firsts_from (i + 1) before keys) ≡ map (λ first. row_place first 0) (firsts_from (i + 1 + 1) before keys)
        → map first_place (firsts_from (i + 1) (before ++ x ∷ []) keys) ≡ map (λ first. row_place first 0) (firsts_from (i + 1 + 1) (before ++ x ∷ []) keys)
        → map first_place (if b then firsts_from (i + 1) before keys else i ∷ firsts_from (i + 1) (before ++ x ∷ []) keys)
        ≡ map (λ first. row_place first 0) (if b then firsts_from (i + 1 + 1) before keys else (i + 1) ∷ firsts_from (i + 1 + 1) (before ++ x ∷ []) keys)
    by true p q = p
    by false p q = ap (λ (l : List RowPlace). row_place (i + 1) 0 ∷ l) q

groups_made : (keys : List ℤ) (found : List ℕ) (made : List RowPlace) → found ≡ firsts_from_0 keys → made ≡ map first_place found → made ≡ groups keys
groups_made keys found made f m = m ∙ ap (map first_place) f ∙ next_firsts 0 [] keys

pub groups_told : (keys : List ℤ) (found : List ℕ) (r : Result (List RowPlace) Stop) → found ≡ firsts_from_0 keys → IfOk r (λ made. made ≡ map first_place found) → IfOk r (λ made. made ≡ groups keys)
groups_told keys found (Ok made) f ok = groups_made keys found made f ok
groups_told keys found (Err e) f ok = ok
