-- How often places stand in a list, place by place, and what that says of an order.
use Rattle.std.proofs.Common.{◌≡◌, ℕ, ◌+◌, ◌<◌, Bool, true, false, cond, if◌then◌else◌, List, [], ◌∷◌, length, take, get_or, refl, sym, ap, ◌∙◌, arith}
use Rattle.std.specs.Prelude.{◌==◌, ◌&&◌, ◌||◌, nat_lt}
use Rattle.std.specs.List.{list_any, list_all}
use Rattle.std.proofs.lemmas.List.Sums.{count_by_more_yes, count_by_more_no, sum_by-cons}
use Rattle.hp_word.specs.declared.order.RowPlace.{RowPlace}
use Rattle.hp_word.specs.RowRules.{is_place, times_in, is_order}
use Rattle.hp_meaning.specs.declared.places.PlaceCounts.{PlaceCounts}
use Rattle.hp_meaning.specs.PlaceCounts.{times_held, CountsOf, AddsPlace}

same_place : (p q : RowPlace) → is_place p q ≡ is_place q p
same_place p q = grind arith

-- one more place is counted
pub counted_more : (p : RowPlace) (places : List RowPlace) (i : ℕ) (d : RowPlace) (old new : PlaceCounts) → i < length places → AddsPlace (get_or places i d) old new
    → times_held old p ≡ times_in (take i places) p → times_held new p ≡ times_in (take (i + 1) places) p
counted_more p places i d old new lt adds kept = adds p ∙ by (is_place (get_or places i d) p) refl
  where
    here : (b : Bool) → is_place (get_or places i d) p ≡ b → is_place p (get_or places i d) ≡ b
    here b e = same_place p (get_or places i d) ∙ e

    by : (b : Bool) → is_place (get_or places i d) p ≡ b → (if b then times_held old p + 1 else times_held old p) ≡ times_in (take (i + 1) places) p
    by true e = ap (λ (n : ℕ). n + 1) kept ∙ sym (count_by_more_yes (is_place p) places i d lt (here true e))
    by false e = kept ∙ sym (count_by_more_no (is_place p) places i d lt (here false e))

-- ---- orders

any_more : (b : Bool) (n : ℕ) → nat_lt 0 (cond b 1 0 + n) ≡ (b || nat_lt 0 n)
any_more true n = grind arith
any_more false n = ap (nat_lt 0) (omega arith)

-- a place stands in a list that has it at least once
any_counted : (p : RowPlace) (places : List RowPlace) → nat_lt 0 (times_in places p) ≡ list_any (is_place p) places
any_counted p [] = refl
any_counted p (q ∷ places) =
    ap (nat_lt 0) (sum_by-cons (λ q. cond (is_place p q) 1 0) q places)
    ∙ any_more (is_place p q) (times_in places p)
    ∙ ap (λ (b : Bool). is_place p q || b) (any_counted p places)

pub order_counted : (plain places : List RowPlace) (first second : PlaceCounts) → CountsOf plain first → CountsOf places second
    → (list_all (λ p. times_held second p == 1) plain && list_all (λ p. nat_lt 0 (times_held first p)) places) ≡ is_order plain places
unfolding is_order
order_counted plain places first second all given =
    λ j. list_all (λ p. given p j == 1) plain && list_all (λ p. (ap (nat_lt 0) (all p) ∙ any_counted p plain) j) places

-- both tests are made, or the first one fails
pub once_and : (a b r : Bool) → a ≡ true → r ≡ b → r ≡ (a && b)
once_and true b r e is = is
once_and false b r e is = cc

pub not_once : (a b r : Bool) → a ≡ false → r ≡ false → r ≡ (a && b)
not_once true b r e is = cc
not_once false b r e is = is
