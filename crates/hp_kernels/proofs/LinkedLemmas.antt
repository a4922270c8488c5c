-- Rows that are linked: as they are linked, from the last row to the first, and as they are paired, from the first on.
use Rattle.std.proofs.Common.{◌≡◌, ℕ, suc, ◌+◌, ◌-◌, ◌<◌, ◌≤◌, ℤ, pos, false, if◌then◌else◌, List, [], ◌∷◌, ◌++◌, length, map, set, get_or, drop, Option, None, Some, refl, sym, ap, ◌∙◌, subst, inl, inr, arith, append-nil, length-append}
use Rattle.std.specs.Ordering.{int_eq}
use Rattle.std.proofs.lemmas.Bool.{cases_Bool}
use Rattle.std.proofs.lemmas.Cmp.{int_eq_equiv}
use Rattle.std.proofs.lemmas.Bool.Decides.{Decides-int_eq}
use Rattle.std.proofs.lemmas.List.{get_or-set_same, get_or-set_other, length-set}
use Rattle.indexmap.specs.IndexMap.{get}
use Rattle.hp_word.specs.declared.order.RowPlace.{RowPlace}
use Rattle.hp_word.specs.RowRules.{row_place, matches_of}
use Rattle.hp_kernels.specs.declared.key_rows.KeyRows.{KeyRows}
use Rattle.hp_kernels.specs.KeyRows.{rows_from, rows_with, Linked, HasRowsOf, AddsRow}
use Rattle.hp_kernels.proofs.RowLemmas.{yes_of, no_of, one_made, rows_next, rows_none}
use Rattle.hp_kernels.proofs.PairLemmas.{matches_are}

-- ---- what becomes of linked rows

-- a link before them all may change
linked_kept : (next : List (Option ℕ)) (from place : ℕ) (v : Option ℕ) (rows : List ℕ) (first : Option ℕ) → place < from → Linked next from rows first → Linked (set next place v) from rows first
unfolding Linked
linked_kept next from place v [] first before is = is
linked_kept next from place v (row ∷ rows) first before is =
    let behind : from ≤ row = is.1 in
    let further : place < row + 1 = omega arith in
    let other : get_or (set next place v) row None ≡ get_or next row None = get_or-set_other next place row v None (λ (e : row ≡ place). absurd (omega arith)) in (
      is.0,
      is.1,
      subst (λ n. row < n) (sym (length-set next place v)) is.2,
      subst (Linked (set next place v) (row + 1) rows) (sym other) (linked_kept next (row + 1) place v rows _ further is.3),
    )

linked_sooner : (next : List (Option ℕ)) (from place : ℕ) (rows : List ℕ) (first : Option ℕ) → place ≤ from → Linked next from rows first → Linked next place rows first
unfolding Linked
linked_sooner next from place [] first less is = is
linked_sooner next from place (row ∷ rows) first less is =
    let behind : from ≤ row = is.1 in
    (is.0, omega arith, is.2, is.3)

linked_none : (next : List (Option ℕ)) (from : ℕ) (rows : List ℕ) (first : Option ℕ) → rows ≡ [] → first ≡ None → Linked next from rows first
unfolding Linked
linked_none next from rows first none is = subst (λ (l : List ℕ). Linked next from l first) (sym none) is

linked_more : (next : List (Option ℕ)) (row : ℕ) (rows all : List ℕ) (first : Option ℕ) → all ≡ row ∷ rows → first ≡ Some row → row < length next → Linked next (row + 1) rows (get_or next row None) → Linked next row all first
unfolding Linked
linked_more next row rows all first a is within behind = subst (λ (l : List ℕ). Linked next row l first) (sym a) (is, omega arith, within, behind)

-- ---- the rows of each key from a place on

pub record Linking (column : List ℤ) (from : ℕ) (it : KeyRows) : Type 0 where
  pub as_long : length it.next.items ≡ length column
  pub within : from ≤ length column
  pub linked : (k : ℤ) → Linked it.next.items from (rows_from from k (drop from column)) (get int_eq it.first k)

pub linking_starts : (column : List ℤ) (from : ℕ) (it : KeyRows) → from ≡ length column → length it.next.items ≡ length column → ((k : ℤ) → get int_eq it.first k ≡ None) → Linking column from it
linking_starts column from it end long none =
    let past : length column ≤ from = omega (arith, end) in
    record {
      as_long = long;
      within = omega (arith, end);
      linked = λ k. linked_none it.next.items from _ _ (rows_none k column from past) (none k);
    }

pub linking_more : (column : List ℤ) (from row : ℕ) (x : ℤ) (it now : KeyRows) → Linking column from it → row + 1 ≡ from → x ≡ get_or column row (pos 0) → AddsRow x row it now → Linking column row now
linking_more column from row x it now h before e adds =
    let within : row < length column = omega (arith, h.within, before) in
    let old : List (Option ℕ) = it.next.items in
    let links : List (Option ℕ) = set old row (get int_eq it.first x) in
    let long : length links ≡ length column = length-set old row _ ∙ h.as_long in
    let room : row < length links = omega (arith, long, within) in
    let there : row < length old = omega (arith, h.as_long, within) in
    let next_is : (k : ℤ) → rows_from row k (drop row column) ≡ (if int_eq k x then row ∷ rows_from (row + 1) k (drop (row + 1) column) else rows_from (row + 1) k (drop (row + 1) column)) =
    λ k. rows_next k column row within ∙ ap (λ (y : ℤ). if int_eq k y then row ∷ rows_from (row + 1) k (drop (row + 1) column) else rows_from (row + 1) k (drop (row + 1) column)) (sym e) in
    let behind : (k : ℤ) → Linked links (row + 1) (rows_from (row + 1) k (drop (row + 1) column)) (get int_eq it.first k) =
    λ k. linked_kept old (row + 1) row _ _ _ (omega arith) (subst (λ (n : ℕ). Linked old n (rows_from n k (drop n column)) (get int_eq it.first k)) (sym before) (h.linked k)) in
    let one : (k : ℤ) → Linked links row (rows_from row k (drop row column)) (get int_eq now.first k) = λ k. elim (cases_Bool (int_eq x k)) [
      | inl same ↦
          let is : x ≡ k = (Decides-int_eq x k).0 same in
          linked_more links row (rows_from (row + 1) k (drop (row + 1) column)) _ _
          (next_is k ∙ yes_of (int_eq k x) _ _ (sym ((Decides-int_eq k x).1 (sym is))))
          (adds.1 k ∙ yes_of (int_eq x k) _ _ (sym same)) room
          (subst (Linked links (row + 1) (rows_from (row + 1) k (drop (row + 1) column))) (sym (get_or-set_same old row _ None there ∙ ap (λ (y : ℤ). get int_eq it.first y) is)) (behind k))
      | inr other ↦
          let apart : int_eq k x ≡ false = turned k x other in
          subst (λ (l : List ℕ). Linked links row l (get int_eq now.first k)) (sym (next_is k ∙ no_of (int_eq k x) _ _ (sym apart)))
          (subst (Linked links row (rows_from (row + 1) k (drop (row + 1) column))) (sym (adds.1 k ∙ no_of (int_eq x k) _ _ (sym other)))
          (linked_sooner links (row + 1) row _ _ (omega arith) (behind k)))
    ] in
    record {
      as_long = ap length adds.0 ∙ long;
      within = omega (arith, within);
      linked = λ k. subst (λ (l : List (Option ℕ)). Linked l row (rows_from row k (drop row column)) (get int_eq now.first k)) (sym adds.0) (one k);
    }
  where
    turned : (k y : ℤ) → int_eq y k ≡ false → int_eq k y ≡ false
    turned k y other = int_eq_equiv.symm k y ∙ other

pub linking_ends : (column : List ℤ) (from : ℕ) (it : KeyRows) → Linking column from it → from ≤ 0 → HasRowsOf column it
linking_ends column from it h none =
    let start : from ≡ 0 = omega (arith, none) in
    λ k. subst (λ (n : ℕ). Linked it.next.items n (rows_from n k (drop n column)) (get int_eq it.first k)) start (h.linked k)

-- ---- the pairs of a left row

-- what stands behind the pairs so far are those with the rows that are still linked
pub record Pairing (next : List (Option ℕ)) (left : ℕ) (all now : List RowPlace) (first : Option ℕ) : Type 0 where
  pub from : ℕ
  pub rest : List ℕ
  pub linked : Linked next from rest first
  pub kept : now ++ map (row_place left) rest ≡ all

-- how far it is from the next row to the end
abbrev pub rest_of : ℕ → Option ℕ → ℕ
rest_of n None = 0
rest_of n (Some row) = n - row

pub pairing_starts : (column : List ℤ) (it : KeyRows) (left : ℕ) (key : ℤ) (old : List RowPlace) (first : Option ℕ) → HasRowsOf column it → first ≡ get int_eq it.first key
    → Pairing it.next.items left (old ++ matches_of left key 0 column) old first
pairing_starts column it left key old first h e = record {
  from = 0;
  rest = rows_with key column;
  linked = subst (Linked it.next.items 0 (rows_with key column)) (sym e) (h key);
  kept = ap (λ (l : List RowPlace). old ++ l) (matches_are left key 0 column);
}

-- what is known at a row that is still linked
record Here (next : List (Option ℕ)) (left : ℕ) (all now : List RowPlace) (row : ℕ) : Type 0 where
  within : row < length next
  behind : List ℕ
  linked : Linked next (row + 1) behind (get_or next row None)
  kept : now ++ row_place left row ∷ map (row_place left) behind ≡ all

here : (next : List (Option ℕ)) (left : ℕ) (all now : List RowPlace) (row from : ℕ) (rest : List ℕ) (first : Option ℕ) → Linked next from rest first → now ++ map (row_place left) rest ≡ all → first ≡ Some row → Here next left all now row
unfolding Linked
here next left all now row from [] first is kept some = absurd (no_row (sym is ∙ some))
  where
    no_row : None ≡ Some row → ⊥
    no_row e = cc
here next left all now row from (r ∷ rest) first is kept some =
    let same : r ≡ row = same_row (sym is.0 ∙ some) in
    subst (λ (n : ℕ). Here next left all now n) same (record { within = is.2; behind = rest; linked = is.3; kept = kept })
  where
    same_row : Some r ≡ Some row → r ≡ row
    same_row e = cc

pub pairing_within : (next : List (Option ℕ)) (left : ℕ) (all now : List RowPlace) (first : Option ℕ) (row : ℕ) → Pairing next left all now first → first ≡ Some row → row < length next
pairing_within next left all now first row p some = (here next left all now row p.from p.rest first p.linked p.kept some).within

pub pairing_next : (next : List (Option ℕ)) (left : ℕ) (all now after : List RowPlace) (first following : Option ℕ) (row : ℕ) → Pairing next left all now first → first ≡ Some row → following ≡ get_or next row None → after ≡ now ++ row_place left row ∷ []
    → Pairing next left all after following
pairing_next next left all now after first following row p some t a =
    let h = here next left all now row p.from p.rest first p.linked p.kept some in
    record {
      from = row + 1;
      rest = h.behind;
      linked = subst (Linked next (row + 1) h.behind) (sym t) h.linked;
      kept = one_made now after (row_place left row ∷ map (row_place left) h.behind) (map (row_place left) h.behind) all (row_place left row) a refl h.kept;
    }

shorter : (next : List (Option ℕ)) (row : ℕ) (behind : List ℕ) (following : Option ℕ) → row < length next → Linked next (row + 1) behind following → rest_of (length next) following < length next - row
unfolding Linked
shorter next row behind None within is = omega arith
shorter next row [] (Some later) within is = absurd (no_row is)
  where
    no_row : Some later ≡ None → ⊥
    no_row e = cc
shorter next row (r ∷ rs) (Some later) within is =
    let same : later ≡ r = same_row is.0 in
    let further : row + 1 ≤ r = is.1 in
    let short : r < length next = is.2 in
    omega (arith, same, further, short)
  where
    same_row : Some later ≡ Some r → later ≡ r
    same_row e = cc

pub pairing_shortens : (next : List (Option ℕ)) (left : ℕ) (all now : List RowPlace) (first following : Option ℕ) (row : ℕ) → Pairing next left all now first → first ≡ Some row → following ≡ get_or next row None
    → rest_of (length next) following < length next - row
pairing_shortens next left all now first following row p some t =
    let h = here next left all now row p.from p.rest first p.linked p.kept some in
    rw t (shorter next row h.behind (get_or next row None) h.within h.linked)

pub pairing_many : (next : List (Option ℕ)) (left : ℕ) (old matches now : List RowPlace) (first : Option ℕ) (row most : ℕ) → Pairing next left (old ++ matches) now first → first ≡ Some row → most ≤ length now → most < length old + length matches
pairing_many next left old matches now first row most p some many =
    let h = here next left (old ++ matches) now row p.from p.rest first p.linked p.kept some in
    let whole : length now + suc (length (map (row_place left) h.behind)) ≡ length old + length matches =
    sym (length-append now (row_place left row ∷ map (row_place left) h.behind)) ∙ ap length h.kept ∙ length-append old matches in
    omega (arith, whole, many)

ended : (next : List (Option ℕ)) (left : ℕ) (all now : List RowPlace) (from : ℕ) (rest : List ℕ) (first : Option ℕ) → Linked next from rest first → now ++ map (row_place left) rest ≡ all → first ≡ None → now ≡ all
unfolding Linked
ended next left all now from [] first is kept none = sym (append-nil now) ∙ kept
ended next left all now from (r ∷ rest) first is kept none = absurd (no_row (sym is.0 ∙ none))
  where
    no_row : Some r ≡ None → ⊥
    no_row e = cc

pub pairing_ends : (next : List (Option ℕ)) (left : ℕ) (all now : List RowPlace) (first : Option ℕ) → Pairing next left all now first → first ≡ None → now ≡ all
pairing_ends next left all now first p none = ended next left all now p.from p.rest first p.linked p.kept none

pub none_left : (o : Option ℕ) → ((x : ℕ) → o ≡ Some x → ⊥) → o ≡ None
none_left None not_some = refl
none_left (Some x) not_some = absurd (not_some x refl)
