-- The places that an aggregate takes are of its rows, and each has the measure of its group.
use Rattle.std.proofs.Common.{◌≡◌, ℕ, zero, suc, ◌+◌, ◌-◌, ◌<◌, ◌≤◌, ℤ, pos, Bool, true, false, if◌then◌else◌, List, [], ◌∷◌, ◌++◌, map, take, length, get_or, Option, Some, None, refl, sym, ap, subst, ◌∙◌, arith}
use Rattle.std.specs.Prelude.{◌==◌, ◌&&◌, ◌||◌}
use Rattle.std.specs.List.{list_any, list_all}
use Rattle.std.proofs.lemmas.List.{get_or-map, length-map, map-append, take_more}
use Rattle.std.proofs.lemmas.Bool.{eqb-true}
use Rattle.hp_word.specs.declared.order.Order.{Order}
use Rattle.hp_word.specs.declared.order.RowPlace.{RowPlace}
use Rattle.hp_word.specs.declared.table.MeasureKind.{MeasureKind}
use Rattle.hp_word.specs.RowRules.{row_place, cell_of, has, firsts_from, groups, group_keys, measured, measures_by_left, is_place, times_in, is_order, Taken, taken, taken_of, order_named, order_taken}
use Rattle.hp_script.proofs.TestLemmas.{and_left, and_right}
use Rattle.hp_kernels.specs.declared.groups.Groups.{Groups}
use Rattle.hp_kernels.specs.Grouping.{AreGroupsOf}
use Rattle.hp_kernels.proofs.GroupLemmas.{number_in}
use Rattle.hp_kernels.proofs.MeasureLemmas.{row_number, number_below, all_numbered, group_key}
use Rattle.hp_meaning.specs.KeyedRows.{AreRows}

-- ---- first places

no_rows : (keys : List ℤ) (i : ℕ) (d : RowPlace) → i < 0 → d.left - 1 < length keys
no_rows keys i d lt = absurd (omega arith)

a_row : (keys : List ℤ) (p : RowPlace) (places : List RowPlace) → p.left - 1 < length keys → AreRows keys places → (i : ℕ) (d : RowPlace) → i < suc (length places) → (get_or (p ∷ places) i d).left - 1 < length keys
a_row keys p places here rest zero d lt = here
a_row keys p places here rest (suc i) d lt = rest i d (omega arith)

firsts_are_rows : (all : List ℤ) (i : ℕ) (before keys : List ℤ) → i + length keys ≤ length all → AreRows all (map (λ first. row_place first 0) (firsts_from (i + 1) before keys))
unfolding firsts_from
firsts_are_rows all i before [] le = no_rows all
firsts_are_rows all i before (x ∷ keys) le = by (has before x) (λ known. firsts_are_rows all (i + 1) known keys (omega arith))
  where
    by : (b : Bool) → ((known : List ℤ) → AreRows all (map (λ first. row_place first 0) (firsts_from (i + 1 + 1) known keys)))
        → AreRows all (map (λ first. row_place first 0) (if b then firsts_from (i + 1 + 1) before keys else (i + 1) ∷ firsts_from (i + 1 + 1) (before ++ x ∷ []) keys))
    by true rest = rest before
    by false rest = a_row all (row_place (i + 1) 0) (map (λ first. row_place first 0) (firsts_from (i + 1 + 1) (before ++ x ∷ []) keys)) (omega arith) (rest (before ++ x ∷ []))

groups_are_rows : (keys : List ℤ) → AreRows keys (groups keys)
groups_are_rows keys = firsts_are_rows keys 0 [] keys (omega arith)

-- ---- orders

same_left : (p q : RowPlace) → is_place p q ≡ true → p.left ≡ q.left
same_left p q e = eqb-true p.left q.left (and_left (p.left == q.left) (p.right == q.right) e)

among_rows : (keys : List ℤ) (p : RowPlace) (plain : List RowPlace) → AreRows keys plain → list_any (is_place p) plain ≡ true → p.left - 1 < length keys
among_rows keys p [] rows e = absurd cc
among_rows keys p (q ∷ plain) rows e = by (is_place p q) (among_rows keys p plain (λ i d lt. rows (suc i) d (omega arith))) refl e
  where
    by : (b : Bool) → (list_any (is_place p) plain ≡ true → p.left - 1 < length keys) → is_place p q ≡ b → (b || list_any (is_place p) plain) ≡ true → p.left - 1 < length keys
    by true rest here e = subst (λ n. n - 1 < length keys) (sym (same_left p q here)) (rows zero q (omega arith))
    by false rest here e = rest e

all_rows : (keys : List ℤ) (plain places : List RowPlace) → AreRows keys plain → list_all (λ p. list_any (is_place p) plain) places ≡ true → AreRows keys places
all_rows keys plain [] rows e = no_rows keys
all_rows keys plain (p ∷ places) rows e =
    let rest : Bool = list_all (λ p. list_any (is_place p) plain) places in
    a_row keys p places (among_rows keys p plain rows (and_left (list_any (is_place p) plain) rest e)) (all_rows keys plain places rows (and_right (list_any (is_place p) plain) rest e))

taken_rows : (keys : List ℤ) (plain : List RowPlace) (found : Option Order) → AreRows keys plain → AreRows keys (taken_of plain found).places
unfolding is_order
taken_rows keys plain None rows = rows
taken_rows keys plain (Some order) rows = by (is_order plain order.places) refl
  where
    by : (b : Bool) → is_order plain order.places ≡ b → AreRows keys (if b then taken order.places false else taken plain true).places
    by true e = all_rows keys plain order.places rows (and_right (list_all (λ p. times_in order.places p == 1) plain) (list_all (λ p. list_any (is_place p) plain) order.places) e)
    by false e = rows

pub order_rows : (keys : List ℤ) (number : ℕ) (orders : List Order) (places : List RowPlace) (is_bad : Bool) → taken places is_bad ≡ order_taken number orders (groups keys) → AreRows keys places
unfolding order_taken
order_rows keys number orders places is_bad e = subst (λ (t : Taken). AreRows keys t.places) (sym e) (taken_rows keys (groups keys) (order_named number orders) (groups_are_rows keys))

-- ---- measures

-- the row of a place has a group, and the group a measure
pub row_numbered : (keys : List ℤ) (groups : Groups) (places : List RowPlace) (i row : ℕ) (d : RowPlace) → AreGroupsOf keys groups → AreRows keys places → i < length places → row ≡ (get_or places i d).left - 1
    → row < length groups.group_of.items
row_numbered keys groups places i row d are rows lt e = omega (arith, e, rows i d lt, all_numbered keys groups are)

pub group_measured : (kind : MeasureKind) (keys cells : List ℤ) (groups : Groups) (places : List RowPlace) (i row group none : ℕ) (d : RowPlace) (all : List ℤ) → AreGroupsOf keys groups → AreRows keys places → i < length places
    → all ≡ map (measured kind keys cells) (group_keys keys) → row ≡ (get_or places i d).left - 1 → group ≡ get_or groups.group_of.items row none → group < length all
group_measured kind keys cells groups places i row group none d all are rows lt whole e g =
    let at_row : row < length keys = omega (arith, e, rows i d lt) in
    omega (arith, g, row_number keys groups row none are at_row, number_below keys row at_row, ap length whole, length-map (group_keys keys) (measured kind keys cells))

pub measure_more : (kind : MeasureKind) (keys cells : List ℤ) (groups : Groups) (places : List RowPlace) (i row group none : ℕ) (d : RowPlace) (all made now : List ℤ) (y : ℤ) → AreGroupsOf keys groups → AreRows keys places → i < length places
    → all ≡ map (measured kind keys cells) (group_keys keys) → row ≡ (get_or places i d).left - 1 → group ≡ get_or groups.group_of.items row none → y ≡ get_or all group (pos 0)
    → made ≡ measures_by_left kind keys cells (take i places) → now ≡ made ++ y ∷ [] → now ≡ measures_by_left kind keys cells (take (i + 1) places)
unfolding measures_by_left
measure_more kind keys cells groups places i row group none d all made now y are rows lt whole e g is m n =
    let at_row : row < length keys = omega (arith, e, rows i d lt) in
    let one : RowPlace → ℤ = λ p. measured kind keys cells (cell_of keys p.left) in
    let value : y ≡ one (get_or places i d) =
    is ∙ (λ j. get_or (whole j) ((g ∙ row_number keys groups row none are at_row) j) (pos 0))
    ∙ get_or-map (measured kind keys cells) (group_keys keys) (number_in (group_keys keys) (get_or keys row (pos 0))) (pos 0) (pos 0) (number_below keys row at_row)
    ∙ ap (measured kind keys cells) (group_key keys row at_row ∙ ap (λ (r : ℕ). get_or keys r (pos 0)) e) in
    n ∙ (λ j. m j ++ value j ∷ [])
    ∙ sym (map-append one (take i places) (get_or places i d ∷ []))
    ∙ sym (ap (map one) (take_more places i d lt))
