-- Aggregates, step by step.
use Rattle.std.proofs.Common.{◌≡◌, ℕ, ◌+◌, ◌<◌, ℤ, Bool, List, [], ◌∷◌, ◌++◌, map, take, length, get_or, Option, Some, None, Err, sym, ap, ◌∙◌, arith}
use Rattle.std.specs.Prelude.{⊤}
use Rattle.std.proofs.lemmas.List.{get_or-map, length-map}
use Rattle.hp_word.specs.declared.order.Order.{Order}
use Rattle.hp_word.specs.declared.order.RowPlace.{RowPlace}
use Rattle.hp_word.specs.declared.place.Trap.{Trap}
use Rattle.hp_meaning.specs.declared.groups.Wanted.{Wanted}
use Rattle.hp_meaning.specs.declared.seen.Met.{Met}
use Rattle.hp_meaning.specs.declared.seen.Stop.{Stop}
use Rattle.hp_meaning.specs.declared.seen.Stop.TheVariants as stop
use Rattle.hp_meaning.specs.declared.value.Column.{Column}
use Rattle.hp_meaning.specs.declared.value.Value.{Value}
use Rattle.hp_meaning.specs.declared.value.Value.TheVariants.{Frame}
use Rattle.hp_meaning.specs.FrameRules.{Measured, column, cells_for, executed, measure_column, grouped_rows, grouped_keys}
use Rattle.hp_meaning.specs.HeldValues.{measured_in}
use Rattle.hp_meaning.specs.Outcomes.{Answer, Gives, Traps, Refuses, also, given, all_of, Is, ended, halted, stopped, Tells, ComesTo}
use Rattle.hp_word.specs.RowRules.{by_left, groups, measures_by_left, Taken, taken, order_taken}
use Rattle.hp_meaning.proofs.Answering.{also_halts, ended_gives, all_more, all_halts, all_none}

-- ---- the columns of the measures

-- the columns so far, behind the one of the keys
pub record HasMade (f : Measured → Answer Column) (wanted : List Wanted) (k : ℕ) (first : Column) (now : List Column) : Type 0 where
  pub made : List Column
  pub parts : now ≡ first ∷ made
  pub gives : all_of (map f (take k (map measured_in wanted))) ≡ Gives made

pub measures_none : (f : Measured → Answer Column) (wanted : List Wanted) (first : Column) (before now : List Column) → before ≡ [] → now ≡ before ++ first ∷ [] → HasMade f wanted 0 first now
measures_none f wanted first before now none e = record { made = []; parts = e ∙ ap (λ (l : List Column). l ++ first ∷ []) none; gives = all_none f (map measured_in wanted) }

at_next : (f : Measured → Answer Column) (wanted : List Wanted) (k : ℕ) (w : Wanted) → k < length wanted → w ≡ get_or wanted k w → f (get_or (map measured_in wanted) k (measured_in w)) ≡ f (measured_in w)
at_next f wanted k w lt is = ap f (get_or-map measured_in wanted k w (measured_in w) lt ∙ ap measured_in (sym is))

within : (wanted : List Wanted) (k : ℕ) → k < length wanted → k < length (map measured_in wanted)
within wanted k lt = omega (arith, length-map wanted measured_in)

pub measures_more : (f : Measured → Answer Column) (wanted : List Wanted) (k : ℕ) (w : Wanted) (first y : Column) (old now : List Column) → k < length wanted → w ≡ get_or wanted k w
    → HasMade f wanted k first old → f (measured_in w) ≡ Gives y → now ≡ old ++ y ∷ [] → HasMade f wanted (k + 1) first now
measures_more f wanted k w first y old now lt is h e n = record {
  made = h.made ++ y ∷ [];
  parts = n ∙ ap (λ (l : List Column). l ++ y ∷ []) h.parts;
  gives = all_more f (map measured_in wanted) k (measured_in w) h.made y (within wanted k lt) h.gives (at_next f wanted k w lt is ∙ e);
}

pub measures_stop : (key : List ℕ) (columns : List Column) (keys : List ℤ) (wanted : List Wanted) (places : List RowPlace) (k : ℕ) (w : Wanted) (first : Column) (old : List Column) (e : Stop)
    → k < length wanted → w ≡ get_or wanted k w → HasMade (measure_column columns keys places) wanted k first old → Tells (measure_column columns keys places (measured_in w)) (Err e)
    → Tells (grouped_rows key columns keys (map measured_in wanted) places) (Err e)
unfolding grouped_rows
measures_stop key columns keys wanted places k w first old e lt is h s = λ ne.
    let f : Measured → Answer Column = measure_column columns keys places in
    also_halts (all_of (map f (map measured_in wanted))) e (λ made. Gives (Frame (column key (by_left keys places) ∷ made)))
    (all_halts f (map measured_in wanted) k (measured_in w) h.made e (within wanted k lt) h.gives (at_next f wanted k w lt is ∙ s ne))

-- ---- no aggregate traps

abbrev NoTrap : {A : Type 0} → Answer A → Type 0
NoTrap (Gives a) = ⊤
NoTrap (Traps t) = ⊥
NoTrap Refuses = ⊤

also_none : {A B : Type 0} (a : Answer A) (more : A → Answer B) → NoTrap a → ((x : A) → NoTrap (more x)) → NoTrap (also a more)
also_none (Gives a) more h k = k a
also_none (Traps t) more h k = h
also_none Refuses more h k = tt

given_none : {A B : Type 0} (o : Option A) (f : A → B) → NoTrap (given o (λ x. Gives (f x)))
given_none (Some x) f = tt
given_none None f = tt

all_untrapped : {X A : Type 0} (f : X → Answer A) → ((x : X) → NoTrap (f x)) → (xs : List X) → NoTrap (all_of (map f xs))
unfolding all_of
all_untrapped f h [] = tt
all_untrapped f h (x ∷ xs) = also_none (f x) (λ y. also (all_of (map f xs)) (λ ys. Gives (y ∷ ys))) (h x) (λ y. also_none (all_of (map f xs)) (λ ys. Gives (y ∷ ys)) (all_untrapped f h xs) (λ ys. tt))

column_untrapped : (columns : List Column) (keys : List ℤ) (places : List RowPlace) (m : Measured) → NoTrap (measure_column columns keys places m)
unfolding measure_column
column_untrapped columns keys places m = given_none (cells_for m.kind m.of_it columns keys) (λ cells. column m.name (measures_by_left m.kind keys cells places))

rows_untrapped : (key : List ℕ) (columns : List Column) (keys : List ℤ) (measures : List Measured) (places : List RowPlace) → NoTrap (grouped_rows key columns keys measures places)
unfolding grouped_rows
rows_untrapped key columns keys measures places =
    also_none (all_of (map (measure_column columns keys places) measures)) (λ made. Gives (Frame (column key (by_left keys places) ∷ made)))
    (all_untrapped (measure_column columns keys places) (column_untrapped columns keys places) measures) (λ made. tt)

-- so it does not matter what was seen where one is refused
refused : (a : Answer Value) (e : Stop) (now before : Met) → NoTrap a → a ≡ halted e → ended a now ≡ stopped e before
unfolding halted stopped
refused a (stop.Trap t) now before h s = absurd (trapped a t h s)
  where
    trapped : (a : Answer Value) (t : Trap) → NoTrap a → a ≡ Traps t → ⊥
    trapped (Gives x) t h s = cc
    trapped (Traps u) t h s = h
    trapped Refuses t h s = cc
refused a stop.Wrong now before h s = ap (λ a. ended a now) s
refused a stop.NoMemory now before h s = ap (λ a. ended a now) s

-- ---- aggregates

grouped_is : (orders : List Order) (key : List ℕ) (columns : List Column) (measures : List Measured) (keys : List ℤ) (n : Met) (number : ℕ) (plain : List RowPlace) (order : Taken)
    → plain ≡ groups keys → number ≡ n.executed + 1 → order ≡ order_taken number orders plain
    → grouped_keys orders key columns measures keys n ≡ ended (grouped_rows key columns keys measures order.places) (executed order.is_bad n)
unfolding grouped_keys
grouped_is orders key columns measures keys n number plain order p m o =
    ap (λ (t : Taken). ended (grouped_rows key columns keys measures t.places) (executed t.is_bad n))
    (ap (order_taken (n.executed + 1) orders) (sym p) ∙ ap (λ (k : ℕ). order_taken k orders plain) (sym m) ∙ sym o)

pub grouped_stop : (orders : List Order) (key : List ℕ) (columns : List Column) (measures : List Measured) (keys : List ℤ) (n : Met) (number : ℕ) (plain places : List RowPlace) (is_bad : Bool) (e : Stop)
    → plain ≡ groups keys → number ≡ n.executed + 1 → taken places is_bad ≡ order_taken number orders plain
    → Tells (grouped_rows key columns keys measures places) (Err e) → ComesTo (grouped_keys orders key columns measures keys n) (Err e) n
grouped_stop orders key columns measures keys n number plain places is_bad e p m o s = λ ne.
    grouped_is orders key columns measures keys n number plain (taken places is_bad) p m o
    ∙ refused (grouped_rows key columns keys measures places) e (executed is_bad n) n (rows_untrapped key columns keys measures places) (s ne)

pub grouped_made : (orders : List Order) (key : List ℕ) (columns : List Column) (measures : List Measured) (keys : List ℤ) (n now : Met) (number : ℕ) (plain places : List RowPlace) (is_bad : Bool) (made : Value)
    → plain ≡ groups keys → number ≡ n.executed + 1 → taken places is_bad ≡ order_taken number orders plain
    → grouped_rows key columns keys measures places ≡ Gives made → now ≡ executed is_bad n → grouped_keys orders key columns measures keys n ≡ Is made now
grouped_made orders key columns measures keys n now number plain places is_bad made p m o s e =
    grouped_is orders key columns measures keys n number plain (taken places is_bad) p m o
    ∙ ended_gives (grouped_rows key columns keys measures places) made (executed is_bad n) s ∙ ap (Is made) (sym e)
