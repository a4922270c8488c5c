-- Chains of constraints by an unknown: how they are made, and what a walk along one has met.
use Rattle.std.proofs.Common.{◌≡◌, ℕ, zero, suc, ◌+◌, ◌-◌, ◌<◌, ◌≤◌, Bool, true, false, not, ◌||◌, ◌&&◌, cond, eqb, ltb, List, [], ◌∷◌, ◌++◌, length, set, get_or, replicate, Option, None, Some, refl, sym, ap, ◌∙◌, subst, inl, inr, arith}
use Rattle.std.specs.List.{range_with_len, slice_get}
use Rattle.std.proofs.lemmas.Bool.{cases_Bool, cases_lt, cases_eq, cond-true, cond-false, eq-eqb, ne_eqb, eqb-true, lt-ltb, le-ltb}
use Rattle.std.proofs.lemmas.List.{drop_more, drop_all, get_or-set_same, get_or-set_other, length-set, length-replicate, get_or-replicate}
use Rattle.hp_links.specs.Boards.{is_in, without}
use Rattle.hp_links.proofs.LinkLemmas.{in_push, in_without, not_in_without}
use Rattle.hp_air.specs.declared.constraint.Constraint.{Constraint}
use Rattle.hp_infer.specs.declared.system.Side.{Side}
use Rattle.hp_infer.specs.declared.system.Side.TheVariants.{Low, High}
use Rattle.hp_infer.specs.Systems.{constraint_at, end_of, first_naming, next_naming, names, AreWithin}

past : (a b : ℕ) → a ≤ b → (a ≡ b → ⊥) → a + 1 ≤ b
past a b low apart = elim (cases_lt a b) [ inl less ↦ omega arith | inr more ↦ absurd (apart (omega arith)) ]

-- whether the constraint at a place names the unknown
abbrev pub names_it : Side → ℕ → List Constraint → ℕ → Bool
names_it side u cs k = eqb u (end_of side (constraint_at cs k))

-- ---- the next that names an unknown

pub next_here : (side : Side) (u from : ℕ) (cs : List Constraint) → from < length cs → next_naming side u from cs ≡ cond (names_it side u cs from) (Some from) (next_naming side u (from + 1) cs)
unfolding first_naming
next_here side u from cs within = ap (first_naming side u from) (drop_more cs from _ within)

pub next_end : (side : Side) (u from : ℕ) (cs : List Constraint) → length cs ≤ from → next_naming side u from cs ≡ None
unfolding first_naming
next_end side u from cs past = ap (first_naming side u from) (drop_all from cs past)

-- the next is the first that names it
pub record IsNext (side : Side) (u from : ℕ) (cs : List Constraint) (at : ℕ) : Type 0 where
  pub within : at < length cs
  pub behind : from ≤ at
  pub it : names_it side u cs at ≡ true
  pub others : (k : ℕ) → from ≤ k → k < at → names_it side u cs k ≡ false

next_some : (n : ℕ) (side : Side) (u from : ℕ) (cs : List Constraint) (at : ℕ) → n + from ≡ length cs → next_naming side u from cs ≡ Some at → IsNext side u from cs at
next_some zero side u from cs at left some = absurd (none_some (sym (next_end side u from cs (omega arith)) ∙ some))
  where
    none_some : None ≡ Some at → ⊥
    none_some e = cc
next_some (suc n) side u from cs at left some = elim (cases_Bool (names_it side u cs from)) [
  | inl here ↦ let same : from ≡ at = some_same (sym (cond-true (names_it side u cs from) _ _ here) ∙ sym (next_here side u from cs (omega arith)) ∙ some) in
      record { within = omega arith; behind = omega arith; it = subst (λ k. names_it side u cs k ≡ true) same here; others = λ k low high. absurd (omega arith) }
  | inr other ↦
      let later = next_some n side u (from + 1) cs at (omega arith) (sym (cond-false (names_it side u cs from) _ _ other) ∙ sym (next_here side u from cs (omega arith)) ∙ some) in
      record { within = later.within; behind = omega (arith, later.behind); it = later.it; others = λ k low high. first_or k later low high other }
]
  where
    some_same : {a b : ℕ} → Some a ≡ Some b → a ≡ b
    some_same e = cc

    first_or : (k : ℕ) → IsNext side u (from + 1) cs at → from ≤ k → k < at → names_it side u cs from ≡ false → names_it side u cs k ≡ false
    first_or k later low high other = elim (cases_eq from k) [
      | inl same ↦ subst (λ m. names_it side u cs m ≡ false) same other
      | inr apart ↦ later.others k (past from k low apart) high
    ]

next_none : (n : ℕ) (side : Side) (u from : ℕ) (cs : List Constraint) → n + from ≡ length cs → next_naming side u from cs ≡ None → (k : ℕ) → from ≤ k → k < length cs → names_it side u cs k ≡ false
next_none zero side u from cs left none k low high = absurd (omega arith)
next_none (suc n) side u from cs left none k low high = elim (cases_Bool (names_it side u cs from)) [
  | inl here ↦ absurd (some_none (sym (cond-true (names_it side u cs from) _ _ here) ∙ sym (next_here side u from cs (omega arith)) ∙ none))
  | inr other ↦ elim (cases_lt from k) [
    | inl less ↦ next_none n side u (from + 1) cs (omega arith) (sym (cond-false (names_it side u cs from) _ _ other) ∙ sym (next_here side u from cs (omega arith)) ∙ none) k (omega arith) high
    | inr more ↦ let same : from ≡ k = omega arith in subst (λ m. names_it side u cs m ≡ false) same other
  ]
]
  where
    some_none : Some from ≡ None → ⊥
    some_none e = cc

-- ---- a walk along a chain

-- the constraint stands before a place and names the unknown
abbrev pub named_below : Side → ℕ → List Constraint → ℕ → ℕ → Bool
named_below side u cs place k = ltb k place && names_it side u cs k

named_more : (side : Side) (u : ℕ) (cs : List Constraint) (place at k : ℕ) → IsNext side u place cs at → named_below side u cs (at + 1) k ≡ (eqb k at || named_below side u cs place k)
named_more side u cs place at k next = elim (cases_lt k at) [
  | inl less ↦ rw (lt-ltb k (at + 1) (omega arith), ne_eqb k at (λ e. omega arith)) (elim (cases_lt k place) [
    | inl below ↦ rw (lt-ltb k place below) refl
    | inr past ↦ rw (next.others k past less) (sym (and_none (ltb k place)))
  ])
  | inr more ↦ elim (cases_eq k at) [
    | inl same ↦ rw (lt-ltb k (at + 1) (omega arith), eq-eqb k at same) (subst (λ m. names_it side u cs m ≡ true) (sym same) next.it)
    | inr apart ↦ rw (le-ltb k (at + 1) (past at k more (λ e. apart (sym e))), ne_eqb k at apart, le-ltb k place (far k more next.behind)) refl
  ]
]
  where
    and_none : (a : Bool) → (a && false) ≡ false
    and_none true = refl
    and_none false = refl

    far : (a : ℕ) → at ≤ a → place ≤ at → place ≤ a
    far a low behind = omega arith

-- What a walk along the chain of an unknown has done to a list: `join` says what becomes of a place that names it, or does
-- not, and that was linked, or was not.
pub record Walked (join : Bool → Bool → Bool) (side : Side) (u : ℕ) (cs : List Constraint) (next : Option ℕ) (old now : List ℕ) : Type 0 where
  pub place : ℕ
  pub short : place ≤ length cs
  pub next_is : next ≡ next_naming side u place cs
  pub linked : (k : ℕ) → is_in k now ≡ join (named_below side u cs place k) (is_in k old)

abbrev pub linking : Bool → Bool → Bool
linking here linked = here || linked

abbrev pub unlinking : Bool → Bool → Bool
unlinking here linked = not here && linked

pub walk_starts : (side : Side) (u : ℕ) (cs : List Constraint) (next : Option ℕ) (old : List ℕ) → next ≡ next_naming side u 0 cs → Walked linking side u cs next old old × Walked unlinking side u cs next old old
walk_starts side u cs next old first = (
  record { place = 0; short = omega arith; next_is = first; linked = λ k. rw (le-ltb k 0 (omega arith)) refl },
  record { place = 0; short = omega arith; next_is = first; linked = λ k. rw (le-ltb k 0 (omega arith)) refl },
)

next_of : {join : Bool → Bool → Bool} {side : Side} {u : ℕ} {cs : List Constraint} {next : Option ℕ} {old now : List ℕ} (w : Walked join side u cs next old now) (at : ℕ) → next ≡ Some at → IsNext side u w.place cs at
next_of {join} {side} {u} {cs} w at some = let h : w.place ≤ length cs = w.short in next_some (length cs - w.place) side u w.place cs at (omega arith) (sym w.next_is ∙ some)

pub walk_within : {join : Bool → Bool → Bool} {side : Side} {u : ℕ} {cs : List Constraint} {next : Option ℕ} {old now : List ℕ} → Walked join side u cs next old now → (at : ℕ) → next ≡ Some at → at < length cs
walk_within w at some = (next_of w at some).within

walk_more : {join : Bool → Bool → Bool} {side : Side} {u : ℕ} {cs : List Constraint} {next : Option ℕ} {old now : List ℕ} → ((a b o : Bool) → join a (join b o) ≡ join (a || b) o)
    → Walked join side u cs next old now → (at : ℕ) → next ≡ Some at → (then : Option ℕ) (made : List ℕ) → then ≡ next_naming side (end_of side (constraint_at cs at)) (at + 1) cs
    → ((k : ℕ) → is_in k made ≡ join (eqb k at) (is_in k now)) → Walked join side u cs then old made
walk_more {join} {side} {u} {cs} {next} {old} {now} law w at some then made then_is does =
    let here = next_of w at some in
    record {
      place = at + 1;
      short = omega (arith, here.within);
      next_is = then_is ∙ ap (λ v. next_naming side v (at + 1) cs) (sym (eqb-true u (end_of side (constraint_at cs at)) here.it));
      linked = λ k. does k ∙ ap (join (eqb k at)) (w.linked k) ∙ law (eqb k at) (named_below side u cs w.place k) (is_in k old) ∙ ap (λ b. join b (is_in k old)) (sym (named_more side u cs w.place at k here));
    }

pub walk_links : {side : Side} {u : ℕ} {cs : List Constraint} {next : Option ℕ} {old now : List ℕ} → Walked linking side u cs next old now → (at : ℕ) → next ≡ Some at → (then : Option ℕ) (made : List ℕ)
    → then ≡ next_naming side (end_of side (constraint_at cs at)) (at + 1) cs → ((k : ℕ) → is_in k made ≡ linking (eqb k at) (is_in k now)) → Walked linking side u cs then old made
walk_links w at some then made then_is does = walk_more or_law w at some then made then_is does
  where
    or_law : (a b o : Bool) → linking a (linking b o) ≡ linking (a || b) o
    or_law true b o = refl
    or_law false b o = refl

pub walk_unlinks : {side : Side} {u : ℕ} {cs : List Constraint} {next : Option ℕ} {old now : List ℕ} → Walked unlinking side u cs next old now → (at : ℕ) → next ≡ Some at → (then : Option ℕ) (made : List ℕ)
    → then ≡ next_naming side (end_of side (constraint_at cs at)) (at + 1) cs → ((k : ℕ) → is_in k made ≡ unlinking (eqb k at) (is_in k now)) → Walked unlinking side u cs then old made
walk_unlinks w at some then made then_is does = walk_more and_law w at some then made then_is does
  where
    and_law : (a b o : Bool) → unlinking a (unlinking b o) ≡ unlinking (a || b) o
    and_law true b o = refl
    and_law false b o = refl

named_all : (side : Side) (u : ℕ) (cs : List Constraint) (place k : ℕ) → place ≤ length cs → ((j : ℕ) → place ≤ j → j < length cs → names_it side u cs j ≡ false) → named_below side u cs place k ≡ names side u cs k
named_all side u cs place k short others = elim (cases_lt k place) [
  | inl below ↦ rw (lt-ltb k place below, lt-ltb k (length cs) (omega arith)) refl
  | inr behind ↦ rw (le-ltb k place behind) (elim (cases_lt k (length cs)) [
    | inl within ↦ rw (lt-ltb k (length cs) within) (sym (others k behind within))
    | inr out ↦ rw (le-ltb k (length cs) out) refl
  ])
]

pub walk_ends : {join : Bool → Bool → Bool} {side : Side} {u : ℕ} {cs : List Constraint} {next : Option ℕ} {old now : List ℕ} → Walked join side u cs next old now → next ≡ None → (k : ℕ) → is_in k now ≡ join (names side u cs k) (is_in k old)
walk_ends {join} {side} {u} {cs} {next} {old} w none k =
    let h : w.place ≤ length cs = w.short in
    w.linked k ∙ ap (λ b. join b (is_in k old)) (named_all side u cs w.place k w.short (next_none (length cs - w.place) side u w.place cs (omega arith) (sym w.next_is ∙ none)))

pub none_left : (o : Option ℕ) → ((x : ℕ) → o ≡ Some x → ⊥) → o ≡ None
none_left None not_some = refl
none_left (Some x) not_some = absurd (not_some x refl)

-- how much of the chain is to come at most
abbrev pub rest_of : ℕ → Option ℕ → ℕ
rest_of n None = 0
rest_of n (Some at) = n - at

shorter : (cs : List Constraint) (side : Side) (u at : ℕ) (then : Option ℕ) → at < length cs → then ≡ next_naming side u (at + 1) cs → rest_of (length cs) then < length cs - at
shorter cs side u at None within then_is = omega arith
shorter cs side u at (Some later) within then_is =
    let next : IsNext side u (at + 1) cs later = next_some (length cs - (at + 1)) side u (at + 1) cs later (omega arith) (sym then_is) in
    omega (arith, next.within, next.behind)

pub walk_shortens : {join : Bool → Bool → Bool} {side : Side} {u : ℕ} {cs : List Constraint} {next : Option ℕ} {old now : List ℕ} → Walked join side u cs next old now → (at : ℕ) → next ≡ Some at → (then : Option ℕ)
    → then ≡ next_naming side (end_of side (constraint_at cs at)) (at + 1) cs → rest_of (length cs) then < length cs - at
walk_shortens {join} {side} {u} {cs} w at some then then_is = shorter cs side (end_of side (constraint_at cs at)) at then (walk_within w at some) then_is

-- ---- chains as they are made

-- the chains of the constraints from a place on
pub record Chaining (side : Side) (unknowns : ℕ) (cs : List Constraint) (first next : List (Option ℕ)) (from : ℕ) : Type 0 where
  pub unknown_count : length first ≡ unknowns
  pub constraint_count : length next ≡ length cs
  pub short : from ≤ length cs
  pub firsts : (u : ℕ) → u < unknowns → get_or first u None ≡ next_naming side u from cs
  pub nexts : (k : ℕ) → from ≤ k → k < length cs → get_or next k None ≡ next_naming side (end_of side (constraint_at cs k)) (k + 1) cs

pub chaining_starts : (side : Side) (unknowns : ℕ) (cs : List Constraint) (n : ℕ) → n ≡ length cs → Chaining side unknowns cs (replicate unknowns None) (replicate n None) (length cs)
chaining_starts side unknowns cs n same = record {
  unknown_count = length-replicate unknowns None;
  constraint_count = length-replicate n None ∙ same;
  short = omega arith;
  firsts = λ u within. get_or-replicate unknowns u None None within ∙ sym (next_end side u (length cs) cs (omega arith));
  nexts = λ k low high. absurd (omega arith);
}

pub within_at : (unknowns : ℕ) (cs : List Constraint) (k : ℕ) → AreWithin unknowns cs → k < length cs → ((constraint_at cs k).low < unknowns) × ((constraint_at cs k).high < unknowns)
within_at unknowns [] k within short = absurd (omega arith)
within_at unknowns (c ∷ cs) zero within short = within.0
within_at unknowns (c ∷ cs) (suc k) within short = within_at unknowns cs k within.1 (omega arith)

pub end_within : (side : Side) (unknowns : ℕ) (cs : List Constraint) (k : ℕ) → AreWithin unknowns cs → k < length cs → end_of side (constraint_at cs k) < unknowns
end_within Low unknowns cs k within short = (within_at unknowns cs k within short).0
end_within High unknowns cs k within short = (within_at unknowns cs k within short).1

pub chaining_more : {side : Side} {unknowns : ℕ} {cs : List Constraint} {first next : List (Option ℕ)} {from : ℕ} → AreWithin unknowns cs → Chaining side unknowns cs first next from → (at : ℕ) → at + 1 ≡ from
    → (u : ℕ) → u ≡ end_of side (constraint_at cs at) → (was : Option ℕ) → was ≡ get_or first u None → Chaining side unknowns cs (set first u (Some at)) (set next at was) at
chaining_more {side} {unknowns} {cs} {first} {next} {from} within c at less u u_is was was_is =
    let short : at < length cs = omega (arith, c.short) in
    let u_within : u < unknowns = subst (λ v. v < unknowns) (sym u_is) (end_within side unknowns cs at within short) in
    let from_is : next_naming side u from cs ≡ next_naming side u (at + 1) cs = ap (λ f. next_naming side u f cs) (sym less) in
    record {
      unknown_count = length-set first u (Some at) ∙ c.unknown_count;
      constraint_count = length-set next at was ∙ c.constraint_count;
      short = omega arith;
      firsts = λ v v_within. first_at v v_within short u_within;
      nexts = λ k low high. next_at k low high short (was_is ∙ c.firsts u u_within ∙ from_is ∙ ap (λ v. next_naming side v (at + 1) cs) u_is);
    }
  where
    first_at : (v : ℕ) → v < unknowns → at < length cs → u < unknowns → get_or (set first u (Some at)) v None ≡ next_naming side v at cs
    first_at v v_within short u_within = elim (cases_eq v u) [
      | inl same ↦ subst (λ m. get_or (set first u (Some at)) m None ≡ next_naming side m at cs) (sym same)
          (get_or-set_same first u (Some at) None (subst (λ n. u < n) (sym c.unknown_count) u_within)
          ∙ sym (cond-true (names_it side u cs at) _ _ (eq-eqb u (end_of side (constraint_at cs at)) u_is)) ∙ sym (next_here side u at cs short))
      | inr apart ↦ get_or-set_other first u v (Some at) None apart
          ∙ c.firsts v v_within ∙ ap (λ f. next_naming side v f cs) (sym less)
          ∙ sym (cond-false (names_it side v cs at) _ _ (ne_eqb v (end_of side (constraint_at cs at)) (λ e. apart (e ∙ sym u_is)))) ∙ sym (next_here side v at cs short)
    ]

    next_at : (k : ℕ) → at ≤ k → k < length cs → at < length cs → was ≡ next_naming side (end_of side (constraint_at cs at)) (at + 1) cs
        → get_or (set next at was) k None ≡ next_naming side (end_of side (constraint_at cs k)) (k + 1) cs
    next_at k low high short was_next = elim (cases_eq k at) [
      | inl same ↦ subst (λ m. get_or (set next at was) m None ≡ next_naming side (end_of side (constraint_at cs m)) (m + 1) cs) (sym same)
          (get_or-set_same next at was None (subst (λ n. at < n) (sym c.constraint_count) short) ∙ was_next)
      | inr apart ↦ get_or-set_other next at k was None apart ∙ c.nexts k (subst (λ n. n ≤ k) less (past at k low (λ e. apart (sym e)))) high
    ]

-- ---- the board with all nodes linked

pub range_push : (a n : ℕ) → range_with_len a n ++ (a + n) ∷ [] ≡ range_with_len a (suc n)
range_push a zero = ap (λ (m : ℕ). m ∷ []) (no_more a)
  where
    no_more : (m : ℕ) → m + 0 ≡ m
    no_more m = omega arith
range_push a (suc n) = ap (λ (l : List ℕ). a ∷ l) (ap (λ (m : ℕ). range_with_len (a + 1) n ++ m ∷ []) (moved a n) ∙ range_push (a + 1) n)
  where
    moved : (a n : ℕ) → a + suc n ≡ a + 1 + n
    moved a n = omega arith

below_more : (k m n : ℕ) → m ≡ n → (eqb k m || ltb k n) ≡ ltb k (suc n)
below_more k m n same = elim (cases_lt k n) [
  | inl less ↦ rw (lt-ltb k n less, lt-ltb k (suc n) (omega arith)) (or_true (eqb k m))
  | inr past_it ↦ rw (le-ltb k n past_it) (elim (cases_eq k n) [
    | inl it ↦ rw (eq-eqb k m (it ∙ sym same)) (sym (lt-ltb k (suc n) (omega arith)))
    | inr apart ↦ rw (ne_eqb k m (λ e. apart (e ∙ same))) (sym (le-ltb k (suc n) (over (past n k past_it (λ e. apart (sym e))))))
  ])
]
  where
    or_true : (b : Bool) → (b || true) ≡ true
    or_true true = refl
    or_true false = refl

    over : n + 1 ≤ k → suc n ≤ k
    over h = omega arith

pub in_range : (k n : ℕ) → is_in k (range_with_len 0 n) ≡ ltb k n
in_range k zero = sym (le-ltb k 0 (omega arith))
in_range k (suc n) = ap (is_in k) (sym (range_push 0 n)) ∙ in_push k (0 + n) (range_with_len 0 n) ∙ ap (λ b. eqb k (0 + n) || b) (in_range k n) ∙ below_more k (0 + n) n (omega arith)

pub range_more : (n : ℕ) → range_with_len 0 n ++ n ∷ [] ≡ range_with_len 0 (n + 1)
range_more n = ap (λ (m : ℕ). range_with_len 0 n ++ m ∷ []) (start n) ∙ range_push 0 n ∙ ap (range_with_len 0) (next n)
  where
    start : (m : ℕ) → m ≡ 0 + m
    start m = omega arith

    next : (m : ℕ) → suc m ≡ m + 1
    next m = omega arith

-- ---- lists of linked places

pub in_less : (k at : ℕ) (xs : List ℕ) → is_in k (without at xs) ≡ (not (eqb k at) && is_in k xs)
in_less k at xs = elim (cases_eq at k) [
  | inl same ↦ rw (eq-eqb k at (sym same)) (subst (λ m. is_in m (without at xs) ≡ false) same (not_in_without at xs))
  | inr apart ↦ rw (ne_eqb k at (λ e. apart (sym e))) (in_without k at xs (ne_eqb at k apart))
]

pub first_in : (xs : List ℕ) (at : ℕ) → slice_get xs 0 ≡ Some at → is_in at xs ≡ true
first_in [] at first = absurd cc
first_in (x ∷ xs) at first = rw (eq-eqb at x (same first)) refl
  where
    same : Some x ≡ Some at → at ≡ x
    same e = cc

pub none_first : (xs : List ℕ) → slice_get xs 0 ≡ None → xs ≡ []
none_first [] none = refl
none_first (x ∷ xs) none = absurd cc
