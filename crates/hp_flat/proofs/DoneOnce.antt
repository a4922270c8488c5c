-- In a program whose operations follow the constructs of a script each construct is done by exactly one step.
use Rattle.std.proofs.Common.{◌≡◌, ℕ, zero, suc, ◌+◌, ◌≤◌, ◌==◌, Bool, true, false, not, ◌&&◌, ◌||◌, cond, List, [], ◌∷◌, ◌++◌, map, slice_get, Some, IsTrue, refl, sym, ap, subst, ◌∙◌, arith}
use Rattle.std.proofs.lemmas.Bool.{and_from, and_parts, or_left, or_right, eq-eqb}
use Rattle.std.proofs.lemmas.List.Sums.{sum_by-cons}
use Rattle.std.specs.Prelude.{count_by}
use Rattle.std.specs.List.{AllByRecursion, list_all}
use Rattle.hp_air.specs.Arrays.{Arrays, Scalar, Length, Fill, Range, Read, Copy, Map, Reduce, Scan, Stencil, Filter, Join, Group, Concat, Sort, At, Pick, Frame, Stack, Row, Product, ProductT, PrintWord, PrintList, Export, outs, is_variant}
use Rattle.hp_air.specs.Carried.{Step, Plain, step_of, IsItem, are_same, is_plain, is_plain_step, is_loop_step, steps_for, is_made, is_done}
use Rattle.hp_air.specs.Unknowns.{Unknown, of_node, of_variable, balanced_of, of_nothing, same_unknown}
use Rattle.hp_flat.specs.StepByStep.{Follows, both_end, scalar_work, same_step, first_length}
use Rattle.hp_flat.proofs.ArrayBlocks.{IsArray, is_same, same_itself}
use Rattle.hp_flat.proofs.MadeOnce.{starts_at, made_at, total}

-- ---- counts

-- how many constructs are steps of this kind
abbrev counted : (Step Unknown → Bool) → List (Arrays Unknown) → ℕ
counted t [] = 0
counted t (d ∷ cs) = cond (t (step_of d)) 1 0 + counted t cs

counted_lengths : (t : Step Unknown → Bool) → ((x : Unknown) → t (Plain (Length x)) ≡ false) → (us : List Unknown) (cs : List (Arrays Unknown)) → counted t (map Length us ++ cs) ≡ counted t cs
counted_lengths t never [] cs = refl
counted_lengths t never (u ∷ us) cs = ap (λ (b : Bool). cond b 1 0 + counted t (map Length us ++ cs)) (never u) ∙ omega (arith, counted_lengths t never us cs)

count_next : (t : Step Unknown → Bool) (s : Step Unknown) (steps : List (Step Unknown)) → count_by t (s ∷ steps) ≡ cond (t s) 1 0 + count_by t steps
count_next t s steps = sum_by-cons (λ (r : Step Unknown). cond (t r) 1 0) s steps

count_is : {rows cs : List (Arrays Unknown)} (t : Step Unknown → Bool) → t (Plain Scalar) ≡ false → ((x : Unknown) → t (Plain (Length x)) ≡ false) → Follows rows cs → count_by t (map step_of rows) ≡ counted t cs
count_is t scalar never both_end = refl
count_is t scalar never (scalar_work {rows = rows} p) =
    count_next t (Plain Scalar) (map step_of rows) ∙ ap (λ (b : Bool). cond b 1 0 + count_by t (map step_of rows)) scalar ∙ omega (arith, count_is t scalar never p)
count_is t scalar never (same_step {a = a} {rows = rows} is p) =
    count_next t (step_of a) (map step_of rows) ∙ ap (λ (n : ℕ). cond (t (step_of a)) 1 0 + n) (count_is t scalar never p)
count_is t scalar never (first_length {rows = rows} {cs = cs} u us p) =
    count_next t (Plain (Length u)) (map step_of rows) ∙ ap (λ (b : Bool). cond b 1 0 + count_by t (map step_of rows)) (never u)
    ∙ omega (arith, count_is t scalar never p, counted_lengths t never (u ∷ us) cs)

-- no more than make arrays of this expression
at_most : (n : ℕ) (t : Step Unknown → Bool) → ((d : Arrays Unknown) → t (step_of d) ≡ true → made_at n d ≡ true) → (cs : List (Arrays Unknown)) → counted t cs ≤ total n cs
at_most n t each [] = omega arith
at_most n t each (d ∷ cs) = omega (arith, fewer (t (step_of d)) (made_at n d) (each d), at_most n t each cs)
  where
    fewer : (a b : Bool) → (a ≡ true → b ≡ true) → cond a 1 0 ≤ cond b 1 0
    fewer false b h = omega arith
    fewer true true h = omega arith
    fewer true false h = let never : false ≡ true = h refl in absurd cc

at_least : (t : Step Unknown → Bool) (cs : List (Arrays Unknown)) (k : ℕ) (c : Arrays Unknown) → slice_get cs k ≡ Some c → t (step_of c) ≡ true → 1 ≤ counted t cs
at_least t [] k c e is = absurd cc
at_least t (d ∷ cs) zero c e is = let same : d ≡ c = cc in ahead (t (step_of d)) (counted t cs) (ap (λ (a : Arrays Unknown). t (step_of a)) same ∙ is)
  where
    ahead : (b : Bool) (n : ℕ) → b ≡ true → 1 ≤ cond b 1 0 + n
    ahead true n e = omega arith
    ahead false n e = absurd cc
at_least t (d ∷ cs) (suc k) c e is = omega (arith, at_least t cs k c e is)

-- ---- which steps do a construct

starts_same : (n : ℕ) (us vs : List Unknown) → are_same us vs ≡ true → starts_at n vs ≡ true → starts_at n us ≡ true
starts_same n [] vs same e = let both : starts_at n vs ≡ true = e in empty vs same e
  where
    empty : (vs : List Unknown) → are_same [] vs ≡ true → starts_at n vs ≡ true → starts_at n [] ≡ true
    empty [] same e = e
    empty (v ∷ vs) same e = absurd cc
starts_same n (u ∷ us) [] same e = absurd cc
starts_same n (u ∷ us) (v ∷ vs) same e =
    let one : u ≡ v = is_same u v (and_parts (same_unknown u v) (are_same us vs) same).0 in first u v one e
  where
    first : (u v : Unknown) → u ≡ v → starts_at n (v ∷ vs) ≡ true → starts_at n (u ∷ us) ≡ true
    first (of_node m k) (of_node j i) same e = let number : m ≡ j = cc in subst (λ (p : ℕ). (n == p) ≡ true) (sym number) e
    first (of_variable m k) v same e = let e2 : starts_at n (of_variable m k ∷ vs) ≡ true = subst (λ (w : Unknown). starts_at n (w ∷ vs) ≡ true) (sym same) e in absurd cc
    first (balanced_of m) v same e = let e2 : starts_at n (balanced_of m ∷ vs) ≡ true = subst (λ (w : Unknown). starts_at n (w ∷ vs) ≡ true) (sym same) e in absurd cc
    first of_nothing v same e = let e2 : starts_at n (of_nothing ∷ vs) ≡ true = subst (λ (w : Unknown). starts_at n (w ∷ vs) ≡ true) (sym same) e in absurd cc
    first (of_node m k) (of_variable j i) same e = absurd cc
    first (of_node m k) (balanced_of j) same e = absurd cc
    first (of_node m k) of_nothing same e = absurd cc

variant_made : (d c : Arrays Unknown) → is_plain c ≡ true → is_variant d c ≡ true → is_made d ≡ true
unfolding is_variant
variant_made (Fill a) c is e = refl
variant_made (Range a) c is e = refl
variant_made (Read a) c is e = refl
variant_made (Map a b) c is e = refl
variant_made (Scan a b) c is e = refl
variant_made (Stencil a b d) c is e = refl
variant_made (Filter a b d) c is e = refl
variant_made (Join a b d) c is e = refl
variant_made (Group a b) c is e = refl
variant_made (Concat a b d) c is e = refl
variant_made (Sort a b) c is e = refl
variant_made (Pick a b d) c is e = refl
variant_made (Frame a b) c is e = refl
variant_made (Stack a b) c is e = refl
variant_made (Row a b) c is e = refl
variant_made (Product a b d) c is e = refl
variant_made (ProductT a b d) c is e = refl
variant_made Scalar (Scalar) is e = absurd cc
variant_made (Length a) (Length b) is e = absurd cc
variant_made (Copy a b) (Copy d f) is e = absurd cc
variant_made (Reduce k a) (Reduce l b) is e = absurd cc
variant_made (At a) (At b) is e = absurd cc
variant_made PrintWord PrintWord is e = absurd cc
variant_made (PrintList a) (PrintList b) is e = absurd cc
variant_made (Export a) (Export b) is e = absurd cc
variant_made _ _ is e = absurd cc

-- ---- each construct is done once

own_made : (n : ℕ) (d c : Arrays Unknown) → is_plain c ≡ true → starts_at n (outs c) ≡ true → (is_variant d c && are_same (outs d) (outs c)) ≡ true → made_at n d ≡ true
own_made n d c is start e =
    let parts = and_parts (is_variant d c) (are_same (outs d) (outs c)) e in
    and_from (is_made d) (starts_at n (outs d)) (variant_made d c is parts.0) (starts_same n (outs d) (outs c) parts.1 start)

plain_made : (n : ℕ) (c d : Arrays Unknown) → is_plain c ≡ true → starts_at n (outs c) ≡ true → is_plain_step c (step_of d) ≡ true → made_at n d ≡ true
plain_made n c (Map out ins) is start e = absurd cc
plain_made n c (Reduce kind x) is start e = absurd cc
plain_made n c (Stencil out x balanced) is start e = absurd cc
plain_made n c other is start e = own_made n other c is start e

head_starts : (n : ℕ) (u : Unknown) (us vs : List Unknown) → starts_at n (u ∷ us) ≡ true → starts_at n (u ∷ vs) ≡ true
head_starts n (of_node m k) us vs e = e
head_starts n (of_variable m k) us vs e = absurd cc
head_starts n (balanced_of m) us vs e = absurd cc
head_starts n of_nothing us vs e = absurd cc

one_of : (b : Bool) → (b || false) ≡ true → b ≡ true
one_of true e = refl
one_of false e = absurd cc

loop_made : (n : ℕ) (out : Unknown) (d : Arrays Unknown) → starts_at n (out ∷ []) ≡ true → is_loop_step out (step_of d) ≡ true → made_at n d ≡ true
unfolding outs
loop_made n out (Map o ins) start e =
    let same : out ≡ o = is_same out o (one_of (same_unknown out o) e) in subst (λ (u : Unknown). starts_at n (u ∷ []) ≡ true) same start
loop_made n out (Stencil o x balanced) start e =
    let same : out ≡ o = is_same out o (one_of (same_unknown out o) e) in head_starts n o [] (balanced ∷ []) (subst (λ (u : Unknown). starts_at n (u ∷ []) ≡ true) same start)
loop_made n out _ start e = absurd cc

-- the arrays that a construct makes are of an expression
pub record HasStart (c : Arrays Unknown) : Type 0 where
  pub node : ℕ
  pub starts : starts_at node (outs c) ≡ true

-- What each made construct owes: its arrays are the script's, and the first is of an expression.
abbrev pub Makes : Arrays Unknown → Type 0
Makes c = is_made c ≡ true → HasStart c × AllByRecursion IsArray (outs c)

same_arrays : (us : List Unknown) → AllByRecursion IsArray us → are_same us us ≡ true
same_arrays [] are = refl
same_arrays (u ∷ us) are = and_from (same_unknown u u) (are_same us us) (same_itself u are.0) (same_arrays us are.1)

module _ {rows : List (Arrays Unknown)} (all : List (Arrays Unknown)) (follows : Follows rows all) (few : (n : ℕ) → total n all ≤ 1) where
  one_count : (n : ℕ) (t : Step Unknown → Bool) (k : ℕ) (c : Arrays Unknown) → t (Plain Scalar) ≡ false → ((x : Unknown) → t (Plain (Length x)) ≡ false) → ((d : Arrays Unknown) → t (step_of d) ≡ true → made_at n d ≡ true)
      → slice_get all k ≡ Some c → t (step_of c) ≡ true → count_by t (map step_of rows) ≡ 1
  one_count n t k c scalar never each e own = count_is t scalar never follows ∙ omega (arith, at_most n t each all, few n, at_least t all k c e own)

  plain_once : (c : Arrays Unknown) (k : ℕ) → slice_get all k ≡ Some c → HasStart c → is_plain c ≡ true → is_variant {X = Unknown} Scalar c ≡ false → ((x : Unknown) → is_variant (Length x) c ≡ false)
      → is_plain_step c (step_of c) ≡ true → count_by (is_plain_step c) (map step_of rows) ≡ 1
  plain_once c k e start is scalar never own =
      one_count start.node (is_plain_step c) k c (ap (λ (b : Bool). b && are_same (outs {X = Unknown} Scalar) (outs c)) scalar) (λ x. ap (λ (b : Bool). b && are_same (outs (Length x)) (outs c)) (never x))
      (λ d f. plain_made start.node c d is start.starts f) e own

  -- one step, where the construct is made
  once : (c : Arrays Unknown) (k : ℕ) → slice_get all k ≡ Some c → HasStart c → AllByRecursion IsArray (outs c) → is_made c ≡ true → steps_for c (map step_of rows) ≡ 1
  unfolding outs is_variant
  once (Map out ins) k e start arrays is =
      one_count start.node (is_loop_step out) k (Map out ins) refl (λ x. refl) (λ d f. loop_made start.node out d start.starts f) e (or_left (same_unknown out out) false (same_itself out arrays.0))
  once (Stencil out x balanced) k e start arrays is =
      one_count start.node (is_loop_step out) k (Stencil out x balanced) refl (λ y. refl) (λ d f. loop_made start.node out d (head_starts start.node out (balanced ∷ []) [] start.starts) f) e
      (or_left (same_unknown out out) false (same_itself out arrays.0))
  once (Fill a) k e start arrays is = plain_once (Fill a) k e start refl refl (λ x. refl) (same_arrays (a ∷ []) arrays)
  once (Range a) k e start arrays is = plain_once (Range a) k e start refl refl (λ x. refl) (same_arrays (a ∷ []) arrays)
  once (Read os) k e start arrays is = plain_once (Read os) k e start refl refl (λ x. refl) (same_arrays os arrays)
  once (Scan a b) k e start arrays is = plain_once (Scan a b) k e start refl refl (λ x. refl) (same_arrays (a ∷ []) arrays)
  once (Filter os b d) k e start arrays is = plain_once (Filter os b d) k e start refl refl (λ x. refl) (same_arrays os arrays)
  once (Join os b d) k e start arrays is = plain_once (Join os b d) k e start refl refl (λ x. refl) (same_arrays os arrays)
  once (Group os b) k e start arrays is = plain_once (Group os b) k e start refl refl (λ x. refl) (same_arrays os arrays)
  once (Concat a b d) k e start arrays is = plain_once (Concat a b d) k e start refl refl (λ x. refl) (same_arrays (a ∷ []) arrays)
  once (Sort os b) k e start arrays is = plain_once (Sort os b) k e start refl refl (λ x. refl) (same_arrays os arrays)
  once (Pick a b d) k e start arrays is = plain_once (Pick a b d) k e start refl refl (λ x. refl) (same_arrays (a ∷ []) arrays)
  once (Frame os b) k e start arrays is = plain_once (Frame os b) k e start refl refl (λ x. refl) (same_arrays os arrays)
  once (Stack a b) k e start arrays is = plain_once (Stack a b) k e start refl refl (λ x. refl) (same_arrays (a ∷ []) arrays)
  once (Row a b) k e start arrays is = plain_once (Row a b) k e start refl refl (λ x. refl) (same_arrays (a ∷ []) arrays)
  once (Product a b d) k e start arrays is = plain_once (Product a b d) k e start refl refl (λ x. refl) (same_arrays (a ∷ []) arrays)
  once (ProductT a b d) k e start arrays is = plain_once (ProductT a b d) k e start refl refl (λ x. refl) (same_arrays (a ∷ []) arrays)
  once _ k e start arrays is = absurd cc

  done_so : (made : Bool) (c : Arrays Unknown) (rest : Bool) → is_made c ≡ made → (made ≡ true → steps_for c (map step_of rows) ≡ 1) → (not (is_made c) || steps_for c (map step_of rows) == 1 || rest) ≡ true
  done_so true c rest is one =
      or_left (not (is_made c) || steps_for c (map step_of rows) == 1) rest (or_right (not (is_made c)) (steps_for c (map step_of rows) == 1) (eq-eqb (steps_for c (map step_of rows)) 1 (one refl)))
  done_so false c rest is one =
      or_left (not (is_made c) || steps_for c (map step_of rows) == 1) rest (or_left (not (is_made c)) (steps_for c (map step_of rows) == 1) (ap not is))

  pub all_done : (cs : List (Arrays Unknown)) → ((k : ℕ) (c : Arrays Unknown) → slice_get cs k ≡ Some c → IsItem all c) → AllByRecursion Makes cs → IsTrue (list_all (is_done (map step_of rows)) cs)
  all_done [] items makes = refl
  all_done (c ∷ cs) items makes =
      let item = items 0 c refl in
      and_from (is_done (map step_of rows) c) (list_all (is_done (map step_of rows)) cs)
      (done_so (is_made c) c _ refl (λ is. let owed = makes.0 is in once c item.0 item.1 owed.0 owed.1 is))
      (all_done cs (λ k d e. items (suc k) d e) makes.1)
