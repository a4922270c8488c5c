-- The arrays of variables and of expressions as one form: block after block, each with the columns of one value. None of
-- them stands twice.
use Rattle.std.proofs.Common.{◌≡◌, ◌≢◌, ℕ, zero, suc, ◌+◌, ◌<◌, ◌≤◌, ◌==◌, Bool, true, false, ◌&&◌, cond, List, [], ◌∷◌, ◌++◌, map, Option, Some, IsTrue, refl, ap, ⊎_elim, arith}
use Rattle.std.proofs.lemmas.Bool.{eqb-true, eq-eqb, cases_eq, and_parts}
use Rattle.std.specs.Prelude.{◌||◌}
use Rattle.std.specs.List.{AllByRecursion, range_with_len}
use Rattle.hp_script.specs.declared.typed.Shape.{Shape}
use Rattle.hp_script.specs.declared.typed.Var.{Var}
use Rattle.hp_air.specs.Carried.{is_among}
use Rattle.hp_air.specs.Unknowns.{Unknown, of_variable, of_node, balanced_of, of_nothing, same_unknown, width, variables_from, nodes_from}
use Rattle.hp_flat.specs.FlatLaws.{are_apart}

-- ---- arrays that are the same

-- an array of the script
abbrev pub IsArray : Unknown → Type 0
IsArray of_nothing = ⊥
IsArray _ = Unit {0}

pub both_equal : (v w c d : ℕ) → IsTrue ((v == w) && (c == d)) → (v ≡ w) × (c ≡ d)
both_equal v w c d e =
    let parts = and_parts (v == w) (c == d) e in
    (eqb-true v w parts.0, eqb-true c d parts.1)

pub is_same : (u v : Unknown) → IsTrue (same_unknown u v) → u ≡ v
unfolding same_unknown
is_same (of_variable v c) (of_variable w d) e = let both = both_equal v w c d e in rw (both.0, both.1) refl
is_same (of_node v c) (of_node w d) e = let both = both_equal v w c d e in rw (both.0, both.1) refl
is_same (balanced_of v) (balanced_of w) e = ap balanced_of (eqb-true v w e)
is_same (of_variable v c) (of_node w d) e = absurd cc
is_same (of_variable v c) (balanced_of w) e = absurd cc
is_same (of_variable v c) of_nothing e = absurd cc
is_same (of_node v c) (of_variable w d) e = absurd cc
is_same (of_node v c) (balanced_of w) e = absurd cc
is_same (of_node v c) of_nothing e = absurd cc
is_same (balanced_of v) (of_variable w d) e = absurd cc
is_same (balanced_of v) (of_node w d) e = absurd cc
is_same (balanced_of v) of_nothing e = absurd cc
is_same of_nothing v e = absurd cc

equal_twice : (n c : ℕ) → ((n == n) && (c == c)) ≡ true
equal_twice n c = rw (eq-eqb n n refl, eq-eqb c c refl) refl

pub same_itself : (u : Unknown) → IsArray u → same_unknown u u ≡ true
unfolding same_unknown
same_itself (of_variable v c) is = equal_twice v c
same_itself (of_node v c) is = equal_twice v c
same_itself (balanced_of v) is = eq-eqb v v refl
same_itself of_nothing is = absurd is

-- ---- how often an array stands in a list

abbrev pub times : Unknown → List Unknown → ℕ
times u [] = 0
times u (v ∷ vs) = cond (same_unknown u v) 1 0 + times u vs

pub regrouped : (a b c d : ℕ) → d ≡ b + c → a + d ≡ (a + b) + c
regrouped a b c d e = omega (arith, e)

pub times_append : (u : Unknown) (xs ys : List Unknown) → times u (xs ++ ys) ≡ times u xs + times u ys
times_append u [] ys = omega arith
times_append u (x ∷ xs) ys = regrouped (cond (same_unknown u x) 1 0) (times u xs) (times u ys) (times u (xs ++ ys)) (times_append u xs ys)

none_of : (t b : Bool) (n : ℕ) → cond t 1 0 + n ≡ 0 → (n ≡ 0 → b ≡ false) → (t || b) ≡ false
none_of true b n e next = absurd (omega (arith, e))
none_of false b n e next = next (omega (arith, e))

absent : (u : Unknown) (us : List Unknown) → times u us ≡ 0 → is_among us u ≡ false
absent u [] e = refl
absent u (v ∷ vs) e = none_of (same_unknown u v) (is_among vs u) (times u vs) e (absent u vs)

no_more : (t : Bool) (n : ℕ) → t ≡ true → cond t 1 0 + n ≤ 1 → n ≡ 0
no_more true n is most = omega (arith, most)
no_more false n is most = absurd cc

fewer : (a n : ℕ) → a + n ≤ 1 → n ≤ 1
fewer a n most = omega (arith, most)

pub apart_by_times : (us : List Unknown) → AllByRecursion IsArray us → ((u : Unknown) → times u us ≤ 1) → IsTrue (are_apart us)
apart_by_times [] are most = refl
apart_by_times (u ∷ us) are most =
    let gone : is_among us u ≡ false = absent u us (no_more (same_unknown u u) (times u us) (same_itself u are.0) (most u)) in
    rw gone (apart_by_times us are.1 (λ v. fewer (cond (same_unknown v u) 1 0) (times v us) (most v)))

-- ---- blocks

-- the columns of values of these widths, the first of which has this number
abbrev pub blocks : (made : ℕ → ℕ → Unknown) → ℕ → List ℕ → List Unknown
blocks made n [] = []
blocks made n (w ∷ ws) = map (made n) (range_with_len 0 w) ++ blocks made (n + 1) ws

abbrev pub var_widths : List Var → List ℕ
var_widths vars = map (λ (var : Var). width (Some var.shape)) vars

pub variables_as_blocks : (n : ℕ) (vars : List Var) → variables_from n vars ≡ blocks of_variable n (var_widths vars)
unfolding variables_from
variables_as_blocks n [] = refl
variables_as_blocks n (var ∷ vars) = ap (λ (us : List Unknown). map (of_variable n) (range_with_len 0 (width (Some var.shape))) ++ us) (variables_as_blocks (n + 1) vars)

pub nodes_as_blocks : (n : ℕ) (shapes : List (Option Shape)) → nodes_from n shapes ≡ blocks of_node n (map width shapes)
unfolding nodes_from
nodes_as_blocks n [] = refl
nodes_as_blocks n (found ∷ shapes) = ap (λ (us : List Unknown). map (of_node n) (range_with_len 0 (width found)) ++ us) (nodes_as_blocks (n + 1) shapes)

pub all_append : (P : Unknown → Type 0) (xs ys : List Unknown) → AllByRecursion P xs → AllByRecursion P ys → AllByRecursion P (xs ++ ys)
all_append P [] ys p q = q
all_append P (x ∷ xs) ys p q = (p.0, all_append P xs ys p.1 q)

module _ (P : Unknown → Type 0) (made : ℕ → ℕ → Unknown) (all : (n k : ℕ) → P (made n k)) where
  all_columns : (n b w : ℕ) → AllByRecursion P (map (made n) (range_with_len b w))
  all_columns n b zero = tt
  all_columns n b (suc w) = (all n b, all_columns n (b + 1) w)

  pub all_blocks : (n : ℕ) (ws : List ℕ) → AllByRecursion P (blocks made n ws)
  all_blocks n [] = tt
  all_blocks n (w ∷ ws) = all_append P _ _ (all_columns n 0 w) (all_blocks (n + 1) ws)

-- an array that is none of these
pub times_none : (u : Unknown) (us : List Unknown) → AllByRecursion (λ v. same_unknown u v ≡ false) us → times u us ≡ 0
times_none u [] none = refl
times_none u (v ∷ vs) none = rw none.0 (omega (arith, times_none u vs none.1))

pub once_next : (t : Bool) (n : ℕ) → (t ≡ true → n ≡ 0) → n ≤ 1 → cond t 1 0 + n ≤ 1
once_next true n none most = omega (arith, none refl)
once_next false n none most = omega (arith, most)

-- an array that is only one of all columns
module _ (made : ℕ → ℕ → Unknown) (u : Unknown) (m c : ℕ) (only : (n k : ℕ) → same_unknown u (made n k) ≡ true → (n ≡ m) × (k ≡ c)) where
  other : (n k : ℕ) → (n ≡ m → k ≡ c → ⊥) → same_unknown u (made n k) ≡ false
  other n k differ = by (same_unknown u (made n k)) (only n k)
    where
      by : (t : Bool) → (t ≡ true → (n ≡ m) × (k ≡ c)) → t ≡ false
      by true both = let at = both refl in absurd (differ at.0 at.1)
      by false both = refl

  columns_of_another : (n b w : ℕ) → n ≢ m → times u (map (made n) (range_with_len b w)) ≡ 0
  columns_of_another n b zero apart = refl
  columns_of_another n b (suc w) apart = rw (other n b (λ e f. apart e)) (omega (arith, columns_of_another n (b + 1) w apart))

  columns_behind : (n b w : ℕ) → c < b → times u (map (made n) (range_with_len b w)) ≡ 0
  columns_behind n b zero less = refl
  columns_behind n b (suc w) less = rw (other n b (λ e f. omega (arith, less, f))) (omega (arith, columns_behind n (b + 1) w (omega (arith, less))))

  columns_once : (n b w : ℕ) → times u (map (made n) (range_with_len b w)) ≤ 1
  columns_once n b zero = omega arith
  columns_once n b (suc w) = once_next (same_unknown u (made n b)) (times u (map (made n) (range_with_len (b + 1) w)))
      (λ e. columns_behind n (b + 1) w (next (only n b e).1)) (columns_once n (b + 1) w)
    where
      next : b ≡ c → c < b + 1
      next e = omega (arith, e)

  blocks_behind : (n : ℕ) (ws : List ℕ) → m < n → times u (blocks made n ws) ≡ 0
  blocks_behind n [] less = refl
  blocks_behind n (w ∷ ws) less =
      omega (arith, times_append u (map (made n) (range_with_len 0 w)) (blocks made (n + 1) ws), columns_of_another n 0 w (λ e. omega (arith, less, e)), blocks_behind (n + 1) ws (omega (arith, less)))

  pub blocks_once : (n : ℕ) (ws : List ℕ) → times u (blocks made n ws) ≤ 1
  blocks_once n [] = omega arith
  blocks_once n (w ∷ ws) = ⊎_elim
      (λ e. omega (arith, times_append u (map (made n) (range_with_len 0 w)) (blocks made (n + 1) ws), columns_once n 0 w, blocks_behind (n + 1) ws (omega (arith, e))))
      (λ apart. omega (arith, times_append u (map (made n) (range_with_len 0 w)) (blocks made (n + 1) ws), columns_of_another n 0 w apart, blocks_once (n + 1) ws))
      (cases_eq n m)
