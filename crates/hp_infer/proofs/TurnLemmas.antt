-- What a turn leaves: what is found, what is settled, and how many steps may still come.
use Rattle.std.proofs.Common.{◌≡◌, ℕ, zero, suc, ◌+◌, ◌*◌, ◌<◌, ◌≤◌, Bool, true, false, not, ◌||◌, ◌&&◌, cond, eqb, ltb, List, [], ◌∷◌, length, set, replicate, IsTrue, refl, sym, ap, ◌∙◌, subst, inl, inr, ◌⊎◌, arith}
use Rattle.std.specs.List.{range_with_len}
use Rattle.std.proofs.lemmas.Bool.{both_ways, cases_Bool, cases_lt, cases_eq, eq-eqb, ne_eqb, eqb-true, lt-ltb, and_from}
use Rattle.std.proofs.lemmas.List.{get_or-set_same, get_or-set_other, length-set, length-replicate, get_or-replicate}
use Rattle.hp_lattice.specs.declared.dist.Dist.{Dist}
use Rattle.hp_lattice.specs.declared.dist.Dist.TheVariants.{Rep, Var, Block}
use Rattle.hp_lattice.specs.Lattice.{is_below, met, raised}
use Rattle.hp_links.specs.Boards.{Linked, board, is_in, without}
use Rattle.hp_links.proofs.LinkLemmas.{in_without, not_in_without}
use Rattle.hp_air.specs.declared.constraint.Constraint.{Constraint}
use Rattle.hp_air.specs.declared.constraint.Relation.{Relation}
use Rattle.hp_air.specs.declared.constraint.Relation.TheVariants.{Same, Up, AtMost}
use Rattle.hp_air.specs.Constraints.{says}
use Rattle.hp_air.specs.Placed.{dist_at}
use Rattle.hp_air.specs.Solutions.{IsMet, AreMet, IsGreatest}
use Rattle.hp_infer.specs.declared.system.Side.TheVariants.{Low, High}
use Rattle.hp_infer.specs.Systems.{Problem, problem, constraint_at, names}
use Rattle.hp_infer.specs.Progress.{IsTurn, IsWork, height, is_whole, most, steps_at, steps_left, sum_below}
use Rattle.hp_infer.proofs.ChainLemmas.{in_range}

-- ---- the order of distributions

below_block : (a : Dist) → IsTrue (is_below a Block)
below_block Rep = refl
below_block Var = refl
below_block Block = refl

below_itself : (a : Dist) → IsTrue (is_below a a)
below_itself Rep = refl
below_itself Var = refl
below_itself Block = refl

-- a meet that is not below is the first itself
met_kept : (a b : Dist) → IsTrue (is_below a (met a b)) → met a b ≡ a
met_kept Rep b p = refl
met_kept Var Rep p = absurd cc
met_kept Var Var p = refl
met_kept Var Block p = refl
met_kept Block Rep p = absurd cc
met_kept Block Var p = absurd cc
met_kept Block Block p = refl

met_fell : (a x : Dist) → is_below a x ≡ false → x ≡ a → ⊥
met_fell a x fell same = both_ways (is_below a a) (subst (λ y. is_below a y ≡ false) same fell) (below_itself a)

below_met : (a b : Dist) → IsTrue (is_below (met a b) b)
below_met Rep b = refl
below_met Var Rep = refl
below_met Var Var = refl
below_met Var Block = refl
below_met Block Rep = refl
below_met Block Var = refl
below_met Block Block = refl

met_below : (a b : Dist) → IsTrue (is_below (met a b) a)
met_below Rep b = refl
met_below Var Rep = refl
met_below Var Var = refl
met_below Var Block = refl
met_below Block Rep = refl
met_below Block Var = refl
met_below Block Block = refl

met_most : (e a b : Dist) → IsTrue (is_below e a) → IsTrue (is_below e b) → IsTrue (is_below e (met a b))
met_most e a b below_a below_b = by_cases (is_below a b)
  where
    by_cases : (t : Bool) → IsTrue (is_below e (cond t a b))
    by_cases true = below_a
    by_cases false = below_b

-- a distribution that is not kept falls
falls : (a b : Dist) → (met a b ≡ a → ⊥) → height (met a b) + 1 ≤ height a
falls Rep b apart = absurd (apart refl)
falls Var Rep apart = omega arith
falls Var Var apart = absurd (apart refl)
falls Var Block apart = absurd (apart refl)
falls Block Rep apart = omega arith
falls Block Var apart = omega arith
falls Block Block apart = absurd (apart refl)

below_through : (a b c : Dist) → IsTrue (is_below a b) → IsTrue (is_below b c) → IsTrue (is_below a c)
below_through Rep b c p q = refl
below_through Var Rep c p q = absurd cc
below_through Var Var c p q = q
below_through Var Block Rep p q = absurd cc
below_through Var Block Var p q = absurd cc
below_through Var Block Block p q = refl
below_through Block Rep c p q = absurd cc
below_through Block Var c p q = absurd cc
below_through Block Block c p q = q

raised_rises : (a b : Dist) → IsTrue (is_below a b) → IsTrue (is_below (raised a) (raised b))
raised_rises Rep b p = refl
raised_rises Var Rep p = absurd cc
raised_rises Var Var p = refl
raised_rises Var Block p = refl
raised_rises Block Rep p = absurd cc
raised_rises Block Var p = absurd cc
raised_rises Block Block p = refl

-- ---- what a constraint says

says_most : (r : Relation) (low high : Dist) → IsTrue (is_below low (most r high)) → says r low high
says_most Same low high p = p
says_most Up low high p = p
says_most (AtMost limit) low high p = p

most_says : (r : Relation) (low high above : Dist) → says r low high → IsTrue (is_below high above) → IsTrue (is_below low (most r above))
most_says Same low high above p q = below_through low high above p q
most_says Up low high above p q = below_through low (raised high) (raised above) p (raised_rises high above q)
most_says (AtMost limit) low high above p q = p

says_lower : (r : Relation) (lower low high : Dist) → IsTrue (is_below lower low) → says r low high → says r lower high
says_lower Same lower low high p q = below_through lower low high p q
says_lower Up lower low high p q = below_through lower low (raised high) p q
says_lower (AtMost limit) lower low high p q = below_through lower low limit p q

says_whole : (r : Relation) (high : Dist) → says r Rep high
says_whole Same high = refl
says_whole Up high = refl
says_whole (AtMost limit) high = refl

is_rep : (d : Dist) → is_whole d ≡ true → d ≡ Rep
is_rep Rep p = refl
is_rep Var p = absurd cc
is_rep Block p = absurd cc

met_at : (d : ℕ → Dist) (cs : List Constraint) (k : ℕ) → AreMet d cs → k < length cs → IsMet d (constraint_at cs k)
met_at d [] k met within = absurd (omega arith)
met_at d (c ∷ cs) zero met within = met.0
met_at d (c ∷ cs) (suc k) met within = met_at d cs k met.1 (omega arith)

met_all : (d : ℕ → Dist) (cs : List Constraint) → ((k : ℕ) → k < length cs → IsMet d (constraint_at cs k)) → AreMet d cs
met_all d [] each = tt
met_all d (c ∷ cs) each = (each 0 (omega arith), met_all d cs (λ k within. each (suc k) (omega arith)))

-- ---- sums

pub sum_lower : (n : ℕ) (f g : ℕ → ℕ) → ((k : ℕ) → k < n → f k ≤ g k) → sum_below n f ≤ sum_below n g
unfolding sum_below
sum_lower zero f g each = omega arith
sum_lower (suc n) f g each = omega (arith, sum_lower n f g (λ k within. each k (omega arith)), each n (omega arith))

pub sum_less : (n : ℕ) (f g : ℕ → ℕ) (at : ℕ) → at < n → f at + 1 ≤ g at → ((k : ℕ) → k < n → f k ≤ g k) → sum_below n f + 1 ≤ sum_below n g
unfolding sum_below
sum_less zero f g at within less each = absurd (omega arith)
sum_less (suc n) f g at within less each = elim (cases_eq at n) [
  | inl same ↦ let last : f n + 1 ≤ g n = subst (λ m. f m + 1 ≤ g m) same less in omega (arith, sum_lower n f g (λ k short. each k (omega arith)), last)
  | inr apart ↦ omega (arith, sum_less n f g at (front at n within apart) less (λ k short. each k (omega arith)), each n (omega arith))
]
  where
    front : (a b : ℕ) → a < suc b → (a ≡ b → ⊥) → a < b
    front a b short apart = elim (cases_lt a b) [ inl below ↦ below | inr past ↦ absurd (apart (omega arith)) ]

pub sum_within : (n : ℕ) (f : ℕ → ℕ) → ((k : ℕ) → f k ≤ 3) → sum_below n f ≤ 3 * n
unfolding sum_below
sum_within zero f each = omega arith
sum_within (suc n) f each = omega (arith, sum_within n f each, each n)

-- ---- a turn that changes nothing

fewer : (at k : ℕ) (xs : List ℕ) → cond (is_in k (without at xs)) 1 0 ≤ cond (is_in k xs) 1 0
fewer at k xs = elim (cases_Bool (eqb at k)) [
  | inl same ↦ rw (subst (λ m. is_in m (without at xs) ≡ false) (eqb-true at k same) (not_in_without at xs)) (none (is_in k xs))
  | inr other ↦ rw (in_without k at xs other) (itself (is_in k xs))
]
  where
    none : (b : Bool) → 0 ≤ cond b 1 0
    none b = omega arith

    itself : (b : Bool) → cond b 1 0 ≤ cond b 1 0
    itself b = omega arith

gone : (at : ℕ) (xs : List ℕ) (h : ℕ) → is_in at xs ≡ true → cond (is_in at (without at xs)) 1 0 + h + 1 ≤ cond (is_in at xs) 1 0 + h
gone at xs h here = rw (not_in_without at xs, here) (omega arith)

turn_keeps : (p : Problem) (dists : List Dist) (b after : Linked) (at : ℕ) (dist : Dist) → IsWork p dists b → is_in at b.list ≡ true → at < b.nodes → after ≡ board b.nodes (without at b.list)
    → dist ≡ met (dist_at dists (constraint_at p.constraints at).low) (most (constraint_at p.constraints at).relation (dist_at dists (constraint_at p.constraints at).high))
    → dist ≡ dist_at dists (constraint_at p.constraints at).low
    → IsTurn p dists dists b after
turn_keeps p dists b after at dist work here within after_is dist_is same =
    rw after_is (record {
      work = record {
        nodes = work.nodes;
        each = work.each;
        settled = λ k short out. settled k short out;
        above = work.above;
        few_steps = omega (arith, less, work.few_steps);
      };
      left = less;
    })
  where
    less : steps_left p.constraints dists (without at b.list) + 1 ≤ steps_left p.constraints dists b.list
    less = sum_less (length p.constraints) (steps_at p.constraints dists (without at b.list)) (steps_at p.constraints dists b.list) at (subst (λ n. at < n) work.nodes within)
        (gone at b.list (height (dist_at dists (constraint_at p.constraints at).high)) here)
        (λ k short. omega (arith, fewer at k b.list))

    settled : (k : ℕ) → k < length p.constraints → is_in k (without at b.list) ≡ false → IsMet (dist_at dists) (constraint_at p.constraints k)
    settled k short out = elim (cases_Bool (eqb at k)) [
      | inl it ↦ subst (λ m. IsMet (dist_at dists) (constraint_at p.constraints m)) (eqb-true at k it)
          (says_most (constraint_at p.constraints at).relation (dist_at dists (constraint_at p.constraints at).low) (dist_at dists (constraint_at p.constraints at).high)
          (subst (λ m. IsTrue (is_below m (most (constraint_at p.constraints at).relation (dist_at dists (constraint_at p.constraints at).high)))) (sym dist_is ∙ same)
          (below_met (dist_at dists (constraint_at p.constraints at).low) (most (constraint_at p.constraints at).relation (dist_at dists (constraint_at p.constraints at).high)))))
      | inr other ↦ work.settled k short (sym (in_without k at b.list other) ∙ out)
    ]

-- ---- a turn in which an unknown falls

-- the distributions with that of one unknown lowered
lowered_at : (dists : List Dist) (u : ℕ) (dist : Dist) (v : ℕ) → u < length dists → dist_at (set dists u dist) v ≡ cond (eqb v u) dist (dist_at dists v)
lowered_at dists u dist v within = elim (cases_eq v u) [
  | inl same ↦ rw (eq-eqb v u same) (subst (λ m. dist_at (set dists u dist) m ≡ dist) (sym same) (get_or-set_same dists u dist Rep within))
  | inr apart ↦ rw (ne_eqb v u apart) (get_or-set_other dists u v dist Rep apart)
]

-- What a turn knows that takes the constraint at a place out: the unknown falls to `dist`, the constraints that read it
-- are linked, and where it lies whole those that bound it are taken out.
pub record Fall (p : Problem) (dists : List Dist) (b : Linked) (at : ℕ) (dist : Dist) (after : Linked) : Type 0 where
  pub work : IsWork p dists b
  pub here : is_in at b.list ≡ true
  pub within : at < length p.constraints
  pub low : (constraint_at p.constraints at).low < length dists
  pub high : (constraint_at p.constraints at).high < p.unknowns
  pub dist_is : dist ≡ met (dist_at dists (constraint_at p.constraints at).low) (most (constraint_at p.constraints at).relation (dist_at dists (constraint_at p.constraints at).high))
  pub apart : dist ≡ dist_at dists (constraint_at p.constraints at).low → ⊥
  pub nodes : after.nodes ≡ b.nodes
  pub does : (k : ℕ) → is_in k after.list
      ≡ (not (is_whole dist && names Low (constraint_at p.constraints at).low p.constraints k) && (names High (constraint_at p.constraints at).low p.constraints k || is_in k (without at b.list)))

and_parts_false : (a b c : Bool) → (not a && (b || c)) ≡ false → (a ≡ true) ⊎ ((b ≡ false) × (c ≡ false))
and_parts_false true b c out = inl refl
and_parts_false false true c out = absurd (both_ways true out refl)
and_parts_false false false c out = inr (refl, out)

both : (a b : Bool) → (a && b) ≡ true → (a ≡ true) × (b ≡ true)
both true b p = (refl, p)
both false b p = absurd (both_ways false refl p)

-- the constraint at a place reads no unknown that it does not name
not_named : (u : ℕ) (cs : List Constraint) (k : ℕ) → k < length cs → names High u cs k ≡ false → eqb (constraint_at cs k).high u ≡ false
not_named u cs k within out = ne_eqb (constraint_at cs k).high u (λ same. both_ways (names High u cs k) out (and_from (ltb k (length cs)) (eqb u (constraint_at cs k).high) (lt-ltb k (length cs) within) (eq-eqb u (constraint_at cs k).high (sym same))))

named : (u : ℕ) (cs : List Constraint) (k : ℕ) → names Low u cs k ≡ true → (constraint_at cs k).low ≡ u
named u cs k here = sym (eqb-true u (constraint_at cs k).low (both (ltb k (length cs)) (eqb u (constraint_at cs k).low) here).1)

says_lowered : (r : Relation) (b : Bool) (dist low high : Dist) → (b ≡ true → IsTrue (is_below dist low)) → says r low high → says r (cond b dist low) high
says_lowered r true dist low high lower holds = says_lower r dist low high (lower refl) holds
says_lowered r false dist low high lower holds = holds

lower_than : {p : Problem} {dists : List Dist} {b after : Linked} {at : ℕ} {dist : Dist} → Fall p dists b at dist after → IsTrue (is_below dist (dist_at dists (constraint_at p.constraints at).low))
lower_than {p} {dists} {b} {after} {at} f =
    subst (λ x. IsTrue (is_below x (dist_at dists (constraint_at p.constraints at).low))) (sym f.dist_is) (met_below (dist_at dists (constraint_at p.constraints at).low) _)

-- what held, or was evaluated, holds of the lowered distribution too
still_says : (p : Problem) (dists : List Dist) (b after : Linked) (at : ℕ) (dist : Dist) → Fall p dists b at dist after → (k : ℕ) → k < length p.constraints → is_in k (without at b.list) ≡ false
    → says (constraint_at p.constraints k).relation (cond (eqb (constraint_at p.constraints k).low (constraint_at p.constraints at).low) dist (dist_at dists (constraint_at p.constraints k).low)) (dist_at dists (constraint_at p.constraints k).high)
still_says p dists b after at dist f k short out = elim (cases_Bool (eqb at k)) [
  | inl it ↦ subst (λ m. says (constraint_at p.constraints m).relation (cond (eqb (constraint_at p.constraints m).low (constraint_at p.constraints at).low) dist (dist_at dists (constraint_at p.constraints m).low)) (dist_at dists (constraint_at p.constraints m).high)) (eqb-true at k it)
      (rw (eq-eqb (constraint_at p.constraints at).low (constraint_at p.constraints at).low refl)
      (says_most (constraint_at p.constraints at).relation dist (dist_at dists (constraint_at p.constraints at).high)
      (subst (λ x. IsTrue (is_below x (most (constraint_at p.constraints at).relation (dist_at dists (constraint_at p.constraints at).high)))) (sym f.dist_is)
      (below_met (dist_at dists (constraint_at p.constraints at).low) (most (constraint_at p.constraints at).relation (dist_at dists (constraint_at p.constraints at).high))))))
  | inr other ↦ says_lowered (constraint_at p.constraints k).relation (eqb (constraint_at p.constraints k).low (constraint_at p.constraints at).low) dist (dist_at dists (constraint_at p.constraints k).low) (dist_at dists (constraint_at p.constraints k).high)
      (λ same. subst (λ v. IsTrue (is_below dist (dist_at dists v))) (sym (eqb-true (constraint_at p.constraints k).low (constraint_at p.constraints at).low same)) (lower_than f))
      (f.work.settled k short (sym (in_without k at b.list other) ∙ out))
]

-- the constraints that are not linked then hold
fall_settled : (p : Problem) (dists : List Dist) (b after : Linked) (at : ℕ) (dist : Dist) → Fall p dists b at dist after → (k : ℕ) → k < length p.constraints → is_in k after.list ≡ false
    → IsMet (dist_at (set dists (constraint_at p.constraints at).low dist)) (constraint_at p.constraints k)
fall_settled p dists b after at dist f k short out =
    let u = (constraint_at p.constraints at).low in
    let of = constraint_at p.constraints k in
    elim (and_parts_false (is_whole dist && names Low u p.constraints k) (names High u p.constraints k) (is_in k (without at b.list)) (sym (f.does k) ∙ out)) [
      | inl whole ↦
          let parts = both (is_whole dist) (names Low u p.constraints k) whole in
          rw (named u p.constraints k parts.1, lowered_at dists u dist u f.low, eq-eqb u u refl, is_rep dist parts.0)
          (says_whole of.relation (dist_at (set dists u Rep) of.high))
      | inr parts ↦
          rw (lowered_at dists u dist of.high f.low, not_named u p.constraints k short parts.0, lowered_at dists u dist of.low f.low)
          (still_says p dists b after at dist f k short parts.1)
    ]

-- no solution lies above
fall_above : (p : Problem) (dists : List Dist) (b after : Linked) (at : ℕ) (dist : Dist) → Fall p dists b at dist after → (e : ℕ → Dist) → AreMet e p.constraints → (v : ℕ) → v < p.unknowns
    → IsTrue (is_below (e v) (dist_at (set dists (constraint_at p.constraints at).low dist) v))
fall_above p dists b after at dist f e met_all_of v within =
    let c = constraint_at p.constraints at in
    let u_within : c.low < p.unknowns = subst (λ n. c.low < n) f.work.each f.low in
    rw (lowered_at dists c.low dist v f.low)
    (elim (cases_Bool (eqb v c.low)) [
      | inl same ↦ rw (same, eqb-true v c.low same, f.dist_is)
          (met_most (e c.low) (dist_at dists c.low) (most c.relation (dist_at dists c.high)) (f.work.above e met_all_of c.low u_within)
          (most_says c.relation (e c.low) (e c.high) (dist_at dists c.high) (met_at e p.constraints at met_all_of f.within) (f.work.above e met_all_of c.high f.high)))
      | inr other ↦ rw other (f.work.above e met_all_of v within)
    ])

one_or_none : (t : Bool) → cond t 1 0 ≤ 1
one_or_none true = omega arith
one_or_none false = omega arith

dropped : (t s : Bool) → cond (t && s) 1 0 ≤ cond s 1 0
dropped true s = omega arith
dropped false true = omega arith
dropped false false = omega arith

-- a constraint that is not read anew is linked only where it was
not_read : (u : ℕ) (cs : List Constraint) (k : ℕ) → eqb (constraint_at cs k).high u ≡ false → names High u cs k ≡ false
not_read u cs k other = rw (ne_eqb u (constraint_at cs k).high (λ same. both_ways (eqb (constraint_at cs k).high u) other (eq-eqb (constraint_at cs k).high u (sym same)))) (and_none (ltb k (length cs)))
  where
    and_none : (t : Bool) → (t && false) ≡ false
    and_none true = refl
    and_none false = refl

module _ (p : Problem) (dists : List Dist) (b after : Linked) (at : ℕ) (dist : Dist) (f : Fall p dists b at dist after) where
  height_falls : height dist + 1 ≤ height (dist_at dists (constraint_at p.constraints at).low)
  height_falls =
      let c = constraint_at p.constraints at in
      subst (λ x. height x + 1 ≤ height (dist_at dists c.low)) (sym f.dist_is)
      (falls (dist_at dists c.low) (most c.relation (dist_at dists c.high)) (λ e. f.apart (f.dist_is ∙ e)))

  -- where a constraint reads the unknown, one step more is paid for by the fall
  read_steps : (k : ℕ) → eqb (constraint_at p.constraints k).high (constraint_at p.constraints at).low ≡ true
      → steps_at p.constraints (set dists (constraint_at p.constraints at).low dist) after.list k ≤ height (dist_at dists (constraint_at p.constraints k).high)
  read_steps k same =
      let c = constraint_at p.constraints at in
      let of = constraint_at p.constraints k in
      rw (lowered_at dists c.low dist of.high f.low, same, eqb-true of.high c.low same) (omega (arith, one_or_none (is_in k after.list), height_falls))

  other_steps : (k : ℕ) → eqb (constraint_at p.constraints k).high (constraint_at p.constraints at).low ≡ false
      → steps_at p.constraints (set dists (constraint_at p.constraints at).low dist) after.list k ≤ cond (is_in k (without at b.list)) 1 0 + height (dist_at dists (constraint_at p.constraints k).high)
  other_steps k other =
      let c = constraint_at p.constraints at in
      let of = constraint_at p.constraints k in
      rw (lowered_at dists c.low dist of.high f.low, other, f.does k, not_read c.low p.constraints k other)
      (omega (arith, dropped (not (is_whole dist && names Low c.low p.constraints k)) (is_in k (without at b.list))))

  each_step : (k : ℕ) → steps_at p.constraints (set dists (constraint_at p.constraints at).low dist) after.list k ≤ steps_at p.constraints dists b.list k
  each_step k = elim (cases_Bool (eqb (constraint_at p.constraints k).high (constraint_at p.constraints at).low)) [
    | inl same ↦ omega (arith, read_steps k same)
    | inr other ↦ omega (arith, other_steps k other, fewer at k b.list)
  ]

  this_step : steps_at p.constraints (set dists (constraint_at p.constraints at).low dist) after.list at + 1 ≤ steps_at p.constraints dists b.list at
  this_step = rw f.here (elim (cases_Bool (eqb (constraint_at p.constraints at).high (constraint_at p.constraints at).low)) [
    | inl same ↦ omega (arith, read_steps at same)
    | inr other ↦ let h = rw (not_in_without at b.list) at (other_steps at other) in omega (arith, h)
  ])

  fall_steps : steps_left p.constraints (set dists (constraint_at p.constraints at).low dist) after.list + 1 ≤ steps_left p.constraints dists b.list
  fall_steps = sum_less (length p.constraints) (steps_at p.constraints (set dists (constraint_at p.constraints at).low dist) after.list) (steps_at p.constraints dists b.list) at f.within this_step (λ k short. each_step k)

  turn_falls : IsTurn p dists (set dists (constraint_at p.constraints at).low dist) b after
  turn_falls = record {
    work = record {
      nodes = f.nodes ∙ f.work.nodes;
      each = length-set dists (constraint_at p.constraints at).low dist ∙ f.work.each;
      settled = fall_settled p dists b after at dist f;
      above = fall_above p dists b after at dist f;
      few_steps = omega (arith, fall_steps, f.work.few_steps);
    };
    left = fall_steps;
  }

-- ---- turns as they are made

-- What a turn has evaluated: the constraint at a place, by the distributions.
pub record Evaluated (p : Problem) (dists one two : List Dist) (b taken : Linked) (at : ℕ) (of : Constraint) (dist : Dist) : Type 0 where
  pub work : IsWork p dists b
  pub here : is_in at b.list ≡ true
  pub within : at < b.nodes
  pub taken_is : taken ≡ board b.nodes (without at b.list)
  pub of_is : of ≡ constraint_at p.constraints at
  pub low : of.low < p.unknowns
  pub high : of.high < p.unknowns
  pub one_is : one ≡ dists
  pub two_is : two ≡ dists
  pub dist_is : dist ≡ met (dist_at one of.low) (most of.relation (dist_at one of.high))

evaluated : {p : Problem} {dists one two : List Dist} {b taken : Linked} {at : ℕ} {of : Constraint} {dist : Dist} → Evaluated p dists one two b taken at of dist
    → dist ≡ met (dist_at dists (constraint_at p.constraints at).low) (most (constraint_at p.constraints at).relation (dist_at dists (constraint_at p.constraints at).high))
evaluated {p} {dists} {one} {two} {b} {taken} {at} {of} {dist} v =
    v.dist_is ∙ ap (λ (l : List Dist). met (dist_at l of.low) (most of.relation (dist_at l of.high))) v.one_is
    ∙ ap (λ (o : Constraint). met (dist_at dists o.low) (most o.relation (dist_at dists o.high))) v.of_is

compared : {p : Problem} {dists one two : List Dist} {b taken : Linked} {at : ℕ} {of : Constraint} {dist : Dist} → Evaluated p dists one two b taken at of dist
    → (t : Bool) → is_below (dist_at two of.low) dist ≡ t → is_below (dist_at dists (constraint_at p.constraints at).low) dist ≡ t
compared {p} {dists} {one} {two} {b} {taken} {at} {of} {dist} v t below =
    ap (λ (o : Constraint). is_below (dist_at dists o.low) dist) (sym v.of_is) ∙ ap (λ (l : List Dist). is_below (dist_at l of.low) dist) (sym v.two_is) ∙ below

pub kept : {p : Problem} {dists one two : List Dist} {b taken : Linked} {at : ℕ} {of : Constraint} {dist : Dist} → Evaluated p dists one two b taken at of dist → is_below (dist_at two of.low) dist ≡ true
    → IsTurn p dists dists b taken
kept {p} {dists} {one} {two} {b} {taken} {at} {of} {dist} v below =
    let a = dist_at dists (constraint_at p.constraints at).low in
    let most_is = most (constraint_at p.constraints at).relation (dist_at dists (constraint_at p.constraints at).high) in
    turn_keeps p dists b taken at dist v.work v.here v.within v.taken_is (evaluated v)
    (evaluated v ∙ met_kept a most_is (subst (λ x. IsTrue (is_below a x)) (evaluated v) (compared v true below)))

pub fell : {p : Problem} {dists one two : List Dist} {b taken : Linked} {at : ℕ} {of : Constraint} {dist : Dist} → Evaluated p dists one two b taken at of dist → is_below (dist_at two of.low) dist ≡ false
    → (read after : Linked) (made : List Dist) → made ≡ set dists of.low dist
    → read.nodes ≡ taken.nodes → ((k : ℕ) → is_in k read.list ≡ (names High of.low p.constraints k || is_in k taken.list))
    → after.nodes ≡ read.nodes → ((k : ℕ) → is_in k after.list ≡ (not (is_whole dist && names Low of.low p.constraints k) && is_in k read.list))
    → IsTurn p dists made b after
fell {p} {dists} {one} {two} {b} {taken} {at} {of} {dist} v below read after made made_is read_nodes reads after_nodes stays =
    rw (made_is, v.of_is) (turn_falls p dists b after at dist (record {
      work = v.work;
      here = v.here;
      within = subst (λ n. at < n) v.work.nodes v.within;
      low = subst (λ (o : Constraint). o.low < length dists) v.of_is (subst (λ n. of.low < n) (sym v.work.each) v.low);
      high = subst (λ (o : Constraint). o.high < p.unknowns) v.of_is v.high;
      dist_is = evaluated v;
      apart = met_fell (dist_at dists (constraint_at p.constraints at).low) dist (compared v false below);
      nodes = after_nodes ∙ read_nodes ∙ ap (λ (l : Linked). l.nodes) v.taken_is;
      does = λ k. subst (λ (o : Constraint). is_in k after.list ≡ (not (is_whole dist && names Low o.low p.constraints k) && (names High o.low p.constraints k || is_in k (without at b.list)))) v.of_is
          (stays k ∙ ap (λ t. not (is_whole dist && names Low of.low p.constraints k) && t) (reads k ∙ ap (λ (l : Linked). names High of.low p.constraints k || is_in k l.list) v.taken_is));
    }))

-- ---- the start and the end

pub work_starts : (cs : List Constraint) (unknowns : ℕ) → IsWork (problem cs unknowns) (replicate unknowns Block) (board (length cs) (range_with_len 0 (length cs)))
work_starts cs unknowns = record {
  nodes = refl;
  each = length-replicate unknowns Block;
  settled = λ k short out. absurd (both_ways (is_in k (range_with_len 0 (length cs))) out (in_range k (length cs) ∙ lt-ltb k (length cs) short));
  above = λ e met_all_of u within. rw (get_or-replicate unknowns u Block Rep within) (below_block (e u));
  few_steps = sum_within (length cs) (steps_at cs (replicate unknowns Block) (range_with_len 0 (length cs))) (λ k. at_most_three (is_in k (range_with_len 0 (length cs))) (dist_at (replicate unknowns Block) (constraint_at cs k).high));
}
  where
    at_most_three : (t : Bool) (d : Dist) → cond t 1 0 + height d ≤ 3
    at_most_three true Rep = omega arith
    at_most_three true Var = omega arith
    at_most_three true Block = omega arith
    at_most_three false Rep = omega arith
    at_most_three false Var = omega arith
    at_most_three false Block = omega arith

pub work_ends : (p : Problem) (dists : List Dist) (b : Linked) → IsWork p dists b → b.list ≡ [] → IsGreatest (length dists) p.constraints (dist_at dists)
work_ends p dists b work none = record {
  solution = met_all (dist_at dists) p.constraints (λ k short. work.settled k short (ap (is_in k) none));
  greatest = λ e met_all_of u within. work.above e met_all_of u (subst (λ n. u < n) work.each within);
}
