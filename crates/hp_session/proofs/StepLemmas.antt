-- What the turns of one call add to those before it: numbers that the order names, how often it was asked, and what was written.
use Rattle.std.proofs.Common.{◌≡◌, ◌∙◌, refl, sym, subst, ap, arith, ℕ, zero, suc, ◌+◌, ◌-◌, ◌<◌, ◌≤◌, ltb, ltb-true, ltb-false, Bool, true, false, List, [], ◌∷◌, ◌++◌, append-nil, append_assoc, length, length-append, take, drop, Option, ◌⊎◌, inl, inr}
use Rattle.std.proofs.Math.Seq.{drop-append_seam}
use Rattle.std.specs.Prelude.{IfSome}
use Rattle.hp_network.specs.Network.{Machine, State, run, turn}
use Rattle.hp_network.proofs.States.{run_more}
use Rattle.hp_outside.specs.Counts.{counted, counted_on, last_count}
use Rattle.hp_outside.specs.Outside.{Grew, grown}
use Rattle.hp_outside.proofs.Growth.{grown_append}
use Rattle.hp_machine.specs.Follows.{AreNamed, Follows}
use Rattle.hp_machine.proofs.FollowLemmas.{counts_on}
use Rattle.hp_machine.proofs.MoveLemmas.{turn_text}
use Rattle.hp_session.specs.Playing.{FallsShort, TookBy}

-- ---- lists and counts

-- a list is empty or has a last item
pub last_of : (xs : List ℕ) → (xs ≡ []) ⊎ ((front : List ℕ) × (last : ℕ) × (xs ≡ front ++ last ∷ []))
last_of [] = inl refl
last_of (x ∷ xs) = behind (last_of xs)
  where
    behind : (xs ≡ []) ⊎ ((front : List ℕ) × (last : ℕ) × (xs ≡ front ++ last ∷ [])) → (x ∷ xs ≡ []) ⊎ ((front : List ℕ) × (last : ℕ) × (x ∷ xs ≡ front ++ last ∷ []))
    behind (inl e) = inr ([], x, ap (λ l. x ∷ l) e)
    behind (inr h) = inr (x ∷ h.0, h.1, ap (λ l. x ∷ l) h.2)

-- counted on by so many, and then by more
pub counted_more : (n j k : ℕ) → counted_on (counted_on n j) k ≡ counted_on n (j + k)
counted_more n j zero = let e : j + 0 ≡ j = omega arith in sym (ap (counted_on n) e)
counted_more n j (suc k) = let e : j + suc k ≡ suc (j + k) = omega arith in ap counted (counted_more n j k) ∙ sym (ap (counted_on n) e)

-- what was added to a list
pub made_is : (before now turns : List ℕ) → now ≡ before ++ turns → length now - length before ≡ length turns
made_is before now turns is = let l = ap length is in let g = length-append before turns in omega (arith, l, g)

-- ---- numbers that the order names

-- past its last count an order names nothing
named_past : (order : ℕ → Option ℕ) (n : ℕ) (rs : List ℕ) → last_count ≤ n → AreNamed order n rs
named_past order n [] le = tt
named_past order n (r ∷ rs) le = (λ lt. absurd (omega (arith, lt, le)), named_past order (suc n) rs (omega (arith, le)))

named_at : (order : ℕ → Option ℕ) (asked k : ℕ) (rs : List ℕ) → AreNamed order (counted_on asked k) rs → AreNamed order (asked + k) rs
named_at order asked k rs h = by (ltb (asked + k) last_count) refl
  where
    by : (b : Bool) → ltb (asked + k) last_count ≡ b → AreNamed order (asked + k) rs
    by true q = subst (λ n. AreNamed order n rs) (counts_on asked k (ltb-true (asked + k) last_count q)) h
    by false q = let le = ltb-false (asked + k) last_count q in named_past order (asked + k) rs (omega (arith, le))

named_join : (order : ℕ → Option ℕ) (n : ℕ) (xs ys : List ℕ) → AreNamed order n xs → AreNamed order (n + length xs) ys → AreNamed order n (xs ++ ys)
named_join order n [] ys h more = let e : n + 0 ≡ n = omega arith in subst (λ k. AreNamed order k ys) e more
named_join order n (x ∷ xs) ys h more =
    let e : n + suc (length xs) ≡ suc n + length xs = omega arith in
    (h.0, named_join order (suc n) xs ys h.1 (subst (λ k. AreNamed order k ys) e more))

-- the numbers of a call behind those before it
pub named_append : (order : ℕ → Option ℕ) (asked : ℕ) (xs ys : List ℕ) → AreNamed order asked xs → AreNamed order (counted_on asked (length xs)) ys → AreNamed order asked (xs ++ ys)
named_append order asked xs ys h more = named_join order asked xs ys h (named_at order asked (length xs) ys more)

-- orders that are the same name the same
pub named_same : (order order2 : ℕ → Option ℕ) (n : ℕ) (rs : List ℕ) → ((k : ℕ) → order2 k ≡ order k) → AreNamed order2 n rs → AreNamed order n rs
named_same order order2 n [] same h = tt
named_same order order2 n (r ∷ rs) same h = (λ lt. subst (λ o. IfSome o (λ k. r ≡ k)) (same n) (h.0 lt), named_same order order2 (suc n) rs same h.1)

-- ---- what was written

-- turns add this text
pub run_text : {X : Type 0} (m : Machine X) (rs : List ℕ) (s : State X) → (text : List ℕ) × ((run m s rs).out ≡ s.out ++ text)
unfolding run
run_text m [] s = ([], sym (append-nil s.out))
run_text m (r ∷ rs) s =
    let first = turn_text m s r in
    let rest = run_text m rs (turn m s r) in
    (first.0 ++ rest.0, rest.1 ∙ ap (λ out. out ++ rest.0) first.1 ∙ append_assoc s.out first.0 rest.0)

-- so do those of a call, and it stands behind what was written before
pub call_text : {X : Type 0} (m : Machine X) (order : ℕ → Option ℕ) (asked : ℕ) (s later : State X) (before after : List ℕ) → Follows m order asked s later before after
    → (later.out ≡ s.out ++ drop (length s.out) later.out) × (length s.out ≤ length later.out)
call_text m order asked s later before after h =
    let text = run_text m h.turns s in
    let is : later.out ≡ s.out ++ text.0 = ap (λ z. z.out) h.state ∙ text.1 in
    let rest : drop (length s.out) later.out ≡ text.0 = ap (drop (length s.out)) is ∙ drop-append_seam s.out text.0 in
    let l = ap length is in
    let g = length-append s.out text.0 in
    (is ∙ ap (λ t. s.out ++ t) (sym rest), omega (arith, l, g))

-- ---- what the sink took

pub grew_behind : (old mid new : Option (List ℕ)) (a b : List ℕ) → Grew old mid a → Grew mid new b → Grew old new (a ++ b)
grew_behind old mid new a b first next = next ∙ ap (λ (was : Option (List ℕ)). grown was b) first ∙ grown_append old a b

no_turns : {X : Type 0} (m : Machine X) (s later : State X) (rs : List ℕ) → rs ≡ [] → later ≡ run m s rs → later.out ≡ s.out
unfolding run
no_turns m s later rs none is = ap (λ z. z.out) is ∙ ap (λ l. (run m s l).out) none

-- a call in which something was written made a turn
pub call_longer : {X : Type 0} (m : Machine X) (order : ℕ → Option ℕ) (asked : ℕ) (s later : State X) (before after : List ℕ) → Follows m order asked s later before after → length s.out < length later.out → length before < length after
call_longer m order asked s later before after h wrote = by h.turns refl
  where
    by : (rs : List ℕ) → h.turns ≡ rs → length before < length after
    by [] e = let none = ap length (no_turns m s later h.turns e h.state) in absurd (omega (arith, none, wrote))
    by (r ∷ rs) e = let l = ap length (h.appended ∙ ap (λ l. before ++ l) e) in let g = length-append before (r ∷ rs) in omega (arith, l, g)

-- a call wrote, and the sink took a shorter front of that
pub falls_short : {X : Type 0} (m : Machine X) (order : ℕ → Option ℕ) (asked : ℕ) (first s later : State X) (before after : List ℕ) (old mid new : Option (List ℕ))
    → s ≡ run m first before → later ≡ run m first after → Follows m order asked s later before after
    → Grew old mid s.out → TookBy s.out later.out mid new true → FallsShort m first after old new
falls_short m order asked first s later before after old mid new was is h took part = by (last_of h.turns)
  where
    by : (h.turns ≡ []) ⊎ ((front : List ℕ) × (last : ℕ) × (h.turns ≡ front ++ last ∷ [])) → FallsShort m first after old new
    by (inl e) =
        let none = no_turns m s later h.turns e h.state in
        let l = ap length (sym none ∙ part.1) in
        let g = length-append s.out part.0 in
        let some = part.3 in
        absurd (omega (arith, l, g, some))
    by (inr e) =
        let quiet : (run m first (before ++ e.0)).out ≡ s.out = ap (λ z. z.out) (run_more m before e.0 first ∙ ap (λ z. run m z e.0) (sym was)) ∙ h.quiet e.0 e.1 e.2 in
        record {
          before = before ++ e.0;
          last = e.1;
          turns = h.appended ∙ ap (λ l. before ++ l) e.2 ∙ sym (append_assoc before e.0 (e.1 ∷ []));
          text = part.0;
          wrote = ap (λ z. z.out) (sym is) ∙ part.1 ∙ ap (λ out. out ++ part.0) (sym quiet);
          part = part.2;
          shorter = part.3;
          took = grew_behind old mid new s.out (take part.2 part.0) took part.4 ∙ ap (λ out. grown old (out ++ take part.2 part.0)) (sym quiet);
        }
