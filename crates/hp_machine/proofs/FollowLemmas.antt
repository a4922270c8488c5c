-- Turns of a call, one more at a time.
use Rattle.std.proofs.Common.{◌≡◌, ◌∙◌, refl, sym, subst, ap, arith, ℕ, zero, suc, ◌+◌, ◌-◌, ◌<◌, List, [], ◌∷◌, ◌++◌, append-nil, append_assoc, length, length-append, Option}
use Rattle.std.specs.Prelude.{IfSome}
use Rattle.std.proofs.lemmas.List.Elements.{All-nil, All-push}
use Rattle.hp_outside.specs.Counts.{counted_on, last_count}
use Rattle.hp_network.specs.Network.{Machine, State, run, turn}
use Rattle.hp_network.proofs.States.{run_more}
use Rattle.hp_machine.specs.Follows.{AreNamed, Follows, Takes}

-- one more number, which the order names
named_more : (order : ℕ → Option ℕ) (k : ℕ) (rs : List ℕ) (r : ℕ) → AreNamed order k rs → (k + length rs < last_count → IfSome (order (k + length rs)) (λ n. r ≡ n)) → AreNamed order k (rs ++ r ∷ [])
named_more order k [] r h named =
    let e : k + 0 ≡ k = omega arith in
    (λ lt. subst (λ j. IfSome (order j) (λ n. r ≡ n)) e (named (subst (λ j. j < last_count) (sym e) lt)), tt)
named_more order k (x ∷ xs) r h named =
    let e : k + suc (length xs) ≡ suc k + length xs = omega arith in
    (h.0, named_more order (suc k) xs r h.1 (λ lt. subst (λ j. IfSome (order j) (λ n. r ≡ n)) e (named (subst (λ j. j < last_count) (sym e) lt))))

-- lists that end in one item each are the same before it
front_is : (xs ys : List ℕ) (x y : ℕ) → xs ++ x ∷ [] ≡ ys ++ y ∷ [] → xs ≡ ys
front_is [] [] x y e = refl
front_is [] (b ∷ bs) x y e = let l = ap length e in let g = length-append bs (y ∷ []) in absurd (omega (arith, l, g))
front_is (a ∷ as_) [] x y e = let l = ap length e in let g = length-append as_ (x ∷ []) in absurd (omega (arith, l, g))
front_is (a ∷ as_) (b ∷ bs) x y e = (λ i. head_is i ∷ front_is as_ bs x y tail_is i)
  where
    head_is : a ≡ b
    head_is = cc

    tail_is : as_ ++ x ∷ [] ≡ bs ++ y ∷ []
    tail_is = cc

-- below its last value, a count has risen by what was counted
pub counts_on : (n k : ℕ) → n + k < last_count → counted_on n k ≡ n + k
counts_on n zero lt = omega arith
counts_on n (suc k) lt = let h = counts_on n k (omega (arith, lt)) in omega (arith, h, lt)

module _ {X : Type 0} (m : Machine X) (order : ℕ → Option ℕ) (asked : ℕ) (s : State X) (before : List ℕ) where
  -- no turn yet
  pub follows_none : Follows m order asked s s before before
  unfolding run
  follows_none =
      record {
        turns = [];
        appended = sym (append-nil before);
        among = All-nil (λ r. r < length s.ranks);
        named = tt;
        state = refl;
        quiet = λ front last is. let l = ap length is in let g = length-append front (last ∷ []) in absurd (omega (arith, l, g));
      }

  -- the turns of a call that has written nothing yet, and one more
  pub follows_more : (order2 : ℕ → Option ℕ) (asked2 : ℕ) (mid later : State X) (now after : List ℕ) → ((k : ℕ) → order2 k ≡ order k) → asked2 ≡ counted_on asked (length now - length before)
      → length mid.ranks ≡ length s.ranks → mid.out ≡ s.out
      → Follows m order asked s mid before now → Takes m order2 asked2 mid later now after → Follows m order asked s later before after
  unfolding run
  follows_more order2 asked2 mid later now after same counted ranks out h one =
      let made : length now - length before ≡ length h.turns = let l = ap length h.appended in let g = length-append before h.turns in omega (arith, l, g) in
      record {
        turns = h.turns ++ one.rank ∷ [];
        appended = one.appended ∙ ap (λ l. l ++ one.rank ∷ []) h.appended ∙ append_assoc before h.turns (one.rank ∷ []);
        among = All-push (λ r. r < length s.ranks) h.turns one.rank h.among (subst (λ n. one.rank < n) ranks one.among);
        named = named_more order asked h.turns one.rank h.named (λ lt.
            let at : asked2 ≡ asked + length h.turns = counted ∙ ap (counted_on asked) made ∙ counts_on asked (length h.turns) lt in
            subst (λ j. IfSome (order j) (λ n. one.rank ≡ n)) at (subst (λ o. IfSome o (λ n. one.rank ≡ n)) (same asked2) (one.named (subst (λ j. j < last_count) (sym at) lt))));
        state = one.state ∙ ap (λ z. turn m z one.rank) h.state ∙ sym (run_more m h.turns (one.rank ∷ []) s);
        quiet = λ front last is. ap (λ l. (run m s l).out) (sym (front_is h.turns front one.rank last is)) ∙ ap (λ z. z.out) (sym h.state) ∙ out;
      }

-- the state is still one that comes from the start by the turns since then
pub follows_run : {X : Type 0} (m : Machine X) (order : ℕ → Option ℕ) (asked : ℕ) (first s later : State X) (before after : List ℕ) → s ≡ run m first before → Follows m order asked s later before after → later ≡ run m first after
follows_run m order asked first s later before after is h =
    h.state ∙ ap (λ z. run m z h.turns) is ∙ sym (run_more m before h.turns first) ∙ ap (run m first) (sym h.appended)
