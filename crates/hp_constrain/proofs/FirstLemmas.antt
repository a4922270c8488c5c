-- The first slot of a slot's frame is the first that is of its expression, or of its variable.
use Rattle.std.proofs.Common.{◌≡◌, ℕ, zero, suc, ◌+◌, ◌<◌, nat_eq, nat_lt, Bool, true, false, not, ◌&&◌, ◌||◌, cond, List, [], ◌∷◌, ◌++◌, take, get_or, length, Option, Some, None, position, unwrap_or, IsTrue, refl, sym, ap, ◌∙◌, arith}
use Rattle.std.proofs.lemmas.Bool.{eq-eqb, eqb-true}
use Rattle.std.proofs.lemmas.Cmp.{nat_eq_equiv}
use Rattle.std.proofs.lemmas.List.{get_or_default, length-take-le}
use Rattle.std.specs.List.{position_or_len}
use Rattle.std.specs.Option.{is_some}
use Rattle.hp_word.specs.declared.place.NodeId.{NodeId}
use Rattle.hp_air.specs.declared.slot.Slot.{Slot}
use Rattle.hp_air.specs.Frames.{slot_at, is_one_node, is_one_var, is_one_frame, first_of}
use Rattle.hp_air.specs.Kept.{stands_for_one}
use Rattle.hp_constrain.specs.Firsts.{is_of_node, is_of_var}

-- ---- positions

-- a position, one place further
abbrev later : Option ℕ → Option ℕ
later None = None
later (Some k) = Some (suc k)

one_more : (n : ℕ) → 1 + n ≡ suc n
one_more n = omega arith

lt_more : (m n : ℕ) → nat_lt (suc m) (suc n) ≡ nat_lt m n
lt_more m n = grind arith

lt_none : (n : ℕ) → nat_lt 0 (suc n) ≡ true
lt_none n = grind arith

-- the first place of a list is the first of its rest, one further, unless it is the first item
position_cons : {X : Type 0} (p : X → Bool) (x : X) (xs : List X) → position p (x ∷ xs) ≡ cond (p x) (Some 0) (later (position p xs))
position_cons p x xs = by (p x) (nat_lt (position_or_len p xs) (length xs)) refl
  where
    by : (here found : Bool) → nat_lt (position_or_len p xs) (length xs) ≡ found
        → cond (nat_lt (cond (not here) (1 + position_or_len p xs) 0) (suc (length xs))) (Some (cond (not here) (1 + position_or_len p xs) 0)) None
        ≡ cond here (Some 0) (later (cond (nat_lt (position_or_len p xs) (length xs)) (Some (position_or_len p xs)) None))
    by true found e = rw (lt_none (length xs)) refl
    by false true e = rw (one_more (position_or_len p xs), lt_more (position_or_len p xs) (length xs), e) refl
    by false false e = rw (one_more (position_or_len p xs), lt_more (position_or_len p xs) (length xs), e) refl

-- one more item at the end
pub position_last : {X : Type 0} (p : X → Bool) (xs : List X) (x : X) → position p (xs ++ x ∷ []) ≡ cond (p x) (Some (unwrap_or (position p xs) (length xs))) (position p xs)
position_last p [] x = by (p x) refl
  where
    by : (here : Bool) → p x ≡ here → position p (x ∷ []) ≡ cond (p x) (Some 0) None
    by true e = position_cons p x [] ∙ rw e refl
    by false e = position_cons p x [] ∙ rw e refl
position_last p (y ∷ ys) x =
    position_cons p y (ys ++ x ∷ [])
    ∙ ap (λ (o : Option ℕ). cond (p y) (Some 0) (later o)) (position_last p ys x)
    ∙ by (p y) (p x) (position p ys)
    ∙ ap (λ (o : Option ℕ). cond (p x) (Some (unwrap_or o (suc (length ys)))) o) (sym (position_cons p y ys))
  where
    by : (first last : Bool) (o : Option ℕ) → cond first (Some 0) (later (cond last (Some (unwrap_or o (length ys))) o))
        ≡ cond last (Some (unwrap_or (cond first (Some 0) (later o)) (suc (length ys)))) (cond first (Some 0) (later o))
    by true true o = refl
    by true false o = refl
    by false true None = refl
    by false true (Some k) = refl
    by false false o = refl

-- a place, or the length where there is none
pub place_or_length : {X : Type 0} (p : X → Bool) (xs : List X) → unwrap_or (position p xs) (length xs) ≡ position_or_len p xs
place_or_length p [] = refl
place_or_length p (x ∷ xs) = ap (λ (o : Option ℕ). unwrap_or o (suc (length xs))) (position_cons p x xs) ∙ by (p x) (position p xs) (place_or_length p xs)
  where
    by : (here : Bool) (o : Option ℕ) → unwrap_or o (length xs) ≡ position_or_len p xs
        → unwrap_or (cond here (Some 0) (later o)) (suc (length xs)) ≡ cond (not here) (1 + position_or_len p xs) 0
    by true o e = refl
    by false None e = ap suc e ∙ sym (one_more (position_or_len p xs))
    by false (Some k) e = ap suc e ∙ sym (one_more (position_or_len p xs))

-- the first that passes is looked for no further than to one that passes
upto : {X : Type 0} (p : X → Bool) (xs : List X) (k : ℕ) (x : X) → k < length xs → x ≡ get_or xs k x → p x ≡ true → position p xs ≡ Some (position_or_len p (take k xs))
upto p [] k x lt is pass = absurd (omega arith)
upto p (y ∷ ys) zero x lt is pass = position_cons p y ys ∙ ap (λ (b : Bool). cond b (Some 0) (later (position p ys))) (ap p (sym is) ∙ pass)
upto p (y ∷ ys) (suc k) x lt is pass =
    position_cons p y ys ∙ ap (λ (o : Option ℕ). cond (p y) (Some 0) (later o)) (upto p ys k x (omega arith) is pass) ∙ by (p y)
  where
    by : (here : Bool) → cond here (Some 0) (later (Some (position_or_len p (take k ys)))) ≡ Some (cond (not here) (1 + position_or_len p (take k ys)) 0)
    by true = refl
    by false = ap (λ (n : ℕ). Some n) (sym (one_more (position_or_len p (take k ys))))

-- where none passes
none_pass : {X : Type 0} (p : X → Bool) (xs : List X) → ((x : X) → p x ≡ false) → position p xs ≡ None
none_pass p [] none = refl
none_pass p (x ∷ xs) none = position_cons p x xs ∙ ap (λ (b : Bool). cond b (Some 0) (later (position p xs))) (none x) ∙ ap later (none_pass p xs none)

none_places : {X : Type 0} (p : X → Bool) (xs : List X) → ((x : X) → p x ≡ false) → position_or_len p xs ≡ length xs
none_places p xs none = sym (place_or_length p xs) ∙ ap (λ (o : Option ℕ). unwrap_or o (length xs)) (none_pass p xs none)

same_places : {X : Type 0} (p q : X → Bool) (xs : List X) → ((x : X) → p x ≡ q x) → position_or_len p xs ≡ position_or_len q xs
same_places p q [] same = refl
same_places p q (x ∷ xs) same = ap (λ (b : Bool). cond (not b) (1 + position_or_len p xs) 0) (same x) ∙ ap (λ (n : ℕ). cond (not (q x)) (1 + n) 0) (same_places p q xs same)

-- ---- the first slots of frames

-- a balanced copy is of no other slot's frame
balanced_alone : (s t : Slot) → s.balanced ≡ true → is_one_frame s t ≡ false
balanced_alone s t e = rw e refl

-- a slot that is no balanced copy is of its own frame
with_itself : (s : Slot) → s.balanced ≡ false → IsTrue (stands_for_one s) → is_one_frame s s ≡ true
with_itself s e stands = rw e (by s.node s.var (rw e at stands))
  where
    by : (node : Option NodeId) (var : Option ℕ) → IsTrue ((is_some node && not (is_some var)) || (not (is_some node) && is_some var && true)) → (is_one_node node node || is_one_var var var) ≡ true
    by (Some n) var h = ap (λ (b : Bool). b || is_one_var var var) (eq-eqb n.0 n.0 refl)
    by None (Some v) h = eq-eqb v v refl
    by None None h = absurd cc

pub first_before : (slots : List Slot) (k : ℕ) (s : Slot) → k < length slots → s ≡ get_or slots k s → IsTrue (stands_for_one s) → first_of slots k ≡ position_or_len (is_one_frame s) (take k slots)
unfolding first_of
first_before slots k s lt is stands = ap (λ (t : Slot). unwrap_or (position (is_one_frame t) slots) k) at_k ∙ by s.balanced refl
  where
    at_k : slot_at slots k ≡ s
    at_k = get_or_default slots k _ s lt ∙ sym is

    by : (b : Bool) → s.balanced ≡ b → unwrap_or (position (is_one_frame s) slots) k ≡ position_or_len (is_one_frame s) (take k slots)
    by true e =
        ap (λ (o : Option ℕ). unwrap_or o k) (none_pass (is_one_frame s) slots (λ t. balanced_alone s t e))
        ∙ sym (none_places (is_one_frame s) (take k slots) (λ t. balanced_alone s t e) ∙ length-take-le k slots (omega arith))
    by false e = ap (λ (o : Option ℕ). unwrap_or o k) (upto (is_one_frame s) slots k s lt is (with_itself s e stands))

-- ---- what is held of slots

-- a slot with an expression stands for no variable
pub no_var : (s : Slot) (node : NodeId) → s.node ≡ Some node → IsTrue (stands_for_one s) → s.var ≡ None
no_var s node e stands = by s.var (rw e at stands)
  where
    by : (var : Option ℕ) → IsTrue (not (is_some var) || false) → var ≡ None
    by None h = refl
    by (Some v) h = absurd cc

-- the first of an expression's slots is the first of the frame
pub first_of_node : (slots : List Slot) (s : Slot) (node : NodeId) (number : ℕ) (held : Option ℕ) → s.balanced ≡ false → s.node ≡ Some node → IsTrue (stands_for_one s)
    → length slots ≡ number → held ≡ position (is_of_node node.0) slots → unwrap_or held number ≡ position_or_len (is_one_frame s) slots
first_of_node slots s node number held b n stands long is =
    ap (unwrap_or held) (sym long) ∙ ap (λ (o : Option ℕ). unwrap_or o (length slots)) is ∙ place_or_length (is_of_node node.0) slots
    ∙ same_places (is_of_node node.0) (is_one_frame s) slots (λ t. same t)
  where
    same : (t : Slot) → is_of_node node.0 t ≡ is_one_frame s t
    same t = rw (b, n, no_var s node n stands) (by (not t.balanced) (is_one_node (Some node) t.node) t.var)
      where
        by : (p q : Bool) (var : Option ℕ) → (p && q) ≡ (p && (q || is_one_var None var))
        by true true var = refl
        by true false var = refl
        by false q var = refl

pub first_of_var : (slots : List Slot) (s : Slot) (var number : ℕ) (held : Option ℕ) → s.balanced ≡ false → s.node ≡ None → s.var ≡ Some var
    → length slots ≡ number → held ≡ position (is_of_var var) slots → unwrap_or held number ≡ position_or_len (is_one_frame s) slots
first_of_var slots s var number held b n v long is =
    ap (unwrap_or held) (sym long) ∙ ap (λ (o : Option ℕ). unwrap_or o (length slots)) is ∙ place_or_length (is_of_var var) slots
    ∙ same_places (is_of_var var) (is_one_frame s) slots (λ t. rw (b, n, v) refl)

-- a balanced copy is the first of its frame
pub first_balanced : (slots : List Slot) (s : Slot) (number : ℕ) → s.balanced ≡ true → length slots ≡ number → number ≡ position_or_len (is_one_frame s) slots
first_balanced slots s number b long = sym long ∙ sym (none_places (is_one_frame s) slots (λ t. balanced_alone s t b))

-- ---- one more slot

-- what is held of a number, where the slot is of it or not
passed_over : (p : Slot → Bool) (slots : List Slot) (s : Slot) (held : Option ℕ) → p s ≡ false → held ≡ position p slots → held ≡ position p (slots ++ s ∷ [])
passed_over p slots s held fails is = is ∙ sym (position_last p slots s ∙ ap (λ (b : Bool). cond b (Some (unwrap_or (position p slots) (length slots))) (position p slots)) fails)

pub balanced_node : (s : Slot) (node : ℕ) → s.balanced ≡ true → is_of_node node s ≡ false
balanced_node s node b = rw b refl

pub balanced_var : (s : Slot) (var : ℕ) → s.balanced ≡ true → is_of_var var s ≡ false
balanced_var s var b = rw b refl

pub other_node : (s : Slot) (node : ℕ) → s.node ≡ None → is_of_node node s ≡ false
other_node s node n = rw n (by s.balanced)
  where
    by : (b : Bool) → (not b && false) ≡ false
    by true = refl
    by false = refl

pub other_var : (s : Slot) (var : ℕ) → s.var ≡ None → is_of_var var s ≡ false
other_var s var n = rw n (by s.balanced)
  where
    by : (b : Bool) → (not b && false) ≡ false
    by true = refl
    by false = refl

-- a new or a known number
held_more : (p : Slot → Bool) (slots : List Slot) (s : Slot) (number : ℕ) (same : Bool) (own held new : Option ℕ) → p s ≡ same → length slots ≡ number
    → (same ≡ true → own ≡ held) → held ≡ position p slots → new ≡ cond same (Some (unwrap_or own number)) held → new ≡ position p (slots ++ s ∷ [])
held_more p slots s number true own held new pass long one is now =
    now ∙ ap (λ (o : Option ℕ). Some (unwrap_or o number)) (one refl ∙ is) ∙ ap (λ (n : ℕ). Some (unwrap_or (position p slots) n)) (sym long)
    ∙ sym (position_last p slots s ∙ ap (λ (b : Bool). cond b (Some (unwrap_or (position p slots) (length slots))) (position p slots)) pass)
held_more p slots s number false own held new pass long one is now = now ∙ passed_over p slots s held pass is

pub nodes_more : (slots : List Slot) (s : Slot) (node : NodeId) (number : ℕ) (old new : ℕ → Option ℕ) → s.balanced ≡ false → s.node ≡ Some node → length slots ≡ number
    → ((n : ℕ) → old n ≡ position (is_of_node n) slots) → ((n : ℕ) → new n ≡ cond (nat_eq node.0 n) (Some (unwrap_or (old node.0) number)) (old n))
    → (n : ℕ) → new n ≡ position (is_of_node n) (slots ++ s ∷ [])
nodes_more slots s node number old new b e long is now n =
    held_more (is_of_node n) slots s number (nat_eq node.0 n) (old node.0) (old n) (new n) (rw (b, e) (nat_eq_equiv.symm n node.0)) long (λ t. ap old (eqb-true node.0 n t)) (is n) (now n)

pub vars_more : (slots : List Slot) (s : Slot) (var number : ℕ) (old new : ℕ → Option ℕ) → s.balanced ≡ false → s.var ≡ Some var → length slots ≡ number
    → ((v : ℕ) → old v ≡ position (is_of_var v) slots) → ((v : ℕ) → new v ≡ cond (nat_eq var v) (Some (unwrap_or (old var) number)) (old v))
    → (v : ℕ) → new v ≡ position (is_of_var v) (slots ++ s ∷ [])
vars_more slots s var number old new b e long is now v =
    held_more (is_of_var v) slots s number (nat_eq var v) (old var) (old v) (new v) (rw (b, e) (nat_eq_equiv.symm v var)) long (λ t. ap old (eqb-true var v t)) (is v) (now v)

-- a slot that is of none of these numbers
pub all_passed : (p : ℕ → Slot → Bool) (slots : List Slot) (s : Slot) (old : ℕ → Option ℕ) → ((n : ℕ) → p n s ≡ false) → ((n : ℕ) → old n ≡ position (p n) slots) → (n : ℕ) → old n ≡ position (p n) (slots ++ s ∷ [])
all_passed p slots s old fails is n = passed_over (p n) slots s (old n) (fails n) (is n)
