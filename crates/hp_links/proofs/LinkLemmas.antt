-- What a change of the neighbours does to the list in a table.
use Rattle.std.proofs.Common.{◌≡◌, ℕ, zero, suc, ◌<◌, ◌≤◌, Bool, true, false, ◌||◌, cond, eqb, List, [], ◌∷◌, ◌++◌, length, take, drop, replicate, Option, None, Some, IfSome, refl, sym, ap, ◌∙◌, subst, inl, inr, arith}
use Rattle.std.specs.Prelude.{slice_get, slice_set}
use Rattle.std.specs.List.{AllByRecursion, IsDistinct, last_or}
use Rattle.std.proofs.lemmas.Bool.{both_ways, false_from_ne_true, cases_Bool, cases_lt, cond-true, cond-false, eq-eqb, eqb-true, eqb-false, ne_eqb, or_parts, or_right, or_left, or_cases, or_from}
use Rattle.std.proofs.lemmas.List.{get_or-set_same, get_or-set_other, get_or_past, length-set, take_at}
use Rattle.std.proofs.lemmas.Map.Keys.{IsDistinct-head, IsDistinct-tail, IsDistinct-cons}
use Rattle.std.proofs.lemmas.Map.Steps.{length-le_from_distinct_below}
use Rattle.hp_links.specs.declared.board.Node.{Node}
use Rattle.hp_links.specs.Boards.{Linked, board, is_in, without}
use Rattle.hp_links.specs.Links.{free, node_at, reached, seen, Follow, IsLinked, with_after, with_before, led_to}

-- ---- lists of distinct numbers

eqb_flip : (a b : ℕ) → eqb a b ≡ false → eqb b a ≡ false
eqb_flip a b differ = ne_eqb b a (λ same. eqb-false a b differ (sym same))

none_in : (x : ℕ) (xs : List ℕ) → AllByRecursion (λ y. eqb x y ≡ false) xs → is_in x xs ≡ false
none_in x [] apart = refl
none_in x (y ∷ ys) apart = or_from (eqb x y) (is_in x ys) apart.0 (none_in x ys apart.1)

apart_from : (x : ℕ) (xs : List ℕ) → is_in x xs ≡ false → AllByRecursion (λ y. eqb x y ≡ false) xs
apart_from x [] absent = tt
apart_from x (y ∷ ys) absent = let parts = or_parts (eqb x y) (is_in x ys) absent in (parts.0, apart_from x ys parts.1)

not_later : (x : ℕ) (xs : List ℕ) → IsDistinct eqb (x ∷ xs) → is_in x xs ≡ false
not_later x xs once = none_in x xs (IsDistinct-head eqb x xs once)

pub in_push : (k node : ℕ) (xs : List ℕ) → is_in k (xs ++ node ∷ []) ≡ (eqb k node || is_in k xs)
in_push k node [] = refl
in_push k node (x ∷ xs) = ap (λ b. eqb k x || b) (in_push k node xs) ∙ or_swap (eqb k x) (eqb k node) (is_in k xs)
  where
    or_swap : (a b c : Bool) → (a || (b || c)) ≡ (b || (a || c))
    or_swap true true c = refl
    or_swap true false c = refl
    or_swap false true c = refl
    or_swap false false c = refl

once_push : (node : ℕ) (xs : List ℕ) → IsDistinct eqb xs → is_in node xs ≡ false → IsDistinct eqb (xs ++ node ∷ [])
once_push node [] once absent = IsDistinct-cons eqb node [] tt once
once_push node (x ∷ xs) once absent =
    let parts = or_parts (eqb node x) (is_in node xs) absent in
    IsDistinct-cons eqb x (xs ++ node ∷ []) (apart_from x (xs ++ node ∷ []) (in_push x node xs ∙ or_from (eqb x node) (is_in x xs) (eqb_flip node x parts.0) (not_later x xs once)))
    (once_push node xs (IsDistinct-tail eqb x xs once) parts.1)

-- a node of a list is not one that is not in it
apart_in : (k x : ℕ) (xs : List ℕ) → is_in k xs ≡ true → is_in x xs ≡ false → eqb k x ≡ false
apart_in k x xs here absent = false_from_ne_true (eqb k x) (λ same. both_ways (is_in x xs) absent (subst (λ m. is_in m xs ≡ true) (eqb-true k x same) here))

-- ---- a list without a node

without_absent : (node : ℕ) (xs : List ℕ) → is_in node xs ≡ false → without node xs ≡ xs
without_absent node [] absent = refl
without_absent node (x ∷ xs) absent = let parts = or_parts (eqb node x) (is_in node xs) absent in
    rw parts.0 (ap (λ l. x ∷ l) (without_absent node xs parts.1))

without_head : (node x : ℕ) (xs : List ℕ) → eqb node x ≡ true → is_in x xs ≡ false → without node (x ∷ xs) ≡ xs
without_head node x xs same absent = rw same (without_absent node xs (rw (eqb-true node x same) absent))

without_other : (node x : ℕ) (xs : List ℕ) → eqb node x ≡ false → without node (x ∷ xs) ≡ x ∷ without node xs
without_other node x xs differ = rw differ refl

pub in_without : (k node : ℕ) (xs : List ℕ) → eqb node k ≡ false → is_in k (without node xs) ≡ is_in k xs
in_without k node [] differ = refl
in_without k node (x ∷ xs) differ = elim (cases_Bool (eqb node x)) [
  | inl same ↦ rw same (in_without k node xs differ ∙ sym (or_false (eqb k x) (is_in k xs) (subst (λ m. eqb k m ≡ false) (eqb-true node x same) (eqb_flip node k differ))))
  | inr other ↦ rw other (ap (λ b. eqb k x || b) (in_without k node xs differ))
]
  where
    or_false : (a b : Bool) → a ≡ false → (a || b) ≡ b
    or_false a b none = rw none refl

pub not_in_without : (node : ℕ) (xs : List ℕ) → is_in node (without node xs) ≡ false
not_in_without node [] = refl
not_in_without node (x ∷ xs) = elim (cases_Bool (eqb node x)) [
  | inl same ↦ rw same (not_in_without node xs)
  | inr other ↦ rw other (or_from (eqb node x) (is_in node (without node xs)) other (not_in_without node xs))
]

once_without : (node : ℕ) (xs : List ℕ) → IsDistinct eqb xs → IsDistinct eqb (without node xs)
once_without node [] once = once
once_without node (x ∷ xs) once = elim (cases_Bool (eqb node x)) [
  | inl same ↦ rw same (once_without node xs (IsDistinct-tail eqb x xs once))
  | inr other ↦ rw other (IsDistinct-cons eqb x (without node xs) (apart_from x (without node xs) (in_without x node xs other ∙ not_later x xs once)) (once_without node xs (IsDistinct-tail eqb x xs once)))
]

-- ---- what stands at a node after a change

-- whether a neighbour is this node
abbrev names : Option ℕ → ℕ → Bool
names None k = false
names (Some node) k = eqb node k

set_at : (table : List Node) (node k : ℕ) (new : Node) → node < length table → node_at (slice_set table node new) k ≡ cond (eqb node k) new (node_at table k)
set_at table node k new within = elim (cases_Bool (eqb node k)) [
  | inl same ↦ rw same (subst (λ m. node_at (slice_set table node new) m ≡ new) (eqb-true node k same) (get_or-set_same table node new free within))
  | inr other ↦ rw other (get_or-set_other table node k new free (λ e. eqb-false node k other (sym e)))
]

at_same : (b : Bool) (x y z : Node) → (b ≡ true → x ≡ y) → cond b x z ≡ cond b y z
at_same true x y z same = same refl
at_same false x y z same = refl

after_at : (before next : Option ℕ) (table : List Node) (k : ℕ) → IfSome before (λ l. l < length table)
    → node_at (with_after before next table) k ≡ cond (names before k) (record (node_at table k) { after = next }) (node_at table k)
after_at None next table k within = refl
after_at (Some node) next table k within = set_at table node k (record (node_at table node) { after = next }) within
    ∙ at_same (eqb node k) _ _ _ (λ same. ap (λ m. record (node_at table m) { after = next }) (eqb-true node k same))

before_at : (after next : Option ℕ) (table : List Node) (k : ℕ) → IfSome after (λ l. l < length table)
    → node_at (with_before after next table) k ≡ cond (names after k) (record (node_at table k) { before = next }) (node_at table k)
before_at None next table k within = refl
before_at (Some node) next table k within = set_at table node k (record (node_at table node) { before = next }) within
    ∙ at_same (eqb node k) _ _ _ (λ same. ap (λ m. record (node_at table m) { before = next }) (eqb-true node k same))

pub length_after : (before next : Option ℕ) (table : List Node) → length (with_after before next table) ≡ length table
length_after None next table = refl
length_after (Some node) next table = length-set table node _

pub length_before : (after next : Option ℕ) (table : List Node) → length (with_before after next table) ≡ length table
length_before None next table = refl
length_before (Some node) next table = length-set table node _

-- ---- what is seen of a list in a table

reached_follow : (steps : ℕ) (table : List Node) (before : Option ℕ) (xs : List ℕ) → Follow table before xs → length xs ≤ steps → reached steps table (slice_get xs 0) ≡ xs
reached_follow zero table before [] follow short = refl
reached_follow zero table before (x ∷ xs) follow short = absurd (omega arith)
reached_follow (suc steps) table before [] follow short = refl
reached_follow (suc steps) table before (x ∷ xs) follow short =
    ap (λ (next : Option ℕ). x ∷ reached steps table next) (ap (λ (n : Node). n.after) follow.0)
    ∙ ap (λ (l : List ℕ). x ∷ l) (reached_follow steps table (Some x) xs follow.1 (omega arith))

linked_within : (table : List Node) (k : ℕ) → (node_at table k).linked ≡ true → k < length table
linked_within table k linked = elim (cases_lt k (length table)) [
  | inl less ↦ less
  | inr past ↦ absurd (both_ways _ (ap (λ (n : Node). n.linked) (get_or_past table k free past)) linked)
]

short_list : {table : List Node} {first last : Option ℕ} {xs : List ℕ} → IsLinked table first last xs → length xs ≤ length table
short_list {table} {first} {last} {xs} is = length-le_from_distinct_below xs (length table) is.once (λ k here. linked_within table k (is.linked k ∙ here))

seen_list : {table : List Node} {first last : Option ℕ} {xs : List ℕ} → IsLinked table first last xs → (seen table first).list ≡ xs
seen_list {table} {first} {last} {xs} is =
    ap (λ (at : Option ℕ). reached (length table) table at) is.first_is ∙ reached_follow (length table) table None xs is.follow (short_list is)

pub seen_is : {table : List Node} {first last : Option ℕ} {xs : List ℕ} → IsLinked table first last xs → seen table first ≡ board (length table) xs
seen_is {table} is = ap (λ (l : List ℕ). board (length table) l) (seen_list is)

pub closed : {table : List Node} {first last : Option ℕ} {xs : List ℕ} → IsLinked table first last xs → IsLinked table first last (seen table first).list
closed {table} {first} {last} is = subst (λ (l : List ℕ). IsLinked table first last l) (sym (seen_list is)) is

-- ---- a node at the end

names_last : (x y : ℕ) (ys : List ℕ) → is_in x (y ∷ ys) ≡ false → names (last_or (Some y) ys) x ≡ false
names_last x y [] absent = eqb_flip x y (or_parts (eqb x y) false absent).0
names_last x y (z ∷ zs) absent = names_last x z zs (or_parts (eqb x y) (is_in x (z ∷ zs)) absent).1

link_follow : (t u : List Node) (node : ℕ) (before : Option ℕ) (xs : List ℕ)
    → node_at u node ≡ record { linked = true; before = last_or before xs; after = None }
    → ((k : ℕ) → is_in k xs ≡ true → node_at u k ≡ cond (names (last_or before xs) k) (record (node_at t k) { after = Some node }) (node_at t k))
    → IsDistinct eqb xs → Follow t before xs → Follow u before (xs ++ node ∷ [])
link_follow t u node before [] new others once follow = (new, tt)
link_follow t u node before (x ∷ []) new others once follow =
    (others x (or_left (eqb x x) false (eq-eqb x x refl)) ∙ cond-true (eqb x x) _ _ (eq-eqb x x refl) ∙ ap (λ (n : Node). record n { after = Some node }) follow.0, (new, tt))
link_follow t u node before (x ∷ y ∷ ys) new others once follow = (
  others x (or_left (eqb x x) (is_in x (y ∷ ys)) (eq-eqb x x refl)) ∙ cond-false (names (last_or (Some y) ys) x) _ _ (names_last x y ys (not_later x (y ∷ ys) once)) ∙ follow.0,
  link_follow t u node (Some x) (y ∷ ys) new (λ k here. others k (or_right (eqb k x) (is_in k (y ∷ ys)) here)) (IsDistinct-tail eqb x (y ∷ ys) once) follow.1,
)

last_within : (P : ℕ → Type 0) (start : Option ℕ) (xs : List ℕ) → ((k : ℕ) → is_in k xs ≡ true → P k) → IfSome start P → IfSome (last_or start xs) P
last_within P start [] all at = at
last_within P start (x ∷ xs) all at = last_within P (Some x) xs (λ k here. all k (or_right (eqb k x) (is_in k xs) here)) (all x (or_left (eqb x x) (is_in x xs) (eq-eqb x x refl)))

in_within : {table : List Node} {first last : Option ℕ} {xs : List ℕ} → IsLinked table first last xs → (k : ℕ) → is_in k xs ≡ true → k < length table
in_within {table} is k here = linked_within table k (is.linked k ∙ here)

pub last_is_within : {table : List Node} {first last : Option ℕ} {xs : List ℕ} → IsLinked table first last xs → IfSome last (λ k. k < length table)
last_is_within {table} {first} {last} {xs} is =
    subst (λ (o : Option ℕ). IfSome o (λ k. k < length table)) (sym is.last_is) (last_within (λ k. k < length table) None xs (in_within is) tt)

first_push : (xs : List ℕ) (node : ℕ) → slice_get (xs ++ node ∷ []) 0 ≡ led_to (last_or None xs) (Some node) (slice_get xs 0)
first_push [] node = refl
first_push (x ∷ xs) node = sym (led_last x xs)
  where
    led_last : (y : ℕ) (ys : List ℕ) → led_to (last_or (Some y) ys) (Some node) (Some x) ≡ Some x
    led_last y [] = refl
    led_last y (z ∷ zs) = led_last z zs

last_push : (start : Option ℕ) (xs : List ℕ) (node : ℕ) → last_or start (xs ++ node ∷ []) ≡ Some node
last_push start [] node = refl
last_push start (x ∷ xs) node = last_push (Some x) xs node

linked_cond : (b : Bool) (x y : Node) → x.linked ≡ y.linked → (cond b x y).linked ≡ y.linked
linked_cond true x y same = same
linked_cond false x y same = refl

-- a node that is new at the end of the list
abbrev pub at_end : Option ℕ → Node
at_end last = record { linked = true; before = last; after = None }

pushed_at : (t : List Node) (last : Option ℕ) (node k : ℕ) → IfSome last (λ l. l < length t) → node < length t
    → node_at (slice_set (with_after last (Some node) t) node (at_end last)) k ≡ cond (eqb node k) (at_end last) (cond (names last k) (record (node_at t k) { after = Some node }) (node_at t k))
pushed_at t last node k last_within within =
    set_at (with_after last (Some node) t) node k (at_end last) (subst (λ n. node < n) (sym (length_after last (Some node) t)) within)
    ∙ ap (λ (n : Node). cond (eqb node k) (at_end last) n) (after_at last (Some node) t k last_within)

pushed_linked : (b : Bool) (last : Option ℕ) (old : Node) (node k : ℕ) (is_there : Bool) → old.linked ≡ is_there
    → (cond (eqb node k) (at_end last) (cond b (record old { after = Some node }) old)).linked ≡ (eqb k node || is_there)
pushed_linked b last old node k is_there same = elim (cases_Bool (eqb node k)) [
  | inl it ↦ rw it (sym (or_left (eqb k node) is_there (eq-eqb k node (sym (eqb-true node k it)))))
  | inr other ↦ rw (other, eqb_flip node k other) (linked_cond b (record old { after = Some node }) old refl ∙ same)
]

-- the table, the ends and the list with one more node
pub linked_more : (t : List Node) (first last : Option ℕ) (xs : List ℕ) (node : ℕ) → IsLinked t first last xs → node < length t → is_in node xs ≡ false
    → IsLinked (slice_set (with_after last (Some node) t) node (at_end last)) (led_to last (Some node) first) (Some node) (xs ++ node ∷ [])
linked_more t first last xs node is within absent =
    let new_at = λ (k : ℕ). pushed_at t last node k (last_is_within is) within in
    record {
      first_is = ap (λ (o : Option ℕ). led_to last (Some node) o) is.first_is ∙ ap (λ (o : Option ℕ). led_to o (Some node) (slice_get xs 0)) is.last_is ∙ sym (first_push xs node);
      last_is = sym (last_push None xs node);
      follow = link_follow t (slice_set (with_after last (Some node) t) node (at_end last)) node None xs
          (new_at node ∙ cond-true (eqb node node) _ _ (eq-eqb node node refl) ∙ ap at_end is.last_is)
          (λ k here. new_at k ∙ cond-false (eqb node k) _ _ (eqb_flip k node (apart_in k node xs here absent)) ∙ ap (λ (o : Option ℕ). cond (names o k) (record (node_at t k) { after = Some node }) (node_at t k)) is.last_is)
          is.once is.follow;
      once = once_push node xs is.once absent;
      linked = λ k. ap (λ (n : Node). n.linked) (new_at k) ∙ pushed_linked (names last k) last (node_at t k) node k (is_in k xs) (is.linked k) ∙ sym (in_push k node xs);
    }

-- ---- a node taken out

head_of : (P : ℕ → Type 0) (ys : List ℕ) → ((k : ℕ) → is_in k ys ≡ true → P k) → IfSome (slice_get ys 0) P
head_of P [] of = tt
head_of P (y ∷ ys) of = of y (or_left (eqb y y) (is_in y ys) (eq-eqb y y refl))

later : (a b : Bool) → a ≡ false → (a || b) ≡ true → b ≡ true
later a b none some = elim (or_cases a b some) [ inl p ↦ absurd (both_ways a none p) | inr q ↦ q ]

-- the neighbours of a node of the list are of the list, or stand before it
pub neighbours : (P : ℕ → Type 0) (t : List Node) (node : ℕ) (start : Option ℕ) (xs : List ℕ) → ((k : ℕ) → is_in k xs ≡ true → P k) → IfSome start P → is_in node xs ≡ true → Follow t start xs
    → IfSome (node_at t node).before P × IfSome (node_at t node).after P
neighbours P t node start [] all at here follow = absurd (both_ways false refl here)
neighbours P t node start (x ∷ xs) all at here follow = elim (cases_Bool (eqb node x)) [
  | inl same ↦ subst (λ m. IfSome (node_at t m).before P × IfSome (node_at t m).after P) (sym (eqb-true node x same))
      (subst (λ (n : Node). IfSome n.before P × IfSome n.after P) (sym follow.0) (at, head_of P xs (λ k there. all k (or_right (eqb k x) (is_in k xs) there))))
  | inr other ↦ neighbours P t node (Some x) xs (λ k there. all k (or_right (eqb k x) (is_in k xs) there)) (all x (or_left (eqb x x) (is_in x xs) (eq-eqb x x refl))) (later (eqb node x) (is_in node xs) other here) follow.1
]

names_none : (o : Option ℕ) (k : ℕ) → IfSome o (λ l. eqb l k ≡ false) → names o k ≡ false
names_none None k other = refl
names_none (Some l) k other = other

-- a node whose neighbours were joined to each other
abbrev joined : (b a : Option ℕ) → (k : ℕ) → Node → Node
joined b a k old = cond (names b k) (record old { after = a }) old

abbrev rejoined : (b a : Option ℕ) → (k : ℕ) → Node → Node
rejoined b a k old = cond (names a k) (record (joined b a k old) { before = b }) (joined b a k old)

untouched : (b a : Option ℕ) (k : ℕ) (old : Node) → names b k ≡ false → names a k ≡ false → rejoined b a k old ≡ old
untouched b a k old not_before not_after = cond-false (names a k) _ _ not_after ∙ cond-false (names b k) _ _ not_before

rejoined_linked : (b a : Option ℕ) (k : ℕ) (old : Node) → (rejoined b a k old).linked ≡ old.linked
rejoined_linked b a k old = linked_cond (names a k) (record (joined b a k old) { before = b }) (joined b a k old) refl ∙ linked_cond (names b k) (record old { after = a }) old refl

same_follow : (t u : List Node) (start : Option ℕ) (xs : List ℕ) → ((k : ℕ) → is_in k xs ≡ true → node_at u k ≡ node_at t k) → Follow t start xs → Follow u start xs
same_follow t u start [] same follow = tt
same_follow t u start (x ∷ xs) same follow =
    (same x (or_left (eqb x x) (is_in x xs) (eq-eqb x x refl)) ∙ follow.0, same_follow t u (Some x) xs (λ k here. same k (or_right (eqb k x) (is_in k xs) here)) follow.1)

-- what stood behind the node now stands behind `b`
behind : (t u : List Node) (node : ℕ) (b : Option ℕ) (xs : List ℕ)
    → ((k : ℕ) → eqb node k ≡ false → node_at u k ≡ rejoined b (slice_get xs 0) k (node_at t k))
    → ((k : ℕ) → is_in k xs ≡ true → names b k ≡ false) → IsDistinct eqb (node ∷ xs) → Follow t (Some node) xs → Follow u b xs
behind t u node b [] at apart once follow = tt
behind t u node b (y ∷ ys) at apart once follow =
    let absent : is_in node (y ∷ ys) ≡ false = not_later node (y ∷ ys) once in
    let here : is_in y (y ∷ ys) ≡ true = or_left (eqb y y) (is_in y ys) (eq-eqb y y refl) in
    let not_y : is_in y ys ≡ false = not_later y ys (IsDistinct-tail eqb node (y ∷ ys) once) in (
      at y (or_parts (eqb node y) (is_in node ys) absent).0
          ∙ cond-true (eqb y y) _ _ (eq-eqb y y refl)
          ∙ ap (λ (n : Node). record n { before = b }) (cond-false (names b y) _ _ (apart y here) ∙ follow.0),
      same_follow t u (Some y) ys
          (λ k there. let among : is_in k (y ∷ ys) ≡ true = or_right (eqb k y) (is_in k ys) there in
          at k (eqb_flip k node (apart_in k node (y ∷ ys) among absent))
          ∙ untouched b (Some y) k (node_at t k) (apart k among) (eqb_flip k y (apart_in k y ys there not_y)))
          follow.1,
    )

-- the node before the one that was taken out, or any other that stands before it
kept_before : (t : List Node) (node x : ℕ) (start : Option ℕ) (xs : List ℕ) → is_in node xs ≡ true → IsDistinct eqb (x ∷ xs) → Follow t start (x ∷ xs)
    → rejoined (node_at t node).before (node_at t node).after x (node_at t x) ≡ record { linked = true; before = start; after = slice_get (without node xs) 0 }
kept_before t node x start [] here once follow = absurd (both_ways false refl here)
kept_before t node x start (y ∷ ys) here once follow =
    let absent : is_in x (y ∷ ys) ≡ false = not_later x (y ∷ ys) once in
    let parts = or_parts (eqb x y) (is_in x ys) absent in
    elim (cases_Bool (eqb node y)) [
      | inl same ↦ let it : node ≡ y = eqb-true node y same in
          let not_y : is_in y ys ≡ false = not_later y ys (IsDistinct-tail eqb x (y ∷ ys) once) in
          subst (λ (m : ℕ). rejoined (node_at t m).before (node_at t m).after x (node_at t x) ≡ record { linked = true; before = start; after = slice_get (without node (y ∷ ys)) 0 }) (sym it)
          (rw (follow.1.0, follow.0, without_head node y ys same not_y)
          (cond-false (names (slice_get ys 0) x) _ _ (names_none (slice_get ys 0) x (head_of (λ l. eqb l x ≡ false) ys (λ k there. apart_in k x ys there parts.1)))
          ∙ cond-true (eqb x x) _ _ (eq-eqb x x refl)))
      | inr other ↦
          let sides = neighbours (λ l. eqb l x ≡ false) t node (Some y) ys (λ k there. apart_in k x ys there parts.1) (eqb_flip x y parts.0) (later (eqb node y) (is_in node ys) other here) follow.1.1 in
          untouched (node_at t node).before (node_at t node).after x (node_at t x) (names_none (node_at t node).before x sides.0) (names_none (node_at t node).after x sides.1)
          ∙ follow.0 ∙ ap (λ (l : List ℕ). record { linked = true; before = start; after = slice_get l 0 }) (sym (without_other node y ys other))
    ]

around : (t u : List Node) (node : ℕ) (start : Option ℕ) (xs : List ℕ)
    → ((k : ℕ) → eqb node k ≡ false → node_at u k ≡ rejoined (node_at t node).before (node_at t node).after k (node_at t k))
    → ((k : ℕ) → is_in k xs ≡ true → names start k ≡ false) → is_in node xs ≡ true → IsDistinct eqb xs → Follow t start xs → Follow u start (without node xs)
around t u node start [] at apart here once follow = absurd (both_ways false refl here)
around t u node start (x ∷ xs) at apart here once follow =
    let absent : is_in x xs ≡ false = not_later x xs once in
    elim (cases_Bool (eqb node x)) [
      | inl same ↦ let it : x ≡ node = sym (eqb-true node x same) in
          rw (without_head node x xs same absent)
          (behind t u x start xs
          (λ k other. at k (subst (λ m. eqb m k ≡ false) it other)
          ∙ ap (λ (n : Node). rejoined n.before n.after k (node_at t k)) (ap (λ m. node_at t m) (sym it) ∙ follow.0))
          (λ k there. apart k (or_right (eqb k x) (is_in k xs) there)) once follow.1)
      | inr other ↦ let further : is_in node xs ≡ true = later (eqb node x) (is_in node xs) other here in
          rw (without_other node x xs other) (
            at x other ∙ kept_before t node x start xs further once follow,
            around t u node (Some x) xs at (λ k there. eqb_flip k x (apart_in k x xs there absent)) further (IsDistinct-tail eqb x xs once) follow.1,
          )
    ]

last_without : (t : List Node) (node : ℕ) (start : Option ℕ) (xs : List ℕ) → is_in node xs ≡ true → IsDistinct eqb xs → Follow t start xs
    → last_or start (without node xs) ≡ led_to (node_at t node).after (node_at t node).before (last_or start xs)
last_without t node start [] here once follow = absurd (both_ways false refl here)
last_without t node start (x ∷ xs) here once follow = elim (cases_Bool (eqb node x)) [
  | inl same ↦ let it : x ≡ node = sym (eqb-true node x same) in
      rw (without_head node x xs same (not_later x xs once))
      (at_end_of xs ∙ ap (λ (n : Node). led_to n.after n.before (last_or (Some x) xs)) (sym follow.0 ∙ ap (λ m. node_at t m) it))
  | inr other ↦ rw (without_other node x xs other) (last_without t node (Some x) xs (later (eqb node x) (is_in node xs) other here) (IsDistinct-tail eqb x xs once) follow.1)
]
  where
    at_end_of : (ys : List ℕ) → last_or start ys ≡ led_to (slice_get ys 0) start (last_or (Some x) ys)
    at_end_of [] = refl
    at_end_of (y ∷ ys) = refl

-- a node behind another has one before it
led_behind : (t : List Node) (node x : ℕ) (next end : Option ℕ) (xs : List ℕ) → is_in node xs ≡ true → Follow t (Some x) xs → led_to (node_at t node).before next end ≡ end
led_behind t node x next end [] here follow = absurd (both_ways false refl here)
led_behind t node x next end (y ∷ ys) here follow = elim (cases_Bool (eqb node y)) [
  | inl same ↦ ap (λ (n : Node). led_to n.before next end) (ap (λ m. node_at t m) (eqb-true node y same) ∙ follow.0)
  | inr other ↦ led_behind t node y next end ys (later (eqb node y) (is_in node ys) other here) follow.1
]

first_without : (t : List Node) (node : ℕ) (xs : List ℕ) → is_in node xs ≡ true → IsDistinct eqb xs → Follow t None xs
    → slice_get (without node xs) 0 ≡ led_to (node_at t node).before (node_at t node).after (slice_get xs 0)
first_without t node [] here once follow = absurd (both_ways false refl here)
first_without t node (x ∷ xs) here once follow = elim (cases_Bool (eqb node x)) [
  | inl same ↦ let it : x ≡ node = sym (eqb-true node x same) in
      rw (without_head node x xs same (not_later x xs once))
      (ap (λ (n : Node). led_to n.before n.after (Some x)) (sym follow.0 ∙ ap (λ m. node_at t m) it))
  | inr other ↦ rw (without_other node x xs other)
      (sym (led_behind t node x (node_at t node).after (Some x) xs (later (eqb node x) (is_in node xs) other here) follow.1))
]

-- the neighbours of a linked node are of the table
pub sides_within : {table : List Node} {first last : Option ℕ} {xs : List ℕ} → IsLinked table first last xs → (node : ℕ) → is_in node xs ≡ true
    → IfSome (node_at table node).before (λ k. k < length table) × IfSome (node_at table node).after (λ k. k < length table)
sides_within {table} {first} {last} {xs} is node here = neighbours (λ k. k < length table) table node None xs (in_within is) tt here is.follow

-- the table with a node's neighbours joined to each other
abbrev pub without_node : (b a : Option ℕ) → List Node → List Node
without_node b a table = with_before a b (with_after b a table)

taken_at : (t : List Node) (b a : Option ℕ) (node k : ℕ) (new : Node) → IfSome b (λ l. l < length t) → IfSome a (λ l. l < length t) → node < length t
    → node_at (slice_set (without_node b a t) node new) k ≡ cond (eqb node k) new (rejoined b a k (node_at t k))
taken_at t b a node k new b_within a_within within =
    set_at (without_node b a t) node k new (subst (λ n. node < n) (sym (length_before a b (with_after b a t) ∙ length_after b a t)) within)
    ∙ ap (λ (n : Node). cond (eqb node k) new n)
    (before_at a b (with_after b a t) k (subst (λ n. IfSome a (λ l. l < n)) (sym (length_after b a t)) a_within)
    ∙ ap (λ (n : Node). cond (names a k) (record n { before = b }) n) (after_at b a t k b_within))

-- the table, the ends and the list without a node
pub linked_less : (t : List Node) (first last : Option ℕ) (xs : List ℕ) (node : ℕ) (new : Node) → IsLinked t first last xs → is_in node xs ≡ true → new.linked ≡ false
    → IsLinked (slice_set (without_node (node_at t node).before (node_at t node).after t) node new)
    (led_to (node_at t node).before (node_at t node).after first) (led_to (node_at t node).after (node_at t node).before last) (without node xs)
linked_less t first last xs node new is here not_linked =
    let b = (node_at t node).before in
    let a = (node_at t node).after in
    let sides = sides_within is node here in
    let u_at = λ (k : ℕ). taken_at t b a node k new sides.0 sides.1 (in_within is node here) in
    record {
      first_is = ap (λ (o : Option ℕ). led_to b a o) is.first_is ∙ sym (first_without t node xs here is.once is.follow);
      last_is = ap (λ (o : Option ℕ). led_to a b o) is.last_is ∙ sym (last_without t node None xs here is.once is.follow);
      follow = around t (slice_set (without_node b a t) node new) node None xs (λ k other. u_at k ∙ cond-false (eqb node k) _ _ other) (λ k there. refl) here is.once is.follow;
      once = once_without node xs is.once;
      linked = λ k. ap (λ (n : Node). n.linked) (u_at k) ∙ less_linked k new (rejoined b a k (node_at t k)) (rejoined_linked b a k (node_at t k) ∙ is.linked k) not_linked;
    }
  where
    less_linked : (k : ℕ) (gone kept : Node) → kept.linked ≡ is_in k xs → gone.linked ≡ false → (cond (eqb node k) gone kept).linked ≡ is_in k (without node xs)
    less_linked k gone kept same none = elim (cases_Bool (eqb node k)) [
      | inl it ↦ rw it (none ∙ sym (subst (λ m. is_in m (without node xs) ≡ false) (eqb-true node k it) (not_in_without node xs)))
      | inr other ↦ rw other (same ∙ sym (in_without k node xs other))
    ]

-- ---- a board before and after a call

-- a table whose items were lent whole
pub lent_whole : (now old : List Node) (n : ℕ) → length now ≡ n → take n (now ++ drop (length now) old) ≡ now
lent_whole now old n whole = take_at now (drop (length now) old) n whole

seen_in : (t : List Node) (first : Option ℕ) (now : Linked) → seen t first ≡ now → (node : ℕ) (b : Bool) → is_in node now.list ≡ b → is_in node (seen t first).list ≡ b
seen_in t first now same node b here = ap (λ (l : Linked). is_in node l.list) same ∙ here

-- the board with one more node, whose neighbours are `follow`'s
pub link_closes : (t w : List Node) (first last began : Option ℕ) (now : Linked) (node : ℕ) → IsLinked t first last (seen t first).list → seen t first ≡ now → node < now.nodes → is_in node now.list ≡ false
    → w ≡ with_after last (Some node) t → began ≡ led_to last (Some node) first → IsLinked (slice_set w node (at_end last)) began (Some node) (now.list ++ node ∷ [])
link_closes t w first last began now node is same within absent written start =
    rw (written, start)
    (subst (λ (l : List ℕ). IsLinked (slice_set (with_after last (Some node) t) node (at_end last)) (led_to last (Some node) first) (Some node) (l ++ node ∷ [])) (ap (λ (b : Linked). b.list) same)
    (linked_more t first last (seen t first).list node is (subst (λ (b : Linked). node < b.nodes) (sym same) within) (seen_in t first now same node false absent)))

pub link_shows : (t w : List Node) (first last began : Option ℕ) (now : Linked) (node : ℕ) → IsLinked t first last (seen t first).list → seen t first ≡ now → node < now.nodes → is_in node now.list ≡ false
    → w ≡ with_after last (Some node) t → began ≡ led_to last (Some node) first → seen (slice_set w node (at_end last)) began ≡ board now.nodes (now.list ++ node ∷ [])
link_shows t w first last began now node is same within absent written start =
    seen_is (link_closes t w first last began now node is same within absent written start)
    ∙ ap (λ (n : ℕ). board n (now.list ++ node ∷ [])) (length-set w node (at_end last) ∙ ap length written ∙ length_after last (Some node) t ∙ ap (λ (b : Linked). b.nodes) same)

-- the board without a node, whose neighbours were joined
pub unlink_closes : (t w : List Node) (first last began ended : Option ℕ) (now : Linked) (node : ℕ) (old new : Node) → IsLinked t first last (seen t first).list → seen t first ≡ now → is_in node now.list ≡ true
    → node_at t node ≡ old → w ≡ without_node old.before old.after t → began ≡ led_to old.before old.after first → ended ≡ led_to old.after old.before last → new.linked ≡ false
    → IsLinked (slice_set w node new) began ended (without node now.list)
unlink_closes t w first last began ended now node old new is same here stood written start end gone =
    rw (written, start, end, ← stood)
    (subst (λ (l : List ℕ). IsLinked (slice_set (without_node (node_at t node).before (node_at t node).after t) node new) (led_to (node_at t node).before (node_at t node).after first) (led_to (node_at t node).after (node_at t node).before last) (without node l)) (ap (λ (b : Linked). b.list) same)
    (linked_less t first last (seen t first).list node new is (seen_in t first now same node true here) gone))

pub unlink_shows : (t w : List Node) (first last began ended : Option ℕ) (now : Linked) (node : ℕ) (old new : Node) → IsLinked t first last (seen t first).list → seen t first ≡ now → is_in node now.list ≡ true
    → node_at t node ≡ old → w ≡ without_node old.before old.after t → began ≡ led_to old.before old.after first → ended ≡ led_to old.after old.before last → new.linked ≡ false
    → seen (slice_set w node new) began ≡ board now.nodes (without node now.list)
unlink_shows t w first last began ended now node old new is same here stood written start end gone =
    seen_is (unlink_closes t w first last began ended now node old new is same here stood written start end gone)
    ∙ ap (λ (n : ℕ). board n (without node now.list)) (length-set w node new ∙ ap length written ∙ length_before old.after old.before (with_after old.before old.after t) ∙ length_after old.before old.after t ∙ ap (λ (b : Linked). b.nodes) same)

pub sides_stand : (t : List Node) (first last : Option ℕ) (now : Linked) (node : ℕ) (old : Node) → IsLinked t first last (seen t first).list → seen t first ≡ now → is_in node now.list ≡ true → node_at t node ≡ old
    → IfSome old.before (λ k. k < length t) × IfSome old.after (λ k. k < length t)
sides_stand t first last now node old is same here stood =
    subst (λ (n : Node). IfSome n.before (λ k. k < length t) × IfSome n.after (λ k. k < length t)) stood (sides_within is node (seen_in t first now same node true here))

pub node_stands : (t : List Node) (first last : Option ℕ) (now : Linked) (node : ℕ) → IsLinked t first last (seen t first).list → seen t first ≡ now → is_in node now.list ≡ true → node < length t
node_stands t first last now node is same here = in_within is node (seen_in t first now same node true here)

free_at : (n k : ℕ) → node_at (replicate n free) k ≡ free
free_at zero k = refl
free_at (suc n) zero = refl
free_at (suc n) (suc k) = free_at n k

-- no node is linked
pub none_linked : (n : ℕ) → IsLinked (replicate n free) None None []
unfolding IsDistinct
none_linked n = record { first_is = refl; last_is = refl; follow = tt; once = tt; linked = λ k. ap (λ (m : Node). m.linked) (free_at n k) }

-- a table that was lent out twice: what each call gave back
pub record LentTwice (t f p : List Node) (n : ℕ) (b a : Option ℕ) : Type 0 where
  pub between : take n (f ++ drop (length f) t) ≡ f
  pub after_both : take n (p ++ drop (length p) (take n (f ++ drop (length f) t))) ≡ p
  pub written : p ≡ without_node b a t

pub lent_twice : (t one f two p : List Node) (n : ℕ) (b a : Option ℕ) → n ≡ length t → one ≡ t → f ≡ with_after b a one → two ≡ take n (f ++ drop (length f) t) → p ≡ with_before a b two → LentTwice t f p n b a
lent_twice t one f two p n b a len lent first again second =
    let f_whole : length f ≡ n = ap length first ∙ length_after b a one ∙ ap length lent ∙ sym len in
    let between : take n (f ++ drop (length f) t) ≡ f = lent_whole f t n f_whole in
    let two_is : two ≡ f = again ∙ between in
    let p_whole : length p ≡ n = ap length second ∙ length_before a b two ∙ ap length two_is ∙ f_whole in
    record {
      between = between;
      after_both = lent_whole p (take n (f ++ drop (length f) t)) n p_whole;
      written = second ∙ ap (with_before a b) (two_is ∙ first ∙ ap (with_after b a) lent);
    }
