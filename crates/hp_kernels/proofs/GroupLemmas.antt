-- The groups of rows, row by row.
use Rattle.std.proofs.Common.{◌≡◌, ℕ, zero, suc, ◌+◌, ◌<◌, ◌≤◌, ℤ, pos, Bool, true, false, cond, if◌then◌else◌, List, [], ◌∷◌, ◌++◌, map, length, get_or, drop, refl, sym, ap, ◌∙◌, add-one, append_assoc}
use Rattle.std.specs.Prelude.{not, ◌||◌}
use Rattle.std.specs.List.{position_or_len}
use Rattle.std.specs.Ordering.{int_eq}
use Rattle.std.proofs.lemmas.Cmp.{int_eq_equiv}
use Rattle.hp_word.specs.RowRules.{has, firsts_from, group_keys, group_of}
use Rattle.hp_kernels.proofs.RowLemmas.{from_next, none_left, yes_of, no_of, one_made, all_are_made}

-- ---- groups

firsts_next : (keys before : List ℤ) (i : ℕ) → i < length keys → false ≡ has before (get_or keys i (pos 0))
    → firsts_from i before (drop i keys) ≡ i ∷ firsts_from (i + 1) (before ++ get_or keys i (pos 0) ∷ []) (drop (i + 1) keys)
unfolding firsts_from
firsts_next keys before i lt e =
    let key : ℤ = get_or keys i (pos 0) in
    ap (firsts_from i before) (from_next keys i (pos 0) lt)
    ∙ no_of (has before key) (firsts_from (i + 1) before (drop (i + 1) keys)) (i ∷ firsts_from (i + 1) (before ++ key ∷ []) (drop (i + 1) keys)) e

firsts_pass : (keys before : List ℤ) (i : ℕ) → i < length keys → true ≡ has before (get_or keys i (pos 0))
    → firsts_from i before (drop i keys) ≡ firsts_from (i + 1) before (drop (i + 1) keys)
unfolding firsts_from
firsts_pass keys before i lt e =
    let key : ℤ = get_or keys i (pos 0) in
    ap (firsts_from i before) (from_next keys i (pos 0) lt)
    ∙ yes_of (has before key) (firsts_from (i + 1) before (drop (i + 1) keys)) (i ∷ firsts_from (i + 1) (before ++ key ∷ []) (drop (i + 1) keys)) e

pub firsts_done : (keys before : List ℤ) (i : ℕ) → length keys ≤ i → firsts_from i before (drop i keys) ≡ []
unfolding firsts_from
firsts_done keys before i le = ap (firsts_from i before) (none_left keys i le)

-- a key that is put among those before was new, or stood there
is_new : (h b : Bool) → b ≡ not h → b ≡ true → false ≡ h
is_new true b e t = cc
is_new false b e t = refl

is_old : (h b : Bool) → b ≡ not h → b ≡ false → true ≡ h
is_old true b e f = refl
is_old false b e f = cc

pub firsts_new : (keys before after : List ℤ) (i : ℕ) (x : ℤ) (b : Bool) → i < length keys → x ≡ get_or keys i (pos 0) → b ≡ not (has before x) → after ≡ (if has before x then before else before ++ x ∷ []) → b ≡ true
    → firsts_from i before (drop i keys) ≡ i ∷ firsts_from (i + 1) after (drop (i + 1) keys)
firsts_new keys before after i x b lt e added now t =
    let new : false ≡ has before x = is_new (has before x) b added t in
    firsts_next keys before i lt (new ∙ ap (has before) e)
    ∙ ap (λ (l : List ℤ). i ∷ firsts_from (i + 1) l (drop (i + 1) keys))
    (ap (λ (x : ℤ). before ++ x ∷ []) (sym e) ∙ ap (λ (h : Bool). if h then before else before ++ x ∷ []) new ∙ sym now)

pub firsts_old : (keys before after : List ℤ) (i : ℕ) (x : ℤ) (b : Bool) → i < length keys → x ≡ get_or keys i (pos 0) → b ≡ not (has before x) → after ≡ (if has before x then before else before ++ x ∷ []) → b ≡ false
    → firsts_from i before (drop i keys) ≡ firsts_from (i + 1) after (drop (i + 1) keys)
firsts_old keys before after i x b lt e added now f =
    let old : true ≡ has before x = is_old (has before x) b added f in
    firsts_pass keys before i lt (old ∙ ap (has before) e)
    ∙ ap (λ (l : List ℤ). firsts_from (i + 1) l (drop (i + 1) keys)) (ap (λ (h : Bool). if h then before else before ++ x ∷ []) old ∙ sym now)

-- ---- the keys of groups

-- the keys that are not among those before, each once
abbrev pub added : (before xs : List ℤ) → List ℤ
added before [] = []
added before (x ∷ xs) = if has before x then added before xs else x ∷ added (before ++ x ∷ []) xs

-- the item at a place is the first of what is left from there on
no_item : {A : Type 0} (x : A) (xs : List A) → [] ≡ x ∷ xs → ⊥
no_item x xs e = cc

first_same : (x y : ℤ) (xs ys : List ℤ) → x ∷ xs ≡ y ∷ ys → x ≡ y
first_same x y xs ys e = cc

rest_same : (x y : ℤ) (xs ys : List ℤ) → x ∷ xs ≡ y ∷ ys → xs ≡ ys
rest_same x y xs ys e = cc

item_left : (keys : List ℤ) (i : ℕ) (x : ℤ) (xs : List ℤ) → drop i keys ≡ x ∷ xs → (get_or keys i (pos 0) ≡ x) × (drop (suc i) keys ≡ xs)
item_left [] zero x xs e = absurd (no_item x xs e)
item_left [] (suc i) x xs e = absurd (no_item x xs e)
item_left (k ∷ keys) zero x xs e = (first_same k x keys xs e, rest_same k x keys xs e)
item_left (k ∷ keys) (suc i) x xs e = item_left keys i x xs e

mapped_if : (keys : List ℤ) (b : Bool) (i : ℕ) (x : ℤ) (is more : List ℕ) (xs new : List ℤ) → get_or keys i (pos 0) ≡ x
    → map (λ first. get_or keys first (pos 0)) is ≡ xs → map (λ first. get_or keys first (pos 0)) more ≡ new
    → map (λ first. get_or keys first (pos 0)) (if b then is else i ∷ more) ≡ (if b then xs else x ∷ new)
mapped_if keys true i x is more xs new e p q = p
mapped_if keys false i x is more xs new e p q = ap (λ (k : ℤ). k ∷ map (λ first. get_or keys first (pos 0)) more) e ∙ ap (λ (l : List ℤ). x ∷ l) q

-- the keys of the groups that begin from a row on
keys_from : (keys xs : List ℤ) (i : ℕ) (before : List ℤ) → drop i keys ≡ xs → map (λ first. get_or keys first (pos 0)) (firsts_from i before xs) ≡ added before xs
unfolding firsts_from
keys_from keys [] i before e = refl
keys_from keys (x ∷ xs) i before e =
    let item = item_left keys i x xs e in
    let next : drop (i + 1) keys ≡ xs = ap (λ (n : ℕ). drop n keys) (add-one i) ∙ item.1 in
    mapped_if keys (has before x) i x (firsts_from (i + 1) before xs) (firsts_from (i + 1) (before ++ x ∷ []) xs) (added before xs) (added (before ++ x ∷ []) xs) item.0
    (keys_from keys xs (i + 1) before next) (keys_from keys xs (i + 1) (before ++ x ∷ []) next)

pub all_added : (keys : List ℤ) → added [] keys ≡ group_keys keys
all_added keys = sym (keys_from keys keys 0 [] refl)

-- ---- the numbers of groups

-- the number of a key among these
abbrev pub number_in : List ℤ → ℤ → ℕ
number_in ks key = position_or_len (int_eq key) ks

number_if : (b : Bool) (m n : ℕ) → (b ≡ false → m ≡ n) → cond (not b) (1 + m) 0 ≡ cond (not b) (1 + n) 0
number_if true m n h = refl
number_if false m n h = ap (λ (k : ℕ). 1 + k) (h refl)

has_rest : (b h : Bool) → (b || h) ≡ true → b ≡ false → h ≡ true
has_rest true h e f = cc
has_rest false h e f = e

has_none : (b h : Bool) → (b || h) ≡ false → h ≡ false
has_none true h e = cc
has_none false h e = e

-- what comes behind does not change the number of a key that is there, nor the next number where it comes next
number_there : (before ys : List ℤ) (x : ℤ) → has before x ≡ true → number_in (before ++ ys) x ≡ number_in before x
number_there [] ys x h = absurd cc
number_there (b ∷ before) ys x h =
    number_if (int_eq x b) (number_in (before ++ ys) x) (number_in before x) (λ f. number_there before ys x (has_rest (int_eq x b) (has before x) h f))

number_next : (before ys : List ℤ) (x : ℤ) → has before x ≡ false → number_in (before ++ x ∷ ys) x ≡ number_in before x
number_next [] ys x h = ap (λ (b : Bool). cond (not b) (1 + number_in ys x) 0) (int_eq_equiv.refl x)
number_next (b ∷ before) ys x h =
    number_if (int_eq x b) (number_in (before ++ x ∷ ys) x) (number_in before x) (λ f. number_next before ys x (has_none (int_eq x b) (has before x) h))

number_of_first : (b : Bool) (before xs : List ℤ) (x : ℤ) → has before x ≡ b
    → number_in (before ++ (if b then added before xs else x ∷ added (before ++ x ∷ []) xs)) x ≡ number_in before x
number_of_first true before xs x e = number_there before (added before xs) x e
number_of_first false before xs x e = number_next before (added (before ++ x ∷ []) xs) x e

-- ---- row by row

-- the keys before, with those that are still to come, are those of the groups
pub keys_next : (keys before after : List ℤ) (i : ℕ) (x : ℤ) → i < length keys → x ≡ get_or keys i (pos 0) → after ≡ (if has before x then before else before ++ x ∷ [])
    → before ++ added before (drop i keys) ≡ group_keys keys → after ++ added after (drop (i + 1) keys) ≡ group_keys keys
keys_next keys before after i x lt e now kept =
    ap (λ (l : List ℤ). l ++ added l (drop (i + 1) keys)) now
    ∙ by (has before x)
    ∙ ap (λ (k : ℤ). before ++ added before (k ∷ drop (i + 1) keys)) e
    ∙ ap (λ (l : List ℤ). before ++ added before l) (sym (from_next keys i (pos 0) lt)) ∙ kept
  where
    by : (b : Bool) → (if b then before else before ++ x ∷ []) ++ added (if b then before else before ++ x ∷ []) (drop (i + 1) keys)
        ≡ before ++ (if b then added before (drop (i + 1) keys) else x ∷ added (before ++ x ∷ []) (drop (i + 1) keys))
    by true = refl
    by false = append_assoc before (x ∷ []) (added (before ++ x ∷ []) (drop (i + 1) keys))

pub number_is : (keys before : List ℤ) (i : ℕ) (x : ℤ) (n : ℕ) → i < length keys → x ≡ get_or keys i (pos 0) → n ≡ number_in before x
    → before ++ added before (drop i keys) ≡ group_keys keys → n ≡ number_in (group_keys keys) (get_or keys i (pos 0))
number_is keys before i x n lt e is kept =
    let rest : List ℤ = drop (i + 1) keys in
    is ∙ sym (number_of_first (has before x) before rest x refl)
    ∙ ap (λ (k : ℤ). number_in (before ++ added before (k ∷ rest)) x) e
    ∙ ap (λ (l : List ℤ). number_in (before ++ added before l) x) (sym (from_next keys i (pos 0) lt))
    ∙ ap (λ (l : List ℤ). number_in l x) kept ∙ ap (number_in (group_keys keys)) e

-- one more row has its number, and one less is still to come
pub numbers_next : (keys : List ℤ) (i n : ℕ) (made now : List ℕ) → i < length keys → n ≡ number_in (group_keys keys) (get_or keys i (pos 0)) → now ≡ made ++ n ∷ []
    → made ++ map (number_in (group_keys keys)) (drop i keys) ≡ group_of keys → now ++ map (number_in (group_keys keys)) (drop (i + 1) keys) ≡ group_of keys
numbers_next keys i n made now lt is e kept =
    let number : ℤ → ℕ = number_in (group_keys keys) in
    let rest : List ℤ = drop (i + 1) keys in
    one_made made now (map number (drop i keys)) (map number rest) (group_of keys) n e
    (ap (map number) (from_next keys i (pos 0) lt) ∙ ap (λ (k : ℕ). k ∷ map number rest) (sym is)) kept

pub numbers_all : (keys : List ℤ) (i : ℕ) (made : List ℕ) → length keys ≤ i → made ++ map (number_in (group_keys keys)) (drop i keys) ≡ group_of keys → made ≡ group_of keys
numbers_all keys i made le kept = all_are_made made (map (number_in (group_keys keys)) (drop i keys)) (group_of keys) (ap (map (number_in (group_keys keys))) (none_left keys i le)) kept

pub numbers_none : (keys : List ℤ) → map (number_in (group_keys keys)) keys ≡ group_of keys
unfolding group_of
numbers_none keys = refl
