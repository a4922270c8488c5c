-- What is measured of each group, row by row.
use Rattle.std.proofs.Common.{◌≡◌, ℕ, zero, suc, ◌+◌, ◌<◌, ◌≤◌, ℤ, pos, ◌+ℤ◌, Bool, true, false, cond, if◌then◌else◌, List, [], ◌∷◌, ◌++◌, map, length, get_or, take, refl, sym, ap, subst, ◌∙◌, arith, append_assoc, length-append}
use Rattle.std.specs.Prelude.{⊤, not, ◌||◌, slice_set, replicate}
use Rattle.std.specs.Cmp.{signed_Decides}
use Rattle.std.specs.Ordering.{int_eq}
use Rattle.std.proofs.lemmas.Cmp.{int_eq_equiv}
use Rattle.std.proofs.lemmas.List.{take_all, length-map, get_or-map}
use Rattle.std.proofs.lemmas.List.Folds.{list_any-append}
use Rattle.hp_word.specs.declared.fold.FoldKind.{FoldKind}
use Rattle.hp_word.specs.declared.fold.FoldKind.TheVariants as folds
use Rattle.hp_word.specs.Folds.{fold_of, joined}
use Rattle.hp_word.specs.RowRules.{has, filter_rows, with_key, firsts_from_0, group_keys, group_of}
use Rattle.hp_word.specs.Words.{truth, is_true}
use Rattle.hp_word.proofs.FoldLemmas.{fold_of_one_more}
use Rattle.hp_kernels.specs.declared.groups.Groups.{Groups}
use Rattle.hp_kernels.specs.Grouping.{AreGroupsOf}
use Rattle.hp_kernels.proofs.FilterLemmas.{rows_more, rows_same, rows_end}
use Rattle.hp_kernels.proofs.GroupLemmas.{added, all_added, number_in}

-- ---- keys that stand once

abbrev Once : List ℤ → Type 0
Once [] = ⊤
Once (k ∷ ks) = (has ks k ≡ false) × Once ks

same_key : (x y : ℤ) → int_eq x y ≡ true → x ≡ y
same_key x y e = (signed_Decides x y).0 e

either_true : (b c : Bool) → b ≡ true → (b || c) ≡ true
either_true b c e = ap (λ (d : Bool). d || c) e

true_either : (b c : Bool) → c ≡ true → (b || c) ≡ true
true_either true c e = refl
true_either false c e = e

neither : (b c : Bool) → b ≡ false → c ≡ false → (b || c) ≡ false
neither b c e f = λ j. e j || f j

true_is_not_false : true ≡ false → ⊥
true_is_not_false e = cc

has_front : (xs ys : List ℤ) (x : ℤ) → has xs x ≡ true → has (xs ++ ys) x ≡ true
has_front xs ys x e = list_any-append (int_eq x) xs ys ∙ either_true (has xs x) (has ys x) e

has_last : (xs : List ℤ) (x : ℤ) → has (xs ++ x ∷ []) x ≡ true
has_last xs x = list_any-append (int_eq x) xs (x ∷ []) ∙ true_either (has xs x) (has (x ∷ []) x) (either_true (int_eq x x) false (int_eq_equiv.refl x))

-- what is added was not there before
not_added : (before xs : List ℤ) (y : ℤ) → has before y ≡ true → has (added before xs) y ≡ false
not_added before [] y h = refl
not_added before (x ∷ xs) y h = by (has before x) refl (not_added before xs y h) (not_added (before ++ x ∷ []) xs y (has_front before (x ∷ []) y h))
  where
    other : (b : Bool) → int_eq y x ≡ b → has before x ≡ false → int_eq y x ≡ false
    other true e n = absurd (true_is_not_false (sym h ∙ ap (has before) (same_key y x e) ∙ n))
    other false e n = e

    by : (b : Bool) → has before x ≡ b → has (added before xs) y ≡ false → has (added (before ++ x ∷ []) xs) y ≡ false → has (if b then added before xs else x ∷ added (before ++ x ∷ []) xs) y ≡ false
    by true e old new = old
    by false e old new = neither (int_eq y x) (has (added (before ++ x ∷ []) xs) y) (other (int_eq y x) refl e) new

added_once : (before xs : List ℤ) → Once (added before xs)
added_once before [] = tt
added_once before (x ∷ xs) = by (has before x) (added_once before xs) (added_once (before ++ x ∷ []) xs)
  where
    by : (b : Bool) → Once (added before xs) → Once (added (before ++ x ∷ []) xs) → Once (if b then added before xs else x ∷ added (before ++ x ∷ []) xs)
    by true old new = old
    by false old new = (not_added (before ++ x ∷ []) xs x (has_last before x), new)

-- each key is before or added
has_added : (before xs : List ℤ) (i : ℕ) → i < length xs → has (before ++ added before xs) (get_or xs i (pos 0)) ≡ true
has_added before [] i lt = absurd (omega arith)
has_added before (x ∷ xs) i lt = by (has before x) i lt (λ i. has_added before xs i) (λ i. has_added (before ++ x ∷ []) xs i) refl
  where
    moved : (y : ℤ) → has ((before ++ x ∷ []) ++ added (before ++ x ∷ []) xs) y ≡ true → has (before ++ x ∷ added (before ++ x ∷ []) xs) y ≡ true
    moved y e = ap (λ (l : List ℤ). has l y) (sym (append_assoc before (x ∷ []) (added (before ++ x ∷ []) xs))) ∙ e

    by : (b : Bool) (i : ℕ) → i < suc (length xs) → ((i : ℕ) → i < length xs → has (before ++ added before xs) (get_or xs i (pos 0)) ≡ true)
        → ((i : ℕ) → i < length xs → has ((before ++ x ∷ []) ++ added (before ++ x ∷ []) xs) (get_or xs i (pos 0)) ≡ true) → has before x ≡ b
        → has (before ++ (if b then added before xs else x ∷ added (before ++ x ∷ []) xs)) (get_or (x ∷ xs) i (pos 0)) ≡ true
    by true zero lt old new e = has_front before (added before xs) x e
    by true (suc i) lt old new e = old i (omega arith)
    by false zero lt old new e = moved x (has_front (before ++ x ∷ []) (added (before ++ x ∷ []) xs) x (has_last before x))
    by false (suc i) lt old new e = moved (get_or xs i (pos 0)) (new i (omega arith))

pub keys_once : (keys : List ℤ) → Once (group_keys keys)
keys_once keys = subst Once (all_added keys) (added_once [] keys)

pub has_key : (keys : List ℤ) (i : ℕ) → i < length keys → has (group_keys keys) (get_or keys i (pos 0)) ≡ true
has_key keys i lt = ap (λ (l : List ℤ). has l (get_or keys i (pos 0))) (sym (all_added keys)) ∙ has_added [] keys i lt

-- ---- the number of a key

number_here : (ks : List ℤ) (k x : ℤ) → int_eq x k ≡ true → number_in (k ∷ ks) x ≡ 0
number_here ks k x e = ap (λ (b : Bool). cond (not b) (1 + number_in ks x) 0) e

number_behind : (ks : List ℤ) (k x : ℤ) → int_eq x k ≡ false → number_in (k ∷ ks) x ≡ suc (number_in ks x)
number_behind ks k x e = ap (λ (b : Bool). cond (not b) (1 + number_in ks x) 0) e ∙ omega arith

has_behind : (ks : List ℤ) (k x : ℤ) → int_eq x k ≡ false → has (k ∷ ks) x ≡ true → has ks x ≡ true
has_behind ks k x e h = sym (ap (λ (b : Bool). b || has ks x) e) ∙ h

pub number_within : (ks : List ℤ) (x : ℤ) → has ks x ≡ true → number_in ks x < length ks
number_within [] x h = absurd (true_is_not_false (sym h))
number_within (k ∷ ks) x h = by (int_eq x k) (number_within ks x) refl
  where
    by : (b : Bool) → (has ks x ≡ true → number_in ks x < length ks) → int_eq x k ≡ b → number_in (k ∷ ks) x < suc (length ks)
    by true rest e = omega (arith, number_here ks k x e)
    by false rest e = omega (arith, number_behind ks k x e, rest (has_behind ks k x e h))

pub key_at_number : (ks : List ℤ) (x d : ℤ) → has ks x ≡ true → get_or ks (number_in ks x) d ≡ x
key_at_number [] x d h = absurd (true_is_not_false (sym h))
key_at_number (k ∷ ks) x d h = by (int_eq x k) (key_at_number ks x d) refl
  where
    by : (b : Bool) → (has ks x ≡ true → get_or ks (number_in ks x) d ≡ x) → int_eq x k ≡ b → get_or (k ∷ ks) (number_in (k ∷ ks) x) d ≡ x
    by true rest e = ap (λ (n : ℕ). get_or (k ∷ ks) n d) (number_here ks k x e) ∙ sym (same_key x k e)
    by false rest e = ap (λ (n : ℕ). get_or (k ∷ ks) n d) (number_behind ks k x e) ∙ rest (has_behind ks k x e h)

-- ---- one more row

-- the same is made of keys that are not x
same_but : (f g : ℤ → ℤ) (ks : List ℤ) (x : ℤ) → has ks x ≡ false → ((k : ℤ) → int_eq k x ≡ false → f k ≡ g k) → map f ks ≡ map g ks
same_but f g [] x h same = refl
same_but f g (k ∷ ks) x h same = λ j. same k (not_first (int_eq x k) h) j ∷ same_but f g ks x (not_rest (int_eq x k) h) same j
  where
    not_first : (b : Bool) → (b || has ks x) ≡ false → int_eq k x ≡ false
    not_first b e = int_eq_equiv.symm k x ∙ first_false (int_eq x k) (has ks x) h
      where
        first_false : (b c : Bool) → (b || c) ≡ false → b ≡ false
        first_false true c e = cc
        first_false false c e = refl

    not_rest : (b : Bool) → (b || has ks x) ≡ false → has ks x ≡ false
    not_rest true e = cc
    not_rest false e = e

-- where what is made of x alone changes, it changes at x's number
pub one_changed : (f g : ℤ → ℤ) (ks : List ℤ) (x : ℤ) → Once ks → has ks x ≡ true → ((k : ℤ) → int_eq k x ≡ false → f k ≡ g k) → slice_set (map f ks) (number_in ks x) (g x) ≡ map g ks
one_changed f g [] x once h same = absurd (true_is_not_false (sym h))
one_changed f g (k ∷ ks) x once h same = by (int_eq x k) (λ h. one_changed f g ks x once.1 h same) refl
  where
    by : (b : Bool) → (has ks x ≡ true → slice_set (map f ks) (number_in ks x) (g x) ≡ map g ks) → int_eq x k ≡ b
        → slice_set (f k ∷ map f ks) (number_in (k ∷ ks) x) (g x) ≡ g k ∷ map g ks
    by true rest e =
        ap (λ (n : ℕ). slice_set (f k ∷ map f ks) n (g x)) (number_here ks k x e)
        ∙ (λ j. g (same_key x k e j) ∷ same_but f g ks x (ap (has ks) (same_key x k e) ∙ once.0) same j)
    by false rest e =
        ap (λ (n : ℕ). slice_set (f k ∷ map f ks) n (g x)) (number_behind ks k x e)
        ∙ (λ j. same k (int_eq_equiv.symm k x ∙ e) j ∷ rest (has_behind ks k x e h) j)

-- ---- folds of groups

-- the fold of the cells, among the first i rows, of the rows with a key
abbrev pub fold_so_far : FoldKind → (keys cells : List ℤ) (i : ℕ) → ℤ → ℤ
fold_so_far kind keys cells i key = fold_of kind (filter_rows (take i (map (λ k. truth (int_eq key k)) keys)) cells)

truth_is : (b : Bool) → is_true (truth b) ≡ b
truth_is true = refl
truth_is false = refl

mapped_same : {f g : ℤ → ℤ} → ((x : ℤ) → f x ≡ g x) → (xs : List ℤ) → map f xs ≡ map g xs
mapped_same h [] = refl
mapped_same h (x ∷ xs) = λ j. h x j ∷ mapped_same h xs j

module _ (kind : FoldKind) (keys cells : List ℤ) (i : ℕ) (lt : i < length keys) where
  abbrev mask : ℤ → List ℤ
  mask key = map (λ k. truth (int_eq key k)) keys

  long : (key : ℤ) → i < length (mask key)
  long key = omega (arith, lt, length-map keys (λ k. truth (int_eq key k)))

  marked : (key : ℤ) → is_true (get_or (mask key) i (pos 0)) ≡ int_eq key (get_or keys i (pos 0))
  marked key = ap is_true (get_or-map (λ k. truth (int_eq key k)) keys i (pos 0) (pos 0) lt) ∙ truth_is (int_eq key (get_or keys i (pos 0)))

  fold_next : (key : ℤ) → i < length cells → int_eq key (get_or keys i (pos 0)) ≡ true
      → fold_so_far kind keys cells (i + 1) key ≡ joined kind (fold_so_far kind keys cells i key) (get_or cells i (pos 0))
  fold_next key within e =
      ap (fold_of kind) (rows_more (mask key) cells i (long key) within (sym (marked key ∙ e)))
      ∙ fold_of_one_more kind (filter_rows (take i (mask key)) cells) (get_or cells i (pos 0))

  fold_other : (key : ℤ) → int_eq key (get_or keys i (pos 0)) ≡ false → fold_so_far kind keys cells (i + 1) key ≡ fold_so_far kind keys cells i key
  fold_other key e = ap (fold_of kind) (rows_same (mask key) cells i (long key) (sym (marked key ∙ e)))

  -- one more row changes what is made of its group alone
  groups_next : (f g h : ℤ → ℤ) (n : ℕ) (made now : List ℤ) → ((k : ℤ) → int_eq k (get_or keys i (pos 0)) ≡ false → f k ≡ g k) → g (get_or keys i (pos 0)) ≡ h (f (get_or keys i (pos 0)))
      → n ≡ number_in (group_keys keys) (get_or keys i (pos 0)) → made ≡ map f (group_keys keys) → now ≡ slice_set made n (h (get_or made n (pos 0))) → now ≡ map g (group_keys keys)
  groups_next f g h n made now others this is m e =
      let gk : List ℤ = group_keys keys in
      let key : ℤ = get_or keys i (pos 0) in
      let here : has gk key ≡ true = has_key keys i lt in
      let old : get_or (map f gk) (number_in gk key) (pos 0) ≡ f key =
      get_or-map f gk (number_in gk key) (pos 0) (pos 0) (number_within gk key here) ∙ ap f (key_at_number gk key (pos 0) here) in
      e ∙ (λ j. slice_set (m j) (is j) (h (get_or (m j) (is j) (pos 0))))
      ∙ ap (λ (x : ℤ). slice_set (map f gk) (number_in gk key) x) (ap h old ∙ sym this)
      ∙ one_changed f g gk key (keys_once keys) here others

  -- one more row is folded into its group
  pub folds_next : (n : ℕ) (made now : List ℤ) → i < length cells → n ≡ number_in (group_keys keys) (get_or keys i (pos 0)) → made ≡ map (fold_so_far kind keys cells i) (group_keys keys)
      → now ≡ slice_set made n (joined kind (get_or made n (pos 0)) (get_or cells i (pos 0))) → now ≡ map (fold_so_far kind keys cells (i + 1)) (group_keys keys)
  folds_next n made now within is m e =
      groups_next (fold_so_far kind keys cells i) (fold_so_far kind keys cells (i + 1)) (λ x. joined kind x (get_or cells i (pos 0))) n made now (λ k other. sym (fold_other k other))
      (fold_next (get_or keys i (pos 0)) within (int_eq_equiv.refl (get_or keys i (pos 0)))) is m e

  -- a row without a cell changes nothing
  pub folds_pass : (made : List ℤ) → length cells ≤ i → made ≡ map (fold_so_far kind keys cells i) (group_keys keys) → made ≡ map (fold_so_far kind keys cells (i + 1)) (group_keys keys)
  folds_pass made le m = m ∙ mapped_same (λ key. sym (ap (fold_of kind) (rows_end (mask key) cells i le))) (group_keys keys)

-- the number of a row's group, which is one of so many
pub row_number : (keys : List ℤ) (groups : Groups) (i d : ℕ) → AreGroupsOf keys groups → i < length keys → get_or groups.group_of.items i d ≡ number_in (group_keys keys) (get_or keys i (pos 0))
unfolding group_of
row_number keys groups i d are lt = ap (λ (l : List ℕ). get_or l i d) are.numbers ∙ get_or-map (number_in (group_keys keys)) keys i (pos 0) d lt

pub number_below : (keys : List ℤ) (i : ℕ) → i < length keys → number_in (group_keys keys) (get_or keys i (pos 0)) < length (group_keys keys)
number_below keys i lt = number_within (group_keys keys) (get_or keys i (pos 0)) (has_key keys i lt)

pub group_key : (keys : List ℤ) (i : ℕ) → i < length keys → get_or (group_keys keys) (number_in (group_keys keys) (get_or keys i (pos 0))) (pos 0) ≡ get_or keys i (pos 0)
group_key keys i lt = key_at_number (group_keys keys) (get_or keys i (pos 0)) (pos 0) (has_key keys i lt)

pub all_numbered : (keys : List ℤ) (groups : Groups) → AreGroupsOf keys groups → length groups.group_of.items ≡ length keys
unfolding group_of
all_numbered keys groups are = ap length are.numbers ∙ length-map keys (number_in (group_keys keys))

pub all_first : (keys : List ℤ) (groups : Groups) → AreGroupsOf keys groups → length groups.firsts.items ≡ length (group_keys keys)
all_first keys groups are = ap length are.firsts ∙ sym (length-map (firsts_from_0 keys) (λ first. get_or keys first (pos 0)))

-- ---- none and all of the rows

none_taken : (mask xs : List ℤ) → filter_rows (take 0 mask) xs ≡ []
unfolding filter_rows
none_taken [] xs = refl
none_taken (m ∷ mask) xs = refl

same_of_all : (f : ℤ → ℤ) (x : ℤ) (ks : List ℤ) → ((k : ℤ) → f k ≡ x) → replicate (length ks) x ≡ map f ks
same_of_all f x [] h = refl
same_of_all f x (k ∷ ks) h = λ j. sym (h k) j ∷ same_of_all f x ks h j

pub folds_none : (kind : FoldKind) (keys cells : List ℤ) (groups : Groups) (x : ℤ) → AreGroupsOf keys groups → x ≡ fold_of kind []
    → replicate (length groups.firsts.items) x ≡ map (fold_so_far kind keys cells 0) (group_keys keys)
folds_none kind keys cells groups x are e =
    (λ j. replicate (all_first keys groups are j) (e j))
    ∙ same_of_all (fold_so_far kind keys cells 0) (fold_of kind []) (group_keys keys) (λ key. ap (fold_of kind) (none_taken (map (λ k. truth (int_eq key k)) keys) cells))

whole_mask : (keys : List ℤ) (key : ℤ) (i : ℕ) → length keys ≤ i → take i (map (λ k. truth (int_eq key k)) keys) ≡ map (λ k. truth (int_eq key k)) keys
whole_mask keys key i le = take_all i (map (λ k. truth (int_eq key k)) keys) (omega (arith, length-map keys (λ k. truth (int_eq key k))))

pub folds_all : (kind : FoldKind) (keys cells : List ℤ) (i : ℕ) (made : List ℤ) → length keys ≤ i → made ≡ map (fold_so_far kind keys cells i) (group_keys keys)
    → made ≡ map (λ key. fold_of kind (with_key keys key cells)) (group_keys keys)
unfolding with_key
folds_all kind keys cells i made le m = m ∙ mapped_same (λ key. ap (λ (l : List ℤ). fold_of kind (filter_rows l cells)) (whole_mask keys key i le)) (group_keys keys)

-- ---- counts of groups

-- how many of the first i rows have a key
abbrev pub count_so_far : (keys : List ℤ) (i : ℕ) → ℤ → ℤ
count_so_far keys i key = pos (length (filter_rows (take i (map (λ k. truth (int_eq key k)) keys)) keys))

-- one more row is counted for its group
pub counts_next : (keys : List ℤ) (i : ℕ) (n : ℕ) (made now : List ℤ) (x : ℤ) → i < length keys → n ≡ number_in (group_keys keys) (get_or keys i (pos 0)) → made ≡ map (count_so_far keys i) (group_keys keys)
    → x ≡ get_or made n (pos 0) +ℤ pos 1 → now ≡ slice_set made n x → now ≡ map (count_so_far keys (i + 1)) (group_keys keys)
counts_next keys i n made now x lt is m more e =
    groups_next folds.Sum keys keys i lt (count_so_far keys i) (count_so_far keys (i + 1)) (λ x. x +ℤ pos 1) n made now other this is m (e ∙ ap (slice_set made n) more)
  where
    mask : ℤ → List ℤ
    mask key = map (λ k. truth (int_eq key k)) keys

    other : (k : ℤ) → int_eq k (get_or keys i (pos 0)) ≡ false → count_so_far keys i k ≡ count_so_far keys (i + 1) k
    other k e = sym (ap (λ (l : List ℤ). pos (length l)) (rows_same (mask k) keys i (long folds.Sum keys keys i lt k) (sym (marked folds.Sum keys keys i lt k ∙ e))))

    this : count_so_far keys (i + 1) (get_or keys i (pos 0)) ≡ count_so_far keys i (get_or keys i (pos 0)) +ℤ pos 1
    this =
        let key : ℤ = get_or keys i (pos 0) in
        ap (λ (l : List ℤ). pos (length l)) (rows_more (mask key) keys i (long folds.Sum keys keys i lt key) lt (sym (marked folds.Sum keys keys i lt key ∙ int_eq_equiv.refl key)))
        ∙ ap pos (length-append (filter_rows (take i (mask key)) keys) (get_or keys i (pos 0) ∷ []))

pub counts_none : (keys : List ℤ) (groups : Groups) → AreGroupsOf keys groups → replicate (length groups.firsts.items) (pos 0) ≡ map (count_so_far keys 0) (group_keys keys)
counts_none keys groups are =
    (λ j. replicate (all_first keys groups are j) (pos 0))
    ∙ same_of_all (count_so_far keys 0) (pos 0) (group_keys keys) (λ key. ap (λ (l : List ℤ). pos (length l)) (none_taken (map (λ k. truth (int_eq key k)) keys) keys))

pub counts_all : (keys : List ℤ) (i : ℕ) (made : List ℤ) → length keys ≤ i → made ≡ map (count_so_far keys i) (group_keys keys)
    → made ≡ map (λ key. pos (length (with_key keys key keys))) (group_keys keys)
unfolding with_key
counts_all keys i made le m = m ∙ mapped_same (λ key. ap (λ (l : List ℤ). pos (length (filter_rows l keys))) (whole_mask keys key i le)) (group_keys keys)

-- the number of a row's group is a place of what is made of each group
pub number_made : (keys : List ℤ) (groups : Groups) (f : ℤ → ℤ) (i n d : ℕ) (made : List ℤ) → AreGroupsOf keys groups → i < length keys → n ≡ get_or groups.group_of.items i d → made ≡ map f (group_keys keys) → n < length made
number_made keys groups f i n d made are lt is m =
    omega (arith, is ∙ row_number keys groups i d are lt, number_below keys i lt, ap length m, length-map (group_keys keys) f)
