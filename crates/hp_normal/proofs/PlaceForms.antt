-- What is found by a hash is the first place, as each item is noted unless an earlier one is held.
use Rattle.std.proofs.Common.{◌≡◌, ◌==◌, ℕ, ◌+◌, ◌<◌, ◌≤◌, eqb, nat_lt, Bool, true, false, not, cond, if◌then◌else◌, List, [], ◌∷◌, ◌++◌, take, get_or, length, Option, Some, None, is_some, position, unwrap_or, Vec, refl, sym, ap, ◌∙◌, arith}
use Rattle.std.proofs.lemmas.Bool.{eqb-true}
use Rattle.std.proofs.lemmas.List.{length-append, take_more, take_all, length-take-le}
use Rattle.std.proofs.lemmas.List.Folds.{position_or_len_push}
use Rattle.std.proofs.lemmas.List.Sums.{prefix_len-le-length}
use Rattle.std.specs.Prelude.{bytes_eq, IfSome}
use Rattle.std.specs.declared.alloc.Global.{Global}
use Rattle.std.specs.List.{position_or_len}
use Rattle.std.specs.Map.{lookup}
use Rattle.std.specs.Option.{option_or}
use Rattle.indexmap.specs.IndexMap.{insert_entry}
use Rattle.hp_script.proofs.TestLemmas.{same_bytes}
use Rattle.hp_word.specs.declared.name.Name.{Name}
use Rattle.hp_script.specs.declared.typed.Shape.{Shape}
use Rattle.hp_normal.specs.PlacesFound.{place_in, columns_in, HasFrames}

-- ---- positions

push : (n l : ℕ) (here same less : Bool) → n ≤ l → eqb n l ≡ same → nat_lt n l ≡ less
    → cond (nat_lt (cond (eqb n l) (l + cond here 0 1) n) (l + 1)) (Some (cond (eqb n l) (l + cond here 0 1) n)) None
    ≡ cond here (Some (unwrap_or (cond (nat_lt n l) (Some n) None) l)) (cond (nat_lt n l) (Some n) None)
push n l here true true le e f = absurd (grind arith)
push n l true true false le e f = rw (e, f, within l, plus_none l) refl
  where
    within : (l : ℕ) → nat_lt (l + 0) (l + 1) ≡ true
    within l = grind arith

    plus_none : (l : ℕ) → l + 0 ≡ l
    plus_none l = omega arith
push n l false true false le e f = rw (e, f, behind l) refl
  where
    behind : (l : ℕ) → nat_lt (l + 1) (l + 1) ≡ false
    behind l = grind arith
push n l true false true le e f = rw (e, f, within n l f) refl
  where
    within : (n l : ℕ) → nat_lt n l ≡ true → nat_lt n (l + 1) ≡ true
    within n l f = grind arith
push n l false false true le e f = rw (e, f, within n l f) refl
  where
    within : (n l : ℕ) → nat_lt n l ≡ true → nat_lt n (l + 1) ≡ true
    within n l f = grind arith
push n l here false false le e f = absurd (grind arith)

-- one more item at the end
pub position_last : {X : Type 0} (p : X → Bool) (xs : List X) (x : X) → position p (xs ++ x ∷ []) ≡ cond (p x) (Some (unwrap_or (position p xs) (length xs))) (position p xs)
position_last p xs x =
    rw (position_or_len_push p xs x, length-append xs (x ∷ []))
    (push (position_or_len p xs) (length xs) (p x) _ _ (prefix_len-le-length (λ y. not (p y)) xs) refl refl)

-- ---- one more item

pub next_item : {K X : Type 0} (p : K → X → Bool) (xs : List X) (i : ℕ) (x : X) (old new : K → Option ℕ) → i < length xs → x ≡ get_or xs i x → ((k : K) → old k ≡ position (p k) (take i xs))
    → ((k : K) → new k ≡ cond (p k x) (Some (unwrap_or (old k) i)) (old k)) → (k : K) → new k ≡ position (p k) (take (i + 1) xs)
next_item {X = X} p xs i x old new lt is held now k =
    let whole : take (i + 1) xs ≡ take i xs ++ x ∷ [] = take_more xs i x lt ∙ ap (λ (y : X). take i xs ++ y ∷ []) (sym is) in
    let long : length (take i xs) ≡ i = length-take-le i xs (omega (arith, lt)) in
    now k ∙ ap (λ (o : Option ℕ). cond (p k x) (Some (unwrap_or o i)) o) (held k)
    ∙ ap (λ (m : ℕ). cond (p k x) (Some (unwrap_or (position (p k) (take i xs)) m)) (position (p k) (take i xs))) (sym long)
    ∙ sym (position_last (p k) (take i xs) x) ∙ ap (λ (l : List X). position (p k) l) (sym whole)

pub all_items : {K X : Type 0} (p : K → X → Bool) (xs : List X) (i : ℕ) (held : K → Option ℕ) → length xs ≤ i → ((k : K) → held k ≡ position (p k) (take i xs)) → (k : K) → held k ≡ position (p k) xs
all_items {X = X} p xs i held past found k = found k ∙ ap (λ (l : List X). position (p k) l) (take_all i xs past)

-- ---- names

same_name : Vec ℕ Global → Vec ℕ Global → Bool
same_name a b = bytes_eq a.items b.items

last_either : (same : Bool) (a : ℕ) (found : Option ℕ) (here there more : List (Vec ℕ Global × ℕ)) → is_some (cond same (Some a) found) ≡ false → (is_some found ≡ false → there ≡ more)
    → (if same then here else there) ≡ more
last_either true a found here there more e h = absurd (cc e)
last_either false a found here there more e h = h e

inserted_last : (entries : List (Vec ℕ Global × ℕ)) (name : Vec ℕ Global) (place : ℕ) → is_some (place_in entries name.items) ≡ false
    → insert_entry (λ (a b : Vec ℕ Global). bytes_eq a.items b.items) entries name place ≡ entries ++ (name, place) ∷ []
inserted_last [] name place e = refl
inserted_last (entry ∷ entries) name place e =
    last_either (bytes_eq name.items entry.0.items) entry.1 (place_in entries name.items) ((entry.0, place) ∷ entries)
    (entry ∷ insert_entry (λ (a b : Vec ℕ Global). bytes_eq a.items b.items) entries name place) (entry ∷ entries ++ (name, place) ∷ []) e
    (λ none. ap (λ (rest : List (Vec ℕ Global × ℕ)). entry ∷ rest) (inserted_last entries name place none))

or_later : (same : Bool) (a : ℕ) (found last : Option ℕ) (all : Option ℕ) → all ≡ option_or found last → cond same (Some a) all ≡ option_or (cond same (Some a) found) last
or_later true a found last all e = refl
or_later false a found last all e = e

held_last : (x : List ℕ) (entries : List (Vec ℕ Global × ℕ)) (name : Vec ℕ Global) (place : ℕ) → place_in (entries ++ (name, place) ∷ []) x ≡ option_or (place_in entries x) (cond (bytes_eq x name.items) (Some place) None)
held_last x [] name place = refl
held_last x (entry ∷ entries) name place = or_later (bytes_eq x entry.0.items) entry.1 (place_in entries x) (cond (bytes_eq x name.items) (Some place) None) _ (held_last x entries name place)

-- a name that was not held
pub noted_new : (entries new : List (Vec ℕ Global × ℕ)) (x : List ℕ) (name : Vec ℕ Global) (place : ℕ) → name.items ≡ x → is_some (place_in entries x) ≡ false
    → new ≡ insert_entry (λ (a b : Vec ℕ Global). bytes_eq a.items b.items) entries name place
    → (y : List ℕ) → place_in new y ≡ cond (bytes_eq y x) (Some (unwrap_or (place_in entries y) place)) (place_in entries y)
noted_new entries new x name place named none now y =
    ap (λ (l : List (Vec ℕ Global × ℕ)). place_in l y) (now ∙ inserted_last entries name place (ap (λ (z : List ℕ). is_some (place_in entries z)) named ∙ none))
    ∙ held_last y entries name place
    ∙ ap (λ (z : List ℕ). option_or (place_in entries y) (cond (bytes_eq y z) (Some place) None)) named
    ∙ by (bytes_eq y x) (place_in entries y) (λ same. ap (λ (z : List ℕ). is_some (place_in entries z)) (same_bytes y x same) ∙ none)
  where
    by : (b : Bool) (o : Option ℕ) → (b ≡ true → is_some o ≡ false) → option_or o (cond b (Some place) None) ≡ cond b (Some (unwrap_or o place)) o
    by true None h = refl
    by true (Some k) h = absurd (cc (h refl))
    by false None h = refl
    by false (Some k) h = refl

-- and one that was
pub noted_before : (entries : List (Vec ℕ Global × ℕ)) (x : List ℕ) (place : ℕ) → is_some (place_in entries x) ≡ true
    → (y : List ℕ) → place_in entries y ≡ cond (bytes_eq y x) (Some (unwrap_or (place_in entries y) place)) (place_in entries y)
noted_before entries x place some y = by (bytes_eq y x) (place_in entries y) (λ same. ap (λ (z : List ℕ). is_some (place_in entries z)) (same_bytes y x same) ∙ some)
  where
    by : (b : Bool) (o : Option ℕ) → (b ≡ true → is_some o ≡ true) → o ≡ cond b (Some (unwrap_or o place)) o
    by true None h = absurd (cc (h refl))
    by true (Some k) h = refl
    by false o h = refl

-- ---- numbers

-- what is held of a number is what is held of its equal
pub noted_number : (held new : ℕ → Option ℕ) (number place : ℕ) → ((n : ℕ) → new n ≡ cond (number == n) (Some (unwrap_or (held number) place)) (held n))
    → (n : ℕ) → new n ≡ cond (number == n) (Some (unwrap_or (held n) place)) (held n)
noted_number held new number place now n = now n ∙ by (number == n) (λ same. ap held (eqb-true number n same))
  where
    by : (b : Bool) → (b ≡ true → held number ≡ held n) → cond b (Some (unwrap_or (held number) place)) (held n) ≡ cond b (Some (unwrap_or (held n) place)) (held n)
    by true h = ap (λ (o : Option ℕ). Some (unwrap_or o place)) (h refl)
    by false h = refl

-- ---- frames

-- what is found are the columns
pub frame_found : (found : ℕ → Option Shape) (held : ℕ → Option (List Name)) (n : ℕ) (names : List Name) → HasFrames found held → held n ≡ Some names → names ≡ columns_in (found n)
frame_found found held n names has e = by (held n) (has n) e
  where
    by : (o : Option (List Name)) → IfSome o (λ names. names ≡ columns_in (found n)) → o ≡ Some names → names ≡ columns_in (found n)
    by None f e = absurd cc
    by (Some known) f e = same known e ∙ f
      where
        same : (known : List Name) → Some known ≡ Some names → names ≡ known
        same known e = cc

-- one more frame
pub frame_added : (found : ℕ → Option Shape) (old new : ℕ → Option (List Name)) (number : ℕ) (names : List Name) → HasFrames found old → names ≡ columns_in (found number)
    → ((n : ℕ) → new n ≡ cond (number == n) (Some names) (old n)) → HasFrames found new
frame_added found old new number names has is now n = rw (now n) (by (number == n) (λ same. is ∙ ap (λ (k : ℕ). columns_in (found k)) (eqb-true number n same)))
  where
    by : (b : Bool) → (b ≡ true → names ≡ columns_in (found n)) → IfSome (cond b (Some names) (old n)) (λ names. names ≡ columns_in (found n))
    by true h = h refl
    by false h = has n
