-- Names and variables that are found by a hash, as the lists that a contract sees, and what their sets hold.
use Rattle.std.proofs.Common.{◌≡◌, ℕ, zero, suc, Bool, true, false, ◌&&◌, ◌||◌, if◌then◌else◌, List, [], ◌∷◌, ◌++◌, length, take, drop, Vec, Result, Ok, Err, OnOk, bytes_eq, refl, ap, sym, ◌∙◌, ◌≤◌, arith, length-append, append_assoc, append-nil}
use Rattle.std.specs.declared.alloc.Global.{Global}
use Rattle.std.specs.List.{list_any}
use Rattle.std.proofs.lemmas.List.Folds.{list_any-append}
use Rattle.indexmap.specs.IndexSet.{insert_key}
use Rattle.hp_script.specs.declared.argument.Argument.{Argument}
use Rattle.hp_script.specs.declared.argument.Argument.TheVariants.{Column, Given, Measure}
use Rattle.hp_script.specs.Breaks.{names_among}
use Rattle.hp_script.specs.Scope.{has}
use Rattle.hp_script.proofs.TestLemmas.{same_bytes}
use Rattle.hp_types.specs.Names.{bytes_of, with_name, with_common}
use Rattle.hp_types.specs.Statements.{Begins}

-- ---- what is seen of a set

pub has_seen : (x : List ℕ) (names : List (Vec ℕ Global)) → has x (bytes_of names) ≡ list_any (λ name. bytes_eq x name.items) names
has_seen x [] = refl
has_seen x (name ∷ names) = ap (λ (b : Bool). bytes_eq x name.items || b) (has_seen x names)

pub length_seen : (names : List (Vec ℕ Global)) → length (bytes_of names) ≡ length names
length_seen [] = refl
length_seen (name ∷ names) = ap suc (length_seen names)

pub take_seen : (n : ℕ) (names : List (Vec ℕ Global)) → bytes_of (take n names) ≡ take n (bytes_of names)
take_seen zero [] = refl
take_seen zero (name ∷ names) = refl
take_seen (suc n) [] = refl
take_seen (suc n) (name ∷ names) = ap (λ (rest : List (List ℕ)). name.items ∷ rest) (take_seen n names)

pub drop_seen : (n : ℕ) (names : List (Vec ℕ Global)) → bytes_of (drop n names) ≡ drop n (bytes_of names)
drop_seen zero [] = refl
drop_seen zero (name ∷ names) = refl
drop_seen (suc n) [] = refl
drop_seen (suc n) (name ∷ names) = drop_seen n names

seen_more : (names : List (Vec ℕ Global)) (v : Vec ℕ Global) → bytes_of (names ++ v ∷ []) ≡ bytes_of names ++ v.items ∷ []
seen_more [] v = refl
seen_more (name ∷ names) v = ap (λ (rest : List (List ℕ)). name.items ∷ rest) (seen_more names v)

seen_either : (b : Bool) (names : List (Vec ℕ Global)) (v : Vec ℕ Global)
    → bytes_of (if b then names else names ++ v ∷ []) ≡ (if b then bytes_of names else bytes_of names ++ v.items ∷ [])
seen_either true names v = refl
seen_either false names v = seen_more names v

pub seen_inserted : (names : List (Vec ℕ Global)) (v : Vec ℕ Global) → bytes_of (insert_key (λ (a b : Vec ℕ Global). bytes_eq a.items b.items) names v) ≡ with_name v.items (bytes_of names)
seen_inserted names v =
    seen_either (list_any (λ (name : Vec ℕ Global). bytes_eq v.items name.items) names) names v
    ∙ ap (λ (b : Bool). if b then bytes_of names else bytes_of names ++ v.items ∷ []) (sym (has_seen v.items names))

pub with_present : (x : List ℕ) (names : List (List ℕ)) → has x names ≡ true → names ≡ with_name x names
with_present x names e = rw e refl

-- ---- what a set holds

or_false : (b : Bool) → (b || false) ≡ b
or_false true = refl
or_false false = refl

same_or : (a b : Bool) → (a ≡ true → b ≡ true) → b ≡ (b || a)
same_or true true h = refl
same_or true false h = absurd (cc (h refl))
same_or false b h = sym (or_false b)

has_one_more : (present : Bool) (x n : List ℕ) (names : List (List ℕ)) → has n names ≡ present → has x (if present then names else names ++ n ∷ []) ≡ (has x names || bytes_eq x n)
has_one_more true x n names e = same_or (bytes_eq x n) (has x names) (λ same. ap (λ (y : List ℕ). has y names) (same_bytes x n same) ∙ e)
has_one_more false x n names e = list_any-append (bytes_eq x) names (n ∷ []) ∙ ap (λ (b : Bool). has x names || b) (or_false (bytes_eq x n))

pub has_with : (x n : List ℕ) (names : List (List ℕ)) → has x (with_name n names) ≡ (has x names || bytes_eq x n)
has_with x n names = has_one_more (has n names) x n names refl

has_given : (given : Bool) (x n : List ℕ) (first second names : List (List ℕ)) → has n first ≡ given
    → (has x (if given then with_name n names else names) || (has x first && has x second)) ≡ (has x names || (has x first && (bytes_eq x n || has x second)))
has_given true x n first second names e =
    ap (λ (b : Bool). b || (has x first && has x second)) (has_with x n names)
    ∙ by_same (bytes_eq x n) (has x first) (has x second) (has x names) (λ same. ap (λ (y : List ℕ). has y first) (same_bytes x n same) ∙ e)
  where
    by_same : (same f s p : Bool) → (same ≡ true → f ≡ true) → ((p || same) || (f && s)) ≡ (p || (f && (same || s)))
    by_same true true s true h = refl
    by_same true true s false h = refl
    by_same true false s p h = absurd (cc (h refl))
    by_same false f s true h = refl
    by_same false f s false h = refl
has_given false x n first second names e = by_same (bytes_eq x n) (has x first) (has x second) (has x names) (λ same. ap (λ (y : List ℕ). has y first) (same_bytes x n same) ∙ e)
  where
    by_same : (same f s p : Bool) → (same ≡ true → f ≡ false) → (p || (f && s)) ≡ (p || (f && (same || s)))
    by_same true true s p h = absurd (cc (h refl))
    by_same true false s p h = refl
    by_same false f s p h = refl

pub has_common : (x : List ℕ) (first second names : List (List ℕ)) → has x (with_common first second names) ≡ (has x names || (has x first && has x second))
has_common x first [] names = nothing (has x names) (has x first)
  where
    nothing : (p f : Bool) → p ≡ (p || (f && false))
    nothing true f = refl
    nothing false true = refl
    nothing false false = refl
has_common x first (n ∷ second) names =
    has_common x first second (if has n first then with_name n names else names) ∙ has_given (has n first) x n first second names refl

-- ---- names with others behind them

pub begins_same : (names : List (List ℕ)) → Begins names names
begins_same names = record { more = []; is = sym (append-nil names) }

pub begins_on : (a b c : List (List ℕ)) → Begins a b → Begins b c → Begins a c
begins_on a b c g h = record { more = g.more ++ h.more; is = h.is ∙ ap (λ (names : List (List ℕ)). names ++ h.more) g.is ∙ append_assoc a g.more h.more }

begins_if : (present : Bool) (n : List ℕ) (names : List (List ℕ)) → Begins names (if present then names else names ++ n ∷ [])
begins_if true n names = begins_same names
begins_if false n names = record { more = n ∷ []; is = refl }

pub begins_with : (n : List ℕ) (names : List (List ℕ)) → Begins names (with_name n names)
begins_with n names = begins_if (has n names) n names

begins_given : (given : Bool) (n : List ℕ) (names : List (List ℕ)) → Begins names (if given then with_name n names else names)
begins_given true n names = begins_with n names
begins_given false n names = begins_same names

pub begins_common : (first second names : List (List ℕ)) → Begins names (with_common first second names)
begins_common first [] names = begins_same names
begins_common first (n ∷ second) names =
    begins_on names (if has n first then with_name n names else names) (with_common first second (if has n first then with_name n names else names))
    (begins_given (has n first) n names) (begins_common first second (if has n first then with_name n names else names))

take_front : (front more : List (List ℕ)) → take (length front) (front ++ more) ≡ front
take_front [] [] = refl
take_front [] (n ∷ more) = refl
take_front (n ∷ front) more = ap (λ (rest : List (List ℕ)). n ∷ rest) (take_front front more)

drop_front : (front more : List (List ℕ)) → drop (length front) (front ++ more) ≡ more
drop_front [] [] = refl
drop_front [] (n ∷ more) = refl
drop_front (n ∷ front) more = drop_front front more

pub front_kept : (front names : List (List ℕ)) → Begins front names → take (length front) names ≡ front
front_kept front names b = ap (take (length front)) b.is ∙ take_front front b.more

pub rest_kept : (front names : List (List ℕ)) (b : Begins front names) → drop (length front) names ≡ b.more
rest_kept front names b = ap (drop (length front)) b.is ∙ drop_front front b.more

pub common_by : (first one second two names front : List (List ℕ)) → first ≡ one → second ≡ two → names ≡ front → with_common first second names ≡ with_common one two front
common_by first one second two names front e f g =
    ap (λ (xs : List (List ℕ)). with_common xs second names) e ∙ ap (λ (xs : List (List ℕ)). with_common one xs names) f ∙ ap (with_common one two) g

pub begins_long : (front names : List (List ℕ)) → Begins front names → length front ≤ length names
begins_long front names b = omega (arith, ap length b.is, length-append front b.more)

-- ---- the names that arguments give or name

names_both : (xs : List Argument) (a : Argument) → names_among (xs ++ a ∷ []) ≡ names_among xs ++ names_among (a ∷ [])
names_both [] a = refl
names_both (Column x ∷ xs) a = ap (λ (names : List (List ℕ)). x.bytes ∷ names) (names_both xs a)
names_both (Given x kind ∷ xs) a = ap (λ (names : List (List ℕ)). x.bytes ∷ names) (names_both xs a)
names_both (Measure x ∷ xs) a = ap (λ (names : List (List ℕ)). x.bytes ∷ names) (names_both xs a)
names_both (_ ∷ xs) a = names_both xs a

pub named_behind : (x : List ℕ) (xs : List Argument) (a : Argument) → has x (names_among (xs ++ a ∷ [])) ≡ (has x (names_among xs) || has x (names_among (a ∷ [])))
named_behind x xs a = ap (has x) (names_both xs a) ∙ list_any-append (bytes_eq x) (names_among xs) (names_among (a ∷ []))

pub has_named : {E : Type 0} (r : Result (Unit {0}) E) (names now among : List (List ℕ)) (n : List ℕ) → n ∷ [] ≡ among → OnOk r (now ≡ with_name n names)
    → OnOk r ((x : List ℕ) → has x now ≡ (has x names || has x among))
has_named (Ok a) names now among n is added = λ x.
    ap (has x) added ∙ has_with x n names ∙ ap (λ (b : Bool). has x names || b) (sym (or_false (bytes_eq x n)) ∙ ap (has x) is)
has_named (Err e) names now among n is added = tt
