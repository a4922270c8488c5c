-- The rows of a whole at the places from one to another, and columns of them.
use Rattle.std.proofs.Common.{◌≡◌, ◌∙◌, refl, sym, ap, arith, Bool, true, false, cond, ℕ, zero, suc, ◌+◌, ◌-◌, ◌≤◌, ℤ, List, [], ◌∷◌, ◌++◌, length, map, take, drop, Result, Ok, Err}
use Rattle.std.specs.Prelude.{◌&&◌, nat_le, nat_lt}
use Rattle.std.proofs.lemmas.List.{length-append}
use Rattle.std.proofs.Math.Seq.{drop-append_seam, take-append_seam}
use Rattle.hp_word.specs.declared.place.Trap.{Trap}
use Rattle.hp_word.specs.LoopRules.{and_then, column_of, rows_below, word_at}
use Rattle.hp_spmd.specs.Store.{kept}
use Rattle.hp_spmd.proofs.LocalCuts.{kept_part}
use Rattle.hp_alone.specs.Looping.{rows_from}
use Rattle.hp_alone.proofs.RowsJoined.{rows_joined}

abbrev okay : {A : Type 0} → A → Result A Trap
okay a = Ok a

abbrev failed : {A : Type 0} → Trap → Result A Trap
failed t = Err t

pub same_ok : {A : Type 0} (a b : A) → okay a ≡ okay b → a ≡ b
same_ok a b e = cc

pub same_err : {A : Type 0} (t u : Trap) → failed {A = A} t ≡ failed {A = A} u → t ≡ u
same_err t u e = cc

-- ---- rows of two parts

record Split (row : ℕ → Result (List ℤ) Trap) (a b : ℕ) (rows : List (List ℤ)) : Type 0 where
  above : List (List ℤ)
  behind : List (List ℤ)
  first : rows_below row a ≡ Ok above
  second : rows_from row a b ≡ Ok behind
  is : rows ≡ above ++ behind

split : (row : ℕ → Result (List ℤ) Trap) (a b : ℕ) (rows : List (List ℤ)) → rows_below row (a + b) ≡ Ok rows → Split row a b rows
split row a b rows e = by_parts (rows_below row a) (rows_from row a b) refl refl (sym (rows_joined row a b) ∙ e)
  where
    by_parts : (x y : Result (List (List ℤ)) Trap) → rows_below row a ≡ x → rows_from row a b ≡ y → and_then x (λ above. and_then y (λ behind. Ok (above ++ behind))) ≡ Ok rows → Split row a b rows
    by_parts (Err t) y ex ey wrong = absurd cc
    by_parts (Ok above) (Err t) ex ey wrong = absurd cc
    by_parts (Ok above) (Ok behind) ex ey same = record { above = above; behind = behind; first = ex; second = ey; is = sym (same_ok (above ++ behind) rows same) }

-- there are as many rows as places
pub rows_count : (row : ℕ → Result (List ℤ) Trap) (n : ℕ) (rows : List (List ℤ)) → rows_below row n ≡ Ok rows → length rows ≡ n
rows_count row zero rows e = ap length (sym (same_ok {A = List (List ℤ)} [] rows e))
rows_count row (suc n) rows e = by_parts (rows_below row n) (row n) refl (rows_count row n) e
  where
    by_parts : (x : Result (List (List ℤ)) Trap) (y : Result (List ℤ) Trap) → rows_below row n ≡ x → ((above : List (List ℤ)) → rows_below row n ≡ Ok above → length above ≡ n) → and_then x (λ above. and_then y (λ r. Ok (above ++ r ∷ []))) ≡ Ok rows → length rows ≡ suc n
    by_parts (Err t) y ex before wrong = absurd cc
    by_parts (Ok above) (Err t) ex before wrong = absurd cc
    by_parts (Ok above) (Ok r) ex before same =
        let count = before above ex in
        let joined = length-append above (r ∷ []) in
        let all = ap length (same_ok (above ++ r ∷ []) rows same) in
        omega (arith, count, joined, all)

-- ---- the rows from one place to another

middle : {X : Type 0} (n m : ℕ) (xs ys zs : List X) → length xs ≡ n → length ys ≡ m → take m (drop n (xs ++ (ys ++ zs))) ≡ ys
middle {X} n m xs ys zs en em =
    ap (λ k. take m (drop k (xs ++ (ys ++ zs)))) (sym en) ∙ ap (take m) (drop-append_seam xs (ys ++ zs)) ∙ ap (λ k. take k (ys ++ zs)) (sym em) ∙ take-append_seam ys zs

-- they are those of the whole's rows
pub own_rows : (row : ℕ → Result (List ℤ) Trap) (n from until : ℕ) (rows : List (List ℤ)) → from ≤ until → until ≤ n → rows_below row n ≡ Ok rows → rows_from row from (until - from) ≡ Ok (kept from until 0 rows)
own_rows row n from until rows rises within e =
    let own = until - from in
    let rest = n - until in
    let whole : from + (own + rest) ≡ n = omega (arith, rises, within) in
    let first = split row from (own + rest) rows (ap (rows_below row) whole ∙ e) in
    let second = split (λ i. row (from + i)) own rest first.behind first.second in
    let above = rows_count row from first.above first.first in
    let mine = rows_count (λ i. row (from + i)) own second.above second.first in
    let parts : rows ≡ first.above ++ (second.above ++ second.behind) = first.is ∙ ap (λ r. first.above ++ r) second.is in
    let there : kept from until 0 rows ≡ second.above = (
    kept_part from until rows ∙ ap (λ r. take own (drop from r)) parts ∙ middle from own first.above second.above second.behind above mine) in
    second.first ∙ ap Ok (sym there)

-- ---- columns

-- what is made of each item that is kept
pub kept_map : {X Y : Type 0} (f : X → Y) (a b k : ℕ) (xs : List X) → map f (kept a b k xs) ≡ kept a b k (map f xs)
kept_map f a b k [] = refl
kept_map {X} {Y} f a b k (x ∷ xs) = by_test (nat_le a k && nat_lt k b) ∙ ap (λ l. cond (nat_le a k && nat_lt k b) (f x ∷ l) l) (kept_map {X = X} {Y = Y} f a b (suc k) xs)
  where
    by_test : (t : Bool) → map f (cond t (x ∷ kept a b (suc k) xs) (kept a b (suc k) xs)) ≡ cond t (f x ∷ map f (kept a b (suc k) xs)) (map f (kept a b (suc k) xs))
    by_test true = refl
    by_test false = refl

-- the column of some rows is that part of the column
pub column_kept : (k from until : ℕ) (rows : List (List ℤ)) → column_of k (kept from until 0 rows) ≡ kept from until 0 (column_of k rows)
column_kept k from until rows = kept_map (λ row. word_at row k) from until 0 rows
