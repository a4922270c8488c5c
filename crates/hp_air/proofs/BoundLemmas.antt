-- The table of distributions as a relation and as constraints are one.
use Rattle.std.proofs.Common.{◌≡◌, ℕ, ◌+◌, ◌<◌, List, [], ◌∷◌, flat_map, zip, length, IsTrue, nat_lt, refl, sym, subst, arith}
use Rattle.std.proofs.lemmas.Bool.{eqb-true, ltb-true}
use Rattle.std.specs.List.{AllByRecursion, AllZip}
use Rattle.hp_lattice.specs.declared.dist.Dist.{Dist}
use Rattle.hp_lattice.specs.declared.dist.Dist.TheVariants.{Rep, Var, Block}
use Rattle.hp_lattice.specs.Lattice.{is_below}
use Rattle.hp_program.proofs.Keeping.{first_holds, second_holds}
use Rattle.hp_air.specs.declared.what.What.{What}
use Rattle.hp_air.specs.declared.what.What.TheVariants as what
use Rattle.hp_air.specs.Arrays.{Arrays, Read, Filter, Join, Group, Sort, Frame, arrays_of}
use Rattle.hp_air.specs.Constraints.{LieAlike, Meets, scalar_meets, length_meets, fill_meets, range_meets, read_meets, copy_meets, map_meets, reduce_meets, scan_meets, stencil_meets, filter_meets, join_meets, group_meets, concat_meets, sort_meets, at_meets, pick_meets, frame_meets, stack_meets, row_meets, product_meets, transposed_meets, print_word_meets, print_list_meets, export_meets, equal, equal_all, bounds_of, IsSolution}
use Rattle.hp_air.specs.Kept.{has_some, are_paired, has_lists}

-- ---- equalities

below_itself : (a : Dist) → IsTrue (is_below a a)
below_itself Rep = refl
below_itself Var = refl
below_itself Block = refl

pub below_same : {a b : Dist} → a ≡ b → IsTrue (is_below a b)
below_same {a = a} same = subst (λ b. IsTrue (is_below a b)) same (below_itself a)

pub same_below : (a b : Dist) → IsTrue (is_below a b) → IsTrue (is_below b a) → a ≡ b
same_below Rep Rep p q = refl
same_below Rep Var p q = absurd cc
same_below Rep Block p q = absurd cc
same_below Var Rep p q = absurd cc
same_below Var Var p q = refl
same_below Var Block p q = absurd cc
same_below Block Rep p q = absurd cc
same_below Block Var p q = absurd cc
same_below Block Block p q = refl

equal_to : (d : ℕ → Dist) (x : ℕ) (ys : List ℕ) → AllByRecursion (LieAlike d x) ys → IsSolution d (equal_all x ys)
equal_to d x [] alike = tt
equal_to d x (y ∷ ys) alike = (below_same alike.0, (below_same (sym alike.0), equal_to d x ys alike.1))

alike_to : (d : ℕ → Dist) (x : ℕ) (ys : List ℕ) → IsSolution d (equal_all x ys) → AllByRecursion (LieAlike d x) ys
alike_to d x [] solved = tt
alike_to d x (y ∷ ys) solved = (same_below _ _ solved.0 solved.1.0, alike_to d x ys solved.1.1)

equal_pairs : (d : ℕ → Dist) (xs ys : List ℕ) → AllZip (LieAlike d) xs ys → IsSolution d (flat_map (λ p. equal p.0 p.1) (zip xs ys))
equal_pairs d [] [] alike = tt
equal_pairs d [] (y ∷ ys) alike = tt
equal_pairs d (x ∷ xs) [] alike = tt
equal_pairs d (x ∷ xs) (y ∷ ys) alike = (below_same alike.0, (below_same (sym alike.0), equal_pairs d xs ys alike.1))

alike_pairs : (d : ℕ → Dist) (xs ys : List ℕ) → length xs ≡ length ys → IsSolution d (flat_map (λ p. equal p.0 p.1) (zip xs ys)) → AllZip (LieAlike d) xs ys
alike_pairs d [] [] even solved = tt
alike_pairs d [] (y ∷ ys) even solved = absurd (omega arith)
alike_pairs d (x ∷ xs) [] even solved = absurd (omega arith)
alike_pairs d (x ∷ xs) (y ∷ ys) even solved = (same_below _ _ solved.0 solved.1.0, alike_pairs d xs ys (omega arith) solved.1.1)

-- ---- from the relation to constraints

pub meets_solves : (d : ℕ → Dist) {a : Arrays ℕ} → Meets d a → IsSolution d (bounds_of a)
unfolding bounds_of
meets_solves d scalar_meets = tt
meets_solves d length_meets = tt
meets_solves d fill_meets = tt
meets_solves d range_meets = tt
meets_solves d (read_meets alike) = equal_to d _ _ alike
meets_solves d (copy_meets alike) = equal_pairs d _ _ alike
meets_solves d (map_meets alike) = equal_to d _ _ alike
meets_solves d reduce_meets = tt
meets_solves d (scan_meets same) = (below_same same, (below_same (sym same), tt))
meets_solves d (stencil_meets p q r s) = (p, (q, (r, (s, tt))))
meets_solves d (filter_meets same limit p q) = (below_same same, (below_same (sym same), (limit, (p, (q, tt)))))
meets_solves d (join_meets limit p q r) = (limit, (p, (q, (r, tt))))
meets_solves d (group_meets limit p q) = (limit, (p, (q, tt)))
meets_solves d (concat_meets p q r s) = (p, (q, (r, (s, tt))))
meets_solves d (sort_meets limit) = (limit, tt)
meets_solves d (at_meets limit) = (limit, tt)
meets_solves d (pick_meets limit same) = (limit, (below_same same, (below_same (sym same), tt)))
meets_solves d (frame_meets alike) = equal_to d _ _ alike
meets_solves d (stack_meets alike) = equal_to d _ _ alike
meets_solves d (row_meets same) = (below_same same, (below_same (sym same), tt))
meets_solves d (product_meets limit same) = (limit, (below_same same, (below_same (sym same), tt)))
meets_solves d (transposed_meets same limit) = (below_same same, (below_same (sym same), (limit, tt)))
meets_solves d print_word_meets = tt
meets_solves d print_list_meets = tt
meets_solves d export_meets = tt

-- ---- lists that are not empty

pub even_of : {A B : Type 0} (xs : List A) (ys : List B) → IsTrue (are_paired xs ys) → length xs ≡ length ys
even_of xs ys p = eqb-true _ _ (second_holds _ _ p)

some_of : {A : Type 0} (xs : List A) → IsTrue (has_some xs) → 0 < length xs
some_of [] p = absurd cc
some_of (x ∷ xs) p = omega arith

some_below : {A : Type 0} (k : ℕ) (xs : List A) → IsTrue (nat_lt k (length xs)) → 0 < length xs
some_below k xs p = let less : k < length xs = ltb-true k (length xs) p in omega arith

some_left : (n a b : ℕ) → n + 1 ≡ a + b → 0 < a → 0 < b → 0 < n
some_left n a b sum p q = omega arith

some_more : (n k : ℕ) → n ≡ k + 1 → 0 < n
some_more n k sum = omega arith

-- ---- from constraints to the relation

read_solved : (d : ℕ → Dist) (os : List ℕ) (table : ℕ) → 0 < length os → IsSolution d (bounds_of (Read os)) → Meets d (Read os)
unfolding bounds_of
read_solved d [] table some solved = absurd (omega arith)
read_solved d (o ∷ os) table some solved = read_meets (alike_to d o os solved)

filter_solved : (d : ℕ → Dist) (os ins : List ℕ) (mask : ℕ) → 0 < length os → 0 < length ins → IsSolution d (bounds_of (Filter os ins mask)) → Meets d (Filter os ins mask)
unfolding bounds_of
filter_solved d [] ins mask some some2 solved = absurd (omega arith)
filter_solved d (o ∷ os) [] mask some some2 solved = absurd (omega arith)
filter_solved d (o ∷ os) (x ∷ ins) mask some some2 solved = filter_meets (same_below _ _ solved.0 solved.1.0) solved.1.1.0 solved.1.1.1.0 solved.1.1.1.1.0

join_solved : (d : ℕ → Dist) (os lefts rights : List ℕ) → 0 < length os → 0 < length lefts → 0 < length rights → IsSolution d (bounds_of (Join os lefts rights)) → Meets d (Join os lefts rights)
unfolding bounds_of
join_solved d [] lefts rights p q r solved = absurd (omega arith)
join_solved d (o ∷ os) [] rights p q r solved = absurd (omega arith)
join_solved d (o ∷ os) (x ∷ lefts) [] p q r solved = absurd (omega arith)
join_solved d (o ∷ os) (x ∷ lefts) (y ∷ rights) p q r solved = join_meets solved.0 solved.1.0 solved.1.1.0 solved.1.1.1.0

group_solved : (d : ℕ → Dist) (os ins : List ℕ) → 0 < length os → 0 < length ins → IsSolution d (bounds_of (Group os ins)) → Meets d (Group os ins)
unfolding bounds_of
group_solved d [] ins p q solved = absurd (omega arith)
group_solved d (o ∷ os) [] p q solved = absurd (omega arith)
group_solved d (o ∷ os) (x ∷ ins) p q solved = group_meets solved.0 solved.1.0 solved.1.1.0

sort_solved : (d : ℕ → Dist) (os ins : List ℕ) → 0 < length os → IsSolution d (bounds_of (Sort os ins)) → Meets d (Sort os ins)
unfolding bounds_of
sort_solved d [] ins p solved = absurd (omega arith)
sort_solved d (o ∷ os) ins p solved = sort_meets solved.0

frame_solved : (d : ℕ → Dist) (os ins : List ℕ) → 0 < length os → IsSolution d (bounds_of (Frame os ins)) → Meets d (Frame os ins)
unfolding bounds_of
frame_solved d [] ins p solved = absurd (omega arith)
frame_solved d (o ∷ os) ins p solved = frame_meets (alike_to d o ins solved)

pub solves_meets : (d : ℕ → Dist) (op : What) → IsTrue (has_lists op) → IsSolution d (bounds_of (arrays_of op)) → Meets d (arrays_of op)
unfolding bounds_of arrays_of has_lists
solves_meets d (what.Const to value) full solved = scalar_meets
solves_meets d (what.Calc to op left right) full solved = scalar_meets
solves_meets d (what.Length to array) full solved = length_meets
solves_meets d (what.Fill out value count) full solved = fill_meets
solves_meets d (what.Range out first last) full solved = range_meets
solves_meets d (what.Read os table) full solved = read_solved d os table (some_of os full) solved
solves_meets d (what.Copy os ins) full solved = copy_meets (alike_pairs d os ins (even_of os ins full) solved)
solves_meets d (what.Map out ins elem) full solved = map_meets (alike_to d out ins solved)
solves_meets d (what.Reduce to kind array elem) full solved = reduce_meets
solves_meets d (what.Scan out array) full solved = scan_meets (same_below _ _ solved.0 solved.1.0)
solves_meets d (what.Stencil out array balanced reach elem) full solved = stencil_meets solved.0 solved.1.0 solved.1.1.0 solved.1.1.1.0
solves_meets d (what.Filter os ins mask) full solved =
    let some : 0 < length os = some_of os (first_holds _ _ full) in
    let even : length os ≡ length ins = even_of os ins full in
    filter_solved d os ins mask some (subst (λ n. 0 < n) even some) solved
solves_meets d (what.Join os lefts left_key rights right_key) full solved =
    let left : 0 < length lefts = some_below left_key lefts (second_holds _ _ (first_holds _ _ full)) in
    let right : 0 < length rights = some_below right_key rights (second_holds _ _ full) in
    let one_fewer : length os + 1 ≡ length lefts + length rights = eqb-true _ _ (first_holds _ _ (first_holds _ _ full)) in
    join_solved d os lefts rights (some_left _ _ _ one_fewer left right) left right solved
solves_meets d (what.Group os ins key measures) full solved =
    let some : 0 < length ins = some_below key ins (second_holds _ _ (first_holds _ _ full)) in
    let one_more : length os ≡ length measures + 1 = eqb-true _ _ (second_holds _ _ (first_holds _ _ (first_holds _ _ full))) in
    group_solved d os ins (some_more _ _ one_more) some solved
solves_meets d (what.Concat out left right) full solved = concat_meets solved.0 solved.1.0 solved.1.1.0 solved.1.1.1.0
solves_meets d (what.Sort os ins key) full solved = sort_solved d os ins (some_of os (first_holds _ _ (first_holds _ _ full))) solved
solves_meets d (what.At to array index) full solved = at_meets solved.0
solves_meets d (what.Pick out array index) full solved = pick_meets solved.0 (same_below _ _ solved.1.0 solved.1.1.0)
solves_meets d (what.Frame os ins) full solved = frame_solved d os ins (some_of os (first_holds _ _ full)) solved
solves_meets d (what.Stack out ins) full solved = stack_meets (alike_to d out ins solved)
solves_meets d (what.Row out matrix index) full solved = row_meets (same_below _ _ solved.0 solved.1.0)
solves_meets d (what.Product out left right) full solved = product_meets solved.0 (same_below _ _ solved.1.0 solved.1.1.0)
solves_meets d (what.ProductT out left right) full solved = transposed_meets (same_below _ _ solved.0 solved.1.0) solved.1.1.0
solves_meets d (what.PrintWord word truth) full solved = print_word_meets
solves_meets d (what.PrintList array truth) full solved = print_list_meets
solves_meets d (what.Export arrays names) full solved = export_meets
