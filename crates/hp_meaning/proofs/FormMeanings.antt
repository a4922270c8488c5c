-- What the forms that are built mean, as expressions.
use Rattle.std.proofs.Common.{◌≡◌, ℕ, ℤ, ◌+ℤ◌, List, [], ◌∷◌, length, map, Bool, true, false, cond, Some, Result, Ok, Err, refl, ap, ◌∙◌}
use Rattle.std.specs.Prelude.{codes, zip, ◌==◌}
use Rattle.hp_word.specs.declared.fold.FoldKind.TheVariants as folds
use Rattle.hp_word.specs.declared.place.Place.{Place}
use Rattle.hp_word.specs.declared.place.Trap.{Trap}
use Rattle.hp_word.specs.declared.place.TrapKind.TheVariants.{Mismatch}
use Rattle.hp_word.specs.declared.word.CalcOp.TheVariants as calc
use Rattle.hp_word.specs.Folds.{fold_of}
use Rattle.hp_word.specs.Lengths.{trap}
use Rattle.hp_word.specs.ListRules as words
use Rattle.hp_word.specs.Words.{wrap}
use Rattle.hp_script.specs.declared.tree.BinOp.TheVariants.{Add}
use Rattle.hp_script.specs.Functions.{function_named, scalar_named, fold_named, array_named}
use Rattle.hp_script.specs.Mirror.{Head, Tree, binary, call, none, plain}
use Rattle.hp_meaning.specs.declared.seen.Seen.{Seen}
use Rattle.hp_meaning.specs.declared.value.Kind.TheVariants.{Number}
use Rattle.hp_meaning.specs.declared.value.Value.{Value}
use Rattle.hp_meaning.specs.declared.value.Value.TheVariants.{Word, List as Listed}
use Rattle.hp_meaning.specs.Arrays.{added, sum_of, added_number}
use Rattle.hp_meaning.specs.Forms.{number_of, variable_of, fill_call, sum_call, added_name}
use Rattle.hp_meaning.specs.ListRules as lists
use Rattle.hp_meaning.specs.Outcomes.{Answer, Gives, Traps, also, given, told, all_of, tick, Outcome, Is, Stops, followed, ended}
use Rattle.hp_meaning.specs.Scopes.{Scope, value_named}
use Rattle.hp_meaning.specs.ValueOf.{Supply, value, parts, called_as, one, two, operated, strict_operands, operator_value}
use Rattle.hp_meaning.specs.WordRules.{calculated_at, listed, dotted_value, elementwise, spread, pairwise, with_right}
use Rattle.hp_meaning.proofs.FormParts.{number_parts, variable_parts, fill_parts, sum_call_parts, added_parts}

-- an array of numbers, or a trap, as what an expression comes to
abbrev pub made : Result (List ℤ) Trap → Seen → Outcome Value
made (Ok xs) n = Is (Listed Number xs) n
made (Err t) n = Stops t n

-- ---- operands

-- what is seen behind an expression of three nodes, and of two
abbrev pub three : Seen → Seen
three n = tick (tick (tick n))

abbrev pub two_ticks : Seen → Seen
two_ticks n = tick (tick n)

number_value : (g : Supply) (tree : Tree) (z : ℤ) (s : Scope) (n : Seen) → number_of tree ≡ Some z → value g tree s n ≡ Is (Word Number z) (tick n)
unfolding value
number_value g tree z s n e = let is = number_parts tree z e in ap (λ t. value g t s n) is.1

variable_value : (g : Supply) (tree : Tree) (name : List ℕ) (a : Value) (s : Scope) (n : Seen) → variable_of tree ≡ Some name → value_named name s.vars ≡ Some a
    → value g tree s n ≡ Is a (tick n)
unfolding value
variable_value g tree name a s n e holds =
    let is = variable_parts tree name e in
    ap (λ t. value g t s n) is.1 ∙ ap (λ found. ended (given found Gives) (tick n)) holds

-- ---- constructs

-- two operands, one behind the other
both_are : {A : Type 0} (first second : Outcome Value) (a b : Value) (n m : Seen) (more : Value → Value → Seen → Outcome A)
    → (k : Seen → Outcome Value) → first ≡ Is a n → k n ≡ Is b m → followed first (λ x n. followed (k n) (λ y. more x y)) ≡ more a b m
both_are first second a b n m more k e f = ap (λ o. followed o (λ x n. followed (k n) (λ y. more x y))) e ∙ ap (λ o. followed o (λ y. more a y)) f

told_filled : (r : Result (List ℤ) Trap) (n : Seen) → ended (listed Number (told r)) n ≡ made r n
told_filled (Ok xs) n = refl
told_filled (Err t) n = refl

all_added : (at : Place) (xs ys : List ℤ) → all_of (map (λ p. calculated_at at calc.Add p.0 p.1) (zip xs ys)) ≡ Gives (added xs ys)
unfolding all_of
all_added at [] ys = refl
all_added at (x ∷ xs) [] = refl
all_added at (x ∷ xs) (y ∷ ys) = ap (λ r. also r (λ zs. Gives (wrap (x +ℤ y) ∷ zs))) (all_added at xs ys)

all_added_number : (at : Place) (xs : List ℤ) (y : ℤ) → all_of (map (λ x. calculated_at at calc.Add x y) xs) ≡ Gives (added_number xs y)
unfolding all_of
all_added_number at [] y = refl
all_added_number at (x ∷ xs) y = ap (λ r. also r (λ zs. Gives (wrap (x +ℤ y) ∷ zs))) (all_added_number at xs y)

-- ---- `fill(NUMBER, NUMBER)`

fill_values : (at : Place) (v c : ℤ) (n : Seen) → ended (lists.filled at (Word Number v) (Word Number c)) n ≡ made (words.filled at c v) n
unfolding Rattle.hp_meaning.specs.ListRules.filled
fill_values at v c n = told_filled (words.filled at c v) n

fill_plain : (g : Supply) (h : Head) (a b : Tree) (s : Scope) (n : Seen) → value g (call h (codes "fill") false (plain a (plain b none))) s n
    ≡ followed (value g a s (tick n)) (λ x n. followed (value g b s n) (λ y. ended (lists.filled h.at x y)))
unfolding value parts function_named scalar_named fold_named array_named called_as two
fill_plain g h a b s n = refl

fill_at : (g : Supply) (h : Head) (a b : Tree) (v c : ℤ) (s : Scope) (n : Seen) → number_of a ≡ Some v → number_of b ≡ Some c
    → value g (call h (codes "fill") false (plain a (plain b none))) s n ≡ made (words.filled h.at c v) (three n)
fill_at g h a b v c s n first second =
    fill_plain g h a b s n
    ∙ both_are (value g a s (tick n)) (value g b s (two_ticks n)) (Word Number v) (Word Number c) (two_ticks n) (three n) (λ x y. ended (lists.filled h.at x y))
    (value g b s) (number_value g a v s (tick n) first) (number_value g b c s (two_ticks n) second)
    ∙ fill_values h.at v c (three n)

pub fill_value : (g : Supply) (tree : Tree) (x : Place × ℤ × ℤ) (s : Scope) (n : Seen) → fill_call tree ≡ Some x
    → value g tree s n ≡ made (words.filled x.0 x.2 x.1) (three n)
fill_value g tree x s n e =
    let f = fill_parts tree x e in
    ap (λ t. value g t s n) f.is ∙ fill_at g f.head f.first f.second x.1 x.2 s n f.element f.count
    ∙ ap (λ at. made (words.filled at x.2 x.1) (three n)) f.place

-- ---- `sum(NAME)`

sum_plain : (g : Supply) (h : Head) (a : Tree) (s : Scope) (n : Seen) → value g (call h (codes "sum") false (plain a none)) s n
    ≡ followed (value g a s (tick n)) (λ x. ended (lists.folded folds.Sum h.at x))
unfolding value parts function_named scalar_named fold_named called_as one
sum_plain g h a s n = refl

sum_values : (at : Place) (xs : List ℤ) (n : Seen) → ended (lists.folded folds.Sum at (Listed Number xs)) n ≡ Is (Word Number (fold_of folds.Sum xs)) n
unfolding Rattle.hp_meaning.specs.ListRules.folded Rattle.hp_word.specs.ListRules.folded_list
sum_values at xs n = refl

pub sum_value : (g : Supply) (tree : Tree) (name : List ℕ) (xs : List ℤ) (s : Scope) (n : Seen) → sum_call tree ≡ Some name → value_named name s.vars ≡ Some (Listed Number xs)
    → value g tree s n ≡ Is (Word Number (fold_of folds.Sum xs)) (two_ticks n)
sum_value g tree name xs s n e holds =
    let c = sum_call_parts tree name e in
    ap (λ t. value g t s n) c.is ∙ sum_plain g c.head c.only s n
    ∙ ap (λ o. followed o (λ x. ended (lists.folded folds.Sum c.head.at x))) (variable_value g c.only name (Listed Number xs) s (tick n) c.element holds)
    ∙ sum_values c.head.at xs (two_ticks n)

-- ---- `NAME .+ NAME` and `NAME .+ NUMBER`

listed_added : (b : Bool) (at : Place) (xs ys : List ℤ) (n : Seen) → ended (also (cond b (Gives (added xs ys)) (Traps (trap at Mismatch))) (λ zs. Gives (Listed Number zs))) n
    ≡ made (cond b (Ok (added xs ys)) (Err (trap at Mismatch))) n
listed_added true at xs ys n = refl
listed_added false at xs ys n = refl

arrays_added : (at : Place) (xs ys : List ℤ) (n : Seen) → ended (dotted_value at Add (Listed Number xs) (Listed Number ys)) n ≡ made (sum_of at xs ys) n
unfolding dotted_value elementwise spread pairwise
arrays_added at xs ys n =
    ap (λ (r : Answer (List ℤ)). ended (also (cond (length xs == length ys) r (Traps (trap at Mismatch))) (λ zs. Gives (Listed Number zs))) n) (all_added at xs ys)
    ∙ listed_added (length xs == length ys) at xs ys n

number_added : (at : Place) (xs : List ℤ) (y : ℤ) (n : Seen) → ended (dotted_value at Add (Listed Number xs) (Word Number y)) n ≡ made (Ok (added_number xs y)) n
unfolding dotted_value elementwise spread with_right
number_added at xs y n = ap (λ (r : Answer (List ℤ)). ended (also r (λ zs. Gives (Listed Number zs))) n) (all_added_number at xs y)

sum_sides : (g : Supply) (h : Head) (a b : Tree) (s : Scope) (n : Seen) → value g (binary h Add true a b) s n
    ≡ followed (value g a s (tick n)) (λ x n. followed (value g b s n) (λ y. ended (dotted_value h.at Add x y)))
unfolding value operated strict_operands operator_value
sum_sides g h a b s n = refl

-- a sum of a variable and something else
added_value : (g : Supply) (tree : Tree) (x : Place × List ℕ × Tree) (a b : Value) (s : Scope) (n : Seen) → added_name tree ≡ Some x
    → value_named x.1 s.vars ≡ Some a → value g x.2 s (two_ticks n) ≡ Is b (three n) → value g tree s n ≡ ended (dotted_value x.0 Add a b) (three n)
added_value g tree x a b s n e holds second =
    let p = added_parts tree x e in
    ap (λ t. value g t s n) p.is ∙ sum_sides g p.head p.left x.2 s n
    ∙ both_are (value g p.left s (tick n)) (value g x.2 s (two_ticks n)) a b (two_ticks n) (three n) (λ x y. ended (dotted_value p.head.at Add x y))
    (value g x.2 s) (variable_value g p.left x.1 a s (tick n) p.first holds) second
    ∙ ap (λ at. ended (dotted_value at Add a b) (three n)) p.place

pub arrays_value : (g : Supply) (tree : Tree) (x : Place × List ℕ × Tree) (right : List ℕ) (xs ys : List ℤ) (s : Scope) (n : Seen) → added_name tree ≡ Some x → variable_of x.2 ≡ Some right
    → value_named x.1 s.vars ≡ Some (Listed Number xs) → value_named right s.vars ≡ Some (Listed Number ys) → value g tree s n ≡ made (sum_of x.0 xs ys) (three n)
arrays_value g tree x right xs ys s n e is first second =
    added_value g tree x (Listed Number xs) (Listed Number ys) s n e first (variable_value g x.2 right (Listed Number ys) s (two_ticks n) is second) ∙ arrays_added x.0 xs ys (three n)

pub number_sum_value : (g : Supply) (tree : Tree) (x : Place × List ℕ × Tree) (z : ℤ) (xs : List ℤ) (s : Scope) (n : Seen) → added_name tree ≡ Some x → number_of x.2 ≡ Some z
    → value_named x.1 s.vars ≡ Some (Listed Number xs) → value g tree s n ≡ made (Ok (added_number xs z)) (three n)
number_sum_value g tree x z xs s n e is first =
    added_value g tree x (Listed Number xs) (Word Number z) s n e first (number_value g x.2 z s (two_ticks n) is) ∙ number_added x.0 xs z (three n)
