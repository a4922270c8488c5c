-- What is worked out element by element is what one operation makes of whole arrays: `map`, `stencil`, operators on arrays and
-- folds, where the words of variables and the arrays of operands stand.
use Rattle.std.proofs.Common.{◌≡◌, ℕ, ℤ, zero, suc, ◌≤◌, ◌==◌, pos, Bool, true, false, ◌&&◌, if◌then◌else◌, List, [], ◌∷◌, ◌++◌, map, take, length, get_or, Result, Ok, Err, refl, sym, ap, ap₂, ◌∙◌, add-one, arith}
use Rattle.std.proofs.lemmas.Bool.{eq-eqb, eqb-true}
use Rattle.std.proofs.lemmas.List.{map-append, take_more, take_all}
use Rattle.std.specs.Prelude.{zip}
use Rattle.hp_word.specs.declared.elem.Elem.{Elem}
use Rattle.hp_word.specs.declared.elem.Elem.TheVariants as elem
use Rattle.hp_word.specs.declared.elem.Elem.TheViews as views
use Rattle.hp_word.specs.declared.fold.FoldKind.{FoldKind}
use Rattle.hp_word.specs.declared.place.Place.{Place}
use Rattle.hp_word.specs.declared.place.Trap.{Trap}
use Rattle.hp_word.specs.declared.place.TrapKind.TheVariants.{Mismatch}
use Rattle.hp_word.specs.declared.word.CalcOp.{CalcOp}
use Rattle.hp_word.specs.declared.word.CalcOp.TheVariants as calc
use Rattle.hp_word.specs.Elem.{Sight, elem_value, calc_of as calc_value}
use Rattle.hp_word.specs.Lengths.{trap}
use Rattle.hp_word.specs.ListRules.{folded_list}
use Rattle.hp_word.specs.LoopRules.{and_then, word_at, lets_after, rows_below, column_of, sight_in}
use Rattle.hp_word.specs.RowRules.{level}
use Rattle.hp_word.specs.Tables.{row_count}
use Rattle.hp_word.proofs.ElemLemmas.{value_Number, value_Word, value_Input, value_Calc}
use Rattle.hp_script.specs.declared.typed.Shape.{Shape}
use Rattle.hp_script.specs.declared.typed.Shape.TheVariants.{Int, Bool as Truth, Ints, Bools, Matrix, Frame}
use Rattle.hp_script.specs.Mirror.{Tree}
use Rattle.hp_script.specs.Scope.{Scope, Parameter, Role, element, window, are_some, with_parameter}
use Rattle.hp_script.specs.Shaped.{IsOutside, HasShape}
use Rattle.hp_air.specs.Meaning.{sight_at, looped as rows_of, values_of, mapped, reduced, stencilled}
use Rattle.hp_air.specs.Unknowns.{Unknown}
use Rattle.hp_air.specs.Wholes.{Env}
use Rattle.hp_meaning.specs.declared.value.Kind.{Kind}
use Rattle.hp_meaning.specs.declared.value.Kind.TheVariants as kinds
use Rattle.hp_meaning.specs.declared.value.Value.{Value}
use Rattle.hp_meaning.specs.declared.value.Value.TheVariants.{Word}
use Rattle.hp_meaning.specs.declared.value.Var.{Var}
use Rattle.hp_meaning.specs.Fitting.{Keeps}
use Rattle.hp_meaning.specs.LambdaRules.{Sight as Seen, Element, Around, inside, word_in, number_in, mapped_words, stencil_words}
use Rattle.hp_meaning.specs.LoopLaws.{looped}
use Rattle.hp_meaning.specs.Outcomes.{Answer, Gives, Traps, also, told, all_of}
use Rattle.hp_meaning.specs.WordRules.{calculated_at, negated, pairwise, with_left, with_right}
use Rattle.hp_meaning.proofs.LoopForms.{pairs_looped, right_looped, left_looped, negated_looped, mapped_looped, stencil_looped}
use Rattle.hp_flat.specs.Elements.{elem_of}
use Rattle.hp_flat.specs.Homes.{Homes, word_named}
use Rattle.hp_flat.specs.Standing.{VarsStand}
use Rattle.hp_flat.proofs.ElementBodies.{GoesAs, word_goes, trap_goes, GoesBy, IsKind, IsBody, ReadsAs, reads_element, reads_around, body_goes}
use Rattle.hp_flat.proofs.KeptHomes.{word_stands}

-- ---- loops of one let

-- a loop is by the values of its element alone
rows_alike : (row other : ℕ → Result (List ℤ) Trap) → ((i : ℕ) → row i ≡ other i) → (n : ℕ) → rows_below row n ≡ rows_below other n
rows_alike row other each zero = refl
rows_alike row other each (suc n) =
    ap₂ (λ (rows : Result (List (List ℤ)) Trap) (last : Result (List ℤ) Trap). and_then rows (λ found. and_then last (λ r. Ok (found ++ r ∷ [])))) (rows_alike row other each n) (each n)

looped_alike : (sight other : ℕ → List ℤ → Sight) (e f : Elem) → ((i : ℕ) → elem_value (sight i []) e ≡ elem_value (other i []) f) → (n : ℕ) → looped sight e n ≡ looped other f n
looped_alike sight other e f each n =
    ap (λ (rows : Result (List (List ℤ)) Trap). and_then rows (λ found. Ok (column_of 0 found)))
    (rows_alike (λ i. lets_after (sight i) [] (e ∷ [])) (λ i. lets_after (other i) [] (f ∷ [])) (λ i. ap (λ (r : Result ℤ Trap). and_then r (λ v. Ok (v ∷ []))) (each i)) n)

values_looped : (words : ℕ → ℤ) (inputs halos : List (List ℤ)) (e : Elem) (n : ℕ) → values_of words inputs halos e n ≡ looped (sight_at words inputs halos) e n
unfolding values_of rows_of
values_looped words inputs halos e n = refl

one_level : (at : Place) (xs : List ℤ) → level at (xs ∷ []) ≡ Ok (xs ∷ [])
unfolding level
one_level at xs = ap (λ (b : Bool). if b && true then Ok (xs ∷ []) else Err (trap at Mismatch)) (eq-eqb (length xs) (length xs) refl)

two_level : (at : Place) (xs ys : List ℤ) → length ys ≡ length xs → level at (xs ∷ ys ∷ []) ≡ Ok (xs ∷ ys ∷ [])
unfolding level
two_level at xs ys same =
    ap₂ (λ (b c : Bool). if b && (c && true) then Ok (xs ∷ ys ∷ []) else Err (trap at Mismatch)) (eq-eqb (length xs) (length xs) refl) (eq-eqb (length ys) (length xs) same)

two_uneven : (at : Place) (xs ys : List ℤ) → (length ys == length xs) ≡ false → level at (xs ∷ ys ∷ []) ≡ Err (trap at Mismatch)
unfolding level
two_uneven at xs ys differ =
    ap₂ (λ (b c : Bool). if b && (c && true) then Ok (xs ∷ ys ∷ []) else Err (trap at Mismatch)) (eq-eqb (length xs) (length xs) refl) differ

mapped_level : (at : Place) (words : ℕ → ℤ) (lists even : List (List ℤ)) (e : Elem) → level at lists ≡ Ok even → mapped at words lists e ≡ looped (sight_at words even []) e (row_count even)
unfolding mapped
mapped_level at words lists even e is = ap (λ (r : Result (List (List ℤ)) Trap). and_then r (λ found. values_of words found [] e (row_count found))) is ∙ values_looped words even [] e (row_count even)

mapped_uneven : (at : Place) (words : ℕ → ℤ) (lists : List (List ℤ)) (e : Elem) → level at lists ≡ Err (trap at Mismatch) → mapped at words lists e ≡ Err (trap at Mismatch)
unfolding mapped
mapped_uneven at words lists e is = ap (λ (r : Result (List (List ℤ)) Trap). and_then r (λ found. values_of words found [] e (row_count found))) is

pairs_uneven : (at : Place) (op : CalcOp) (xs ys : List ℤ) → (length ys == length xs) ≡ false → pairwise at op xs ys ≡ Traps (trap at Mismatch)
unfolding pairwise
pairs_uneven at op xs ys differ =
    let turned : (length xs == length ys) ≡ (length ys == length xs) = grind arith in
    ap (λ (b : Bool). if b then all_of (map (λ (p : ℤ × ℤ). calculated_at at op p.0 p.1) (zip xs ys)) else Traps (trap at Mismatch)) (turned ∙ differ)

-- ---- bodies

word_told : {kind : Kind} {answer : Answer Value} {r : Result ℤ Trap} → GoesAs kind answer r → also answer word_in ≡ told r
word_told word_goes = refl
word_told trap_goes = refl

number_told : {answer : Answer Value} {r : Result ℤ Trap} → GoesAs kinds.Number answer r → also answer number_in ≡ told r
number_told word_goes = refl
number_told trap_goes = refl

by_shape : (a : Shape) (answer : Answer Value) (r : Result ℤ Trap) → GoesBy a answer r → also answer word_in ≡ told r
by_shape Int answer r goes = word_told goes
by_shape Truth answer r goes = word_told goes
by_shape Ints answer r goes = absurd goes
by_shape Bools answer r goes = absurd goes
by_shape Matrix answer r goes = absurd goes
by_shape (Frame columns) answer r goes = absurd goes

pub none_outside : (parameters : List Parameter) → are_some parameters ≡ false → parameters ≡ []
none_outside [] outside = refl
none_outside (parameter ∷ parameters) outside = absurd cc

module _ (h : Homes) (e : Env) where
  -- a body in a lambda that stands in none
  in_body : (s : Scope) (vars : List Var) (p : List ℕ) (role : Role) (seen : Seen) (sight : Sight) → IsOutside s → Keeps s vars → VarsStand h e vars → ReadsAs sight role seen → ((k : ℕ) → sight.word k ≡ e.words k)
      → IsBody h (with_parameter s p role) (inside p seen vars) sight
  in_body s vars p role seen sight outside keeps stand reads words = record {
    role = role;
    parameters = ap (λ (parameters : List Parameter). record { name = p; role = role } ∷ parameters) (none_outside s.parameters outside);
    reads = reads;
    keeps = record { known = keeps.known };
    words = λ x kind z is. words (word_named h x) ∙ word_stands h (stand x (Word kind z) is);
  }

  -- what a `map` gives of the elements of an array
  pub map_is : (at : Place) (s : Scope) (vars : List Var) (p : List ℕ) (body : Tree) {one made : Shape} (kind : Kind) (xs : List ℤ) → IsOutside s → Keeps s vars → VarsStand h e vars
      → IsKind one kind → HasShape (with_parameter s p (element one)) body made → told (mapped at e.words (xs ∷ []) (elem_of h p body)) ≡ mapped_words vars p body kind xs
  map_is at s vars p body {one = one} {made = made} kind xs outside keeps stand is fits =
      let sight = sight_at e.words (xs ∷ []) [] in
      ap told (mapped_level at e.words (xs ∷ []) (xs ∷ []) (elem_of h p body) (one_level at xs))
      ∙ sym (mapped_looped vars p body kind xs sight (elem_of h p body)
      (λ i lt. by_shape made _ _ (body_goes h (sight i []) fits (inside p (Element kind (get_or xs i (pos 0))) vars)
      (in_body s vars p (element one) (Element kind (get_or xs i (pos 0))) (sight i []) outside keeps stand (reads_element is refl) (λ k. refl)))))

  -- what a `stencil` gives round each element
  pub stencil_is : (s : Scope) (vars : List Var) (p : List ℕ) (body : Tree) (xs : List ℤ) → IsOutside s → Keeps s vars → VarsStand h e vars
      → HasShape (with_parameter s p window) body Int → told (stencilled e.words xs (elem_of h p body)) ≡ stencil_words vars p body xs
  unfolding stencilled
  stencil_is s vars p body xs outside keeps stand fits =
      let sight = sight_at e.words [] (xs ∷ []) in
      ap told (values_looped e.words [] (xs ∷ []) (elem_of h p body) (length xs))
      ∙ sym (stencil_looped vars p body xs sight (elem_of h p body)
      (λ i lt. number_told (body_goes h (sight i []) fits (inside p (Around xs i) vars)
      (in_body s vars p window (Around xs i) (sight i []) outside keeps stand (reads_around (λ by. refl)) (λ k. refl)))))

-- ---- operators on arrays

calc_alike : (sight other : Sight) (op : CalcOp) (at : Place) (a b c d : Elem) → elem_value sight a ≡ elem_value other c → elem_value sight b ≡ elem_value other d
    → elem_value sight (views.Calc op at a b) ≡ elem_value other (views.Calc op at c d)
calc_alike sight other op at a b c d first second = value_Calc sight op at a b ∙ ap₂ (calc_value op at) first second ∙ sym (value_Calc other op at c d)

pub pairs_are : (words : ℕ → ℤ) (at : Place) (op : CalcOp) (xs ys : List ℤ) → told (mapped at words (xs ∷ ys ∷ []) (views.Calc op at (elem.Input 0) (elem.Input 1))) ≡ pairwise at op xs ys
pairs_are words at op xs ys = by_lengths (length ys == length xs) refl
  where
    by_lengths : (same : Bool) → (length ys == length xs) ≡ same → told (mapped at words (xs ∷ ys ∷ []) (views.Calc op at (elem.Input 0) (elem.Input 1))) ≡ pairwise at op xs ys
    by_lengths true same =
        let e = views.Calc op at (elem.Input 0) (elem.Input 1) in
        let long : length ys ≡ length xs = eqb-true (length ys) (length xs) same in
        ap told (mapped_level at words (xs ∷ ys ∷ []) (xs ∷ ys ∷ []) e (two_level at xs ys long)
        ∙ looped_alike (sight_at words (xs ∷ ys ∷ []) []) (sight_in (xs ∷ ys ∷ [])) e e
        (λ i. calc_alike (sight_at words (xs ∷ ys ∷ []) [] i []) (sight_in (xs ∷ ys ∷ []) i []) op at (elem.Input 0) (elem.Input 1) (elem.Input 0) (elem.Input 1)
        (value_Input (sight_at words (xs ∷ ys ∷ []) [] i []) 0 ∙ sym (value_Input (sight_in (xs ∷ ys ∷ []) i []) 0))
        (value_Input (sight_at words (xs ∷ ys ∷ []) [] i []) 1 ∙ sym (value_Input (sight_in (xs ∷ ys ∷ []) i []) 1))) (length xs))
        ∙ sym (pairs_looped at op xs ys (sym long))
    by_lengths false differ = ap told (mapped_uneven at words (xs ∷ ys ∷ []) (views.Calc op at (elem.Input 0) (elem.Input 1)) (two_uneven at xs ys differ)) ∙ sym (pairs_uneven at op xs ys differ)

pub right_is : (words : ℕ → ℤ) (at : Place) (op : CalcOp) (xs : List ℤ) (w : ℕ) → told (mapped at words (xs ∷ []) (views.Calc op at (elem.Input 0) (elem.Word w))) ≡ with_right at op xs (words w)
right_is words at op xs w =
    let e = views.Calc op at (elem.Input 0) (elem.Word w) in
    let f = views.Calc op at (elem.Input 0) (elem.Number (words w)) in
    ap told (mapped_level at words (xs ∷ []) (xs ∷ []) e (one_level at xs)
    ∙ looped_alike (sight_at words (xs ∷ []) []) (sight_in (xs ∷ [])) e f
    (λ i. calc_alike (sight_at words (xs ∷ []) [] i []) (sight_in (xs ∷ []) i []) op at (elem.Input 0) (elem.Word w) (elem.Input 0) (elem.Number (words w))
    (value_Input (sight_at words (xs ∷ []) [] i []) 0 ∙ sym (value_Input (sight_in (xs ∷ []) i []) 0))
    (value_Word (sight_at words (xs ∷ []) [] i []) w ∙ sym (value_Number (sight_in (xs ∷ []) i []) (words w)))) (length xs))
    ∙ sym (right_looped at op xs (words w))

pub left_is : (words : ℕ → ℤ) (at : Place) (op : CalcOp) (w : ℕ) (ys : List ℤ) → told (mapped at words (ys ∷ []) (views.Calc op at (elem.Word w) (elem.Input 0))) ≡ with_left at op (words w) ys
left_is words at op w ys =
    let e = views.Calc op at (elem.Word w) (elem.Input 0) in
    let f = views.Calc op at (elem.Number (words w)) (elem.Input 0) in
    ap told (mapped_level at words (ys ∷ []) (ys ∷ []) e (one_level at ys)
    ∙ looped_alike (sight_at words (ys ∷ []) []) (sight_in (ys ∷ [])) e f
    (λ i. calc_alike (sight_at words (ys ∷ []) [] i []) (sight_in (ys ∷ []) i []) op at (elem.Word w) (elem.Input 0) (elem.Number (words w)) (elem.Input 0)
    (value_Word (sight_at words (ys ∷ []) [] i []) w ∙ sym (value_Number (sight_in (ys ∷ []) i []) (words w)))
    (value_Input (sight_at words (ys ∷ []) [] i []) 0 ∙ sym (value_Input (sight_in (ys ∷ []) i []) 0))) (length ys))
    ∙ sym (left_looped at op (words w) ys)

-- the opposite truth values
pub opposite_is : (words : ℕ → ℤ) (at : Place) (xs : List ℤ) → told (mapped at words (xs ∷ []) (views.Calc calc.Not at (elem.Input 0) (elem.Number (pos 0)))) ≡ Gives (negated xs)
opposite_is words at xs =
    let e = views.Calc calc.Not at (elem.Input 0) (elem.Number (pos 0)) in
    ap told (mapped_level at words (xs ∷ []) (xs ∷ []) e (one_level at xs)
    ∙ looped_alike (sight_at words (xs ∷ []) []) (sight_in (xs ∷ [])) e e
    (λ i. calc_alike (sight_at words (xs ∷ []) [] i []) (sight_in (xs ∷ []) i []) calc.Not at (elem.Input 0) (elem.Number (pos 0)) (elem.Input 0) (elem.Number (pos 0))
    (value_Input (sight_at words (xs ∷ []) [] i []) 0 ∙ sym (value_Input (sight_in (xs ∷ []) i []) 0))
    (value_Number (sight_at words (xs ∷ []) [] i []) (pos 0) ∙ sym (value_Number (sight_in (xs ∷ []) i []) (pos 0)))) (length xs))
    ∙ sym (negated_looped at xs)

-- ---- folds

one_more : (rows : Result (List (List ℤ)) Trap) (v : ℤ) (made : List ℤ) → and_then rows (λ found. Ok (column_of 0 found)) ≡ Ok made
    → and_then (and_then rows (λ found. Ok (found ++ (v ∷ []) ∷ []))) (λ found. Ok (column_of 0 found)) ≡ Ok (made ++ v ∷ [])
one_more (Ok rows) v made e =
    let same : column_of 0 rows ≡ made = cc in
    ap Ok (map-append (λ (row : List ℤ). word_at row 0) rows ((v ∷ []) ∷ []) ∙ ap (λ (l : List ℤ). l ++ v ∷ []) same)
one_more (Err t) v made e = absurd cc

inputs_below : (words : ℕ → ℤ) (xs : List ℤ) (n : ℕ) → n ≤ length xs → looped (sight_at words (xs ∷ []) []) (elem.Input 0) n ≡ Ok (take n xs)
inputs_below words xs zero le = refl
inputs_below words xs (suc n) le =
    let sight = sight_at words (xs ∷ []) [] in
    let rows = rows_below (λ (i : ℕ). lets_after (sight i) [] (elem.Input 0 ∷ [])) n in
    let more : take (suc n) xs ≡ take n xs ++ get_or xs n (pos 0) ∷ [] = rw (← add-one) (take_more xs n (pos 0) (omega arith)) in
    ap (λ (last : Result ℤ Trap). and_then (and_then rows (λ found. and_then (and_then last (λ v. Ok (v ∷ []))) (λ r. Ok (found ++ r ∷ [])))) (λ found. Ok (column_of 0 found))) (value_Input (sight n []) 0)
    ∙ one_more rows (get_or xs n (pos 0)) (take n xs) (inputs_below words xs n (omega (arith, le))) ∙ ap Ok (sym more)

-- the fold of the elements themselves
pub fold_is : (words : ℕ → ℤ) (at : Place) (kind : FoldKind) (xs : List ℤ) → reduced at words kind xs (elem.Input 0) ≡ folded_list kind at xs
unfolding reduced
fold_is words at kind xs =
    ap (λ (r : Result (List ℤ) Trap). and_then r (folded_list kind at))
    (values_looped words (xs ∷ []) [] (elem.Input 0) (length xs) ∙ inputs_below words xs (length xs) (omega arith) ∙ ap Ok (take_all (length xs) xs (omega arith)))
