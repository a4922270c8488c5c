-- The loop of every form of the program: at each place the values of its lets, in order, each of which may read those
-- before it; then columns of them.
use Rattle.std.specs.Prelude.{◌≡◌, ℕ, zero, suc, ℤ, pos, negsuc, ◌+ℤ◌, List, [], ◌∷◌, ◌++◌, map, slice_index_or, Result, Ok, Err, refl}
use Rattle.std.specs.Int.{int_wrap}
use Rattle.hp_word.specs.declared.elem.Elem.{Elem}
use Rattle.hp_word.specs.declared.elem.Elem.TheVariants.{Input, Near, Earlier, Number}
use Rattle.hp_word.specs.declared.elem.Elem.TheViews.{Calc}
use Rattle.hp_word.specs.declared.place.Place.{Place}
use Rattle.hp_word.specs.declared.place.Trap.{Trap}
use Rattle.hp_word.specs.declared.place.TrapKind.TheVariants.{Divide}
use Rattle.hp_word.specs.declared.word.CalcOp.TheVariants.{Add, Div}
use Rattle.hp_word.specs.Elem.{Sight, elem_value}
use Rattle.hp_word.specs.Lengths.{trap}

-- ---- values and traps

-- goes on with a value, or traps
abbrev pub and_then : {A B : Type 0} → Result A Trap → (A → Result B Trap) → Result B Trap
and_then (Ok a) f = f a
and_then (Err t) f = Err t

-- all the values, where there are all; else the first trap
unfoldable pub all_ok : {A : Type 0} → List (Result A Trap) → Result (List A) Trap
all_ok [] = Ok []
all_ok (r ∷ rs) = and_then r (λ x. and_then (all_ok rs) (λ xs. Ok (x ∷ xs)))

-- ---- words by their places

-- the word at a place of a list that goes on with 0
abbrev pub word_at : List ℤ → ℕ → ℤ
word_at words k = slice_index_or words k (pos 0)

-- the cell at a place of a list that goes on with 0 at both ends
abbrev pub cell_at : List ℤ → ℤ → ℤ
cell_at cells (pos i) = word_at cells i
cell_at cells (negsuc i) = pos 0

-- ---- loops

-- the values of the lets, in order; each may read those before it
abbrev pub lets_after : (List ℤ → Sight) → List ℤ → List Elem → Result (List ℤ) Trap
lets_after sight lets [] = Ok lets
lets_after sight lets (e ∷ es) = and_then (elem_value (sight lets) e) (λ v. lets_after sight (lets ++ v ∷ []) es)

-- the rows of values at the places below n, in order; the first trap counts
abbrev pub rows_below : (ℕ → Result (List ℤ) Trap) → ℕ → Result (List (List ℤ)) Trap
rows_below row zero = Ok []
rows_below row (suc n) = and_then (rows_below row n) (λ rows. and_then (row n) (λ r. Ok (rows ++ r ∷ [])))

-- the values of one let in all rows
abbrev pub column_of : ℕ → List (List ℤ) → List ℤ
column_of k rows = map (λ row. word_at row k) rows

-- what an element reads at the place i of these arrays, after these lets; no words, and each array its own halo
abbrev pub sight_in : List (List ℤ) → ℕ → List ℤ → Sight
sight_in arrays i lets =
    record {
      word = λ k. pos 0;
      input = λ k. word_at (slice_index_or arrays k []) i;
      near = λ k by. cell_at (slice_index_or arrays k []) (pos i +ℤ by);
      earlier = word_at lets;
    }

-- ---- worked rows

cell_rows : (cell_at (pos 7 ∷ pos 8 ∷ []) (pos 1) ≡ pos 8) × (cell_at (pos 7 ∷ pos 8 ∷ []) (pos 2) ≡ pos 0) × (cell_at (pos 7 ∷ pos 8 ∷ []) (negsuc 0) ≡ pos 0)
cell_rows = (refl, refl, refl)

all_row : (at : Place) → all_ok (Ok (pos 1) ∷ Err (trap at Divide) ∷ Ok (pos 2) ∷ []) ≡ Err (trap at Divide)
unfolding all_ok
all_row at = refl

-- the second let adds the next cell to the first let, which is the cell itself
lets_row : (at : Place) → rows_below (λ i. lets_after (sight_in ((pos 4 ∷ pos 5 ∷ []) ∷ []) i) [] (Input 0 ∷ Calc Add at (Earlier 0) (Near 0 (pos 1)) ∷ [])) 2
    ≡ Ok ((pos 4 ∷ pos 9 ∷ []) ∷ (pos 5 ∷ pos 5 ∷ []) ∷ [])
unfolding elem_value Rattle.hp_word.specs.Elem.only_value Rattle.hp_word.specs.Elem.calc_of int_wrap Rattle.hp_word.specs.declared.elem.Elem.TheBlock.hidden-the_row-Elem-0 denote.Hole.Carrier.hidden
lets_row at = refl

-- the trap of the first place that has one
trap_row : (at : Place) → rows_below (λ i. lets_after (sight_in ((pos 4 ∷ pos 0 ∷ []) ∷ []) i) [] (Calc Div at (Number (pos 8)) (Input 0) ∷ [])) 2 ≡ Err (trap at Divide)
unfolding elem_value Rattle.hp_word.specs.Elem.only_value Rattle.hp_word.specs.Elem.calc_of Rattle.hp_word.specs.declared.elem.Elem.TheBlock.hidden-the_row-Elem-0 denote.Hole.Carrier.hidden
trap_row at = refl

column_row : column_of 1 ((pos 4 ∷ pos 9 ∷ []) ∷ (pos 5 ∷ pos 6 ∷ []) ∷ []) ≡ pos 9 ∷ pos 6 ∷ []
column_row = refl
