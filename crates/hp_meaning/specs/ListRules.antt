-- The constructs of arrays: the rules of plain lists, for values of the kinds that each construct is for.
use Rattle.std.specs.Prelude.{◌≡◌, ℤ, pos, negsuc, List, [], ◌∷◌, filter, length, refl}
use Rattle.hp_word.specs.declared.fold.FoldKind.{FoldKind}
use Rattle.hp_word.specs.declared.fold.FoldKind.TheVariants as fold
use Rattle.hp_word.specs.declared.place.Place.{Place}
use Rattle.hp_word.specs.declared.place.TrapKind.TheVariants.{Index, Empty}
use Rattle.hp_word.specs.Lengths.{trap}
use Rattle.hp_word.specs.ListRules as lists
use Rattle.hp_word.specs.ListRules.{range_of, appended, folded_list, prefix_sums, element_at, elements_at}
use Rattle.hp_word.specs.Words.{is_true}
use Rattle.hp_meaning.specs.declared.value.Kind.{Kind}
use Rattle.hp_meaning.specs.declared.value.Kind.TheVariants.{Number, Truth}
use Rattle.hp_meaning.specs.declared.value.Value.{Value}
use Rattle.hp_meaning.specs.declared.value.Value.TheVariants.{Word, List as Listed}
use Rattle.hp_meaning.specs.Outcomes.{Answer, Gives, Traps, given, told}
use Rattle.hp_meaning.specs.Operands.{as_word, as_list, as_number, as_numbers, as_truths, as_list_of, Cells, One, Many, as_cells}
use Rattle.hp_meaning.specs.WordRules.{two_words, worded, listed}

-- ---- operands

-- what is made of an array of any kind, of numbers, and of truth values
abbrev pub one_list : Value → (Kind → List ℤ → Answer Value) → Answer Value
one_list a rule = given (as_list a) (λ l. rule l.0 l.1)

abbrev pub numbers : Value → (List ℤ → Answer Value) → Answer Value
numbers a rule = given (as_numbers a) rule

abbrev pub truths : Value → (List ℤ → Answer Value) → Answer Value
truths a rule = given (as_truths a) rule

-- ---- making arrays

-- a word so many times
unfoldable pub filled : Place → Value → Value → Answer Value
filled at a b = given (as_word a) (λ w. given (as_number b) (λ n. listed w.0 (told (lists.filled at n w.1))))

-- the numbers from one up to another
unfoldable pub collected : Place → Value → Value → Answer Value
collected at a b = two_words Number a b (λ first last. listed Number (told (range_of at first last)))

-- one array behind another of its kind
unfoldable pub concatenated : Place → Value → Value → Answer Value
concatenated at a b = one_list a (λ kind xs. given (as_list_of kind b) (λ ys. listed kind (told (appended at xs ys))))

-- ---- folds and scans

unfoldable pub length_value : Value → Answer Value
length_value a = one_list a (λ kind xs. Gives (Word Number (pos (length xs))))

-- what a fold is for, and what it gives
abbrev pub fold_kind : FoldKind → Kind
fold_kind fold.Any = Truth
fold_kind fold.All = Truth
fold_kind _ = Number

unfoldable pub folded : FoldKind → Place → Value → Answer Value
folded kind at a = given (as_list_of (fold_kind kind) a) (λ xs. worded (fold_kind kind) (told (folded_list kind at xs)))

-- how many elements are true
unfoldable pub counted : Value → Answer Value
counted a = truths a (λ xs. Gives (Word Number (pos (length (filter is_true xs)))))

-- the sums of the elements up to each one
unfoldable pub summed : Value → Answer Value
summed a = numbers a (λ xs. Gives (Listed Number (prefix_sums xs)))

-- ---- elements

-- an element, or several
unfoldable pub indexed_by : Place → Kind → List ℤ → Cells → Answer Value
indexed_by at kind xs (One i) = worded kind (told (element_at at xs i))
indexed_by at kind xs (Many positions) = listed kind (told (elements_at at xs positions))

unfoldable pub indexed : Place → Value → Value → Answer Value
indexed at a b = one_list a (λ kind xs. given (as_cells Number b) (indexed_by at kind xs))

-- ---- worked rows

span_row : (at : Place) → collected at (Word Number (negsuc 0)) (Word Number (pos 2)) ≡ Gives (Listed Number (negsuc 0 ∷ pos 0 ∷ pos 1 ∷ pos 2 ∷ []))
unfolding collected lists.range_of lists.range_count lists.span
span_row at = refl

empty_span_row : (at : Place) → collected at (Word Number (pos 2)) (Word Number (pos 1)) ≡ Gives (Listed Number [])
unfolding collected lists.range_of lists.range_count lists.span
empty_span_row at = refl

-- `a[2]`, `a[0]` and `a[3]` of the array `a` of 7 and 8
index_rows : (at : Place) → (indexed at (Listed Number (pos 7 ∷ pos 8 ∷ [])) (Word Number (pos 2)) ≡ Gives (Word Number (pos 8))) × (indexed at (Listed Number (pos 7 ∷ pos 8 ∷ [])) (Word Number (pos 0)) ≡ Traps (trap at Index)) × (indexed at (Listed Number (pos 7 ∷ pos 8 ∷ [])) (Word Number (pos 3)) ≡ Traps (trap at Index))
unfolding indexed indexed_by lists.element_at
index_rows at = (refl, refl, refl)

least_row : (at : Place) → folded fold.Min at (Listed Number []) ≡ Traps (trap at Empty)
unfolding folded lists.folded_list
least_row at = refl
