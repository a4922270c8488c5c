-- What is worked out element by element is a loop of one let: the words of that.
use Rattle.std.specs.Prelude.{ℕ, ℤ, List, [], ◌∷◌, Result, Ok}
use Rattle.hp_word.specs.declared.elem.Elem.{Elem}
use Rattle.hp_word.specs.declared.place.Trap.{Trap}
use Rattle.hp_word.specs.Elem.{Sight, elem_value}
use Rattle.hp_word.specs.LoopRules.{and_then, lets_after, rows_below, column_of}
use Rattle.hp_meaning.specs.Outcomes.{Answer, told}

-- the column that a loop of one let makes at the first n places
abbrev pub looped : (ℕ → List ℤ → Sight) → Elem → ℕ → Result (List ℤ) Trap
looped sight e n = and_then (rows_below (λ i. lets_after (sight i) [] (e ∷ [])) n) (λ rows. Ok (column_of 0 rows))

-- what the element gives at a place
abbrev pub element_of : (ℕ → List ℤ → Sight) → Elem → ℕ → Answer ℤ
element_of sight e i = told (elem_value (sight i []) e)
