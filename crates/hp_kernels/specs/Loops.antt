-- What a loop makes of the rows of its lets.
use Rattle.std.specs.Prelude.{◌≡◌, ℕ, ℤ, List, map, Result, Ok, Err}
use Rattle.hp_word.specs.declared.place.Trap.{Trap}
use Rattle.hp_word.specs.Folds.{fold_of}
use Rattle.hp_word.specs.LoopRules.{column_of}
use Rattle.hp_kernels.specs.declared.loops.made.LetFold.{LetFold}
use Rattle.hp_kernels.specs.declared.loops.made.Made.{Made}

-- the word that a fold becomes
abbrev pub fold_word : List (List ℤ) → LetFold → ℤ
fold_word rows f = fold_of f.kind (column_of f.value rows)

-- the columns of the lets that are asked for, and the words of all folds
pub record IsMadeOf (outs : List ℕ) (folds : List LetFold) (rows : List (List ℤ)) (made : Made) : Type 0 where
  pub columns : map (λ c. c.items) made.columns.items ≡ map (λ k. column_of k rows) outs
  pub words : made.words.items ≡ map (fold_word rows) folds

-- what was made is of all rows; where there is a trap, it is the answer
abbrev pub MakesAll : (outs : List ℕ) (folds : List LetFold) → Result (List (List ℤ)) Trap → Result Made Trap → Type 0
MakesAll outs folds (Ok rows) (Ok made) = IsMadeOf outs folds rows made
MakesAll outs folds (Ok rows) (Err t) = ⊥
MakesAll outs folds (Err t) (Ok made) = ⊥
MakesAll outs folds (Err t) (Err u) = t ≡ u
