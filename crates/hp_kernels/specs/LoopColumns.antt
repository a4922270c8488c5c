-- What the columns of a loop hold at the places of a block, where they end, and what is made of them.
use Rattle.std.specs.Prelude.{◌≡◌, ◌<◌, ◌≤◌, ◌⊎◌, ◌+◌, ◌+ℤ◌, ℕ, ℤ, pos, Bool, true, false, not, ◌&&◌, if◌then◌else◌, List, [], ◌∷◌, ◌++◌, map, length, slice_index_or, Option, Some, None, Result, Ok, Err}
use Rattle.std.specs.List.{range_with_len}
use Rattle.hp_word.specs.declared.elem.Elem.{Elem}
use Rattle.hp_word.specs.declared.place.Trap.{Trap}
use Rattle.hp_word.specs.declared.place.TrapKind.{TrapKind}
use Rattle.hp_word.specs.declared.word.CalcOp.{CalcOp}
use Rattle.hp_word.specs.Folds.{fold_of, joined}
use Rattle.hp_word.specs.Elem.{Sight, both_of, either_of}
use Rattle.hp_word.specs.LoopRules.{cell_at, column_of, lets_after, word_at}
use Rattle.hp_word.specs.Words.{calculated, is_true}
use Rattle.hp_kernels.specs.declared.loops.cells.Fault.{Fault}
use Rattle.hp_kernels.specs.declared.loops.cells.Side.{Side}
use Rattle.hp_kernels.specs.declared.loops.cells.Side.TheVariants.{Left, Right}
use Rattle.hp_kernels.specs.declared.loops.columns.Mask.{Mask}
use Rattle.hp_kernels.specs.declared.loops.columns.Mask.TheVariants.{All, Where}
use Rattle.hp_kernels.specs.declared.loops.columns.Operand.{Operand}
use Rattle.hp_kernels.specs.declared.loops.columns.Operand.TheVariants.{Same, Cells, Made}
use Rattle.hp_kernels.specs.declared.loops.columns.Reach.{Reach}
use Rattle.hp_kernels.specs.declared.loops.made.LetFold.{LetFold}

-- ---- columns

-- the word of a column at a place
abbrev pub cell_of : Operand → ℕ → ℤ
cell_of (Same word) i = word
cell_of (Cells cells) i = word_at cells.now i
cell_of (Made cells) i = word_at cells.items i

-- a column has a word at each of the first places
abbrev pub IsLong : ℕ → Operand → Type 0
IsLong places (Same word) = Unit {0}
IsLong places (Cells cells) = places ≤ length cells.now
IsLong places (Made cells) = places ≤ length cells.items

-- a column has the words of another one at the first places
pub record ReadsAs (places : ℕ) (column made : Operand) : Type 0 where
  pub long : IsLong places made
  pub same : (i : ℕ) → i < places → cell_of made i ≡ cell_of column i

-- a column has the cells from so many places from the first one on
pub record IsWindow (cells : List ℤ) (first : ℕ) (by : ℤ) (places : ℕ) (made : Operand) : Type 0 where
  pub long : IsLong places made
  pub same : (i : ℕ) → i < places → cell_of made i ≡ cell_at cells (pos (first + i) +ℤ by)

-- the column of an earlier let; 0 where there is none
abbrev pub let_at : List Operand → ℕ → Operand
let_at kept k = slice_index_or kept k (Same (pos 0))

-- each of them has a word at each of the first places
abbrev pub AreLong : ℕ → List Operand → Type 0
AreLong places kept = (k : ℕ) → IsLong places (let_at kept k)

-- the words of all columns at a place
abbrev pub row_of : List Operand → ℕ → List ℤ
row_of kept i = map (λ column. cell_of column i) kept

-- ---- which places count, and how far

abbrev pub counts : Mask → ℕ → Bool
counts All i = true
counts (Where cells) i = is_true (word_at cells.now i)

-- at each of the first places that count, what is asked for has this word
abbrev pub AreValues : {E : Type 0} → (ℕ → Bool) → (ℕ → Result ℤ E) → (places : ℕ) → (ℕ → ℤ) → Type 0
AreValues counts f places word = (i : ℕ) → i < places → counts i ≡ true → f i ≡ Ok (word i)

-- a block ends sooner, at a place that counts, which has a trap
pub record Stops {A : Type 0} (counts : ℕ → Bool) (f : ℕ → Result A Trap) (old new : Reach) : Type 0 where
  pub trap : Trap
  pub sooner : new.places < old.places
  pub ended : new.trap ≡ Some trap
  pub counted : counts new.places ≡ true
  pub trapped : f new.places ≡ Err trap

-- a block goes as far as it did, or ends sooner, at a place that counts, which has a trap
abbrev pub Lowers : {A : Type 0} → (ℕ → Bool) → (ℕ → Result A Trap) → (old new : Reach) → Type 0
Lowers counts f old new = (new ≡ old) ⊎ Stops counts f old new

-- the column of what is asked for, as far as the block then goes
pub record IsColumn (counts : ℕ → Bool) (f : ℕ → Result ℤ Trap) (old new : Reach) (column : Operand) : Type 0 where
  pub lowers : Lowers counts f old new
  pub gives : AreValues counts f new.places (cell_of column)
  pub long : IsLong new.places column

-- the columns of all lets, as far as the block then goes
pub record Computes (sight : ℕ → List ℤ → Sight) (lets : List Elem) (old new : Reach) (kept : List Operand) : Type 0 where
  pub lowers : Lowers (λ i. true) (λ i. lets_after (sight i) [] lets) old new
  pub gives : (i : ℕ) → i < new.places → lets_after (sight i) [] lets ≡ Ok (row_of kept i)
  pub long : AreLong new.places kept

-- ---- changes in place

-- what an operation gives of a cell on one side of it
abbrev pub calculated_on : Side → CalcOp → (cell other : ℤ) → Result ℤ TrapKind
calculated_on Left op cell other = calculated op cell other
calculated_on Right op cell other = calculated op other cell

-- the first place that counts and has no value
pub record IsFirstFault (counts : ℕ → Bool) (f : ℕ → Result ℤ TrapKind) (places : ℕ) (cells : List ℤ) (fault : Fault) : Type 0 where
  pub within : fault.place < places
  pub counted : counts fault.place ≡ true
  pub fails : f fault.place ≡ Err fault.kind
  pub before : AreValues counts f fault.place (word_at cells)

-- the cells are the values at the places that count, up to the first one that has none
abbrev pub Fills : (ℕ → Bool) → (ℕ → Result ℤ TrapKind) → (places : ℕ) → List ℤ → Option Fault → Type 0
Fills counts f places cells None = AreValues counts f places (word_at cells)
Fills counts f places cells (Some fault) = IsFirstFault counts f places cells fault

-- whether a word is true, or false, as is wanted
abbrev pub is_wanted : (wanted : Bool) → ℤ → Bool
is_wanted true word = is_true word
is_wanted false word = not (is_true word)

-- cells that are true at the places that count further: those that did, and whose cell is as is wanted
abbrev pub Narrows : (wanted : Bool) → Mask → (places : ℕ) → (old new : List ℤ) → Type 0
Narrows wanted mask places old new = (i : ℕ) → i < places → is_true (word_at new i) ≡ (counts mask i && is_wanted wanted (word_at old i))

-- cells that are a column's where they were true, and else one word
abbrev pub Chooses : (ℕ → ℤ) → ℤ → (places : ℕ) → (old new : List ℤ) → Type 0
Chooses given word places old new = (i : ℕ) → i < places → word_at new i ≡ (if is_true (word_at old i) then given i else word)

-- ---- the second part of a guard

-- what two parts give, of which the first decides where its truth is not as is wanted
abbrev pub guarded_by : (wanted : Bool) → Result ℤ Trap → Result ℤ Trap → Result ℤ Trap
guarded_by true first second = both_of first second
guarded_by false first second = either_of first second

-- ---- the rows of a block

-- the words of a column at the first places
abbrev pub first_cells : (places : ℕ) → Operand → List ℤ
first_cells places column = map (cell_of column) (range_with_len 0 places)

-- the rows at the first places
abbrev pub first_rows : (places : ℕ) → List Operand → List (List ℤ)
first_rows places kept = map (row_of kept) (range_with_len 0 places)

-- each item of a list, changed by the item at its position in another one
abbrev pub changed_by : {A X : Type 0} → (A → X → X) → List A → List X → List X
changed_by f [] xs = xs
changed_by f (a ∷ more) [] = []
changed_by f (a ∷ more) (x ∷ xs) = f a x ∷ changed_by f more xs

-- a column with the cells of more rows, and a word joined with their fold
abbrev pub with_cells : List (List ℤ) → ℕ → List ℤ → List ℤ
with_cells rows k cells = cells ++ column_of k rows

abbrev pub joined_with : List (List ℤ) → LetFold → ℤ → ℤ
joined_with rows f word = joined f.kind word (fold_of f.kind (column_of f.value rows))
