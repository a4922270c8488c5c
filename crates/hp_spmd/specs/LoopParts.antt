-- What a loop makes of its rows of values.
use Rattle.std.specs.Prelude.{◌≡◌, ℕ, ℤ, List, [], ◌∷◌, map, slice_set, Result, Ok, Err, refl}
use Rattle.hp_word.specs.declared.place.Trap.{Trap}
use Rattle.hp_kernels.specs.declared.loops.made.LetFold.{LetFold}
use Rattle.hp_word.specs.Folds.{fold_of}
use Rattle.hp_spmd.specs.declared.instr.Folding.{Folding}
use Rattle.hp_spmd.specs.declared.instr.Loop.{Loop}
use Rattle.hp_spmd.specs.declared.instr.Out.{Out}
use Rattle.hp_spmd.specs.declared.local.loops.Made.{Made}
use Rattle.hp_spmd.specs.declared.store.Piece.{Piece}
use Rattle.hp_spmd.specs.Loops.{sight_at}
use Rattle.hp_spmd.specs.Store.{Data}
use Rattle.hp_word.specs.LoopRules.{column_of, word_at}

-- a piece of these cells
abbrev pub cut_piece : (height : ℕ) → List ℕ → List ℤ → Piece
cut_piece height cuts cells = record { rows = height; cuts = cuts; cells = cells }

-- the piece that an out becomes, with the leader's number of rows and its cuts
abbrev pub out_piece : (height : ℕ) → List ℕ → List (List ℤ) → Out → Piece
out_piece height cuts rows o = cut_piece height cuts (column_of o.value rows)

-- a fold, without the word that it becomes
abbrev pub let_fold : Folding → LetFold
let_fold f = record { kind = f.kind; value = f.value }

-- the word that a fold becomes
abbrev pub fold_word : List (List ℤ) → Folding → ℤ
fold_word rows f = fold_of f.kind (column_of f.value rows)

-- the pieces of all outs and the words of all folds
pub record IsMadeOf (l : Loop) (height : ℕ) (cuts : List ℕ) (rows : List (List ℤ)) (made : Made) : Type 0 where
  pub pieces : made.pieces.items ≡ map (out_piece height cuts rows) l.outs
  pub words : made.words.items ≡ map (fold_word rows) l.folds

-- what was made is of all rows; where there is a trap, it is the answer
abbrev pub MakesAll : Loop → (height : ℕ) → List ℕ → Result (List (List ℤ)) Trap → Result Made Trap → Type 0
MakesAll l height cuts (Ok rows) (Ok made) = IsMadeOf l height cuts rows made
MakesAll l height cuts (Ok rows) (Err t) = ⊥
MakesAll l height cuts (Err t) (Ok made) = ⊥
MakesAll l height cuts (Err t) (Err u) = t ≡ u

-- ---- what was made, written to a store

abbrev pub with_pieces : List Out → List Piece → List Piece → List Piece
with_pieces [] ps pieces = pieces
with_pieces (o ∷ os) [] pieces = pieces
with_pieces (o ∷ os) (p ∷ ps) pieces = with_pieces os ps (slice_set pieces o.array p)

abbrev pub with_words : List Folding → List ℤ → List ℤ → List ℤ
with_words [] ws words = words
with_words (f ∷ fs) [] words = words
with_words (f ∷ fs) (w ∷ ws) words = with_words fs ws (slice_set words f.word w)

-- ---- what a loop reads

-- an earlier let is read as it was made
pub earlier_lets : (l : Loop) (d : Data) (i : ℕ) (lets : List ℤ) (k : ℕ) → (sight_at l d i lets).earlier k ≡ word_at lets k
unfolding sight_at
earlier_lets l d i lets k = refl
