-- What a loop makes of its rows: by the engine of loops, and written to a store.
use Rattle.std.proofs.Common.{◌≡◌, ℕ, suc, ℤ, List, [], ◌∷◌, map, Result, Ok, Err, refl, ap, ◌∙◌, subst}
use Rattle.std.specs.declared.vec.Vec.{Vec}
use Rattle.hp_word.specs.declared.place.Trap.{Trap}
use Rattle.hp_word.specs.LoopRules.{column_of}
use Rattle.hp_kernels.specs.declared.loops.made.LetFold.{LetFold}
use Rattle.hp_kernels.specs.declared.loops.made.Made.{Made as Columns}
use Rattle.hp_kernels.specs.Loops.{MakesAll as Tells, fold_word as let_word}
use Rattle.hp_spmd.specs.declared.instr.Folding.{Folding}
use Rattle.hp_spmd.specs.declared.instr.Loop.{Loop}
use Rattle.hp_spmd.specs.declared.instr.Out.{Out}
use Rattle.hp_spmd.specs.declared.local.loops.Made.{Made}
use Rattle.hp_spmd.specs.declared.store.Piece.{Piece}
use Rattle.hp_spmd.specs.declared.store.Store.{Store}
use Rattle.hp_spmd.specs.Loops.{made_of, with_folds}
use Rattle.hp_spmd.specs.Next.{moved}
use Rattle.hp_spmd.specs.LoopParts.{IsMadeOf, MakesAll, cut_piece, fold_word, let_fold, out_piece, with_pieces, with_words}
use Rattle.hp_spmd.specs.Store.{data_of, piece_at, with_data}
use Rattle.hp_spmd.proofs.LocalLoops.{pieces_of_outs, words_of_folds}

-- ---- by the engine

cut_columns : {Z : Type 0} → (height : ℕ) (cuts : List ℕ) (columns : List (Vec ℤ Z)) → map (λ (c : Vec ℤ Z). cut_piece height cuts c.items) columns ≡ map (cut_piece height cuts) (map (λ (c : Vec ℤ Z). c.items) columns)
cut_columns height cuts [] = refl
cut_columns height cuts (c ∷ columns) = ap (λ l. cut_piece height cuts c.items ∷ l) (cut_columns height cuts columns)

cut_outs : (height : ℕ) (cuts : List ℕ) (rows : List (List ℤ)) (outs : List Out) → map (cut_piece height cuts) (map (λ k. column_of k rows) (map (λ (o : Out). o.value) outs)) ≡ map (out_piece height cuts rows) outs
cut_outs height cuts rows [] = refl
cut_outs height cuts rows (o ∷ outs) = ap (λ l. out_piece height cuts rows o ∷ l) (cut_outs height cuts rows outs)

folded : (rows : List (List ℤ)) (folds : List Folding) → map (let_word rows) (map let_fold folds) ≡ map (fold_word rows) folds
folded rows [] = refl
folded rows (f ∷ folds) = ap (λ l. fold_word rows f ∷ l) (folded rows folds)

-- what the engine made, cut into pieces
pub makes_all : (l : Loop) (height : ℕ) (cuts : List ℕ) (rows : Result (List (List ℤ)) Trap) (values : List ℕ) (folds : List LetFold) (columns : Columns) (made : Made) → values ≡ map (λ (o : Out). o.value) l.outs → folds ≡ map let_fold l.folds
    → Tells values folds rows (Ok columns) → made.pieces.items ≡ map (λ c. cut_piece height cuts c.items) columns.columns.items → made.words.items ≡ columns.words.items → MakesAll l height cuts rows (Ok made)
makes_all l height cuts (Ok rows) values folds columns made v f is pieces words =
    record {
      pieces = pieces ∙ cut_columns height cuts columns.columns.items ∙ ap (map (cut_piece height cuts)) (is.columns ∙ ap (map (λ k. column_of k rows)) v) ∙ cut_outs height cuts rows l.outs;
      words = words ∙ is.words ∙ ap (map (let_word rows)) f ∙ folded rows l.folds;
    }
makes_all l height cuts (Err t) values folds columns made v f is pieces words = is

pub traps_all : (l : Loop) (height : ℕ) (cuts : List ℕ) (rows : Result (List (List ℤ)) Trap) (values : List ℕ) (folds : List LetFold) (t : Trap) → Tells values folds rows (Err t) → MakesAll l height cuts rows (Err t)
traps_all l height cuts (Ok rows) values folds t is = is
traps_all l height cuts (Err u) values folds t is = is

-- the same of rows and of an answer that are known
pub engine_told : (values : List ℕ) (folds : List LetFold) (rows known : Result (List (List ℤ)) Trap) (ran told : Result Columns Trap) → rows ≡ known → ran ≡ told → Tells values folds rows ran → Tells values folds known told
engine_told values folds rows known ran told e f t = subst (λ r. Tells values folds r told) e (subst (λ r. Tells values folds rows r) f t)

-- ---- written to a store

pub finished : (x : Store) (l : Loop) (rows : List (List ℤ)) (made : Made) (lent words : List ℤ) (arrays : List Piece) (position : ℕ) → position ≡ suc x.position
    → IsMadeOf l (piece_at x.arrays l.leader).rows (piece_at x.arrays l.leader).cuts rows made → lent ≡ made.words.items
    → words ≡ with_words l.folds lent x.words → arrays ≡ with_pieces l.outs made.pieces.items x.arrays
    → record x { words = words; arrays = arrays; position = position } ≡ with_data (made_of l rows (data_of x)) (moved x)
finished x l rows made lent words arrays position p h e w a =
    let leader = piece_at x.arrays l.leader in
    let words_are = w ∙ ap (λ ws. with_words l.folds ws x.words) (e ∙ h.words) ∙ words_of_folds l.folds rows x.words in
    let arrays_are = a ∙ ap (λ ps. with_pieces l.outs ps x.arrays) h.pieces ∙ pieces_of_outs l.outs leader rows x.arrays in
    ap (λ n. record x { words = words; arrays = arrays; position = n }) p
    ∙ ap (λ ws. record x { words = ws; arrays = arrays; position = suc x.position }) words_are
    ∙ ap (λ ps. record x { words = with_folds l.folds rows x.words; arrays = ps; position = suc x.position }) arrays_are
