-- What Loop does to a rank's data.
use Rattle.std.specs.Prelude.{ℕ, ◌+◌, ℤ, pos, ◌+ℤ◌, List, [], ◌∷◌, length, slice_index, slice_index_or, slice_set, Result, Ok}
use Rattle.hp_word.specs.declared.place.Trap.{Trap}
use Rattle.hp_word.specs.Elem.{Sight}
use Rattle.hp_word.specs.Folds.{fold_of}
use Rattle.hp_word.specs.LoopRules.{and_then, word_at, cell_at, lets_after, rows_below, column_of}
use Rattle.hp_spmd.specs.declared.instr.Folding.{Folding}
use Rattle.hp_spmd.specs.declared.instr.HaloFrom.{HaloFrom}
use Rattle.hp_spmd.specs.declared.instr.HaloFrom.TheVariants.{Loose, Whole}
use Rattle.hp_spmd.specs.declared.instr.Loop.{Loop}
use Rattle.hp_spmd.specs.declared.instr.Out.{Out}
use Rattle.hp_spmd.specs.declared.store.Piece.{Piece}
use Rattle.hp_spmd.specs.Store.{Data, piece_at}

-- what a loop at the rank's place i, from 0, finds so many places further
abbrev pub near_at : Data → HaloFrom → ℕ → ℤ → ℤ
near_at d (Loose column reach) i by = cell_at (slice_index_or d.loose column []) (pos (i + reach) +ℤ by)
near_at d (Whole array) i by = cell_at (piece_at d.arrays array).cells (pos i +ℤ by)

-- what an element of the loop reads at the rank's place i, after these lets
unfoldable pub sight_at : Loop → Data → ℕ → List ℤ → Sight
sight_at l d i lets =
    record {
      word = word_at d.words;
      input = λ k. word_at (piece_at d.arrays (slice_index l.inputs k)).cells i;
      near = λ k by. near_at d (slice_index_or l.halos k (Whole 0)) i by;
      earlier = word_at lets;
    }

unfoldable pub lets_at : Loop → Data → ℕ → Result (List ℤ) Trap
lets_at l d i = lets_after (sight_at l d i) [] l.lets

-- a piece with the rows and the cuts of another one
abbrev pub cut_as : Piece → List ℤ → Piece
cut_as leader cells = record { rows = leader.rows; cuts = leader.cuts; cells = cells }

abbrev pub with_outs : List Out → (leader : Piece) → (rows : List (List ℤ)) → List Piece → List Piece
with_outs [] leader rows pieces = pieces
with_outs (o ∷ os) leader rows pieces = with_outs os leader rows (slice_set pieces o.array (cut_as leader (column_of o.value rows)))

abbrev pub with_folds : List Folding → (rows : List (List ℤ)) → List ℤ → List ℤ
with_folds [] rows words = words
with_folds (f ∷ fs) rows words = with_folds fs rows (slice_set words f.word (fold_of f.kind (column_of f.value rows)))

-- the outs and the fold words made of these rows of values
abbrev pub made_of : Loop → (rows : List (List ℤ)) → Data → Data
made_of l rows d = record d { words = with_folds l.folds rows d.words; arrays = with_outs l.outs (piece_at d.arrays l.leader) rows d.arrays }

unfoldable pub loop_data : Loop → Data → Result Data Trap
loop_data l d = and_then (rows_below (lets_at l d) (length (piece_at d.arrays l.leader).cells)) (λ rows. Ok (made_of l rows d))
