-- What is packed and unpacked, in small cases that compute.
use Rattle.std.specs.Prelude.{◌≡◌, refl, ℕ, ℤ, pos, negsuc, List, [], ◌∷◌, false, Ok, Err}
use Rattle.std.specs.Int.{int_wrap}
use Rattle.hp_word.specs.declared.fold.FoldKind.TheVariants.{Sum, Max}
use Rattle.hp_word.specs.declared.place.Place.{Place}
use Rattle.hp_word.specs.declared.place.TrapKind.TheVariants.{TooLong}
use Rattle.hp_word.specs.Lengths.{trap}
use Rattle.hp_lattice.specs.declared.dist.Dist.TheVariants.{Rep, Var, Block}
use Rattle.hp_spmd.specs.declared.instr.Output.TheVariants.{Word}
use Rattle.hp_spmd.specs.declared.instr.Packing.TheVariants.{Words, Gather}
use Rattle.hp_spmd.specs.declared.instr.Unpacking.TheVariants.{Folds}
use Rattle.hp_spmd.specs.declared.instr.Need.TheVariants.{Blocks, Wide, First, Second}
use Rattle.hp_spmd.specs.declared.store.Piece.{Piece}
use Rattle.hp_spmd.specs.Exchange.{packed, unpacked}
use Rattle.hp_spmd.specs.Messages.{message_of}
use Rattle.hp_spmd.specs.Needs.{span, both_lengths, need_span}
use Rattle.hp_spmd.specs.Packs.{sizes_packed, partial_packed, move_packed, hash_packed, parts_for_root}
use Rattle.hp_spmd.specs.Store.{Data}
use Rattle.hp_spmd.specs.Unpacks.{below_data, seal_data, total_data, moved_data, halo_data, into_data, glued_data, got_data}

abbrev at : Place
at = record { line = 1; col = 1 }

abbrev data_with : List ℤ → List Piece → List (List ℤ) → Data
data_with words arrays loose = record { words = words; arrays = arrays; loose = loose; executed = 0; log = record { list = [] } }

abbrev cut : List ℕ → List ℤ → Piece
cut cuts cells = record { rows = 1; cuts = cuts; cells = cells }

-- ---- needs, of an array of 10 elements on 4 ranks with the blocks 3, 3, 2 and 2

blocks_row : need_span Blocks [] [] 1 10 4 ≡ span 3 6
unfolding need_span
blocks_row = refl

-- a stencil that reaches further than a block
wide_rows : (need_span (Wide 5) [] [] 0 10 4 ≡ span 0 8) × (need_span (Wide 5) [] [] 3 10 4 ≡ span 3 10)
unfolding need_span
wide_rows = (refl, refl)

-- an empty block needs nothing
wide_empty_row : need_span (Wide 5) [] [] 3 2 4 ≡ span 2 2
unfolding need_span
wide_empty_row = refl

-- an array of 2 elements and one of 3 behind it on 3 ranks: the blocks begin at 0, 2 and 4
glue_rows : (need_span (First 1) [] (cut [] [] ∷ cut (0 ∷ 3 ∷ []) [] ∷ []) 1 2 3 ≡ span 2 2) × (need_span (Second 0) [] (cut (0 ∷ 2 ∷ []) [] ∷ []) 1 3 3 ≡ span 0 2)
unfolding need_span
glue_rows = (refl, refl)

-- the lengths of two arrays of which the sum is no word
long_row : both_lengths 9223372036854775807 1 ≡ 9223372036854775807
long_row = refl

-- ---- packs

-- the words 1 and 0, for each of two ranks
words_row : packed [] (Words (1 ∷ 0 ∷ [])) 0 2 (data_with (pos 7 ∷ pos 8 ∷ []) [] []) ≡ message_of (pos 8 ∷ pos 7 ∷ []) ∷ message_of (pos 8 ∷ pos 7 ∷ []) ∷ []
unfolding packed
words_row = refl

-- an output's word is sent by rank 0 to rank 0 alone
gather_rows : (packed [] (Gather (Word 0 false)) 0 2 (data_with (pos 7 ∷ []) [] []) ≡ message_of (pos 7 ∷ []) ∷ message_of [] ∷ [])
    × (packed [] (Gather (Word 0 false)) 1 2 (data_with (pos 7 ∷ []) [] []) ≡ message_of [] ∷ message_of [] ∷ [])
unfolding packed
gather_rows = (refl, refl)

sizes_row : sizes_packed 0 2 (data_with [] [] ((pos 7 ∷ pos 8 ∷ []) ∷ [])) ≡ message_of (pos 2 ∷ []) ∷ message_of (pos 2 ∷ []) ∷ []
unfolding sizes_packed Rattle.hp_spmd.specs.Scalars.count_word
sizes_row = refl

partial_row : partial_packed 0 2 (data_with [] [] ((pos 7 ∷ pos 8 ∷ []) ∷ [])) ≡ message_of (pos 7 ∷ pos 8 ∷ []) ∷ message_of (pos 7 ∷ pos 8 ∷ []) ∷ []
unfolding partial_packed
partial_row = refl

-- the rank 0 of 2 has four of five cells, of which the last belongs to the block of rank 1
move_row : move_packed (Var ∷ []) (0 ∷ []) Blocks 0 2 (data_with [] (cut (0 ∷ 4 ∷ 5 ∷ []) (pos 1 ∷ pos 2 ∷ pos 3 ∷ pos 4 ∷ []) ∷ []) [])
    ≡ message_of (pos 1 ∷ pos 2 ∷ pos 3 ∷ []) ∷ message_of (pos 4 ∷ []) ∷ []
unfolding move_packed need_span
move_row = refl

-- a matrix of two rows, cut in columns, as the rank 1 has it: the columns 1 and 2 of three go to their blocks
matrix_move_row : move_packed (Var ∷ []) (0 ∷ []) Blocks 1 2 (data_with [] (record { rows = 2; cuts = 0 ∷ 1 ∷ 3 ∷ []; cells = pos 3 ∷ pos 4 ∷ pos 5 ∷ pos 6 ∷ [] } ∷ []) [])
    ≡ message_of (pos 3 ∷ pos 4 ∷ []) ∷ message_of (pos 5 ∷ pos 6 ∷ []) ∷ []
unfolding move_packed need_span
matrix_move_row = refl

-- the keys 1, 2 and -1 on 4 ranks go to the ranks 1, 2 and 2; they are the rows 4, 5 and 6
hash_row : hash_packed (Block ∷ []) (0 ∷ []) 0 1 4 (data_with [] (cut (0 ∷ 3 ∷ 6 ∷ 8 ∷ 10 ∷ []) (pos 1 ∷ pos 2 ∷ negsuc 0 ∷ []) ∷ []) [])
    ≡ message_of [] ∷ message_of (pos 4 ∷ pos 1 ∷ []) ∷ message_of (pos 5 ∷ pos 2 ∷ pos 6 ∷ negsuc 0 ∷ []) ∷ message_of [] ∷ []
unfolding hash_packed
hash_row = refl

-- of an array that all have rank 1 sends nothing to the root
root_row : parts_for_root (Rep ∷ Block ∷ []) (0 ∷ 1 ∷ []) 1 (data_with [] (cut (0 ∷ 1 ∷ []) (pos 7 ∷ []) ∷ cut (0 ∷ 1 ∷ 2 ∷ []) (pos 8 ∷ []) ∷ []) []) ≡ pos 8 ∷ []
root_row = refl

-- ---- unpacks

-- the sum of the first words and the greatest of the second, of which the last rank has none
folds_row : unpacked [] (Folds ((0, Sum) ∷ (1, Max) ∷ [])) 0 3 (message_of (pos 5 ∷ negsuc 0 ∷ []) ∷ message_of (pos 6 ∷ negsuc 4 ∷ []) ∷ message_of (pos 7 ∷ []) ∷ []) (data_with (pos 1 ∷ pos 1 ∷ []) [] [])
    ≡ Ok (data_with (pos 18 ∷ pos 0 ∷ []) [] [])
unfolding unpacked int_wrap
folds_row = refl

below_row : below_data 0 2 (message_of (pos 5 ∷ []) ∷ message_of (pos 6 ∷ []) ∷ message_of (pos 7 ∷ []) ∷ []) (data_with (pos 0 ∷ []) [] []) ≡ Ok (data_with (pos 11 ∷ []) [] [])
unfolding below_data int_wrap
below_row = refl

-- three ranks have 2, 0 and 1 rows
seal_row : seal_data (0 ∷ []) (0 ∷ []) at (message_of (pos 2 ∷ []) ∷ message_of (pos 0 ∷ []) ∷ message_of (pos 1 ∷ []) ∷ []) (data_with [] (cut [] [] ∷ []) ((pos 7 ∷ pos 8 ∷ []) ∷ []))
    ≡ Ok (data_with [] (cut (0 ∷ 2 ∷ 2 ∷ 3 ∷ []) (pos 7 ∷ pos 8 ∷ []) ∷ []) ((pos 7 ∷ pos 8 ∷ []) ∷ []))
unfolding seal_data
seal_row = refl

seal_long_row : seal_data (0 ∷ []) (0 ∷ []) at (message_of (pos 1048576 ∷ []) ∷ message_of (pos 1 ∷ []) ∷ []) (data_with [] (cut [] [] ∷ []) ([] ∷ [])) ≡ Err (trap at TooLong)
unfolding seal_data
seal_long_row = refl

-- a matrix of two rows and one column
total_row : total_data 1 0 (message_of (pos 1 ∷ pos 2 ∷ []) ∷ message_of (pos 10 ∷ pos 20 ∷ []) ∷ []) (data_with [] (record { rows = 2; cuts = []; cells = [] } ∷ cut [] [] ∷ []) [])
    ≡ Ok (data_with [] (record { rows = 2; cuts = []; cells = [] } ∷ record { rows = 2; cuts = 0 ∷ 1 ∷ []; cells = pos 11 ∷ pos 22 ∷ [] } ∷ []) [])
unfolding total_data int_wrap
total_row = refl

-- a message without a second word counts as 0 there
total_short_row : total_data 1 0 (message_of (pos 1 ∷ []) ∷ message_of (pos 10 ∷ pos 20 ∷ []) ∷ []) (data_with [] (record { rows = 2; cuts = []; cells = [] } ∷ cut [] [] ∷ []) [])
    ≡ Ok (data_with [] (record { rows = 2; cuts = []; cells = [] } ∷ record { rows = 2; cuts = 0 ∷ 1 ∷ []; cells = pos 11 ∷ pos 20 ∷ [] } ∷ []) [])
unfolding total_data int_wrap
total_short_row = refl

-- two arrays of five elements, cut 4 and 1, come to their blocks: rank 1 gets the last but one from rank 0, the last from itself
moved_row : moved_data (Var ∷ Var ∷ []) (2 ∷ 3 ∷ []) (0 ∷ 1 ∷ []) Blocks 1 2 (message_of (pos 4 ∷ pos 40 ∷ []) ∷ message_of (pos 5 ∷ pos 50 ∷ []) ∷ [])
    (data_with [] (cut (0 ∷ 4 ∷ 5 ∷ []) (pos 5 ∷ []) ∷ cut (0 ∷ 4 ∷ 5 ∷ []) (pos 50 ∷ []) ∷ cut [] [] ∷ cut [] [] ∷ []) [])
    ≡ Ok (data_with [] (cut (0 ∷ 4 ∷ 5 ∷ []) (pos 5 ∷ []) ∷ cut (0 ∷ 4 ∷ 5 ∷ []) (pos 50 ∷ []) ∷ cut (0 ∷ 3 ∷ 5 ∷ []) (pos 4 ∷ pos 5 ∷ []) ∷ cut (0 ∷ 3 ∷ 5 ∷ []) (pos 40 ∷ pos 50 ∷ []) ∷ []) [])
unfolding moved_data need_span Rattle.hp_spmd.specs.Needs.need_cuts Rattle.hp_cuts.specs.Blocks.block_cuts
moved_row = refl

-- the halo of one element round the block of rank 0 of 2, which has two of three elements
halo_row : halo_data 0 0 1 0 2 (message_of (pos 7 ∷ pos 8 ∷ []) ∷ message_of (pos 9 ∷ []) ∷ []) (data_with [] (cut (0 ∷ 2 ∷ 3 ∷ []) (pos 7 ∷ pos 8 ∷ []) ∷ []) ([] ∷ []))
    ≡ Ok (data_with [] (cut (0 ∷ 2 ∷ 3 ∷ []) (pos 7 ∷ pos 8 ∷ []) ∷ []) ((pos 0 ∷ pos 7 ∷ pos 8 ∷ pos 9 ∷ []) ∷ []))
unfolding halo_data
halo_row = refl

-- one that is wider than the array
wide_halo_row : halo_data 0 0 3 1 2 (message_of (pos 7 ∷ []) ∷ message_of (pos 8 ∷ []) ∷ []) (data_with [] (cut (0 ∷ 1 ∷ 2 ∷ []) (pos 8 ∷ []) ∷ []) ([] ∷ []))
    ≡ Ok (data_with [] (cut (0 ∷ 1 ∷ 2 ∷ []) (pos 8 ∷ []) ∷ []) ((pos 0 ∷ pos 0 ∷ pos 7 ∷ pos 8 ∷ pos 0 ∷ pos 0 ∷ pos 0 ∷ []) ∷ []))
unfolding halo_data
wide_halo_row = refl

into_row : into_data 0 (message_of (pos 7 ∷ []) ∷ message_of [] ∷ message_of (pos 8 ∷ []) ∷ []) (data_with [] [] ([] ∷ [])) ≡ Ok (data_with [] [] ((pos 7 ∷ pos 8 ∷ []) ∷ []))
unfolding into_data
into_row = refl

-- two elements and three behind them on 3 ranks: the block of rank 1 has the first two of the three
glued_row : glued_data 2 0 0 1 3 (message_of (pos 3 ∷ []) ∷ message_of (pos 4 ∷ []) ∷ message_of [] ∷ []) (data_with [] (cut (0 ∷ 2 ∷ []) [] ∷ cut (0 ∷ 3 ∷ []) [] ∷ cut [] [] ∷ []) ([] ∷ []))
    ≡ Ok (data_with [] (cut (0 ∷ 2 ∷ []) [] ∷ cut (0 ∷ 3 ∷ []) [] ∷ cut (0 ∷ 2 ∷ 4 ∷ 5 ∷ []) (pos 3 ∷ pos 4 ∷ []) ∷ []) ([] ∷ []))
unfolding glued_data Rattle.hp_cuts.specs.Blocks.block_cuts
glued_row = refl

-- rows of one cell from two ranks: their places, and their cells
pub got_row : got_data (0 ∷ 1 ∷ []) (message_of (pos 4 ∷ pos 70 ∷ []) ∷ message_of (pos 9 ∷ pos 80 ∷ pos 2 ∷ pos 90 ∷ []) ∷ []) (data_with [] [] ([] ∷ [] ∷ []))
    ≡ Ok (data_with [] [] ((pos 4 ∷ pos 9 ∷ pos 2 ∷ []) ∷ (pos 70 ∷ pos 80 ∷ pos 90 ∷ []) ∷ []))
unfolding got_data
got_row = refl
