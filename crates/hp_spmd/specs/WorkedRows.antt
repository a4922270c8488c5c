-- What each instruction does, in small cases that compute.
use Rattle.std.specs.Prelude.{◌≡◌, refl, ℕ, ℤ, pos, List, [], ◌∷◌, true, false, Some, None, Ok, Err}
use Rattle.std.specs.Int.{int_wrap}
use Rattle.hp_word.specs.declared.place.Place.{Place}
use Rattle.hp_word.specs.declared.place.TrapKind.TheVariants.{Divide, Index, Mismatch}
use Rattle.hp_word.specs.declared.table.MeasureKind.TheVariants as measures
use Rattle.hp_word.specs.declared.word.CalcOp.TheVariants.{Add, Div}
use Rattle.hp_word.specs.Lengths.{trap}
use Rattle.hp_word.specs.RowRules.{row_place}
use Rattle.hp_lattice.specs.declared.dist.Dist.TheVariants.{Rep, Block}
use Rattle.hp_spmd.specs.declared.instr.CheckRule.TheVariants as check
use Rattle.hp_spmd.specs.declared.instr.Rows.TheVariants.{Own, Got}
use Rattle.hp_spmd.specs.declared.instr.Target.TheVariants.{Whole, Loose}
use Rattle.hp_spmd.specs.declared.store.Piece.{Piece}
use Rattle.hp_spmd.specs.Arrays.{fill_data, range_data, table_data, copy_data, scan_data, at_data, pick_data}
use Rattle.hp_spmd.specs.Frames.{select_data, sort_data, rows_read, join_data, group_data}
use Rattle.hp_spmd.specs.Local.{next_place}
use Rattle.hp_spmd.specs.Matrices.{stack_data, row_data, product_data}
use Rattle.hp_spmd.specs.Scalars.{const_data, calc_data, length_data, check_data, greatest_count, piece_length}
use Rattle.hp_spmd.specs.Store.{Data}

abbrev at : Place
at = record { line = 1; col = 1 }

-- data with these words, arrays and loose columns, before any join
abbrev data_with : List ℤ → List Piece → List (List ℤ) → Data
data_with words arrays loose = record { words = words; arrays = arrays; loose = loose; executed = 0; log = record { list = [] } }

abbrev cut : List ℕ → List ℤ → Piece
cut cuts cells = record { rows = 1; cuts = cuts; cells = cells }

-- ---- words

const_row : const_data 1 (pos 7) (data_with (pos 0 ∷ pos 0 ∷ []) [] []) ≡ Ok (data_with (pos 0 ∷ pos 7 ∷ []) [] [])
unfolding const_data
const_row = refl

calc_row : calc_data 0 Add 0 1 at (data_with (pos 2 ∷ pos 3 ∷ []) [] []) ≡ Ok (data_with (pos 5 ∷ pos 3 ∷ []) [] [])
unfolding calc_data int_wrap
calc_row = refl

divide_row : calc_data 0 Div 0 1 at (data_with (pos 2 ∷ pos 0 ∷ []) [] []) ≡ Err (trap at Divide)
unfolding calc_data
divide_row = refl

-- a jump to 9 at the instruction 4 that is taken unless word 0 is true
jump_rows : (next_place 9 None [] 4 ≡ 9) × (next_place 9 (Some 0) (pos 0 ∷ []) 4 ≡ 9) × (next_place 9 (Some 0) (pos 1 ∷ []) 4 ≡ 5)
jump_rows = (refl, refl, refl)

length_row : length_data 0 0 (data_with (pos 0 ∷ []) (cut (0 ∷ 2 ∷ 5 ∷ []) (pos 8 ∷ pos 9 ∷ []) ∷ []) []) ≡ Ok (data_with (pos 5 ∷ []) (cut (0 ∷ 2 ∷ 5 ∷ []) (pos 8 ∷ pos 9 ∷ []) ∷ []) [])
unfolding length_data Rattle.hp_spmd.specs.Scalars.count_word
length_row = refl

-- a length of 2^63 counts as one less
long_row : piece_length (cut (0 ∷ 9223372036854775808 ∷ []) []) ≡ greatest_count
long_row = refl

check_row : check_data (0 ∷ 1 ∷ []) check.Equal at (data_with [] (cut (0 ∷ 3 ∷ []) [] ∷ cut (0 ∷ 4 ∷ []) [] ∷ []) []) ≡ Err (trap at Mismatch)
unfolding check_data
check_row = refl

-- ---- arrays; the rank 1 of 3

fill_row : fill_data (Block ∷ []) 1 3 0 0 1 at (data_with (pos 7 ∷ pos 4 ∷ []) (cut [] [] ∷ []) []) ≡ Ok (data_with (pos 7 ∷ pos 4 ∷ []) (cut (0 ∷ 2 ∷ 3 ∷ 4 ∷ []) (pos 7 ∷ []) ∷ []) [])
unfolding fill_data Rattle.hp_word.specs.ListRules.filled Rattle.hp_spmd.specs.Store.piece_of Rattle.hp_cuts.specs.Blocks.block_cuts
fill_row = refl

-- the numbers from 5 up to 8
range_row : range_data (Block ∷ []) 1 3 0 0 1 at (data_with (pos 5 ∷ pos 8 ∷ []) (cut [] [] ∷ []) []) ≡ Ok (data_with (pos 5 ∷ pos 8 ∷ []) (cut (0 ∷ 2 ∷ 3 ∷ 4 ∷ []) (pos 7 ∷ []) ∷ []) [])
unfolding range_data Rattle.hp_word.specs.ListRules.range_of Rattle.hp_word.specs.ListRules.range_count Rattle.hp_word.specs.ListRules.span Rattle.hp_spmd.specs.Store.piece_of Rattle.hp_cuts.specs.Blocks.block_cuts
range_row = refl

-- a table that is not there has no rows
table_row : table_data (Rep ∷ []) (record { list = [] }) 1 3 (0 ∷ []) 0 (data_with [] (cut [] [] ∷ []) []) ≡ Ok (data_with [] (cut (0 ∷ 0 ∷ []) [] ∷ []) [])
unfolding table_data Rattle.hp_spmd.specs.Store.piece_of
table_row = refl

copy_row : copy_data (0 ∷ []) (1 ∷ []) (data_with [] (cut [] [] ∷ cut (0 ∷ 1 ∷ []) (pos 7 ∷ []) ∷ []) []) ≡ Ok (data_with [] (cut (0 ∷ 1 ∷ []) (pos 7 ∷ []) ∷ cut (0 ∷ 1 ∷ []) (pos 7 ∷ []) ∷ []) [])
unfolding copy_data
copy_row = refl

-- the sums of 1, 2 and 3 behind 10, which are 6 together
scan_row : scan_data 1 0 0 1 (data_with (pos 10 ∷ pos 0 ∷ []) (cut (0 ∷ 3 ∷ []) (pos 1 ∷ pos 2 ∷ pos 3 ∷ []) ∷ cut [] [] ∷ []) [])
    ≡ Ok (data_with (pos 10 ∷ pos 6 ∷ []) (cut (0 ∷ 3 ∷ []) (pos 1 ∷ pos 2 ∷ pos 3 ∷ []) ∷ cut (0 ∷ 3 ∷ []) (pos 11 ∷ pos 13 ∷ pos 16 ∷ []) ∷ []) [])
unfolding scan_data Rattle.hp_word.specs.ListRules.sums_after int_wrap
scan_row = refl

-- a piece without elements
scan_empty_row : scan_data 1 0 0 1 (data_with (pos 10 ∷ pos 5 ∷ []) (cut (0 ∷ 0 ∷ 3 ∷ []) [] ∷ cut [] [] ∷ []) [])
    ≡ Ok (data_with (pos 10 ∷ pos 0 ∷ []) (cut (0 ∷ 0 ∷ 3 ∷ []) [] ∷ cut (0 ∷ 0 ∷ 3 ∷ []) [] ∷ []) [])
unfolding scan_data Rattle.hp_word.specs.ListRules.sums_after int_wrap
scan_empty_row = refl

at_row : at_data 1 0 0 at (data_with (pos 2 ∷ pos 0 ∷ []) (cut (0 ∷ 2 ∷ []) (pos 7 ∷ pos 8 ∷ []) ∷ []) []) ≡ Ok (data_with (pos 2 ∷ pos 8 ∷ []) (cut (0 ∷ 2 ∷ []) (pos 7 ∷ pos 8 ∷ []) ∷ []) [])
unfolding at_data Rattle.hp_word.specs.ListRules.element_at
at_row = refl

index_row : at_data 1 0 0 at (data_with (pos 3 ∷ pos 0 ∷ []) (cut (0 ∷ 2 ∷ []) (pos 7 ∷ pos 8 ∷ []) ∷ []) []) ≡ Err (trap at Index)
unfolding at_data Rattle.hp_word.specs.ListRules.element_at
index_row = refl

-- the rank's own positions are 2 and 2, of four
pick_row : pick_data 2 0 1 at (data_with [] (cut (0 ∷ 2 ∷ []) (pos 7 ∷ pos 8 ∷ []) ∷ cut (0 ∷ 2 ∷ 4 ∷ []) (pos 2 ∷ pos 2 ∷ []) ∷ cut [] [] ∷ []) [])
    ≡ Ok (data_with [] (cut (0 ∷ 2 ∷ []) (pos 7 ∷ pos 8 ∷ []) ∷ cut (0 ∷ 2 ∷ 4 ∷ []) (pos 2 ∷ pos 2 ∷ []) ∷ cut (0 ∷ 2 ∷ 4 ∷ []) (pos 8 ∷ pos 8 ∷ []) ∷ []) [])
unfolding pick_data Rattle.hp_word.specs.ListRules.element_at Rattle.hp_word.specs.ListRules.elements_at Rattle.hp_word.specs.LoopRules.all_ok
pick_row = refl

-- ---- matrices

abbrev two_rows : List ℕ → List ℤ → Piece
two_rows cuts cells = record { rows = 2; cuts = cuts; cells = cells }

-- the rank's own two of four columns of the rows 1, 2, .. and 5, 6, ..
stack_row : stack_data 2 (0 ∷ 1 ∷ []) false at (data_with [] (cut (0 ∷ 2 ∷ 4 ∷ []) (pos 1 ∷ pos 2 ∷ []) ∷ cut (0 ∷ 2 ∷ 4 ∷ []) (pos 5 ∷ pos 6 ∷ []) ∷ cut [] [] ∷ []) [])
    ≡ Ok (data_with [] (cut (0 ∷ 2 ∷ 4 ∷ []) (pos 1 ∷ pos 2 ∷ []) ∷ cut (0 ∷ 2 ∷ 4 ∷ []) (pos 5 ∷ pos 6 ∷ []) ∷ two_rows (0 ∷ 2 ∷ 4 ∷ []) (pos 1 ∷ pos 5 ∷ pos 2 ∷ pos 6 ∷ []) ∷ []) [])
unfolding stack_data
stack_row = refl

end_to_end_row : stack_data 1 (0 ∷ 0 ∷ []) true at (data_with [] (cut (0 ∷ 2 ∷ []) (pos 1 ∷ pos 2 ∷ []) ∷ cut [] [] ∷ []) [])
    ≡ Ok (data_with [] (cut (0 ∷ 2 ∷ []) (pos 1 ∷ pos 2 ∷ []) ∷ cut (0 ∷ 4 ∷ []) (pos 1 ∷ pos 2 ∷ pos 1 ∷ pos 2 ∷ []) ∷ []) [])
unfolding stack_data
end_to_end_row = refl

-- the own part of the second of two rows that are cut in columns
row_row : row_data 1 0 0 at (data_with (pos 2 ∷ []) (two_rows (0 ∷ 2 ∷ 4 ∷ []) (pos 1 ∷ pos 5 ∷ pos 2 ∷ pos 6 ∷ []) ∷ cut [] [] ∷ []) [])
    ≡ Ok (data_with (pos 2 ∷ []) (two_rows (0 ∷ 2 ∷ 4 ∷ []) (pos 1 ∷ pos 5 ∷ pos 2 ∷ pos 6 ∷ []) ∷ cut (0 ∷ 2 ∷ 4 ∷ []) (pos 5 ∷ pos 6 ∷ []) ∷ []) [])
unfolding row_data Rattle.hp_word.specs.MatrixRules.matrix_row
row_row = refl

-- the rows 1, 2 and 3, 4 times the own column 5, 6 of two
product_row : product_data (Whole (2 ∷ [])) 0 1 false at (data_with [] (two_rows (0 ∷ 2 ∷ []) (pos 1 ∷ pos 3 ∷ pos 2 ∷ pos 4 ∷ []) ∷ two_rows (0 ∷ 1 ∷ 2 ∷ []) (pos 5 ∷ pos 6 ∷ []) ∷ cut [] [] ∷ []) [])
    ≡ Ok (data_with [] (two_rows (0 ∷ 2 ∷ []) (pos 1 ∷ pos 3 ∷ pos 2 ∷ pos 4 ∷ []) ∷ two_rows (0 ∷ 1 ∷ 2 ∷ []) (pos 5 ∷ pos 6 ∷ []) ∷ two_rows (0 ∷ 1 ∷ 2 ∷ []) (pos 17 ∷ pos 39 ∷ []) ∷ []) [])
unfolding product_data Rattle.hp_word.specs.MatrixRules.products_of Rattle.hp_word.specs.MatrixRules.rows_of int_wrap
product_row = refl

-- the rank's part of the products of all rows with all rows, by its one own column 1, 3
flip_row : product_data (Loose (0 ∷ [])) 0 0 true at (data_with [] (two_rows (0 ∷ 1 ∷ 2 ∷ []) (pos 1 ∷ pos 3 ∷ []) ∷ []) ([] ∷ []))
    ≡ Ok (data_with [] (two_rows (0 ∷ 1 ∷ 2 ∷ []) (pos 1 ∷ pos 3 ∷ []) ∷ []) ((pos 1 ∷ pos 3 ∷ pos 3 ∷ pos 9 ∷ []) ∷ []))
unfolding product_data Rattle.hp_word.specs.MatrixRules.products_of Rattle.hp_word.specs.MatrixRules.rows_of int_wrap
flip_row = refl

-- ---- rows of tables

-- of three own cells only that stays at which the mask is 1
select_row : select_data (Loose (0 ∷ [])) 0 (1 ∷ []) (data_with [] (cut (0 ∷ 3 ∷ 5 ∷ []) (pos 2 ∷ pos 0 ∷ pos 1 ∷ []) ∷ cut (0 ∷ 3 ∷ 5 ∷ []) (pos 7 ∷ pos 8 ∷ pos 9 ∷ []) ∷ []) ([] ∷ []))
    ≡ Ok (data_with [] (cut (0 ∷ 3 ∷ 5 ∷ []) (pos 2 ∷ pos 0 ∷ pos 1 ∷ []) ∷ cut (0 ∷ 3 ∷ 5 ∷ []) (pos 7 ∷ pos 8 ∷ pos 9 ∷ []) ∷ []) ((pos 9 ∷ []) ∷ []))
unfolding select_data Rattle.hp_word.specs.RowRules.filter_rows
select_row = refl

-- of a column that has no cell there a 0 stands
select_short_row : select_data (Loose (0 ∷ [])) 0 (1 ∷ []) (data_with [] (cut (0 ∷ 3 ∷ []) (pos 1 ∷ pos 0 ∷ pos 1 ∷ []) ∷ cut (0 ∷ 3 ∷ []) (pos 7 ∷ []) ∷ []) ([] ∷ []))
    ≡ Ok (data_with [] (cut (0 ∷ 3 ∷ []) (pos 1 ∷ pos 0 ∷ pos 1 ∷ []) ∷ cut (0 ∷ 3 ∷ []) (pos 7 ∷ []) ∷ []) ((pos 7 ∷ pos 0 ∷ []) ∷ []))
unfolding select_data Rattle.hp_word.specs.RowRules.filter_rows
select_short_row = refl

sort_row : sort_data (0 ∷ []) (0 ∷ []) 0 (data_with [] (cut (0 ∷ 3 ∷ []) (pos 3 ∷ pos 1 ∷ pos 2 ∷ []) ∷ []) []) ≡ Ok (data_with [] (cut (0 ∷ 3 ∷ []) (pos 1 ∷ pos 2 ∷ pos 3 ∷ []) ∷ []) [])
unfolding sort_data Rattle.hp_word.specs.RowRules.sorted_places Rattle.hp_word.specs.RowRules.sorted Rattle.hp_word.specs.RowRules.inserted Rattle.hp_word.specs.RowRules.row_order
sort_row = refl

-- The rank 1 of 2, with the rows 3 and 4 of the left side, joins them with rows that it has got: the keys 4 and 5 with
-- the keys 5 and 5, which stand at the places 2 and 9.
join_row : join_data (Block ∷ []) 1 (Loose (2 ∷ 3 ∷ [])) (Own (0 ∷ [])) 0 (Got (0 ∷ 1 ∷ 4 ∷ [])) 0 at
    (data_with [] (cut (0 ∷ 2 ∷ 4 ∷ []) (pos 4 ∷ pos 5 ∷ []) ∷ []) ((pos 2 ∷ pos 9 ∷ []) ∷ (pos 5 ∷ pos 5 ∷ []) ∷ [] ∷ [] ∷ (pos 70 ∷ pos 80 ∷ []) ∷ []))
    ≡ Ok (record {
      words = [];
      arrays = cut (0 ∷ 2 ∷ 4 ∷ []) (pos 4 ∷ pos 5 ∷ []) ∷ [];
      loose = (pos 2 ∷ pos 9 ∷ []) ∷ (pos 5 ∷ pos 5 ∷ []) ∷ (pos 5 ∷ pos 5 ∷ []) ∷ (pos 70 ∷ pos 80 ∷ []) ∷ (pos 70 ∷ pos 80 ∷ []) ∷ [];
      executed = 1;
      log = record { list = record { number = 1; places = row_place 4 2 ∷ row_place 4 9 ∷ [] } ∷ [] };
    })
unfolding join_data Rattle.hp_word.specs.RowRules.join_pairs Rattle.hp_word.specs.RowRules.pairs_from Rattle.hp_word.specs.RowRules.matches_of Rattle.hp_word.specs.RowRules.by_left Rattle.hp_word.specs.RowRules.by_right
join_row = refl

-- the own rows of a cut array stand behind those of the ranks below, those of a replicated one from 1 on
own_place_rows : ((rows_read (Block ∷ []) 1 (Own (0 ∷ [])) (data_with [] (cut (0 ∷ 2 ∷ 4 ∷ []) (pos 4 ∷ pos 5 ∷ []) ∷ []) [])).place 2 ≡ 4)
    × ((rows_read (Rep ∷ []) 1 (Own (0 ∷ [])) (data_with [] (cut (0 ∷ 2 ∷ []) (pos 4 ∷ pos 5 ∷ []) ∷ []) [])).place 2 ≡ 2)
own_place_rows = (refl, refl)

-- rows that came from two ranks: the key 5 at the places 1 and 4, the key 2 at 6; the sums of the second column
pub group_row : group_data [] 0 (Loose (3 ∷ 4 ∷ [])) (Got (0 ∷ 1 ∷ 2 ∷ [])) 0 (record { kind = measures.Sum; column = 1 } ∷ [])
    (data_with [] [] ((pos 1 ∷ pos 4 ∷ pos 6 ∷ []) ∷ (pos 5 ∷ pos 5 ∷ pos 2 ∷ []) ∷ (pos 10 ∷ pos 20 ∷ pos 30 ∷ []) ∷ [] ∷ [] ∷ []))
    ≡ Ok (record {
      words = [];
      arrays = [];
      loose = (pos 1 ∷ pos 4 ∷ pos 6 ∷ []) ∷ (pos 5 ∷ pos 5 ∷ pos 2 ∷ []) ∷ (pos 10 ∷ pos 20 ∷ pos 30 ∷ []) ∷ (pos 5 ∷ pos 2 ∷ []) ∷ (pos 30 ∷ pos 30 ∷ []) ∷ [];
      executed = 1;
      log = record { list = record { number = 1; places = row_place 1 0 ∷ row_place 6 0 ∷ [] } ∷ [] };
    })
unfolding group_data Rattle.hp_word.specs.RowRules.firsts_from Rattle.hp_word.specs.RowRules.by_left Rattle.hp_word.specs.RowRules.measures_by_left Rattle.hp_word.specs.RowRules.with_key Rattle.hp_word.specs.RowRules.filter_rows int_wrap
group_row = refl
