-- What rank 0 writes of the messages that it took, one from each rank in order.
use Rattle.std.specs.Prelude.{◌≡◌, refl, ℕ, ◌*◌, ◌/◌, max, ℤ, pos, Bool, false, List, [], ◌∷◌, codes, length, map, flat_map, take, drop}
use Rattle.std.specs.List.{range_with_len}
use Rattle.std.specs.Fmt.{digits}
use Rattle.hp_word.specs.declared.name.Name.{Name}
use Rattle.hp_word.specs.declared.table.Message.{Message}
use Rattle.hp_word.specs.Text.{csv, joined_by, list_line, row_line}
use Rattle.hp_spmd.specs.Messages.{message_of}
use Rattle.hp_spmd.specs.Unpacks.{joined_words}

-- the line of an array, of which each message has a part
unfoldable pub list_written : (truth : Bool) → List Message → List ℕ
list_written truth inbox = list_line truth (joined_words inbox)

-- the j-th of so many columns of one length, which stand behind one another
abbrev pub column_in : (width j : ℕ) → List ℤ → List ℤ
column_in width j words = let rows = length words / max width 1 in take rows (drop (j * rows) words)

-- a table of as many columns as names, of which each message has parts of one length
unfoldable pub table_written : List Name → List Message → List ℕ
table_written names inbox =
    csv (map (λ name. name.bytes) names) (map (λ j. flat_map (λ m. column_in (length names) j m.words) inbox) (range_with_len 0 (length names)))

-- ---- worked rows

list_row : list_written false (message_of (pos 1 ∷ []) ∷ message_of (pos 2 ∷ pos 3 ∷ []) ∷ []) ≡ codes "[1, 2, 3]\n"
unfolding list_written list_line joined_by digits
list_row = refl

-- the first of two ranks has two rows, the second one
table_row : table_written (record { bytes = codes "a" } ∷ record { bytes = codes "b" } ∷ []) (message_of (pos 1 ∷ pos 2 ∷ pos 10 ∷ pos 20 ∷ []) ∷ message_of (pos 3 ∷ pos 30 ∷ []) ∷ []) ≡ codes "a,b\n1,10\n2,20\n3,30\n"
unfolding table_written csv row_line joined_by digits
table_row = refl
