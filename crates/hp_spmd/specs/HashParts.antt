-- What a Hash makes of its rows, row by row.
use Rattle.std.specs.Prelude.{ℕ, suc, ◌+◌, ◌==◌, min, if◌then◌else◌, ℤ, pos, List, [], ◌∷◌, map, flat_map}
use Rattle.std.specs.List.{range_with_len}
use Rattle.hp_cuts.specs.Targets.{target_of}
use Rattle.hp_word.specs.declared.table.Message.{Message}
use Rattle.hp_word.specs.LoopRules.{word_at}
use Rattle.hp_spmd.specs.Messages.{message_of}
use Rattle.hp_spmd.specs.Scalars.{greatest_count}

-- a row of these columns, by its place from 0, with its place in the whole before it
abbrev pub row_behind : (before : ℕ) → List (List ℤ) → ℕ → List ℤ
row_behind before columns i = pos (min (before + suc i) greatest_count) ∷ map (λ cells. word_at cells i) columns

-- of so many rows, those whose key has a rank as its target
abbrev pub rows_to : (ranks : ℕ) → (keys : List ℤ) → (row : ℕ → List ℤ) → (rank count : ℕ) → List ℤ
rows_to ranks keys row rank count = flat_map (λ i. if target_of ranks (word_at keys i) == rank then row i else []) (range_with_len 0 count)

-- the messages for all ranks with so many rows
abbrev pub messages_with : (ranks : ℕ) → (keys : List ℤ) → (row : ℕ → List ℤ) → (count : ℕ) → List Message
messages_with ranks keys row count = map (λ rank. message_of (rows_to ranks keys row rank count)) (range_with_len 0 ranks)
