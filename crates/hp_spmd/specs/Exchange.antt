-- What a pack, an unpack and a write do, by kind.
use Rattle.std.specs.Prelude.{ℕ, ◌-◌, ℤ, List, ◌∷◌, map, replicate, Result, Ok}
use Rattle.hp_word.specs.declared.place.Trap.{Trap}
use Rattle.hp_word.specs.declared.table.Message.{Message}
use Rattle.hp_word.specs.LoopRules.{word_at}
use Rattle.hp_word.specs.Text.{printed}
use Rattle.hp_lattice.specs.declared.dist.Dist.{Dist}
use Rattle.hp_spmd.specs.declared.instr.Output.{Output}
use Rattle.hp_spmd.specs.declared.instr.Output.TheVariants as output
use Rattle.hp_spmd.specs.declared.instr.Packing.{Packing}
use Rattle.hp_spmd.specs.declared.instr.Packing.TheVariants as packs
use Rattle.hp_spmd.specs.declared.instr.Unpacking.{Unpacking}
use Rattle.hp_spmd.specs.declared.instr.Unpacking.TheVariants as unpacks
use Rattle.hp_spmd.specs.Messages.{message_of, of_first, with_words_folded}
use Rattle.hp_spmd.specs.Outputs.{list_written, table_written}
use Rattle.hp_spmd.specs.Packs.{cells_for_root, hash_packed, move_packed, partial_packed, parts_for_root, sizes_packed}
use Rattle.hp_spmd.specs.Store.{Data, dist_at, message_at, no_message, piece_at}
use Rattle.hp_spmd.specs.Unpacks.{below_data, glued_data, got_data, halo_data, into_data, moved_data, seal_data, total_data}

-- a rank's part of an output, for rank 0: of a word, and of an array that all ranks have, rank 0's alone
abbrev pub part_of : List Dist → Output → (number : ℕ) → Data → List ℤ
part_of dists (output.Word w truth) number d = of_first number (word_at d.words w)
part_of dists (output.List array truth) number d = cells_for_root (dist_at dists array) number (piece_at d.arrays array).cells
part_of dists (output.Table arrays names) number d = parts_for_root dists arrays number d

-- a rank's messages, one for each rank
unfoldable pub packed : List Dist → Packing → (number ranks : ℕ) → Data → List Message
packed dists (packs.Words ws) number ranks d = replicate ranks (message_of (map (word_at d.words) ws))
packed dists (packs.Sizes loose) number ranks d = sizes_packed loose ranks d
packed dists (packs.Partial loose) number ranks d = partial_packed loose ranks d
packed dists (packs.Move arrays need) number ranks d = move_packed dists arrays need number ranks d
packed dists (packs.Hash arrays key) number ranks d = hash_packed dists arrays key number ranks d
packed dists (packs.Gather output) number ranks d = message_of (part_of dists output number d) ∷ replicate (ranks - 1) no_message

-- what a rank makes of its messages
unfoldable pub unpacked : List Dist → Unpacking → (number ranks : ℕ) → List Message → Data → Result Data Trap
unpacked dists (unpacks.Folds list) number ranks inbox d = Ok (record d { words = with_words_folded 0 inbox list d.words })
unpacked dists (unpacks.Below to) number ranks inbox d = below_data to number inbox d
unpacked dists (unpacks.Seal to loose at) number ranks inbox d = seal_data to loose at inbox d
unpacked dists (unpacks.Total to left) number ranks inbox d = total_data to left inbox d
unpacked dists (unpacks.Moved to from need) number ranks inbox d = moved_data dists to from need number ranks inbox d
unpacked dists (unpacks.Halo to array reach) number ranks inbox d = halo_data to array reach number ranks inbox d
unpacked dists (unpacks.Into to) number ranks inbox d = into_data to inbox d
unpacked dists (unpacks.Glued to loose left right) number ranks inbox d = glued_data to loose left right ranks inbox d
unpacked dists (unpacks.Got columns) number ranks inbox d = got_data columns inbox d

-- what rank 0 writes of the messages that it took
unfoldable pub written : Output → List Message → List ℕ
written (output.Word w truth) inbox = printed truth (word_at (message_at inbox 0).words 0)
written (output.List array truth) inbox = list_written truth inbox
written (output.Table arrays names) inbox = table_written names inbox
