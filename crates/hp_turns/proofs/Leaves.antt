-- An Unpack leaves the log, and what the rank has executed.
use Rattle.std.proofs.Common.{◌≡◌, refl, ℕ, Bool, true, false, if◌then◌else◌, List, Result, Ok, Err}
use Rattle.std.specs.Prelude.{nat_le, sum}
use Rattle.hp_word.specs.declared.place.Trap.{Trap}
use Rattle.hp_word.specs.declared.place.TrapKind.TheVariants.{TooLong}
use Rattle.hp_word.specs.declared.table.Message.{Message}
use Rattle.hp_word.specs.Lengths.{longest, trap}
use Rattle.hp_spmd.specs.declared.instr.Unpacking.{Unpacking}
use Rattle.hp_spmd.specs.declared.instr.Unpacking.TheVariants.{Seal}
use Rattle.hp_spmd.specs.Exchange.{unpacked}
use Rattle.hp_spmd.specs.Store.{Data}
use Rattle.hp_spmd.specs.Unpacks.{below_data, glued_data, got_data, halo_data, into_data, moved_data, seal_data, sizes_of, total_data}

abbrev pub LeavesLog : Data → Result Data Trap → Type 0
LeavesLog d (Ok e) = (e.log ≡ d.log) × (e.executed ≡ d.executed)
LeavesLog d (Err t) = Unit {0}

leaves_if : (d e : Data) (b : Bool) (t : Trap) → (e.log ≡ d.log) × (e.executed ≡ d.executed) → LeavesLog d (if b then Ok e else Err t)
leaves_if d e true t h = h
leaves_if d e false t h = tt

pub unpacked_leaves : (dists : List _) (what : Unpacking) (number ranks : ℕ) (inbox : List Message) (d : Data) → LeavesLog d (unpacked dists what number ranks inbox d)
unfolding unpacked below_data into_data seal_data total_data moved_data halo_data glued_data got_data
unpacked_leaves dists (Seal to loose at) number ranks inbox d = leaves_if d _ (nat_le (sum (sizes_of inbox)) longest) (trap at TooLong) (refl, refl)
unpacked_leaves dists _ number ranks inbox d = (refl, refl)
