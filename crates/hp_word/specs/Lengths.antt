-- Lengths of arrays.
use Rattle.std.specs.Prelude.{ℤ, ℕ, pos, negsuc, nat_le, if◌then◌else◌, Result, Ok, Err}
use Rattle.hp_word.specs.declared.place.Place.{Place}
use Rattle.hp_word.specs.declared.place.Trap.{Trap}
use Rattle.hp_word.specs.declared.place.TrapKind.{TrapKind}
use Rattle.hp_word.specs.declared.place.TrapKind.TheVariants.{BadLength, TooLong}

-- the most elements that an array has
abbrev pub longest : ℕ
longest = 1048576

abbrev pub trap : Place → TrapKind → Trap
trap at kind = record { at = at; kind = kind }

-- the length that a word asks for, at the place of the construct that makes the array
abbrev pub length_of : Place → ℤ → Result ℕ Trap
length_of at (negsuc n) = Err (trap at BadLength)
length_of at (pos n) = if nat_le n longest then Ok n else Err (trap at TooLong)
