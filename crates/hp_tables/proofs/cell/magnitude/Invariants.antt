use Rattle.std.proofs.Common.{◌≡◌, ◌<◌, ◌^◌, drop}
use Rattle.hp_tables.specs.Running.{numeral_within}
use Rattle.hp_tables.proofs.CellLemmas.{numeral_from}
use Rattle.hp_tables.proofs.cell.magnitude.Given as goal

abbrev pub invariant-loop-digit : goal.invariant-loop-digit
invariant-loop-digit l = (l.value < 2 ^ 64) × (numeral_from l.value (drop l.digit-index l.digits) ≡ numeral_within l.digits)
