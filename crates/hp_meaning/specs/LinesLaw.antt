-- The statements that are built have the meaning of the script: what it is that two ends have in common.
use Rattle.std.specs.Prelude.{◌≡◌, IsSomeAnd, Option}
use Rattle.hp_meaning.specs.Meaning.{Ending}
use Rattle.hp_meaning.specs.Run.{End}

-- an end by the built statements' meaning is that of the whole meaning: status, output, ticks, and which orders are bad
abbrev pub EndsAlike : Ending → Option End → Type 0
EndsAlike ending end = IsSomeAnd end (λ e. (e.status ≡ ending.status) × (e.at.out ≡ ending.at.out) × (e.at.seen.ticks ≡ ending.at.ticks) × (e.at.seen.met.bad ≡ ending.bad))
