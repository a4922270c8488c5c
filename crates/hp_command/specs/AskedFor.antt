-- What the code finds out of the words of the command line.
use Rattle.std.specs.Prelude.{◌≤◌}
use Rattle.hp_command.specs.declared.words.Asked.{Asked}
use Rattle.hp_command.specs.declared.words.Asked.TheVariants.{Check, Seq, Run}
use Rattle.hp_command.specs.Command as command
use Rattle.hp_command.specs.Command.{checks, evaluates, runs}

abbrev pub asked_seen : Asked → command.Asked
asked_seen Check = checks
asked_seen (Seq turns) = evaluates turns
asked_seen (Run ranks) = runs ranks

-- a run has 1 to 32 ranks
abbrev pub HasRanks : Asked → Type 0
HasRanks Check = Unit {0}
HasRanks (Seq turns) = Unit {0}
HasRanks (Run ranks) = (1 ≤ ranks) × (ranks ≤ 32)
