-- Why a run of statements ends before their end.
use Rattle.hp_meaning.specs.declared.seen.Stop.{Stop}
use Rattle.hp_meaning.specs.declared.seen.Stop.TheVariants as stop
use Rattle.hp_meaning.specs.declared.stmts.Halt.{Halt}
use Rattle.hp_meaning.specs.declared.stmts.Halt.TheVariants as halt

-- an expression of it has no value
abbrev pub halt_of : Stop → Halt
halt_of (stop.Trap t) = halt.Trap t
halt_of stop.Wrong = halt.Wrong
halt_of stop.NoMemory = halt.NoMemory
