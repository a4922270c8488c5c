-- The measures so far.
use Rattle.std.proofs.Common.{map}
use Rattle.hp_meaning.specs.HeldValues.{measured_in}
use Rattle.hp_meaning.proofs.GatheredLemmas.{HasMeasures}
use Rattle.hp_meaning.proofs.args.measures_in.Given as goal

abbrev pub invariant-loop-arg : goal.invariant-loop-arg
invariant-loop-arg l = HasMeasures l.args (map measured_in l.measures.items) l.arg-index
