-- The names so far.
use Rattle.std.proofs.Common.{map}
use Rattle.hp_meaning.proofs.GatheredLemmas.{HasNames}
use Rattle.hp_meaning.proofs.args.names_in.Given as goal

abbrev pub invariant-loop-arg : goal.invariant-loop-arg
invariant-loop-arg l = HasNames l.args (map (λ name. name.now.bytes) l.names.items) l.arg-index
