use Rattle.std.proofs.Common.{◌≡◌, ◌++◌, replicate}
use Rattle.hp_lattice.specs.declared.dist.Dist.TheVariants.{Var}
use Rattle.hp_lowering.proofs.lower.add_spares.Given as goal

abbrev pub invariant-loop : goal.invariant-loop
invariant-loop l = l.list ≡ l.initial.list ++ replicate l.counter Var
