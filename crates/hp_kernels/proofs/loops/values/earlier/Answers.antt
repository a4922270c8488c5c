-- An earlier let is as long as all are.
use Rattle.std.proofs.Common.{subst, sym, arith}
use Rattle.hp_kernels.specs.LoopColumns.{IsLong}
use Rattle.hp_kernels.proofs.ValueLemmas.{let_long}
use Rattle.hp_kernels.proofs.loops.values.earlier.Goals as goal

pub returns-then-k-kept-clause-long : goal.returns-then-k-kept-clause-long
returns-then-k-kept-clause-long c =
    λ places are. c.look.ensures.long places (subst (IsLong places) (sym c.index-kept-k.is) (let_long c.args.kept.now c.args.k places c.index-kept-k.result (omega (arith, c.if-k-kept.true)) are))
