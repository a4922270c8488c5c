-- A count has no argument.
use Rattle.std.proofs.Common.{refl}
use Rattle.hp_meaning.proofs.ArgumentLemmas.{count_none}
use Rattle.hp_meaning.proofs.args.measure_by.Goals as goal

pub returns-in-Count : goal.returns-in-Count
returns-in-Count c = (refl, count_none c.args.function c.args.args.now c.in-Count.is c.if-is_empty.ensures)
