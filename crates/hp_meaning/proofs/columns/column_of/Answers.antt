-- What is found by its name.
use Rattle.std.proofs.Common.{refl}
use Rattle.hp_meaning.proofs.ScopeLemmas.{column_found, column_missing}
use Rattle.hp_meaning.proofs.columns.column_of.Goals as goal

pub returns-in-Some : goal.returns-in-Some
returns-in-Some c = column_found c.args.name.now c.args.columns.now c.in-Some.column.now c.in-Some.ensures

pub returns-in-None : goal.returns-in-None
returns-in-None c = (refl, column_missing c.args.name.now c.args.columns.now c.in-None.ensures)
