-- The table stands where the number of the call does.
use Rattle.std.proofs.Common.{◌∙◌, sym}
use Rattle.hp_meaning.proofs.ScopeLemmas.{table_found, table_missing, looked_up}
use Rattle.hp_meaning.proofs.calls.table_for.Goals as goal

pub returns-in-Some : goal.returns-in-Some
returns-in-Some c =
    looked_up c.get.result c.args.tables.now c.in-Some.place c.get.ensures.lookup.3
    ∙ sym (table_found c.args.reads.now c.args.id.0 c.args.tables.now c.in-Some.place c.in-Some.ensures)

pub returns-in-None : goal.returns-in-None
returns-in-None c = sym (table_missing c.args.reads.now c.args.id.0 c.args.tables.now c.in-None.ensures)
