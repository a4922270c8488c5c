-- The columns behind the text are those of the table.
use Rattle.std.proofs.Common.{Bor, map}
use Rattle.hp_word.specs.declared.name.Name.{Name}
use Rattle.hp_script.specs.Mirror.{tree_of, args_of}
use Rattle.hp_meaning.specs.HeldValues.{supply_in}
use Rattle.hp_meaning.proofs.ArgumentLemmas.{table_read}
use Rattle.hp_meaning.proofs.calls.table_value.Goals as goal

pub returns : goal.returns
returns c =
    let bytes = λ (name : Bor Name). name.now.bytes in
    let told = rw (c.as_slice.ensures.value, c.table_for-table.ensures) at c.tabled.ensures in
    rw (table_read (supply_in c.args.supply) c.args.id.0 (args_of c.args.args.now) (tree_of c.in_ok-first.first.now) c.in_ok-first.rest.now (map bytes c.in_ok-names.names.items)
    c.in_ok-first.ensures c.if-is_empty.ensures c.if-not-is_text.ensures c.in_ok-names.ensures) told
