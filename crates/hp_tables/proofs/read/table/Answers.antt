-- Each exit in the words of the definition.
use Rattle.std.proofs.Common.{ap, ◌∙◌}
use Rattle.std.proofs.lemmas.Result.{err_from_is_err_and}
use Rattle.csv.specs.Records.{fields_of}
use Rattle.hp_tables.specs.Contents.{table_of}
use Rattle.hp_tables.proofs.ContentLemmas.{even_cells, short_cells, table_defect, table_empty, table_missing, table_whole, wide_cells}
use Rattle.hp_tables.proofs.read.table.Goals as goal

pub returns-then-not-branch-clause-bad : goal.returns-then-not-branch-clause-bad
returns-then-not-branch-clause-bad c =
    let none = rw c.if-not-branch.true at c.in_ok-next.ensures in
    ap (table_of c.args.names.now) none ∙ table_empty c.args.names.now

pub returns-in_err-columns-clause-bad : goal.returns-in_err-columns-clause-bad
returns-in_err-columns-clause-bad c =
    let all = rw c.if-not-branch.false at c.in_ok-next.ensures in
    let told = table_missing c.args.names.now (fields_of c.next.new.row) c.next.new.self c.in_err-columns.field-0.0 c.in_err-columns.ensures.bad in
    let p = err_from_is_err_and c.from_residual-in_err-columns.result c.from_residual-in_err-columns.ensures.1 in
    rw (p.1, p.2, all) told

pub returns-in_err-columns-2-clause-bad : goal.returns-in_err-columns-2-clause-bad
returns-in_err-columns-2-clause-bad c =
    let all = rw c.if-not-branch.false at c.in_ok-next.ensures in
    let bad = rw c.len-width.ensures at c.in_err-columns-2.ensures.bad in
    let told = table_defect c.args.names.now (fields_of c.next.new.row) c.next.new.self c.in_ok-columns.columns.items c.in_err-columns-2.field-0.0 c.in_ok-columns.ensures.columns c.in_ok-columns.ensures.all bad in
    let p = err_from_is_err_and c.from_residual-in_err-columns-2.result c.from_residual-in_err-columns-2.ensures.1 in
    rw (p.1, p.2, all) told

pub invariant_of-result : goal.invariant_of-result
invariant_of-result c =
    let header = fields_of c.next.new.row in
    let columns = c.in_ok-columns.columns.items in
    let read = rw c.len-width.ensures at c.in_ok-columns-2.ensures in
    record {
      even = even_cells c.args.names.now header c.next.new.self columns c.in_ok-columns-2.columns c.in_ok-columns.ensures.columns read.cells;
      short = short_cells c.args.names.now header c.next.new.self columns c.in_ok-columns-2.columns c.in_ok-columns.ensures.columns read.good read.cells;
    }

pub returns-clause-table : goal.returns-clause-table
returns-clause-table c =
    let all = rw c.if-not-branch.false at c.in_ok-next.ensures in
    let read = rw c.len-width.ensures at c.in_ok-columns-2.ensures in
    ap (table_of c.args.names.now) all
    ∙ table_whole c.args.names.now (fields_of c.next.new.row) c.next.new.self c.in_ok-columns.columns.items c.in_ok-columns-2.columns c.in_ok-columns.ensures.columns c.in_ok-columns.ensures.all read.good read.cells

pub returns-clause-wide : goal.returns-clause-wide
returns-clause-wide c =
    wide_cells c.args.names.now (fields_of c.next.new.row) c.next.new.self c.in_ok-columns.columns.items c.in_ok-columns-2.columns c.in_ok-columns.ensures.columns c.in_ok-columns-2.ensures.cells
