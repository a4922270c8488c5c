-- The bytes that were read of a call's file stand for it.
use Rattle.std.proofs.Common.{◌≡◌, Err, sym, subst}
use Rattle.hp_command.specs.Session.{RefusesTable}
use Rattle.hp_command.specs.TableTexts.{StandsFor}
use Rattle.hp_command.specs.TablesRead.{MayGive}
use Rattle.hp_command.proofs.TableCuts.{front_found, gives_table, gives_fault, gives_or_table, gives_or_fault}
use Rattle.hp_command.proofs.TableLemmas.{thrown}
use Rattle.hp_command.proofs.tables.table_of.Goals as goal

pub returns-in-Some-clause-table : goal.returns-in-Some-clause-table
returns-in-Some-clause-table g c =
    let holds = g.F.Files.holds c.args.files.now in
    let stands = front_found holds c.args.texts.now c.as_slice.result.now c.args.read.now.file.bytes c.as_slice-in-Some.result.now c.in-Some.text.now c.requires c.in-Some.ensures c.as_slice.ensures c.as_slice-in-Some.ensures in
    gives_or_table holds c.args.read.now c.as_slice-in-Some.result.now stands c.columns_in.result c.columns_in.ensures.table

pub returns-in-Some-clause-bad : goal.returns-in-Some-clause-bad
returns-in-Some-clause-bad g c =
    let holds = g.F.Files.holds c.args.files.now in
    let stands = front_found holds c.args.texts.now c.as_slice.result.now c.args.read.now.file.bytes c.as_slice-in-Some.result.now c.in-Some.text.now c.requires c.in-Some.ensures c.as_slice.ensures c.as_slice-in-Some.ensures in
    gives_or_fault holds c.args.read.now c.as_slice-in-Some.result.now stands c.columns_in.result c.columns_in.ensures.bad

pub returns-in_err-table-clause-bad : goal.returns-in_err-table-clause-bad
returns-in_err-table-clause-bad g c =
    let holds = g.F.Files.holds c.args.files.now in
    let stands = subst (λ front. StandsFor holds c.args.read.now.file.bytes front) (sym c.as_slice-2.ensures) c.in_ok-text.ensures.text in
    thrown (RefusesTable (λ name bad. (name ≡ c.args.read.now.file) × MayGive holds c.args.read.now (Err bad))) c.in_err-table.field-0.0 c.from_residual-in_err-table.result c.from_residual-in_err-table.ensures
    (gives_fault holds c.args.read.now c.as_slice-2.result.now stands c.in_err-table.field-0.0 c.in_err-table.ensures.bad)

pub returns-clause-table : goal.returns-clause-table
returns-clause-table g c =
    let holds = g.F.Files.holds c.args.files.now in
    let stands = subst (λ front. StandsFor holds c.args.read.now.file.bytes front) (sym c.as_slice-2.ensures) c.in_ok-text.ensures.text in
    gives_table holds c.args.read.now c.as_slice-2.result.now stands c.in_ok-table.table c.in_ok-table.ensures.table
