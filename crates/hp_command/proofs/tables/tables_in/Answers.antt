-- Each call adds its table, or ends with its answer.
use Rattle.std.proofs.Common.{◌≡◌, ◌+◌, ℕ, drop, sym, subst, ◌∙◌}
use Rattle.hp_command.specs.Session.{FaultOf, RefusesTable}
use Rattle.hp_command.specs.TablesRead.{MayGive, IsFirstBad, IsReached}
use Rattle.hp_command.proofs.TableCuts.{moved_texts}
use Rattle.hp_command.proofs.TableLemmas.{Progress, goes_on, all_tables, all_serve, ends_bad, ends_fault, at_read, at_end, moved_gives, moved_refuses, thrown, thrown_match}
use Rattle.hp_command.proofs.tables.tables_in.Goals as goal

pub returns-in_err-table-clause-bad : goal.returns-in_err-table-clause-bad
returns-in_err-table-clause-bad g c =
    let holds = g.F.Files.holds c.args.files.now in
    let now = g.F.Files.holds c.loop-read.files in
    let reads = c.args.reads.now in
    let rest = drop (c.loop-read.read-index + 1) reads in
    let before = at_read holds reads c.loop-read.read-index c.read-item.result c.loop-read.list c.loop-read-test.true c.read-item.is c.loop-read.invariant.progress in
    let refuses = moved_refuses now holds c.loop-read.invariant.same c.read-item.result c.in_err-table.field-0.0 c.in_err-table.ensures.bad in
    thrown (RefusesTable (IsFirstBad (MayGive holds) reads)) c.in_err-table.field-0.0 c.from_residual.result c.from_residual.ensures
    (ends_bad holds reads rest c.loop-read.list c.read-item.result before c.in_err-table.field-0.0 refuses)

pub returns-in_err-table-clause-fault : goal.returns-in_err-table-clause-fault
returns-in_err-table-clause-fault g c =
    let holds = g.F.Files.holds c.args.files.now in
    let reads = c.args.reads.now in
    let rest = drop (c.loop-read.read-index + 1) reads in
    let faults = g.F.Files.faults c.args.files.now in
    let after = g.F.Files.faults c.table_of.new.files in
    let failed = g.F.Files.failed c.table_of.new.files in
    let before = at_read holds reads c.loop-read.read-index c.read-item.result c.loop-read.list c.loop-read-test.true c.read-item.is c.loop-read.invariant.progress in
    let told = subst (λ (n : ℕ). FaultOf (λ name. name ≡ c.read-item.result.file.bytes) n after failed c.in_err-table.field-0.0) c.loop-read.invariant.faults c.in_err-table.ensures.fault in
    thrown_match (λ _. after ≡ faults) (FaultOf (IsReached (MayGive holds) reads) faults after failed) c.in_err-table.field-0.0 c.from_residual.result c.from_residual.ensures
    (ends_fault holds reads rest c.loop-read.list c.read-item.result before faults after failed c.in_err-table.field-0.0 told)

pub loop-read-preserved : goal.loop-read-preserved
loop-read-preserved g c =
    let holds = g.F.Files.holds c.args.files.now in
    let now = g.F.Files.holds c.loop-read.files in
    let same = c.loop-read.invariant.same in
    let reads = c.args.reads.now in
    let read = c.read-item.result in
    let table = c.in_ok-table.table in
    let rest = drop (c.loop-read.read-index + 1) reads in
    let before = at_read holds reads c.loop-read.read-index read c.loop-read.list c.loop-read-test.true c.read-item.is c.loop-read.invariant.progress in
    let may = moved_gives now holds same read _ c.in_ok-table.ensures.table in
    record {
      progress = subst (Progress holds reads rest) (sym c.in_ok-added.ensures.items) (goes_on holds reads rest c.loop-read.list read table before may c.in_ok-table.ensures.wide);
      texts = moved_texts now holds same c.table_of.new.texts c.in_ok-table.ensures.texts;
      same = λ other. c.table_of.ensures.same other ∙ same other;
      faults = c.in_ok-table.ensures.fault ∙ c.loop-read.invariant.faults;
    }

pub returns-clause-tables : goal.returns-clause-tables
returns-clause-tables g c =
    let holds = g.F.Files.holds c.args.files.now in
    all_tables holds c.args.reads.now c.loop-read.list (at_end holds c.args.reads.now c.loop-read.read-index c.loop-read.list c.loop-read-test.false c.loop-read.invariant.progress)

pub returns-clause-serve : goal.returns-clause-serve
returns-clause-serve g c =
    let holds = g.F.Files.holds c.args.files.now in
    all_serve holds c.args.reads.now c.loop-read.list (at_end holds c.args.reads.now c.loop-read.read-index c.loop-read.list c.loop-read-test.false c.loop-read.invariant.progress)
