-- The reader goes on, or its failure is one of those that `failure` takes.
use Rattle.std.proofs.Common.{sym, ◌∙◌}
use Rattle.csv.specs.Records.{fields_of}
use Rattle.hp_tables.proofs.RecordLemmas.{failing, reading_on}
use Rattle.hp_tables.proofs.records.Records.next.Goals as goal
use Rattle.hp_tables.proofs.records.Records.next.Goals.{in-Ok, in-Err}

pub returns : goal.returns
returns c =
    let old = c.self.inside.reader in
    elim c.match-read_byte_record.branch [
      | in-Ok w ↦
          let read = w.in-Ok.ensures in
          rw w.result-is (sym c.self.view_is ∙ reading_on old c.read_byte_record.new.self w.in-Ok.found (fields_of c.read_byte_record.new.row) c.self.invariant (λ f. cc (read.failed f)) (λ g. read.reads g.untrimmed g.ready))
      | in-Err w ↦ rw w.result-is tt
    ]

pub failure-requires : goal.failure-requires
failure-requires c =
    let read = c.in-Err.ensures in
    failing c.self.inside.reader c.read_byte_record.new.self _ c.read_byte_record.result _ c.self.invariant c.read_byte_record.ensures.failed c.in-Err.is (λ g. read.why g.ready)
