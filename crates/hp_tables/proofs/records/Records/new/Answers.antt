use Rattle.hp_tables.proofs.RecordLemmas.{all_of}
use Rattle.hp_tables.proofs.records.Records.new.Goals as goal

pub returns : goal.returns
returns c =
    let start = c.from_reader-reader.ensures.state in
    let text = c.from_reader-reader.ensures.source in
    all_of c.from_reader-reader.result _ start text
