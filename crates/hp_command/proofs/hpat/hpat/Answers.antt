-- What is so of the answer is so of the one that is told, and which answer has to come follows of that.
use Rattle.std.proofs.Common.{map}
use Rattle.std.specs.String.{string_bytes}
use Rattle.hp_command.specs.Command.{asked_by, file_of}
use Rattle.hp_command.proofs.Exactly.{usage_exactly, never_exactly, refused_exactly, table_exactly, completely}
use Rattle.hp_command.proofs.Telling.{answered_told, did_told}
use Rattle.hp_command.proofs.hpat.hpat.Goals as goal

pub returns-clause-answered : goal.returns-clause-answered
returns-clause-answered g c =
    rw (← c.deref.ensures.value)
    (answered_told _ _ _ _ _ _ c.attempt-answer.result.0 c.tell-answer.result c.tell-answer.ensures.answer c.attempt-answer.ensures.answered)

pub returns-clause-did : goal.returns-clause-did
returns-clause-did g c =
    let words = map string_bytes c.deref.result.now in
    rw (← c.deref.ensures.value)
    (did_told (g.O.Sink.written c.args.out.now) (g.O.Sink.written c.attempt-answer.new.out) (g.O.Sink.faults c.args.out.now) (g.O.Sink.faults c.attempt-answer.new.out) (g.F.Files.holds c.args.files.now) (file_of words) (asked_by words) c.attempt-answer.result.1 c.attempt-answer.result.0 c.tell-answer.result c.tell-answer.ensures.answer c.attempt-answer.ensures.did)

pub returns-clause-usage : goal.returns-clause-usage
returns-clause-usage g c =
    let words = map string_bytes c.deref.result.now in
    let did = did_told (g.O.Sink.written c.args.out.now) (g.O.Sink.written c.attempt-answer.new.out) (g.O.Sink.faults c.args.out.now) (g.O.Sink.faults c.attempt-answer.new.out) (g.F.Files.holds c.args.files.now) (file_of words) (asked_by words) c.attempt-answer.result.1 c.attempt-answer.result.0 c.tell-answer.result c.tell-answer.ensures.answer c.attempt-answer.ensures.did in
    rw (← c.deref.ensures.value) (usage_exactly (g.F.Files.holds c.args.files.now) (file_of words) (g.O.Sink.written c.args.out.now) (g.O.Sink.written c.attempt-answer.new.out) (g.O.Sink.faults c.args.out.now) (g.O.Sink.faults c.attempt-answer.new.out) (asked_by words) c.attempt-answer.result.1 c.tell-answer.result did)

pub returns-clause-never : goal.returns-clause-never
returns-clause-never g c =
    let words = map string_bytes c.deref.result.now in
    let did = did_told (g.O.Sink.written c.args.out.now) (g.O.Sink.written c.attempt-answer.new.out) (g.O.Sink.faults c.args.out.now) (g.O.Sink.faults c.attempt-answer.new.out) (g.F.Files.holds c.args.files.now) (file_of words) (asked_by words) c.attempt-answer.result.1 c.attempt-answer.result.0 c.tell-answer.result c.tell-answer.ensures.answer c.attempt-answer.ensures.did in
    rw (← c.deref.ensures.value) (λ ranks is spent. never_exactly (g.F.Files.holds c.args.files.now) (file_of words) (g.O.Sink.written c.args.out.now) (g.O.Sink.written c.attempt-answer.new.out) (g.O.Sink.faults c.args.out.now) (g.O.Sink.faults c.attempt-answer.new.out) (asked_by words) c.attempt-answer.result.1 c.tell-answer.result ranks did is spent)

pub returns-clause-exact : goal.returns-clause-exact
returns-clause-exact g c =
    let words = map string_bytes c.deref.result.now in
    let answered = answered_told _ _ _ _ _ _ c.attempt-answer.result.0 c.tell-answer.result c.tell-answer.ensures.answer c.attempt-answer.ensures.answered in
    let did = did_told (g.O.Sink.written c.args.out.now) (g.O.Sink.written c.attempt-answer.new.out) (g.O.Sink.faults c.args.out.now) (g.O.Sink.faults c.attempt-answer.new.out) (g.F.Files.holds c.args.files.now) (file_of words) (asked_by words) c.attempt-answer.result.1 c.attempt-answer.result.0 c.tell-answer.result c.tell-answer.ensures.answer c.attempt-answer.ensures.did in
    rw (← c.deref.ensures.value)
    (λ b at rule told refuses.
    refused_exactly (g.F.Files.holds c.args.files.now) (file_of words) (g.O.Sink.written c.args.out.now) (g.O.Sink.written c.attempt-answer.new.out) (g.O.Sink.faults c.args.out.now) (g.O.Sink.faults c.attempt-answer.new.out) b told (c.reading_laws.ensures.one_of_two b) (asked_by words) at rule refuses c.tell-answer.result c.attempt-answer.result.1 (answered.refused b told) did)

pub returns-clause-table : goal.returns-clause-table
returns-clause-table g c =
    let words = map string_bytes c.deref.result.now in
    let answered = answered_told _ _ _ _ _ _ c.attempt-answer.result.0 c.tell-answer.result c.tell-answer.ensures.answer c.attempt-answer.ensures.answered in
    let did = did_told (g.O.Sink.written c.args.out.now) (g.O.Sink.written c.attempt-answer.new.out) (g.O.Sink.faults c.args.out.now) (g.O.Sink.faults c.attempt-answer.new.out) (g.F.Files.holds c.args.files.now) (file_of words) (asked_by words) c.attempt-answer.result.1 c.attempt-answer.result.0 c.tell-answer.result c.tell-answer.ensures.answer c.attempt-answer.ensures.did in
    rw (← c.deref.ensures.value)
    (λ b typed name bad reads told fits first.
    table_exactly (g.F.Files.holds c.args.files.now) (file_of words) (g.O.Sink.written c.args.out.now) (g.O.Sink.written c.attempt-answer.new.out) (g.O.Sink.faults c.args.out.now) (g.O.Sink.faults c.attempt-answer.new.out) b told (c.reading_laws.ensures.one_of_two b) typed fits (asked_by words) reads name bad first c.tell-answer.result c.attempt-answer.result.1 (answered.refused b told) did)

pub returns-clause-complete : goal.returns-clause-complete
returns-clause-complete g c =
    let words = map string_bytes c.deref.result.now in
    let answered = answered_told _ _ _ _ _ _ c.attempt-answer.result.0 c.tell-answer.result c.tell-answer.ensures.answer c.attempt-answer.ensures.answered in
    let did = did_told (g.O.Sink.written c.args.out.now) (g.O.Sink.written c.attempt-answer.new.out) (g.O.Sink.faults c.args.out.now) (g.O.Sink.faults c.attempt-answer.new.out) (g.F.Files.holds c.args.files.now) (file_of words) (asked_by words) c.attempt-answer.result.1 c.attempt-answer.result.0 c.tell-answer.result c.tell-answer.ensures.answer c.attempt-answer.ensures.did in
    rw (← c.deref.ensures.value)
    (λ b typed told fits read put.
    completely (g.F.Files.holds c.args.files.now) (file_of words) (g.O.Sink.written c.args.out.now) (g.O.Sink.written c.attempt-answer.new.out) (g.O.Sink.faults c.args.out.now) (g.O.Sink.faults c.attempt-answer.new.out) b told (c.reading_laws.ensures.one_of_two b) typed fits (g.F.Files.faults c.args.files.now) (g.F.Files.faults c.attempt-answer.new.files) (g.F.Files.failed c.attempt-answer.new.files) read put (asked_by words) c.tell-answer.result c.attempt-answer.result.1 answered did)
