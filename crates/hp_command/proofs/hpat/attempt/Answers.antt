-- What a command did was asked for by the words.
use Rattle.std.proofs.Common.{rules, ◌≡◌, Some, None, map, refl}
use Rattle.std.specs.String.{string_bytes}
use Rattle.hp_command.specs.Command.{asked_by, file_of, checks, evaluates, runs}
use Rattle.hp_command.proofs.Telling.{answered_by, did_by}
use Rattle.hp_command.proofs.hpat.attempt.Goals as goal

pub returns-in-Check-clause-answered : goal.returns-in-Check-clause-answered
returns-in-Check-clause-answered g c =
    let is : asked_by (map string_bytes c.args.words.now) ≡ Some checks = search rules in
    let named : file_of (map string_bytes c.args.words.now) ≡ c.in-Ok.name.bytes = search rules in
    answered_by _ _ _ _ _ _ _ _ _ named is c.check_file.ensures.answered

pub returns-in-Check-clause-did : goal.returns-in-Check-clause-did
returns-in-Check-clause-did g c =
    let is : asked_by (map string_bytes c.args.words.now) ≡ Some checks = search rules in
    let named : file_of (map string_bytes c.args.words.now) ≡ c.in-Ok.name.bytes = search rules in
    did_by (g.F.Files.holds c.args.files.now) (file_of (map string_bytes c.args.words.now)) c.in-Ok.name.bytes (asked_by (map string_bytes c.args.words.now)) (Some checks)
    (g.O.Sink.written c.args.out.now) (g.O.Sink.written c.check_file.new.out) (g.O.Sink.faults c.args.out.now) (g.O.Sink.faults c.check_file.new.out) c.check_file.result None named is (refl, c.check_file.ensures.did)

pub returns-in-Seq-clause-answered : goal.returns-in-Seq-clause-answered
returns-in-Seq-clause-answered g c =
    let is : asked_by (map string_bytes c.args.words.now) ≡ Some (evaluates c.in-Seq.turns) = search rules in
    let named : file_of (map string_bytes c.args.words.now) ≡ c.in-Ok.name.bytes = search rules in
    answered_by _ _ _ _ _ _ _ _ _ named is c.evaluate_file.ensures.answered

pub returns-in-Seq-clause-did : goal.returns-in-Seq-clause-did
returns-in-Seq-clause-did g c =
    let is : asked_by (map string_bytes c.args.words.now) ≡ Some (evaluates c.in-Seq.turns) = search rules in
    let named : file_of (map string_bytes c.args.words.now) ≡ c.in-Ok.name.bytes = search rules in
    did_by (g.F.Files.holds c.args.files.now) (file_of (map string_bytes c.args.words.now)) c.in-Ok.name.bytes (asked_by (map string_bytes c.args.words.now)) (Some (evaluates c.in-Seq.turns))
    (g.O.Sink.written c.args.out.now) (g.O.Sink.written c.evaluate_file.new.out) (g.O.Sink.faults c.args.out.now) (g.O.Sink.faults c.evaluate_file.new.out) c.evaluate_file.result None named is (refl, c.evaluate_file.ensures.did)

pub returns-in-Run-clause-answered : goal.returns-in-Run-clause-answered
returns-in-Run-clause-answered g c =
    let is : asked_by (map string_bytes c.args.words.now) ≡ Some (runs c.in-Run.ranks) = search rules in
    let named : file_of (map string_bytes c.args.words.now) ≡ c.in-Ok.name.bytes = search rules in
    answered_by _ _ _ _ _ _ _ _ _ named is c.run_file.ensures.answered

pub returns-in-Run-clause-did : goal.returns-in-Run-clause-did
returns-in-Run-clause-did g c =
    let is : asked_by (map string_bytes c.args.words.now) ≡ Some (runs c.in-Run.ranks) = search rules in
    let named : file_of (map string_bytes c.args.words.now) ≡ c.in-Ok.name.bytes = search rules in
    did_by (g.F.Files.holds c.args.files.now) (file_of (map string_bytes c.args.words.now)) c.in-Ok.name.bytes (asked_by (map string_bytes c.args.words.now)) (Some (runs c.in-Run.ranks))
    (g.O.Sink.written c.args.out.now) (g.O.Sink.written c.run_file.new.out) (g.O.Sink.faults c.args.out.now) (g.O.Sink.faults c.run_file.new.out) c.run_file.result.0 c.run_file.result.1 named is c.run_file.ensures.did
