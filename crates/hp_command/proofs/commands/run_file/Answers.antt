use Rattle.hp_command.specs.Session.{not_built}
use Rattle.hp_command.proofs.Answering.{early_refused, plain_answered, run_early}
use Rattle.hp_command.proofs.Compiling.{compiled, uncompiled, played_plain, did_play}
use Rattle.hp_command.proofs.Evaluating.{answered_run}
use Rattle.hp_command.proofs.commands.run_file.Goals as goal

-- there is no script that fits

pub returns-in-Err-clause-answered : goal.returns-in-Err-clause-answered
returns-in-Err-clause-answered g c = answered_run _ _ _ _ _ _ c.in-Err.answer c.in-Err.ensures.answered

pub returns-in-Err-clause-did : goal.returns-in-Err-clause-did
returns-in-Err-clause-did g c =
    run_early (g.O.Sink.written c.args.out.now) (g.O.Sink.faults c.args.out.now) (g.F.Files.holds c.args.files.now c.args.name.bytes) c.args.ranks c.in-Err.answer c.in-Err.ensures.early

-- there is no code

pub returns-clause-answered : goal.returns-clause-answered
returns-clause-answered g c =
    uncompiled (g.F.Files.holds c.args.files.now) c.args.name.bytes c.in-Ok.typed c.in-Ok.ensures.fits c.args.ranks _ _ _ c.in-Ok.ensures.kept c.in-Err-program_of.answer
    c.in-Err-program_of.ensures.refused

pub returns-clause-did : goal.returns-clause-did
returns-clause-did g c =
    run_early (g.O.Sink.written c.args.out.now) (g.O.Sink.faults c.args.out.now) (g.F.Files.holds c.args.files.now c.args.name.bytes) c.args.ranks c.in-Err-program_of.answer
    (early_refused (not_built c.in-Ok.typed.script.body) c.in-Err-program_of.answer c.in-Err-program_of.ensures.refused)

-- the ranks have run

pub returns-in-Ok-program_of-clause-answered : goal.returns-in-Ok-program_of-clause-answered
returns-in-Ok-program_of-clause-answered g c =
    plain_answered _ _ _ _ _ _ c.in-Ok.ensures.kept c.play.result.0
    (played_plain c.in-Ok-program_of.code c.args.ranks (g.O.Sink.written c.args.out.now) (g.O.Sink.written c.play.new.out) (g.O.Sink.faults c.args.out.now) (g.O.Sink.faults c.play.new.out) c.play.result.0 c.play.result.1 c.play.ensures)

pub returns-in-Ok-program_of-clause-did : goal.returns-in-Ok-program_of-clause-did
returns-in-Ok-program_of-clause-did g c =
    did_play c.in-Ok-program_of.code c.args.ranks (g.O.Sink.written c.args.out.now) (g.O.Sink.written c.play.new.out) (g.O.Sink.faults c.args.out.now) (g.O.Sink.faults c.play.new.out) (g.F.Files.holds c.args.files.now c.args.name.bytes)
    (compiled (g.F.Files.holds c.args.files.now) c.args.name.bytes c.in-Ok.typed c.in-Ok.ensures.fits c.in-Ok-program_of.code c.in-Ok-program_of.ensures.ok)
    c.requires.some c.requires.few c.play.result.0 c.play.result.1 c.play.ensures
