use Rattle.hp_command.proofs.Answering.{said_plain, plain_answered, check_early}
use Rattle.hp_command.proofs.Saying.{did_ok}
use Rattle.hp_command.proofs.commands.check_file.Goals as goal

pub returns-in-Ok-clause-answered : goal.returns-in-Ok-clause-answered
returns-in-Ok-clause-answered g c = plain_answered _ _ _ _ _ _ c.in-Ok.ensures.kept c.say_ok.result (said_plain c.say_ok.result c.say_ok.ensures.answer)

pub returns-in-Ok-clause-did : goal.returns-in-Ok-clause-did
returns-in-Ok-clause-did g c =
    did_ok (g.F.Files.holds c.args.files.now c.args.name.bytes) _ _ _ _ c.say_ok.result (record { typed = c.in-Ok._typed; fits = c.in-Ok.ensures.fits })
    c.say_ok.ensures.cause c.say_ok.ensures.wrote c.say_ok.ensures.answer

pub returns-in-Err-clause-did : goal.returns-in-Err-clause-did
returns-in-Err-clause-did g c = check_early _ _ _ c.in-Err.answer c.in-Err.ensures.early
