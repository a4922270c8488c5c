use Rattle.std.proofs.Common.{refl, ◌∙◌}
use Rattle.hp_command.proofs.Answering.{evaluated_plain, plain_answered, seq_early}
use Rattle.hp_command.proofs.Evaluating.{answered_seq, untabled_answered, did_untabled, did_evaluate}
use Rattle.hp_command.proofs.commands.evaluate_file.Goals as goal

pub returns-in-Err-clause-answered : goal.returns-in-Err-clause-answered
returns-in-Err-clause-answered g c = answered_seq _ _ _ _ _ _ c.in-Err.answer c.in-Err.ensures.answered

pub returns-in-Err-clause-did : goal.returns-in-Err-clause-did
returns-in-Err-clause-did g c = seq_early _ _ _ _ _ c.in-Err.answer c.in-Err.ensures.early

pub returns-in-Err-tables_in-clause-answered : goal.returns-in-Err-tables_in-clause-answered
returns-in-Err-tables_in-clause-answered g c =
    untabled_answered (g.F.Files.holds c.args.files.now) (g.F.Files.holds c.typed_in.new.files) c.in-Ok.ensures.same c.as_slice.result.now c.args.name.bytes c.in-Ok.typed c.in-Ok.ensures.fits c.as_slice.ensures
    c.args.turns (g.F.Files.faults c.args.files.now) (g.F.Files.faults c.typed_in.new.files) (g.F.Files.faults c.tables_in.new.files) (g.F.Files.failed c.tables_in.new.files) c.in-Err-tables_in.answer
    c.in-Ok.ensures.kept c.in-Err-tables_in.ensures.bad c.in-Err-tables_in.ensures.fault

pub returns-in-Err-tables_in-clause-did : goal.returns-in-Err-tables_in-clause-did
returns-in-Err-tables_in-clause-did g c =
    did_untabled (g.F.Files.holds c.args.files.now) (g.F.Files.holds c.typed_in.new.files) c.in-Ok.ensures.same c.as_slice.result.now c.args.name.bytes c.in-Ok.typed c.in-Ok.ensures.fits c.as_slice.ensures
    c.args.turns (g.O.Sink.written c.args.out.now) (g.O.Sink.written c.args.out.now) (g.O.Sink.faults c.args.out.now) (g.O.Sink.faults c.args.out.now) c.in-Err-tables_in.answer c.in-Err-tables_in.ensures.bad refl refl

pub evaluate-requires-clause-checked : goal.evaluate-requires-clause-checked
evaluate-requires-clause-checked g c = c.in-Ok.ensures.fits.fits_read.checked

pub returns-clause-answered : goal.returns-clause-answered
returns-clause-answered g c =
    plain_answered _ _ _ _ _ _ (c.in-Ok-tables_in.ensures.fault ∙ c.in-Ok.ensures.kept) c.evaluate.result (evaluated_plain _ _ _ _ _ c.evaluate.result c.evaluate.ensures)

pub returns-clause-did : goal.returns-clause-did
returns-clause-did g c =
    did_evaluate (g.F.Files.holds c.args.files.now) (g.F.Files.holds c.typed_in.new.files) c.in-Ok.ensures.same c.as_slice.result.now c.args.name.bytes c.in-Ok.typed c.in-Ok.ensures.fits c.as_slice.ensures
    c.args.turns (g.O.Sink.written c.args.out.now) (g.O.Sink.written c.evaluate.new.out) (g.O.Sink.faults c.args.out.now) (g.O.Sink.faults c.evaluate.new.out)
    c.in-Ok-tables_in.tables.list c.in-Ok-tables_in.ensures.tables c.evaluate.result c.evaluate.ensures
