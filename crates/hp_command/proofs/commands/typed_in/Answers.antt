-- What was read is the front of the file.
use Rattle.std.proofs.Common.{◌≡◌, take, arith, subst, sym}
use Rattle.std.specs.Prelude.{IfSome}
use Rattle.hp_reader.specs.Reading.{Refuses}
use Rattle.hp_command.proofs.Answering.{refused_early}
use Rattle.hp_command.proofs.ScriptCuts.{file_fits, file_answered}
use Rattle.hp_command.proofs.commands.typed_in.Goals as goal

pub returns-in-Ok-clause-fits : goal.returns-in-Ok-clause-fits
returns-in-Ok-clause-fits g c =
    let holds = g.F.Files.holds c.args.files.now in
    let front = subst (λ l. IfSome (holds c.args.name.bytes) (λ file. l ≡ take 65537 file)) (sym c.deref.ensures.value) c.in-Ok.ensures.bytes in
    file_fits 65537 (omega arith) holds c.args.name.bytes c.deref.result.now front c.fitting.result c.fitting.ensures.ok

pub returns-in-Ok-clause-answered : goal.returns-in-Ok-clause-answered
returns-in-Ok-clause-answered g c =
    let holds = g.F.Files.holds c.args.files.now in
    let front = subst (λ l. IfSome (holds c.args.name.bytes) (λ file. l ≡ take 65537 file)) (sym c.deref.ensures.value) c.in-Ok.ensures.bytes in
    file_answered 65537 (omega arith) holds c.args.name.bytes c.deref.result.now front _ _ _ c.in-Ok.ensures.cause.kept c.fitting.result c.fitting.ensures.refused

pub returns-in-Ok-clause-early : goal.returns-in-Ok-clause-early
returns-in-Ok-clause-early g c = refused_early (Refuses c.deref.result.now) c.fitting.result c.fitting.ensures.refused
