use Rattle.std.proofs.Common.{[], rules, true, false}
use Rattle.hp_script.specs.Mirror.{block_of}
use Rattle.hp_meaning.specs.Run.{eval}
use Rattle.hp_meaning.specs.Running.{IsEndOf}
use Rattle.hp_outside.specs.Outside.{HasCause}
use Rattle.hp_command.specs.Session.{Wrote}
use Rattle.hp_command.proofs.Evaluating.{evaluated_short, evaluated_whole}
use Rattle.hp_command.proofs.commands.evaluate.Goals as goal

pub returns-then-is_err : goal.returns-then-is_err
returns-then-is_err g c =
    let found = eval (block_of c.args.typed.now.script.body) c.args.tables.now.list [] c.args.turns in
    let ends : IsEndOf found c.in-Ok.end = search rules in
    let cause : HasCause (g.O.Sink.faults c.args.out.now) (g.O.Sink.faults c.put_all.new.sink) true = search rules in
    let wrote : Wrote true (g.O.Sink.written c.args.out.now) (g.O.Sink.written c.put_all.new.sink) c.in-Ok.end.out = search rules in
    evaluated_short found c.in-Ok.end ends _ _ _ _ cause wrote

pub returns : goal.returns
returns g c =
    let found = eval (block_of c.args.typed.now.script.body) c.args.tables.now.list [] c.args.turns in
    let ends : IsEndOf found c.in-Ok.end = search rules in
    let cause : HasCause (g.O.Sink.faults c.args.out.now) (g.O.Sink.faults c.put_all.new.sink) false = search rules in
    let wrote : Wrote false (g.O.Sink.written c.args.out.now) (g.O.Sink.written c.put_all.new.sink) c.in-Ok.end.out = search rules in
    evaluated_whole found c.in-Ok.end ends _ _ _ _ c.meant.result c.meant.ensures cause wrote
