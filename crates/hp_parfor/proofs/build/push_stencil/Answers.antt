-- The copy, and then the loop.
use Rattle.std.proofs.Common.{refl}
use Rattle.hp_program.specs.Programs.{stop, plain, joined}
use Rattle.hp_parfor.specs.Parts.{Does, Loops, program_of}
use Rattle.hp_parfor.proofs.StepLemmas.{two_pushed}
use Rattle.hp_parfor.proofs.build.push_stencil.Goals as goal

pub returns : goal.returns
unfolding joined
returns c =
    two_pushed c.push_loop.result (program_of c.args.steps.now) (program_of c.push_plain.new.steps) (program_of c.push_loop.new.steps) (plain (Does c.args.copy) stop) (plain (Loops c.args.parfor) stop)
    (plain (Does c.args.copy) (plain (Loops c.args.parfor) stop)) c.in_ok-push_plain.ensures refl c.push_loop.ensures
