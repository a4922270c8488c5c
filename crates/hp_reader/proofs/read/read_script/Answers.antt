use Rattle.hp_reader.proofs.Passes.{typed_only, typed_exact, unspelled_exact}
use Rattle.hp_reader.proofs.read.read_script.Goals as goal

pub returns-in-Ok-clause-only : goal.returns-in-Ok-clause-only
returns-in-Ok-clause-only c =
    λ body nodes spelled none. typed_only c.in-Ok.script c.typed_of.result c.typed_of.ensures.same c.typed_of.ensures.refused body (c.in-Ok.ensures.only body nodes spelled) none

pub returns-in-Ok-clause-exact : goal.returns-in-Ok-clause-exact
returns-in-Ok-clause-exact c = typed_exact c.args.bytes.now c.in-Ok.script c.typed_of.result c.in-Ok.ensures.only c.in-Ok.ensures.exact c.typed_of.ensures.exact

pub returns-in-Err-clause-only : goal.returns-in-Err-clause-only
returns-in-Err-clause-only c = λ body nodes spelled none. c.in-Err.ensures.only body nodes spelled

pub returns-in-Err-clause-exact : goal.returns-in-Err-clause-exact
returns-in-Err-clause-exact c = unspelled_exact c.args.bytes.now c.in-Err.error c.in-Err.ensures.only c.in-Err.ensures.exact
