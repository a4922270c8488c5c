-- The names that are gathered are those that the script assigns.
use Rattle.std.proofs.Common.{sym, subst}
use Rattle.hp_script.specs.Mirror.{block_of}
use Rattle.hp_types.specs.Statements.{IsAt, TellsBlock}
use Rattle.hp_types.proofs.statements.test_script.Goals as goal

pub returns : goal.returns
returns c s at =
    subst (λ names. TellsBlock s names (block_of c.args.body.now) c.args.found.now c.statements.new.variables c.statements.new.found c.statements.result) c.in_ok-assigned.ensures
    (c.statements.ensures.told s (subst (λ names. IsAt s names c.args.variables.now) (sym c.in_ok-assigned.ensures) at))
