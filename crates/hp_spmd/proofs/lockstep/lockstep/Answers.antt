use Rattle.std.proofs.Common.{◌∙◌, subst, arith}
use Rattle.std.specs.Prelude.{IfOk}
use Rattle.hp_spmd.specs.Lockstep.{Answers}
use Rattle.hp_spmd.proofs.LockLoop.{first_together, first_fresh, first_run}
use Rattle.hp_spmd.proofs.lockstep.lockstep.Goals as goal

pub rounds-requires-clause-few : goal.rounds-requires-clause-few
rounds-requires-clause-few c =
    let first = first_together c.args.code.now c.args.ranks c.deref_mut.result.now c.requires.some (c.deref_mut.ensures.value ∙ c.in_ok-stores.ensures) in
    omega (arith, first.1, c.requires.few)

pub rounds-requires-clause-ranks : goal.rounds-requires-clause-ranks
rounds-requires-clause-ranks c =
    (first_together c.args.code.now c.args.ranks c.deref_mut.result.now c.requires.some (c.deref_mut.ensures.value ∙ c.in_ok-stores.ensures)).0

pub rounds-requires-clause-executed : goal.rounds-requires-clause-executed
rounds-requires-clause-executed c = first_fresh c.args.code.now c.args.ranks c.deref_mut.result.now (c.deref_mut.ensures.value ∙ c.in_ok-stores.ensures)

pub returns : goal.returns
returns c =
    subst (λ r. IfOk c.rounds.result (λ end. Answers r end))
    (first_run c.args.code.now c.args.tables.now c.args.ranks c.args.limit c.deref_mut.result.now (c.deref_mut.ensures.value ∙ c.in_ok-stores.ensures))
    c.rounds.ensures
