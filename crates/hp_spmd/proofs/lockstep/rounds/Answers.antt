use Rattle.std.proofs.Common.{[], refl, subst, arith, length, get_or, ◌-◌, ◌^◌}
use Rattle.hp_spmd.specs.Lockstep.{run, state, step}
use Rattle.hp_spmd.specs.Ranks.{Rounds}
use Rattle.hp_spmd.proofs.LockLoop.{room_of, going_first, going_on, going_ended, going_trapped, going_out, first_of_going}
use Rattle.hp_spmd.proofs.lockstep.rounds.Goals as goal

pub loop-left-init : goal.loop-left-init
loop-left-init c = going_first c.args.code.now c.args.tables.now (2 ^ 64 - 1) c.args.limit c.args.stores.now c.new-out.result.items (omega arith) c.requires.ranks c.requires.executed c.new-out.ensures.items

pub round-requires-clause-executed : goal.round-requires-clause-executed
round-requires-clause-executed c =
    room_of c.args.code.now c.args.tables.now (length c.args.stores.now) (2 ^ 64 - 1) (run c.args.code.now c.args.tables.now c.args.limit (state c.args.stores.now []))
    c.loop-left.left c.loop-left.stores c.loop-left.out.items c.loop-left-test.true c.loop-left.invariant

pub returns-in-Ended : goal.returns-in-Ended
returns-in-Ended c =
    let told =
    subst (λ t. Rounds (step c.args.code.now c.args.tables.now (state c.loop-left.stores c.loop-left.out.items)) t c.loop-left.out.items c.round.new.stores c.round.new.out.items)
    c.in-Ended.is c.in_ok-round.ensures in
    going_ended c.args.code.now c.args.tables.now (length c.args.stores.now) (2 ^ 64 - 1) (run c.args.code.now c.args.tables.now c.args.limit (state c.args.stores.now []))
    c.loop-left.left c.loop-left.stores c.round.new.stores c.loop-left.out.items
    c.round.new.out.items _ c.loop-left.invariant told refl refl

pub returns-in-Trapped : goal.returns-in-Trapped
returns-in-Trapped c =
    let told =
    subst (λ t. Rounds (step c.args.code.now c.args.tables.now (state c.loop-left.stores c.loop-left.out.items)) t c.loop-left.out.items c.round.new.stores c.round.new.out.items)
    c.in-Trapped.is c.in_ok-round.ensures in
    going_trapped c.args.code.now c.args.tables.now (length c.args.stores.now) (2 ^ 64 - 1) (run c.args.code.now c.args.tables.now c.args.limit (state c.args.stores.now []))
    c.loop-left.left c.loop-left.stores c.round.new.stores c.loop-left.out.items
    c.round.new.out.items c.in-Trapped.place c.in-Trapped.kind _ c.loop-left-test.true c.loop-left.invariant told refl refl

pub loop-left-preserved : goal.loop-left-preserved
loop-left-preserved c =
    let told =
    subst (λ t. Rounds (step c.args.code.now c.args.tables.now (state c.loop-left.stores c.loop-left.out.items)) t c.loop-left.out.items c.round.new.stores c.round.new.out.items)
    c.in-Moved.is c.in_ok-round.ensures in
    going_on c.args.code.now c.args.tables.now (length c.args.stores.now) (2 ^ 64 - 1) (run c.args.code.now c.args.tables.now c.args.limit (state c.args.stores.now []))
    c.loop-left.left c.loop-left.stores c.round.new.stores c.loop-left.out.items
    c.round.new.out.items c.requires.some c.loop-left-test.true c.loop-left.invariant told

pub returns : goal.returns
returns c =
    let at = (get_or c.loop-left.stores 0 c.index-stores-0.result).position in
    let first =
    first_of_going c.args.code.now c.args.tables.now (length c.args.stores.now) (2 ^ 64 - 1) (run c.args.code.now c.args.tables.now c.args.limit (state c.args.stores.now []))
    c.loop-left.left c.loop-left.stores c.loop-left.out.items c.index-stores-0.result c.requires.some c.loop-left.invariant in
    going_out c.args.code.now c.args.tables.now (length c.args.stores.now) (2 ^ 64 - 1) (run c.args.code.now c.args.tables.now c.args.limit (state c.args.stores.now []))
    c.loop-left.left at c.loop-left.stores c.loop-left.out.items _ c.loop-left-test.false c.loop-left.invariant first c.status_at_limit-status.ensures refl
