use Rattle.hp_air.specs.Nodes.{program_of}
use Rattle.hp_normal.proofs.Normalized.{in_order, kept, small, few_names, one_each, step_by_step, carried, asks, greatest, served, means, one_meaning}
use Rattle.hp_normal.proofs.normalize.normalize.Goals as goal

pub invariant_of-result : goal.invariant_of-result
invariant_of-result c =
    let made = c.in_ok-slots.field-0 in
    let is = c.in_ok-slots.ensures in
    record {
      in_order = in_order c.args.typed.now made.slots made.words (program_of made.body) is.slots is.words is.body c.flat_laws.ensures.kept;
      kept = kept c.args.typed.now made.slots made.words (program_of made.body) is.slots is.words is.body c.requires c.flat_laws.ensures.keeps;
      small = small c.args.typed.now made.slots made.words (program_of made.body) is.slots is.words is.body c.requires c.flat_laws.ensures.small;
      few_names = few_names c.args.typed.now made.slots made.words (program_of made.body) is.slots is.words is.body c.requires c.flat_laws.ensures.few_names;
    }

pub returns-clause-one_each : goal.returns-clause-one_each
returns-clause-one_each c =
    let made = c.in_ok-slots.field-0 in
    let is = c.in_ok-slots.ensures in
    one_each c.args.typed.now made.slots made.words (program_of made.body) is.slots is.words is.body c.flat_laws.ensures.one_each

pub returns-clause-step_by_step : goal.returns-clause-step_by_step
returns-clause-step_by_step c =
    let made = c.in_ok-slots.field-0 in
    let is = c.in_ok-slots.ensures in
    step_by_step c.args.typed.now made.slots made.words (program_of made.body) is.slots is.words is.body c.requires c.flat_laws.ensures.step_by_step

pub returns-clause-carried : goal.returns-clause-carried
returns-clause-carried c =
    let made = c.in_ok-slots.field-0 in
    let is = c.in_ok-slots.ensures in
    carried c.args.typed.now made.slots made.words (program_of made.body) is.slots is.words is.body c.requires c.flat_laws.ensures.carried

pub returns-clause-constraints : goal.returns-clause-constraints
returns-clause-constraints c =
    let made = c.in_ok-slots.field-0 in
    let is = c.in_ok-slots.ensures in
    asks c.args.typed.now made.slots made.words (program_of made.body) is.slots is.words is.body c.requires c.flat_laws.ensures.constraints

pub returns-clause-greatest : goal.returns-clause-greatest
returns-clause-greatest c =
    let made = c.in_ok-slots.field-0 in
    let is = c.in_ok-slots.ensures in
    greatest c.args.typed.now made.slots made.words (program_of made.body) is.slots is.words is.body c.requires c.flat_laws.ensures.greatest

pub returns-clause-served : goal.returns-clause-served
returns-clause-served c =
    let made = c.in_ok-slots.field-0 in
    let is = c.in_ok-slots.ensures in
    served c.args.typed.now made.slots made.words (program_of made.body) is.slots is.words is.body c.requires c.flat_laws.ensures.served

pub returns-clause-meaning : goal.returns-clause-meaning
returns-clause-meaning c =
    let made = c.in_ok-slots.field-0 in
    let is = c.in_ok-slots.ensures in
    means c.args.typed.now made.slots made.words (program_of made.body) is.slots is.words is.body c.requires c.flat_laws.ensures.meaning

pub returns-clause-one_meaning : goal.returns-clause-one_meaning
returns-clause-one_meaning c =
    let made = c.in_ok-slots.field-0 in
    let is = c.in_ok-slots.ensures in
    one_meaning c.args.typed.now made.slots made.words (program_of made.body) is.slots is.words is.body c.requires c.flat_laws.ensures.one_meaning
