-- The list is that of the program's constraints.
use Rattle.std.proofs.Common.{ap, length, ◌<◌, ◌^◌, arith}
use Rattle.hp_air.specs.Nodes.{program_of}
use Rattle.hp_constrain.proofs.ProgramLemmas.{slots_few, all_listed, placed_met, met_placed, all_within, few_listed}
use Rattle.hp_constrain.proofs.constraints.constraints.Goals as goal

pub add_frames-requires-clause-few : goal.add_frames-requires-clause-few
add_frames-requires-clause-few c =
    let few : length c.args.air.now.slots < 2 ^ 30 = slots_few c.args.air.now.slots c.args.air.now.words (program_of c.args.air.now.body) (2 ^ 30) c.args.air.now.few_names in
    let same = ap length c.as_slice.ensures in
    omega (arith, few, same)

pub returns-clause-exact : goal.returns-clause-exact
returns-clause-exact c =
    all_listed c.args.air.now.slots (program_of c.args.air.now.body) c.add_frames.new.list.items c.add_nodes.new.list.items
    (rw (c.as_slice.ensures, c.new-list.ensures.items) at c.in_ok-add_frames.ensures) (rw c.as_slice-2.ensures at c.in_ok-add_nodes.ensures)

pub returns-clause-placed : goal.returns-clause-placed
returns-clause-placed c dists =
    placed_met c.args.air.now.slots (program_of c.args.air.now.body) c.add_nodes.new.list.items dists
    (all_listed c.args.air.now.slots (program_of c.args.air.now.body) c.add_frames.new.list.items c.add_nodes.new.list.items
    (rw (c.as_slice.ensures, c.new-list.ensures.items) at c.in_ok-add_frames.ensures) (rw c.as_slice-2.ensures at c.in_ok-add_nodes.ensures))

pub returns-clause-meets : goal.returns-clause-meets
returns-clause-meets c dists =
    met_placed c.args.air.now.slots c.args.air.now.words (program_of c.args.air.now.body) c.add_nodes.new.list.items dists
    (all_listed c.args.air.now.slots (program_of c.args.air.now.body) c.add_frames.new.list.items c.add_nodes.new.list.items
    (rw (c.as_slice.ensures, c.new-list.ensures.items) at c.in_ok-add_frames.ensures) (rw c.as_slice-2.ensures at c.in_ok-add_nodes.ensures)) c.args.air.now.kept

pub returns-clause-within : goal.returns-clause-within
returns-clause-within c =
    all_within c.args.air.now.slots c.args.air.now.words (program_of c.args.air.now.body) c.add_nodes.new.list.items
    (all_listed c.args.air.now.slots (program_of c.args.air.now.body) c.add_frames.new.list.items c.add_nodes.new.list.items
    (rw (c.as_slice.ensures, c.new-list.ensures.items) at c.in_ok-add_frames.ensures) (rw c.as_slice-2.ensures at c.in_ok-add_nodes.ensures)) c.args.air.now.kept

pub returns-clause-few : goal.returns-clause-few
returns-clause-few c =
    few_listed c.args.air.now.slots c.args.air.now.words (program_of c.args.air.now.body) c.add_nodes.new.list.items
    (all_listed c.args.air.now.slots (program_of c.args.air.now.body) c.add_frames.new.list.items c.add_nodes.new.list.items
    (rw (c.as_slice.ensures, c.new-list.ensures.items) at c.in_ok-add_frames.ensures) (rw c.as_slice-2.ensures at c.in_ok-add_nodes.ensures))
