-- The steps that are added, and those of the rest of the arguments, are those of all.
use Rattle.std.proofs.Common.{◌≡◌, drop}
use Rattle.hp_script.specs.Mirror.{args_of}
use Rattle.hp_program.specs.Programs.{joined}
use Rattle.hp_flat.specs.Flat.{flat_among}
use Rattle.hp_normal.specs.Programs.{program_in, frame_at_node}
use Rattle.hp_normal.proofs.exprs.+exprs.Given as goal

abbrev pub invariant-add_args-loop-arg : goal.invariant-add_args-loop-arg
invariant-add_args-loop-arg l =
    joined (program_in l.initial.steps) (flat_among l.homes (frame_at_node l.homes.known l.fn.around) (frame_at_node l.homes.known l.behind) (args_of l.args))
    ≡ joined (program_in l.steps) (flat_among l.homes (frame_at_node l.homes.known l.seen) (frame_at_node l.homes.known l.behind) (args_of (drop l.arg-index l.args)))
