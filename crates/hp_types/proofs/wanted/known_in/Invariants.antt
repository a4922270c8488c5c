-- each frame before this argument has the column
use Rattle.std.proofs.Common.{◌≡◌, drop}
use Rattle.std.specs.List.{list_all}
use Rattle.hp_script.specs.Scope.{has_column}
use Rattle.hp_script.specs.Typing.{frames_among}
use Rattle.hp_types.proofs.wanted.known_in.Given as goal

abbrev pub invariant-loop-argument : goal.invariant-loop-argument
invariant-loop-argument l = list_all (has_column l.column) (frames_among (drop l.argument-index l.frames)) ≡ list_all (has_column l.column) (frames_among l.frames)
