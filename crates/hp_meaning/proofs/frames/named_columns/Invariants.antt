-- The columns so far.
use Rattle.std.proofs.Common.{◌≡◌, map, take}
use Rattle.hp_meaning.specs.FrameRules.{named_columns}
use Rattle.hp_meaning.proofs.frames.named_columns.Given as goal

abbrev pub invariant-loop-i : goal.invariant-loop-i
invariant-loop-i l = l.made ≡ named_columns (map (λ name. name.now.bytes) (take l.i l.names)) l.table
