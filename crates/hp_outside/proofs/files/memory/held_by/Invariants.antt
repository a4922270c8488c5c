use Rattle.std.proofs.Common.{◌≡◌, drop}
use Rattle.hp_outside.specs.Memory.{held_by}
use Rattle.hp_outside.proofs.files.memory.held_by.Given as goal

-- the files before this one are not of the name
abbrev pub invariant-loop-file : goal.invariant-loop-file
invariant-loop-file l = held_by (drop l.file-index l.files) l.name ≡ held_by l.files l.name
