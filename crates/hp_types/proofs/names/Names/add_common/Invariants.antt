-- Those of the names so far that both have are among these.
use Rattle.std.proofs.Common.{◌≡◌, drop}
use Rattle.hp_types.specs.Names.{bytes_of, with_common}
use Rattle.hp_types.proofs.names.Names.add_common.Given as goal

abbrev pub invariant-loop-name : goal.invariant-loop-name
invariant-loop-name l = with_common l.first (bytes_of (drop l.name-index l.names)) l.self ≡ with_common l.first l.second l.initial.self
