-- no parameter before this one has the name
use Rattle.std.proofs.Common.{◌≡◌, drop, map}
use Rattle.hp_script.specs.Scope.{role_of}
use Rattle.hp_types.specs.Known.{parameter_seen}
use Rattle.hp_types.proofs.scope.role_among.Given as goal

abbrev pub invariant-loop-parameter : goal.invariant-loop-parameter
invariant-loop-parameter l = role_of (map parameter_seen (drop l.parameter-index l.parameters)) l.name ≡ role_of (map parameter_seen l.parameters) l.name
