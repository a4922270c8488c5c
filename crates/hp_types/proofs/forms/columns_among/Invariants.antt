use Rattle.std.proofs.Common.{◌≡◌, take}
use Rattle.hp_script.specs.Entries.{columns_among}
use Rattle.hp_script.specs.Mirror.{args_of}
use Rattle.hp_types.proofs.forms.columns_among.Given as goal

abbrev pub invariant-loop-arg : goal.invariant-loop-arg
invariant-loop-arg l = l.columns ≡ columns_among (args_of (take l.arg-index l.args))
