-- So many words were made.
use Rattle.std.proofs.Common.{◌≡◌, replicate}
use Rattle.hp_meaning.proofs.lists.repeated.Given as goal

abbrev pub invariant-loop-i : goal.invariant-loop-i
invariant-loop-i l = l.made ≡ replicate l._i l.x
