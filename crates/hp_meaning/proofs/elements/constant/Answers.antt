-- One word is a number of a loop.
use Rattle.std.proofs.Common.{w64}
use Rattle.std.proofs.lemmas.Int.{to_z-of_z}
use Rattle.hp_meaning.proofs.ElementLemmas.{is_constant}
use Rattle.hp_meaning.proofs.elements.constant.Goals as goal

pub returns : goal.returns
returns c = rw (to_z-of_z w64 c.args.x c.ranges.x) (is_constant c.args.kind c.args.x)
