-- The place, and then all cells.
use Rattle.std.proofs.Common.{ap, FitsSigned, rules, w64}
use Rattle.std.proofs.lemmas.Int.{to_z-of_z}
use Rattle.hp_spmd.specs.Messages.{message_of}
use Rattle.hp_spmd.proofs.HashLemmas.{row_is}
use Rattle.hp_spmd.proofs.local.packs.add_row.Goals as goal

pub returns : goal.returns
returns c =
    let fits : FitsSigned w64 c.place_word.result = search rules in
    let pushed = rw (to_z-of_z w64 c.place_word.result fits) at c.in_ok-push.ensures.ok in
    row_is c.args.pieces.now c.args.arrays.now c.args.before c.args.row c.loop-array.array-index c.place_word.result c.args.message.now (message_of c.push.new.self) c.loop-array.message
    (ap message_of pushed) c.place_word.ensures c.loop-array.invariant c.loop-array-test.false
