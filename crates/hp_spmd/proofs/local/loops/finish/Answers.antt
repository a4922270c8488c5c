-- The words and the pieces are those of all rows.
use Rattle.std.proofs.Common.{arith}
use Rattle.hp_spmd.proofs.LocalMade.{finished}
use Rattle.hp_spmd.proofs.local.loops.finish.Goals as goal

pub returns-clause-told : goal.returns-clause-told
returns-clause-told c = λ rows h. finished c.args.store.now c.args.of.now rows c.args.made _ _ _ _ (omega arith) h c.as_slice.ensures.value c.put_words.ensures c.put_pieces.ensures
