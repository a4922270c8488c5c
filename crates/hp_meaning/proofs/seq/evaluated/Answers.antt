use Rattle.hp_script.specs.Mirror.{block_of}
use Rattle.hp_meaning.specs.Run.{eval}
use Rattle.hp_meaning.proofs.NeverWrong.{never_wrong}
use Rattle.hp_meaning.proofs.OnlyMemory.{only_memory}
use Rattle.hp_meaning.proofs.seq.evaluated.Goals as goal

pub returns-clause-sound : goal.returns-clause-sound
returns-clause-sound c = λ fits serves.
    only_memory (eval (block_of c.args.script.now.body) c.args.tables.now.list c.args.orders.now.list c.args.fuel) c.ended.result c.ended.ensures
    (never_wrong (block_of c.args.script.now.body) c.args.tables.now.list c.args.orders.now.list c.args.fuel c.args.script.now.nodes fits c.args.script.now.numbered serves)
