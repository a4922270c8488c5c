-- What the rank does next is named by the shape of its instruction.
use Rattle.std.proofs.Common.{ap, sym, ◌∙◌}
use Rattle.hp_spmd.specs.Kinds.{Posts, PostsRoot, Takes, TakesRoot, Writes, kind_of, post_kind, take_kind}
use Rattle.hp_spmd.specs.Local.{local_next}
use Rattle.hp_rank.proofs.RankLemmas.{does_by, does_by_ok}
use Rattle.hp_rank.proofs.rank.do_next.Goals as goal

pub returns-in-Post-true-clause-did : goal.returns-in-Post-true-clause-did
returns-in-Post-true-clause-did c =
    does_by PostsRoot c.args.instr.now (local_next c.args.code.now.arrays c.args.tables.now c.args.instr.now c.args.store.now) c.post_root.result c.args.store.now c.post_root.new.store
    (ap kind_of c.in-Post-true.is ∙ ap post_kind (sym c.in-Post-true.root-is ∙ c.in-Post-true.root-test)) c.post_root.ensures

pub returns-in-Post-false-clause-did : goal.returns-in-Post-false-clause-did
returns-in-Post-false-clause-did c =
    does_by Posts c.args.instr.now (local_next c.args.code.now.arrays c.args.tables.now c.args.instr.now c.args.store.now) c.post.result c.args.store.now c.post.new.store
    (ap kind_of c.in-Post-false.is ∙ ap post_kind (sym c.in-Post-false.root-is ∙ c.in-Post-false.root-test)) c.post.ensures

pub returns-in-Take-true-clause-did : goal.returns-in-Take-true-clause-did
returns-in-Take-true-clause-did c =
    does_by TakesRoot c.args.instr.now (local_next c.args.code.now.arrays c.args.tables.now c.args.instr.now c.args.store.now) c.want_at_root.result c.args.store.now c.want_at_root.new.store
    (ap kind_of c.in-Take-true.is ∙ ap take_kind (sym c.in-Take-true.root-is ∙ c.in-Take-true.root-test)) c.want_at_root.ensures

pub returns-in-Take-false-clause-did : goal.returns-in-Take-false-clause-did
returns-in-Take-false-clause-did c =
    does_by Takes c.args.instr.now (local_next c.args.code.now.arrays c.args.tables.now c.args.instr.now c.args.store.now) c.want.result c.args.store.now c.want.new.store
    (ap kind_of c.in-Take-false.is ∙ ap take_kind (sym c.in-Take-false.root-is ∙ c.in-Take-false.root-test)) c.want.ensures

pub returns-in-Write-clause-did : goal.returns-in-Write-clause-did
returns-in-Write-clause-did c =
    does_by_ok (Writes c.in-Write.output) c.args.instr.now (local_next c.args.code.now.arrays c.args.tables.now c.args.instr.now c.args.store.now) c.write.result c.args.store.now _
    (ap kind_of c.in-Write.is) c.write.ensures.did
