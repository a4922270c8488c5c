-- A separator stands before each text but the first.
use Rattle.std.specs.Prelude.{codes}
use Rattle.hp_word.specs.declared.name.Name.{Name}
use Rattle.hp_word.proofs.TextLemmas.{next_text}
use Rattle.hp_spmd.proofs.lockstep.output.add_names.Goals as goal

pub loop-i-preserved : goal.loop-i-preserved
loop-i-preserved c =
    next_text (λ (name : Name). name.bytes) (codes ",") c.args.names.now c.loop-i.i c.index-names-i.result c.index-names-i.result
    c.args.out.now.items c.loop-i.out.items c.add_between.new.out.items c.add.new.out.items
    c.loop-i-test.true c.index-names-i.is c.loop-i.invariant (rw c.as_slice.ensures at c.in_ok-add_between.ensures) (rw c.as_slice-in-loop-i.ensures at c.in_ok-add.ensures)
