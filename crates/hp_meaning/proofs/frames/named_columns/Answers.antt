-- One more column, or none behind the end of the table.
use Rattle.std.proofs.Common.{◌∙◌, sym}
use Rattle.hp_word.specs.declared.name.Name.{Name}
use Rattle.std.proofs.Common.{Bor}
use Rattle.hp_meaning.proofs.FrameLemmas.{columns_pushed, columns_same}
use Rattle.hp_meaning.proofs.frames.named_columns.Goals.{then-i-table+in_ok-copied_name+in_ok-from_slice+in_ok-push, else-i-table}
use Rattle.hp_meaning.proofs.frames.named_columns.Goals as goal

pub loop-i-preserved : goal.loop-i-preserved
loop-i-preserved c =
    let bytes = λ (name : Bor Name). name.now.bytes in
    elim c.if-i-table.branch [
      | then-i-table+in_ok-copied_name+in_ok-from_slice+in_ok-push w ↦
          w.made-is ∙ columns_pushed bytes c.args.names.now c.args.table.now c.loop-i.i c.index-names-i.result w.index-table-i.result c.loop-i.made w.push.new.self _
          c.loop-i-test.true w.if-i-table.true c.index-names-i.is w.index-table-i.is c.loop-i.invariant w.in_ok-push.ensures.ok
          (cc (w.in_ok-copied_name.ensures, w.in_ok-from_slice.ensures, w.as_slice.ensures))
      | else-i-table w ↦ w.made-is ∙ c.loop-i.invariant ∙ sym (columns_same bytes c.args.names.now c.args.table.now c.loop-i.i w.if-i-table.false)
    ]
