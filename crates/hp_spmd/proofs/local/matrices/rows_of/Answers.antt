-- One more row.
use Rattle.std.proofs.Common.{map}
use Rattle.hp_word.specs.RowRules.{row_at}
use Rattle.hp_spmd.proofs.GatherLemmas.{made_more}
use Rattle.hp_spmd.proofs.local.matrices.rows_of.Goals as goal

pub loop-place-preserved : goal.loop-place-preserved
loop-place-preserved c =
    made_more (row_at (map (λ c. c.now) c.args.columns.now)) c.loop-place.place c.loop-place.made.items c.push.new.self.items c.in_ok-row_at.field-0 c.loop-place.invariant c.in_ok-push.ensures.items c.in_ok-row_at.ensures
