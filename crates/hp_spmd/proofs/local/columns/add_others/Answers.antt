-- One more column, or the one that is left out.
use Rattle.std.proofs.Common.{◌∙◌, ap, map, []}
use Rattle.hp_spmd.proofs.RowNext.{other_pushed, other_left}
use Rattle.hp_spmd.proofs.local.columns.add_others.Goals.{then-k-at+in_ok-push, else-k-at}
use Rattle.hp_spmd.proofs.local.columns.add_others.Goals as goal

pub loop-k-preserved : goal.loop-k-preserved
loop-k-preserved c =
    elim c.if-k-at.branch [
      | then-k-at+in_ok-push w ↦
          other_pushed (λ c. c.now) c.args.columns.now c.loop-k.k c.args.at _ c.loop-k.made.items c.if-k-at.made.items _ c.loop-k-test.true w.if-k-at.true
          (ap (λ v. v.items) w.made-is ∙ w.in_ok-push.ensures.items) c.loop-k.invariant
      | else-k-at w ↦
          ap (λ v. map (λ c. c.now) v.items) w.made-is
          ∙ other_left (λ c. c.now) c.args.columns.now c.loop-k.k c.args.at (record { ref_ptr = (0, 0); now = [] }) c.loop-k.made.items _ c.loop-k-test.true w.if-k-at.false c.loop-k.invariant
    ]
