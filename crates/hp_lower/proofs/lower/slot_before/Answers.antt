use Rattle.std.proofs.Common.{◌∙◌, ap, sym, arith, [], take}
use Rattle.std.specs.Option.{option_copied}
use Rattle.std.proofs.lemmas.Grind.{common_steps}
use Rattle.hp_lower.specs.Code.{names_after}
use Rattle.hp_lower.proofs.LowerCode.{scans_more, with_some, with_none}
use Rattle.hp_lower.proofs.lower.slot_before.Goals as goal
use Rattle.hp_lower.proofs.lower.slot_before.Goals.{in-Some, then-eq, else-eq, in_default}

pub loop-line-preserved : goal.loop-line-preserved
loop-line-preserved c =
    let lines = c.args.lines.now in
    let line = c.line-item.result in
    let names = names_after [] (take c.loop-line.line-index lines) in
    let more = scans_more lines c.args.name.now c.loop-line.line-index c.loop-line.slot c.loop-line.arrays line c.loop-line-test.true c.line-item.is c.loop-line.invariant c.match-assigned.slot c.match-assigned.arrays in
    elim c.match-assigned.branch [
      | in-Some w ↦
          let with = with_some names line w.in-Some.other.now (sym w.in-Some.ensures) in
          elim w.if-eq.branch [
            | then-eq v ↦ more (rw with (grind (arith, common_steps))) (rw with (grind (arith, common_steps))) (grind (arith, common_steps))
            | else-eq v ↦ more (rw with (grind (arith, common_steps))) (rw with (grind (arith, common_steps))) (grind (arith, common_steps))
          ]
      | in_default w ↦
          let without = with_none names line (sym c.assigned.ensures ∙ ap option_copied w.in_default.is) in
          more (rw without (grind (arith, common_steps))) (rw without (grind (arith, common_steps))) (grind (arith, common_steps))
    ]
