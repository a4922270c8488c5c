use Rattle.std.proofs.Common.{◌≡◌, [], ◌∙◌}
use Rattle.hp_lower.specs.Code.{lines_code}
use Rattle.hp_lower.proofs.LowerCode.{lowers_more, lowers_all, sound_small, sound_ends, sound_within, sound_targets}
use Rattle.hp_lower.proofs.lower.code_of.Goals as goal

pub loop-i-preserved : goal.loop-i-preserved
loop-i-preserved c =
    lowers_more c.args.lines.now c.loop-i.i c.index-lines-i.result c.loop-i.list c.loop-i.arrays c.loop-i-test.true c.index-lines-i.is c.loop-i.invariant c.push_line.new.list c.push_line.new.arrays
    c.in_ok-push_line.ensures.list c.in_ok-push_line.ensures.arrays

pub invariant_of-result : goal.invariant_of-result
invariant_of-result c =
    let lines = c.args.lines.now in
    let all = lowers_all lines c.loop-i.i c.loop-i.list c.loop-i.arrays c.loop-i-test.false c.loop-i.invariant in
    let list : c.push.new.self ≡ lines_code [] lines = c.in_ok-push.ensures.ok ∙ all.0 in
    record {
      small = sound_small lines c.push.new.self list c.requires.few;
      ends = sound_ends lines c.push.new.self list;
      within = sound_within lines c.push.new.self c.loop-i.arrays list all.1 c.requires.reads;
      targets = sound_targets lines c.push.new.self list;
    }
