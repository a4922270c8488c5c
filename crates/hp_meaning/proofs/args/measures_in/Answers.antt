-- The measures so far, and the first argument that is none.
use Rattle.std.proofs.Common.{map, refl}
use Rattle.hp_script.specs.Mirror.{args_of}
use Rattle.hp_meaning.specs.ArgumentShapes.{all_written}
use Rattle.hp_meaning.specs.ValueOf.{measures_in}
use Rattle.hp_meaning.specs.HeldValues.{measured_in}
use Rattle.hp_meaning.proofs.GatheredLemmas.{behind_none, measures_pushed, measures_stopped, measures_all}
use Rattle.hp_meaning.proofs.args.measures_in.Goals as goal

pub loop-arg-init : goal.loop-arg-init
loop-arg-init c = rw c.new-measures.ensures.items (behind_none (measures_in (all_written (args_of c.args.args.now))))

pub returns-in_default : goal.returns-in_default
returns-in_default c = λ ne. (refl, measures_stopped c.args.args.now _ c.loop-arg.arg-index c.arg-item.result c.loop-arg-test.true c.arg-item.is c.in_default.not-Named c.loop-arg.invariant)

pub loop-arg-preserved : goal.loop-arg-preserved
loop-arg-preserved c =
    measures_pushed c.args.args.now c.loop-arg.measures.items c.push.new.self.items c.loop-arg.arg-index c.arg-item.result c.in-Named.name c.in-Named.field-1 c.in-Named.x _
    c.loop-arg-test.true c.arg-item.is c.in-Named.is c.in_ok-push.ensures.items refl c.in_ok-kind.ensures c.loop-arg.invariant

pub returns : goal.returns
returns c = measures_all c.args.args.now (map measured_in c.loop-arg.measures.items) c.loop-arg.arg-index c.loop-arg-test.false c.loop-arg.invariant
