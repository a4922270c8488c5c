-- The names so far, and the first argument that is no column.
use Rattle.std.proofs.Common.{Bor, map}
use Rattle.hp_word.specs.declared.name.Name.{Name}
use Rattle.std.proofs.lemmas.Result.{err_from_is_err_and}
use Rattle.hp_script.specs.Mirror.{tree_of, args_of}
use Rattle.hp_meaning.specs.ArgumentShapes.{all_written}
use Rattle.hp_meaning.specs.ValueOf.{names_in}
use Rattle.hp_meaning.proofs.GatheredLemmas.{behind_none, names_pushed, names_stopped, names_missed, names_all}
use Rattle.hp_meaning.proofs.args.names_in.Goals as goal

pub loop-arg-init : goal.loop-arg-init
loop-arg-init c = rw c.new-names.ensures.items (behind_none (names_in (all_written (args_of c.args.args.now))))

pub returns-in_err-x : goal.returns-in_err-x
returns-in_err-x c =
    let p = err_from_is_err_and c.from_residual.result c.from_residual.ensures.1 in
    rw (p.1, p.2) (λ ne. (c.in_err-x.ensures.0, names_stopped c.args.args.now _ c.loop-arg.arg-index c.arg-item.result c.loop-arg-test.true c.arg-item.is c.in_err-x.ensures.1 c.loop-arg.invariant))

pub returns-in_err-column_name : goal.returns-in_err-column_name
returns-in_err-column_name c =
    let p = err_from_is_err_and c.from_residual-in_err-column_name.result c.from_residual-in_err-column_name.ensures.1 in
    rw (p.1, p.2) (λ ne. (c.in_err-column_name.ensures.0, names_missed c.args.args.now _ c.loop-arg.arg-index c.arg-item.result (tree_of c.in_ok-x.x.now) c.loop-arg-test.true c.arg-item.is c.in_ok-x.ensures c.in_err-column_name.ensures.1 c.loop-arg.invariant))

pub loop-arg-preserved : goal.loop-arg-preserved
loop-arg-preserved c =
    names_pushed (λ (name : Bor Name). name.now.bytes) c.args.args.now c.loop-arg.names.items c.push.new.self.items c.loop-arg.arg-index c.arg-item.result (tree_of c.in_ok-x.x.now)
    c.in_ok-column_name.field-0 c.loop-arg-test.true c.arg-item.is c.in_ok-push.ensures.items c.in_ok-x.ensures c.in_ok-column_name.ensures c.loop-arg.invariant

pub returns : goal.returns
returns c = names_all c.args.args.now (map (λ name. name.now.bytes) c.loop-arg.names.items) c.loop-arg.arg-index c.loop-arg-test.false c.loop-arg.invariant
