-- Each measure has its column, or the first that has none stops.
use Rattle.std.proofs.Common.{rules}
use Rattle.std.proofs.lemmas.Result.{err_from_is_err_and}
use Rattle.hp_meaning.specs.FrameRules.{column, measure_column}
use Rattle.hp_word.specs.RowRules.{by_left}
use Rattle.hp_meaning.proofs.GroupLemmas.{measures_none, measures_more, measures_stop}
use Rattle.hp_meaning.proofs.groups.grouped_rows.Goals as goal

pub loop-measure-init : goal.loop-measure-init
loop-measure-init c = search (rules, measures_none)

pub returns-in_err-measure_column : goal.returns-in_err-measure_column
returns-in_err-measure_column c =
    let p = err_from_is_err_and c.from_residual-in_err-measure_column.result c.from_residual-in_err-measure_column.ensures.1 in
    rw (p.1, p.2)
    (measures_stop c.args.key.now c.args.columns.now c.args.keys.now c.args.measures.now c.args.places.now c.loop-measure.measure-index c.measure-item.result
    (column c.args.key.now (by_left c.args.keys.now c.args.places.now)) c.loop-measure.made _ c.loop-measure-test.true c.measure-item.is c.loop-measure.invariant c.in_err-measure_column.ensures)

pub loop-measure-preserved : goal.loop-measure-preserved
loop-measure-preserved c =
    measures_more (measure_column c.args.columns.now c.args.keys.now c.args.places.now) c.args.measures.now c.loop-measure.measure-index c.measure-item.result
    (column c.args.key.now (by_left c.args.keys.now c.args.places.now)) c.in_ok-measure_column.field-0 c.loop-measure.made c.push-in-loop-measure.new.self
    c.loop-measure-test.true c.measure-item.is c.loop-measure.invariant c.in_ok-measure_column.ensures c.in_ok-push-2.ensures.ok
