-- The run of the script's statements over what it is given, and its end.
use Rattle.std.proofs.Common.{◌≡◌}
use Rattle.std.proofs.lemmas.Result.{err_from_is_err_and}
use Rattle.hp_script.specs.Mirror.{block_of}
use Rattle.hp_meaning.specs.ReadCalls.{reads_of}
use Rattle.hp_meaning.specs.Running.{state_in}
use Rattle.hp_meaning.proofs.EndLemmas.{reads_are, eval_stops, eval_ends}
use Rattle.hp_meaning.proofs.seq.ended.Goals as goal

pub returns-in_err-status : goal.returns-in_err-status
returns-in_err-status c =
    let p = err_from_is_err_and c.from_residual-in_err-status.result c.from_residual-in_err-status.ensures.1 in
    let read : c.as_slice-3.result.now ≡ reads_of (block_of c.args.script.now.body) = reads_are c.as_slice-3.result.now c.add_reads_of.new.reads.items c.new-reads.result.items c.as_slice.result.now c.args.script.now.body c.as_slice-3.ensures.value c.in_ok-add_reads_of.ensures c.new-reads.ensures.items c.as_slice.ensures in
    rw (p.1, p.2) (eval_stops c.args.script.now.body c.as_slice-6.result.now c.args.tables.now.list c.as_slice-2.result.now c.as_slice-3.result.now c.args.orders.now.list c.as_slice-4.result.now c.args.fuel
    (state_in c.first_state-state.result) (state_in c.run.new.state) c.run.result c.in_err-status.field-0.0 c.as_slice-6.ensures c.as_slice-2.ensures read c.as_slice-4.ensures c.first_state-state.ensures c.run.ensures c.in_err-status.ensures)

pub returns : goal.returns
returns c =
    let read : c.as_slice-3.result.now ≡ reads_of (block_of c.args.script.now.body) = reads_are c.as_slice-3.result.now c.add_reads_of.new.reads.items c.new-reads.result.items c.as_slice.result.now c.args.script.now.body c.as_slice-3.ensures.value c.in_ok-add_reads_of.ensures c.new-reads.ensures.items c.as_slice.ensures in
    eval_ends c.args.script.now.body c.as_slice-6.result.now c.args.tables.now.list c.as_slice-2.result.now c.as_slice-3.result.now c.args.orders.now.list c.as_slice-4.result.now c.args.fuel
    (state_in c.first_state-state.result) (state_in c.run.new.state) c.run.result c.in_ok-status.status c.end_at.result c.as_slice-6.ensures c.as_slice-2.ensures read c.as_slice-4.ensures c.first_state-state.ensures c.run.ensures c.in_ok-status.ensures
    c.end_at.ensures.status c.end_at.ensures.out c.end_at.ensures.ticks c.end_at.ensures.bad
