-- The engine makes what the rows are, or tells their trap.
use Rattle.std.proofs.Common.{[], List, ap, map, ◌∙◌}
use Rattle.hp_word.specs.declared.elem.Elem.{Elem}
use Rattle.hp_word.specs.LoopRules.{lets_after, rows_below}
use Rattle.hp_spmd.specs.declared.instr.Out.{Out}
use Rattle.hp_spmd.specs.LoopParts.{let_fold}
use Rattle.hp_spmd.specs.Loops.{lets_at, sight_at}
use Rattle.hp_spmd.specs.Store.{data_of}
use Rattle.hp_spmd.proofs.LocalMade.{engine_told, makes_all, traps_all}
use Rattle.hp_spmd.proofs.local.loops.made_below.Goals as goal

pub returns-in-Ok : goal.returns-in-Ok
unfolding lets_at
returns-in-Ok c =
    let rows = ap (λ (lets : List Elem). rows_below (λ i. lets_after (sight_at c.args.of.now (data_of c.args.store.now) i) [] lets) c.args.count) c.as_slice-lets.ensures in
    makes_all c.args.of.now c.args.height c.args.cuts.now (rows_below (lets_at c.args.of.now (data_of c.args.store.now)) c.args.count) _ _ c.in-Ok.made c.in_ok-as_pieces-in-Ok.field-0
    (c.as_slice-3.ensures.value ∙ c.in_ok-values.ensures ∙ ap (map (λ (o : Out). o.value)) c.as_slice.ensures)
    (c.as_slice-4.ensures.value ∙ c.in_ok-folds.ensures ∙ ap (map let_fold) c.as_slice-2.ensures)
    (engine_told _ _ _ _ _ _ rows c.in-Ok.is c.in_ok-made.ensures)
    c.in_ok-as_pieces-in-Ok.ensures.pieces c.in_ok-as_pieces-in-Ok.ensures.words

pub returns : goal.returns
unfolding lets_at
returns c =
    let rows = ap (λ (lets : List Elem). rows_below (λ i. lets_after (sight_at c.args.of.now (data_of c.args.store.now) i) [] lets) c.args.count) c.as_slice-lets.ensures in
    traps_all c.args.of.now c.args.height c.args.cuts.now (rows_below (lets_at c.args.of.now (data_of c.args.store.now)) c.args.count) _ _ c.in-Err.trap
    (engine_told c.as_slice-3.result.now c.as_slice-4.result.now _ _ _ _ rows c.in-Err.is c.in_ok-made.ensures)
