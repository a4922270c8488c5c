-- The only column that the loop made, or its trap.
use Rattle.std.proofs.Common.{◌≡◌, [], ◌∷◌, ◌++◌, List, map, refl, ap, ◌∙◌}
use Rattle.hp_word.specs.declared.elem.Elem.{Elem}
use Rattle.hp_word.specs.LoopRules.{sight_in}
use Rattle.hp_meaning.proofs.Answering.{traps}
use Rattle.hp_meaning.proofs.LoopLemmas.{loop_made, loop_traps, ran_told}
use Rattle.hp_meaning.proofs.loops.looped.Goals as goal

pub returns-in-Ok : goal.returns-in-Ok
returns-in-Ok c =
    let lets = c.as_slice.ensures.value ∙ c.in_ok-push.ensures.items ∙ ap (λ (l : List Elem). l ++ c.args.elem ∷ []) c.in_ok-lets.ensures.items in
    loop_made _ c.in-Ok.made c.only_column.result (ran_told (sight_in (map (λ a. a.now) c.args.arrays.now)) c.as_slice.result.now c.args.elem c.args.count _ _ lets c.in-Ok.is c.in_ok-ran.ensures) c.only_column.ensures

pub returns : goal.returns
returns c =
    let lets = c.as_slice.ensures.value ∙ c.in_ok-push.ensures.items ∙ ap (λ (l : List Elem). l ++ c.args.elem ∷ []) c.in_ok-lets.ensures.items in
    λ ne. traps _ _ c.in-Err.trap refl (loop_traps _ c.in-Err.trap (ran_told (sight_in (map (λ a. a.now) c.args.arrays.now)) c.as_slice.result.now c.args.elem c.args.count _ _ lets c.in-Err.is c.in_ok-ran.ensures))
