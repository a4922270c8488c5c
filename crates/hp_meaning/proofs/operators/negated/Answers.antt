-- Such a loop never traps.
use Rattle.std.proofs.Common.{[], ◌∷◌, length, refl, pos}
use Rattle.hp_word.specs.declared.elem.Elem.TheVariants.{Input, Number}
use Rattle.hp_word.specs.declared.elem.Elem.TheViews.{Calc}
use Rattle.hp_word.specs.declared.place.Place.{Place}
use Rattle.hp_word.specs.declared.word.CalcOp.TheVariants.{Not}
use Rattle.hp_meaning.specs.Outcomes.{Gives}
use Rattle.hp_meaning.specs.WordRules.{negated}
use Rattle.hp_meaning.proofs.LoopForms.{negated_looped}
use Rattle.hp_meaning.proofs.LoopLemmas.{as_loop, gives_made}
use Rattle.hp_meaning.proofs.operators.negated.Goals as goal

pub returns-in-Ok : goal.returns-in-Ok
returns-in-Ok c =
    let xs = c.args.xs.now in
    let nowhere : Place = record { line = 0; col = 0 } in
    gives_made (negated xs) c.in-Ok.made c.looped.result c.in-Ok.is
    (as_loop _ (xs ∷ []) c.in_ok-elem.elem (Calc Not nowhere (Input 0) (Number (pos 0))) (length xs) (Gives (negated xs)) c.looped.result refl c.in_ok-elem.ensures (negated_looped nowhere xs) c.looped.ensures)
