-- The program of a script in which no rule breaks carries it.
use Rattle.hp_air.specs.Unknowns.{constructs}
use Rattle.hp_flat.specs.FlatLaws.{AreCarried}
use Rattle.hp_flat.proofs.CarriedSteps.{carried_so}
use Rattle.hp_flat.proofs.DoneOnce.{all_done}
use Rattle.hp_flat.proofs.MadeOnce.{made_once}
use Rattle.hp_flat.proofs.OwedBlocks.{script_sound, script_makes}
use Rattle.hp_flat.proofs.RowScripts.{are_step_by_step}

pub are_carried : AreCarried
are_carried typed checked =
    let follows = are_step_by_step typed checked in
    let done = all_done (constructs typed) follows (made_once typed) (constructs typed) (λ k c e. (k, e)) (script_makes typed checked) in
    let both = carried_so follows (script_sound typed checked) done in
    record { steps = both.0; loops = both.1 }
