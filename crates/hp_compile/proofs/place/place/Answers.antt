-- What is made is the program of the script, and lies by its greatest distributions.
use Rattle.hp_compile.proofs.ProgramMade.{program_made}
use Rattle.hp_compile.proofs.place.place.Goals as goal

-- src/place.rt:25:1
pub returns : goal.returns
returns c =
    program_made c.constraint_laws.ensures.solved_placed c.args.typed.now c.in_ok-air.air c.in_ok-dists.dists c.in_ok-parfors.parfors
    c.in_ok-air.ensures.slots c.in_ok-air.ensures.words c.in_ok-air.ensures.body c.in_ok-air.ensures.one_each c.in_ok-air.ensures.carried c.in_ok-air.ensures.constraints c.in_ok-air.ensures.greatest
    c.in_ok-dists.ensures.each c.in_ok-dists.ensures.greatest
    c.in_ok-parfors.ensures.slots c.in_ok-parfors.ensures.words c.in_ok-parfors.ensures.exact c.in_ok-parfors.ensures.placed c.in_ok-parfors.ensures.carried
