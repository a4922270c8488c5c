-- Programs of steps whose instructions are shown to do them.
use Rattle.hp_lowering.proofs.CarriesParts.{steps_are_carried}
use Rattle.hp_compile.specs.RanksLaws.{ProgramsAreCarried}

pub programs_are_carried : ProgramsAreCarried
programs_are_carried p r some few kept lies list arrays each =
    record {
      some = some;
      few = few;
      kept = kept;
      lies = lies;
      list = list;
      arrays = arrays;
      carried = λ orders. steps_are_carried p.slots p.words p.steps p.dists r.code r.tables r.count orders kept lies arrays each;
    }
