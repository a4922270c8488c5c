-- The call is of a function that has a measure, or of none.
use Rattle.std.proofs.Common.{◌≡◌, Some}
use Rattle.hp_script.specs.Functions.{function_named}
use Rattle.hp_meaning.proofs.ArgumentLemmas.{measure_call}
use Rattle.hp_meaning.proofs.args.measure_of.Goals as goal

pub returns-in-Some : goal.returns-in-Some
returns-in-Some c =
    let function : Some c.in-Some.function ≡ function_named c.in-Call.dotted c.in-Call.name.bytes = cc in
    rw (measure_call c.args.x.now c.in-Call.name c.in-Call.dotted c.in-Call.args c.in-Some.function c.in-Call.is function) (rw c.as_slice-in-Some.ensures at c.measure_by.ensures)
