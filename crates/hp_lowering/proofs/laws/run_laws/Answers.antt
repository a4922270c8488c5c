use Rattle.hp_lowering.proofs.CarriesParts.{steps_are_carried}
use Rattle.hp_lowering.proofs.RunsParts.{ranks_agree, ranks_run_parts, ranks_stop}
use Rattle.hp_lowering.proofs.laws.run_laws.Goals as goal

pub returns-clause-runs : goal.returns-clause-runs
returns-clause-runs c = ranks_run_parts

pub returns-clause-stops : goal.returns-clause-stops
returns-clause-stops c = ranks_stop

pub returns-clause-agree : goal.returns-clause-agree
returns-clause-agree c = ranks_agree

pub returns-clause-carried : goal.returns-clause-carried
returns-clause-carried c = steps_are_carried
