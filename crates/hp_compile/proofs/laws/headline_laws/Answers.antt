use Rattle.hp_compile.proofs.AirHeadline.{air_end_is_held, air_is_over, air_is_written, built_means_as_air}
use Rattle.hp_compile.proofs.ScriptHeadline.{headline, script_is_over, script_is_written, script_programs_mean}
use Rattle.hp_compile.proofs.laws.headline_laws.Goals as goal

pub returns-clause-air : goal.returns-clause-air
returns-clause-air c = air_is_written

pub returns-clause-air_ends : goal.returns-clause-air_ends
returns-clause-air_ends c = air_end_is_held

pub returns-clause-air_over : goal.returns-clause-air_over
returns-clause-air_over c = air_is_over

pub returns-clause-air_built : goal.returns-clause-air_built
returns-clause-air_built c = built_means_as_air

pub returns-clause-script : goal.returns-clause-script
returns-clause-script c = script_is_written

pub returns-clause-script_over : goal.returns-clause-script_over
returns-clause-script_over c = script_is_over

pub returns-clause-script_built : goal.returns-clause-script_built
returns-clause-script_built c = script_programs_mean c.flat_laws.ensures.keeps c.flat_laws.ensures.meaning c.flat_laws.ensures.one_meaning

pub returns-clause-headline : goal.returns-clause-headline
returns-clause-headline c = headline (script_programs_mean c.flat_laws.ensures.keeps c.flat_laws.ensures.meaning c.flat_laws.ensures.one_meaning)
