use Rattle.hp_flat.proofs.SlotLaws.{are_apart_slots, are_found, are_kept_slots, copies_have, expressions_have, have_one_each, variables_have}
use Rattle.hp_flat.proofs.BoundScripts.{ask_the_same}
use Rattle.hp_flat.proofs.CarriedScripts.{are_carried}
use Rattle.hp_flat.proofs.GreatestScripts.{give_greatest}
use Rattle.hp_flat.proofs.NameScripts.{have_few_names}
use Rattle.hp_flat.proofs.RowScripts.{are_step_by_step}
use Rattle.hp_flat.proofs.ScriptMeanings.{have_one_meaning, mean_the_same}
use Rattle.hp_flat.proofs.ServedScripts.{are_served}
use Rattle.hp_flat.proofs.SlotBlocks.{all_are_kept}
use Rattle.hp_flat.proofs.SmallScripts.{are_small}
use Rattle.hp_flat.proofs.ToldScripts.{are_told}
use Rattle.hp_flat.proofs.laws.flat_laws.Goals as goal

pub returns-clause-found : goal.returns-clause-found
returns-clause-found c = are_found

pub returns-clause-apart : goal.returns-clause-apart
returns-clause-apart c = are_apart_slots

pub returns-clause-expressions : goal.returns-clause-expressions
returns-clause-expressions c = expressions_have

pub returns-clause-variables : goal.returns-clause-variables
returns-clause-variables c = variables_have

pub returns-clause-copies : goal.returns-clause-copies
returns-clause-copies c = copies_have

pub returns-clause-one_each : goal.returns-clause-one_each
returns-clause-one_each c = have_one_each

pub returns-clause-kept : goal.returns-clause-kept
returns-clause-kept c = are_kept_slots

pub returns-clause-told : goal.returns-clause-told
returns-clause-told c = are_told

pub returns-clause-served : goal.returns-clause-served
returns-clause-served c = are_served

pub returns-clause-step_by_step : goal.returns-clause-step_by_step
returns-clause-step_by_step c = are_step_by_step

pub returns-clause-carried : goal.returns-clause-carried
returns-clause-carried c = are_carried

pub returns-clause-constraints : goal.returns-clause-constraints
returns-clause-constraints c = ask_the_same

pub returns-clause-greatest : goal.returns-clause-greatest
returns-clause-greatest c = give_greatest

pub returns-clause-keeps : goal.returns-clause-keeps
returns-clause-keeps c = all_are_kept

pub returns-clause-small : goal.returns-clause-small
returns-clause-small c = are_small

pub returns-clause-few_names : goal.returns-clause-few_names
returns-clause-few_names c = have_few_names

pub returns-clause-meaning : goal.returns-clause-meaning
returns-clause-meaning c = mean_the_same

pub returns-clause-one_meaning : goal.returns-clause-one_meaning
returns-clause-one_meaning c = have_one_meaning
