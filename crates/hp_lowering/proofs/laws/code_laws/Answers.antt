use Rattle.hp_lowering.proofs.CodeForm.{code_has_form}
use Rattle.hp_lowering.proofs.CodeLists.{code_loops, code_packs}
use Rattle.hp_lowering.proofs.CodeSmall.{lowered_is_code}
use Rattle.hp_lowering.proofs.PartForm.{lowered_has_form, steps_straight, steps_work}
use Rattle.hp_lowering.proofs.PartLoops.{lowered_arrays, lowered_follows, lowered_loops}
use Rattle.hp_lowering.proofs.PartPacks.{lowered_packs}
use Rattle.hp_lowering.proofs.laws.code_laws.Goals as goal

pub returns-clause-form : goal.returns-clause-form
returns-clause-form c = code_has_form

pub returns-clause-packs : goal.returns-clause-packs
returns-clause-packs c = code_packs

pub returns-clause-loops : goal.returns-clause-loops
returns-clause-loops c = code_loops

pub returns-clause-straight : goal.returns-clause-straight
returns-clause-straight c = steps_straight

pub returns-clause-work : goal.returns-clause-work
returns-clause-work c = steps_work

pub returns-clause-lowered : goal.returns-clause-lowered
returns-clause-lowered c = lowered_has_form

pub returns-clause-sent : goal.returns-clause-sent
returns-clause-sent c = lowered_packs

pub returns-clause-looped : goal.returns-clause-looped
returns-clause-looped c = lowered_loops

pub returns-clause-laid : goal.returns-clause-laid
returns-clause-laid c = lowered_arrays

pub returns-clause-follows : goal.returns-clause-follows
returns-clause-follows c = lowered_follows

pub returns-clause-code : goal.returns-clause-code
returns-clause-code c = lowered_is_code
