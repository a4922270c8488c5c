use Rattle.std.proofs.Common.{◌≡◌, rules, subst, sym}
use Rattle.hp_spmd.specs.Exchanges.{HasForm}
use Rattle.hp_parfor.specs.Parts.{program_of}
use Rattle.hp_lowering.specs.CodeOf.{code_list}
use Rattle.hp_lowering.proofs.CodeSmall.{is_code_with}
use Rattle.hp_lowering.proofs.DonePrograms.{done_program}
use Rattle.hp_lowering.proofs.PartForm.{lowered_has_form}
use Rattle.hp_lowering.proofs.PartLoops.{lowered_follows}
use Rattle.hp_lowering.proofs.lower.lower.Goals as goal

pub invariant_of-result : goal.invariant_of-result
invariant_of-result c =
    let parfors = c.args.parfors.now in
    let f = is_code_with parfors.slots parfors.words (program_of parfors.body) c.args.dists.now.list c.in_ok-list.list c.in_ok-words.words c.in_ok-arrays.arrays c.in_ok-loose.loose c.requires.placed.each parfors.kept parfors.small
    (search rules) (search rules) (search rules) (search rules) in
    record { small = f.small; ends = f.ends; within = f.within; targets = f.targets }

pub returns-clause-form : goal.returns-clause-form
returns-clause-form c =
    let parfors = c.args.parfors.now in
    let made : c.in_ok-list.list ≡ code_list parfors.slots parfors.words (program_of parfors.body) c.args.dists.now.list = search rules in
    subst HasForm (sym made) (lowered_has_form parfors.slots parfors.words (program_of parfors.body) c.args.dists.now.list)

pub returns-clause-follows : goal.returns-clause-follows
returns-clause-follows c =
    let parfors = c.args.parfors.now in
    λ built. lowered_follows parfors.slots parfors.words (program_of parfors.body) c.args.dists.now.list _ (search rules) (search rules) c.requires.placed.each built

pub returns-clause-does : goal.returns-clause-does
returns-clause-does c =
    let parfors = c.args.parfors.now in
    λ built. done_program parfors.slots parfors.words (program_of parfors.body) c.args.dists.now.list _ (search rules) (search rules) parfors.kept c.requires.placed built
