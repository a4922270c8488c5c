-- The steps are those that stand for the program's, over its slots.
use Rattle.std.proofs.Common.{◌≡◌, ◌∙◌, ◌^◌, arith}
use Rattle.hp_program.specs.Programs.{replaced}
use Rattle.hp_air.specs.Nodes as air
use Rattle.hp_parfor.specs.Built.{built}
use Rattle.hp_parfor.specs.Parts.{program_of}
use Rattle.hp_parfor.proofs.BuildLemmas.{made_ends, made_means, made_works, made_serves, made_placed, made_carried, made_in_order, made_kept, made_small, made_few}
use Rattle.hp_parfor.proofs.build.build.Goals as goal

pub invariant_of-result : goal.invariant_of-result
invariant_of-result c =
    let same : c.in_ok-from_slice.field-0 ≡ c.args.air.now.slots = c.in_ok-from_slice.ensures ∙ c.as_slice-2.ensures in
    let exact : program_of c.in_ok-body.body ≡ replaced built (air.program_of c.args.air.now.body) = rw c.as_slice.ensures at c.in_ok-body.ensures in
    record {
      in_order = made_in_order c.args.air.now.slots c.args.air.now.words (air.program_of c.args.air.now.body) c.args.air.now.kept c.in_ok-from_slice.field-0 (program_of c.in_ok-body.body) same exact c.args.air.now.in_order;
      kept = made_kept c.args.air.now.slots c.args.air.now.words (air.program_of c.args.air.now.body) c.args.air.now.kept c.in_ok-from_slice.field-0 (program_of c.in_ok-body.body) same exact;
      small = made_small c.args.air.now.slots c.args.air.now.words (air.program_of c.args.air.now.body) c.args.air.now.kept c.in_ok-from_slice.field-0 (program_of c.in_ok-body.body) same exact (2 ^ 24) (2 ^ 26) (omega arith) c.args.air.now.small;
      few_names = made_few c.args.air.now.slots c.args.air.now.words (air.program_of c.args.air.now.body) c.args.air.now.kept c.in_ok-from_slice.field-0 (program_of c.in_ok-body.body) same exact (2 ^ 24) (2 ^ 31) (2 ^ 30) (omega arith) c.args.air.now.small c.args.air.now.few_names;
    }

pub returns-clause-means : goal.returns-clause-means
returns-clause-means c =
    made_means c.args.air.now.slots c.args.air.now.words (air.program_of c.args.air.now.body) c.args.air.now.kept c.in_ok-from_slice.field-0 (program_of c.in_ok-body.body)
    (c.in_ok-from_slice.ensures ∙ c.as_slice-2.ensures) (rw c.as_slice.ensures at c.in_ok-body.ensures)

pub returns-clause-ends : goal.returns-clause-ends
returns-clause-ends c =
    made_ends c.args.air.now.slots c.args.air.now.words (air.program_of c.args.air.now.body) c.args.air.now.kept c.in_ok-from_slice.field-0 (program_of c.in_ok-body.body)
    (c.in_ok-from_slice.ensures ∙ c.as_slice-2.ensures) (rw c.as_slice.ensures at c.in_ok-body.ensures)

pub returns-clause-serves : goal.returns-clause-serves
returns-clause-serves c =
    made_serves c.args.air.now.slots c.args.air.now.words (air.program_of c.args.air.now.body) c.args.air.now.kept c.in_ok-from_slice.field-0 (program_of c.in_ok-body.body)
    (c.in_ok-from_slice.ensures ∙ c.as_slice-2.ensures) (rw c.as_slice.ensures at c.in_ok-body.ensures)

pub returns-clause-work : goal.returns-clause-work
returns-clause-work c =
    made_works c.args.air.now.slots c.args.air.now.words (air.program_of c.args.air.now.body) c.args.air.now.kept c.in_ok-from_slice.field-0 (program_of c.in_ok-body.body)
    (c.in_ok-from_slice.ensures ∙ c.as_slice-2.ensures) (rw c.as_slice.ensures at c.in_ok-body.ensures)

pub returns-clause-placed : goal.returns-clause-placed
returns-clause-placed c =
    made_placed c.args.air.now.slots c.args.air.now.words (air.program_of c.args.air.now.body) c.args.air.now.kept c.in_ok-from_slice.field-0 (program_of c.in_ok-body.body)
    (c.in_ok-from_slice.ensures ∙ c.as_slice-2.ensures) (rw c.as_slice.ensures at c.in_ok-body.ensures)

pub returns-clause-carried : goal.returns-clause-carried
returns-clause-carried c =
    made_carried c.args.air.now.slots c.args.air.now.words (air.program_of c.args.air.now.body) c.args.air.now.kept c.in_ok-from_slice.field-0 (program_of c.in_ok-body.body)
    (c.in_ok-from_slice.ensures ∙ c.as_slice-2.ensures) (rw c.as_slice.ensures at c.in_ok-body.ensures)
