use Rattle.std.proofs.Common.{◌≡◌, [], length, replicate, ap, ◌∙◌}
use Rattle.hp_meaning.specs.declared.line.Line.{Line}
use Rattle.hp_lattice.specs.declared.dist.Dist.TheVariants.{Block}
use Rattle.hp_lower.specs.Code.{names_after, lines_code}
use Rattle.hp_lower.proofs.LowerRuns.{IsCodeOf}
use Rattle.hp_lower.proofs.LowerSpread.{made_runs}
use Rattle.hp_lower.proofs.lower.lower.Goals as goal

pub returns-in-Ok-code_of-clause-runs : goal.returns-in-Ok-code_of-clause-runs
returns-in-Ok-code_of-clause-runs c =
    let made = c.in-Ok-code_of.ensures in
    let lines = c.in-Ok.lines.list in
    let is : IsCodeOf lines c.in-Ok-code_of.code = record {
      list = made.list ∙ ap (lines_code []) c.as_slice.ensures;
      words = made.words;
      arrays = made.arrays ∙ ap (λ ls. replicate (length (names_after [] ls)) Block) c.as_slice.ensures;
      loose = made.loose;
    } in
    made_runs c.args.script.now.body lines c.in-Ok-code_of.code c.in-Ok.ensures.told is c.in-Ok.ensures.reads
