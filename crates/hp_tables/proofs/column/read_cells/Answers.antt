-- The column at hand gets its cell, and has no defect.
use Rattle.std.proofs.Common.{◌≡◌, ◌<◌, FitsSigned, w64, rules, ap, sym, ◌∙◌, length, arith, Some, get_or}
use Rattle.std.proofs.lemmas.Int.{to_z-of_z}
use Rattle.csv.specs.Records.{fields_of}
use Rattle.hp_tables.specs.declared.column.Column.{Column}
use Rattle.hp_tables.specs.Contents.{number_at}
use Rattle.hp_tables.proofs.ColumnLemmas.{grow_step, good_step}
use Rattle.hp_tables.proofs.column.read_cells.Goals as goal

pub loop-i-preserved : goal.loop-i-preserved
loop-i-preserved c =
    let row = fields_of c.args.row.now in
    let old = c.args.columns.now in
    let x = get_or c.loop-i.columns c.loop-i.i c.index-columns-i.result in
    let fits : FitsSigned w64 c.in-Some.value = search rules in
    let pushed = rw (to_z-of_z w64 c.in-Some.value fits) at c.in_ok-push-in-Some.ensures.ok in
    let there : number_at x.place row ≡ Some c.in-Some.value = sym c.number_at.ensures ∙ c.in-Some.is in
    let within : c.loop-i.i < length old = omega arith in
    let is : x ≡ get_or c.loop-i.columns c.loop-i.i x = ap (λ (z : Column). get_or c.loop-i.columns c.loop-i.i z) c.index-columns-i.is in (
      grow_step row old c.loop-i.columns c.loop-i.i x c.in-Some.value _ within c.loop-i.invariant.0 is there pushed,
      good_step row c.args.number old c.loop-i.columns c.loop-i.i x c.in-Some.value within c.loop-i.invariant.0 is there ∙ c.loop-i.invariant.1,
    )
