-- The numbers are not too many, and the last of them is a word.
use Rattle.std.proofs.Common.{◌≤ℤ◌, ◌+ℤ◌, pos, w64, to_z, of_z, sym, ◌∙◌, arith}
use Rattle.std.proofs.lemmas.Int.{ints}
use Rattle.hp_meaning.proofs.SpanLemmas.{span_few, span_fits}
use Rattle.hp_meaning.proofs.lists.range_words.Goals as goal

pub span-requires-clause-few : goal.span-requires-clause-few
span-requires-clause-few c = span_few c.args.at (to_z w64 (of_z w64 c.args.first)) (to_z w64 (of_z w64 c.args.last)) c.in-Ok.count (sym c.range_count.ensures ∙ c.in-Ok.is)

pub span-requires-clause-fits : goal.span-requires-clause-fits
span-requires-clause-fits c =
    let low : to_z w64 (of_z w64 c.args.first) ≤ℤ pos 9223372036854775808 = omega (arith, ints) in
    let high : (to_z w64 (of_z w64 c.args.last) +ℤ pos 1) ≤ℤ pos 9223372036854775808 = omega (arith, ints) in
    span_fits c.args.at (to_z w64 (of_z w64 c.args.first)) (to_z w64 (of_z w64 c.args.last)) (pos 9223372036854775808) c.in-Ok.count low high (sym c.range_count.ensures ∙ c.in-Ok.is)
