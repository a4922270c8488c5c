-- The constructs that ranks can run today: all of words, of arrays and of the flow of control, none of frames and matrices.
use Rattle.std.specs.Prelude.{Bool, true, false}
use Rattle.hp_built.specs.declared.construct.Construct.{Construct}
use Rattle.hp_built.specs.declared.construct.Construct.TheVariants as construct

abbrev pub for_ranks : Construct → Bool
for_ranks construct.Arithmetic = true
for_ranks construct.Negation = true
for_ranks construct.Comparison = true
for_ranks construct.Lazy = true
for_ranks construct.ScalarCall = true
for_ranks construct.DottedArithmetic = true
for_ranks construct.DottedComparison = true
for_ranks construct.DottedLogic = true
for_ranks construct.Map = true
for_ranks construct.Fill = true
for_ranks construct.Collect = true
for_ranks construct.Length = true
for_ranks construct.Reduction = true
for_ranks construct.Count = true
for_ranks construct.Cumsum = true
for_ranks construct.Stencil = true
for_ranks construct.Element = true
for_ranks construct.Elements = true
for_ranks construct.Vcat = true
for_ranks construct.AssignWord = true
for_ranks construct.AssignArray = true
for_ranks construct.PrintWord = true
for_ranks construct.PrintArray = true
for_ranks construct.If = true
for_ranks construct.While = true
for_ranks _ = false
