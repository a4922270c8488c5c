-- The key of each group and then the measures so far.
use Rattle.hp_meaning.specs.FrameRules.{column, measure_column}
use Rattle.hp_word.specs.RowRules.{by_left}
use Rattle.hp_meaning.proofs.GroupLemmas.{HasMade}
use Rattle.hp_meaning.proofs.groups.grouped_rows.Given as goal

abbrev pub invariant-loop-measure : goal.invariant-loop-measure
invariant-loop-measure l = HasMade (measure_column l.columns l.keys l.places) l.measures l.measure-index (column l.key (by_left l.keys l.places)) l.made
