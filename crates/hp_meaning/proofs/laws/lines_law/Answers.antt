-- The law of the built statements is a lemma.
use Rattle.hp_meaning.proofs.LinesMeaning.{lines_mean}
use Rattle.hp_meaning.proofs.laws.lines_law.Goals as goal

pub returns : goal.returns
returns c = lines_mean
