-- The first rows of groups are those that the kernel found, by places from 1.
use Rattle.std.proofs.Common.{◌∙◌}
use Rattle.hp_meaning.proofs.JoinLemmas.{groups_told}
use Rattle.hp_meaning.proofs.groups.first_places.Goals as goal

pub returns-clause-ok : goal.returns-clause-ok
returns-clause-ok c = groups_told c.args.keys.now c.as_slice.result.now c.places_of.result (c.as_slice.ensures.value ∙ c.requires.firsts) c.places_of.ensures.ok
