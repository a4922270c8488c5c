-- The script that was read is the one in which a construct is not built.
use Rattle.std.proofs.Common.{rules, ◌≡◌}
use Rattle.hp_compile.proofs.script.script_for_ranks.Goals as goal

-- src/script.rt:18:1
pub returns-in-Some-clause-explains : goal.returns-in-Some-clause-explains
returns-in-Some-clause-explains c = record { typed = c.in-Ok.typed; fits = c.in-Ok.ensures.fits; first = search rules }
