-- The ledger is that of the blank.
use Rattle.hp_compile.proofs.greatest.greatest_dists.Given as goal

abbrev pub ghosts-settle : goal.ghosts-settle
ghosts-settle a = record { name = a.blank.name; parts = a.blank.parts }
