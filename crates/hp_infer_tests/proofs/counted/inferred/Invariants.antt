-- The ledger is that of the blank.
use Rattle.hp_infer_tests.proofs.counted.inferred.Given as goal

abbrev pub ghosts-steps_of : goal.ghosts-steps_of
ghosts-steps_of a = record { name = a.blank.name; parts = a.blank.parts }
