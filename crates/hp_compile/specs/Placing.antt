-- The program of a script, and how its arrays lie on the ranks.
use Rattle.std.specs.Prelude.{◌≡◌, length, IsTrue}
use Rattle.hp_lattice.specs.declared.dist.Dists.{Dists}
use Rattle.hp_script.specs.declared.typed.Typed.{Typed}
use Rattle.hp_program.specs.Programs.{replaced}
use Rattle.hp_air.specs.Carried.{is_among}
use Rattle.hp_air.specs.Placed.{dist_at}
use Rattle.hp_air.specs.ScriptBounds.{script_bounds}
use Rattle.hp_air.specs.Unknowns.{unknowns}
use Rattle.hp_flat.specs.Flat.{flat_script}
use Rattle.hp_flat.specs.FlatLaws.{AreGreatest, HasOneEach}
use Rattle.hp_flat.specs.Homes.{homes_of, slot_of, slots_in, words_in}
use Rattle.hp_parfor.specs.declared.parfors.Parfors.{Parfors}
use Rattle.hp_parfor.specs.Built.{built}
use Rattle.hp_parfor.specs.CarriedParts.{CarriedParts}
use Rattle.hp_parfor.specs.Parts.{program_of}
use Rattle.hp_parfor.specs.PlacedParts.{PlacedParts}

-- The program with loops of a script, and the distributions of its slots. The program is the one that the script is flattened into,
-- with maps, reductions and stencils as loops; each array of the script has exactly one slot, and no other slot is; and it carries
-- the script. The distributions are one for each slot; they are, array by array, the greatest of the script's arrays that meet the
-- script's constraints, and the program can run by them.
pub record IsProgramOf (typed : Typed) (parfors : Parfors) (dists : Dists) : Type 0 where
  pub slots : parfors.slots ≡ slots_in (homes_of typed)
  pub words : parfors.words ≡ words_in (homes_of typed)
  pub steps : program_of parfors.body ≡ replaced built (flat_script typed)
  pub one_each : HasOneEach typed parfors.slots
  pub carried : CarriedParts typed parfors.slots (program_of parfors.body)
  pub greatest : AreGreatest (λ u. IsTrue (is_among (unknowns typed) u)) (script_bounds typed) (λ u. dist_at dists.list (slot_of (homes_of typed) u))
  pub each : length dists.list ≡ length parfors.slots
  pub lies : PlacedParts parfors.slots (program_of parfors.body) dists.list
