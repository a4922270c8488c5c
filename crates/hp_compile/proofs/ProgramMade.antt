-- What is built of a script's program, with the greatest distributions of its slots, is the program of the script.
use Rattle.std.proofs.Common.{◌≡◌, ◌≢◌, ℕ, ◌<◌, ◌≤◌, List, length, IsTrue, sym, subst, ap, ◌∙◌, arith}
use Rattle.std.specs.List.{AllByRecursion}
use Rattle.hp_lattice.specs.declared.dist.Dist.{Dist}
use Rattle.hp_lattice.specs.declared.dist.Dist.TheVariants.{Var}
use Rattle.hp_lattice.specs.declared.dist.Dists.{Dists}
use Rattle.hp_script.specs.declared.typed.Typed.{Typed}
use Rattle.hp_program.specs.Programs.{Prog, replaced}
use Rattle.hp_air.specs.declared.air.Air.{Air}
use Rattle.hp_air.specs.declared.slot.Slot.{Slot}
use Rattle.hp_air.specs.declared.what.Op.{Op}
use Rattle.hp_air.specs.Carried.{Carried, is_among}
use Rattle.hp_air.specs.Constraints.{IsSolution}
use Rattle.hp_air.specs.Frames.{balanced_copies}
use Rattle.hp_air.specs.Kept.{are_kept}
use Rattle.hp_air.specs.Nodes.{program_of}
use Rattle.hp_air.specs.Placed.{Placed as CanRunBy, dist_at, program_bounds}
use Rattle.hp_air.specs.ScriptBounds.{script_bounds}
use Rattle.hp_air.specs.Unknowns.{unknowns}
use Rattle.hp_flat.specs.Flat.{flat_script}
use Rattle.hp_flat.specs.FlatLaws.{AreGreatest, AsksTheSame, GivesGreatest, HasOneEach}
use Rattle.hp_flat.specs.Homes.{homes_of, slot_of, slots_in, words_in}
use Rattle.hp_parfor.specs.declared.parfors.Parfors.{Parfors}
use Rattle.hp_parfor.specs.Built.{built}
use Rattle.hp_parfor.specs.CarriedParts.{CarriedParts}
use Rattle.hp_parfor.specs.Parts.{program_of as steps_of}
use Rattle.hp_parfor.specs.PlacedParts.{PlacedParts}
use Rattle.hp_compile.specs.Placing.{IsProgramOf}
use Rattle.hp_compile.proofs.EvenDists.{copies_even}

-- distributions that solve the constraints of a program are such that it can run by them
abbrev pub SolvedPlaced : Type 0
SolvedPlaced = (slots : List Slot) (words : ℕ) (p : Prog Op) (dists : List Dist) → IsTrue (are_kept slots words p) → length slots ≤ length dists
    → AllByRecursion (λ k. dist_at dists k ≢ Var) (balanced_copies slots) → IsSolution (dist_at dists) (program_bounds slots p) → CanRunBy slots p dists

module _ (solved : SolvedPlaced) (typed : Typed) (air : Air) (dists : Dists) (parfors : Parfors) where
  pub can_run : length dists.list ≡ length air.slots → AsksTheSame typed air.slots (program_of air.body) → AreGreatest (λ k. k < length air.slots) (program_bounds air.slots (program_of air.body)) (dist_at dists.list)
      → CanRunBy air.slots (program_of air.body) dists.list
  can_run many asks greatest =
      solved air.slots air.words (program_of air.body) dists.list air.kept (omega (arith, many)) (copies_even typed air.slots (program_of air.body) (dist_at dists.list) air.in_order asks greatest) greatest.solution

  pub program_made : air.slots ≡ slots_in (homes_of typed) → air.words ≡ words_in (homes_of typed) → program_of air.body ≡ flat_script typed → HasOneEach typed air.slots → Carried typed air.slots (program_of air.body)
      → AsksTheSame typed air.slots (program_of air.body) → GivesGreatest typed air.slots (program_of air.body)
      → length dists.list ≡ length air.slots → AreGreatest (λ k. k < length air.slots) (program_bounds air.slots (program_of air.body)) (dist_at dists.list)
      → parfors.slots ≡ air.slots → parfors.words ≡ air.words → steps_of parfors.body ≡ replaced built (program_of air.body)
      → ((list : List Dist) → CanRunBy air.slots (program_of air.body) list → PlacedParts parfors.slots (steps_of parfors.body) list)
      → ((of_it : Typed) → Carried of_it air.slots (program_of air.body) → CarriedParts of_it parfors.slots (steps_of parfors.body))
      → IsProgramOf typed parfors dists
  program_made slots words body one_each carries asks gives many greatest same_slots same_words steps lies carried =
      record {
        slots = same_slots ∙ slots;
        words = same_words ∙ words;
        steps = steps ∙ ap (replaced built) body;
        one_each = subst (HasOneEach typed) (sym same_slots) one_each;
        carried = carried typed carries;
        greatest = gives (dist_at dists.list) greatest;
        each = many ∙ ap length (sym same_slots);
        lies = lies dists.list (can_run many asks greatest);
      }
