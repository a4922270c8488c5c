-- What the ranks of a code do is what its program does, where its steps are carried.
use Rattle.std.proofs.Common.{◌≡◌, true, ℕ, ◌<◌, List, [], ◌∷◌}
use Rattle.std.specs.Prelude.{nat_lt}
use Rattle.std.specs.Bool.{IsTrue}
use Rattle.std.specs.List.{AllByRecursion, list_all}
use Rattle.std.proofs.lemmas.Bool.{and_parts, ltb-true}
use Rattle.hp_lattice.specs.declared.dist.Dist.{Dist}
use Rattle.hp_spmd.specs.declared.code.Code.{Code}
use Rattle.hp_program.specs.Programs.{Prog, operations, tests}
use Rattle.hp_air.specs.declared.slot.Slot.{Slot}
use Rattle.hp_air.specs.Kept.{are_below}
use Rattle.hp_parfor.specs.KeptParts.{are_parts, is_part_kept}
use Rattle.hp_parfor.specs.Parts.{Part}
use Rattle.hp_parfor.specs.PlacedParts.{PlacedParts}
use Rattle.hp_lowering.specs.CodeOf.{code_list}
use Rattle.hp_lowering.specs.PartCode.{is_part_built}
use Rattle.hp_lowering.specs.Room.{code_arrays}
use Rattle.hp_lowering.specs.RunLaws.{DoesParts}
use Rattle.hp_lowering.proofs.CarriesParts.{steps_are_carried}
use Rattle.hp_lowering.proofs.RunsParts.{ranks_agree, ranks_run_parts, ranks_stop}

all_below : (count : ℕ) (ws : List ℕ) → are_below count ws ≡ true → AllByRecursion (λ w. w < count) ws
all_below count [] h = tt
all_below count (w ∷ ws) h = let both = and_parts (nat_lt w count) (are_below count ws) h in (ltb-true w count both.0, all_below count ws both.1)

pub done_program : (slots : List Slot) (words : ℕ) (p : Prog Part) (dists : List Dist) (code : Code) → code.list ≡ code_list slots words p dists → code.arrays ≡ code_arrays slots p dists → IsTrue (are_parts slots words p) → PlacedParts slots p dists
    → AllByRecursion (λ part. IsTrue (is_part_built part)) (operations p) → DoesParts code slots words p dists
done_program slots words p dists code list arrays kept placed built =
    let looks = all_below words (tests p) (and_parts (list_all (is_part_kept slots words) (operations p)) (are_below words (tests p)) kept).1 in
    record {
      runs = λ tables ranks orders fuel k some logged enough. ranks_run_parts slots words p dists code tables ranks orders fuel k some list looks (steps_are_carried slots words p dists code tables ranks orders kept placed arrays built) logged enough;
      enough = λ tables ranks orders fuel k some logged stops enough. ranks_stop slots words p dists code tables ranks orders fuel k some list looks (steps_are_carried slots words p dists code tables ranks orders kept placed arrays built) logged stops enough;
      agree = λ tables ranks k some. ranks_agree slots words p dists code tables ranks some list looks (λ orders. steps_are_carried slots words p dists code tables ranks orders kept placed arrays built) k;
    }
