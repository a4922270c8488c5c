-- A program with loops that was built keeps its laws and means the same, over its slots and steps alone.
use Rattle.std.proofs.Common.{◌≡◌, ℕ, ◌+◌, ◌*◌, ◌≤◌, ◌<◌, List, [], ◌∷◌, flat_map, IsTrue, refl}
use Rattle.std.specs.List.{list_all}
use Rattle.hp_word.specs.declared.order.Order.{Order}
use Rattle.hp_word.specs.declared.place.Place.{Place}
use Rattle.hp_word.specs.declared.table.Table.{Table}
use Rattle.hp_lattice.specs.declared.dist.Dist.{Dist}
use Rattle.hp_script.specs.declared.typed.Typed.{Typed}
use Rattle.hp_program.proofs.Keeping.{first_holds, second_holds}
use Rattle.hp_program.proofs.Replaced.{operations_replaced}
use Rattle.hp_program.specs.Programs.{Prog, operations, replaced, EndsAs}
use Rattle.hp_air.specs.declared.slot.Slot.{Slot}
use Rattle.hp_air.specs.declared.what.Op.{Op}
use Rattle.hp_air.specs.declared.what.What.{What}
use Rattle.hp_air.specs.declared.what.What.TheVariants as what
use Rattle.hp_air.specs.Carried.{Carried}
use Rattle.hp_air.specs.Kept.{are_slots, are_kept, size_of, names_of}
use Rattle.hp_air.specs.Meaning.{Serves, SameMeaning, serves, ending, mean, work_of}
use Rattle.hp_air.specs.Placed.{Placed}
use Rattle.hp_parfor.specs.Built.{built_at, built, IsSameAtTrap}
use Rattle.hp_parfor.specs.CarriedParts.{CarriedParts}
use Rattle.hp_parfor.specs.KeptParts.{are_parts, parts_size, parts_names}
use Rattle.hp_parfor.specs.LoopMeaning.{PartsServed, part_serves, parts_mean, parts_work}
use Rattle.hp_parfor.specs.Parts.{Part}
use Rattle.hp_parfor.specs.PlacedParts.{PlacedParts}
use Rattle.hp_parfor.proofs.BuiltCarried.{built_carried}
use Rattle.hp_parfor.proofs.BuiltKept.{both, all_join, built_kept, built_small, built_few}
use Rattle.hp_parfor.proofs.BuiltMeaning.{built_ends, same_ending, no_more_work, lists_fit}
use Rattle.hp_parfor.proofs.BuiltPlaced.{built_placed}

-- ---- tables

part_served : (tables : List Table) (at : Place) (w : What) → IsTrue (serves tables w) → IsTrue (list_all (part_serves tables) (operations (built_at at w)))
unfolding operations built_at
part_served tables at (what.Map out ins elem) served = refl
part_served tables at (what.Reduce to kind array elem) served = refl
part_served tables at (what.Stencil out array balanced reach elem) served = refl
part_served tables at w served = both _ _ served refl

parts_served : (tables : List Table) (ops : List Op) → IsTrue (list_all (λ op. serves tables op.what) ops) → IsTrue (list_all (part_serves tables) (flat_map (λ op. operations (built op)) ops))
parts_served tables [] served = refl
parts_served tables (op ∷ ops) served =
    all_join (part_serves tables) (operations (built op)) _ (part_served tables op.at op.what (first_holds _ _ served)) (parts_served tables ops (second_holds _ _ served))

-- ---- a built program, whose slots and steps are these

module _ (slots : List Slot) (words : ℕ) (p : Prog Op) (kept : IsTrue (are_kept slots words p)) (made_slots : List Slot) (body : Prog Part) (same : made_slots ≡ slots) (exact : body ≡ replaced built p) where
  pub made_ends : (dists : List Dist) (tables : List Table) (orders : List Order) (fuel : ℕ) → EndsAs (λ e f. e ≡ f) IsSameAtTrap (mean slots p tables orders fuel) (parts_mean made_slots dists body tables orders fuel)
  made_ends dists tables orders fuel = rw (same, exact) (built_ends slots dists p tables orders fuel (lists_fit slots words (operations p) (first_holds _ _ kept)))

  pub made_means : SameMeaning (Serves p) (λ tables orders fuel. ending (mean slots p tables orders fuel)) (λ tables orders fuel. ending (parts_mean made_slots [] body tables orders fuel))
  made_means tables orders fuel served = same_ending (made_ends [] tables orders fuel)

  pub made_works : (tables : List Table) (orders : List Order) (fuel : ℕ) (dists : List Dist) → parts_work made_slots body tables orders fuel dists ≤ work_of (mean slots p tables orders fuel)
  made_works tables orders fuel dists = no_more_work (made_ends dists tables orders fuel)

  pub made_serves : (tables : List Table) → Serves p tables → PartsServed body tables
  made_serves tables served = rw (exact, operations_replaced built p) (parts_served tables (operations p) served)

  pub made_placed : (dists : List Dist) → Placed slots p dists → PlacedParts made_slots body dists
  made_placed dists placed = rw (same, exact) (built_placed slots words p dists kept placed)

  pub made_carried : (typed : Typed) → Carried typed slots p → CarriedParts typed made_slots body
  made_carried typed carried = rw (same, exact) (built_carried slots words p kept typed carried)

  pub made_in_order : IsTrue (are_slots slots) → IsTrue (are_slots made_slots)
  made_in_order ordered = rw same ordered

  pub made_kept : IsTrue (are_parts made_slots words body)
  made_kept = rw (same, exact) (built_kept slots words p kept)

  pub made_small : (a b : ℕ) → 3 * a ≤ b → size_of p < a → parts_size body < b
  made_small a b few small = rw exact (built_small p a b few small)

  pub made_few : (a b c : ℕ) → c + 5 * a ≤ b → size_of p < a → names_of slots words p < c → parts_names made_slots words body < b
  made_few a b c few small named = rw (same, exact) (built_few slots words p a b c few small named)
