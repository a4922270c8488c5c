-- The program keeps its laws.
use Rattle.std.proofs.Common.{◌≡◌, ◌∙◌, ap, ℕ, List, [], ◌∷◌, ◌^◌, arith}
use Rattle.hp_word.specs.declared.place.Place.{Place}
use Rattle.hp_air.specs.declared.node.Node.{Node}
use Rattle.hp_air.specs.declared.node.Node.TheVariants.{Do}
use Rattle.hp_air.specs.declared.slot.Slot.{Slot}
use Rattle.hp_air.specs.declared.what.What.TheVariants.{Read}
use Rattle.hp_air.specs.Frames.{node_slot}
use Rattle.hp_constrain_tests.proofs.ReadingLemmas.{two_slots, one_read, read_in_order, read_kept, read_small, read_few}
use Rattle.hp_constrain_tests.proofs.rows.reading.Goals as goal

abbrev at : Place
at = record { line = 1; col = 1 }

pub invariant_of-result : goal.invariant_of-result
invariant_of-result c =
    let slots : c.from_vec-2.result ≡ two_slots =
    c.from_vec-2.ensures ∙ c.in_ok-vec-2.ensures.items ∙ ap (λ (s : Slot). s ∷ c.column-2.result ∷ []) c.column.ensures ∙ ap (λ (s : Slot). node_slot 0 0 ∷ s ∷ []) c.column-2.ensures in
    let body : c.from_vec-3.result ≡ one_read at =
    c.from_vec-3.ensures ∙ c.in_ok-vec-3.ensures.items
    ∙ ap (λ (ks : List ℕ). Do (record { at = at; what = Read ks 0 }) ∷ []) (c.from_vec.ensures ∙ c.in_ok-vec.ensures.items) in
    record {
      in_order = read_in_order _ slots;
      kept = read_kept _ _ at slots body;
      small = read_small _ at (2 ^ 24) body (omega arith);
      few_names = read_few _ _ at (2 ^ 30) slots body (omega arith);
    }
