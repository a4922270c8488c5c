-- The program of the test, which reads a table of two columns, keeps its laws.
use Rattle.std.proofs.Common.{◌≡◌, ℕ, ◌<◌, List, [], ◌∷◌, IsTrue, refl, subst, sym, arith}
use Rattle.hp_word.specs.declared.place.Place.{Place}
use Rattle.hp_program.specs.Programs.{operations, tests}
use Rattle.hp_air.specs.declared.node.Node.{Node}
use Rattle.hp_air.specs.declared.node.Node.TheVariants.{Do}
use Rattle.hp_air.specs.declared.slot.Slot.{Slot}
use Rattle.hp_air.specs.declared.what.What.TheVariants.{Read}
use Rattle.hp_air.specs.Arrays.{arrays_of, outs, sides}
use Rattle.hp_air.specs.Frames.{node_slot}
use Rattle.hp_air.specs.Kept.{are_slots, are_kept, has_lists, moves_in, items_in, size_of, names_of}
use Rattle.hp_air.specs.Nodes.{program_of, node_of}

abbrev pub two_slots : List Slot
two_slots = node_slot 0 0 ∷ node_slot 0 1 ∷ []

abbrev pub one_read : Place → List Node
one_read at = Do (record { at = at; what = Read (0 ∷ 1 ∷ []) 0 }) ∷ []

pub read_in_order : (slots : List Slot) → slots ≡ two_slots → IsTrue (are_slots slots)
read_in_order slots is = subst (λ (l : List Slot). IsTrue (are_slots l)) (sym is) refl

kept_so : (at : Place) → IsTrue (are_kept two_slots 0 (program_of (one_read at)))
unfolding program_of node_of operations tests arrays_of outs sides has_lists
kept_so at = refl

pub read_kept : (slots : List Slot) (body : List Node) (at : Place) → slots ≡ two_slots → body ≡ one_read at → IsTrue (are_kept slots 0 (program_of body))
read_kept slots body at is body_is = rw (is, body_is) (kept_so at)

size_so : (at : Place) → size_of (program_of (one_read at)) ≡ 1
unfolding program_of node_of operations tests moves_in size_of
size_so at = refl

pub read_small : (body : List Node) (at : Place) (limit : ℕ) → body ≡ one_read at → 1 < limit → size_of (program_of body) < limit
read_small body at limit body_is lt = rw (body_is, size_so at) lt

names_so : (at : Place) → names_of two_slots 0 (program_of (one_read at)) ≡ 4
unfolding program_of node_of operations items_in names_of
names_so at = refl

pub read_few : (slots : List Slot) (body : List Node) (at : Place) (limit : ℕ) → slots ≡ two_slots → body ≡ one_read at → 4 < limit → names_of slots 0 (program_of body) < limit
read_few slots body at limit is body_is lt = rw (is, body_is, names_so at) lt
