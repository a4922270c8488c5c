-- What names come to: the value of a variable, copied into the slots of the expression where it is of arrays.
use Rattle.std.proofs.Common.{◌≡◌, ℕ, zero, suc, List, [], ◌∷◌, map, length, Option, Some, None, refl, sym, subst, ◌∙◌, arith}
use Rattle.std.proofs.lemmas.List.{length-map}
use Rattle.hp_word.specs.declared.order.Order.{Order}
use Rattle.hp_word.specs.declared.place.Place.{Place}
use Rattle.hp_word.specs.declared.table.Table.{Table}
use Rattle.hp_word.specs.Runs.{State}
use Rattle.hp_script.specs.Mirror.{Head, Tree, variable}
use Rattle.hp_script.specs.Nodes.{nodes_in}
use Rattle.hp_meaning.specs.declared.seen.Seen.{Seen}
use Rattle.hp_meaning.specs.declared.value.Value.{Value}
use Rattle.hp_meaning.specs.Outcomes.{Gives, Is, tick, given, ended}
use Rattle.hp_meaning.specs.Scopes.{Scope, value_named}
use Rattle.hp_meaning.specs.ValueOf.{value}
use Rattle.hp_program.specs.Programs.{run}
use Rattle.hp_air.specs.declared.slot.Slot.{Slot}
use Rattle.hp_air.specs.declared.what.What.TheVariants as what
use Rattle.hp_air.specs.Meaning.{does}
use Rattle.hp_air.specs.Unknowns.{Unknown, Columns, arrays_at, arrays_named, shape_at, width}
use Rattle.hp_air.specs.Wholes.{Env, with_slots}
use Rattle.hp_flat.specs.Flat.{flat}
use Rattle.hp_flat.specs.FlatCalls.{array_copy}
use Rattle.hp_flat.specs.Homes.{Homes, slot_of, slots_of, word_of, word_named}
use Rattle.hp_flat.specs.Standing.{Stands, HasMet, ComesToValue, comes_to, comes_to_none}
use Rattle.hp_flat.proofs.KeptHomes.{Within, within_same, keeps_all}
use Rattle.hp_flat.proofs.LastSteps.{AreApart, d, last_value}
use Rattle.hp_flat.proofs.SlotWrites.{copy_units, outs, AreAmong, copy_stands, value_written, value_keeps}
use Rattle.hp_flat.proofs.WordMeanings.{Means}

module _ (h : Homes) (slots : List Slot) (tables : List Table) (orders : List Order) (apart : AreApart h) where
  -- a copy of arrays where a value stands
  pub copied : {z : Tree} {n : Seen} {s : State Env ℕ} (at : Place) (id w : ℕ) (ins : List Unknown) (a : Value) → arrays_at h.known z ≡ outs h apart id 0 w → nodes_in z ≡ id ∷ [] → length ins ≡ w → AreAmong h apart id 0 w
      → Stands h s.env ins (word_of h z) a → HasMet s.env n.met → ComesToValue h z n s (Is a (tick n)) (run (d h slots tables orders) (array_copy h at (outs h apart id 0 w) ins) s)
  unfolding array_copy does run
  copied {z = z} {s = s} at id zero [] a home only many among stands met =
      comes_to (subst (λ (us : List Unknown). Stands h s.env us (word_of h z) a) (sym home) stands) (keeps_all h) (record { executed = met.executed; bad = met.bad }) (omega arith)
  copied at id zero (u ∷ ins) a home only many among stands met = absurd (omega (arith, many))
  copied {z = z} {n = n} {s = s} at id (suc w) ins a home only many among stands met =
      let os = slots_of h (outs h apart id 0 (suc w)) in
      let wholes = map s.env.slots (slots_of h ins) in
      let f = with_slots os wholes s.env in
      let own : Within (id ∷ []) (nodes_in z) = subst (Within (id ∷ [])) (sym only) within_same in
      let counted : length wholes ≡ suc w = length-map (slots_of h ins) s.env.slots ∙ (length-map ins (slot_of h) ∙ many) in
      last_value h slots tables orders {nodes = id ∷ []} {m = tick n} {left = 16} at (what.Copy os (slots_of h ins)) id a f own own
      (record { keeps = keeps_all h; met = record { executed = met.executed; bad = met.bad }; paid = omega arith }) (let few = copy_units slots os (slots_of h ins) in omega (arith, few)) refl refl
      (subst (λ (us : List Unknown). Stands h f us (word_of h z) a) (sym home) (copy_stands h s.env f (outs h apart id 0 (suc w)) ins (word_of h z) a (value_written h apart id (suc w) wholes s.env among counted) refl stands))
      (value_keeps h apart id (suc w) wholes s.env among) (record { executed = met.executed; bad = met.bad })

  -- the name of a variable
  pub variable_means : (around : Columns) (v : Scope) (n : Head) (x : List ℕ) → length (arrays_named h.known x) ≡ width (shape_at h.known n.id) → AreAmong h apart n.id 0 (width (shape_at h.known n.id)) → Means h slots tables orders around v (variable n x)
  unfolding value flat word_of word_named
  variable_means around v n x many among m s vars frame met = found (value_named x v.vars) refl
    where
      found : (a : Option Value) → value_named x v.vars ≡ a → ComesToValue h (variable n x) m s (ended (given (value_named x v.vars) Gives) (tick m)) (run (d h slots tables orders) (flat h around (variable n x)) s)
      found None is = subst (λ (b : Option Value). ComesToValue h (variable n x) m s (ended (given b Gives) (tick m)) (run (d h slots tables orders) (flat h around (variable n x)) s)) (sym is) comes_to_none
      found (Some a) is =
          subst (λ (b : Option Value). ComesToValue h (variable n x) m s (ended (given b Gives) (tick m)) (run (d h slots tables orders) (flat h around (variable n x)) s)) (sym is)
          (copied n.at n.id (width (shape_at h.known n.id)) (arrays_named h.known x) a refl refl many among (vars x a is) met)
