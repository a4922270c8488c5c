-- The operations of a script's program follow its constructs.
use Rattle.std.proofs.Common.{◌≡◌, ℕ, zero, suc, false, List, [], ◌∷◌, slice_get, Some, None, IsTrue, refl, sym, ap, subst, ◌∙◌, append-nil}
use Rattle.std.specs.Prelude.{slice_index_or}
use Rattle.std.specs.List.{AllByRecursion}
use Rattle.hp_script.specs.declared.typed.Shape.{Shape}
use Rattle.hp_script.specs.declared.typed.Typed.{Typed}
use Rattle.hp_script.specs.declared.typed.Var.{Var}
use Rattle.hp_script.specs.Mirror.{block_of}
use Rattle.hp_script.specs.Scope.{shape_among}
use Rattle.hp_script.proofs.TypingLaws.{sound}
use Rattle.hp_air.specs.declared.slot.Slot.{Slot}
use Rattle.hp_air.specs.Arrays.{Arrays, Stencil}
use Rattle.hp_air.specs.Carried.{IsItem, is_among}
use Rattle.hp_air.specs.Unknowns.{Unknown, of_node, of_variable, balanced_of, of_nothing, same_unknown, balanced_by, unknown_of, known_of, shape_named, constructs, unknowns}
use Rattle.hp_flat.specs.FlatLaws.{AreStepByStep}
use Rattle.hp_flat.specs.Flat.{flat_script}
use Rattle.hp_flat.specs.Homes.{homes_of, homes_in, slots_in, slot_of, slot_for}
use Rattle.hp_flat.proofs.ArrayBlocks.{IsArray}
use Rattle.hp_flat.proofs.RowBlocks.{block_rows}
use Rattle.hp_flat.proofs.RowSteps.{Back, back, row, rows, HasSlots}
use Rattle.hp_flat.proofs.SlotLaws.{are_found, copies_have, expressions_have, variables_have, stands_back}
use Rattle.hp_flat.proofs.ToldScripts.{told_script}
use Rattle.hp_flat.proofs.VariableNames.{named_among}

-- ---- slots of the script's arrays

pub stands_at : (slots : List Slot) (k : ℕ) (slot other : Slot) → slice_get slots k ≡ Some slot → slice_index_or slots k other ≡ slot
stands_at [] k slot other e = absurd cc
stands_at (s ∷ slots) zero slot other e = cc
stands_at (s ∷ slots) (suc k) slot other e = stands_at slots k slot other e

-- what is among arrays is one
never_nothing : {A : Type 0} (us : List Unknown) → IsTrue (is_among us of_nothing) → A
unfolding same_unknown
never_nothing [] is = absurd cc
never_nothing (u ∷ us) is = never_nothing us is

is_array : (us : List Unknown) (u : Unknown) → IsTrue (is_among us u) → IsArray u
is_array us (of_variable v c) is = tt
is_array us (of_node n c) is = tt
is_array us (balanced_of n) is = tt
is_array us of_nothing is = never_nothing us is

module _ (typed : Typed) where
  pub among_back : (u : Unknown) → IsTrue (is_among (unknowns typed) u) → Back (homes_of typed) (slots_in (homes_of typed)) u
  unfolding back
  among_back u is =
      let h = homes_of typed in
      ap unknown_of (stands_at (slots_in h) (slot_of h u) (slot_for (known_of typed) u) (record { node = None; var = None; column = 0; matrix = false; balanced = false }) (are_found typed u is))
      ∙ stands_back (known_of typed) u (is_array (unknowns typed) u is)

  pub have_slots : HasSlots (homes_of typed) (slots_in (homes_of typed))
  unfolding homes_of homes_in
  have_slots = record {
    node = λ k c less. among_back (of_node k c) (expressions_have typed k c less);
    variable = λ k var c at less. among_back (of_variable k c) (variables_have typed k var c at less);
  }

  copy_back : (c : Arrays Unknown) → IsItem (constructs typed) c → AllByRecursion (Back (homes_of typed) (slots_in (homes_of typed))) (balanced_by c)
  copy_back (Stencil out array copy) item = (among_back copy (copies_have typed out array copy item), tt)
  copy_back _ item = tt

pub all_items : {A : Type 0} (P : A → Type 0) (xs : List A) → ((x : A) → IsItem xs x → P x) → AllByRecursion P xs
all_items P [] each = tt
all_items P (x ∷ xs) each = (each x (zero, refl), all_items P xs (λ y item. each y (suc item.0, item.1)))

pub are_step_by_step : AreStepByStep
unfolding flat_script homes_of homes_in constructs rows row back
are_step_by_step typed checked =
    let h = homes_of typed in
    let fit = sound typed checked in
    let body = block_of typed.script.body in
    let known : (x : List ℕ) (a : Shape) → shape_among fit.behind.vars x ≡ Some a → shape_named (known_of typed) x ≡ Some a =
    λ x a e. named_among typed.vars typed.shapes x ∙ ap (λ (vars : List Var). shape_among vars x) fit.vars ∙ e in
    let all = all_items (λ (c : Arrays Unknown). AllByRecursion (Back h (slots_in h)) (balanced_by c)) (constructs typed) (λ c item. copy_back typed c item) in
    let ended = subst (λ (l : List (Arrays Unknown)). AllByRecursion (λ (c : Arrays Unknown). AllByRecursion (Back h (slots_in h)) (balanced_by c)) l) (sym (append-nil (constructs typed))) all in
    ((block_rows h (slots_in h) (have_slots typed) fit.fits (told_script typed checked fit.behind fit.fits) refl known).take [] [] ended).0
