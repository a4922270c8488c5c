-- Where a script is refused since a variable may be unset, some run comes there and has not assigned it.
use Rattle.std.proofs.Common.{◌≡◌, ℕ, true, false, List, refl, ap, ◌∙◌, subst}
use Rattle.hp_word.specs.declared.place.Place.{Place}
use Rattle.hp_script.specs.declared.rule.Refusal.{Refusal}
use Rattle.hp_script.specs.declared.rule.Rule.TheVariants.{MaybeUnset}
use Rattle.hp_script.specs.Breaks.{broken}
use Rattle.hp_script.specs.Checked.{first_break}
use Rattle.hp_script.specs.Fitting.{FitsBlock, fits_done, fits_first, fits_again, fits_print, fits_export, fits_if, fits_while}
use Rattle.hp_script.specs.Mirror.{Tree, Block}
use Rattle.hp_script.specs.Runs.{Position, IsScopeAt, at_here, at_assign, at_print, at_export, at_first, at_second, at_if, at_turn, at_loop}
use Rattle.hp_script.specs.Scope.{Scope, has, is_set}
use Rattle.hp_script.specs.Told as law
use Rattle.hp_script.specs.Told.{refusal, Told, ToldAt}
use Rattle.hp_script.specs.Unset.{NamesAt, ReadsAt, by_assign, by_print, by_export, by_if, by_while, reads_past_assign, reads_past_print, reads_past_export, reads_in_first, reads_in_second, reads_past_if, reads_in_turn, reads_past_loop, IsUnset}
use Rattle.hp_script.proofs.RunLemmas.{missed_by_run}
use Rattle.hp_script.proofs.ToldBlocks.{script_told}
use Rattle.hp_script.proofs.UnsetTrees.{unset_in}

-- ---- the names that the script assigns are known alike everywhere

behind_assigned : {s t : Scope} {b : Block} → FitsBlock s b t → t.assigned ≡ s.assigned
behind_assigned fits_done = refl
behind_assigned (fits_first p is next) = behind_assigned next
behind_assigned (fits_again p is next) = behind_assigned next
behind_assigned (fits_print p can next) = behind_assigned next
behind_assigned (fits_export p next) = behind_assigned next
behind_assigned (fits_if p taken passed next) = behind_assigned next ∙ behind_assigned passed ∙ behind_assigned taken
behind_assigned (fits_while p taken next) = behind_assigned next ∙ behind_assigned taken

known_alike : {s t : Scope} {b : Block} {p : Position b} → IsScopeAt s b p t → t.assigned ≡ s.assigned
known_alike at_here = refl
known_alike (at_assign p i) = known_alike i
known_alike (at_print i) = known_alike i
known_alike (at_export i) = known_alike i
known_alike (at_first i) = known_alike i
known_alike (at_second taken i) = known_alike i ∙ behind_assigned taken
known_alike (at_if taken passed i) = known_alike i ∙ behind_assigned passed ∙ behind_assigned taken
known_alike (at_turn i) = known_alike i
known_alike (at_loop taken i) = known_alike i ∙ behind_assigned taken

-- ---- statements

-- a variable that some way does not set is read at the position
record UnsetAt (b : Block) (p : Position b) (s : Scope) (at : Place) : Type 0 where
  name : List ℕ
  read : ReadsAt b p at name
  known : has name s.assigned ≡ true
  missed : is_set s.ways name ≡ false

own_unset : {b : Block} {p : Position b} {s : Scope} {t : Tree} {r : Refusal} (at : Place) → ((x : List ℕ) → NamesAt t at x → ReadsAt b p at x) → Told s t r → r ≡ refusal at MaybeUnset → UnsetAt b p s at
own_unset at reads t e = let u = unset_in t at e in record { name = u.name; read = reads u.name u.read; known = u.known; missed = u.missed }

onward : {b c : Block} {p : Position b} {q : Position c} {s : Scope} {at : Place} → ((x : List ℕ) → ReadsAt b p at x → ReadsAt c q at x) → UnsetAt b p s at → UnsetAt c q s at
onward reads u = record { name = u.name; read = reads u.name u.read; known = u.known; missed = u.missed }

unset_at : {b : Block} {p : Position b} {s : Scope} {r : Refusal} → ToldAt b p s r → (at : Place) → r ≡ refusal at MaybeUnset → UnsetAt b p s at
unset_at (law.by_assign t) at e = own_unset at (λ x m. by_assign m) t e
unset_at (law.by_print t) at e = own_unset at (λ x m. by_print m) t e
unset_at (law.by_export t) at e = own_unset at (λ x m. by_export m) t e
unset_at (law.by_if t) at e = own_unset at (λ x m. by_if m) t e
unset_at (law.by_while t) at e = own_unset at (λ x m. by_while m) t e
unset_at (law.told_past_assign t) at e = onward (λ x m. reads_past_assign m) (unset_at t at e)
unset_at (law.told_past_print t) at e = onward (λ x m. reads_past_print m) (unset_at t at e)
unset_at (law.told_past_export t) at e = onward (λ x m. reads_past_export m) (unset_at t at e)
unset_at (law.told_in_first t) at e = onward (λ x m. reads_in_first m) (unset_at t at e)
unset_at (law.told_in_second t) at e = onward (λ x m. reads_in_second m) (unset_at t at e)
unset_at (law.told_past_if t) at e = onward (λ x m. reads_past_if m) (unset_at t at e)
unset_at (law.told_in_turn t) at e = onward (λ x m. reads_in_turn m) (unset_at t at e)
unset_at (law.told_past_loop t) at e = onward (λ x m. reads_past_loop m) (unset_at t at e)
unset_at _ at e = let rules = ap (λ (r : Refusal). r.rule) e in absurd cc

-- a variable that may be unset is refused where some run comes without having assigned it
pub unset_somewhere : (body : Block) (at : Place) → first_break body ≡ broken at MaybeUnset → IsUnset body at
unset_somewhere body at e =
    let t = script_told body (refusal at MaybeUnset) e in
    let u = unset_at t.tells at refl in
    let m = missed_by_run t.stands u.name u.missed in
    record {
      position = t.position;
      name = u.name;
      read = u.read;
      before = m.names;
      run = m.run;
      missed = m.missed;
      assigned = subst (λ (l : List (List ℕ)). has u.name l ≡ true) (known_alike t.stands) u.known;
    }
