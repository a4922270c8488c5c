-- The lists of the operations of a script in which no rule breaks.
use Rattle.std.proofs.Common.{◌≡◌, ℕ, List, Some, None, IsTrue, refl, sym, ◌∙◌}
use Rattle.std.specs.List.{list_all}
use Rattle.hp_word.specs.declared.place.Place.{Place}
use Rattle.hp_script.specs.declared.typed.Shape.{Shape}
use Rattle.hp_script.specs.declared.typed.Typed.{Typed}
use Rattle.hp_script.specs.Checked.{Checked}
use Rattle.hp_script.specs.Fitting.{FitsBlock, fits_done, fits_first, fits_again, fits_print, fits_export, fits_if, fits_while}
use Rattle.hp_script.specs.Mirror.{Tree, Block}
use Rattle.hp_script.specs.Scope.{Scope, shape_among}
use Rattle.hp_script.specs.Shaped.{IsOutside}
use Rattle.hp_script.proofs.TestLemmas.{bytes_same}
use Rattle.hp_script.proofs.TypingLaws.{sound}
use Rattle.hp_program.specs.Programs.{Prog, operations, choose as branch, joined}
use Rattle.hp_air.specs.declared.what.Op.{Op}
use Rattle.hp_air.specs.Kept.{has_lists}
use Rattle.hp_air.specs.Unknowns.{no_frame, number_of, shape_at, shape_named}
use Rattle.hp_flat.specs.Flat.{flat_at, flat_block, flat_script, store_code, print_code, export_code}
use Rattle.hp_flat.specs.Homes.{Homes, homes_in, homes_of, word_of}
use Rattle.hp_flat.proofs.FrameTypes.{proper}
use Rattle.hp_flat.proofs.ListCode.{Listed, listed_both, any_word, array_count, named_count, store_lists, print_lists, export_lists}
use Rattle.hp_flat.proofs.ListTrees.{listed}
use Rattle.hp_flat.proofs.Points.{KnownAt, known_before, at_statement, alone_block, known_script}
use Rattle.hp_flat.proofs.Throughout.{all_operations}
use Rattle.hp_flat.proofs.ToldScripts.{told_script}
use Rattle.hp_flat.proofs.ToldTypes.{ToldBlock}
use Rattle.hp_flat.proofs.VariableNames.{kept_with, kept_block, assigned_first, outside_block}

module _ (h : Homes) where
  stored : (at : Place) (x : List ℕ) (e : Tree) (a : Shape) → shape_at h.known (number_of e) ≡ Some a → shape_named h.known x ≡ Some a → Listed (store_code h at x e)
  stored at x e a is named = store_lists h at x e (named_count h x a named ∙ sym (array_count h (number_of e) a is))

  statement : (e : Tree) (code rest : Prog Op) → Listed (flat_at h e) → Listed code → Listed rest → Listed (joined (flat_at h e) (joined code rest))
  statement e code rest one own more = listed_both (flat_at h e) (joined code rest) one (listed_both code rest own more)

  pub block_listed : {s : Scope} {b : Block} {t : Scope} (f : FitsBlock s b t) → ToldBlock h.known f → IsOutside s → s.around ≡ None → KnownAt h.known t → Listed (flat_block h b)
  unfolding flat_block
  block_listed fits_done told out alone known = tt
  block_listed {s = s} (fits_first {at = at} {x = x} {e = e} {rest = rest} {a = a} p new next) told out alone known =
      statement e (store_code h at x e) (flat_block h rest) (listed h p told.0 no_frame (at_statement (fits_first {at = at} p new next) out alone known))
      (stored at x e a told.0.0 (known x a (kept_block next x a (assigned_first (shape_among s.vars x) s.vars x a (bytes_same x x refl) refl new))).0) (block_listed next told.1 out alone known)
  block_listed {s = s} (fits_again {at = at} {x = x} {e = e} {rest = rest} {a = a} p same next) told out alone known =
      statement e (store_code h at x e) (flat_block h rest) (listed h p told.0 no_frame (at_statement (fits_again {at = at} p same next) out alone known))
      (stored at x e a told.0.0 (known x a (kept_block next x a (kept_with (shape_among s.vars x) s.vars x a x a same))).0) (block_listed next told.1 out alone known)
  block_listed (fits_print {at = at} {e = e} {rest = rest} p can next) told out alone known =
      statement e (print_code h at e) (flat_block h rest) (listed h p told.0 no_frame (at_statement next out alone known)) (print_lists h at e) (block_listed next told.1 out alone known)
  block_listed (fits_export {at = at} {d = e} {rest = rest} {columns = columns} p next) told out alone known =
      let here = at_statement next out alone known in
      statement e (export_code h at e) (flat_block h rest) (listed h p told.0 no_frame here) (export_lists h at e columns told.0.0 (proper p out here.proper).0) (block_listed next told.1 out alone known)
  block_listed (fits_if {c = c} {body = body} {other = other} {rest = rest} p taken passed next) told out alone known =
      let inside = outside_block taken out in
      let within = alone_block taken alone in
      listed_both (flat_at h c) (branch (word_of h c) (flat_block h body) (flat_block h other) (flat_block h rest))
      (listed h p told.0 no_frame (at_statement taken out alone (known_before h.known passed (known_before h.known next known))))
      (refl, block_listed taken told.1 out alone (known_before h.known passed (known_before h.known next known)), block_listed passed told.2 inside within (known_before h.known next known), block_listed next told.3 (outside_block passed inside) (alone_block passed within) known)
  block_listed (fits_while {c = c} {body = body} {rest = rest} p turn next) told out alone known =
      (listed h p told.0 no_frame (at_statement turn out alone (known_before h.known next known)), refl, block_listed turn told.1 out alone (known_before h.known next known), block_listed next told.2 (outside_block turn out) (alone_block turn alone) known)

pub all_listed : (typed : Typed) → Checked typed → IsTrue (list_all (λ (op : Op). has_lists op.what) (operations (flat_script typed)))
unfolding flat_script homes_of homes_in
all_listed typed checked =
    let fit = sound typed checked in
    all_operations any_word has_lists (flat_script typed) (block_listed (homes_of typed) fit.fits (told_script typed checked fit.behind fit.fits) refl refl (known_script typed fit.behind fit.vars fit.fits))
