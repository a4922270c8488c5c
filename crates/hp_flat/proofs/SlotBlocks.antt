-- The slots and words of the operations of a script in which no rule breaks, statement by statement; so every operation of
-- its program keeps the laws of operations.
use Rattle.std.proofs.Common.{◌≡◌, ℕ, List, ◌++◌, Option, Some, None, refl, subst}
use Rattle.std.specs.List.{AllByRecursion}
use Rattle.hp_script.specs.declared.typed.Shape.{Shape}
use Rattle.hp_script.specs.declared.typed.Shape.TheVariants.{Bool as Truth}
use Rattle.hp_script.specs.declared.typed.Typed.{Typed}
use Rattle.hp_script.specs.Fitting.{FitsBlock, fits_done, fits_first, fits_again, fits_print, fits_export, fits_if, fits_while}
use Rattle.hp_script.specs.Mirror.{Tree, Block}
use Rattle.hp_script.specs.Nodes.{nodes_in, nodes_of}
use Rattle.hp_script.specs.Scope.{Scope, shape_among}
use Rattle.hp_script.specs.Shaped.{IsOutside}
use Rattle.hp_script.proofs.TestLemmas.{bytes_same}
use Rattle.hp_script.proofs.TypingLaws.{sound}
use Rattle.hp_program.specs.Programs.{Prog, choose as branch, joined}
use Rattle.hp_air.specs.declared.what.Op.{Op}
use Rattle.hp_air.specs.Arrays.{Arrays, Stencil}
use Rattle.hp_air.specs.Carried.{IsItem}
use Rattle.hp_air.specs.Unknowns.{Unknown, arrays_at, arrays_named, balanced_by, copied, constructs, constructs_in, constructs_of, known_of, no_frame, number_of, shape_at, shape_named}
use Rattle.hp_flat.specs.Flat.{flat_at, flat_block, flat_script, store_code, print_code, export_code}
use Rattle.hp_flat.specs.Homes.{Homes, homes_of, is_matrix, slots_in, slots_of, word_of, words_in}
use Rattle.hp_flat.specs.KeptLaws.{AreKept}
use Rattle.hp_flat.proofs.ListScripts.{all_listed}
use Rattle.hp_flat.proofs.Points.{AtPoint, KnownAt, known_before, at_statement, alone_block, known_script}
use Rattle.hp_flat.proofs.RowScripts.{all_items}
use Rattle.hp_flat.proofs.SlotCode.{Slotted, slotted_both, is_below, part_word}
use Rattle.hp_flat.proofs.SlotLaws.{copies_have, numbered}
use Rattle.hp_flat.proofs.SlotRows.{HasCopy, slotted}
use Rattle.hp_flat.proofs.SlotScripts.{kept_from}
use Rattle.hp_flat.proofs.SlotTables.{store_slots, print_slots, export_slots}
use Rattle.hp_flat.proofs.SlotTrees.{Here}
use Rattle.hp_flat.proofs.SlotValues.{Value, named_value}
use Rattle.hp_flat.proofs.ToldScripts.{told_script}
use Rattle.hp_flat.proofs.ToldTypes.{ToldBlock}
use Rattle.hp_flat.proofs.TreeParts.{Has, Once, Sits, apart, once_left, once_right, sits}
use Rattle.hp_flat.proofs.VariableNames.{kept_with, kept_block, assigned_first, outside_block}

module _ (typed : Typed) where
  abbrev h : Homes
  h = homes_of typed

  -- each number stands once, and each stencil has its balanced copy
  abbrev Single : List ℕ → Type 0
  Single ns = Once (known_of typed) (HasCopy typed) ns

  abbrev Copied : List (Arrays Unknown) → Type 0
  Copied cs = Has (known_of typed) (HasCopy typed) cs

  left : (ns ms : List ℕ) → Single (ns ++ ms) → Single ns
  left ns ms once = once_left (known_of typed) (HasCopy typed) ns ms once

  right : (ns ms : List ℕ) → Single (ns ++ ms) → Single ms
  right ns ms once = once_right (known_of typed) (HasCopy typed) ns ms once

  parts : (cs ds : List (Arrays Unknown)) → Copied (cs ++ ds) → Copied cs × Copied ds
  parts cs ds all = apart (known_of typed) (HasCopy typed) cs ds all

  sits_at : (e : Tree) → Single (nodes_in e) → Copied (constructs_in (known_of typed) no_frame e) → Sits (known_of typed) (HasCopy typed) e
  sits_at e once all = sits (known_of typed) (HasCopy typed) e no_frame once all

  here_at : {s : Scope} → AtPoint (known_of typed) s no_frame → Here typed s no_frame
  here_at at = record { at = at; fine = tt; grid = tt; many = refl }

  stored : (x : List ℕ) (a : Shape) → shape_named (known_of typed) x ≡ Some a → Value typed (is_matrix (Some a)) (slots_of h (arrays_named (known_of typed) x))
  stored x a is = subst (λ (o : Option Shape). Value typed (is_matrix o) (slots_of h (arrays_named (known_of typed) x))) is (named_value typed x)

  statement : (e : Tree) (code rest : Prog Op) → Slotted typed (flat_at h e) → Slotted typed code → Slotted typed rest → Slotted typed (joined (flat_at h e) (joined code rest))
  statement e code rest one own more = slotted_both typed (flat_at h e) (joined code rest) one (slotted_both typed code rest own more)

  assigned : (at : _) (x : List ℕ) (e : Tree) (rest : Block) (a : Shape) → Single (nodes_in e ++ nodes_of rest) → Copied (constructs_in (known_of typed) no_frame e ++ copied (arrays_named (known_of typed) x) (arrays_at (known_of typed) e) ++ constructs_of (known_of typed) rest)
      → (Sits (known_of typed) (HasCopy typed) e → Slotted typed (flat_at h e)) → (Single (nodes_of rest) → Copied (constructs_of (known_of typed) rest) → Slotted typed (flat_block h rest))
      → shape_at (known_of typed) (number_of e) ≡ Some a → shape_named (known_of typed) x ≡ Some a → Slotted typed (joined (flat_at h e) (joined (store_code h at x e) (flat_block h rest)))
  assigned at x e rest a once all one more is named =
      let copy = copied (arrays_named (known_of typed) x) (arrays_at (known_of typed) e) in
      let halves = parts (constructs_in (known_of typed) no_frame e ++ copy) (constructs_of (known_of typed) rest) all in
      let own = parts (constructs_in (known_of typed) no_frame e) copy halves.0 in
      statement e (store_code h at x e) (flat_block h rest) (one (sits_at e (left (nodes_in e) (nodes_of rest) once) own.0)) (store_slots typed at x e a is (stored x a named))
      (more (right (nodes_in e) (nodes_of rest) once) halves.1)

  block_slotted : {s : Scope} {b : Block} {t : Scope} (f : FitsBlock s b t) → ToldBlock (known_of typed) f → IsOutside s → s.around ≡ None → KnownAt (known_of typed) t → Single (nodes_of b) → Copied (constructs_of (known_of typed) b)
      → Slotted typed (flat_block h b)
  unfolding flat_block nodes_of constructs_of
  block_slotted fits_done told out alone known once all = tt
  block_slotted {s = s} (fits_first {at = at} {x = x} {e = e} {rest = rest} {a = a} p new next) told out alone known once all =
      assigned at x e rest a once all (λ its. slotted typed p told.0 its no_frame (here_at (at_statement (fits_first {at = at} p new next) out alone known))) (λ single copies. block_slotted next told.1 out alone known single copies)
      told.0.0 (known x a (kept_block next x a (assigned_first (shape_among s.vars x) s.vars x a (bytes_same x x refl) refl new))).0
  block_slotted {s = s} (fits_again {at = at} {x = x} {e = e} {rest = rest} {a = a} p same next) told out alone known once all =
      assigned at x e rest a once all (λ its. slotted typed p told.0 its no_frame (here_at (at_statement (fits_again {at = at} p same next) out alone known))) (λ single copies. block_slotted next told.1 out alone known single copies)
      told.0.0 (known x a (kept_block next x a (kept_with (shape_among s.vars x) s.vars x a x a same))).0
  block_slotted (fits_print {at = at} {e = e} {rest = rest} {a = a} p can next) told out alone known once all =
      let halves = parts (constructs_in (known_of typed) no_frame e) _ all in
      statement e (print_code h at e) (flat_block h rest) (slotted typed p told.0 (sits_at e (left (nodes_in e) (nodes_of rest) once) halves.0) no_frame (here_at (at_statement next out alone known)))
      (print_slots typed at e a told.0.0 can) (block_slotted next told.1 out alone known (right (nodes_in e) (nodes_of rest) once) halves.1.1)
  block_slotted (fits_export {at = at} {d = e} {rest = rest} {columns = columns} p next) told out alone known once all =
      let halves = parts (constructs_in (known_of typed) no_frame e) _ all in
      statement e (export_code h at e) (flat_block h rest) (slotted typed p told.0 (sits_at e (left (nodes_in e) (nodes_of rest) once) halves.0) no_frame (here_at (at_statement next out alone known)))
      (export_slots typed at e columns told.0.0) (block_slotted next told.1 out alone known (right (nodes_in e) (nodes_of rest) once) halves.1.1)
  block_slotted (fits_if {c = c} {body = body} {other = other} {rest = rest} p taken passed next) told out alone known once all =
      let g = known_of typed in
      let before = nodes_in c ++ nodes_of body in
      let front = constructs_in g no_frame c ++ constructs_of g body in
      let halves = parts (front ++ constructs_of g other) (constructs_of g rest) all in
      let arms = parts front (constructs_of g other) halves.0 in
      let own = parts (constructs_in g no_frame c) (constructs_of g body) arms.0 in
      let single = left (before ++ nodes_of other) (nodes_of rest) once in
      let inner = left before (nodes_of other) single in
      let inside = outside_block taken out in
      let within = alone_block taken alone in
      slotted_both typed (flat_at h c) (branch (word_of h c) (flat_block h body) (flat_block h other) (flat_block h rest))
      (slotted typed p told.0 (sits_at c (left (nodes_in c) (nodes_of body) inner) own.0) no_frame (here_at (at_statement taken out alone (known_before g passed (known_before g next known))))) (
        is_below typed (word_of h c) (part_word typed c Truth told.0.0),
        block_slotted taken told.1 out alone (known_before g passed (known_before g next known)) (right (nodes_in c) (nodes_of body) inner) own.1,
        block_slotted passed told.2 inside within (known_before g next known) (right before (nodes_of other) single) arms.1,
        block_slotted next told.3 (outside_block passed inside) (alone_block passed within) known (right (before ++ nodes_of other) (nodes_of rest) once) halves.1,
      )
  block_slotted (fits_while {c = c} {body = body} {rest = rest} p turn next) told out alone known once all =
      let g = known_of typed in
      let halves = parts (constructs_in g no_frame c ++ constructs_of g body) (constructs_of g rest) all in
      let own = parts (constructs_in g no_frame c) (constructs_of g body) halves.0 in
      let single = left (nodes_in c ++ nodes_of body) (nodes_of rest) once in (
        slotted typed p told.0 (sits_at c (left (nodes_in c) (nodes_of body) single) own.0) no_frame (here_at (at_statement turn out alone (known_before g next known))),
        is_below typed (word_of h c) (part_word typed c Truth told.0.0),
        block_slotted turn told.1 out alone (known_before g next known) (right (nodes_in c) (nodes_of body) single) own.1,
        block_slotted next told.2 (outside_block turn out) (alone_block turn alone) known (right (nodes_in c ++ nodes_of body) (nodes_of rest) once) halves.1,
      )

  copy_has : (c : Arrays Unknown) → IsItem (constructs typed) c → AllByRecursion (HasCopy typed) (balanced_by c)
  copy_has (Stencil out array copy) item = (copies_have typed out array copy item, tt)
  copy_has _ item = tt

pub all_are_kept : AreKept
unfolding flat_script constructs
all_are_kept typed checked =
    let fit = sound typed checked in
    kept_from (slots_in (homes_of typed)) (words_in (homes_of typed)) (flat_script typed) (all_listed typed checked)
    (block_slotted typed fit.fits (told_script typed checked fit.behind fit.fits) refl refl (known_script typed fit.behind fit.vars fit.fits) (numbered typed)
    (all_items (λ (c : Arrays Unknown). AllByRecursion (HasCopy typed) (balanced_by c)) (constructs typed) (λ c item. copy_has typed c item)))
