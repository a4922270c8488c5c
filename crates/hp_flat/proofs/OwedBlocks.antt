-- What the constructs of statements owe, and those of a script in which no rule breaks.
use Rattle.std.proofs.Common.{◌≡◌, ℕ, List, [], ◌∷◌, ◌++◌, Option, Some, None, refl, sym, ap, ◌∙◌}
use Rattle.std.specs.List.{AllByRecursion}
use Rattle.hp_word.specs.declared.name.Name.{Name}
use Rattle.hp_script.specs.declared.typed.Shape.{Shape}
use Rattle.hp_script.specs.declared.typed.Typed.{Typed}
use Rattle.hp_script.specs.declared.typed.Var.{Var}
use Rattle.hp_script.specs.Checked.{Checked}
use Rattle.hp_script.specs.Fitting.{FitsBlock, fits_done, fits_first, fits_again, fits_print, fits_export, fits_if, fits_while}
use Rattle.hp_script.specs.Mirror.{Tree, Block}
use Rattle.hp_script.specs.Scope.{Scope, shape_among}
use Rattle.hp_script.specs.Shaped.{IsOutside, HasShape}
use Rattle.hp_script.proofs.TestLemmas.{bytes_same}
use Rattle.hp_script.proofs.TypingLaws.{sound}
use Rattle.hp_air.specs.Arrays.{Arrays, Export, outs}
use Rattle.hp_air.specs.Unknowns.{Known, Unknown, arrays_at, arrays_named, number_of, shape_at, shape_named, width, copied, print_of, no_frame, known_of, constructs_in, constructs_of, constructs}
use Rattle.hp_flat.proofs.CarriedSteps.{Sound}
use Rattle.hp_flat.proofs.DoneOnce.{Makes}
use Rattle.hp_flat.proofs.FilledFrames.{AreFilled, filled_block}
use Rattle.hp_flat.proofs.OwedParts.{Owes, AllOwe, unbalanced_named, length_at, length_named, owes_copied}
use Rattle.hp_flat.proofs.OwedTrees.{AreNamed, tree_owes}
use Rattle.hp_flat.proofs.Points.{alone_block}
use Rattle.hp_flat.proofs.ServedCode.{all_both}
use Rattle.hp_flat.proofs.ToldScripts.{told_script}
use Rattle.hp_flat.proofs.ToldTypes.{Told, ToldBlock}
use Rattle.hp_flat.proofs.VariableNames.{kept_block, assigned_first, outside_block, named_among}

-- no statement stands in the second argument of a filter
unframed : {columns : List Name} (around : Option (List Name)) → around ≡ None → around ≡ Some columns → no_frame.names ≡ columns
unframed around bare within = absurd cc

print_owes : (us : List Unknown) → Owes (print_of us)
unfolding outs
print_owes [] = (tt, λ is. absurd cc)
print_owes (u ∷ us) = (tt, λ is. absurd cc)

export_owes : (us : List Unknown) → Owes (Export us)
unfolding outs
export_owes us = (tt, λ is. absurd cc)

module _ (g : Known) where
  -- what holds between statements
  record IsBetween (s : Scope) : Type 0 where
    outside : IsOutside s
    bare : s.around ≡ None
    filled : AreFilled s

  with_ways : {s : Scope} (ways : List (List (List ℕ))) → IsBetween s → IsBetween (record s { ways = ways })
  with_ways ways between = record { outside = between.outside; bare = between.bare; filled = between.filled }

  behind : {s : Scope} {b : Block} {t : Scope} → FitsBlock s b t → IsBetween s → IsBetween t
  behind f between = record { outside = outside_block f between.outside; bare = alone_block f between.bare; filled = filled_block f between.outside between.filled }

  value_owes : {s : Scope} {x : Tree} {a : Shape} (p : HasShape s x a) → Told g p → IsBetween s → AreNamed g s → AllOwe (constructs_in g no_frame x)
  value_owes {s = s} p told between named =
      tree_owes g p told no_frame (record { outside = between.outside; named = named; filled = between.filled; framed = λ columns e. unframed s.around between.bare e })

  stored_owes : (x : List ℕ) (e : Tree) (a : Shape) → shape_at g (number_of e) ≡ Some a → shape_named g x ≡ Some a → AllOwe (copied (arrays_named g x) (arrays_at g e))
  stored_owes x e a told named =
      owes_copied (arrays_named g x) (arrays_at g e) (length_named g x ∙ ap width named ∙ sym (ap width told) ∙ sym (length_at g (number_of e))) (unbalanced_named g x)

  -- the types of variables behind a block are those before it
  before : {s : Scope} {b : Block} {t : Scope} → FitsBlock s b t → AreNamed g t → AreNamed g s
  before f named x a e = named x a (kept_block f x a e)

  assigned_owe : (x : List ℕ) (e : Tree) (rest : Block) (a : Shape) → shape_at g (number_of e) ≡ Some a → shape_named g x ≡ Some a → AllOwe (constructs_in g no_frame e) → AllOwe (constructs_of g rest)
      → AllOwe (constructs_in g no_frame e ++ copied (arrays_named g x) (arrays_at g e) ++ constructs_of g rest)
  assigned_owe x e rest a told named value next =
      all_both Owes (constructs_in g no_frame e ++ copied (arrays_named g x) (arrays_at g e)) (constructs_of g rest)
      (all_both Owes (constructs_in g no_frame e) (copied (arrays_named g x) (arrays_at g e)) value (stored_owes x e a told named)) next

  block_owes : {s : Scope} {b : Block} {t : Scope} (f : FitsBlock s b t) → ToldBlock g f → IsBetween s → AreNamed g s → AreNamed g t → AllOwe (constructs_of g b)
  unfolding constructs_of
  block_owes fits_done told between now later = tt
  block_owes {s = s} (fits_first {at = at} {x = x} {e = e} {rest = rest} {a = a} p new next) told between now later =
      let named = before next later in
      assigned_owe x e rest a told.0.0 (named x a (assigned_first (shape_among s.vars x) s.vars x a (bytes_same x x refl) refl new)) (value_owes p told.0 between now)
      (block_owes next told.1 (behind (fits_first {at = at} p new fits_done) between) named later)
  block_owes {s = s} (fits_again {at = at} {x = x} {e = e} {rest = rest} {a = a} p same next) told between now later =
      assigned_owe x e rest a told.0.0 (now x a same) (value_owes p told.0 between now)
      (block_owes next told.1 (behind (fits_again {at = at} p same fits_done) between) (before next later) later)
  block_owes (fits_print {e = e} {rest = rest} p can next) told between now later =
      all_both Owes (constructs_in g no_frame e) (print_of (arrays_at g e) ∷ constructs_of g rest) (value_owes p told.0 between now)
      (print_owes (arrays_at g e), block_owes next told.1 between (before next later) later)
  block_owes (fits_export {d = e} {rest = rest} p next) told between now later =
      all_both Owes (constructs_in g no_frame e) (Export (arrays_at g e) ∷ constructs_of g rest) (value_owes p told.0 between now)
      (export_owes (arrays_at g e), block_owes next told.1 between (before next later) later)
  block_owes {s = s} (fits_if {first = first} {second = second} {c = c} {body = body} {other = other} {rest = rest} p taken passed next) told between now later =
      let at_second = before next later in
      let at_first = before passed at_second in
      let test = constructs_in g no_frame c in
      all_both Owes ((test ++ constructs_of g body) ++ constructs_of g other) (constructs_of g rest)
      (all_both Owes (test ++ constructs_of g body) (constructs_of g other)
      (all_both Owes test (constructs_of g body) (value_owes p told.0 between now) (block_owes taken told.1 between now at_first))
      (block_owes passed told.2 (with_ways s.ways (behind taken between)) at_first at_second))
      (block_owes next told.3 (with_ways (first.ways ++ second.ways) (behind passed (with_ways s.ways (behind taken between)))) at_second later)
  block_owes {s = s} (fits_while {turn = turned} {c = c} {body = body} {rest = rest} p turn next) told between now later =
      let at_turn = before next later in
      let test = constructs_in g no_frame c in
      all_both Owes (test ++ constructs_of g body) (constructs_of g rest)
      (all_both Owes test (constructs_of g body) (value_owes p told.0 between now) (block_owes turn told.1 between now at_turn))
      (block_owes next told.2 (with_ways (s.ways ++ turned.ways) (behind turn between)) at_turn later)

-- ---- scripts

pub script_owes : (typed : Typed) → Checked typed → AllOwe (constructs typed)
unfolding constructs
script_owes typed checked =
    let fit = sound typed checked in
    let g = known_of typed in
    let later : AreNamed g fit.behind = λ x a e. named_among typed.vars typed.shapes x ∙ ap (λ (vars : List Var). shape_among vars x) fit.vars ∙ e in
    block_owes g fit.fits (told_script typed checked fit.behind fit.fits) (record { outside = refl; bare = refl; filled = λ x a e. absurd cc }) (before g fit.fits later) later

all_sound : (cs : List (Arrays Unknown)) → AllOwe cs → AllByRecursion Sound cs
all_sound [] owe = tt
all_sound (c ∷ cs) owe = (owe.0.0, all_sound cs owe.1)

all_make : (cs : List (Arrays Unknown)) → AllOwe cs → AllByRecursion Makes cs
all_make [] owe = tt
all_make (c ∷ cs) owe = (owe.0.1, all_make cs owe.1)

pub script_sound : (typed : Typed) → Checked typed → AllByRecursion Sound (constructs typed)
script_sound typed checked = all_sound (constructs typed) (script_owes typed checked)

pub script_makes : (typed : Typed) → Checked typed → AllByRecursion Makes (constructs typed)
script_makes typed checked = all_make (constructs typed) (script_owes typed checked)
