-- What the refusal of a script tells: at the statement that is refused, by what is known of names there.
use Rattle.std.proofs.Common.{◌≡◌, Bool, false, Option, Some, None, refl, subst}
use Rattle.hp_word.specs.declared.place.Place.{Place}
use Rattle.hp_script.specs.declared.rule.Refusal.{Refusal}
use Rattle.hp_script.specs.declared.rule.Rule.TheVariants.{WrongType, TypeChanged}
use Rattle.hp_script.specs.declared.typed.Shape.{Shape}
use Rattle.hp_script.specs.Breaks.{unless, is_frame}
use Rattle.hp_script.specs.Checked.{keeps_shape, is_printed, is_test, second_branch, behind_branches, behind_loop, after, break_in, first_break, start_of}
use Rattle.hp_script.specs.Mirror.{Tree, Block, done, assign, print, export, choose, loop}
use Rattle.hp_script.specs.Runs.{Position, here, past_assign, past_print, past_export, in_first, in_second, past_if, in_turn, past_loop, IsScopeAt, at_here, at_assign, at_print, at_export, at_first, at_second, at_if, at_turn, at_loop}
use Rattle.hp_script.specs.Scope.{Scope, shape_among, after_assignment}
use Rattle.hp_script.specs.Shaped.{HasShape}
use Rattle.hp_script.specs.Told.{refusal, ToldAt, by_assign, by_change, not_printed, not_exported, no_test_of_if, no_test_of_while, by_print, by_export, by_if, by_while, told_past_assign, told_past_print, told_past_export, told_in_first, told_in_second, told_past_if, told_in_turn, told_past_loop, IsTold}
use Rattle.hp_script.specs.Walk.{shape_of, break_of}
use Rattle.hp_script.proofs.BlockSound.{IsShaped, passing, block_fits}
use Rattle.hp_script.proofs.ScopeLemmas.{Known, known_assigned, known_second, known_branches, known_loop, known_after, known_start, grows}
use Rattle.hp_script.proofs.ToldParts.{or_told, unless_told}
use Rattle.hp_script.proofs.ToldTrees.{tells}

-- the refusal is told at some statement of the block
record BlockTold (s : Scope) (b : Block) (r : Refusal) : Type 0 where
  position : Position b
  scope : Scope
  place : IsScopeAt s b position scope
  tells : ToldAt b position scope r

first_statement : (s : Scope) (b : Block) (r : Refusal) → ToldAt b here s r → BlockTold s b r
first_statement s b r t = record { position = here; scope = s; place = at_here; tells = t }

-- the same of a block around, or of one that goes on with this one
onward : (s k : Scope) (b c : Block) (r : Refusal) (move : Position b → Position c)
    → ((p : Position b) (t : Scope) → ToldAt b p t r → ToldAt c (move p) t r) → ((p : Position b) (t : Scope) → IsScopeAt k b p t → IsScopeAt s c (move p) t)
    → BlockTold k b r → BlockTold s c r
onward s k b c r move tell places u = record { position = move u.position; scope = u.scope; place = places u.position u.scope u.place; tells = tell u.position u.scope u.tells }

-- a test of types at the statement
type_told : (test : Option Shape → Bool) (s : Scope) (b : Block) (e : Tree) (at : Place) (r : Refusal) → IsShaped s e
    → ((a : Shape) → HasShape s e a → test (Some a) ≡ false → ToldAt b here s (refusal at WrongType)) → unless (test (shape_of s e)) at WrongType ≡ Some r → BlockTold s b r
type_told test s b e at r k tell f =
    unless_told (λ q. BlockTold s b q) (test (shape_of s e)) at WrongType r
    (λ n. first_statement s b (refusal at WrongType) (tell k.shape k.fits (subst (λ (o : Option Shape). test o ≡ false) k.is n))) f

-- an assignment of another type
change_told : (first : Option Shape) (s : Scope) (at : Place) (x : _) (e : Tree) (rest : Block) (found : Shape) → shape_among s.vars x ≡ first → HasShape s e found → keeps_shape first (Some found) ≡ false
    → ToldAt (assign at x e rest) here s (refusal at TypeChanged)
change_told None s at x e rest found is fits f = absurd cc
change_told (Some first) s at x e rest found is fits f = by_change is fits f

block_told : (b : Block) (s : Scope) → Known s → (r : Refusal) → break_in s b ≡ Some r → BlockTold s b r
unfolding break_in
block_told done s known r e = absurd cc
block_told (assign place x t rest) s known r e =
    let b = assign place x t rest in
    or_told (λ q. BlockTold s b q) (break_of s t) _ r (λ k. first_statement s b r (by_assign (tells t s known r k)))
    (λ n.
    let k = passing s t known n in
    or_told (λ q. BlockTold s b q) (unless (keeps_shape (shape_among s.vars x) (shape_of s t)) place TypeChanged) (break_in (after_assignment s x (shape_of s t)) rest) r
    (unless_told (λ q. BlockTold s b q) (keeps_shape (shape_among s.vars x) (shape_of s t)) place TypeChanged r
    (λ f. first_statement s b _ (change_told (shape_among s.vars x) s place x t rest k.shape refl k.fits (subst (λ (j : Option Shape). keeps_shape (shape_among s.vars x) j ≡ false) k.is f))))
    (λ m l.
    let own : break_in (after_assignment s x (Some k.shape)) rest ≡ Some r = subst (λ (j : Option Shape). break_in (after_assignment s x j) rest ≡ Some r) k.is l in
    onward s (after_assignment s x (Some k.shape)) rest b r (λ p. past_assign p) (λ p j u. told_past_assign u) (λ p j u. at_assign k.fits u)
    (block_told rest (after_assignment s x (Some k.shape)) (known_assigned s x k.shape known) r own))) e
block_told (print place t rest) s known r e =
    let b = print place t rest in
    or_told (λ q. BlockTold s b q) (break_of s t) _ r (λ k. first_statement s b r (by_print (tells t s known r k)))
    (λ n. or_told (λ q. BlockTold s b q) (unless (is_printed (shape_of s t)) place WrongType) (break_in s rest) r
    (type_told is_printed s b t place r (passing s t known n) (λ a fits f. not_printed fits f))
    (λ m l. onward s s rest b r (λ p. past_print p) (λ p j u. told_past_print u) (λ p j u. at_print u) (block_told rest s known r l))) e
block_told (export place t rest) s known r e =
    let b = export place t rest in
    or_told (λ q. BlockTold s b q) (break_of s t) _ r (λ k. first_statement s b r (by_export (tells t s known r k)))
    (λ n. or_told (λ q. BlockTold s b q) (unless (is_frame (shape_of s t)) place WrongType) (break_in s rest) r
    (type_told is_frame s b t place r (passing s t known n) (λ a fits f. not_exported fits f))
    (λ m l. onward s s rest b r (λ p. past_export p) (λ p j u. told_past_export u) (λ p j u. at_export u) (block_told rest s known r l))) e
block_told (choose place t body other rest) s known r e =
    let b = choose place t body other rest in
    let second = second_branch s (after s body) in
    let joined = behind_branches (after s body) (after second other) in
    or_told (λ q. BlockTold s b q) (break_of s t) _ r (λ k. first_statement s b r (by_if (tells t s known r k)))
    (λ n. or_told (λ q. BlockTold s b q) (unless (is_test (shape_of s t)) place WrongType) _ r (type_told is_test s b t place r (passing s t known n) (λ a fits f. no_test_of_if fits f))
    (λ m. or_told (λ q. BlockTold s b q) (break_in s body) _ r
    (λ k. onward s s body b r (λ p. in_first p) (λ p j u. told_in_first u) (λ p j u. at_first u) (block_told body s known r k))
    (λ first.
    let known_other = known_second s (after s body) known (grows body s) in
    let taken = block_fits body s known first in
    or_told (λ q. BlockTold s b q) (break_in second other) (break_in joined rest) r
    (λ k. onward s second other b r (λ p. in_second p) (λ p j u. told_in_second u) (λ p j u. at_second taken u) (block_told other second known_other r k))
    (λ next k.
    let passed = block_fits other second known_other next in
    onward s joined rest b r (λ p. past_if p) (λ p j u. told_past_if u) (λ p j u. at_if taken passed u)
    (block_told rest joined (known_branches (after s body) (after second other) (known_after other second known_other)) r k))))) e
block_told (loop place t body rest) s known r e =
    let b = loop place t body rest in
    let joined = behind_loop s (after s body) in
    or_told (λ q. BlockTold s b q) (break_of s t) _ r (λ k. first_statement s b r (by_while (tells t s known r k)))
    (λ n. or_told (λ q. BlockTold s b q) (unless (is_test (shape_of s t)) place WrongType) _ r (type_told is_test s b t place r (passing s t known n) (λ a fits f. no_test_of_while fits f))
    (λ m. or_told (λ q. BlockTold s b q) (break_in s body) (break_in joined rest) r
    (λ k. onward s s body b r (λ p. in_turn p) (λ p j u. told_in_turn u) (λ p j u. at_turn u) (block_told body s known r k))
    (λ first k.
    let taken = block_fits body s known first in
    onward s joined rest b r (λ p. past_loop p) (λ p j u. told_past_loop u) (λ p j u. at_loop taken u)
    (block_told rest joined (known_loop s (after s body) known (grows body s)) r k)))) e

-- each refusal of a script tells the fact of its rule
pub script_told : (body : Block) (r : Refusal) → first_break body ≡ Some r → IsTold body r
unfolding first_break
script_told body r e =
    let u = block_told body (start_of body) (known_start body) r e in
    record { position = u.position; known = u.scope; stands = u.place; tells = u.tells }
