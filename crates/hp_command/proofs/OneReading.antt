-- Bytes that fit do so in one way and are not refused, and bytes that are refused are so in one way.
use Rattle.std.proofs.Common.{◌≡◌, ℕ, List, [], refl, sym, ap, ◌∙◌, Result, Ok, Err}
use Rattle.hp_word.specs.declared.place.Place.{Place}
use Rattle.hp_script.specs.declared.rule.Rule.{Rule}
use Rattle.hp_script.specs.declared.rule.Refusal.{Refusal}
use Rattle.hp_script.specs.declared.tree.Stmt.{Stmt}
use Rattle.hp_script.specs.declared.typed.Typed.{Typed}
use Rattle.hp_script.specs.Mirror.{block_of}
use Rattle.hp_script.specs.OneOfTwo.{OneOfTwo, first_alone, second_alone}
use Rattle.hp_meaning.specs.Forms.{built}
use Rattle.hp_reader.specs.Reading.{Refuses, Fits, FitsAs, IsRefused, Content, content_of}
use Rattle.hp_spmd.specs.declared.code.Code.{Code}
use Rattle.hp_lower.specs.Correct.{Runs}
use Rattle.hp_command.specs.Reading.{RefusesRun, NoFit, NotBuilt}

some_said : (bytes : List ℕ) (typed : Typed) → Fits bytes typed → FitsAs bytes (content_of typed)
some_said bytes typed f = record { typed = typed; fits = f; said = refl }

err_same : {A B : Type 0} (a b : B) (r : Result A B) → r ≡ Err a → r ≡ Err b → a ≡ b
err_same a b r e f = cc

ok_err : {A B : Type 0} (a : A) (b : B) (r : Result A B) → r ≡ Ok a → r ≡ Err b → ⊥
ok_err a b r e f = cc

module _ (bytes : List ℕ) where
  pub not_both : OneOfTwo (FitsAs bytes) (IsRefused bytes) → (typed : Typed) (at : Place) (rule : Rule) → Fits bytes typed → Refuses bytes at rule → ⊥
  not_both (first_alone content is once never) typed at rule f r = never (record { at = at; rule = rule }) r
  not_both (second_alone refusal is once never) typed at rule f r = never (content_of typed) (some_said bytes typed f)

  pub one_content : OneOfTwo (FitsAs bytes) (IsRefused bytes) → (a b : Typed) → Fits bytes a → Fits bytes b → content_of a ≡ content_of b
  one_content (first_alone content is once never) a b f g = once (content_of a) (some_said bytes a f) ∙ sym (once (content_of b) (some_said bytes b g))
  one_content (second_alone refusal is once never) a b f g = absurd (never (content_of a) (some_said bytes a f))

  one_refusal : OneOfTwo (FitsAs bytes) (IsRefused bytes) → (a b : Refusal) → IsRefused bytes a → IsRefused bytes b → a ≡ b
  one_refusal (first_alone content is once never) a b r s = absurd (never a r)
  one_refusal (second_alone refusal is once never) a b r s = once a r ∙ sym (once b s)

  module _ (law : OneOfTwo (FitsAs bytes) (IsRefused bytes)) where
    pub refused_so : (at at2 : Place) (rule rule2 : Rule) → Refuses bytes at rule → Refuses bytes at2 rule2 → (at ≡ at2) × (rule ≡ rule2)
    refused_so at at2 rule rule2 r s =
        let same = one_refusal law (record { at = at; rule = rule }) (record { at = at2; rule = rule2 }) r s in
        (ap (λ (refusal : Refusal). refusal.at) same, ap (λ (refusal : Refusal). refusal.rule) same)

    pub one_body : (a b : Typed) → Fits bytes a → Fits bytes b → a.script.body ≡ b.script.body
    one_body a b f g = ap (λ (content : Content). content.body) (one_content law a b f g)

    -- ---- runs

    pub run_refused_so : (at at2 : Place) (rule rule2 : Rule) → RefusesRun bytes at rule → RefusesRun bytes at2 rule2 → (at ≡ at2) × (rule ≡ rule2)
    run_refused_so at at2 rule rule2 (NoFit r) (NoFit s) = refused_so at at2 rule rule2 r s
    run_refused_so at at2 rule rule2 (NoFit r) (NotBuilt u) = absurd (not_both law u.typed at rule u.fits r)
    run_refused_so at at2 rule rule2 (NotBuilt u) (NoFit s) = absurd (not_both law u.typed at2 rule2 u.fits s)
    run_refused_so at at2 rule rule2 (NotBuilt u) (NotBuilt v) =
        let same = ap (λ (body : List Stmt). built [] (block_of body)) (one_body u.typed v.typed u.fits v.fits) in
        (err_same at at2 (built [] (block_of u.typed.script.body)) u.not_built (same ∙ v.not_built), refl)

    -- a script that is run is not refused
    pub not_run_and_refused : (typed : Typed) (code : Code) (at : Place) (rule : Rule) → Fits bytes typed → Runs typed.script.body code → RefusesRun bytes at rule → ⊥
    not_run_and_refused typed code at rule f is (NoFit r) = not_both law typed at rule f r
    not_run_and_refused typed code at rule f is (NotBuilt u) =
        let same = ap (λ (body : List Stmt). built [] (block_of body)) (one_body typed u.typed f u.fits) in
        ok_err is.lines at (built [] (block_of typed.script.body)) is.are_built (same ∙ u.not_built)
