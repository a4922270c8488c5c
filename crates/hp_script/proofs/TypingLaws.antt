-- Laws of typing: what the tests accept is what the relations say, and there is one answer.
use Rattle.std.proofs.Common.{◌≡◌, Option, Some, None, refl, ap, ◌∙◌}
use Rattle.hp_script.specs.declared.rule.Refusal.{Refusal}
use Rattle.hp_script.specs.declared.typed.Typed.{Typed}
use Rattle.hp_script.specs.Checked.{Checked, after, first_break, start_of}
use Rattle.hp_script.specs.Fitting.{FitsBlock, IsSound}
use Rattle.hp_script.specs.OneAnswer.{HasOneAnswer, accepted, broken}
use Rattle.hp_script.specs.Mirror.{Block, block_of}
use Rattle.hp_script.specs.Scope.{Scope}
use Rattle.hp_script.proofs.BlockComplete.{block_passes}
use Rattle.hp_script.proofs.BlockSound.{block_fits}
use Rattle.hp_script.proofs.ScopeLemmas.{known_start}

-- what passes all tests is what the relations say
pub sound : (typed : Typed) → Checked typed → IsSound typed
unfolding first_break
sound typed c =
    let body = block_of typed.script.body in
    record {
      behind = after (start_of body) body;
      fits = block_fits body (start_of body) (known_start body) c.fits;
      vars = c.vars;
      shapes = c.shapes;
      reads = c.reads;
    }

-- what the relations say passes all tests, and is what is found
pub whole : (typed : Typed) → IsSound typed → Checked typed
unfolding first_break
whole typed k =
    let b = block_passes k.fits in
    record {
      fits = b.passed;
      vars = k.vars ∙ ap (λ (t : Scope). t.vars) b.behind;
      shapes = k.shapes;
      reads = k.reads;
    }

-- a block that fits by the relation passes all tests
pub passes : (body : Block) (t : Scope) → FitsBlock (start_of body) body t → first_break body ≡ None
unfolding first_break
passes body t fits = (block_passes fits).passed

one_of_two : (body : Block) (found : Option Refusal) → first_break body ≡ found → HasOneAnswer body
unfolding first_break
one_of_two body None is = accepted is (after (start_of body) body) (block_fits body (start_of body) (known_start body) is)
one_of_two body (Some refusal) is =
    broken refusal is (λ (t : Scope) (fits : FitsBlock (start_of body) body t).
    let none : first_break body ≡ None = passes body t fits in
    absurd cc)

-- each script either fits, and no test fails; or a test fails first, and the script does not fit
pub one_of_both : (body : Block) → HasOneAnswer body
one_of_both body = one_of_two body (first_break body) refl
