-- One answer for each script: what the laws of typing say of it.
use Rattle.std.specs.Prelude.{◌≡◌, Some, None}
use Rattle.hp_script.specs.declared.rule.Refusal.{Refusal}
use Rattle.hp_script.specs.Checked.{first_break, start_of}
use Rattle.hp_script.specs.Fitting.{FitsBlock}
use Rattle.hp_script.specs.Mirror.{Block}
use Rattle.hp_script.specs.Scope.{Scope}

-- A script fits, and no test fails; or a test fails first, and the script does not fit.
pub data HasOneAnswer (body : Block) : Type 0 where
  accepted : first_break body ≡ None → (behind : Scope) → FitsBlock (start_of body) body behind → HasOneAnswer body
  broken : (refusal : Refusal) → first_break body ≡ Some refusal → ((behind : Scope) → FitsBlock (start_of body) body behind → ⊥) → HasOneAnswer body
