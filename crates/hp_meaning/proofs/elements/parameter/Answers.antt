-- The element at the place is the first input.
use Rattle.std.proofs.Common.{ap}
use Rattle.hp_meaning.specs.declared.elements.Role.TheVariants.{Each}
use Rattle.hp_meaning.specs.Elements.{stands_for}
use Rattle.hp_meaning.specs.LambdaRules.{parameter_value}
use Rattle.hp_meaning.proofs.ElementLemmas.{is_each, same_element}
use Rattle.hp_meaning.proofs.elements.parameter.Goals as goal

pub returns-in-Each : goal.returns-in-Each
returns-in-Each c =
    same_element (λ xs i. parameter_value (stands_for (Each c.in-Each.kind) xs i)) (λ xs i. parameter_value (stands_for c.args.role xs i)) _ (λ xs i. ap (λ r. parameter_value (stands_for r xs i)) c.in-Each.is) (is_each c.in-Each.kind)
