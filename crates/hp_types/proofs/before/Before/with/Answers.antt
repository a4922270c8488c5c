-- The names are those of the arguments before, and that of the new one.
use Rattle.std.proofs.Common.{◌∙◌, ◌||◌, Bool, ap, sym, [], ◌∷◌}
use Rattle.hp_script.specs.Breaks.{names_among}
use Rattle.hp_script.specs.Scope.{has}
use Rattle.hp_types.proofs.NameSets.{named_behind}
use Rattle.hp_types.proofs.before.Before.with.Goals as goal

pub invariant_of-result : goal.invariant_of-result
invariant_of-result c x =
    c.in_ok-add_name.ensures x ∙ ap (λ (b : Bool). b || has x (names_among (c.args.argument ∷ []))) (c.self.invariant x)
    ∙ sym (ap (λ xs. has x (names_among xs)) c.in_ok-push.ensures.ok ∙ named_behind x c.self.inside.arguments c.args.argument)
