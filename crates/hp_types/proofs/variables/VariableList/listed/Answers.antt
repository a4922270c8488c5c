-- One more variable, with copies of its name and type.
use Rattle.std.proofs.Common.{◌∙◌, ◌<◌, ◌++◌, ◌∷◌, [], List, ℕ, length, ap, arith}
use Rattle.hp_script.specs.declared.typed.Var.{Var}
use Rattle.hp_script.specs.Trees.{named}
use Rattle.hp_types.specs.Names.{variables_of}
use Rattle.hp_types.proofs.KnownVariables.{listed_more}
use Rattle.hp_types.proofs.variables.VariableList.listed.Goals as goal
use Rattle.hp_types.proofs.variables.VariableList.listed.Goals.{in-Some+in_ok-var+in_ok-push, in_default}

pub loop-i-preserved : goal.loop-i-preserved
loop-i-preserved c =
    let within : c.loop-i.i < length c.self.inside.types.entries = omega (arith, c.loop-i-test.true, c.len-i-end.ensures.len) in
    elim c.match-get_index.branch [
      | in-Some+in_ok-var+in_ok-push w ↦
          listed_more c.self.inside.types.entries c.loop-i.i _ c.loop-i.list c.match-get_index.list (variables_of c.self.inside.types.entries) within w.in-Some.ensures.entry
          (w.list-is ∙ w.in_ok-push.ensures.ok
          ∙ ap (λ (var : Var). c.loop-i.list ++ var ∷ [])
          (w.in_ok-var.ensures ∙ ap (λ (bytes : List ℕ). record { name = named bytes; shape = w.in-Some.shape.now }) w.as_slice.ensures.value))
          c.loop-i.invariant
      | in_default w ↦ absurd (cc (w.in_default.ensures.found.1 within))
    ]
