-- What is told of the statements of a script that begins is what is to be said of the script.
use Rattle.std.proofs.Common.{◌≡◌, List, [], ◌++◌, Option, None, Ok, refl, ap, sym, subst, ◌∙◌}
use Rattle.hp_script.specs.declared.tree.Stmt.{Stmt}
use Rattle.hp_script.specs.declared.typed.ReadSpec.{ReadSpec}
use Rattle.hp_script.specs.declared.typed.Shape.{Shape}
use Rattle.hp_script.specs.declared.typed.Var.{Var}
use Rattle.hp_script.specs.Checked.{assigned_in, start_of, first_break, after, break_in, entries_in, files_of}
use Rattle.hp_script.specs.Mirror.{Block, block_of}
use Rattle.hp_script.specs.Scope.{Scope}
use Rattle.hp_types.specs.declared.error.CheckError.{CheckError}
use Rattle.hp_types.specs.declared.found.Found.{Found}
use Rattle.hp_types.specs.declared.variables.Variables.{Variables}
use Rattle.hp_types.specs.Answers.{Refuses}
use Rattle.hp_types.specs.Statements.{IsAt, TellsBlock}
use Rattle.hp_types.proofs.Standing.{at_start}
use Rattle.hp_types.proofs.Telling.{refuses_by}

first_is : (body : Block) → break_in (start_of body) body ≡ first_break body
unfolding first_break
first_is body = refl

pub record Said (body : Block) (vars : List Var) (shapes : List (Option Shape)) (reads : List ReadSpec) : Type 0 where
  pub fits : first_break body ≡ None
  pub vars_are : vars ≡ (after (start_of body) body).vars
  pub shapes_are : shapes ≡ entries_in (start_of body) body
  pub reads_are : reads ≡ files_of body

pub script_refuses : (body whole : List Stmt) (variables : Variables) (e : CheckError) → body ≡ whole → (variables.list ≡ []) × (variables.sure ≡ [])
    → ((s : Scope) → IsAt s (assigned_in (block_of body)) variables → Refuses (break_in s (block_of body)) e) → Refuses (first_break (block_of whole)) e
script_refuses body whole variables e same empty h =
    refuses_by (break_in (start_of (block_of body)) (block_of body)) (first_break (block_of whole)) e
    (first_is (block_of body) ∙ ap (λ (b : List Stmt). first_break (block_of b)) same) (h (start_of (block_of body)) (at_start (block_of body) (assigned_in (block_of body)) variables refl empty.0 empty.1))

said_of : (body : List Stmt) (old new : Variables) (before now : Found) → (old.list ≡ []) × (old.sure ≡ []) → (before.shapes ≡ []) × (before.reads ≡ [])
    → ((s : Scope) → IsAt s (assigned_in (block_of body)) old → TellsBlock {A = Unit {0}} s (assigned_in (block_of body)) (block_of body) before new now (Ok tt)) → Said (block_of body) new.list now.shapes now.reads
said_of body old new before now empty none h =
    let told = h (start_of (block_of body)) (at_start (block_of body) (assigned_in (block_of body)) old refl empty.0 empty.1) in
    record {
      fits = sym (first_is (block_of body)) ∙ told.0;
      vars_are = sym told.1.vars;
      shapes_are = told.2.0 ∙ ap (λ (xs : List (Option Shape)). xs ++ entries_in (start_of (block_of body)) (block_of body)) none.0;
      reads_are = told.2.1 ∙ ap (λ (xs : List ReadSpec). xs ++ files_of (block_of body)) none.1;
    }

pub script_said : (body whole : List Stmt) (old new : Variables) (before now : Found) → body ≡ whole → (old.list ≡ []) × (old.sure ≡ []) → (before.shapes ≡ []) × (before.reads ≡ [])
    → ((s : Scope) → IsAt s (assigned_in (block_of body)) old → TellsBlock {A = Unit {0}} s (assigned_in (block_of body)) (block_of body) before new now (Ok tt)) → Said (block_of whole) new.list now.shapes now.reads
script_said body whole old new before now same empty none h = subst (λ (b : List Stmt). Said (block_of b) new.list now.shapes now.reads) same (said_of body old new before now empty none h)
