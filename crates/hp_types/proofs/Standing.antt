-- The variables of a point of a script, and the point behind a statement.
use Rattle.std.proofs.Common.{◌≡◌, ℕ, Bool, true, false, ◌&&◌, ◌||◌, List, [], ◌∷◌, ◌++◌, map, is_some, Some, None, refl, ap, sym, ◌∙◌}
use Rattle.std.specs.Prelude.{bytes_eq}
use Rattle.std.proofs.lemmas.List.Folds.{list_any-append}
use Rattle.hp_script.specs.declared.typed.Shape.{Shape}
use Rattle.hp_script.specs.declared.typed.Var.{Var}
use Rattle.hp_script.specs.Checked.{second_branch, behind_branches, behind_loop, after, start_of}
use Rattle.hp_script.specs.Mirror.{Block}
use Rattle.hp_script.specs.Scope.{Scope, has, is_set, shape_among, variables_with, after_assignment}
use Rattle.hp_types.specs.declared.variables.Variables.{Variables}
use Rattle.hp_types.specs.Known.{point}
use Rattle.hp_types.specs.Names.{with_name, with_common}
use Rattle.hp_types.specs.Statements.{Begins, IsAt}
use Rattle.hp_types.proofs.Behind.{after_grows, set_by_assignment, set_on_both, set_behind_loop}
use Rattle.hp_types.proofs.NameSets.{has_with, has_common}
use Rattle.hp_types.proofs.KnownVariables.{named_known, known_more, known_assigned}
use Rattle.hp_types.proofs.Ways.{by_ways, Same}

-- ---- the point that an expression sees

-- the ways that it sees: one to what is sure, and one to all variables
abbrev pub ways_seen : Variables → List (List (List ℕ))
ways_seen variables = variables.sure ∷ map (λ (var : Var). var.name.bytes) variables.list ∷ []

pub point_seen : (s : Scope) (names : List (List ℕ)) (variables : Variables) → IsAt s names variables → point names variables None [] ≡ by_ways s (ways_seen variables)
point_seen s names variables at = rw (at.assigned, at.vars, at.around, at.parameters) refl

both_hold : (a b : Bool) → (a ≡ true → b ≡ true) → (a && (b && true)) ≡ a
both_hold true true h = refl
both_hold true false h = h refl
both_hold false b h = refl

pub same_sure : (s : Scope) (names : List (List ℕ)) (variables : Variables) → IsAt s names variables → Same s (ways_seen variables)
same_sure s names variables at x =
    both_hold (has x variables.sure) (has x (map (λ (var : Var). var.name.bytes) variables.list)) (λ sure. named_known x variables.list ∙ at.known x sure) ∙ sym (at.sure x)

-- ---- the start

pub at_start : (script : Block) (names : List (List ℕ)) (variables : Variables) → (start_of script).assigned ≡ names → variables.list ≡ [] → variables.sure ≡ [] → IsAt (start_of script) names variables
at_start script names variables assigned list sure = record {
  assigned = assigned;
  vars = sym list;
  sure = λ x. sym (rw sure refl);
  known = λ x e. absurd (cc (ap (has x) (sym sure) ∙ e));
  around = refl;
  parameters = refl;
}

-- ---- behind an assignment

or_swapped : (a b : Bool) → (a || b) ≡ (b || a)
or_swapped true true = refl
or_swapped true false = refl
or_swapped false true = refl
or_swapped false false = refl

pub at_assignment : (s : Scope) (names : List (List ℕ)) (old new : Variables) (n : List ℕ) (shape : Shape) → IsAt s names old
    → new.list ≡ variables_with (shape_among old.list n) old.list n shape → new.sure ≡ with_name n old.sure → IsAt (after_assignment s n (Some shape)) names new
at_assignment s names old new n shape at list sure = record {
  assigned = at.assigned;
  vars = ap (λ (vars : List Var). variables_with (shape_among vars n) vars n shape) at.vars ∙ sym list;
  sure = λ x. set_by_assignment s.ways n x ∙ ap (λ (b : Bool). bytes_eq x n || b) (at.sure x) ∙ or_swapped (bytes_eq x n) (has x old.sure)
      ∙ sym (ap (has x) sure ∙ has_with x n old.sure);
  known = λ x e. ap (λ (vars : List Var). is_some (shape_among vars x)) list
      ∙ known_assigned x n old.list shape (has x old.sure) (at.known x) (sym (has_with x n old.sure) ∙ ap (has x) (sym sure) ∙ e);
  around = at.around;
  parameters = at.parameters;
}

-- ---- behind a part

-- what is known before a block is known behind it
still_known : (s : Scope) (b : Block) (old now : List Var) (x : List ℕ) → s.vars ≡ old → (after s b).vars ≡ now → is_some (shape_among old x) ≡ true → is_some (shape_among now x) ≡ true
still_known s b old now x was is known =
    let grown = after_grows s b in
    ap (λ (vars : List Var). is_some (shape_among vars x)) (sym is ∙ grown.is ∙ ap (λ (vars : List Var). vars ++ grown.more) was) ∙ known_more x old grown.more known

pub at_second : (s : Scope) (names : List (List ℕ)) (first : Block) (old mid new : Variables) → IsAt s names old → IsAt (after s first) names mid
    → new.list ≡ mid.list → new.sure ≡ old.sure → IsAt (second_branch s (after s first)) names new
at_second s names first old mid new at behind list sure = record {
  assigned = behind.assigned;
  vars = behind.vars ∙ sym list;
  sure = λ x. at.sure x ∙ ap (has x) (sym sure);
  known = λ x e. ap (λ (vars : List Var). is_some (shape_among vars x)) list ∙ still_known s first old.list mid.list x at.vars behind.vars (at.known x (ap (has x) (sym sure) ∙ e));
  around = behind.around;
  parameters = behind.parameters;
}

in_both : (a b c : Bool) → ((a || b) && (a || c)) ≡ (a || (b && c))
in_both true b c = refl
in_both false b c = refl

sure_behind : (x : List ℕ) (old names : List (List ℕ)) (b : Begins old names) → has x names ≡ (has x old || has x b.more)
sure_behind x old names b = ap (has x) b.is ∙ list_any-append (bytes_eq x) old b.more

in_one : (a b c : Bool) → (a || (b && c)) ≡ true → (a || c) ≡ true
in_one true b c e = refl
in_one false true c e = e
in_one false false c e = absurd (cc e)

pub at_branches : (s : Scope) (names : List (List ℕ)) (first second : Block) (old mid last new : Variables) (by_first : Begins old.sure mid.sure) (by_second : Begins old.sure last.sure)
    → IsAt (after s first) names mid → IsAt (after (second_branch s (after s first)) second) names last
    → new.list ≡ last.list → new.sure ≡ with_common by_first.more by_second.more old.sure → IsAt (behind_branches (after s first) (after (second_branch s (after s first)) second)) names new
at_branches s names first second old mid last new by_first by_second one two list sure = record {
  assigned = two.assigned;
  vars = two.vars ∙ sym list;
  sure = λ x. set_on_both (after s first).ways (after (second_branch s (after s first)) second).ways x
      ∙ ap (λ (b : Bool). b && is_set (after (second_branch s (after s first)) second).ways x) (one.sure x ∙ sure_behind x old.sure mid.sure by_first)
      ∙ ap (λ (b : Bool). (has x old.sure || has x by_first.more) && b) (two.sure x ∙ sure_behind x old.sure last.sure by_second)
      ∙ in_both (has x old.sure) (has x by_first.more) (has x by_second.more) ∙ sym (held x);
  known = λ x e. ap (λ (vars : List Var). is_some (shape_among vars x)) list
      ∙ two.known x (sure_behind x old.sure last.sure by_second ∙ in_one (has x old.sure) (has x by_first.more) (has x by_second.more) (sym (held x) ∙ e));
  around = two.around;
  parameters = two.parameters;
}
  where
    held : (x : List ℕ) → has x new.sure ≡ (has x old.sure || (has x by_first.more && has x by_second.more))
    held x = ap (has x) sure ∙ has_common x by_first.more by_second.more old.sure

-- ---- behind a loop

pub at_loop : (s : Scope) (names : List (List ℕ)) (inner : Block) (old mid new : Variables) → IsAt s names old → IsAt (after s inner) names mid
    → new.list ≡ mid.list → new.sure ≡ old.sure → IsAt (behind_loop s (after s inner)) names new
at_loop s names inner old mid new at behind list sure = record {
  assigned = behind.assigned;
  vars = behind.vars ∙ sym list;
  sure = λ x. set_behind_loop s inner x ∙ at.sure x ∙ ap (has x) (sym sure);
  known = λ x e. ap (λ (vars : List Var). is_some (shape_among vars x)) list ∙ still_known s inner old.list mid.list x at.vars behind.vars (at.known x (ap (has x) (sym sure) ∙ e));
  around = behind.around;
  parameters = behind.parameters;
}
