-- What is told of a part of a script tells what is to be said of the whole.
use Rattle.std.proofs.Common.{◌≡◌, ℕ, Option, List, [], ◌++◌, None, Result, Ok, Err, OnOk, refl, ap, sym, ◌∙◌}
use Rattle.std.specs.Option.{option_or}
use Rattle.hp_script.specs.declared.rule.Refusal.{Refusal}
use Rattle.hp_script.specs.declared.typed.Shape.{Shape}
use Rattle.hp_script.specs.Entries.{files_in}
use Rattle.hp_script.specs.Mirror.{Tree}
use Rattle.hp_script.specs.Scope.{Scope}
use Rattle.hp_types.specs.declared.error.CheckError.{CheckError}
use Rattle.hp_types.specs.declared.error.CheckError.TheVariants.{Refused, NoMemory}
use Rattle.hp_types.specs.declared.found.Found.{Found}
use Rattle.hp_types.specs.declared.variables.Variables.{Variables}
use Rattle.hp_types.specs.Answers.{Refuses, Tells, Grew}
use Rattle.hp_types.specs.Known.{point}
use Rattle.hp_types.specs.Statements.{IsAt, TellsValue}
use Rattle.hp_types.proofs.Standing.{ways_seen, point_seen, same_sure}
use Rattle.hp_types.proofs.Ways.{by_ways, found_by_ways}
use Rattle.hp_script.specs.Walk.{Found as Walked, found_of, break_of, entries_of, shape_of}

-- ---- refusals

pub refuses_first : (a b : Option Refusal) (e : CheckError) → Refuses a e → Refuses (option_or a b) e
refuses_first a b (Refused refusal) h = rw h refl
refuses_first a b NoMemory h = tt

pub refuses_next : (a b : Option Refusal) (e : CheckError) → a ≡ None → Refuses b e → Refuses (option_or a b) e
refuses_next a b (Refused refusal) passed h = rw passed h
refuses_next a b NoMemory passed h = tt

pub refuses_by : (a b : Option Refusal) (e : CheckError) → a ≡ b → Refuses a e → Refuses b e
refuses_by a b (Refused refusal) same h = sym same ∙ h
refuses_by a b NoMemory same h = tt

-- ---- expressions

pub value_told : (s : Scope) (names : List (List ℕ)) (variables : Variables) (x : Tree) (before now : Found) (r : Result Shape CheckError) (seen : Scope)
    → seen ≡ point names variables None [] → Tells (break_of seen x) (shape_of seen x) r → OnOk r (Grew before now (entries_of seen x) (files_in x))
    → IsAt s names variables → TellsValue s x before now r
value_told s names variables x before now r seen is told grew at =
    by_result r (ap (λ (found : Walked). found.refusal) walked) (ap (λ (found : Walked). found.shape) walked) (ap (λ (found : Walked). found.entries) walked) told grew
  where
    same : seen ≡ by_ways s (ways_seen variables)
    same = is ∙ point_seen s names variables at

    walked : found_of seen x ≡ found_of s x
    walked = ap (λ (t : Scope). found_of t x) same ∙ found_by_ways s (ways_seen variables) x (same_sure s names variables at)

    by_result : (r : Result Shape CheckError) → break_of seen x ≡ break_of s x → shape_of seen x ≡ shape_of s x → entries_of seen x ≡ entries_of s x
        → Tells (break_of seen x) (shape_of seen x) r → OnOk r (Grew before now (entries_of seen x) (files_in x)) → TellsValue s x before now r
    by_result (Ok shape) breaks shapes entries told grew = (sym breaks ∙ told.0, sym shapes ∙ told.1, (grew.0 ∙ ap (λ (es : List (Option Shape)). before.shapes ++ es) entries, grew.1))
    by_result (Err e) breaks shapes entries told grew = refuses_by _ _ e breaks told
