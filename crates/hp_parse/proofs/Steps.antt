-- Steps of the machine at a reader: what a phrase does at its next token, and how steps are put together.
use Rattle.std.proofs.Common.{◌≡◌, ℕ, zero, suc, ◌+◌, ◌<◌, ◌≤◌, Bool, true, false, List, [], ◌∷◌, ◌++◌, length, drop, Option, Some, None, refl, sym, ap, subst, ◌∙◌, arith, append_assoc, IsTrue}
use Rattle.std.specs.Prelude.{IsSome, nat_lt, Result, Ok, Err, IfOk, IfErr}
use Rattle.std.specs.Result.{IsErr, IsErrAnd}
use Rattle.std.proofs.lemmas.List.{length-drop}
use Rattle.hp_word.specs.declared.place.Place.{Place}
use Rattle.hp_script.specs.declared.rule.Rule.{Rule}
use Rattle.hp_script.specs.declared.rule.Rule.TheVariants.{Syntax, TooDeep}
use Rattle.hp_script.specs.declared.rule.Refusal.{Refusal}
use Rattle.hp_script.specs.Lexemes.{Lexed, Lexeme}
use Rattle.hp_script.specs.Depth.{deepest}
use Rattle.hp_parse.specs.declared.error.ParseError.{ParseError}
use Rattle.hp_parse.specs.declared.error.ParseError.TheVariants as errors
use Rattle.hp_parse.specs.Machine.{Goal, Value, Phrase, Action, Config, At, want, make, made, Move, Takes, Deepens, Passes, Refuses, enter, step, run, Leads, moved, moved_at_end, too_deep}
use Rattle.hp_parse.specs.Machine.{Refused as off}
use Rattle.hp_parse.specs.Readers.{Reader, next, here, behind_at, refusal, syntax_at, too_deep_at, config, Reaches, Stops}
use Rattle.hp_parse.proofs.Runs.{leads_here, leads_then, leads_step, step_make, step_token, step_end}

-- ---- put together

pub stays : (r : Reader) (goals : List Goal) (given : List Value) → Reaches r goals given r goals given
stays r goals given = record { leads = λ stack values. leads_here too_deep r.end (config r (goals ++ stack) (given ++ values)); same_end = refl; no_longer = omega arith }

pub at_end : (old mid : Reader) {a b : Config} → mid.end ≡ old.end → Leads too_deep mid.end a b → Leads too_deep old.end a b
at_end old mid {a} {b} e f = subst (λ (end : Place). Leads too_deep end a b) e f

pub reaches_then : {old mid new : Reader} {goals between left : List Goal} {given had made : List Value}
    → Reaches old goals given mid between had → Reaches mid between had new left made → Reaches old goals given new left made
reaches_then {old} {mid} {new} {goals} {between} {left} {given} {had} {made} f g = record {
  leads = λ stack values. leads_then (f.leads stack values) (at_end old mid f.same_end (g.leads stack values));
  same_end = g.same_end ∙ f.same_end;
  no_longer = omega (arith, f.no_longer, g.no_longer);
}

pub stops_after : {old mid : Reader} {goals between : List Goal} {given had : List Value} {error : ParseError}
    → Reaches old goals given mid between had → Stops mid between had error → Stops old goals given error
stops_after {old} {mid} {goals} {between} {given} {had} {error} f g = record {
  leads = λ at rule e stack values. leads_then (f.leads stack values) (at_end old mid f.same_end (g.leads at rule e stack values));
}

-- With more to do below, and more made before.
pub beside : {old new : Reader} {goals left : List Goal} {given made : List Value} (more : List Goal) (before : List Value)
    → Reaches old goals given new left made → Reaches old (goals ++ more) (given ++ before) new (left ++ more) (made ++ before)
beside {old} {new} {goals} {left} {given} {made} more before f = record {
  leads = λ stack values. simp append_assoc (f.leads (more ++ stack) (before ++ values));
  same_end = f.same_end;
  no_longer = f.no_longer;
}

-- With more made before.
pub over : {old new : Reader} {goals left : List Goal} {given made : List Value} (before : List Value)
    → Reaches old goals given new left made → Reaches old goals (given ++ before) new left (made ++ before)
over {old} {new} {goals} {left} {given} {made} before f = record {
  leads = λ stack values. simp append_assoc (f.leads stack (before ++ values));
  same_end = f.same_end;
  no_longer = f.no_longer;
}

pub stops_beside : {old : Reader} {goals : List Goal} {given : List Value} {error : ParseError} (more : List Goal) (before : List Value)
    → Stops old goals given error → Stops old (goals ++ more) (given ++ before) error
stops_beside {old} {goals} {given} {error} more before f = record {
  leads = λ at rule e stack values. simp append_assoc (f.leads at rule e (more ++ stack) (before ++ values));
}

-- want of memory says nothing
pub stops_memory : {old : Reader} {goals : List Goal} {given : List Value} {error : ParseError} → error ≡ errors.NoMemory → Stops old goals given error
stops_memory {old} {goals} {given} {error} memory = record { leads = λ at rule e stack values. absurd (cc (memory, e)) }

-- ---- single steps

pub steps_to : {end : Place} (a b : Config) → step too_deep end a ≡ b → Leads too_deep end a b
steps_to {end} a b e = subst (λ (c : Config). Leads too_deep end a c) e (leads_step too_deep end a)

pub makes : (r : Reader) (action : Action) (given had : List Value) → ((values : List Value) → made action (given ++ values) ≡ had ++ values)
    → Reaches r (make action ∷ []) given r [] had
makes r action given had e = record {
  leads = λ stack values. steps_to (config r (make action ∷ stack) (given ++ values)) (config r stack (had ++ values))
      (step_make too_deep r.end r.rest r.number r.depth action stack (given ++ values) ∙ ap (λ (vs : List Value). config r stack vs) (e values));
  same_end = refl;
  no_longer = omega arith;
}

takes_at : (rest : List Lexed) (number depth : ℕ) (end : Place) (phrase : Phrase) (k d : ℕ) (goals stack : List Goal) (had values : List Value) (what : Lexeme)
    → next (record { rest = rest; number = number; depth = depth; end = end }) ≡ Some what
    → enter phrase (Some what) (here (record { rest = rest; number = number; depth = depth; end = end })) number depth ≡ Takes k d goals had
    → step too_deep end (At rest number depth (want phrase ∷ stack) values) ≡ At (drop 1 rest) k d (goals ++ stack) (had ++ values)
takes_at [] number depth end phrase k d goals stack had values what e m = absurd cc
takes_at (token ∷ rest) number depth end phrase k d goals stack had values what e m =
    let same : token.what ≡ what = cc in
    let move : enter phrase (Some token.what) token.at number depth ≡ Takes k d goals had = ap (λ (w : Lexeme). enter phrase (Some w) token.at number depth) same ∙ m in
    step_token too_deep end token rest number depth phrase stack values ∙ ap (λ (m : Move). moved too_deep token rest m depth stack values) move

shorter : (xs : List Lexed) → length (drop 1 xs) ≤ length xs
shorter xs = simp length-drop (omega arith)

-- The phrase takes the next token.
pub takes : (r : Reader) (phrase : Phrase) (what : Lexeme) (k d : ℕ) (goals : List Goal) (had : List Value) → next r ≡ Some what
    → enter phrase (Some what) (here r) r.number r.depth ≡ Takes k d goals had → Reaches r (want phrase ∷ []) [] (behind_at r k d) goals had
takes r phrase what k d goals had e m = record {
  leads = λ stack values. steps_to (config r (want phrase ∷ stack) values) (config (behind_at r k d) (goals ++ stack) (had ++ values))
      (takes_at r.rest r.number r.depth r.end phrase k d goals stack had values what e m);
  same_end = refl;
  no_longer = shorter r.rest;
}

deepens_at : (rest : List Lexed) (number depth : ℕ) (end : Place) (phrase : Phrase) (k d : ℕ) (goals stack : List Goal) (had values : List Value) (what : Lexeme)
    → next (record { rest = rest; number = number; depth = depth; end = end }) ≡ Some what
    → enter phrase (Some what) (here (record { rest = rest; number = number; depth = depth; end = end })) number depth ≡ Deepens k d goals had
    → too_deep d ≡ false
    → step too_deep end (At rest number depth (want phrase ∷ stack) values) ≡ At (drop 1 rest) k d (goals ++ stack) (had ++ values)
deepens_at [] number depth end phrase k d goals stack had values what e m ok = absurd cc
deepens_at (token ∷ rest) number depth end phrase k d goals stack had values what e m ok =
    let same : token.what ≡ what = cc in
    let move : enter phrase (Some token.what) token.at number depth ≡ Deepens k d goals had = ap (λ (w : Lexeme). enter phrase (Some w) token.at number depth) same ∙ m in
    step_token too_deep end token rest number depth phrase stack values ∙ ap (λ (m : Move). moved too_deep token rest m depth stack values) move
    ∙ rw ok refl

too_deep_here : (rest : List Lexed) (number depth : ℕ) (end : Place) (phrase : Phrase) (k d : ℕ) (goals stack : List Goal) (had values : List Value) (what : Lexeme)
    → next (record { rest = rest; number = number; depth = depth; end = end }) ≡ Some what
    → enter phrase (Some what) (here (record { rest = rest; number = number; depth = depth; end = end })) number depth ≡ Deepens k d goals had
    → too_deep d ≡ true
    → step too_deep end (At rest number depth (want phrase ∷ stack) values) ≡ off (here (record { rest = rest; number = number; depth = depth; end = end })) TooDeep
too_deep_here [] number depth end phrase k d goals stack had values what e m deep = absurd cc
too_deep_here (token ∷ rest) number depth end phrase k d goals stack had values what e m deep =
    let same : token.what ≡ what = cc in
    let move : enter phrase (Some token.what) token.at number depth ≡ Deepens k d goals had = ap (λ (w : Lexeme). enter phrase (Some w) token.at number depth) same ∙ m in
    step_token too_deep end token rest number depth phrase stack values ∙ ap (λ (m : Move). moved too_deep token rest m depth stack values) move
    ∙ rw deep refl

is_shallow : (d : ℕ) → d ≤ deepest → too_deep d ≡ false
is_shallow d le = grind arith

is_deep : (d : ℕ) → deepest < d → too_deep d ≡ true
is_deep d lt = grind arith

-- The phrase takes the next token, which makes the depth greater, or too great.
pub deepens : (r : Reader) (phrase : Phrase) (what : Lexeme) (k d : ℕ) (goals : List Goal) (had : List Value) → next r ≡ Some what
    → enter phrase (Some what) (here r) r.number r.depth ≡ Deepens k d goals had → d ≤ deepest → Reaches r (want phrase ∷ []) [] (behind_at r k d) goals had
deepens r phrase what k d goals had e m le = record {
  leads = λ stack values. steps_to (config r (want phrase ∷ stack) values) (config (behind_at r k d) (goals ++ stack) (had ++ values))
      (deepens_at r.rest r.number r.depth r.end phrase k d goals stack had values what e m (is_shallow d le));
  same_end = refl;
  no_longer = shorter r.rest;
}

refused_is : {at place : Place} {rule broken : Rule} {error : ParseError} → error ≡ refusal at rule → error ≡ refusal place broken → off at rule ≡ off place broken
refused_is {at} {place} {rule} {broken} {error} e f = let same : refusal at rule ≡ refusal place broken = sym e ∙ f in
    let r : Refusal = record { at = at; rule = rule } in let s : Refusal = record { at = place; rule = broken } in
    let equal : r ≡ s = cc in
    ap (λ (x : Refusal). off x.at x.rule) equal

stops_by : (r : Reader) (goals : List Goal) (given : List Value) (error : ParseError) (at : Place) (rule : Rule) → error ≡ refusal at rule
    → ((stack : List Goal) (values : List Value) → step too_deep r.end (config r (goals ++ stack) (given ++ values)) ≡ off at rule) → Stops r goals given error
stops_by r goals given error at rule e f = record {
  leads = λ place broken is stack values. steps_to (config r (goals ++ stack) (given ++ values)) (off place broken) (f stack values ∙ refused_is e is);
}

pub stops_deep : (r : Reader) (phrase : Phrase) (what : Lexeme) (k d : ℕ) (goals : List Goal) (had : List Value) (error : ParseError) → next r ≡ Some what
    → enter phrase (Some what) (here r) r.number r.depth ≡ Deepens k d goals had → (error ≡ too_deep_at r) × (deepest < d) → Stops r (want phrase ∷ []) [] error
stops_deep r phrase what k d goals had error e m deep = stops_by r (want phrase ∷ []) [] error (here r) TooDeep deep.0
    (λ stack values. too_deep_here r.rest r.number r.depth r.end phrase k d goals stack had values what e m (is_deep d deep.1))

passes_at : (rest : List Lexed) (number depth : ℕ) (end : Place) (phrase : Phrase) (k : ℕ) (goals stack : List Goal) (had values : List Value)
    → enter phrase (next (record { rest = rest; number = number; depth = depth; end = end })) (here (record { rest = rest; number = number; depth = depth; end = end })) number depth ≡ Passes k goals had
    → step too_deep end (At rest number depth (want phrase ∷ stack) values) ≡ At rest k depth (goals ++ stack) (had ++ values)
passes_at [] number depth end phrase k goals stack had values m =
    step_end too_deep end number depth phrase stack values ∙ ap (λ (m : Move). moved_at_end end m depth stack values) m
passes_at (token ∷ rest) number depth end phrase k goals stack had values m =
    step_token too_deep end token rest number depth phrase stack values ∙ ap (λ (m : Move). moved too_deep token rest m depth stack values) m

-- The phrase leaves the next token; the number may change.
pub passes_with : (r : Reader) (phrase : Phrase) (k : ℕ) (goals : List Goal) (had : List Value)
    → enter phrase (next r) (here r) r.number r.depth ≡ Passes k goals had
    → (stack : List Goal) (values : List Value) → Leads too_deep r.end (config r (want phrase ∷ stack) values) (At r.rest k r.depth (goals ++ stack) (had ++ values))
passes_with r phrase k goals had m stack values =
    steps_to (config r (want phrase ∷ stack) values) (At r.rest k r.depth (goals ++ stack) (had ++ values)) (passes_at r.rest r.number r.depth r.end phrase k goals stack had values m)

-- The phrase leaves the next token.
pub passes : (r : Reader) (phrase : Phrase) (goals : List Goal) (had : List Value)
    → enter phrase (next r) (here r) r.number r.depth ≡ Passes r.number goals had → Reaches r (want phrase ∷ []) [] r goals had
passes r phrase goals had m = record {
  leads = passes_with r phrase r.number goals had m;
  same_end = refl;
  no_longer = omega arith;
}

refuses_at : (rest : List Lexed) (number depth : ℕ) (end : Place) (phrase : Phrase) (stack : List Goal) (values : List Value)
    → enter phrase (next (record { rest = rest; number = number; depth = depth; end = end })) (here (record { rest = rest; number = number; depth = depth; end = end })) number depth ≡ Refuses
    → step too_deep end (At rest number depth (want phrase ∷ stack) values) ≡ off (here (record { rest = rest; number = number; depth = depth; end = end })) Syntax
refuses_at [] number depth end phrase stack values m =
    step_end too_deep end number depth phrase stack values ∙ ap (λ (m : Move). moved_at_end end m depth stack values) m
refuses_at (token ∷ rest) number depth end phrase stack values m =
    step_token too_deep end token rest number depth phrase stack values ∙ ap (λ (m : Move). moved too_deep token rest m depth stack values) m

-- The phrase cannot stand at the next token.
pub refuses : (r : Reader) (phrase : Phrase) (error : ParseError) → enter phrase (next r) (here r) r.number r.depth ≡ Refuses → error ≡ syntax_at r
    → Stops r (want phrase ∷ []) [] error
refuses r phrase error m e = stops_by r (want phrase ∷ []) [] error (here r) Syntax e (λ stack values. refuses_at r.rest r.number r.depth r.end phrase stack values m)

-- ---- results

-- an error that is handed on
pub thrown : {A : Type 0} {old : Reader} {goals : List Goal} {given : List Value} {error : ParseError} (result : Result A ParseError)
    → IsErr result × IsErrAnd result (λ e. e ≡ error) → Stops old goals given error → IfErr result (λ e. Stops old goals given e)
thrown {A} {old} {goals} {given} {error} (Ok x) h s = tt
thrown {A} {old} {goals} {given} {error} (Err e) h s = subst (λ (e : ParseError). Stops old goals given e) (sym h.1) s

pub read_after : {A : Type 0} {old mid : Reader} {goals between : List Goal} {given had : List Value} (new : Reader) (result : Result A ParseError) (of : A → Value)
    → Reaches old goals given mid between had → IfOk result (λ x. Reaches mid between had new [] (of x ∷ [])) → IfOk result (λ x. Reaches old goals given new [] (of x ∷ []))
read_after {A} {old} {mid} {goals} {between} {given} {had} new (Ok x) of f g = reaches_then f g
read_after {A} {old} {mid} {goals} {between} {given} {had} new (Err e) of f g = tt

pub stopped_after : {A : Type 0} {old mid : Reader} {goals between : List Goal} {given had : List Value} (result : Result A ParseError)
    → Reaches old goals given mid between had → IfErr result (λ e. Stops mid between had e) → IfErr result (λ e. Stops old goals given e)
stopped_after {A} {old} {mid} {goals} {between} {given} {had} (Ok x) f g = tt
stopped_after {A} {old} {mid} {goals} {between} {given} {had} (Err e) f g = stops_after f g
