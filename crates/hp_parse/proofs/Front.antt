-- What is known of the machine at each of its steps: which tokens it has taken, that it would go on from them with any
-- others behind, that some script's tokens begin with them, and that none of them is too deep.
use Rattle.std.proofs.Common.{◌≡◌, ℕ, zero, suc, ◌≤◌, ◌<◌, Bool, true, false, List, [], ◌∷◌, ◌++◌, Some, None, refl, ap, sym, ◌∙◌, subst, append_assoc, arith}
use Rattle.std.specs.Prelude.{if◌then◌else◌, nat_lt}
use Rattle.std.proofs.lemmas.List.{append-nil}
use Rattle.std.proofs.lemmas.Bool.{ltb-true, ltb-false}
use Rattle.hp_word.specs.declared.place.Place.{Place}
use Rattle.hp_script.specs.declared.rule.Rule.TheVariants as rules
use Rattle.hp_script.specs.declared.tree.Stmt.{Stmt}
use Rattle.hp_script.specs.Lexemes.{Lexeme, Newline, Lexed}
use Rattle.hp_script.specs.Depth.{Open, Nesting, nesting, nested, nesting_behind, outermost, IsShallow, deepest}
use Rattle.hp_parse.specs.Machine.{Phrase, Action, Goal, Value, Move, want, make, stmts, Chain, Tail, Unary, Indexed, Primary, ColumnName, AfterName, AfterDot, Argument, AfterArgumentName, AfterArgument, Statement, Block, Body, AfterStatement, made, Takes, Deepens, Passes, Refuses, enter, Config, At, Refused, Accepted, step, run, Leads, moved, moved_at_end, finished, never, too_deep, start}
use Rattle.hp_parse.proofs.Runs.{leads_here, leads_then, step_make, step_end, step_token}
use Rattle.hp_parse.proofs.Completed.{sorts, completed, Wants, Needs, Fits}
use Rattle.hp_parse.proofs.CompletedMoves.{FitsMove, fits_enter, fits_made, fits_joined}
use Rattle.hp_parse.proofs.CompletedRuns.{leads_by, Accepts, accepts_completed, then_accepts}
use Rattle.hp_parse.proofs.Deep.{Opened, Nests, NestsMove, nests_enter}

-- ---- something is left to do while tokens are left

-- if nothing is wanted any more, no token is left
abbrev pub AtEnd : List Lexed → List Goal → Type 0
AtEnd tokens [] = tokens ≡ []
AtEnd tokens (make action ∷ stack) = AtEnd tokens stack
AtEnd tokens (want phrase ∷ stack) = Unit {0}

end_wants : (tokens : List Lexed) (stack : List Goal) → Wants stack → AtEnd tokens stack
end_wants tokens [] h = absurd h
end_wants tokens (make action ∷ stack) h = end_wants tokens stack h
end_wants tokens (want phrase ∷ stack) h = tt

end_none : (stack : List Goal) → AtEnd [] stack
end_none [] = refl
end_none (make action ∷ stack) = end_none stack
end_none (want phrase ∷ stack) = tt

wants_behind : (goals stack : List Goal) → Wants stack → Wants (goals ++ stack)
wants_behind [] stack h = h
wants_behind (make action ∷ goals) stack h = wants_behind goals stack h
wants_behind (want phrase ∷ goals) stack h = tt

abbrev WantsMove : Move → List Goal → Type 0
WantsMove (Takes k d goals given) stack = Wants (goals ++ stack)
WantsMove (Deepens k d goals given) stack = Wants (goals ++ stack)
WantsMove (Passes k goals given) stack = Wants (goals ++ stack)
WantsMove Refuses stack = Unit {0}

wants_move : (move : Move) (stack : List Goal) → Wants stack → WantsMove move stack
wants_move (Takes k d goals given) stack h = wants_behind goals stack h
wants_move (Deepens k d goals given) stack h = wants_behind goals stack h
wants_move (Passes k goals given) stack h = wants_behind goals stack h
wants_move Refuses stack h = tt

wants_body : (what : Lexeme) (at : Place) (k d : ℕ) (stack : List Goal) → WantsMove (enter Body (Some what) at k d) stack
unfolding enter
wants_body Newline at k d stack = tt
wants_body _ at k d stack = tt

wants_after_statement : (before : ℕ) (what : Lexeme) (at : Place) (k d : ℕ) (stack : List Goal) → WantsMove (enter (AfterStatement before) (Some what) at k d) stack
unfolding enter
wants_after_statement before Newline at k d stack = tt
wants_after_statement before _ at k d stack = tt

wants_enter : (phrase : Phrase) (what : Lexeme) (at : Place) (k d : ℕ) (stack : List Goal) → Needs phrase stack → WantsMove (enter phrase (Some what) at k d) stack
wants_enter (Chain level) what at k d stack h = wants_move (enter (Chain level) (Some what) at k d) stack h.1
wants_enter (Tail level) what at k d stack h = wants_move (enter (Tail level) (Some what) at k d) stack h.1
wants_enter Unary what at k d stack h = wants_move (enter Unary (Some what) at k d) stack h.1
wants_enter Indexed what at k d stack h = wants_move (enter Indexed (Some what) at k d) stack h.1
wants_enter Primary what at k d stack h = wants_move (enter Primary (Some what) at k d) stack h.1
wants_enter (ColumnName id start) what at k d stack h = wants_move (enter (ColumnName id start) (Some what) at k d) stack h.1
wants_enter (AfterName id start bytes) what at k d stack h = wants_move (enter (AfterName id start bytes) (Some what) at k d) stack h.1
wants_enter (AfterDot id start bytes) what at k d stack h = wants_move (enter (AfterDot id start bytes) (Some what) at k d) stack h.1
wants_enter Argument what at k d stack h = wants_move (enter Argument (Some what) at k d) stack h.1
wants_enter (AfterArgumentName start bytes) what at k d stack h = wants_move (enter (AfterArgumentName start bytes) (Some what) at k d) stack h.1
wants_enter AfterArgument what at k d stack h = wants_move (enter AfterArgument (Some what) at k d) stack h.1
wants_enter Statement what at k d stack h = wants_move (enter Statement (Some what) at k d) stack h.1
wants_enter Block what at k d stack h = wants_move (enter Block (Some what) at k d) stack h.1
wants_enter Body what at k d stack h = wants_body what at k d stack
wants_enter (AfterStatement before) what at k d stack h = wants_after_statement before what at k d stack
wants_enter phrase what at k d stack h = wants_move (enter phrase (Some what) at k d) stack h

-- ---- what is known

-- Without a limit the machine comes behind the front, whatever stands behind the next token, or to the end.
abbrev pub Goes : (end : Place) (front tokens : List Lexed) (k d : ℕ) → List Goal → List Value → Type 0
Goes end front [] k d stack values = Leads never end (start front) (At [] k d stack values)
Goes end front (token ∷ rest) k d stack values = (more : List Lexed) → Leads never end (start (front ++ token ∷ more)) (At (token ∷ more) k d stack values)

-- without a limit the machine accepts something that begins with the front
pub record GoesOn (end : Place) (front : List Lexed) : Type 0 where
  pub more : List Lexed
  pub body : List Stmt
  pub nodes : ℕ
  pub leads : Leads never end (start (front ++ more)) (Accepted body nodes)

-- Of all the tokens `all` the machine has taken a front, and is at `tokens` with this to do.
pub record Known (all : List Lexed) (end : Place) (tokens : List Lexed) (k d : ℕ) (stack : List Goal) (values : List Value) : Type 0 where
  pub front : List Lexed
  pub parts : all ≡ front ++ tokens
  pub goes_on : GoesOn end front
  pub shallow : IsShallow outermost front
  pub opened : List Open
  pub nests : nesting_behind outermost front ≡ nesting d opened
  pub holds : Opened stack d opened
  pub low : d ≤ deepest
  pub fits : Fits stack (sorts values)
  pub here : Goes end front tokens k d stack values
  pub left : AtEnd tokens stack

-- Without a limit the machine refuses at this place, whatever stands behind the next token.
abbrev pub IsStuck : (end : Place) (front rest : List Lexed) (place : Place) → Type 0
IsStuck end front [] place = Leads never end (start front) (Refused end rules.Syntax) × (place ≡ end)
IsStuck end front (token ∷ rest) place = ((more : List Lexed) → Leads never end (start (front ++ token ∷ more)) (Refused token.at rules.Syntax)) × (place ≡ token.at)

-- the machine refuses at a place, by its steps
pub record Breaks (all : List Lexed) (end place : Place) : Type 0 where
  pub front : List Lexed
  pub rest : List Lexed
  pub parts : all ≡ front ++ rest
  pub goes_on : GoesOn end front
  pub shallow : IsShallow outermost front
  pub stuck : IsStuck end front rest place

-- a token is too deep, by the machine's steps
pub record TooFar (all : List Lexed) (end place : Place) : Type 0 where
  pub front : List Lexed
  pub token : Lexed
  pub rest : List Lexed
  pub parts : all ≡ front ++ token ∷ rest
  pub goes_on : GoesOn end (front ++ token ∷ [])
  pub shallow : IsShallow outermost front
  pub deep : deepest < (nested (nesting_behind outermost front) token.what).depth
  pub placed : place ≡ token.at

-- what is known at a configuration
abbrev pub IsKnown : (all : List Lexed) (end : Place) → Config → Type 0
IsKnown all end (At tokens k d stack values) = Known all end tokens k d stack values
IsKnown all end (Refused place rules.Syntax) = Breaks all end place
IsKnown all end (Refused place rules.TooDeep) = TooFar all end place
IsKnown all end (Refused place _) = ⊥
IsKnown all end (Accepted body nodes) = Leads never end (start all) (Accepted body nodes) × IsShallow outermost all

-- ---- one token more

behind_more : (n : Nesting) (front : List Lexed) (token : Lexed) → nesting_behind n (front ++ token ∷ []) ≡ nested (nesting_behind n front) token.what
behind_more n [] token = refl
behind_more n (first ∷ front) token = behind_more (nested n first.what) front token

shallow_more : (n : Nesting) (front : List Lexed) (token : Lexed) → IsShallow n front → (nested (nesting_behind n front) token.what).depth ≤ deepest → IsShallow n (front ++ token ∷ [])
shallow_more n [] token h low = (low, tt)
shallow_more n (first ∷ front) token h low = (h.0, shallow_more (nested n first.what) front token h.1 low)

-- the token is taken, whatever follows
behind_token : (end : Place) (front : List Lexed) (token : Lexed) (k d l e : ℕ) (stack goals : List Goal) (values new : List Value)
    → ((more : List Lexed) → Leads never end (start (front ++ token ∷ more)) (At (token ∷ more) k d stack values))
    → ((more : List Lexed) → step never end (At (token ∷ more) k d stack values) ≡ At more l e goals new)
    → (more : List Lexed) → Leads never end (start ((front ++ token ∷ []) ++ more)) (At more l e goals new)
behind_token end front token k d l e stack goals values new here steps more =
    subst (λ (all : List Lexed). Leads never end (start all) (At more l e goals new)) (sym (append_assoc front (token ∷ []) more))
    (leads_then (here more) (leads_by never end (At (token ∷ more) k d stack values) (At more l e goals new) (steps more)))

goes_behind : (end : Place) (front tokens : List Lexed) (k d : ℕ) (stack : List Goal) (values : List Value)
    → ((more : List Lexed) → Leads never end (start (front ++ more)) (At more k d stack values)) → Goes end front tokens k d stack values
goes_behind end front [] k d stack values h = subst (λ (all : List Lexed). Leads never end (start all) (At [] k d stack values)) (append-nil front) (h [])
goes_behind end front (token ∷ rest) k d stack values h = λ more. h (token ∷ more)

goes_on_behind : (end : Place) (front : List Lexed) (k d : ℕ) (stack : List Goal) (values : List Value)
    → ((more : List Lexed) → Leads never end (start (front ++ more)) (At more k d stack values)) → Fits stack (sorts values) → GoesOn end front
goes_on_behind end front k d stack values h fits =
    let whole : Accepts end (start (front ++ completed stack)) = then_accepts (h (completed stack)) (accepts_completed end stack k d values fits) in
    record { more = completed stack; body = whole.body; nodes = whole.nodes; leads = whole.leads }

-- ---- steps

known_finished : (all : List Lexed) (end : Place) (tokens : List Lexed) (k d : ℕ) (values : List Value) → Known all end tokens k d [] values → IsKnown all end (finished values k)
unfolding step
known_finished all end [] k d (stmts body ∷ []) h =
    let whole : h.front ≡ all = sym (append-nil h.front) ∙ sym h.parts in
    let leads : Leads never end (start h.front) (Accepted body k) = leads_then h.here (leads_by never end _ _ refl) in
    (subst (λ (tokens : List Lexed). Leads never end (start tokens) (Accepted body k)) whole leads, subst (IsShallow outermost) whole h.shallow)
known_finished all end (token ∷ rest) k d (stmts body ∷ []) h = absurd (let e : token ∷ rest ≡ [] = h.left in cc)
known_finished all end tokens k d _ h = absurd (let e = h.fits in cc)

goes_then : (end : Place) (front tokens : List Lexed) (k d l e : ℕ) (stack goals : List Goal) (values new : List Value)
    → ((more : List Lexed) → Leads never end (At more k d stack values) (At more l e goals new)) → Goes end front tokens k d stack values → Goes end front tokens l e goals new
goes_then end front [] k d l e stack goals values new on h = leads_then h (on [])
goes_then end front (token ∷ rest) k d l e stack goals values new on h = λ more. leads_then (h more) (on (token ∷ more))

known_made : (all : List Lexed) (end : Place) (tokens : List Lexed) (k d : ℕ) (action : Action) (stack : List Goal) (values : List Value)
    → Known all end tokens k d (make action ∷ stack) values → Known all end tokens k d stack (made action values)
known_made all end tokens k d action stack values h = record {
  front = h.front;
  parts = h.parts;
  goes_on = h.goes_on;
  shallow = h.shallow;
  opened = h.opened;
  nests = h.nests;
  holds = h.holds;
  low = h.low;
  fits = fits_made action stack values h.fits;
  here = goes_then end h.front tokens k d k d (make action ∷ stack) stack values (made action values)
      (λ more. leads_by never end _ _ (step_make never end more k d action stack values)) h.here;
  left = h.left;
}

-- the next token is taken
known_taken : (all : List Lexed) (end : Place) (token : Lexed) (rest : List Lexed) (k d l e : ℕ) (stack goals : List Goal) (values new : List Value)
    → (h : Known all end (token ∷ rest) k d stack values)
    → ((more : List Lexed) → step never end (At (token ∷ more) k d stack values) ≡ At more l e goals new)
    → Fits goals (sorts new) → Wants goals → Nests e goals (nested (nesting d h.opened) token.what) → e ≤ deepest
    → Known all end rest l e goals new
known_taken all end token rest k d l e stack goals values new h steps fits wants nests low =
    let behind = behind_token end h.front token k d l e stack goals values new h.here steps in
    let nesting_then : nested (nesting_behind outermost h.front) token.what ≡ nested (nesting d h.opened) token.what = ap (λ (n : Nesting). nested n token.what) h.nests in
    let depth : (nested (nesting_behind outermost h.front) token.what).depth ≡ e = ap (λ (n : Nesting). n.depth) nesting_then ∙ nests.depth in
    record {
      front = h.front ++ token ∷ [];
      parts = h.parts ∙ sym (append_assoc h.front (token ∷ []) rest);
      goes_on = goes_on_behind end (h.front ++ token ∷ []) l e goals new behind fits;
      shallow = shallow_more outermost h.front token h.shallow (subst (λ (n : ℕ). n ≤ deepest) (sym depth) low);
      opened = (nested (nesting d h.opened) token.what).opened;
      nests = behind_more outermost h.front token ∙ nesting_then ∙ ap (λ (n : ℕ). nesting n (nested (nesting d h.opened) token.what).opened) nests.depth;
      holds = nests.opened;
      low = low;
      fits = fits;
      here = goes_behind end (h.front ++ token ∷ []) rest l e goals new behind;
      left = end_wants rest goals wants;
    }

-- the next token is too deep
known_deep : (all : List Lexed) (end : Place) (token : Lexed) (rest : List Lexed) (k d l e : ℕ) (stack goals : List Goal) (values new : List Value)
    → (h : Known all end (token ∷ rest) k d stack values)
    → ((more : List Lexed) → step never end (At (token ∷ more) k d stack values) ≡ At more l e goals new)
    → Fits goals (sorts new) → (nested (nesting d h.opened) token.what).depth ≡ e → deepest < e
    → TooFar all end token.at
known_deep all end token rest k d l e stack goals values new h steps fits depth deep =
    let behind = behind_token end h.front token k d l e stack goals values new h.here steps in
    let same : (nested (nesting_behind outermost h.front) token.what).depth ≡ e = ap (λ (n : Nesting). (nested n token.what).depth) h.nests ∙ depth in
    record {
      front = h.front;
      token = token;
      rest = rest;
      parts = h.parts;
      goes_on = goes_on_behind end (h.front ++ token ∷ []) l e goals new behind fits;
      shallow = h.shallow;
      deep = subst (λ (n : ℕ). deepest < n) (sym same) deep;
      placed = refl;
    }

known_deepens : (b : Bool) (all : List Lexed) (end : Place) (token : Lexed) (rest : List Lexed) (k d l e : ℕ) (stack goals : List Goal) (values new : List Value)
    → nat_lt deepest e ≡ b → (h : Known all end (token ∷ rest) k d stack values)
    → ((more : List Lexed) → step never end (At (token ∷ more) k d stack values) ≡ At more l e goals new)
    → Fits goals (sorts new) → Wants goals → (nested (nesting d h.opened) token.what).depth ≡ e → (e ≤ deepest → Opened goals e (nested (nesting d h.opened) token.what).opened)
    → IsKnown all end (if b then Refused token.at rules.TooDeep else At rest l e goals new)
known_deepens true all end token rest k d l e stack goals values new test h steps fits wants depth opened =
    known_deep all end token rest k d l e stack goals values new h steps fits depth (ltb-true deepest e test)
known_deepens false all end token rest k d l e stack goals values new test h steps fits wants depth opened =
    let low : e ≤ deepest = ltb-false deepest e test in
    known_taken all end token rest k d l e stack goals values new h steps fits wants (record { depth = depth; opened = opened low }) low

-- a move at a token
known_moved : (all : List Lexed) (end : Place) (token : Lexed) (rest : List Lexed) (k d : ℕ) (phrase : Phrase) (stack : List Goal) (values : List Value) (move : Move)
    → (h : Known all end (token ∷ rest) k d (want phrase ∷ stack) values)
    → ((more : List Lexed) → step never end (At (token ∷ more) k d (want phrase ∷ stack) values) ≡ moved never token more move d stack values)
    → FitsMove move stack (sorts values) → WantsMove move stack → NestsMove (Some token.what) move d stack h.opened
    → IsKnown all end (moved too_deep token rest move d stack values)
known_moved all end token rest k d phrase stack values (Takes l e goals given) h steps fits wants nests =
    known_taken all end token rest k d l e (want phrase ∷ stack) (goals ++ stack) values (given ++ values) h steps (fits_joined (goals ++ stack) given values fits) wants nests.0 nests.1
known_moved all end token rest k d phrase stack values (Deepens l e goals given) h steps fits wants nests =
    known_deepens (nat_lt deepest e) all end token rest k d l e (want phrase ∷ stack) (goals ++ stack) values (given ++ values) refl h steps
    (fits_joined (goals ++ stack) given values fits) wants nests.0 nests.1
known_moved all end token rest k d phrase stack values (Passes l goals given) h steps fits wants nests = record {
  front = h.front;
  parts = h.parts;
  goes_on = h.goes_on;
  shallow = h.shallow;
  opened = h.opened;
  nests = h.nests;
  holds = nests;
  low = h.low;
  fits = fits_joined (goals ++ stack) given values fits;
  here = λ more. leads_then (h.here more) (leads_by never end _ _ (steps more));
  left = end_wants (token ∷ rest) (goals ++ stack) wants;
}
known_moved all end token rest k d phrase stack values Refuses h steps fits wants nests = record {
  front = h.front;
  rest = token ∷ rest;
  parts = h.parts;
  goes_on = h.goes_on;
  shallow = h.shallow;
  stuck = (λ more. leads_then (h.here more) (leads_by never end _ _ (steps more)), refl);
}

-- a refusal at the end
known_stuck : (all : List Lexed) (end : Place) (k d : ℕ) (stack : List Goal) (values : List Value) → Known all end [] k d stack values
    → step never end (At [] k d stack values) ≡ Refused end rules.Syntax → Breaks all end end
known_stuck all end k d stack values h steps = record {
  front = h.front;
  rest = [];
  parts = h.parts;
  goes_on = h.goes_on;
  shallow = h.shallow;
  stuck = (leads_then h.here (leads_by never end _ _ steps), refl);
}

-- a move at the end
known_moved_at_end : (all : List Lexed) (end : Place) (k d : ℕ) (phrase : Phrase) (stack : List Goal) (values : List Value) (move : Move)
    → (h : Known all end [] k d (want phrase ∷ stack) values)
    → step never end (At [] k d (want phrase ∷ stack) values) ≡ moved_at_end end move d stack values
    → FitsMove move stack (sorts values) → NestsMove None move d stack h.opened
    → IsKnown all end (moved_at_end end move d stack values)
known_moved_at_end all end k d phrase stack values (Passes l goals given) h steps fits nests = record {
  front = h.front;
  parts = h.parts;
  goes_on = h.goes_on;
  shallow = h.shallow;
  opened = h.opened;
  nests = h.nests;
  holds = nests;
  low = h.low;
  fits = fits_joined (goals ++ stack) given values fits;
  here = leads_then h.here (leads_by never end _ _ steps);
  left = end_none (goals ++ stack);
}
known_moved_at_end all end k d phrase stack values _ h steps fits nests = known_stuck all end k d (want phrase ∷ stack) values h steps

-- ---- all steps

pub known_step : (all : List Lexed) (end : Place) (c : Config) → IsKnown all end c → IsKnown all end (step too_deep end c)
unfolding step
known_step all end (At tokens k d [] values) h = known_finished all end tokens k d values h
known_step all end (At tokens k d (make action ∷ stack) values) h = known_made all end tokens k d action stack values h
known_step all end (At [] k d (want phrase ∷ stack) values) h =
    known_moved_at_end all end k d phrase stack values (enter phrase None end k d) h (step_end never end k d phrase stack values)
    (fits_enter phrase None end k d stack (sorts values) h.fits) (nests_enter phrase None end k d stack h.opened h.low h.holds)
known_step all end (At (token ∷ rest) k d (want phrase ∷ stack) values) h =
    known_moved all end token rest k d phrase stack values (enter phrase (Some token.what) token.at k d) h (λ more. step_token never end token more k d phrase stack values)
    (fits_enter phrase (Some token.what) token.at k d stack (sorts values) h.fits)
    (wants_enter phrase token.what token.at k d stack h.fits.0)
    (nests_enter phrase (Some token.what) token.at k d stack h.opened h.low h.holds)
known_step all end (Refused place rule) h = h
known_step all end (Accepted body nodes) h = h

goes_start : (end : Place) (tokens : List Lexed) → Goes end [] tokens 0 0 (want Body ∷ []) (stmts [] ∷ [])
goes_start end [] = leads_here never end (start [])
goes_start end (token ∷ rest) = λ more. leads_here never end (start (token ∷ more))

pub known_start : (all : List Lexed) (end : Place) → IsKnown all end (start all)
known_start all end =
    let none : Accepts end (start []) = accepts_completed end (want Body ∷ []) 0 0 (stmts [] ∷ []) (refl, refl) in
    record {
      front = [];
      parts = refl;
      goes_on = record { more = []; body = none.body; nodes = none.nodes; leads = none.leads };
      shallow = tt;
      opened = Open.Statement 0 ∷ [];
      nests = refl;
      holds = record { is = refl; rest = λ d opened. tt };
      low = omega arith;
      fits = (refl, refl);
      here = goes_start end all;
      left = tt;
    }

pub known_run : (all : List Lexed) (end : Place) (n : ℕ) (c : Config) → IsKnown all end c → IsKnown all end (run too_deep end n c)
unfolding run
known_run all end zero c h = h
known_run all end (suc n) c h = known_run all end n (step too_deep end c) (known_step all end c h)

-- What the machine with its limit comes to is known.
pub known_leads : (all : List Lexed) (end : Place) (c : Config) → Leads too_deep end (start all) c → IsKnown all end c
known_leads all end c l = subst (IsKnown all end) l.run_is (known_run all end l.steps (start all) (known_start all end))
