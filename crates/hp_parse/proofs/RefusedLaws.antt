-- The machine's limit, and what the machine refuses: the laws that the parser rests on.
use Rattle.std.proofs.Common.{◌≡◌, ℕ, zero, suc, ◌+◌, ◌≤◌, ◌<◌, Bool, true, false, List, [], ◌∷◌, ◌++◌, Some, refl, ap, sym, ◌∙◌, subst, append_assoc, arith}
use Rattle.std.specs.Prelude.{if◌then◌else◌, nat_lt, ◌↔◌}
use Rattle.hp_word.specs.declared.place.Place.{Place}
use Rattle.hp_script.specs.declared.rule.Rule.{Rule}
use Rattle.hp_script.specs.declared.rule.Rule.TheVariants as rules
use Rattle.hp_script.specs.declared.tree.Stmt.{Stmt}
use Rattle.hp_script.specs.Lexemes.{Lexed}
use Rattle.hp_script.specs.Grammar.{Spells, Begins}
use Rattle.hp_script.specs.Depth.{nested, nesting_behind, outermost, IsShallow, deepest}
use Rattle.hp_script.specs.Refusals.{GoesWrong, IsNoScript}
use Rattle.hp_parse.specs.Machine.{Goal, Value, Move, want, make, Deepens, enter, Config, At, Refused, Accepted, step, run, Leads, moved, never, too_deep, start}
use Rattle.hp_parse.proofs.Runs.{run_add}
use Rattle.hp_parse.proofs.Front.{GoesOn, Breaks, TooFar, IsStuck, known_leads}
use Rattle.hp_parse.proofs.RefusedOnce.{shallow_at}

-- The machine without a limit reads what the grammar says, and only that.
pub record Laws : Type 0 where
  pub sound : (tokens : List Lexed) (end : Place) (body : List Stmt) (nodes : ℕ) → Leads never end (start tokens) (Accepted body nodes) → Spells tokens body nodes
  pub followed : (tokens : List Lexed) (end : Place) (body : List Stmt) (nodes : ℕ) → Spells tokens body nodes → Leads never end (start tokens) (Accepted body nodes)

-- ---- one end

stays : (is_deep : ℕ → Bool) (end : Place) (n : ℕ) (c : Config) → step is_deep end c ≡ c → run is_deep end n c ≡ c
unfolding run
stays is_deep end zero c e = refl
stays is_deep end (suc n) c e = ap (run is_deep end n) e ∙ stays is_deep end n c e

-- The machine comes to one end.
pub one_end : (is_deep : ℕ → Bool) (end : Place) (a b c : Config) → Leads is_deep end a b → Leads is_deep end a c → step is_deep end b ≡ b → step is_deep end c ≡ c → b ≡ c
one_end is_deep end a b c l r f g =
    let left : run is_deep end (l.steps + r.steps) a ≡ b = run_add is_deep end l.steps r.steps a ∙ ap (run is_deep end r.steps) l.run_is ∙ stays is_deep end r.steps b f in
    let right : run is_deep end (r.steps + l.steps) a ≡ c = run_add is_deep end r.steps l.steps a ∙ ap (run is_deep end l.steps) r.run_is ∙ stays is_deep end l.steps c g in
    let swapped : l.steps + r.steps ≡ r.steps + l.steps = omega arith in
    sym left ∙ ap (λ (n : ℕ). run is_deep end n a) swapped ∙ right

pub stays_refused : (is_deep : ℕ → Bool) (end place : Place) (rule : Rule) → step is_deep end (Refused place rule) ≡ Refused place rule
unfolding step
stays_refused is_deep end place rule = refl

pub stays_accepted : (is_deep : ℕ → Bool) (end : Place) (body : List Stmt) (nodes : ℕ) → step is_deep end (Accepted body nodes) ≡ Accepted body nodes
unfolding step
stays_accepted is_deep end body nodes = refl

accepted_refused : (body : List Stmt) (nodes : ℕ) (place : Place) (rule : Rule) → Accepted body nodes ≡ Refused place rule → ⊥
accepted_refused body nodes place rule e = cc

-- the machine does not both accept and refuse
pub not_both : (is_deep : ℕ → Bool) (end : Place) (a : Config) (body : List Stmt) (nodes : ℕ) (place : Place) (rule : Rule)
    → Leads is_deep end a (Accepted body nodes) → Leads is_deep end a (Refused place rule) → ⊥
not_both is_deep end a body nodes place rule l r =
    accepted_refused body nodes place rule
    (one_end is_deep end a (Accepted body nodes) (Refused place rule) l r (stays_accepted is_deep end body nodes) (stays_refused is_deep end place rule))

-- ---- the limit

-- one step with the limit is the step without it, or is refused
data Limited (end : Place) (new without : Config) : Type 0 where
  same : new ≡ without → Limited end new without
  deep : (place : Place) → new ≡ Refused place rules.TooDeep → Limited end new without

limited_if : (end : Place) (b : Bool) (token : Lexed) (c : Config) → Limited end (if b then Refused token.at rules.TooDeep else c) c
limited_if end true token c = deep token.at refl
limited_if end false token c = same refl

limited_moved : (end : Place) (token : Lexed) (rest : List Lexed) (move : Move) (d : ℕ) (stack : List Goal) (values : List Value)
    → Limited end (moved too_deep token rest move d stack values) (moved never token rest move d stack values)
limited_moved end token rest (Deepens k e goals given) d stack values = limited_if end (nat_lt deepest e) token (At rest k e (goals ++ stack) (given ++ values))
limited_moved end token rest _ d stack values = same refl

limited_step : (end : Place) (c : Config) → Limited end (step too_deep end c) (step never end c)
unfolding step
limited_step end (At tokens k d [] values) = same refl
limited_step end (At tokens k d (make action ∷ stack) values) = same refl
limited_step end (At [] k d (want phrase ∷ stack) values) = same refl
limited_step end (At (token ∷ rest) k d (want phrase ∷ stack) values) = limited_moved end token rest (enter phrase (Some token.what) token.at k d) d stack values
limited_step end (Refused place rule) = same refl
limited_step end (Accepted body nodes) = same refl

limited_then : (end : Place) (n : ℕ) (new without : Config) → Limited end new without → Limited end (run too_deep end n without) (run never end n without)
    → Limited end (run too_deep end n new) (run never end n without)
limited_then end n new without (deep place e) h = deep place (ap (run too_deep end n) e ∙ stays too_deep end n (Refused place rules.TooDeep) (stays_refused too_deep end place rules.TooDeep))
limited_then end n new without (same e) (deep place f) = deep place (ap (run too_deep end n) e ∙ f)
limited_then end n new without (same e) (same f) = same (ap (run too_deep end n) e ∙ f)

limited : (end : Place) (n : ℕ) (c : Config) → Limited end (run too_deep end n c) (run never end n c)
unfolding run
limited end zero c = same refl
limited end (suc n) c = limited_then end n (step too_deep end c) (step never end c) (limited_step end c) (limited end n (step never end c))

too_far : (tokens : List Lexed) (end place : Place) → TooFar tokens end place → IsShallow outermost tokens → ⊥
too_far tokens end place h shallow =
    let low : (nested (nesting_behind outermost h.front) h.token.what).depth ≤ deepest = shallow_at outermost h.front h.token h.rest (subst (IsShallow outermost) h.parts shallow) in
    let high : deepest < (nested (nesting_behind outermost h.front) h.token.what).depth = h.deep in
    absurd (omega arith)

accepts_within : (tokens : List Lexed) (end : Place) (body : List Stmt) (nodes : ℕ) (l : Leads never end (start tokens) (Accepted body nodes)) → IsShallow outermost tokens
    → Limited end (run too_deep end l.steps (start tokens)) (run never end l.steps (start tokens)) → Leads too_deep end (start tokens) (Accepted body nodes)
accepts_within tokens end body nodes l shallow (same e) = record { steps = l.steps; run_is = e ∙ l.run_is }
accepts_within tokens end body nodes l shallow (deep place e) =
    absurd (too_far tokens end place (known_leads tokens end (Refused place rules.TooDeep) (record { steps = l.steps; run_is = e })) shallow)

-- With its limit the machine accepts what it accepts without it and is shallow.
pub shallow : (tokens : List Lexed) (end : Place) (body : List Stmt) (nodes : ℕ)
    → Leads too_deep end (start tokens) (Accepted body nodes) ↔ (Leads never end (start tokens) (Accepted body nodes) × IsShallow outermost tokens)
shallow tokens end body nodes =
    (known_leads tokens end (Accepted body nodes), λ h. accepts_within tokens end body nodes h.0 h.1 (limited end h.0.steps (start tokens)))

-- ---- refusals

begins_by : Laws → (end : Place) (front : List Lexed) → GoesOn end front → Begins front
begins_by laws end front h = record { more = h.more; body = h.body; nodes = h.nodes; spelled = laws.sound (front ++ h.more) end h.body h.nodes h.leads }

wrong_by : Laws → (end : Place) (front rest : List Lexed) (place : Place) → IsStuck end front rest place → GoesWrong front rest end place
wrong_by laws end front [] place h =
    (λ body nodes spelled. not_both never end (start front) body nodes end rules.Syntax (laws.followed front end body nodes spelled) h.0, h.1)
wrong_by laws end front (token ∷ rest) place h = (
  λ (b : Begins (front ++ token ∷ [])).
      let l = laws.followed ((front ++ token ∷ []) ++ b.more) end b.body b.nodes b.spelled in
      let there : Leads never end (start (front ++ token ∷ b.more)) (Accepted b.body b.nodes) =
      subst (λ (all : List Lexed). Leads never end (start all) (Accepted b.body b.nodes)) (append_assoc front (token ∷ []) b.more) l in
      not_both never end (start (front ++ token ∷ b.more)) b.body b.nodes token.at rules.Syntax there (h.0 b.more),
  h.1,
)

-- What the machine refuses is no script, at that place and by that rule.
pub refused : Laws → (tokens : List Lexed) (end place : Place) (rule : Rule) → Leads too_deep end (start tokens) (Refused place rule) → IsNoScript tokens end place rule
refused laws tokens end place rules.Syntax l =
    let h : Breaks tokens end place = known_leads tokens end (Refused place rules.Syntax) l in
    record { front = h.front; rest = h.rest; parts = h.parts; begins = begins_by laws end h.front h.goes_on; shallow = h.shallow; wrong = wrong_by laws end h.front h.rest place h.stuck }
refused laws tokens end place rules.TooDeep l =
    let h : TooFar tokens end place = known_leads tokens end (Refused place rules.TooDeep) l in
    record {
      front = h.front;
      token = h.token;
      rest = h.rest;
      parts = h.parts;
      begins = begins_by laws end (h.front ++ h.token ∷ []) h.goes_on;
      shallow = h.shallow;
      deep = h.deep;
      placed = h.placed;
    }
refused laws tokens end place _ l = absurd (known_leads tokens end (Refused place _) l)
