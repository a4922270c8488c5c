-- The machine reads the shortest texts of what it wants, and accepts.
use Rattle.std.proofs.Common.{◌≡◌, ℕ, suc, Bool, true, List, [], ◌∷◌, ◌++◌, Option, Some, None, refl, ap, sym, ◌∙◌, subst}
use Rattle.hp_word.specs.declared.place.Place.{Place}
use Rattle.hp_script.specs.declared.tree.Level.{Level}
use Rattle.hp_script.specs.declared.tree.Level.TheVariants.{Disjunction, Conjunction, Comparison, Sum, Product}
use Rattle.hp_script.specs.declared.tree.Stmt.{Stmt}
use Rattle.hp_script.specs.declared.token.Keyword.TheVariants as keywords
use Rattle.hp_script.specs.declared.token.Sign.TheVariants as signs
use Rattle.hp_script.specs.Lexemes.{Lexeme, Word, Mark, Newline, Lexed}
use Rattle.hp_script.specs.Trees.{truth_node, name_node}
use Rattle.hp_parse.specs.Machine.{Phrase, Action, Goal, Value, Move, want, make, expr, stmts, Chain, Tail, Unary, Indexed, Primary, ColumnName, AfterName, AfterDot, Arguments, MoreArguments, Argument, AfterArgumentName, AfterArgument, Bracket, Close, CloseIndex, AssignSign, Line, Statement, AfterBlock, End, EndLine, Block, Body, AfterStatement, MakePlain, MakeAssign, MakeIf, EmptyBlock, AppendStatement, made, Passes, enter, Config, At, Accepted, step, Leads, moved, moved_at_end, operand, never, goes_on_from_name}
use Rattle.hp_parse.proofs.Runs.{leads_then, leads_step, step_end, step_token}
use Rattle.hp_parse.proofs.Completed.{sorts, nowhere, made_up, shortest, short, completed, first, Stops, Closes, Needs, Fits}
use Rattle.hp_parse.proofs.CompletedMoves.{fits_leads}

-- ---- passing

-- one step, given where it leads
pub leads_by : (is_deep : ℕ → Bool) (end : Place) (a b : Config) → step is_deep end a ≡ b → Leads is_deep end a b
leads_by is_deep end a b e = subst (λ (c : Config). Leads is_deep end a c) e (leads_step is_deep end a)

place_of : Place → List Lexed → Place
place_of end [] = end
place_of end (token ∷ tokens) = token.at

passes : (end : Place) (phrase : Phrase) (tokens : List Lexed) (k d l : ℕ) (goals stack : List Goal) (given values : List Value)
    → ((at : Place) → enter phrase (first tokens) at k d ≡ Passes l goals given)
    → Leads never end (At tokens k d (want phrase ∷ stack) values) (At tokens l d (goals ++ stack) (given ++ values))
passes end phrase [] k d l goals stack given values e =
    leads_by never end _ _ (step_end never end k d phrase stack values ∙ ap (λ (move : Move). moved_at_end end move d stack values) (e end))
passes end phrase (token ∷ rest) k d l goals stack given values e =
    leads_by never end _ _ (step_token never end token rest k d phrase stack values ∙ ap (λ (move : Move). moved never token rest move d stack values) (e token.at))

tail_stops : (level : Level) (what : Option Lexeme) (at : Place) (k d : ℕ) → Stops what → enter (Tail level) what at k d ≡ Passes k [] []
unfolding enter
tail_stops level None at k d h = refl
tail_stops level (Some (Mark signs.Close)) at k d h = refl
tail_stops level (Some (Mark signs.CloseIndex)) at k d h = refl
tail_stops level (Some Newline) at k d h = refl
tail_stops level _ at k d h = absurd h

indexed_stops : (what : Option Lexeme) (at : Place) (k d : ℕ) → Stops what → enter Indexed what at k d ≡ Passes k [] []
unfolding enter
indexed_stops None at k d h = refl
indexed_stops (Some (Mark signs.Close)) at k d h = refl
indexed_stops (Some (Mark signs.CloseIndex)) at k d h = refl
indexed_stops (Some Newline) at k d h = refl
indexed_stops _ at k d h = absurd h

name_stops : (id : ℕ) (start : Place) (bytes : List ℕ) (what : Option Lexeme) (at : Place) (k d : ℕ) → Stops what
    → enter (AfterName id start bytes) what at k d ≡ Passes k [] (expr (name_node id start bytes) ∷ [])
unfolding enter
name_stops id start bytes None at k d h = refl
name_stops id start bytes (Some (Mark signs.Close)) at k d h = refl
name_stops id start bytes (Some (Mark signs.CloseIndex)) at k d h = refl
name_stops id start bytes (Some Newline) at k d h = refl
name_stops id start bytes _ at k d h = absurd h

argument_name_stops : (start : Place) (bytes : List ℕ) (what : Option Lexeme) (at : Place) (k d : ℕ) → Stops what
    → enter (AfterArgumentName start bytes) what at k d ≡ Passes (suc k) (goes_on_from_name k start bytes) []
unfolding enter
argument_name_stops start bytes None at k d h = refl
argument_name_stops start bytes (Some (Mark signs.Close)) at k d h = refl
argument_name_stops start bytes (Some (Mark signs.CloseIndex)) at k d h = refl
argument_name_stops start bytes (Some Newline) at k d h = refl
argument_name_stops start bytes _ at k d h = absurd h

argument_stops : (what : Option Lexeme) (at : Place) (k d : ℕ) → Stops what → enter AfterArgument what at k d ≡ Passes k (make MakePlain ∷ []) []
unfolding enter
argument_stops None at k d h = refl
argument_stops (Some (Mark signs.Close)) at k d h = refl
argument_stops (Some (Mark signs.CloseIndex)) at k d h = refl
argument_stops (Some Newline) at k d h = refl
argument_stops _ at k d h = absurd h

block_closes : (what : Option Lexeme) (at : Place) (k d : ℕ) → Closes what → enter Block what at k d ≡ Passes k [] []
unfolding enter
block_closes (Some (Word keywords.End)) at k d h = refl
block_closes _ at k d h = absurd h

-- ---- expressions

-- what the shortest expression makes
abbrev truth : ℕ → Value
truth k = expr (truth_node k nowhere true)

pass_tail : (end : Place) (level : Level) (tokens : List Lexed) (k d : ℕ) (stack : List Goal) (values : List Value) → Stops (first tokens)
    → Leads never end (At tokens k d (want (Tail level) ∷ stack) values) (At tokens k d stack values)
pass_tail end level tokens k d stack values h = passes end (Tail level) tokens k d k [] stack [] values (λ at. tail_stops level (first tokens) at k d h)

pass_indexed : (end : Place) (tokens : List Lexed) (k d : ℕ) (stack : List Goal) (values : List Value) → Stops (first tokens)
    → Leads never end (At tokens k d (want Indexed ∷ stack) values) (At tokens k d stack values)
pass_indexed end tokens k d stack values h = passes end Indexed tokens k d k [] stack [] values (λ at. indexed_stops (first tokens) at k d h)

read_primary : (end : Place) (tokens : List Lexed) (k d : ℕ) (stack : List Goal) (values : List Value)
    → Leads never end (At (shortest ∷ tokens) k d (want Primary ∷ stack) values) (At tokens (suc k) d stack (truth k ∷ values))
unfolding step enter
read_primary end tokens k d stack values = leads_by never end _ _ refl

read_unary : (end : Place) (tokens : List Lexed) (k d : ℕ) (stack : List Goal) (values : List Value) → Stops (first tokens)
    → Leads never end (At (shortest ∷ tokens) k d (want Unary ∷ stack) values) (At tokens (suc k) d stack (truth k ∷ values))
unfolding step enter
read_unary end tokens k d stack values h =
    leads_then (leads_by never end _ (At (shortest ∷ tokens) k d (want Primary ∷ want Indexed ∷ stack) values) refl)
    (leads_then (read_primary end tokens k d (want Indexed ∷ stack) values) (pass_indexed end tokens (suc k) d stack (truth k ∷ values) h))

-- the next level down is read
read_chain : (end : Place) (level : Level) (tokens : List Lexed) (k d : ℕ) (stack : List Goal) (values : List Value) → Stops (first tokens)
    → Leads never end (At (shortest ∷ tokens) k d (operand level ∷ want (Tail level) ∷ stack) values) (At tokens (suc k) d (want (Tail level) ∷ stack) (truth k ∷ values))
    → Leads never end (At (shortest ∷ tokens) k d (want (Chain level) ∷ stack) values) (At tokens (suc k) d stack (truth k ∷ values))
unfolding step enter
read_chain end level tokens k d stack values h l =
    leads_then (leads_by never end _ (At (shortest ∷ tokens) k d (operand level ∷ want (Tail level) ∷ stack) values) refl)
    (leads_then l (pass_tail end level tokens (suc k) d stack (truth k ∷ values) h))

read_product : (end : Place) (tokens : List Lexed) (k d : ℕ) (stack : List Goal) (values : List Value) → Stops (first tokens)
    → Leads never end (At (shortest ∷ tokens) k d (want (Chain Product) ∷ stack) values) (At tokens (suc k) d stack (truth k ∷ values))
read_product end tokens k d stack values h = read_chain end Product tokens k d stack values h (read_unary end tokens k d (want (Tail Product) ∷ stack) values h)

read_sum : (end : Place) (tokens : List Lexed) (k d : ℕ) (stack : List Goal) (values : List Value) → Stops (first tokens)
    → Leads never end (At (shortest ∷ tokens) k d (want (Chain Sum) ∷ stack) values) (At tokens (suc k) d stack (truth k ∷ values))
read_sum end tokens k d stack values h = read_chain end Sum tokens k d stack values h (read_product end tokens k d (want (Tail Sum) ∷ stack) values h)

read_comparison : (end : Place) (tokens : List Lexed) (k d : ℕ) (stack : List Goal) (values : List Value) → Stops (first tokens)
    → Leads never end (At (shortest ∷ tokens) k d (want (Chain Comparison) ∷ stack) values) (At tokens (suc k) d stack (truth k ∷ values))
read_comparison end tokens k d stack values h = read_chain end Comparison tokens k d stack values h (read_sum end tokens k d (want (Tail Comparison) ∷ stack) values h)

read_conjunction : (end : Place) (tokens : List Lexed) (k d : ℕ) (stack : List Goal) (values : List Value) → Stops (first tokens)
    → Leads never end (At (shortest ∷ tokens) k d (want (Chain Conjunction) ∷ stack) values) (At tokens (suc k) d stack (truth k ∷ values))
read_conjunction end tokens k d stack values h =
    read_chain end Conjunction tokens k d stack values h (read_comparison end tokens k d (want (Tail Conjunction) ∷ stack) values h)

read_disjunction : (end : Place) (tokens : List Lexed) (k d : ℕ) (stack : List Goal) (values : List Value) → Stops (first tokens)
    → Leads never end (At (shortest ∷ tokens) k d (want (Chain Disjunction) ∷ stack) values) (At tokens (suc k) d stack (truth k ∷ values))
read_disjunction end tokens k d stack values h =
    read_chain end Disjunction tokens k d stack values h (read_conjunction end tokens k d (want (Tail Disjunction) ∷ stack) values h)

read_level : (end : Place) (level : Level) (tokens : List Lexed) (k d : ℕ) (stack : List Goal) (values : List Value) → Stops (first tokens)
    → Leads never end (At (shortest ∷ tokens) k d (want (Chain level) ∷ stack) values) (At tokens (suc k) d stack (truth k ∷ values))
read_level end Disjunction tokens k d stack values h = read_disjunction end tokens k d stack values h
read_level end Conjunction tokens k d stack values h = read_conjunction end tokens k d stack values h
read_level end Comparison tokens k d stack values h = read_comparison end tokens k d stack values h
read_level end Sum tokens k d stack values h = read_sum end tokens k d stack values h
read_level end Product tokens k d stack values h = read_product end tokens k d stack values h

-- ---- the other phrases

-- The machine reads the shortest text of a phrase, and goes on to what it has to do then.
record Reads (end : Place) (phrase : Phrase) (tokens : List Lexed) (k d : ℕ) (stack : List Goal) (values : List Value) : Type 0 where
  pub number : ℕ
  pub depth : ℕ
  pub values_then : List Value
  pub leads : Leads never end (At (short phrase ++ tokens) k d (want phrase ∷ stack) values) (At tokens number depth stack values_then)

read_argument_end : (end : Place) (tokens : List Lexed) (k d : ℕ) (stack : List Goal) (values : List Value) → Stops (first tokens) → Reads end AfterArgument tokens k d stack values
unfolding step
read_argument_end end tokens k d stack values h = record {
  number = k;
  depth = d;
  values_then = made MakePlain values;
  leads = leads_then (passes end AfterArgument tokens k d k (make MakePlain ∷ []) stack [] values (λ at. argument_stops (first tokens) at k d h)) (leads_by never end _ _ refl);
}

read_argument : (end : Place) (tokens : List Lexed) (k d : ℕ) (stack : List Goal) (values : List Value) → Stops (first tokens) → Reads end Argument tokens k d stack values
unfolding step enter
read_argument end tokens k d stack values h =
    let last = read_argument_end end tokens (suc k) d stack (truth k ∷ values) h in
    record {
      number = last.number;
      depth = last.depth;
      values_then = last.values_then;
      leads = leads_then (leads_by never end _ (At (shortest ∷ tokens) k d (want (Chain Disjunction) ∷ want AfterArgument ∷ stack) values) refl)
          (leads_then (read_disjunction end tokens k d (want AfterArgument ∷ stack) values h) last.leads);
    }

read_argument_name : (end : Place) (at : Place) (bytes : List ℕ) (tokens : List Lexed) (k d : ℕ) (stack : List Goal) (values : List Value) → Stops (first tokens)
    → Reads end (AfterArgumentName at bytes) tokens k d stack values
read_argument_name end at bytes tokens k d stack values h =
    let x : Value = expr (name_node k at bytes) in
    let last = read_argument_end end tokens (suc k) d stack (x ∷ values) h in
    let tails : Leads never end (At tokens (suc k) d (want (Tail Product) ∷ want (Tail Sum) ∷ want (Tail Comparison) ∷ want (Tail Conjunction) ∷ want (Tail Disjunction) ∷ want AfterArgument ∷ stack) (x ∷ values))
    (At tokens (suc k) d (want AfterArgument ∷ stack) (x ∷ values)) =
    leads_then (pass_tail end Product tokens (suc k) d _ (x ∷ values) h) (leads_then (pass_tail end Sum tokens (suc k) d _ (x ∷ values) h)
    (leads_then (pass_tail end Comparison tokens (suc k) d _ (x ∷ values) h) (leads_then (pass_tail end Conjunction tokens (suc k) d _ (x ∷ values) h)
    (pass_tail end Disjunction tokens (suc k) d _ (x ∷ values) h)))) in
    record {
      number = last.number;
      depth = last.depth;
      values_then = last.values_then;
      leads = leads_then (passes end (AfterArgumentName at bytes) tokens k d (suc k) (goes_on_from_name k at bytes) stack [] values (λ place. argument_name_stops at bytes (first tokens) place k d h))
          (leads_then (passes end (AfterName k at bytes) tokens (suc k) d (suc k) [] _ (x ∷ []) values (λ place. name_stops k at bytes (first tokens) place (suc k) d h))
          (leads_then (pass_indexed end tokens (suc k) d _ (x ∷ values) h) (leads_then tails last.leads)));
    }

-- a phrase that takes its one token
read_one : (end : Place) (phrase : Phrase) (tokens : List Lexed) (k d l e : ℕ) (stack : List Goal) (values new : List Value)
    → step never end (At (short phrase ++ tokens) k d (want phrase ∷ stack) values) ≡ At tokens l e stack new → Reads end phrase tokens k d stack values
read_one end phrase tokens k d l e stack values new is = record { number = l; depth = e; values_then = new; leads = leads_by never end _ _ is }

read_bracket : (end : Place) (tokens : List Lexed) (k d : ℕ) (stack : List Goal) (values : List Value) → Reads end Bracket tokens k d stack values
unfolding step enter
read_bracket end tokens k d stack values = record {
  number = suc k;
  depth = d;
  values_then = truth k ∷ values;
  leads = leads_then (leads_by never end _ (At (shortest ∷ made_up (Mark signs.Close) ∷ tokens) k (suc d) (want (Chain Disjunction) ∷ want (Close d) ∷ stack) values) refl)
      (leads_then (read_disjunction end (made_up (Mark signs.Close) ∷ tokens) k (suc d) (want (Close d) ∷ stack) values tt) (leads_by never end _ _ refl));
}

read_statement : (end : Place) (tokens : List Lexed) (k d : ℕ) (stack : List Goal) (values : List Value) → Stops (first tokens) → Reads end Statement tokens k d stack values
unfolding step enter
read_statement end tokens k d stack values h =
    let made_then : Action = MakeAssign nowhere [] in
    record {
      number = suc k;
      depth = d;
      values_then = made made_then (truth k ∷ values);
      leads = leads_then (leads_by never end _ (At (made_up (Mark signs.Assign) ∷ shortest ∷ tokens) k d (want AssignSign ∷ want (Chain Disjunction) ∷ make made_then ∷ stack) values) refl)
          (leads_then (leads_by never end _ (At (shortest ∷ tokens) k d (want (Chain Disjunction) ∷ make made_then ∷ stack) values) refl)
          (leads_then (read_disjunction end tokens k d (make made_then ∷ stack) values h) (leads_by never end _ _ refl)));
    }

read_block_end : (end : Place) (before : ℕ) (at : Place) (tokens : List Lexed) (k d : ℕ) (stack : List Goal) (values : List Value) → Reads end (AfterBlock before at) tokens k d stack values
unfolding step enter
read_block_end end before at tokens k d stack values = record {
  number = k;
  depth = before;
  values_then = made (MakeIf at) (stmts [] ∷ values);
  leads = leads_then (leads_by never end _ (At tokens k before (make EmptyBlock ∷ make (MakeIf at) ∷ stack) values) refl)
      (leads_then (leads_by never end _ (At tokens k before (make (MakeIf at) ∷ stack) (stmts [] ∷ values)) refl) (leads_by never end _ _ refl));
}

read_last : (end : Place) (before : ℕ) (k d : ℕ) (values : List Value) → Reads end (AfterStatement before) [] k d [] values
unfolding step enter
read_last end before k d values = record {
  number = k;
  depth = d;
  values_then = made AppendStatement values;
  leads = leads_then (leads_by never end _ (At [] k d (make AppendStatement ∷ []) values) refl) (leads_by never end _ _ refl);
}

read_phrase : (end : Place) (phrase : Phrase) (k d : ℕ) (stack : List Goal) (values : List Value) → Needs phrase stack → Reads end phrase (completed stack) k d stack values
unfolding step enter
read_phrase end (Chain level) k d stack values h =
    record { number = suc k; depth = d; values_then = truth k ∷ values; leads = read_level end level (completed stack) k d stack values h.0 }
read_phrase end (Tail level) k d stack values h =
    record { number = k; depth = d; values_then = values; leads = pass_tail end level (completed stack) k d stack values h.0 }
read_phrase end Unary k d stack values h =
    record { number = suc k; depth = d; values_then = truth k ∷ values; leads = read_unary end (completed stack) k d stack values h.0 }
read_phrase end Indexed k d stack values h =
    record { number = k; depth = d; values_then = values; leads = pass_indexed end (completed stack) k d stack values h.0 }
read_phrase end Primary k d stack values h =
    record { number = suc k; depth = d; values_then = truth k ∷ values; leads = read_primary end (completed stack) k d stack values }
read_phrase end (ColumnName id at) k d stack values h = read_one end (ColumnName id at) (completed stack) k d k d stack values _ refl
read_phrase end (AfterName id at bytes) k d stack values h =
    record {
      number = k;
      depth = d;
      values_then = expr (name_node id at bytes) ∷ values;
      leads = passes end (AfterName id at bytes) (completed stack) k d k [] stack (expr (name_node id at bytes) ∷ []) values (λ place. name_stops id at bytes (first (completed stack)) place k d h.0);
    }
read_phrase end (AfterDot id at bytes) k d stack values h = read_one end (AfterDot id at bytes) (completed stack) k d k d stack values _ refl
read_phrase end (Arguments before) k d stack values h = read_one end (Arguments before) (completed stack) k d k before stack values values refl
read_phrase end (MoreArguments before) k d stack values h = read_one end (MoreArguments before) (completed stack) k d k before stack values values refl
read_phrase end Argument k d stack values h = read_argument end (completed stack) k d stack values h.0
read_phrase end (AfterArgumentName at bytes) k d stack values h = read_argument_name end at bytes (completed stack) k d stack values h.0
read_phrase end AfterArgument k d stack values h = read_argument_end end (completed stack) k d stack values h.0
read_phrase end Bracket k d stack values h = read_bracket end (completed stack) k d stack values
read_phrase end (Close before) k d stack values h = read_one end (Close before) (completed stack) k d k before stack values values refl
read_phrase end (CloseIndex before) k d stack values h = read_one end (CloseIndex before) (completed stack) k d k before stack values values refl
read_phrase end AssignSign k d stack values h = read_one end AssignSign (completed stack) k d k d stack values values refl
read_phrase end Line k d stack values h = read_one end Line (completed stack) k d k d stack values values refl
read_phrase end Statement k d stack values h = read_statement end (completed stack) k d stack values h.0
read_phrase end (AfterBlock before at) k d stack values h = read_block_end end before at (completed stack) k d stack values
read_phrase end (End before) k d stack values h = read_one end (End before) (completed stack) k d k before stack values values refl
read_phrase end (EndLine before) k d stack values h = read_one end (EndLine before) (completed stack) k d k before stack values values refl
read_phrase end Block k d stack values h =
    record {
      number = k;
      depth = d;
      values_then = values;
      leads = passes end Block (completed stack) k d k [] stack [] values (λ at. block_closes (first (completed stack)) at k d h.0);
    }
read_phrase end Body k d stack values h =
    subst (λ (goals : List Goal). Reads end Body (completed goals) k d goals values) (sym h)
    (record { number = k; depth = d; values_then = values; leads = leads_by never end _ _ refl })
read_phrase end (AfterStatement before) k d stack values h =
    subst (λ (goals : List Goal). Reads end (AfterStatement before) (completed goals) k d goals values) (sym h) (read_last end before k d values)

-- ---- the whole

-- the machine accepts some script from here
pub record Accepts (end : Place) (c : Config) : Type 0 where
  pub body : List Stmt
  pub nodes : ℕ
  pub leads : Leads never end c (Accepted body nodes)

accepts_finished : (end : Place) (tokens : List Lexed) (k d : ℕ) (values : List Value) → Fits [] (sorts values) → Accepts end (At tokens k d [] values)
unfolding step
accepts_finished end tokens k d (stmts body ∷ []) h = record { body = body; nodes = k; leads = leads_by never end _ _ refl }
accepts_finished end tokens k d _ h = absurd (cc)

pub then_accepts : {end : Place} {a b : Config} → Leads never end a b → Accepts end b → Accepts end a
then_accepts l h = record { body = h.body; nodes = h.nodes; leads = leads_then l h.leads }

-- From the shortest texts of what it wants the machine comes to a script.
pub accepts_completed : (end : Place) (stack : List Goal) (k d : ℕ) (values : List Value) → Fits stack (sorts values) → Accepts end (At (completed stack) k d stack values)
unfolding step
accepts_completed end [] k d values h = accepts_finished end [] k d values h
accepts_completed end (make action ∷ stack) k d values h =
    let l : Leads never end (At (completed stack) k d (make action ∷ stack) values) (At (completed stack) k d stack (made action values)) = leads_by never end _ _ refl in
    then_accepts l (accepts_completed end stack k d (made action values) (fits_leads l h))
accepts_completed end (want phrase ∷ stack) k d values h =
    let r = read_phrase end phrase k d stack values h.0 in
    then_accepts r.leads (accepts_completed end stack r.number r.depth r.values_then (fits_leads r.leads h))
