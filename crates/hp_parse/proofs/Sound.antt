-- The machine reads only what the grammar spells.
use Rattle.std.proofs.Common.{◌≡◌, ℕ, zero, suc, List, [], ◌∷◌, subst}
use Rattle.hp_word.specs.declared.place.Place.{Place}
use Rattle.hp_script.specs.declared.tree.Stmt.{Stmt}
use Rattle.hp_script.specs.Lexemes.{Lexed}
use Rattle.hp_script.specs.Grammar.{Spells, IsBody}
use Rattle.hp_parse.specs.Machine.{Phrase, Chain, Tail, Unary, Indexed, Primary, ColumnName, AfterName, AfterDot, Arguments, MoreArguments, Argument, AfterArgumentName, AfterArgument, Bracket, Close, CloseIndex, AssignSign, Line, Statement, AfterBlock, End, EndLine, Block, Body, AfterStatement, Goal, want, make, Value, stmts, Config, At, Refused, Accepted, finished, step, run, never, Leads, start}
use Rattle.hp_parse.proofs.SoundMeaning.{phrase_means, goals_mean, config_means}
use Rattle.hp_parse.proofs.SoundExpr as expressions
use Rattle.hp_parse.proofs.SoundStmt as statements

phrase_back : (end : Place) (body : List Stmt) (nodes : ℕ) (phrase : Phrase) (goals : List Goal) (a : List Lexed) (k d : ℕ) (values : List Value)
    → config_means body nodes (step never end (At a k d (want phrase ∷ goals) values)) → phrase_means phrase (goals_mean body nodes goals) a k values
phrase_back end body nodes (Chain level) goals = expressions.chain_back end body nodes goals level
phrase_back end body nodes (Tail level) goals = expressions.tail_back end body nodes goals level
phrase_back end body nodes Unary goals = expressions.unary_back end body nodes goals
phrase_back end body nodes Indexed goals = expressions.indexed_back end body nodes goals
phrase_back end body nodes Primary goals = expressions.primary_back end body nodes goals
phrase_back end body nodes (ColumnName id at) goals = expressions.column_back end body nodes goals id at
phrase_back end body nodes (AfterName id at bytes) goals = expressions.name_back end body nodes goals id at bytes
phrase_back end body nodes (AfterDot id at bytes) goals = expressions.dot_back end body nodes goals id at bytes
phrase_back end body nodes (Arguments before) goals = expressions.arguments_back end body nodes goals before
phrase_back end body nodes (MoreArguments before) goals = expressions.more_back end body nodes goals before
phrase_back end body nodes Argument goals = expressions.argument_back end body nodes goals
phrase_back end body nodes (AfterArgumentName at bytes) goals = expressions.argument_name_back end body nodes goals at bytes
phrase_back end body nodes AfterArgument goals = expressions.after_argument_back end body nodes goals
phrase_back end body nodes Bracket goals = statements.bracket_back end body nodes goals
phrase_back end body nodes (Close before) goals = statements.close_back end body nodes goals before
phrase_back end body nodes (CloseIndex before) goals = statements.close_index_back end body nodes goals before
phrase_back end body nodes AssignSign goals = statements.assign_sign_back end body nodes goals
phrase_back end body nodes Line goals = statements.line_back end body nodes goals
phrase_back end body nodes Statement goals = statements.statement_back end body nodes goals
phrase_back end body nodes (AfterBlock before at) goals = statements.after_block_back end body nodes goals before at
phrase_back end body nodes (End before) goals = statements.end_back end body nodes goals before
phrase_back end body nodes (EndLine before) goals = statements.end_line_back end body nodes goals before
phrase_back end body nodes Block goals = statements.block_back end body nodes goals
phrase_back end body nodes Body goals = statements.body_back end body nodes goals
phrase_back end body nodes (AfterStatement before) goals = statements.after_statement_back end body nodes goals before

finished_back : (body : List Stmt) (nodes : ℕ) (values : List Value) (k : ℕ) → config_means body nodes (finished values k) → finished values k ≡ Accepted body nodes
finished_back body nodes (stmts read ∷ []) k h = h
finished_back body nodes _ k h = h

-- what is said behind a step is said before it
step_back : (end : Place) (body : List Stmt) (nodes : ℕ) (c : Config) → config_means body nodes (step never end c) → config_means body nodes c
unfolding step
step_back end body nodes (At a k d [] values) h = finished_back body nodes values k h
step_back end body nodes (At a k d (make action ∷ goals) values) h = h
step_back end body nodes (At a k d (want phrase ∷ goals) values) h = phrase_back end body nodes phrase goals a k d values h
step_back end body nodes (Refused place rule) h = h
step_back end body nodes (Accepted read count) h = h

accepted_means : (body : List Stmt) (nodes : ℕ) (c : Config) → c ≡ Accepted body nodes → config_means body nodes c
accepted_means body nodes (At a k d goals values) e = cc
accepted_means body nodes (Refused place rule) e = cc
accepted_means body nodes (Accepted read count) e = e

-- where a run ends with a script, its goals say so
pub run_back : (end : Place) (body : List Stmt) (nodes n : ℕ) (c : Config) → run never end n c ≡ Accepted body nodes → config_means body nodes c
unfolding run
run_back end body nodes zero c e = accepted_means body nodes c e
run_back end body nodes (suc n) c e = step_back end body nodes c (run_back end body nodes n (step never end c) e)

spelled_same : (tokens : List Lexed) (read body : List Stmt) (count nodes : ℕ) → Accepted read count ≡ Accepted body nodes → IsBody tokens 0 read count → Spells tokens body nodes
spelled_same tokens read body count nodes e spelled =
    let read_same : read ≡ body = cc in
    let count_same : count ≡ nodes = cc in
    subst (λ b. IsBody tokens 0 b nodes) read_same (subst (λ n. IsBody tokens 0 read n) count_same spelled)

-- what the machine reads is spelled so
pub sound : (end : Place) (tokens : List Lexed) (body : List Stmt) (nodes : ℕ) → Leads never end (start tokens) (Accepted body nodes) → Spells tokens body nodes
sound end tokens body nodes leads =
    let h = run_back end body nodes leads.steps (start tokens) leads.run_is in
    spelled_same tokens h.0 body h.1 nodes h.3 h.2
