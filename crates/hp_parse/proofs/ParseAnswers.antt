-- What the parser answers, from how the machine ends.
use Rattle.std.proofs.Common.{◌≡◌, ℕ, ◌≤◌, List, [], ◌∷◌, Result, Ok, Err, refl, arith}
use Rattle.std.specs.List.{range_with_len}
use Rattle.std.specs.Prelude.{IfOk, IfErr}
use Rattle.hp_word.specs.declared.place.Place.{Place}
use Rattle.hp_script.specs.declared.rule.Rule.{Rule}
use Rattle.hp_script.specs.declared.token.Token.{Token}
use Rattle.hp_script.specs.declared.tree.Stmt.{Stmt}
use Rattle.hp_script.specs.declared.tree.Script.{Script}
use Rattle.hp_script.specs.Lexemes.{lexed}
use Rattle.hp_script.specs.Tokens.{HasTokens}
use Rattle.hp_script.specs.Grammar.{Spells}
use Rattle.hp_script.specs.Mirror.{block_of}
use Rattle.hp_script.specs.Nodes.{nodes_of}
use Rattle.hp_script.proofs.Numbering.{nodes_in_order, nodes_within}
use Rattle.hp_script.proofs.TokenLemmas.{lexed_length, are_few}
use Rattle.hp_parse.specs.Machine.{Leads, too_deep, start, Accepted, want, stmts, Body}
use Rattle.hp_parse.specs.Readers.{Finishes, Stops, reader_at}
use Rattle.hp_parse.specs.declared.error.ParseError.{ParseError}
use Rattle.hp_parse.specs.declared.error.ParseError.TheVariants as errors
use Rattle.hp_parse.specs.Parsing.{end_of, AreScript, AreNoScript, IsScriptOf, RefusedBy, IsParsedAs, IsRefusedAs, ReadsScript, StopsAs}
use Rattle.hp_parse.proofs.Sound.{sound}
use Rattle.hp_parse.proofs.Followed.{followed}
use Rattle.hp_parse.proofs.RefusedLaws.{Laws, refused}
use Rattle.hp_parse.proofs.RefusedAnswers.{accepted_spelled, accepted_only, refused_none, refused_only, accepted_none}

pub laws : Laws
laws = record {
  sound = λ tokens end body nodes leads. sound end tokens body nodes leads;
  followed = λ tokens end body nodes spelled. followed end tokens body nodes spelled;
}

module _ (source : List ℕ) (list : List Token) where
  pub answer_ok : (r : Result Script ParseError) → IfOk r (ReadsScript source list) → IfOk r (IsScriptOf source list)
  answer_ok (Ok script) leads =
      let both = accepted_spelled laws (lexed source list) (end_of list) script.body script.nodes leads in
      record { spelled = both.0; shallow = both.1 }
  answer_ok (Err error) leads = tt

  pub answer_only : (r : Result Script ParseError) → IfOk r (ReadsScript source list) → IfErr r (StopsAs source list)
      → (body : List Stmt) (nodes : ℕ) → AreScript source list body nodes → IsParsedAs body nodes r
  answer_only (Ok script) leads stops body nodes is = accepted_only laws (lexed source list) (end_of list) script.body body script.nodes nodes leads is.spelled is.shallow
  answer_only (Err (errors.Refused refusal)) leads stops body nodes is =
      absurd (refused_none laws (lexed source list) (end_of list) refusal.at refusal.rule body nodes stops is.spelled is.shallow)
  answer_only (Err errors.NoMemory) leads stops body nodes is = tt

  error_right : (error : ParseError) → StopsAs source list error → RefusedBy (AreNoScript source list) error
  error_right (errors.Refused refusal) stops = refused laws (lexed source list) (end_of list) refusal.at refusal.rule stops
  error_right errors.NoMemory stops = tt

  pub answer_refused : (r : Result Script ParseError) → IfErr r (StopsAs source list) → IfErr r (RefusedBy (AreNoScript source list))
  answer_refused (Ok script) stops = tt
  answer_refused (Err error) stops = error_right error stops

  pub answer_only_refused : (r : Result Script ParseError) → IfOk r (ReadsScript source list) → IfErr r (StopsAs source list)
      → (at : Place) (rule : Rule) → AreNoScript source list at rule → IsRefusedAs at rule r
  answer_only_refused (Ok script) leads stops at rule is = absurd (accepted_none laws (lexed source list) (end_of list) at rule script.body script.nodes leads is)
  answer_only_refused (Err (errors.Refused refusal)) leads stops at rule is = refused_only laws (lexed source list) (end_of list) refusal.at at refusal.rule rule stops is
  answer_only_refused (Err errors.NoMemory) leads stops at rule is = tt

  -- ---- from the first reader

  -- a body that finishes from the first reader is the script
  pub finishes_read : (body : List Stmt) (nodes : ℕ) → Finishes (reader_at source list 0 0 0) body nodes → Leads too_deep (end_of list) (start (lexed source list)) (Accepted body nodes)
  finishes_read body nodes f = f.leads

  -- a body that stops there is refused so
  pub stops_refused : (error : ParseError) → Stops (reader_at source list 0 0 0) (want Body ∷ []) (stmts [] ∷ []) error → StopsAs source list error
  stops_refused (errors.Refused refusal) s = s.leads refusal.at refusal.rule refl [] []
  stops_refused errors.NoMemory s = tt

  -- the nodes of a script that was read
  pub read_spells : (body : List Stmt) (nodes : ℕ) → Leads too_deep (end_of list) (start (lexed source list)) (Accepted body nodes) → Spells (lexed source list) body nodes
  read_spells body nodes leads = (accepted_spelled laws (lexed source list) (end_of list) body nodes leads).0

  pub read_numbered : (body : List Stmt) (nodes : ℕ) → Leads too_deep (end_of list) (start (lexed source list)) (Accepted body nodes) → nodes_of (block_of body) ≡ range_with_len 0 nodes
  read_numbered body nodes leads = nodes_in_order (read_spells body nodes leads)

  pub read_few : HasTokens source list → (body : List Stmt) (nodes : ℕ) → Leads too_deep (end_of list) (start (lexed source list)) (Accepted body nodes) → nodes ≤ 65536
  read_few has body nodes leads = omega (arith, nodes_within (read_spells body nodes leads), lexed_length source list has, are_few source list has)
