-- What the passes say of a script, said of its bytes.
use Rattle.std.proofs.Common.{◌≡◌, ℕ, List, sym, ap, ◌∙◌, subst, Option, Some, None, Result, Ok, Err}
use Rattle.std.specs.Prelude.{IfOk, IfErr, MatchResult}
use Rattle.std.specs.Result.{IsErrAnd}
use Rattle.hp_word.specs.declared.place.Place.{Place}
use Rattle.hp_script.specs.declared.rule.Rule.{Rule}
use Rattle.hp_script.specs.declared.rule.Refusal.{Refusal}
use Rattle.hp_script.specs.declared.token.Token.{Token}
use Rattle.hp_script.specs.declared.token.Tokens.{Tokens}
use Rattle.hp_script.specs.declared.tree.Script.{Script}
use Rattle.hp_script.specs.declared.tree.Stmt.{Stmt}
use Rattle.hp_script.specs.declared.typed.Typed.{Typed}
use Rattle.hp_script.specs.Checked.{Checked, first_break}
use Rattle.hp_script.specs.Mirror.{block_of}
use Rattle.hp_script.specs.Tokens.{HasTokens, HasNoTokens}
use Rattle.hp_lex.specs.Lexing.{AreTokensOf}
use Rattle.hp_parse.specs.Parsing.{AreScript, AreNoScript, IsScriptOf}
use Rattle.hp_reader.specs.declared.error.ReadError.{ReadError}
use Rattle.hp_reader.specs.declared.error.ReadError.TheVariants as errors
use Rattle.hp_reader.specs.Answers.{RefusedBy, IsNoMemory, IsRefusal}
use Rattle.hp_reader.specs.Reading.{SpellScript, SpellNoScript, SpellNone, NoTokens, NoScript, Refuses, Unspelled, Breaks, Fits, breaks_in}

-- ---- the tokens' own source is the bytes

script_is : (bytes : List ℕ) (tokens : Tokens) (script : Script) → AreTokensOf bytes tokens → IsScriptOf tokens.source tokens.list script → AreScript bytes tokens.list script.body script.nodes
script_is bytes tokens script are is = subst (λ s. AreScript s tokens.list script.body script.nodes) are.source is

-- ---- a script that is spelled

pub spelled : (bytes : List ℕ) (tokens : Tokens) (r : Result Script ReadError) → AreTokensOf bytes tokens → IfOk r (IsScriptOf tokens.source tokens.list) → IfOk r (λ script. SpellScript bytes script.body script.nodes)
spelled bytes tokens (Ok script) are is = record { list = tokens.list; tokens = are.list; script = script_is bytes tokens script are is }
spelled bytes tokens (Err e) are is = tt

pub tokens_refused : (bytes : List ℕ) (e : ReadError) → RefusedBy (HasNoTokens bytes) e → RefusedBy (SpellNone bytes) e
tokens_refused bytes (errors.Refused refusal) h = NoTokens h
tokens_refused bytes errors.NoMemory h = tt

none_refused : (bytes : List ℕ) (tokens : Tokens) (e : ReadError) → AreTokensOf bytes tokens → RefusedBy (AreNoScript tokens.source tokens.list) e → RefusedBy (SpellNone bytes) e
none_refused bytes tokens (errors.Refused refusal) are h =
    NoScript (record { list = tokens.list; tokens = are.list; no_script = subst (λ s. AreNoScript s tokens.list refusal.at refusal.rule) are.source h })
none_refused bytes tokens errors.NoMemory are h = tt

pub script_refused : (bytes : List ℕ) (tokens : Tokens) (r : Result Script ReadError) → AreTokensOf bytes tokens → IfErr r (RefusedBy (AreNoScript tokens.source tokens.list)) → IfErr r (RefusedBy (SpellNone bytes))
script_refused bytes tokens (Ok script) are h = tt
script_refused bytes tokens (Err e) are h = none_refused bytes tokens e are h

no_memory : (at : Place) (rule : Rule) (e : ReadError) → IsNoMemory e → IsRefusal at rule e
no_memory at rule (errors.Refused refusal) h = absurd h
no_memory at rule errors.NoMemory h = tt

-- where there are no tokens
pub tokens_exact : (bytes : List ℕ) (e : ReadError) → ((list : List Token) → HasTokens bytes list → IsNoMemory e) → ((at : Place) (rule : Rule) → HasNoTokens bytes at rule → IsRefusal at rule e)
    → (at : Place) (rule : Rule) → SpellNone bytes at rule → IsRefusal at rule e
tokens_exact bytes e only exact at rule (NoTokens h) = exact at rule h
tokens_exact bytes e only exact at rule (NoScript h) = no_memory at rule e (only h.list h.tokens)

-- the tokens are the only ones
module _ (bytes : List ℕ) (tokens : Tokens) (are : AreTokensOf bytes tokens) (only : (list : List Token) → HasTokens bytes list → tokens.list ≡ list)
    (none : (at : Place) (rule : Rule) → HasNoTokens bytes at rule → ⊥) where
  same_script : (body : List Stmt) (nodes : ℕ) → SpellScript bytes body nodes → AreScript tokens.source tokens.list body nodes
  same_script body nodes s =
      subst (λ source. AreScript source tokens.list body nodes) (sym are.source)
      (subst (λ list. AreScript bytes list body nodes) (sym (only s.list s.tokens)) s.script)

  same_none : (at : Place) (rule : Rule) → SpellNoScript bytes at rule → AreNoScript tokens.source tokens.list at rule
  same_none at rule s =
      subst (λ source. AreNoScript source tokens.list at rule) (sym are.source)
      (subst (λ list. AreNoScript bytes list at rule) (sym (only s.list s.tokens)) s.no_script)

  pub script_only : (r : Result Script ReadError) → ((body : List Stmt) (nodes : ℕ) → AreScript tokens.source tokens.list body nodes → MatchResult r (λ script. script.body ≡ body) IsNoMemory)
      → (body : List Stmt) (nodes : ℕ) → SpellScript bytes body nodes → MatchResult r (λ script. script.body ≡ body) IsNoMemory
  script_only r once body nodes s = once body nodes (same_script body nodes s)

  pub script_exact : (r : Result Script ReadError) → ((at : Place) (rule : Rule) → AreNoScript tokens.source tokens.list at rule → IsErrAnd r (IsRefusal at rule))
      → (at : Place) (rule : Rule) → SpellNone bytes at rule → IsErrAnd r (IsRefusal at rule)
  script_exact r exact at rule (NoTokens h) = absurd (none at rule h)
  script_exact r exact at rule (NoScript h) = exact at rule (same_none at rule h)

-- ---- a script that fits

pub fits : (bytes : List ℕ) (script : Script) (r : Result Typed ReadError) → SpellScript bytes script.body script.nodes → IfOk r Checked → IfOk r (λ typed. typed.script ≡ script) → IfOk r (Fits bytes)
fits bytes script (Ok typed) spelled checked same = record { spelled = subst (λ s. SpellScript bytes s.body s.nodes) (sym same) spelled; checked = checked }
fits bytes script (Err e) spelled checked same = tt

pub unspelled : (bytes : List ℕ) (e : ReadError) → RefusedBy (SpellNone bytes) e → RefusedBy (Refuses bytes) e
unspelled bytes (errors.Refused refusal) h = Unspelled h
unspelled bytes errors.NoMemory h = tt

broken : (bytes : List ℕ) (script : Script) (e : ReadError) → SpellScript bytes script.body script.nodes → RefusedBy (breaks_in script.body) e → RefusedBy (Refuses bytes) e
broken bytes script (errors.Refused refusal) spelled h = Breaks (record { body = script.body; nodes = script.nodes; spelled = spelled; breaks = h })
broken bytes script errors.NoMemory spelled h = tt

pub typed_refused : (bytes : List ℕ) (script : Script) (r : Result Typed ReadError) → SpellScript bytes script.body script.nodes → IfErr r (RefusedBy (breaks_in script.body)) → IfErr r (RefusedBy (Refuses bytes))
typed_refused bytes script (Ok typed) spelled h = tt
typed_refused bytes script (Err e) spelled h = broken bytes script e spelled h

pub some_none : (r : Refusal) → (o : Option Refusal) → o ≡ Some r → o ≡ None → ⊥
some_none r o a b = cc

not_broken : (body : List Stmt) (e : ReadError) → RefusedBy (breaks_in body) e → first_break (block_of body) ≡ None → IsNoMemory e
not_broken body (errors.Refused refusal) h none = absurd (some_none _ _ h none)
not_broken body errors.NoMemory h none = tt

pub typed_only : (script : Script) (r : Result Typed ReadError) → IfOk r (λ typed. typed.script ≡ script) → IfErr r (RefusedBy (breaks_in script.body))
    → (body : List Stmt) → script.body ≡ body → first_break (block_of body) ≡ None → MatchResult r (λ typed. typed.script.body ≡ body) IsNoMemory
typed_only script (Ok typed) same refused body is none = ap (λ s. s.body) same ∙ is
typed_only script (Err e) same refused body is none = not_broken script.body e refused (ap (λ b. first_break (block_of b)) is ∙ none)

-- where there is no script
pub unspelled_exact : (bytes : List ℕ) (e : ReadError) → ((body : List Stmt) (nodes : ℕ) → SpellScript bytes body nodes → IsNoMemory e)
    → ((at : Place) (rule : Rule) → SpellNone bytes at rule → IsRefusal at rule e) → (at : Place) (rule : Rule) → Refuses bytes at rule → IsRefusal at rule e
unspelled_exact bytes e only exact at rule (Unspelled h) = exact at rule h
unspelled_exact bytes e only exact at rule (Breaks h) = no_memory at rule e (only h.body h.nodes h.spelled)

-- where there is one
pub typed_exact : (bytes : List ℕ) (script : Script) (r : Result Typed ReadError) → ((body : List Stmt) (nodes : ℕ) → SpellScript bytes body nodes → script.body ≡ body)
    → ((at : Place) (rule : Rule) → SpellNone bytes at rule → ⊥) → ((at : Place) (rule : Rule) → breaks_in script.body at rule → IsErrAnd r (IsRefusal at rule))
    → (at : Place) (rule : Rule) → Refuses bytes at rule → IsErrAnd r (IsRefusal at rule)
typed_exact bytes script r only none exact at rule (Unspelled h) = absurd (none at rule h)
typed_exact bytes script r only none exact at rule (Breaks h) = exact at rule (ap (λ b. first_break (block_of b)) (only h.body h.nodes h.spelled) ∙ h.breaks)
