-- Each list of bytes is a script that fits, in one way, or is refused, in one way.
use Rattle.std.proofs.Common.{◌≡◌, ℕ, ◌≤◌, List, refl, sym, ap, ◌∙◌, subst, arith, Option, Some, None}
use Rattle.hp_word.specs.declared.place.Place.{Place}
use Rattle.hp_script.specs.declared.rule.Rule.{Rule}
use Rattle.hp_script.specs.declared.rule.Refusal.{Refusal}
use Rattle.hp_script.specs.declared.token.Token.{Token}
use Rattle.hp_script.specs.declared.tree.Script.{Script}
use Rattle.hp_script.specs.declared.tree.Stmt.{Stmt}
use Rattle.hp_script.specs.declared.typed.Typed.{Typed}
use Rattle.hp_script.specs.Checked.{Checked, after, entries_in, files_of, first_break, start_of}
use Rattle.hp_script.specs.Mirror.{block_of}
use Rattle.hp_script.specs.OneOfTwo.{OneOfTwo, first_alone, second_alone}
use Rattle.hp_script.specs.Tokens.{HasTokens, HasNoTokens}
use Rattle.hp_script.proofs.FittingBlocks.{one_each, valued, narrow_vars, narrow_shapes}
use Rattle.hp_script.proofs.Numbering.{nodes_in_order, nodes_within}
use Rattle.hp_script.proofs.TokenLemmas.{lexed_length, are_few}
use Rattle.hp_lex.specs.Lexing.{IsUnlexed}
use Rattle.hp_parse.specs.Parsing.{AreScript, AreNoScript, IsParsed, IsUnparsed}
use Rattle.hp_reader.specs.Reading.{SpellScript, SpellNone, NoTokens, NoScript, Refuses, Unspelled, Breaks, IsSpelled, IsUnspelled, IsRefused, Content, content_of, FitsAs}
use Rattle.hp_reader.proofs.Passes.{some_none}

-- ---- a script, or none

-- the tokens are the only ones
module _ (bytes : List ℕ) (list : List Token) (has : HasTokens bytes list) (only : (other : List Token) → HasTokens bytes other → other ≡ list)
    (none : (refusal : Refusal) → ¬ IsUnlexed bytes refusal) where
  their_script : (script : List Stmt × ℕ) → IsSpelled bytes script → IsParsed bytes list script
  their_script script s = subst (λ (l : List Token). AreScript bytes l script.0 script.1) (only s.list s.tokens) s.script

  their_refusal : (at : Place) (rule : Rule) → SpellNone bytes at rule → AreNoScript bytes list at rule
  their_refusal at rule (NoTokens h) = absurd (none (record { at = at; rule = rule }) h)
  their_refusal at rule (NoScript h) = subst (λ (l : List Token). AreNoScript bytes l at rule) (only h.list h.tokens) h.no_script

  parsed_spelled : OneOfTwo (IsParsed bytes list) (IsUnparsed bytes list) → OneOfTwo (IsSpelled bytes) (IsUnspelled bytes)
  parsed_spelled (first_alone script is once never) =
      first_alone script (record { list = list; tokens = has; script = is })
      (λ other s. once other (their_script other s))
      (λ refusal h. never refusal (their_refusal refusal.at refusal.rule h))
  parsed_spelled (second_alone refusal is once never) =
      second_alone refusal (NoScript (record { list = list; tokens = has; no_script = is }))
      (λ other h. once other (their_refusal other.at other.rule h))
      (λ script s. never script (their_script script s))

-- there are no tokens
unlexed : (bytes : List ℕ) (at : Place) (rule : Rule) → ((list : List Token) → ¬ HasTokens bytes list) → SpellNone bytes at rule → HasNoTokens bytes at rule
unlexed bytes at rule none (NoTokens h) = h
unlexed bytes at rule none (NoScript h) = absurd (none h.list h.tokens)

spelled_by : (bytes : List ℕ) → OneOfTwo (HasTokens bytes) (IsUnlexed bytes) → ((list : List Token) → OneOfTwo (IsParsed bytes list) (IsUnparsed bytes list))
    → OneOfTwo (IsSpelled bytes) (IsUnspelled bytes)
spelled_by bytes (first_alone list has only none) parsing = parsed_spelled bytes list has only none (parsing list)
spelled_by bytes (second_alone refusal is only none) parsing =
    second_alone refusal (NoTokens is)
    (λ other h. only other (unlexed bytes other.at other.rule none h))
    (λ script s. none s.list s.tokens)

-- Each list of bytes spells one script, or shows in one way that it spells none.
pub spelled : ((bytes : List ℕ) → OneOfTwo (HasTokens bytes) (IsUnlexed bytes))
    → ((source : List ℕ) (list : List Token) → OneOfTwo (IsParsed source list) (IsUnparsed source list))
    → (bytes : List ℕ) → OneOfTwo (IsSpelled bytes) (IsUnspelled bytes)
spelled lexing parsing bytes = spelled_by bytes (lexing bytes) (parsing bytes)

-- ---- what is said of a script that fits

abbrev said_of : List Stmt × ℕ → Content
said_of script = record {
  body = script.0;
  nodes = script.1;
  vars = (after (start_of (block_of script.0)) (block_of script.0)).vars;
  shapes = entries_in (start_of (block_of script.0)) (block_of script.0);
  reads = files_of (block_of script.0);
}

said_as : (typed : Typed) → Checked typed → content_of typed ≡ said_of (typed.script.body, typed.script.nodes)
said_as typed checked = rw (checked.vars, checked.shapes, checked.reads) refl

few_nodes : (bytes : List ℕ) (body : List Stmt) (nodes : ℕ) → SpellScript bytes body nodes → nodes ≤ 65536
few_nodes bytes body nodes s = omega (arith, nodes_within s.script.spelled, lexed_length bytes s.list s.tokens, are_few bytes s.list s.tokens)

-- the script of bytes that spell one
abbrev script_of : (bytes : List ℕ) (body : List Stmt) (nodes : ℕ) → SpellScript bytes body nodes → Script
script_of bytes body nodes s = record { body = body; nodes = nodes; few = few_nodes bytes body nodes s; numbered = nodes_in_order s.script.spelled }

-- the script with what is said of it
abbrev typed_of : (script : Script) → first_break (block_of script.body) ≡ None → Typed
typed_of script none = record {
  script = script;
  vars = (after (start_of (block_of script.body)) (block_of script.body)).vars;
  shapes = entries_in (start_of (block_of script.body)) (block_of script.body);
  reads = files_of (block_of script.body);
  one_each = one_each script none _ refl;
  valued = valued script none _ refl;
  narrow_vars = narrow_vars script none _ refl;
  narrow_shapes = narrow_shapes script none _ refl;
}

some_typed : (bytes : List ℕ) (body : List Stmt) (nodes : ℕ) → SpellScript bytes body nodes → first_break (block_of body) ≡ None → FitsAs bytes (said_of (body, nodes))
some_typed bytes body nodes s none = record {
  typed = typed_of (script_of bytes body nodes s) none;
  fits = record { spelled = s; checked = record { fits = none; vars = refl; shapes = refl; reads = refl } };
  said = refl;
}

-- ---- a script that fits, or a refusal

same_break : (a b : Refusal) (o : Option Refusal) → o ≡ Some a → o ≡ Some b → a ≡ b
same_break a b o e f = cc

-- the script is the only one
module _ (bytes : List ℕ) (body : List Stmt) (nodes : ℕ) (is : SpellScript bytes body nodes)
    (once : (other : List Stmt × ℕ) → IsSpelled bytes other → ◌≡◌ {A = List Stmt × ℕ} other (body, nodes)) (never : (refusal : Refusal) → ¬ IsUnspelled bytes refusal) where
  breaks_same : (other : List Stmt) (count : ℕ) → SpellScript bytes other count → first_break (block_of body) ≡ first_break (block_of other)
  breaks_same other count s = ap (λ (script : List Stmt × ℕ). first_break (block_of script.0)) (sym (once (other, count) s))

  same_content : (content : Content) → FitsAs bytes content → content ≡ said_of (body, nodes)
  same_content content f =
      sym f.said ∙ said_as f.typed f.fits.checked ∙ ap said_of (once (f.typed.script.body, f.typed.script.nodes) f.fits.spelled)

  no_refusal : first_break (block_of body) ≡ None → (at : Place) (rule : Rule) → ¬ Refuses bytes at rule
  no_refusal none at rule (Unspelled h) = never (record { at = at; rule = rule }) h
  no_refusal none at rule (Breaks h) = some_none _ (first_break (block_of body)) (breaks_same h.body h.nodes h.spelled ∙ h.breaks) none

  one_break : (refusal : Refusal) → first_break (block_of body) ≡ Some refusal → (at : Place) (rule : Rule) → Refuses bytes at rule
      → ◌≡◌ {A = Refusal} (record { at = at; rule = rule }) refusal
  one_break refusal e at rule (Unspelled h) = absurd (never (record { at = at; rule = rule }) h)
  one_break refusal e at rule (Breaks h) = same_break (record { at = at; rule = rule }) refusal (first_break (block_of body)) (breaks_same h.body h.nodes h.spelled ∙ h.breaks) e

  no_fit : (refusal : Refusal) → first_break (block_of body) ≡ Some refusal → (content : Content) → ¬ FitsAs bytes content
  no_fit refusal e content f = some_none refusal (first_break (block_of body)) e (breaks_same f.typed.script.body f.typed.script.nodes f.fits.spelled ∙ f.fits.checked.fits)

  checked_by : (found : Option Refusal) → first_break (block_of body) ≡ found → OneOfTwo (FitsAs bytes) (IsRefused bytes)
  checked_by None e = first_alone (said_of (body, nodes)) (some_typed bytes body nodes is e) same_content (λ refusal h. no_refusal e refusal.at refusal.rule h)
  checked_by (Some refusal) e =
      second_alone refusal (Breaks (record { body = body; nodes = nodes; spelled = is; breaks = e }))
      (λ other h. one_break refusal e other.at other.rule h)
      (no_fit refusal e)

-- there is no script
unspelled_only : (bytes : List ℕ) (at : Place) (rule : Rule) → ((script : List Stmt × ℕ) → ¬ IsSpelled bytes script) → Refuses bytes at rule → SpellNone bytes at rule
unspelled_only bytes at rule none (Unspelled h) = h
unspelled_only bytes at rule none (Breaks h) = absurd (none (h.body, h.nodes) h.spelled)

fits_by : (bytes : List ℕ) → OneOfTwo (IsSpelled bytes) (IsUnspelled bytes) → OneOfTwo (FitsAs bytes) (IsRefused bytes)
fits_by bytes (first_alone script is once never) = checked_by bytes script.0 script.1 is once never (first_break (block_of script.0)) refl
fits_by bytes (second_alone refusal is once never) =
    second_alone refusal (Unspelled is)
    (λ other h. once other (unspelled_only bytes other.at other.rule never h))
    (λ content f. never (f.typed.script.body, f.typed.script.nodes) f.fits.spelled)

-- Each list of bytes is a script that fits, of which one thing is said, or is refused in one way.
pub one_of_two : ((bytes : List ℕ) → OneOfTwo (IsSpelled bytes) (IsUnspelled bytes)) → (bytes : List ℕ) → OneOfTwo (FitsAs bytes) (IsRefused bytes)
one_of_two spelled bytes = fits_by bytes (spelled bytes)
