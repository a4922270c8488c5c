-- The canonical text of a script spells a script like it.
use Rattle.std.proofs.Common.{◌≡◌, ℕ, ◌+◌, ℤ, pos, List, [], ◌∷◌, ◌++◌, length, Option, Some, refl, sym, ap, subst, ◌∙◌, append_assoc, arith}
use Rattle.std.specs.Option.{option_map}
use Rattle.std.specs.List.{slice_range, filter_map, cons_option}
use Rattle.std.proofs.lemmas.List.{length-append}
use Rattle.hp_word.specs.declared.place.Place.{Place}
use Rattle.hp_script.specs.declared.tree.Stmt.{Stmt}
use Rattle.hp_script.specs.declared.token.Kind.TheVariants as kinds
use Rattle.hp_script.specs.declared.token.Token.{Token}
use Rattle.hp_script.specs.declared.token.Keyword.{Keyword}
use Rattle.hp_script.specs.declared.token.Keyword.TheVariants as keywords
use Rattle.hp_script.specs.Lexemes.{Lexeme, Numeral, Identifier, Quoted, Word, Mark, Newline, Lexed, keyword_of, lexeme_of, lexed_of, lexed}
use Rattle.hp_script.specs.Tokens.{Blank, Holds, IsWide, Divides, Ends, GoesOn, HasTokens, behind, first_place}
use Rattle.hp_script.specs.Grammar.{Spells}
use Rattle.hp_script.specs.Mirror.{block_of}
use Rattle.hp_script.specs.Printing.{text_of, text_of_script}
use Rattle.hp_script.specs.Alike.{SpellsAlike, SpellsAgain}
use Rattle.hp_script.proofs.Wording.{Says, nothing, one}
use Rattle.hp_script.proofs.RewordedBlocks.{respelled}
use Rattle.hp_script.proofs.Spelling.{Sayable, spelling, kind_of, numeral_of, stands_first, blank_first}
use Rattle.hp_script.proofs.Written.{IsWritable, block_has_signs, script_written, unquoted_again, text_between}
use Rattle.hp_script.proofs.Likeness.{alike_by_bare}
use Rattle.hp_script.proofs.Cutting.{Cuts, over, blank, word}
use Rattle.hp_script.proofs.CuttingBlocks.{script_cuts}

-- ---- what a spelling says

keyword_back : (w : Keyword) → option_map Word (keyword_of (spelling (Word w))) ≡ Some (Word w)
unfolding keyword_of
keyword_back keywords.If = refl
keyword_back keywords.Else = refl
keyword_back keywords.End = refl
keyword_back keywords.While = refl
keyword_back keywords.True = refl
keyword_back keywords.False = refl
keyword_back keywords.Println = refl
keyword_back keywords.WriteCsv = refl

says_back : (what : Lexeme) → Sayable what → lexeme_of (kind_of what) (spelling what) ≡ Some what
says_back (Numeral value) h = ap (λ (n : ℕ). Some (Numeral (pos n))) (numeral_of value h.0 h.1 h.2).1 ∙ ap (λ (z : ℤ). Some (Numeral z)) (sym h.1)
says_back (Identifier bytes) h = refl
says_back (Quoted bytes) h = ap (λ (t : List ℕ). Some (Quoted t)) (unquoted_again bytes)
says_back (Word w) h = keyword_back w
says_back (Mark sign) h = ap (option_map Mark) h.back
says_back Newline h = refl

not_wide : (what : Lexeme) → Sayable what → IsWide (Holds (kind_of what)) (spelling what) → ⊥
not_wide (Numeral value) h wide = let n = (numeral_of value h.0 h.1 h.2).1 in omega (arith, n, h.2, wide)
not_wide (Identifier bytes) h wide = wide
not_wide (Quoted bytes) h wide = wide
not_wide (Word w) h wide = wide
not_wide (Mark sign) h wide = wide
not_wide Newline h wide = wide

-- ---- the tokens of the text

-- bytes of a source divide into tokens that say these lexemes
pub record DividesInto (source : List ℕ) (from : ℕ) (at : Place) (bytes : List ℕ) (said : List Lexeme) : Type 0 where
  pub tokens : List Token
  pub divided : Divides from at bytes tokens
  pub says : Says (filter_map (lexed_of source) tokens) said []

lexed_one : (source : List ℕ) (at : Place) (from until : ℕ) (what : Lexeme) → Sayable what → slice_range source from until ≡ spelling what
    → lexed_of source (record { kind = kind_of what; at = at; from = from; until = until }) ≡ Some (record { what = what; at = at })
lexed_one source at from until what h e =
    ap (λ (t : List ℕ). option_map (λ said. record { what = said; at = at }) (lexeme_of (kind_of what) t)) e ∙ ap (option_map (λ said. record { what = said; at = at })) (says_back what h)

divides_into : {bytes : List ℕ} {said : List Lexeme} → Cuts bytes said → (source before : List ℕ) (from : ℕ) (at : Place) → source ≡ before ++ bytes → from ≡ length before → DividesInto source from at bytes said
divides_into over source before from at e n = record { tokens = record { kind = kinds.Eof; at = at; from = from; until = from } ∷ []; divided = Ends from at; says = nothing }
divides_into (blank {bytes = bytes} c) source before from at e n =
    let front : List ℕ = 32 ∷ [] in
    let size = length-append before front in
    let d = divides_into c source (before ++ front) (from + length front) (behind at front) (e ∙ sym (append_assoc before front bytes)) (omega (arith, n, size)) in
    record { tokens = d.tokens; divided = GoesOn from at (32 ∷ bytes) Blank front bytes d.tokens (blank_first bytes) (λ wide. wide) d.divided; says = d.says }
divides_into (word {bytes = bytes} {said = said} what h stops c) source before from at e n =
    let front : List ℕ = spelling what in
    let size = length-append before front in
    let until : ℕ = from + length front in
    let d = divides_into c source (before ++ front) until (behind at front) (e ∙ sym (append_assoc before front bytes)) (omega (arith, n, size)) in
    let token : Token = record { kind = kind_of what; at = at; from = from; until = until } in
    let here : slice_range source from until ≡ front = text_between source before front bytes from e n in
    record {
      tokens = token ∷ d.tokens;
      divided = GoesOn from at (front ++ bytes) (Holds (kind_of what)) front bytes d.tokens (stands_first what h bytes stops) (not_wide what h) d.divided;
      says = subst (λ (o : Option Lexed). Says (cons_option o (filter_map (lexed_of source) d.tokens)) (what ∷ said) []) (sym (lexed_one source at from until what h here)) (one at d.says);
    }

-- ---- scripts

-- the canonical text of what can be written spells a script like it
spells_again : (body : List Stmt) → IsWritable (block_of body) → SpellsAlike (text_of_script (block_of body)) body
unfolding lexed
spells_again body w =
    let block = block_of body in
    let d = divides_into (script_cuts block w) (text_of [] block) [] 0 first_place refl refl in
    let r = respelled block (filter_map (lexed_of (text_of [] block)) d.tokens) (block_has_signs block w) d.says in
    record { tokens = d.tokens; divided = d.divided; other = r.other; nodes = r.nodes; spelled = r.spelled; alike = alike_by_bare (block_of body) (block_of r.other) r.alike }

-- and so does that of every script that is spelled
pub printed_again : (source : List ℕ) (tokens : List Token) (body : List Stmt) (nodes : ℕ) → HasTokens source tokens → Spells (lexed source tokens) body nodes → SpellsAlike (text_of_script (block_of body)) body
printed_again source tokens body nodes h spelled = spells_again body (script_written source tokens body nodes h spelled)

pub text_again : (bytes : List ℕ) (body : List Stmt) (nodes : ℕ) → bytes ≡ text_of_script (block_of body) → SpellsAgain bytes body nodes
text_again bytes body nodes e source tokens h spelled = subst (λ (t : List ℕ). SpellsAlike t body) (sym e) (printed_again source tokens body nodes h spelled)
