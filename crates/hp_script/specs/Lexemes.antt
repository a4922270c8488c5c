-- What a token says: the words and signs, and the value of a number, a name and a text.
use Rattle.std.specs.Prelude.{ℕ, ◌-◌, ◌≤◌, ℤ, pos, true, false, if◌then◌else◌, List, [], ◌∷◌, ◌++◌, length, map, codes, bytes_eq, Option, Some, None}
use Rattle.std.specs.Option.{option_map, option_or}
use Rattle.std.specs.List.{slice_range, filter_map, AllByRecursion}
use Rattle.std.specs.Str.Parse.{IsNumeral, digits_value}
use Rattle.hp_word.specs.declared.place.Place.{Place}
use Rattle.hp_script.specs.declared.tree.BinOp.TheVariants.{Or, And, Eq, Ne, Lt, Le, Gt, Ge, Add, Sub, BitOr, Mul, BitAnd}
use Rattle.hp_script.specs.declared.token.Kind.{Kind}
use Rattle.hp_script.specs.declared.token.Kind.TheVariants as kinds
use Rattle.hp_script.specs.declared.token.Token.{Token}
use Rattle.hp_script.specs.declared.token.Keyword.{Keyword}
use Rattle.hp_script.specs.declared.token.Keyword.TheVariants as keywords
use Rattle.hp_script.specs.declared.token.Sign.{Sign}
use Rattle.hp_script.specs.declared.token.Sign.TheVariants.{Operator, Not, Assign, Arrow, Open, Close, OpenIndex, CloseIndex, Comma, Colon, Dot}
use Rattle.hp_script.specs.declared.token.Lexeme.{Lexeme as SeenLexeme}
use Rattle.hp_script.specs.declared.token.Lexeme.TheVariants as seen_as

-- ---- words and signs

-- the words that are no names
abbrev pub word_table : List (List ℕ × Keyword)
word_table =
    (codes "if", keywords.If) ∷ (codes "else", keywords.Else) ∷ (codes "end", keywords.End) ∷ (codes "while", keywords.While)
    ∷ (codes "true", keywords.True) ∷ (codes "false", keywords.False) ∷ (codes "println", keywords.Println) ∷ (codes "write_csv", keywords.WriteCsv) ∷ []

abbrev pub plain_table : List (List ℕ × Sign)
plain_table =
    (codes "+", Operator Add false) ∷ (codes "-", Operator Sub false) ∷ (codes "*", Operator Mul false)
    ∷ (codes "==", Operator Eq false) ∷ (codes "!=", Operator Ne false) ∷ (codes "<", Operator Lt false) ∷ (codes "<=", Operator Le false)
    ∷ (codes ">", Operator Gt false) ∷ (codes ">=", Operator Ge false) ∷ (codes "&&", Operator And false) ∷ (codes "||", Operator Or false)
    ∷ (codes "!", Not false) ∷ []

abbrev pub dotted_table : List (List ℕ × Sign)
dotted_table =
    (codes ".+", Operator Add true) ∷ (codes ".-", Operator Sub true) ∷ (codes ".*", Operator Mul true)
    ∷ (codes ".==", Operator Eq true) ∷ (codes ".!=", Operator Ne true) ∷ (codes ".<", Operator Lt true) ∷ (codes ".<=", Operator Le true)
    ∷ (codes ".>", Operator Gt true) ∷ (codes ".>=", Operator Ge true) ∷ (codes ".&", Operator BitAnd true) ∷ (codes ".|", Operator BitOr true)
    ∷ (codes ".!", Not true) ∷ []

abbrev pub mark_table : List (List ℕ × Sign)
mark_table =
    (codes "=", Assign) ∷ (codes "->", Arrow) ∷ (codes "(", Open) ∷ (codes ")", Close) ∷ (codes "[", OpenIndex) ∷ (codes "]", CloseIndex)
    ∷ (codes ",", Comma) ∷ (codes ":", Colon) ∷ (codes ".", Dot) ∷ []

abbrev pub words : List (List ℕ)
words = map (λ x. x.0) word_table

abbrev pub signs : List (List ℕ)
signs = map (λ x. x.0) plain_table ++ map (λ x. x.0) dotted_table ++ map (λ x. x.0) mark_table

-- what a table has for a text
abbrev pub entry : {A : Type 0} → List (List ℕ × A) → List ℕ → Option A
entry [] text = None
entry (x ∷ table) text = if bytes_eq text x.0 then Some x.1 else entry table text

unfoldable pub keyword_of : List ℕ → Option Keyword
keyword_of text = entry word_table text

unfoldable pub sign_of : List ℕ → Option Sign
sign_of text = option_or (entry plain_table text) (option_or (entry dotted_table text) (entry mark_table text))

-- ---- what a token says

-- A token by what it says: a number by its value, a name and a text by their bytes, a text without its quotes.
pub data Lexeme : Type 0 where
  Numeral : ℤ → Lexeme
  Identifier : List ℕ → Lexeme
  Quoted : List ℕ → Lexeme
  Word : Keyword → Lexeme
  Mark : Sign → Lexeme
  Newline : Lexeme

-- a token by what it says, and where it stands
pub record Lexed : Type 0 where
  pub what : Lexeme
  pub at : Place

-- the text of a token
abbrev pub text_of : List ℕ → Token → List ℕ
text_of source token = slice_range source token.from token.until

-- a text without its quotes
abbrev pub unquoted : List ℕ → List ℕ
unquoted text = slice_range text 1 (length text - 1)

-- what a token of this kind and text says; nothing for the end of the script
abbrev pub lexeme_of : Kind → List ℕ → Option Lexeme
lexeme_of kinds.Number text = Some (Numeral (pos (digits_value 10 text)))
lexeme_of kinds.Name text = Some (Identifier text)
lexeme_of kinds.Text text = Some (Quoted (unquoted text))
lexeme_of kinds.Word text = option_map Word (keyword_of text)
lexeme_of kinds.Sign text = option_map Mark (sign_of text)
lexeme_of kinds.Line text = Some Newline
lexeme_of kinds.Eof text = None

-- a token by what it says and where it stands; nothing for the end of the script
abbrev pub lexed_of : List ℕ → Token → Option Lexed
lexed_of source token = option_map (λ what. record { what = what; at = token.at }) (lexeme_of token.kind (text_of source token))

-- the tokens of a source by what they say, up to the end of the script
unfoldable pub lexed : List ℕ → List Token → List Lexed
lexed source tokens = filter_map (lexed_of source) tokens

-- a number's text is decimal digits with a value of at most 2^63 - 1
abbrev pub IsReadable : Kind → List ℕ → Type 0
IsReadable kinds.Number text = IsNumeral 10 text × (digits_value 10 text ≤ 9223372036854775807)
IsReadable _ text = Unit {0}

-- each number of the list is written by digits, and fits
abbrev pub AreReadable : List ℕ → List Token → Type 0
AreReadable source tokens = AllByRecursion (λ token. IsReadable token.kind (text_of source token)) tokens

-- ---- the code's lexemes

-- a lexeme of the code by what it says
abbrev pub seen : SeenLexeme → Lexeme
seen (seen_as.Numeral value) = Numeral value
seen (seen_as.Identifier bytes) = Identifier bytes.now
seen (seen_as.Quoted bytes) = Quoted bytes.now
seen (seen_as.Word word) = Word word
seen (seen_as.Mark sign) = Mark sign
seen seen_as.Newline = Newline
