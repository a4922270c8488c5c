-- The canonical text divides into the tokens of its lexemes, since no lexeme goes on in the next one.
use Rattle.std.proofs.Common.{◌≡◌, ℕ, Bool, true, false, List, [], ◌∷◌, ◌++◌, refl, sym, ap, subst, ◌∙◌, append_assoc, arith}
use Rattle.std.specs.Prelude.{IsTrue, codes, if◌then◌else◌, nat_le}
use Rattle.std.specs.Fmt.{signed_decimal}
use Rattle.std.specs.Str.Parse.{IsNumeral}
use Rattle.std.proofs.lemmas.Str.Parse.{digit_from_value}
use Rattle.hp_script.specs.declared.tree.UnOp.{UnOp}
use Rattle.hp_script.specs.declared.tree.UnOp.TheVariants as ops
use Rattle.hp_script.specs.declared.tree.BinOp.{BinOp}
use Rattle.hp_script.specs.declared.token.Sign.TheVariants as marks
use Rattle.hp_script.specs.Lexemes.{signs, Lexeme, Identifier, Mark}
use Rattle.hp_script.specs.Tokens.{begins_name, goes_on_name, IsIdentifier}
use Rattle.hp_script.specs.Grammar.{level_of}
use Rattle.hp_script.specs.Mirror as mirror
use Rattle.hp_script.specs.Mirror.{Head, Tree, Args, Block}
use Rattle.hp_script.specs.Printing.{symbol, unary_symbol, dot, left_rank, binds, bracketed, text_in}
use Rattle.hp_script.proofs.Wording.{unary_sign, in_brackets, said_in}
use Rattle.hp_script.proofs.Spelling.{Sayable, IsSigned, spelling, sign_text, Stops, CutBy, EndsSign, AvoidsFirst, nexts, numeral_of, letter_passes, is_sign_byte, name_ends, ends_by_byte, ends_by_nexts, open_ends, close_ends, open_index_ends, close_index_ends}
use Rattle.hp_script.proofs.Written.{Writable, mark_signed}
use Rattle.hp_script.proofs.TestLemmas.{not_both}

-- ---- bytes that divide into the spellings of lexemes, with blanks between them

pub data Cuts : List ℕ → List Lexeme → Type 0 where
  over : Cuts [] []
  blank : {bytes : List ℕ} {said : List Lexeme} → Cuts bytes said → Cuts (32 ∷ bytes) said
  word : {bytes : List ℕ} {said : List Lexeme} (what : Lexeme) → Sayable what → Stops what bytes → Cuts bytes said → Cuts (spelling what ++ bytes) (what ∷ said)

pub along : {bytes others : List ℕ} {said more : List Lexeme} → bytes ≡ others → said ≡ more → Cuts bytes said → Cuts others more
along {others = others} {said = said} e f h = subst (λ (w : List Lexeme). Cuts others w) f (subst (λ (t : List ℕ). Cuts t said) e h)

-- a text divides into these lexemes before whatever goes on no name
abbrev pub Fits : List ℕ → List Lexeme → Type 0
Fits text said = (rest : List ℕ) (more : List Lexeme) → CutBy goes_on_name rest → Cuts rest more → Cuts (text ++ rest) (said ++ more)

pub assign_signed : IsSigned marks.Assign
assign_signed = mark_signed.0

pub arrow_signed : IsSigned marks.Arrow
arrow_signed = mark_signed.1.0

pub open_signed : IsSigned marks.Open
open_signed = mark_signed.1.1.0

pub close_signed : IsSigned marks.Close
close_signed = mark_signed.1.1.1.0

open_index_signed : IsSigned marks.OpenIndex
open_index_signed = mark_signed.1.1.1.1.0

close_index_signed : IsSigned marks.CloseIndex
close_index_signed = mark_signed.1.1.1.1.1.0

pub comma_signed : IsSigned marks.Comma
comma_signed = mark_signed.1.1.1.1.1.1.0

pub colon_signed : IsSigned marks.Colon
colon_signed = mark_signed.1.1.1.1.1.1.1.0

pub dot_signed : IsSigned marks.Dot
dot_signed = mark_signed.1.1.1.1.1.1.1.1.0

-- ---- brackets

in_brackets_fits : (text : List ℕ) (said : List Lexeme) → Fits text said → Fits (codes "(" ++ text ++ codes ")") (Mark marks.Open ∷ said ++ Mark marks.Close ∷ [])
in_brackets_fits text said f rest more cut h =
    along (ap (λ (t : List ℕ). 40 ∷ t) (sym (append_assoc text (41 ∷ []) rest))) (ap (λ (w : List Lexeme). Mark marks.Open ∷ w) (sym (append_assoc said (Mark marks.Close ∷ []) more)))
    (word (Mark marks.Open) open_signed (open_ends _) (f (41 ∷ rest) (Mark marks.Close ∷ more) refl (word (Mark marks.Close) close_signed (close_ends rest) h)))

bracketed_fits : (t : Bool) (text : List ℕ) (said : List Lexeme) → Fits text said
    → Fits (if t then text else codes "(" ++ text ++ codes ")") (if t then said else Mark marks.Open ∷ said ++ Mark marks.Close ∷ [])
bracketed_fits true text said f = f
bracketed_fits false text said f = in_brackets_fits text said f

pub operand_fits : (least : ℕ) (x : Tree) → Fits (text_in x) (said_in x) → Fits (bracketed least x (text_in x)) (in_brackets least x (said_in x))
operand_fits least x f = bracketed_fits (nat_le least (binds x)) (text_in x) (said_in x) f

-- ---- how an expression starts

-- the first byte goes on no sign of an operator with one operand
pub record Starts (bytes : List ℕ) : Type 0 where
  pub first : ℕ
  pub rest : List ℕ
  pub parts : bytes ≡ first ∷ rest
  pub no_equals : 61 ≡ first → ⊥
  pub no_greater : 62 ≡ first → ⊥

starts_on : (a b : List ℕ) → Starts a → Starts (a ++ b)
starts_on a b s = record { first = s.first; rest = s.rest ++ b; parts = ap (λ (t : List ℕ). t ++ b) s.parts; no_equals = s.no_equals; no_greater = s.no_greater }

starts_by : (first : ℕ) (rest : List ℕ) → (61 ≡ first → ⊥) → (62 ≡ first → ⊥) → Starts (first ∷ rest)
starts_by first rest e g = record { first = first; rest = rest; parts = refl; no_equals = e; no_greater = g }

letter_other : (byte c : ℕ) → IsTrue (begins_name byte) → begins_name c ≡ false → c ≡ byte → ⊥
letter_other byte c h f e = not_both (begins_name byte) h (ap begins_name (sym e) ∙ f)

name_starts : (text : List ℕ) → IsIdentifier text → Starts text
name_starts text h = record { first = h.first; rest = h.rest; parts = h.parts; no_equals = letter_other h.first 61 h.begins refl; no_greater = letter_other h.first 62 h.begins refl }

digits_start : (text : List ℕ) → IsNumeral 10 text → Starts text
digits_start [] h = absurd (omega (arith, h.0))
digits_start (d ∷ text) h = let r = digit_from_value d h.1.0 in starts_by d text (λ e. absurd (omega (arith, r, e))) (λ e. absurd (omega (arith, r, e)))

bracketed_starts : (t : Bool) (text : List ℕ) → Starts text → Starts (if t then text else codes "(" ++ text ++ codes ")")
bracketed_starts true text s = s
bracketed_starts false text s = starts_by 40 (text ++ codes ")") (λ e. absurd (omega (arith, e))) (λ e. absurd (omega (arith, e)))

unary_starts : (op : UnOp) (dotted : Bool) (text : List ℕ) → Starts (dot dotted ++ unary_symbol op ++ text)
unary_starts ops.Neg true text = starts_by 46 _ (λ e. absurd (omega (arith, e))) (λ e. absurd (omega (arith, e)))
unary_starts ops.Neg false text = starts_by 45 _ (λ e. absurd (omega (arith, e))) (λ e. absurd (omega (arith, e)))
unary_starts ops.Not true text = starts_by 46 _ (λ e. absurd (omega (arith, e))) (λ e. absurd (omega (arith, e)))
unary_starts ops.Not false text = starts_by 33 _ (λ e. absurd (omega (arith, e))) (λ e. absurd (omega (arith, e)))

truth_starts : (holds : Bool) → Starts (if holds then codes "true" else codes "false")
truth_starts true = starts_by 116 _ (λ e. absurd (omega (arith, e))) (λ e. absurd (omega (arith, e)))
truth_starts false = starts_by 102 _ (λ e. absurd (omega (arith, e))) (λ e. absurd (omega (arith, e)))

pub starts_in : (x : Tree) → Writable x → Starts (text_in x)
unfolding text_in
starts_in (mirror.number h value) w = digits_start (signed_decimal value) (numeral_of value w.0 w.1 w.2).0
starts_in (mirror.truth h holds) w = truth_starts holds
starts_in (mirror.text h bytes) w = starts_by 34 _ (λ e. absurd (omega (arith, e))) (λ e. absurd (omega (arith, e)))
starts_in (mirror.variable h name) w = name_starts name w.0
starts_in (mirror.column h name) w = starts_by 58 _ (λ e. absurd (omega (arith, e))) (λ e. absurd (omega (arith, e)))
starts_in (mirror.field h name of_it) w = starts_on _ of_it (starts_on name _ (name_starts name w.0.0))
starts_in (mirror.unary h op dotted x) w = unary_starts op dotted _
starts_in (mirror.binary h op dotted x y) w =
    let first = bracketed_starts (nat_le (left_rank (level_of op)) (binds x)) (text_in x) (starts_in x w.1) in
    starts_on _ _ (starts_on _ _ (starts_on _ _ (starts_on _ _ (starts_on _ _ first))))
starts_in (mirror.index h x i) w = starts_on _ _ (starts_on _ _ (starts_on _ _ (bracketed_starts (nat_le 6 (binds x)) (text_in x) (starts_in x w.0))))
starts_in (mirror.call h function dotted xs) w = starts_on _ _ (starts_on _ _ (starts_on _ _ (starts_on _ _ (name_starts function w.0.0))))

pub bracketed_starts_of : (least : ℕ) (x : Tree) → Writable x → Starts (bracketed least x (text_in x))
bracketed_starts_of least x w = bracketed_starts (nat_le least (binds x)) (text_in x) (starts_in x w)

-- the sign of an operator with one operand ends before what starts so
unary_ends : (op : UnOp) (dotted : Bool) (bytes : List ℕ) → Starts bytes → EndsSign (unary_sign op dotted) bytes
unary_ends op dotted bytes s = ends_by_nexts (unary_sign op dotted) bytes (subst (λ (t : List ℕ). AvoidsFirst (nexts signs (sign_text (unary_sign op dotted))) t) (sym s.parts) (avoids op dotted))
  where
    avoids : (op : UnOp) (dotted : Bool) → AvoidsFirst (nexts signs (sign_text (unary_sign op dotted))) (s.first ∷ s.rest)
    avoids ops.Neg true = tt
    avoids ops.Neg false = (s.no_greater, tt)
    avoids ops.Not true = (s.no_equals, tt)
    avoids ops.Not false = (s.no_equals, tt)

-- ---- expressions

pub field_fits : (name of_it : List ℕ) → Sayable (Identifier name) → Sayable (Identifier of_it) → Fits (name ++ codes "." ++ of_it) (Identifier name ∷ Mark marks.Dot ∷ Identifier of_it ∷ [])
field_fits name of_it n o rest more cut h =
    along (sym (append_assoc (name ++ codes ".") of_it rest ∙ append_assoc name (codes ".") (of_it ++ rest))) refl
    (word (Identifier name) n refl (word (Mark marks.Dot) dot_signed (ends_by_byte marks.Dot (of_it ++ rest) (name_cut of_it rest o.0)) (word (Identifier of_it) o cut h)))
  where
    name_cut : (text others : List ℕ) → IsIdentifier text → CutBy is_sign_byte (text ++ others)
    name_cut text others s = subst (λ (t : List ℕ). CutBy is_sign_byte (t ++ others)) (sym s.parts) (name_ends s.first (letter_passes s.first s.begins))

unary_text : (op : UnOp) (dotted : Bool) → sign_text (unary_sign op dotted) ≡ dot dotted ++ unary_symbol op
unary_text ops.Neg dotted = refl
unary_text ops.Not dotted = refl

pub unary_fits : (op : UnOp) (dotted : Bool) (text : List ℕ) (said : List Lexeme) → IsSigned (unary_sign op dotted) → Starts text → Fits text said → Fits (dot dotted ++ unary_symbol op ++ text) (Mark (unary_sign op dotted) ∷ said)
unary_fits op dotted text said signed s f rest more cut h =
    along (ap (λ (t : List ℕ). t ++ (text ++ rest)) (unary_text op dotted) ∙ sym (append_assoc (dot dotted ++ unary_symbol op) text rest)) refl
    (word (Mark (unary_sign op dotted)) signed (unary_ends op dotted (text ++ rest) (starts_on text rest s)) (f rest more cut h))

regroup_binary : (l d s r rest : List ℕ) → l ++ (32 ∷ ((d ++ s) ++ (32 ∷ (r ++ rest)))) ≡ (l ++ codes " " ++ d ++ s ++ codes " " ++ r) ++ rest
regroup_binary l d s r rest = simp append_assoc refl

pub binary_fits : (op : BinOp) (dotted : Bool) (left right : List ℕ) (said more_said : List Lexeme) → IsSigned (marks.Operator op dotted) → Fits left said → Fits right more_said
    → Fits (left ++ codes " " ++ dot dotted ++ symbol op ++ codes " " ++ right) (said ++ Mark (marks.Operator op dotted) ∷ more_said)
binary_fits op dotted left right said more_said signed f g rest more cut h =
    along (regroup_binary left (dot dotted) (symbol op) right rest) (sym (append_assoc said (Mark (marks.Operator op dotted) ∷ more_said) more))
    (f _ _ refl (blank (word (Mark (marks.Operator op dotted)) signed (ends_by_byte (marks.Operator op dotted) _ refl) (blank (g rest more cut h)))))

regroup_index : (l i rest : List ℕ) → l ++ (91 ∷ (i ++ (93 ∷ rest))) ≡ (l ++ codes "[" ++ i ++ codes "]") ++ rest
regroup_index l i rest = simp append_assoc refl

regroup_said : (l i : List Lexeme) (open_ close : Lexeme) (more : List Lexeme) → l ++ (open_ ∷ (i ++ (close ∷ more))) ≡ (l ++ open_ ∷ (i ++ close ∷ [])) ++ more
regroup_said l i open_ close more = simp append_assoc refl

pub index_fits : (left inner : List ℕ) (said inner_said : List Lexeme) → Fits left said → Fits inner inner_said
    → Fits (left ++ codes "[" ++ inner ++ codes "]") (said ++ Mark marks.OpenIndex ∷ (inner_said ++ Mark marks.CloseIndex ∷ []))
index_fits left inner said inner_said f g rest more cut h =
    along (regroup_index left inner rest) (regroup_said said inner_said (Mark marks.OpenIndex) (Mark marks.CloseIndex) more)
    (f _ _ refl (word (Mark marks.OpenIndex) open_index_signed (open_index_ends _) (g _ _ refl (word (Mark marks.CloseIndex) close_index_signed (close_index_ends rest) h))))
