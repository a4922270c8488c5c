-- The canonical text of calls and statements divides into the tokens of their lexemes.
use Rattle.std.proofs.Common.{◌≡◌, ℕ, suc, ℤ, Bool, true, false, List, [], ◌∷◌, ◌++◌, refl, sym, ap, append_assoc, append-nil}
use Rattle.std.specs.Prelude.{codes}
use Rattle.std.specs.List.{AllByRecursion}
use Rattle.hp_script.specs.declared.token.Keyword.TheVariants as keywords
use Rattle.hp_script.specs.declared.token.Sign.TheVariants as marks
use Rattle.hp_script.specs.Lexemes.{Lexeme, Numeral, Identifier, Quoted, Word, Mark, Newline}
use Rattle.hp_script.specs.Tokens.{goes_on_name}
use Rattle.hp_script.specs.Grammar.{level_of}
use Rattle.hp_script.specs.Mirror as mirror
use Rattle.hp_script.specs.Mirror.{Head, Tree, Args, Block}
use Rattle.hp_script.specs.Printing.{rank, left_rank, comma, text_in, text_among, deeper, else_part, text_of}
use Rattle.hp_script.proofs.Wording.{comma_said, said_in, said_among, else_said, said_of}
use Rattle.hp_script.proofs.Spelling.{Sayable, CutBy, ends_by_byte, open_ends, close_ends, comma_ends, colon_ends, dot_ends}
use Rattle.hp_script.proofs.Written.{Writable, AreWritable, IsWritable}
use Rattle.hp_script.proofs.Cutting.{Cuts, over, blank, word, along, Fits, assign_signed, arrow_signed, open_signed, close_signed, comma_signed, colon_signed, dot_signed, operand_fits, bracketed_starts_of, field_fits, unary_fits, binary_fits, index_fits}

-- ---- arguments

-- an argument's end, or a comma, goes on no name
comma_cut : (xs : Args) (rest : List ℕ) → CutBy goes_on_name rest → CutBy goes_on_name ((comma xs ++ text_among xs) ++ rest)
unfolding text_among
comma_cut mirror.none rest cut = cut
comma_cut (mirror.plain x xs) rest cut = refl
comma_cut (mirror.range x y xs) rest cut = refl
comma_cut (mirror.lambda parameter x xs) rest cut = refl
comma_cut (mirror.named name at x xs) rest cut = refl

behind_comma : (text : List ℕ) (said : List Lexeme) → Fits text said → Fits (codes ", " ++ text) (Mark marks.Comma ∷ [] ++ said)
behind_comma text said f rest more cut h = word (Mark marks.Comma) comma_signed (comma_ends _) (blank (f rest more cut h))

comma_fits : (xs : Args) → Fits (text_among xs) (said_among xs) → Fits (comma xs ++ text_among xs) (comma_said xs ++ said_among xs)
comma_fits mirror.none f = f
comma_fits (mirror.plain x xs) f = behind_comma (text_among (mirror.plain x xs)) (said_among (mirror.plain x xs)) f
comma_fits (mirror.range x y xs) f = behind_comma (text_among (mirror.range x y xs)) (said_among (mirror.range x y xs)) f
comma_fits (mirror.lambda parameter x xs) f = behind_comma (text_among (mirror.lambda parameter x xs)) (said_among (mirror.lambda parameter x xs)) f
comma_fits (mirror.named name at x xs) f = behind_comma (text_among (mirror.named name at x xs)) (said_among (mirror.named name at x xs)) f

regroup_two : {X : Type 0} (a b c rest : List X) → a ++ ((b ++ c) ++ rest) ≡ (a ++ b ++ c) ++ rest
regroup_two a b c rest = simp append_assoc refl

regroup_right : {X : Type 0} (a b c rest : List X) → a ++ ((b ++ c) ++ rest) ≡ (a ++ (b ++ c)) ++ rest
regroup_right a b c rest = simp append_assoc refl

-- an expression with the arguments behind it
with_more : (text : List ℕ) (said : List Lexeme) (xs : Args) → Fits text said → Fits (text_among xs) (said_among xs) → Fits (text ++ comma xs ++ text_among xs) (said ++ (comma_said xs ++ said_among xs))
with_more text said xs f g rest more cut h =
    along (regroup_two text (comma xs) (text_among xs) rest) (regroup_right said (comma_said xs) (said_among xs) more)
    (f _ _ (comma_cut xs rest cut) (comma_fits xs g rest more cut h))

regroup_range : (x y c a rest : List ℕ) → x ++ (58 ∷ ((y ++ c ++ a) ++ rest)) ≡ (x ++ codes ":" ++ y ++ c ++ a) ++ rest
regroup_range x y c a rest = simp append_assoc refl

range_fits : (x y : Tree) (xs : Args) → Fits (text_in x) (said_in x) → Fits (text_in y) (said_in y) → Fits (text_among xs) (said_among xs) → Fits (text_among (mirror.range x y xs)) (said_among (mirror.range x y xs))
unfolding text_among text_in
range_fits x y xs e f g rest more cut h =
    along (regroup_range (text_in x) (text_in y) (comma xs) (text_among xs) rest) (sym (append_assoc (said_in x) (Mark marks.Colon ∷ (said_in y ++ (comma_said xs ++ said_among xs))) more))
    (e _ _ refl (word (Mark marks.Colon) colon_signed (colon_ends _) (with_more (text_in y) (said_in y) xs f g rest more cut h)))

regroup_lambda : (p x c a rest : List ℕ) → p ++ (32 ∷ (codes "->" ++ (32 ∷ ((x ++ c ++ a) ++ rest)))) ≡ (p ++ codes " -> " ++ x ++ c ++ a) ++ rest
regroup_lambda p x c a rest = simp append_assoc refl

lambda_fits : (parameter : List ℕ) (x : Tree) (xs : Args) → Sayable (Identifier parameter) → Fits (text_in x) (said_in x) → Fits (text_among xs) (said_among xs)
    → Fits (text_among (mirror.lambda parameter x xs)) (said_among (mirror.lambda parameter x xs))
unfolding text_among text_in
lambda_fits parameter x xs n f g rest more cut h =
    along (regroup_lambda parameter (text_in x) (comma xs) (text_among xs) rest) refl
    (word (Identifier parameter) n refl (blank (word (Mark marks.Arrow) arrow_signed (ends_by_byte marks.Arrow _ refl) (blank (with_more (text_in x) (said_in x) xs f g rest more cut h)))))

regroup_named : (p x c a rest : List ℕ) → p ++ (32 ∷ (codes "=" ++ (32 ∷ ((x ++ c ++ a) ++ rest)))) ≡ (p ++ codes " = " ++ x ++ c ++ a) ++ rest
regroup_named p x c a rest = simp append_assoc refl

named_fits : (name : List ℕ) (at : _) (x : Tree) (xs : Args) → Sayable (Identifier name) → Fits (text_in x) (said_in x) → Fits (text_among xs) (said_among xs)
    → Fits (text_among (mirror.named name at x xs)) (said_among (mirror.named name at x xs))
unfolding text_among text_in
named_fits name at x xs n f g rest more cut h =
    along (regroup_named name (text_in x) (comma xs) (text_among xs) rest) refl
    (word (Identifier name) n refl (blank (word (Mark marks.Assign) assign_signed (ends_by_byte marks.Assign _ refl) (blank (with_more (text_in x) (said_in x) xs f g rest more cut h)))))

plain_fits : (x : Tree) (xs : Args) → Fits (text_in x) (said_in x) → Fits (text_among xs) (said_among xs) → Fits (text_among (mirror.plain x xs)) (said_among (mirror.plain x xs))
unfolding text_among text_in
plain_fits x xs f g = with_more (text_in x) (said_in x) xs f g

none_fits : Fits (text_among mirror.none) (said_among mirror.none)
unfolding text_among
none_fits rest more cut h = h

-- ---- calls

regroup_call : (f a rest : List ℕ) → f ++ (40 ∷ (a ++ (41 ∷ rest))) ≡ (f ++ [] ++ codes "(" ++ a ++ codes ")") ++ rest
regroup_call f a rest = simp (append_assoc, append-nil) refl

regroup_dotted : (f a rest : List ℕ) → f ++ (46 ∷ (40 ∷ (a ++ (41 ∷ rest)))) ≡ (f ++ codes "." ++ codes "(" ++ a ++ codes ")") ++ rest
regroup_dotted f a rest = simp append_assoc refl

call_fits : (h : Head) (function : List ℕ) (dotted : Bool) (xs : Args) → Sayable (Identifier function) → Fits (text_among xs) (said_among xs) → Fits (text_in (mirror.call h function dotted xs)) (said_in (mirror.call h function dotted xs))
unfolding text_in text_among
call_fits h function true xs n g rest more cut c =
    along (regroup_dotted function (text_among xs) rest) (ap (λ (w : List Lexeme). Identifier function ∷ Mark marks.Dot ∷ Mark marks.Open ∷ w) (sym (append_assoc (said_among xs) (Mark marks.Close ∷ []) more)))
    (word (Identifier function) n refl (word (Mark marks.Dot) dot_signed (dot_ends _) (word (Mark marks.Open) open_signed (open_ends _) (g _ _ refl (word (Mark marks.Close) close_signed (close_ends rest) c)))))
call_fits h function false xs n g rest more cut c =
    along (regroup_call function (text_among xs) rest) (ap (λ (w : List Lexeme). Identifier function ∷ Mark marks.Open ∷ w) (sym (append_assoc (said_among xs) (Mark marks.Close ∷ []) more)))
    (word (Identifier function) n refl (word (Mark marks.Open) open_signed (open_ends _) (g _ _ refl (word (Mark marks.Close) close_signed (close_ends rest) c))))

-- ---- all expressions

number_fits : (h : Head) (value : ℤ) → Sayable (Numeral value) → Fits (text_in (mirror.number h value)) (said_in (mirror.number h value))
unfolding text_in
number_fits h value n rest more cut c = word (Numeral value) n cut c

truth_fits : (h : Head) (holds : Bool) → Fits (text_in (mirror.truth h holds)) (said_in (mirror.truth h holds))
unfolding text_in
truth_fits h true rest more cut c = word (Word keywords.True) tt cut c
truth_fits h false rest more cut c = word (Word keywords.False) tt cut c

text_fits : (h : Head) (bytes : List ℕ) → Sayable (Quoted bytes) → Fits (text_in (mirror.text h bytes)) (said_in (mirror.text h bytes))
unfolding text_in
text_fits h bytes n rest more cut c = word (Quoted bytes) n tt c

variable_fits : (h : Head) (name : List ℕ) → Sayable (Identifier name) → Fits (text_in (mirror.variable h name)) (said_in (mirror.variable h name))
unfolding text_in
variable_fits h name n rest more cut c = word (Identifier name) n cut c

column_fits : (h : Head) (name : List ℕ) → Sayable (Identifier name) → Fits (text_in (mirror.column h name)) (said_in (mirror.column h name))
unfolding text_in
column_fits h name n rest more cut c = word (Mark marks.Colon) colon_signed (colon_ends _) (word (Identifier name) n cut c)

mutual
  unfolding text_in text_among

  fits_in : (x : Tree) → Writable x → Fits (text_in x) (said_in x)
  fits_in (mirror.number h value) w = number_fits h value w
  fits_in (mirror.truth h holds) w = truth_fits h holds
  fits_in (mirror.text h bytes) w = text_fits h bytes w
  fits_in (mirror.variable h name) w = variable_fits h name w
  fits_in (mirror.column h name) w = column_fits h name w
  fits_in (mirror.field h name of_it) w = field_fits name of_it w.0 w.1
  fits_in (mirror.unary h op dotted x) w = unary_fits op dotted _ _ w.1 (bracketed_starts_of 5 x w.2) (operand_fits 5 x (fits_in x w.2))
  fits_in (mirror.binary h op dotted x y) w =
      binary_fits op dotted _ _ _ _ w.0 (operand_fits (left_rank (level_of op)) x (fits_in x w.1)) (operand_fits (suc (rank (level_of op))) y (fits_in y w.2))
  fits_in (mirror.index h x i) w = index_fits _ _ _ _ (operand_fits 6 x (fits_in x w.0)) (fits_in i w.1)
  fits_in (mirror.call h function dotted xs) w = call_fits h function dotted xs w.0 (fits_among xs w.1)

  fits_among : (xs : Args) → AreWritable xs → Fits (text_among xs) (said_among xs)
  fits_among mirror.none w = none_fits
  fits_among (mirror.plain x xs) w = plain_fits x xs (fits_in x w.0) (fits_among xs w.1)
  fits_among (mirror.range x y xs) w = range_fits x y xs (fits_in x w.0) (fits_in y w.1) (fits_among xs w.2)
  fits_among (mirror.lambda parameter x xs) w = lambda_fits parameter x xs w.0 (fits_in x w.1) (fits_among xs w.2)
  fits_among (mirror.named name at x xs) w = named_fits name at x xs w.0 (fits_in x w.1) (fits_among xs w.2)

-- ---- statements

-- a text divides into these lexemes before whatever comes
abbrev pub FitsLines : List ℕ → List Lexeme → Type 0
FitsLines text said = (rest : List ℕ) (more : List Lexeme) → Cuts rest more → Cuts (text ++ rest) (said ++ more)

abbrev pub AreBlanks : List ℕ → Type 0
AreBlanks indent = AllByRecursion (λ byte. byte ≡ 32) indent

indented : (indent bytes : List ℕ) (said : List Lexeme) → AreBlanks indent → Cuts bytes said → Cuts (indent ++ bytes) said
indented [] bytes said all h = h
indented (b ∷ indent) bytes said all h = along (ap (λ (c : ℕ). c ∷ (indent ++ bytes)) (sym all.0)) refl (blank (indented indent bytes said all.1 h))

deeper_blanks : (indent : List ℕ) → AreBlanks indent → AreBlanks (deeper indent)
deeper_blanks [] all = (refl, (refl, (refl, (refl, tt))))
deeper_blanks (b ∷ indent) all = (all.0, deeper_blanks indent all.1)

regroup_assign : (i n x r rest : List ℕ) → i ++ (n ++ (32 ∷ (codes "=" ++ (32 ∷ (x ++ (10 ∷ (r ++ rest))))))) ≡ (i ++ n ++ codes " = " ++ x ++ codes "\n" ++ r) ++ rest
regroup_assign i n x r rest = simp append_assoc refl

assign_fits : (indent name text rest_text : List ℕ) (said rest_said : List Lexeme) → AreBlanks indent → Sayable (Identifier name) → Fits text said → FitsLines rest_text rest_said
    → FitsLines (indent ++ name ++ codes " = " ++ text ++ codes "\n" ++ rest_text) (Identifier name ∷ Mark marks.Assign ∷ (said ++ Newline ∷ rest_said))
assign_fits indent name text rest_text said rest_said all n f g rest more h =
    along (regroup_assign indent name text rest_text rest) (ap (λ (w : List Lexeme). Identifier name ∷ Mark marks.Assign ∷ w) (sym (append_assoc said (Newline ∷ rest_said) more)))
    (indented indent _ _ all (word (Identifier name) n refl (blank (word (Mark marks.Assign) assign_signed (ends_by_byte marks.Assign _ refl) (blank (f _ _ refl (word Newline tt tt (g rest more h))))))))

regroup_print : (i p x r rest : List ℕ) → i ++ (p ++ (40 ∷ (x ++ (41 ∷ (10 ∷ (r ++ rest)))))) ≡ (i ++ (p ++ codes "(") ++ x ++ codes ")\n" ++ r) ++ rest
regroup_print i p x r rest = simp append_assoc refl

print_fits : (indent text rest_text : List ℕ) (said rest_said : List Lexeme) → AreBlanks indent → Fits text said → FitsLines rest_text rest_said
    → FitsLines (indent ++ codes "println(" ++ text ++ codes ")\n" ++ rest_text) (Word keywords.Println ∷ Mark marks.Open ∷ (said ++ Mark marks.Close ∷ Newline ∷ rest_said))
print_fits indent text rest_text said rest_said all f g rest more h =
    along (regroup_print indent (codes "println") text rest_text rest) (ap (λ (w : List Lexeme). Word keywords.Println ∷ Mark marks.Open ∷ w) (sym (append_assoc said (Mark marks.Close ∷ Newline ∷ rest_said) more)))
    (indented indent _ _ all (word (Word keywords.Println) tt refl (word (Mark marks.Open) open_signed (open_ends _) (f _ _ refl (word (Mark marks.Close) close_signed (close_ends _) (word Newline tt tt (g rest more h)))))))

export_fits : (indent text rest_text : List ℕ) (said rest_said : List Lexeme) → AreBlanks indent → Fits text said → FitsLines rest_text rest_said
    → FitsLines (indent ++ codes "write_csv(" ++ text ++ codes ")\n" ++ rest_text) (Word keywords.WriteCsv ∷ Mark marks.Open ∷ (said ++ Mark marks.Close ∷ Newline ∷ rest_said))
export_fits indent text rest_text said rest_said all f g rest more h =
    along (regroup_print indent (codes "write_csv") text rest_text rest) (ap (λ (w : List Lexeme). Word keywords.WriteCsv ∷ Mark marks.Open ∷ w) (sym (append_assoc said (Mark marks.Close ∷ Newline ∷ rest_said) more)))
    (indented indent _ _ all (word (Word keywords.WriteCsv) tt refl (word (Mark marks.Open) open_signed (open_ends _) (f _ _ refl (word (Mark marks.Close) close_signed (close_ends _) (word Newline tt tt (g rest more h)))))))

regroup_loop : (i x b r rest : List ℕ) → i ++ (codes "while" ++ (32 ∷ (x ++ (10 ∷ (b ++ (i ++ (codes "end" ++ (10 ∷ (r ++ rest))))))))) ≡ (i ++ codes "while " ++ x ++ codes "\n" ++ b ++ i ++ codes "end\n" ++ r) ++ rest
regroup_loop i x b r rest = simp append_assoc refl

regroup_loop_said : (x b r more : List Lexeme) → x ++ (Newline ∷ (b ++ (Word keywords.End ∷ Newline ∷ (r ++ more)))) ≡ (x ++ Newline ∷ (b ++ Word keywords.End ∷ Newline ∷ r)) ++ more
regroup_loop_said x b r more = simp append_assoc refl

loop_fits : (indent text body rest_text : List ℕ) (said body_said rest_said : List Lexeme) → AreBlanks indent → Fits text said → FitsLines body body_said → FitsLines rest_text rest_said
    → FitsLines (indent ++ codes "while " ++ text ++ codes "\n" ++ body ++ indent ++ codes "end\n" ++ rest_text) (Word keywords.While ∷ (said ++ Newline ∷ (body_said ++ Word keywords.End ∷ Newline ∷ rest_said)))
loop_fits indent text body rest_text said body_said rest_said all f b g rest more h =
    along (regroup_loop indent text body rest_text rest) (ap (λ (w : List Lexeme). Word keywords.While ∷ w) (regroup_loop_said said body_said rest_said more))
    (indented indent _ _ all (word (Word keywords.While) tt refl (blank (f _ _ refl (word Newline tt tt (b _ _ (indented indent _ _ all (word (Word keywords.End) tt refl (word Newline tt tt (g rest more h))))))))))

regroup_choose : (i x b e r rest : List ℕ) → i ++ (codes "if" ++ (32 ∷ (x ++ (10 ∷ (b ++ (e ++ (i ++ (codes "end" ++ (10 ∷ (r ++ rest)))))))))) ≡ (i ++ codes "if " ++ x ++ codes "\n" ++ b ++ e ++ i ++ codes "end\n" ++ r) ++ rest
regroup_choose i x b e r rest = simp append_assoc refl

regroup_choose_said : (x b e r more : List Lexeme) → x ++ (Newline ∷ (b ++ (e ++ (Word keywords.End ∷ Newline ∷ (r ++ more))))) ≡ (x ++ Newline ∷ (b ++ (e ++ Word keywords.End ∷ Newline ∷ r))) ++ more
regroup_choose_said x b e r more = simp append_assoc refl

choose_fits : (indent text body second rest_text : List ℕ) (said body_said second_said rest_said : List Lexeme) → AreBlanks indent → Fits text said → FitsLines body body_said → FitsLines second second_said → FitsLines rest_text rest_said
    → FitsLines (indent ++ codes "if " ++ text ++ codes "\n" ++ body ++ second ++ indent ++ codes "end\n" ++ rest_text) (Word keywords.If ∷ (said ++ Newline ∷ (body_said ++ (second_said ++ Word keywords.End ∷ Newline ∷ rest_said))))
choose_fits indent text body second rest_text said body_said second_said rest_said all f b e g rest more h =
    along (regroup_choose indent text body second rest_text rest) (ap (λ (w : List Lexeme). Word keywords.If ∷ w) (regroup_choose_said said body_said second_said rest_said more))
    (indented indent _ _ all (word (Word keywords.If) tt refl (blank (f _ _ refl (word Newline tt tt (b _ _ (e _ _ (indented indent _ _ all (word (Word keywords.End) tt refl (word Newline tt tt (g rest more h)))))))))))

regroup_else : (i b rest : List ℕ) → i ++ (codes "else" ++ (10 ∷ (b ++ rest))) ≡ (i ++ codes "else\n" ++ b) ++ rest
regroup_else i b rest = simp append_assoc refl

some_else_fits : (indent body : List ℕ) (said : List Lexeme) → AreBlanks indent → FitsLines body said → FitsLines (indent ++ codes "else\n" ++ body) (Word keywords.Else ∷ Newline ∷ said)
some_else_fits indent body said all f rest more h =
    along (regroup_else indent body rest) refl (indented indent _ _ all (word (Word keywords.Else) tt refl (word Newline tt tt (f rest more h))))

nothing_fits : FitsLines [] []
nothing_fits rest more h = h

else_fits : (indent body : List ℕ) (said : List Lexeme) (other : Block) → AreBlanks indent → FitsLines body said → FitsLines (else_part indent other body) (else_said other said)
else_fits indent body said mirror.done all f = nothing_fits
else_fits indent body said (mirror.assign u v w x) all f = some_else_fits indent body said all f
else_fits indent body said (mirror.print u v w) all f = some_else_fits indent body said all f
else_fits indent body said (mirror.export u v w) all f = some_else_fits indent body said all f
else_fits indent body said (mirror.choose u v w x y) all f = some_else_fits indent body said all f
else_fits indent body said (mirror.loop u v w x) all f = some_else_fits indent body said all f

pub block_fits : (block : Block) (indent : List ℕ) → IsWritable block → AreBlanks indent → FitsLines (text_of indent block) (said_of block)
unfolding text_of
block_fits mirror.done indent w all = nothing_fits
block_fits (mirror.assign at name x rest) indent w all = assign_fits indent name (text_in x) (text_of indent rest) (said_in x) (said_of rest) all w.0 (fits_in x w.1) (block_fits rest indent w.2 all)
block_fits (mirror.print at x rest) indent w all = print_fits indent (text_in x) (text_of indent rest) (said_in x) (said_of rest) all (fits_in x w.0) (block_fits rest indent w.1 all)
block_fits (mirror.export at x rest) indent w all = export_fits indent (text_in x) (text_of indent rest) (said_in x) (said_of rest) all (fits_in x w.0) (block_fits rest indent w.1 all)
block_fits (mirror.choose at test body other rest) indent w all =
    let inner = deeper_blanks indent all in
    choose_fits indent (text_in test) (text_of (deeper indent) body) (else_part indent other (text_of (deeper indent) other)) (text_of indent rest) (said_in test) (said_of body) (else_said other (said_of other)) (said_of rest) all
    (fits_in test w.0) (block_fits body (deeper indent) w.1 inner) (else_fits indent (text_of (deeper indent) other) (said_of other) other all (block_fits other (deeper indent) w.2 inner)) (block_fits rest indent w.3 all)
block_fits (mirror.loop at test body rest) indent w all =
    loop_fits indent (text_in test) (text_of (deeper indent) body) (text_of indent rest) (said_in test) (said_of body) (said_of rest) all
    (fits_in test w.0) (block_fits body (deeper indent) w.1 (deeper_blanks indent all)) (block_fits rest indent w.2 all)

-- the canonical text of a script divides into its lexemes
pub script_cuts : (block : Block) → IsWritable block → Cuts (text_of [] block) (said_of block)
script_cuts block w = along (append-nil (text_of [] block)) (append-nil (said_of block)) (block_fits block [] w tt [] [] over)
