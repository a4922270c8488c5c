-- What can be written: what the tokens of a source say, and so every script that is spelled.
use Rattle.std.proofs.Common.{◌≡◌, ℕ, ◌+◌, ◌-◌, ◌<◌, ◌≤◌, pos, Bool, true, false, List, [], ◌∷◌, ◌++◌, length, drop, take, Option, Some, None, refl, sym, ap, subst, ◌∙◌, append_assoc, arith}
use Rattle.std.specs.Prelude.{bytes_eq, if◌then◌else◌}
use Rattle.std.specs.Option.{option_map, option_or}
use Rattle.std.specs.List.{AllByRecursion, slice_range, filter_map, cons_option}
use Rattle.std.specs.Str.Parse.{digits_value}
use Rattle.std.proofs.lemmas.List.{length-append, take_at, drop_at}
use Rattle.hp_word.specs.declared.place.Place.{Place}
use Rattle.hp_script.specs.declared.tree.UnOp.{UnOp}
use Rattle.hp_script.specs.declared.tree.UnOp.TheVariants as ops
use Rattle.hp_script.specs.declared.tree.BinOp.TheVariants as binaries
use Rattle.hp_script.specs.declared.tree.Expr.{Expr}
use Rattle.hp_script.specs.declared.tree.Arg.{Arg}
use Rattle.hp_script.specs.declared.tree.Stmt.{Stmt}
use Rattle.hp_script.specs.declared.token.Kind.{Kind}
use Rattle.hp_script.specs.declared.token.Kind.TheVariants as kinds
use Rattle.hp_script.specs.declared.token.Token.{Token}
use Rattle.hp_script.specs.declared.token.Sign.{Sign}
use Rattle.hp_script.specs.declared.token.Sign.TheVariants as marks
use Rattle.hp_script.specs.Lexemes.{plain_table, dotted_table, mark_table, entry, keyword_of, sign_of, Lexeme, Numeral, Identifier, Quoted, Word, Mark, Newline, Lexed, unquoted, lexeme_of, lexed_of, lexed}
use Rattle.hp_script.specs.Tokens.{Piece, Blank, Comment, Holds, IsPiece, IsTextOf, IsWide, token_of, Divides, Ends, GoesOn, HasTokens}
use Rattle.hp_script.specs.Grammar as grammar
use Rattle.hp_script.specs.Grammar.{unary_of, IsChain, IsOperand, IsTail, IsUnary, IsIndexed, IsPrimary, IsArgs, IsMoreArgs, IsArg, IsStmt, IsBlock, IsBody}
use Rattle.hp_script.specs.Trees.{named as name_of, unary_node}
use Rattle.hp_script.specs.Mirror as mirror
use Rattle.hp_script.specs.Mirror.{Tree, Args, Block, tree_of, args_of, block_of}
use Rattle.hp_script.proofs.MirrorLemmas.{tree_number, tree_truth, tree_text, tree_variable, tree_column, tree_field, tree_unary, tree_binary, tree_index, tree_call, args_none, args_plain, args_range, args_lambda, args_named, block_done, block_assign, block_print, block_export, block_choose, block_loop}
use Rattle.hp_script.proofs.Wording.{unary_sign}
use Rattle.hp_script.proofs.Rewording.{HasSigns, HaveSigns}
use Rattle.hp_script.proofs.RewordedBlocks.{BlockHasSigns}
use Rattle.hp_script.proofs.Spelling.{Sayable, IsSigned}

-- ---- signs

-- what an entry of a table has
entry_has : {A : Type 0} (P : A → Type 0) (table : List (List ℕ × A)) (text : List ℕ) (x : A) → AllByRecursion (λ y. P y.1) table → entry table text ≡ Some x → P x
entry_has P [] text x all e = absurd cc
entry_has P (y ∷ table) text x all e = by_test (bytes_eq text y.0) e (entry_has P table text x all.1)
  where
    by_test : (t : Bool) → (if t then Some y.1 else entry table text) ≡ Some x → (entry table text ≡ Some x → P x) → P x
    by_test true f others = let same : y.1 ≡ x = cc in subst P same all.0
    by_test false f others = others f

plain_signed : AllByRecursion (λ x. IsSigned x.1) plain_table
unfolding sign_of
plain_signed = (record { is_sign = (0, omega arith, refl); back = refl }, (record { is_sign = (1, omega arith, refl); back = refl }, (record { is_sign = (2, omega arith, refl); back = refl }, (record { is_sign = (3, omega arith, refl); back = refl }, (record { is_sign = (4, omega arith, refl); back = refl }, (record { is_sign = (5, omega arith, refl); back = refl }, (record { is_sign = (6, omega arith, refl); back = refl }, (record { is_sign = (7, omega arith, refl); back = refl }, (record { is_sign = (8, omega arith, refl); back = refl }, (record { is_sign = (9, omega arith, refl); back = refl }, (record { is_sign = (10, omega arith, refl); back = refl }, (record { is_sign = (11, omega arith, refl); back = refl }, tt))))))))))))

dotted_signed : AllByRecursion (λ x. IsSigned x.1) dotted_table
unfolding sign_of
dotted_signed = (record { is_sign = (12, omega arith, refl); back = refl }, (record { is_sign = (13, omega arith, refl); back = refl }, (record { is_sign = (14, omega arith, refl); back = refl }, (record { is_sign = (15, omega arith, refl); back = refl }, (record { is_sign = (16, omega arith, refl); back = refl }, (record { is_sign = (17, omega arith, refl); back = refl }, (record { is_sign = (18, omega arith, refl); back = refl }, (record { is_sign = (19, omega arith, refl); back = refl }, (record { is_sign = (20, omega arith, refl); back = refl }, (record { is_sign = (21, omega arith, refl); back = refl }, (record { is_sign = (22, omega arith, refl); back = refl }, (record { is_sign = (23, omega arith, refl); back = refl }, tt))))))))))))

pub mark_signed : AllByRecursion (λ x. IsSigned x.1) mark_table
unfolding sign_of
mark_signed = (record { is_sign = (24, omega arith, refl); back = refl }, (record { is_sign = (25, omega arith, refl); back = refl }, (record { is_sign = (26, omega arith, refl); back = refl }, (record { is_sign = (27, omega arith, refl); back = refl }, (record { is_sign = (28, omega arith, refl); back = refl }, (record { is_sign = (29, omega arith, refl); back = refl }, (record { is_sign = (30, omega arith, refl); back = refl }, (record { is_sign = (31, omega arith, refl); back = refl }, (record { is_sign = (32, omega arith, refl); back = refl }, tt)))))))))

pub open_signed : IsSigned marks.Open
unfolding sign_of
open_signed = record { is_sign = (26, omega arith, refl); back = refl }

pub close_signed : IsSigned marks.Close
unfolding sign_of
close_signed = record { is_sign = (27, omega arith, refl); back = refl }

or_has : {A : Type 0} (P : A → Type 0) (a b : Option A) (x : A) → ((y : A) → a ≡ Some y → P y) → ((y : A) → b ≡ Some y → P y) → option_or a b ≡ Some x → P x
or_has P (Some y) b x f g e = f x e
or_has P None b x f g e = g x e

-- what a sign's text says is a sign
signed : (text : List ℕ) (sign : Sign) → sign_of text ≡ Some sign → IsSigned sign
unfolding sign_of
signed text sign e =
    or_has IsSigned (entry plain_table text) (option_or (entry dotted_table text) (entry mark_table text)) sign
    (λ s f. entry_has IsSigned plain_table text s plain_signed f)
    (λ s f. or_has IsSigned (entry dotted_table text) (entry mark_table text) s (λ t g. entry_has IsSigned dotted_table text t dotted_signed g) (λ t g. entry_has IsSigned mark_table text t mark_signed g) f)
    e

-- ---- the tokens of a source

map_some : {A B : Type 0} (f : A → B) (o : Option A) (y : B) → option_map f o ≡ Some y → (x : A) × (o ≡ Some x) × (f x ≡ y)
map_some f (Some x) y e = (x, refl, cc)
map_some f None y e = absurd cc

pub unquoted_again : (body : List ℕ) → unquoted (34 ∷ body ++ 34 ∷ []) ≡ body
unquoted_again body =
    let many = length-append body (34 ∷ []) in
    let size : (length (34 ∷ body ++ 34 ∷ []) - 1) - 1 ≡ length body = omega arith in
    ap (λ (n : ℕ). take n (body ++ 34 ∷ [])) size ∙ take_at body (34 ∷ []) (length body) refl

-- what a token of a kind and a text says
sayable_of : (kind : Kind) (text : List ℕ) (what : Lexeme) → IsTextOf kind text → ¬ IsWide (Holds kind) text → lexeme_of kind text ≡ Some what → Sayable what
sayable_of kinds.Number text what h narrow e =
    let same : Numeral (pos (digits_value 10 text)) ≡ what = cc in
    subst Sayable same (digits_value 10 text, refl, not_above narrow)
  where
    not_above : (9223372036854775807 < digits_value 10 text → ⊥) → digits_value 10 text ≤ 9223372036854775807
    not_above f = omega (arith, f)
sayable_of kinds.Name text what h narrow e =
    let same : Identifier text ≡ what = cc in
    subst Sayable same h
sayable_of kinds.Text text what h narrow e =
    let body : unquoted text ≡ h.body = ap unquoted h.parts ∙ unquoted_again h.body in
    let same : Quoted (unquoted text) ≡ what = cc in
    subst Sayable (ap Quoted (sym body) ∙ same) (h.some, h.short, h.plain)
sayable_of kinds.Word text what h narrow e =
    let m = map_some Word (keyword_of text) what e in
    subst Sayable m.2 tt
sayable_of kinds.Sign text what h narrow e =
    let m = map_some Mark (sign_of text) what e in
    subst Sayable m.2 (signed text m.0 m.1)
sayable_of kinds.Line text what h narrow e =
    let same : Newline ≡ what = cc in
    subst Sayable same tt
sayable_of kinds.Eof text what h narrow e = absurd h

-- all tokens can be said
abbrev pub AllSay : List Lexed → Type 0
AllSay a = AllByRecursion (λ token. Sayable token.what) a

pub text_between : (source before front rest : List ℕ) (from : ℕ) → source ≡ before ++ (front ++ rest) → from ≡ length before → slice_range source from (from + length front) ≡ front
text_between source before front rest from e n =
    let dropped : drop from source ≡ front ++ rest = ap (drop from) e ∙ drop_at before (front ++ rest) from (sym n) in
    let size : (from + length front) - from ≡ length front = omega arith in
    ap (λ (k : ℕ). take k (drop from source)) size ∙ ap (take (length front)) dropped ∙ take_at front rest (length front) refl

-- a token and those behind it
say_one : (source : List ℕ) (kind : Kind) (at : Place) (from until : ℕ) (front : List ℕ) (tokens : List Token) → slice_range source from until ≡ front → IsTextOf kind front → ¬ IsWide (Holds kind) front
    → AllSay (filter_map (lexed_of source) tokens) → AllSay (filter_map (lexed_of source) (record { kind = kind; at = at; from = from; until = until } ∷ tokens))
say_one source kind at from until front tokens e h narrow rest = rw e (by_lexeme (lexeme_of kind front) refl)
  where
    by_lexeme : (o : Option Lexeme) → lexeme_of kind front ≡ o → AllSay (cons_option (option_map (λ what. record { what = what; at = at }) o) (filter_map (lexed_of source) tokens))
    by_lexeme (Some what) f = (sayable_of kind front what h narrow f, rest)
    by_lexeme None f = rest

say_piece : (source : List ℕ) (piece : Piece) (at : Place) (from until : ℕ) (front : List ℕ) (tokens : List Token) → slice_range source from until ≡ front → IsPiece piece front → ¬ IsWide piece front
    → AllSay (filter_map (lexed_of source) tokens) → AllSay (filter_map (lexed_of source) (token_of piece at from until ++ tokens))
say_piece source Blank at from until front tokens e h narrow rest = rest
say_piece source Comment at from until front tokens e h narrow rest = rest
say_piece source (Holds kind) at from until front tokens e h narrow rest = say_one source kind at from until front tokens e h narrow rest

all_say : (source before : List ℕ) {from : ℕ} {at : Place} {bytes : List ℕ} {tokens : List Token} → Divides from at bytes tokens → source ≡ before ++ bytes → from ≡ length before
    → AllSay (filter_map (lexed_of source) tokens)
all_say source before (Ends from at) e n = tt
all_say source before (GoesOn from at bytes piece front rest tokens first narrow more) e n =
    let along : source ≡ before ++ (front ++ rest) = e ∙ ap (λ (t : List ℕ). before ++ t) first.parts in
    let behind : source ≡ (before ++ front) ++ rest = along ∙ sym (append_assoc before front rest) in
    let size = length-append before front in
    say_piece source piece at from (from + length front) front tokens (text_between source before front rest from along n) first.is_piece narrow
    (all_say source (before ++ front) more behind (omega arith))

pub tokens_say : (bytes : List ℕ) (tokens : List Token) → HasTokens bytes tokens → AllSay (lexed bytes tokens)
unfolding lexed
tokens_say bytes tokens h = all_say bytes [] h.divided refl refl

-- ---- what can be written

abbrev mutual
  pub Writable : Tree → Type 0
  Writable (mirror.number h value) = Sayable (Numeral value)
  Writable (mirror.truth h holds) = Unit {0}
  Writable (mirror.text h bytes) = Sayable (Quoted bytes)
  Writable (mirror.variable h name) = Sayable (Identifier name)
  Writable (mirror.column h name) = Sayable (Identifier name)
  Writable (mirror.field h name of_it) = Sayable (Identifier name) × Sayable (Identifier of_it)
  Writable (mirror.unary h op dotted x) = (unary_of (unary_sign op dotted) ≡ Some (op, dotted)) × IsSigned (unary_sign op dotted) × Writable x
  Writable (mirror.binary h op dotted x y) = IsSigned (marks.Operator op dotted) × Writable x × Writable y
  Writable (mirror.index h x i) = Writable x × Writable i
  Writable (mirror.call h function dotted xs) = Sayable (Identifier function) × AreWritable xs

  pub AreWritable : Args → Type 0
  AreWritable mirror.none = Unit {0}
  AreWritable (mirror.plain x xs) = Writable x × AreWritable xs
  AreWritable (mirror.range x y xs) = Writable x × Writable y × AreWritable xs
  AreWritable (mirror.lambda parameter x xs) = Sayable (Identifier parameter) × Writable x × AreWritable xs
  AreWritable (mirror.named name at x xs) = Sayable (Identifier name) × Writable x × AreWritable xs

abbrev pub IsWritable : Block → Type 0
IsWritable mirror.done = Unit {0}
IsWritable (mirror.assign at name x rest) = Sayable (Identifier name) × Writable x × IsWritable rest
IsWritable (mirror.print at x rest) = Writable x × IsWritable rest
IsWritable (mirror.export at x rest) = Writable x × IsWritable rest
IsWritable (mirror.choose at test body other rest) = Writable test × IsWritable body × IsWritable other × IsWritable rest
IsWritable (mirror.loop at test body rest) = Writable test × IsWritable body × IsWritable rest

mutual
  pub has_signs : (x : Tree) → Writable x → HasSigns x
  has_signs (mirror.number h value) w = tt
  has_signs (mirror.truth h holds) w = tt
  has_signs (mirror.text h bytes) w = tt
  has_signs (mirror.variable h name) w = tt
  has_signs (mirror.column h name) w = tt
  has_signs (mirror.field h name of_it) w = tt
  has_signs (mirror.unary h op dotted x) w = (w.0, has_signs x w.2)
  has_signs (mirror.binary h op dotted x y) w = (has_signs x w.1, has_signs y w.2)
  has_signs (mirror.index h x i) w = (has_signs x w.0, has_signs i w.1)
  has_signs (mirror.call h function dotted xs) w = have_signs xs w.1

  have_signs : (xs : Args) → AreWritable xs → HaveSigns xs
  have_signs mirror.none w = tt
  have_signs (mirror.plain x xs) w = (has_signs x w.0, have_signs xs w.1)
  have_signs (mirror.range x y xs) w = (has_signs x w.0, has_signs y w.1, have_signs xs w.2)
  have_signs (mirror.lambda parameter x xs) w = (has_signs x w.1, have_signs xs w.2)
  have_signs (mirror.named name at x xs) w = (has_signs x w.1, have_signs xs w.2)

pub block_has_signs : (block : Block) → IsWritable block → BlockHasSigns block
block_has_signs mirror.done w = tt
block_has_signs (mirror.assign at name x rest) w = (has_signs x w.1, block_has_signs rest w.2)
block_has_signs (mirror.print at x rest) w = (has_signs x w.0, block_has_signs rest w.1)
block_has_signs (mirror.export at x rest) w = (has_signs x w.0, block_has_signs rest w.1)
block_has_signs (mirror.choose at test body other rest) w = (has_signs test w.0, block_has_signs body w.1, block_has_signs other w.2, block_has_signs rest w.3)
block_has_signs (mirror.loop at test body rest) w = (has_signs test w.0, block_has_signs body w.1, block_has_signs rest w.2)

-- ---- what is derived from tokens of a source can be written

some_same : {A : Type 0} (x y : A) → Some x ≡ Some y → x ≡ y
some_same x y e = cc

pair_back : (made op : UnOp) (d dotted : Bool) → ◌≡◌ {A = Option (UnOp × Bool)} (Some (made, d)) (Some (op, dotted)) → unary_sign op dotted ≡ unary_sign made d
pair_back made op d dotted e = ap (λ (p : UnOp × Bool). unary_sign p.0 p.1) (sym (some_same (made, d) (op, dotted) e))

unary_back : (sign : Sign) (op : UnOp) (dotted : Bool) → unary_of sign ≡ Some (op, dotted) → unary_sign op dotted ≡ sign
unary_back (marks.Operator binaries.Sub false) op dotted e = pair_back ops.Neg op false dotted e
unary_back (marks.Not d) op dotted e = pair_back ops.Not op d dotted e
unary_back _ op dotted e = absurd cc

unary_written : (k : ℕ) (at : Place) (sign : Sign) (op : UnOp) (dotted : Bool) (x : Expr) → unary_of sign ≡ Some (op, dotted) → IsSigned sign → Writable (tree_of x) → Writable (tree_of (unary_node k at op dotted x))
unary_written k at sign op dotted x e h w =
    let same = unary_back sign op dotted e in
    rw (tree_unary k at op dotted x) (ap unary_of same ∙ e, subst IsSigned (sym same) h, w)

mutual
  chain_written : {level : _} {a : List Lexed} {k : ℕ} {x : Expr} {b : List Lexed} {l : ℕ} → IsChain level a k x b l → AllSay a → Writable (tree_of x) × AllSay b
  chain_written (grammar.chain first tail) all =
      let f = operand_written first all in
      tail_written tail f.0 f.1

  operand_written : {level : _} {a : List Lexed} {k : ℕ} {x : Expr} {b : List Lexed} {l : ℕ} → IsOperand level a k x b l → AllSay a → Writable (tree_of x) × AllSay b
  operand_written (grammar.operand_chain next h) all = chain_written h all
  operand_written (grammar.operand_unary last h) all = prefix_written h all

  tail_written : {level : _} {x : Expr} {a : List Lexed} {k : ℕ} {y : Expr} {b : List Lexed} {l : ℕ} → IsTail level x a k y b l → Writable (tree_of x) → AllSay a → Writable (tree_of y) × AllSay b
  tail_written grammar.tail_ends w all = (w, all)
  tail_written (grammar.tail_more {x = x} {y = y} {k = k} {op = op} {dotted = dotted} {at = at} leveled chains operand tail) w all =
      let f = operand_written operand all.1 in
      tail_written tail (rw (tree_binary k at op dotted x y) (all.0, w, f.0)) f.1
  tail_written (grammar.tail_comparison {x = x} {y = y} {k = k} {op = op} {dotted = dotted} {at = at} leveled operand) w all =
      let f = operand_written operand all.1 in
      (rw (tree_binary k at op dotted x y) (all.0, w, f.0), f.1)

  prefix_written : {a : List Lexed} {k : ℕ} {x : Expr} {b : List Lexed} {l : ℕ} → IsUnary a k x b l → AllSay a → Writable (tree_of x) × AllSay b
  prefix_written (grammar.unary {k = k} {x = x} {sign = sign} {op = op} {dotted = dotted} {at = at} is_unary h) all =
      let f = prefix_written h all.1 in
      (unary_written k at sign op dotted x is_unary all.0 f.0, f.1)
  prefix_written (grammar.postfix primary indices) all =
      let f = primary_written primary all in
      indexed_written indices f.0 f.1

  indexed_written : {x : Expr} {a : List Lexed} {k : ℕ} {y : Expr} {b : List Lexed} {l : ℕ} → IsIndexed x a k y b l → Writable (tree_of x) → AllSay a → Writable (tree_of y) × AllSay b
  indexed_written grammar.indexed_ends w all = (w, all)
  indexed_written (grammar.indexed_more {x = x} {y = y} {k = k} {at = at} index more) w all =
      let f = chain_written index all.1 in
      indexed_written more (rw (tree_index k at x y) (w, f.0)) f.1.1

  primary_written : {a : List Lexed} {k : ℕ} {x : Expr} {b : List Lexed} {l : ℕ} → IsPrimary a k x b l → AllSay a → Writable (tree_of x) × AllSay b
  primary_written (grammar.number {value = value} {at = at} {k = k}) all = (rw (tree_number k at value) all.0, all.1)
  primary_written (grammar.yes_literal {at = at} {k = k}) all = (rw (tree_truth k at true) tt, all.1)
  primary_written (grammar.no_literal {at = at} {k = k}) all = (rw (tree_truth k at false) tt, all.1)
  primary_written (grammar.text {bytes = bytes} {at = at} {k = k}) all = (rw (tree_text k at bytes) all.0, all.1)
  primary_written (grammar.column {bytes = bytes} {at = at} {k = k}) all = (rw (tree_column k at bytes) all.1.0, all.1.1)
  primary_written (grammar.bracketed h) all =
      let f = chain_written h all.1 in
      (f.0, f.1.1)
  primary_written (grammar.variable {bytes = bytes} {at = at} {k = k}) all = (rw (tree_variable k at bytes) all.0, all.1)
  primary_written (grammar.field {bytes = bytes} {column = column} {at = at} {k = k}) all = (rw (tree_field k at bytes column) (all.0, all.1.1.0), all.1.1.1)
  primary_written (grammar.call {bytes = bytes} {at = at} {args = args} {k = k} h) all =
      let f = args_written h all.1.1 in
      (rw (tree_call k at bytes false args) (all.0, f.0), f.1)
  primary_written (grammar.dotted_call {bytes = bytes} {at = at} {args = args} {k = k} h) all =
      let f = args_written h all.1.1.1 in
      (rw (tree_call k at bytes true args) (all.0, f.0), f.1)

  args_written : {a : List Lexed} {k : ℕ} {xs : List Arg} {b : List Lexed} {l : ℕ} → IsArgs a k xs b l → AllSay a → AreWritable (args_of xs) × AllSay b
  args_written grammar.args_none all = (rw args_none tt, all.1)
  args_written (grammar.args_some {xs = xs} {c = c} first more) all = arg_written first all xs c (λ rest. more_written more rest)

  more_written : {a : List Lexed} {k : ℕ} {xs : List Arg} {b : List Lexed} {l : ℕ} → IsMoreArgs a k xs b l → AllSay a → AreWritable (args_of xs) × AllSay b
  more_written grammar.more_none all = (rw args_none tt, all.1)
  more_written (grammar.more_some {xs = xs} {c = c} first more) all = arg_written first all.1 xs c (λ rest. more_written more rest)

  -- an argument with those behind it
  arg_written : {a : List Lexed} {k : ℕ} {x : Arg} {b : List Lexed} {l : ℕ} → IsArg a k x b l → AllSay a → (xs : List Arg) (c : List Lexed) → (AllSay b → AreWritable (args_of xs) × AllSay c)
      → AreWritable (args_of (x ∷ xs)) × AllSay c
  arg_written (grammar.plain {x = x} h) all xs c others =
      let f = chain_written h all in
      let o = others f.1 in
      (rw (args_plain x xs) (f.0, o.0), o.1)
  arg_written (grammar.range {x = x} {y = y} h g) all xs c others =
      let f = chain_written h all in
      let t = chain_written g f.1.1 in
      let o = others t.1 in
      (rw (args_range x y xs) (f.0, t.0, o.0), o.1)
  arg_written (grammar.lambda {bytes = bytes} {x = x} h) all xs c others =
      let f = chain_written h all.1.1 in
      let o = others f.1 in
      (rw (args_lambda (name_of bytes) x xs) (all.0, f.0, o.0), o.1)
  arg_written (grammar.given {bytes = bytes} {x = x} {at = at} h) all xs c others =
      let f = chain_written h all.1.1 in
      let o = others f.1 in
      (rw (args_named (name_of bytes) at x xs) (all.0, f.0, o.0), o.1)

mutual
  -- a statement with those behind it
  stmt_written : {a : List Lexed} {k : ℕ} {s : Stmt} {b : List Lexed} {l : ℕ} → IsStmt a k s b l → AllSay a → (rest : List Stmt) (c : List Lexed) → (AllSay b → IsWritable (block_of rest) × AllSay c)
      → IsWritable (block_of (s ∷ rest)) × AllSay c
  stmt_written (grammar.assign {bytes = bytes} {x = x} {at = at} h) all rest c others =
      let f = chain_written h all.1.1 in
      let o = others f.1 in
      (rw (block_assign at (name_of bytes) x rest) (all.0, f.0, o.0), o.1)
  stmt_written (grammar.print {x = x} {at = at} h) all rest c others =
      let f = chain_written h all.1.1 in
      let o = others f.1.1 in
      (rw (block_print at x rest) (f.0, o.0), o.1)
  stmt_written (grammar.export {x = x} {at = at} h) all rest c others =
      let f = chain_written h all.1.1 in
      let o = others f.1.1 in
      (rw (block_export at x rest) (f.0, o.0), o.1)
  stmt_written (grammar.if_alone {test = test} {body = body} {at = at} h block) all rest c others =
      let f = chain_written h all.1 in
      let g = block_written block f.1.1 in
      let o = others g.1.1 in
      (rw (block_choose at test body [] rest, block_done) (f.0, g.0, tt, o.0), o.1)
  stmt_written (grammar.if_else {test = test} {body = body} {other = other} {at = at} h block second) all rest c others =
      let f = chain_written h all.1 in
      let g = block_written block f.1.1 in
      let t = block_written second g.1.1.1 in
      let o = others t.1.1 in
      (rw (block_choose at test body other rest) (f.0, g.0, t.0, o.0), o.1)
  stmt_written (grammar.while {test = test} {body = body} {at = at} h block) all rest c others =
      let f = chain_written h all.1 in
      let g = block_written block f.1.1 in
      let o = others g.1.1 in
      (rw (block_loop at test body rest) (f.0, g.0, o.0), o.1)

  block_written : {a : List Lexed} {k : ℕ} {body : List Stmt} {b : List Lexed} {l : ℕ} → IsBlock a k body b l → AllSay a → IsWritable (block_of body) × AllSay b
  block_written grammar.block_ends all = (rw block_done tt, all)
  block_written (grammar.block_line h) all = block_written h all.1
  block_written (grammar.block_more {stmts = stmts} {c = c} first more) all = stmt_written first all stmts c (λ rest. block_written more rest.1)

body_written : {a : List Lexed} {k : ℕ} {body : List Stmt} {l : ℕ} → IsBody a k body l → AllSay a → IsWritable (block_of body) × AllSay []
body_written grammar.body_ends all = (rw block_done tt, tt)
body_written (grammar.body_line h) all = body_written h all.1
body_written (grammar.body_last h) all = stmt_written h all [] [] (λ rest. (rw block_done tt, tt))
body_written (grammar.body_more {stmts = stmts} first more) all = stmt_written first all stmts [] (λ rest. body_written more rest.1)

-- a script that the tokens of a source spell can be written
pub script_written : (source : List ℕ) (tokens : List Token) (body : List Stmt) (nodes : ℕ) → HasTokens source tokens → IsBody (lexed source tokens) 0 body nodes → IsWritable (block_of body)
script_written source tokens body nodes h spelled = (body_written spelled (tokens_say source tokens h)).0
