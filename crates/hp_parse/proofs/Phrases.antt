-- What each phrase of an expression does at its next token.
use Rattle.std.proofs.Common.{◌≡◌, ℕ, ℤ, zero, suc, ◌+◌, ◌≤◌, ◌<◌, Bool, true, false, List, [], ◌∷◌, ◌++◌, drop, Option, Some, None, refl, sym, ap, subst, ◌∙◌, arith, IsTrue, if◌then◌else◌}
use Rattle.std.specs.Prelude.{◌≢◌, ◌↔◌, IsSome, Result, Ok, Err, IfOk, IfErr}
use Rattle.std.specs.Option.{option_map}
use Rattle.std.specs.Result.{IsErr, IsErrAnd}
use Rattle.hp_word.specs.declared.place.Place.{Place}
use Rattle.hp_script.specs.declared.tree.UnOp.{UnOp}
use Rattle.hp_script.specs.declared.tree.BinOp.{BinOp}
use Rattle.hp_script.specs.declared.tree.Level.{Level}
use Rattle.hp_script.specs.declared.tree.Level.TheVariants.{Disjunction, Conjunction, Comparison, Sum, Product}
use Rattle.hp_script.specs.declared.tree.Expr.{Expr}
use Rattle.hp_script.specs.declared.tree.Arg.{Arg}
use Rattle.hp_script.specs.declared.tree.Arg.TheViews.{Plain, Range, Lambda, Named}
use Rattle.hp_script.specs.declared.token.Keyword.{Keyword}
use Rattle.hp_script.specs.declared.token.Keyword.TheVariants as keywords
use Rattle.hp_script.specs.declared.token.Sign.{Sign}
use Rattle.hp_script.specs.declared.token.Sign.TheVariants as signs
use Rattle.hp_script.specs.declared.token.Lexeme.{Lexeme as SeenLexeme}
use Rattle.hp_script.specs.declared.token.Lexeme.TheVariants as seen_as
use Rattle.hp_script.specs.Lexemes.{Lexeme, Numeral, Identifier, Quoted, Word, Mark, Newline, seen}
use Rattle.hp_script.specs.Grammar.{level_of, unary_of}
use Rattle.hp_script.specs.Depth.{deepest}
use Rattle.hp_script.specs.Trees.{named, number_node, truth_node, text_node, name_node, column_node, field_node, unary_node, binary_node, index_node, call_node}
use Rattle.hp_parse.specs.declared.error.ParseError.{ParseError}
use Rattle.hp_parse.specs.Machine.{Goal, Value, expr, arg, args, want, make, Phrase, Chain, Tail, Unary, Indexed, Primary, ColumnName, AfterName, AfterDot, Arguments, MoreArguments, Argument, AfterArgumentName, AfterArgument, Close, CloseIndex, MakeBinary, MakeUnary, MakeIndex, MakeCall, MakePlain, MakeRange, MakeLambda, MakeNamed, AppendArgument, Move, Takes, Deepens, Passes, Refuses, enter, operand, rest_of_chain, level_eq, next_argument}
use Rattle.hp_parse.specs.Readers.{Reader, next, second, here, behind, behind_at, numbered, restored, sign_in, word_in, name_in, operator_in, unary_in, syntax_at, too_deep_at, Brackets, Reaches, Stops}
use Rattle.hp_parse.proofs.Steps.{stays, reaches_then, stops_after, beside, over, stops_beside, makes, takes, deepens, stops_deep, passes, refuses}

-- ---- what a token is

pub sign_next : (o : Option Lexeme) (sign : Sign) → sign_in o ≡ Some sign → o ≡ Some (Mark sign)
sign_next (Some (Mark found)) sign e = let same : found ≡ sign = cc in ap (λ (s : Sign). Some (Mark s)) same
sign_next _ sign e = absurd cc

pub word_next : (o : Option Lexeme) (word : Keyword) → word_in o ≡ Some word → o ≡ Some (Word word)
word_next (Some (Word found)) word e = let same : found ≡ word = cc in ap (λ (w : Keyword). Some (Word w)) same
word_next _ word e = absurd cc

-- what is next, where the code has seen it
pub peek_at : {n : Option Lexeme} {result : Option SeenLexeme} {x y : SeenLexeme} → option_map seen result ≡ n → result ≡ Some x → x ≡ y → n ≡ Some (seen y)
peek_at {n} {result} {x} {y} e is same = sym e ∙ ap (option_map seen) is ∙ ap (λ (z : SeenLexeme). Some (seen z)) same

pub peek_none : {n : Option Lexeme} {result : Option SeenLexeme} → option_map seen result ≡ n → result ≡ None → None ≡ n
peek_none {n} {result} e is = sym (sym e ∙ ap (option_map seen) is)

pub peek_word : {n : Option Lexeme} {result : Option SeenLexeme} {x : SeenLexeme} {word found : Keyword} → option_map seen result ≡ n → result ≡ Some x → x ≡ seen_as.Word found → found ≡ word
    → n ≡ Some (Word word)
peek_word {n} {result} {x} {word} {found} e is same w = peek_at e is (same ∙ ap seen_as.Word w)

pub peek_mark : {n : Option Lexeme} {result : Option SeenLexeme} {x : SeenLexeme} {sign found : Sign} → option_map seen result ≡ n → result ≡ Some x → x ≡ seen_as.Mark found → found ≡ sign
    → n ≡ Some (Mark sign)
peek_mark {n} {result} {x} {sign} {found} e is same w = peek_at e is (same ∙ ap seen_as.Mark w)

is_if : {A : Type 0} (b : Bool) (y x : A) → (if b then Some y else None) ≡ Some x → (y ≡ x) × (b ≡ true)
is_if true y x e = (cc, refl)
is_if false y x e = absurd cc

is_not_if : {A : Type 0} (b : Bool) (y : A) → (if b then Some y else None) ≡ None → b ≡ false
is_not_if true y e = absurd cc
is_not_if false y e = refl

pub operator_next : (level : Level) (o : Option Lexeme) (x : BinOp × Bool) → operator_in level (sign_in o) ≡ Some x
    → (o ≡ Some (Mark (signs.Operator x.0 x.1))) × (level_eq (level_of x.0) level ≡ true)
operator_next level (Some (Mark (signs.Operator op dotted))) x e =
    let y : BinOp × Bool = (op, dotted) in
    let found = is_if (level_eq (level_of op) level) y x e in
    (ap (λ (z : BinOp × Bool). Some (Mark (signs.Operator z.0 z.1))) found.0, ap (λ (z : BinOp × Bool). level_eq (level_of z.0) level) (sym found.0) ∙ found.1)
operator_next level _ x e = absurd cc

-- a test that is true, and one that is not
pub holds : {P : Type 0} (b : Bool) → IsTrue b ↔ P → b ≡ true → P
holds b both e = both.0 e

pub fails : {P : Type 0} (b : Bool) → IsTrue b ↔ P → b ≡ false → ¬ P
fails b both e p = let yes_it : IsTrue b = both.1 p in cc

-- a token that was taken, and one that was not
pub took : {P : Type 0} (r : Reader) {new : Reader} (b : Bool) → IsTrue b ↔ P → new ≡ (if b then behind r else r) → b ≡ true → P × (new ≡ behind r)
took r true both e same = (both.0 refl, e)
took r false both e same = absurd cc

pub left_alone : {P : Type 0} (r : Reader) {new : Reader} (b : Bool) → IsTrue b ↔ P → new ≡ (if b then behind r else r) → b ≡ false → (¬ P) × (new ≡ r)
left_alone r true both e same = absurd cc
left_alone r false both e same = (fails false both refl, e)

pub still_no : {r new : Reader} {sign : Sign} → (sign_in (next r) ≢ Some sign) × (new ≡ r) → sign_in (next new) ≢ Some sign
still_no {r} {new} {sign} e = subst (λ (m : Reader). sign_in (next m) ≢ Some sign) (sym e.1) e.0

pub still_no_word : {r new : Reader} {word : Keyword} → (word_in (next r) ≢ Some word) × (new ≡ r) → word_in (next new) ≢ Some word
still_no_word {r} {new} {word} e = subst (λ (m : Reader). word_in (next m) ≢ Some word) (sym e.1) e.0

pub still_not : {r new : Reader} {what : Lexeme} → (next r ≢ Some what) × (new ≡ r) → next new ≢ Some what
still_not {r} {new} {what} e = subst (λ (m : Reader). next m ≢ Some what) (sym e.1) e.0

pub still_some : {r new : Reader} → new ≡ r → next r ≢ None → next new ≢ None
still_some {r} {new} same some = subst (λ (m : Reader). next m ≢ None) (sym same) some

-- ---- a token taken

-- the reader behind a node's token, and the node's number and place
pub node_taken : (r : Reader) {mid new : Reader} {d : ℕ} → mid ≡ restored r d → new ≡ numbered mid → new ≡ behind_at r (suc r.number) d
node_taken r {mid} {new} {d} e f = f ∙ ap numbered e

pub node_number : (r : Reader) {mid : Reader} {d id : ℕ} → mid ≡ restored r d → id ≡ mid.number → id ≡ r.number
node_number r {mid} {d} {id} e f = f ∙ ap (λ (m : Reader). m.number) e

pub node_place : (r : Reader) {mid : Reader} {d : ℕ} {at : Place} → mid ≡ restored r d → at ≡ here mid → at ≡ here r
node_place r {mid} {d} {at} e f = f ∙ ap here e

-- a run up to an equal reader
pub reaches_to : {old new mid : Reader} {goals left : List Goal} {given made : List Value} → new ≡ mid → Reaches old goals given mid left made → Reaches old goals given new left made
reaches_to {old} {new} {mid} {goals} {left} {given} {made} e f = subst (λ (r : Reader). Reaches old goals given r left made) (sym e) f

pub reaches_value : {old new : Reader} {goals left : List Goal} {given made : List Value} {x y : Expr} → x ≡ y
    → Reaches old goals given new left (expr y ∷ made) → Reaches old goals given new left (expr x ∷ made)
reaches_value {old} {new} {goals} {left} {given} {made} {x} {y} e f = subst (λ (z : Expr). Reaches old goals given new left (expr z ∷ made)) (sym e) f

pub reaches_args : {old new : Reader} {goals left : List Goal} {given made : List Value} {xs ys : List Arg} → xs ≡ ys
    → Reaches old goals given new left (args ys ∷ made) → Reaches old goals given new left (args xs ∷ made)
reaches_args {old} {new} {goals} {left} {given} {made} {xs} {ys} e f = subst (λ (zs : List Arg). Reaches old goals given new left (args zs ∷ made)) (sym e) f

-- ---- chains

pub chain_begins : (r : Reader) (level : Level) → Reaches r (want (Chain level) ∷ []) [] r (operand level ∷ want (Tail level) ∷ []) []
unfolding enter
chain_begins r level = passes r (Chain level) (operand level ∷ want (Tail level) ∷ []) [] refl

tail_move : (level : Level) (op : BinOp) (dotted : Bool) (at : Place) (k d : ℕ) → level_eq (level_of op) level ≡ true
    → enter (Tail level) (Some (Mark (signs.Operator op dotted))) at k d
    ≡ Deepens (suc k) (suc d) (operand level ∷ make (MakeBinary k at op dotted) ∷ rest_of_chain level) []
unfolding enter
tail_move level op dotted at k d e = rw e refl

tail_passes : (level : Level) (o : Option Lexeme) (at : Place) (k d : ℕ) → operator_in level (sign_in o) ≡ None → enter (Tail level) o at k d ≡ Passes k [] []
unfolding enter
tail_passes level (Some (Mark (signs.Operator op dotted))) at k d e =
    let y : BinOp × Bool = (op, dotted) in
    let no_it : level_eq (level_of op) level ≡ false = is_not_if (level_eq (level_of op) level) y e in rw no_it refl
tail_passes level _ at k d e = refl

pub tail_takes : {r mid new : Reader} {level : Level} {x : BinOp × Bool} → operator_in level (sign_in (next r)) ≡ Some x
    → (mid ≡ restored r (suc r.depth)) × (suc r.depth ≤ deepest) → new ≡ numbered mid
    → Reaches r (want (Tail level) ∷ []) [] new (operand level ∷ make (MakeBinary r.number (here r) x.0 x.1) ∷ rest_of_chain level) []
tail_takes {r} {mid} {new} {level} {x} e deeper f =
    let found = operator_next level (next r) x e in
    reaches_to (node_taken r deeper.0 f)
    (deepens r (Tail level) (Mark (signs.Operator x.0 x.1)) (suc r.number) (suc r.depth) (operand level ∷ make (MakeBinary r.number (here r) x.0 x.1) ∷ rest_of_chain level) []
    found.0 (tail_move level x.0 x.1 (here r) r.number r.depth found.1) deeper.1)

pub tail_too_deep : {r : Reader} {level : Level} {x : BinOp × Bool} {error : ParseError} → operator_in level (sign_in (next r)) ≡ Some x
    → (error ≡ too_deep_at r) × (deepest < suc r.depth) → Stops r (want (Tail level) ∷ []) [] error
tail_too_deep {r} {level} {x} {error} e deep =
    let found = operator_next level (next r) x e in
    stops_deep r (Tail level) (Mark (signs.Operator x.0 x.1)) (suc r.number) (suc r.depth) (operand level ∷ make (MakeBinary r.number (here r) x.0 x.1) ∷ rest_of_chain level) [] error
    found.0 (tail_move level x.0 x.1 (here r) r.number r.depth found.1) deep

pub tail_ends : {r : Reader} {level : Level} → operator_in level (sign_in (next r)) ≡ None → Reaches r (want (Tail level) ∷ []) [] r [] []
tail_ends {r} {level} e = passes r (Tail level) [] [] (tail_passes level (next r) (here r) r.number r.depth e)

-- an operator and its right operand behind the left one
pub tail_more : {r mid new done : Reader} {level : Level} {op : BinOp} {dotted : Bool} {id : ℕ} {at : Place} {left right x : Expr}
    → operator_in level (sign_in (next r)) ≡ Some (op, dotted) → (mid ≡ restored r (suc r.depth)) × (suc r.depth ≤ deepest)
    → id ≡ mid.number → at ≡ here mid → new ≡ numbered mid
    → Reaches new (operand level ∷ []) [] done [] (expr right ∷ []) → x ≡ binary_node id at op dotted left right
    → Reaches r (want (Tail level) ∷ []) (expr left ∷ []) done (rest_of_chain level) (expr x ∷ [])
tail_more {r} {mid} {new} {done} {level} {op} {dotted} {id} {at} {left} {right} {x} e deeper number place taken read is =
    let same : x ≡ binary_node r.number (here r) op dotted left right =
    is ∙ rw (node_number r deeper.0 number, node_place r deeper.0 place) refl in
    reaches_value same
    (reaches_then (over (expr left ∷ []) (tail_takes e deeper taken))
    (reaches_then (beside (make (MakeBinary r.number (here r) op dotted) ∷ rest_of_chain level) (expr left ∷ []) read)
    (beside (rest_of_chain level) [] (makes done (MakeBinary r.number (here r) op dotted) (expr right ∷ expr left ∷ []) (expr (binary_node r.number (here r) op dotted left right) ∷ []) (λ values. refl)))))

-- only comparisons do not go on
pub goes_on : (level : Level) → level ≢ Comparison → rest_of_chain level ≡ want (Tail level) ∷ []
goes_on Disjunction other = refl
goes_on Conjunction other = refl
goes_on Comparison other = absurd (other refl)
goes_on Sum other = refl
goes_on Product other = refl

pub ends_there : (level : Level) → level ≡ Comparison → rest_of_chain level ≡ []
ends_there level e = ap rest_of_chain e

pub left_is : {old new : Reader} {goals left more : List Goal} {given made : List Value} → left ≡ more
    → Reaches old goals given new left made → Reaches old goals given new more made
left_is {old} {new} {goals} {left} {more} {given} {made} e f = subst (λ (gs : List Goal). Reaches old goals given new gs made) e f

-- ---- operators with one operand

unary_next : (o : Option Lexeme) (x : UnOp × Bool) → unary_in (sign_in o) ≡ Some x → (sign : Sign) × (o ≡ Some (Mark sign)) × (unary_of sign ≡ Some x)
unary_next (Some (Mark sign)) x e = (sign, refl, e)
unary_next _ x e = absurd cc

unary_move : (sign : Sign) (x : UnOp × Bool) (at : Place) (k d : ℕ) → unary_of sign ≡ Some x
    → enter Unary (Some (Mark sign)) at k d ≡ Deepens (suc k) (suc d) (want Unary ∷ make (MakeUnary k at x.0 x.1) ∷ []) []
unfolding enter
unary_move sign x at k d e = rw e refl

unary_none : (o : Option Lexeme) (at : Place) (k d : ℕ) → unary_in (sign_in o) ≡ None → enter Unary o at k d ≡ Passes k (want Primary ∷ want Indexed ∷ []) []
unfolding enter
unary_none (Some (Mark sign)) at k d e = rw e refl
unary_none _ at k d e = refl

pub unary_takes : {r mid new : Reader} {x : UnOp × Bool} → unary_in (sign_in (next r)) ≡ Some x
    → (mid ≡ restored r (suc r.depth)) × (suc r.depth ≤ deepest) → new ≡ numbered mid
    → Reaches r (want Unary ∷ []) [] new (want Unary ∷ make (MakeUnary r.number (here r) x.0 x.1) ∷ []) []
unary_takes {r} {mid} {new} {x} e deeper f =
    let found = unary_next (next r) x e in
    reaches_to (node_taken r deeper.0 f)
    (deepens r Unary (Mark found.0) (suc r.number) (suc r.depth) (want Unary ∷ make (MakeUnary r.number (here r) x.0 x.1) ∷ []) []
    found.1 (unary_move found.0 x (here r) r.number r.depth found.2) deeper.1)

pub unary_too_deep : {r : Reader} {x : UnOp × Bool} {error : ParseError} → unary_in (sign_in (next r)) ≡ Some x
    → (error ≡ too_deep_at r) × (deepest < suc r.depth) → Stops r (want Unary ∷ []) [] error
unary_too_deep {r} {x} {error} e deep =
    let found = unary_next (next r) x e in
    stops_deep r Unary (Mark found.0) (suc r.number) (suc r.depth) (want Unary ∷ make (MakeUnary r.number (here r) x.0 x.1) ∷ []) [] error
    found.1 (unary_move found.0 x (here r) r.number r.depth found.2) deep

pub unary_passes : {r : Reader} → unary_in (sign_in (next r)) ≡ None → Reaches r (want Unary ∷ []) [] r (want Primary ∷ want Indexed ∷ []) []
unary_passes {r} e = passes r Unary (want Primary ∷ want Indexed ∷ []) [] (unary_none (next r) (here r) r.number r.depth e)

-- an operator before its operand
pub unary_more : {r mid new done : Reader} {op : UnOp} {dotted : Bool} {id : ℕ} {at : Place} {operand x : Expr}
    → unary_in (sign_in (next r)) ≡ Some (op, dotted) → (mid ≡ restored r (suc r.depth)) × (suc r.depth ≤ deepest)
    → id ≡ mid.number → at ≡ here mid → new ≡ numbered mid
    → Reaches new (want Unary ∷ []) [] done [] (expr operand ∷ []) → x ≡ unary_node id at op dotted operand
    → Reaches r (want Unary ∷ []) [] done [] (expr x ∷ [])
unary_more {r} {mid} {new} {done} {op} {dotted} {id} {at} {operand} {x} e deeper number place taken read is =
    let same : x ≡ unary_node r.number (here r) op dotted operand =
    is ∙ rw (node_number r deeper.0 number, node_place r deeper.0 place) refl in
    reaches_value same
    (reaches_then (unary_takes e deeper taken)
    (reaches_then (beside (make (MakeUnary r.number (here r) op dotted) ∷ []) [] read)
    (makes done (MakeUnary r.number (here r) op dotted) (expr operand ∷ []) (expr (unary_node r.number (here r) op dotted operand) ∷ []) (λ values. refl))))

-- ---- indices

index_none : (o : Option Lexeme) (at : Place) (k d : ℕ) → sign_in o ≢ Some signs.OpenIndex → enter Indexed o at k d ≡ Passes k [] []
unfolding enter
index_none (Some (Mark signs.OpenIndex)) at k d other = absurd (other refl)
index_none _ at k d other = refl

index_move : (at : Place) (k d : ℕ) → enter Indexed (Some (Mark signs.OpenIndex)) at k d
    ≡ Deepens (suc k) (suc (suc d)) (want (Chain Disjunction) ∷ want (CloseIndex (suc d)) ∷ make (MakeIndex k at) ∷ want Indexed ∷ []) []
unfolding enter
index_move at k d = refl

-- what is wanted behind a bracket that opens an index
abbrev pub in_index : Reader → List Goal
in_index r = want (Chain Disjunction) ∷ want (CloseIndex (suc r.depth)) ∷ make (MakeIndex r.number (here r)) ∷ want Indexed ∷ []

pub index_takes : {r mid new : Reader} → sign_in (next r) ≡ Some signs.OpenIndex
    → (mid ≡ restored r (suc (suc r.depth))) × (suc (suc r.depth) ≤ deepest) → new ≡ numbered mid → Reaches r (want Indexed ∷ []) [] new (in_index r) []
index_takes {r} {mid} {new} e deeper f =
    reaches_to (node_taken r deeper.0 f)
    (deepens r Indexed (Mark signs.OpenIndex) (suc r.number) (suc (suc r.depth)) (in_index r) []
    (sign_next (next r) signs.OpenIndex e) (index_move (here r) r.number r.depth) deeper.1)

pub index_too_deep : {r : Reader} {error : ParseError} → sign_in (next r) ≡ Some signs.OpenIndex
    → (error ≡ too_deep_at r) × (deepest < suc (suc r.depth)) → Stops r (want Indexed ∷ []) [] error
index_too_deep {r} {error} e deep =
    stops_deep r Indexed (Mark signs.OpenIndex) (suc r.number) (suc (suc r.depth)) (in_index r) [] error
    (sign_next (next r) signs.OpenIndex e) (index_move (here r) r.number r.depth) deep

pub index_ends : {r : Reader} → sign_in (next r) ≢ Some signs.OpenIndex → Reaches r (want Indexed ∷ []) [] r [] []
index_ends {r} other = passes r Indexed [] [] (index_none (next r) (here r) r.number r.depth other)

close_index_move : (before : ℕ) (at : Place) (k d : ℕ) → enter (CloseIndex before) (Some (Mark signs.CloseIndex)) at k d ≡ Takes k before [] []
unfolding enter
close_index_move before at k d = refl

close_index_none : (before : ℕ) (o : Option Lexeme) (at : Place) (k d : ℕ) → sign_in o ≢ Some signs.CloseIndex → enter (CloseIndex before) o at k d ≡ Refuses
unfolding enter
close_index_none before (Some (Mark signs.CloseIndex)) at k d other = absurd (other refl)
close_index_none before _ at k d other = refl

pub index_closed : {r new : Reader} {before : ℕ} → (sign_in (next r) ≡ Some signs.CloseIndex) × (new ≡ behind_at r r.number before)
    → Reaches r (want (CloseIndex before) ∷ []) [] new [] []
index_closed {r} {new} {before} e =
    reaches_to e.1 (takes r (CloseIndex before) (Mark signs.CloseIndex) r.number before [] [] (sign_next (next r) signs.CloseIndex e.0) (close_index_move before (here r) r.number r.depth))

pub index_open : {r : Reader} {before : ℕ} {error : ParseError} → (error ≡ syntax_at r) × (sign_in (next r) ≢ Some signs.CloseIndex)
    → Stops r (want (CloseIndex before) ∷ []) [] error
index_open {r} {before} {error} e = refuses r (CloseIndex before) error (close_index_none before (next r) (here r) r.number r.depth e.1) e.0

-- an index behind what is indexed
pub index_more : {r mid new inner done : Reader} {id before : ℕ} {at : Place} {left index x : Expr}
    → sign_in (next r) ≡ Some signs.OpenIndex → before ≡ r.depth → (mid ≡ restored r (suc (suc r.depth))) × (suc (suc r.depth) ≤ deepest)
    → id ≡ mid.number → at ≡ here mid → new ≡ numbered mid
    → Reaches new (want (Chain Disjunction) ∷ []) [] inner [] (expr index ∷ [])
    → (sign_in (next inner) ≡ Some signs.CloseIndex) × (done ≡ behind_at inner inner.number (before + 1)) → x ≡ index_node id at left index
    → Reaches r (want Indexed ∷ []) (expr left ∷ []) done (want Indexed ∷ []) (expr x ∷ [])
index_more {r} {mid} {new} {inner} {done} {id} {before} {at} {left} {index} {x} e depth deeper number place taken read closed is =
    let same : x ≡ index_node r.number (here r) left index = is ∙ rw (node_number r deeper.0 number, node_place r deeper.0 place) refl in
    let after : before + 1 ≡ suc r.depth = omega arith in
    let ends : done ≡ behind_at inner inner.number (suc r.depth) = closed.1 ∙ ap (behind_at inner inner.number) after in
    reaches_value same
    (reaches_then (beside [] (expr left ∷ []) (index_takes e deeper taken))
    (reaches_then (beside (want (CloseIndex (suc r.depth)) ∷ make (MakeIndex r.number (here r)) ∷ want Indexed ∷ []) (expr left ∷ []) read)
    (reaches_then (beside (make (MakeIndex r.number (here r)) ∷ want Indexed ∷ []) (expr index ∷ expr left ∷ []) (index_closed (closed.0, ends)))
    (beside (want Indexed ∷ []) [] (makes done (MakeIndex r.number (here r)) (expr index ∷ expr left ∷ []) (expr (index_node r.number (here r) left index) ∷ []) (λ values. refl))))))

-- ---- literals, columns, names and brackets

number_move : (value : ℤ) (at : Place) (k d : ℕ) → enter Primary (Some (Numeral value)) at k d ≡ Takes (suc k) d [] (expr (number_node k at value) ∷ [])
unfolding enter
number_move value at k d = refl

text_move : (bytes : List ℕ) (at : Place) (k d : ℕ) → enter Primary (Some (Quoted bytes)) at k d ≡ Takes (suc k) d [] (expr (text_node k at bytes) ∷ [])
unfolding enter
text_move bytes at k d = refl

true_move : (at : Place) (k d : ℕ) → enter Primary (Some (Word keywords.True)) at k d ≡ Takes (suc k) d [] (expr (truth_node k at true) ∷ [])
unfolding enter
true_move at k d = refl

false_move : (at : Place) (k d : ℕ) → enter Primary (Some (Word keywords.False)) at k d ≡ Takes (suc k) d [] (expr (truth_node k at false) ∷ [])
unfolding enter
false_move at k d = refl

-- a node of one token
leaf : {r new : Reader} {what : Lexeme} {id : ℕ} {at : Place} {x : Expr} (of : ℕ → Place → Expr) → next r ≡ Some what
    → enter Primary (Some what) (here r) r.number r.depth ≡ Takes (suc r.number) r.depth [] (expr (of r.number (here r)) ∷ [])
    → id ≡ r.number → at ≡ here r → new ≡ numbered r → x ≡ of id at → Reaches r (want Primary ∷ []) [] new [] (expr x ∷ [])
leaf {r} {new} {what} {id} {at} {x} of e move number place taken is =
    let same : x ≡ of r.number (here r) = is ∙ rw (number, place) refl in
    reaches_value same (reaches_to taken (takes r Primary what (suc r.number) r.depth [] (expr (of r.number (here r)) ∷ []) e move))

pub number_read : {r new : Reader} {value : ℤ} {id : ℕ} {at : Place} {x : Expr} → next r ≡ Some (Numeral value)
    → id ≡ r.number → at ≡ here r → new ≡ numbered r → x ≡ number_node id at value → Reaches r (want Primary ∷ []) [] new [] (expr x ∷ [])
number_read {r} {new} {value} {id} {at} {x} e = leaf (λ k p. number_node k p value) e (number_move value (here r) r.number r.depth)

pub text_read : {r new : Reader} {bytes : List ℕ} {id : ℕ} {at : Place} {x : Expr} → next r ≡ Some (Quoted bytes)
    → id ≡ r.number → at ≡ here r → new ≡ numbered r → x ≡ text_node id at bytes → Reaches r (want Primary ∷ []) [] new [] (expr x ∷ [])
text_read {r} {new} {bytes} {id} {at} {x} e = leaf (λ k p. text_node k p bytes) e (text_move bytes (here r) r.number r.depth)

pub true_read : {r new : Reader} {id : ℕ} {at : Place} {x : Expr} → next r ≡ Some (Word keywords.True)
    → id ≡ r.number → at ≡ here r → new ≡ numbered r → x ≡ truth_node id at true → Reaches r (want Primary ∷ []) [] new [] (expr x ∷ [])
true_read {r} {new} {id} {at} {x} e = leaf (λ k p. truth_node k p true) e (true_move (here r) r.number r.depth)

pub false_read : {r new : Reader} {id : ℕ} {at : Place} {x : Expr} → next r ≡ Some (Word keywords.False)
    → id ≡ r.number → at ≡ here r → new ≡ numbered r → x ≡ truth_node id at false → Reaches r (want Primary ∷ []) [] new [] (expr x ∷ [])
false_read {r} {new} {id} {at} {x} e = leaf (λ k p. truth_node k p false) e (false_move (here r) r.number r.depth)

colon_move : (at : Place) (k d : ℕ) → enter Primary (Some (Mark signs.Colon)) at k d ≡ Takes (suc k) d (want (ColumnName k at) ∷ []) []
unfolding enter
colon_move at k d = refl

column_move : (id : ℕ) (at : Place) (bytes : List ℕ) (here_ : Place) (k d : ℕ) → enter (ColumnName id at) (Some (Identifier bytes)) here_ k d ≡ Takes k d [] (expr (column_node id at bytes) ∷ [])
unfolding enter
column_move id at bytes here_ k d = refl

column_none : (id : ℕ) (at : Place) (o : Option Lexeme) (here_ : Place) (k d : ℕ) → name_in o ≡ None → enter (ColumnName id at) o here_ k d ≡ Refuses
unfolding enter
column_none id at (Some (Identifier bytes)) here_ k d e = absurd cc
column_none id at _ here_ k d e = refl

colon_takes : {r mid : Reader} → next r ≡ Some (Mark signs.Colon) → mid ≡ numbered r → Reaches r (want Primary ∷ []) [] mid (want (ColumnName r.number (here r)) ∷ []) []
colon_takes {r} {mid} e taken =
    reaches_to taken (takes r Primary (Mark signs.Colon) (suc r.number) r.depth (want (ColumnName r.number (here r)) ∷ []) [] e (colon_move (here r) r.number r.depth))

pub column_read : {r mid new : Reader} {bytes : List ℕ} {id : ℕ} {at : Place} {x : Expr} → next r ≡ Some (Mark signs.Colon)
    → id ≡ r.number → at ≡ here r → mid ≡ numbered r → (next mid ≡ Some (Identifier bytes)) × (new ≡ behind mid) → x ≡ column_node id at bytes
    → Reaches r (want Primary ∷ []) [] new [] (expr x ∷ [])
column_read {r} {mid} {new} {bytes} {id} {at} {x} e number place taken named is =
    let same : x ≡ column_node r.number (here r) bytes = is ∙ rw (number, place) refl in
    reaches_value same (reaches_then (colon_takes e taken)
    (reaches_to named.1 (takes mid (ColumnName r.number (here r)) (Identifier bytes) mid.number mid.depth [] (expr (column_node r.number (here r) bytes) ∷ [])
    named.0 (column_move r.number (here r) bytes (here mid) mid.number mid.depth))))

pub column_stops : {r mid : Reader} {error : ParseError} → next r ≡ Some (Mark signs.Colon) → mid ≡ numbered r
    → (error ≡ syntax_at mid) × (name_in (next mid) ≡ None) → Stops r (want Primary ∷ []) [] error
column_stops {r} {mid} {error} e taken missing = stops_after (colon_takes e taken)
    (refuses mid (ColumnName r.number (here r)) error (column_none r.number (here r) (next mid) (here mid) mid.number mid.depth missing.1) missing.0)

open_move : (at : Place) (k d : ℕ) → enter Primary (Some (Mark signs.Open)) at k d ≡ Deepens k (suc d) (want (Chain Disjunction) ∷ want (Close d) ∷ []) []
unfolding enter
open_move at k d = refl

pub primary_brackets : (r : Reader) → next r ≡ Some (Mark signs.Open) → Brackets Primary r
primary_brackets r e = rw e (open_move (here r) r.number r.depth)

name_move : (bytes : List ℕ) (at : Place) (k d : ℕ) → enter Primary (Some (Identifier bytes)) at k d ≡ Takes (suc k) d (want (AfterName k at bytes) ∷ []) []
unfolding enter
name_move bytes at k d = refl

pub name_taken : {r mid : Reader} {bytes : List ℕ} {id : ℕ} {at : Place} → next r ≡ Some (Identifier bytes)
    → id ≡ r.number → at ≡ here r → mid ≡ numbered r → Reaches r (want Primary ∷ []) [] mid (want (AfterName id at bytes) ∷ []) []
name_taken {r} {mid} {bytes} {id} {at} e number place taken =
    rw (number, place) (reaches_to taken (takes r Primary (Identifier bytes) (suc r.number) r.depth (want (AfterName r.number (here r) bytes) ∷ []) [] e (name_move bytes (here r) r.number r.depth)))

-- a token that begins nothing
pub data BeginsNone : Option Lexeme → Type 0 where
  at_the_end : BeginsNone None
  at_newline : BeginsNone (Some Newline)
  at_word : (word : Keyword) → word ≢ keywords.True → word ≢ keywords.False → BeginsNone (Some (Word word))
  at_sign : (sign : Sign) → sign ≢ signs.Colon → sign ≢ signs.Open → BeginsNone (Some (Mark sign))

word_none : (word : Keyword) (at : Place) (k d : ℕ) → word ≢ keywords.True → word ≢ keywords.False → enter Primary (Some (Word word)) at k d ≡ Refuses
unfolding enter
word_none keywords.True at k d a b = absurd (a refl)
word_none keywords.False at k d a b = absurd (b refl)
word_none _ at k d a b = refl

sign_none : (sign : Sign) (at : Place) (k d : ℕ) → sign ≢ signs.Colon → sign ≢ signs.Open → enter Primary (Some (Mark sign)) at k d ≡ Refuses
unfolding enter
sign_none signs.Colon at k d a b = absurd (a refl)
sign_none signs.Open at k d a b = absurd (b refl)
sign_none _ at k d a b = refl

begins_none : (o : Option Lexeme) (at : Place) (k d : ℕ) → BeginsNone o → enter Primary o at k d ≡ Refuses
unfolding enter
begins_none None at k d at_the_end = refl
begins_none (Some Newline) at k d at_newline = refl
begins_none (Some (Word word)) at k d (at_word w a b) = word_none w at k d a b
begins_none (Some (Mark sign)) at k d (at_sign s a b) = sign_none s at k d a b
begins_none (Some (Numeral value)) at k d none = elim none [ ]
begins_none (Some (Identifier bytes)) at k d none = elim none [ ]
begins_none (Some (Quoted bytes)) at k d none = elim none [ ]

pub primary_stops : {r : Reader} {error : ParseError} → BeginsNone (next r) → error ≡ syntax_at r → Stops r (want Primary ∷ []) [] error
primary_stops {r} {error} none e = refuses r Primary error (begins_none (next r) (here r) r.number r.depth none) e

-- ---- brackets

some_what : (o : Option Lexeme) → IsSome o → (what : Lexeme) × (o ≡ Some what)
some_what None h = absurd cc
some_what (Some what) h = (what, refl)

-- what stands in brackets, and the one that closes them
abbrev pub in_brackets : ℕ → List Goal
in_brackets before = want (Chain Disjunction) ∷ want (Close before) ∷ []

pub brackets_take : {r mid : Reader} {phrase : Phrase} → IsSome (next r) → Brackets phrase r → (mid ≡ behind_at r r.number (suc r.depth)) × (suc r.depth ≤ deepest)
    → Reaches r (want phrase ∷ []) [] mid (in_brackets r.depth) []
brackets_take {r} {mid} {phrase} some move opened =
    let found = some_what (next r) some in
    let here_too : enter phrase (Some found.0) (here r) r.number r.depth ≡ Deepens r.number (suc r.depth) (in_brackets r.depth) [] =
    ap (λ (o : Option Lexeme). enter phrase o (here r) r.number r.depth) (sym found.1) ∙ move in
    reaches_to opened.0 (deepens r phrase found.0 r.number (suc r.depth) (in_brackets r.depth) [] found.1 here_too opened.1)

pub brackets_too_deep : {r : Reader} {phrase : Phrase} {error : ParseError} → IsSome (next r) → Brackets phrase r
    → (error ≡ too_deep_at r) × (deepest < suc r.depth) → Stops r (want phrase ∷ []) [] error
brackets_too_deep {r} {phrase} {error} some move deep =
    let found = some_what (next r) some in
    let here_too : enter phrase (Some found.0) (here r) r.number r.depth ≡ Deepens r.number (suc r.depth) (in_brackets r.depth) [] =
    ap (λ (o : Option Lexeme). enter phrase o (here r) r.number r.depth) (sym found.1) ∙ move in
    stops_deep r phrase found.0 r.number (suc r.depth) (in_brackets r.depth) [] error found.1 here_too deep

close_move : (before : ℕ) (at : Place) (k d : ℕ) → enter (Close before) (Some (Mark signs.Close)) at k d ≡ Takes k before [] []
unfolding enter
close_move before at k d = refl

close_none : (before : ℕ) (o : Option Lexeme) (at : Place) (k d : ℕ) → sign_in o ≢ Some signs.Close → enter (Close before) o at k d ≡ Refuses
unfolding enter
close_none before (Some (Mark signs.Close)) at k d other = absurd (other refl)
close_none before _ at k d other = refl

pub closed : {r new : Reader} {before : ℕ} → (sign_in (next r) ≡ Some signs.Close) × (new ≡ behind_at r r.number before) → Reaches r (want (Close before) ∷ []) [] new [] []
closed {r} {new} {before} e =
    reaches_to e.1 (takes r (Close before) (Mark signs.Close) r.number before [] [] (sign_next (next r) signs.Close e.0) (close_move before (here r) r.number r.depth))

pub closed_at : {r new : Reader} {before depth : ℕ} → before ≡ depth → (sign_in (next r) ≡ Some signs.Close) × (new ≡ behind_at r r.number before)
    → Reaches r (want (Close depth) ∷ []) [] new [] []
closed_at {r} {new} {before} {depth} same e = closed (e.0, e.1 ∙ ap (behind_at r r.number) same)

pub not_closed : {r : Reader} {before : ℕ} {error : ParseError} → (error ≡ syntax_at r) × (sign_in (next r) ≢ Some signs.Close) → Stops r (want (Close before) ∷ []) [] error
not_closed {r} {before} {error} e = refuses r (Close before) error (close_none before (next r) (here r) r.number r.depth e.1) e.0

-- for whatever phrase the bracket stands
abbrev pub ReadsAny : Reader → Reader → Expr → Type 0
ReadsAny old new x = (phrase : Phrase) → Brackets phrase old → Reaches old (want phrase ∷ []) [] new [] (expr x ∷ [])

abbrev pub StopsAny : Reader → ParseError → Type 0
StopsAny old e = (phrase : Phrase) → Brackets phrase old → Stops old (want phrase ∷ []) [] e

pub read_for : (old new : Reader) (phrase : Phrase) (result : Result Expr ParseError) → Brackets phrase old → IfOk result (λ x. ReadsAny old new x)
    → IfOk result (λ x. Reaches old (want phrase ∷ []) [] new [] (expr x ∷ []))
read_for old new phrase (Ok x) move f = f phrase move
read_for old new phrase (Err e) move f = tt

pub stopped_for : (old : Reader) (phrase : Phrase) (result : Result Expr ParseError) → Brackets phrase old → IfErr result (λ e. StopsAny old e)
    → IfErr result (λ e. Stops old (want phrase ∷ []) [] e)
stopped_for old phrase (Ok x) move f = tt
stopped_for old phrase (Err e) move f = f phrase move

pub thrown_any : {old : Reader} {error : ParseError} (result : Result Expr ParseError) → IsErr result × IsErrAnd result (λ e. e ≡ error) → StopsAny old error
    → IfErr result (λ e. StopsAny old e)
thrown_any {old} {error} (Ok x) h f = tt
thrown_any {old} {error} (Err e) h f = λ phrase move. subst (λ (e : ParseError). Stops old (want phrase ∷ []) [] e) (sym h.1) (f phrase move)

-- ---- names and calls

-- what a name with or without a dot behind it wants
abbrev pub after_dots : Bool → ℕ → Place → List ℕ → Phrase
after_dots true id at bytes = AfterDot id at bytes
after_dots false id at bytes = AfterName id at bytes

dot_move : (id : ℕ) (at : Place) (bytes : List ℕ) (here_ : Place) (k d : ℕ) → enter (AfterName id at bytes) (Some (Mark signs.Dot)) here_ k d ≡ Takes k d (want (AfterDot id at bytes) ∷ []) []
unfolding enter
dot_move id at bytes here_ k d = refl

pub dots_taken : {r mid : Reader} {dotted : Bool} {id : ℕ} {at : Place} {bytes : List ℕ} → IsTrue dotted ↔ (sign_in (next r) ≡ Some signs.Dot)
    → mid ≡ (if dotted then behind r else r) → Reaches r (want (AfterName id at bytes) ∷ []) [] mid (want (after_dots dotted id at bytes) ∷ []) []
dots_taken {r} {mid} {dotted = true} {id} {at} {bytes} both taken =
    reaches_to taken (takes r (AfterName id at bytes) (Mark signs.Dot) r.number r.depth (want (AfterDot id at bytes) ∷ []) [] (sign_next (next r) signs.Dot (both.0 refl)) (dot_move id at bytes (here r) r.number r.depth))
dots_taken {r} {mid} {dotted = false} {id} {at} {bytes} both taken = reaches_to taken (stays r (want (AfterName id at bytes) ∷ []) [])

pub dot_taken : {r mid : Reader} {id : ℕ} {at : Place} {bytes : List ℕ} (dotted : Bool) → IsTrue dotted ↔ (sign_in (next r) ≡ Some signs.Dot)
    → mid ≡ (if dotted then behind r else r) → dotted ≡ true → Reaches r (want (AfterName id at bytes) ∷ []) [] mid (want (AfterDot id at bytes) ∷ []) []
dot_taken {r} {mid} {id} {at} {bytes} true both taken e = dots_taken both taken
dot_taken {r} {mid} {id} {at} {bytes} false both taken e = absurd cc

-- what is wanted behind the bracket that opens arguments
abbrev pub in_call : (before id : ℕ) → Place → List ℕ → Bool → List Goal
in_call before id at bytes dotted = want (Arguments before) ∷ make (MakeCall id at bytes dotted) ∷ []

call_move : (dotted : Bool) (id : ℕ) (at : Place) (bytes : List ℕ) (here_ : Place) (k d : ℕ)
    → enter (after_dots dotted id at bytes) (Some (Mark signs.Open)) here_ k d ≡ Deepens k (suc d) (in_call d id at bytes dotted) (args [] ∷ [])
unfolding enter
call_move true id at bytes here_ k d = refl
call_move false id at bytes here_ k d = refl

pub call_opens : {r mid : Reader} {before : ℕ} (dotted : Bool) (id : ℕ) (at : Place) (bytes : List ℕ) → sign_in (next r) ≡ Some signs.Open → before ≡ r.depth
    → (mid ≡ behind_at r r.number (suc r.depth)) × (suc r.depth ≤ deepest)
    → Reaches r (want (after_dots dotted id at bytes) ∷ []) [] mid (in_call before id at bytes dotted) (args [] ∷ [])
call_opens {r} {mid} {before} dotted id at bytes e depth opened =
    rw depth (reaches_to opened.0 (deepens r (after_dots dotted id at bytes) (Mark signs.Open) r.number (suc r.depth) (in_call r.depth id at bytes dotted) (args [] ∷ [])
    (sign_next (next r) signs.Open e) (call_move dotted id at bytes (here r) r.number r.depth) opened.1))

pub call_too_deep : {r : Reader} {error : ParseError} (dotted : Bool) (id : ℕ) (at : Place) (bytes : List ℕ) → sign_in (next r) ≡ Some signs.Open
    → (error ≡ too_deep_at r) × (deepest < suc r.depth) → Stops r (want (after_dots dotted id at bytes) ∷ []) [] error
call_too_deep {r} {error} dotted id at bytes e deep =
    stops_deep r (after_dots dotted id at bytes) (Mark signs.Open) r.number (suc r.depth) (in_call r.depth id at bytes dotted) (args [] ∷ []) error
    (sign_next (next r) signs.Open e) (call_move dotted id at bytes (here r) r.number r.depth) deep

pub call_read : {r mid done : Reader} {before : ℕ} {xs : List Arg} {x : Expr} (dotted : Bool) (id : ℕ) (at : Place) (bytes : List ℕ) → sign_in (next r) ≡ Some signs.Open → before ≡ r.depth
    → (mid ≡ behind_at r r.number (suc r.depth)) × (suc r.depth ≤ deepest)
    → Reaches mid (want (Arguments before) ∷ []) (args [] ∷ []) done [] (args xs ∷ []) → x ≡ call_node id at bytes dotted xs
    → Reaches r (want (after_dots dotted id at bytes) ∷ []) [] done [] (expr x ∷ [])
call_read {r} {mid} {done} {before} {xs} {x} dotted id at bytes e depth opened read is =
    reaches_value is (reaches_then (call_opens dotted id at bytes e depth opened)
    (reaches_then (beside (make (MakeCall id at bytes dotted) ∷ []) [] read)
    (makes done (MakeCall id at bytes dotted) (args xs ∷ []) (expr (call_node id at bytes dotted xs) ∷ []) (λ values. refl))))

field_move : (id : ℕ) (at : Place) (bytes column : List ℕ) (here_ : Place) (k d : ℕ)
    → enter (AfterDot id at bytes) (Some (Identifier column)) here_ k d ≡ Takes k d [] (expr (field_node id at bytes column) ∷ [])
unfolding enter
field_move id at bytes column here_ k d = refl

pub field_read : {r new : Reader} {id : ℕ} {at : Place} {bytes column : List ℕ} {x : Expr} → (next r ≡ Some (Identifier column)) × (new ≡ behind r)
    → x ≡ field_node id at bytes column → Reaches r (want (AfterDot id at bytes) ∷ []) [] new [] (expr x ∷ [])
field_read {r} {new} {id} {at} {bytes} {column} {x} e is =
    reaches_value is (reaches_to e.1 (takes r (AfterDot id at bytes) (Identifier column) r.number r.depth [] (expr (field_node id at bytes column) ∷ []) e.0 (field_move id at bytes column (here r) r.number r.depth)))

field_none : (id : ℕ) (at : Place) (bytes : List ℕ) (o : Option Lexeme) (here_ : Place) (k d : ℕ) → name_in o ≡ None → sign_in o ≢ Some signs.Open
    → enter (AfterDot id at bytes) o here_ k d ≡ Refuses
unfolding enter
field_none id at bytes (Some (Identifier column)) here_ k d e other = absurd cc
field_none id at bytes (Some (Mark signs.Open)) here_ k d e other = absurd (other refl)
field_none id at bytes _ here_ k d e other = refl

pub field_stops : {r : Reader} {id : ℕ} {at : Place} {bytes : List ℕ} {error : ParseError} → (error ≡ syntax_at r) × (name_in (next r) ≡ None) → sign_in (next r) ≢ Some signs.Open
    → Stops r (want (AfterDot id at bytes) ∷ []) [] error
field_stops {r} {id} {at} {bytes} {error} e other = refuses r (AfterDot id at bytes) error (field_none id at bytes (next r) (here r) r.number r.depth e.1 other) e.0

name_none : (id : ℕ) (at : Place) (bytes : List ℕ) (o : Option Lexeme) (here_ : Place) (k d : ℕ) → sign_in o ≢ Some signs.Dot → sign_in o ≢ Some signs.Open
    → enter (AfterName id at bytes) o here_ k d ≡ Passes k [] (expr (name_node id at bytes) ∷ [])
unfolding enter
name_none id at bytes (Some (Mark signs.Dot)) here_ k d a b = absurd (a refl)
name_none id at bytes (Some (Mark signs.Open)) here_ k d a b = absurd (b refl)
name_none id at bytes _ here_ k d a b = refl

pub name_read : {r mid : Reader} {dotted : Bool} {id : ℕ} {at : Place} {bytes : List ℕ} {x : Expr} → IsTrue dotted ↔ (sign_in (next r) ≡ Some signs.Dot)
    → mid ≡ (if dotted then behind r else r) → dotted ≡ false → sign_in (next mid) ≢ Some signs.Open → x ≡ name_node id at bytes
    → Reaches r (want (AfterName id at bytes) ∷ []) [] mid [] (expr x ∷ [])
name_read {r} {mid} {dotted = true} {id} {at} {bytes} {x} both taken plain other is = absurd cc
name_read {r} {mid} {dotted = false} {id} {at} {bytes} {x} both taken plain other is =
    let still : sign_in (next r) ≢ Some signs.Open = subst (λ (m : Reader). sign_in (next m) ≢ Some signs.Open) taken other in
    reaches_value is (reaches_to taken (passes r (AfterName id at bytes) [] (expr (name_node id at bytes) ∷ [])
    (name_none id at bytes (next r) (here r) r.number r.depth (fails false both refl) still)))

-- ---- arguments

arguments_move : (before : ℕ) (at : Place) (k d : ℕ) → enter (Arguments before) (Some (Mark signs.Close)) at k d ≡ Takes k before [] []
unfolding enter
arguments_move before at k d = refl

arguments_some : (before : ℕ) (o : Option Lexeme) (at : Place) (k d : ℕ) → sign_in o ≢ Some signs.Close → enter (Arguments before) o at k d ≡ Passes k (next_argument before) []
unfolding enter
arguments_some before (Some (Mark signs.Close)) at k d other = absurd (other refl)
arguments_some before _ at k d other = refl

pub none_read : {r mid new : Reader} {before : ℕ} → sign_in (next r) ≡ Some signs.Close → mid ≡ behind r → new ≡ restored mid before
    → Reaches r (want (Arguments before) ∷ []) [] new [] []
none_read {r} {mid} {new} {before} e taken back =
    reaches_to (back ∙ ap (λ (m : Reader). restored m before) taken)
    (takes r (Arguments before) (Mark signs.Close) r.number before [] [] (sign_next (next r) signs.Close e) (arguments_move before (here r) r.number r.depth))

pub some_begin : {r : Reader} {before : ℕ} → sign_in (next r) ≢ Some signs.Close → Reaches r (want (Arguments before) ∷ []) [] r (next_argument before) []
some_begin {r} {before} other = passes r (Arguments before) (next_argument before) [] (arguments_some before (next r) (here r) r.number r.depth other)

pub appended : {r done : Reader} {before : ℕ} {x : Arg} (xs : List Arg) → Reaches r (want Argument ∷ []) [] done [] (arg x ∷ [])
    → Reaches r (next_argument before) (args xs ∷ []) done (want (MoreArguments before) ∷ []) (args (xs ++ x ∷ []) ∷ [])
appended {r} {done} {before} {x} xs read =
    reaches_then (beside (make AppendArgument ∷ want (MoreArguments before) ∷ []) (args xs ∷ []) read)
    (beside (want (MoreArguments before) ∷ []) [] (makes done AppendArgument (arg x ∷ args xs ∷ []) (args (xs ++ x ∷ []) ∷ []) (λ values. refl)))

comma_move : (before : ℕ) (at : Place) (k d : ℕ) → enter (MoreArguments before) (Some (Mark signs.Comma)) at k d ≡ Takes k (suc before) (next_argument before) []
unfolding enter
comma_move before at k d = refl

pub comma_taken : {r mid new : Reader} {before : ℕ} → sign_in (next r) ≡ Some signs.Comma → mid ≡ behind r → new ≡ restored mid (before + 1)
    → Reaches r (want (MoreArguments before) ∷ []) [] new (next_argument before) []
comma_taken {r} {mid} {new} {before} e taken back =
    let after : before + 1 ≡ suc before = omega arith in
    let is : new ≡ behind_at r r.number (suc before) = back ∙ ap (restored mid) after ∙ ap (λ (m : Reader). restored m (suc before)) taken in
    reaches_to is (takes r (MoreArguments before) (Mark signs.Comma) r.number (suc before) (next_argument before) [] (sign_next (next r) signs.Comma e) (comma_move before (here r) r.number r.depth))

last_move : (before : ℕ) (at : Place) (k d : ℕ) → enter (MoreArguments before) (Some (Mark signs.Close)) at k d ≡ Takes k before [] []
unfolding enter
last_move before at k d = refl

more_none : (before : ℕ) (o : Option Lexeme) (at : Place) (k d : ℕ) → sign_in o ≢ Some signs.Comma → sign_in o ≢ Some signs.Close → enter (MoreArguments before) o at k d ≡ Refuses
unfolding enter
more_none before (Some (Mark signs.Comma)) at k d a b = absurd (a refl)
more_none before (Some (Mark signs.Close)) at k d a b = absurd (b refl)
more_none before _ at k d a b = refl

pub all_closed : {r new : Reader} {before : ℕ} → (sign_in (next r) ≡ Some signs.Close) × (new ≡ behind_at r r.number before) → Reaches r (want (MoreArguments before) ∷ []) [] new [] []
all_closed {r} {new} {before} e =
    reaches_to e.1 (takes r (MoreArguments before) (Mark signs.Close) r.number before [] [] (sign_next (next r) signs.Close e.0) (last_move before (here r) r.number r.depth))

pub all_not_closed : {r : Reader} {before : ℕ} {error : ParseError} → sign_in (next r) ≢ Some signs.Comma → (error ≡ syntax_at r) × (sign_in (next r) ≢ Some signs.Close)
    → Stops r (want (MoreArguments before) ∷ []) [] error
all_not_closed {r} {before} {error} no_comma e = refuses r (MoreArguments before) error (more_none before (next r) (here r) r.number r.depth no_comma e.1) e.0
