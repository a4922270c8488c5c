-- Each line that was built has at least six tokens, with the newline behind it.
use Rattle.std.proofs.Common.{◌≡◌, ℕ, ◌+◌, ◌*◌, ◌≤◌, List, [], ◌∷◌, ◌++◌, length, Bool, true, false, cond, ℤ, Option, Some, None, Result, Ok, refl, sym, ap, ◌∙◌, arith, length-append}
use Rattle.hp_word.specs.declared.place.Place.{Place}
use Rattle.hp_script.specs.declared.tree.Stmt.{Stmt}
use Rattle.hp_script.specs.Lexemes.{Lexed}
use Rattle.hp_script.specs.Grammar as grammar
use Rattle.hp_script.specs.Grammar.{IsStmt, IsBody}
use Rattle.hp_script.specs.Mirror.{Head, Tree, Args, Block, tree_of, block_of, number, truth, text, variable, column, field, unary, binary, index, call, none, plain, range, lambda, named, done, assign, print, export, choose, loop}
use Rattle.hp_script.specs.Nodes.{nodes_in, nodes_in_args, nodes_of}
use Rattle.hp_script.proofs.Numbering.{chain_takes, counted}
use Rattle.std.specs.Prelude.{codes, bytes_eq}
use Rattle.std.specs.Option.{option_map, option_or}
use Rattle.std.specs.List.{range_with_len}
use Rattle.std.proofs.lemmas.List.FromFn.{length-range_with_len}
use Rattle.hp_meaning.specs.declared.line.Line.{Line}
use Rattle.hp_meaning.specs.declared.line.Line.TheVariants.{Fill, PrintSum}
use Rattle.hp_meaning.specs.ArgumentShapes.{one_plain, two_plain}
use Rattle.hp_meaning.specs.Forms.{◌>>=◌, number_of, variable_of, plain_call, dotted_sum, call_named, fill_call, sum_call, added_name, added_form, assigned_form, printed_form, place_of, form_of_stmt, built}
use Rattle.hp_meaning.proofs.BuiltReads.{Begins, next_ok}
use Rattle.hp_meaning.proofs.FormLemmas.{built_cons}
use Rattle.hp_meaning.proofs.FormParts.{bind_some, map_some}

-- ---- the nodes of a form

-- each expression has a node
tree_some : (t : Tree) → 1 ≤ length (nodes_in t)
tree_some (number h value) = omega arith
tree_some (truth h holds) = omega arith
tree_some (text h bytes) = omega arith
tree_some (variable h name) = omega arith
tree_some (column h name) = omega arith
tree_some (field h name of_it) = omega arith
tree_some (unary h op dotted x) = omega arith
tree_some (binary h op dotted x y) = omega (arith, length-append (nodes_in x) (h.id ∷ nodes_in y))
tree_some (index h x i) = omega (arith, length-append (nodes_in x) (h.id ∷ nodes_in i))
tree_some (call h function dotted xs) = omega arith

plain_some : (x : Tree) (rest : Args) → 1 ≤ length (nodes_in_args (plain x rest))
plain_some x rest = omega (arith, length-append (nodes_in x) (nodes_in_args rest), tree_some x)

one_nodes : (args : Args) (x : Tree) → one_plain args ≡ Some x → 1 ≤ length (nodes_in_args args)
unfolding one_plain
one_nodes none x e = absurd cc
one_nodes (plain y rest) x e = plain_some y rest
one_nodes (range y z rest) x e = absurd cc
one_nodes (lambda parameter y rest) x e = absurd cc
one_nodes (named name at y rest) x e = absurd cc

two_nodes : (args : Args) (both : Tree × Tree) → two_plain args ≡ Some both → 2 ≤ length (nodes_in_args args)
unfolding two_plain
two_nodes none both e = absurd cc
two_nodes (plain y rest) both e =
    let second = map_some (λ s. (y, s)) (one_plain rest) both e in
    omega (arith, length-append (nodes_in y) (nodes_in_args rest), tree_some y, one_nodes rest second.0 second.1)
two_nodes (range y z rest) both e = absurd cc
two_nodes (lambda parameter y rest) both e = absurd cc
two_nodes (named name at y rest) both e = absurd cc

named_args : (b : Bool) (at : Place) (args : Args) (x : Place × Args) → cond b (Some (at, args)) None ≡ Some x → args ≡ x.1
named_args true at args x e = let same : (at, args) ≡ x = cc in ap (λ p. p.1) same
named_args false at args x e = absurd cc

-- what a call by name has for arguments
called_args : (name : List ℕ) (h : Head) (function : List ℕ) (dotted : Bool) (args : Args) (x : Place × Args) → call_named name (plain_call (call h function dotted args)) ≡ Some x → args ≡ x.1
unfolding plain_call
called_args name h function true args x e = absurd cc
called_args name h function false args x e = named_args (bytes_eq function name) h.at args x e

fill_nodes : (h : Head) (function : List ℕ) (dotted : Bool) (args : Args) (x : Place × ℤ × ℤ) → fill_call (call h function dotted args) ≡ Some x → 3 ≤ length (nodes_in (call h function dotted args))
unfolding fill_call
fill_nodes h function dotted args x e =
    let asked = bind_some (call_named (codes "fill") (plain_call (call h function dotted args))) (λ a. two_plain a.1 >>= λ both. number_of both.0 >>= λ v. number_of both.1 >>= λ n. Some (a.0, v, n)) x e in
    let both = bind_some (two_plain asked.0.1) (λ both. number_of both.0 >>= λ v. number_of both.1 >>= λ n. Some (asked.0.0, v, n)) x asked.2 in
    let args_are = called_args (codes "fill") h function dotted args asked.0 asked.1 in
    let enough = two_nodes args both.0 (ap two_plain args_are ∙ both.1) in
    omega (arith, enough)

sum_nodes : (h : Head) (function : List ℕ) (dotted : Bool) (args : Args) (x : List ℕ) → sum_call (call h function dotted args) ≡ Some x → 2 ≤ length (nodes_in (call h function dotted args))
unfolding sum_call
sum_nodes h function dotted args x e =
    let asked = bind_some (call_named (codes "sum") (plain_call (call h function dotted args))) (λ a. one_plain a.1 >>= variable_of) x e in
    let one = bind_some (one_plain asked.0.1) variable_of x asked.2 in
    let args_are = called_args (codes "sum") h function dotted args asked.0 asked.1 in
    let enough = one_nodes args one.0 (ap one_plain args_are ∙ one.1) in
    omega (arith, enough)

or_none : {A : Type 0} (a b : Option A) (y : A) → b ≡ None → option_or a b ≡ Some y → a ≡ Some y
or_none None b y is e = absurd cc
or_none (Some x) b y is e = e

-- what is assigned has three nodes at least
assigned_nodes : (name : List ℕ) (tree : Tree) (line : Line) → assigned_form name tree ≡ Some line → 3 ≤ length (nodes_in tree)
unfolding assigned_form fill_call plain_call added_name dotted_sum
assigned_nodes name (number h value) line e = absurd cc
assigned_nodes name (truth h holds) line e = absurd cc
assigned_nodes name (text h bytes) line e = absurd cc
assigned_nodes name (variable h bytes) line e = absurd cc
assigned_nodes name (column h bytes) line e = absurd cc
assigned_nodes name (field h bytes of_it) line e = absurd cc
assigned_nodes name (unary h op dotted x) line e = absurd cc
assigned_nodes name (binary h op dotted x y) line e = omega (arith, length-append (nodes_in x) (h.id ∷ nodes_in y), tree_some x, tree_some y)
assigned_nodes name (index h x i) line e = absurd cc
assigned_nodes name (call h function dotted args) line e =
    let made = or_none (option_map (λ x. Fill (Rattle.hp_script.specs.Trees.named name) x.0 x.1 x.2) (fill_call (call h function dotted args))) (added_name (call h function dotted args) >>= added_form name) line refl e in
    let filled = map_some (λ x. Fill (Rattle.hp_script.specs.Trees.named name) x.0 x.1 x.2) (fill_call (call h function dotted args)) line made in
    fill_nodes h function dotted args filled.0 filled.1

-- what is printed has two nodes at least
printed_nodes : (tree : Tree) (line : Line) → printed_form tree ≡ Some line → 2 ≤ length (nodes_in tree)
unfolding printed_form sum_call plain_call
printed_nodes (number h value) line e = absurd cc
printed_nodes (truth h holds) line e = absurd cc
printed_nodes (text h bytes) line e = absurd cc
printed_nodes (variable h bytes) line e = absurd cc
printed_nodes (column h bytes) line e = absurd cc
printed_nodes (field h bytes of_it) line e = absurd cc
printed_nodes (unary h op dotted x) line e = absurd cc
printed_nodes (binary h op dotted x y) line e = absurd cc
printed_nodes (index h x i) line e = absurd cc
printed_nodes (call h function dotted args) line e =
    let summed = map_some (λ name. PrintSum (Rattle.hp_script.specs.Trees.named name)) (sum_call (call h function dotted args)) line e in
    sum_nodes h function dotted args summed.0 summed.1

-- ---- the tokens of a line

stmt_tokens : {a : List Lexed} {k : ℕ} {s : Stmt} {b : List Lexed} {l : ℕ} → IsStmt a k s b l → (line : Line) → form_of_stmt s ≡ Some line → 5 + length b ≤ length a
unfolding form_of_stmt
stmt_tokens (grammar.assign {bytes = bytes} {x = x} {k = k} {l = l} h) line e =
    let takes = chain_takes h in
    omega (arith, takes.1, counted k l (nodes_in (tree_of x)) takes.0, assigned_nodes bytes (tree_of x) line e)
stmt_tokens (grammar.print {x = x} {k = k} {l = l} h) line e =
    let takes = chain_takes h in
    omega (arith, takes.1, counted k l (nodes_in (tree_of x)) takes.0, printed_nodes (tree_of x) line e)
stmt_tokens (grammar.export h) line e = absurd cc
stmt_tokens (grammar.if_alone test body) line e = absurd cc
stmt_tokens (grammar.if_else test body other) line e = absurd cc
stmt_tokens (grammar.while test body) line e = absurd cc

-- six tokens a line, but for the newline behind the last
pub body_tokens : {a : List Lexed} {k : ℕ} {body : List Stmt} {l : ℕ} → IsBody a k body l → (before lines : List Line) → built before (block_of body) ≡ Ok lines → 6 * length lines ≤ length a + 1
unfolding built block_of
body_tokens grammar.body_ends before lines e = let empty : lines ≡ [] = cc in omega (arith, ap length empty)
body_tokens (grammar.body_line h) before lines e = omega (arith, body_tokens h before lines e)
body_tokens (grammar.body_last {stmt = s} h) before lines e =
    let next = next_ok before (place_of s) (form_of_stmt s) (λ ls. built ls (block_of [])) lines (sym (built_cons before s []) ∙ e) in
    let one : next.rest ≡ [] = let ended : Ok [] ≡ Ok next.rest = next.goes_on in cc in
    omega (arith, stmt_tokens h next.line next.found, ap length next.parts, ap length one)
body_tokens (grammar.body_more {stmt = s} {stmts = stmts} h more) before lines e =
    let next = next_ok before (place_of s) (form_of_stmt s) (λ ls. built ls (block_of stmts)) lines (sym (built_cons before s stmts) ∙ e) in
    omega (arith, stmt_tokens h next.line next.found, ap length next.parts, body_tokens more (before ++ next.line ∷ []) next.rest next.goes_on)

-- ---- the nodes of lines

lines_few : (before : List Line) (form : Option Line) (more : List Line → Result (List Line) Place) (lines : List Line) (n m : ℕ) → Begins before form more lines
    → 1 ≤ n → ((next rest : List Line) → more next ≡ Ok rest → length rest ≤ m) → length lines ≤ n + m
lines_few before form more lines n m b some again = omega (arith, ap length b.parts, again (before ++ b.line ∷ []) b.rest b.goes_on)

-- there are as many nodes as lines, or more
pub built_few : (before : List Line) (block : Block) (lines : List Line) → built before block ≡ Ok lines → length lines ≤ length (nodes_of block)
unfolding built nodes_of
built_few before done lines e = let empty : lines ≡ [] = cc in omega (arith, ap length empty)
built_few before (assign at name x rest) lines e =
    let b = next_ok before at (assigned_form name x) (λ ls. built ls rest) lines e in
    omega (arith, length-append (nodes_in x) (nodes_of rest), lines_few before (assigned_form name x) (λ ls. built ls rest) lines (length (nodes_in x)) (length (nodes_of rest)) b (tree_some x) (λ next ls h. built_few next rest ls h))
built_few before (print at x rest) lines e =
    let b = next_ok before at (printed_form x) (λ ls. built ls rest) lines e in
    omega (arith, length-append (nodes_in x) (nodes_of rest), lines_few before (printed_form x) (λ ls. built ls rest) lines (length (nodes_in x)) (length (nodes_of rest)) b (tree_some x) (λ next ls h. built_few next rest ls h))
built_few before (export at x rest) lines e = absurd cc
built_few before (choose at test body other rest) lines e = absurd cc
built_few before (loop at test body rest) lines e = absurd cc

-- a script whose nodes are few has few lines
pub few_lines : (body : List Stmt) (lines : List Line) (nodes : ℕ) → built [] (block_of body) ≡ Ok lines → nodes_of (block_of body) ≡ range_with_len 0 nodes → nodes ≤ 65536 → length lines ≤ 65536
few_lines body lines nodes e numbered few = omega (arith, built_few [] (block_of body) lines e, ap length numbered, length-range_with_len 0 nodes)
