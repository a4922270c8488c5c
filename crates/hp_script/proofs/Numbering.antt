-- A derivation numbers its nodes in the order of the text, and each node has a token of its own.
use Rattle.std.proofs.Common.{◌≡◌, ℕ, suc, ◌+◌, ◌≤◌, Bool, true, false, List, [], ◌∷◌, ◌++◌, length, refl, sym, ap, subst, ◌∙◌, arith}
use Rattle.std.specs.List.{range_with_len}
use Rattle.hp_word.specs.declared.place.Place.{Place}
use Rattle.hp_script.specs.declared.tree.UnOp.{UnOp}
use Rattle.hp_script.specs.declared.tree.BinOp.{BinOp}
use Rattle.hp_script.specs.declared.tree.Expr.{Expr}
use Rattle.hp_script.specs.declared.tree.Arg.{Arg}
use Rattle.hp_script.specs.declared.tree.Stmt.{Stmt}
use Rattle.hp_script.specs.declared.tree.Stmt.TheVariants.{Assign, Print, Export}
use Rattle.hp_script.specs.declared.tree.Stmt.TheViews.{If, While}
use Rattle.hp_script.specs.Lexemes.{Lexed}
use Rattle.hp_script.specs.Grammar as grammar
use Rattle.hp_script.specs.Grammar.{IsChain, IsOperand, IsTail, IsUnary, IsIndexed, IsPrimary, IsArgs, IsMoreArgs, IsArg, IsStmt, IsBlock, IsBody}
use Rattle.hp_script.specs.Mirror.{tree_of, args_of, block_of}
use Rattle.hp_script.specs.Nodes.{nodes_in, nodes_in_args, nodes_of}
use Rattle.hp_script.specs.Trees.{named, unary_node, binary_node, index_node, call_node}
use Rattle.hp_script.proofs.MirrorLemmas.{tree_number, tree_truth, tree_text, tree_variable, tree_column, tree_field, tree_unary, tree_binary, tree_index, tree_call, args_none, args_plain, args_range, args_lambda, args_named, block_done, block_assign, block_print, block_export, block_choose, block_loop}

-- ---- numbers in a row

-- the numbers are those from `k` up to the one before `l`
abbrev pub Counts : (k : ℕ) → List ℕ → (l : ℕ) → Type 0
Counts k [] l = k ≡ l
Counts k (n ∷ ns) l = (n ≡ k) × Counts (suc k) ns l

counts_on : (k l m : ℕ) (xs ys : List ℕ) → Counts k xs l → Counts l ys m → Counts k (xs ++ ys) m
counts_on k l m [] ys c d = subst (λ (j : ℕ). Counts j ys m) (sym c) d
counts_on k l m (x ∷ xs) ys c d = (c.0, counts_on (suc k) l m xs ys c.1 d)

-- the numbers of two operands with that of their operator between them
counts_between : (j k l : ℕ) (xs ys : List ℕ) → Counts j xs k → Counts (suc k) ys l → Counts j (xs ++ k ∷ ys) l
counts_between j k l xs ys c d = counts_on j k l xs (k ∷ ys) c (refl, d)

pub counted : (k l : ℕ) (xs : List ℕ) → Counts k xs l → l ≡ k + length xs
counted k l [] c = omega (arith, c)
counted k l (x ∷ xs) c = omega (arith, counted (suc k) l xs c.1)

range_of : (k l : ℕ) (xs : List ℕ) → Counts k xs l → xs ≡ range_with_len k (length xs)
range_of k l [] c = refl
range_of k l (x ∷ xs) c =
    let next : suc k ≡ k + 1 = omega arith in
    rw (c.0) (ap (λ (ns : List ℕ). k ∷ ns) (range_of (suc k) l xs c.1 ∙ ap (λ (j : ℕ). range_with_len j (length xs)) next))

from_zero : (l : ℕ) (xs : List ℕ) → Counts 0 xs l → xs ≡ range_with_len 0 l
from_zero l xs c =
    let many : length xs ≡ l = omega (arith, counted 0 l xs c) in
    range_of 0 l xs c ∙ ap (range_with_len 0) many

-- ---- what a phrase takes

-- the tokens from `a` up to `b` hold nodes with these numbers, from `k` up to the one before `l`, and at least as many tokens
abbrev pub Takes : (a : List Lexed) (k : ℕ) → List ℕ → (b : List Lexed) (l : ℕ) → Type 0
Takes a k xs b l = Counts k xs l × (l + length b ≤ k + length a)

-- what goes on behind a left operand whose numbers begin at `j`
abbrev pub GoesOn : (a : List Lexed) (k : ℕ) (xs ys : List ℕ) (b : List Lexed) (l : ℕ) → Type 0
GoesOn a k xs ys b l = ((j : ℕ) → Counts j xs k → Counts j ys l) × (l + length b ≤ k + length a)

-- ---- expressions

unary_counts : (k l : ℕ) (at : Place) (op : UnOp) (dotted : Bool) (x : Expr) → Counts (suc k) (nodes_in (tree_of x)) l → Counts k (nodes_in (tree_of (unary_node k at op dotted x))) l
unary_counts k l at op dotted x c = rw (tree_unary k at op dotted x) (refl, c)

binary_counts : (j k l : ℕ) (at : Place) (op : BinOp) (dotted : Bool) (x y : Expr) → Counts j (nodes_in (tree_of x)) k → Counts (suc k) (nodes_in (tree_of y)) l
    → Counts j (nodes_in (tree_of (binary_node k at op dotted x y))) l
binary_counts j k l at op dotted x y c d = rw (tree_binary k at op dotted x y) (counts_between j k l (nodes_in (tree_of x)) (nodes_in (tree_of y)) c d)

index_counts : (j k l : ℕ) (at : Place) (x y : Expr) → Counts j (nodes_in (tree_of x)) k → Counts (suc k) (nodes_in (tree_of y)) l
    → Counts j (nodes_in (tree_of (index_node k at x y))) l
index_counts j k l at x y c d = rw (tree_index k at x y) (counts_between j k l (nodes_in (tree_of x)) (nodes_in (tree_of y)) c d)

call_counts : (k l : ℕ) (at : Place) (function : List ℕ) (dotted : Bool) (xs : List Arg) → Counts (suc k) (nodes_in_args (args_of xs)) l
    → Counts k (nodes_in (tree_of (call_node k at function dotted xs))) l
call_counts k l at function dotted xs c = rw (tree_call k at function dotted xs) (refl, c)

mutual
  pub chain_takes : {level : _} {a : List Lexed} {k : ℕ} {x : Expr} {b : List Lexed} {l : ℕ} → IsChain level a k x b l → Takes a k (nodes_in (tree_of x)) b l
  chain_takes (grammar.chain {k = k} first tail) =
      let f = operand_takes first in
      let t = tail_takes tail in
      (t.0 k f.0, omega (arith, f.1, t.1))

  operand_takes : {level : _} {a : List Lexed} {k : ℕ} {x : Expr} {b : List Lexed} {l : ℕ} → IsOperand level a k x b l → Takes a k (nodes_in (tree_of x)) b l
  operand_takes (grammar.operand_chain next h) = chain_takes h
  operand_takes (grammar.operand_unary last h) = unary_takes h

  tail_takes : {level : _} {x : Expr} {a : List Lexed} {k : ℕ} {y : Expr} {b : List Lexed} {l : ℕ} → IsTail level x a k y b l → GoesOn a k (nodes_in (tree_of x)) (nodes_in (tree_of y)) b l
  tail_takes grammar.tail_ends = (λ j c. c, omega arith)
  tail_takes (grammar.tail_more {x = x} {y = y} {k = k} {l = l} {op = op} {dotted = dotted} {at = at} leveled chains operand tail) =
      let f = operand_takes operand in
      let t = tail_takes tail in
      (λ j c. t.0 j (binary_counts j k l at op dotted x y c f.0), omega (arith, f.1, t.1))
  tail_takes (grammar.tail_comparison {x = x} {y = y} {k = k} {l = l} {op = op} {dotted = dotted} {at = at} leveled operand) =
      let f = operand_takes operand in
      (λ j c. binary_counts j k l at op dotted x y c f.0, omega (arith, f.1))

  unary_takes : {a : List Lexed} {k : ℕ} {x : Expr} {b : List Lexed} {l : ℕ} → IsUnary a k x b l → Takes a k (nodes_in (tree_of x)) b l
  unary_takes (grammar.unary {k = k} {l = l} {x = x} {op = op} {dotted = dotted} {at = at} signed h) =
      let f = unary_takes h in
      (unary_counts k l at op dotted x f.0, omega (arith, f.1))
  unary_takes (grammar.postfix {k = k} primary indices) =
      let f = primary_takes primary in
      let t = indexed_takes indices in
      (t.0 k f.0, omega (arith, f.1, t.1))

  indexed_takes : {x : Expr} {a : List Lexed} {k : ℕ} {y : Expr} {b : List Lexed} {l : ℕ} → IsIndexed x a k y b l → GoesOn a k (nodes_in (tree_of x)) (nodes_in (tree_of y)) b l
  indexed_takes grammar.indexed_ends = (λ j c. c, omega arith)
  indexed_takes (grammar.indexed_more {x = x} {y = y} {k = k} {l = l} {at = at} index more) =
      let f = chain_takes index in
      let t = indexed_takes more in
      (λ j c. t.0 j (index_counts j k l at x y c f.0), omega (arith, f.1, t.1))

  primary_takes : {a : List Lexed} {k : ℕ} {x : Expr} {b : List Lexed} {l : ℕ} → IsPrimary a k x b l → Takes a k (nodes_in (tree_of x)) b l
  primary_takes (grammar.number {value = value} {at = at} {k = k}) = (rw (tree_number k at value) (refl, refl), omega arith)
  primary_takes (grammar.yes_literal {at = at} {k = k}) = (rw (tree_truth k at true) (refl, refl), omega arith)
  primary_takes (grammar.no_literal {at = at} {k = k}) = (rw (tree_truth k at false) (refl, refl), omega arith)
  primary_takes (grammar.text {bytes = bytes} {at = at} {k = k}) = (rw (tree_text k at bytes) (refl, refl), omega arith)
  primary_takes (grammar.column {bytes = bytes} {at = at} {k = k}) = (rw (tree_column k at bytes) (refl, refl), omega arith)
  primary_takes (grammar.bracketed h) =
      let f = chain_takes h in
      (f.0, omega (arith, f.1))
  primary_takes (grammar.variable {bytes = bytes} {at = at} {k = k}) = (rw (tree_variable k at bytes) (refl, refl), omega arith)
  primary_takes (grammar.field {bytes = bytes} {column = column} {at = at} {k = k}) = (rw (tree_field k at bytes column) (refl, refl), omega arith)
  primary_takes (grammar.call {bytes = bytes} {at = at} {args = args} {k = k} {l = l} h) =
      let f = args_takes h in
      (call_counts k l at bytes false args f.0, omega (arith, f.1))
  primary_takes (grammar.dotted_call {bytes = bytes} {at = at} {args = args} {k = k} {l = l} h) =
      let f = args_takes h in
      (call_counts k l at bytes true args f.0, omega (arith, f.1))

  args_takes : {a : List Lexed} {k : ℕ} {xs : List Arg} {b : List Lexed} {l : ℕ} → IsArgs a k xs b l → Takes a k (nodes_in_args (args_of xs)) b l
  args_takes (grammar.args_none {k = k}) = (rw args_none refl, omega arith)
  args_takes (grammar.args_some {xs = xs} {c = c} {m = m} first more) = arg_takes first xs c m (more_takes more)

  more_takes : {a : List Lexed} {k : ℕ} {xs : List Arg} {b : List Lexed} {l : ℕ} → IsMoreArgs a k xs b l → Takes a k (nodes_in_args (args_of xs)) b l
  more_takes (grammar.more_none {k = k}) = (rw args_none refl, omega arith)
  more_takes (grammar.more_some {xs = xs} {c = c} {m = m} first more) =
      let f = arg_takes first xs c m (more_takes more) in
      (f.0, omega (arith, f.1))

  -- an argument with those behind it
  arg_takes : {a : List Lexed} {k : ℕ} {x : Arg} {b : List Lexed} {l : ℕ} → IsArg a k x b l → (xs : List Arg) (c : List Lexed) (m : ℕ) → Takes b l (nodes_in_args (args_of xs)) c m
      → Takes a k (nodes_in_args (args_of (x ∷ xs))) c m
  arg_takes (grammar.plain {x = x} {k = k} {l = l} h) xs c m rest =
      let f = chain_takes h in
      (rw (args_plain x xs) (counts_on k l m (nodes_in (tree_of x)) (nodes_in_args (args_of xs)) f.0 rest.0), omega (arith, f.1, rest.1))
  arg_takes (grammar.range {x = x} {y = y} {k = k} {l = l} {m = n} h g) xs c m rest =
      let f = chain_takes h in
      let t = chain_takes g in
      let both = counts_on k l n (nodes_in (tree_of x)) (nodes_in (tree_of y)) f.0 t.0 in
      (rw (args_range x y xs) (counts_on k n m (nodes_in (tree_of x) ++ nodes_in (tree_of y)) (nodes_in_args (args_of xs)) both rest.0), omega (arith, f.1, t.1, rest.1))
  arg_takes (grammar.lambda {bytes = bytes} {x = x} {k = k} {l = l} h) xs c m rest =
      let f = chain_takes h in
      (rw (args_lambda (named bytes) x xs) (counts_on k l m (nodes_in (tree_of x)) (nodes_in_args (args_of xs)) f.0 rest.0), omega (arith, f.1, rest.1))
  arg_takes (grammar.given {bytes = bytes} {x = x} {at = at} {k = k} {l = l} h) xs c m rest =
      let f = chain_takes h in
      (rw (args_named (named bytes) at x xs) (counts_on k l m (nodes_in (tree_of x)) (nodes_in_args (args_of xs)) f.0 rest.0), omega (arith, f.1, rest.1))

-- ---- statements

-- a test and two blocks, with what is behind them
counts_four : (j k l m n : ℕ) (xs ys zs rest : List ℕ) → Counts j xs k → Counts k ys l → Counts l zs m → Counts m rest n → Counts j (xs ++ ys ++ zs ++ rest) n
counts_four j k l m n xs ys zs rest a b c d = counts_on j m n (xs ++ ys ++ zs) rest (counts_on j l m (xs ++ ys) zs (counts_on j k l xs ys a b) c) d

choose_counts : (j k l m n : ℕ) (at : Place) (test : Expr) (body other rest : List Stmt)
    → Counts j (nodes_in (tree_of test)) k → Counts k (nodes_of (block_of body)) l → Counts l (nodes_of (block_of other)) m → Counts m (nodes_of (block_of rest)) n
    → Counts j (nodes_of (block_of (If at test body other ∷ rest))) n
unfolding nodes_of
choose_counts j k l m n at test body other rest a b c d =
    rw (block_choose at test body other rest) (counts_four j k l m n (nodes_in (tree_of test)) (nodes_of (block_of body)) (nodes_of (block_of other)) (nodes_of (block_of rest)) a b c d)

loop_counts : (j k l m : ℕ) (at : Place) (test : Expr) (body rest : List Stmt)
    → Counts j (nodes_in (tree_of test)) k → Counts k (nodes_of (block_of body)) l → Counts l (nodes_of (block_of rest)) m
    → Counts j (nodes_of (block_of (While at test body ∷ rest))) m
unfolding nodes_of
loop_counts j k l m at test body rest a b c =
    let both = counts_on j k l (nodes_in (tree_of test)) (nodes_of (block_of body)) a b in
    rw (block_loop at test body rest) (counts_on j l m (nodes_in (tree_of test) ++ nodes_of (block_of body)) (nodes_of (block_of rest)) both c)

assign_counts : (j k l : ℕ) (at : Place) (bytes : List ℕ) (x : Expr) (rest : List Stmt) → Counts j (nodes_in (tree_of x)) k → Counts k (nodes_of (block_of rest)) l
    → Counts j (nodes_of (block_of (Assign at (named bytes) x ∷ rest))) l
unfolding nodes_of
assign_counts j k l at bytes x rest a b = rw (block_assign at (named bytes) x rest) (counts_on j k l (nodes_in (tree_of x)) (nodes_of (block_of rest)) a b)

print_counts : (j k l : ℕ) (at : Place) (x : Expr) (rest : List Stmt) → Counts j (nodes_in (tree_of x)) k → Counts k (nodes_of (block_of rest)) l
    → Counts j (nodes_of (block_of (Print at x ∷ rest))) l
unfolding nodes_of
print_counts j k l at x rest a b = rw (block_print at x rest) (counts_on j k l (nodes_in (tree_of x)) (nodes_of (block_of rest)) a b)

export_counts : (j k l : ℕ) (at : Place) (x : Expr) (rest : List Stmt) → Counts j (nodes_in (tree_of x)) k → Counts k (nodes_of (block_of rest)) l
    → Counts j (nodes_of (block_of (Export at x ∷ rest))) l
unfolding nodes_of
export_counts j k l at x rest a b = rw (block_export at x rest) (counts_on j k l (nodes_in (tree_of x)) (nodes_of (block_of rest)) a b)

done_counts : (k : ℕ) → Counts k (nodes_of (block_of [])) k
unfolding nodes_of
done_counts k = rw block_done refl

mutual
  -- a statement with those behind it
  stmt_takes : {a : List Lexed} {k : ℕ} {s : Stmt} {b : List Lexed} {l : ℕ} → IsStmt a k s b l → (rest : List Stmt) (c : List Lexed) (m : ℕ) → Takes b l (nodes_of (block_of rest)) c m
      → Takes a k (nodes_of (block_of (s ∷ rest))) c m
  stmt_takes (grammar.assign {bytes = bytes} {x = x} {at = at} {k = k} {l = l} h) rest c m behind =
      let f = chain_takes h in
      (assign_counts k l m at bytes x rest f.0 behind.0, omega (arith, f.1, behind.1))
  stmt_takes (grammar.print {x = x} {at = at} {k = k} {l = l} h) rest c m behind =
      let f = chain_takes h in
      (print_counts k l m at x rest f.0 behind.0, omega (arith, f.1, behind.1))
  stmt_takes (grammar.export {x = x} {at = at} {k = k} {l = l} h) rest c m behind =
      let f = chain_takes h in
      (export_counts k l m at x rest f.0 behind.0, omega (arith, f.1, behind.1))
  stmt_takes (grammar.if_alone {test = test} {body = body} {at = at} {k = k} {l = l} {m = n} h block) rest c m behind =
      let f = chain_takes h in
      let g = block_takes block in
      (choose_counts k l n n m at test body [] rest f.0 g.0 (done_counts n) behind.0, omega (arith, f.1, g.1, behind.1))
  stmt_takes (grammar.if_else {test = test} {body = body} {other = other} {at = at} {k = k} {l = l} {m = n} {n = o} h block second) rest c m behind =
      let f = chain_takes h in
      let g = block_takes block in
      let t = block_takes second in
      (choose_counts k l n o m at test body other rest f.0 g.0 t.0 behind.0, omega (arith, f.1, g.1, t.1, behind.1))
  stmt_takes (grammar.while {test = test} {body = body} {at = at} {k = k} {l = l} {m = n} h block) rest c m behind =
      let f = chain_takes h in
      let g = block_takes block in
      (loop_counts k l n m at test body rest f.0 g.0 behind.0, omega (arith, f.1, g.1, behind.1))

  block_takes : {a : List Lexed} {k : ℕ} {body : List Stmt} {b : List Lexed} {l : ℕ} → IsBlock a k body b l → Takes a k (nodes_of (block_of body)) b l
  block_takes (grammar.block_ends {k = k}) = (done_counts k, omega arith)
  block_takes (grammar.block_line h) =
      let f = block_takes h in
      (f.0, omega (arith, f.1))
  block_takes (grammar.block_more {stmts = stmts} {b = b} {c = c} {l = l} {m = m} first more) =
      let g = block_takes more in
      stmt_takes first stmts c m (g.0, omega (arith, g.1))

body_takes : {a : List Lexed} {k : ℕ} {body : List Stmt} {l : ℕ} → IsBody a k body l → Takes a k (nodes_of (block_of body)) [] l
body_takes (grammar.body_ends {k = k}) = (done_counts k, omega arith)
body_takes (grammar.body_line h) =
    let f = body_takes h in
    (f.0, omega (arith, f.1))
body_takes (grammar.body_last {l = l} h) = stmt_takes h [] [] l (done_counts l, omega arith)
body_takes (grammar.body_more {stmts = stmts} {m = m} first more) =
    let g = body_takes more in
    stmt_takes first stmts [] m (g.0, omega (arith, g.1))

-- ---- scripts

-- the nodes of a script are numbered from 0 on in the order of the text
pub nodes_in_order : {tokens : List Lexed} {body : List Stmt} {nodes : ℕ} → IsBody tokens 0 body nodes → nodes_of (block_of body) ≡ range_with_len 0 nodes
nodes_in_order {nodes = nodes} h = from_zero nodes _ (body_takes h).0

-- a script has at most as many nodes as tokens
pub nodes_within : {tokens : List Lexed} {body : List Stmt} {nodes : ℕ} → IsBody tokens 0 body nodes → nodes ≤ length tokens
nodes_within h = omega (arith, (body_takes h).1)
