-- The lexemes of a script's canonical text spell a script like it, wherever they stand.
use Rattle.std.proofs.Common.{◌≡◌, ℕ, suc, ◌≤◌, ℤ, Bool, true, false, if◌then◌else◌, List, [], ◌∷◌, ◌++◌, Some, refl, sym, ap, ◌∙◌, arith}
use Rattle.std.specs.Prelude.{nat_le}
use Rattle.hp_word.specs.declared.place.Place.{Place}
use Rattle.hp_script.specs.declared.tree.UnOp.{UnOp}
use Rattle.hp_script.specs.declared.tree.BinOp.{BinOp}
use Rattle.hp_script.specs.declared.tree.Level.{Level}
use Rattle.hp_script.specs.declared.tree.Level.TheVariants.{Disjunction, Conjunction, Comparison, Sum, Product}
use Rattle.hp_script.specs.declared.tree.Expr.{Expr}
use Rattle.hp_script.specs.declared.tree.Arg.{Arg}
use Rattle.hp_script.specs.declared.tree.Arg.TheViews.{Plain, Range, Lambda, Named}
use Rattle.hp_script.specs.declared.token.Sign.TheVariants as signs
use Rattle.hp_script.specs.Lexemes.{Lexeme, Identifier, Mark, Lexed}
use Rattle.hp_script.specs.Grammar as grammar
use Rattle.hp_script.specs.Grammar.{level_of, unary_of, token, mark, IsChain, IsOperand, IsTail, IsUnary, IsIndexed, IsPrimary, IsArgs, IsMoreArgs, IsArg}
use Rattle.hp_script.specs.Trees.{named as name_of, number_node, truth_node, text_node, name_node, column_node, field_node, unary_node, binary_node, index_node, call_node}
use Rattle.hp_script.specs.Mirror.{Head, Tree, Args, number, truth, text, variable, column, field, unary, binary, index, call, none, plain, range, lambda, named, tree_of, args_of}
use Rattle.hp_script.specs.Printing.{rank, left_rank, binds}
use Rattle.hp_script.proofs.Bare.{no_head, no_place, bare, bare_args}
use Rattle.hp_script.proofs.MirrorLemmas.{tree_number, tree_truth, tree_text, tree_variable, tree_column, tree_field, tree_unary, tree_binary, tree_index, tree_call, args_none, args_plain, args_range, args_lambda, args_named}
use Rattle.hp_script.proofs.Wording.{unary_sign, in_brackets, comma_said, said_in, said_among, Says, nothing, one, parts, IsPostfix, At, as_loose, as_ranked, joined, indices_on}

-- ---- what the grammar asks of operators

-- the sign of each operator with one operand is a sign of the grammar
abbrev mutual
  pub HasSigns : Tree → Type 0
  HasSigns (number h value) = Unit {0}
  HasSigns (truth h holds) = Unit {0}
  HasSigns (text h bytes) = Unit {0}
  HasSigns (variable h name) = Unit {0}
  HasSigns (column h name) = Unit {0}
  HasSigns (field h name of_it) = Unit {0}
  HasSigns (unary h op dotted x) = (unary_of (unary_sign op dotted) ≡ Some (op, dotted)) × HasSigns x
  HasSigns (binary h op dotted x y) = HasSigns x × HasSigns y
  HasSigns (index h x i) = HasSigns x × HasSigns i
  HasSigns (call h function dotted xs) = HaveSigns xs

  pub HaveSigns : Args → Type 0
  HaveSigns none = Unit {0}
  HaveSigns (plain x xs) = HasSigns x × HaveSigns xs
  HaveSigns (range x y xs) = HasSigns x × HasSigns y × HaveSigns xs
  HaveSigns (lambda parameter x xs) = HasSigns x × HaveSigns xs
  HaveSigns (named name at x xs) = HasSigns x × HaveSigns xs

-- ---- what is derived

-- an expression like `x` that binds so tightly
pub record Derives (n : ℕ) (a : List Lexed) (k : ℕ) (x : Tree) (b : List Lexed) : Type 0 where
  pub tree : Expr
  pub next : ℕ
  pub derived : At n a k tree b next
  pub alike : bare x ≡ bare (tree_of tree)

abbrev pub Derivable : Tree → Type 0
Derivable x = (a b : List Lexed) → Says a (said_in x) b → (k : ℕ) → Derives (binds x) a k x b

primary : (a : List Lexed) (k : ℕ) (y : Expr) (b : List Lexed) (l : ℕ) → IsPrimary a k y b l → IsPostfix a k y b l
primary a k y b l h = record { first = y; mid = b; next = l; primary = h; indices = grammar.indexed_ends }

-- as loose as it may be
loose : (n m : ℕ) (a : List Lexed) (k : ℕ) (x : Tree) (b : List Lexed) → n ≤ m → Derives m a k x b → Derives n a k x b
loose n m a k x b le d = record { tree = d.tree; next = d.next; derived = as_loose a k d.tree b d.next m n le d.derived; alike = d.alike }

-- behind what is in brackets comes the bracket that closes it
closed_by : (a : List Lexed) (k : ℕ) (x : Tree) (b c : List Lexed) (open_ : Place) → Derives 0 a k x b → Says b (Mark signs.Close ∷ []) c → Derives 6 (mark signs.Open open_ ∷ a) k x c
closed_by a k x b c open_ d (one {a = rest} at nothing) =
    record { tree = d.tree; next = d.next; derived = primary (mark signs.Open open_ ∷ a) k d.tree rest d.next (grammar.bracketed d.derived); alike = d.alike }

bracketed_by : (a : List Lexed) (k : ℕ) (x : Tree) (b : List Lexed) → Derivable x → Says a (Mark signs.Open ∷ said_in x ++ Mark signs.Close ∷ []) b → Derives 6 a k x b
bracketed_by a k x b d (one {a = rest} at h) =
    let p = parts (said_in x) (Mark signs.Close ∷ []) h in
    closed_by rest k x p.mid b at (loose 0 (binds x) rest k x p.mid (omega arith) (d rest p.mid p.left k)) p.right

bracketed_if : (t : Bool) (n : ℕ) (a : List Lexed) (k : ℕ) (x : Tree) (b : List Lexed) → nat_le n (binds x) ≡ t → n ≤ 6 → Derivable x
    → Says a (if t then said_in x else Mark signs.Open ∷ said_in x ++ Mark signs.Close ∷ []) b → Derives n a k x b
bracketed_if true n a k x b e le d h = loose n (binds x) a k x b (grind arith) (d a b h k)
bracketed_if false n a k x b e le d h = loose n 6 a k x b le (bracketed_by a k x b d h)

-- an operand, which is in brackets where it binds too loosely
operand : (n : ℕ) (a : List Lexed) (k : ℕ) (x : Tree) (b : List Lexed) → n ≤ 6 → Derivable x → Says a (in_brackets n x (said_in x)) b → Derives n a k x b
operand n a k x b le d h = bracketed_if (nat_le n (binds x)) n a k x b refl le d h

-- ---- forms without parts

number_derived : (h : Head) (value : ℤ) → Derivable (number h value)
number_derived h value a b (one at nothing) k =
    record { tree = number_node k at value; next = suc k; derived = primary _ k _ b (suc k) grammar.number; alike = sym (ap bare (tree_number k at value)) }

truth_derived : (h : Head) (holds : Bool) → Derivable (truth h holds)
truth_derived h true a b (one at nothing) k =
    record { tree = truth_node k at true; next = suc k; derived = primary _ k _ b (suc k) grammar.yes_literal; alike = sym (ap bare (tree_truth k at true)) }
truth_derived h false a b (one at nothing) k =
    record { tree = truth_node k at false; next = suc k; derived = primary _ k _ b (suc k) grammar.no_literal; alike = sym (ap bare (tree_truth k at false)) }

text_derived : (h : Head) (bytes : List ℕ) → Derivable (text h bytes)
text_derived h bytes a b (one at nothing) k =
    record { tree = text_node k at bytes; next = suc k; derived = primary _ k _ b (suc k) grammar.text; alike = sym (ap bare (tree_text k at bytes)) }

variable_derived : (h : Head) (name : List ℕ) → Derivable (variable h name)
variable_derived h name a b (one at nothing) k =
    record { tree = name_node k at name; next = suc k; derived = primary _ k _ b (suc k) grammar.variable; alike = sym (ap bare (tree_variable k at name)) }

column_derived : (h : Head) (name : List ℕ) → Derivable (column h name)
column_derived h name a b (one at (one behind nothing)) k =
    record { tree = column_node k at name; next = suc k; derived = primary _ k _ b (suc k) grammar.column; alike = sym (ap bare (tree_column k at name)) }

field_derived : (h : Head) (name of_it : List ℕ) → Derivable (field h name of_it)
field_derived h name of_it a b (one at (one dot (one behind nothing))) k =
    record { tree = field_node k at name of_it; next = suc k; derived = primary _ k _ b (suc k) grammar.field; alike = sym (ap bare (tree_field k at name of_it)) }

-- ---- operators, indices and calls

unary_derived : (h : Head) (op : UnOp) (dotted : Bool) (x : Tree) → unary_of (unary_sign op dotted) ≡ Some (op, dotted) → Derivable x → Derivable (unary h op dotted x)
unary_derived h op dotted x signed d a b (one {a = rest} at said) k =
    let o = operand 5 rest (suc k) x b (omega arith) d said in
    record {
      tree = unary_node k at op dotted o.tree;
      next = o.next;
      derived = grammar.unary signed o.derived;
      alike = ap (unary no_head op dotted) o.alike ∙ sym (ap bare (tree_unary k at op dotted o.tree));
    }

left_within : (level : Level) → left_rank level ≤ 6
left_within level = elim level as (λ (l : Level). left_rank l ≤ 6) [
  | Disjunction ↦ omega arith
  | Conjunction ↦ omega arith
  | Comparison ↦ omega arith
  | Sum ↦ omega arith
  | Product ↦ omega arith
]

right_within : (level : Level) → suc (rank level) ≤ 6
right_within level = elim level as (λ (l : Level). suc (rank l) ≤ 6) [
  | Disjunction ↦ omega arith
  | Conjunction ↦ omega arith
  | Comparison ↦ omega arith
  | Sum ↦ omega arith
  | Product ↦ omega arith
]

-- an operator and its right operand behind the left one
right_derived : (h : Head) (op : BinOp) (dotted : Bool) (x y : Tree) (a : List Lexed) (k : ℕ) (m b : List Lexed) → Derivable y → Derives (left_rank (level_of op)) a k x m
    → Says m (Mark (signs.Operator op dotted) ∷ in_brackets (suc (rank (level_of op))) y (said_in y)) b → Derives (rank (level_of op)) a k (binary h op dotted x y) b
right_derived h op dotted x y a k m b d left (one {a = rest} at said) =
    let right = operand (suc (rank (level_of op))) rest (suc left.next) y b (right_within (level_of op)) d said in
    record {
      tree = binary_node left.next at op dotted left.tree right.tree;
      next = right.next;
      derived = as_ranked a k (binary_node left.next at op dotted left.tree right.tree) b right.next (level_of op)
          (joined (level_of op) op dotted at a k left.tree rest left.next right.tree b right.next refl left.derived right.derived);
      alike = ap (λ (t : Tree). binary no_head op dotted t (bare y)) left.alike ∙ ap (binary no_head op dotted (bare (tree_of left.tree))) right.alike
          ∙ sym (ap bare (tree_binary left.next at op dotted left.tree right.tree));
    }

binary_derived : (h : Head) (op : BinOp) (dotted : Bool) (x y : Tree) → Derivable x → Derivable y → Derivable (binary h op dotted x y)
binary_derived h op dotted x y d e a b said k =
    let p = parts (in_brackets (left_rank (level_of op)) x (said_in x)) (Mark (signs.Operator op dotted) ∷ in_brackets (suc (rank (level_of op))) y (said_in y)) said in
    right_derived h op dotted x y a k p.mid b e (operand (left_rank (level_of op)) a k x p.mid (left_within (level_of op)) d p.left) p.right

-- the bracket that closes an index
index_closed : (h : Head) (x i : Tree) (a : List Lexed) (k : ℕ) (rest m b : List Lexed) (at : Place) (left : Derives 6 a k x (mark signs.OpenIndex at ∷ rest))
    → Derives 0 rest (suc left.next) i m → Says m (Mark signs.CloseIndex ∷ []) b → Derives 6 a k (index h x i) b
index_closed h x i a k rest m b at left d (one close nothing) =
    record {
      tree = index_node left.next at left.tree d.tree;
      next = d.next;
      derived = record { first = left.derived.first; mid = left.derived.mid; next = left.derived.next; primary = left.derived.primary; indices = indices_on left.derived.indices d.derived };
      alike = ap (λ (t : Tree). index no_head t (bare i)) left.alike ∙ ap (index no_head (bare (tree_of left.tree))) d.alike ∙ sym (ap bare (tree_index left.next at left.tree d.tree));
    }

index_behind : (h : Head) (x i : Tree) (a : List Lexed) (k : ℕ) (m b : List Lexed) → Derivable i → Derives 6 a k x m
    → Says m (Mark signs.OpenIndex ∷ (said_in i ++ Mark signs.CloseIndex ∷ [])) b → Derives 6 a k (index h x i) b
index_behind h x i a k m b d left (one {a = rest} at said) =
    let p = parts (said_in i) (Mark signs.CloseIndex ∷ []) said in
    index_closed h x i a k rest p.mid b at left (loose 0 (binds i) rest (suc left.next) i p.mid (omega arith) (d rest p.mid p.left (suc left.next))) p.right

index_derived : (h : Head) (x i : Tree) → Derivable x → Derivable i → Derivable (index h x i)
index_derived h x i d e a b said k =
    let p = parts (in_brackets 6 x (said_in x)) (Mark signs.OpenIndex ∷ (said_in i ++ Mark signs.CloseIndex ∷ [])) said in
    index_behind h x i a k p.mid b e (operand 6 a k x p.mid (omega arith) d p.left) p.right

-- ---- arguments

-- behind a comma these arguments are more arguments; none are so without one
abbrev pub More : Args → (a : List Lexed) (k : ℕ) → List Arg → (b : List Lexed) (l : ℕ) → Type 0
More none a k ys b l = IsMoreArgs a k ys b l
More _ a k ys b l = (comma : Place) → IsMoreArgs (mark signs.Comma comma ∷ a) k ys b l

-- arguments like `xs`, and the bracket that closes them
pub record Lists (a : List Lexed) (k : ℕ) (xs : Args) (b : List Lexed) : Type 0 where
  pub args : List Arg
  pub next : ℕ
  pub listed : IsArgs a k args b next
  pub more : More xs a k args b next
  pub alike : bare_args xs ≡ bare_args (args_of args)

abbrev pub Listable : Args → Type 0
Listable xs = (a b : List Lexed) → Says a (said_among xs ++ Mark signs.Close ∷ []) b → (k : ℕ) → Lists a k xs b

-- arguments like `xs` behind an argument, with the comma before them
pub record Follow (a : List Lexed) (k : ℕ) (xs : Args) (b : List Lexed) : Type 0 where
  pub args : List Arg
  pub next : ℕ
  pub more : IsMoreArgs a k args b next
  pub alike : bare_args xs ≡ bare_args (args_of args)

says_on : {a b c : List Lexed} {first second : List Lexeme} → Says a first b → Says b second c → Says a (first ++ second) c
says_on nothing h = h
says_on (one at g) h = one at (says_on g h)

-- behind the comma
behind_comma : (xs : Args) (a : List Lexed) (k : ℕ) (b : List Lexed) → Listable xs → ((ys : List Arg) (l : ℕ) (comma : Place) (rest : List Lexed) → More xs rest k ys b l → IsMoreArgs (mark signs.Comma comma ∷ rest) k ys b l)
    → Says a (Mark signs.Comma ∷ (said_among xs ++ Mark signs.Close ∷ [])) b → Follow a k xs b
behind_comma xs a k b d turn (one {a = rest} comma h) =
    let f = d rest b h k in
    record { args = f.args; next = f.next; more = turn f.args f.next comma rest f.more; alike = f.alike }

follows : (xs : Args) (a : List Lexed) (k : ℕ) (b : List Lexed) → Listable xs → Says a (comma_said xs ++ (said_among xs ++ Mark signs.Close ∷ [])) b → Follow a k xs b
follows none a k b d h =
    let f = d a b h k in
    record { args = f.args; next = f.next; more = f.more; alike = f.alike }
follows (plain x xs) a k b d h = behind_comma (plain x xs) a k b d (λ ys l comma rest more. more comma) h
follows (range x y xs) a k b d h = behind_comma (range x y xs) a k b d (λ ys l comma rest more. more comma) h
follows (lambda parameter x xs) a k b d h = behind_comma (lambda parameter x xs) a k b d (λ ys l comma rest more. more comma) h
follows (named name at x xs) a k b d h = behind_comma (named name at x xs) a k b d (λ ys l comma rest more. more comma) h

-- an expression, and the arguments behind it
pub record Ahead (a : List Lexed) (k : ℕ) (x : Tree) (xs : Args) (b : List Lexed) : Type 0 where
  pub mid : List Lexed
  pub first : Derives 0 a k x mid
  pub rest : Follow mid first.next xs b

ahead : (x : Tree) (xs : Args) (a : List Lexed) (k : ℕ) (b m : List Lexed) → Derivable x → Listable xs → Says a (said_in x ++ (comma_said xs ++ said_among xs)) m → Says m (Mark signs.Close ∷ []) b → Ahead a k x xs b
ahead x xs a k b m d e g h =
    let p = parts (said_in x) (comma_said xs ++ said_among xs) g in
    let q = parts (comma_said xs) (said_among xs) p.right in
    let first = loose 0 (binds x) a k x p.mid (omega arith) (d a p.mid p.left k) in
    record { mid = p.mid; first = first; rest = follows xs p.mid first.next b e (says_on q.left (says_on q.right h)) }

none_listed : Listable none
none_listed a b (one close nothing) k =
    record { args = []; next = k; listed = grammar.args_none; more = grammar.more_none; alike = sym (ap bare_args args_none) }

plain_listed : (x : Tree) (xs : Args) → Derivable x → Listable xs → Listable (plain x xs)
plain_listed x xs d e a b said k =
    let p = parts (said_in x ++ (comma_said xs ++ said_among xs)) (Mark signs.Close ∷ []) said in
    let h = ahead x xs a k b p.mid d e p.left p.right in
    record {
      args = Plain h.first.tree ∷ h.rest.args;
      next = h.rest.next;
      listed = grammar.args_some (grammar.plain h.first.derived) h.rest.more;
      more = λ comma. grammar.more_some (grammar.plain h.first.derived) h.rest.more;
      alike = ap (λ (t : Tree). plain t (bare_args xs)) h.first.alike ∙ ap (plain (bare (tree_of h.first.tree))) h.rest.alike ∙ sym (ap bare_args (args_plain h.first.tree h.rest.args));
    }

lambda_behind : (parameter : List ℕ) (x : Tree) (xs : Args) (a : List Lexed) (k : ℕ) (m b : List Lexed) → Derivable x → Listable xs
    → Says a (Identifier parameter ∷ Mark signs.Arrow ∷ (said_in x ++ (comma_said xs ++ said_among xs))) m → Says m (Mark signs.Close ∷ []) b → Lists a k (lambda parameter x xs) b
lambda_behind parameter x xs a k m b d e (one at (one {a = rest} arrow said)) close =
    let h = ahead x xs rest k b m d e said close in
    record {
      args = Lambda (name_of parameter) h.first.tree ∷ h.rest.args;
      next = h.rest.next;
      listed = grammar.args_some (grammar.lambda h.first.derived) h.rest.more;
      more = λ comma. grammar.more_some (grammar.lambda h.first.derived) h.rest.more;
      alike = ap (λ (t : Tree). lambda parameter t (bare_args xs)) h.first.alike ∙ ap (lambda parameter (bare (tree_of h.first.tree))) h.rest.alike
          ∙ sym (ap bare_args (args_lambda (name_of parameter) h.first.tree h.rest.args));
    }

lambda_listed : (parameter : List ℕ) (x : Tree) (xs : Args) → Derivable x → Listable xs → Listable (lambda parameter x xs)
lambda_listed parameter x xs d e a b said k =
    let p = parts (Identifier parameter ∷ Mark signs.Arrow ∷ (said_in x ++ (comma_said xs ++ said_among xs))) (Mark signs.Close ∷ []) said in
    lambda_behind parameter x xs a k p.mid b d e p.left p.right

named_behind : (name : List ℕ) (place : Place) (x : Tree) (xs : Args) (a : List Lexed) (k : ℕ) (m b : List Lexed) → Derivable x → Listable xs
    → Says a (Identifier name ∷ Mark signs.Assign ∷ (said_in x ++ (comma_said xs ++ said_among xs))) m → Says m (Mark signs.Close ∷ []) b → Lists a k (named name place x xs) b
named_behind name place x xs a k m b d e (one at (one {a = rest} assign said)) close =
    let h = ahead x xs rest k b m d e said close in
    record {
      args = Named (name_of name) at h.first.tree ∷ h.rest.args;
      next = h.rest.next;
      listed = grammar.args_some (grammar.given h.first.derived) h.rest.more;
      more = λ comma. grammar.more_some (grammar.given h.first.derived) h.rest.more;
      alike = ap (λ (t : Tree). named name no_place t (bare_args xs)) h.first.alike ∙ ap (named name no_place (bare (tree_of h.first.tree))) h.rest.alike
          ∙ sym (ap bare_args (args_named (name_of name) at h.first.tree h.rest.args));
    }

named_listed : (name : List ℕ) (place : Place) (x : Tree) (xs : Args) → Derivable x → Listable xs → Listable (named name place x xs)
named_listed name place x xs d e a b said k =
    let p = parts (Identifier name ∷ Mark signs.Assign ∷ (said_in x ++ (comma_said xs ++ said_among xs))) (Mark signs.Close ∷ []) said in
    named_behind name place x xs a k p.mid b d e p.left p.right

-- behind the first number of a range
range_behind : (x y : Tree) (xs : Args) (a : List Lexed) (k : ℕ) (n m b : List Lexed) → Derives 0 a k x n → Derivable y → Listable xs
    → Says n (Mark signs.Colon ∷ (said_in y ++ (comma_said xs ++ said_among xs))) m → Says m (Mark signs.Close ∷ []) b → Lists a k (range x y xs) b
range_behind x y xs a k n m b first d e (one {a = rest} colon said) close =
    let h = ahead y xs rest first.next b m d e said close in
    record {
      args = Range first.tree h.first.tree ∷ h.rest.args;
      next = h.rest.next;
      listed = grammar.args_some (grammar.range first.derived h.first.derived) h.rest.more;
      more = λ comma. grammar.more_some (grammar.range first.derived h.first.derived) h.rest.more;
      alike = ap (λ (t : Tree). range t (bare y) (bare_args xs)) first.alike ∙ ap (λ (t : Tree). range (bare (tree_of first.tree)) t (bare_args xs)) h.first.alike
          ∙ ap (range (bare (tree_of first.tree)) (bare (tree_of h.first.tree))) h.rest.alike ∙ sym (ap bare_args (args_range first.tree h.first.tree h.rest.args));
    }

range_listed : (x y : Tree) (xs : Args) → Derivable x → Derivable y → Listable xs → Listable (range x y xs)
range_listed x y xs c d e a b said k =
    let p = parts (said_in x ++ Mark signs.Colon ∷ (said_in y ++ (comma_said xs ++ said_among xs))) (Mark signs.Close ∷ []) said in
    let q = parts (said_in x) (Mark signs.Colon ∷ (said_in y ++ (comma_said xs ++ said_among xs))) p.left in
    range_behind x y xs a k q.mid p.mid b (loose 0 (binds x) a k x q.mid (omega arith) (c a q.mid q.left k)) d e q.right p.right

-- ---- calls

call_plain : (h : Head) (function : List ℕ) (xs : Args) (a : List Lexed) (k : ℕ) (b : List Lexed) (at : Place) → Listable xs → Says a (Mark signs.Open ∷ (said_among xs ++ Mark signs.Close ∷ [])) b
    → Derives 6 (token (Identifier function) at ∷ a) k (call h function false xs) b
call_plain h function xs a k b at d (one {a = rest} open_ said) =
    let f = d rest b said (suc k) in
    record {
      tree = call_node k at function false f.args;
      next = f.next;
      derived = primary _ k _ b f.next (grammar.call f.listed);
      alike = ap (call no_head function false) f.alike ∙ sym (ap bare (tree_call k at function false f.args));
    }

call_dotted : (h : Head) (function : List ℕ) (xs : Args) (a : List Lexed) (k : ℕ) (b : List Lexed) (at : Place) → Listable xs
    → Says a (Mark signs.Dot ∷ Mark signs.Open ∷ (said_among xs ++ Mark signs.Close ∷ [])) b → Derives 6 (token (Identifier function) at ∷ a) k (call h function true xs) b
call_dotted h function xs a k b at d (one dot (one {a = rest} open_ said)) =
    let f = d rest b said (suc k) in
    record {
      tree = call_node k at function true f.args;
      next = f.next;
      derived = primary _ k _ b f.next (grammar.dotted_call f.listed);
      alike = ap (call no_head function true) f.alike ∙ sym (ap bare (tree_call k at function true f.args));
    }

call_derived : (h : Head) (function : List ℕ) (dotted : Bool) (xs : Args) → Listable xs → Derivable (call h function dotted xs)
call_derived h function true xs d a b (one {a = rest} at said) k = call_dotted h function xs rest k b at d said
call_derived h function false xs d a b (one {a = rest} at said) k = call_plain h function xs rest k b at d said

-- ---- all expressions

mutual
  pub derivable : (x : Tree) → HasSigns x → Derivable x
  derivable (number h value) w = number_derived h value
  derivable (truth h holds) w = truth_derived h holds
  derivable (text h bytes) w = text_derived h bytes
  derivable (variable h name) w = variable_derived h name
  derivable (column h name) w = column_derived h name
  derivable (field h name of_it) w = field_derived h name of_it
  derivable (unary h op dotted x) w = unary_derived h op dotted x w.0 (derivable x w.1)
  derivable (binary h op dotted x y) w = binary_derived h op dotted x y (derivable x w.0) (derivable y w.1)
  derivable (index h x i) w = index_derived h x i (derivable x w.0) (derivable i w.1)
  derivable (call h function dotted xs) w = call_derived h function dotted xs (listable xs w)

  listable : (xs : Args) → HaveSigns xs → Listable xs
  listable none w = none_listed
  listable (plain x xs) w = plain_listed x xs (derivable x w.0) (listable xs w.1)
  listable (range x y xs) w = range_listed x y xs (derivable x w.0) (derivable y w.1) (listable xs w.2)
  listable (lambda parameter x xs) w = lambda_listed parameter x xs (derivable x w.0) (listable xs w.1)
  listable (named name at x xs) w = named_listed name at x xs (derivable x w.0) (listable xs w.1)

-- an expression that the grammar derives, like `x`
pub record DerivesExpr (a : List Lexed) (k : ℕ) (x : Tree) (b : List Lexed) : Type 0 where
  pub tree : Expr
  pub next : ℕ
  pub derived : IsChain Disjunction a k tree b next
  pub alike : bare x ≡ bare (tree_of tree)

pub expression_said : (x : Tree) (a : List Lexed) (k : ℕ) (b : List Lexed) → HasSigns x → Says a (said_in x) b → DerivesExpr a k x b
expression_said x a k b w h =
    let d = loose 0 (binds x) a k x b (omega arith) (derivable x w a b h k) in
    record { tree = d.tree; next = d.next; derived = d.derived; alike = d.alike }
