-- How many expressions a tree has, by which the evaluation of expressions comes to an end.
use Rattle.std.proofs.Common.{◌≡◌, ◌+◌, ◌<◌, ℕ, suc, arith, Bool, true, false, if◌then◌else◌, List, Option, Some, None, refl, ap, ◌∙◌}
use Rattle.std.specs.Option.{option_map}
use Rattle.hp_word.specs.declared.name.Name.{Name}
use Rattle.hp_script.specs.declared.tree.Arg.{Arg}
use Rattle.hp_script.specs.declared.tree.Arg.TheViews.{Unary, Binary, Index, Call}
use Rattle.hp_script.specs.declared.tree.BinOp.{BinOp}
use Rattle.hp_script.specs.declared.tree.UnOp.{UnOp}
use Rattle.hp_script.specs.declared.tree.Expr.{Expr}
use Rattle.hp_script.specs.Functions.{function_named}
use Rattle.hp_script.specs.Mirror.{Tree, Args, head, number, truth, text, variable, column, field, unary, binary, index, call, none, plain, range, lambda, named, tree_of, form_of, args_of}
use Rattle.hp_script.proofs.MirrorLemmas as mirror
use Rattle.hp_meaning.specs.ArgumentShapes.{first_plain, one_plain, two_plain, three_plain, one_range, lambda_and_plain, is_transpose, transposed_operand, flipped_operand}
use Rattle.hp_meaning.specs.ValueOf.{is_product}

unfoldable mutual
  pub tree_size : Tree → ℕ
  tree_size (unary h op dotted x) = suc (tree_size x)
  tree_size (binary h op dotted x y) = suc (tree_size x + tree_size y)
  tree_size (index h x i) = suc (tree_size x + tree_size i)
  tree_size (call h function dotted xs) = suc (args_size xs)
  tree_size x = 1

  pub args_size : Args → ℕ
  args_size none = 0
  args_size (plain x xs) = suc (tree_size x + args_size xs)
  args_size (range x y xs) = suc (tree_size x + tree_size y + args_size xs)
  args_size (lambda parameter x xs) = suc (args_size xs)
  args_size (named name at x xs) = suc (tree_size x + args_size xs)

-- ---- the code's own trees

pub tree_unary : (x : Expr) (op : UnOp) (dotted : Bool) (a : Expr) → x.form ≡ Unary op dotted a → tree_of x ≡ unary (head x.id.0 x.at) op dotted (tree_of a)
unfolding tree_of
tree_unary x op dotted a e = ap (form_of (head x.id.0 x.at)) e ∙ mirror.tree_unary x.id.0 x.at op dotted a

pub tree_binary : (x : Expr) (op : BinOp) (dotted : Bool) (a b : Expr) → x.form ≡ Binary op dotted a b → tree_of x ≡ binary (head x.id.0 x.at) op dotted (tree_of a) (tree_of b)
unfolding tree_of
tree_binary x op dotted a b e = ap (form_of (head x.id.0 x.at)) e ∙ mirror.tree_binary x.id.0 x.at op dotted a b

pub tree_index : (x a b : Expr) → x.form ≡ Index a b → tree_of x ≡ index (head x.id.0 x.at) (tree_of a) (tree_of b)
unfolding tree_of
tree_index x a b e = ap (form_of (head x.id.0 x.at)) e ∙ mirror.tree_index x.id.0 x.at a b

pub tree_call : (x : Expr) (function : Name) (dotted : Bool) (args : List Arg) → x.form ≡ Call function dotted args → tree_of x ≡ call (head x.id.0 x.at) function.bytes dotted (args_of args)
unfolding tree_of
tree_call x function dotted args e = ap (form_of (head x.id.0 x.at)) e ∙ mirror.tree_call x.id.0 x.at function.bytes dotted args

-- ---- parts are smaller

pub unary_size : (x : Expr) (op : UnOp) (dotted : Bool) (a : Expr) → x.form ≡ Unary op dotted a → tree_size (tree_of x) ≡ suc (tree_size (tree_of a))
unfolding tree_size args_size
unary_size x op dotted a e = ap tree_size (tree_unary x op dotted a e)

pub binary_size : (x : Expr) (op : BinOp) (dotted : Bool) (a b : Expr) → x.form ≡ Binary op dotted a b → tree_size (tree_of x) ≡ suc (tree_size (tree_of a) + tree_size (tree_of b))
unfolding tree_size args_size
binary_size x op dotted a b e = ap tree_size (tree_binary x op dotted a b e)

pub index_size : (x a b : Expr) → x.form ≡ Index a b → tree_size (tree_of x) ≡ suc (tree_size (tree_of a) + tree_size (tree_of b))
unfolding tree_size args_size
index_size x a b e = ap tree_size (tree_index x a b e)

pub call_size : (x : Expr) (function : Name) (dotted : Bool) (args : List Arg) → x.form ≡ Call function dotted args → tree_size (tree_of x) ≡ suc (args_size (args_of args))
unfolding tree_size args_size
call_size x function dotted args e = ap tree_size (tree_call x function dotted args e)

pub first_smaller : (xs rest : Args) (x : Tree) → first_plain xs ≡ Some (x, rest) → (tree_size x < args_size xs) × (args_size rest < args_size xs)
unfolding tree_size args_size
first_smaller none rest x e = absurd (cc)
first_smaller (plain y ys) rest x e =
    let pair : ◌≡◌ {A = Tree × Args} (y, ys) (x, rest) = cc in
    let same : y ≡ x = ap (λ (p : Tree × Args). p.0) pair in
    let others : ys ≡ rest = ap (λ (p : Tree × Args). p.1) pair in
    let sizes : (tree_size y ≡ tree_size x) × (args_size ys ≡ args_size rest) = (ap tree_size same, ap args_size others) in
    (omega arith, omega arith)
first_smaller (range y z ys) rest x e = absurd (cc)
first_smaller (lambda parameter y ys) rest x e = absurd (cc)
first_smaller (named name at y ys) rest x e = absurd (cc)

pub one_smaller : (xs : Args) (x : Tree) → one_plain xs ≡ Some x → tree_size x < args_size xs
unfolding one_plain tree_size args_size
one_smaller none x e = absurd (cc)
one_smaller (plain y none) x e =
    let same : y ≡ x = cc in
    let sizes : tree_size y ≡ tree_size x = ap tree_size same in
    omega arith
one_smaller (plain y (plain z zs)) x e = absurd (cc)
one_smaller (plain y (range z w zs)) x e = absurd (cc)
one_smaller (plain y (lambda parameter z zs)) x e = absurd (cc)
one_smaller (plain y (named name at z zs)) x e = absurd (cc)
one_smaller (range y z ys) x e = absurd (cc)
one_smaller (lambda parameter y ys) x e = absurd (cc)
one_smaller (named name at y ys) x e = absurd (cc)

second : (z : Tree) (zs : Args) (o : Option Tree) (x y : Tree) → one_plain zs ≡ o → option_map {T = Tree} {U = Tree × Tree} (λ y. (z, y)) o ≡ Some (x, y) → (tree_size x < args_size (plain z zs)) × (tree_size y < args_size (plain z zs))
unfolding tree_size args_size
second z zs None x y h e = absurd (cc)
second z zs (Some w) x y h e =
    let pair : ◌≡◌ {A = Tree × Tree} (z, w) (x, y) = cc in
    let sizes : (tree_size z ≡ tree_size x) × (tree_size w ≡ tree_size y) = (ap (λ (p : Tree × Tree). tree_size p.0) pair, ap (λ (p : Tree × Tree). tree_size p.1) pair) in
    let less = one_smaller zs w h in
    (omega arith, omega arith)

pub two_smaller : (xs : Args) (x y : Tree) → two_plain xs ≡ Some (x, y) → (tree_size x < args_size xs) × (tree_size y < args_size xs)
unfolding two_plain
two_smaller none x y e = absurd (cc)
two_smaller (plain z zs) x y e = second z zs (one_plain zs) x y refl e
two_smaller (range z w zs) x y e = absurd (cc)
two_smaller (lambda parameter z zs) x y e = absurd (cc)
two_smaller (named name at z zs) x y e = absurd (cc)

others : (w : Tree) (ws : Args) (o : Option (Tree × Tree)) (x y z : Tree) → two_plain ws ≡ o → option_map {T = Tree × Tree} {U = Tree × Tree × Tree} (λ q. (w, q.0, q.1)) o ≡ Some (x, y, z) → (tree_size x < args_size (plain w ws)) × (tree_size y < args_size (plain w ws))
unfolding tree_size args_size
others w ws None x y z h e = absurd (cc)
others w ws (Some q) x y z h e =
    let triple : ◌≡◌ {A = Tree × Tree × Tree} (w, q.0, q.1) (x, y, z) = cc in
    let sizes : (tree_size w ≡ tree_size x) × (tree_size q.0 ≡ tree_size y) = (ap (λ (p : Tree × Tree × Tree). tree_size p.0) triple, ap (λ (p : Tree × Tree × Tree). tree_size p.1) triple) in
    let less = two_smaller ws q.0 q.1 h in
    (omega arith, omega arith)

behind_lambda : (q : List ℕ) (c : Tree) (zs : Args) (o : Option Tree) (p : List ℕ) (b x : Tree) → one_plain zs ≡ o → option_map {T = Tree} {U = List ℕ × Tree × Tree} (λ x. (q, c, x)) o ≡ Some (p, b, x) → tree_size x < args_size (lambda q c zs)
unfolding tree_size args_size
behind_lambda q c zs None p b x h e = absurd (cc)
behind_lambda q c zs (Some z) p b x h e =
    let triple : ◌≡◌ {A = List ℕ × Tree × Tree} (q, c, z) (p, b, x) = cc in
    let size : tree_size z ≡ tree_size x = ap (λ (t : List ℕ × Tree × Tree). tree_size t.2) triple in
    let less = one_smaller zs z h in
    omega arith

pub three_smaller : (xs : Args) (x y z : Tree) → three_plain xs ≡ Some (x, y, z) → (tree_size x < args_size xs) × (tree_size y < args_size xs)
unfolding three_plain
three_smaller none x y z e = absurd (cc)
three_smaller (plain w ws) x y z e = others w ws (two_plain ws) x y z refl e
three_smaller (range w v ws) x y z e = absurd (cc)
three_smaller (lambda parameter w ws) x y z e = absurd (cc)
three_smaller (named name at w ws) x y z e = absurd (cc)

pub range_smaller : (xs : Args) (x y : Tree) → one_range xs ≡ Some (x, y) → (tree_size x < args_size xs) × (tree_size y < args_size xs)
unfolding one_range tree_size args_size
range_smaller none x y e = absurd (cc)
range_smaller (plain z zs) x y e = absurd (cc)
range_smaller (range z w none) x y e =
    let pair : ◌≡◌ {A = Tree × Tree} (z, w) (x, y) = cc in
    let sizes : (tree_size z ≡ tree_size x) × (tree_size w ≡ tree_size y) = (ap (λ (p : Tree × Tree). tree_size p.0) pair, ap (λ (p : Tree × Tree). tree_size p.1) pair) in
    (omega arith, omega arith)
range_smaller (range z w (plain v vs)) x y e = absurd (cc)
range_smaller (range z w (range v u vs)) x y e = absurd (cc)
range_smaller (range z w (lambda parameter v vs)) x y e = absurd (cc)
range_smaller (range z w (named name at v vs)) x y e = absurd (cc)
range_smaller (lambda parameter z zs) x y e = absurd (cc)
range_smaller (named name at z zs) x y e = absurd (cc)

pub lambda_smaller : (xs : Args) (parameter : List ℕ) (body x : Tree) → lambda_and_plain xs ≡ Some (parameter, body, x) → tree_size x < args_size xs
unfolding lambda_and_plain
lambda_smaller none p b x e = absurd (cc)
lambda_smaller (plain z zs) p b x e = absurd (cc)
lambda_smaller (range z w zs) p b x e = absurd (cc)
lambda_smaller (lambda q c zs) p b x e = behind_lambda q c zs (one_plain zs) p b x refl e
lambda_smaller (named name at z zs) p b x e = absurd (cc)

below : (b : Bool) (xs : Args) (x : Tree) → (if b then one_plain xs else None) ≡ Some x → tree_size x < suc (args_size xs)
below true xs x e = let less = one_smaller xs x e in omega arith
below false xs x e = absurd (cc)

pub operand_smaller : (t x : Tree) → transposed_operand t ≡ Some x → tree_size x < tree_size t
unfolding transposed_operand tree_size args_size
operand_smaller (number h value) x e = absurd (cc)
operand_smaller (truth h holds) x e = absurd (cc)
operand_smaller (text h bytes) x e = absurd (cc)
operand_smaller (variable h name) x e = absurd (cc)
operand_smaller (column h name) x e = absurd (cc)
operand_smaller (field h name of_it) x e = absurd (cc)
operand_smaller (unary h op dotted a) x e = absurd (cc)
operand_smaller (binary h op dotted a b) x e = absurd (cc)
operand_smaller (index h a i) x e = absurd (cc)
operand_smaller (call h function dotted xs) x e = below (is_transpose (function_named dotted function)) xs x e

chosen : (b : Bool) (right x : Tree) → (if b then transposed_operand right else None) ≡ Some x → tree_size x < tree_size right
chosen true right x e = operand_smaller right x e
chosen false right x e = absurd (cc)

pub flipped_smaller : (op : BinOp) (dotted : Bool) (right x : Tree) → flipped_operand op dotted right ≡ Some x → tree_size x < tree_size right
unfolding flipped_operand
flipped_smaller op dotted right x e = chosen (is_product op dotted) right x e
