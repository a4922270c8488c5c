-- How large statements are: what is called for a part of a statement is called for less.
use Rattle.std.proofs.Common.{◌≡◌, ℕ, suc, ◌+◌, ◌<◌, ◌≤◌, List, [], ◌∷◌, ◌++◌, length, get_or, take, drop, ap, sym, ◌∙◌, arith}
use Rattle.std.proofs.lemmas.List.{take-append-drop}
use Rattle.hp_word.specs.declared.place.Place.{Place}
use Rattle.hp_script.specs.declared.tree.Expr.{Expr}
use Rattle.hp_script.specs.declared.tree.Stmt.{Stmt}
use Rattle.hp_script.specs.declared.tree.Stmt.TheVariants as stmt
use Rattle.hp_script.specs.declared.tree.Stmt.TheViews as views
use Rattle.hp_script.specs.Mirror.{Block, done, assign, print, export, choose, loop, block_of, stmt_of}
use Rattle.hp_script.proofs.MirrorLemmas.{block_choose, block_loop, block_done}
use Rattle.hp_types.proofs.Lists.{at_place}

pub size : Block → ℕ
size done = 0
size (assign at x e rest) = suc (size rest)
size (print at e rest) = suc (size rest)
size (export at e rest) = suc (size rest)
size (choose at test body other rest) = suc (size body + size other + size rest)
size (loop at test body rest) = suc (size body + size rest)

abbrev pub size_of : List Stmt → ℕ
size_of block = size (block_of block)

size_first : (a : Stmt) (rest : Block) → size (stmt_of a rest) ≡ size (stmt_of a done) + size rest
unfolding size stmt_of
size_first (stmt.Assign at name x) rest = omega arith
size_first (stmt.Print at x) rest = omega arith
size_first (stmt.Export at x) rest = omega arith
size_first (stmt.If' at test p body q other) rest = omega arith
size_first (stmt.While' at test p body) rest = omega arith

size_both : (xs ys : List Stmt) → size_of (xs ++ ys) ≡ size_of xs + size_of ys
unfolding size block_of
size_both [] ys = omega arith
size_both (x ∷ xs) ys =
    let whole = size_first x (block_of (xs ++ ys)) in
    let part = size_first x (block_of xs) in
    let rest = size_both xs ys in
    omega (arith, whole, part, rest)

pub size_item : (xs : List Stmt) (i : ℕ) (x : Stmt) → i < length xs → x ≡ get_or xs i x → size_of (x ∷ []) ≤ size_of xs
size_item xs i x lt item =
    let whole : size_of xs ≡ size_of (take i xs) + size_of (x ∷ drop (i + 1) xs) = ap size_of (sym (take-append-drop i xs) ∙ ap (λ (ys : List Stmt). take i xs ++ ys) (at_place xs i x lt item)) ∙ size_both (take i xs) (x ∷ drop (i + 1) xs) in
    let parts : size_of (x ∷ drop (i + 1) xs) ≡ size_of (x ∷ []) + size_of (drop (i + 1) xs) = size_both (x ∷ []) (drop (i + 1) xs) in
    omega (arith, whole, parts)

pub size_choose : (s : Stmt) (at : Place) (test : Expr) (first second : List Stmt) → s ≡ views.If at test first second → size_of (s ∷ []) ≡ suc (size_of first + size_of second)
unfolding size
size_choose s at test first second is = rw (is, block_choose at test first second [], block_done) (omega arith)

pub size_loop : (s : Stmt) (at : Place) (test : Expr) (inner : List Stmt) → s ≡ views.While at test inner → size_of (s ∷ []) ≡ suc (size_of inner)
unfolding size
size_loop s at test inner is = rw (is, block_loop at test inner [], block_done) (omega arith)
