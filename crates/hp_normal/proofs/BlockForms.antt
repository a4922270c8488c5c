-- The steps of statements by the code's own statements.
use Rattle.std.proofs.Common.{◌≡◌, ℕ, ◌+◌, ◌<◌, length, get_or, take, List, [], ◌∷◌, ◌++◌, refl, sym, ap, ◌∙◌}
use Rattle.std.proofs.lemmas.List.{take_more}
use Rattle.hp_word.specs.declared.name.Name.{Name}
use Rattle.hp_word.specs.declared.place.Place.{Place}
use Rattle.hp_script.specs.declared.tree.Expr.{Expr}
use Rattle.hp_script.specs.declared.tree.Stmt.{Stmt}
use Rattle.hp_script.specs.declared.tree.Stmt.TheVariants as stmt
use Rattle.hp_script.specs.declared.tree.Stmt.TheViews as stmts
use Rattle.hp_script.specs.Mirror.{Block, Tree, done, tree_of, block_of, stmt_of}
use Rattle.hp_script.proofs.MirrorLemmas.{block_done, block_choose, block_loop}
use Rattle.hp_program.specs.Programs.{Prog, stop, choose, loop, joined}
use Rattle.hp_air.specs.declared.what.Op.{Op}
use Rattle.hp_air.specs.declared.what.What.TheVariants as what
use Rattle.hp_air.specs.Unknowns.{Unknown, arrays_at, arrays_named}
use Rattle.hp_flat.specs.Homes.{Homes, slot_of, slots_of, word_of, word_named}
use Rattle.hp_flat.specs.Flat.{flat_at, flat_block, store_code, print_code, export_code, holds_truths}
use Rattle.hp_flat.specs.FlatCalls.{code_of}
use Rattle.hp_normal.proofs.ExprForms.{nothing_added}
use Rattle.hp_normal.proofs.StepLemmas.{joined_assoc, joined_stop}

pub no_statements : (h : Homes) → flat_block h (block_of []) ≡ stop
unfolding block_of flat_block
no_statements h = refl

last_one : (p q : Prog Op) → joined p (joined q stop) ≡ joined p q
last_one p q = ap (λ (t : Prog Op). joined p t) (joined_stop q)

pub block_assign : (h : Homes) (s : Stmt) (at : Place) (name : Name) (x : Expr) → s ≡ stmt.Assign at name x
    → flat_block h (block_of (s ∷ [])) ≡ joined (flat_at h (tree_of x)) (store_code h at name.bytes (tree_of x))
unfolding block_of stmt_of flat_block
block_assign h s at name x e = rw e (last_one _ _)

pub block_print : (h : Homes) (s : Stmt) (at : Place) (x : Expr) → s ≡ stmt.Print at x → flat_block h (block_of (s ∷ [])) ≡ joined (flat_at h (tree_of x)) (print_code h at (tree_of x))
unfolding block_of stmt_of flat_block
block_print h s at x e = rw e (last_one _ _)

pub block_export : (h : Homes) (s : Stmt) (at : Place) (x : Expr) → s ≡ stmt.Export at x → flat_block h (block_of (s ∷ [])) ≡ joined (flat_at h (tree_of x)) (export_code h at (tree_of x))
unfolding block_of stmt_of flat_block
block_export h s at x e = rw e (last_one _ _)

pub block_branch : (h : Homes) (s : Stmt) (at : Place) (test : Expr) (body other : List Stmt) → s ≡ stmts.If at test body other
    → flat_block h (block_of (s ∷ [])) ≡ joined (flat_at h (tree_of test)) (choose (word_of h (tree_of test)) (flat_block h (block_of body)) (flat_block h (block_of other)) stop)
unfolding flat_block
block_branch h s at test body other e = rw (e, block_choose at test body other [], block_done) refl

pub block_turns : (h : Homes) (s : Stmt) (at : Place) (test : Expr) (body : List Stmt) → s ≡ stmts.While at test body
    → flat_block h (block_of (s ∷ [])) ≡ loop (flat_at h (tree_of test)) (word_of h (tree_of test)) (flat_block h (block_of body)) stop
unfolding flat_block
block_turns h s at test body e = rw (e, block_loop at test body [], block_done) refl

two_behind : (p q r : Prog Op) → joined p (joined q r) ≡ joined (joined p (joined q stop)) r
two_behind p q r = ap (λ (t : Prog Op). joined p (joined t r)) (sym (joined_stop q)) ∙ sym (joined_assoc p (joined q stop) r)

branch_behind : (p : Prog Op) (w : ℕ) (a b r : Prog Op) → joined p (choose w a b r) ≡ joined (joined p (choose w a b stop)) r
unfolding joined
branch_behind p w a b r = sym (joined_assoc p (choose w a b stop) r)

-- a statement and those behind it
stmt_split : (h : Homes) (s : Stmt) (rest : Block) → flat_block h (stmt_of s rest) ≡ joined (flat_block h (stmt_of s done)) (flat_block h rest)
unfolding stmt_of flat_block joined
stmt_split h (stmt.Assign at name x) rest = two_behind _ _ (flat_block h rest)
stmt_split h (stmt.Print at x) rest = two_behind _ _ (flat_block h rest)
stmt_split h (stmt.Export at x) rest = two_behind _ _ (flat_block h rest)
stmt_split h (stmt.If' at test p body q other) rest = branch_behind _ _ _ _ (flat_block h rest)
stmt_split h (stmt.While' at test p body) rest = refl

block_last : (h : Homes) (s : Stmt) (body : List Stmt) → flat_block h (block_of (body ++ s ∷ [])) ≡ joined (flat_block h (block_of body)) (flat_block h (block_of (s ∷ [])))
unfolding block_of flat_block joined
block_last h s [] = refl
block_last h s (x ∷ body) =
    stmt_split h x (block_of (body ++ s ∷ []))
    ∙ ap (λ (t : Prog Op). joined (flat_block h (stmt_of x done)) t) (block_last h s body)
    ∙ sym (joined_assoc (flat_block h (stmt_of x done)) (flat_block h (block_of body)) _)
    ∙ ap (λ (t : Prog Op). joined t (flat_block h (stmt_of s done))) (sym (stmt_split h x (block_of body)))

-- one more statement
pub next_statement : (h : Homes) (old mid new : Prog Op) (body : List Stmt) (i : ℕ) (s : Stmt) → i < length body → s ≡ get_or body i s
    → mid ≡ joined old (flat_block h (block_of (take i body))) → new ≡ joined mid (flat_block h (block_of (s ∷ []))) → new ≡ joined old (flat_block h (block_of (take (i + 1) body)))
next_statement h old mid new body i s lt is m n =
    let whole : take (i + 1) body ≡ take i body ++ s ∷ [] = take_more body i s lt ∙ ap (λ (x : Stmt). take i body ++ x ∷ []) (sym is) in
    rw (n, m, whole, block_last h s (take i body)) (joined_assoc old _ _)

-- branches and loops of the same parts
pub same_branch : (v w : ℕ) (a b p q : Prog Op) → v ≡ w → a ≡ p → b ≡ q → choose v a b stop ≡ choose w p q stop
same_branch v w a b p q e f g = λ i. choose (e i) (f i) (g i) stop

pub same_loop : (v w : ℕ) (a b p q : Prog Op) → v ≡ w → a ≡ p → b ≡ q → loop a v b stop ≡ loop p w q stop
same_loop v w a b p q e f g = λ i. loop (f i) (e i) (g i) stop

-- every equation
pub ruleset statement_forms = (no_statements, block_assign, block_print, block_export, block_branch, block_turns, nothing_added)
