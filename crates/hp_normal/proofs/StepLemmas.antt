-- Nodes behind nodes, as programs.
use Rattle.std.proofs.Common.{◌≡◌, ℕ, List, [], ◌∷◌, ◌++◌, refl, sym, ap, ◌∙◌}
use Rattle.hp_program.specs.Programs.{Prog, stop, plain, choose, loop, joined}
use Rattle.hp_air.specs.declared.node.Node.{Node}
use Rattle.hp_air.specs.declared.node.Node.TheVariants as nodes
use Rattle.hp_air.specs.declared.node.Node.TheViews as views
use Rattle.hp_air.specs.declared.node.Node.TheBlock.{hidden-the_row-Node-0}
use Rattle.hp_air.specs.declared.what.Op.{Op}
use Rattle.hp_air.specs.Nodes.{node_of, row_of, program_of}

row_program : (ns : List Node) → row_of (hidden-the_row-Node-0 ns) ≡ program_of ns
unfolding node_of row_of program_of Rattle.hp_air.specs.declared.node.Node.TheBlock.hidden-the_row-Node-0 denote.Hole.Carrier.hidden
row_program [] = refl
row_program (n ∷ ns) = ap (node_of n) (row_program ns)

-- a node and the nodes behind it
node_then : (n : Node) (p : Prog Op) → node_of n p ≡ joined (node_of n stop) p
unfolding node_of joined
node_then (nodes.Do op) p = refl
node_then (nodes.If' word a first b second) p = refl
node_then (nodes.While' a test word b body) p = refl

pub joined_stop : (p : Prog Op) → joined p stop ≡ p
unfolding joined
joined_stop stop = refl
joined_stop (plain op p) = ap (plain op) (joined_stop p)
joined_stop (choose w first second p) = ap (choose w first second) (joined_stop p)
joined_stop (loop test w body p) = ap (loop test w body) (joined_stop p)

pub joined_assoc : (p q r : Prog Op) → joined (joined p q) r ≡ joined p (joined q r)
unfolding joined
joined_assoc stop q r = refl
joined_assoc (plain op p) q r = ap (plain op) (joined_assoc p q r)
joined_assoc (choose w first second p) q r = ap (choose w first second) (joined_assoc p q r)
joined_assoc (loop test w body p) q r = ap (loop test w body) (joined_assoc p q r)

pub behind_nodes : (ns : List Node) (n : Node) → program_of (ns ++ n ∷ []) ≡ joined (program_of ns) (node_of n stop)
unfolding program_of joined
behind_nodes [] n = refl
behind_nodes (m ∷ ns) n =
    ap (node_of m) (behind_nodes ns n) ∙ node_then m (joined (program_of ns) (node_of n stop))
    ∙ sym (joined_assoc (node_of m stop) (program_of ns) (node_of n stop)) ∙ ap (λ (p : Prog Op). joined p (node_of n stop)) (sym (node_then m (program_of ns)))

pub one_more : (ns : List Node) (op : Op) → program_of (ns ++ nodes.Do op ∷ []) ≡ joined (program_of ns) (plain op stop)
unfolding node_of
one_more ns op = behind_nodes ns (nodes.Do op)

pub one_branch : (ns : List Node) (word : ℕ) (first second : List Node) → program_of (ns ++ views.If word first second ∷ []) ≡ joined (program_of ns) (choose word (program_of first) (program_of second) stop)
unfolding node_of
one_branch ns word first second = behind_nodes ns (views.If word first second) ∙ rw (row_program first, row_program second) refl

pub one_loop : (ns : List Node) (test : List Node) (word : ℕ) (body : List Node) → program_of (ns ++ views.While test word body ∷ []) ≡ joined (program_of ns) (loop (program_of test) word (program_of body) stop)
unfolding node_of
one_loop ns test word body = behind_nodes ns (views.While test word body) ∙ rw (row_program test, row_program body) refl
