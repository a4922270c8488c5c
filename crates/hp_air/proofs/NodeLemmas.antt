-- A program's own nodes, one after the other.
use Rattle.std.proofs.Common.{◌≡◌, ℕ, List, [], ◌∷◌, ◌++◌, refl, sym, ap, ◌∙◌, append_assoc, append-nil}
use Rattle.hp_program.specs.Programs.{Prog, stop, plain, choose, loop, joined, operations}
use Rattle.hp_air.specs.declared.node.Node.{Node}
use Rattle.hp_air.specs.declared.node.Node.TheVariants as nodes
use Rattle.hp_air.specs.declared.node.Node.TheViews.{If, While}
use Rattle.hp_air.specs.declared.node.Node.TheBlock.{hidden-the_row-Node-0}
use Rattle.hp_air.specs.declared.what.Op.{Op}
use Rattle.hp_air.specs.Nodes.{node_of, row_of, program_of}

-- ---- nodes as a program

row_nodes : (body : List Node) → row_of (hidden-the_row-Node-0 body) ≡ program_of body
unfolding program_of row_of Rattle.hp_air.specs.declared.node.Node.TheBlock.hidden-the_row-Node-0 denote.Hole.Carrier.hidden
row_nodes [] = refl
row_nodes (node ∷ rest) = ap (node_of node) (row_nodes rest)

pub program_stop : program_of [] ≡ stop
unfolding program_of
program_stop = refl

pub program_plain : (op : Op) (rest : List Node) → program_of (nodes.Do op ∷ rest) ≡ plain op (program_of rest)
unfolding program_of node_of
program_plain op rest = refl

pub program_choose : (word : ℕ) (first second rest : List Node) → program_of (If word first second ∷ rest) ≡ choose word (program_of first) (program_of second) (program_of rest)
unfolding program_of node_of
program_choose word first second rest = rw (row_nodes first, row_nodes second) refl

pub program_loop : (test : List Node) (word : ℕ) (body rest : List Node) → program_of (While test word body ∷ rest) ≡ loop (program_of test) word (program_of body) (program_of rest)
unfolding program_of node_of
program_loop test word body rest = rw (row_nodes test, row_nodes body) refl

-- nodes behind others
node_joined : (node : Node) (p q : Prog Op) → node_of node (joined p q) ≡ joined (node_of node p) q
unfolding node_of joined
node_joined (nodes.Do op) p q = refl
node_joined (nodes.If' word a first b second) p q = refl
node_joined (nodes.While' a test word b body) p q = refl

pub nodes_joined : (first second : List Node) → program_of (first ++ second) ≡ joined (program_of first) (program_of second)
unfolding program_of joined
nodes_joined [] second = refl
nodes_joined (node ∷ first) second = ap (node_of node) (nodes_joined first second) ∙ node_joined node (program_of first) (program_of second)

-- ---- their operations

split_off : (p r : List Op) → p ++ r ≡ (p ++ []) ++ r
split_off p r = ap (λ (t : List Op). t ++ r) (sym (append-nil p))

-- a node and those behind it
node_split : (node : Node) (rest : Prog Op) → operations (node_of node rest) ≡ operations (node_of node stop) ++ operations rest
unfolding node_of operations
node_split (nodes.Do op) rest = refl
node_split (nodes.If' word p first q second) rest = split_off _ (operations rest)
node_split (nodes.While' p test word q body) rest = split_off _ (operations rest)

-- nodes and one more behind them
pub operations_last : (node : Node) (body : List Node) → operations (program_of (body ++ node ∷ [])) ≡ operations (program_of body) ++ operations (program_of (node ∷ []))
unfolding program_of operations
operations_last node [] = refl
operations_last node (x ∷ body) =
    node_split x (program_of (body ++ node ∷ []))
    ∙ ap (λ (t : List Op). operations (node_of x stop) ++ t) (operations_last node body)
    ∙ sym (append_assoc (operations (node_of x stop)) (operations (program_of body)) _)
    ∙ ap (λ (t : List Op). t ++ operations (node_of node stop)) (sym (node_split x (program_of body)))

pub operations_none : operations (program_of []) ≡ []
unfolding program_of operations
operations_none = refl

pub operations_plain : (op : Op) → operations (program_of (nodes.Do op ∷ [])) ≡ op ∷ []
unfolding program_of node_of operations
operations_plain op = refl

pub operations_choose : (word : ℕ) (first second : List Node) → operations (program_of (If word first second ∷ [])) ≡ operations (program_of first) ++ operations (program_of second)
unfolding operations
operations_choose word first second = rw (program_choose word first second [], program_stop) (append-nil _)

pub operations_loop : (test : List Node) (word : ℕ) (body : List Node) → operations (program_of (While test word body ∷ [])) ≡ operations (program_of test) ++ operations (program_of body)
unfolding operations
operations_loop test word body = rw (program_loop test word body [], program_stop) (append-nil _)
