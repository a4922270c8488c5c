-- A program's own nodes, seen as a program.
use Rattle.std.specs.Prelude.{List, [], ◌∷◌}
use Rattle.hp_program.specs.Programs.{Prog, stop, plain, choose, loop}
use Rattle.hp_air.specs.declared.node.Node.{Node}
use Rattle.hp_air.specs.declared.node.Node.TheVariants as nodes
use Rattle.hp_air.specs.declared.node.Node.TheBlock.{Row_of-Node, end_of-Node, more_of-Node}
use Rattle.hp_air.specs.declared.what.Op.{Op}

unfoldable mutual
  -- a node, with the nodes behind it
  pub node_of : Node → Prog Op → Prog Op
  node_of (nodes.Do op) rest = plain op rest
  node_of (nodes.If' word p first q second) rest = choose word (row_of first) (row_of second) rest
  node_of (nodes.While' p test word q body) rest = loop (row_of test) word (row_of body) rest

  pub row_of : {n : _} → Row_of-Node n → Prog Op
  row_of end_of-Node = stop
  row_of (more_of-Node node rest) = node_of node (row_of rest)

-- the nodes of a body
unfoldable pub program_of : List Node → Prog Op
program_of [] = stop
program_of (node ∷ rest) = node_of node (program_of rest)
