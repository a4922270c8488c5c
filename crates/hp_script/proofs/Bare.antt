-- Scripts without their places and the numbers of their nodes. Nobody need believe it: Alike says which scripts are equal
-- but for these.
use Rattle.hp_word.specs.declared.place.Place.{Place}
use Rattle.hp_script.specs.Mirror.{Head, Tree, Args, Block, head, number, truth, text, variable, column, field, unary, binary, index, call, none, plain, range, lambda, named, done, assign, print, export, choose, loop}

abbrev pub no_place : Place
no_place = record { line = 0; col = 0 }

-- the same number and place for every node
abbrev pub no_head : Head
no_head = head 0 no_place

-- an expression without its places and numbers
abbrev mutual
  pub bare : Tree → Tree
  bare (number h value) = number no_head value
  bare (truth h holds) = truth no_head holds
  bare (text h bytes) = text no_head bytes
  bare (variable h name) = variable no_head name
  bare (column h name) = column no_head name
  bare (field h name of_it) = field no_head name of_it
  bare (unary h op dotted x) = unary no_head op dotted (bare x)
  bare (binary h op dotted x y) = binary no_head op dotted (bare x) (bare y)
  bare (index h x i) = index no_head (bare x) (bare i)
  bare (call h function dotted xs) = call no_head function dotted (bare_args xs)

  pub bare_args : Args → Args
  bare_args none = none
  bare_args (plain x xs) = plain (bare x) (bare_args xs)
  bare_args (range x y xs) = range (bare x) (bare y) (bare_args xs)
  bare_args (lambda parameter x xs) = lambda parameter (bare x) (bare_args xs)
  bare_args (named name at x xs) = named name no_place (bare x) (bare_args xs)

-- statements without their places and numbers
unfoldable pub bare_block : Block → Block
bare_block done = done
bare_block (assign at name x rest) = assign no_place name (bare x) (bare_block rest)
bare_block (print at x rest) = print no_place (bare x) (bare_block rest)
bare_block (export at x rest) = export no_place (bare x) (bare_block rest)
bare_block (choose at test body other rest) = choose no_place (bare test) (bare_block body) (bare_block other) (bare_block rest)
bare_block (loop at test body rest) = loop no_place (bare test) (bare_block body) (bare_block rest)
