-- Scripts that are equal but for places and the numbers of their nodes.
use Rattle.std.specs.Prelude.{ℕ, ℤ, Bool, List}
use Rattle.hp_word.specs.declared.place.Place.{Place}
use Rattle.hp_script.specs.declared.tree.UnOp.{UnOp}
use Rattle.hp_script.specs.declared.tree.BinOp.{BinOp}
use Rattle.hp_script.specs.declared.tree.Stmt.{Stmt}
use Rattle.hp_script.specs.declared.token.Token.{Token}
use Rattle.hp_script.specs.Lexemes.{lexed}
use Rattle.hp_script.specs.Tokens.{Divides, first_place, HasTokens}
use Rattle.hp_script.specs.Grammar.{Spells}
use Rattle.hp_script.specs.Mirror.{Head, Tree, Args, Block, number, truth, text, variable, column, field, unary, binary, index, call, none, plain, range, lambda, named, done, assign, print, export, choose, loop, block_of}

-- expressions, and arguments with those behind them, that are equal but for places and numbers
mutual
  pub data TreesAlike : Tree → Tree → Type 0 where
    numbers : {h g : Head} {value : ℤ} → TreesAlike (number h value) (number g value)
    truths : {h g : Head} {holds : Bool} → TreesAlike (truth h holds) (truth g holds)
    texts : {h g : Head} {bytes : List ℕ} → TreesAlike (text h bytes) (text g bytes)
    variables : {h g : Head} {name : List ℕ} → TreesAlike (variable h name) (variable g name)
    columns : {h g : Head} {name : List ℕ} → TreesAlike (column h name) (column g name)
    fields : {h g : Head} {name of_it : List ℕ} → TreesAlike (field h name of_it) (field g name of_it)
    unaries : {h g : Head} {op : UnOp} {dotted : Bool} {x y : Tree} → TreesAlike x y → TreesAlike (unary h op dotted x) (unary g op dotted y)
    binaries : {h g : Head} {op : BinOp} {dotted : Bool} {x y u v : Tree} → TreesAlike x u → TreesAlike y v → TreesAlike (binary h op dotted x y) (binary g op dotted u v)
    indices : {h g : Head} {x y u v : Tree} → TreesAlike x u → TreesAlike y v → TreesAlike (index h x y) (index g u v)
    calls : {h g : Head} {function : List ℕ} {dotted : Bool} {xs ys : Args} → ArgsAlike xs ys → TreesAlike (call h function dotted xs) (call g function dotted ys)

  pub data ArgsAlike : Args → Args → Type 0 where
    nones : ArgsAlike none none
    plains : {x y : Tree} {xs ys : Args} → TreesAlike x y → ArgsAlike xs ys → ArgsAlike (plain x xs) (plain y ys)
    ranges : {x y u v : Tree} {xs ys : Args} → TreesAlike x u → TreesAlike y v → ArgsAlike xs ys → ArgsAlike (range x y xs) (range u v ys)
    lambdas : {parameter : List ℕ} {x y : Tree} {xs ys : Args} → TreesAlike x y → ArgsAlike xs ys → ArgsAlike (lambda parameter x xs) (lambda parameter y ys)
    nameds : {name : List ℕ} {at place : Place} {x y : Tree} {xs ys : Args} → TreesAlike x y → ArgsAlike xs ys → ArgsAlike (named name at x xs) (named name place y ys)

-- statements, with those behind them, that are equal but for places and numbers
pub data AreAlike : Block → Block → Type 0 where
  dones : AreAlike done done
  assigns : {at place : Place} {name : List ℕ} {x y : Tree} {rest other : Block} → TreesAlike x y → AreAlike rest other → AreAlike (assign at name x rest) (assign place name y other)
  prints : {at place : Place} {x y : Tree} {rest other : Block} → TreesAlike x y → AreAlike rest other → AreAlike (print at x rest) (print place y other)
  exports : {at place : Place} {x y : Tree} {rest other : Block} → TreesAlike x y → AreAlike rest other → AreAlike (export at x rest) (export place y other)
  chooses : {at place : Place} {x y : Tree} {a b c d rest other : Block} → TreesAlike x y → AreAlike a c → AreAlike b d → AreAlike rest other
      → AreAlike (choose at x a b rest) (choose place y c d other)
  loops : {at place : Place} {x y : Tree} {a b rest other : Block} → TreesAlike x y → AreAlike a b → AreAlike rest other → AreAlike (loop at x a rest) (loop place y b other)

-- The bytes divide into tokens that spell a script like this one. There is no limit to their length.
pub record SpellsAlike (bytes : List ℕ) (body : List Stmt) : Type 0 where
  pub tokens : List Token
  pub divided : Divides 0 first_place bytes tokens
  pub other : List Stmt
  pub nodes : ℕ
  pub spelled : Spells (lexed bytes tokens) other nodes
  pub alike : AreAlike (block_of body) (block_of other)

-- The bytes spell a script like this one, if some source spells it.
abbrev pub SpellsAgain : (bytes : List ℕ) (body : List Stmt) (nodes : ℕ) → Type 0
SpellsAgain bytes body nodes = (source : List ℕ) (tokens : List Token) → HasTokens source tokens → Spells (lexed source tokens) body nodes → SpellsAlike bytes body
