-- The first place of a script at which something is not built for ranks.
use Rattle.std.specs.Prelude.{nat_lt, ◌==◌, Bool, ◌&&◌, ◌||◌, if◌then◌else◌, List, [], ◌∷◌, ◌++◌, Option, Some, None}
use Rattle.hp_word.specs.declared.place.Place.{Place}
use Rattle.hp_script.specs.declared.typed.Shape.{Shape}
use Rattle.hp_script.specs.declared.typed.Typed.{Typed}
use Rattle.hp_script.specs.Mirror.{Tree, Args, Block, number, truth, text, variable, column, field, unary, binary, index, call, none, plain, range, lambda, named, done, assign, print, export, choose, loop, block_of}
use Rattle.hp_built.specs.declared.construct.Construct.{Construct}
use Rattle.hp_built.specs.declared.construct.Construct.TheVariants as construct
use Rattle.hp_air.specs.Unknowns.{number_of}
use Rattle.hp_built.specs.Constructs.{shape_at, construct_of, assigned_construct, printed_construct}

-- ---- places

-- by line, and then by column
abbrev pub is_before : Place → Place → Bool
is_before p q = nat_lt p.line q.line || ((p.line == q.line) && nat_lt p.col q.col)

-- the earlier of two places that may not be there
abbrev pub earlier : Option Place → Option Place → Option Place
earlier None b = b
earlier (Some p) None = Some p
earlier (Some p) (Some q) = if is_before q p then Some q else Some p

-- the least place of a list
unfoldable pub least : List Place → Option Place
least [] = None
least (p ∷ ps) = earlier (Some p) (least ps)

-- ---- constructs that are not built

-- which constructs are built
abbrev pub Built : Type 0
Built = Construct → Bool

-- the place of a construct that is not built
abbrev pub place_unless : Built → Place → Option Construct → List Place
place_unless built at None = []
place_unless built at (Some c) = if built c then [] else at ∷ []

-- the places of the parts of an expression that are not built, lambdas and all
unfoldable mutual
  pub unbuilt_in : Built → List (Option Shape) → Tree → List Place
  unbuilt_in built shapes (number h value) = place_unless built h.at (construct_of shapes (number h value))
  unbuilt_in built shapes (truth h holds) = place_unless built h.at (construct_of shapes (truth h holds))
  unbuilt_in built shapes (text h bytes) = place_unless built h.at (construct_of shapes (text h bytes))
  unbuilt_in built shapes (variable h name) = place_unless built h.at (construct_of shapes (variable h name))
  unbuilt_in built shapes (column h name) = place_unless built h.at (construct_of shapes (column h name))
  unbuilt_in built shapes (field h name of_it) = place_unless built h.at (construct_of shapes (field h name of_it))
  unbuilt_in built shapes (unary h op dotted x) = place_unless built h.at (construct_of shapes (unary h op dotted x)) ++ unbuilt_in built shapes x
  unbuilt_in built shapes (binary h op dotted x y) =
      place_unless built h.at (construct_of shapes (binary h op dotted x y)) ++ (unbuilt_in built shapes x ++ unbuilt_in built shapes y)
  unbuilt_in built shapes (index h x i) = place_unless built h.at (construct_of shapes (index h x i)) ++ (unbuilt_in built shapes x ++ unbuilt_in built shapes i)
  unbuilt_in built shapes (call h name dotted xs) = place_unless built h.at (construct_of shapes (call h name dotted xs)) ++ unbuilt_among built shapes xs

  pub unbuilt_among : Built → List (Option Shape) → Args → List Place
  unbuilt_among built shapes none = []
  unbuilt_among built shapes (plain x xs) = unbuilt_in built shapes x ++ unbuilt_among built shapes xs
  unbuilt_among built shapes (range x y xs) = (unbuilt_in built shapes x ++ unbuilt_in built shapes y) ++ unbuilt_among built shapes xs
  unbuilt_among built shapes (lambda parameter x xs) = unbuilt_in built shapes x ++ unbuilt_among built shapes xs
  unbuilt_among built shapes (named name at x xs) = unbuilt_in built shapes x ++ unbuilt_among built shapes xs

-- the places of a statement and of the expression that it holds
abbrev pub statement_places : Built → List (Option Shape) → Place → Option Construct → Tree → List Place
statement_places built shapes at c x = place_unless built at c ++ unbuilt_in built shapes x

abbrev pub shape_of : List (Option Shape) → Tree → Option Shape
shape_of shapes x = shape_at shapes (number_of x)

-- the places of the statements and expressions of a block that are not built
unfoldable pub unbuilt_of : Built → List (Option Shape) → Block → List Place
unbuilt_of built shapes done = []
unbuilt_of built shapes (assign at name x rest) = statement_places built shapes at (assigned_construct (shape_of shapes x)) x ++ unbuilt_of built shapes rest
unbuilt_of built shapes (print at x rest) = statement_places built shapes at (printed_construct (shape_of shapes x)) x ++ unbuilt_of built shapes rest
unbuilt_of built shapes (export at x rest) = statement_places built shapes at (Some construct.Export) x ++ unbuilt_of built shapes rest
unbuilt_of built shapes (choose at test body other rest) =
    (statement_places built shapes at (Some construct.If) test ++ (unbuilt_of built shapes body ++ unbuilt_of built shapes other)) ++ unbuilt_of built shapes rest
unbuilt_of built shapes (loop at test body rest) =
    (statement_places built shapes at (Some construct.While) test ++ unbuilt_of built shapes body) ++ unbuilt_of built shapes rest

-- the least place of an expression or a statement of a script that is not built, where there is one
unfoldable pub first_unbuilt : Built → Typed → Option Place
first_unbuilt built typed = least (unbuilt_of built typed.shapes (block_of typed.script.body))
