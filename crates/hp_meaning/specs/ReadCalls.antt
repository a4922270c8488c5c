-- The calls of `read_csv` in a script, each by the number of its node, in the order of the text; such a call reads the
-- table with its place in this list.
use Rattle.std.specs.Prelude.{◌≡◌, ℕ, ◌==◌, Bool, not, ◌&&◌, if◌then◌else◌, List, [], ◌∷◌, ◌++◌, false, bytes_eq, codes, position, slice_get, Option, refl}
use Rattle.std.specs.Option.{option_and_then}
use Rattle.hp_word.specs.declared.place.Place.{Place}
use Rattle.hp_word.specs.declared.table.Table.{Table}
use Rattle.hp_script.specs.Mirror.{Tree, Args, Block, head, number, truth, text, variable, column, field, unary, binary, index, call, none, plain, range, lambda, named, done, assign, print, export, choose, loop}

abbrev pub is_read : List ℕ → (dotted : Bool) → Bool
is_read function dotted = not dotted && bytes_eq function (codes "read_csv")

-- the calls in an expression; the body of a lambda has none
unfoldable mutual
  pub reads_in : Tree → List ℕ
  reads_in (number h value) = []
  reads_in (truth h holds) = []
  reads_in (text h bytes) = []
  reads_in (variable h name) = []
  reads_in (column h name) = []
  reads_in (field h name of_it) = []
  reads_in (unary h op dotted x) = reads_in x
  reads_in (binary h op dotted x y) = reads_in x ++ reads_in y
  reads_in (index h x i) = reads_in x ++ reads_in i
  reads_in (call h function dotted xs) = (if is_read function dotted then h.id ∷ [] else []) ++ reads_among xs

  pub reads_among : Args → List ℕ
  reads_among none = []
  reads_among (plain x xs) = reads_in x ++ reads_among xs
  reads_among (range x y xs) = (reads_in x ++ reads_in y) ++ reads_among xs
  reads_among (lambda parameter x xs) = reads_among xs
  reads_among (named name at x xs) = reads_in x ++ reads_among xs

-- the calls in statements
unfoldable pub reads_of : Block → List ℕ
reads_of done = []
reads_of (assign at name x rest) = reads_in x ++ reads_of rest
reads_of (print at x rest) = reads_in x ++ reads_of rest
reads_of (export at x rest) = reads_in x ++ reads_of rest
reads_of (choose at test body other rest) = (reads_in test ++ (reads_of body ++ reads_of other)) ++ reads_of rest
reads_of (loop at test body rest) = (reads_in test ++ reads_of body) ++ reads_of rest

-- the table of the call with this number
unfoldable pub table_for : (reads : List ℕ) → (id : ℕ) → List Table → Option Table
table_for reads id tables = option_and_then (slice_get tables) (position (λ k. k == id) reads)

-- ---- a worked row

-- in `d = filter(read_csv("t", :c), x)` and `e = read_csv("u", :c)` the calls are the nodes 1 and 5
two_row : (at : Place) → reads_of (assign at (codes "d") (call (head 0 at) (codes "filter") false
    (plain (call (head 1 at) (codes "read_csv") false (plain (text (head 2 at) (codes "t")) (plain (column (head 3 at) (codes "c")) none))) (plain (variable (head 4 at) (codes "x")) none)))
    (assign at (codes "e") (call (head 5 at) (codes "read_csv") false (plain (text (head 6 at) (codes "u")) (plain (column (head 7 at) (codes "c")) none))) done)) ≡ 1 ∷ 5 ∷ []
unfolding reads_of reads_in reads_among
two_row at = refl
