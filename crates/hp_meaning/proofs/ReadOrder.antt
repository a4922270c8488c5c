-- The calls that read find their tables: their numbers rise, so that each stands at its own place.
use Rattle.std.proofs.Common.{◌≡◌, ℕ, zero, suc, ◌+◌, ◌≤◌, ◌==◌, eqb, nat_lt, Bool, true, false, cond, List, [], ◌∷◌, ◌++◌, length, slice_get, Some, None, option_and_then, refl, sym, subst, ◌∙◌, append_assoc, arith, one-add, eq-eqb, eqb-true}
use Rattle.std.specs.List.{range_with_len, position_or_len}
use Rattle.hp_word.specs.declared.table.Table.{Table}
use Rattle.hp_script.specs.declared.typed.ReadSpec.{ReadSpec}
use Rattle.hp_script.specs.Mirror.{Tree, Args, Block, none, plain, range, lambda, named, done, assign, print, export, choose, loop}
use Rattle.hp_script.specs.Mirror as trees
use Rattle.hp_script.specs.Nodes.{nodes_in, nodes_in_args, nodes_of}
use Rattle.hp_meaning.specs.Fitting.{Serves, serves}
use Rattle.hp_meaning.specs.ReadCalls.{is_read, reads_in, reads_among, reads_of, table_for}
use Rattle.hp_meaning.proofs.Parts.{Found, Supplies}
use Rattle.hp_script.proofs.TestLemmas.{and_left, and_right}

-- ---- some of a list, in its order

data Among : List ℕ → List ℕ → Type 0 where
  nothing : Among [] []
  passes : {xs ys : List ℕ} (y : ℕ) → Among xs ys → Among xs (y ∷ ys)
  takes : {xs ys : List ℕ} (x : ℕ) → Among xs ys → Among (x ∷ xs) (x ∷ ys)

none_among : (ys : List ℕ) → Among [] ys
none_among [] = nothing
none_among (y ∷ ys) = passes y (none_among ys)

both_among : {xs ys vs ws : List ℕ} → Among xs ys → Among vs ws → Among (xs ++ vs) (ys ++ ws)
both_among nothing k = k
both_among (passes y h) k = passes y (both_among h k)
both_among (takes x h) k = takes x (both_among h k)

own_among : {xs ys : List ℕ} (is : Bool) (id : ℕ) → Among xs ys → Among (cond is (id ∷ []) [] ++ xs) (id ∷ ys)
own_among true id h = takes id h
own_among false id h = passes id h

mutual
  unfolding reads_in reads_among

  tree_among : (x : Tree) → Among (reads_in x) (nodes_in x)
  tree_among (trees.number h z) = none_among _
  tree_among (trees.truth h holds) = none_among _
  tree_among (trees.text h bytes) = none_among _
  tree_among (trees.variable h x) = none_among _
  tree_among (trees.column h c) = none_among _
  tree_among (trees.field h x c) = none_among _
  tree_among (trees.unary h op dotted x) = passes h.id (tree_among x)
  tree_among (trees.binary h op dotted x y) = both_among (tree_among x) (passes h.id (tree_among y))
  tree_among (trees.index h x i) = both_among (tree_among x) (passes h.id (tree_among i))
  tree_among (trees.call h name dotted xs) = own_among (is_read name dotted) h.id (args_among xs)

  args_among : (xs : Args) → Among (reads_among xs) (nodes_in_args xs)
  args_among none = nothing
  args_among (plain x xs) = both_among (tree_among x) (args_among xs)
  args_among (range x y xs) = both_among (both_among (tree_among x) (tree_among y)) (args_among xs)
  args_among (lambda p x xs) = both_among (none_among (nodes_in x)) (args_among xs)
  args_among (named name at x xs) = both_among (tree_among x) (args_among xs)

block_among : (b : Block) → Among (reads_of b) (nodes_of b)
unfolding reads_of nodes_of
block_among done = nothing
block_among (assign at x tree rest) = both_among (tree_among tree) (block_among rest)
block_among (print at tree rest) = both_among (tree_among tree) (block_among rest)
block_among (export at tree rest) = both_among (tree_among tree) (block_among rest)
block_among (choose at test body other rest) =
    both_among (subst (Among (reads_in test ++ (reads_of body ++ reads_of other))) (sym (append_assoc (nodes_in test) (nodes_of body) (nodes_of other))) (both_among (tree_among test) (both_among (block_among body) (block_among other)))) (block_among rest)
block_among (loop at test body rest) = both_among (both_among (tree_among test) (block_among body)) (block_among rest)

-- ---- numbers that rise

abbrev Rise : ℕ → List ℕ → Type 0
Rise a [] = Unit {0}
Rise a (x ∷ xs) = (a ≤ x) × Rise (suc x) xs

rise_from : (a b : ℕ) (xs : List ℕ) → a ≤ b → Rise b xs → Rise a xs
rise_from a b [] e h = tt
rise_from a b (x ∷ xs) e h = (omega (arith, e, h.0), h.1)

rise_among : {xs ys : List ℕ} (a : ℕ) → Among xs ys → Rise a ys → Rise a xs
rise_among a nothing h = tt
rise_among a (passes {xs = xs} y k) h = rise_from a (suc y) xs (omega (arith, h.0)) (rise_among (suc y) k h.1)
rise_among a (takes x k) h = (h.0, rise_among (suc x) k h.1)

range_rises : (a n : ℕ) → Rise a (range_with_len a n)
range_rises a zero = tt
range_rises a (suc n) = (omega arith, subst (λ b. Rise b (range_with_len (a + 1) n)) (omega arith) (range_rises (a + 1) n))

-- ---- tables at their places

some_length : (len : ℕ) → nat_lt 0 (suc len) ≡ true
some_length len = grind arith

at_front : (id : ℕ) (ids : List ℕ) (table : Table) (tables : List Table) → table_for (id ∷ ids) id (table ∷ tables) ≡ Some table
unfolding table_for
at_front id ids table tables = rw (eq-eqb id id refl, some_length (length ids)) refl

one_less : (n len : ℕ) → nat_lt (1 + n) (suc len) ≡ nat_lt n len
one_less n len = grind arith

next_table : (n : ℕ) (below : Bool) (table : Table) (tables : List Table) → option_and_then (slice_get (table ∷ tables)) (cond below (Some (1 + n)) None) ≡ option_and_then (slice_get tables) (cond below (Some n) None)
next_table n true table tables = rw one-add refl
next_table n false table tables = refl

behind_front : (id other : ℕ) (ids : List ℕ) (table : Table) (tables : List Table) → eqb id other ≡ false → table_for (id ∷ ids) other (table ∷ tables) ≡ table_for ids other tables
unfolding table_for
behind_front id other ids table tables e =
    rw (e, one_less (position_or_len (λ k. k == other) ids) (length ids)) (next_table (position_or_len (λ k. k == other) ids) (nat_lt (position_or_len (λ k. k == other) ids) (length ids)) table tables)

found_behind : (id other count : ℕ) (ids : List ℕ) (table : Table) (tables : List Table) → eqb id other ≡ false → Found (λ k. table_for ids k tables) other count → Found (λ k. table_for (id ∷ ids) k (table ∷ tables)) other count
found_behind id other count ids table tables e h = record { table = h.table; found = behind_front id other ids table tables e ∙ h.found; wide = h.wide }

different : (a b : ℕ) → suc a ≤ b → eqb a b ≡ false
different a b h = grind arith

supplied_behind : (id : ℕ) (ids own : List ℕ) (table : Table) (tables : List Table) (files : List ReadSpec) (a : ℕ) → suc id ≤ a → Rise a own → Supplies (λ k. table_for ids k tables) own files
    → Supplies (λ k. table_for (id ∷ ids) k (table ∷ tables)) own files
supplied_behind id ids [] table tables files a e rise h = tt
supplied_behind id ids (x ∷ own) table tables [] a e rise h = tt
supplied_behind id ids (x ∷ own) table tables (file ∷ files) a e rise h =
    (found_behind id x (length file.columns) ids table tables (different id x (omega (arith, e, rise.0))) h.0, supplied_behind id ids own table tables files (suc x) (omega (arith, e, rise.0)) rise.1 h.1)

-- calls whose numbers rise find the tables in their order
pub supplied : (a : ℕ) (ids : List ℕ) (tables : List Table) (files : List ReadSpec) → Rise a ids → Serves tables files → Supplies (λ id. table_for ids id tables) ids files
supplied a [] tables files rise h = tt
supplied a (id ∷ ids) tables [] rise h = tt
supplied a (id ∷ ids) [] (file ∷ files) rise h = absurd cc
supplied a (id ∷ ids) (table ∷ tables) (file ∷ files) rise h =
    let wide = eqb-true (length table.columns) (length file.columns) (and_left (length table.columns == length file.columns) (serves tables files) h) in (
      record { table = table; found = at_front id ids table tables; wide = wide },
      supplied_behind id ids ids table tables files (suc id) (omega arith) rise.1 (supplied (suc id) ids tables files rise.1 (and_right (length table.columns == length file.columns) (serves tables files) h)),
    )

-- where the numbers of a script's expressions are those from 0 on, those of its calls rise
pub reads_rise : (b : Block) (n : ℕ) → nodes_of b ≡ range_with_len 0 n → Rise 0 (reads_of b)
reads_rise b n e = rise_among 0 (block_among b) (subst (Rise 0) (sym e) (range_rises 0 n))
