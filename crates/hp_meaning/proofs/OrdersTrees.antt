-- An expression means the same under two lists of orders, as long as they agree, and executes few joins and aggregates.
use Rattle.std.proofs.Common.{◌≡◌, Bool, true, false, not, ◌&&◌, cond, List, Option, Some, None, refl}
use Rattle.hp_word.specs.declared.place.Place.{Place}
use Rattle.hp_script.specs.declared.function.Function.{Function}
use Rattle.hp_script.specs.declared.function.Function.TheVariants as functions
use Rattle.hp_script.specs.declared.tree.BinOp.{BinOp}
use Rattle.hp_script.specs.Functions.{function_named}
use Rattle.hp_script.specs.Mirror.{Head, Tree, Args, none, plain, range, lambda, named}
use Rattle.hp_script.specs.Mirror as trees
use Rattle.hp_meaning.specs.declared.seen.Seen.{Seen}
use Rattle.hp_meaning.specs.declared.value.Value.{Value}
use Rattle.hp_meaning.specs.ListRules.{indexed}
use Rattle.hp_meaning.specs.MatrixRules.{flipped_value}
use Rattle.hp_meaning.specs.Operands.{as_truth}
use Rattle.hp_meaning.specs.OrderLaws.{takes_order, joins_none_in, joins_none_among}
use Rattle.hp_meaning.specs.Outcomes.{tick}
use Rattle.hp_meaning.specs.Scopes.{Scope}
use Rattle.hp_meaning.specs.ValueOf.{Meaning, Part, value, parts, flipped, transposed_part, is_product, operator_value, lazily, strict_operands, lazy_operands, flipped_operands, operated, index_operands}
use Rattle.hp_meaning.specs.WordRules.{is_lazy, decides, unary_value}
use Rattle.hp_meaning.proofs.OrdersAlike.{Twins, left, right, Alike, wrong, alike_called, alike_ticked, followed_alike, needed_alike, ended_alike}
use Rattle.hp_meaning.proofs.OrdersCalls.{Same, SameParts, no_parts, a_plain, a_range, a_lambda, a_named, same_value, alike_if, both_alike, called_alike}
use Rattle.hp_script.proofs.TestLemmas.{and_left, and_right}

-- ---- operators

-- what is transposed on the right of a product
pub data SameFlipped (t : Twins) : Option Meaning → Option Meaning → Type 0 where
  no_flipped : SameFlipped t None None
  flips : {m k : Meaning} → Same t m k → SameFlipped t (Some m) (Some k)

flipped_if : {t : Twins} (holds : Bool) {a b : Option Meaning} → SameFlipped t a b → SameFlipped t (cond holds a None) (cond holds b None)
flipped_if true h = h
flipped_if false h = no_flipped

transposed_same : {t : Twins} {ps qs : List Part} (found : Option Function) → SameParts t ps qs → SameFlipped t (transposed_part found ps) (transposed_part found qs)
transposed_same (Some functions.Transpose) (a_plain x no_parts) = flips x
transposed_same _ _ = no_flipped

lazily_alike : {t : Twins} {m k : Meaning} (op : BinOp) (a : Value) (s : Scope) (n : Seen) → Same t m k → Alike t 0 n Value (lazily op a m s n) (lazily op a k s n)
unfolding lazily
lazily_alike op a s n y =
    needed_alike (as_truth a) (λ x. alike_if (decides op x) (same_value _ n) (followed_alike _ _ (y.alike s n) (λ b n. needed_alike (as_truth b) (λ z. same_value _ n))))

operated_alike : {t : Twins} {m k u v : Meaning} {a b : Option Meaning} (at : Place) (op : BinOp) (dotted : Bool) (s : Scope) (n : Seen) → Same t m k → Same t u v → SameFlipped t a b
    → Alike t 0 n Value (operated at op dotted m u a s n) (operated at op dotted k v b s n)
unfolding operated strict_operands lazy_operands flipped_operands
operated_alike at op dotted s n x y (flips z) = both_alike s n (flipped_value at) x z
operated_alike at op dotted s n x y no_flipped =
    alike_if (is_lazy op) (alike_if dotted wrong (followed_alike _ _ (x.alike s n) (λ a n. lazily_alike op a s n y))) (both_alike s n (operator_value at op dotted) x y)

-- ---- trees

-- an expression is free of joins and aggregates, where the script is
abbrev pub FreeAs : Twins → Bool → Type 0
FreeAs t found = t.free ≡ true → found ≡ true

pub free_left : (t : Twins) (a b : Bool) → FreeAs t (a && b) → FreeAs t a
free_left t a b h free = and_left a b (h free)

pub free_right : (t : Twins) (a b : Bool) → FreeAs t (a && b) → FreeAs t b
free_right t a b h free = and_right a b (h free)

opposite : (b : Bool) → not b ≡ true → b ≡ false
opposite true e = absurd cc
opposite false e = refl

mutual
  unfolding value parts flipped joins_none_in joins_none_among index_operands

  pub tree_alike : (t : Twins) (x : Tree) (s : Scope) (n : Seen) → FreeAs t (joins_none_in x) → Alike t 0 n Value (value (left t) x s n) (value (right t) x s n)
  tree_alike t (trees.number h z) s n free = alike_ticked (same_value _ (tick n))
  tree_alike t (trees.truth h holds) s n free = alike_ticked (same_value _ (tick n))
  tree_alike t (trees.text h bytes) s n free = wrong
  tree_alike t (trees.variable h name) s n free = alike_ticked (ended_alike _ (tick n))
  tree_alike t (trees.column h name) s n free = alike_ticked (ended_alike _ (tick n))
  tree_alike t (trees.field h name of_it) s n free = alike_ticked (ended_alike _ (tick n))
  tree_alike t (trees.unary h op dotted x) s n free =
      alike_ticked (followed_alike _ _ (tree_alike t x s (tick n) free) (λ a n. ended_alike (unary_value op dotted a) n))
  tree_alike t (trees.binary h op dotted x y) s n free =
      let rest = free_right t (joins_none_in x) (joins_none_in y) free in
      alike_ticked (operated_alike h.at op dotted s (tick n)
      (record { alike = λ s n. tree_alike t x s n (free_left t (joins_none_in x) (joins_none_in y) free) })
      (record { alike = λ s n. tree_alike t y s n rest })
      (flipped_if (is_product op dotted) (flipped_same t y rest)))
  tree_alike t (trees.index h x i) s n free =
      alike_ticked (both_alike s (tick n) (indexed h.at)
      (record { alike = λ s n. tree_alike t x s n (free_left t (joins_none_in x) (joins_none_in i) free) })
      (record { alike = λ s n. tree_alike t i s n (free_right t (joins_none_in x) (joins_none_in i) free) }))
  tree_alike t (trees.call h function dotted xs) s n free =
      let own = not (takes_order (function_named dotted function)) in
      alike_called (called_alike t (function_named dotted function) h dotted s (tick n) (λ f. opposite _ (free_left t own (joins_none_among xs) free f)) (parts_same t xs (free_right t own (joins_none_among xs) free)))

  parts_same : (t : Twins) (xs : Args) → FreeAs t (joins_none_among xs) → SameParts t (parts (left t) xs) (parts (right t) xs)
  parts_same t none free = no_parts
  parts_same t (plain x xs) free =
      a_plain (record { alike = λ s n. tree_alike t x s n (free_left t (joins_none_in x) (joins_none_among xs) free) }) (parts_same t xs (free_right t (joins_none_in x) (joins_none_among xs) free))
  parts_same t (range x y xs) free =
      let rest = free_right t (joins_none_in x) (joins_none_in y && joins_none_among xs) free in
      a_range (record { alike = λ s n. tree_alike t x s n (free_left t (joins_none_in x) (joins_none_in y && joins_none_among xs) free) })
      (record { alike = λ s n. tree_alike t y s n (free_left t (joins_none_in y) (joins_none_among xs) rest) })
      (parts_same t xs (free_right t (joins_none_in y) (joins_none_among xs) rest))
  parts_same t (lambda p x xs) free = a_lambda (parts_same t xs free)
  parts_same t (named name at x xs) free =
      a_named (record { alike = λ s n. tree_alike t x s n (free_left t (joins_none_in x) (joins_none_among xs) free) }) (parts_same t xs (free_right t (joins_none_in x) (joins_none_among xs) free))

  flipped_same : (t : Twins) (x : Tree) → FreeAs t (joins_none_in x) → SameFlipped t (flipped (left t) x) (flipped (right t) x)
  flipped_same t (trees.call h function dotted xs) free =
      transposed_same (function_named dotted function) (parts_same t xs (free_right t (not (takes_order (function_named dotted function))) (joins_none_among xs) free))
  flipped_same t _ free = no_flipped
