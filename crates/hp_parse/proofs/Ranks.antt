-- How the functions of expressions come before one another where they look at one token.
use Rattle.std.proofs.Common.{◌≡◌, ◌≤◌, ℕ, ◌+◌, arith, Option, Some, None, refl}
use Rattle.hp_script.specs.declared.tree.Level.{Level}
use Rattle.hp_script.specs.declared.tree.Level.TheVariants.{Disjunction, Conjunction, Comparison, Sum, Product}
use Rattle.hp_script.specs.Grammar.{tighter}

-- the rank of an operand
abbrev pub rank : Level → ℕ
rank Disjunction = 11
rank Conjunction = 9
rank Comparison = 7
rank Sum = 5
rank Product = 3

pub rank_tighter : (level looser : Level) → tighter looser ≡ Some level → rank level + 2 ≡ rank looser
rank_tighter level Disjunction e = let same : Conjunction ≡ level = cc in cc
rank_tighter level Conjunction e = let same : Comparison ≡ level = cc in cc
rank_tighter level Comparison e = let same : Sum ≡ level = cc in cc
rank_tighter level Sum e = let same : Product ≡ level = cc in cc
rank_tighter level Product e = absurd cc

pub rank_tightest : (level : Level) → tighter level ≡ None → rank level ≡ 3
rank_tightest Disjunction e = absurd cc
rank_tightest Conjunction e = absurd cc
rank_tightest Comparison e = absurd cc
rank_tightest Sum e = absurd cc
rank_tightest Product e = refl

pub rank_bounds : (level : Level) → rank level ≤ 11
rank_bounds Disjunction = omega arith
rank_bounds Conjunction = omega arith
rank_bounds Comparison = omega arith
rank_bounds Sum = omega arith
rank_bounds Product = omega arith
