-- The products so far.
use Rattle.std.proofs.Common.{◌≡◌}
use Rattle.hp_kernels.proofs.ProductLemmas.{dot_so_far}
use Rattle.hp_kernels.proofs.products.dot_product.Given as goal

abbrev pub invariant-loop-i : goal.invariant-loop-i
invariant-loop-i l = l.total ≡ dot_so_far l.xs l.ys l.i
