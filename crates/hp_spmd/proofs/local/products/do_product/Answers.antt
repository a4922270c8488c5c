-- Sides that do not meet, or too many cells, trap.
use Rattle.std.proofs.Common.{refl, sym, subst}
use Rattle.hp_spmd.specs.declared.local.Local.TheVariants.{Trapped}
use Rattle.hp_spmd.specs.Next.{Tells, lifted}
use Rattle.hp_spmd.specs.Store.{data_of}
use Rattle.hp_spmd.proofs.MatrixNext.{product_trapped}
use Rattle.hp_spmd.proofs.local.products.do_product.Goals as goal

pub returns-in-Some-clause-told : goal.returns-in-Some-clause-told
returns-in-Some-clause-told c =
    let x = c.args.store.now in
    subst (λ next. Tells (lifted next x) (Trapped c.args.at c.in-Some.kind) x x)
    (sym (product_trapped c.args.to.now c.args.left c.args.right c.args.flip c.args.at (data_of x) c.in-Some.kind (sym c.in-Some.ensures))) (refl, refl)
