-- At first all constraints are linked, and all unknowns lie in blocks.
use Rattle.std.proofs.Common.{ℕ, replicate, sym, subst}
use Rattle.std.specs.List.{range_with_len}
use Rattle.hp_lattice.specs.declared.dist.Dist.TheVariants.{Block}
use Rattle.hp_links.specs.Boards.{board}
use Rattle.hp_infer.specs.Systems.{problem}
use Rattle.hp_infer.specs.Progress.{IsWork}
use Rattle.hp_infer.proofs.TurnLemmas.{work_starts}
use Rattle.hp_infer.proofs.infer.Work.new.Goals as goal

pub invariant_of-result : goal.invariant_of-result
invariant_of-result c = rw (c.in_ok-system.ensures, c.from_vec-dists.ensures, c.in_ok-vec.ensures.items_if_clones_equal (λ y same. same), c.in_ok-board.ensures, c.len.ensures)
    (subst (λ (n : ℕ). IsWork (problem c.args.constraints.items c.args.unknowns) (replicate c.args.unknowns Block) (board n (range_with_len 0 n))) (sym c.args.constraints.ok.0) (work_starts c.args.constraints.items c.args.unknowns))
