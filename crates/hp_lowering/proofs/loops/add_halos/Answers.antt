use Rattle.std.proofs.Common.{get_or}
use Rattle.std.proofs.lemmas.List.{get_or_default}
use Rattle.hp_parfor.specs.declared.parfor.Halo.{Halo}
use Rattle.hp_lowering.proofs.LoopCodes.{halo_move_more, next_number, no_halo}
use Rattle.hp_lowering.proofs.loops.add_halos.Goals as goal

pub loop-near-preserved : goal.loop-near-preserved
loop-near-preserved c =
    let near : Halo = get_or c.args.halos.now c.loop-near.near-index no_halo in (
      next_number c.loop-near.near-index c.loop-near.number c.in_ok-number.number c.loop-near.invariant.0 c.in_ok-number.ensures,
      halo_move_more c.args.halos.now c.loop-near.near-index c.loop-near.number near c.args.list.now c.loop-near.list c.in_ok-code.code c.append.new.list c.loop-near-test.true
          (get_or_default c.args.halos.now c.loop-near.near-index no_halo near c.loop-near-test.true) c.loop-near.invariant.0 c.loop-near.invariant.1 c.in_ok-code.ensures.exact c.in_ok-append.ensures,
    )
