use Rattle.std.proofs.Common.{get_or}
use Rattle.std.proofs.lemmas.List.{get_or_default}
use Rattle.hp_parfor.specs.declared.parfor.Halo.{Halo}
use Rattle.hp_lowering.proofs.LoopCodes.{halo_more, next_number, no_halo}
use Rattle.hp_lowering.proofs.loops.halos_at.Goals as goal

pub loop-halo-preserved : goal.loop-halo-preserved
loop-halo-preserved c =
    let halo : Halo = get_or c.args.halos.now c.loop-halo.halo-index no_halo in (
      next_number c.loop-halo.halo-index c.loop-halo.number c.in_ok-number.number c.loop-halo.invariant.0 c.in_ok-number.ensures,
      halo_more c.args.halos.now c.loop-halo.halo-index c.loop-halo.number halo c.loop-halo.made c.push.new.self c.loop-halo-test.true
          (get_or_default c.args.halos.now c.loop-halo.halo-index no_halo halo c.loop-halo-test.true) c.loop-halo.invariant.0 c.loop-halo.invariant.1 c.in_ok-push.ensures.ok,
    )
