use Rattle.std.proofs.Common.{sym, subst, suc, ◌<◌, ◌^◌}
use Rattle.std.specs.List.{All}
use Rattle.std.proofs.lemmas.List.{map-id}
use Rattle.hp_spmd.specs.Ranks.{AreNumbered}
use Rattle.hp_spmd.proofs.LockPost.{numbered_below, room_below}
use Rattle.hp_spmd.proofs.lockstep.post.post.Goals as goal

pub loop-to-init : goal.loop-to-init
loop-to-init c = sym (map-id c.args.stores.now)

pub deliver-requires-clause-numbered : goal.deliver-requires-clause-numbered
deliver-requires-clause-numbered c =
    subst AreNumbered (sym c.loop-to.invariant) (numbered_below c.loop-to.to c.args.stores.now c.requires.numbered)

pub end_posting-requires : goal.end_posting-requires
end_posting-requires c =
    record {
      room =
          subst (λ l. All (λ x. suc x.position < 2 ^ 32) l) (sym c.loop-to.invariant)
          (room_below c.loop-to.to (2 ^ 32) c.args.stores.now c.requires.room);
    }
