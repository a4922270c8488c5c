-- One more number.
use Rattle.std.proofs.Common.{◌≡◌, ◌+ℤ◌, pos, w64, to_z, of_z, arith}
use Rattle.std.proofs.lemmas.Int.{ints}
use Rattle.hp_spmd.proofs.GatherLemmas.{made_more}
use Rattle.hp_spmd.proofs.local.dealing.numbers_from.Goals as goal

pub loop-i-preserved : goal.loop-i-preserved
loop-i-preserved c =
    let first = to_z w64 (of_z w64 c.args.first) in
    let next : to_z w64 (of_z w64 (first +ℤ to_z w64 c.loop-i.i)) ≡ first +ℤ pos c.loop-i.i = omega (arith, ints) in
    made_more (λ k. first +ℤ pos k) c.loop-i.i c.loop-i.made c.push.new.self _ c.loop-i.invariant c.in_ok-push.ensures.ok next
