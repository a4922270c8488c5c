-- The own places of a rank are within the range.
use Rattle.std.proofs.Common.{arith}
use Rattle.std.proofs.lemmas.Int.{ints}
use Rattle.hp_spmd.proofs.DealLemmas.{own_within}
use Rattle.hp_spmd.proofs.local.dealing.range_piece.Goals as goal

pub own_numbers-requires-clause-few : goal.own_numbers-requires-clause-few
own_numbers-requires-clause-few c =
    let within = own_within c.args.dist c.args.number c.args.ranks c.args.length _ _ c.requires.among c.own_start-from.ensures c.own_count-count.ensures in
    let short = c.requires.short in
    omega (arith, within, short)

pub own_numbers-requires-clause-fits : goal.own_numbers-requires-clause-fits
own_numbers-requires-clause-fits c =
    let within = own_within c.args.dist c.args.number c.args.ranks c.args.length _ _ c.requires.among c.own_start-from.ensures c.own_count-count.ensures in
    let fits = c.requires.fits in
    omega (arith, ints, within, fits)
