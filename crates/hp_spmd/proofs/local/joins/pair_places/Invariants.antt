-- The places so far.
use Rattle.std.proofs.Common.{◌≡◌, ◌+◌, map, take}
use Rattle.hp_word.specs.RowRules.{row_place}
use Rattle.hp_spmd.specs.Frames.{rows_read}
use Rattle.hp_spmd.specs.Store.{data_of}
use Rattle.hp_spmd.proofs.local.joins.pair_places.Given as goal

abbrev pub invariant-loop-pair : goal.invariant-loop-pair
invariant-loop-pair l = l.made.items ≡ map (λ p. row_place ((rows_read l.dists l.store.number l.left (data_of l.store)).place (p.left + 1)) ((rows_read l.dists l.store.number l.right (data_of l.store)).place (p.right + 1))) (take l.pair-index l.pairs)
