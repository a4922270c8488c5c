-- The places so far.
use Rattle.std.proofs.Common.{◌≡◌, ◌+◌, map, take}
use Rattle.hp_word.specs.RowRules.{row_place}
use Rattle.hp_spmd.specs.Frames.{rows_read}
use Rattle.hp_spmd.specs.Store.{data_of}
use Rattle.hp_spmd.proofs.local.groups.first_places.Given as goal

abbrev pub invariant-loop-first : goal.invariant-loop-first
invariant-loop-first l = l.made.items ≡ map (λ first. row_place ((rows_read l.dists l.store.number l.from (data_of l.store)).place (first + 1)) 0) (take l.first-index l.firsts)
