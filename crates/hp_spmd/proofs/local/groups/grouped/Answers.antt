-- The groups that the kernel found.
use Rattle.std.proofs.Common.{◌∙◌, ap, map}
use Rattle.hp_spmd.specs.Store.{data_of}
use Rattle.hp_spmd.proofs.PlaceNext.{grouped_made}
use Rattle.hp_spmd.proofs.local.groups.grouped.Goals as goal

pub returns : goal.returns
returns c =
    grouped_made c.args.dists.now c.args.store.now.number c.args.from.now c.args.key c.args.measures.now (data_of c.args.store.now) (map (λ c. c.now) c.as_slice-columns.result.now) c.column_of-keys.result.now
    c.as_slice.result.now (record { columns = c.in_ok-grouped_columns.field-0; places = c.in_ok-first_places.field-0 })
    (ap (map (λ c. c.now)) c.as_slice-columns.ensures.value ∙ c.in_ok-columns.ensures) c.column_of-keys.ensures (c.as_slice.ensures.value ∙ c.in_ok-groups.ensures.firsts) c.in_ok-grouped_columns.ensures c.in_ok-first_places.ensures
