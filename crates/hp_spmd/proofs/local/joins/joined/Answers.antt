-- The pairs that the kernel found, or too many.
use Rattle.std.proofs.Common.{◌∙◌, ap, map}
use Rattle.hp_spmd.specs.Store.{data_of}
use Rattle.hp_spmd.proofs.PlaceNext.{AreRead, joined_none, joined_some}
use Rattle.hp_spmd.proofs.local.joins.joined.Goals as goal

pub returns-in-Err-TooMany : goal.returns-in-Err-TooMany
returns-in-Err-TooMany c =
    let read : AreRead c.args.dists.now c.args.store.now.number c.args.join.now (data_of c.args.store.now) (map (λ c. c.now) c.as_slice-left.result.now) (map (λ c. c.now) c.as_slice-right.result.now) c.column_of-left_keys.result.now c.column_of.result.now =
    record {
      left_is = ap (map (λ c. c.now)) c.as_slice-left.ensures.value ∙ c.in_ok-left.ensures;
      right_is = ap (map (λ c. c.now)) c.as_slice-right.ensures.value ∙ c.in_ok-right.ensures;
      left_key = c.column_of-left_keys.ensures;
      right_key = c.column_of.ensures;
    } in
    joined_none c.args.dists.now c.args.store.now.number c.args.join.now (data_of c.args.store.now) _ _ c.column_of-left_keys.result.now c.column_of.result.now read (c.in-Err-TooMany.ensures.many c.in-Err-TooMany.field-0-is)

pub returns : goal.returns
returns c =
    let read : AreRead c.args.dists.now c.args.store.now.number c.args.join.now (data_of c.args.store.now) (map (λ c. c.now) c.as_slice-left.result.now) (map (λ c. c.now) c.as_slice-right.result.now) c.column_of-left_keys.result.now c.column_of.result.now =
    record {
      left_is = ap (map (λ c. c.now)) c.as_slice-left.ensures.value ∙ c.in_ok-left.ensures;
      right_is = ap (map (λ c. c.now)) c.as_slice-right.ensures.value ∙ c.in_ok-right.ensures;
      left_key = c.column_of-left_keys.ensures;
      right_key = c.column_of.ensures;
    } in
    joined_some c.args.dists.now c.args.store.now.number c.args.join.now (data_of c.args.store.now) _ _ c.column_of-left_keys.result.now c.column_of.result.now
    c.as_slice-pairs.result.now (record { columns = c.in_ok-joined_columns-in-Ok.field-0; places = c.in_ok-pair_places-in-Ok.field-0 }) read
    (c.as_slice-pairs.ensures.value ∙ c.in-Ok.ensures.ok) c.in-Ok.ensures.few c.in_ok-joined_columns-in-Ok.ensures c.in_ok-pair_places-in-Ok.ensures
