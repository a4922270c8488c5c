use Rattle.std.proofs.Common.{◌≡◌, length, drop}
use Rattle.std.specs.Vec.Iter.{into_iter_items, into_iter_len}
use Rattle.hp_spmd.specs.Setting.{with_all}
use Rattle.hp_spmd.proofs.local.setting.put_all.Given as goal

abbrev pub invariant-loop-item : goal.invariant-loop-item
invariant-loop-item g l = record {
  rest : with_all (drop l.k l.to) (into_iter_items l.item-iterator) l.list ≡ with_all l.to (into_iter_items l.initial.item-iterator) l.initial.list;
  counted : into_iter_len l.item-iterator ≡ length (into_iter_items l.item-iterator);
}
