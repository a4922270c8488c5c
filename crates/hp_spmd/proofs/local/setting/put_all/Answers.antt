-- No item is left at the end.
use Rattle.std.proofs.Common.{◌≡◌, [], sym, ap, ◌∙◌}
use Rattle.std.specs.Vec.Iter.{into_iter_items}
use Rattle.std.proofs.lemmas.List.{nil_from_length}
use Rattle.hp_spmd.specs.Setting.{with_all}
use Rattle.hp_spmd.proofs.SumLemmas.{nothing_set}
use Rattle.hp_spmd.proofs.local.setting.put_all.Goals as goal

pub returns : goal.returns
returns g c =
    let none : into_iter_items c.loop-item.item-iterator ≡ [] = nil_from_length _ (sym c.loop-item.invariant.counted ∙ c.in-None.ensures.steps.0) in
    sym (nothing_set _ _ c.loop-item.list none) ∙ c.loop-item.invariant.rest ∙ ap (λ ps. with_all c.args.to.now ps c.args.list.now) c.into_iter-item-iterator.ensures.into_iter_gives.0
