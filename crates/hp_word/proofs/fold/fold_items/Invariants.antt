use Rattle.std.proofs.Common.{◌≡◌, take}
use Rattle.hp_word.specs.Folds.{fold_of}
use Rattle.hp_word.proofs.fold.fold_items.Given as goal

-- so far it is the fold of the items before this one
abbrev pub invariant-loop-item : goal.invariant-loop-item
invariant-loop-item l = l.so_far ≡ fold_of l.kind (take l.item-index l.items)
