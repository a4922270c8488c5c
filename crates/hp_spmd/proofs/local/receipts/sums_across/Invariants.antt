-- The sums so far.
use Rattle.std.proofs.Common.{◌≡◌, map}
use Rattle.std.specs.List.{range_with_len}
use Rattle.hp_word.specs.declared.fold.FoldKind.TheVariants.{Sum}
use Rattle.hp_word.specs.Folds.{fold_of}
use Rattle.hp_spmd.specs.Messages.{words_across}
use Rattle.hp_spmd.proofs.local.receipts.sums_across.Given as goal

abbrev pub invariant-loop-place : goal.invariant-loop-place
invariant-loop-place l = l.sums ≡ map (λ k. fold_of Sum (words_across k l.inbox)) (range_with_len 0 l.place)
