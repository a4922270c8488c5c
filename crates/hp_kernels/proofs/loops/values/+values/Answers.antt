-- Each kind of element is its column; the second part of a guard counts where the first does not decide.
use Rattle.std.proofs.Common.{◌+◌, rules, ℕ, ℤ, List, ap, sym, ◌∙◌, FitsSigned, w32, w64}
use Rattle.std.proofs.lemmas.Int.{to_z-of_z}
use Rattle.hp_word.specs.Elem.{elem_value}
use Rattle.hp_word.specs.LoopRules.{word_at}
use Rattle.hp_word.specs.Words.{is_true}
use Rattle.hp_kernels.specs.LoopColumns.{counts, row_of}
use Rattle.hp_kernels.proofs.ColumnLemmas.{guard_passes, guard_decides, guard_chooses}
use Rattle.hp_kernels.proofs.ValueLemmas.{number_column, word_column, input_column, near_column, earlier_column, operation_column, both_column, either_column, on_ok}
use Rattle.hp_kernels.proofs.loops.values.+values.Goals as goal

pub value-returns-in-Number : goal.value-returns-in-Number
value-returns-in-Number g t c =
    let fits : FitsSigned w64 c.in-Number.n = search rules in
    number_column (counts c.args.mask) (λ (i : ℕ). g.S.Sources.sight c.args.block.now.source.now (c.args.block.now.first + i) (row_of c.args.block.now.kept.now i)) c.args.elem.now c.in-Number.n _ c.args.reach.now c.in-Number.is (to_z-of_z w64 c.in-Number.n fits)

pub value-returns-in-Word : goal.value-returns-in-Word
value-returns-in-Word g t c =
    let fits : FitsSigned w64 c.word.result = search rules in
    word_column (counts c.args.mask) (λ (i : ℕ). g.S.Sources.sight c.args.block.now.source.now (c.args.block.now.first + i) (row_of c.args.block.now.kept.now i)) c.args.elem.now c.in-Word.k _ c.args.reach.now c.in-Word.is
    (λ i. c.word.ensures (c.args.block.now.first + i) (row_of c.args.block.now.kept.now i) ∙ sym (to_z-of_z w64 c.word.result fits))

pub value-returns-in-Input : goal.value-returns-in-Input
value-returns-in-Input g t c =
    on_ok _ _ c.input.result (λ made is. input_column (counts c.args.mask) (λ (i : ℕ). g.S.Sources.sight c.args.block.now.source.now (c.args.block.now.first + i) (row_of c.args.block.now.kept.now i)) c.args.elem.now c.in-Input.k c.args.reach.now made c.in-Input.is is.0 (λ i l. is.1 i (row_of c.args.block.now.kept.now i) l)) c.input.ensures

pub value-returns-in-Near : goal.value-returns-in-Near
value-returns-in-Near g t c =
    let fits : FitsSigned w32 c.in-Near.by = search rules in
    on_ok _ _ c.near.result (λ made is. near_column (counts c.args.mask) (λ (i : ℕ). g.S.Sources.sight c.args.block.now.source.now (c.args.block.now.first + i) (row_of c.args.block.now.kept.now i)) c.args.elem.now c.in-Near.k c.in-Near.by c.args.reach.now made c.in-Near.is is.0
    (λ i l. is.1 i (row_of c.args.block.now.kept.now i) l ∙ ap ((g.S.Sources.sight c.args.block.now.source.now (c.args.block.now.first + i) (row_of c.args.block.now.kept.now i)).near c.in-Near.k) (to_z-of_z w32 c.in-Near.by fits))) c.near.ensures

pub value-returns-in-Earlier : goal.value-returns-in-Earlier
value-returns-in-Earlier g t c =
    earlier_column (counts c.args.mask) (λ (i : ℕ). g.S.Sources.sight c.args.block.now.source.now (c.args.block.now.first + i) (row_of c.args.block.now.kept.now i)) c.args.elem.now c.in-Earlier.k c.args.reach.now c.earlier.result c.in-Earlier.is (c.earlier.ensures.long c.args.reach.now.places c.requires.kept)
    (λ i. c.earlier.ensures.same i ∙ sym (g.met.S.Sources.reads_lets c.args.block.now.source.now (c.args.block.now.first + i) (row_of c.args.block.now.kept.now i) c.in-Earlier.k))

pub value-returns-in_ok-y-in-Calc : goal.value-returns-in_ok-y-in-Calc
value-returns-in_ok-y-in-Calc g t c =
    on_ok _ _ c.operation.result
    (λ made both. operation_column (counts c.args.mask) (λ (i : ℕ). g.S.Sources.sight c.args.block.now.source.now (c.args.block.now.first + i) (row_of c.args.block.now.kept.now i)) c.args.elem.now c.in-Calc.op c.in-Calc.at c.get.result.now c.get-in-Calc.result.now
    c.args.reach.now c.value.new.reach c.value-in-Calc.new.reach c.operation.new.reach c.in_ok-x-in-Calc.x c.in_ok-y-in-Calc.y made (search rules) c.in_ok-x-in-Calc.ensures c.in_ok-y-in-Calc.ensures both)
    c.operation.ensures

pub value-returns-in_ok-x-in-Both : goal.value-returns-in_ok-x-in-Both
value-returns-in_ok-x-in-Both g t c =
    on_ok _ _ c.guarded.result (λ made is. both_column (counts c.args.mask) (λ (i : ℕ). g.S.Sources.sight c.args.block.now.source.now (c.args.block.now.first + i) (row_of c.args.block.now.kept.now i)) c.args.elem.now c.get-in-Both.result.now c.get-in-Both-2.result.now c.args.reach.now c.guarded.new.reach made (search rules) is)
    (c.guarded.ensures c.args.reach.now (λ (i : ℕ). elem_value (g.S.Sources.sight c.args.block.now.source.now (c.args.block.now.first + i) (row_of c.args.block.now.kept.now i)) c.get-in-Both.result.now) c.in_ok-x-in-Both.ensures)

pub value-returns-in_ok-x-in-Either : goal.value-returns-in_ok-x-in-Either
value-returns-in_ok-x-in-Either g t c =
    on_ok _ _ c.guarded-in-Either.result (λ made is. either_column (counts c.args.mask) (λ (i : ℕ). g.S.Sources.sight c.args.block.now.source.now (c.args.block.now.first + i) (row_of c.args.block.now.kept.now i)) c.args.elem.now c.get-in-Either.result.now c.get-in-Either-2.result.now c.args.reach.now c.guarded-in-Either.new.reach made (search rules) is)
    (c.guarded-in-Either.ensures c.args.reach.now (λ (i : ℕ). elem_value (g.S.Sources.sight c.args.block.now.source.now (c.args.block.now.first + i) (row_of c.args.block.now.kept.now i)) c.get-in-Either.result.now) c.in_ok-x-in-Either.ensures)

pub guarded-returns-in-Some-true : goal.guarded-returns-in-Some-true
guarded-returns-in-Some-true g t c =
    λ old first is. on_ok _ _ c.value.result (λ made second. guard_passes (counts c.args.mask) c.args.wanted first (λ (i : ℕ). elem_value (g.S.Sources.sight c.args.block.now.source.now (c.args.block.now.first + i) (row_of c.args.block.now.kept.now i)) c.args.second.now) old c.args.reach.now c.value.new.reach c.args.x made is (λ i. c.in-Some-true.ensures i ∙ c.in-Some-true.field-0-test) second) c.value.ensures

pub guarded-returns-in-Some-false : goal.guarded-returns-in-Some-false
guarded-returns-in-Some-false g t c =
    let fits : FitsSigned w64 c.word_of.result = search rules in
    λ old first is. guard_decides (counts c.args.mask) c.args.wanted first (λ (i : ℕ). elem_value (g.S.Sources.sight c.args.block.now.source.now (c.args.block.now.first + i) (row_of c.args.block.now.kept.now i)) c.args.second.now) old c.args.reach.now c.args.x _ is (λ i. c.in-Some-false.ensures i ∙ c.in-Some-false.field-0-test) (to_z-of_z w64 c.word_of.result fits ∙ c.word_of.ensures)

pub guarded-returns : goal.guarded-returns
guarded-returns g t c =
    let fits : FitsSigned w64 c.word_of-in-None.result = search rules in
    λ old first is. guard_chooses (counts c.args.mask) (λ i. is_true (word_at c.as_slice.result.now i)) c.args.wanted first (λ (i : ℕ). elem_value (g.S.Sources.sight c.args.block.now.source.now (c.args.block.now.first + i) (row_of c.args.block.now.kept.now i)) c.args.second.now) old c.args.reach.now c.value-in-None.new.reach c.args.x c.in_ok-y-in-None.y c.chosen.result
    (word_at c.in_ok-cells-in-None.cells.items) _ is c.in_ok-cells-in-None.ensures.same (λ i. ap (λ (l : List ℤ). is_true (word_at l i)) c.as_slice.ensures.value)
    c.in_ok-y-in-None.ensures c.chosen.ensures.same (to_z-of_z w64 c.word_of-in-None.result fits ∙ c.word_of-in-None.ensures) c.chosen.ensures.long
