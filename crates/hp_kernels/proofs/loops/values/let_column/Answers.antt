-- The cells of an input are its column.
use Rattle.std.proofs.Common.{◌+◌, ℕ, true}
use Rattle.hp_kernels.specs.LoopColumns.{row_of}
use Rattle.hp_kernels.proofs.ValueLemmas.{input_column, on_ok}
use Rattle.hp_kernels.proofs.loops.values.let_column.Goals as goal

pub returns-in-Input : goal.returns-in-Input
returns-in-Input g c =
    on_ok _ _ c.input.result
    (λ made is. input_column (λ i. true) (λ (i : ℕ). g.S.Sources.sight c.args.source.now (c.args.first + i) (row_of c.args.kept.now i)) c.args.elem.now c.in-Input.k c.args.reach.now made c.in-Input.is is.0
    (λ i l. is.1 i (row_of c.args.kept.now i) l))
    c.input.ensures
