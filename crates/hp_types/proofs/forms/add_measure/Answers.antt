use Rattle.std.proofs.Common.{◌∙◌, ◌++◌, ◌∷◌, [], None, ap, sym, append_assoc}
use Rattle.hp_types.proofs.FormLemmas.{parts_none, parts_some}
use Rattle.hp_types.proofs.forms.add_measure.Goals as goal

pub returns-in_ok-add_none-2-clause-shapes : goal.returns-in_ok-add_none-2-clause-shapes
returns-in_ok-add_none-2-clause-shapes c =
    let before = c.args.found.now.shapes in
    c.in_ok-add_none-2.ensures.shapes ∙ ap (λ shapes. shapes ++ None ∷ []) c.in_ok-add_none.ensures.shapes ∙ append_assoc before (None ∷ []) (None ∷ [])
    ∙ ap (λ parts. before ++ parts) (sym (parts_some c.args.x.now c.in-Call.field-0 c.in-Call.field-1 c.in-Call.args c.in-Call.is (λ none. cc (c.is_empty.ensures.1 none, c.if-not-is_empty.true)) c.requires))

pub returns-else-not-is_empty-clause-shapes : goal.returns-else-not-is_empty-clause-shapes
returns-else-not-is_empty-clause-shapes c =
    c.in_ok-add_none.ensures.shapes
    ∙ ap (λ parts. c.args.found.now.shapes ++ parts) (sym (parts_none c.args.x.now c.in-Call.field-0 c.in-Call.field-1 c.in-Call.args c.in-Call.is (c.is_empty.ensures.0 c.if-not-is_empty.false)))
