-- The slots of the variable that is found are side by side.
use Rattle.std.proofs.Common.{ℕ, List, slice_index_or, sym, ap, ◌∙◌}
use Rattle.std.specs.Prelude.{slice_get}
use Rattle.std.specs.List.{range_with_len}
use Rattle.std.specs.Option.{option_map}
use Rattle.hp_air.specs.Unknowns.{width, arrays_named}
use Rattle.hp_flat.specs.Homes.{Homes, slots_of}
use Rattle.hp_normal.proofs.NamedSlots.{slots_found, span_found}
use Rattle.hp_normal.proofs.homes.Homes.span_named.Goals as goal

pub returns : goal.returns
returns c =
    let it = c.self.inside in
    let k = c.in-Some.place in
    let slots = c.as_slice.result.now in
    span_found c.span_from.result _ slots k c.width_of.result
    (ap (λ (h : Homes). slots_of h (arrays_named h.known c.args.name.now)) (sym c.self.view_is)
    ∙ slots_found it.shapes it.vars it.reads it.copies c.args.name.now k (sym c.place_of.ensures ∙ c.in-Some.is)
    ∙ ap (λ (l : List ℕ). range_with_len (slice_index_or l k 0) (width (option_map (λ v. v.shape) (slice_get it.vars k)))) (sym (c.as_slice.ensures.value ∙ c.self.invariant))
    ∙ ap (λ (w : ℕ). range_with_len (slice_index_or slots k 0) w) (sym (c.width_of.ensures ∙ ap width c.shape_of.ensures)))
    c.span_from.ensures.first c.span_from.ensures.count
