-- One more pair.
use Rattle.std.proofs.Common.{◌≡◌, ◌∙◌, ap, sym, ◌++◌, map, List, ℕ, zip, flat_map, get_or, length, min, arith}
use Rattle.std.proofs.lemmas.List.{take_all, get_or_default}
use Rattle.std.proofs.lemmas.Slice.Zip.{get_or-zip, length-zip}
use Rattle.hp_air.specs.Constraints.{equal, bounds_of}
use Rattle.hp_constrain.specs.Listed.{constraint_of}
use Rattle.hp_constrain.proofs.AddingLemmas.{adds_next}
use Rattle.hp_constrain.proofs.rows.add_copy.Goals as goal

pub loop-i-preserved : goal.loop-i-preserved
loop-i-preserved c =
    let outs = c.args.outs.now in
    let ins = c.args.ins.now in
    let i = c.loop-i.i in
    let long : length (zip outs ins) ≡ min (length outs) (length ins) = length-zip outs ins in
    adds_next (λ p. equal p.0 p.1) (zip outs ins) i (get_or outs i 0, get_or ins i 0) c.args.list.now.items c.loop-i.list.items c.add_equal.new.list.items (omega (arith, long))
    (sym (get_or-zip outs ins i (0, 0) (omega arith) (omega arith)) ∙ get_or_default (zip outs ins) i (0, 0) _ (omega (arith, long))) c.loop-i.invariant c.in_ok-add_equal.ensures

pub returns : goal.returns
unfolding bounds_of
returns c =
    let outs = c.args.outs.now in
    let ins = c.args.ins.now in
    let long : length (zip outs ins) ≡ min (length outs) (length ins) = length-zip outs ins in
    c.loop-i.invariant ∙ ap (λ (l : List (ℕ × ℕ)). c.args.list.now.items ++ map constraint_of (flat_map (λ p. equal p.0 p.1) l)) (take_all c.loop-i.i (zip outs ins) (omega (arith, long)))
