-- A separator stands before each text but the first.
use Rattle.std.proofs.Common.{rules, refl, get_or, pos, FitsSigned, w64}
use Rattle.std.specs.Prelude.{codes}
use Rattle.std.proofs.lemmas.Int.{to_z-of_z}
use Rattle.hp_word.specs.Text.{word_text}
use Rattle.hp_word.proofs.TextLemmas.{next_text}
use Rattle.hp_word.proofs.text.add_words.Goals as goal

pub loop-i-preserved : goal.loop-i-preserved
loop-i-preserved c =
    let x = get_or c.args.xs.now c.loop-i.i (pos 0) in
    let fits : FitsSigned w64 (get_or c.args.xs.now c.loop-i.i (pos 0)) = search rules in
    next_text (word_text c.args.truth) (codes ", ") c.args.xs.now c.loop-i.i x (pos 0) c.args.out.now.items c.loop-i.out.items c.add_between.new.out.items c.add_word.new.out.items
    c.loop-i-test.true refl c.loop-i.invariant (rw c.as_slice.ensures at c.in_ok-add_between.ensures) (rw (to_z-of_z w64 x fits) at c.in_ok-add_word.ensures)
