-- A script is read up to one byte more than it may have: what is said of that front holds of the whole file.
use Rattle.std.proofs.Common.{◌≡◌, ℕ, ◌<◌, ◌≤◌, List, length, take, ap, ◌∙◌, subst, arith, Option, Some, Result, Ok, Err}
use Rattle.std.specs.Prelude.{IfOk, IfErr, IfSome}
use Rattle.std.proofs.lemmas.List.{take_all, length-take}
use Rattle.hp_word.specs.declared.place.Place.{Place}
use Rattle.hp_script.specs.declared.rule.Rule.{Rule}
use Rattle.hp_script.specs.declared.rule.Rule.TheVariants as rules
use Rattle.hp_script.specs.declared.typed.Typed.{Typed}
use Rattle.hp_script.specs.Tokens.{HasNoTokens, StopsAt, first_place}
use Rattle.hp_reader.specs.Reading.{SpellNone, NoTokens, NoScript, Refuses, Unspelled, Breaks, Fits}
use Rattle.hp_command.specs.declared.answer.Answer.{Answer}
use Rattle.hp_command.specs.declared.answer.Answer.TheVariants as answer
use Rattle.hp_command.specs.Command.{checks}
use Rattle.hp_command.specs.Reading.{FitsFile}
use Rattle.hp_command.specs.Session.{Answered, RefusedBy}
use Rattle.hp_command.specs.TablesRead.{Holding}

-- a front that is short is the whole
whole : (m : ℕ) (b front : List ℕ) → 65536 < m → front ≡ take m b → length front ≤ 65536 → front ≡ b
whole m b front long is short =
    let len = ap length is ∙ length-take m b in
    let few : length b ≤ m = omega arith in
    is ∙ take_all m b few

cut_none : (m : ℕ) (b front : List ℕ) (at : Place) (rule : Rule) → 65536 < m → front ≡ take m b → HasNoTokens front at rule → HasNoTokens b at rule
cut_none m b front at rules.TooLongScript long is h =
    let len = ap length is ∙ length-take m b in
    (omega (arith, h.0), h.1)
cut_none m b front at rule long is h = subst (λ l. (length l ≤ 65536) × StopsAt first_place l at rule) (whole m b front long is h.0) h

cut_unspelled : (m : ℕ) (b front : List ℕ) (at : Place) (rule : Rule) → 65536 < m → front ≡ take m b → SpellNone front at rule → SpellNone b at rule
cut_unspelled m b front at rule long is (NoTokens h) = NoTokens (cut_none m b front at rule long is h)
cut_unspelled m b front at rule long is (NoScript h) = subst (λ l. SpellNone l at rule) (whole m b front long is h.tokens.short) (NoScript h)

cut_refuses : (m : ℕ) (b front : List ℕ) (at : Place) (rule : Rule) → 65536 < m → front ≡ take m b → Refuses front at rule → Refuses b at rule
cut_refuses m b front at rule long is (Unspelled h) = Unspelled (cut_unspelled m b front at rule long is h)
cut_refuses m b front at rule long is (Breaks h) = subst (λ l. Refuses l at rule) (whole m b front long is h.spelled.tokens.short) (Breaks h)

-- ---- what is said of the front, said of the file where it is told

module _ (m : ℕ) (long : 65536 < m) (holds : Holding) (file front : List ℕ) (is : IfSome (holds file) (λ bytes. front ≡ take m bytes)) where
  front_of : (b : List ℕ) → holds file ≡ Some b → front ≡ take m b
  front_of b e = subst (λ o. IfSome o (λ bytes. front ≡ take m bytes)) e is

  pub file_fits : (r : Result Typed Answer) → IfOk r (Fits front) → IfOk r (FitsFile (holds file))
  file_fits (Ok typed) h = record {
    read = front;
    fits_read = h;
    fits_told = λ b e. subst (λ l. Fits l typed) (whole m b front long (front_of b e) h.spelled.tokens.short) h;
  }
  file_fits (Err a) h = h

  module _ (before now : ℕ) (failed : Option (List ℕ)) (kept : now ≡ before) where
    refused_answered : (a : Answer) → RefusedBy (Refuses front) a → Answered holds file (Some checks) before now failed a
    refused_answered (answer.Refused at rule) h = record { refused = λ b e. cut_refuses m b front at rule long (front_of b e) h; fault = kept }
    refused_answered answer.NoMemory h = record { refused = λ b e. tt; fault = omega (arith, kept) }
    refused_answered _ h = absurd h

    pub file_answered : (r : Result Typed Answer) → IfErr r (RefusedBy (Refuses front)) → IfErr r (Answered holds file (Some checks) before now failed)
    file_answered (Ok typed) h = h
    file_answered (Err a) h = refused_answered a h
