use Rattle.std.proofs.Common.{◌≡◌, ◌≤◌, length, arith, Some}
use Rattle.std.specs.List.{slice_get}
use Rattle.std.specs.Str.Parse.{digits_value}
use Rattle.hp_script.specs.Lexemes.{text_of, IsReadable}
use Rattle.hp_script.specs.declared.token.Token.{Token}
use Rattle.hp_script.proofs.Numerals.{some_below}
use Rattle.hp_script.proofs.TokenLemmas.{at_position, span_at, readable_number}
use Rattle.hp_script.proofs.token.Tokens.lexeme.Goals as goal

pub text-text-requires-clause-order : goal.text-text-requires-clause-order
text-text-requires-clause-order c =
    let at : slice_get c.args.self.now.list c.args.position ≡ Some c.in_ok-token.field-0.now = grind (arith, c.in_ok-token.ensures.value) in
    (span_at 0 (length c.args.self.now.source) c.args.self.now.list c.args.position c.in_ok-token.field-0.now c.args.self.now.spans at).order

pub text-text-requires-clause-within : goal.text-text-requires-clause-within
text-text-requires-clause-within c =
    let at : slice_get c.args.self.now.list c.args.position ≡ Some c.in_ok-token.field-0.now = grind (arith, c.in_ok-token.ensures.value) in
    (span_at 0 (length c.args.self.now.source) c.args.self.now.list c.args.position c.in_ok-token.field-0.now c.args.self.now.spans at).within

pub number_of-requires : goal.number_of-requires
number_of-requires c =
    let at : slice_get c.args.self.now.list c.args.position ≡ Some c.in_ok-token.field-0.now = grind (arith, c.in_ok-token.ensures.value) in
    let readable = at_position (λ (token : Token). IsReadable token.kind (text_of c.args.self.now.source token)) c.args.self.now.list c.args.position c.in_ok-token.field-0.now c.requires at in
    let number = readable_number c.in_ok-token.field-0.now.kind _ c.in-Number.is readable in
    rw c.text-text.ensures number.0.1

pub returns-in_err-number_of-in-Number : goal.returns-in_err-number_of-in-Number
returns-in_err-number_of-in-Number c =
    let at : slice_get c.args.self.now.list c.args.position ≡ Some c.in_ok-token.field-0.now = grind (arith, c.in_ok-token.ensures.value) in
    let readable = at_position (λ (token : Token). IsReadable token.kind (text_of c.args.self.now.source token)) c.args.self.now.list c.args.position c.in_ok-token.field-0.now c.requires at in
    let number = readable_number c.in_ok-token.field-0.now.kind _ c.in-Number.is readable in
    let text = c.text-text.ensures in
    let fits : digits_value 10 c.text-text.result.now ≤ 9223372036854775807 = rw c.text-text.ensures number.1 in
    let some = some_below 9223372036854775807 (digits_value 10 c.text-text.result.now) fits in
    absurd (cc (some, c.number_of.ensures, c.in_err-number_of-in-Number.was))
