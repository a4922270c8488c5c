use Rattle.std.proofs.Common.{◌≡◌}
use Rattle.hp_script.specs.Tokens.{HasTokens}
use Rattle.hp_script.proofs.TokenLemmas.{are_spans_of}
use Rattle.hp_lex.proofs.lexer.lexed.Goals as goal

pub invariant_of-result : goal.invariant_of-result
invariant_of-result c =
    let has : HasTokens c.args.bytes.now c.in_ok-list.list = c.in_ok-list.ensures.ok in
    let same : c.in_ok-source.source ≡ c.args.bytes.now = c.in_ok-source.ensures in
    record {
      short = rw same has.short;
      spans = rw same (are_spans_of c.args.bytes.now c.in_ok-list.list has);
    }
