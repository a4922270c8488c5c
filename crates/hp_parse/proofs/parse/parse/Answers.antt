use Rattle.hp_parse.proofs.ParseAnswers.{answer_ok, answer_only, answer_refused, answer_only_refused}
use Rattle.hp_parse.proofs.parse.parse.Goals as goal

pub returns : goal.returns
returns c =
    let source = c.args.tokens.now.source in
    let list = c.args.tokens.now.list in
    let answer = c.parsed.result in
    record {
      ok = answer_ok source list answer c.parsed.ensures.read;
      only = answer_only source list answer c.parsed.ensures.read c.parsed.ensures.stopped;
      refused = answer_refused source list answer c.parsed.ensures.stopped;
      only_refused = answer_only_refused source list answer c.parsed.ensures.read c.parsed.ensures.stopped;
    }
