use Rattle.std.proofs.Common.{◌≡◌, ◌+◌, ◌-◌, ℕ, ◌++◌, true, false, take, drop, Some, None, sym, ap, ◌∙◌, arith}
use Rattle.hp_script.specs.Tokens.{token_of, behind}
use Rattle.hp_lex.specs.Fronts.{front_at, front_of, piece_of, is_wide}
use Rattle.hp_lex.proofs.Scan.{front_from, front_text, scan_more, scan_ends, scan_bad, scan_wide, scan_further}
use Rattle.hp_lex.proofs.lexer.tokens_of.Goals as goal

pub returns-in_default-clause-refused : goal.returns-in_default-clause-refused
returns-in_default-clause-refused c =
    let e : front_at (drop c.loop-from.from c.args.bytes.now) ≡ None = front_from c.args.bytes.now c.loop-from.from None c.in_default.ensures.value in
    rw c.refused.ensures (scan_bad c.args.bytes.now c.loop-from.from c.loop-from.at c.loop-from.list c.loop-from.invariant c.loop-from-test.true c.requires e)

pub is_wide-requires : goal.is_wide-requires
is_wide-requires c =
    let e : front_at (drop c.loop-from.from c.args.bytes.now) ≡ Some (piece_of c.in-Some.front.piece, c.in-Some.front.size) = front_from c.args.bytes.now c.loop-from.from (Some (front_of c.in-Some.front)) c.in-Some.ensures.value in
    let size : c.loop-from.from + c.in-Some.front.size - c.loop-from.from ≡ c.in-Some.front.size = omega arith in
    rw size (front_text c.args.bytes.now c.loop-from.from (piece_of c.in-Some.front.piece) c.in-Some.front.size e)

pub returns-then-is_wide-clause-refused : goal.returns-then-is_wide-clause-refused
returns-then-is_wide-clause-refused c =
    let e : front_at (drop c.loop-from.from c.args.bytes.now) ≡ Some (piece_of c.in-Some.front.piece, c.in-Some.front.size) = front_from c.args.bytes.now c.loop-from.from (Some (front_of c.in-Some.front)) c.in-Some.ensures.value in
    let size : c.loop-from.from + c.in-Some.front.size - c.loop-from.from ≡ c.in-Some.front.size = omega arith in
    let large : is_wide (piece_of c.in-Some.front.piece) (take c.in-Some.front.size (drop c.loop-from.from c.args.bytes.now)) ≡ true = ap (λ (n : ℕ). is_wide (piece_of c.in-Some.front.piece) (take n (drop c.loop-from.from c.args.bytes.now))) (sym size) ∙ sym c.is_wide.ensures ∙ c.if-is_wide.true in
    rw c.refused-then-is_wide.ensures (scan_wide c.args.bytes.now c.loop-from.from c.loop-from.at c.loop-from.list (piece_of c.in-Some.front.piece) c.in-Some.front.size c.loop-from.invariant c.requires e large)

pub loop-from-smaller : goal.loop-from-smaller
loop-from-smaller c =
    let e : front_at (drop c.loop-from.from c.args.bytes.now) ≡ Some (piece_of c.in-Some.front.piece, c.in-Some.front.size) = front_from c.args.bytes.now c.loop-from.from (Some (front_of c.in-Some.front)) c.in-Some.ensures.value in
    let some = scan_further (drop c.loop-from.from c.args.bytes.now) (piece_of c.in-Some.front.piece) c.in-Some.front.size e in
    let lt = c.loop-from-test.true in
    omega arith

pub loop-from-preserved : goal.loop-from-preserved
loop-from-preserved c =
    let e : front_at (drop c.loop-from.from c.args.bytes.now) ≡ Some (piece_of c.in-Some.front.piece, c.in-Some.front.size) = front_from c.args.bytes.now c.loop-from.from (Some (front_of c.in-Some.front)) c.in-Some.ensures.value in
    let size : c.loop-from.from + c.in-Some.front.size - c.loop-from.from ≡ c.in-Some.front.size = omega arith in
    let slim : is_wide (piece_of c.in-Some.front.piece) (take c.in-Some.front.size (drop c.loop-from.from c.args.bytes.now)) ≡ false = ap (λ (n : ℕ). is_wide (piece_of c.in-Some.front.piece) (take n (drop c.loop-from.from c.args.bytes.now))) (sym size) ∙ sym c.is_wide.ensures ∙ c.if-is_wide.false in
    let at : c.behind-at.result ≡ behind c.loop-from.at (take c.in-Some.front.size (drop c.loop-from.from c.args.bytes.now)) = c.behind-at.ensures ∙ ap (λ (n : ℕ). behind c.loop-from.at (take n (drop c.loop-from.from c.args.bytes.now))) size in
    let pushed : c.push.new.list ≡ c.loop-from.list ++ token_of (piece_of c.in-Some.front.piece) c.loop-from.at c.loop-from.from (c.loop-from.from + c.in-Some.front.size) = grind (arith, c.in_ok-push.ensures.ok) in
    rw (at, pushed) (scan_more c.args.bytes.now c.loop-from.from c.loop-from.at c.loop-from.list (piece_of c.in-Some.front.piece) c.in-Some.front.size c.loop-from.invariant e slim)

pub returns-clause-ok : goal.returns-clause-ok
returns-clause-ok c =
    let pushed = c.in_ok-push-2.ensures.ok in
    rw pushed (scan_ends c.args.bytes.now c.loop-from.from c.loop-from.at c.loop-from.list c.loop-from.invariant c.loop-from-test.false c.requires)
