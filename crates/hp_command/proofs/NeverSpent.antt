-- The instructions that the ranks may do are enough for every script.
use Rattle.std.proofs.Common.{ℕ, ◌*◌, ◌≤◌, List, [], Option, length, arith}
use Rattle.hp_word.specs.declared.order.Orders.{Orders}
use Rattle.hp_word.specs.declared.table.Tables.{Tables}
use Rattle.hp_script.specs.declared.tree.Stmt.{Stmt}
use Rattle.hp_script.proofs.TokenLemmas.{lexed_length, are_few}
use Rattle.hp_meaning.specs.declared.line.Line.{Line}
use Rattle.hp_meaning.specs.Meaning.{eval, seen}
use Rattle.hp_meaning.proofs.LineTokens.{body_tokens}
use Rattle.hp_meaning.proofs.Ticks.{ticks_few}
use Rattle.hp_reader.specs.Reading.{SpellScript}
use Rattle.hp_spmd.specs.declared.code.Code.{Code}
use Rattle.hp_spmd.specs.Lockstep.{Reached, Ended, Trapped, Limit, IsOver, lockstep_of}
use Rattle.hp_lower.specs.Correct.{Runs, budget}
use Rattle.hp_command.specs.declared.answer.Answer.TheVariants as answer
use Rattle.hp_command.specs.Reading.{IsCompiled}
use Rattle.hp_command.specs.Session.{AnswersRun}

no_orders : Orders
no_orders = record { list = [] }

ticks_of : (lines : List Line) (tables : Tables) (fuel : ℕ) → (eval lines tables no_orders fuel).at.ticks ≤ 4 * length lines
unfolding eval
ticks_of lines tables fuel = omega (arith, ticks_few lines (seen [] [] 0))

-- six tokens of a script go to a statement
few_lines : (bytes : List ℕ) (body : List Stmt) (nodes : ℕ) (code : Code) → SpellScript bytes body nodes → (is : Runs body code) → 6 * length is.lines ≤ 65537
few_lines bytes body nodes code s is =
    omega (arith, body_tokens s.script.spelled [] is.lines is.are_built, lexed_length bytes s.list s.tokens, are_few bytes s.list s.tokens)

-- the limit is above the budget of every script that has few lines
limit_enough : (ticks lines limit : ℕ) → ticks ≤ 4 * lines → 6 * lines ≤ 65537 → 16777216 ≤ limit → budget ticks 1 ≤ limit
limit_enough ticks lines limit few short enough = omega arith

pub over : (told : Option (List ℕ)) (code : Code) (tables : Tables) (ranks limit : ℕ) → IsCompiled told code → 1 ≤ ranks → ranks ≤ 32 → 16777216 ≤ limit → IsOver (lockstep_of code tables ranks limit)
over told code tables ranks limit h some few enough =
    let typed = h.script.typed in
    h.runs.bound tables no_orders ranks limit 0 some few
    (limit_enough (eval h.runs.lines tables no_orders 0).at.ticks (length h.runs.lines) limit (ticks_of h.runs.lines tables 0)
    (few_lines h.script.fits.read typed.script.body typed.script.nodes code h.script.fits.fits_read.spelled h.runs) enough)

-- the answer of a run that is over is not that its instructions are spent
pub never_spent : (r : Reached) → IsOver r → AnswersRun r answer.TurnsSpent → ⊥
never_spent (Ended s) h a = a
never_spent (Trapped t s) h a = a
never_spent (Limit s) h a = h
