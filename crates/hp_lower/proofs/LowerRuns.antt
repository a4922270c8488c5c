-- The code of a script runs it.
use Rattle.std.proofs.Common.{◌≡◌, ℕ, ◌≤◌, List, [], length, sym, ap, ◌∙◌, subst, arith, replicate, Result, Ok, Err}
use Rattle.std.specs.Prelude.{All, IfOk}
use Rattle.std.proofs.lemmas.List.{length-replicate}
use Rattle.hp_word.specs.declared.order.Orders.{Orders}
use Rattle.hp_word.specs.declared.table.Tables.{Tables}
use Rattle.hp_word.specs.declared.place.NoMemory.{NoMemory}
use Rattle.hp_meaning.specs.declared.line.Line.{Line}
use Rattle.hp_script.specs.declared.tree.Stmt.{Stmt}
use Rattle.hp_script.specs.Mirror.{block_of}
use Rattle.hp_meaning.specs.Forms.{ReadsAssigned, built}
use Rattle.hp_meaning.specs.Meaning.{eval}
use Rattle.hp_meaning.proofs.LinesMeaning.{lines_mean}
use Rattle.hp_spmd.specs.declared.code.Code.{Code}
use Rattle.hp_lattice.specs.declared.dist.Dist.TheVariants.{Block}
use Rattle.hp_spmd.specs.Exchanges.{HasForm}
use Rattle.hp_spmd.specs.Layout.{Share}
use Rattle.hp_spmd.specs.Lockstep.{IsOver, state_of, lockstep_of}
use Rattle.hp_spmd.specs.Store.{dist_at}
use Rattle.hp_lower.specs.Code.{names_after, lines_code}
use Rattle.hp_lower.specs.Correct.{budget, Agrees, Runs}
use Rattle.hp_lower.proofs.Final.{over_by_ticks, agrees_always}
use Rattle.hp_lower.proofs.LowerCode.{has_all, dist_at_blocks, names_count, code_form}
use Rattle.hp_lower.proofs.Main.{HasAt, fills}

-- the code of a script: its instructions, three words, a block array for each assignment, no loose column
pub record IsCodeOf (lines : List Line) (code : Code) : Type 0 where
  pub list : code.list ≡ lines_code [] lines
  pub words : code.words ≡ 3
  pub arrays : code.arrays ≡ replicate (length (names_after [] lines)) Block
  pub loose : code.loose ≡ 0

-- what the lemmas on runs ask of a script's code
code_room : (lines : List Line) (code : Code) → IsCodeOf lines code → fills lines ≤ length code.arrays
code_room lines code is =
    omega (arith, ap length is.arrays ∙ length-replicate (length (names_after [] lines)) Block, names_count [] lines)

pub code_agrees : (lines : List Line) (code : Code) → IsCodeOf lines code → ReadsAssigned [] lines → (tables : Tables) (orders : Orders) (ranks limit fuel : ℕ) → 1 ≤ ranks → ranks ≤ 32 → Agrees code (lockstep_of code tables ranks limit) (eval lines tables orders fuel)
unfolding eval
code_agrees lines code is reads tables orders ranks limit fuel some few =
    let blocks = λ (k : ℕ). ap (λ ds. dist_at ds k) is.arrays ∙ dist_at_blocks (length (names_after [] lines)) k in
    let room = code_room lines code is in
    let has : HasAt code.list 0 (lines_code [] lines) = subst (λ l. HasAt code.list 0 l) is.list (has_all code.list) in
    agrees_always code tables ranks lines some is.words blocks room reads has limit

pub code_bound : (lines : List Line) (code : Code) → IsCodeOf lines code → ReadsAssigned [] lines → (tables : Tables) (orders : Orders) (ranks limit fuel : ℕ) → 1 ≤ ranks → ranks ≤ 32
    → budget (eval lines tables orders fuel).at.ticks 1 ≤ limit → IsOver (lockstep_of code tables ranks limit)
unfolding eval
code_bound lines code is reads tables orders ranks limit fuel some few enough =
    let blocks = λ (k : ℕ). ap (λ ds. dist_at ds k) is.arrays ∙ dist_at_blocks (length (names_after [] lines)) k in
    let has : HasAt code.list 0 (lines_code [] lines) = subst (λ l. HasAt code.list 0 l) is.list (has_all code.list) in
    over_by_ticks code tables ranks lines some is.words blocks (code_room lines code is) reads has limit (omega (arith, enough))

pub code_has_form : (lines : List Line) (code : Code) → IsCodeOf lines code → HasForm code.list
code_has_form lines code is = subst HasForm (sym is.list) (code_form [] lines)

-- the whole theorem, once each rank's arrays are known to stay shared
pub code_runs : (body : List Stmt) (lines : List Line) (code : Code) → built [] (block_of body) ≡ Ok lines → IsCodeOf lines code → ReadsAssigned [] lines
    → ((tables : Tables) (ranks limit : ℕ) → 1 ≤ ranks → ranks ≤ 32 → All (Share code) (state_of (lockstep_of code tables ranks limit)).ranks)
    → Runs body code
code_runs body lines code are is reads shared = record {
  lines = lines;
  are_built = are;
  means = λ tables orders fuel. lines_mean (block_of body) lines tables orders fuel are;
  agrees = code_agrees lines code is reads;
  shared = shared;
  bound = code_bound lines code is reads;
  form = code_has_form lines code is;
}
