-- The only loops of a script's code make no array, so that its arrays stay shared.
use Rattle.std.proofs.Common.{◌≡◌, ◌∙◌, ℕ, List, [], ◌∷◌, length, ap, sym, subst, inl, Result, Ok, Err}
use Rattle.std.specs.Prelude.{All, IfOk}
use Rattle.hp_word.specs.declared.place.NoMemory.{NoMemory}
use Rattle.hp_script.specs.declared.tree.Stmt.{Stmt}
use Rattle.hp_script.specs.Mirror.{block_of}
use Rattle.hp_meaning.specs.Forms.{ReadsAssigned, built}
use Rattle.std.proofs.lemmas.List.Elements.{All-from_recursion}
use Rattle.hp_meaning.specs.declared.line.Line.{Line}
use Rattle.hp_meaning.specs.declared.line.Line.TheVariants.{Fill, PrintSum, AddArrays, AddNumber}
use Rattle.hp_spmd.specs.declared.code.Code.{Code}
use Rattle.hp_lattice.specs.declared.dist.Dist.{Dist}
use Rattle.hp_spmd.specs.declared.instr.Out.{Out}
use Rattle.hp_spmd.specs.Spread.{LiesAs, Spreads}
use Rattle.hp_spmd.specs.Store.{dist_at}
use Rattle.hp_lattice.specs.declared.dist.Dist.TheVariants.{Block}
use Rattle.hp_lower.specs.Code.{lines_code, names_after, slot_of}
use Rattle.hp_lower.proofs.LowerCode.{dist_at_blocks}
use Rattle.hp_spmd.proofs.ShareRun.{run_shared}
use Rattle.hp_lower.specs.Correct.{Runs}
use Rattle.hp_lower.proofs.LowerRuns.{IsCodeOf, code_runs}

no_outs : (dists : List Dist) (slot : ℕ) → All (λ (o : Out). LiesAs (dist_at dists slot) (dist_at dists o.array)) []
no_outs dists slot = All-from_recursion (λ (o : Out). LiesAs (dist_at dists slot) (dist_at dists o.array)) [] tt

-- a loop that makes one array lies as its leader, where all arrays lie in blocks
one_out : (dists : List Dist) (leader slot : ℕ) → ((k : ℕ) → dist_at dists k ≡ Block) → All (λ (o : Out). LiesAs (dist_at dists leader) (dist_at dists o.array)) (record { array = slot; value = 0 } ∷ [])
one_out dists leader slot blocks =
    All-from_recursion (λ (o : Out). LiesAs (dist_at dists leader) (dist_at dists o.array)) (record { array = slot; value = 0 } ∷ []) (inl (blocks slot ∙ sym (blocks leader)), tt)

pub lines_spread : (dists : List Dist) (names : List (List ℕ)) (lines : List Line) → ((k : ℕ) → dist_at dists k ≡ Block) → Spreads dists (lines_code names lines)
lines_spread dists names [] blocks = (tt, tt)
lines_spread dists names (Fill name at value count ∷ ls) blocks = (tt, (tt, (tt, lines_spread dists (name.bytes ∷ names) ls blocks)))
lines_spread dists names (PrintSum name ∷ ls) blocks =
    (no_outs dists (slot_of names name.bytes), (tt, (tt, (tt, (tt, (tt, (tt, (tt, (tt, lines_spread dists names ls blocks)))))))))
lines_spread dists names (AddArrays name at left right ∷ ls) blocks =
    (tt, (one_out dists (slot_of names left.bytes) (length names) blocks, lines_spread dists (name.bytes ∷ names) ls blocks))
lines_spread dists names (AddNumber name at left n ∷ ls) blocks =
    (one_out dists (slot_of names left.bytes) (length names) blocks, lines_spread dists (name.bytes ∷ names) ls blocks)

-- what `run_shared` of hp_spmd asks of a script's code
pub code_spreads : (lines : List Line) (code : Code) → IsCodeOf lines code → Spreads code.arrays code.list
code_spreads lines code is =
    subst (Spreads code.arrays) (sym is.list)
    (lines_spread code.arrays [] lines (λ k. ap (λ ds. dist_at ds k) is.arrays ∙ dist_at_blocks (length (names_after [] lines)) k))

-- the whole theorem, where the code was made
pub made_runs : (body : List Stmt) (lines : List Line) (code : Code) → built [] (block_of body) ≡ Ok lines → IsCodeOf lines code → ReadsAssigned [] lines → Runs body code
made_runs body lines code are is reads =
    code_runs body lines code are is reads (λ tables ranks limit some few. run_shared code tables ranks limit some few (code_spreads lines code is))
