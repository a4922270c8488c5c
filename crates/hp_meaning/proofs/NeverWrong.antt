-- A script in which no rule breaks has an end, over tables that go with its files; and its variables are then of their types.
use Rattle.std.proofs.Common.{◌≡◌, ℕ, List, [], ◌++◌, Some, None, IsSome, refl, sym, ap, subst, subst₂, append-nil}
use Rattle.std.specs.List.{range_with_len}
use Rattle.hp_word.specs.declared.order.Order.{Order}
use Rattle.hp_word.specs.declared.table.Table.{Table}
use Rattle.hp_script.specs.declared.tree.Script.{Script}
use Rattle.hp_script.specs.Checked.{start_of, after, first_break, files_of}
use Rattle.hp_script.specs.Mirror.{Block, block_of}
use Rattle.hp_script.specs.Nodes.{nodes_of}
use Rattle.hp_script.proofs.FittingBlocks.{start_sound}
use Rattle.hp_meaning.specs.declared.seq.SeqStatus.TheVariants as status
use Rattle.hp_meaning.specs.Fitting.{EndsTyped, Serves, Keeps}
use Rattle.hp_meaning.specs.ReadCalls.{reads_of}
use Rattle.hp_meaning.specs.Run.{State, Ran, run, End, end_of, start, eval}
use Rattle.hp_meaning.specs.Scopes.{value_named}
use Rattle.hp_meaning.specs.ValueOf.{supply}
use Rattle.hp_meaning.proofs.Parts.{finds, Supplies}
use Rattle.hp_meaning.proofs.ReadOrder.{supplied, reads_rise}
use Rattle.hp_meaning.proofs.SafeBlocks.{Top, Holds, Keeping, Runs, went, trapped, spent, runs_on}

start_top : (body : Block) → Top (start_of body)
start_top body = record { sound = start_sound body; out = refl; clear = refl }

start_keeps : (body : Block) → Keeps (start_of body) []
start_keeps body = record { known = λ x h. absurd cc }

start_holds : (body : Block) → Holds (after (start_of body) body) (start_of body) []
unfolding value_named
start_holds body = record { surely = start_keeps body; all = record { typed = λ x a h. absurd cc } }

-- a run that is not mistaken has an end
ends : {P : State → Type 0} {ran : Ran} → Runs P ran → IsSome (end_of ran)
ends (went h) = refl
ends trapped = refl
ends spent = refl

some_end : {e f : End} → Some e ≡ Some f → e ≡ f
some_end h = cc

-- and where it is done, what holds of it holds at its end
ends_with : {P : State → Type 0} {ran : Ran} (e : End) → Runs P ran → end_of ran ≡ Some e → e.status ≡ status.Done → P e.at
ends_with {P = P} e (went h) is done = subst (λ (f : End). P f.at) (some_end is) h
ends_with e (trapped {t = t} {s = s}) is done = let same : status.Trap t.at t.kind ≡ e.status = ap (λ (f : End). f.status) (some_end is) in absurd cc
ends_with e (spent {s = s}) is done = let same : status.Fuel ≡ e.status = ap (λ (f : End). f.status) (some_end is) in absurd cc

whole_runs : (body : Block) (tables : List Table) (orders : List Order) (fuel n : ℕ) → first_break body ≡ None → nodes_of body ≡ range_with_len 0 n → Serves tables (files_of body)
    → Runs (Keeping (after (start_of body) body) (after (start_of body) body)) (run (supply tables (reads_of body) orders) body (start fuel))
unfolding first_break
whole_runs body tables orders fuel n fits numbered serves =
    let g = supply tables (reads_of body) orders in
    let there : Supplies (finds g) (reads_of body) (files_of body) = supplied 0 (reads_of body) tables (files_of body) (reads_rise body n numbered) serves in
    let all : Supplies (finds g) (reads_of body ++ []) (files_of body ++ []) = subst₂ (λ ids files. Supplies (finds g) ids files) (sym (append-nil (reads_of body))) (sym (append-nil (files_of body))) there in
    (runs_on g (after (start_of body) body) (start_of body) body [] [] (record { stays = λ x k h. h }) (start_top body) fits all).runs (start fuel) (start_holds body)

pub never_wrong : (body : Block) (tables : List Table) (orders : List Order) (fuel n : ℕ) → first_break body ≡ None → nodes_of body ≡ range_with_len 0 n → Serves tables (files_of body) → IsSome (eval body tables orders fuel)
unfolding eval
never_wrong body tables orders fuel n fits numbered serves = ends (whole_runs body tables orders fuel n fits numbered serves)

pub ends_typed : (body : Block) (tables : List Table) (orders : List Order) (fuel n : ℕ) (e : End) → first_break body ≡ None → nodes_of body ≡ range_with_len 0 n → Serves tables (files_of body)
    → eval body tables orders fuel ≡ Some e → EndsTyped body e
unfolding eval
ends_typed body tables orders fuel n e fits numbered serves is = λ done. let holds = ends_with e (whole_runs body tables orders fuel n fits numbered serves) is done in (holds.surely, holds.all)

-- the same of a script
pub script_ends : (script : Script) (tables : List Table) (orders : List Order) (fuel : ℕ) → first_break (block_of script.body) ≡ None → Serves tables (files_of (block_of script.body)) → IsSome (eval (block_of script.body) tables orders fuel)
script_ends script tables orders fuel fits serves = never_wrong (block_of script.body) tables orders fuel script.nodes fits script.numbered serves

pub script_typed : (script : Script) (tables : List Table) (orders : List Order) (fuel : ℕ) (e : End) → first_break (block_of script.body) ≡ None → Serves tables (files_of (block_of script.body))
    → eval (block_of script.body) tables orders fuel ≡ Some e → EndsTyped (block_of script.body) e
script_typed script tables orders fuel e fits serves is = ends_typed (block_of script.body) tables orders fuel script.nodes e fits script.numbered serves is
