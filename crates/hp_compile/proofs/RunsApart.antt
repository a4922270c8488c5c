-- The ranks of a program's code may run apart.
use Rattle.std.proofs.Common.{◌≡◌, refl, sym, subst, ℕ, suc, ◌<◌, ◌≤◌, List, [], ◌∷◌, length, Result, Ok, Err, inl, inr, ltb-true}
use Rattle.std.specs.Prelude.{◌⊎◌, IsTrue}
use Rattle.std.specs.List.{AllByRecursion}
use Rattle.hp_word.specs.declared.place.Trap.{Trap}
use Rattle.hp_word.specs.declared.table.Tables.{Tables}
use Rattle.hp_spmd.specs.declared.code.Code.{Code}
use Rattle.hp_spmd.specs.declared.instr.Instr.{Instr}
use Rattle.hp_spmd.specs.declared.store.Store.{Store}
use Rattle.hp_spmd.specs.Exchanges.{HasForm, PacksSize, Packed, leaves}
use Rattle.hp_spmd.specs.Kinds.{Kind, Computes, kind_of}
use Rattle.hp_spmd.specs.Local.{alone, computed, local_next}
use Rattle.hp_spmd.specs.Lockstep.{lockstep_of, state_of}
use Rattle.hp_spmd.specs.Next.{lifted, moved}
use Rattle.hp_spmd.specs.Spread.{IsPlaced, SpreadsWell}
use Rattle.hp_spmd.specs.Store.{Data, data_of, instr_at, with_data}
use Rattle.hp_spmd.proofs.ShareNext.{OnNext, next_placed}
use Rattle.hp_spmd.proofs.ShareRun.{within_at}
use Rattle.hp_turns.specs.Apart.{KeepsBy}
use Rattle.hp_air.specs.Kept.{are_below}
use Rattle.hp_program.specs.Programs.{tests}
use Rattle.hp_program.proofs.Keeping.{first_holds, second_holds}
use Rattle.hp_parfor.specs.KeptParts.{are_parts}
use Rattle.hp_lowering.specs.RunLaws.{LooksAtWords}
use Rattle.hp_lowering.specs.Standing.{AreSound}
use Rattle.hp_lowering.proofs.Logging.{LogsTo, computed_logs}
use Rattle.hp_lowering.proofs.PartForm.{lowered_has_form}
use Rattle.hp_lowering.proofs.RunsParts.{ranks_agree}
use Rattle.hp_compile.specs.RanksLaws.{Program, ProgramsRunApart}
use Rattle.hp_compile.proofs.Logged.{LogsBefore, computed_log, packs_size, sized_at}
use Rattle.hp_compile.proofs.WellSpread.{AllSpread, code_spread, spread_at}

-- ---- one rank alone

packs_behind : (code : Code) (place : ℕ) (x y : Store) → (y.log ≡ x.log) ⊎ PacksSize (instr_at code.list (suc place)) → (y.log ≡ x.log) ⊎ (leaves (kind_of (instr_at code.list (suc place))) ≡ Packed)
packs_behind code place x y (inl same) = inl same
packs_behind code place x y (inr size) = inr (packs_size (instr_at code.list (suc place)) size)

lifted_keeps : (code : Code) (n place : ℕ) (r : Result Data Trap) (x : Store) → OnNext (IsPlaced code n) (lifted r x) → LogsTo (data_of x) r → LogsBefore (instr_at code.list (suc place)) (data_of x) r → KeepsBy code n place Computes x (lifted r x)
lifted_keeps code n place (Err t) x placed logs log = tt
lifted_keeps code n place (Ok d) x placed logs log =
    let y : Store = with_data d (moved x) in
    record { number = refl; placed = placed; logs = record { rest = logs.rest; log = logs.log; later = logs.later }; executed = logs.executed; packs = packs_behind code place x y log }

-- what a rank computes by the instruction at a place
keeps_alone : (code : Code) (tables : Tables) (n : ℕ) → 1 ≤ n → HasForm code.list → AllSpread code.arrays code.list → (place : ℕ) (x : Store) → IsPlaced code n x
    → KeepsBy code n place (kind_of (instr_at code.list place)) x (local_next code.arrays tables (instr_at code.list place) x)
keeps_alone code tables n some form spreads place x placed = by (kind_of i) refl
  where
    i : Instr
    i = instr_at code.list place

    f : Data → Result Data Trap
    f = computed code.arrays tables x.number x.ranks i

    here : kind_of i ≡ Computes → KeepsBy code n place Computes x (alone code.arrays Computes f x)
    here e =
        let well : SpreadsWell code.arrays i = spread_at code.arrays code.list place spreads e in
        let on : OnNext (IsPlaced code n) (alone code.arrays (kind_of i) f x) = next_placed code tables n i x some well (within_at code.words (length code.arrays) code.loose code.list place code.within) placed in
        lifted_keeps code n place (f (data_of x)) x (subst (λ k. OnNext (IsPlaced code n) (alone code.arrays k f x)) e on) (computed_logs code.arrays tables x.number x.ranks i (data_of x))
        (computed_log code.arrays tables x.number x.ranks i (instr_at code.list (suc place)) (data_of x) (sized_at code.list place form.sizes))

    by : (k : Kind) → kind_of i ≡ k → KeepsBy code n place (kind_of i) x (alone code.arrays (kind_of i) f x)
    by Computes e = subst (λ k. KeepsBy code n place k x (alone code.arrays k f x)) (sym e) (here e)
    by k e = subst (λ q. KeepsBy code n place q x (alone code.arrays q f x)) (sym e) tt

-- ---- all ranks

words_below : (n : ℕ) (ws : List ℕ) → IsTrue (are_below n ws) → AllByRecursion (λ w. w < n) ws
words_below n [] h = tt
words_below n (w ∷ ws) h = (ltb-true w n (first_holds _ _ h), words_below n ws (second_holds _ _ h))

pub looks_below : (p : Program) → IsTrue (are_parts p.slots p.words p.steps) → LooksAtWords p.words p.steps
looks_below p kept = words_below p.words (tests p.steps) (second_holds _ _ kept)

pub may_run_apart : ProgramsRunApart
may_run_apart p r h =
    let list = h.list in
    let form : HasForm r.code.list = subst HasForm (sym list) (lowered_has_form p.slots p.words p.steps p.dists) in
    let spreads : AllSpread r.code.arrays r.code.list = subst (AllSpread r.code.arrays) (sym list) (code_spread p.slots p.words p.steps p.dists r.code.arrays h.kept h.lies h.arrays) in
    let sound : (k : ℕ) → AreSound r.code r.tables r.count (state_of (lockstep_of r.code r.tables r.count k)) = λ k. ranks_agree p.slots p.words p.steps p.dists r.code r.tables r.count h.some list (looks_below p h.kept) h.carried k in
    record {
      some = h.some;
      few = h.few;
      form = form;
      agree = λ k. (sound k).agree;
      shared = λ k i d lt. ((sound k).each i d lt).placed;
      keeps = keeps_alone r.code r.tables r.count h.some form spreads;
    }
