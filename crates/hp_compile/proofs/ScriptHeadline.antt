-- What the ranks write is what the script means.
use Rattle.std.proofs.Common.{◌≡◌, ◌∙◌, sym, subst, ap, arith, ℕ, zero, suc, ◌+◌, ◌*◌, ◌≤◌, ◌++◌, length, length-append, Some}
use Rattle.std.proofs.Math.Nat.{le_of_mul-le-mul_left, mul-le-mul_left}
use Rattle.std.specs.Prelude.{Option}
use Rattle.std.specs.List.{range_with_len}
use Rattle.std.proofs.lemmas.List.FromFn.{length-range_with_len}
use Rattle.hp_word.specs.Runs.{Ran}
use Rattle.hp_network.specs.Network.{rounds}
use Rattle.hp_turns.specs.Turns.{budget}
use Rattle.hp_meaning.specs.declared.seq.SeqStatus.{SeqStatus}
use Rattle.hp_meaning.specs.declared.seq.SeqStatus.TheVariants as status
use Rattle.hp_meaning.specs.Run.{End}
use Rattle.hp_air.specs.Meaning.{mean, work_of}
use Rattle.hp_air.specs.Wholes.{Env}
use Rattle.hp_flat.specs.Flat.{flat_script}
use Rattle.hp_flat.specs.FlatLaws.{EndsAs, HaveOneMeaning, MeanTheSame, as_done, as_spent, as_trapped, ending_by, script_ending}
use Rattle.hp_flat.specs.KeptLaws.{AreKept}
use Rattle.hp_flat.specs.Homes.{homes_of, slots_in, words_in}
use Rattle.hp_compile.specs.Meant.{Stops, orders_after}
use Rattle.hp_compile.specs.RanksLaws.{program_meant, program_work}
use Rattle.hp_compile.specs.HeadlineLaws.{Headline, IsStop, ScriptIsOver, ScriptIsWritten, ScriptProgramsMean, script_end, script_meant, script_program}
use Rattle.hp_compile.proofs.AirHeadline.{built_means_as_air, write_same}
use Rattle.hp_compile.proofs.RanksWrite.{programs_hold_end, programs_stand, programs_write}
use Rattle.hp_compile.proofs.RoundsEnd.{programs_are_over}

pub script_is_written : ScriptIsWritten
script_is_written p typed r turns h as_script = write_same r (program_meant p r.tables) (script_meant typed r.tables) turns as_script.endings (programs_write p r turns h)

-- ---- rounds

length_rounds : (n count : ℕ) → length (rounds n count) ≡ n * count
length_rounds n zero = omega arith
length_rounds n (suc k) =
    let both = length-append (range_with_len 0 n) (rounds n k) in
    let one = length-range_with_len 0 n in
    let rest = length_rounds n k in
    omega (arith, both, one, rest)

-- a budget of turns has as many rounds as its work wants
budget_enough : (t n w count : ℕ) → 1 ≤ n → n ≤ 32 → w ≤ 16 * (t + 1) → n * (t + 1) * (256 + 32 * n) ≤ n * count → (2 * n + 14) * w + n ≤ count
budget_enough t n w count some few work enough =
    let joined : n * ((t + 1) * (256 + 32 * n)) ≤ n * count = omega (arith, enough) in
    let each = le_of_mul-le-mul_left {m = (t + 1) * (256 + 32 * n)} {n = count} {k = n} joined (omega (arith, some)) in
    let cost = mul-le-mul_left {m = w} {n = 16 * (t + 1)} (2 * n + 14) work in
    omega (arith, each, cost, few)

end_stops : (e : Option End) (end : End) → e ≡ Some end → IsStop end.status → Stops (script_ending e)
end_stops e end is stop = subst (λ (o : Option End). Stops (script_ending o)) (sym is) (by end.status stop)
  where
    by : (s : SeqStatus) → IsStop s → Stops (ending_by s end.at.out end.at.seen.met.bad)
    by status.Done h = tt
    by (status.Trap at kind) h = tt
    by status.Fuel h = h

pub script_is_over : ScriptIsOver
script_is_over p typed r count more fuel e h as_script is stop enough =
    let os = orders_after r (rounds r.count count ++ more) in
    let stops = subst Stops (sym (as_script.endings os fuel)) (end_stops (script_end typed r.tables os fuel) e is stop) in
    let turns : budget e.at.seen.ticks r.count ≤ r.count * count = let long = length_rounds r.count count in omega (arith, long, enough) in
    programs_are_over p r h count more fuel stops (budget_enough e.at.seen.ticks r.count (program_work p r.tables os fuel) count h.some h.few (as_script.work os fuel e is) turns)

-- ---- the script's own program

few_units : (e : End) (ran : Ran Env ℕ) → EndsAs e ran → work_of ran ≤ 16 * (e.at.seen.ticks + 1)
few_units e ran (as_done a b c d few) = few
few_units e ran (as_trapped a b few) = few
few_units e ran (as_spent a b few) = few

pub script_programs_mean : AreKept → MeanTheSame → HaveOneMeaning → ScriptProgramsMean
script_programs_mean keeps meaning one typed dists tables checked go =
    let slots = slots_in (homes_of typed) in
    let air = flat_script typed in
    let as_air = built_means_as_air slots (words_in (homes_of typed)) air dists tables (keeps typed checked) in
    record {
      endings = λ orders fuel. as_air.endings orders fuel ∙ sym (one typed checked tables.list orders fuel go);
      work = λ orders fuel e is.
          let less = as_air.work orders fuel in
          let most = few_units e (mean slots air tables.list orders fuel) (meaning typed checked tables.list orders fuel e go is) in
          omega (arith, less, most);
    }

-- ---- the headline

pub headline : ScriptProgramsMean → Headline
headline mean typed dists r turns checked go h =
    let p = script_program typed dists in
    record {
      stand = programs_stand p r turns h;
      write = script_is_written p typed r turns h (mean typed dists r.tables checked go);
      ends = λ fuel le halted. programs_hold_end p r turns fuel h le halted;
    }
