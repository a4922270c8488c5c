-- The one induction over a program's tree: the lockstep of its code comes as far as the program does.
use Rattle.std.proofs.Common.{◌≡◌, ◌≢◌, ◌∙◌, refl, sym, subst, ap, arith, ℕ, zero, suc, ◌+◌, ◌-◌, ◌*◌, ◌<◌, ◌≤◌, cond, Bool, true, false, List, [], ◌∷◌, ◌++◌, append_assoc, length, drop, Some, None}
use Rattle.std.specs.List.{AllByRecursion}
use Rattle.std.proofs.lemmas.Bool.{ne_eqb}
use Rattle.std.proofs.lemmas.List.{length-append}
use Rattle.hp_word.specs.declared.table.Tables.{Tables}
use Rattle.hp_word.specs.Runs as runs
use Rattle.hp_word.specs.Runs.{Ran, Runs, behind, turn, turned, turns}
use Rattle.hp_word.specs.Words.{is_true}
use Rattle.hp_spmd.specs.declared.code.Code.{Code}
use Rattle.hp_spmd.specs.declared.instr.Instr.{Instr}
use Rattle.hp_spmd.specs.declared.instr.Instr.TheVariants as instr
use Rattle.hp_spmd.specs.Kinds.{Kind, Jumps}
use Rattle.hp_spmd.specs.Lockstep.{State, position_of, run, state_of}
use Rattle.hp_spmd.specs.Store.{instr_at}
use Rattle.hp_program.specs.Programs.{Prog, stop, plain, choose, loop, Doing, by_word, decided, operations, start, tests, worked}
use Rattle.hp_program.specs.Programs as programs
use Rattle.hp_program.proofs.Replaced.{behind_behind}
use Rattle.hp_snippet.proofs.Exchanges.{step_at}
use Rattle.hp_lowering.specs.CodeOf.{code_from}
use Rattle.hp_lowering.specs.Flow.{Carries, CarriesAll, CarriesJumps, Comes, Looks}
use Rattle.hp_lowering.proofs.CodeNames.{all_back, all_front}
use Rattle.hp_lowering.proofs.Coming.{comes_to_end}
use Rattle.hp_lowering.proofs.Later.{Grows, later_behind, run_later, turn_later, turns_later, went_grows, word_grows}
use Rattle.hp_lowering.proofs.Places.{drop_one, drop_past, first_there, stand_there}
use Rattle.hp_lowering.proofs.OneStep.{Claim, ClaimBelow, goto_comes, look_comes, operation_comes}

-- ---- runs

-- what is run behind each
behind_grows : {E : Type 0} (f g : Runs E ℕ) → Grows f → Grows g → Grows (λ t. behind (f t) g)
behind_grows f g p q = record { from = λ s. later_behind g (p.from s) q }

if_behind : {E : Type 0} (holds : Bool) (a b : Ran E ℕ) (f : Runs E ℕ) → behind (cond holds a b) f ≡ cond holds (behind a f) (behind b f)
if_behind true a b f = refl
if_behind false a b f = refl

-- what stands behind both sides of a look at a word
word_behind : {Op E : Type 0} (d : Doing Op E) (w : ℕ) (first second f : Runs E ℕ) (s : runs.State E ℕ) → behind (by_word d w first second s) f ≡ by_word d w (λ t. behind (first t) f) (λ t. behind (second t) f) s
unfolding by_word
word_behind d w first second f s = if_behind (is_true (d.word s.env w)) (first (worked 1 s)) (second (worked 1 s)) f

behind_went : {E : Type 0} (ran : Ran E ℕ) → behind ran runs.Went ≡ ran
behind_went (runs.Went s) = refl
behind_went (runs.Trapped t s) = refl
behind_went (runs.Spent s) = refl
behind_went runs.Mistaken = refl

-- a turn for which there is fuel
turn_goes : {E : Type 0} (body more : Runs E ℕ) (s : runs.State E ℕ) → 0 < s.fuel → turn body more s ≡ behind (body (turned s)) more
turn_goes body more s some =
    let different : s.fuel ≢ 0 = omega (arith, some) in
    ap (λ none. cond none (runs.Spent s) (behind (body (turned s)) more)) (ne_eqb s.fuel 0 different)

module _ (Op E : Type 0) (d : Doing Op E) (steps : Op → List Instr) (code : Code) (tables : Tables) (price : Kind → ℕ) (most : ℕ) (I Agrees : State → Type 0) (StandsFor : State → E → Type 0) where
  abbrev Holds : (fuel slack left place : ℕ) → Runs E ℕ → Type 0
  Holds fuel slack left place f = Claim Op E d steps code tables price most I Agrees StandsFor fuel slack left place f

  abbrev ComesTo : (k before paid_before : ℕ) → State → Ran E ℕ → Type 0
  ComesTo k before paid_before s ran = Comes code tables price most I StandsFor k s before paid_before ran

  abbrev AreCarried : List Op → Type 0
  AreCarried ops = AllByRecursion (Carries d steps code tables price most I Agrees StandsFor) ops

  abbrev AreLooks : List ℕ → Type 0
  AreLooks words = AllByRecursion (Looks d code I StandsFor) words

  abbrev AreJumps : Type 0
  AreJumps = CarriesJumps code tables price most I Agrees StandsFor

  -- what holds of more fuel holds of less
  narrower : (fuel fuel2 slack left place : ℕ) (f : Runs E ℕ) → fuel2 ≤ fuel → Holds fuel slack left place f → Holds fuel2 slack left place f
  narrower fuel fuel2 slack left place f le h k before paid_before s src ready low few cheap = h k before paid_before s src ready (omega (arith, le, low)) few cheap

  -- ---- a loop

  -- a body that is gone through with one turn less, and then back to the test
  turn_comes : (fuel slack left look back place : ℕ) (body more rest : Runs E ℕ) → AreJumps → instr_at code.list back ≡ instr.Jump place None → Grows more → Grows rest
      → ((fuel slack left : ℕ) (f : Runs E ℕ) → Grows f → Holds fuel slack left back f → Holds fuel slack left (suc look) (λ src. behind (body src) f))
      → (0 < fuel → Holds (fuel - 1) slack left place (λ src. behind (more src) rest))
      → ClaimBelow Op E d steps code tables price most I Agrees StandsFor fuel (suc slack) (left + price (Jumps place None)) (suc look) (λ src. behind (turn body more src) rest)
  turn_comes fuel slack left look back place body more rest j is grows grows2 bodies next k before paid_before s src below ready low few cheap =
      let some : 0 < src.fuel = omega (arith, below) in
      let left_over : k ≤ src.fuel - 1 = omega (arith, below) in
      let lower : src.fuel - 1 ≤ fuel - 1 = omega (arith, low) in
      let some_left : 0 < fuel = omega (arith, some, low) in
      let f : Runs E ℕ = λ v. behind (more v) rest in
      let g = behind_grows more rest grows grows2 in
      let back_comes = goto_comes Op E d steps code tables price most I Agrees StandsFor (fuel - 1) slack left back place f j is g (next some_left) in
      let same : behind (turn body more src) rest ≡ behind (body (turned src)) f = ap (λ ran. behind ran rest) (turn_goes body more src some) ∙ behind_behind (body (turned src)) more rest in
      subst (ComesTo k before paid_before s) (sym same)
      (bodies (fuel - 1) (suc slack) (left + price (Jumps place None)) f g back_comes k before paid_before s (turned src)
      (record { at = ready.at; out = ready.out; stands = ready.stands; fuel = left_over; agrees = ready.agrees }) lower few cheap)

  turns_come : (j fuel slack left place look back other w : ℕ) (test body rest : Runs E ℕ) → AreJumps → Looks d code I StandsFor w → instr_at code.list look ≡ instr.Jump other (Some w) → instr_at code.list back ≡ instr.Jump place None
      → Grows test → Grows body → Grows rest
      → ((fuel slack left : ℕ) (f : Runs E ℕ) → Grows f → Holds fuel slack left look f → Holds fuel slack left place (λ src. behind (test src) f))
      → ((fuel slack left : ℕ) (f : Runs E ℕ) → Grows f → Holds fuel slack left back f → Holds fuel slack left (suc look) (λ src. behind (body src) f))
      → Holds fuel slack left other rest → fuel < j → Holds fuel slack left place (λ src. behind (turns j (decided d test w) body src) rest)
  unfolding turns decided
  turns_come zero fuel slack left place look back other w test body rest j looks is is2 gt gb gr tests bodies next less k before paid_before s src ready low few cheap = absurd (omega (arith, less))
  turns_come (suc m) fuel slack left place look back other w test body rest j looks is is2 gt gb gr tests bodies next less k before paid_before s src ready low few cheap =
      let more : Runs E ℕ = turns m (decided d test w) body in
      let grown = turns_later m d test w body gt gb in
      let one : Runs E ℕ = λ u. behind (turn body more u) rest in
      let grown_one = behind_grows (turn body more) rest (turn_later body more gb grown) gr in
      let again : 0 < fuel → Holds (fuel - 1) slack left place (λ src. behind (more src) rest) = λ has.
      turns_come m (fuel - 1) slack left place look back other w test body rest j looks is is2 gt gb gr tests bodies (narrower fuel (fuel - 1) slack left other rest (omega arith) next) (omega (arith, less, has)) in
      let looked = look_comes Op E d steps code tables price most I Agrees StandsFor w fuel slack left look place other one rest j looks is grown_one gr (turn_comes fuel slack left look back place body more rest j is2 grown gr bodies again) next in
      let behind_look : Runs E ℕ = λ t. behind (by_word d w (turn body more) runs.Went t) rest in
      let same : behind (behind (test src) (by_word d w (turn body more) runs.Went)) rest ≡ behind (test src) behind_look = behind_behind (test src) (by_word d w (turn body more) runs.Went) rest in
      subst (ComesTo k before paid_before s) (sym same)
      (tests fuel slack left behind_look (behind_grows (by_word d w (turn body more) runs.Went) rest (word_grows d w (turn body more) runs.Went (turn_later body more gb grown) went_grows) gr)
      (λ n b c t u r l p q. subst (ComesTo n b c t) (sym (word_behind d w (turn body more) runs.Went rest u)) (looked n b c t u r l p q)) k before paid_before s src ready low few cheap)

  -- ---- a program

  pub program_comes : (p : Prog Op) (fuel slack left place until : ℕ) (rest : Runs E ℕ) (after : List Instr) → AreJumps → AreCarried (operations p) → AreLooks (tests p) → Grows rest
      → drop place code.list ≡ code_from steps place p ++ after → until ≡ place + length (code_from steps place p) → Holds fuel slack left until rest → Holds fuel slack left place (λ src. behind (programs.run d p src) rest)
  unfolding code_from operations tests programs.run
  program_comes stop fuel slack left place until rest after j carried looks grows stand end next k before paid_before s src ready low few cheap =
      let same : until ≡ place = omega (arith, end) in
      subst (λ n. Holds fuel slack left n rest) same next k before paid_before s src ready low few cheap
  program_comes (plain op p) fuel slack left place until rest after j carried looks grows stand end next k before paid_before s src ready low few cheap =
      let on = place + length (steps op) in
      let code_rest = code_from steps on p in
      let flat = stand ∙ append_assoc (steps op) code_rest after in
      let sum = length-append (steps op) code_rest in
      let end2 : until ≡ on + length code_rest = omega (arith, end, sum) in
      let rest2 : Runs E ℕ = λ t. behind (programs.run d p t) rest in
      let then_rest = program_comes p fuel slack left on until rest after j carried.1 looks grows (drop_past code.list (steps op) (code_rest ++ after) place flat) end2 next in
      subst (ComesTo k before paid_before s) (sym (behind_behind (programs.step d op src) (programs.run d p) rest))
      (operation_comes Op E d steps code tables price most I Agrees StandsFor op fuel slack left place rest2 carried.0 j.earlier (behind_grows (programs.run d p) rest (run_later d p) grows) then_rest
      (stand_there code.list (steps op) (code_rest ++ after) place flat) k before paid_before s src ready low few cheap)
  program_comes (choose w first second p) fuel slack left place until rest after j carried looks grows stand end next k before paid_before s src ready low few cheap =
      let P = Carries d steps code tables price most I Agrees StandsFor in
      let L = Looks d code I StandsFor in
      let both = all_front {X = Op} P (operations first ++ operations second) (operations p) carried in
      let carried1 = all_front {X = Op} P (operations first) (operations second) both in
      let carried2 = all_back {X = Op} P (operations first) (operations second) both in
      let carried3 = all_back {X = Op} P (operations first ++ operations second) (operations p) carried in
      let yes_code = code_from steps (place + 1) first in
      let other = place + length yes_code + 2 in
      let no_code = code_from steps other second in
      let beyond = other + length no_code in
      let last_code = code_from steps beyond p in
      let there = instr.Jump beyond None in
      let go = instr.Jump other (Some w) in
      let last = last_code ++ after in
      let flat = stand ∙ ap (λ l. go ∷ l) (append_assoc yes_code (there ∷ (no_code ++ last_code)) after) ∙ ap (λ l. go ∷ (yes_code ++ (there ∷ l))) (append_assoc no_code last_code after) in
      let e1 = drop_one code.list (yes_code ++ (there ∷ (no_code ++ last))) go place (place + 1) refl flat in
      let e2 = drop_past code.list yes_code (there ∷ (no_code ++ last)) (place + 1) e1 in
      let at_other : other ≡ ((place + 1) + length yes_code) + 1 = omega arith in
      let e3 = drop_one code.list (no_code ++ last) there ((place + 1) + length yes_code) other at_other e2 in
      let e4 = drop_past code.list no_code last other e3 in
      let sum1 = length-append yes_code (there ∷ (no_code ++ last_code)) in
      let sum2 = length-append no_code last_code in
      let end2 : until ≡ beyond + length last_code = omega (arith, end, sum1, sum2) in
      let rest2 : Runs E ℕ = λ t. behind (programs.run d p t) rest in
      let grows2 = behind_grows (programs.run d p) rest (run_later d p) grows in
      let words2 = all_back {X = ℕ} L (tests first ++ tests second) (tests p) looks.1 in
      let last_comes = program_comes p fuel slack left beyond until rest after j carried3 words2 grows e4 end2 next in
      let second_comes = program_comes second fuel slack left other beyond rest2 last j carried2 (all_back {X = ℕ} L (tests first) (tests second) (all_front {X = ℕ} L (tests first ++ tests second) (tests p) looks.1)) grows2 e3 refl last_comes in
      let back_comes = goto_comes Op E d steps code tables price most I Agrees StandsFor fuel slack left ((place + 1) + length yes_code) beyond rest2 j (first_there code.list (no_code ++ last) there ((place + 1) + length yes_code) e2) grows2 last_comes in
      let first_comes = program_comes first fuel (suc slack) (left + price (Jumps beyond None)) (place + 1) ((place + 1) + length yes_code) rest2 (there ∷ (no_code ++ last)) j carried1
      (all_front {X = ℕ} L (tests first) (tests second) (all_front {X = ℕ} L (tests first ++ tests second) (tests p) looks.1)) grows2 e1 refl back_comes in
      let one : place + 1 ≡ suc place = omega arith in
      let f : Runs E ℕ = λ t. behind (programs.run d first t) rest2 in
      let g : Runs E ℕ = λ t. behind (programs.run d second t) rest2 in
      let first_here = subst (λ n. Holds fuel (suc slack) (left + price (Jumps beyond None)) n f) one first_comes in
      let same = behind_behind (by_word d w (programs.run d first) (programs.run d second) src) (programs.run d p) rest ∙ word_behind d w (programs.run d first) (programs.run d second) rest2 src in
      subst (ComesTo k before paid_before s) (sym same)
      (look_comes Op E d steps code tables price most I Agrees StandsFor w fuel slack left place beyond other f g j looks.0 (first_there code.list (yes_code ++ (there ∷ (no_code ++ last))) go place flat)
      (behind_grows (programs.run d first) rest2 (run_later d first) grows2) (behind_grows (programs.run d second) rest2 (run_later d second) grows2)
      (λ n b c t u below r l p q. first_here n b c t u r l p q) second_comes k before paid_before s src ready low few cheap)
  program_comes (loop test w body p) fuel slack left place until rest after j carried looks grows stand end next k before paid_before s src ready low few cheap =
      let P = Carries d steps code tables price most I Agrees StandsFor in
      let L = Looks d code I StandsFor in
      let both = all_front {X = Op} P (operations test ++ operations body) (operations p) carried in
      let carried1 = all_front {X = Op} P (operations test) (operations body) both in
      let carried2 = all_back {X = Op} P (operations test) (operations body) both in
      let carried3 = all_back {X = Op} P (operations test ++ operations body) (operations p) carried in
      let look_code = code_from steps place test in
      let inside = place + length look_code + 1 in
      let turn_code = code_from steps inside body in
      let beyond = inside + length turn_code + 1 in
      let last_code = code_from steps beyond p in
      let go = instr.Jump beyond (Some w) in
      let back = instr.Jump place None in
      let last = last_code ++ after in
      let e0 = stand ∙ append_assoc look_code (go ∷ (turn_code ++ (back ∷ last_code))) after ∙ ap (λ l. look_code ++ (go ∷ l)) (append_assoc turn_code (back ∷ last_code) after) in
      let e1 = drop_past code.list look_code (go ∷ (turn_code ++ (back ∷ last))) place e0 in
      let e2 = drop_one code.list (turn_code ++ (back ∷ last)) go (place + length look_code) inside refl e1 in
      let e3 = drop_past code.list turn_code (back ∷ last) inside e2 in
      let e4 = drop_one code.list last back (inside + length turn_code) beyond refl e3 in
      let sum1 = length-append look_code (go ∷ (turn_code ++ (back ∷ last_code))) in
      let sum2 = length-append turn_code (back ∷ last_code) in
      let end2 : until ≡ beyond + length last_code = omega (arith, end, sum1, sum2) in
      let rest2 : Runs E ℕ = λ t. behind (programs.run d p t) rest in
      let grows2 = behind_grows (programs.run d p) rest (run_later d p) grows in
      let front = all_front {X = ℕ} L (tests test ++ (w ∷ tests body)) (tests p) looks in
      let words1 = all_front {X = ℕ} L (tests test) (w ∷ tests body) front in
      let words2 = all_back {X = ℕ} L (tests test) (w ∷ tests body) front in
      let words3 = all_back {X = ℕ} L (tests test ++ (w ∷ tests body)) (tests p) looks in
      let last_comes = program_comes p fuel slack left beyond until rest after j carried3 words3 grows e4 end2 next in
      let one : inside ≡ suc (place + length look_code) = omega arith in
      let decide = decided d (programs.run d test) w in
      let turn = programs.run d body in
      let same = behind_behind (turns (suc src.fuel) decide turn src) (programs.run d p) rest in
      let least : src.fuel ≤ src.fuel = omega arith in
      let less : src.fuel < suc src.fuel = omega arith in
      subst (ComesTo k before paid_before s) (sym same)
      (turns_come (suc src.fuel) src.fuel slack left place (place + length look_code) (inside + length turn_code) beyond w (programs.run d test) turn rest2 j words2.0
      (first_there code.list (turn_code ++ (back ∷ last)) go (place + length look_code) e1) (first_there code.list last back (inside + length turn_code) e3) (run_later d test) (run_later d body) grows2
      (λ most_fuel spare more f grown h. program_comes test most_fuel spare more place (place + length look_code) f (go ∷ (turn_code ++ (back ∷ last))) j carried1 words1 grown e0 refl h)
      (λ most_fuel spare more f grown h.
      subst (λ n. Holds most_fuel spare more n (λ t. behind (programs.run d body t) f)) one
      (program_comes body most_fuel spare more inside (inside + length turn_code) f (back ∷ last) j carried2 words2.1 grown e2 refl h))
      (narrower fuel src.fuel slack left beyond rest2 low last_comes) less k before paid_before s src ready least few cheap)

  -- ---- the whole code

  -- ranks that have come to the end have ended
  end_comes : (fuel place : ℕ) → AreJumps → instr_at code.list place ≡ instr.Halt → Holds fuel 0 0 place runs.Went
  end_comes fuel place j is k before paid_before s src ready low few cheap =
      let at : instr_at code.list (position_of s.ranks) ≡ instr.Halt = ap (instr_at code.list) ready.at ∙ is in
      let paid_all : paid_before ≤ most * src.seen = omega (arith, cheap) in
      comes_to_end {E = E} code tables price most I StandsFor k before paid_before s src (step_at code tables instr.Halt s.ranks s.out at) (j.ended s src.env ready.stands at) ready.out ready.stands paid_all

  pub whole_comes : (p : Prog Op) (e : E) (fuel k : ℕ) (s : State) → CarriesAll d steps code tables price most I Agrees StandsFor p → code.list ≡ code_from steps 0 p ++ (instr.Halt ∷ []) → position_of s.ranks ≡ 0 → s.out ≡ [] → StandsFor s e
      → k ≤ fuel → Agrees (state_of (run code tables k s)) → ComesTo k 0 0 s (programs.run d p (start e fuel))
  whole_comes p e fuel k s c list at out stands enough agrees =
      let last = length (code_from steps 0 p) in
      let none : last ≡ 0 + last = omega arith in
      let here : drop (0 + last) code.list ≡ instr.Halt ∷ [] = drop_past code.list (code_from steps 0 p) (instr.Halt ∷ []) 0 list in
      let halt : instr_at code.list (0 + last) ≡ instr.Halt = first_there code.list [] instr.Halt (0 + last) here in
      let none_before : 0 + 0 ≤ 16 * 0 = omega arith in
      let none_paid : 0 + 0 ≤ most * 0 = omega arith in
      let least : fuel ≤ fuel = omega arith in
      subst (ComesTo k 0 0 s) (behind_went (programs.run d p (start e fuel)))
      (program_comes p fuel 0 0 0 (0 + last) runs.Went (instr.Halt ∷ []) c.jumps c.each c.looks went_grows list refl (end_comes fuel (0 + last) c.jumps halt) k 0 0 s (start e fuel)
      (record { at = at; out = out; stands = stands; fuel = enough; agrees = agrees }) least none_before none_paid)
