-- Runs of the machine put together.
use Rattle.std.proofs.Common.{◌≡◌, ℕ, zero, suc, ◌+◌, Bool, true, false, List, [], ◌∷◌, ◌++◌, Option, Some, None, refl, ap, sym, ◌∙◌, arith}
use Rattle.hp_word.specs.declared.place.Place.{Place}
use Rattle.hp_script.specs.Lexemes.{Lexed}
use Rattle.hp_parse.specs.Machine.{Config, Goal, Value, Phrase, Action, At, want, make, made, step, run, Leads, moved, moved_at_end, enter}

pub run_zero : (is_deep : ℕ → Bool) (end : Place) (c : Config) → run is_deep end zero c ≡ c
unfolding run
run_zero is_deep end c = refl

pub run_suc : (is_deep : ℕ → Bool) (end : Place) (n : ℕ) (c : Config) → run is_deep end (suc n) c ≡ run is_deep end n (step is_deep end c)
unfolding run
run_suc is_deep end n c = refl

pub run_add : (is_deep : ℕ → Bool) (end : Place) (n m : ℕ) (c : Config) → run is_deep end (n + m) c ≡ run is_deep end m (run is_deep end n c)
run_add is_deep end zero m c = ap (λ k. run is_deep end k c) (omega arith) ∙ ap (run is_deep end m) (sym (run_zero is_deep end c))
run_add is_deep end (suc n) m c =
    ap (λ k. run is_deep end k c) (omega arith) ∙ run_suc is_deep end (n + m) c ∙ run_add is_deep end n m (step is_deep end c)
    ∙ ap (run is_deep end m) (sym (run_suc is_deep end n c))

pub leads_here : (is_deep : ℕ → Bool) (end : Place) (c : Config) → Leads is_deep end c c
leads_here is_deep end c = record { steps = zero; run_is = run_zero is_deep end c }

pub leads_then : {is_deep : ℕ → Bool} {end : Place} {a b c : Config} → Leads is_deep end a b → Leads is_deep end b c → Leads is_deep end a c
leads_then {is_deep} {end} {a} {b} {c} f g = record {
  steps = f.steps + g.steps;
  run_is = run_add is_deep end f.steps g.steps a ∙ ap (run is_deep end g.steps) f.run_is ∙ g.run_is;
}

pub leads_step : (is_deep : ℕ → Bool) (end : Place) (a : Config) → Leads is_deep end a (step is_deep end a)
leads_step is_deep end a = record { steps = suc zero; run_is = run_suc is_deep end zero a ∙ run_zero is_deep end (step is_deep end a) }

-- ---- single steps

pub step_make : (is_deep : ℕ → Bool) (end : Place) (tokens : List Lexed) (k d : ℕ) (action : Action) (stack : List Goal) (values : List Value)
    → step is_deep end (At tokens k d (make action ∷ stack) values) ≡ At tokens k d stack (made action values)
unfolding step
step_make is_deep end tokens k d action stack values = refl

pub step_token : (is_deep : ℕ → Bool) (end : Place) (token : Lexed) (rest : List Lexed) (k d : ℕ) (phrase : Phrase) (stack : List Goal) (values : List Value)
    → step is_deep end (At (token ∷ rest) k d (want phrase ∷ stack) values)
    ≡ moved is_deep token rest (enter phrase (Some token.what) token.at k d) d stack values
unfolding step
step_token is_deep end token rest k d phrase stack values = refl

pub step_end : (is_deep : ℕ → Bool) (end : Place) (k d : ℕ) (phrase : Phrase) (stack : List Goal) (values : List Value)
    → step is_deep end (At [] k d (want phrase ∷ stack) values) ≡ moved_at_end end (enter phrase None end k d) d stack values
unfolding step
step_end is_deep end k d phrase stack values = refl
