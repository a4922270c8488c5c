-- The rows of a loop of one let.
use Rattle.std.proofs.Common.{◌≡◌, ℕ, zero, suc, ◌<◌, ◌≤◌, List, [], ◌∷◌, ◌++◌, map, length, take, ℤ, pos, refl, sym, ap, ◌∙◌, arith, add-one, Result, Ok}
use Rattle.std.proofs.lemmas.List.{map-append, take_more}
use Rattle.hp_word.specs.declared.place.Trap.{Trap}
use Rattle.hp_word.specs.LoopRules.{rows_below, column_of, word_at}

-- where the let has the value of a list at each place, the rows hold the list
pub rows_made : (vs : List ℤ) (row : ℕ → Result (List ℤ) Trap) → ((i : ℕ) → i < length vs → row i ≡ Ok (word_at vs i ∷ [])) → (m : ℕ) → m ≤ length vs → rows_below row m ≡ Ok (map (λ c. c ∷ []) (take m vs))
rows_made vs row h zero le = refl
rows_made vs row h (suc m) le =
    let lt : m < length vs = omega arith in
    let more : take (suc m) vs ≡ take m vs ++ word_at vs m ∷ [] = rw (← add-one) (take_more vs m (pos 0) lt) in
    rw (rows_made vs row h m (omega arith), h m lt)
    (ap (λ l. Ok l) (sym (ap (map (λ c. c ∷ [])) more ∙ map-append (λ c. c ∷ []) (take m vs) (word_at vs m ∷ []))))

pub column_made : (vs : List ℤ) → column_of 0 (map (λ c. c ∷ []) vs) ≡ vs
column_made [] = refl
column_made (c ∷ cs) = ap (λ l. c ∷ l) (column_made cs)
