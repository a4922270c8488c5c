-- From the first state on, under every limit, the run agrees with the meaning.
use Rattle.std.proofs.Common.{◌≡◌, ap, ℕ, zero, suc, ◌+◌, ◌*◌, ◌<◌, ◌≤◌, List, [], map, length, pos, refl, sym, ◌∙◌, subst, arith, ⊎_elim, add-one, append-nil}
use Rattle.std.specs.List.{range_with_len}
use Rattle.std.proofs.lemmas.List.{length-map, length-replicate, get_or-map}
use Rattle.std.proofs.lemmas.List.FromFn.{length-map-range_with_len}
use Rattle.std.proofs.lemmas.Bool.{cases_lt}
use Rattle.hp_word.specs.declared.table.Tables.{Tables}
use Rattle.hp_word.specs.Lengths.{longest}
use Rattle.hp_meaning.specs.declared.line.Line.{Line}
use Rattle.hp_meaning.specs.Forms.{ReadsAssigned}
use Rattle.hp_meaning.specs.Meaning.{Ending, seen, lines_meaning}
use Rattle.hp_spmd.specs.declared.code.Code.{Code}
use Rattle.hp_lattice.specs.declared.dist.Dist.{Dist}
use Rattle.hp_lattice.specs.declared.dist.Dist.TheVariants.{Block}
use Rattle.hp_cuts.specs.Blocks.{block_cuts}
use Rattle.hp_spmd.specs.Lockstep.{IsOver, State, Reached, Ended, Trapped, Limit, step, run, first_state, lockstep_of}
use Rattle.hp_spmd.specs.Layout.{Numbered}
use Rattle.hp_spmd.specs.Store.{first_store, piece_at, piece_of, dealt, dist_at, no_piece}
use Rattle.hp_spmd.proofs.LockMore.{Begins, out_of, same_later, prefix_later, step_appends}
use Rattle.hp_lower.specs.Code.{lines_code}
use Rattle.hp_lower.specs.Correct.{Agrees}
use Rattle.hp_lower.proofs.Holds.{HoldsVector, Holds}
use Rattle.hp_lower.proofs.Main.{HasAt, Meets, Finishes, fills, lines_run}
use Rattle.hp_lower.proofs.Steps.{Each}

-- ---- the first state

none_short : (n : ℕ) → 0 ≤ n
none_short n = omega arith

-- each array begins with no elements
first_empty : (n r : ℕ) (dists : List Dist) (slot : ℕ) → slot < length dists → ((k : ℕ) → dist_at dists k ≡ Block) → HoldsVector Block (block_cuts 0 n) [] r (piece_at (map (λ dist. dealt dist r n []) dists) slot)
unfolding piece_of
first_empty n r dists slot lt blocks =
    let is : piece_at (map (λ dist. dealt dist r n []) dists) slot ≡ dealt Block r n [] = get_or-map (λ dist. dealt dist r n []) dists slot Block no_piece lt ∙ ap (λ d. dealt d r n []) (blocks slot) in
    subst (HoldsVector Block (block_cuts 0 n) [] r) (sym is) (record { rows_are = refl; cuts_are = refl; cells_are = refl; short = none_short longest })

first_holds : (code : Code) (n r : ℕ) → code.words ≡ 3 → ((k : ℕ) → dist_at code.arrays k ≡ Block) → Holds n (length code.arrays) 0 [] (first_store code r n)
unfolding first_store
first_holds code n r words blocks =
    record {
      ranks_are = refl;
      position_is = refl;
      words_are = length-replicate code.words (pos 0) ∙ words;
      arrays_are = length-map code.arrays (λ dist. dealt dist r n []);
      lies = tt;
      rest = λ slot le lt. first_empty n r code.arrays slot lt blocks;
    }

first_number : (code : Code) (n r : ℕ) → (first_store code r n).number ≡ r
unfolding first_store
first_number code n r = refl

first_each : (code : Code) (n a m : ℕ) → code.words ≡ 3 → ((k : ℕ) → dist_at code.arrays k ≡ Block) → Each (Holds n (length code.arrays) 0 []) (map (λ r. first_store code r n) (range_with_len a m))
first_each code n a zero words blocks = tt
first_each code n a (suc m) words blocks = (first_holds code n a words blocks, first_each code n (a + 1) m words blocks)

first_numbered : (code : Code) (n a m : ℕ) → Numbered a (map (λ r. first_store code r n) (range_with_len a m))
first_numbered code n a zero = tt
first_numbered code n a (suc m) =
    (first_number code n a, subst (λ k. Numbered k (map (λ r. first_store code r n) (range_with_len (a + 1) m))) (add-one a) (first_numbered code n (a + 1) m))

-- ---- every limit

-- the output of what is over is the meaning's
over_out : (code : Code) (r : Reached) (e : Ending) → Meets code r e → out_of r ≡ e.at.out
over_out code (Ended s) e h = h.1
over_out code (Trapped t s) e h = h.1
over_out code (Limit s) e h = absurd h

over : (code : Code) (r : Reached) (e : Ending) → Meets code r e → IsOver r
over code (Ended s) e h = tt
over code (Trapped t s) e h = tt
over code (Limit s) e h = absurd h

-- what is over agrees
agrees_over : (code : Code) (r : Reached) (e : Ending) → Meets code r e → Agrees code r e
agrees_over code (Ended s) e h = h
agrees_over code (Trapped t s) e h = (h.0, ([], sym h.1 ∙ sym (append-nil s.out)))
agrees_over code (Limit s) e h = absurd h

-- what was reached before the end agrees
agrees_before : (code : Code) (tables : Tables) (s : State) (e : Ending) (k m : ℕ) → k ≤ m → Meets code (run code tables m s) e → (r : Reached) → run code tables k s ≡ r → Agrees code r e
agrees_before code tables s e k m le meets (Ended s2) is =
    let same = same_later (step code tables) k m s le (subst IsOver (sym is) tt) in
    agrees_over code (Ended s2) e (subst (λ q. Meets code q e) (same ∙ is) meets)
agrees_before code tables s e k m le meets (Trapped t s2) is =
    let same = same_later (step code tables) k m s le (subst IsOver (sym is) tt) in
    agrees_over code (Trapped t s2) e (subst (λ q. Meets code q e) (same ∙ is) meets)
agrees_before code tables s e k m le meets (Limit s2) is =
    let b = subst (λ q. Begins (out_of q) (out_of (run code tables m s))) is (prefix_later (step code tables) (step_appends code tables) k m s le) in
    (b.more, sym (over_out code (run code tables m s) e meets) ∙ b.is)

agrees_from : (code : Code) (tables : Tables) (s : State) (e : Ending) → Finishes code tables s 0 e → (k : ℕ) → Agrees code (run code tables k s) e
agrees_from code tables s e finishes k =
    ⊎_elim
    (λ lt. agrees_before code tables s e k finishes.0 (omega arith) finishes.1 (run code tables k s) refl)
    (λ le.
    let same = same_later (step code tables) finishes.0 k s le (over code (run code tables finishes.0 s) e finishes.1) in
    subst (λ q. Agrees code q e) (sym same) (agrees_over code (run code tables finishes.0 s) e finishes.1))
    (cases_lt k finishes.0)

-- the code of a script runs it
pub finishes : (code : Code) (tables : Tables) (n : ℕ) (lines : List Line) → 1 ≤ n → code.words ≡ 3 → ((k : ℕ) → dist_at code.arrays k ≡ Block) → fills lines ≤ length code.arrays → ReadsAssigned [] lines → HasAt code.list 0 (lines_code [] lines) → Finishes code tables (first_state code n) 0 (lines_meaning lines (seen [] [] 0))
unfolding first_state
finishes code tables zero lines some words blocks room reads has = absurd (omega arith)
finishes code tables (suc n) lines some words blocks room reads has =
    lines_run code tables (suc n) (length code.arrays) 0 [] [] lines 0 (first_store code 0 (suc n)) (map (λ r. first_store code r (suc n)) (range_with_len (0 + 1) n)) [] some (blocks, refl) (omega arith)
    (λ m h. absurd (omega (arith, h.1))) reads
    (first_each code (suc n) 0 (suc n) words blocks) (first_numbered code (suc n) 0 (suc n))
    (length-map-range_with_len (λ r. first_store code r (suc n)) 0 (suc n))
    has

pub agrees_always : (code : Code) (tables : Tables) (n : ℕ) (lines : List Line) → 1 ≤ n → code.words ≡ 3 → ((k : ℕ) → dist_at code.arrays k ≡ Block) → fills lines ≤ length code.arrays → ReadsAssigned [] lines → HasAt code.list 0 (lines_code [] lines) → (limit : ℕ) → Agrees code (lockstep_of code tables n limit) (lines_meaning lines (seen [] [] 0))
agrees_always code tables n lines some words blocks room reads has limit =
    agrees_from code tables (first_state code n) (lines_meaning lines (seen [] [] 0)) (finishes code tables n lines some words blocks room reads has) limit

-- a limit of sixteen instructions for each tick is enough
pub over_by_ticks : (code : Code) (tables : Tables) (n : ℕ) (lines : List Line) → 1 ≤ n → code.words ≡ 3 → ((k : ℕ) → dist_at code.arrays k ≡ Block) → fills lines ≤ length code.arrays → ReadsAssigned [] lines → HasAt code.list 0 (lines_code [] lines) → (limit : ℕ) → 16 * (lines_meaning lines (seen [] [] 0)).at.ticks ≤ limit → IsOver (lockstep_of code tables n limit)
over_by_ticks code tables n lines some words blocks room reads has limit enough =
    let e = lines_meaning lines (seen [] [] 0) in
    let f = finishes code tables n lines some words blocks room reads has in
    let ended = over code (run code tables f.0 (first_state code n)) e f.1 in
    let le : f.0 ≤ limit = omega (arith, f.2) in
    subst IsOver (sym (same_later (step code tables) f.0 limit (first_state code n) le ended)) ended
