-- What rank 0 writes of what the ranks stand for.
use Rattle.std.proofs.Common.{◌≡◌, ◌∙◌, refl, sym, subst, ap, arith, ℕ, zero, suc, ◌*◌, ◌-◌, ◌<◌, ◌≤◌, ℤ, Bool, true, List, [], ◌∷◌, ◌++◌, append-nil, map, length, get_or, Some, None}
use Rattle.std.specs.Prelude.{flat_map, Option}
use Rattle.std.specs.List.{All, AllByRecursion, range_with_len}
use Rattle.std.proofs.lemmas.Bool.{ltb-true}
use Rattle.std.proofs.lemmas.List.{get_or-map, length-map}
use Rattle.std.proofs.lemmas.List.Elements.{All-from_recursion, recursion_from_All}
use Rattle.std.proofs.lemmas.List.Folds.{flat_map-map}
use Rattle.hp_word.specs.declared.name.Name.{Name}
use Rattle.hp_word.specs.declared.table.Message.{Message}
use Rattle.hp_word.specs.LoopRules.{word_at}
use Rattle.hp_word.specs.Text.{csv, list_line, printed}
use Rattle.hp_lattice.specs.declared.dist.Dist.{Dist}
use Rattle.hp_lattice.specs.declared.dist.Dist.TheVariants.{Rep, Var, Block}
use Rattle.hp_spmd.specs.declared.code.Code.{Code}
use Rattle.hp_spmd.specs.declared.instr.Instr.{Instr}
use Rattle.hp_spmd.specs.declared.instr.Instr.TheVariants as instr
use Rattle.hp_spmd.specs.declared.instr.Output.{Output}
use Rattle.hp_spmd.specs.declared.instr.Output.TheVariants as output
use Rattle.hp_spmd.specs.declared.instr.Packing.TheVariants.{Gather}
use Rattle.hp_spmd.specs.declared.store.Piece.{Piece}
use Rattle.hp_spmd.specs.declared.store.Store.{Store}
use Rattle.hp_spmd.specs.Cuts.{own_from, own_until}
use Rattle.hp_spmd.specs.Exchange.{packed, written}
use Rattle.hp_spmd.specs.Layout.{Env, IsLaid, IsShared, Layout, Numbered, Whole}
use Rattle.hp_spmd.specs.Lockstep.{State, position_of}
use Rattle.hp_spmd.specs.Messages.{of_first}
use Rattle.hp_spmd.specs.Outputs.{column_in, list_written, table_written}
use Rattle.hp_spmd.specs.Packs.{cells_for_root}
use Rattle.hp_spmd.specs.Store.{dist_at, piece_at}
use Rattle.hp_spmd.specs.Unpacks.{joined_words}
use Rattle.hp_spmd.proofs.ShareCuts.{shared_at}
use Rattle.hp_spmd.proofs.ShareNext.{next_shared}
use Rattle.hp_snippet.specs.Exchanging.{mail_for}
use Rattle.hp_snippet.specs.Promises.{IsRankOf, IsStraight, IsWork, LeavesShared, Performs, StandBefore}
use Rattle.hp_snippet.proofs.Naming.{each_below, named_at}
use Rattle.hp_snippet.proofs.Ranges.{cells_join, cells_of_one}
use Rattle.hp_snippet.proofs.Writing.{output_went}
use Rattle.hp_snippet.specs.Values.{HasValue, value_or_zero}
use Rattle.hp_coll.specs.Arriving.{IsCutAs, LieAlike, MayArrive, arrive_code, arrive_writes, arrived, text_of}
use Rattle.hp_coll.proofs.Tables.{AllLong, column_of_parts, made_by_places}

-- ---- a word

word_line : (dists : List Dist) (w : ℕ) (truth : Bool) (ranks : List Store) (value : ℤ) → 1 ≤ length ranks → Numbered 0 ranks → All (λ (x : Store). word_at x.words w ≡ value) ranks
    → written (output.Word w truth) (mail_for dists (Gather (output.Word w truth)) ranks 0) ≡ printed truth value
unfolding packed written
word_line dists w truth [] value some n h = absurd (omega (arith, some))
word_line dists w truth (x ∷ xs) value some n h =
    let first : 0 < length (x ∷ xs) = omega arith in
    ap (λ r. printed truth (word_at (of_first r (word_at x.words w)) 0)) n.0 ∙ ap (printed truth) (h 0 x first)

-- a word on which all agree
value_of : (o : Option ℤ) → HasValue o → (P : Option ℤ → Type 0) → ((value : ℤ) → o ≡ Some value → P (Some value)) → P o
value_of None has P f = absurd has
value_of (Some value) has P f = f value refl

-- ---- an array

abbrev sent_cells : Dist → ℕ → Store → List ℤ
sent_cells dist slot x = cells_for_root dist x.number (piece_at x.arrays slot).cells

sent_words : (dists : List Dist) (slot : ℕ) (truth : Bool) (xs : List Store) → joined_words (mail_for dists (Gather (output.List slot truth)) xs 0) ≡ flat_map (sent_cells (dist_at dists slot) slot) xs
unfolding packed
sent_words dists slot truth [] = refl
sent_words dists slot truth (x ∷ xs) = ap (λ l. sent_cells (dist_at dists slot) slot x ++ l) (sent_words dists slot truth xs)

none_sent : (slot k : ℕ) (xs : List Store) → Numbered (suc k) xs → flat_map (sent_cells Rep slot) xs ≡ []
none_sent slot k [] n = refl
none_sent slot k (x ∷ xs) n = ap (λ r. cells_for_root Rep r (piece_at x.arrays slot).cells ++ flat_map (sent_cells Rep slot) xs) n.0 ∙ none_sent slot (suc k) xs n.1

all_sent : (dist : Dist) (ranks : List Store) (slot : ℕ) (cuts : List ℕ) (whole : Whole) → 1 ≤ length ranks → Numbered 0 ranks → IsLaid dist ranks slot cuts whole → flat_map (sent_cells dist slot) ranks ≡ whole.cells
all_sent Rep [] slot cuts whole some n laid = absurd (omega (arith, some))
all_sent Rep (x ∷ xs) slot cuts whole some n laid =
    let first : 0 < length (x ∷ xs) = omega arith in
    let cells = (piece_at x.arrays slot).cells in
    ap (λ r. cells_for_root Rep r cells ++ flat_map (sent_cells Rep slot) xs) n.0
    ∙ ap (λ l. cells ++ l) (none_sent slot 0 xs n.1)
    ∙ append-nil cells
    ∙ cells_of_one (x ∷ xs) slot cuts whole x.number x laid (laid.held 0 x first)
all_sent Var ranks slot cuts whole some n laid = cells_join Var ranks slot cuts whole tt some n laid
all_sent Block ranks slot cuts whole some n laid = cells_join Block ranks slot cuts whole tt some n laid

list_line_is : (code : Code) (slot : ℕ) (truth : Bool) (ranks : List Store) (env : Env) → slot < length code.arrays → 1 ≤ length ranks → Layout code ranks env
    → written (output.List slot truth) (mail_for code.arrays (Gather (output.List slot truth)) ranks 0) ≡ list_line truth (env.arrays slot).cells
unfolding written list_written
list_line_is code slot truth ranks env named some l =
    ap (list_line truth) (sent_words code.arrays slot truth ranks ∙ all_sent (dist_at code.arrays slot) ranks slot (l.cuts slot) (env.arrays slot) some l.numbers (l.arrays slot named))

-- ---- a table

-- what a rank sends of each array
abbrev parts_of : List Dist → List ℕ → Store → List (List ℤ)
parts_of dists arrays x = map (λ k. sent_cells (dist_at dists k) k x) arrays

sent_long : (dist : Dist) (number : ℕ) (a b : List ℤ) → length a ≡ length b → length (cells_for_root dist number a) ≡ length (cells_for_root dist number b)
sent_long Rep zero a b e = e
sent_long Rep (suc number) a b e = refl
sent_long Var number a b e = e
sent_long Block number a b e = e

-- a piece that is cut as another one has as many cells
long_alike : (d e : Dist) (n r : ℕ) (p q : Piece) → e ≡ d → q.rows ≡ p.rows → q.cuts ≡ p.cuts → IsShared d n r p → IsShared e n r q → length q.cells ≡ length p.cells
long_alike d e n r p q dist rows cuts hp hq =
    hq.filled
    ∙ ap (λ m. m * (own_until e q.cuts r - own_from e q.cuts r)) rows
    ∙ ap (λ c. p.rows * (own_until e c r - own_from e c r)) cuts
    ∙ ap (λ f. p.rows * (own_until f p.cuts r - own_from f p.cuts r)) dist
    ∙ sym hp.filled

-- all that a rank sends of arrays that lie alike is of one length
parts_long : (code : Code) (ranks : List Store) (n first : ℕ) (k : ℕ) (d : Store) → k < length ranks → IsRankOf code n (get_or ranks k d) → first < length code.arrays → (arrays : List ℕ)
    → AllByRecursion (λ a. a < length code.arrays) arrays → AllByRecursion (λ a. (dist_at code.arrays a ≡ dist_at code.arrays first) × IsCutAs ranks first a) arrays
    → AllLong (length (sent_cells (dist_at code.arrays first) first (get_or ranks k d))) (parts_of code.arrays arrays (get_or ranks k d))
parts_long code ranks n first k d lt rank named [] below alike = tt
parts_long code ranks n first k d lt rank named (a ∷ more) below alike =
    let x = get_or ranks k d in
    let cut = alike.0.1 k d lt in
    let one = long_alike (dist_at code.arrays first) (dist_at code.arrays a) x.ranks x.number (piece_at x.arrays first) (piece_at x.arrays a) alike.0.0 cut.0 cut.1
    (shared_at code.arrays x.ranks x.number x.arrays first rank.placed.shared named) (shared_at code.arrays x.ranks x.number x.arrays a rank.placed.shared below.0) in (
      ap (λ e. length (cells_for_root e x.number (piece_at x.arrays a).cells)) alike.0.0 ∙ sent_long (dist_at code.arrays first) x.number (piece_at x.arrays a).cells (piece_at x.arrays first).cells one,
      parts_long code ranks n first k d lt rank named more below.1 alike.1,
    )

-- a column of the messages is what the ranks send of its array
column_sent : (dists : List Dist) (arrays : List ℕ) (names : List Name) (width j : ℕ) (xs : List Store) → width ≡ length arrays → j < length arrays
    → AllByRecursion (λ (x : Store). (len : ℕ) × AllLong len (parts_of dists arrays x)) xs
    → flat_map (λ m. column_in width j m.words) (mail_for dists (Gather (output.Table arrays names)) xs 0) ≡ flat_map (sent_cells (dist_at dists (get_or arrays j 0)) (get_or arrays j 0)) xs
unfolding packed
column_sent dists arrays names width j [] same lt h = refl
column_sent dists arrays names width j (x ∷ xs) same lt h =
    let parts = parts_of dists arrays x in
    let many : width ≡ length parts = same ∙ sym (length-map arrays (λ k. sent_cells (dist_at dists k) k x)) in
    let there : j < length parts = subst (λ n. j < n) (sym (length-map arrays (λ k. sent_cells (dist_at dists k) k x))) lt in
    let rest = flat_map (λ m. column_in width j m.words) (mail_for dists (Gather (output.Table arrays names)) xs 0) in
    ap (λ l. l ++ rest)
    (ap (column_in width j) (sym (flat_map-map (λ (p : List ℤ). p) (λ k. sent_cells (dist_at dists k) k x) arrays))
    ∙ column_of_parts width h.0.0 j parts many h.0.1 there
    ∙ get_or-map (λ k. sent_cells (dist_at dists k) k x) arrays j 0 [] lt)
    ∙ ap (λ l. sent_cells (dist_at dists (get_or arrays j 0)) (get_or arrays j 0) x ++ l) (column_sent dists arrays names width j xs same lt h.1)

all_long : (code : Code) (ranks : List Store) (n : ℕ) (arrays : List ℕ) → All (IsRankOf code n) ranks → AllByRecursion (λ a. a < length code.arrays) arrays → LieAlike code ranks arrays
    → (k : ℕ) (d : Store) → k < length ranks → (len : ℕ) × AllLong len (parts_of code.arrays arrays (get_or ranks k d))
all_long code ranks n [] each below alike k d lt = (0, tt)
all_long code ranks n (a ∷ more) each below alike k d lt =
    (length (sent_cells (dist_at code.arrays a) a (get_or ranks k d)), (refl, parts_long code ranks n a k d lt (each k d lt) below.0 more below.1 alike))

table_is : (code : Code) (arrays : List ℕ) (names : List Name) (ranks : List Store) (env : Env) → AllByRecursion (λ a. a < length code.arrays) arrays → 1 ≤ length ranks → All (IsRankOf code (length ranks)) ranks → Layout code ranks env
    → length names ≡ length arrays → LieAlike code ranks arrays
    → written (output.Table arrays names) (mail_for code.arrays (Gather (output.Table arrays names)) ranks 0) ≡ csv (map (λ (n : Name). n.bytes) names) (map (λ k. (env.arrays k).cells) arrays)
unfolding written table_written
table_is code arrays names ranks env below some each l many alike =
    let inbox = mail_for code.arrays (Gather (output.Table arrays names)) ranks 0 in
    let g : ℕ → List ℤ = λ j. flat_map (λ (m : Message). column_in (length names) j m.words) inbox in
    let long = recursion_from_All (λ (x : Store). (len : ℕ) × AllLong len (parts_of code.arrays arrays x)) ranks (all_long code ranks (length ranks) arrays each below alike) in
    ap (csv (map (λ (n : Name). n.bytes) names))
    (ap (λ n. map g (range_with_len 0 n)) many
    ∙ made_by_places g (λ k. (env.arrays k).cells) arrays 0
    (λ j lt.
    let slot = get_or arrays j 0 in
    let named : slot < length code.arrays = All-from_recursion (λ a. a < length code.arrays) arrays below j 0 lt in
    column_sent code.arrays arrays names (length names) j ranks many lt long
    ∙ all_sent (dist_at code.arrays slot) ranks slot (l.cuts slot) (env.arrays slot) some l.numbers (l.arrays slot named)))

-- ---- the whole

text_is : (code : Code) (what : Output) (s : State) (env : Env) → StandBefore code (arrive_code what) s env → MayArrive what code s.ranks env → written what (mail_for code.arrays (Gather what) s.ranks 0) ≡ text_of env what
text_is code (output.Word w truth) s env h may =
    value_of (env.words w) may (λ o. written (output.Word w truth) (mail_for code.arrays (Gather (output.Word w truth)) s.ranks 0) ≡ printed truth (value_or_zero o))
    (λ value e. word_line code.arrays w truth s.ranks value h.some h.lays.numbers (h.lays.words w value e))
text_is code (output.List slot truth) s env h may =
    list_line_is code slot truth s.ranks env (ltb-true slot (length code.arrays) (named_at code (position_of s.ranks) (instr.Pack (Gather (output.List slot truth))) h.stand.0)) h.some h.lays
text_is code (output.Table arrays names) s env h may =
    table_is code arrays names s.ranks env (each_below (λ a. a) (length code.arrays) arrays (named_at code (position_of s.ranks) (instr.Pack (Gather (output.Table arrays names))) h.stand.0)) h.some h.each h.lays may.0 may.1

pub arrives : (what : Output) → Performs (MayArrive what) (arrived what) arrive_writes (arrive_code what)
arrives what code tables price s env h may = output_went code tables price what s env (text_of env what) h (text_is code what s env h may)

pub list_arrives : (what : Output) (list : List Instr) → list ≡ arrive_code what → Performs (MayArrive what) (arrived what) arrive_writes list
list_arrives what list e = subst (Performs (MayArrive what) (arrived what) arrive_writes) (sym e) (arrives what)

-- ---- what can be seen of it

pub arrive_straight : (what : Output) (list : List Instr) → list ≡ arrive_code what → IsStraight list
arrive_straight what list e = subst IsStraight (sym e) (record { leads = (refl, (refl, (refl, (refl, refl)))); jumps = (tt, (tt, (tt, (tt, tt)))); sizes = (tt, (tt, (tt, (tt, tt)))) })

pub arrive_shares : (what : Output) (list : List Instr) → list ≡ arrive_code what → (code : Code) → AllByRecursion (LeavesShared code) list
arrive_shares what list e code =
    subst (AllByRecursion (LeavesShared code)) (sym e)
    ((λ tables x y. next_shared code tables (instr.Pack (Gather what)) x y tt), ((λ tables x y. next_shared code tables (instr.Post true) x y tt), ((λ tables x y. next_shared code tables (instr.Take true) x y tt), ((λ tables x y. next_shared code tables (instr.Write what) x y tt), tt))))

pub arrive_work : (what : Output) (list : List Instr) → list ≡ arrive_code what → IsWork 1 list
arrive_work what list e = subst (IsWork 1) (sym e) (record { few = omega arith; cheap = λ ranks. omega arith })
