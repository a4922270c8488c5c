-- What each rank gets in a move of ranges: of each array exactly the range that it needs.
use Rattle.std.proofs.Common.{◌≡◌, ◌∙◌, refl, sym, subst, ap, arith, ℕ, zero, suc, ◌+◌, ◌-◌, ◌*◌, ◌<◌, ◌≤◌, ℤ, List, [], ◌∷◌, ◌++◌, append-nil, length, map, min, max, get_or}
use Rattle.std.specs.Prelude.{flat_map, slice_index}
use Rattle.std.specs.List.{AllByRecursion}
use Rattle.std.proofs.lemmas.List.{get_or-map, length-map}
use Rattle.std.proofs.lemmas.List.Elements.{recursion_from_All}
use Rattle.std.proofs.lemmas.List.Folds.{flat_map-map}
use Rattle.std.proofs.lemmas.List.FromFn.{get_or-map-range_with_len}
use Rattle.hp_word.specs.declared.table.Message.{Message}
use Rattle.hp_cuts.specs.declared.cuts.Span.{Span}
use Rattle.hp_lattice.specs.declared.dist.Dist.{Dist}
use Rattle.hp_lattice.specs.declared.dist.Dist.TheVariants.{Rep, Var, Block}
use Rattle.hp_spmd.specs.declared.code.Code.{Code}
use Rattle.hp_spmd.specs.declared.instr.Need.{Need}
use Rattle.hp_spmd.specs.declared.instr.Need.TheVariants as need
use Rattle.hp_spmd.specs.declared.instr.Packing.TheVariants.{Move}
use Rattle.hp_spmd.specs.declared.store.Piece.{Piece}
use Rattle.hp_spmd.specs.declared.store.Store.{Store}
use Rattle.hp_cuts.specs.Blocks.{block_cuts}
use Rattle.hp_spmd.specs.Cuts.{own_from, own_until}
use Rattle.hp_spmd.specs.Exchange.{packed}
use Rattle.hp_spmd.specs.Layout.{Env, HoldsPiece, Layout, MayCut, Rises, Whole}
use Rattle.hp_spmd.specs.Messages.{message_of}
use Rattle.hp_spmd.specs.Needs.{block_span, both_lengths, back, cut_to, need_cuts, need_span, own_span}
use Rattle.hp_spmd.specs.Packs.{cells_in, move_packed}
use Rattle.hp_spmd.specs.Scalars.{greatest_count, piece_length}
use Rattle.hp_spmd.specs.Store.{data_of, dist_at, kept, message_at, no_message, piece_at}
use Rattle.hp_spmd.specs.Unpacks.{joined_words, moved_cells, moved_count, part_at, shared_count}
use Rattle.hp_spmd.proofs.ShareCuts.{block_cuts_rise}
use Rattle.hp_snippet.specs.Exchanging.{mail_for}
use Rattle.hp_snippet.specs.Moves.{IsMovable, columns_of, needed}
use Rattle.hp_snippet.proofs.MoveLists.{by_places, columns_count, part_of_parts, range_count}
use Rattle.hp_snippet.proofs.Ranges.{ranges_move, rise_within}
use Rattle.hp_snippet.proofs.Setting.{numbered_at}

-- ---- cuts

-- a piece of which the cuts alone are looked at
abbrev bare : List ℕ → Piece
bare cuts = record { rows = 1; cuts = cuts; cells = [] }

rises_length : (cuts : List ℕ) (len n : ℕ) → Rises cuts len n → get_or cuts (length cuts - 1) 0 ≡ len
rises_length cuts len n h =
    let count = h.count in
    let last : length cuts - 1 ≡ n = omega (arith, count) in
    ap (λ k. get_or cuts k 0) last ∙ h.last

-- the last cut is the length
pub cuts_columns : (dist : Dist) (cuts : List ℕ) (len n : ℕ) → 1 ≤ n → MayCut dist len n cuts → columns_of (bare cuts) ≡ len
cuts_columns Rep cuts len n some h = ap (λ cs. columns_of (bare cs)) h
cuts_columns Var cuts len n some h = rises_length cuts len n h
cuts_columns Block cuts len n some h = ap (λ cs. columns_of (bare cs)) h ∙ rises_length (block_cuts len n) len n (block_cuts_rise len n some)

rises_bounds : (cuts : List ℕ) (len n : ℕ) → Rises cuts len n → (r : ℕ) → r < n → (get_or cuts r 0 ≤ get_or cuts (suc r) 0) × (get_or cuts (suc r) 0 ≤ len)
rises_bounds cuts len n h r lt =
    let rest : suc r + (n - suc r) ≡ n = omega (arith, lt) in
    (h.rises r lt, rise_within cuts len n h (suc r) (n - suc r) rest)

-- a rank's own columns are some of all
pub own_bounds : (dist : Dist) (cuts : List ℕ) (len n : ℕ) → 1 ≤ n → MayCut dist len n cuts → (r : ℕ) → r < n → (own_from dist cuts r ≤ own_until dist cuts r) × (own_until dist cuts r ≤ len)
own_bounds Rep cuts len n some h r lt =
    let first : get_or cuts 0 0 ≡ 0 = ap (λ cs. get_or cs 0 0) h in
    let last : get_or cuts 1 0 ≡ len = ap (λ cs. get_or cs 1 0) h in
    (omega (arith, first), omega (arith, last))
own_bounds Var cuts len n some h r lt = rises_bounds cuts len n h r lt
own_bounds Block cuts len n some h r lt = rises_bounds cuts len n (subst (λ cs. Rises cs len n) (sym h) (block_cuts_rise len n some)) r lt

-- ---- needs that all ranks agree on

-- the arrays of two ranks are cut alike
abbrev pub AreAlike : ℕ → (xs ys : List Piece) → Type 0
AreAlike count xs ys = (a : ℕ) → a < count → (piece_at xs a).cuts ≡ (piece_at ys a).cuts

-- the array that a need names is one of so many
abbrev pub IsNamed : ℕ → Need → Type 0
IsNamed count (need.Like array) = array < count
IsNamed count need.Blocks = Unit {0}
IsNamed count (need.Wide reach) = Unit {0}
IsNamed count need.Whole = Unit {0}
IsNamed count (need.First other) = other < count
IsNamed count (need.Second other) = other < count

pub spans_agree : (dists : List Dist) (what : Need) (count : ℕ) (xs ys : List Piece) (rank len n : ℕ) → AreAlike count xs ys → IsNamed count what → need_span what dists xs rank len n ≡ need_span what dists ys rank len n
unfolding need_span
spans_agree dists (need.Like array) count xs ys rank len n h is = ap (λ cs. own_span (dist_at dists array) cs rank) (h array is)
spans_agree dists need.Blocks count xs ys rank len n h is = refl
spans_agree dists (need.Wide reach) count xs ys rank len n h is = refl
spans_agree dists need.Whole count xs ys rank len n h is = refl
spans_agree dists (need.First other) count xs ys rank len n h is = ap (λ cs. cut_to len (block_span rank (both_lengths len (piece_length (bare cs))) n)) (h other is)
spans_agree dists (need.Second other) count xs ys rank len n h is =
    ap (λ cs. cut_to len (back (piece_length (bare cs)) (block_span rank (both_lengths (piece_length (bare cs)) len) n))) (h other is)

pub cuts_agree : (what : Need) (count : ℕ) (xs ys : List Piece) (len n : ℕ) → AreAlike count xs ys → IsNamed count what → need_cuts what xs len n ≡ need_cuts what ys len n
unfolding need_cuts
cuts_agree (need.Like array) count xs ys len n h is = h array is
cuts_agree need.Blocks count xs ys len n h is = refl
cuts_agree (need.Wide reach) count xs ys len n h is = refl
cuts_agree need.Whole count xs ys len n h is = refl
cuts_agree (need.First other) count xs ys len n h is = ap (λ cs. need_cuts (need.First 0) (bare cs ∷ []) len n) (h other is)
cuts_agree (need.Second other) count xs ys len n h is = ap (λ cs. need_cuts (need.Second 0) (bare cs ∷ []) len n) (h other is)

-- ---- a move

-- what is known where arrays are moved by a need
pub record IsMove (code : Code) (ranks : List Store) (env : Env) (from : List ℕ) (what : Need) : Type 0 where
  pub some : 1 ≤ length ranks
  pub lays : Layout code ranks env
  pub named : AllByRecursion (λ k. k < length code.arrays) from
  pub movable : AllByRecursion (IsMovable code ranks) from
  pub need_named : IsNamed (length code.arrays) what

-- two of the ranks have their arrays cut alike
pub ranks_alike : (code : Code) (ranks : List Store) (env : Env) → Layout code ranks env → (i j : ℕ) (d e : Store) → i < length ranks → j < length ranks → AreAlike (length code.arrays) (get_or ranks i d).arrays (get_or ranks j e).arrays
ranks_alike code ranks env l i j d e li lj a lt = ((l.arrays a lt).held i d li).cuts_are ∙ sym ((l.arrays a lt).held j e lj).cuts_are

-- how many columns an array has, as a rank sees it
pub columns_seen : (code : Code) (ranks : List Store) (env : Env) (l : Layout code ranks env) → 1 ≤ length ranks → (k : ℕ) (lt : k < length code.arrays) (i : ℕ) (d : Store) → i < length ranks
    → columns_of (piece_at (get_or ranks i d).arrays k) ≡ (l.arrays k lt).columns
columns_seen code ranks env l some k lt i d li =
    ap (λ cs. columns_of (bare cs)) ((l.arrays k lt).held i d li).cuts_are ∙ cuts_columns (dist_at code.arrays k) (l.cuts k) (l.arrays k lt).columns (length ranks) some (l.arrays k lt).may

pub columns_short : (code : Code) (ranks : List Store) (env : Env) (l : Layout code ranks env) → 1 ≤ length ranks → (k : ℕ) (lt : k < length code.arrays) → IsMovable code ranks k → (l.arrays k lt).columns ≤ greatest_count
columns_short code [] env l some k lt m = absurd (omega (arith, some))
columns_short code (x ∷ xs) env l some k lt m =
    let first : 0 < length (x ∷ xs) = omega arith in
    let seen = columns_seen code (x ∷ xs) env l some k lt 0 x first in
    let short = m.short 0 x first in
    omega (arith, seen, short)

-- and its length, which is no more than counts go
pub length_seen : (code : Code) (ranks : List Store) (env : Env) (l : Layout code ranks env) → 1 ≤ length ranks → (k : ℕ) (lt : k < length code.arrays) → (l.arrays k lt).columns ≤ greatest_count → (i : ℕ) (d : Store) → i < length ranks
    → piece_length (piece_at (get_or ranks i d).arrays k) ≡ (l.arrays k lt).columns
length_seen code ranks env l some k lt short i d li = let seen = columns_seen code ranks env l some k lt i d li in omega (arith, seen, short)

-- ---- what is sent

-- what a rank x has of an array for the rank y
abbrev pub given : List Dist → Need → (y x : Store) → ℕ → List ℤ
given dists what y x k = cells_in (dist_at dists k) x.number (piece_at x.arrays k) (need_span what dists y.arrays y.number (piece_length (piece_at y.arrays k)) y.ranks)

flat_same : {A X : Type 0} (f g : A → List X) (xs : List A) → AllByRecursion (λ a. f a ≡ g a) xs → flat_map f xs ≡ flat_map g xs
flat_same f g [] h = refl
flat_same {A} {X} f g (x ∷ xs) h = ap (λ l. l ++ flat_map f xs) h.0 ∙ ap (λ l. g x ++ l) (flat_same {A = A} {X = X} f g xs h.1)

all_from : (P Q : ℕ → Type 0) (xs : List ℕ) → ((k : ℕ) → P k → Q k) → AllByRecursion P xs → AllByRecursion Q xs
all_from P Q [] f h = tt
all_from P Q (x ∷ xs) f h = (f x h.0, all_from P Q xs f h.1)

all_from_both : (P Q R : ℕ → Type 0) (xs : List ℕ) → ((k : ℕ) → P k → Q k → R k) → AllByRecursion P xs → AllByRecursion Q xs → AllByRecursion R xs
all_from_both P Q R [] f g h = tt
all_from_both P Q R (x ∷ xs) f g h = (f x g.0 h.0, all_from_both P Q R xs f g.1 h.1)

-- the message for a rank is all that it is given, array by array
sent_words : (dists : List Dist) (from : List ℕ) (what : Need) (count : ℕ) (x y : Store) → AllByRecursion (λ k. k < count) from → IsNamed count what → AreAlike count x.arrays y.arrays → y.number < x.ranks → x.ranks ≡ y.ranks
    → (message_at (packed dists (Move from what) x.number x.ranks (data_of x)) y.number).words ≡ flat_map (given dists what y x) from
unfolding packed move_packed
sent_words dists from what count x y named is alike lt same =
    let own = λ (rank k : ℕ). cells_in (dist_at dists k) x.number (piece_at x.arrays k) (need_span what dists x.arrays rank (piece_length (piece_at x.arrays k)) x.ranks) in
    let none : 0 + y.number ≡ y.number = omega arith in
    ap (λ (m : Message). m.words) (get_or-map-range_with_len (λ rank. message_of (flat_map (own rank) from)) 0 x.ranks y.number y.number no_message lt none)
    ∙ flat_same (own y.number) (given dists what y x) from (all_from (λ k. k < count) (λ k. own y.number k ≡ given dists what y x k) from (λ k h. each k h) named)
  where
    each : (k : ℕ) → k < count → cells_in (dist_at dists k) x.number (piece_at x.arrays k) (need_span what dists x.arrays y.number (piece_length (piece_at x.arrays k)) x.ranks) ≡ given dists what y x k
    each k h =
        let at = λ (range : Span). cells_in (dist_at dists k) x.number (piece_at x.arrays k) range in
        ap at (spans_agree dists what count x.arrays y.arrays y.number (piece_length (piece_at x.arrays k)) x.ranks alike is)
        ∙ ap (λ cs. at (need_span what dists y.arrays y.number (piece_length (bare cs)) x.ranks)) (alike k h)
        ∙ ap (λ n. at (need_span what dists y.arrays y.number (piece_length (piece_at y.arrays k)) n)) same

-- how many cells a rank gives of an array
given_count : (dists : List Dist) (what : Need) (k s columns n : ℕ) (cuts : List ℕ) (whole : Whole) (x y : Store) → 1 ≤ n → s < n → x.number ≡ s → columns ≤ greatest_count → length whole.cells ≡ whole.rows * columns → MayCut (dist_at dists k) columns n cuts
    → HoldsPiece (dist_at dists k) cuts whole x.number (piece_at x.arrays k) → HoldsPiece (dist_at dists k) cuts whole y.number (piece_at y.arrays k)
    → length (given dists what y x k) ≡ moved_count dists what y.number y.ranks y.arrays k s
given_count dists what k s columns n cuts whole x y some lt number short size may hx hy =
    let dist = dist_at dists k in
    let range = need_span what dists y.arrays y.number (piece_length (piece_at y.arrays k)) y.ranks in
    let p = piece_at x.arrays k in
    let bounds = own_bounds dist cuts columns n some may s lt in
    let from = own_from dist cuts s in
    let until = own_until dist cuts s in
    let rises = bounds.0 in
    let within = bounds.1 in
    let begin : min from greatest_count ≡ from = omega (arith, rises, within, short) in
    let end : min until greatest_count ≡ until = omega (arith, within, short) in
    let piece = λ (rows : ℕ) (cs : List ℕ) (r : ℕ) (cells : List ℤ). length (kept (rows * range.from) (rows * range.until) (rows * min (own_from dist cs r) greatest_count) cells) in
    let held = kept (whole.rows * from) (whole.rows * until) 0 whole.cells in
    let count : length held ≡ whole.rows * (until - from) = held_count whole from until columns within size in
    ap (λ rows. piece rows p.cuts x.number p.cells) hx.rows_are
    ∙ ap (λ cs. piece whole.rows cs x.number p.cells) hx.cuts_are
    ∙ ap (piece whole.rows cuts x.number) hx.cells_are
    ∙ ap (λ r. piece whole.rows cuts r (kept (whole.rows * own_from dist cuts r) (whole.rows * own_until dist cuts r) 0 whole.cells)) number
    ∙ ap (λ f. length (kept (whole.rows * range.from) (whole.rows * range.until) (whole.rows * f) held)) begin
    ∙ columns_count {X = ℤ} whole.rows range.from range.until from until held rises count
    ∙ ap (λ f. whole.rows * (min until range.until - max f range.from)) (sym begin)
    ∙ ap (λ u. whole.rows * (min u range.until - max (min from greatest_count) range.from)) (sym end)
    ∙ ap (λ cs. whole.rows * shared_count (own_span dist cs s) range) (sym hy.cuts_are)
    ∙ ap (λ rows. rows * shared_count (own_span dist (piece_at y.arrays k).cuts s) range) (sym hy.rows_are)
  where
    held_count : (whole : Whole) (from until columns : ℕ) → until ≤ columns → length whole.cells ≡ whole.rows * columns → length (kept (whole.rows * from) (whole.rows * until) 0 whole.cells) ≡ whole.rows * (until - from)
    held_count whole from until columns within size = range_count {X = ℤ} whole.rows from until columns whole.cells within size

-- ---- what is got

-- the words that a rank gets from the rank s
pub mail_words : (code : Code) (ranks : List Store) (env : Env) (from : List ℕ) (what : Need) → IsMove code ranks env from what → (i s : ℕ) (d e : Store) → i < length ranks → s < length ranks
    → (message_at (mail_for code.arrays (Move from what) ranks (get_or ranks i d).number) s).words ≡ flat_map (given code.arrays what (get_or ranks i d) (get_or ranks s e)) from
mail_words code ranks env from what m i s d e li ls =
    let y = get_or ranks i d in
    let x = get_or ranks s e in
    let number = numbered_at 0 ranks i d m.lays.numbers li in
    let count = m.lays.counts s e ls in
    let same = count ∙ sym (m.lays.counts i d li) in
    let lt : y.number < x.ranks = omega (arith, number, count, li) in
    ap (λ (m : Message). m.words) (get_or-map (λ (z : Store). message_at (packed code.arrays (Move from what) z.number z.ranks (data_of z)) y.number) ranks s e no_message ls)
    ∙ sent_words code.arrays from what (length code.arrays) x y m.named m.need_named (ranks_alike code ranks env m.lays s i e d ls li) lt same

-- all that a rank gets of one array
pub all_given : (code : Code) (ranks : List Store) (env : Env) (from : List ℕ) (what : Need) (m : IsMove code ranks env from what) (y : Store) (k : ℕ) → k < length code.arrays → IsMovable code ranks k
    → flat_map (λ x. given code.arrays what y x k) ranks ≡ (let range = need_span what code.arrays y.arrays y.number (piece_length (piece_at y.arrays k)) y.ranks in kept ((env.arrays k).rows * range.from) ((env.arrays k).rows * range.until) 0 (env.arrays k).cells)
all_given code ranks env from what m y k lt movable =
    ranges_move (dist_at code.arrays k) ranks k (m.lays.cuts k) (env.arrays k) (need_span what code.arrays y.arrays y.number (piece_length (piece_at y.arrays k)) y.ranks) movable.cut m.some m.lays.numbers (m.lays.arrays k lt)
    (columns_short code ranks env m.lays m.some k lt movable)

pub item_of : (P : ℕ → Type 0) (xs : List ℕ) → AllByRecursion P xs → (j : ℕ) → j < length xs → P (slice_index xs j)
item_of P [] h j lt = absurd (omega (arith, lt))
item_of P (x ∷ xs) h zero lt = h.0
item_of P (x ∷ xs) h (suc j) lt = let rest : j < length xs = omega (arith, lt) in item_of P xs h.1 j rest

-- the cells of the j-th moved array, as the unpack reads them
pub moved_are : (code : Code) (ranks : List Store) (env : Env) (from : List ℕ) (what : Need) → IsMove code ranks env from what → (i : ℕ) (d : Store) → i < length ranks → (j : ℕ) → j < length from
    → moved_cells code.arrays from what (get_or ranks i d).number (get_or ranks i d).ranks (mail_for code.arrays (Move from what) ranks (get_or ranks i d).number) (get_or ranks i d).arrays j
    ≡ (needed what code.arrays env (get_or ranks i d) (slice_index from j)).cells
moved_are code ranks env from what m i d li j lt =
    let y = get_or ranks i d in
    let k = slice_index from j in
    let inbox = mail_for code.arrays (Move from what) ranks y.number in
    let counts = λ (s a : ℕ). moved_count code.arrays what y.number y.ranks y.arrays a s in
    let many : length ranks ≡ length inbox = sym (length-map ranks (λ (z : Store). message_at (packed code.arrays (Move from what) z.number z.ranks (data_of z)) y.number)) in
    by_places {A = Store} {X = ℤ} (λ s. part_at (map (counts s) from) j (message_at inbox s).words) (λ x. given code.arrays what y x k) d (length inbox) ranks many
    (λ s ls.
    let x = get_or ranks s d in
    ap (part_at (map (counts s) from) j) (mail_words code ranks env from what m i s d d li ls)
    ∙ part_of_parts {A = ℕ} {X = ℤ} (counts s) (given code.arrays what y x) from j 0 lt (lengths i d li s ls))
    ∙ all_given code ranks env from what m y k (item_of (λ a. a < length code.arrays) from m.named j lt) (item_of (IsMovable code ranks) from m.movable j lt)
  where
    lengths : (i : ℕ) (d : Store) → i < length ranks → (s : ℕ) → s < length ranks
        → AllByRecursion (λ a. length (given code.arrays what (get_or ranks i d) (get_or ranks s d) a) ≡ moved_count code.arrays what (get_or ranks i d).number (get_or ranks i d).ranks (get_or ranks i d).arrays a s) from
    lengths i d li s ls =
        all_from_both (λ a. a < length code.arrays) (IsMovable code ranks) (λ a. length (given code.arrays what (get_or ranks i d) (get_or ranks s d) a) ≡ moved_count code.arrays what (get_or ranks i d).number (get_or ranks i d).ranks (get_or ranks i d).arrays a s) from
        (λ a named movable.
        let laid = m.lays.arrays a named in
        let none : 0 + s ≡ s = omega arith in
        given_count code.arrays what a s laid.columns (length ranks) (m.lays.cuts a) (env.arrays a) (get_or ranks s d) (get_or ranks i d) m.some ls (numbered_at 0 ranks s d m.lays.numbers ls ∙ none) (columns_short code ranks env m.lays m.some a named movable) laid.size laid.may
        (laid.held s d ls) (laid.held i d li))
        m.named m.movable

-- ---- of one array

-- all that a rank gets, one message behind the other
pub joined_are : (code : Code) (ranks : List Store) (env : Env) (k : ℕ) (what : Need) → IsMove code ranks env (k ∷ []) what → (i : ℕ) (d : Store) → i < length ranks
    → joined_words (mail_for code.arrays (Move (k ∷ []) what) ranks (get_or ranks i d).number) ≡ (needed what code.arrays env (get_or ranks i d) k).cells
joined_are code ranks env k what m i d li =
    let y = get_or ranks i d in
    let sent = λ (x : Store). message_at (packed code.arrays (Move (k ∷ []) what) x.number x.ranks (data_of x)) y.number in
    let number = numbered_at 0 ranks i d m.lays.numbers li in
    let here = m.lays.counts i d li in
    flat_map-map (λ (m : Message). m.words) sent ranks
    ∙ flat_same {A = Store} {X = ℤ} (λ x. (sent x).words) (λ x. given code.arrays what y x k) ranks
    (recursion_from_All (λ x. (sent x).words ≡ given code.arrays what y x k) ranks
    (λ s e ls.
    let x = get_or ranks s e in
    let count = m.lays.counts s e ls in
    let lt : y.number < x.ranks = omega (arith, number, count, li) in
    sent_words code.arrays (k ∷ []) what (length code.arrays) x y m.named m.need_named (ranks_alike code ranks env m.lays s i e d ls li) lt (count ∙ sym here) ∙ append-nil (given code.arrays what y x k)))
    ∙ all_given code ranks env (k ∷ []) what m y k m.named.0 m.movable.0
