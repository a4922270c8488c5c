-- What the ranks have for a loop: inputs and halos at their own places. And their parts of a vector, which join to the whole.
use Rattle.std.proofs.Common.{◌≡◌, ◌∙◌, refl, sym, subst, ap, arith, one-mul, ℕ, suc, ◌+◌, ◌*◌, ◌<◌, ◌≤◌, min, ℤ, List, [], ◌∷◌, length, map, get_or}
use Rattle.std.specs.Prelude.{flat_map}
use Rattle.std.specs.List.{All, AllByRecursion, AllZip}
use Rattle.std.proofs.lemmas.List.Elements.{recursion_from_All}
use Rattle.std.proofs.lemmas.List.Folds.{flat_map-map}
use Rattle.hp_word.specs.declared.fold.FoldKind.{FoldKind}
use Rattle.hp_word.specs.Folds.{fold_of}
use Rattle.hp_word.specs.LoopRules.{word_at}
use Rattle.hp_word.proofs.FoldLemmas.{fold_of_pieces}
use Rattle.hp_lattice.specs.declared.dist.Dist.{Dist}
use Rattle.hp_lattice.specs.declared.dist.Dist.TheVariants.{Rep, Var, Block}
use Rattle.hp_spmd.specs.declared.code.Code.{Code}
use Rattle.hp_spmd.specs.declared.instr.HaloFrom.{HaloFrom}
use Rattle.hp_spmd.specs.declared.instr.HaloFrom.TheVariants.{Whole}
use Rattle.hp_spmd.specs.declared.instr.Loop.{Loop}
use Rattle.hp_spmd.specs.declared.instr.Need.TheVariants.{Like}
use Rattle.hp_spmd.specs.declared.store.Store.{Store}
use Rattle.hp_cuts.specs.declared.cuts.Span.{Span}
use Rattle.hp_cuts.specs.Blocks.{block_cuts, block_start}
use Rattle.hp_spmd.specs.Cuts.{own_from, own_until}
use Rattle.hp_spmd.specs.Layout.{Env, Layout, MayCut, Numbered}
use Rattle.hp_spmd.specs.Needs.{block_span, need_span, span}
use Rattle.hp_spmd.specs.Scalars.{greatest_count}
use Rattle.hp_spmd.specs.Store.{dist_at, kept, piece_at}
use Rattle.hp_spmd.proofs.LocalCuts.{block_cuts_at}
use Rattle.hp_snippet.specs.Holds.{IsCut}
use Rattle.hp_snippet.specs.Moves.{needed}
use Rattle.hp_snippet.proofs.Ranges.{Cuts, GivePiece, from_is, may_rise, pieces_join, until_is}
use Rattle.hp_snippet.proofs.Setting.{numbered_at}
use Rattle.hp_alone.specs.OwnLoops.{HasOwn, HasRead, HasRound, own_part, own_places}
use Rattle.hp_alone.proofs.WordsMade.{whole_cells}

-- ---- own places

-- the places that these cuts give a rank of the leader
abbrev cut_places : Code → Loop → (cuts : List ℕ) → (number : ℕ) → Span
cut_places code l cuts number = span (own_from (dist_at code.arrays l.leader) cuts number) (own_until (dist_at code.arrays l.leader) cuts number)

pub places_are : (code : Code) (l : Loop) (ranks : List Store) (env : Env) (lay : Layout code ranks env) → l.leader < length code.arrays
    → All (λ (x : Store). own_places code l x ≡ cut_places code l (lay.cuts l.leader) x.number) ranks
places_are code l ranks env lay there k d lt = let x = get_or ranks k d in ap (λ cuts. cut_places code l cuts x.number) ((lay.arrays l.leader there).held k d lt).cuts_are

-- a vector has as many cells as columns
columns_are : (rows columns n : ℕ) → rows ≡ 1 → n ≡ rows * columns → columns ≡ n
columns_are rows columns n one e = sym (e ∙ ap (λ r. r * columns) one ∙ one-mul columns)

-- the leader may have its cuts by its length
pub leader_may : (code : Code) (l : Loop) (ranks : List Store) (env : Env) (lay : Layout code ranks env) → l.leader < length code.arrays → (env.arrays l.leader).rows ≡ 1
    → MayCut (dist_at code.arrays l.leader) (length (env.arrays l.leader).cells) (length ranks) (lay.cuts l.leader)
leader_may code l ranks env lay there one =
    let laid = lay.arrays l.leader there in
    let whole = env.arrays l.leader in
    subst (λ len. MayCut (dist_at code.arrays l.leader) len (length ranks) (lay.cuts l.leader)) (columns_are whole.rows laid.columns (length whole.cells) one laid.size) laid.may

-- ---- inputs

-- a range of a vector by its places
by_places : (rows : ℕ) (s : Span) (cells : List ℤ) → rows ≡ 1 → kept (rows * s.from) (rows * s.until) 0 cells ≡ kept s.from s.until 0 cells
by_places rows s cells one =
    ap (λ r. kept (r * s.from) (r * s.until) 0 cells) one ∙ ap (λ n. kept n (1 * s.until) 0 cells) (one-mul s.from) ∙ ap (λ n. kept s.from n 0 cells) (one-mul s.until)

-- of a vector that has the leader's cuts each rank has its own places
pub own_of_cuts : (code : Code) (l : Loop) (ranks : List Store) (env : Env) (lay : Layout code ranks env) (array : ℕ) → l.leader < length code.arrays → array < length code.arrays → dist_at code.arrays array ≡ dist_at code.arrays l.leader
    → lay.cuts array ≡ lay.cuts l.leader → (env.arrays array).rows ≡ 1 → All (λ (x : Store). HasOwn code l env x array) ranks
own_of_cuts code l ranks env lay array leads there same cuts one k d lt =
    let x = get_or ranks k d in
    let whole = env.arrays array in
    let held = (lay.arrays array there).held k d lt in
    let part = λ (dist : Dist) (cs : List ℕ). kept (whole.rows * own_from dist cs x.number) (whole.rows * own_until dist cs x.number) 0 whole.cells in
    held.cells_are
    ∙ ap (λ dist. part dist (lay.cuts array)) same
    ∙ ap (part (dist_at code.arrays l.leader)) cuts
    ∙ by_places whole.rows (cut_places code l (lay.cuts l.leader) x.number) whole.cells one
    ∙ sym (ap (λ (s : Span). kept s.from s.until 0 whole.cells) (places_are code l ranks env lay leads k d lt))

-- equally long arrays have the same cuts, but for uneven pieces
same_cuts : (dist : Dist) (len n : ℕ) (a b : List ℕ) → (dist ≡ Var → ⊥) → MayCut dist len n a → MayCut dist len n b → a ≡ b
same_cuts Rep len n a b even first second = first ∙ sym second
same_cuts Var len n a b even first second = absurd (even refl)
same_cuts Block len n a b even first second = first ∙ sym second

-- so of one that is as long as the leader and lies as that one does each rank has its own places
pub own_of_length : (code : Code) (l : Loop) (ranks : List Store) (env : Env) (lay : Layout code ranks env) (array : ℕ) → l.leader < length code.arrays → array < length code.arrays → dist_at code.arrays array ≡ dist_at code.arrays l.leader
    → (dist_at code.arrays l.leader ≡ Var → ⊥) → (env.arrays l.leader).rows ≡ 1 → (env.arrays array).rows ≡ 1 → length (env.arrays array).cells ≡ length (env.arrays l.leader).cells
    → All (λ (x : Store). HasOwn code l env x array) ranks
own_of_length code l ranks env lay array leads there same even one also long =
    let laid = lay.arrays array there in
    let whole = env.arrays array in
    let n = length ranks in
    let len = length (env.arrays l.leader).cells in
    let may : MayCut (dist_at code.arrays l.leader) len n (lay.cuts array) =
    subst (λ dist. MayCut dist len n (lay.cuts array)) same (subst (λ m. MayCut (dist_at code.arrays array) m n (lay.cuts array)) (columns_are whole.rows laid.columns (length whole.cells) also laid.size ∙ long) laid.may) in
    own_of_cuts code l ranks env lay array leads there same (same_cuts (dist_at code.arrays l.leader) len n (lay.cuts array) (lay.cuts l.leader) even may (leader_may code l ranks env lay leads one)) also

-- a count that is no greater than the greatest counts as it is
as_counted : (s : Span) → s.from ≤ greatest_count → s.until ≤ greatest_count → span (min s.from greatest_count) (min s.until greatest_count) ≡ s
as_counted s from until =
    let a : min s.from greatest_count ≡ s.from = omega (arith, from) in
    let b : min s.until greatest_count ≡ s.until = omega (arith, until) in
    ap (λ f. span f (min s.until greatest_count)) a ∙ ap (λ u. span s.from u) b

-- what a rank got of a vector by the leader's cuts is what it has of the copy at its own places
pub own_of_move : (code : Code) (l : Loop) (before after : Env) (x y : Store) (array to : ℕ) → piece_at y.arrays to ≡ needed (Like l.leader) code.arrays before x array → own_places code l y ≡ own_places code l x
    → after.arrays to ≡ before.arrays array → (before.arrays array).rows ≡ 1 → (own_places code l x).from ≤ greatest_count → (own_places code l x).until ≤ greatest_count → HasOwn code l after y to
unfolding need_span
own_of_move code l before after x y array to got places wholes one from until =
    let whole = before.arrays array in
    let own = own_places code l x in
    ap (λ p. p.cells) got
    ∙ ap (λ (s : Span). kept (whole.rows * s.from) (whole.rows * s.until) 0 whole.cells) (as_counted own from until)
    ∙ by_places whole.rows own whole.cells one
    ∙ sym (ap (λ (s : Span). kept s.from s.until 0 (after.arrays to).cells) places ∙ ap (λ w. kept own.from own.until 0 w.cells) wholes)

-- ---- halos

-- where the leader lies in blocks, the own places of a rank are its block
pub places_are_block : (code : Code) (l : Loop) (ranks : List Store) (env : Env) (lay : Layout code ranks env) (len : ℕ) → l.leader < length code.arrays → dist_at code.arrays l.leader ≡ Block → (env.arrays l.leader).rows ≡ 1
    → len ≡ length (env.arrays l.leader).cells → All (λ (x : Store). own_places code l x ≡ block_span x.number len x.ranks) ranks
places_are_block code l ranks env lay len leads block one long k d lt =
    let x = get_or ranks k d in
    let n = length ranks in
    let whole = length (env.arrays l.leader).cells in
    let number : x.number ≡ 0 + k = numbered_at 0 ranks k d lay.numbers lt in
    let first : x.number ≤ n = omega (arith, number, lt) in
    let next : suc x.number ≤ n = omega (arith, number, lt) in
    let cuts : lay.cuts l.leader ≡ block_cuts whole n = subst (λ dist. MayCut dist whole n (lay.cuts l.leader)) block (leader_may code l ranks env lay leads one) in
    places_are code l ranks env lay leads k d lt
    ∙ ap (λ dist. span (own_from dist (lay.cuts l.leader) x.number) (own_until dist (lay.cuts l.leader) x.number)) block
    ∙ ap (λ cs. span (own_from Block cs x.number) (own_until Block cs x.number)) cuts
    ∙ ap (λ f. span f (get_or (block_cuts whole n) (suc x.number) 0)) (block_cuts_at x.number whole n first)
    ∙ ap (λ u. span (block_start x.number whole n) u) (block_cuts_at (suc x.number) whole n next)
    ∙ ap (λ m. block_span x.number m n) (sym long)
    ∙ ap (λ r. block_span x.number len r) (sym (lay.counts k d lt))

-- a vector that is whole on each rank, as the leader is, is round its places
pub round_of_whole : (code : Code) (l : Loop) (ranks : List Store) (env : Env) (lay : Layout code ranks env) (array : ℕ) → l.leader < length code.arrays → array < length code.arrays → dist_at code.arrays l.leader ≡ Rep → dist_at code.arrays array ≡ Rep
    → All (λ (x : Store). HasRound code l env x (Whole array) array) ranks
round_of_whole code l ranks env lay array leads there rep also k d lt =
    let x = get_or ranks k d in
    let laid = lay.arrays l.leader leads in
    let cuts : lay.cuts l.leader ≡ 0 ∷ laid.columns ∷ [] = subst (λ dist. MayCut dist laid.columns (length ranks) (lay.cuts l.leader)) rep laid.may in
    let start : own_from (dist_at code.arrays l.leader) (lay.cuts l.leader) x.number ≡ 0 = ap (λ dist. own_from dist (lay.cuts l.leader) x.number) rep ∙ ap (λ cs. get_or cs 0 0) cuts in
    (whole_cells code ranks env array there also lay k d lt, ap (λ s. s.from) (places_are code l ranks env lay leads k d lt) ∙ start)

-- ---- all inputs and halos

each_own : (P : Store → ℕ → Type 0) (ranks : List Store) (ks : List ℕ) → AllByRecursion (λ k. All (λ (x : Store). P x k) ranks) ks → All (λ (x : Store). AllByRecursion (P x) ks) ranks
each_own P ranks [] h j d lt = tt
each_own P ranks (k ∷ ks) h j d lt = (h.0 j d lt, each_own P ranks ks h.1 j d lt)

each_round : (P : Store → HaloFrom → ℕ → Type 0) (ranks : List Store) (hs : List HaloFrom) (ks : List ℕ) → AllZip (λ h k. All (λ (x : Store). P x h k) ranks) hs ks → All (λ (x : Store). AllZip (P x) hs ks) ranks
each_round P ranks [] [] h j d lt = tt
each_round P ranks [] (k ∷ ks) h j d lt = absurd h
each_round P ranks (r ∷ hs) [] h j d lt = absurd h
each_round P ranks (r ∷ hs) (k ∷ ks) h j d lt = (h.0 j d lt, each_round P ranks hs ks h.1 j d lt)

-- where the ranks have each input and what each halo is round, each of them has what the lets read
pub has_read : (code : Code) (l : Loop) (around : List ℕ) (ranks : List Store) (env : Env) → AllByRecursion (λ k. All (λ (x : Store). HasOwn code l env x k) ranks) l.inputs
    → AllZip (λ h k. All (λ (x : Store). HasRound code l env x h k) ranks) l.halos around → All (HasRead code l around env) ranks
has_read code l around ranks env inputs halos j d lt =
    record { inputs = each_own (HasOwn code l env) ranks l.inputs inputs j d lt; halos = each_round (HasRound code l env) ranks l.halos around halos j d lt }

-- ---- parts that join

each_part : (code : Code) (l : Loop) (cuts : List ℕ) (cells : List ℤ) → IsCut (dist_at code.arrays l.leader) → (k : ℕ) (xs : List Store) → Numbered k xs → AllByRecursion (λ (x : Store). own_places code l x ≡ cut_places code l cuts x.number) xs
    → GivePiece (λ r. get_or cuts r 0) cells (λ (x : Store). own_part code l x cells) k xs
each_part code l cuts cells is k [] numbers h = tt
each_part code l cuts cells is k (x ∷ xs) numbers h =
    let dist = dist_at code.arrays l.leader in (
      ap (λ (s : Span). kept s.from s.until 0 cells) h.0
          ∙ ap (λ r. kept (own_from dist cuts r) (own_until dist cuts r) 0 cells) numbers.0
          ∙ ap (λ f. kept f (own_until dist cuts k) 0 cells) (from_is dist cuts k is)
          ∙ ap (λ u. kept (get_or cuts k 0) u 0 cells) (until_is dist cuts k is),
      each_part code l cuts cells is (suc k) xs numbers.1 h.1,
    )

-- the ranks' own parts of cells as many as the leader's, in rank order, are the whole
pub own_parts_join : (code : Code) (l : Loop) (ranks : List Store) (env : Env) (cells : List ℤ) → Layout code ranks env → 1 ≤ length ranks → l.leader < length code.arrays → IsCut (dist_at code.arrays l.leader) → (env.arrays l.leader).rows ≡ 1
    → length cells ≡ length (env.arrays l.leader).cells → flat_map (λ (x : Store). own_part code l x cells) ranks ≡ cells
own_parts_join code l ranks env cells lay some leads is one long =
    let cuts = lay.cuts l.leader in
    let places = λ (x : Store). own_places code l x ≡ cut_places code l cuts x.number in
    let rising = may_rise (dist_at code.arrays l.leader) (length (env.arrays l.leader).cells) (length ranks) cuts is some (leader_may code l ranks env lay leads one) in
    let c : Cuts (λ r. get_or cuts r 0) (length ranks) cells = record { first = rising.first; last = rising.last ∙ sym long; rises = rising.rises } in
    pieces_join (λ r. get_or cuts r 0) (length ranks) cells (λ (x : Store). own_part code l x cells) ranks c refl
    (each_part code l cuts cells is 0 ranks lay.numbers (recursion_from_All places ranks (places_are code l ranks env lay leads)))

-- ---- folds of parts

words_are_folds : (kind : FoldKind) (w : ℕ) (part : Store → List ℤ) (xs ys : List Store) → AllZip (λ (x y : Store). word_at y.words w ≡ fold_of kind (part x)) xs ys → map (λ (y : Store). word_at y.words w) ys ≡ map (fold_of kind) (map part xs)
words_are_folds kind w part [] [] h = refl
words_are_folds kind w part [] (y ∷ ys) h = absurd h
words_are_folds kind w part (x ∷ xs) [] h = absurd h
words_are_folds kind w part (x ∷ xs) (y ∷ ys) h = ap (λ v. v ∷ map (λ (z : Store). word_at z.words w) ys) h.0 ∙ ap (λ l. fold_of kind (part x) ∷ l) (words_are_folds kind w part xs ys h.1)

-- where each rank has the fold of its own part in a word, the fold of these words is that of all parts
pub fold_of_own_parts : (kind : FoldKind) (w : ℕ) (part : Store → List ℤ) (xs ys : List Store) → AllZip (λ (x y : Store). word_at y.words w ≡ fold_of kind (part x)) xs ys
    → fold_of kind (map (λ (y : Store). word_at y.words w) ys) ≡ fold_of kind (flat_map part xs)
fold_of_own_parts kind w part xs ys h = ap (fold_of kind) (words_are_folds kind w part xs ys h) ∙ fold_of_pieces kind (map part xs) ∙ ap (fold_of kind) (flat_map-map {C = ℤ} (λ p. p) part xs)
