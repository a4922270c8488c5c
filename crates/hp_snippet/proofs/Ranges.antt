-- The cells of a range that stand in the pieces of a list, one piece behind the other, are that range of the list.
use Rattle.std.proofs.Common.{◌≡◌, ◌∙◌, refl, sym, subst, ap, arith, Bool, true, false, cond, ℕ, zero, suc, ◌+◌, ◌-◌, ◌*◌, ◌<◌, ◌≤◌, ◌&&◌, leb, ltb, List, [], ◌∷◌, ◌++◌, length, take, drop, min, get_or}
use Rattle.std.specs.Prelude.{flat_map}
use Rattle.std.specs.List.{AllByRecursion}
use Rattle.std.proofs.Math.Nat.{mul-le-mul_left}
use Rattle.std.proofs.lemmas.Bool.{le-leb, lt-ltb}
use Rattle.std.proofs.lemmas.List.{drop-drop, drop_all, length-take, length-drop, take-append-drop}
use Rattle.std.proofs.lemmas.List.Elements.{recursion_from_All}
use Rattle.hp_cuts.specs.declared.cuts.Span.{Span}
use Rattle.hp_lattice.specs.declared.dist.Dist.{Dist}
use Rattle.hp_lattice.specs.declared.dist.Dist.TheVariants.{Rep, Var, Block}
use Rattle.hp_spmd.specs.declared.store.Store.{Store}
use Rattle.hp_spmd.specs.Cuts.{own_from, own_until}
use Rattle.hp_spmd.specs.Layout.{HoldsPiece, IsLaid, MayCut, Numbered, Rises, Whole}
use Rattle.hp_spmd.specs.Packs.{cells_in}
use Rattle.hp_spmd.specs.Scalars.{greatest_count}
use Rattle.hp_spmd.specs.Store.{kept, piece_at}
use Rattle.hp_spmd.proofs.LocalCuts.{kept_part}
use Rattle.hp_spmd.proofs.ShareCuts.{block_cuts_rise}
use Rattle.hp_snippet.specs.Holds.{IsCut}

-- ---- what is kept of a list

kept_more : {X : Type 0} (t : Bool) (x : X) (all left right : List X) → all ≡ left ++ right → cond t (x ∷ all) all ≡ cond t (x ∷ left) left ++ right
kept_more true x all left right e = ap (λ l. x ∷ l) e
kept_more false x all left right e = e

-- of a list behind another one, the places go on
pub kept_append : {X : Type 0} (a b k : ℕ) (xs ys : List X) → kept a b k (xs ++ ys) ≡ kept a b k xs ++ kept a b (k + length xs) ys
kept_append a b k [] ys = let e : k ≡ k + 0 = omega arith in ap (λ j. kept a b j ys) e
kept_append {X} a b k (x ∷ xs) ys =
    let e : suc k + length xs ≡ k + suc (length xs) = omega arith in
    kept_more (leb a k && ltb k b) x (kept a b (suc k) (xs ++ ys)) (kept a b (suc k) xs) (kept a b (k + suc (length xs)) ys)
    (kept_append {X = X} a b (suc k) xs ys ∙ ap (λ j. kept a b (suc k) xs ++ kept a b j ys) e)

-- ---- pieces of a list, one behind the other

-- cuts that never fall end with the list
pub record Cuts {X : Type 0} (cut : ℕ → ℕ) (n : ℕ) (whole : List X) : Type 0 where
  pub first : cut 0 ≡ 0
  pub last : cut n ≡ length whole
  pub rises : (k : ℕ) → k < n → cut k ≤ cut (suc k)

cut_within : {X : Type 0} (cut : ℕ → ℕ) (n : ℕ) (whole : List X) → Cuts cut n whole → (k m : ℕ) → k + m ≡ n → cut k ≤ length whole
cut_within cut n whole c k zero e =
    let same : k ≡ n = omega (arith, e) in
    let at : cut k ≡ cut n = ap cut same in
    let last = c.last in
    omega (arith, at, last)
cut_within {X} cut n whole c k (suc m) e =
    let one : k < n = omega (arith, e) in
    let rest : suc k + m ≡ n = omega (arith, e) in
    let up = c.rises k one in
    let on = cut_within {X = X} cut n whole c (suc k) m rest in
    omega (arith, up, on)

-- what each item gives, from the k-th piece on, is what stands of a range in that piece
abbrev pub GiveRange : {S X : Type 0} → (cut : ℕ → ℕ) → (a b : ℕ) → List X → (S → List X) → ℕ → List S → Type 0
GiveRange cut a b whole part k [] = Unit {0}
GiveRange cut a b whole part k (x ∷ xs) = (part x ≡ kept a b (cut k) (kept (cut k) (cut (suc k)) 0 whole)) × GiveRange cut a b whole part (suc k) xs

-- a piece and what stands behind it
piece_on : {X : Type 0} (a b from until : ℕ) (whole : List X) → from ≤ until → until ≤ length whole → kept a b from (kept from until 0 whole) ++ kept a b until (drop until whole) ≡ kept a b from (drop from whole)
piece_on {X} a b from until whole le within =
    let d = until - from in
    let rest = drop from whole in
    let upto : from + d ≡ until = omega arith in
    let behind : drop d rest ≡ drop until whole = drop-drop d from whole ∙ ap (λ p. drop p whole) upto in
    let many = length-take d rest in
    let left = length-drop from whole in
    let place : until ≡ from + length (take d rest) = omega (arith, many, left, le, within) in
    ap (λ l. kept a b from l ++ kept a b until (drop until whole)) (kept_part from until whole)
    ∙ ap (λ l. kept a b from (take d rest) ++ kept a b until l) (sym behind)
    ∙ ap (λ p. kept a b from (take d rest) ++ kept a b p (drop d rest)) place
    ∙ sym (kept_append {X = X} a b from (take d rest) (drop d rest))
    ∙ ap (kept a b from) (take-append-drop d rest)

ranges_from : {S X : Type 0} (cut : ℕ → ℕ) (a b n : ℕ) (whole : List X) (part : S → List X) → Cuts cut n whole → (k : ℕ) (xs : List S) → k + length xs ≡ n → GiveRange cut a b whole part k xs → flat_map part xs ≡ kept a b (cut k) (drop (cut k) whole)
ranges_from {S} {X} cut a b n whole part c k [] e h =
    let same : k ≡ n = omega (arith, e) in
    let at : cut k ≡ cut n = ap cut same in
    let last = c.last in
    let all : length whole ≤ cut k = omega (arith, at, last) in
    ap (kept a b (cut k)) (sym (drop_all (cut k) whole all))
ranges_from {S} {X} cut a b n whole part c k (x ∷ xs) e h =
    let one : k < n = omega (arith, e) in
    let on : suc k + length xs ≡ n = omega (arith, e) in
    let within = cut_within {X = X} cut n whole c (suc k) (length xs) on in
    ap (λ l. l ++ flat_map part xs) h.0
    ∙ ap (λ l. kept a b (cut k) (kept (cut k) (cut (suc k)) 0 whole) ++ l) (ranges_from {S = S} {X = X} cut a b n whole part c (suc k) xs on h.1)
    ∙ piece_on {X = X} a b (cut k) (cut (suc k)) whole (c.rises k one) within

-- all pieces
pub ranges_join : {S X : Type 0} (cut : ℕ → ℕ) (a b n : ℕ) (whole : List X) (part : S → List X) (xs : List S) → Cuts cut n whole → length xs ≡ n → GiveRange cut a b whole part 0 xs → flat_map part xs ≡ kept a b 0 whole
ranges_join {S} {X} cut a b n whole part xs c e h =
    let all : 0 + length xs ≡ n = omega (arith, e) in
    ranges_from {S = S} {X = X} cut a b n whole part c 0 xs all h ∙ ap (λ p. kept a b p (drop p whole)) c.first

-- ---- all of a list

pub kept_all : {X : Type 0} (a b k : ℕ) (xs : List X) → a ≤ k → k + length xs ≤ b → kept a b k xs ≡ xs
kept_all a b k [] le within = refl
kept_all {X} a b k (x ∷ xs) le within =
    let here : k < b = omega (arith, within) in
    let before : a ≤ suc k = omega (arith, le) in
    let behind : suc k + length xs ≤ b = omega (arith, within) in
    let rest = kept_all {X = X} a b (suc k) xs before behind in
    rw (le-leb a k le, lt-ltb k b here) (ap (λ l. x ∷ l) rest)

piece_within : {X : Type 0} (from until : ℕ) (whole : List X) → from ≤ until → until ≤ length whole → from + length (kept from until 0 whole) ≤ length whole
piece_within from until whole le within =
    let many = ap length (kept_part from until whole) ∙ length-take (until - from) (drop from whole) in
    let left = length-drop from whole in
    omega (arith, many, left, le, within)

-- what each item gives, from the k-th piece on, is that piece
abbrev pub GivePiece : {S X : Type 0} → (cut : ℕ → ℕ) → List X → (S → List X) → ℕ → List S → Type 0
GivePiece cut whole part k [] = Unit {0}
GivePiece cut whole part k (x ∷ xs) = (part x ≡ kept (cut k) (cut (suc k)) 0 whole) × GivePiece cut whole part (suc k) xs

give_all : {S X : Type 0} (cut : ℕ → ℕ) (n : ℕ) (whole : List X) (part : S → List X) → Cuts cut n whole → (k : ℕ) (xs : List S) → k + length xs ≡ n → GivePiece cut whole part k xs → GiveRange cut 0 (length whole) whole part k xs
give_all cut n whole part c k [] e h = tt
give_all {S} {X} cut n whole part c k (x ∷ xs) e h =
    let one : k < n = omega (arith, e) in
    let on : suc k + length xs ≡ n = omega (arith, e) in
    let least : 0 ≤ cut k = omega arith in
    let within = piece_within {X = X} (cut k) (cut (suc k)) whole (c.rises k one) (cut_within {X = X} cut n whole c (suc k) (length xs) on) in
    (h.0 ∙ sym (kept_all {X = X} 0 (length whole) (cut k) (kept (cut k) (cut (suc k)) 0 whole) least within), give_all {S = S} {X = X} cut n whole part c (suc k) xs on h.1)

-- all pieces, one behind the other, are the list
pub pieces_join : {S X : Type 0} (cut : ℕ → ℕ) (n : ℕ) (whole : List X) (part : S → List X) (xs : List S) → Cuts cut n whole → length xs ≡ n → GivePiece cut whole part 0 xs → flat_map part xs ≡ whole
pieces_join {S} {X} cut n whole part xs c e h =
    let all : 0 + length xs ≡ n = omega (arith, e) in
    let least : 0 ≤ 0 = omega arith in
    let within : 0 + length whole ≤ length whole = omega arith in
    ranges_join {S = S} {X = X} cut 0 (length whole) n whole part xs c e (give_all {S = S} {X = X} cut n whole part c 0 xs all h) ∙ kept_all {X = X} 0 (length whole) 0 whole least within

-- ---- the pieces of an array on the ranks

pub may_rise : (dist : Dist) (len ranks : ℕ) (cuts : List ℕ) → IsCut dist → 1 ≤ ranks → MayCut dist len ranks cuts → Rises cuts len ranks
may_rise Rep len ranks cuts is some may = absurd is
may_rise Var len ranks cuts is some may = may
may_rise Block len ranks cuts is some may = subst (λ c. Rises c len ranks) (sym may) (block_cuts_rise len ranks some)

pub from_is : (dist : Dist) (cuts : List ℕ) (r : ℕ) → IsCut dist → own_from dist cuts r ≡ get_or cuts r 0
from_is Rep cuts r is = absurd is
from_is Var cuts r is = refl
from_is Block cuts r is = refl

pub until_is : (dist : Dist) (cuts : List ℕ) (r : ℕ) → IsCut dist → own_until dist cuts r ≡ get_or cuts (suc r) 0
until_is Rep cuts r is = absurd is
until_is Var cuts r is = refl
until_is Block cuts r is = refl

-- the cells that one rank has of a range
one_gives : (dist : Dist) (cuts : List ℕ) (whole : Whole) (range : Span) (k : ℕ) (x : Store) (slot : ℕ) → IsCut dist → x.number ≡ k → get_or cuts k 0 ≤ greatest_count → HoldsPiece dist cuts whole x.number (piece_at x.arrays slot)
    → cells_in dist x.number (piece_at x.arrays slot) range ≡ kept (whole.rows * range.from) (whole.rows * range.until) (whole.rows * get_or cuts k 0) (kept (whole.rows * get_or cuts k 0) (whole.rows * get_or cuts (suc k) 0) 0 whole.cells)
one_gives dist cuts whole range k x slot is number few h =
    let p = piece_at x.arrays slot in
    let start = λ (rows : ℕ) (cs : List ℕ) (r : ℕ). rows * min (own_from dist cs r) greatest_count in
    let least : min (get_or cuts k 0) greatest_count ≡ get_or cuts k 0 = omega arith in
    let own : min (own_from dist cuts k) greatest_count ≡ get_or cuts k 0 = ap (λ f. min f greatest_count) (from_is dist cuts k is) ∙ least in
    ap (λ rows. kept (rows * range.from) (rows * range.until) (start rows p.cuts x.number) p.cells) h.rows_are
    ∙ ap (λ cs. kept (whole.rows * range.from) (whole.rows * range.until) (start whole.rows cs x.number) p.cells) h.cuts_are
    ∙ ap (kept (whole.rows * range.from) (whole.rows * range.until) (start whole.rows cuts x.number)) h.cells_are
    ∙ ap (λ r. kept (whole.rows * range.from) (whole.rows * range.until) (start whole.rows cuts r) (kept (whole.rows * own_from dist cuts r) (whole.rows * own_until dist cuts r) 0 whole.cells)) number
    ∙ ap (λ f. kept (whole.rows * range.from) (whole.rows * range.until) (whole.rows * f) (kept (whole.rows * own_from dist cuts k) (whole.rows * own_until dist cuts k) 0 whole.cells)) own
    ∙ ap (λ f. kept (whole.rows * range.from) (whole.rows * range.until) (whole.rows * get_or cuts k 0) (kept (whole.rows * f) (whole.rows * own_until dist cuts k) 0 whole.cells)) (from_is dist cuts k is)
    ∙ ap (λ u. kept (whole.rows * range.from) (whole.rows * range.until) (whole.rows * get_or cuts k 0) (kept (whole.rows * get_or cuts k 0) (whole.rows * u) 0 whole.cells)) (until_is dist cuts k is)

abbrev HoldEach : Dist → List ℕ → Whole → ℕ → List Store → Type 0
HoldEach dist cuts whole slot xs = AllByRecursion (λ (x : Store). HoldsPiece dist cuts whole x.number (piece_at x.arrays slot)) xs

each_gives : (dist : Dist) (cuts : List ℕ) (whole : Whole) (range : Span) (slot n : ℕ) → IsCut dist → ((k : ℕ) → k < n → get_or cuts k 0 ≤ greatest_count) → (k : ℕ) (xs : List Store) → k + length xs ≡ n → Numbered k xs → HoldEach dist cuts whole slot xs
    → GiveRange (λ r. whole.rows * get_or cuts r 0) (whole.rows * range.from) (whole.rows * range.until) whole.cells (λ (x : Store). cells_in dist x.number (piece_at x.arrays slot) range) k xs
each_gives dist cuts whole range slot n is few k [] e numbers h = tt
each_gives dist cuts whole range slot n is few k (x ∷ xs) e numbers h =
    let one : k < n = omega (arith, e) in
    let on : suc k + length xs ≡ n = omega (arith, e) in
    (one_gives dist cuts whole range k x slot is numbers.0 (few k one) h.0, each_gives dist cuts whole range slot n is few (suc k) xs on numbers.1 h.1)

-- cuts that rise stay within the length
pub rise_within : (cuts : List ℕ) (len n : ℕ) → Rises cuts len n → (k m : ℕ) → k + m ≡ n → get_or cuts k 0 ≤ len
rise_within cuts len n c k zero e =
    let same : k ≡ n = omega (arith, e) in
    let at : get_or cuts k 0 ≡ get_or cuts n 0 = ap (λ r. get_or cuts r 0) same in
    let last = c.last in
    omega (arith, at, last)
rise_within cuts len n c k (suc m) e =
    let one : k < n = omega (arith, e) in
    let rest : suc k + m ≡ n = omega (arith, e) in
    let up = c.rises k one in
    let on = rise_within cuts len n c (suc k) m rest in
    omega (arith, up, on)

pub ranges_move : (dist : Dist) (ranks : List Store) (slot : ℕ) (cuts : List ℕ) (whole : Whole) (range : Span) → IsCut dist → 1 ≤ length ranks → Numbered 0 ranks
    → (laid : IsLaid dist ranks slot cuts whole) → laid.columns ≤ greatest_count
    → flat_map (λ x. cells_in dist x.number (piece_at x.arrays slot) range) ranks ≡ kept (whole.rows * range.from) (whole.rows * range.until) 0 whole.cells
ranges_move dist ranks slot cuts whole range is some numbers laid few =
    let n = length ranks in
    let c = may_rise dist laid.columns n cuts is some laid.may in
    let cut = λ (r : ℕ). whole.rows * get_or cuts r 0 in
    let count : 0 + length ranks ≡ n = omega arith in
    let zero_first : whole.rows * 0 ≡ 0 = omega arith in
    let within : (k : ℕ) → k < n → get_or cuts k 0 ≤ greatest_count = λ k h. (
    let rest : k + (n - k) ≡ n = omega (arith, h) in
    let at = rise_within cuts laid.columns n c k (n - k) rest in
    omega (arith, at, few)
    ) in
    ranges_join cut (whole.rows * range.from) (whole.rows * range.until) n whole.cells (λ (x : Store). cells_in dist x.number (piece_at x.arrays slot) range) ranks
    (record {
      first = ap (λ f. whole.rows * f) c.first ∙ zero_first;
      last = ap (λ l. whole.rows * l) c.last ∙ sym laid.size;
      rises = λ k h. mul-le-mul_left whole.rows (c.rises k h);
    })
    refl (each_gives dist cuts whole range slot n is within 0 ranks count numbers (recursion_from_All (λ (x : Store). HoldsPiece dist cuts whole x.number (piece_at x.arrays slot)) ranks laid.held))

-- ---- all cells of an array

pub cuts_of : (dist : Dist) (n : ℕ) (cuts : List ℕ) (whole : Whole) (columns : ℕ) → IsCut dist → 1 ≤ n → length whole.cells ≡ whole.rows * columns → MayCut dist columns n cuts → Cuts (λ r. whole.rows * get_or cuts r 0) n whole.cells
cuts_of dist n cuts whole columns is some size may =
    let c = may_rise dist columns n cuts is some may in
    let zero_first : whole.rows * 0 ≡ 0 = omega arith in
    record {
      first = ap (λ f. whole.rows * f) c.first ∙ zero_first;
      last = ap (λ l. whole.rows * l) c.last ∙ sym size;
      rises = λ k h. mul-le-mul_left whole.rows (c.rises k h);
    }

pub each_piece : (dist : Dist) (cuts : List ℕ) (whole : Whole) (slot : ℕ) → IsCut dist → (k : ℕ) (xs : List Store) → Numbered k xs → HoldEach dist cuts whole slot xs
    → GivePiece (λ r. whole.rows * get_or cuts r 0) whole.cells (λ (x : Store). (piece_at x.arrays slot).cells) k xs
each_piece dist cuts whole slot is k [] numbers h = tt
each_piece dist cuts whole slot is k (x ∷ xs) numbers h = (
  h.0.cells_are
      ∙ ap (λ r. kept (whole.rows * own_from dist cuts r) (whole.rows * own_until dist cuts r) 0 whole.cells) numbers.0
      ∙ ap (λ f. kept (whole.rows * f) (whole.rows * own_until dist cuts k) 0 whole.cells) (from_is dist cuts k is)
      ∙ ap (λ u. kept (whole.rows * get_or cuts k 0) (whole.rows * u) 0 whole.cells) (until_is dist cuts k is),
  each_piece dist cuts whole slot is (suc k) xs numbers.1 h.1,
)

-- the own cells of an array that is cut, in rank order, are the whole
pub cells_join : (dist : Dist) (ranks : List Store) (slot : ℕ) (cuts : List ℕ) (whole : Whole) → IsCut dist → 1 ≤ length ranks → Numbered 0 ranks → IsLaid dist ranks slot cuts whole
    → flat_map (λ (x : Store). (piece_at x.arrays slot).cells) ranks ≡ whole.cells
cells_join dist ranks slot cuts whole is some numbers laid =
    pieces_join (λ r. whole.rows * get_or cuts r 0) (length ranks) whole.cells (λ (x : Store). (piece_at x.arrays slot).cells) ranks
    (cuts_of dist (length ranks) cuts whole laid.columns is some laid.size laid.may)
    refl (each_piece dist cuts whole slot is 0 ranks numbers (recursion_from_All (λ (x : Store). HoldsPiece dist cuts whole x.number (piece_at x.arrays slot)) ranks laid.held))

-- a rank's own cells of an array that is whole on each are all
pub cells_of_one : (ranks : List Store) (slot : ℕ) (cuts : List ℕ) (whole : Whole) (k : ℕ) (x : Store) → IsLaid Rep ranks slot cuts whole → HoldsPiece Rep cuts whole k (piece_at x.arrays slot) → (piece_at x.arrays slot).cells ≡ whole.cells
cells_of_one ranks slot cuts whole k x laid h =
    let least : whole.rows * 0 ≤ 0 = omega arith in
    let size = laid.size in
    let within : 0 + length whole.cells ≤ whole.rows * laid.columns = omega (arith, size) in
    h.cells_are
    ∙ ap (λ cs. kept (whole.rows * own_from Rep cs k) (whole.rows * own_until Rep cs k) 0 whole.cells) laid.may
    ∙ kept_all (whole.rows * 0) (whole.rows * laid.columns) 0 whole.cells least within
