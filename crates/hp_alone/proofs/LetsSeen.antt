-- What a rank's loop makes at one of its own places is what the loop over the whole makes there.
use Rattle.std.proofs.Common.{◌≡◌, ◌∙◌, refl, sym, subst, ap, arith, ℕ, zero, suc, ◌+◌, ◌-◌, ◌<◌, ℤ, pos, ◌+ℤ◌, List, [], ◌∷◌, ◌++◌, length, drop, get_or-drop, get_or-take, Result, Ok, Err}
use Rattle.std.specs.Prelude.{slice_index, slice_index_or}
use Rattle.std.specs.List.{AllByRecursion, AllZip}
use Rattle.hp_word.specs.declared.elem.Elem.{Elem}
use Rattle.hp_word.specs.declared.elem.Elem.TheBlock.{Row_of-Elem, end_of-Elem, more_of-Elem}
use Rattle.hp_word.specs.declared.elem.Elem.TheVariants.{Number, Word, Input, Near, Earlier, Calc', Both', Either'}
use Rattle.hp_word.specs.declared.place.Trap.{Trap}
use Rattle.hp_word.specs.Elem.{Sight, both_of, calc_of, either_of, elem_value, only_value}
use Rattle.hp_word.specs.LoopRules.{and_then, cell_at, lets_after, word_at}
use Rattle.hp_spmd.specs.declared.code.Code.{Code}
use Rattle.hp_spmd.specs.declared.instr.HaloFrom.{HaloFrom}
use Rattle.hp_spmd.specs.declared.instr.HaloFrom.TheVariants.{Loose, Whole}
use Rattle.hp_spmd.specs.declared.instr.Loop.{Loop}
use Rattle.hp_spmd.specs.declared.store.Store.{Store}
use Rattle.hp_spmd.specs.Layout.{Env}
use Rattle.hp_spmd.specs.Loops.{lets_at, near_at, sight_at}
use Rattle.hp_spmd.specs.Store.{data_of, kept, piece_at}
use Rattle.hp_spmd.proofs.LocalCuts.{kept_part}
use Rattle.hp_snippet.specs.Values.{HasValue, value_or_zero}
use Rattle.hp_alone.specs.OwnLoops.{HasOwn, HasRead, HasRound, IsNear, MayRead, RowMayRead, own_places, whole_row, whole_sight}
use Rattle.hp_alone.proofs.HalosRead.{cell_of_all, cell_of_halo}

-- ---- two sights

-- what an element may read is alike in two sights
record Alike (env : Env) (l : Loop) (a b : Sight) : Type 0 where
  word : (w : ℕ) → HasValue (env.words w) → a.word w ≡ b.word w
  input : (k : ℕ) → k < length l.inputs → a.input k ≡ b.input k
  near : (k : ℕ) (by : ℤ) → k < length l.halos → IsNear (slice_index_or l.halos k (Whole 0)) by → a.near k by ≡ b.near k by
  earlier : (k : ℕ) → a.earlier k ≡ b.earlier k

-- so an element that reads no more has one value in both
mutual
  unfolding elem_value only_value

  elem_alike : (env : Env) (l : Loop) (a b : Sight) (e : Elem) → Alike env l a b → MayRead env l e → elem_value a e ≡ elem_value b e
  elem_alike env l a b (Number n) s r = refl
  elem_alike env l a b (Word w) s r = ap Ok (s.word w r)
  elem_alike env l a b (Input k) s r = ap Ok (s.input k r)
  elem_alike env l a b (Near k by) s r = ap Ok (s.near k by r.0 r.1)
  elem_alike env l a b (Earlier k) s r = ap Ok (s.earlier k)
  elem_alike env l a b (Calc' op at p x q y) s r = ap (λ v. calc_of op at v (only_value a y)) (row_alike env l a b x s r.0) ∙ ap (λ v. calc_of op at (only_value b x) v) (row_alike env l a b y s r.1)
  elem_alike env l a b (Both' p x q y) s r = ap (λ v. both_of v (only_value a y)) (row_alike env l a b x s r.0) ∙ ap (λ v. both_of (only_value b x) v) (row_alike env l a b y s r.1)
  elem_alike env l a b (Either' p x q y) s r = ap (λ v. either_of v (only_value a y)) (row_alike env l a b x s r.0) ∙ ap (λ v. either_of (only_value b x) v) (row_alike env l a b y s r.1)

  row_alike : {m : _} (env : Env) (l : Loop) (a b : Sight) (row : Row_of-Elem m) → Alike env l a b → RowMayRead env l row → only_value a row ≡ only_value b row
  row_alike env l a b end_of-Elem s r = refl
  row_alike env l a b (more_of-Elem e rest) s r = elem_alike env l a b e s r.0

-- and so have all lets
lets_alike : (env : Env) (l : Loop) (a b : List ℤ → Sight) (lets : List ℤ) (es : List Elem) → ((before : List ℤ) → Alike env l (a before) (b before)) → AllByRecursion (MayRead env l) es → lets_after a lets es ≡ lets_after b lets es
lets_alike env l a b lets [] s r = refl
lets_alike env l a b lets (e ∷ es) s r =
    ap (λ v. and_then v (λ x. lets_after a (lets ++ x ∷ []) es)) (elem_alike env l (a lets) (b lets) e (s lets) r.0)
    ∙ go_on (elem_value (b lets) e) (λ x. lets_alike env l a b (lets ++ x ∷ []) es s r.1)
  where
    go_on : (v : Result ℤ Trap) → ((x : ℤ) → lets_after a (lets ++ x ∷ []) es ≡ lets_after b (lets ++ x ∷ []) es) → and_then v (λ x. lets_after a (lets ++ x ∷ []) es) ≡ and_then v (λ x. lets_after b (lets ++ x ∷ []) es)
    go_on (Ok x) rest = rest x
    go_on (Err t) rest = refl

-- ---- one item of several

item_of_all : (P : ℕ → Type 0) (ks : List ℕ) (k : ℕ) → AllByRecursion P ks → k < length ks → P (slice_index ks k)
item_of_all P [] k h lt = absurd (omega (arith, lt))
item_of_all P (x ∷ ks) zero h lt = h.0
item_of_all P (x ∷ ks) (suc k) h lt = let on : k < length ks = omega (arith, lt) in item_of_all P ks k h.1 on

item_of_both : (P : HaloFrom → ℕ → Type 0) (hs : List HaloFrom) (ks : List ℕ) (k : ℕ) → AllZip P hs ks → k < length hs → P (slice_index_or hs k (Whole 0)) (slice_index ks k)
item_of_both P [] ks k h lt = absurd (omega (arith, lt))
item_of_both P (x ∷ hs) [] k h lt = absurd h
item_of_both P (x ∷ hs) (y ∷ ks) zero h lt = h.0
item_of_both P (x ∷ hs) (y ∷ ks) (suc k) h lt = let on : k < length hs = omega (arith, lt) in item_of_both P hs ks k h.1 on

-- ---- what a rank reads

-- a cell of those from one place up to another
pub cell_of_part : (from until i : ℕ) (cells : List ℤ) → i < until - from → word_at (kept from until 0 cells) i ≡ word_at cells (from + i)
cell_of_part from until i cells lt = ap (λ l. word_at l i) (kept_part from until cells) ∙ get_or-take (until - from) (drop from cells) i (pos 0) lt ∙ get_or-drop from cells i (pos 0)

-- a halo
round_seen : (code : Code) (l : Loop) (env : Env) (x : Store) (i : ℕ) (by : ℤ) (h : HaloFrom) (k : ℕ) → HasRound code l env x h k → IsNear h by → i < (own_places code l x).until - (own_places code l x).from
    → near_at (data_of x) h i by ≡ cell_at (env.arrays k).cells (pos ((own_places code l x).from + i) +ℤ by)
round_seen code l env x i by (Loose column reach) k has near lt =
    let cells = (env.arrays k).cells in
    ap (λ m. cell_at m (pos (i + reach) +ℤ by)) has.0
    ∙ cell_of_halo reach x.number x.ranks cells i by (subst (λ s. i < s.until - s.from) has.1 lt) near.0 near.1
    ∙ sym (ap (λ s. cell_at cells (pos (s.from + i) +ℤ by)) has.1)
round_seen code l env x i by (Whole array) k has near lt = cell_of_all (piece_at x.arrays array).cells (env.arrays k).cells (own_places code l x).from i by has.0 has.1

-- all that it may read
sight_alike : (l : Loop) (around : List ℕ) (code : Code) (env : Env) (x : Store) (i : ℕ) → HasRead code l around env x → ((w : ℕ) → HasValue (env.words w) → word_at x.words w ≡ value_or_zero (env.words w))
    → i < (own_places code l x).until - (own_places code l x).from → (lets : List ℤ) → Alike env l (sight_at l (data_of x) i lets) (whole_sight l around env ((own_places code l x).from + i) lets)
unfolding sight_at
sight_alike l around code env x i has words lt lets =
    let own = own_places code l x in
    record {
      word = words;
      input = λ k within. ap (λ c. word_at c i) (item_of_all (HasOwn code l env x) l.inputs k has.inputs within) ∙ cell_of_part own.from own.until i (env.arrays (slice_index l.inputs k)).cells lt;
      near = λ k by within near. round_seen code l env x i by (slice_index_or l.halos k (Whole 0)) (slice_index around k) (item_of_both (HasRound code l env x) l.halos around k has.halos within) near lt;
      earlier = λ k. refl;
    }

-- Where a rank has what the lets may read, what it makes of them at its own place is what the loop over the whole makes there.
pub lets_seen : (l : Loop) (around : List ℕ) (code : Code) (env : Env) (x : Store) (i : ℕ) → HasRead code l around env x → ((w : ℕ) → HasValue (env.words w) → word_at x.words w ≡ value_or_zero (env.words w))
    → AllByRecursion (MayRead env l) l.lets → i < (own_places code l x).until - (own_places code l x).from → lets_at l (data_of x) i ≡ whole_row l around env ((own_places code l x).from + i)
unfolding lets_at
lets_seen l around code env x i has words reads lt =
    lets_alike env l (sight_at l (data_of x) i) (whole_sight l around env ((own_places code l x).from + i)) [] l.lets (sight_alike l around code env x i has words lt) reads
