-- Two sights that agree on what an element names give it the same value; so loops that see the same make the same rows.
use Rattle.std.proofs.Common.{◌≡◌, ◌∙◌, refl, ap, arith, true, ℕ, zero, suc, ◌+◌, ◌<◌, List, [], ◌∷◌, ◌++◌, Result, Ok, Err}
use Rattle.std.specs.Prelude.{ℤ, slice_get}
use Rattle.std.proofs.lemmas.Bool.{and_parts, ltb-true}
use Rattle.hp_word.specs.declared.elem.Elem.{Elem}
use Rattle.hp_word.specs.declared.elem.Elem.TheVariants.{Number, Word, Input, Near, Earlier, Calc', Both', Either'}
use Rattle.hp_word.specs.declared.elem.Elem.TheBlock.{Row_of-Elem, end_of-Elem, more_of-Elem}
use Rattle.hp_word.specs.declared.place.Trap.{Trap}
use Rattle.hp_word.specs.Elem.{Sight, both_of, calc_of, either_of, elem_value, only_value}
use Rattle.hp_word.specs.LoopRules.{and_then, lets_after, rows_below}
use Rattle.hp_air.specs.Kept.{elem_fits, is_near, part_fits}
use Rattle.hp_parfor.specs.KeptParts.{lets_fit}

-- two sights agree on so many words and inputs, and on what is near within these reaches, and have the same lets
pub record SeeAlike (words inputs : ℕ) (reaches : List ℕ) (a b : Sight) : Type 0 where
  pub word : (w : ℕ) → w < words → a.word w ≡ b.word w
  pub input : (k : ℕ) → k < inputs → a.input k ≡ b.input k
  pub near : (k : ℕ) (by : ℤ) → is_near by (slice_get reaches k) ≡ true → a.near k by ≡ b.near k by
  pub earlier : (k : ℕ) → a.earlier k ≡ b.earlier k

mutual
  unfolding elem_fits elem_value

  pub same_value : (words inputs : ℕ) (reaches : List ℕ) (lets : ℕ) (a b : Sight) (e : Elem) → SeeAlike words inputs reaches a b → elem_fits words inputs reaches lets e ≡ true → elem_value a e ≡ elem_value b e
  same_value words inputs reaches lets a b (Number n) see h = refl
  same_value words inputs reaches lets a b (Word w) see h = ap Ok (see.word w (ltb-true w words h))
  same_value words inputs reaches lets a b (Input k) see h = ap Ok (see.input k (ltb-true k inputs h))
  same_value words inputs reaches lets a b (Near k by) see h = ap Ok (see.near k by h)
  same_value words inputs reaches lets a b (Earlier k) see h = ap Ok (see.earlier k)
  same_value words inputs reaches lets a b (Calc' op at p x q y) see h =
      let parts = and_parts (part_fits words inputs reaches lets x) (part_fits words inputs reaches lets y) h in
      λ i. calc_of op at (same_part words inputs reaches lets a b x see parts.0 i) (same_part words inputs reaches lets a b y see parts.1 i)
  same_value words inputs reaches lets a b (Both' p x q y) see h =
      let parts = and_parts (part_fits words inputs reaches lets x) (part_fits words inputs reaches lets y) h in
      λ i. both_of (same_part words inputs reaches lets a b x see parts.0 i) (same_part words inputs reaches lets a b y see parts.1 i)
  same_value words inputs reaches lets a b (Either' p x q y) see h =
      let parts = and_parts (part_fits words inputs reaches lets x) (part_fits words inputs reaches lets y) h in
      λ i. either_of (same_part words inputs reaches lets a b x see parts.0 i) (same_part words inputs reaches lets a b y see parts.1 i)

  same_part : {n : _} (words inputs : ℕ) (reaches : List ℕ) (lets : ℕ) (a b : Sight) (row : Row_of-Elem n) → SeeAlike words inputs reaches a b → part_fits words inputs reaches lets row ≡ true → only_value a row ≡ only_value b row
  same_part words inputs reaches lets a b end_of-Elem see h = refl
  same_part words inputs reaches lets a b (more_of-Elem e rest) see h = same_value words inputs reaches lets a b e see (and_parts (part_fits words inputs reaches lets rest) (elem_fits words inputs reaches lets e) h).1

same_then : (r : Result ℤ Trap) (f g : ℤ → Result (List ℤ) Trap) → ((v : ℤ) → f v ≡ g v) → and_then r f ≡ and_then r g
same_then (Err t) f g same = refl
same_then (Ok v) f g same = same v

-- lets of the same sights
pub same_lets : (words inputs : ℕ) (reaches : List ℕ) (before : ℕ) (a b : List ℤ → Sight) (lets : List ℤ) (es : List Elem) → ((l : List ℤ) → SeeAlike words inputs reaches (a l) (b l)) → lets_fit words inputs reaches before es ≡ true
    → lets_after a lets es ≡ lets_after b lets es
same_lets words inputs reaches before a b lets [] see h = refl
same_lets words inputs reaches before a b lets (e ∷ es) see h =
    let parts = and_parts (elem_fits words inputs reaches before e) (lets_fit words inputs reaches (before + 1) es) h in
    ap (λ r. and_then r (λ v. lets_after a (lets ++ v ∷ []) es)) (same_value words inputs reaches before (a lets) (b lets) e (see lets) parts.0)
    ∙ same_then (elem_value (b lets) e) (λ v. lets_after a (lets ++ v ∷ []) es) (λ v. lets_after b (lets ++ v ∷ []) es) (λ v. same_lets words inputs reaches (before + 1) a b (lets ++ v ∷ []) es see parts.1)

-- the rows below a place, of rows that are the same there
pub same_rows : (f g : ℕ → Result (List ℤ) Trap) (n : ℕ) → ((i : ℕ) → i < n → f i ≡ g i) → rows_below f n ≡ rows_below g n
same_rows f g zero same = refl
same_rows f g (suc n) same =
    let less : rows_below f n ≡ rows_below g n = same_rows f g n (λ i lt. same i (omega (arith, lt))) in
    let least : n < suc n = omega arith in
    λ i. and_then (less i) (λ rows. and_then (same n least i) (λ r. Ok (rows ++ r ∷ [])))
