-- Blocks rise from 0 to the length, and a place is in the block that its quotient names.
use Rattle.std.proofs.Common.{◌≡◌, ℕ, suc, ◌+◌, ◌-◌, ◌*◌, ◌/◌, ◌%◌, ◌<◌, ◌≤◌, sym, subst, refl, arith, inl, inr}
use Rattle.std.proofs.Math.Nat.{mul-le-mul_right, mul_comm, mul-suc, suc-mul, add-mul, div-add-mod, mod-lt}
use Rattle.std.proofs.lemmas.Bool.{cases_lt}
use Rattle.hp_cuts.specs.Blocks.{block_start, Owns, AreBlocks}

-- ---- blocks

pub start_rises : (r s len ranks : ℕ) → r ≤ s → block_start r len ranks ≤ block_start s len ranks
start_rises r s len ranks h = let e : r * (len / ranks) ≤ s * (len / ranks) = mul-le-mul_right (len / ranks) h in omega arith

pub start_begin : (len ranks : ℕ) → block_start 0 len ranks ≡ 0
start_begin len ranks = omega arith

pub start_end : (len ranks : ℕ) → 1 ≤ ranks → block_start ranks len ranks ≡ len
start_end len ranks some = omega arith

pub start_within : (r len ranks : ℕ) → 1 ≤ ranks → r ≤ ranks → block_start r len ranks ≤ len
start_within r len ranks some h = omega (arith, start_rises r ranks len ranks h, start_end len ranks some)

-- whoever owns a place is no rank before another owner
not_before : (place len ranks one other : ℕ) → Owns place len ranks one → Owns place len ranks other → other ≤ one
not_before place len ranks one other a b =
    elim (cases_lt one other) [
      | inl before ↦ absurd (let e = start_rises (suc one) other len ranks (omega (arith, before)) in omega (arith, a.until, b.from, e))
      | inr behind ↦ omega (arith, behind)
    ]

pub one_owner : (place len ranks one other : ℕ) → Owns place len ranks one → Owns place len ranks other → one ≡ other
one_owner place len ranks one other a b =
    let less = not_before place len ranks one other a b in
    let more = not_before place len ranks other one b a in
    omega (arith, less, more)

-- ---- owners

-- the quotient of a place by the length of a block
quotient : (c b k : ℕ) → 0 < b → k ≡ c / b → (k * b ≤ c) × (c < k * b + b)
quotient c b k some e =
    let whole : b * k + c % b ≡ c = subst (λ x. b * x + c % b ≡ c) (sym e) (div-add-mod c b) in
    let rest = mod-lt c some in
    let same = mul_comm b k in
    (omega (arith, whole, same), omega (arith, whole, rest, same))

-- with q places in a short block and m long blocks, a place of the long ones
pub long_owner : (c q m k : ℕ) → c < m * q + m → k ≡ c / (q + 1) → (k < m) × (k * q + k ≤ c) × (c < suc k * q + suc k)
long_owner c q m k h e =
    let at = quotient c (q + 1) k (omega arith) e in
    let product : k * (q + 1) ≡ k * q + k = subst (λ x. k * x ≡ k * q + k) (omega arith) (mul-suc k q) in
    let next = suc-mul k q in
    let below = elim (cases_lt k m) as (λ _. k < m) [
      | inl less ↦ less
      | inr more ↦ absurd (let wide : m * q ≤ k * q = mul-le-mul_right q (omega (arith, more)) in omega (arith, h, at, product, wide, more))
    ] in
    (below, omega (arith, at, product), omega (arith, at, product, next))

-- a place of the short blocks: it is d places behind the long ones
pub short_owner : (d q s j : ℕ) → d < s * q → j ≡ d / q → (j < s) × (j * q ≤ d) × (d < suc j * q)
short_owner d q s j h e =
    let some : 0 < q = elim (cases_lt 0 q) as (λ _. 0 < q) [
      | inl less ↦ less
      | inr none ↦ absurd (let empty : q ≡ 0 = omega (arith, none) in let nothing : s * q ≡ 0 = subst (λ x. s * x ≡ 0) (sym empty) (omega arith) in omega (arith, h, nothing))
    ] in
    let at = quotient d q j some e in
    let next = suc-mul j q in
    let below = elim (cases_lt j s) as (λ _. j < s) [
      | inl less ↦ less
      | inr more ↦ absurd (let wide : s * q ≤ j * q = mul-le-mul_right q (omega (arith, more)) in omega (arith, h, at, wide))
    ] in
    (below, at.0, omega (arith, at, next))

-- ---- the rank that the quotient names

-- where a place of the long blocks stands
pub owned_long : (place len ranks rank : ℕ) → 1 ≤ ranks → place < len % ranks * (len / ranks) + len % ranks → rank ≡ place / (len / ranks + 1) → Owns place len ranks rank
owned_long place len ranks rank some h e =
    let q = len / ranks in
    let m = len % ranks in
    let at = long_owner place q m rank h e in
    let few : m < ranks = mod-lt len some in
    record { is_rank = omega (arith, at, few); from = omega (arith, at); until = omega (arith, at) }

-- and one of the short blocks
pub owned_short : (place len ranks rank : ℕ) → 1 ≤ ranks → place < len → len % ranks * (len / ranks) + len % ranks ≤ place
    → rank ≡ len % ranks + (place - (len % ranks * (len / ranks) + len % ranks)) / (len / ranks) → Owns place len ranks rank
owned_short place len ranks rank some inside h e =
    let q = len / ranks in
    let m = len % ranks in
    let j = (place - (m * q + m)) / q in
    let few : m < ranks = mod-lt len some in
    let whole : ranks * q + m ≡ len = div-add-mod len ranks in
    let parts : ranks * q ≡ m * q + (ranks - m) * q = subst (λ x. x * q ≡ m * q + (ranks - m) * q) (omega (arith, few)) (add-mul m (ranks - m) q) in
    let at = short_owner (place - (m * q + m)) q (ranks - m) j (omega (arith, inside, h, whole, parts)) refl in
    let place_of : rank * q ≡ m * q + j * q = subst (λ x. x * q ≡ m * q + j * q) (sym e) (add-mul m j q) in
    let next = suc-mul j q in
    let next_rank = suc-mul rank q in
    record { is_rank = omega (arith, at, few, e); from = omega (arith, at, place_of, e, h); until = omega (arith, at, place_of, next, next_rank, e, h) }

-- ---- the laws

-- a place's rank
pub owner_of : (len ranks place : ℕ) → 1 ≤ ranks → place < len → (rank : ℕ) × Owns place len ranks rank
owner_of len ranks place some inside =
    elim (cases_lt place (len % ranks * (len / ranks) + len % ranks)) [
      | inl long ↦ (_, owned_long place len ranks _ some long refl)
      | inr short ↦ (_, owned_short place len ranks _ some inside (omega (arith, short)) refl)
    ]

pub are_blocks : (len ranks : ℕ) → 1 ≤ ranks → AreBlocks len ranks
are_blocks len ranks some =
    record {
      begin = start_begin len ranks;
      end = start_end len ranks some;
      rise = λ rank. start_rises rank (suc rank) len ranks (omega arith);
      cover = λ place inside. owner_of len ranks place some inside;
      disjoint = λ place one other a b. one_owner place len ranks one other a b;
    }

-- ---- the same of a count that is the number of the ranks

pub counted_long : (place len count ranks rank : ℕ) → count ≡ ranks → 1 ≤ ranks → place < len % count * (len / count) + len % count → rank ≡ place / (len / count + 1) → Owns place len ranks rank
counted_long place len count ranks rank same some = subst (λ n. place < len % n * (len / n) + len % n → rank ≡ place / (len / n + 1) → Owns place len ranks rank) (sym same) (owned_long place len ranks rank some)

pub counted_short : (place len count ranks rank : ℕ) → count ≡ ranks → 1 ≤ ranks → place < len → len % count * (len / count) + len % count ≤ place
    → rank ≡ len % count + (place - (len % count * (len / count) + len % count)) / (len / count) → Owns place len ranks rank
counted_short place len count ranks rank same some inside =
    subst (λ n. len % n * (len / n) + len % n ≤ place → rank ≡ len % n + (place - (len % n * (len / n) + len % n)) / (len / n) → Owns place len ranks rank) (sym same) (owned_short place len ranks rank some inside)
