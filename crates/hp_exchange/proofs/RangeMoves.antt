-- That the instructions of a move do what they promise.
use Rattle.std.proofs.Common.{◌≡◌, refl, sym, subst, arith, false, ℕ, ◌<◌, List, [], ◌∷◌, length, get_or}
use Rattle.std.specs.Prelude.{slice_index}
use Rattle.std.specs.List.{AllByRecursion}
use Rattle.hp_lattice.specs.declared.dist.Dist.TheVariants.{Rep}
use Rattle.hp_spmd.specs.declared.code.Code.{Code}
use Rattle.hp_spmd.specs.declared.instr.Instr.{Instr}
use Rattle.hp_spmd.specs.declared.instr.Instr.TheVariants as instr
use Rattle.hp_spmd.specs.declared.instr.Need.{Need}
use Rattle.hp_spmd.specs.declared.instr.Need.TheVariants.{Like, Blocks, Whole}
use Rattle.hp_spmd.specs.declared.instr.Packing.TheVariants.{Move}
use Rattle.hp_spmd.specs.Lockstep.{position_of}
use Rattle.hp_spmd.specs.Store.{dist_at, first_store}
use Rattle.hp_spmd.proofs.ShareNext.{next_shared}
use Rattle.hp_snippet.specs.Moves.{HasGot, arrays_alone, copied}
use Rattle.hp_snippet.specs.Promises.{IsStraight, IsWork, LeavesShared}
use Rattle.hp_snippet.proofs.MoveParts.{columns_short, item_of}
use Rattle.hp_snippet.proofs.Moving.{can_move, can_move_one, moves_go, moves_perform, pack_names}
use Rattle.hp_exchange.specs.Ranges.{Copies, Delivers, MayAlign, MayBalance, MayGather, move_code}
use Rattle.hp_exchange.proofs.Receiving.{receives_blocks, receives_like, receives_whole}

-- ---- each rank gets what it needs

aligns : (array leader to : ℕ) → Delivers (MayAlign array leader to) (to ∷ []) (array ∷ []) (Like leader) (move_code (to ∷ []) (array ∷ []) (Like leader))
aligns array leader to code tables price s env h needs =
    let names = pack_names code (position_of s.ranks) (array ∷ []) (Like leader) h.stand.0 in
    moves_go code s.ranks env (to ∷ []) (array ∷ []) (Like leader)
    (can_move_one code s env to array (Like leader) h needs.movable
    (λ d named. receives_like code s.ranks env h.lays array leader to d named names.need h.some (columns_short code s.ranks env h.lays h.some array named needs.movable) needs.lies needs.same_length))
    (first_store code 0 1) tables price s.out h

balances : (array to : ℕ) → Delivers (MayBalance array to) (to ∷ []) (array ∷ []) Blocks (move_code (to ∷ []) (array ∷ []) Blocks)
balances array to code tables price s env h needs =
    moves_go code s.ranks env (to ∷ []) (array ∷ []) Blocks
    (can_move_one code s env to array Blocks h needs.movable
    (λ d named. receives_blocks (dist_at code.arrays to) code.arrays (get_or s.ranks 0 d).arrays (h.lays.arrays array named).columns (length s.ranks) h.some needs.lies))
    (first_store code 0 1) tables price s.out h

gathers : (arrays to : List ℕ) → length to ≡ length arrays → Delivers (MayGather arrays to) to arrays Whole (move_code to arrays Whole)
gathers arrays to same code tables price s env h needs =
    moves_go code s.ranks env to arrays Whole
    (can_move code s env to arrays Whole h needs.movable needs.once same
    (λ d j lt named.
    let in_to : j < length to = omega (arith, lt, same) in
    receives_whole (dist_at code.arrays (slice_index to j)) code.arrays (get_or s.ranks 0 d).arrays (h.lays.arrays (slice_index arrays j) named).columns (length s.ranks) (item_of (λ t. dist_at code.arrays t ≡ Rep) to needs.lies j in_to)))
    (first_store code 0 1) tables price s.out h

-- ---- of a list that is these instructions

pub align_delivers : (array leader to : ℕ) (list : List Instr) → list ≡ move_code (to ∷ []) (array ∷ []) (Like leader) → Delivers (MayAlign array leader to) (to ∷ []) (array ∷ []) (Like leader) list
align_delivers array leader to list e = subst (Delivers (MayAlign array leader to) (to ∷ []) (array ∷ []) (Like leader)) (sym e) (aligns array leader to)

pub list_aligns : (array leader to : ℕ) (list : List Instr) → list ≡ move_code (to ∷ []) (array ∷ []) (Like leader) → Copies (MayAlign array leader to) (to ∷ []) (array ∷ []) list
list_aligns array leader to list e =
    moves_perform (HasGot (to ∷ []) (array ∷ []) (Like leader)) (MayAlign array leader to) (copied (to ∷ []) (array ∷ [])) (arrays_alone (to ∷ [])) list (align_delivers array leader to list e)

pub balance_delivers : (array to : ℕ) (list : List Instr) → list ≡ move_code (to ∷ []) (array ∷ []) Blocks → Delivers (MayBalance array to) (to ∷ []) (array ∷ []) Blocks list
balance_delivers array to list e = subst (Delivers (MayBalance array to) (to ∷ []) (array ∷ []) Blocks) (sym e) (balances array to)

pub list_balances : (array to : ℕ) (list : List Instr) → list ≡ move_code (to ∷ []) (array ∷ []) Blocks → Copies (MayBalance array to) (to ∷ []) (array ∷ []) list
list_balances array to list e =
    moves_perform (HasGot (to ∷ []) (array ∷ []) Blocks) (MayBalance array to) (copied (to ∷ []) (array ∷ [])) (arrays_alone (to ∷ [])) list (balance_delivers array to list e)

pub gather_delivers : (arrays to : List ℕ) (list : List Instr) → length to ≡ length arrays → list ≡ move_code to arrays Whole → Delivers (MayGather arrays to) to arrays Whole list
gather_delivers arrays to list same e = subst (Delivers (MayGather arrays to) to arrays Whole) (sym e) (gathers arrays to same)

pub list_gathers : (arrays to : List ℕ) (list : List Instr) → length to ≡ length arrays → list ≡ move_code to arrays Whole → Copies (MayGather arrays to) to arrays list
list_gathers arrays to list same e = moves_perform (HasGot to arrays Whole) (MayGather arrays to) (copied to arrays) (arrays_alone to) list (gather_delivers arrays to list same e)

-- ---- what can be seen of them

pub move_straight : (to from : List ℕ) (need : Need) (list : List Instr) → list ≡ move_code to from need → IsStraight list
move_straight to from need list e = subst IsStraight (sym e) (record { leads = (refl, (refl, (refl, (refl, refl)))); jumps = (tt, (tt, (tt, (tt, tt)))); sizes = (tt, (tt, (tt, (tt, tt)))) })

pub move_shares : (to from : List ℕ) (need : Need) (list : List Instr) → list ≡ move_code to from need → (code : Code) → AllByRecursion (LeavesShared code) list
move_shares to from need list e code =
    subst (AllByRecursion (LeavesShared code)) (sym e)
    ((λ tables x y. next_shared code tables (instr.Pack (Move from need)) x y tt), ((λ tables x y. next_shared code tables (instr.Post false) x y tt), ((λ tables x y. next_shared code tables (instr.Take false) x y tt), (tt, tt))))

pub move_work : (to from : List ℕ) (need : Need) (list : List Instr) → list ≡ move_code to from need → IsWork 1 list
move_work to from need list e = subst (IsWork 1) (sym e) (record { few = omega arith; cheap = λ ranks. omega arith })
