-- The codes of copies carry them, whether each rank copies its own pieces or an array is dealt out in blocks.
use Rattle.std.proofs.Common.{◌≡◌, ◌∙◌, refl, sym, subst, ap, arith, inl, cond, Bool, true, false, not, ℕ, zero, suc, ◌*◌, ◌<◌, ◌≤◌, List, [], ◌∷◌, length, map, get_or, Some, None}
use Rattle.std.specs.Prelude.{◌&&◌, nat_lt, zip}
use Rattle.std.specs.Bool.{IsTrue}
use Rattle.std.specs.List.{All, AllZip, list_all}
use Rattle.std.proofs.lemmas.Bool.{and_parts, false≢true, ltb-true}
use Rattle.hp_word.specs.declared.order.Order.{Order}
use Rattle.hp_word.specs.declared.place.Place.{Place}
use Rattle.hp_word.specs.declared.table.Tables.{Tables}
use Rattle.hp_lattice.specs.declared.dist.Dist.{Dist}
use Rattle.hp_lattice.specs.declared.dist.Dist.TheVariants.{Rep, Var, Block}
use Rattle.hp_lattice.specs.Lattice.{is_below, raised}
use Rattle.hp_spmd.specs.declared.code.Code.{Code}
use Rattle.hp_spmd.specs.declared.instr.Instr.{Instr}
use Rattle.hp_spmd.specs.declared.instr.Need.TheVariants.{Blocks}
use Rattle.hp_spmd.specs.declared.store.Store.{Store}
use Rattle.hp_spmd.specs.Layout as layout
use Rattle.hp_spmd.specs.Layout.{Layout}
use Rattle.hp_spmd.specs.Scalars.{greatest_count}
use Rattle.hp_spmd.specs.Spread.{CopyAlike}
use Rattle.hp_spmd.specs.Store as store
use Rattle.hp_spmd.specs.Store.{piece_at}
use Rattle.hp_spmd.proofs.ShareCuts.{shared_at}
use Rattle.hp_air.specs.declared.slot.Slot.{Slot}
use Rattle.hp_air.specs.declared.what.What.TheVariants as what
use Rattle.hp_air.specs.Arrays as arrays
use Rattle.hp_air.specs.Arrays.{Copy}
use Rattle.hp_air.specs.Constraints.{LieAlike, copy_meets}
use Rattle.hp_air.specs.Frames.{slot_at}
use Rattle.hp_air.specs.Kept.{are_below, are_both, are_distinct, is_matrix}
use Rattle.hp_air.specs.Meaning.{does}
use Rattle.hp_air.specs.Placed.{dist_at}
use Rattle.hp_air.specs.Wholes as wholes
use Rattle.hp_air.specs.Wholes.{with_slots}
use Rattle.hp_parfor.specs.LoopMeaning.{is_replicated, is_var, part_does}
use Rattle.hp_parfor.specs.Parts.{Does as DoesPart}
use Rattle.hp_parfor.specs.PlacedParts.{OperationMeets, as_itself, as_stencil, is_dealt}
use Rattle.hp_parfor.specs.Talk.{Moves, dealt}
use Rattle.hp_snippet.specs.Holds.{IsCut}
use Rattle.hp_snippet.specs.Moves.{IsMovable, arrays_alone, columns_of, copied, with_wholes}
use Rattle.hp_snippet.specs.Promises.{IsRankOf}
use Rattle.hp_snippet.proofs.MoveParts.{columns_seen}
use Rattle.hp_alone.specs.Copying.{MayCopy, copy_code}
use Rattle.hp_alone.proofs.Copied.{copy_performs}
use Rattle.hp_exchange.specs.Ranges.{MayBalance, move_code}
use Rattle.hp_exchange.proofs.RangeMoves.{list_balances}
use Rattle.hp_lowering.specs.PartCode.{copied_or_dealt, part_code, whole_code}
use Rattle.hp_lowering.specs.Room.{Room, room_of}
use Rattle.hp_lowering.specs.Standing.{IsOf}
use Rattle.hp_lowering.proofs.CarriesLengths.{cells_counted}
use Rattle.hp_lowering.proofs.CarriedBy.{LieAsSlots, carried_by}
use Rattle.hp_lowering.proofs.CarriesWords.{IsCarried}
use Rattle.hp_lowering.proofs.Copies.{copy_is}
use Rattle.hp_lowering.proofs.SlotsWritten.{AreHeld, IsHeld, is_held, once_of, slots_written}

-- ---- what is copied is held

both_lists : (a b : Bool) → cond a b (not b) ≡ true → a ≡ false → b ≡ false
both_lists true b h plain = absurd (false≢true (sym plain))
both_lists false true h plain = absurd (false≢true h)
both_lists false false h plain = refl

module _ (slots : List Slot) (words : ℕ) where
  abbrev place : Room
  place = room_of slots words

  copied_held : (k x : ℕ) (w : wholes.Whole) (v : layout.Whole) → are_both slots (k, x) ≡ true → IsHeld place x w v → IsHeld place k w v
  copied_held k x w v both h = record { same = h.same; short = h.short; array = λ plain. h.array (both_lists (is_matrix slots k) (is_matrix slots x) both plain) }

  pub copies_held : (outs ins : List ℕ) (e : wholes.Env) (f : layout.Env) → length outs ≡ length ins → are_below (length slots) ins ≡ true → list_all (are_both slots) (zip outs ins) ≡ true → IsOf place e f
      → AreHeld place outs (map e.slots ins) (map f.arrays ins)
  copies_held [] ins e f same below both h = tt
  copies_held (k ∷ outs) [] e f same below both h = absurd (omega (arith, same))
  copies_held (k ∷ outs) (x ∷ ins) e f same below both h =
      let first = and_parts (nat_lt x (length slots)) (are_below (length slots) ins) below in
      let pair = and_parts (are_both slots (k, x)) (list_all (are_both slots) (zip outs ins)) both in
      let less : length outs ≡ length ins = omega (arith, same) in
      (copied_held k x (e.slots x) (f.arrays x) pair.0 (is_held place e f h x (ltb-true x (length slots) first.0)), copies_held outs ins e f less first.1 pair.1 h)

-- ---- how copies lie

-- each out lies as its in
lie_alike : (ds : List Dist) (d : ℕ → Dist) (count : ℕ) (outs ins : List ℕ) → ((k : ℕ) → k < count → store.dist_at ds k ≡ d k) → are_below count outs ≡ true → are_below count ins ≡ true → AllZip (LieAlike d) outs ins → CopyAlike ds outs ins
lie_alike ds d count [] ins same below there h = tt
lie_alike ds d count (k ∷ outs) [] same below there h = tt
lie_alike ds d count (k ∷ outs) (x ∷ ins) same below there h =
    let out = and_parts (nat_lt k count) (are_below count outs) below in
    let in_ = and_parts (nat_lt x count) (are_below count ins) there in
    (inl (same k (ltb-true k count out.0) ∙ h.0 ∙ sym (same x (ltb-true x count in_.0))), lie_alike ds d count outs ins same out.1 in_.1 h.1)

-- a copy that is no balanced one is no exchange
none_sent : (alone : Bool) (outs ins : List ℕ) → copied_or_dealt (cond alone [] []) outs ins ≡ copy_code outs ins
none_sent true outs ins = refl
none_sent false outs ins = refl

plain_copy : (slots : List Slot) (d : ℕ → Dist) (alone : Bool) (outs ins : List ℕ) → is_dealt slots (Copy outs ins) ≡ false → copied_or_dealt (cond alone [] (dealt slots d outs ins)) outs ins ≡ copy_code outs ins
plain_copy slots d alone [] ins h = none_sent alone [] ins
plain_copy slots d alone (k ∷ []) [] h = none_sent alone (k ∷ []) []
plain_copy slots d alone (k ∷ []) (x ∷ []) h = ap (λ b. copied_or_dealt (cond alone [] (cond (b && is_var (d x)) (Moves (x ∷ []) Blocks ∷ []) [])) (k ∷ []) (x ∷ [])) h ∙ none_sent alone (k ∷ []) (x ∷ [])
plain_copy slots d alone (k ∷ []) (x ∷ y ∷ ins) h = none_sent alone (k ∷ []) (x ∷ y ∷ ins)
plain_copy slots d alone (k ∷ j ∷ outs) ins h = none_sent alone (k ∷ j ∷ outs) ins

-- ---- an array that can be moved

few_columns : (rows columns cells : ℕ) → 1 ≤ rows → cells ≡ rows * columns → columns ≤ cells
few_columns zero columns cells some e = absurd (omega (arith, some))
few_columns (suc r) columns cells some e = omega (arith, e)

within_both : (a b c most : ℕ) → a ≡ b → b ≤ c → c ≤ most → a ≤ most
within_both a b c most e f g = omega (arith, e, f, g)

-- an array in pieces that is no longer than counts go
pub can_move : (code : Code) (n : ℕ) (ranks : List Store) (env : layout.Env) (l : Layout code ranks env) (k : ℕ) → k < length code.arrays → 1 ≤ length ranks → All (IsRankOf code n) ranks → IsCut (store.dist_at code.arrays k)
    → length (env.arrays k).cells ≤ greatest_count → IsMovable code ranks k
can_move code n ranks env l k lt some each cut within =
    record {
      cut = cut;
      short = λ i d li.
          let x = get_or ranks i d in
          let rank = each i d li in
          let shared = shared_at code.arrays x.ranks x.number x.arrays k rank.placed.shared lt in
          let one = shared.some in
          let same = ((l.arrays k lt).held i d li).rows_are in
          let rows : 1 ≤ (env.arrays k).rows = omega (arith, one, same) in
          within_both (columns_of (piece_at x.arrays k)) (l.arrays k lt).columns (length (env.arrays k).cells) greatest_count (columns_seen code ranks env l some k lt i d li)
          (few_columns (env.arrays k).rows (l.arrays k lt).columns (length (env.arrays k).cells) rows (l.arrays k lt).size) within;
    }

-- ---- copies

module _ (slots : List Slot) (words : ℕ) (dists : List Dist) (code : Code) (tables : Tables) (n : ℕ) (orders : List Order) (at : Place) where
  abbrev room : Room
  room = room_of slots words

  abbrev Copied : (outs ins : List ℕ) → Type 0
  Copied outs ins = IsCarried slots words dists code tables n orders (DoesPart (record { at = at; what = what.Copy outs ins }))

  abbrev its_code : (outs ins : List ℕ) → List Instr
  its_code outs ins = part_code room slots (dist_at dists) (DoesPart (record { at = at; what = what.Copy outs ins }))

  -- what a copy makes
  made_so : (outs ins : List ℕ) (e : wholes.Env) (f : layout.Env) → are_distinct outs ≡ true → length outs ≡ length ins → are_below (length slots) ins ≡ true → list_all (are_both slots) (zip outs ins) ≡ true → IsOf room e f
      → IsOf room (with_slots outs (map e.slots ins) e) (with_wholes outs (map f.arrays ins) f)
  made_so outs ins e f once same below both h = slots_written room outs (map e.slots ins) (map f.arrays ins) e f (once_of outs once) (copies_held slots words outs ins e f same below both h) h

  -- each rank copies its own pieces
  plain_carried : (outs ins : List ℕ) → its_code outs ins ≡ copy_code outs ins → CopyAlike code.arrays outs ins → are_distinct outs ≡ true → length outs ≡ length ins → are_below (length slots) ins ≡ true → list_all (are_both slots) (zip outs ins) ≡ true → Copied outs ins
  unfolding part_does does
  plain_carried outs ins is alike once same below both =
      carried_by slots words dists code tables n orders (DoesPart (record { at = at; what = what.Copy outs ins })) (copy_code outs ins) is (arrays_alone outs) (MayCopy outs ins) (copied outs ins) (copy_performs outs ins (copy_code outs ins) refl)
      (λ s e h stand. record { once = once_of outs once; same = same; alike = alike })
      (λ s e h. record { text = refl; is = made_so outs ins e h.env once same below both h.is; executed = refl; bad = refl })

  -- an array is dealt out in blocks
  dealt_carried : (k x : ℕ) → its_code (k ∷ []) (x ∷ []) ≡ move_code (k ∷ []) (x ∷ []) Blocks → x < length code.arrays → x < length slots → IsCut (store.dist_at code.arrays x) → IsCut (store.dist_at code.arrays k) → are_below (length slots) (x ∷ []) ≡ true
      → list_all (are_both slots) (zip (k ∷ []) (x ∷ [])) ≡ true → Copied (k ∷ []) (x ∷ [])
  unfolding part_does does
  dealt_carried k x is there lt from to below both =
      carried_by slots words dists code tables n orders (DoesPart (record { at = at; what = what.Copy (k ∷ []) (x ∷ []) })) (move_code (k ∷ []) (x ∷ []) Blocks) is (arrays_alone (k ∷ [])) (MayBalance x k) (copied (k ∷ []) (x ∷ []))
      (list_balances x k (move_code (k ∷ []) (x ∷ []) Blocks) refl)
      (λ s e h stand.
      let some = h.some in
      let count = h.count in
      record { movable = can_move code n s.ranks h.env h.lays x there (omega (arith, some, count)) h.each from (cells_counted room x e h.env h.is lt); lies = to })
      (λ s e h. record { text = refl; is = made_so (k ∷ []) (x ∷ []) e h.env refl refl below both h.is; executed = refl; bad = refl })

  -- ---- which of both

  abbrev d : ℕ → Dist
  d = dist_at dists

  cut_as : (a b : Dist) → a ≡ b → IsCut b → IsCut a
  cut_as a b e h = subst IsCut (sym e) h

  -- a copy to a balanced copy, whichever way the array lies
  to_balanced : (k x : ℕ) (from to : Dist) → d x ≡ from → d k ≡ to → LieAsSlots slots dists code → (slot_at slots k).balanced ≡ true → k < length slots → x < length slots → IsTrue (is_below to (raised from)) → IsTrue (is_below from (raised to))
      → are_below (length slots) (x ∷ []) ≡ true → list_all (are_both slots) (zip (k ∷ []) (x ∷ [])) ≡ true → Copied (k ∷ []) (x ∷ [])
  unfolding part_code whole_code arrays.arrays_of arrays.outs arrays.sides
  to_balanced k x Rep Rep p q like bal lk lx up down below both =
      plain_carried (k ∷ []) (x ∷ []) (copy_is slots d (k ∷ []) (x ∷ []) None (rw (bal, p) refl)) (inl (like.lies k lk ∙ q ∙ sym (like.lies x lx ∙ p)), tt) refl refl below both
  to_balanced k x Rep Var p q like bal lk lx up down below both = absurd (false≢true up)
  to_balanced k x Rep Block p q like bal lk lx up down below both = absurd (false≢true up)
  to_balanced k x Block Block p q like bal lk lx up down below both =
      plain_carried (k ∷ []) (x ∷ []) (copy_is slots d (k ∷ []) (x ∷ []) None (rw (bal, p) refl)) (inl (like.lies k lk ∙ q ∙ sym (like.lies x lx ∙ p)), tt) refl refl below both
  to_balanced k x Block Rep p q like bal lk lx up down below both = absurd (false≢true down)
  to_balanced k x Block Var p q like bal lk lx up down below both = absurd (like.even k lk bal q)
  to_balanced k x Var Rep p q like bal lk lx up down below both = absurd (false≢true down)
  to_balanced k x Var Var p q like bal lk lx up down below both = absurd (like.even k lk bal q)
  to_balanced k x Var Block p q like bal lk lx up down below both =
      let there = like.there in
      dealt_carried k x (copy_is slots d (k ∷ []) (x ∷ []) (Some (k, x)) (rw (bal, p) refl)) (omega (arith, there, lx)) lx (cut_as (store.dist_at code.arrays x) Var (like.lies x lx ∙ p) tt) (cut_as (store.dist_at code.arrays k) Block (like.lies k lk ∙ q) tt) below both

  below_one : (k count : ℕ) → are_below count (k ∷ []) ≡ true → k < count
  below_one k count h = ltb-true k count (and_parts (nat_lt k count) true h).0

  pub copy_carried : (outs ins : List ℕ) → LieAsSlots slots dists code → OperationMeets slots d (Copy outs ins) → are_below (length slots) outs ≡ true → are_below (length slots) ins ≡ true → are_distinct outs ≡ true → length outs ≡ length ins
      → list_all (are_both slots) (zip outs ins) ≡ true → Copied outs ins
  unfolding part_code whole_code
  copy_carried outs ins like (as_itself plain (copy_meets same_dists)) outs_there ins_there once same both =
      plain_carried outs ins (plain_copy slots d (is_replicated d (DoesPart (record { at = at; what = what.Copy outs ins }))) outs ins plain) (lie_alike code.arrays d (length slots) outs ins like.lies outs_there ins_there same_dists) once same ins_there both
  copy_carried outs ins like (as_stencil {k = k} {x = x} bal up down values) outs_there ins_there once same both =
      to_balanced k x (d x) (d k) refl refl like bal (below_one k (length slots) outs_there) (below_one x (length slots) ins_there) up down ins_there both
