-- That the instructions of a halo do what they promise.
use Rattle.std.proofs.Common.{◌≡◌, ◌∙◌, refl, sym, subst, ap, arith, false, ℕ, suc, ◌+◌, ◌-◌, ◌*◌, ◌<◌, ℤ, List, [], ◌∷◌, length, map, get_or, one-mul, Ok}
use Rattle.std.specs.Prelude.{nat_lt}
use Rattle.std.specs.List.{AllByRecursion, AllZip}
use Rattle.std.proofs.lemmas.Bool.{and_parts, ltb-true}
use Rattle.hp_spmd.specs.declared.code.Code.{Code}
use Rattle.hp_spmd.specs.declared.instr.Instr.{Instr}
use Rattle.hp_spmd.specs.declared.instr.Instr.TheVariants as instr
use Rattle.hp_spmd.specs.declared.instr.Need.TheVariants.{Wide}
use Rattle.hp_spmd.specs.declared.instr.Packing.TheVariants.{Move}
use Rattle.hp_spmd.specs.declared.instr.Unpacking.TheVariants.{Halo}
use Rattle.hp_spmd.specs.declared.store.Store.{Store}
use Rattle.hp_spmd.specs.Exchange.{unpacked}
use Rattle.hp_spmd.specs.Layout.{Env}
use Rattle.hp_spmd.specs.Lockstep.{position_of}
use Rattle.hp_spmd.specs.Needs.{block_span, need_span, widened}
use Rattle.hp_spmd.specs.Scalars.{piece_length}
use Rattle.hp_spmd.specs.Store.{data_of, first_store, kept, piece_at}
use Rattle.hp_spmd.specs.Unpacks.{cell_round, halo_data, joined_words, with_loose}
use Rattle.hp_spmd.proofs.ShareNext.{next_shared}
use Rattle.std.specs.List.{range_with_len}
use Rattle.hp_snippet.specs.Exchanging.{mail_for}
use Rattle.hp_snippet.specs.Promises.{IsStraight, IsWork, LeavesShared, StandBehind}
use Rattle.hp_snippet.proofs.Keeping.{zip_map}
use Rattle.hp_snippet.proofs.MoveParts.{IsMove, columns_short, joined_are, length_seen}
use Rattle.hp_snippet.proofs.Moving.{moves_perform, pack_names}
use Rattle.hp_snippet.proofs.Performing.{exchange_comes}
use Rattle.hp_snippet.proofs.Naming.{named_at}
use Rattle.hp_snippet.proofs.Performing.{behind}
use Rattle.hp_snippet.specs.Halos.{halo_of}
use Rattle.hp_exchange.specs.Halos.{HasHalo, Leaves, MayHalo, Surrounds, as_it_was, halo_code, loose_alone}
use Rattle.hp_exchange.proofs.Loosening.{data_loose, loose_each, loose_has, loose_lays, loose_stay}
use Rattle.hp_exchange.proofs.Surrounding.{halo_read}

-- a vector has as many cells as columns
pub vector_length : (rows columns n : ℕ) → rows ≡ 1 → n ≡ rows * columns → n ≡ columns
vector_length rows columns n one e = e ∙ ap (λ r. r * columns) one ∙ one-mul columns

-- a range of a vector by its places
pub vector_range : (rows a b : ℕ) (cells : List ℤ) → rows ≡ 1 → kept (rows * a) (rows * b) 0 cells ≡ kept a b 0 cells
vector_range rows a b cells one =
    ap (λ r. kept (r * a) (r * b) 0 cells) one ∙ ap (λ n. kept n (1 * b) 0 cells) (one-mul a) ∙ ap (λ n. kept a n 0 cells) (one-mul b)

-- a rank makes its halo of the messages
halo_made : (code : Code) (ranks : List Store) (env : Env) (array reach to : ℕ) → IsMove code ranks env (array ∷ []) (Wide reach) → (env.arrays array).rows ≡ 1 → (i : ℕ) (d : Store) → i < length ranks
    → (let x = get_or ranks i d in
    unpacked code.arrays (Halo to array reach) x.number x.ranks (mail_for code.arrays (Move (array ∷ []) (Wide reach)) ranks x.number) (data_of x) ≡ Ok (with_loose to (halo_of reach (env.arrays array).cells x.number x.ranks) (data_of x)))
unfolding unpacked halo_data need_span
halo_made code ranks env array reach to m vector i d li =
    let x = get_or ranks i d in
    let whole = env.arrays array in
    let laid = m.lays.arrays array m.named.0 in
    let inbox = mail_for code.arrays (Move (array ∷ []) (Wide reach)) ranks x.number in
    let size : length whole.cells ≡ laid.columns = vector_length whole.rows laid.columns (length whole.cells) vector laid.size in
    let len : piece_length (piece_at x.arrays array) ≡ length whole.cells = length_seen code ranks env m.lays m.some array m.named.0 (columns_short code ranks env m.lays m.some array m.named.0 m.movable.0) i d li ∙ sym size in
    let read = λ (n : ℕ). (let block = block_span x.number n x.ranks in map (λ k. cell_round reach n (block.from - reach) (joined_words inbox) (block.from + k)) (range_with_len 0 (block.until - block.from + 2 * reach))) in
    let range = λ (n : ℕ). widened reach n (block_span x.number n x.ranks) in
    let got : joined_words inbox ≡ kept (range (length whole.cells)).from (range (length whole.cells)).until 0 whole.cells = (
    joined_are code ranks env array (Wide reach) m i d li
    ∙ ap (λ n. kept (whole.rows * (range n).from) (whole.rows * (range n).until) 0 whole.cells) len
    ∙ vector_range whole.rows (range (length whole.cells)).from (range (length whole.cells)).until whole.cells vector
    ) in
    ap (λ n. Ok (with_loose to (read n) (data_of x))) len
    ∙ ap (λ l. Ok (with_loose to l (data_of x))) (halo_read reach x.number x.ranks whole.cells (joined_words inbox) got)

surrounds : (array reach to : ℕ) → Surrounds array reach to (halo_code array reach to)
surrounds array reach to code tables price s env h needs =
    let ranks = s.ranks in
    let what = Move (array ∷ []) (Wide reach) in
    let names = pack_names code (position_of ranks) (array ∷ []) (Wide reach) h.stand.0 in
    let m : IsMove code ranks env (array ∷ []) (Wide reach) = record { some = h.some; lays = h.lays; named = names.arrays; movable = (needs.movable, tt); need_named = names.need } in
    let cells = λ (x : Store). halo_of reach (env.arrays array).cells x.number x.ranks in
    let tests = named_at code (suc (suc (suc (position_of ranks)))) (instr.Unpack (Halo to array reach)) h.stand.1.1.1.0 in
    let there = ltb-true to code.loose (and_parts (nat_lt to code.loose) (nat_lt array (length code.arrays)) tests).0 in
    let d = first_store code 0 1 in
    let turned = behind code.arrays what ranks (data_loose code ranks env what to cells) in
    exchange_comes code tables price what (Halo to array reach) s env env (λ t after. StandBehind code (loose_alone to) ranks t after × AllZip (HasHalo array reach to code env) ranks t.ranks) (data_loose code ranks env what to cells) h
    (λ i e li. halo_made code ranks env array reach to m needs.vector i e li)
    (loose_each code ranks env what to cells (length ranks) h.each) (
      record { lays = loose_lays code ranks env what to cells h.lays; stays = loose_stay code ranks env what to cells },
      zip_map (HasHalo array reach to code env) turned ranks (λ i e li. loose_has code ranks env what to cells (length ranks) (get_or ranks i e) there (h.each i e li)),
    )

-- ---- of a list that is these instructions

pub halo_surrounds : (array reach to : ℕ) (list : List Instr) → list ≡ halo_code array reach to → Surrounds array reach to list
halo_surrounds array reach to list e = subst (Surrounds array reach to) (sym e) (surrounds array reach to)

pub halo_leaves : (array reach to : ℕ) (list : List Instr) → list ≡ halo_code array reach to → Leaves array to list
halo_leaves array reach to list e = moves_perform (HasHalo array reach to) (MayHalo array) as_it_was (loose_alone to) list (halo_surrounds array reach to list e)

pub halo_straight : (array reach to : ℕ) (list : List Instr) → list ≡ halo_code array reach to → IsStraight list
halo_straight array reach to list e = subst IsStraight (sym e) (record { leads = (refl, (refl, (refl, (refl, refl)))); jumps = (tt, (tt, (tt, (tt, tt)))); sizes = (tt, (tt, (tt, (tt, tt)))) })

pub halo_shares : (array reach to : ℕ) (list : List Instr) → list ≡ halo_code array reach to → (code : Code) → AllByRecursion (LeavesShared code) list
halo_shares array reach to list e code =
    subst (AllByRecursion (LeavesShared code)) (sym e)
    ((λ tables x y. next_shared code tables (instr.Pack (Move (array ∷ []) (Wide reach))) x y tt), ((λ tables x y. next_shared code tables (instr.Post false) x y tt), ((λ tables x y. next_shared code tables (instr.Take false) x y tt), (tt, tt))))

pub halo_work : (array reach to : ℕ) (list : List Instr) → list ≡ halo_code array reach to → IsWork 1 list
halo_work array reach to list e = subst (IsWork 1) (sym e) (record { few = omega arith; cheap = λ ranks. omega arith })
