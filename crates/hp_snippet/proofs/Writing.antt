-- A piece of code by which rank 0 writes, of which nothing can trap.
use Rattle.std.proofs.Common.{◌≡◌, ◌∙◌, refl, sym, subst, ap, arith, ℕ, suc, ◌+◌, ◌≤◌, List, [], ◌∷◌, ◌++◌, map, length, true}
use Rattle.std.specs.List.{All, AllZip}
use Rattle.std.specs.Prelude.{slice_index_or}
use Rattle.hp_word.specs.declared.table.Tables.{Tables}
use Rattle.hp_lattice.specs.declared.dist.Dist.{Dist}
use Rattle.hp_spmd.specs.declared.code.Code.{Code}
use Rattle.hp_spmd.specs.declared.instr.Instr.TheVariants as instr
use Rattle.hp_spmd.specs.declared.instr.Output.{Output}
use Rattle.hp_spmd.specs.declared.instr.Packing.{Packing}
use Rattle.hp_spmd.specs.declared.instr.Packing.TheVariants.{Gather}
use Rattle.hp_spmd.specs.declared.store.Store.{Store}
use Rattle.hp_spmd.specs.Exchange.{written}
use Rattle.hp_spmd.specs.Kinds.{Kind, Packs, PostsRoot, TakesRoot, Writes}
use Rattle.hp_spmd.specs.Local.{pack_done}
use Rattle.hp_spmd.specs.Lockstep.{State, state, delivered_to_root, position_of}
use Rattle.hp_spmd.specs.Next.{moved}
use Rattle.hp_spmd.specs.Store.{instr_at}
use Rattle.hp_spmd.specs.Layout.{Env}
use Rattle.hp_snippet.specs.Exchanging.{IsWriting, mail_for, once_packed, once_posted_to_root, once_taken_at_root}
use Rattle.hp_snippet.specs.Outcomes.{Went}
use Rattle.hp_snippet.specs.Promises.{IsRankOf, IsSound, Slots, StandBefore, StandBehind, Stays, price_of}
use Rattle.hp_snippet.proofs.Exchanges.{packed_place, root_posted_place, root_taken_place, map_some, place_on, write_leads}
use Rattle.hp_snippet.proofs.Keeping.{word_stays, words_layout, zip_map}
use Rattle.hp_snippet.proofs.Performing.{agree_at, all_map, rank_same, sound_behind}

-- a rank behind an output
abbrev pub written_by : List Dist → Packing → List Store → Store → Store
written_by dists what ranks x = moved (moved (delivered_to_root (once_packed dists what ranks) (pack_done dists what x)))

maps_join : (f g h j : Store → Store) (xs : List Store) → map f (map g (map h (map j xs))) ≡ map (λ x. f (g (h (j x)))) xs
maps_join f g h j [] = refl
maps_join f g h j (x ∷ xs) = ap (λ ys. f (g (h (j x))) ∷ ys) (maps_join f g h j xs)

root_packed : (code : Code) (n : ℕ) (what : Packing) (xs : List Store) → All (IsRankOf code n) xs → All (IsRankOf code n) (once_packed code.arrays what xs)
unfolding pack_done
root_packed code n what xs h = all_map (IsRankOf code n) (IsRankOf code n) (pack_done code.arrays what) (λ x h. rank_same code n x (pack_done code.arrays what x) refl refl refl refl refl h) xs h

root_posted : (code : Code) (n : ℕ) (what : Packing) (xs : List Store) → All (IsRankOf code n) xs → All (IsRankOf code n) (once_posted_to_root code.arrays what xs)
root_posted code n what xs h =
    let sent = once_packed code.arrays what xs in
    all_map (IsRankOf code n) (IsRankOf code n) (delivered_to_root sent) (λ x h. rank_same code n x (delivered_to_root sent x) refl refl refl refl refl h) sent (root_packed code n what xs h)

root_taken : (code : Code) (n : ℕ) (what : Packing) (xs : List Store) → All (IsRankOf code n) xs → All (IsRankOf code n) (once_taken_at_root code.arrays what xs)
root_taken code n what xs h =
    all_map (IsRankOf code n) (IsRankOf code n) moved (λ x h. rank_same code n x (moved x) refl refl refl refl refl h) (once_posted_to_root code.arrays what xs) (root_posted code n what xs h)

root_behind : (code : Code) (n : ℕ) (what : Packing) (xs : List Store) → All (IsRankOf code n) xs → All (IsRankOf code n) (map moved (once_taken_at_root code.arrays what xs))
root_behind code n what xs h =
    all_map (IsRankOf code n) (IsRankOf code n) moved (λ x h. rank_same code n x (moved x) refl refl refl refl refl h) (once_taken_at_root code.arrays what xs) (root_taken code n what xs h)

behind_place : (dists : List Dist) (what : Packing) (ranks : List Store) → 1 ≤ length ranks → position_of (map moved (once_taken_at_root dists what ranks)) ≡ position_of ranks + 4
behind_place dists what ranks some =
    let sent = once_packed dists what ranks in
    let posted = once_posted_to_root dists what ranks in
    let four : suc (suc (suc (suc (position_of ranks)))) ≡ position_of ranks + 4 = omega arith in
    place_on moved (λ x. refl) (once_taken_at_root dists what ranks) (map_some moved posted (map_some (delivered_to_root sent) sent (map_some (pack_done dists what) ranks some)))
    ∙ ap suc (root_taken_place dists what ranks some) ∙ four

-- a rank behind it has all that it had
abbrev nothing : Slots
nothing = record { words = []; arrays = []; loose = [] }

behind_stays : (dists : List Dist) (what : Packing) (ranks : List Store) (x : Store) → Stays nothing x (written_by dists what ranks x)
unfolding pack_done
behind_stays dists what ranks x = record { number = refl; ranks_are = refl; words = λ w apart. refl; arrays = λ k apart. refl; loose = λ k apart. refl; executed = refl; log = refl }

all_stay : (dists : List Dist) (what : Packing) (ranks : List Store) → AllZip (Stays nothing) ranks (map moved (once_taken_at_root dists what ranks))
all_stay dists what ranks =
    let sent = once_packed dists what ranks in
    subst (AllZip (Stays nothing) ranks) (sym (maps_join moved moved (delivered_to_root sent) (pack_done dists what) ranks))
    (zip_map (Stays nothing) (written_by dists what ranks) ranks (λ k d lt. behind_stays dists what ranks (slice_index_or ranks k d)))

-- An output goes to its end, whatever it is: the ranks stand for what they stood for, and rank 0 has written what it makes of
-- the messages that all packed for it.
pub output_went : (code : Code) (tables : Tables) (price : Kind → ℕ) (what : Output) (s : State) (env : Env) (text : List ℕ)
    → StandBefore code (instr.Pack (Gather what) ∷ instr.Post true ∷ instr.Take true ∷ instr.Write what ∷ []) s env
    → written what (mail_for code.arrays (Gather what) s.ranks 0) ≡ text
    → Went code tables price (IsSound code tables (length s.ranks) (position_of s.ranks + 4)) (λ t. Unit {0}) Env (StandBehind code (record { words = []; arrays = []; loose = [] }) s.ranks)
    4 (price_of price (instr.Pack (Gather what) ∷ instr.Post true ∷ instr.Take true ∷ instr.Write what ∷ [])) (position_of s.ranks + 4) s (record { env = env; text = text })
output_went code tables price what s env text h same =
    let ranks = s.ranks in
    let n = length ranks in
    let ds = code.arrays in
    let until = position_of ranks + 4 in
    let packing = Gather what in
    let is : IsWriting code (position_of ranks) what = record { packs = h.stand.0; posts = h.stand.1.0; takes = h.stand.1.1.0; writes = h.stand.1.1.1.0 } in
    let last = map moved (once_taken_at_root ds packing ranks) in
    let out = s.out ++ written what (mail_for ds packing ranks 0) in
    let at = behind_place ds packing ranks h.some in
    let stays = all_stay ds packing ranks in
    record {
      count = 4;
      cost = price (Packs packing) + (price PostsRoot + (price TakesRoot + price (Writes what)));
      to = state last out;
      leads = write_leads code tables price (IsSound code tables n until) what ranks s.out h.some h.lays.numbers is
          (record {
            first = record { each = h.each; agree = λ lt. agree_at code tables (instr.Pack packing) ranks is.packs tt };
            packed = record { each = root_packed code n packing ranks h.each; agree = λ lt. agree_at code tables (instr.Post true) (once_packed ds packing ranks) (ap (instr_at code.list) (packed_place ds packing ranks h.some) ∙ is.posts) tt };
            posted = record { each = root_posted code n packing ranks h.each; agree = λ lt. agree_at code tables (instr.Take true) (once_posted_to_root ds packing ranks) (ap (instr_at code.list) (root_posted_place ds packing ranks h.some) ∙ is.takes) tt };
            taken = record { each = root_taken code n packing ranks h.each; agree = λ lt. agree_at code tables (instr.Write what) (once_taken_at_root ds packing ranks) (ap (instr_at code.list) (root_taken_place ds packing ranks h.some) ∙ is.writes) tt };
          })
          (sound_behind code tables n until (state last out) (root_behind code n packing ranks h.each) at);
      count_within = omega arith;
      cost_within = omega arith;
      place = at;
      out = ap (λ t. s.out ++ t) same;
      stands = λ t. record {
        lays = words_layout code nothing ranks last env env refl stays h.lays refl (λ w value e. word_stays code nothing ranks last env stays h.lays w value tt e);
        stays = stays;
      };
    }
