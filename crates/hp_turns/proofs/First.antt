-- Before the first turn.
use Rattle.std.proofs.Common.{◌≡◌, ◌∙◌, refl, sym, subst, ap, arith, ℕ, zero, suc, ◌+◌, ◌<◌, List, [], ◌∷◌, length, Some, slice_get}
use Rattle.std.specs.List.{range_with_len}
use Rattle.std.proofs.lemmas.List.{length-map, length-replicate}
use Rattle.hp_network.proofs.Worlds.{World}
use Rattle.hp_network.proofs.States.{IsOf}
use Rattle.hp_spmd.specs.declared.code.Code.{Code}
use Rattle.hp_spmd.specs.declared.instr.Instr.{Instr}
use Rattle.hp_spmd.specs.declared.store.Store.{Store}
use Rattle.hp_spmd.specs.Exchanges.{Outside, HasForm, LeadsPhase, wants}
use Rattle.hp_spmd.specs.Kinds.{kind_of}
use Rattle.hp_spmd.specs.Lockstep.{first_state}
use Rattle.hp_spmd.specs.Store.{instr_at, first_store, no_message}
use Rattle.hp_turns.specs.Turns.{start}
use Rattle.hp_turns.proofs.Acts.{IsRankOf}
use Rattle.hp_turns.proofs.Stages.{get_map}
use Rattle.hp_turns.proofs.Tied.{expects, IsAt, MailTo, At}

-- nothing is done yet
pub first_world : Code → ℕ → World Store
first_world code n r = record { now = first_store code r n; sent = λ k. []; took = λ k. 0; wrote = []; moves = 0 }

get_range : (k a r : ℕ) → r < k → slice_get (range_with_len a k) r ≡ Some (a + r)
get_range zero a r lt = absurd (omega (arith, lt))
get_range (suc k) a zero lt = let e : a ≡ a + zero = omega arith in ap Some e
get_range (suc k) a (suc r) lt = let e : a + 1 + r ≡ a + suc r = omega arith in get_range k (a + 1) r (omega (arith, lt)) ∙ ap Some e

length_range : (k a : ℕ) → length (range_with_len a k) ≡ k
length_range zero a = refl
length_range (suc k) a = ap suc (length_range k (a + 1))

first_get : (code : Code) (n r : ℕ) → r < n → slice_get (first_state code n).ranks r ≡ Some (first_store code r n)
unfolding first_state
first_get code n r lt = let e : 0 + r ≡ r = omega arith in get_map (λ k. first_store code k n) (range_with_len 0 n) r (0 + r) (get_range n 0 r lt) ∙ ap (λ k. Some (first_store code k n)) e

pub first_listed : (code : Code) (n r : ℕ) → r < n → slice_get (first_state code n).ranks r ≡ Some (first_world code n r).now
unfolding first_world
first_listed code n r lt = first_get code n r lt

pub first_count : (code : Code) (n : ℕ) → length (first_state code n).ranks ≡ n
unfolding first_state
first_count code n = length-map (range_with_len 0 n) (λ k. first_store code k n) ∙ length_range n 0

first_outside : (list : List Instr) → LeadsPhase Outside list Outside → wants (kind_of (instr_at list 0)) ≡ Outside
first_outside [] h = refl
first_outside (i ∷ is) h = sym h.0

first_at_place : (code : Code) (n r : ℕ) → IsAt n 0 r (first_store code r n)
unfolding first_store
first_at_place code n r =
    record { on = record { number_is = refl; ranks_are = refl; position_is = refl; outbox_has = length-replicate n no_message; inbox_has = length-replicate n no_message }; sent_is = refl; got_is = refl }

first_out : (code : Code) (n : ℕ) → (first_state code n).out ≡ []
unfolding first_state
first_out code n = refl

pub first_at : (code : Code) (n : ℕ) → HasForm code.list → At code n (first_state code n) (first_world code n)
unfolding first_world
first_at code n form =
    record {
      pos = 0;
      count = first_count code n;
      out = first_out code n;
      ranks = λ r lt. first_at_place code n r;
      mail = λ r lt. subst (λ p. MailTo n (first_state code n) (first_world code n) r (expects p r)) (sym (first_outside code.list form.leads)) (record { store = first_get code n r lt; empty = λ a la. refl });
    }

pub first_is : (code : Code) (n : ℕ) → IsOf n (IsRankOf n) (start code n) (first_world code n)
unfolding first_world
first_is code n =
    record {
      count = first_count code n;
      ranks = λ r lt. first_get code n r lt;
      queues = λ a b. refl;
      out = refl;
      sound = λ a b. omega arith;
      owned = λ r lt. let at = first_at_place code n r in record { number_is = at.on.number_is; ranks_are = at.on.ranks_are };
    }

pub first_moves : (code : Code) (n r : ℕ) → (first_world code n r).moves ≡ 0
unfolding first_world
first_moves code n r = refl
