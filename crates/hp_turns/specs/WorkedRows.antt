-- A code with two exchanges on two ranks, under two orders of turns.
use Rattle.std.specs.Prelude.{◌≡◌, ℕ, pos, List, [], ◌∷◌, ◌++◌, false, true, replicate, refl}
use Rattle.std.specs.Fmt as fmt
use Rattle.std.specs.Int.{int_wrap}
use Rattle.std.proofs.Common.{arith, lit<}
use Rattle.hp_word.specs.declared.fold.FoldKind.TheVariants.{Sum}
use Rattle.hp_word.specs.declared.order.Order.{Order}
use Rattle.hp_word.specs.declared.order.RowPlace.{RowPlace}
use Rattle.hp_word.specs.declared.table.Tables.{Tables}
use Rattle.hp_network.specs.Network as network
use Rattle.hp_network.specs.Network.{rounds}
use Rattle.hp_network.specs.Rows.{at_most, unbounded}
use Rattle.hp_spmd.specs.declared.code.Code.{Code}
use Rattle.hp_spmd.specs.declared.instr.Instr.TheVariants as instr
use Rattle.hp_spmd.specs.declared.instr.Output.TheVariants as output
use Rattle.hp_spmd.specs.declared.instr.Packing.TheVariants.{Words, Gather}
use Rattle.hp_spmd.specs.declared.instr.Unpacking.TheVariants.{Folds}
use Rattle.hp_spmd.specs.Act as act
use Rattle.hp_spmd.specs.Lockstep.{first_state}
use Rattle.hp_spmd.specs.Local.{pack_done}
use Rattle.hp_spmd.specs.Exchange.{packed, unpacked, written}
use Rattle.hp_spmd.specs.Scalars.{const_data}
use Rattle.hp_spmd.specs.Store.{first_store}
use Rattle.hp_turns.specs.Turns.{run, numbers_of, places_for, budget}

-- each rank has the word 1; the sum of these is written
abbrev sums : Code
sums =
    record {
      list =
          instr.Const 0 (pos 1) ∷ instr.Pack (Words (0 ∷ [])) ∷ instr.Post false ∷ instr.Take false ∷ instr.Unpack (Folds ((0, Sum) ∷ [])) ∷ instr.Pack (Gather (output.Word 0 false)) ∷ instr.Post true ∷ instr.Take true ∷ instr.Write (output.Word 0 false) ∷ instr.Halt ∷ [];
      words = 1;
      arrays = [];
      loose = 0;
      small = lit< tt;
      ends = refl;
      within = refl;
      targets = refl;
    }

abbrev none : Tables
none = record { list = [] }

-- rank 1 as far as it comes, then rank 0, and so on
abbrev one_first : List ℕ
one_first = replicate 12 1 ++ replicate 12 0 ++ replicate 12 1 ++ replicate 12 0

-- both orders end with the sum of the two words
orders_row : ((run sums none unbounded 2 (rounds 2 12)).out ≡ 50 ∷ 10 ∷ []) × ((run sums none unbounded 2 one_first).out ≡ 50 ∷ 10 ∷ [])
unfolding network.run network.turn act.act first_state first_store pack_done packed unpacked written const_data int_wrap fmt.digits
orders_row = (refl, refl)

-- with room for one message in each queue, too
room_row : ((run sums none (at_most 1 (omega arith)) 2 one_first).out ≡ 50 ∷ 10 ∷ [])
unfolding network.run network.turn act.act first_state first_store pack_done packed unpacked written const_data int_wrap fmt.digits
room_row = refl

-- rank 0 takes two messages at the root and rank 1 none; each posts its word to both, and rank 0 the sum to itself
counts_row : (run sums none unbounded 2 one_first).counts ≡ record { moves = 12; words = 3; peak = 0 } ∷ record { moves = 11; words = 2; peak = 0 } ∷ []
unfolding network.run network.turn act.act first_state first_store pack_done packed unpacked written const_data int_wrap fmt.digits
counts_row = refl

-- ---- kept orders

abbrev order : ℕ → List RowPlace → Order
order number places = record { number = number; places = places }

abbrev place : ℕ → ℕ → RowPlace
place left right = record { left = left; right = right }

-- of the logs of two ranks, one after the other
kept_row : numbers_of (order 2 (place 4 1 ∷ []) ∷ order 1 [] ∷ order 2 (place 3 5 ∷ []) ∷ []) ≡ 1 ∷ 2 ∷ []
kept_row = refl

places_row : places_for 2 (order 2 (place 4 1 ∷ []) ∷ order 1 [] ∷ order 2 (place 3 5 ∷ []) ∷ []) ≡ place 4 1 ∷ place 3 5 ∷ []
places_row = refl

budget_row : budget 3 2 ≡ 2560
budget_row = refl
