-- Prices, mail and ranges, in small cases that compute.
use Rattle.std.specs.Prelude.{◌≡◌, refl, ℕ, ℤ, pos, List, [], ◌∷◌, false, flat_map}
use Rattle.std.specs.Int.{int_wrap}
use Rattle.std.proofs.Common.{lit<}
use Rattle.hp_word.specs.declared.fold.FoldKind.TheVariants.{Sum}
use Rattle.hp_word.specs.declared.table.Tables.{Tables}
use Rattle.hp_lattice.specs.declared.dist.Dist.TheVariants.{Var}
use Rattle.hp_spmd.specs.declared.code.Code.{Code}
use Rattle.hp_spmd.specs.declared.instr.Instr.TheVariants as instr
use Rattle.hp_spmd.specs.declared.instr.Packing.TheVariants.{Words}
use Rattle.hp_spmd.specs.declared.instr.Unpacking.TheVariants.{Folds}
use Rattle.hp_spmd.specs.declared.store.Piece.{Piece}
use Rattle.hp_spmd.specs.declared.store.Store.{Store}
use Rattle.hp_spmd.specs.Exchange.{packed, unpacked}
use Rattle.hp_spmd.specs.Kinds.{Kind, Posts}
use Rattle.hp_spmd.specs.Local.{pack_done}
use Rattle.hp_spmd.specs.Lockstep.{first_state, step}
use Rattle.hp_spmd.specs.Messages.{message_of}
use Rattle.hp_spmd.specs.Needs.{span}
use Rattle.hp_spmd.specs.Packs.{cells_in}
use Rattle.hp_spmd.specs.Scalars.{const_data}
use Rattle.hp_spmd.specs.Store.{first_store, no_message, piece_at}
use Rattle.hp_snippet.specs.Exchanging.{mail_for}
use Rattle.hp_snippet.specs.Leads.{paid}

-- ---- prices

-- each rank has the word 1; all get the sum
abbrev sums : Code
sums =
    record {
      list = instr.Const 0 (pos 1) ∷ instr.Pack (Words (0 ∷ [])) ∷ instr.Post false ∷ instr.Take false ∷ instr.Unpack (Folds ((0, Sum) ∷ [])) ∷ instr.Halt ∷ [];
      words = 1;
      arrays = [];
      loose = 0;
      small = lit< tt;
      ends = refl;
      within = refl;
      targets = refl;
    }

abbrev none : Tables
none = record { list = [] }

-- five instructions are done, and the end is none
instructions_row : paid sums none (λ kind. 1) 9 (first_state sums 2) ≡ 5
unfolding paid step first_state first_store pack_done packed unpacked const_data int_wrap
instructions_row = refl

abbrev post_price : Kind → ℕ
post_price Posts = 1
post_price _ = 0

-- one of them is a Post
posts_row : paid sums none post_price 9 (first_state sums 2) ≡ 1
unfolding paid step first_state first_store pack_done packed unpacked const_data int_wrap
posts_row = refl

-- ---- mail and ranges

abbrev rank_with : ℕ → List ℤ → List Piece → Store
rank_with number words arrays =
    record {
      number = number;
      ranks = 2;
      position = 0;
      words = words;
      arrays = arrays;
      loose = [];
      outbox = no_message ∷ no_message ∷ [];
      inbox = no_message ∷ no_message ∷ [];
      sent = 0;
      got = 0;
      executed = 0;
      log = record { list = [] };
    }

-- the word of each of two ranks, for rank 1
mail_row : mail_for [] (Words (0 ∷ [])) (rank_with 0 (pos 7 ∷ []) [] ∷ rank_with 1 (pos 8 ∷ []) [] ∷ []) 1 ≡ message_of (pos 7 ∷ []) ∷ message_of (pos 8 ∷ []) ∷ []
unfolding packed
mail_row = refl

abbrev cut : ℕ → List ℕ → List ℤ → List Piece
cut rows cuts cells = record { rows = rows; cuts = cuts; cells = cells } ∷ []

-- the places 2 and 3 of five elements, three of which are on rank 0
range_row : flat_map (λ (x : Store). cells_in Var x.number (piece_at x.arrays 0) (span 2 4)) (rank_with 0 [] (cut 1 (0 ∷ 3 ∷ 5 ∷ []) (pos 1 ∷ pos 2 ∷ pos 3 ∷ [])) ∷ rank_with 1 [] (cut 1 (0 ∷ 3 ∷ 5 ∷ []) (pos 4 ∷ pos 5 ∷ [])) ∷ [])
    ≡ pos 3 ∷ pos 4 ∷ []
range_row = refl

-- the second column of two, of two rows, each on a rank
columns_row : flat_map (λ (x : Store). cells_in Var x.number (piece_at x.arrays 0) (span 1 2)) (rank_with 0 [] (cut 2 (0 ∷ 1 ∷ 2 ∷ []) (pos 1 ∷ pos 2 ∷ [])) ∷ rank_with 1 [] (cut 2 (0 ∷ 1 ∷ 2 ∷ []) (pos 3 ∷ pos 4 ∷ [])) ∷ [])
    ≡ pos 3 ∷ pos 4 ∷ []
columns_row = refl
