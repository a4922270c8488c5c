-- Reading a rank's store. What is not there counts as 0, or as an empty list.
use Rattle.std.specs.Prelude.{ℕ, suc, nat_le, nat_lt, ◌&&◌, if◌then◌else◌, ℤ, pos, List, [], ◌∷◌, length, map, replicate, slice_index_or}
use Rattle.hp_word.specs.declared.order.Orders.{Orders}
use Rattle.hp_word.specs.declared.table.Message.{Message}
use Rattle.hp_spmd.specs.declared.code.Code.{Code}
use Rattle.hp_spmd.specs.declared.instr.Instr.{Instr}
use Rattle.hp_spmd.specs.declared.instr.Instr.TheVariants.{Halt}
use Rattle.hp_lattice.specs.declared.dist.Dist.{Dist}
use Rattle.hp_lattice.specs.declared.dist.Dist.TheVariants.{Block}
use Rattle.hp_spmd.specs.declared.store.Piece.{Piece}
use Rattle.hp_spmd.specs.declared.store.Store.{Store}
use Rattle.hp_spmd.specs.Cuts.{first_cuts, own_from, own_until}

-- What a rank computes with: all of its store but its number and that of the ranks, its position, and what exchanges
-- touch.
pub record Data : Type 0 where
  pub words : List ℤ
  pub arrays : List Piece
  pub loose : List (List ℤ)
  pub executed : ℕ
  pub log : Orders

abbrev pub data_of : Store → Data
data_of x = record { words = x.words; arrays = x.arrays; loose = x.loose; executed = x.executed; log = x.log }

abbrev pub with_data : Data → Store → Store
with_data d x = record x { words = d.words; arrays = d.arrays; loose = d.loose; executed = d.executed; log = d.log }

-- a vector of no elements
abbrev pub no_piece : Piece
no_piece = record { rows = 1; cuts = []; cells = [] }

abbrev pub piece_at : List Piece → ℕ → Piece
piece_at pieces k = slice_index_or pieces k no_piece

abbrev pub no_message : Message
no_message = record { words = [] }

abbrev pub message_at : List Message → ℕ → Message
message_at messages k = slice_index_or messages k no_message

abbrev pub dist_at : List Dist → ℕ → Dist
dist_at dists k = slice_index_or dists k Block

abbrev pub instr_at : List Instr → ℕ → Instr
instr_at list k = slice_index_or list k Halt

-- Of cells that stand from place k on, those at the places from a on that are below b.
abbrev pub kept : {X : Type 0} → ℕ → ℕ → ℕ → List X → List X
kept a b k [] = []
kept a b k (c ∷ cs) = if nat_le a k && nat_lt k b then c ∷ kept a b (suc k) cs else kept a b (suc k) cs

-- a rank's piece of a vector that is cut so
unfoldable pub piece_of : Dist → List ℕ → ℕ → List ℤ → Piece
piece_of dist cuts rank whole =
    record { rows = 1; cuts = cuts; cells = kept (own_from dist cuts rank) (own_until dist cuts rank) 0 whole }

-- a rank's piece of a whole vector, cut as one that is made with this distribution
abbrev pub dealt : Dist → (number ranks : ℕ) → List ℤ → Piece
dealt dist number ranks whole = piece_of dist (first_cuts dist (length whole) ranks) number whole

-- the store that a rank begins with
unfoldable pub first_store : Code → ℕ → ℕ → Store
first_store code number ranks =
    record {
      number = number;
      ranks = ranks;
      position = 0;
      words = replicate code.words (pos 0);
      arrays = map (λ dist. dealt dist number ranks []) code.arrays;
      loose = replicate code.loose [];
      outbox = replicate ranks no_message;
      inbox = replicate ranks no_message;
      sent = 0;
      got = 0;
      executed = 0;
      log = record { list = [] };
    }
