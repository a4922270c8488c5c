-- The laws that each piece of code stands on.
use Rattle.std.specs.Prelude.{ℕ, ◌+◌, ◌*◌, ◌≤◌, ◌≡◌, List, [], ◌∷◌, ◌++◌, flat_map, length, map, Option}
use Rattle.hp_word.specs.declared.place.Trap.{Trap}
use Rattle.hp_word.specs.declared.table.Tables.{Tables}
use Rattle.hp_cuts.specs.declared.cuts.Span.{Span}
use Rattle.hp_lattice.specs.declared.dist.Dist.{Dist}
use Rattle.hp_spmd.specs.declared.code.Code.{Code}
use Rattle.hp_spmd.specs.declared.instr.Instr.{Instr}
use Rattle.hp_spmd.specs.declared.instr.Instr.TheVariants as instr
use Rattle.hp_spmd.specs.declared.instr.Output.{Output}
use Rattle.hp_spmd.specs.declared.instr.Packing.{Packing}
use Rattle.hp_spmd.specs.declared.instr.Packing.TheVariants.{Gather}
use Rattle.hp_spmd.specs.declared.instr.Unpacking.{Unpacking}
use Rattle.hp_spmd.specs.declared.store.Store.{Store}
use Rattle.hp_spmd.specs.Exchange.{written}
use Rattle.hp_spmd.specs.Kinds.{Kind, Jumps, Packs, Posts, Takes, PostsRoot, TakesRoot, Unpacks, Writes, kind_of}
use Rattle.hp_spmd.specs.Layout.{Env, IsLaid, Layout, Numbered, Whole}
use Rattle.hp_spmd.specs.Local.{local_next}
use Rattle.hp_spmd.specs.Lockstep.{State, state, All, One, place_of_first, position_of, step, together}
use Rattle.hp_spmd.specs.Lockstep as lock
use Rattle.hp_spmd.specs.Next.{at_place, moved}
use Rattle.hp_spmd.specs.Packs.{cells_in}
use Rattle.hp_spmd.specs.Ranks.{IsTogether}
use Rattle.hp_spmd.specs.Scalars.{greatest_count}
use Rattle.hp_spmd.specs.Store.{instr_at, kept, piece_at}
use Rattle.hp_snippet.specs.Exchanging.{IsExchange, IsWriting, exchanged, mail_for, once_taken, once_taken_at_root, way_of, way_to_root}
use Rattle.hp_snippet.specs.Holds.{HoldAll, IsCut}
use Rattle.hp_snippet.specs.Leads.{LeadsBy}

-- what leads on from where something leads leads from there; counts and prices add, and the ways stand behind each other
abbrev pub LeadsJoin : Type 0
LeadsJoin =
    (code : Code) (tables : Tables) (price : Kind → ℕ) (way on : List State) (c a d b : ℕ) (s t u : State) → LeadsBy code tables price way c a s t → LeadsBy code tables price on d b t u
    → LeadsBy code tables price (way ++ on) (c + d) (a + b) s u

-- all ranks at the place to which the first one jumps
abbrev pub once_jumped : (target : ℕ) → (unless : Option ℕ) → List Store → List ℕ → State
once_jumped target unless ranks out = state (map (at_place (place_of_first target unless ranks)) ranks) out

-- What all ranks do by an instruction that each does by itself leads, at its own price; where a rank traps, the lowest such
-- rank's trap is that of all.
abbrev pub TogetherLeads : Type 0
TogetherLeads =
    (code : Code) (tables : Tables) (price : Kind → ℕ) (i : Instr) (ranks after : List Store) (out : List ℕ) → IsTogether (kind_of i) → instr_at code.list (position_of ranks) ≡ i
    → together (local_next code.arrays tables i) ranks ≡ All after
    → LeadsBy code tables price (state ranks out ∷ state after out ∷ []) 1 (price (kind_of i)) (state ranks out) (state after out)

abbrev pub TogetherStops : Type 0
TogetherStops =
    (code : Code) (tables : Tables) (i : Instr) (ranks : List Store) (out : List ℕ) (t : Trap) → IsTogether (kind_of i) → instr_at code.list (position_of ranks) ≡ i
    → together (local_next code.arrays tables i) ranks ≡ One t → step code tables (state ranks out) ≡ lock.Trips t

-- a Jump leads to where the word of the first rank says
abbrev pub JumpLeads : Type 0
JumpLeads =
    (code : Code) (tables : Tables) (price : Kind → ℕ) (target : ℕ) (unless : Option ℕ) (ranks : List Store) (out : List ℕ) → instr_at code.list (position_of ranks) ≡ instr.Jump target unless
    → LeadsBy code tables price (state ranks out ∷ once_jumped target unless ranks out ∷ []) 1 (price (Jumps target unless)) (state ranks out) (once_jumped target unless ranks out)

-- ---- what the ranks stand for

-- what the ranks stand for together is what each holds by itself
abbrev pub LayoutEach : Type 0
LayoutEach = (code : Code) (ranks : List Store) (env : Env) → (Layout code ranks env → HoldAll code ranks env) × (HoldAll code ranks env → Layout code ranks env)

-- ---- exchanges

-- An exchange leads in four instructions to what the ranks unpack together: each of the messages for it, from all ranks in order.
abbrev pub ExchangeLeads : Type 0
ExchangeLeads =
    (code : Code) (tables : Tables) (price : Kind → ℕ) (what : Packing) (unpacking : Unpacking) (ranks after : List Store) (out : List ℕ)
    → 1 ≤ length ranks → IsExchange code (position_of ranks) what unpacking → together (exchanged code.arrays what unpacking ranks) ranks ≡ All after
    → LeadsBy code tables price (way_of code.arrays what ranks out ++ state after out ∷ []) 4 (price (Packs what) + (price Posts + (price Takes + price (Unpacks unpacking)))) (state ranks out) (state after out)

-- Where a rank traps as it unpacks, the exchange leads in three instructions to one that trips with the lowest such rank's trap.
pub record StopsThere (code : Code) (tables : Tables) (price : Kind → ℕ) (what : Packing) (ranks : List Store) (out : List ℕ) (t : Trap) : Type 0 where
  pub leads : LeadsBy code tables price (way_of code.arrays what ranks out) 3 (price (Packs what) + (price Posts + price Takes)) (state ranks out) (state (once_taken code.arrays what ranks) out)
  pub trips : step code tables (state (once_taken code.arrays what ranks) out) ≡ lock.Trips t

abbrev pub ExchangeStops : Type 0
ExchangeStops =
    (code : Code) (tables : Tables) (price : Kind → ℕ) (what : Packing) (unpacking : Unpacking) (ranks : List Store) (out : List ℕ) (t : Trap)
    → 1 ≤ length ranks → IsExchange code (position_of ranks) what unpacking → together (exchanged code.arrays what unpacking ranks) ranks ≡ One t
    → StopsThere code tables price what ranks out t

-- the state once rank 0 has written what all ranks packed for it, in order
abbrev pub once_written : Code → Output → List Store → List ℕ → State
once_written code output ranks out =
    state (map moved (once_taken_at_root code.arrays (Gather output) ranks)) (out ++ written output (mail_for code.arrays (Gather output) ranks 0))

-- An exchange at the root leads in four instructions to the text of the messages that all ranks packed for rank 0, in order.
abbrev pub WriteLeads : Type 0
WriteLeads =
    (code : Code) (tables : Tables) (price : Kind → ℕ) (output : Output) (ranks : List Store) (out : List ℕ)
    → 1 ≤ length ranks → Numbered 0 ranks → IsWriting code (position_of ranks) output
    → LeadsBy code tables price (way_to_root code.arrays (Gather output) ranks out ++ once_written code output ranks out ∷ []) 4
    (price (Packs (Gather output)) + (price PostsRoot + (price TakesRoot + price (Writes output)))) (state ranks out) (once_written code output ranks out)

-- ---- ranges

-- The cells that the ranks have of a range of columns, in rank order, are that range of the whole.
abbrev pub RangesMove : Type 0
RangesMove =
    (dist : Dist) (ranks : List Store) (slot : ℕ) (cuts : List ℕ) (whole : Whole) (range : Span) → IsCut dist → 1 ≤ length ranks → Numbered 0 ranks
    → (laid : IsLaid dist ranks slot cuts whole) → laid.columns ≤ greatest_count
    → flat_map (λ x. cells_in dist x.number (piece_at x.arrays slot) range) ranks ≡ kept (whole.rows * range.from) (whole.rows * range.until) 0 whole.cells
