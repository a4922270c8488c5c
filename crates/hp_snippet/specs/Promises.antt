-- What a piece of code promises of all ranks that come to it: it does an operation on what they stand for.
use Rattle.std.specs.Prelude.{ℕ, suc, ◌+◌, ◌*◌, ◌<◌, ◌≤◌, ◌≡◌, All, List, [], ◌∷◌, IsTrue, false, length, map, slice_index_or, sum, Result}
use Rattle.std.specs.List.{AllByRecursion, AllZip}
use Rattle.hp_word.specs.declared.place.Trap.{Trap}
use Rattle.hp_word.specs.declared.table.Tables.{Tables}
use Rattle.hp_word.specs.LoopRules.{word_at}
use Rattle.hp_spmd.specs.declared.code.Code.{Code}
use Rattle.hp_spmd.specs.declared.instr.Instr.{Instr}
use Rattle.hp_spmd.specs.declared.instr.Instr.TheVariants as instr
use Rattle.hp_spmd.specs.declared.instr.Packing.{Packing}
use Rattle.hp_spmd.specs.declared.instr.Unpacking.{Unpacking}
use Rattle.hp_spmd.specs.declared.store.Store.{Store}
use Rattle.hp_spmd.specs.Exchanges.{LeadsPhase, Outside, SizesFollow}
use Rattle.hp_spmd.specs.Kinds.{Kind, Jumps, kind_of}
use Rattle.hp_spmd.specs.Layout.{Env, Layout, Share, Suits}
use Rattle.hp_spmd.specs.Local.{local_next}
use Rattle.hp_spmd.specs.Lockstep.{State, position_of}
use Rattle.hp_spmd.specs.Names.{instr_within}
use Rattle.hp_spmd.specs.Next.{Goes}
use Rattle.hp_spmd.specs.Spread.{IsPlaced}
use Rattle.hp_spmd.specs.Store.{instr_at, piece_at}
use Rattle.hp_turns.specs.Apart.{Agree, price}
use Rattle.hp_snippet.specs.Outcomes.{After, Does}

-- ---- numbers of words, arrays and loose columns

-- a number is none of these
abbrev pub IsNoneOf : List ℕ → ℕ → Type 0
IsNoneOf names k = AllByRecursion (λ name. name ≡ k → ⊥) names

-- no number stands among these twice
abbrev pub AreOnce : List ℕ → Type 0
AreOnce [] = Unit {0}
AreOnce (name ∷ names) = IsNoneOf names name × AreOnce names

-- what an operation writes on each rank: words, arrays and loose columns
pub record Slots : Type 0 where
  pub words : List ℕ
  pub arrays : List ℕ
  pub loose : List ℕ

-- ---- before and behind

-- these instructions stand in a code from this place on
abbrev pub StandAt : List Instr → ℕ → List Instr → Type 0
StandAt code place [] = Unit {0}
StandAt code place (i ∷ is) = (instr_at code place ≡ i) × StandAt code (suc place) is

-- The store of a rank among so many that has the words and loose columns of a code, and its arrays shared as the code says.
pub record IsRankOf (code : Code) (ranks : ℕ) (x : Store) : Type 0 where
  pub placed : IsPlaced code ranks x
  pub words : length x.words ≡ code.words
  pub loose : length x.loose ≡ code.loose

-- all ranks of a code have come to these instructions, and stand for this
pub record StandBefore (code : Code) (list : List Instr) (s : State) (env : Env) : Type 0 where
  pub stand : StandAt code.list (position_of s.ranks) list
  pub some : 1 ≤ length s.ranks
  pub each : All (IsRankOf code (length s.ranks)) s.ranks
  pub lays : Layout code s.ranks env

-- the same rank, with all that it had but what is written
pub record Stays (written : Slots) (x y : Store) : Type 0 where
  pub number : y.number ≡ x.number
  pub ranks_are : y.ranks ≡ x.ranks
  pub words : (w : ℕ) → IsNoneOf written.words w → word_at y.words w ≡ word_at x.words w
  pub arrays : (k : ℕ) → IsNoneOf written.arrays k → piece_at y.arrays k ≡ piece_at x.arrays k
  pub loose : (k : ℕ) → IsNoneOf written.loose k → slice_index_or y.loose k [] ≡ slice_index_or x.loose k []
  pub executed : y.executed ≡ x.executed
  pub log : y.log ≡ x.log

-- these ranks, which now stand for this, and have all that they had but what is written
pub record StandBehind (code : Code) (written : Slots) (before : List Store) (s : State) (env : Env) : Type 0 where
  pub lays : Layout code s.ranks env
  pub stays : AllZip (Stays written) before s.ranks

-- What holds at each state on the way through instructions that end before a place: the ranks are those of the code, their
-- arrays shared as it says, and at each of the instructions they agree: at an Unpack all trap, or all go on.
pub record IsSound (code : Code) (tables : Tables) (ranks until : ℕ) (s : State) : Type 0 where
  pub each : All (IsRankOf code ranks) s.ranks
  pub agree : position_of s.ranks < until → Agree code tables s.ranks

-- ---- what is promised

-- one exchange among all ranks
abbrev pub exchange_code : Packing → Unpacking → List Instr
exchange_code what unpacking = instr.Pack what ∷ instr.Post false ∷ instr.Take false ∷ instr.Unpack unpacking ∷ []

-- what instructions cost together, at this price of each kind
abbrev pub price_of : (Kind → ℕ) → List Instr → ℕ
price_of price list = sum (map (λ i. price (kind_of i)) list)

-- Wherever these instructions stand in a code, ranks that come to them, and meet what the operation needs, come behind them
-- with what the operation makes of what they stand for; or an instruction among them trips, with the operation's trap, exactly
-- where that traps. All else that they have is as it was. No more is done than each instruction once.
abbrev pub Performs : (Needs : Code → List Store → Env → Type 0) → (operation : List Store → Env → Result (After Env) Trap) → (written : Slots) → List Instr → Type 0
Performs Needs operation written list =
    (code : Code) (tables : Tables) (price : Kind → ℕ) (s : State) (env : Env) → StandBefore code list s env → Needs code s.ranks env
    → Does code tables price (IsSound code tables (length s.ranks) (position_of s.ranks + length list)) (λ t. Unit {0}) Env (StandBehind code written s.ranks)
    (length list) (price_of price list) (position_of s.ranks + length list) s (operation s.ranks env)

-- ---- what can be seen of the instructions

abbrev pub IsNoJump : Kind → Type 0
IsNoJump (Jumps target unless) = ⊥
IsNoJump _ = Unit {0}

-- The instructions have the form of exchanges from outside to outside, none of them jumps, and a size follows where one must.
pub record IsStraight (list : List Instr) : Type 0 where
  pub leads : LeadsPhase Outside list Outside
  pub jumps : AllByRecursion (λ i. IsNoJump (kind_of i)) list
  pub sizes : SizesFollow list

-- an instruction that is no Unpack leaves the arrays of a rank shared as the code says, from every store that suits the code
-- and whose arrays are shared so
abbrev pub LeavesShared : Code → Instr → Type 0
LeavesShared code (instr.Unpack what) = Unit {0}
LeavesShared code i =
    (tables : Tables) (x y : Store) → IsTrue (instr_within code.words (length code.arrays) code.loose i) → Suits code x → Share code x → local_next code.arrays tables i x ≡ Goes y
    → Share code y

-- the instructions are the work of so many units: at most 16 for each, and 2 n + 14 actions of each of n ranks
pub record IsWork (units : ℕ) (list : List Instr) : Type 0 where
  pub few : length list ≤ 16 * units
  pub cheap : (ranks : ℕ) → price_of (price ranks) list ≤ (2 * ranks + 14) * units
