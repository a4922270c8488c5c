-- The laws of the ranks' program that later theorems stand on.
use Rattle.std.specs.Prelude.{◌≡◌, ℕ, ◌*◌, ◌≤◌, List, ◌++◌, length, map, IsTrue}
use Rattle.hp_word.specs.declared.table.Tables.{Tables}
use Rattle.hp_spmd.specs.declared.code.Code.{Code}
use Rattle.hp_spmd.specs.declared.instr.Instr.{Instr}
use Rattle.hp_spmd.specs.declared.store.Store.{Store}
use Rattle.hp_spmd.specs.Act.{act_by, after_posts, after_takes, of_next}
use Rattle.hp_spmd.specs.Exchanges.{Phase, LeadsPhase, SizesFollow}
use Rattle.hp_spmd.specs.Kinds.{Kind, IsLocal}
use Rattle.hp_spmd.specs.Layout.{Share, Suits}
use Rattle.hp_spmd.specs.Local.{local_next}
use Rattle.hp_spmd.specs.Lockstep.{State, delivered, run_by, step, stride}
use Rattle.hp_spmd.specs.Names.{instr_within}
use Rattle.hp_spmd.specs.Next.{Next, Goes, moved}
use Rattle.hp_spmd.specs.Spread.{SpreadsWell}
use Rattle.hp_spmd.specs.Store.{message_at}

-- A run of so many steps, in which a whole exchange is one, comes to where a run by single instructions does, of at least
-- as many and at most three times as many.
pub record IsRun (code : Code) (tables : Tables) (strides : ℕ) (s : State) : Type 0 where
  pub count : ℕ
  pub least : strides ≤ count
  pub most : count ≤ 3 * strides
  pub same : run_by (stride code tables) strides s ≡ run_by (step code tables) count s

-- what leads from one phase to a second and what leads on from there lead on together
abbrev pub PhasesJoin : Type 0
PhasesJoin = (s t u : Phase) (a b : List Instr) → LeadsPhase s a t → LeadsPhase t b u → LeadsPhase s (a ++ b) u

-- sizes follow in two lists, and so they do in both together
abbrev pub SizesJoin : Type 0
SizesJoin = (a b : List Instr) → SizesFollow a → SizesFollow b → SizesFollow (a ++ b)

-- a local instruction is the whole act of a rank
abbrev pub LocalActs : Type 0
LocalActs = (k : Kind) (next : Next) (x : Store) → IsLocal k → act_by k next x ≡ of_next next

-- What the lockstep makes of a rank by a Post and a Take is what the rank comes to by posting to all ranks and taking
-- what each of them has for it.
abbrev pub ExchangeActs : Type 0
ExchangeActs =
    (ranks : List Store) (x : Store) → 1 ≤ x.ranks → x.sent ≡ 0 → x.got ≡ 0 → length x.outbox ≡ x.ranks → length x.inbox ≡ x.ranks → length ranks ≡ x.ranks
    → moved (delivered ranks x) ≡ after_takes (map (λ y. message_at y.outbox x.number) ranks) (after_posts x.ranks x)

-- A local instruction leaves the arrays of a rank shared as the code says, from every store that suits the code and whose
-- arrays are shared so.
abbrev pub LocalShares : Type 0
LocalShares =
    (code : Code) (tables : Tables) (i : Instr) (x y : Store) → SpreadsWell code.arrays i → IsTrue (instr_within code.words (length code.arrays) code.loose i)
    → Suits code x → Share code x → local_next code.arrays tables i x ≡ Goes y → Share code y
