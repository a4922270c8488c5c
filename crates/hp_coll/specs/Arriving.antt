-- What an output does: rank 0 writes the text of what the ranks stand for together.
use Rattle.std.specs.Prelude.{◌≡◌, refl, ℕ, All, pos, Some, List, [], ◌∷◌, codes, length, map, true, false, Result, Ok}
use Rattle.std.specs.Fmt.{digits}
use Rattle.std.specs.List.{AllByRecursion}
use Rattle.hp_word.specs.declared.name.Name.{Name}
use Rattle.hp_word.specs.declared.place.Trap.{Trap}
use Rattle.hp_word.specs.Text.{csv, joined_by, list_line, printed, row_line}
use Rattle.hp_spmd.specs.declared.code.Code.{Code}
use Rattle.hp_spmd.specs.declared.instr.Instr.{Instr}
use Rattle.hp_spmd.specs.declared.instr.Instr.TheVariants as instr
use Rattle.hp_spmd.specs.declared.instr.Output.{Output}
use Rattle.hp_spmd.specs.declared.instr.Output.TheVariants as output
use Rattle.hp_spmd.specs.declared.instr.Packing.TheVariants.{Gather}
use Rattle.hp_spmd.specs.declared.store.Store.{Store}
use Rattle.hp_spmd.specs.Layout.{Env, vector}
use Rattle.hp_spmd.specs.Store.{dist_at, piece_at}
use Rattle.hp_snippet.specs.Outcomes.{After}
use Rattle.hp_snippet.specs.Promises.{Slots}
use Rattle.hp_snippet.specs.Values.{HasValue, value_or_zero}

-- ---- the code

abbrev pub arrive_code : Output → List Instr
arrive_code what = instr.Pack (Gather what) ∷ instr.Post true ∷ instr.Take true ∷ instr.Write what ∷ []

-- ---- what it does

-- the text of an output: the line of a word or of a whole array, or a table of whole arrays under their names
abbrev pub text_of : Env → Output → List ℕ
text_of env (output.Word w truth) = printed truth (value_or_zero (env.words w))
text_of env (output.List array truth) = list_line truth (env.arrays array).cells
text_of env (output.Table arrays names) = csv (map (λ (n : Name). n.bytes) names) (map (λ k. (env.arrays k).cells) arrays)

abbrev pub arrived : Output → List Store → Env → Result (After Env) Trap
arrived what ranks env = Ok (record { env = env; text = text_of env what })

abbrev pub arrive_writes : Slots
arrive_writes = record { words = []; arrays = []; loose = [] }

-- ---- what it needs

-- on each rank an array has as many rows as another one, and is cut as that
abbrev pub IsCutAs : List Store → (other array : ℕ) → Type 0
IsCutAs ranks other array =
    All (λ (x : Store). ((piece_at x.arrays array).rows ≡ (piece_at x.arrays other).rows) × ((piece_at x.arrays array).cuts ≡ (piece_at x.arrays other).cuts)) ranks

-- arrays lie alike: each as the first one
abbrev pub LieAlike : Code → List Store → List ℕ → Type 0
LieAlike code ranks [] = Unit {0}
LieAlike code ranks (first ∷ arrays) = AllByRecursion (λ k. (dist_at code.arrays k ≡ dist_at code.arrays first) × IsCutAs ranks first k) arrays

-- all ranks agree on the word of an output; the arrays of a table have names and lie alike, whole on each rank or in pieces
abbrev pub MayArrive : Output → Code → List Store → Env → Type 0
MayArrive (output.Word w truth) code ranks env = HasValue (env.words w)
MayArrive (output.List array truth) code ranks env = Unit {0}
MayArrive (output.Table arrays names) code ranks env = (length names ≡ length arrays) × LieAlike code ranks arrays

-- ---- worked rows

abbrev two_arrays : Env
two_arrays = record { arrays = λ k. vector (pos k ∷ pos 7 ∷ []); words = λ w. Some (pos w) }

text_rows : (text_of two_arrays (output.Word 1 true) ≡ codes "true\n") × (text_of two_arrays (output.List 2 false) ≡ codes "[2, 7]\n")
    × (text_of two_arrays (output.Table (1 ∷ 2 ∷ []) (record { bytes = codes "a" } ∷ record { bytes = codes "b" } ∷ [])) ≡ codes "a,b\n1,2\n7,7\n")
unfolding list_line csv row_line joined_by digits
text_rows = (refl, refl, refl)
