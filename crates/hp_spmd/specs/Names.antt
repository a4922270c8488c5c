-- What a code may name: words, arrays and loose columns within its counts, and lets before the one that names them.
use Rattle.std.specs.Prelude.{ℕ, suc, nat_lt, ◌&&◌, Bool, true, false, List, [], ◌∷◌, length, Option, Some, None}
use Rattle.std.specs.List.{list_all}
use Rattle.hp_word.specs.declared.elem.Elem.{Elem, Row_of-Elem, end_of-Elem, more_of-Elem}
use Rattle.hp_word.specs.declared.elem.Elem.TheVariants.{Number, Word, Input, Near, Earlier, Calc', Both', Either'}
use Rattle.hp_spmd.specs.declared.instr.HaloFrom.{HaloFrom}
use Rattle.hp_spmd.specs.declared.instr.HaloFrom.TheVariants.{Loose, Whole}
use Rattle.hp_spmd.specs.declared.instr.Instr.{Instr}
use Rattle.hp_spmd.specs.declared.instr.Instr.TheVariants as instr
use Rattle.hp_spmd.specs.declared.instr.Loop.{Loop}
use Rattle.hp_spmd.specs.declared.instr.Need.{Need}
use Rattle.hp_spmd.specs.declared.instr.Need.TheVariants as need
use Rattle.hp_spmd.specs.declared.instr.Output.{Output}
use Rattle.hp_spmd.specs.declared.instr.Output.TheVariants as output
use Rattle.hp_spmd.specs.declared.instr.Packing.TheVariants.{Words, Sizes, Partial, Move, Hash, Gather}
use Rattle.hp_spmd.specs.declared.instr.Rows.{Rows}
use Rattle.hp_spmd.specs.declared.instr.Rows.TheVariants as rows
use Rattle.hp_spmd.specs.declared.instr.Target.{Target}
use Rattle.hp_spmd.specs.declared.instr.Target.TheVariants as target
use Rattle.hp_spmd.specs.declared.instr.Unpacking.TheVariants.{Folds, Below, Seal, Total, Moved, Halo, Into, Glued, Got}
use Rattle.hp_spmd.specs.Kinds.{Kind, Computes, Jumps, Packs, Posts, Takes, PostsRoot, TakesRoot, Unpacks, Writes, Halts, kind_of}

-- the last instruction is Halt
abbrev pub is_halt : Instr → Bool
is_halt instr.Halt = true
is_halt i = false

abbrev pub ends_in_halt : List Instr → Bool
ends_in_halt [] = false
ends_in_halt (i ∷ []) = is_halt i
ends_in_halt (i ∷ j ∷ is) = ends_in_halt (j ∷ is)

-- Elements of a loop: words, inputs, halos and earlier lets are below these counts. A child is a row of one element.
abbrev mutual
  pub elem_within : ℕ → ℕ → ℕ → ℕ → Elem → Bool
  elem_within words inputs halos lets (Number n) = true
  elem_within words inputs halos lets (Word w) = nat_lt w words
  elem_within words inputs halos lets (Input k) = nat_lt k inputs
  elem_within words inputs halos lets (Near k d) = nat_lt k halos
  elem_within words inputs halos lets (Earlier k) = nat_lt k lets
  elem_within words inputs halos lets (Calc' op at p a q b) = row_within words inputs halos lets a && row_within words inputs halos lets b
  elem_within words inputs halos lets (Both' p a q b) = row_within words inputs halos lets a && row_within words inputs halos lets b
  elem_within words inputs halos lets (Either' p a q b) = row_within words inputs halos lets a && row_within words inputs halos lets b

  pub row_within : {m : _} → ℕ → ℕ → ℕ → ℕ → Row_of-Elem m → Bool
  row_within words inputs halos lets end_of-Elem = true
  row_within words inputs halos lets (more_of-Elem e rest) = elem_within words inputs halos lets e && row_within words inputs halos lets rest

-- the lets from the k-th on
abbrev pub lets_within : ℕ → ℕ → ℕ → ℕ → List Elem → Bool
lets_within words inputs halos k [] = true
lets_within words inputs halos k (e ∷ es) = elem_within words inputs halos k e && lets_within words inputs halos (suc k) es

abbrev pub halo_within : ℕ → ℕ → HaloFrom → Bool
halo_within arrays loose (Loose column reach) = nat_lt column loose
halo_within arrays loose (Whole array) = nat_lt array arrays

abbrev pub loop_within : ℕ → ℕ → ℕ → Loop → Bool
loop_within words arrays loose l =
    nat_lt l.leader arrays && list_all (λ k. nat_lt k arrays) l.inputs && list_all (halo_within arrays loose) l.halos
    && lets_within words (length l.inputs) (length l.halos) 0 l.lets
    && list_all (λ o. nat_lt o.array arrays && nat_lt o.value (length l.lets)) l.outs
    && list_all (λ f. nat_lt f.word words && nat_lt f.value (length l.lets)) l.folds

-- all these are below a count
abbrev pub all_below : ℕ → List ℕ → Bool
all_below count names = list_all (λ k. nat_lt k count) names

abbrev pub output_within : (words arrays : ℕ) → Output → Bool
output_within words arrays (output.Word w truth) = nat_lt w words
output_within words arrays (output.List array truth) = nat_lt array arrays
output_within words arrays (output.Table columns names) = all_below arrays columns

abbrev pub need_within : (arrays : ℕ) → Need → Bool
need_within arrays (need.Like array) = nat_lt array arrays
need_within arrays need.Blocks = true
need_within arrays (need.Wide reach) = true
need_within arrays need.Whole = true
need_within arrays (need.First other) = nat_lt other arrays
need_within arrays (need.Second other) = nat_lt other arrays

abbrev pub word_within : ℕ → Option ℕ → Bool
word_within words None = true
word_within words (Some w) = nat_lt w words

abbrev pub target_named : (arrays loose : ℕ) → Target → Bool
target_named arrays loose (target.Whole to) = list_all (λ k. nat_lt k arrays) to
target_named arrays loose (target.Loose to) = list_all (λ k. nat_lt k loose) to

abbrev pub rows_named : (arrays loose : ℕ) → Rows → Bool
rows_named arrays loose (rows.Own from) = list_all (λ k. nat_lt k arrays) from
rows_named arrays loose (rows.Got from) = list_all (λ k. nat_lt k loose) from

abbrev pub instr_within : ℕ → ℕ → ℕ → Instr → Bool
instr_within words arrays loose (instr.Const to value) = nat_lt to words
instr_within words arrays loose (instr.Calc to op left right at) = nat_lt to words && nat_lt left words && nat_lt right words
instr_within words arrays loose (instr.Jump target unless) = word_within words unless
instr_within words arrays loose instr.Halt = true
instr_within words arrays loose (instr.Length to array) = nat_lt to words && nat_lt array arrays
instr_within words arrays loose (instr.Check looked rule at) = list_all (λ k. nat_lt k arrays) looked
instr_within words arrays loose (instr.Fill to value count at) = nat_lt to arrays && nat_lt value words && nat_lt count words
instr_within words arrays loose (instr.Range to first last at) = nat_lt to arrays && nat_lt first words && nat_lt last words
instr_within words arrays loose (instr.Table to table) = list_all (λ k. nat_lt k arrays) to
instr_within words arrays loose (instr.Copy to from) = list_all (λ k. nat_lt k arrays) to && list_all (λ k. nat_lt k arrays) from
instr_within words arrays loose (instr.Loop l) = loop_within words arrays loose l
instr_within words arrays loose (instr.Scan to from start part) = nat_lt to arrays && nat_lt from arrays && nat_lt start words && nat_lt part words
instr_within words arrays loose (instr.At to array index at) = nat_lt to words && nat_lt array arrays && nat_lt index words
instr_within words arrays loose (instr.Pick to array index at) = nat_lt to arrays && (nat_lt array arrays && nat_lt index arrays)
instr_within words arrays loose (instr.Select to mask from) = nat_lt mask arrays && list_all (λ k. nat_lt k arrays) from && target_named arrays loose to
instr_within words arrays loose (instr.Join j) = rows_named arrays loose j.left && rows_named arrays loose j.right && target_named arrays loose j.to
instr_within words arrays loose (instr.Group to from key measures) = rows_named arrays loose from && target_named arrays loose to
instr_within words arrays loose (instr.Sort to from key) = list_all (λ k. nat_lt k arrays) to && list_all (λ k. nat_lt k arrays) from
instr_within words arrays loose (instr.Stack to from flat at) = nat_lt to arrays && list_all (λ k. nat_lt k arrays) from
instr_within words arrays loose (instr.Row to matrix index at) = nat_lt to arrays && (nat_lt matrix arrays && nat_lt index words)
instr_within words arrays loose (instr.Product to left right flip at) = target_named arrays loose to && (nat_lt left arrays && nat_lt right arrays)
instr_within words arrays loose (instr.Pack (Sizes column)) = nat_lt column loose
instr_within words arrays loose (instr.Pack (Partial column)) = nat_lt column loose
instr_within words arrays loose (instr.Pack (Move moved need)) = all_below arrays moved && need_within arrays need
instr_within words arrays loose (instr.Pack (Hash columns key)) = all_below arrays columns
instr_within words arrays loose (instr.Pack (Words ws)) = list_all (λ w. nat_lt w words) ws
instr_within words arrays loose (instr.Pack (Gather what)) = output_within words arrays what
instr_within words arrays loose (instr.Post root) = true
instr_within words arrays loose (instr.Take root) = true
instr_within words arrays loose (instr.Unpack (Folds list)) = list_all (λ f. nat_lt f.0 words) list
instr_within words arrays loose (instr.Unpack (Below to)) = nat_lt to words
instr_within words arrays loose (instr.Unpack (Seal to columns at)) = all_below arrays to && all_below loose columns
instr_within words arrays loose (instr.Unpack (Total to left)) = nat_lt to arrays && nat_lt left arrays
instr_within words arrays loose (instr.Unpack (Moved to from need)) = all_below arrays to && all_below arrays from && need_within arrays need
instr_within words arrays loose (instr.Unpack (Halo to array reach)) = nat_lt to loose && nat_lt array arrays
instr_within words arrays loose (instr.Unpack (Into column)) = nat_lt column loose
instr_within words arrays loose (instr.Unpack (Glued to column left right)) = nat_lt to arrays && nat_lt column loose && nat_lt left arrays && nat_lt right arrays
instr_within words arrays loose (instr.Unpack (Got columns)) = all_below loose columns
instr_within words arrays loose (instr.Write what) = output_within words arrays what

-- every name in these instructions is within the counts of words, arrays and loose columns
abbrev pub names_within : ℕ → ℕ → ℕ → List Instr → Bool
names_within words arrays loose list = list_all (instr_within words arrays loose) list

-- the instruction to which a jump goes is among so many
abbrev pub target_within : ℕ → Kind → Bool
target_within count Computes = true
target_within count (Jumps target unless) = nat_lt target count
target_within count (Packs what) = true
target_within count Posts = true
target_within count Takes = true
target_within count PostsRoot = true
target_within count TakesRoot = true
target_within count (Unpacks what) = true
target_within count (Writes output) = true
target_within count Halts = true

-- every jump among these instructions does
abbrev pub targets_within : ℕ → List Instr → Bool
targets_within count list = list_all (λ i. target_within count (kind_of i)) list
