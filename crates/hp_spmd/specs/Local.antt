-- What a local instruction does to the store of one rank.
use Rattle.std.specs.Prelude.{ℕ, suc, if◌then◌else◌, ℤ, pos, List, Option, Some, None, Result, Ok}
use Rattle.std.specs.Ordering.{int_eq}
use Rattle.hp_word.specs.declared.place.Trap.{Trap}
use Rattle.hp_word.specs.declared.table.Tables.{Tables}
use Rattle.hp_word.specs.LoopRules.{word_at}
use Rattle.hp_lattice.specs.declared.dist.Dist.{Dist}
use Rattle.hp_spmd.specs.declared.instr.Instr.{Instr}
use Rattle.hp_spmd.specs.declared.instr.Instr.TheVariants as instr
use Rattle.hp_spmd.specs.declared.instr.Packing.{Packing}
use Rattle.hp_spmd.specs.declared.store.Store.{Store}
use Rattle.hp_spmd.specs.Arrays.{at_data, copy_data, fill_data, pick_data, range_data, scan_data, table_data}
use Rattle.hp_spmd.specs.Kinds.{Kind, Computes, Jumps, Packs, Posts, Takes, PostsRoot, TakesRoot, Unpacks, Writes, Halts, kind_of}
use Rattle.hp_spmd.specs.Frames.{group_data, join_data, select_data, sort_data}
use Rattle.hp_spmd.specs.Loops.{loop_data}
use Rattle.hp_spmd.specs.Matrices.{product_data, row_data, stack_data}
use Rattle.hp_spmd.specs.Exchange.{packed, unpacked}
use Rattle.hp_spmd.specs.Next.{Next, Goes, at_place, moved, lifted}
use Rattle.hp_spmd.specs.Scalars.{const_data, calc_data, length_data, check_data}
use Rattle.hp_spmd.specs.Store.{Data, data_of}

-- what an instruction that computes makes of the data of the rank `number`; the others leave the data
abbrev pub computed : List Dist → Tables → (number ranks : ℕ) → Instr → Data → Result Data Trap
computed dists tables number ranks (instr.Const to value) d = const_data to value d
computed dists tables number ranks (instr.Calc to op left right at) d = calc_data to op left right at d
computed dists tables number ranks (instr.Jump target unless) d = Ok d
computed dists tables number ranks instr.Halt d = Ok d
computed dists tables number ranks (instr.Length to array) d = length_data to array d
computed dists tables number ranks (instr.Check arrays rule at) d = check_data arrays rule at d
computed dists tables number ranks (instr.Fill to value count at) d = fill_data dists number ranks to value count at d
computed dists tables number ranks (instr.Range to first last at) d = range_data dists number ranks to first last at d
computed dists tables number ranks (instr.Table to table) d = table_data dists tables number ranks to table d
computed dists tables number ranks (instr.Copy to from) d = copy_data to from d
computed dists tables number ranks (instr.Loop l) d = loop_data l d
computed dists tables number ranks (instr.Scan to from start part) d = scan_data to from start part d
computed dists tables number ranks (instr.At to array index at) d = at_data to array index at d
computed dists tables number ranks (instr.Pick to array index at) d = pick_data to array index at d
computed dists tables number ranks (instr.Select to mask from) d = select_data to mask from d
computed dists tables number ranks (instr.Join j) d = join_data dists number j.to j.left j.left_key j.right j.right_key j.at d
computed dists tables number ranks (instr.Group to from key measures) d = group_data dists number to from key measures d
computed dists tables number ranks (instr.Sort to from key) d = sort_data to from key d
computed dists tables number ranks (instr.Stack to from flat at) d = stack_data to from flat at d
computed dists tables number ranks (instr.Row to matrix index at) d = row_data to matrix index at d
computed dists tables number ranks (instr.Product to left right flip at) d = product_data to left right flip at d
computed dists tables number ranks (instr.Pack what) d = Ok d
computed dists tables number ranks (instr.Post root) d = Ok d
computed dists tables number ranks (instr.Take root) d = Ok d
computed dists tables number ranks (instr.Unpack what) d = Ok d
computed dists tables number ranks (instr.Write what) d = Ok d

-- where a rank with these words goes from an instruction that jumps
abbrev pub next_place : (target : ℕ) → (unless : Option ℕ) → List ℤ → (here : ℕ) → ℕ
next_place target None words here = target
next_place target (Some w) words here = if int_eq (word_at words w) (pos 0) then target else suc here

-- a rank that has jumped, or moved on
unfoldable pub jumped : (target : ℕ) → (unless : Option ℕ) → Store → Store
jumped target unless x = at_place (next_place target unless x.words x.position) x

-- a rank that has made its messages
unfoldable pub pack_done : List Dist → Packing → Store → Store
pack_done dists what x = moved (record x { outbox = packed dists what x.number x.ranks (data_of x); sent = 0; got = 0 })

-- what a rank does by an instruction of this shape that it does alone; at the others it stays here
abbrev pub alone : List Dist → Kind → (Data → Result Data Trap) → Store → Next
alone dists Computes f x = lifted (f (data_of x)) x
alone dists (Jumps target unless) f x = Goes (jumped target unless x)
alone dists (Packs what) f x = Goes (pack_done dists what x)
alone dists Posts f x = Goes x
alone dists Takes f x = Goes x
alone dists PostsRoot f x = Goes x
alone dists TakesRoot f x = Goes x
alone dists (Unpacks what) f x = lifted (unpacked dists what x.number x.ranks x.inbox (data_of x)) x
alone dists (Writes output) f x = Goes x
alone dists Halts f x = Goes x

-- what a local instruction does to the store of a rank
abbrev pub local_next : List Dist → Tables → Instr → Store → Next
local_next dists tables i x = alone dists (kind_of i) (computed dists tables x.number x.ranks i) x
