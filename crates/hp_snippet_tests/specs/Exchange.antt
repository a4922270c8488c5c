-- The code of moves that is run, in parts.
use Rattle.std.specs.Prelude.{ℕ, pos, negsuc, false, List, [], ◌∷◌, ◌++◌}
use Rattle.hp_word.specs.declared.elem.Elem.TheVariants.{Near}
use Rattle.hp_lattice.specs.declared.dist.Dist.{Dist}
use Rattle.hp_lattice.specs.declared.dist.Dist.TheVariants.{Rep, Var, Block}
use Rattle.hp_spmd.specs.declared.instr.HaloFrom.TheVariants.{Loose as Halo}
use Rattle.hp_spmd.specs.declared.instr.Instr.{Instr}
use Rattle.hp_spmd.specs.declared.instr.Instr.TheVariants as instr
use Rattle.hp_spmd.specs.declared.instr.Loop.{Loop}
use Rattle.hp_spmd.specs.declared.instr.Need.TheVariants.{Blocks, Like, Whole}
use Rattle.hp_spmd.specs.declared.instr.Output.TheVariants.{List as Line}
use Rattle.hp_spmd.specs.declared.instr.Target.TheVariants.{Loose}
use Rattle.hp_coll.specs.Arriving.{arrive_code}
use Rattle.hp_coll.specs.Sealing.{sizes_code}
use Rattle.hp_exchange.specs.Concats.{concat_code}
use Rattle.hp_exchange.specs.Halos.{halo_code}
use Rattle.hp_exchange.specs.Ranges.{move_code}
use Rattle.hp_snippet_tests.specs.Coll.{here}

-- how the arrays lie
abbrev pub lying : List Dist
lying = Block ∷ Block ∷ Block ∷ Block ∷ Block ∷ Var ∷ Var ∷ Var ∷ Var ∷ Var ∷ Block ∷ Rep ∷ Block ∷ Block ∷ Var ∷ Rep ∷ []

abbrev pub begun : List Instr
begun =
    instr.Const 0 (pos 1)
    ∷ instr.Const 1 (pos 8)
    ∷ instr.Const 2 (pos 0)
    ∷ instr.Const 3 (pos 4)
    ∷ instr.Const 4 (pos 2)
    ∷ instr.Range 0 0 1 here
    ∷ instr.Fill 1 2 3 here
    ∷ instr.Fill 2 0 3 here
    ∷ []

abbrev pub kept_by : (mask to : ℕ) → List Instr
kept_by mask to = (instr.Select (Loose (1 ∷ [])) mask (0 ∷ []) ∷ []) ++ sizes_code (to ∷ []) (1 ∷ []) here

-- what the two masks keep of 1 to 8, and what a mask of zeros keeps
abbrev pub kept_parts : List Instr
kept_parts = ((((begun ++ concat_code 1 2 0 3 here) ++ concat_code 2 1 0 4 here) ++ kept_by 3 5) ++ kept_by 4 6) ++ kept_by 1 14

abbrev pub aligned : List Instr
aligned = (move_code (7 ∷ []) (6 ∷ []) (Like 5) ++ instr.Stack 8 (5 ∷ 7 ∷ []) false here ∷ instr.Row 9 8 4 here ∷ []) ++ arrive_code (Line 9 false)

abbrev pub joined : List Instr
joined = concat_code 5 1 0 10 here ++ arrive_code (Line 10 false)

abbrev pub gathered : List Instr
gathered = (move_code (11 ∷ 15 ∷ []) (6 ∷ 14 ∷ []) Whole ++ arrive_code (Line 11 false)) ++ arrive_code (Line 15 false)

abbrev pub three_back : Loop
three_back = record { leader = 12; inputs = []; halos = Halo 2 3 ∷ []; lets = Near 0 (negsuc 2) ∷ []; outs = record { array = 13; value = 0 } ∷ []; folds = [] }

abbrev pub surrounded : List Instr
surrounded = ((move_code (12 ∷ []) (5 ∷ []) Blocks ++ halo_code 12 3 2) ++ instr.Loop three_back ∷ []) ++ arrive_code (Line 13 false)
