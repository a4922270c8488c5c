-- Which copies are exchanges.
use Rattle.std.proofs.Common.{◌≡◌, refl, sym, ap, subst, cond, Bool, true, false, ℕ, List, [], ◌∷◌, ◌++◌, Option, Some, None}
use Rattle.std.specs.Prelude.{◌&&◌}
use Rattle.std.specs.List.{list_all}
use Rattle.hp_lattice.specs.declared.dist.Dist.{Dist}
use Rattle.hp_lattice.specs.declared.dist.Dist.TheVariants.{Rep, Var, Block}
use Rattle.hp_spmd.specs.declared.instr.Instr.{Instr}
use Rattle.hp_spmd.specs.declared.instr.Instr.TheVariants as instr
use Rattle.hp_spmd.specs.declared.instr.Need.TheVariants.{Blocks}
use Rattle.hp_air.specs.declared.slot.Slot.{Slot}
use Rattle.hp_air.specs.Frames.{slot_at}
use Rattle.hp_parfor.specs.LoopMeaning.{is_rep, is_var}
use Rattle.hp_parfor.specs.Talk.{Moves, dealt}
use Rattle.hp_exchange.specs.Ranges.{move_code}
use Rattle.hp_lowering.specs.PartCode.{copied_or_dealt, dealt_pair}

-- an array in uneven pieces is not whole on each rank
var_no_rep : (dist : Dist) → is_var dist ≡ true → is_rep dist ≡ false
var_no_rep Rep h = sym h
var_no_rep Var h = refl
var_no_rep Block h = refl

none_dealt : (alone : Bool) (outs ins : List ℕ) → copied_or_dealt (cond alone [] []) outs ins ≡ instr.Copy outs ins ∷ []
none_dealt true outs ins = refl
none_dealt false outs ins = refl

one_dealt : (a v alone : Bool) (k x : ℕ) → (v ≡ true → alone ≡ false) → (b : Option (ℕ × ℕ)) → cond (a && v) (Some (k, x)) None ≡ b
    → copied_or_dealt (cond alone [] (cond (a && v) (Moves (x ∷ []) Blocks ∷ []) [])) (k ∷ []) (x ∷ []) ≡ elim b [ None ↦ instr.Copy (k ∷ []) (x ∷ []) ∷ [] | Some p ↦ move_code (p.0 ∷ []) (p.1 ∷ []) Blocks ]
one_dealt true true alone k x h b e = subst (λ c. copied_or_dealt (cond alone [] (Moves (x ∷ []) Blocks ∷ [])) (k ∷ []) (x ∷ []) ≡ elim c [ None ↦ instr.Copy (k ∷ []) (x ∷ []) ∷ [] | Some p ↦ move_code (p.0 ∷ []) (p.1 ∷ []) Blocks ]) e (ap (λ c. copied_or_dealt (cond c [] (Moves (x ∷ []) Blocks ∷ [])) (k ∷ []) (x ∷ [])) (h refl))
one_dealt true false alone k x h b e = subst (λ c. copied_or_dealt (cond alone [] []) (k ∷ []) (x ∷ []) ≡ elim c [ None ↦ instr.Copy (k ∷ []) (x ∷ []) ∷ [] | Some p ↦ move_code (p.0 ∷ []) (p.1 ∷ []) Blocks ]) e (none_dealt alone (k ∷ []) (x ∷ []))
one_dealt false v alone k x h b e = subst (λ c. copied_or_dealt (cond alone [] []) (k ∷ []) (x ∷ []) ≡ elim c [ None ↦ instr.Copy (k ∷ []) (x ∷ []) ∷ [] | Some p ↦ move_code (p.0 ∷ []) (p.1 ∷ []) Blocks ]) e (none_dealt alone (k ∷ []) (x ∷ []))

not_all : (a r : Bool) → r ≡ false → (a && (r && true)) ≡ false
not_all true r h = ap (λ c. c && true) h
not_all false r h = refl

-- what a copy comes to: a copy or an exchange
abbrev Comes : (outs ins : List ℕ) → Option (ℕ × ℕ) → List Instr
Comes outs ins b = elim b [ None ↦ instr.Copy outs ins ∷ [] | Some p ↦ move_code (p.0 ∷ []) (p.1 ∷ []) Blocks ]

no_pair : (alone : Bool) (outs ins : List ℕ) (b : Option (ℕ × ℕ)) → None ≡ b → copied_or_dealt (cond alone [] []) outs ins ≡ Comes outs ins b
no_pair alone outs ins b e = subst (λ c. copied_or_dealt (cond alone [] []) outs ins ≡ Comes outs ins c) e (none_dealt alone outs ins)

pub copy_is : (slots : List Slot) (d : ℕ → Dist) (outs ins : List ℕ) (b : Option (ℕ × ℕ)) → dealt_pair slots d outs ins ≡ b
    → copied_or_dealt (cond (list_all (λ k. is_rep (d k)) (outs ++ ins)) [] (dealt slots d outs ins)) outs ins ≡ elim b [ None ↦ instr.Copy outs ins ∷ [] | Some p ↦ move_code (p.0 ∷ []) (p.1 ∷ []) Blocks ]
copy_is slots d [] ins b e = no_pair (list_all (λ k. is_rep (d k)) ([] ++ ins)) [] ins b e
copy_is slots d (k ∷ []) [] b e = no_pair (list_all (λ k. is_rep (d k)) ((k ∷ []) ++ [])) (k ∷ []) [] b e
copy_is slots d (k ∷ []) (x ∷ []) b e =
    one_dealt (slot_at slots k).balanced (is_var (d x)) (list_all (λ k. is_rep (d k)) ((k ∷ []) ++ (x ∷ []))) k x (λ v. not_all (is_rep (d k)) (is_rep (d x)) (var_no_rep (d x) v)) b e
copy_is slots d (k ∷ []) (x ∷ y ∷ ins) b e = no_pair (list_all (λ k. is_rep (d k)) ((k ∷ []) ++ (x ∷ y ∷ ins))) (k ∷ []) (x ∷ y ∷ ins) b e
copy_is slots d (k ∷ j ∷ outs) ins b e = no_pair (list_all (λ k. is_rep (d k)) ((k ∷ j ∷ outs) ++ ins)) (k ∷ j ∷ outs) ins b e
