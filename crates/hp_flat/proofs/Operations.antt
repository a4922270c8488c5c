-- The operations of programs one behind the other.
use Rattle.std.proofs.Common.{◌≡◌, Bool, true, false, List, ◌++◌, sym, ap, ◌∙◌, append-nil}
use Rattle.hp_program.specs.Programs.{Prog, stop, plain, joined, operations, replaced}
use Rattle.hp_program.proofs.Replaced.{joined_stop, operations_replaced}

-- the programs that stand for two operations
either_of : {Op : Type 0} → Prog Op → Prog Op → Bool → Prog Op
either_of p q true = p
either_of p q false = q

pub operations_both : {Op : Type 0} (p q : Prog Op) → operations (joined p q) ≡ operations p ++ operations q
unfolding operations either_of replaced
operations_both p q =
    ap (λ (r : Prog _). operations (joined p r)) (sym (joined_stop q))
    ∙ operations_replaced (either_of p q) (plain true (plain false stop))
    ∙ ap (λ (l : List _). operations p ++ l) (append-nil (operations q))
