use Rattle.std.proofs.Common.{◌≡◌, subst, sym, arith, ℕ, ◌-◌, ◌^◌, List, length, get_or, set}
use Rattle.hp_word.specs.declared.table.Tables.{Tables}
use Rattle.hp_lattice.specs.declared.dist.Dist.{Dist}
use Rattle.hp_spmd.specs.declared.instr.Instr.{Instr}
use Rattle.hp_spmd.specs.declared.local.Local.{Local}
use Rattle.hp_spmd.specs.declared.store.Store.{Store}
use Rattle.hp_word.specs.Lengths.{trap}
use Rattle.hp_spmd.specs.declared.local.Local.TheVariants.{Moved, Trapped}
use Rattle.hp_spmd.specs.Lockstep.{together}
use Rattle.hp_spmd.specs.Kinds.{IsLocal, kind_of}
use Rattle.hp_spmd.specs.Local.{local_next}
use Rattle.hp_spmd.specs.Next.{Tells}
use Rattle.hp_spmd.specs.Ranks.{IsRank}
use Rattle.hp_spmd.specs.Store.{instr_at}
use Rattle.hp_spmd.proofs.LockRound.{together_local}
use Rattle.hp_spmd.proofs.LockCompute.{rank_here, room_here, done_one, done_trap, done_all, tells_moved, tells_trapped, tells_all_moved, tells_all_trapped}
use Rattle.hp_spmd.proofs.lockstep.round.compute.Goals as goal

here : (c : goal.After-index-stores-i) → IsRank (length c.args.stores.now) c.args.at c.loop-i.i (get_or c.loop-i.stores c.loop-i.i c.index-stores-i.result)
here c =
    rank_here (local_next c.args.code.now.arrays c.args.tables.now (instr_at c.args.code.now.list c.args.at)) c.args.at c.loop-i.i
    c.args.stores.now c.loop-i.stores c.index-stores-i.result c.loop-i.invariant c.loop-i-test.true c.requires.ranks

pub local-requires-clause-at : goal.local-requires-clause-at
local-requires-clause-at c = let p = (here c).position_is in omega (arith, p, c.requires.inside)

pub local-requires-clause-local : goal.local-requires-clause-local
local-requires-clause-local c =
    subst (λ p. IsLocal (kind_of (instr_at c.args.code.now.list p))) (sym (here c).position_is) (together_local (kind_of (instr_at c.args.code.now.list c.args.at)) c.requires.together)

pub local-requires-clause-some : goal.local-requires-clause-some
local-requires-clause-some c = omega (arith, (here c).ranks_are, c.requires.some)

pub local-requires-clause-few : goal.local-requires-clause-few
local-requires-clause-few c = omega (arith, (here c).ranks_are, c.requires.few)

pub local-requires-clause-among : goal.local-requires-clause-among
local-requires-clause-among c = omega (arith, (here c).ranks_are, (here c).number_is, c.loop-i-test.true)

pub local-requires-clause-executed : goal.local-requires-clause-executed
local-requires-clause-executed c =
    room_here (local_next c.args.code.now.arrays c.args.tables.now (instr_at c.args.code.now.list c.args.at)) (2 ^ 64 - 1) c.loop-i.i
    c.args.stores.now c.loop-i.stores c.index-stores-i.result c.loop-i.invariant c.loop-i-test.true c.requires.executed

-- the answer of the rank that is next, once it is known
told_at : (dists : List Dist) (tables : Tables) (list : List Instr) (at : ℕ) (x new : Store) (l l2 : Local) → x.position ≡ at → l ≡ l2
    → Tells (local_next dists tables (instr_at list x.position) x) l x new → Tells (local_next dists tables (instr_at list at) x) l2 x new
told_at dists tables list at x new l l2 e is h =
    subst (λ m. Tells (local_next dists tables (instr_at list at) x) m x new) is
    (subst (λ q. Tells (local_next dists tables (instr_at list q) x) l x new) e h)

pub returns-in-Trapped : goal.returns-in-Trapped
returns-in-Trapped c =
    let i = instr_at c.args.code.now.list c.args.at in
    let f = local_next c.args.code.now.arrays c.args.tables.now i in
    let xs = c.args.stores.now in
    let ys = c.loop-i.stores in
    let d = c.index-stores-i.result in
    let x = get_or ys c.loop-i.i d in
    let rank = rank_here f c.args.at c.loop-i.i xs ys d c.loop-i.invariant c.loop-i-test.true c.requires.ranks in
    let told =
    told_at c.args.code.now.arrays c.args.tables.now c.args.code.now.list c.args.at x c.local.new.self c.in_ok-local.field-0
    (Trapped c.in-Trapped.place c.in-Trapped.kind) rank.position_is c.in-Trapped.is c.in_ok-local.ensures.told in
    tells_all_trapped (together f xs) c.in-Trapped.place c.in-Trapped.kind (set ys c.loop-i.i c.local.new.self)
    (done_trap f xs ys c.loop-i.i d (trap c.in-Trapped.place c.in-Trapped.kind) c.loop-i.invariant c.loop-i-test.true
    (tells_trapped (f x) c.in-Trapped.place c.in-Trapped.kind x c.local.new.self told))

pub loop-i-preserved : goal.loop-i-preserved
loop-i-preserved c =
    let i = instr_at c.args.code.now.list c.args.at in
    let f = local_next c.args.code.now.arrays c.args.tables.now i in
    let xs = c.args.stores.now in
    let ys = c.loop-i.stores in
    let d = c.index-stores-i.result in
    let x = get_or ys c.loop-i.i d in
    let rank = rank_here f c.args.at c.loop-i.i xs ys d c.loop-i.invariant c.loop-i-test.true c.requires.ranks in
    let told =
    told_at c.args.code.now.arrays c.args.tables.now c.args.code.now.list c.args.at x c.local.new.self c.in_ok-local.field-0
    Moved rank.position_is c.in-Moved.is c.in_ok-local.ensures.told in
    done_one f xs ys c.loop-i.i d c.local.new.self c.loop-i.invariant c.loop-i-test.true c.loop-i.auto.stores
    (tells_moved (f x) x c.local.new.self told)

pub returns : goal.returns
returns c =
    let f = local_next c.args.code.now.arrays c.args.tables.now (instr_at c.args.code.now.list c.args.at) in
    tells_all_moved (together f c.args.stores.now) c.loop-i.stores
    (done_all f c.args.stores.now c.loop-i.stores c.loop-i.i c.loop-i.invariant c.loop-i-test.false c.loop-i.auto.stores)
