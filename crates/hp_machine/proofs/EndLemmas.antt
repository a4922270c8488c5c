-- How a call ends, by its last turn.
use Rattle.std.proofs.Common.{◌≡◌, ◌∙◌, sym, subst, ap, arith, ℕ, ◌<◌, ltb, ltb-true, ltb-false, Bool, true, false, List, [], ◌∷◌, ◌++◌, append-nil, length, length-append, Some}
use Rattle.hp_word.specs.declared.place.Trap.{Trap}
use Rattle.hp_word.specs.Lengths.{trap}
use Rattle.hp_network.specs.Network as network
use Rattle.hp_network.specs.Network.{State, HasEnded, turn}
use Rattle.hp_spmd.specs.declared.store.Store.{Store}
use Rattle.hp_machine.specs.declared.machine.Turned.{Turned}
use Rattle.hp_machine.specs.declared.machine.Turned.TheVariants as turned
use Rattle.hp_machine.specs.declared.running.RunEnd.{RunEnd}
use Rattle.hp_machine.specs.declared.running.RunEnd.TheVariants as end
use Rattle.hp_machine.specs.Ends.{ComesTo, EndsBy, GoesOn, StandsAs, end_of}
use Rattle.hp_machine.specs.Machines.{TellsOf}
use Rattle.hp_machine.proofs.MoveLemmas.{turn_text}

-- what has not grown is as it was
not_grown : (old text later : List ℕ) → later ≡ old ++ text → (length old < length later → ⊥) → later ≡ old
not_grown old [] later is same = is ∙ append-nil old
not_grown old (x ∷ xs) later is same =
    let l = ap length is in
    let g = length-append old (x ∷ xs) in
    absurd (same (omega (arith, l, g)))

goes_to : (m : network.Machine Store) (s later : State Store) (r : ℕ) (wrote : Bool) → wrote ≡ ltb (length s.out) (length later.out) → later ≡ turn m s r → GoesOn m later → ComesTo m s later (end_of turned.Waited wrote)
goes_to m s later r true wrote is goes = (goes, ltb-true (length s.out) (length later.out) (sym wrote))
goes_to m s later r false wrote is goes =
    let text = turn_text m s r in
    let le = ltb-false (length s.out) (length later.out) (sym wrote) in
    (goes, not_grown s.out text.0 later.out (ap (λ z. z.out) is ∙ text.1) (λ lt. omega (arith, lt, le)))

-- a turn told how the call ends with it
pub turn_ends : (m : network.Machine Store) (s later : State Store) (r : ℕ) (t : Turned) (wrote : Bool) → wrote ≡ ltb (length s.out) (length later.out) → later ≡ turn m s r → TellsOf m s later r t → ComesTo m s later (end_of t wrote)
turn_ends m s later r turned.Moved wrote grew is tells = goes_to m s later r wrote grew is (tells.0, tells.1)
turn_ends m s later r turned.Waited wrote grew is tells = goes_to m s later r wrote grew is (tells.0, tells.1)
turn_ends m s later r turned.Ended wrote grew is tells = tells
turn_ends m s later r (turned.Trapped at kind) wrote grew is tells = tells

-- as nothing was written before the last turn, the call ends as its last turn does
pub last_ends : (m : network.Machine Store) (s mid later : State Store) (e : RunEnd) → mid.out ≡ s.out → ComesTo m mid later (Some e) → EndsBy m s later e
last_ends m s mid later end.Ended same comes = comes
last_ends m s mid later (end.Trapped at kind) same comes = comes
last_ends m s mid later end.Spent same comes = absurd comes
last_ends m s mid later end.Wrote same comes = (comes.0, subst (λ out. length out < length later.out) same comes.1)

pub last_not_spent : {P : Type 0} (m : network.Machine Store) (mid later : State Store) (e : RunEnd) → ComesTo m mid later (Some e) → e ≡ end.Spent → P
last_not_spent m mid later end.Ended comes is = absurd cc
last_not_spent m mid later (end.Trapped at kind) comes is = absurd cc
last_not_spent m mid later end.Spent comes is = absurd comes
last_not_spent m mid later end.Wrote comes is = absurd cc

-- a call that makes no turn
pub stands_ends : (m : network.Machine Store) (s : State Store) (e : RunEnd) → ((t : Trap) → s.trap ≡ Some t → HasEnded m s → ⊥) → StandsAs m s (Some e) → EndsBy m s s e
stands_ends m s end.Ended open_ stands = stands
stands_ends m s (end.Trapped at kind) open_ stands = (stands, open_ (trap at kind) stands)
stands_ends m s end.Spent open_ stands = absurd stands
stands_ends m s end.Wrote open_ stands = absurd stands

pub stands_not_spent : {P : Type 0} (m : network.Machine Store) (s : State Store) (e : RunEnd) → StandsAs m s (Some e) → e ≡ end.Spent → P
stands_not_spent m s end.Ended stands is = absurd cc
stands_not_spent m s (end.Trapped at kind) stands is = absurd cc
stands_not_spent m s end.Spent stands is = absurd stands
stands_not_spent m s end.Wrote stands is = absurd stands
