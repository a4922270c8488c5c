-- What the end of the machine with its limit says of a script: it is the one that the tokens spell, or they spell none.
use Rattle.std.proofs.Common.{◌≡◌, ℕ, List}
use Rattle.hp_word.specs.declared.place.Place.{Place}
use Rattle.hp_script.specs.declared.rule.Rule.{Rule}
use Rattle.hp_script.specs.declared.tree.Stmt.{Stmt}
use Rattle.hp_script.specs.Lexemes.{Lexed}
use Rattle.hp_script.specs.Grammar.{Spells}
use Rattle.hp_script.specs.Depth.{outermost, IsShallow}
use Rattle.hp_script.specs.Refusals.{IsNoScript}
use Rattle.hp_parse.specs.Machine.{Accepted, Refused, Leads, too_deep, start}
use Rattle.hp_parse.proofs.RefusedOnce.{one_refusal, refused_no_script}
use Rattle.hp_parse.proofs.RefusedLaws.{Laws, one_end, not_both, stays_accepted, shallow, refused}

-- the machine comes here at a script that is shallow
comes : Laws → (tokens : List Lexed) (end : Place) (body : List Stmt) (nodes : ℕ) → Spells tokens body nodes → IsShallow outermost tokens
    → Leads too_deep end (start tokens) (Accepted body nodes)
comes laws tokens end body nodes spelled low = (shallow tokens end body nodes).1 (laws.followed tokens end body nodes spelled, low)

-- What the machine accepts is spelled so, and is shallow.
pub accepted_spelled : Laws → (tokens : List Lexed) (end : Place) (body : List Stmt) (nodes : ℕ) → Leads too_deep end (start tokens) (Accepted body nodes)
    → Spells tokens body nodes × IsShallow outermost tokens
accepted_spelled laws tokens end body nodes l =
    let h = (shallow tokens end body nodes).0 l in
    (laws.sound tokens end body nodes h.0, h.1)

accepted_same : (a b : List Stmt) (k l : ℕ) → Accepted a k ≡ Accepted b l → (a ≡ b) × (k ≡ l)
accepted_same a b k l e = (cc, cc)

-- It accepts the one script that the tokens spell.
pub accepted_only : Laws → (tokens : List Lexed) (end : Place) (body other : List Stmt) (nodes count : ℕ) → Leads too_deep end (start tokens) (Accepted body nodes)
    → Spells tokens other count → IsShallow outermost tokens → (body ≡ other) × (nodes ≡ count)
accepted_only laws tokens end body other nodes count l spelled low =
    accepted_same body other nodes count
    (one_end too_deep end (start tokens) (Accepted body nodes) (Accepted other count) l (comes laws tokens end other count spelled low)
    (stays_accepted too_deep end body nodes) (stays_accepted too_deep end other count))

-- It refuses no script that is shallow.
pub refused_none : Laws → (tokens : List Lexed) (end place : Place) (rule : Rule) (body : List Stmt) (nodes : ℕ) → Leads too_deep end (start tokens) (Refused place rule)
    → Spells tokens body nodes → IsShallow outermost tokens → ⊥
refused_none laws tokens end place rule body nodes l spelled low =
    not_both too_deep end (start tokens) body nodes place rule (comes laws tokens end body nodes spelled low) l

-- It refuses where the tokens are no script, by that rule.
pub refused_only : Laws → (tokens : List Lexed) (end place at : Place) (rule other : Rule) → Leads too_deep end (start tokens) (Refused place rule)
    → IsNoScript tokens end at other → (place ≡ at) × (rule ≡ other)
refused_only laws tokens end place at rule other l h = one_refusal tokens end place at rule other (refused laws tokens end place rule l) h

-- It accepts nothing that is no script.
pub accepted_none : Laws → (tokens : List Lexed) (end place : Place) (rule : Rule) (body : List Stmt) (nodes : ℕ) → Leads too_deep end (start tokens) (Accepted body nodes)
    → IsNoScript tokens end place rule → ⊥
accepted_none laws tokens end place rule body nodes l h =
    let spelled = accepted_spelled laws tokens end body nodes l in
    refused_no_script tokens end place rule body nodes h spelled.0 spelled.1
