-- What is refused is no script, and is refused at one place by one rule.
use Rattle.std.proofs.Common.{◌≡◌, ℕ, ◌≤◌, ◌<◌, List, [], ◌∷◌, ◌++◌, refl, ap, sym, ◌∙◌, subst, append_assoc, arith}
use Rattle.std.proofs.lemmas.List.{append-nil}
use Rattle.hp_word.specs.declared.place.Place.{Place}
use Rattle.hp_script.specs.declared.rule.Rule.{Rule}
use Rattle.hp_script.specs.declared.rule.Rule.TheVariants as rules
use Rattle.hp_script.specs.declared.tree.Stmt.{Stmt}
use Rattle.hp_script.specs.Lexemes.{Lexed}
use Rattle.hp_script.specs.Grammar.{Spells, Begins}
use Rattle.hp_script.specs.Depth.{Nesting, nested, nesting_behind, outermost, IsShallow, deepest}
use Rattle.hp_script.specs.Refusals.{GoesWrong, BreaksOff, GoesTooDeep, IsNoScript}

-- ---- fronts

-- two fronts of one list: they are equal, or one of them is longer
data Compared (a x b y : List Lexed) : Type 0 where
  equal : a ≡ b → x ≡ y → Compared a x b y
  shorter : (token : Lexed) (more : List Lexed) → b ≡ a ++ token ∷ more → x ≡ token ∷ (more ++ y) → Compared a x b y
  longer : (token : Lexed) (more : List Lexed) → a ≡ b ++ token ∷ more → y ≡ token ∷ (more ++ x) → Compared a x b y

same_head : (t s : Lexed) (a b : List Lexed) → t ∷ a ≡ s ∷ b → t ≡ s
same_head t s a b e = cc

same_rest : (t s : Lexed) (a b : List Lexed) → t ∷ a ≡ s ∷ b → a ≡ b
same_rest t s a b e = cc

compared_behind : (t s : Lexed) (a x b y : List Lexed) → t ≡ s → Compared a x b y → Compared (t ∷ a) x (s ∷ b) y
compared_behind t s a x b y e (equal f r) = equal (ap (λ (u : Lexed). u ∷ a) e ∙ ap (λ (all : List Lexed). s ∷ all) f) r
compared_behind t s a x b y e (shorter token more f r) = shorter token more (ap (λ (u : Lexed). u ∷ b) (sym e) ∙ ap (λ (all : List Lexed). t ∷ all) f) r
compared_behind t s a x b y e (longer token more f r) = longer token more (ap (λ (u : Lexed). u ∷ a) e ∙ ap (λ (all : List Lexed). s ∷ all) f) r

compared : (a x b y : List Lexed) → a ++ x ≡ b ++ y → Compared a x b y
compared [] x [] y e = equal refl e
compared [] x (s ∷ b) y e = shorter s b refl e
compared (t ∷ a) x [] y e = longer t a refl (sym e)
compared (t ∷ a) x (s ∷ b) y e = compared_behind t s a x b y (same_head t s (a ++ x) (b ++ y) e) (compared a x b y (same_rest t s (a ++ x) (b ++ y) e))

-- what begins a script has fronts that do
pub begins_less : (a b : List Lexed) → Begins (a ++ b) → Begins a
begins_less a b h = record {
  more = b ++ h.more;
  body = h.body;
  nodes = h.nodes;
  spelled = subst (λ (all : List Lexed). Spells all h.body h.nodes) (append_assoc a b h.more) h.spelled;
}

begins_token : (front : List Lexed) (token : Lexed) (more : List Lexed) → Begins (front ++ token ∷ more) → Begins (front ++ token ∷ [])
begins_token front token more h = begins_less (front ++ token ∷ []) more (subst Begins (sym (append_assoc front (token ∷ []) more)) h)

-- none of the tokens is too deep, so this one is not
pub shallow_at : (n : Nesting) (front : List Lexed) (token : Lexed) (more : List Lexed) → IsShallow n (front ++ token ∷ more)
    → (nested (nesting_behind n front) token.what).depth ≤ deepest
shallow_at n [] token more h = h.0
shallow_at n (first ∷ front) token more h = shallow_at (nested n first.what) front token more h.1

-- ---- two breaks

-- no script's tokens go on with the token that goes wrong
wrong_token : (front rest : List Lexed) (end place : Place) (token : Lexed) (more : List Lexed) → rest ≡ token ∷ more → GoesWrong front rest end place → ¬ Begins (front ++ token ∷ [])
wrong_token front rest end place token more e h = let there : GoesWrong front (token ∷ more) end place = subst (λ (all : List Lexed). GoesWrong front all end place) e h in there.0

break_shorter : (end place : Place) (front rest other : List Lexed) (token : Lexed) (more left : List Lexed) → other ≡ front ++ token ∷ more → rest ≡ token ∷ left
    → GoesWrong front rest end place → Begins other → ⊥
break_shorter end place front rest other token more left f r wrong begins =
    wrong_token front rest end place token left r wrong (begins_token front token more (subst Begins f begins))

wrong_place : (front other rest : List Lexed) (end p q : Place) → GoesWrong front rest end p → GoesWrong other rest end q → p ≡ q
wrong_place front other [] end p q h k = h.1 ∙ sym k.1
wrong_place front other (token ∷ rest) end p q h k = h.1 ∙ sym k.1

one_break : (tokens : List Lexed) (end p q : Place) → BreaksOff tokens end p → BreaksOff tokens end q → p ≡ q
one_break tokens end p q h k = go (compared h.front h.rest k.front k.rest (sym h.parts ∙ k.parts))
  where
    go : Compared h.front h.rest k.front k.rest → p ≡ q
    go (equal f r) = wrong_place h.front k.front h.rest end p q h.wrong (subst (λ (all : List Lexed). GoesWrong k.front all end q) (sym r) k.wrong)
    go (shorter token more f r) = absurd (break_shorter end p h.front h.rest k.front token more (more ++ k.rest) f r h.wrong k.begins)
    go (longer token more f r) = absurd (break_shorter end q k.front k.rest h.front token more (more ++ h.rest) f r k.wrong h.begins)

-- ---- too deep

-- a token that is too deep stands in no front whose tokens are not
deep_shorter : (front other : List Lexed) (token next : Lexed) (more rest left : List Lexed) → other ≡ front ++ next ∷ more → token ∷ rest ≡ next ∷ left
    → deepest < (nested (nesting_behind outermost front) token.what).depth → IsShallow outermost other → ⊥
deep_shorter front other token next more rest left f r deep shallow =
    let low : (nested (nesting_behind outermost front) next.what).depth ≤ deepest = shallow_at outermost front next more (subst (IsShallow outermost) f shallow) in
    let high : deepest < (nested (nesting_behind outermost front) next.what).depth =
    subst (λ (t : Lexed). deepest < (nested (nesting_behind outermost front) t.what).depth) (same_head token next rest left r) deep in
    absurd (omega arith)

one_deep : (tokens : List Lexed) (p q : Place) → GoesTooDeep tokens p → GoesTooDeep tokens q → p ≡ q
one_deep tokens p q h k = go (compared h.front (h.token ∷ h.rest) k.front (k.token ∷ k.rest) (sym h.parts ∙ k.parts))
  where
    go : Compared h.front (h.token ∷ h.rest) k.front (k.token ∷ k.rest) → p ≡ q
    go (equal f r) = h.placed ∙ ap (λ (t : Lexed). t.at) (same_head h.token k.token h.rest k.rest r) ∙ sym k.placed
    go (shorter token more f r) = absurd (deep_shorter h.front k.front h.token token more h.rest (more ++ k.token ∷ k.rest) f r h.deep k.shallow)
    go (longer token more f r) = absurd (deep_shorter k.front h.front k.token token more k.rest (more ++ h.token ∷ h.rest) f r k.deep h.shallow)

break_or_deep : (tokens : List Lexed) (end p q : Place) → BreaksOff tokens end p → GoesTooDeep tokens q → ⊥
break_or_deep tokens end p q h k = go (compared h.front h.rest k.front (k.token ∷ k.rest) (sym h.parts ∙ k.parts))
  where
    go : Compared h.front h.rest k.front (k.token ∷ k.rest) → ⊥
    go (equal f r) = wrong_token h.front h.rest end p k.token k.rest r h.wrong (subst (λ (all : List Lexed). Begins (all ++ k.token ∷ [])) (sym f) k.begins)
    go (shorter token more f r) = break_shorter end p h.front h.rest k.front token more (more ++ k.token ∷ k.rest) f r h.wrong (begins_less k.front (k.token ∷ []) k.begins)
    go (longer token more f r) = deep_shorter k.front h.front k.token token more k.rest (more ++ h.rest) f r k.deep h.shallow

-- ---- the laws

-- Tokens are refused at one place, by one rule.
pub one_refusal : (tokens : List Lexed) (end p q : Place) (rule other : Rule) → IsNoScript tokens end p rule → IsNoScript tokens end q other → (p ≡ q) × (rule ≡ other)
one_refusal tokens end p q rules.Syntax rules.Syntax h k = (one_break tokens end p q h k, refl)
one_refusal tokens end p q rules.Syntax rules.TooDeep h k = absurd (break_or_deep tokens end p q h k)
one_refusal tokens end p q rules.TooDeep rules.Syntax h k = absurd (break_or_deep tokens end q p k h)
one_refusal tokens end p q rules.TooDeep rules.TooDeep h k = (one_deep tokens p q h k, refl)
one_refusal tokens end p q rules.Syntax _ h k = absurd k
one_refusal tokens end p q rules.TooDeep _ h k = absurd k
one_refusal tokens end p q _ other h k = absurd h

break_no_script : (tokens : List Lexed) (end place : Place) (front rest : List Lexed) (body : List Stmt) (nodes : ℕ) → tokens ≡ front ++ rest → GoesWrong front rest end place
    → ¬ Spells tokens body nodes
break_no_script tokens end place front [] body nodes parts wrong spelled = wrong.0 body nodes (subst (λ (all : List Lexed). Spells all body nodes) (parts ∙ append-nil front) spelled)
break_no_script tokens end place front (token ∷ rest) body nodes parts wrong spelled =
    wrong.0 (record { more = rest; body = body; nodes = nodes; spelled = subst (λ (all : List Lexed). Spells all body nodes) (parts ∙ sym (append_assoc front (token ∷ []) rest)) spelled })

-- What is refused is no script that is shallow.
pub refused_no_script : (tokens : List Lexed) (end place : Place) (rule : Rule) (body : List Stmt) (nodes : ℕ) → IsNoScript tokens end place rule → Spells tokens body nodes
    → IsShallow outermost tokens → ⊥
refused_no_script tokens end place rules.Syntax body nodes h spelled shallow = break_no_script tokens end place h.front h.rest body nodes h.parts h.wrong spelled
refused_no_script tokens end place rules.TooDeep body nodes h spelled shallow =
    let low : (nested (nesting_behind outermost h.front) h.token.what).depth ≤ deepest = shallow_at outermost h.front h.token h.rest (subst (IsShallow outermost) h.parts shallow) in
    let high : deepest < (nested (nesting_behind outermost h.front) h.token.what).depth = h.deep in
    absurd (omega arith)
refused_no_script tokens end place _ body nodes h spelled shallow = absurd h
