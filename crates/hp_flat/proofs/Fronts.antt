-- What follows from two lists that go together, taken from the front: part by part, one behind the other; and the types
-- that are told at numbers as such lists.
use Rattle.std.proofs.Common.{◌≡◌, ℕ, List, [], ◌∷◌, ◌++◌, Option, subst, append_assoc}
use Rattle.std.specs.List.{AllZip}
use Rattle.hp_script.specs.declared.typed.Shape.{Shape}
use Rattle.hp_air.specs.Unknowns.{Known, shape_at}

-- From the items of a part in both lists, whatever stands behind them, this follows.
pub record Gives {A B : Type 0} (S : List A → List B → Type 0) (P : Type 0) (ns : List A) (es : List B) : Type 0 where
  pub take : (more : List A) (others : List B) → S (ns ++ more) (es ++ others) → P × S more others

pub gives_nothing : {A B : Type 0} {S : List A → List B → Type 0} → Gives S (Unit {0}) [] []
gives_nothing = record { take = λ more others t. (tt, t) }

pub gives_both : {A B : Type 0} {S : List A → List B → Type 0} {P Q : Type 0} {ns ms : List A} {es fs : List B} → Gives S P ns es → Gives S Q ms fs → Gives S (P × Q) (ns ++ ms) (es ++ fs)
gives_both {S = S} {ns = ns} {ms = ms} {es = es} {fs = fs} p q = record {
  take = λ more others t.
      let shifted = subst (λ (l : List _). S l (es ++ (fs ++ others))) (append_assoc ns ms more) (subst (λ (l : List _). S ((ns ++ ms) ++ more) l) (append_assoc es fs others) t) in
      let r = p.take (ms ++ more) (fs ++ others) shifted in
      let k = q.take more others r.1 in
      ((r.0, k.0), k.1);
}

pub gives_mapped : {A B : Type 0} {S : List A → List B → Type 0} {P Q : Type 0} {ns : List A} {es : List B} → (P → Q) → Gives S P ns es → Gives S Q ns es
gives_mapped f p = record { take = λ more others t. let r = p.take more others t in (f r.0, r.1) }

-- the same items of the second list
pub gives_as : {A B : Type 0} {S : List A → List B → Type 0} {P : Type 0} {ns : List A} {es fs : List B} → es ≡ fs → Gives S P ns es → Gives S P ns fs
gives_as {S = S} {P = P} {ns = ns} e p = subst (λ (l : List _). Gives S P ns l) e p

-- the last argument of a call
pub gives_last : {A B : Type 0} {S : List A → List B → Type 0} {P : Type 0} {ns : List A} {es : List B} → Gives S P ns es → Gives S P (ns ++ []) (es ++ [])
gives_last p = gives_mapped (λ r. r.0) (gives_both p gives_nothing)

-- ---- types at numbers

-- these entries are at these numbers
abbrev pub AreAt : Known → List ℕ → List (Option Shape) → Type 0
AreAt g ns es = AllZip (λ (k : ℕ) (e : Option Shape). shape_at g k ≡ e) ns es

pub gives_one : (g : Known) {n : ℕ} {e : Option Shape} → Gives (AreAt g) (shape_at g n ≡ e) (n ∷ []) (e ∷ [])
gives_one g = record { take = λ more others t. (t.0, t.1) }

pub gives_behind : (g : Known) {P : Type 0} {n : ℕ} {e : Option Shape} {ns : List ℕ} {es : List (Option Shape)} → Gives (AreAt g) P ns es
    → Gives (AreAt g) ((shape_at g n ≡ e) × P) (n ∷ ns) (e ∷ es)
gives_behind g p = record { take = λ more others t. let r = p.take more others t.1 in ((t.0, r.0), r.1) }
