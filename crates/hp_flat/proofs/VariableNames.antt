-- The variables of a script by their names: what is known of one at some point is so of the whole script.
use Rattle.std.proofs.Common.{◌≡◌, ℕ, suc, ◌+◌, Bool, true, false, not, cond, nat_lt, bytes_eq, List, [], ◌∷◌, ◌++◌, length, slice_get, Option, Some, None, refl, ap, ◌∙◌, arith, option_and_then, option_map, one-add}
use Rattle.std.specs.List.{position_or_len}
use Rattle.hp_script.specs.declared.typed.Shape.{Shape}
use Rattle.hp_script.specs.declared.typed.Var.{Var}
use Rattle.hp_script.specs.Fitting.{FitsBlock, fits_done, fits_first, fits_again, fits_print, fits_export, fits_if, fits_while}
use Rattle.hp_script.specs.Mirror.{Block}
use Rattle.hp_script.specs.Scope.{Scope, shape_among, variables_with}
use Rattle.hp_script.specs.Shaped.{IsOutside}
use Rattle.hp_script.specs.Trees as trees
use Rattle.hp_air.specs.Unknowns.{shape_named}

-- ---- variables

-- a variable at one point has the same type at another
abbrev pub Kept : Scope → Scope → Type 0
Kept s t = (x : List ℕ) (a : Shape) → shape_among s.vars x ≡ Some a → shape_among t.vars x ≡ Some a

more_step : (same : Bool) (own : Shape) (found all : Option Shape) (a : Shape) → (found ≡ Some a → all ≡ Some a) → cond same (Some own) found ≡ Some a → cond same (Some own) all ≡ Some a
more_step true own found all a next e = e
more_step false own found all a next e = next e

kept_more : (vars more : List Var) (x : List ℕ) (a : Shape) → shape_among vars x ≡ Some a → shape_among (vars ++ more) x ≡ Some a
kept_more [] more x a e = absurd cc
kept_more (var ∷ vars) more x a e = more_step (bytes_eq x var.name.bytes) var.shape (shape_among vars x) (shape_among (vars ++ more) x) a (kept_more vars more x a) e

pub kept_with : (first : Option Shape) (vars : List Var) (y : List ℕ) (b : Shape) (x : List ℕ) (a : Shape) → shape_among vars x ≡ Some a → shape_among (variables_with first vars y b) x ≡ Some a
kept_with (Some first) vars y b x a e = e
kept_with None vars y b x a e = kept_more vars (record { name = trees.named y; shape = b } ∷ []) x a e

pub kept_block : {s : Scope} {b : Block} {t : Scope} → FitsBlock s b t → Kept s t
kept_block fits_done x a e = e
kept_block {s = s} (fits_first {x = y} {a = b} p new next) x a e = kept_block next x a (kept_with (shape_among s.vars y) s.vars y b x a e)
kept_block {s = s} (fits_again {x = y} {a = b} p known next) x a e = kept_block next x a (kept_with (shape_among s.vars y) s.vars y b x a e)
kept_block (fits_print p can next) x a e = kept_block next x a e
kept_block (fits_export p next) x a e = kept_block next x a e
kept_block (fits_if p taken passed next) x a e = kept_block next x a (kept_block passed x a (kept_block taken x a e))
kept_block (fits_while p turn next) x a e = kept_block next x a (kept_block turn x a e)

-- the variable that is assigned has its type behind the assignment
last_step : (same : Bool) (b : Shape) → same ≡ true → cond same (Some b) None ≡ Some b
last_step true b e = refl
last_step false b e = absurd cc

last_behind : (vars : List Var) (x : List ℕ) (b : Shape) → bytes_eq x x ≡ true → shape_among vars x ≡ None → shape_among (vars ++ record { name = trees.named x; shape = b } ∷ []) x ≡ Some b
last_behind [] x b same e = last_step (bytes_eq x x) b same
last_behind (var ∷ vars) x b same e = pass (bytes_eq x var.name.bytes) var.shape (shape_among vars x) (shape_among (vars ++ record { name = trees.named x; shape = b } ∷ []) x) (last_behind vars x b same) e
  where
    pass : (same : Bool) (own : Shape) (found all : Option Shape) → (found ≡ None → all ≡ Some b) → cond same (Some own) found ≡ None → cond same (Some own) all ≡ Some b
    pass true own found all next e = absurd cc
    pass false own found all next e = next e

pub assigned_first : (first : Option Shape) (vars : List Var) (x : List ℕ) (b : Shape) → bytes_eq x x ≡ true → shape_among vars x ≡ first → first ≡ None → shape_among (variables_with first vars x b) x ≡ Some b
assigned_first None vars x b same is e = last_behind vars x b same is
assigned_first (Some first) vars x b same is e = absurd cc

-- nothing of a script stands in a lambda
pub outside_block : {s : Scope} {b : Block} {t : Scope} → FitsBlock s b t → IsOutside s → IsOutside t
outside_block fits_done out = out
outside_block (fits_first p new next) out = outside_block next out
outside_block (fits_again p known next) out = outside_block next out
outside_block (fits_print p can next) out = outside_block next out
outside_block (fits_export p next) out = outside_block next out
outside_block (fits_if p taken passed next) out = outside_block next (outside_block passed (outside_block taken out))
outside_block (fits_while p turn next) out = outside_block next (outside_block turn out)

-- ---- the variables of the script by their names

place_step : (same below : Bool) (q : ℕ) (var : Var) (vars : List Var) (rest : Option Shape)
    → option_and_then (λ k. option_map (λ (v : Var). v.shape) (slice_get vars k)) (cond below (Some q) None) ≡ rest
    → option_and_then (λ k. option_map (λ (v : Var). v.shape) (slice_get (var ∷ vars) k)) (cond (cond (not same) below true) (Some (cond (not same) (1 + q) 0)) None) ≡ cond same (Some var.shape) rest
place_step true below q var vars rest e = refl
place_step false true q var vars rest e = rw one-add e
place_step false false q var vars rest e = e

pub place_below : (same : Bool) (q n : ℕ) → nat_lt (cond (not same) (1 + q) 0) (suc n) ≡ cond (not same) (nat_lt q n) true
place_below true q n = grind arith
place_below false q n = grind arith

-- the first variable of a name in the list is the one of that name
pub named_among : (vars : List Var) (shapes : List (Option Shape)) (x : List ℕ) → shape_named (record { shapes = shapes; vars = vars }) x ≡ shape_among vars x
named_among [] shapes x = refl
named_among (var ∷ vars) shapes x =
    let q = position_or_len (λ (v : Var). bytes_eq x v.name.bytes) vars in
    let same = bytes_eq x var.name.bytes in
    ap (λ (b : Bool). option_and_then (λ k. option_map (λ (v : Var). v.shape) (slice_get (var ∷ vars) k)) (cond b (Some (cond (not same) (1 + q) 0)) None)) (place_below same q (length vars))
    ∙ place_step same (nat_lt q (length vars)) q var vars (shape_among vars x) (named_among vars shapes x)
