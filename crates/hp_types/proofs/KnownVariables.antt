-- Variables that are found by name.
use Rattle.std.proofs.Common.{◌≡◌, ℕ, ◌+◌, ◌<◌, length, drop, slice_get, append_assoc, Bool, true, false, ◌||◌, cond, if◌then◌else◌, Option, List, [], ◌∷◌, ◌++◌, map, is_some, Vec, Some, None, refl, ap, sym, ◌∙◌}
use Rattle.std.specs.Prelude.{bytes_eq}
use Rattle.std.specs.declared.alloc.Global.{Global}
use Rattle.std.specs.Map.{lookup}
use Rattle.std.proofs.lemmas.Option.{get_or_from_slice_get}
use Rattle.indexmap.specs.IndexMap.{insert_entry}
use Rattle.hp_script.specs.declared.typed.Shape.{Shape}
use Rattle.hp_script.specs.declared.typed.Var.{Var}
use Rattle.hp_script.specs.Scope.{has, shape_among, variables_with}
use Rattle.hp_script.specs.Trees.{named}
use Rattle.hp_script.proofs.TestLemmas.{same_bytes}
use Rattle.hp_types.specs.Names.{variables_of}
use Rattle.hp_types.proofs.Lists.{at_place}

-- ---- what is seen of a map

seen_either : (same : Bool) (a : Shape) (vars found : Option Shape) → vars ≡ found → (if same then Some a else vars) ≡ cond same (Some a) found
seen_either true a vars found e = refl
seen_either false a vars found e = e

pub shape_seen : (x : List ℕ) (entries : List (Vec ℕ Global × Shape)) → shape_among (variables_of entries) x ≡ lookup (λ (name : Vec ℕ Global). bytes_eq x name.items) entries
shape_seen x [] = refl
shape_seen x (entry ∷ entries) =
    seen_either (bytes_eq x entry.0.items) entry.1 (shape_among (variables_of entries) x) (lookup (λ (name : Vec ℕ Global). bytes_eq x name.items) entries) (shape_seen x entries)

seen_more : (entries : List (Vec ℕ Global × Shape)) (name : Vec ℕ Global) (shape : Shape)
    → variables_of (entries ++ (name, shape) ∷ []) ≡ variables_of entries ++ record { name = named name.items; shape = shape } ∷ []
seen_more [] name shape = refl
seen_more (entry ∷ entries) name shape = ap (λ (vars : List Var). record { name = named entry.0.items; shape = entry.1 } ∷ vars) (seen_more entries name shape)

last_either : (same : Bool) (a : Shape) (found : Option Shape) (here there more : List (Vec ℕ Global × Shape)) → is_some (cond same (Some a) found) ≡ false → (is_some found ≡ false → there ≡ more)
    → (if same then here else there) ≡ more
last_either true a found here there more e h = absurd (cc e)
last_either false a found here there more e h = h e

inserted_last : (entries : List (Vec ℕ Global × Shape)) (name : Vec ℕ Global) (shape : Shape) → is_some (lookup (λ (other : Vec ℕ Global). bytes_eq name.items other.items) entries) ≡ false
    → insert_entry (λ (a b : Vec ℕ Global). bytes_eq a.items b.items) entries name shape ≡ entries ++ (name, shape) ∷ []
inserted_last [] name shape e = refl
inserted_last (entry ∷ entries) name shape e =
    last_either (bytes_eq name.items entry.0.items) entry.1 (lookup (λ (other : Vec ℕ Global). bytes_eq name.items other.items) entries) ((entry.0, shape) ∷ entries)
    (entry ∷ insert_entry (λ (a b : Vec ℕ Global). bytes_eq a.items b.items) entries name shape) (entry ∷ entries ++ (name, shape) ∷ []) e
    (λ none. ap (λ (rest : List (Vec ℕ Global × Shape)). entry ∷ rest) (inserted_last entries name shape none))

new_variable : (first : Option Shape) (vars : List Var) (x : List ℕ) (shape : Shape) → is_some first ≡ false → vars ++ record { name = named x; shape = shape } ∷ [] ≡ variables_with first vars x shape
new_variable None vars x shape e = refl
new_variable (Some first) vars x shape e = absurd (cc e)

-- one more variable, where none has the name
pub seen_added : (entries new : List (Vec ℕ Global × Shape)) (x : List ℕ) (name : Vec ℕ Global) (shape : Shape) (old : List Var) → variables_of entries ≡ old → name.items ≡ x
    → is_some (lookup (λ (other : Vec ℕ Global). bytes_eq x other.items) entries) ≡ false → new ≡ insert_entry (λ (a b : Vec ℕ Global). bytes_eq a.items b.items) entries name shape
    → variables_of new ≡ variables_with (shape_among old x) old x shape
seen_added entries new x name shape old is named_so none now =
    ap variables_of (now ∙ inserted_last entries name shape (ap (λ (y : List ℕ). is_some (lookup (λ (other : Vec ℕ Global). bytes_eq y other.items) entries)) named_so ∙ none))
    ∙ seen_more entries name shape
    ∙ ap (λ (y : List ℕ). variables_of entries ++ record { name = named y; shape = shape } ∷ []) named_so
    ∙ ap (λ (vars : List Var). vars ++ record { name = named x; shape = shape } ∷ []) is
    ∙ new_variable (shape_among old x) old x shape (ap (λ (vars : List Var). is_some (shape_among vars x)) (sym is) ∙ ap is_some (shape_seen x entries) ∙ none)

old_variable : (first : Option Shape) (vars : List Var) (x : List ℕ) (shape : Shape) → is_some first ≡ true → vars ≡ variables_with first vars x shape
old_variable None vars x shape e = absurd (cc e)
old_variable (Some first) vars x shape e = refl

pub seen_kept : (entries : List (Vec ℕ Global × Shape)) (x : List ℕ) (shape : Shape) (old : List Var) → variables_of entries ≡ old
    → is_some (lookup (λ (other : Vec ℕ Global). bytes_eq x other.items) entries) ≡ true → old ≡ variables_with (shape_among old x) old x shape
seen_kept entries x shape old is some =
    old_variable (shape_among old x) old x shape (ap (λ (vars : List Var). is_some (shape_among vars x)) (sym is) ∙ ap is_some (shape_seen x entries) ∙ some)

-- one more of the variables
pub listed_more : (entries : List (Vec ℕ Global × Shape)) (i : ℕ) (entry : Vec ℕ Global × Shape) (list now whole : List Var) → i < length entries → Some entry ≡ slice_get entries i
    → now ≡ list ++ record { name = named entry.0.items; shape = entry.1 } ∷ [] → list ++ variables_of (drop i entries) ≡ whole → now ++ variables_of (drop (i + 1) entries) ≡ whole
listed_more entries i entry list now whole within here is so_far =
    ap (λ (vars : List Var). vars ++ variables_of (drop (i + 1) entries)) is ∙ append_assoc list (record { name = named entry.0.items; shape = entry.1 } ∷ []) (variables_of (drop (i + 1) entries))
    ∙ ap (λ (rest : List (Vec ℕ Global × Shape)). list ++ variables_of rest) (sym (at_place entries i entry within (sym (get_or_from_slice_get entries i entry entry (sym here))))) ∙ so_far

-- ---- names that are known

named_either : (same : Bool) (a : Shape) (rest : Bool) (found : Option Shape) → rest ≡ is_some found → (same || rest) ≡ is_some (if same then Some a else found)
named_either true a rest found e = refl
named_either false a rest found e = e

pub named_known : (x : List ℕ) (vars : List Var) → has x (map (λ (var : Var). var.name.bytes) vars) ≡ is_some (shape_among vars x)
named_known x [] = refl
named_known x (var ∷ vars) = named_either (bytes_eq x var.name.bytes) var.shape (has x (map (λ (other : Var). other.name.bytes) vars)) (shape_among vars x) (named_known x vars)

more_either : (same : Bool) (a : Shape) (few more : Option Shape) → (is_some few ≡ true → is_some more ≡ true) → is_some (if same then Some a else few) ≡ true → is_some (if same then Some a else more) ≡ true
more_either true a few more h e = refl
more_either false a few more h e = h e

pub known_more : (x : List ℕ) (vars more : List Var) → is_some (shape_among vars x) ≡ true → is_some (shape_among (vars ++ more) x) ≡ true
known_more x [] more e = absurd (cc e)
known_more x (var ∷ vars) more e = more_either (bytes_eq x var.name.bytes) var.shape (shape_among vars x) (shape_among (vars ++ more) x) (known_more x vars more) e

known_either : (same : Bool) (a : Shape) (found : Option Shape) → is_some found ≡ true → is_some (if same then Some a else found) ≡ true
known_either true a found e = refl
known_either false a found e = e

known_last : (x n : List ℕ) (vars : List Var) (shape : Shape) → bytes_eq x n ≡ true → is_some (shape_among (vars ++ record { name = named n; shape = shape } ∷ []) x) ≡ true
known_last x n [] shape e = rw e refl
known_last x n (var ∷ vars) shape e =
    known_either (bytes_eq x var.name.bytes) var.shape (shape_among (vars ++ record { name = named n; shape = shape } ∷ []) x) (known_last x n vars shape e)

known_with : (first : Option Shape) (x n : List ℕ) (vars : List Var) (shape : Shape) (same known : Bool) → shape_among vars n ≡ first → bytes_eq x n ≡ same → is_some (shape_among vars x) ≡ known
    → (known || same) ≡ true → is_some (shape_among (variables_with first vars n shape) x) ≡ true
known_with (Some first) x n vars shape same true is e known h = known
known_with (Some first) x n vars shape true false is e known h = ap (λ (y : List ℕ). is_some (shape_among vars y)) (same_bytes x n e) ∙ ap is_some is
known_with (Some first) x n vars shape false false is e known h = absurd (cc h)
known_with None x n vars shape same true is e known h = known_more x vars _ known
known_with None x n vars shape true false is e known h = known_last x n vars shape e
known_with None x n vars shape false false is e known h = absurd (cc h)

-- behind an assignment what was sure is known, and so is the name
pub known_assigned : (x n : List ℕ) (vars : List Var) (shape : Shape) (sure : Bool) → (sure ≡ true → is_some (shape_among vars x) ≡ true) → (sure || bytes_eq x n) ≡ true
    → is_some (shape_among (variables_with (shape_among vars n) vars n shape) x) ≡ true
known_assigned x n vars shape sure h e =
    known_with (shape_among vars n) x n vars shape (bytes_eq x n) (is_some (shape_among vars x)) refl refl refl (or_known sure (is_some (shape_among vars x)) (bytes_eq x n) h e)
  where
    or_known : (a b c : Bool) → (a ≡ true → b ≡ true) → (a || c) ≡ true → (b || c) ≡ true
    or_known true b c h e = rw (h refl) refl
    or_known false true c h e = refl
    or_known false false c h e = e
