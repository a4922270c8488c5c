-- Arguments that are arrays or columns, one after the other.
use Rattle.std.proofs.Common.{◌≡◌, ◌≢◌, ℕ, ℤ, suc, zero, ◌+◌, ◌<◌, ◌≤◌, List, [], ◌∷◌, ◌++◌, length, get_or, drop, drop-cons, arith, append_assoc, append-nil, Some, None, Err, refl, ap, sym, ◌∙◌}
use Rattle.std.proofs.lemmas.List.{drop_all}
use Rattle.hp_word.specs.declared.name.Name.{Name}
use Rattle.hp_word.specs.declared.place.Place.{Place}
use Rattle.hp_script.specs.declared.tree.Expr.{Expr}
use Rattle.hp_script.specs.declared.tree.Arg.{Arg}
use Rattle.hp_script.specs.declared.tree.Arg.TheVariants as arg
use Rattle.hp_script.specs.declared.tree.Arg.TheViews.{Plain, Named}
use Rattle.hp_script.specs.Mirror.{tree_of, args_of, arg_of}
use Rattle.hp_meaning.specs.declared.seen.Seen.{Seen}
use Rattle.hp_meaning.specs.declared.seen.Stop.{Stop}
use Rattle.hp_meaning.specs.declared.seen.Stop.TheVariants as stop
use Rattle.hp_meaning.specs.declared.value.Column.{Column}
use Rattle.hp_meaning.specs.declared.value.Value.{Value}
use Rattle.hp_meaning.specs.FrameRules as frames
use Rattle.hp_meaning.specs.Operands.{as_numbers}
use Rattle.hp_meaning.specs.Outcomes.{Outcome, Is, Stops, Wrong, followed, needed, stopped, ComesTo}
use Rattle.hp_meaning.specs.Scopes.{Scope}
use Rattle.hp_meaning.specs.ValueOf.{Supply, value, parts, rows_among, columns_among}
use Rattle.hp_meaning.proofs.Answering.{followed_is, followed_stops, needed_some, needed_none}
use Rattle.hp_meaning.proofs.TreeSizes.{tree_size, args_size}

-- what was made, with what comes to it
abbrev pub behind : {A : Type 0} → List A → Outcome (List A) → Outcome (List A)
behind made more = followed more (λ xs. Is (made ++ xs))

behind_none : {A : Type 0} (o : Outcome (List A)) → o ≡ behind [] o
behind_none (Is xs n) = refl
behind_none (Stops t n) = refl
behind_none Wrong = refl

behind_more : {A : Type 0} (made : List A) (x : A) (o : Outcome (List A)) → behind made (followed o (λ xs. Is (x ∷ xs))) ≡ behind (made ++ x ∷ []) o
behind_more made x (Is xs n) = ap (λ l. Is l n) (sym (append_assoc made (x ∷ []) xs))
behind_more made x (Stops t n) = refl
behind_more made x Wrong = refl

behind_stops : {A : Type 0} (made : List A) (e : Stop) (n : Seen) → behind made (stopped e n) ≡ stopped e n
unfolding stopped
behind_stops made (stop.Trap t) n = refl
behind_stops made stop.Wrong n = refl
behind_stops made stop.NoMemory n = refl

next_is : (items : List Arg) (i : ℕ) (item : Arg) → i < length items → item ≡ get_or items i item → drop i items ≡ item ∷ drop (i + 1) items
next_is items i item lt is =
    let step : i + 1 ≡ suc i = omega arith in
    rw step (drop-cons items i item lt ∙ ap (λ a. a ∷ drop (suc i) items) (sym is))

more_size : (a : Arg) (rest : List Arg) → args_size (args_of rest) < args_size (args_of (a ∷ rest))
unfolding args_of arg_of tree_of tree_size args_size
more_size (arg.Plain' id at form) rest = omega arith
more_size (arg.Range' id at form last_id last_at last) rest = omega arith
more_size (arg.Lambda' parameter id at form) rest = omega arith
more_size (arg.Named' name place id at form) rest = omega arith

-- an argument's expression is smaller than the arguments
pub plain_smaller : (items : List Arg) (i : ℕ) (item : Arg) (x : Expr) → i < length items → item ≡ get_or items i item → item ≡ Plain x → tree_size (tree_of x) < args_size (args_of items)
unfolding args_of arg_of tree_of tree_size args_size
plain_smaller [] i item x lt is e = absurd (omega arith)
plain_smaller (a ∷ rest) zero item x lt is e =
    let size : args_size (args_of (a ∷ rest)) ≡ suc (tree_size (tree_of x) + args_size (args_of rest)) = ap (λ (a : Arg). args_size (args_of (a ∷ rest))) (sym is ∙ e) in
    omega arith
plain_smaller (a ∷ rest) (suc i) item x lt is e =
    let less = plain_smaller rest i item x (omega arith) is e in
    let more = more_size a rest in
    omega arith

pub named_smaller : (items : List Arg) (i : ℕ) (item : Arg) (name : Name) (place : Place) (x : Expr) → i < length items → item ≡ get_or items i item → item ≡ Named name place x
    → tree_size (tree_of x) < args_size (args_of items)
unfolding args_of arg_of tree_of tree_size args_size
named_smaller [] i item name place x lt is e = absurd (omega arith)
named_smaller (a ∷ rest) zero item name place x lt is e =
    let size : args_size (args_of (a ∷ rest)) ≡ suc (tree_size (tree_of x) + args_size (args_of rest)) = ap (λ (a : Arg). args_size (args_of (a ∷ rest))) (sym is ∙ e) in
    omega arith
named_smaller (a ∷ rest) (suc i) item name place x lt is e =
    let less = named_smaller rest i item name place x (omega arith) is e in
    let more = more_size a rest in
    omega arith

-- ---- arrays

-- the arrays of these arguments
abbrev rows_of : Supply → Scope → List Arg → Seen → Outcome (List (List ℤ))
rows_of g s items n = rows_among (parts g (args_of items)) s n

rows_next : (g : Supply) (s : Scope) (item : Arg) (x : Expr) (rest : List Arg) (n : Seen) → item ≡ Plain x
    → rows_of g s (item ∷ rest) n ≡ followed (value g (tree_of x) s n) (λ a n. needed (as_numbers a) (λ xs. followed (rows_of g s rest n) (λ xss. Is (xs ∷ xss))))
unfolding rows_among parts args_of arg_of tree_of
rows_next g s item x rest n e = ap (λ (item : Arg). rows_of g s (item ∷ rest) n) e

rows_other : (g : Supply) (s : Scope) (item : Arg) (rest : List Arg) (n : Seen) → ((x : Expr) → item ≡ Plain x → ⊥) → rows_of g s (item ∷ rest) n ≡ Wrong
unfolding rows_among parts args_of arg_of
rows_other g s (arg.Plain' id at form) rest n h = absurd (h (record { id = id; at = at; form = form }) refl)
rows_other g s (arg.Range' id at form last_id last_at last) rest n h = refl
rows_other g s (arg.Lambda' parameter id at form) rest n h = refl
rows_other g s (arg.Named' name place id at form) rest n h = refl

pub rows_none : (g : Supply) (s : Scope) (items : List Arg) (n : Seen) (made : List (List ℤ)) → made ≡ [] → rows_of g s items n ≡ behind made (rows_of g s (drop 0 items) n)
rows_none g s items n made e = behind_none (rows_of g s items n) ∙ ap (λ (made : List (List ℤ)). behind made (rows_of g s items n)) (sym e)

-- what the invariant says of the next argument
rows_at : (g : Supply) (s : Scope) (items : List Arg) (i : ℕ) (item : Arg) (x : Expr) (n m : Seen) (made : List (List ℤ))
    → rows_of g s items n ≡ behind made (rows_of g s (drop i items) m) → i < length items → item ≡ get_or items i item → item ≡ Plain x
    → rows_of g s items n ≡ behind made (followed (value g (tree_of x) s m) (λ a n. needed (as_numbers a) (λ xs. followed (rows_of g s (drop (i + 1) items) n) (λ xss. Is (xs ∷ xss)))))
rows_at g s items i item x n m made h lt is e =
    h ∙ ap (λ (l : List Arg). behind made (rows_of g s l m)) (next_is items i item lt is) ∙ ap (behind made) (rows_next g s item x (drop (i + 1) items) m e)

pub rows_wrong : (g : Supply) (s : Scope) (items : List Arg) (i : ℕ) (item : Arg) (n m : Seen) (made : List (List ℤ))
    → rows_of g s items n ≡ behind made (rows_of g s (drop i items) m) → i < length items → item ≡ get_or items i item → ((x : Expr) → item ≡ Plain x → ⊥)
    → ComesTo (rows_of g s items n) (Err stop.Wrong) m
unfolding stopped
rows_wrong g s items i item n m made h lt is e = λ ne.
    h ∙ ap (λ (l : List Arg). behind made (rows_of g s l m)) (next_is items i item lt is) ∙ ap (behind made) (rows_other g s item (drop (i + 1) items) m e)

pub rows_stop : (g : Supply) (s : Scope) (items : List Arg) (i : ℕ) (item : Arg) (x : Expr) (n m l : Seen) (made : List (List ℤ)) (e : Stop)
    → rows_of g s items n ≡ behind made (rows_of g s (drop i items) m) → i < length items → item ≡ get_or items i item → item ≡ Plain x
    → ComesTo (value g (tree_of x) s m) (Err e) l → ComesTo (rows_of g s items n) (Err e) l
rows_stop g s items i item x n m l made e h lt is p t = λ ne.
    rows_at g s items i item x n m made h lt is p
    ∙ ap (behind made) (followed_stops (value g (tree_of x) s m) e l (λ a n. needed (as_numbers a) (λ xs. followed (rows_of g s (drop (i + 1) items) n) (λ xss. Is (xs ∷ xss)))) (t ne))
    ∙ behind_stops made e l

-- behind the next value
rows_behind : (g : Supply) (s : Scope) (items : List Arg) (i : ℕ) (item : Arg) (x : Expr) (n m l : Seen) (made : List (List ℤ)) (a : Value)
    → rows_of g s items n ≡ behind made (rows_of g s (drop i items) m) → i < length items → item ≡ get_or items i item → item ≡ Plain x → value g (tree_of x) s m ≡ Is a l
    → rows_of g s items n ≡ behind made (needed (as_numbers a) (λ xs. followed (rows_of g s (drop (i + 1) items) l) (λ xss. Is (xs ∷ xss))))
rows_behind g s items i item x n m l made a h lt is p v =
    rows_at g s items i item x n m made h lt is p
    ∙ ap (behind made) (followed_is (value g (tree_of x) s m) a l (λ a n. needed (as_numbers a) (λ xs. followed (rows_of g s (drop (i + 1) items) n) (λ xss. Is (xs ∷ xss)))) v)

pub rows_mixed : (g : Supply) (s : Scope) (items : List Arg) (i : ℕ) (item : Arg) (x : Expr) (n m l : Seen) (made : List (List ℤ)) (a : Value) (e : Stop)
    → rows_of g s items n ≡ behind made (rows_of g s (drop i items) m) → i < length items → item ≡ get_or items i item → item ≡ Plain x → value g (tree_of x) s m ≡ Is a l
    → (e ≢ stop.NoMemory → (e ≡ stop.Wrong) × (as_numbers a ≡ None)) → ComesTo (rows_of g s items n) (Err e) l
rows_mixed g s items i item x n m l made a e h lt is p v t = λ ne.
    rows_behind g s items i item x n m l made a h lt is p v
    ∙ ap (behind made) (needed_none (as_numbers a) e l (λ xs. followed (rows_of g s (drop (i + 1) items) l) (λ xss. Is (xs ∷ xss))) (t ne).0 (t ne).1)
    ∙ behind_stops made e l

pub rows_more : (g : Supply) (s : Scope) (items : List Arg) (i : ℕ) (item : Arg) (x : Expr) (n m l : Seen) (made now : List (List ℤ)) (a : Value) (xs : List ℤ)
    → rows_of g s items n ≡ behind made (rows_of g s (drop i items) m) → i < length items → item ≡ get_or items i item → item ≡ Plain x → value g (tree_of x) s m ≡ Is a l
    → as_numbers a ≡ Some xs → now ≡ made ++ xs ∷ [] → rows_of g s items n ≡ behind now (rows_of g s (drop (i + 1) items) l)
rows_more g s items i item x n m l made now a xs h lt is p v t w =
    rows_behind g s items i item x n m l made a h lt is p v
    ∙ ap (behind made) (needed_some (as_numbers a) xs (λ xs. followed (rows_of g s (drop (i + 1) items) l) (λ xss. Is (xs ∷ xss))) t)
    ∙ behind_more made xs (rows_of g s (drop (i + 1) items) l)
    ∙ ap (λ (made : List (List ℤ)). behind made (rows_of g s (drop (i + 1) items) l)) (sym w)

pub rows_made : (g : Supply) (s : Scope) (items : List Arg) (i : ℕ) (n m : Seen) (made : List (List ℤ))
    → rows_of g s items n ≡ behind made (rows_of g s (drop i items) m) → length items ≤ i → rows_of g s items n ≡ Is made m
unfolding rows_among parts args_of
rows_made g s items i n m made h le =
    h ∙ ap (λ (l : List Arg). behind made (rows_of g s l m)) (drop_all i items le) ∙ ap (λ (l : List (List ℤ)). Is l m) (append-nil made)

-- ---- columns

-- the columns of these arguments
abbrev columns_in : Supply → Scope → List Arg → Seen → Outcome (List Column)
columns_in g s items n = columns_among (parts g (args_of items)) s n

columns_next : (g : Supply) (s : Scope) (item : Arg) (name : Name) (place : Place) (x : Expr) (rest : List Arg) (n : Seen) → item ≡ Named name place x
    → columns_in g s (item ∷ rest) n ≡ followed (value g (tree_of x) s n) (λ a n. needed (as_numbers a) (λ xs. followed (columns_in g s rest n) (λ xss. Is (frames.column name.bytes xs ∷ xss))))
unfolding columns_among parts args_of arg_of tree_of
columns_next g s item name place x rest n e = ap (λ (item : Arg). columns_in g s (item ∷ rest) n) e

columns_other : (g : Supply) (s : Scope) (item : Arg) (rest : List Arg) (n : Seen) → ((name : Name) (place : Place) (x : Expr) → item ≡ Named name place x → ⊥) → columns_in g s (item ∷ rest) n ≡ Wrong
unfolding columns_among parts args_of arg_of
columns_other g s (arg.Plain' id at form) rest n h = refl
columns_other g s (arg.Range' id at form last_id last_at last) rest n h = refl
columns_other g s (arg.Lambda' parameter id at form) rest n h = refl
columns_other g s (arg.Named' name place id at form) rest n h = absurd (h name place (record { id = id; at = at; form = form }) refl)

pub columns_none : (g : Supply) (s : Scope) (items : List Arg) (n : Seen) (made : List Column) → made ≡ [] → columns_in g s items n ≡ behind made (columns_in g s (drop 0 items) n)
columns_none g s items n made e = behind_none (columns_in g s items n) ∙ ap (λ (made : List Column). behind made (columns_in g s items n)) (sym e)

-- what the invariant says of the next argument
columns_at : (g : Supply) (s : Scope) (items : List Arg) (i : ℕ) (item : Arg) (name : Name) (place : Place) (x : Expr) (n m : Seen) (made : List Column)
    → columns_in g s items n ≡ behind made (columns_in g s (drop i items) m) → i < length items → item ≡ get_or items i item → item ≡ Named name place x
    → columns_in g s items n ≡ behind made (followed (value g (tree_of x) s m) (λ a n. needed (as_numbers a) (λ xs. followed (columns_in g s (drop (i + 1) items) n) (λ xss. Is (frames.column name.bytes xs ∷ xss)))))
columns_at g s items i item name place x n m made h lt is e =
    h ∙ ap (λ (l : List Arg). behind made (columns_in g s l m)) (next_is items i item lt is) ∙ ap (behind made) (columns_next g s item name place x (drop (i + 1) items) m e)

pub columns_wrong : (g : Supply) (s : Scope) (items : List Arg) (i : ℕ) (item : Arg) (n m : Seen) (made : List Column)
    → columns_in g s items n ≡ behind made (columns_in g s (drop i items) m) → i < length items → item ≡ get_or items i item → ((name : Name) (place : Place) (x : Expr) → item ≡ Named name place x → ⊥)
    → ComesTo (columns_in g s items n) (Err stop.Wrong) m
unfolding stopped
columns_wrong g s items i item n m made h lt is e = λ ne.
    h ∙ ap (λ (l : List Arg). behind made (columns_in g s l m)) (next_is items i item lt is) ∙ ap (behind made) (columns_other g s item (drop (i + 1) items) m e)

pub columns_stop : (g : Supply) (s : Scope) (items : List Arg) (i : ℕ) (item : Arg) (name : Name) (place : Place) (x : Expr) (n m l : Seen) (made : List Column) (e : Stop)
    → columns_in g s items n ≡ behind made (columns_in g s (drop i items) m) → i < length items → item ≡ get_or items i item → item ≡ Named name place x
    → ComesTo (value g (tree_of x) s m) (Err e) l → ComesTo (columns_in g s items n) (Err e) l
columns_stop g s items i item name place x n m l made e h lt is p t = λ ne.
    columns_at g s items i item name place x n m made h lt is p
    ∙ ap (behind made) (followed_stops (value g (tree_of x) s m) e l (λ a n. needed (as_numbers a) (λ xs. followed (columns_in g s (drop (i + 1) items) n) (λ xss. Is (frames.column name.bytes xs ∷ xss)))) (t ne))
    ∙ behind_stops made e l

-- behind the next value
columns_behind : (g : Supply) (s : Scope) (items : List Arg) (i : ℕ) (item : Arg) (name : Name) (place : Place) (x : Expr) (n m l : Seen) (made : List Column) (a : Value)
    → columns_in g s items n ≡ behind made (columns_in g s (drop i items) m) → i < length items → item ≡ get_or items i item → item ≡ Named name place x → value g (tree_of x) s m ≡ Is a l
    → columns_in g s items n ≡ behind made (needed (as_numbers a) (λ xs. followed (columns_in g s (drop (i + 1) items) l) (λ xss. Is (frames.column name.bytes xs ∷ xss))))
columns_behind g s items i item name place x n m l made a h lt is p v =
    columns_at g s items i item name place x n m made h lt is p
    ∙ ap (behind made) (followed_is (value g (tree_of x) s m) a l (λ a n. needed (as_numbers a) (λ xs. followed (columns_in g s (drop (i + 1) items) n) (λ xss. Is (frames.column name.bytes xs ∷ xss)))) v)

pub columns_mixed : (g : Supply) (s : Scope) (items : List Arg) (i : ℕ) (item : Arg) (name : Name) (place : Place) (x : Expr) (n m l : Seen) (made : List Column) (a : Value) (e : Stop)
    → columns_in g s items n ≡ behind made (columns_in g s (drop i items) m) → i < length items → item ≡ get_or items i item → item ≡ Named name place x → value g (tree_of x) s m ≡ Is a l
    → (e ≢ stop.NoMemory → (e ≡ stop.Wrong) × (as_numbers a ≡ None)) → ComesTo (columns_in g s items n) (Err e) l
columns_mixed g s items i item name place x n m l made a e h lt is p v t = λ ne.
    columns_behind g s items i item name place x n m l made a h lt is p v
    ∙ ap (behind made) (needed_none (as_numbers a) e l (λ xs. followed (columns_in g s (drop (i + 1) items) l) (λ xss. Is (frames.column name.bytes xs ∷ xss))) (t ne).0 (t ne).1)
    ∙ behind_stops made e l

pub columns_more : (g : Supply) (s : Scope) (items : List Arg) (i : ℕ) (item : Arg) (name : Name) (place : Place) (x : Expr) (n m l : Seen) (made now : List Column) (a : Value) (xs : List ℤ)
    → columns_in g s items n ≡ behind made (columns_in g s (drop i items) m) → i < length items → item ≡ get_or items i item → item ≡ Named name place x → value g (tree_of x) s m ≡ Is a l
    → as_numbers a ≡ Some xs → now ≡ made ++ frames.column name.bytes xs ∷ [] → columns_in g s items n ≡ behind now (columns_in g s (drop (i + 1) items) l)
columns_more g s items i item name place x n m l made now a xs h lt is p v t w =
    columns_behind g s items i item name place x n m l made a h lt is p v
    ∙ ap (behind made) (needed_some (as_numbers a) xs (λ xs. followed (columns_in g s (drop (i + 1) items) l) (λ xss. Is (frames.column name.bytes xs ∷ xss))) t)
    ∙ behind_more made (frames.column name.bytes xs) (columns_in g s (drop (i + 1) items) l)
    ∙ ap (λ (made : List Column). behind made (columns_in g s (drop (i + 1) items) l)) (sym w)

pub columns_made : (g : Supply) (s : Scope) (items : List Arg) (i : ℕ) (n m : Seen) (made : List Column)
    → columns_in g s items n ≡ behind made (columns_in g s (drop i items) m) → length items ≤ i → columns_in g s items n ≡ Is made m
unfolding columns_among parts args_of
columns_made g s items i n m made h le =
    h ∙ ap (λ (l : List Arg). behind made (columns_in g s l m)) (drop_all i items le) ∙ ap (λ (l : List Column). Is l m) (append-nil made)
