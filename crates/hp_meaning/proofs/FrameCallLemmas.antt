-- What calls that make frames mean.
use Rattle.std.proofs.Common.{◌≡◌, map, ℕ, Bool, true, false, if◌then◌else◌, List, [], ◌∷◌, Option, Some, None, Result, Err, refl, ap, sym, ◌∙◌, subst}
use Rattle.std.specs.Option.{option_map, option_and_then}
use Rattle.hp_word.specs.declared.place.Place.{Place}
use Rattle.hp_script.specs.Mirror.{Tree, Args, column, none, plain, range, lambda, named}
use Rattle.hp_meaning.specs.declared.seen.Met.{Met}
use Rattle.hp_meaning.specs.declared.seen.Seen.{Seen}
use Rattle.hp_meaning.specs.declared.seen.Stop.{Stop}
use Rattle.hp_meaning.specs.declared.seen.Stop.TheVariants as stop
use Rattle.hp_meaning.specs.declared.value.Column.{Column}
use Rattle.hp_meaning.specs.declared.value.Value.{Value}
use Rattle.hp_meaning.specs.ArgumentShapes.{first_plain, one_plain, two_plain, three_plain, all_written}
use Rattle.hp_meaning.specs.Dispatch.{table_value}
use Rattle.hp_meaning.specs.FrameRules.{Measured, filtered, sorted_value, joined, grouped, tabled}
use Rattle.hp_meaning.specs.declared.groups.Wanted.{Wanted}
use Rattle.hp_meaning.specs.HeldValues.{measured_in}
use Rattle.hp_meaning.specs.Operands.{as_frame}
use Rattle.hp_meaning.specs.Outcomes.{Refuses, given, Outcome, Is, Wrong, followed, needed, ended, Tells, ComesTo}
use Rattle.hp_meaning.specs.ReadCalls.{table_for}
use Rattle.hp_meaning.specs.Scopes.{Scope, within}
use Rattle.hp_meaning.specs.ValueOf.{Supply, value, parts, filter_call, filtered_by, join_call, aggregate_call, grouped_by, sort_call, table_read, column_name, is_text, Written, Alone, Under, Otherwise, as_written, names_in, measures_in, join_in, group_in}
use Rattle.hp_meaning.proofs.OutcomeLemmas.{comes_as, comes_wrong, first_stops, first_goes, none_stops, some_goes, answer_comes, meeting_comes}
use Rattle.hp_meaning.proofs.CallLemmas.{answer_on}

-- ---- filter

filter_by : (g : Supply) (at : Place) (xs : Args) (s : Scope) (n : Seen) → filter_call at (parts g xs) s n ≡ needed (two_plain xs) (λ p. followed (value g p.0 s n) (λ a. filtered_by at a (value g p.1) s))
unfolding filter_call two_plain one_plain parts
filter_by g at none s n = refl
filter_by g at (plain x none) s n = refl
filter_by g at (plain x (plain y none)) s n = refl
filter_by g at (plain x (plain y (plain z zs))) s n = refl
filter_by g at (plain x (plain y (range z w zs))) s n = refl
filter_by g at (plain x (plain y (lambda parameter z zs))) s n = refl
filter_by g at (plain x (plain y (named name p z zs))) s n = refl
filter_by g at (plain x (range y z ys)) s n = refl
filter_by g at (plain x (lambda parameter y ys)) s n = refl
filter_by g at (plain x (named name p y ys)) s n = refl
filter_by g at (range x y xs) s n = refl
filter_by g at (lambda parameter x xs) s n = refl
filter_by g at (named name p x xs) s n = refl

pub filter_none : (g : Supply) (at : Place) (xs : Args) (s : Scope) (n : Seen) (e : Stop) → (e ≡ stop.Wrong) × (two_plain xs ≡ None) → ComesTo (filter_call at (parts g xs) s n) (Err e) n
filter_none g at xs s n e h =
    comes_as (filter_call at (parts g xs) s n) (needed (two_plain xs) (λ p. followed (value g p.0 s n) (λ a. filtered_by at a (value g p.1) s))) (Err e) n (filter_by g at xs s n)
    (none_stops (two_plain xs) (λ p. followed (value g p.0 s n) (λ a. filtered_by at a (value g p.1) s)) e n h)

filter_goes : (g : Supply) (at : Place) (xs : Args) (x y : Tree) (s : Scope) (n m : Seen) (r : Result Value Stop)
    → two_plain xs ≡ Some (x, y) → ComesTo (followed (value g x s n) (λ a. filtered_by at a (value g y) s)) r m → ComesTo (filter_call at (parts g xs) s n) r m
filter_goes g at xs x y s n m r e h =
    comes_as (filter_call at (parts g xs) s n) (needed (two_plain xs) (λ p. followed (value g p.0 s n) (λ a. filtered_by at a (value g p.1) s))) r m (filter_by g at xs s n)
    (some_goes (two_plain xs) (λ p. followed (value g p.0 s n) (λ a. filtered_by at a (value g p.1) s)) (x, y) m r e h)

pub filter_first : (g : Supply) (at : Place) (xs : Args) (x y : Tree) (s : Scope) (n m : Seen) (e : Stop)
    → two_plain xs ≡ Some (x, y) → ComesTo (value g x s n) (Err e) m → ComesTo (filter_call at (parts g xs) s n) (Err e) m
filter_first g at xs x y s n m e p h = filter_goes g at xs x y s n m (Err e) p (first_stops (value g x s n) (λ a. filtered_by at a (value g y) s) e m h)

pub filter_made : (g : Supply) (at : Place) (xs : Args) (x y : Tree) (s : Scope) (n m l : Seen) (a v : Value) (r : Result Value Stop)
    → two_plain xs ≡ Some (x, y) → value g x s n ≡ Is a m → v ≡ a → ComesTo (filtered_by at v (value g y) s m) r l → ComesTo (filter_call at (parts g xs) s n) r l
filter_made g at xs x y s n m l a v r p h q k =
    filter_goes g at xs x y s n l r p
    (first_goes (value g x s n) (λ a. filtered_by at a (value g y) s) a m l r h (subst (λ (v : Value). ComesTo (filtered_by at v (value g y) s m) r l) q k))

pub masked_frame : (g : Supply) (at : Place) (v : Value) (y : Tree) (s : Scope) (n : Seen) (e : Stop) → (e ≡ stop.Wrong) × (as_frame v ≡ None) → ComesTo (filtered_by at v (value g y) s n) (Err e) n
masked_frame g at v y s n e w = none_stops (as_frame v) (λ columns. followed (value g y (within columns s) n) (λ b. ended (filtered at columns b))) e n w

masked_goes : (g : Supply) (at : Place) (v : Value) (y : Tree) (s : Scope) (n l : Seen) (columns : List Column) (r : Result Value Stop) → as_frame v ≡ Some columns
    → ComesTo (followed (value g y (within columns s) n) (λ b. ended (filtered at columns b))) r l → ComesTo (filtered_by at v (value g y) s n) r l
masked_goes g at v y s n l columns r f k = some_goes (as_frame v) (λ columns. followed (value g y (within columns s) n) (λ b. ended (filtered at columns b))) columns l r f k

pub masked_test : (g : Supply) (at : Place) (v : Value) (y : Tree) (s : Scope) (n l : Seen) (columns : List Column) (e : Stop) → as_frame v ≡ Some columns
    → ComesTo (value g y (within columns s) n) (Err e) l → ComesTo (filtered_by at v (value g y) s n) (Err e) l
masked_test g at v y s n l columns e f k = masked_goes g at v y s n l columns (Err e) f (first_stops (value g y (within columns s) n) (λ b. ended (filtered at columns b)) e l k)

pub masked_made : (g : Supply) (at : Place) (v : Value) (y : Tree) (s : Scope) (n l : Seen) (columns : List Column) (b w : Value) (r : Result Value Stop) → as_frame v ≡ Some columns
    → value g y (within columns s) n ≡ Is b l → w ≡ b → Tells (filtered at columns w) r → ComesTo (filtered_by at v (value g y) s n) r l
masked_made g at v y s n l columns b w r f k i t = masked_goes g at v y s n l columns r f (answer_on (value g y (within columns s) n) (filtered at columns) l b w r k i t)

-- ---- sort

abbrev sorted_by : Supply → Scope → Seen → Tree → List ℕ → Outcome Value
sorted_by g s n x key = followed (value g x s n) (λ a. ended (sorted_value key a))

sort_named : (g : Supply) (x y : Tree) (s : Scope) (n : Seen) → sort_call (parts g (plain x (plain y none))) s n ≡ needed (column_name y) (sorted_by g s n x)
unfolding sort_call parts
sort_named g x (column h name) s n = refl
sort_named g x _ s n = refl

sort_by : (g : Supply) (xs : Args) (s : Scope) (n : Seen) → sort_call (parts g xs) s n ≡ needed (two_plain xs) (λ p. needed (column_name p.1) (sorted_by g s n p.0))
unfolding sort_call two_plain one_plain parts
sort_by g none s n = refl
sort_by g (plain x none) s n = refl
sort_by g (plain x (plain y none)) s n = sort_named g x y s n
sort_by g (plain x (plain y (plain z zs))) s n = refl
sort_by g (plain x (plain y (range z w zs))) s n = refl
sort_by g (plain x (plain y (lambda parameter z zs))) s n = refl
sort_by g (plain x (plain y (named name p z zs))) s n = refl
sort_by g (plain x (range y z ys)) s n = refl
sort_by g (plain x (lambda parameter y ys)) s n = refl
sort_by g (plain x (named name p y ys)) s n = refl
sort_by g (range x y xs) s n = refl
sort_by g (lambda parameter x xs) s n = refl
sort_by g (named name p x xs) s n = refl

pub sort_none : (g : Supply) (xs : Args) (s : Scope) (n : Seen) (e : Stop) → (e ≡ stop.Wrong) × (two_plain xs ≡ None) → ComesTo (sort_call (parts g xs) s n) (Err e) n
sort_none g xs s n e h =
    comes_as (sort_call (parts g xs) s n) (needed (two_plain xs) (λ p. needed (column_name p.1) (sorted_by g s n p.0))) (Err e) n (sort_by g xs s n)
    (none_stops (two_plain xs) (λ p. needed (column_name p.1) (sorted_by g s n p.0)) e n h)

sort_goes : (g : Supply) (xs : Args) (x y : Tree) (s : Scope) (n m : Seen) (r : Result Value Stop)
    → two_plain xs ≡ Some (x, y) → ComesTo (needed (column_name y) (sorted_by g s n x)) r m → ComesTo (sort_call (parts g xs) s n) r m
sort_goes g xs x y s n m r e h =
    comes_as (sort_call (parts g xs) s n) (needed (two_plain xs) (λ p. needed (column_name p.1) (sorted_by g s n p.0))) r m (sort_by g xs s n)
    (some_goes (two_plain xs) (λ p. needed (column_name p.1) (sorted_by g s n p.0)) (x, y) m r e h)

pub sort_name : (g : Supply) (xs : Args) (x y : Tree) (s : Scope) (n : Seen) (e : Stop)
    → two_plain xs ≡ Some (x, y) → (e ≡ stop.Wrong) × (column_name y ≡ None) → ComesTo (sort_call (parts g xs) s n) (Err e) n
sort_name g xs x y s n e p h = sort_goes g xs x y s n n (Err e) p (none_stops (column_name y) (sorted_by g s n x) e n h)

pub sort_stops : (g : Supply) (xs : Args) (x y : Tree) (key : List ℕ) (s : Scope) (n m : Seen) (e : Stop)
    → two_plain xs ≡ Some (x, y) → column_name y ≡ Some key → ComesTo (value g x s n) (Err e) m → ComesTo (sort_call (parts g xs) s n) (Err e) m
sort_stops g xs x y key s n m e p k h =
    sort_goes g xs x y s n m (Err e) p (some_goes (column_name y) (sorted_by g s n x) key m (Err e) k (first_stops (value g x s n) (λ a. ended (sorted_value key a)) e m h))

pub sort_made : (g : Supply) (xs : Args) (x y : Tree) (key used : List ℕ) (s : Scope) (n m : Seen) (a v : Value) (r : Result Value Stop)
    → two_plain xs ≡ Some (x, y) → column_name y ≡ Some key → used ≡ key → value g x s n ≡ Is a m → v ≡ a → Tells (sorted_value used v) r → ComesTo (sort_call (parts g xs) s n) r m
sort_made g xs x y key used s n m a v r p k u h q t =
    sort_goes g xs x y s n m r p (some_goes (column_name y) (sorted_by g s n x) key m r k
    (answer_on (value g x s n) (sorted_value key) m a v r h q (subst (λ (key : List ℕ). Tells (sorted_value key v) r) u t)))

-- ---- join

abbrev joined_by : Supply → Place → Scope → Seen → (x y : Tree) → List ℕ → Outcome Value
joined_by g at s n x y key = followed (value g x s n) (λ a n. followed (value g y s n) (join_in g at key a))

join_named : (g : Supply) (at : Place) (x y z : Tree) (s : Scope) (n : Seen) → join_call g at (parts g (plain x (plain y (plain z none)))) s n ≡ needed (column_name z) (joined_by g at s n x y)
unfolding join_call parts
join_named g at x y (column h name) s n = refl
join_named g at x y _ s n = refl

join_by : (g : Supply) (at : Place) (xs : Args) (s : Scope) (n : Seen) → join_call g at (parts g xs) s n ≡ needed (three_plain xs) (λ p. needed (column_name p.2) (joined_by g at s n p.0 p.1))
unfolding join_call three_plain two_plain one_plain parts
join_by g at none s n = refl
join_by g at (plain x none) s n = refl
join_by g at (plain x (plain y none)) s n = refl
join_by g at (plain x (plain y (plain z none))) s n = join_named g at x y z s n
join_by g at (plain x (plain y (plain z (plain w ws)))) s n = refl
join_by g at (plain x (plain y (plain z (range w v ws)))) s n = refl
join_by g at (plain x (plain y (plain z (lambda parameter w ws)))) s n = refl
join_by g at (plain x (plain y (plain z (named name p w ws)))) s n = refl
join_by g at (plain x (plain y (range z w zs))) s n = refl
join_by g at (plain x (plain y (lambda parameter z zs))) s n = refl
join_by g at (plain x (plain y (named name p z zs))) s n = refl
join_by g at (plain x (range y z ys)) s n = refl
join_by g at (plain x (lambda parameter y ys)) s n = refl
join_by g at (plain x (named name p y ys)) s n = refl
join_by g at (range x y xs) s n = refl
join_by g at (lambda parameter x xs) s n = refl
join_by g at (named name p x xs) s n = refl

pub join_none : (g : Supply) (at : Place) (xs : Args) (s : Scope) (n : Seen) (e : Stop) → (e ≡ stop.Wrong) × (three_plain xs ≡ None) → ComesTo (join_call g at (parts g xs) s n) (Err e) n
join_none g at xs s n e h =
    comes_as (join_call g at (parts g xs) s n) (needed (three_plain xs) (λ p. needed (column_name p.2) (joined_by g at s n p.0 p.1))) (Err e) n (join_by g at xs s n)
    (none_stops (three_plain xs) (λ p. needed (column_name p.2) (joined_by g at s n p.0 p.1)) e n h)

join_goes : (g : Supply) (at : Place) (xs : Args) (x y z : Tree) (s : Scope) (n m : Seen) (r : Result Value Stop)
    → three_plain xs ≡ Some (x, y, z) → ComesTo (needed (column_name z) (joined_by g at s n x y)) r m → ComesTo (join_call g at (parts g xs) s n) r m
join_goes g at xs x y z s n m r e h =
    comes_as (join_call g at (parts g xs) s n) (needed (three_plain xs) (λ p. needed (column_name p.2) (joined_by g at s n p.0 p.1))) r m (join_by g at xs s n)
    (some_goes (three_plain xs) (λ p. needed (column_name p.2) (joined_by g at s n p.0 p.1)) (x, y, z) m r e h)

pub join_name : (g : Supply) (at : Place) (xs : Args) (x y z : Tree) (s : Scope) (n : Seen) (e : Stop)
    → three_plain xs ≡ Some (x, y, z) → (e ≡ stop.Wrong) × (column_name z ≡ None) → ComesTo (join_call g at (parts g xs) s n) (Err e) n
join_name g at xs x y z s n e p h = join_goes g at xs x y z s n n (Err e) p (none_stops (column_name z) (joined_by g at s n x y) e n h)

pub join_first : (g : Supply) (at : Place) (xs : Args) (x y z : Tree) (key : List ℕ) (s : Scope) (n m : Seen) (e : Stop)
    → three_plain xs ≡ Some (x, y, z) → column_name z ≡ Some key → ComesTo (value g x s n) (Err e) m → ComesTo (join_call g at (parts g xs) s n) (Err e) m
join_first g at xs x y z key s n m e p k h =
    join_goes g at xs x y z s n m (Err e) p (some_goes (column_name z) (joined_by g at s n x y) key m (Err e) k
    (first_stops (value g x s n) (λ a n. followed (value g y s n) (join_in g at key a)) e m h))

pub join_second : (g : Supply) (at : Place) (xs : Args) (x y z : Tree) (key : List ℕ) (s : Scope) (n m l : Seen) (a : Value) (e : Stop)
    → three_plain xs ≡ Some (x, y, z) → column_name z ≡ Some key → value g x s n ≡ Is a m → ComesTo (value g y s m) (Err e) l → ComesTo (join_call g at (parts g xs) s n) (Err e) l
join_second g at xs x y z key s n m l a e p k h i =
    join_goes g at xs x y z s n l (Err e) p (some_goes (column_name z) (joined_by g at s n x y) key l (Err e) k
    (first_goes (value g x s n) (λ a n. followed (value g y s n) (join_in g at key a)) a m l (Err e) h
    (first_stops (value g y s m) (join_in g at key a) e l i)))

pub join_made : (g : Supply) (at : Place) (xs : Args) (x y z : Tree) (key used : List ℕ) (s : Scope) (n m l : Seen) (o : Met) (a v b w : Value) (r : Result Value Stop)
    → three_plain xs ≡ Some (x, y, z) → column_name z ≡ Some key → used ≡ key → value g x s n ≡ Is a m → v ≡ a → value g y s m ≡ Is b l → w ≡ b
    → ComesTo (joined g.orders at used v w l.met) r o → ComesTo (join_call g at (parts g xs) s n) r (record l { met = o })
join_made g at xs x y z key used s n m l o a v b w r p k u h q i j t =
    let t_key : ComesTo (joined g.orders at key v w l.met) r o = subst (λ (key : List ℕ). ComesTo (joined g.orders at key v w l.met) r o) u t in
    let t_left : ComesTo (joined g.orders at key a w l.met) r o = subst (λ (v : Value). ComesTo (joined g.orders at key v w l.met) r o) q t_key in
    let t_right : ComesTo (joined g.orders at key a b l.met) r o = subst (λ (w : Value). ComesTo (joined g.orders at key a w l.met) r o) j t_left in
    let now : Seen = record l { met = o } in
    join_goes g at xs x y z s n now r p (some_goes (column_name z) (joined_by g at s n x y) key now r k
    (first_goes (value g x s n) (λ a n. followed (value g y s n) (join_in g at key a)) a m now r h
    (first_goes (value g y s m) (join_in g at key a) b l now r i (meeting_comes (joined g.orders at key a b l.met) r l o t_right))))

-- ---- aggregate

written_same : (g : Supply) (xs : Args) → map as_written (parts g xs) ≡ all_written xs
unfolding parts
written_same g none = refl
written_same g (plain x xs) = ap (λ more. Alone x ∷ more) (written_same g xs)
written_same g (range x y xs) = ap (λ more. Otherwise ∷ more) (written_same g xs)
written_same g (lambda parameter x xs) = ap (λ more. Otherwise ∷ more) (written_same g xs)
written_same g (named name at x xs) = ap (λ more. Under name x ∷ more) (written_same g xs)

aggregate_by : (g : Supply) (xs : Args) (s : Scope) (n : Seen)
    → aggregate_call g (parts g xs) s n ≡ needed (first_plain xs) (λ p. needed (first_plain p.1) (λ q. grouped_by g (column_name q.0) (measures_in (map as_written (parts g q.1))) (value g p.0 s n)))
unfolding aggregate_call parts
aggregate_by g none s n = refl
aggregate_by g (plain x none) s n = refl
aggregate_by g (plain x (plain y ys)) s n = refl
aggregate_by g (plain x (range y z ys)) s n = refl
aggregate_by g (plain x (lambda parameter y ys)) s n = refl
aggregate_by g (plain x (named name at y ys)) s n = refl
aggregate_by g (range x y xs) s n = refl
aggregate_by g (lambda parameter x xs) s n = refl
aggregate_by g (named name at x xs) s n = refl

pub aggregate_none : (g : Supply) (xs : Args) (s : Scope) (n : Seen) (e : Stop) → (e ≡ stop.Wrong) × (first_plain xs ≡ None) → ComesTo (aggregate_call g (parts g xs) s n) (Err e) n
aggregate_none g xs s n e h =
    comes_as (aggregate_call g (parts g xs) s n) (needed (first_plain xs) (λ p. needed (first_plain p.1) (λ q. grouped_by g (column_name q.0) (measures_in (map as_written (parts g q.1))) (value g p.0 s n)))) (Err e) n (aggregate_by g xs s n)
    (none_stops (first_plain xs) (λ p. needed (first_plain p.1) (λ q. grouped_by g (column_name q.0) (measures_in (map as_written (parts g q.1))) (value g p.0 s n))) e n h)

aggregate_goes : (g : Supply) (xs : Args) (x : Tree) (ys : Args) (s : Scope) (n m : Seen) (r : Result Value Stop) → first_plain xs ≡ Some (x, ys)
    → ComesTo (needed (first_plain ys) (λ q. grouped_by g (column_name q.0) (measures_in (map as_written (parts g q.1))) (value g x s n))) r m → ComesTo (aggregate_call g (parts g xs) s n) r m
aggregate_goes g xs x ys s n m r e h =
    comes_as (aggregate_call g (parts g xs) s n) (needed (first_plain xs) (λ p. needed (first_plain p.1) (λ q. grouped_by g (column_name q.0) (measures_in (map as_written (parts g q.1))) (value g p.0 s n)))) r m (aggregate_by g xs s n)
    (some_goes (first_plain xs) (λ p. needed (first_plain p.1) (λ q. grouped_by g (column_name q.0) (measures_in (map as_written (parts g q.1))) (value g p.0 s n))) (x, ys) m r e h)

pub aggregate_key : (g : Supply) (xs : Args) (x : Tree) (ys : Args) (s : Scope) (n : Seen) (e : Stop) → first_plain xs ≡ Some (x, ys)
    → (e ≡ stop.Wrong) × (first_plain ys ≡ None) → ComesTo (aggregate_call g (parts g xs) s n) (Err e) n
aggregate_key g xs x ys s n e p h =
    aggregate_goes g xs x ys s n n (Err e) p (none_stops (first_plain ys) (λ q. grouped_by g (column_name q.0) (measures_in (map as_written (parts g q.1))) (value g x s n)) e n h)

aggregate_on : (g : Supply) (xs : Args) (x : Tree) (ys : Args) (y : Tree) (zs : Args) (s : Scope) (n m : Seen) (r : Result Value Stop) → first_plain xs ≡ Some (x, ys) → first_plain ys ≡ Some (y, zs)
    → ComesTo (grouped_by g (column_name y) (measures_in (all_written zs)) (value g x s n)) r m → ComesTo (aggregate_call g (parts g xs) s n) r m
aggregate_on g xs x ys y zs s n m r p q h =
    aggregate_goes g xs x ys s n m r p (some_goes (first_plain ys) (λ q. grouped_by g (column_name q.0) (measures_in (map as_written (parts g q.1))) (value g x s n)) (y, zs) m r q
    (subst (λ (ms : Option (List Measured)). ComesTo (grouped_by g (column_name y) ms (value g x s n)) r m) (sym (ap measures_in (written_same g zs))) h))

pub aggregate_name : (g : Supply) (xs : Args) (x : Tree) (ys : Args) (y : Tree) (zs : Args) (s : Scope) (n : Seen) (e : Stop) → first_plain xs ≡ Some (x, ys) → first_plain ys ≡ Some (y, zs)
    → (e ≡ stop.Wrong) × (column_name y ≡ None) → ComesTo (aggregate_call g (parts g xs) s n) (Err e) n
aggregate_name g xs x ys y zs s n e p q h =
    aggregate_on g xs x ys y zs s n n (Err e) p q
    (comes_wrong (grouped_by g (column_name y) (measures_in (all_written zs)) (value g x s n)) e n h.0 (ap (λ (o : Option (List ℕ)). grouped_by g o (measures_in (all_written zs)) (value g x s n)) h.1))

keyed_none : (g : Supply) (o : Option (List ℕ)) (first : Outcome Value) → grouped_by g o None first ≡ Wrong
keyed_none g None first = refl
keyed_none g (Some key) first = refl

keyed_empty : (g : Supply) (o : Option (List ℕ)) (first : Outcome Value) → grouped_by g o (Some []) first ≡ Wrong
keyed_empty g None first = refl
keyed_empty g (Some key) first = refl

pub aggregate_wrong : (g : Supply) (xs : Args) (x : Tree) (ys : Args) (y : Tree) (zs : Args) (s : Scope) (n : Seen) (e : Stop) → first_plain xs ≡ Some (x, ys) → first_plain ys ≡ Some (y, zs)
    → (e ≡ stop.Wrong) × (measures_in (all_written zs) ≡ None) → ComesTo (aggregate_call g (parts g xs) s n) (Err e) n
aggregate_wrong g xs x ys y zs s n e p q h =
    aggregate_on g xs x ys y zs s n n (Err e) p q
    (comes_wrong (grouped_by g (column_name y) (measures_in (all_written zs)) (value g x s n)) e n h.0
    (ap (λ (o : Option (List Measured)). grouped_by g (column_name y) o (value g x s n)) h.1 ∙ keyed_none g (column_name y) (value g x s n)))

pub aggregate_empty : (g : Supply) (xs : Args) (x : Tree) (ys : Args) (y : Tree) (zs : Args) (ms : List Measured) (s : Scope) (n : Seen) → first_plain xs ≡ Some (x, ys) → first_plain ys ≡ Some (y, zs)
    → measures_in (all_written zs) ≡ Some ms → ms ≡ [] → ComesTo (aggregate_call g (parts g xs) s n) (Err stop.Wrong) n
aggregate_empty g xs x ys y zs ms s n p q h k =
    aggregate_on g xs x ys y zs s n n (Err stop.Wrong) p q
    (comes_wrong (grouped_by g (column_name y) (measures_in (all_written zs)) (value g x s n)) stop.Wrong n refl
    (ap (λ (o : Option (List Measured)). grouped_by g (column_name y) o (value g x s n)) (h ∙ ap Some k) ∙ keyed_empty g (column_name y) (value g x s n)))

-- with a key and measures
grouped_some : (g : Supply) (key : List ℕ) (ms : List Measured) (first : Outcome Value) → (ms ≡ [] → ⊥) → grouped_by g (Some key) (Some ms) first ≡ followed first (group_in g key ms)
grouped_some g key [] first h = absurd (h refl)
grouped_some g key (m ∷ ms) first h = refl

pub not_none : (wanted : List Wanted) → (wanted ≡ [] → ⊥) → map measured_in wanted ≡ [] → ⊥
not_none [] h e = h refl
not_none (w ∷ ws) h e = absurd (cc)

aggregate_full : (g : Supply) (xs : Args) (x : Tree) (ys : Args) (y : Tree) (zs : Args) (key : List ℕ) (ms : List Measured) (s : Scope) (n m : Seen) (r : Result Value Stop)
    → first_plain xs ≡ Some (x, ys) → first_plain ys ≡ Some (y, zs) → column_name y ≡ Some key → measures_in (all_written zs) ≡ Some ms → (ms ≡ [] → ⊥)
    → ComesTo (followed (value g x s n) (group_in g key ms)) r m → ComesTo (aggregate_call g (parts g xs) s n) r m
aggregate_full g xs x ys y zs key ms s n m r p q k h some c =
    aggregate_on g xs x ys y zs s n m r p q
    (comes_as (grouped_by g (column_name y) (measures_in (all_written zs)) (value g x s n)) (followed (value g x s n) (group_in g key ms)) r m
    (ap (λ (o : Option (List ℕ)). grouped_by g o (measures_in (all_written zs)) (value g x s n)) k ∙ ap (λ (o : Option (List Measured)). grouped_by g (Some key) o (value g x s n)) h ∙ grouped_some g key ms (value g x s n) some) c)

pub aggregate_stops : (g : Supply) (xs : Args) (x : Tree) (ys : Args) (y : Tree) (zs : Args) (key : List ℕ) (ms : List Measured) (s : Scope) (n m : Seen) (e : Stop)
    → first_plain xs ≡ Some (x, ys) → first_plain ys ≡ Some (y, zs) → column_name y ≡ Some key → measures_in (all_written zs) ≡ Some ms → (ms ≡ [] → ⊥)
    → ComesTo (value g x s n) (Err e) m → ComesTo (aggregate_call g (parts g xs) s n) (Err e) m
aggregate_stops g xs x ys y zs key ms s n m e p q k h some c =
    aggregate_full g xs x ys y zs key ms s n m (Err e) p q k h some (first_stops (value g x s n) (group_in g key ms) e m c)

pub aggregate_made : (g : Supply) (xs : Args) (x : Tree) (ys : Args) (y : Tree) (zs : Args) (key used : List ℕ) (ms wanted : List Measured) (s : Scope) (n m : Seen) (l : Met) (a v : Value) (r : Result Value Stop)
    → first_plain xs ≡ Some (x, ys) → first_plain ys ≡ Some (y, zs) → column_name y ≡ Some key → measures_in (all_written zs) ≡ Some ms → (ms ≡ [] → ⊥)
    → used ≡ key → wanted ≡ ms → value g x s n ≡ Is a m → v ≡ a → ComesTo (grouped g.orders used wanted v m.met) r l → ComesTo (aggregate_call g (parts g xs) s n) r (record m { met = l })
aggregate_made g xs x ys y zs key used ms wanted s n m l a v r p q k h some u w i j t =
    let t_key : ComesTo (grouped g.orders key wanted v m.met) r l = subst (λ (key : List ℕ). ComesTo (grouped g.orders key wanted v m.met) r l) u t in
    let t_measures : ComesTo (grouped g.orders key ms v m.met) r l = subst (λ (ms : List Measured). ComesTo (grouped g.orders key ms v m.met) r l) w t_key in
    let t_value : ComesTo (grouped g.orders key ms a m.met) r l = subst (λ (v : Value). ComesTo (grouped g.orders key ms v m.met) r l) j t_measures in
    let now : Seen = record m { met = l } in
    aggregate_full g xs x ys y zs key ms s n now r p q k h some (first_goes (value g x s n) (group_in g key ms) a m now r i (meeting_comes (grouped g.orders key ms a m.met) r m l t_value))

-- ---- a table

given_tabled : (g : Supply) (id : ℕ) (o : Option (List (List ℕ))) (n : Seen)
    → elim o [ None ↦ Wrong | Some names ↦ ended (tabled names (table_for g.reads id g.tables)) n ] ≡ ended (given o (λ names. tabled names (table_for g.reads id g.tables))) n
given_tabled g id None n = refl
given_tabled g id (Some names) n = refl

by_text : (g : Supply) (id : ℕ) (b : Bool) (o p : Option (List (List ℕ))) (n : Seen) → o ≡ p
    → (if b then elim o [ None ↦ Wrong | Some names ↦ ended (tabled names (table_for g.reads id g.tables)) n ] else Wrong) ≡ ended (if b then given p (λ names. tabled names (table_for g.reads id g.tables)) else Refuses) n
by_text g id true o p n e = given_tabled g id o n ∙ ap (λ (o : Option (List (List ℕ))). ended (given o (λ names. tabled names (table_for g.reads id g.tables))) n) e
by_text g id false o p n e = refl

table_is : (g : Supply) (id : ℕ) (xs : Args) (n : Seen) → table_read g id (parts g xs) n ≡ ended (table_value g id xs) n
unfolding table_read table_value parts
table_is g id none n = refl
table_is g id (plain x none) n = refl
table_is g id (plain x (plain y ys)) n = by_text g id (is_text x) (names_in (map as_written (parts g (plain y ys)))) (names_in (all_written (plain y ys))) n (ap names_in (written_same g (plain y ys)))
table_is g id (plain x (range y z ys)) n = by_text g id (is_text x) (names_in (map as_written (parts g (range y z ys)))) (names_in (all_written (range y z ys))) n (ap names_in (written_same g (range y z ys)))
table_is g id (plain x (lambda parameter y ys)) n = by_text g id (is_text x) (names_in (map as_written (parts g (lambda parameter y ys)))) (names_in (all_written (lambda parameter y ys))) n (ap names_in (written_same g (lambda parameter y ys)))
table_is g id (plain x (named name at y ys)) n = by_text g id (is_text x) (names_in (map as_written (parts g (named name at y ys)))) (names_in (all_written (named name at y ys))) n (ap names_in (written_same g (named name at y ys)))
table_is g id (range x y xs) n = refl
table_is g id (lambda parameter x xs) n = refl
table_is g id (named name at x xs) n = refl

pub table_comes : (g : Supply) (id : ℕ) (xs : Args) (n : Seen) (r : Result Value Stop) → Tells (table_value g id xs) r → ComesTo (table_read g id (parts g xs) n) r n
table_comes g id xs n r h = comes_as (table_read g id (parts g xs) n) (ended (table_value g id xs) n) r n (table_is g id xs n) (answer_comes (table_value g id xs) r n h)
