-- The loops that stand for a map, a reduction and a stencil do what these do.
use Rattle.std.proofs.Common.{◌≡◌, ℕ, zero, suc, ◌+◌, ◌≤◌, ◌<◌, ◌==◌, ℤ, Bool, true, false, not, ◌&&◌, ◌||◌, cond, List, [], ◌∷◌, ◌++◌, length, Result, Ok, Err, IsTrue, count_by, refl, sym, ap, subst, ◌∙◌, append-nil, arith}
use Rattle.std.proofs.lemmas.Bool.{eq-eqb, eqb-true}
use Rattle.std.proofs.lemmas.List.{length-append, length-map}
use Rattle.std.proofs.lemmas.List.Sums.{count_by-le-length}
use Rattle.std.specs.List.{AllByRecursion, list_all}
use Rattle.hp_word.specs.declared.elem.Elem.{Elem}
use Rattle.hp_word.specs.declared.fold.FoldKind.{FoldKind}
use Rattle.hp_word.specs.declared.fold.FoldKind.TheVariants as folds
use Rattle.hp_word.specs.declared.order.Order.{Order}
use Rattle.hp_word.specs.declared.place.Place.{Place}
use Rattle.hp_word.specs.declared.place.Trap.{Trap}
use Rattle.hp_word.specs.declared.place.TrapKind.TheVariants.{Mismatch, Empty}
use Rattle.hp_word.specs.declared.table.Table.{Table}
use Rattle.hp_word.specs.Folds.{fold_of}
use Rattle.hp_word.specs.Lengths.{trap}
use Rattle.hp_word.specs.ListRules.{folded_list}
use Rattle.hp_word.specs.LoopRules.{and_then, column_of, rows_below}
use Rattle.hp_word.specs.RowRules.{are_level, level}
use Rattle.hp_word.specs.Runs.{State, Ran, Trapped, behind}
use Rattle.hp_word.specs.Tables.{row_count}
use Rattle.hp_lattice.specs.declared.dist.Dist.{Dist}
use Rattle.hp_program.proofs.Keeping.{first_holds, second_holds}
use Rattle.hp_program.specs.Programs.{Prog, stop, plain, operations, replaced, start, Effect, Doing, step, run, worked, told, IsLike, EndsAs, both_went, both_trapped, both_spent}
use Rattle.hp_air.specs.declared.slot.Slot.{Slot}
use Rattle.hp_air.specs.declared.what.Op.{Op}
use Rattle.hp_air.specs.declared.what.What.{What}
use Rattle.hp_air.specs.declared.what.What.TheVariants as what
use Rattle.hp_air.specs.Meaning.{silent, looped, values_of, mapped, reduced, stencilled, does, has_balanced, units, doing, mean, work_of, ending, word_made, array_made}
use Rattle.hp_air.specs.Wholes.{Vector, cells, Env, unset, changed_all, with_word, with_slots, lists_at}
use Rattle.hp_air.specs.Kept.{has_some, has_lists, is_kept}
use Rattle.hp_air.specs.Placed.{dist_at}
use Rattle.hp_program.proofs.Replaced.{behind_stop, run_replaced}
use Rattle.hp_parfor.specs.declared.parfor.Parfor.{Parfor}
use Rattle.hp_parfor.specs.Built.{map_loop, reduce_loop, stencil_loop, built_at, built, IsSameAtTrap}
use Rattle.hp_parfor.specs.LoopMeaning.{needs_some, places_of, loop_rows, loop_made, loop_does, is_moved, is_replicated, loop_moves, part_units, part_does, part_doing, parts_mean}
use Rattle.hp_parfor.specs.Parts.{Part, Does, Loops}

-- ---- short forms

abbrev pub Same : Env → Env → Type 0
Same e f = e ≡ f

and_false : (b : Bool) → (b && false) ≡ false
and_false true = refl
and_false false = refl

-- the values of the only let are the first column of the rows
column_end : (rows : Result (List (List ℤ)) Trap) (made : List ℤ → Result (Effect Env) Trap)
    → and_then (and_then rows (λ rs. Ok (column_of 0 rs))) made ≡ and_then rows (λ rs. made (column_of 0 rs))
column_end (Ok rs) made = refl
column_end (Err t) made = refl

-- ---- maps

map_does : (at : Place) (out : ℕ) (ins : List ℕ) (elem : Elem) (e : Env) → 0 < length ins → array_made out e (mapped at e.words (lists_at e ins) elem) ≡ loop_does (map_loop at out ins elem) e
unfolding mapped values_of level loop_does places_of loop_rows loop_made changed_all
map_does at out [] elem e some = absurd (omega arith)
map_does at out (x ∷ xs) elem e some = by (are_level inputs)
  where
    inputs : List (List ℤ)
    inputs = lists_at e (x ∷ xs)

    long : ℕ
    long = length (cells (e.slots x))

    by : (even : Bool) → and_then (and_then (cond even (Ok inputs) (Err (trap at Mismatch))) (λ l. values_of e.words l [] elem (row_count l))) (λ ys. silent (with_slots (out ∷ []) (Vector ys ∷ []) e))
        ≡ and_then (cond (not even) (Err (trap at Mismatch)) (cond (long == 0 && false) (Err (trap at Empty)) (Ok long)))
        (λ places. and_then (looped e.words inputs [] (elem ∷ []) places) (λ rows. silent (with_slots (out ∷ []) (Vector (column_of 0 rows) ∷ []) e)))
    by false = refl
    by true = rw (and_false (long == 0)) (column_end (looped e.words inputs [] (elem ∷ []) long) (λ ys. silent (with_slots (out ∷ []) (Vector ys ∷ []) e)))

-- ---- reductions

-- as many rows as places
rows_long : (row : ℕ → Result (List ℤ) Trap) (n : ℕ) (rows : List (List ℤ)) → rows_below row n ≡ Ok rows → length rows ≡ n
rows_long row zero rows e = let none : rows ≡ [] = cc in rw none refl
rows_long row (suc n) rows e = by (λ rs b. rows_long row n rs b) (rows_below row n) (row n) refl refl
  where
    by : ((rs : List (List ℤ)) → rows_below row n ≡ Ok rs → length rs ≡ n) → (before : Result (List (List ℤ)) Trap) (last : Result (List ℤ) Trap) → rows_below row n ≡ before → row n ≡ last → length rows ≡ suc n
    by before_long (Err t) last b l = absurd (let wrong : and_then (rows_below row n) (λ rs. and_then (row n) (λ r. Ok (rs ++ r ∷ []))) ≡ Ok rows = e in let same : Err t ≡ Ok rows = rw b at wrong in cc same)
    by before_long (Ok rs) (Err t) b l = absurd (let wrong : and_then (rows_below row n) (λ rs. and_then (row n) (λ r. Ok (rs ++ r ∷ []))) ≡ Ok rows = e in let same : Err t ≡ Ok rows = rw (b, l) at wrong in cc same)
    by before_long (Ok rs) (Ok r) b l =
        let all : and_then (rows_below row n) (λ rs. and_then (row n) (λ r. Ok (rs ++ r ∷ []))) ≡ Ok rows = e in
        let same : Ok (rs ++ r ∷ []) ≡ Ok rows = rw (b, l) at all in
        let is : rs ++ r ∷ [] ≡ rows = cc same in
        let few : length rs ≡ n = before_long rs b in
        let more : length (rs ++ r ∷ []) ≡ length rs + 1 = length-append rs (r ∷ []) in
        omega (arith, ap length is, few, more)

-- a fold of some values, or one that there is of none
folded_ok : (kind : FoldKind) (at : Place) (ys : List ℤ) → (length ys == 0 && (needs_some kind || false)) ≡ false → folded_list kind at ys ≡ Ok (fold_of kind ys)
unfolding folded_list
folded_ok folds.Sum at ys e = refl
folded_ok folds.Prod at ys e = refl
folded_ok folds.Min at [] e = absurd cc
folded_ok folds.Min at (y ∷ ys) e = refl
folded_ok folds.Max at [] e = absurd cc
folded_ok folds.Max at (y ∷ ys) e = refl
folded_ok folds.Any at ys e = refl
folded_ok folds.All at ys e = refl

folded_none : (kind : FoldKind) (at : Place) → (needs_some kind || false) ≡ true → folded_list kind at [] ≡ Err (trap at Empty)
unfolding folded_list
folded_none folds.Sum at e = absurd cc
folded_none folds.Prod at e = absurd cc
folded_none folds.Min at e = refl
folded_none folds.Max at e = refl
folded_none folds.Any at e = absurd cc
folded_none folds.All at e = absurd cc

both_true : (a b : Bool) → (a && b) ≡ true → (a ≡ true) × (b ≡ true)
both_true true true e = (refl, refl)
both_true true false e = absurd cc
both_true false b e = absurd cc

folded_rows : (kind : FoldKind) (at : Place) (n : ℕ) (rows : Result (List (List ℤ)) Trap) (made : ℤ → Result (Effect Env) Trap) → ((rs : List (List ℤ)) → rows ≡ Ok rs → length rs ≡ n)
    → (n == 0 && (needs_some kind || false)) ≡ false
    → and_then (and_then (and_then rows (λ rs. Ok (column_of 0 rs))) (folded_list kind at)) made ≡ and_then rows (λ rs. made (fold_of kind (column_of 0 rs)))
folded_rows kind at n (Err t) made long some = refl
folded_rows kind at n (Ok rs) made long some =
    let many : length (column_of 0 rs) ≡ n = length-map rs _ ∙ long rs refl in
    ap (λ (r : Result ℤ Trap). and_then r made) (folded_ok kind at (column_of 0 rs) (ap (λ (m : ℕ). m == 0 && (needs_some kind || false)) many ∙ some))

reduce_does : (at : Place) (to : ℕ) (kind : FoldKind) (array : ℕ) (elem : Elem) (e : Env)
    → word_made to e (reduced at e.words kind (cells (e.slots array)) elem) ≡ loop_does (reduce_loop at to kind array elem) e
unfolding reduced values_of loop_does places_of loop_rows loop_made changed_all looped
reduce_does at to kind array elem e =
    rw (eq-eqb long long refl) (by (long == 0 && (needs_some kind || false)) refl)
  where
    xs : List ℤ
    xs = cells (e.slots array)

    long : ℕ
    long = length xs

    made : ℤ → Result (Effect Env) Trap
    made x = silent (with_word to x e)

    rows : ℕ → Result (List (List ℤ)) Trap
    rows places = looped e.words (xs ∷ []) [] (elem ∷ []) places

    by : (none : Bool) → (long == 0 && (needs_some kind || false)) ≡ none
        → and_then (and_then (and_then (rows long) (λ rs. Ok (column_of 0 rs))) (folded_list kind at)) made
        ≡ and_then (cond (long == 0 && (needs_some kind || false)) (Err (trap at Empty)) (Ok long)) (λ places. and_then (rows places) (λ rs. made (fold_of kind (column_of 0 rs))))
    by true is =
        let parts = both_true (long == 0) (needs_some kind || false) is in
        let zero_long : long ≡ 0 = eqb-true long 0 parts.0 in
        rw (is, zero_long) (ap (λ (r : Result ℤ Trap). and_then r made) (folded_none kind at parts.1))
    by false is = rw is (folded_rows kind at long (rows long) made (λ rs e2. rows_long _ long rs e2) is)

-- ---- stencils

-- the copy of the array is read as the array itself
stencil_does : (at : Place) (out array balanced reach : ℕ) (elem : Elem) (e : Env)
    → loop_does (stencil_loop at out balanced reach elem) (with_slots (balanced ∷ []) (e.slots array ∷ []) e)
    ≡ array_made out (with_slots (balanced ∷ []) (e.slots array ∷ []) e) (stencilled e.words (cells (e.slots array)) elem)
unfolding stencilled values_of loop_does places_of loop_rows loop_made changed_all
stencil_does at out array balanced reach elem e =
    rw (eq-eqb balanced balanced refl, and_false (length (cells (e.slots array)) == 0))
    (sym (column_end (looped e.words [] (cells (e.slots array) ∷ []) (elem ∷ []) (length (cells (e.slots array)))) (λ ys. silent (with_slots (out ∷ []) (Vector ys ∷ []) (with_slots (balanced ∷ []) (e.slots array ∷ []) e)))))

-- ---- steps

told_as : (r other : Result (Effect Env) Trap) (s t : State Env ℕ) → r ≡ other → IsLike Same s t → EndsAs Same IsSameAtTrap (told r s) (told other t)
unfolding told
told_as (Ok effect) (Ok other) s t same like =
    let one : effect ≡ other = cc in
    both_went (record { env = ap (λ x. x.env) one; out = let e = like.out in let f : effect.text ≡ other.text = ap (λ x. x.text) one in cc; fuel = like.fuel; work = like.work })
told_as (Ok effect) (Err k) s t same like = absurd cc
told_as (Err k) (Ok effect) s t same like = absurd cc
told_as (Err k) (Err l) s t same like =
    let one : k ≡ l = cc in
    let env : s.env ≡ t.env = like.env in
    subst (λ l. EndsAs Same IsSameAtTrap (Trapped k s) (Trapped l t)) one
    (both_trapped (record { env = record { words = ap (λ (e : Env). e.words) env; executed = ap (λ (e : Env). e.executed) env; bad = ap (λ (e : Env). e.bad) env }; out = like.out; fuel = like.fuel; work = like.work }))

less_work : (s t : State Env ℕ) (a b : ℕ) → b ≤ a → IsLike Same s t → IsLike Same (worked a s) (worked b t)
less_work s t a b le like = record { env = like.env; out = like.out; fuel = like.fuel; work = let w = like.work in omega arith }

-- one part that does as the operation, with no more units
one_part : (slots : List Slot) (dists : List Dist) (tables : List Table) (orders : List Order) (op : Op) (part : Part)
    → ((e : Env) → does tables orders op.at op.what e ≡ part_does tables orders part e) → part_units slots (dist_at dists) part ≤ units slots op.what
    → (s t : State Env ℕ) → IsLike Same s t → EndsAs Same IsSameAtTrap (step (doing slots tables orders) op s) (run (part_doing slots dists tables orders) (plain part stop) t)
unfolding run
one_part slots dists tables orders op part same fewer s t like =
    let d2 = part_doing slots dists tables orders in
    subst (EndsAs Same IsSameAtTrap (step (doing slots tables orders) op s)) (sym (behind_stop d2 (step d2 part t)))
    (told_as _ _ _ _ (same s.env ∙ ap (part_does tables orders part) like.env) (less_work s t (units slots op.what) (part_units slots (dist_at dists) part) fewer like))

-- the moves of a loop are at most its inputs and halos
few_moves : (d : ℕ → Dist) (p : Parfor) → loop_moves d p ≤ length p.inputs + length p.halos
unfolding loop_moves
few_moves d p = by (is_replicated d (Loops p))
  where
    by : (b : Bool) → cond b 0 (count_by (is_moved d p.leader) p.inputs + length p.halos) ≤ length p.inputs + length p.halos
    by true = omega arith
    by false = let few : count_by (is_moved d p.leader) p.inputs ≤ length p.inputs = count_by-le-length (is_moved d p.leader) p.inputs in omega arith

abbrev pub Fits : Op → Type 0
Fits op = IsTrue (has_lists op.what)

some_of : (xs : List ℕ) → IsTrue (has_some xs) → 0 < length xs
some_of [] p = absurd cc
some_of (x ∷ xs) p = omega arith

-- the same result from two states, of which the second has a copy more
ends_alike : (e copied : Env) (out : ℕ) (r : Result (List ℤ) Trap) (s t : State Env ℕ) → IsSameAtTrap e copied → s.env ≡ e → t.env ≡ copied → t.out ≡ s.out → t.fuel ≡ s.fuel → t.seen ≤ s.seen
    → EndsAs Same IsSameAtTrap (told (array_made out copied r) s) (told (array_made out copied r) t)
unfolding told
ends_alike e copied out (Ok xs) s t alike se te outs fuel work = both_went (record { env = refl; out = ap (λ (l : List ℕ). l ++ []) outs; fuel = fuel; work = work })
ends_alike e copied out (Err k) s t alike se te outs fuel work = both_trapped (record { env = rw (se, te) alike; out = outs; fuel = fuel; work = work })

copy_units : (slots : List Slot) (out array : ℕ) → units slots (what.Copy (out ∷ []) (array ∷ [])) ≤ 2
unfolding units
copy_units slots out array = by (has_balanced slots (out ∷ []))
  where
    by : (b : Bool) → cond b 2 1 ≤ 2
    by true = omega arith
    by false = omega arith

seven_less : (s t u v m : ℕ) → t ≤ s → u ≤ 2 → m ≤ 1 → v ≡ 2 + m → t + u + v ≤ s + 6
seven_less s t u v m a b c e = omega arith

-- two parts, of which the first writes no text
two_steps : (d : Doing Part Env) (first second : Part) (t : State Env ℕ) (e : Env) → d.does first t.env ≡ silent e
    → run d (plain first (plain second stop)) t ≡ behind (step d second (record (worked (d.units first) t) { env = e; out = t.out ++ [] })) (run d stop)
unfolding run told
two_steps d first second t e is = rw is refl

-- a stencil: the copy, and then the loop
stencil_part : (slots : List Slot) (dists : List Dist) (tables : List Table) (orders : List Order) (at : Place) (out array balanced reach : ℕ) (elem : Elem) (s t : State Env ℕ) → IsLike Same s t
    → EndsAs Same IsSameAtTrap (step (doing slots tables orders) (record { at = at; what = what.Stencil out array balanced reach elem }) s)
    (run (part_doing slots dists tables orders) (built_at at (what.Stencil out array balanced reach elem)) t)
unfolding run built_at does units part_does part_units
stencil_part slots dists tables orders at out array balanced reach elem s t like =
    let d2 : Doing Part Env = part_doing slots dists tables orders in
    let copy : Part = Does (record { at = at; what = what.Copy (balanced ∷ []) (array ∷ []) }) in
    let loop : Part = Loops (stencil_loop at out balanced reach elem) in
    let copied : Env = with_slots (balanced ∷ []) (t.env.slots array ∷ []) t.env in
    let between : State Env ℕ = record (worked (part_units slots (dist_at dists) copy) t) { env = copied; out = t.out ++ [] } in
    let ended : State Env ℕ = worked (part_units slots (dist_at dists) loop) between in
    let values : Result (List ℤ) Trap = stencilled t.env.words (cells (t.env.slots array)) elem in
    subst (λ (r : Result (Effect Env) Trap). EndsAs Same IsSameAtTrap (told r (worked 6 s)) (run d2 (built_at at (what.Stencil out array balanced reach elem)) t))
    (sym (ap (λ (e : Env). array_made out (with_slots (balanced ∷ []) (e.slots array ∷ []) e) (stencilled e.words (cells (e.slots array)) elem)) like.env))
    (subst (EndsAs Same IsSameAtTrap (told (array_made out copied values) (worked 6 s))) (sym (two_steps d2 copy loop t copied refl ∙ behind_stop d2 (step d2 loop between)))
    (subst (λ (r : Result (Effect Env) Trap). EndsAs Same IsSameAtTrap (told (array_made out copied values) (worked 6 s)) (told r ended)) (sym (stencil_does at out array balanced reach elem t.env))
    (ends_alike t.env copied out values (worked 6 s) ended (record { words = refl; executed = refl; bad = refl }) like.env refl (append-nil t.out ∙ like.out) like.fuel
    (seven_less s.seen t.seen (part_units slots (dist_at dists) copy) (part_units slots (dist_at dists) loop) (loop_moves (dist_at dists) (stencil_loop at out balanced reach elem)) like.work (copy_units slots balanced array)
    (few_moves (dist_at dists) (stencil_loop at out balanced reach elem)) refl))))

map_part : (tables : List Table) (orders : List Order) (at : Place) (out : ℕ) (ins : List ℕ) (elem : Elem) (e : Env) → 0 < length ins
    → does tables orders at (what.Map out ins elem) e ≡ part_does tables orders (Loops (map_loop at out ins elem)) e
unfolding does part_does
map_part tables orders at out ins elem e some = map_does at out ins elem e some

reduce_part : (tables : List Table) (orders : List Order) (at : Place) (to : ℕ) (kind : FoldKind) (array : ℕ) (elem : Elem) (e : Env)
    → does tables orders at (what.Reduce to kind array elem) e ≡ part_does tables orders (Loops (reduce_loop at to kind array elem)) e
unfolding does part_does
reduce_part tables orders at to kind array elem e = reduce_does at to kind array elem e

same_part : (tables : List Table) (orders : List Order) (at : Place) (w : What) (e : Env) → does tables orders at w e ≡ part_does tables orders (Does (record { at = at; what = w })) e
unfolding part_does
same_part tables orders at w e = refl

two_and : (m n k : ℕ) → m ≤ k + 0 → n ≡ 2 + m → n ≤ 2 + k
two_and m n k a e = omega arith

map_units : (slots : List Slot) (dists : List Dist) (at : Place) (out : ℕ) (ins : List ℕ) (elem : Elem) → part_units slots (dist_at dists) (Loops (map_loop at out ins elem)) ≤ units slots (what.Map out ins elem)
unfolding part_units units
map_units slots dists at out ins elem = two_and _ _ (length ins) (few_moves (dist_at dists) (map_loop at out ins elem)) refl

reduce_units : (slots : List Slot) (dists : List Dist) (at : Place) (to : ℕ) (kind : FoldKind) (array : ℕ) (elem : Elem) → part_units slots (dist_at dists) (Loops (reduce_loop at to kind array elem)) ≤ units slots (what.Reduce to kind array elem)
unfolding part_units units
reduce_units slots dists at to kind array elem = two_and _ _ 1 (few_moves (dist_at dists) (reduce_loop at to kind array elem)) refl

same_units : (slots : List Slot) (dists : List Dist) (at : Place) (w : What) → part_units slots (dist_at dists) (Does (record { at = at; what = w })) ≤ units slots w
unfolding part_units
same_units slots dists at w = omega arith

-- each operation of a program that keeps its laws
part_ends : (slots : List Slot) (dists : List Dist) (tables : List Table) (orders : List Order) (at : Place) (w : What) → IsTrue (has_lists w) → (s t : State Env ℕ) → IsLike Same s t
    → EndsAs Same IsSameAtTrap (step (doing slots tables orders) (record { at = at; what = w }) s) (run (part_doing slots dists tables orders) (built_at at w) t)
unfolding built_at has_lists
part_ends slots dists tables orders at (what.Map out ins elem) fit s t like =
    one_part slots dists tables orders (record { at = at; what = what.Map out ins elem }) (Loops (map_loop at out ins elem)) (λ e. map_part tables orders at out ins elem e (some_of ins fit)) (map_units slots dists at out ins elem) s t like
part_ends slots dists tables orders at (what.Reduce to kind array elem) fit s t like =
    one_part slots dists tables orders (record { at = at; what = what.Reduce to kind array elem }) (Loops (reduce_loop at to kind array elem)) (λ e. reduce_part tables orders at to kind array elem e) (reduce_units slots dists at to kind array elem) s t like
part_ends slots dists tables orders at (what.Stencil out array balanced reach elem) fit s t like = stencil_part slots dists tables orders at out array balanced reach elem s t like
part_ends slots dists tables orders at w fit s t like = one_part slots dists tables orders (record { at = at; what = w }) (Does (record { at = at; what = w })) (λ e. same_part tables orders at w e) (same_units slots dists at w) s t like

-- how a program with loops ends that was built of one of the array IR
pub built_ends : (slots : List Slot) (dists : List Dist) (p : Prog Op) (tables : List Table) (orders : List Order) (fuel : ℕ) → AllByRecursion Fits (operations p)
    → EndsAs Same IsSameAtTrap (mean slots p tables orders fuel) (parts_mean slots dists (replaced built p) tables orders fuel)
unfolding mean parts_mean
built_ends slots dists p tables orders fuel fit =
    run_replaced (doing slots tables orders) (part_doing slots dists tables orders) built
    (record { words = λ e f w same. ap (λ (x : Env). x.words w) same; ops = λ op fits s t like. part_ends slots dists tables orders op.at op.what fits s t like })
    p fit (start unset fuel) (start unset fuel) (record { env = refl; out = refl; fuel = refl; work = omega arith })

-- where two runs end so, they end in the same way as far as meanings are compared, and the second has no more work
pub same_ending : {a b : Ran Env ℕ} → EndsAs Same IsSameAtTrap a b → ending a ≡ ending b
same_ending (both_went like) = rw (like.env, like.out) refl
same_ending (both_trapped like) = rw like.out refl
same_ending (both_spent like) = rw like.out refl

pub no_more_work : {a b : Ran Env ℕ} → EndsAs Same IsSameAtTrap a b → work_of b ≤ work_of a
no_more_work (both_went like) = like.work
no_more_work (both_trapped like) = like.work
no_more_work (both_spent like) = like.work

-- the operations of a program that keeps its laws have their lists
pub lists_fit : (slots : List Slot) (words : ℕ) (ops : List Op) → IsTrue (list_all (λ op. is_kept slots words op.what) ops) → AllByRecursion Fits ops
lists_fit slots words [] kept = tt
lists_fit slots words (op ∷ ops) kept =
    (second_holds _ _ (first_holds _ _ (first_holds _ _ (first_holds _ _ (first_holds _ _ (first_holds _ _ kept))))), lists_fit slots words ops (second_holds _ _ kept))
