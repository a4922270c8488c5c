-- What is built of a program that carries a script carries it.
use Rattle.std.proofs.Common.{◌≡◌, ℕ, zero, ◌==◌, Bool, true, false, not, ◌&&◌, ◌||◌, cond, List, [], ◌∷◌, ◌++◌, map, flat_map, filter, length, Some, None, IsTrue, refl, sym, ap, subst, ◌∙◌, append-nil, arith}
use Rattle.std.proofs.lemmas.Bool.{eq-eqb, eqb-true}
use Rattle.std.proofs.lemmas.List.{map-append}
use Rattle.std.proofs.lemmas.List.Folds.{list_any-append}
use Rattle.std.proofs.lemmas.List.Sums.{sum_by-cons, sum_by-append, length-filter}
use Rattle.std.specs.Prelude.{count_by}
use Rattle.std.specs.List.{AllByRecursion, list_all, list_any}
use Rattle.hp_word.specs.declared.fold.FoldKind.{FoldKind}
use Rattle.hp_word.specs.declared.place.Place.{Place}
use Rattle.hp_script.specs.declared.typed.Typed.{Typed}
use Rattle.hp_program.proofs.Keeping.{first_holds, second_holds}
use Rattle.hp_program.proofs.Replaced.{operations_replaced}
use Rattle.hp_program.specs.Programs.{Prog, operations, replaced}
use Rattle.hp_air.specs.declared.slot.Slot.{Slot}
use Rattle.hp_air.specs.declared.what.Op.{Op}
use Rattle.hp_air.specs.declared.what.What.{What}
use Rattle.hp_air.specs.declared.what.What.TheVariants as what
use Rattle.hp_air.specs.Arrays.{Arrays, Copy, Map, Reduce, Stencil, arrays_of, outs, sides, renamed, is_variant}
use Rattle.hp_air.specs.Carried.{Step, Loop, Plain, step_of, step_reads, IsItem, is_among, IsSource, is_plain, looped_of, is_plain_step, is_loop_step, steps_for, may_be_left_out, is_made, is_done, copy_to_balanced, copy_reads, balanced_read, StepReads, plain_step, loop_step, is_kind, folds_in, is_element, is_output, plain_in, CarriedBy, IsLoopOf, map_loop, stencil_loop, no_loop, rows_of, Carried}
use Rattle.hp_air.specs.Frames.{slot_at}
use Rattle.hp_air.specs.Kept.{has_lists, is_kept, are_kept}
use Rattle.hp_air.specs.Unknowns.{Unknown, of_variable, of_node, balanced_of, of_nothing, same_unknown, unknown_of, constructs}
use Rattle.hp_parfor.specs.Built.{built_at, built}
use Rattle.hp_parfor.specs.CarriedParts.{part_step, CarriedParts}
use Rattle.hp_parfor.proofs.BuiltKept.{both, lists_held}
use Rattle.hp_parfor.proofs.ConstructForms.{are_plain, is_of_one, is_formed, script_formed, item_formed}

-- ---- the steps that stand for an operation

abbrev made : Arrays Unknown → List (Step Unknown)
made (Map out []) = Loop (out ∷ []) [] [] ∷ []
made (Map out (x ∷ xs)) = Loop (out ∷ []) (x ∷ x ∷ xs) [] ∷ []
made (Reduce kind x) = Loop [] (x ∷ x ∷ []) (kind ∷ []) ∷ []
made (Stencil out x balanced) = Plain (Copy (balanced ∷ []) (x ∷ [])) ∷ Loop (out ∷ []) (balanced ∷ balanced ∷ []) [] ∷ []
made a = Plain a ∷ []

row_made : (slots : List Slot) (words : ℕ) (at : Place) (w : What) → IsTrue (is_kept slots words w) → map (part_step slots) (operations (built_at at w)) ≡ made (renamed (λ k. unknown_of (slot_at slots k)) (arrays_of w))
unfolding operations built_at part_step arrays_of renamed has_lists
row_made slots words at (what.Map out [] elem) kept = let no : IsTrue false = lists_held slots words (what.Map out [] elem) kept in absurd cc
row_made slots words at (what.Map out (x ∷ xs) elem) kept = rw (append-nil xs) refl
row_made slots words at w kept = refl

rows_made : (slots : List Slot) (words : ℕ) (ops : List Op) → IsTrue (list_all (λ op. is_kept slots words op.what) ops)
    → map (part_step slots) (flat_map (λ op. operations (built op)) ops) ≡ flat_map made (map (λ op. renamed (λ k. unknown_of (slot_at slots k)) (arrays_of op.what)) ops)
rows_made slots words [] kept = refl
rows_made slots words (op ∷ ops) kept =
    map-append (part_step slots) (operations (built op)) _
    ∙ ap (λ l. l ++ map (part_step slots) (flat_map (λ (o : Op). operations (built o)) ops)) (row_made slots words op.at op.what (first_holds _ _ kept))
    ∙ ap (λ l. made (renamed (λ k. unknown_of (slot_at slots k)) (arrays_of op.what)) ++ l) (rows_made slots words ops (second_holds _ _ kept))

-- ---- operations beside their constructs

-- a stencil of the program is that of some construct
data RowOf (cs : List (Arrays Unknown)) : Arrays Unknown → Type 0 where
  stencil_row : {n : ℕ} {u x : Unknown} → IsItem cs (Stencil (of_node n 0) u (balanced_of n)) → IsSource cs u x → RowOf cs (Stencil (of_node n 0) x (balanced_of n))
  map_row : {out : Unknown} {ins : List Unknown} → RowOf cs (Map out ins)
  other_row : {a : Arrays Unknown} → looped_of a ≡ None → RowOf cs a

row_of : (cs : List (Arrays Unknown)) → IsTrue (list_all is_formed cs) → (a : Arrays Unknown) → IsLoopOf cs a → RowOf cs a
row_of cs formed _ (map_loop item alike) = map_row
row_of cs formed _ (no_loop e) = other_row e
row_of cs formed _ (stencil_loop {out = out} {x = x} {u = u} {balanced = balanced} item source) = by out balanced (item_formed cs (Stencil out u balanced) formed item) item
  where
    is_true : (b : Bool) → IsTrue b → b ≡ true
    is_true true p = refl
    is_true false p = absurd cc

    by : (o b : Unknown) → IsTrue (is_of_one o b) → IsItem cs (Stencil o u b) → RowOf cs (Stencil o x b)
    by (of_node n zero) (balanced_of m) same i =
        subst (λ (k : ℕ). IsItem cs (Stencil (of_node n 0) u (balanced_of k)) → RowOf cs (Stencil (of_node n 0) x (balanced_of k))) (eqb-true n m (is_true _ same)) (λ j. stencil_row j source) i
    by o b same i = absurd cc

all_rows : (cs : List (Arrays Unknown)) → IsTrue (list_all is_formed cs) → (rows : List (Arrays Unknown)) → AllByRecursion (IsLoopOf cs) rows → AllByRecursion (RowOf cs) rows
all_rows cs formed [] loops = tt
all_rows cs formed (a ∷ rows) loops = (row_of cs formed a loops.0, all_rows cs formed rows loops.1)

-- ---- what is read

row_reads : (cs : List (Arrays Unknown)) (a : Arrays Unknown) → RowOf cs a → StepReads cs (step_of a) → AllByRecursion (StepReads cs) (made a)
row_reads cs _ (stencil_row item source) (loop_step w r) = (plain_step (copy_reads (copy_to_balanced item source, tt)), (loop_step w (balanced_read, (balanced_read, tt)), tt))
row_reads cs (Map out []) row s = (s, tt)
row_reads cs (Map out (x ∷ xs)) row (loop_step w r) = (loop_step w (r.0, r), tt)
row_reads cs (Reduce kind x) row (loop_step w r) = (loop_step w (r.0, r), tt)
row_reads cs (Stencil out x balanced) (other_row e) s = absurd cc
row_reads cs a (other_row e) s = (s, tt)

join_all : {X : Type 0} (P : X → Type 0) (xs ys : List X) → AllByRecursion P xs → AllByRecursion P ys → AllByRecursion P (xs ++ ys)
join_all P [] ys p q = q
join_all P (x ∷ xs) ys p q = (p.0, join_all P xs ys p.1 q)

all_reads : (cs rows : List (Arrays Unknown)) → AllByRecursion (RowOf cs) rows → AllByRecursion (StepReads cs) (map step_of rows) → AllByRecursion (StepReads cs) (flat_map made rows)
all_reads cs [] forms r = tt
all_reads cs (a ∷ rows) forms r = join_all (StepReads cs) (made a) (flat_map made rows) (row_reads cs a forms.0 r.0) (all_reads cs rows forms.1 r.1)

-- ---- folds, elements and outputs

row_folds : (a : Arrays Unknown) (rest other : List (Step Unknown)) → folds_in rest ≡ folds_in other → folds_in (made a ++ rest) ≡ folds_in (step_of a ∷ other)
row_folds (Map out []) rest other e = e
row_folds (Map out (x ∷ xs)) rest other e = e
row_folds (Reduce kind x) rest other e = ap (λ (l : List FoldKind). kind ∷ l) e
row_folds a rest other e = e

all_folds : (rows : List (Arrays Unknown)) → folds_in (flat_map made rows) ≡ folds_in (map step_of rows)
all_folds [] = refl
all_folds (a ∷ rows) = row_folds a (flat_map made rows) (map step_of rows) (all_folds rows)

module _ (test : Arrays Unknown → Bool) (never : (os ins : List Unknown) → test (Copy os ins) ≡ false) where
  one_more : (a : Arrays Unknown) (xs ys : List (Arrays Unknown)) → filter test xs ≡ filter test ys → filter test (a ∷ xs) ≡ filter test (a ∷ ys)
  one_more a xs ys e = ap (λ (l : List (Arrays Unknown)). cond (test a) (a ∷ l) l) e

  row_plain : (a : Arrays Unknown) (rest other : List (Step Unknown)) → filter test (plain_in rest) ≡ filter test (plain_in other) → filter test (plain_in (made a ++ rest)) ≡ filter test (plain_in (step_of a ∷ other))
  row_plain (Map out []) rest other e = e
  row_plain (Map out (x ∷ xs)) rest other e = e
  row_plain (Reduce kind x) rest other e = e
  row_plain (Stencil out x balanced) rest other e = rw (never (balanced ∷ []) (x ∷ [])) e
  row_plain a rest other e = one_more a (plain_in rest) (plain_in other) e

  all_plain : (rows : List (Arrays Unknown)) → filter test (plain_in (flat_map made rows)) ≡ filter test (plain_in (map step_of rows))
  all_plain [] = refl
  all_plain (a ∷ rows) = row_plain a (flat_map made rows) (map step_of rows) (all_plain rows)

all_elements : (rows : List (Arrays Unknown)) → count_by is_element (plain_in (flat_map made rows)) ≡ count_by is_element (plain_in (map step_of rows))
all_elements rows =
    sym (length-filter is_element (plain_in (flat_map made rows))) ∙ ap length (all_plain is_element (λ os ins. refl) rows) ∙ length-filter is_element (plain_in (map step_of rows))

-- ---- what is done

-- the steps of an operation pass a test as often as it does
counts : (test : Step Unknown → Bool) → ((a : Arrays Unknown) → count_by test (made a) ≡ count_by test (step_of a ∷ [])) → (rows : List (Arrays Unknown)) → count_by test (flat_map made rows) ≡ count_by test (map step_of rows)
counts test same [] = refl
counts test same (a ∷ rows) =
    let units : Step Unknown → ℕ = λ s. cond (test s) 1 0 in
    omega (arith, sum_by-append units (made a) (flat_map made rows), sum_by-append units (step_of a ∷ []) (map step_of rows), same a, counts test same rows)

loop_counted : (out : Unknown) (a : Arrays Unknown) → count_by (is_loop_step out) (made a) ≡ count_by (is_loop_step out) (step_of a ∷ [])
loop_counted out (Map o []) = refl
loop_counted out (Map o (x ∷ xs)) = refl
loop_counted out a = refl

no_copy_step : (c : Arrays Unknown) (os ins : List Unknown) → IsTrue (is_plain c) → is_plain_step c (Plain (Copy os ins)) ≡ false
unfolding is_variant
no_copy_step (Copy _ _) os ins p = absurd cc
no_copy_step c os ins p = refl

plain_counted : (c : Arrays Unknown) → IsTrue (is_plain c) → (a : Arrays Unknown) → count_by (is_plain_step c) (made a) ≡ count_by (is_plain_step c) (step_of a ∷ [])
plain_counted c p (Map o []) = refl
plain_counted c p (Map o (x ∷ xs)) = refl
plain_counted c p (Stencil out x balanced) = rw (no_copy_step c (balanced ∷ []) (x ∷ []) p) refl
plain_counted c p a = refl

all_counted : (c : Arrays Unknown) (rows : List (Arrays Unknown)) → is_made c ≡ true → steps_for c (flat_map made rows) ≡ steps_for c (map step_of rows)
all_counted (Map out ins) rows m = counts (is_loop_step out) (loop_counted out) rows
all_counted (Stencil out x balanced) rows m = counts (is_loop_step out) (loop_counted out) rows
all_counted c rows m = counts (is_plain_step c) (plain_counted c m) rows

-- ---- what is not read

-- a construct makes the balanced copy of an expression and its value, or no balanced copy
data HasCopy (c : Arrays Unknown) : Type 0 where
  its_copy : {n : ℕ} → looped_of c ≡ Some (of_node n 0) → ((m : ℕ) → is_among (outs c) (balanced_of m) ≡ true → n ≡ m) → HasCopy c
  no_copy : ((m : ℕ) → is_among (outs c) (balanced_of m) ≡ false) → HasCopy c

not_among : (m : ℕ) (us : List Unknown) → IsTrue (are_plain us) → is_among us (balanced_of m) ≡ false
unfolding same_unknown
not_among m [] p = refl
not_among m (of_variable v k ∷ us) p = not_among m us p
not_among m (of_node v k ∷ us) p = not_among m us p
not_among m (balanced_of v ∷ us) p = absurd cc
not_among m (of_nothing ∷ us) p = not_among m us p

its_node : (m n : ℕ) → (m == n || false) ≡ true → n ≡ m
its_node m n p = by (m == n) (λ e. sym (eqb-true m n e)) p
  where
    by : (b : Bool) → (b ≡ true → n ≡ m) → (b || false) ≡ true → n ≡ m
    by true found q = found refl
    by false found q = absurd cc

has_copy : (c : Arrays Unknown) → IsTrue (is_formed c) → HasCopy c
unfolding outs same_unknown
has_copy (Stencil out x balanced) formed = by out balanced formed
  where
    is_true : (b : Bool) → IsTrue b → b ≡ true
    is_true true p = refl
    is_true false p = absurd cc

    by : (o b : Unknown) → IsTrue (is_of_one o b) → HasCopy (Stencil o x b)
    by (of_node n zero) (balanced_of m) same =
        let one : n ≡ m = eqb-true n m (is_true _ same) in
        its_copy refl (λ k found. one ∙ its_node k m found)
    by o b same = absurd cc
has_copy c formed = no_copy (λ m. not_among m (outs c) formed)

-- whatever reads these balanced copies reads nothing that the construct makes
abbrev IsApart : Arrays Unknown → Arrays Unknown → Type 0
IsApart c (Stencil out x balanced) = is_among (outs c) balanced ≡ false
IsApart c _ = Unit {0}

none_counted : (test : Step Unknown → Bool) (s : Step Unknown) (steps : List (Step Unknown)) → count_by test (s ∷ steps) ≡ 0 → (test s ≡ false) × (count_by test steps ≡ 0)
none_counted test s steps none = (by (test s) refl, omega (arith, sum_by-cons units s steps, none))
  where
    units : Step Unknown → ℕ
    units r = cond (test r) 1 0

    by : (b : Bool) → test s ≡ b → test s ≡ false
    by false e = e
    by true e =
        let one : units s ≡ 1 = ap (λ (b : Bool). cond b 1 0) e in
        absurd (omega (arith, sum_by-cons units s steps, none, one))

rows_apart : (cs : List (Arrays Unknown)) (c : Arrays Unknown) (n : ℕ) → ((m : ℕ) → is_among (outs c) (balanced_of m) ≡ true → n ≡ m) → (rows : List (Arrays Unknown)) → AllByRecursion (RowOf cs) rows
    → count_by (is_loop_step (of_node n 0)) (map step_of rows) ≡ 0 → AllByRecursion (IsApart c) rows
unfolding same_unknown
rows_apart cs c n only [] forms none = tt
rows_apart cs c n only (a ∷ rows) forms none =
    let here = none_counted (is_loop_step (of_node n 0)) (step_of a) (map step_of rows) none in
    (by a forms.0 here.0, rows_apart cs c n only rows forms.1 here.1)
  where
    apart : (m : ℕ) (b : Bool) → is_among (outs c) (balanced_of m) ≡ b → is_loop_step (of_node n 0) (Loop (of_node m 0 ∷ []) [] []) ≡ false → is_among (outs c) (balanced_of m) ≡ false
    apart m false e not_done = e
    apart m true e not_done =
        let one : (n == m) ≡ true = eq-eqb n m (only m e) in
        let wrong : (((n == m) && true) || false) ≡ false = not_done in
        absurd cc

    by : (x : Arrays Unknown) → RowOf cs x → is_loop_step (of_node n 0) (step_of x) ≡ false → IsApart c x
    by _ (stencil_row {n = m} item source) not_done = apart m (is_among (outs c) (balanced_of m)) refl not_done
    by _ map_row not_done = tt
    by (Stencil out x balanced) (other_row e) not_done = absurd cc
    by x (other_row e) not_done = tt

rows_free : (cs : List (Arrays Unknown)) (c : Arrays Unknown) → ((m : ℕ) → is_among (outs c) (balanced_of m) ≡ false) → (rows : List (Arrays Unknown)) → AllByRecursion (RowOf cs) rows → AllByRecursion (IsApart c) rows
rows_free cs c never [] forms = tt
rows_free cs c never (a ∷ rows) forms = (by a forms.0, rows_free cs c never rows forms.1)
  where
    by : (x : Arrays Unknown) → RowOf cs x → IsApart c x
    by _ (stencil_row {n = m} item source) = never m
    by _ map_row = tt
    by (Stencil out x balanced) (other_row e) = absurd cc
    by x (other_row e) = tt

apart_rows : (cs : List (Arrays Unknown)) (c : Arrays Unknown) → HasCopy c → (rows : List (Arrays Unknown)) → AllByRecursion (RowOf cs) rows → steps_for c (map step_of rows) ≡ 0 → AllByRecursion (IsApart c) rows
apart_rows cs c (no_copy never) rows forms none = rows_free cs c never rows forms
apart_rows cs c (its_copy {n = n} makes only) rows forms none = rows_apart cs c n only rows forms (rw (steps_for, makes) at none)

-- it reads what the construct makes
abbrev reads_of : Arrays Unknown → Step Unknown → Bool
reads_of c s = list_any (is_among (outs c)) (step_reads s)

twice : (b r : Bool) → (b || r) ≡ false → (b || (b || r)) ≡ false
twice true r e = absurd cc
twice false r e = e

row_unread : (c a : Arrays Unknown) → IsApart c a → reads_of c (step_of a) ≡ false → list_any (reads_of c) (made a) ≡ false
unfolding sides
row_unread c (Map out []) apart e = refl
row_unread c (Map out (x ∷ xs)) apart e = rw (twice _ _ e) refl
row_unread c (Reduce kind x) apart e = rw (twice _ _ e) refl
row_unread c (Stencil out x balanced) apart e = rw (apart, e) refl
row_unread c a apart e = rw e refl

neither : (a b : Bool) → (a || b) ≡ false → (a ≡ false) × (b ≡ false)
neither true b e = absurd cc
neither false b e = (refl, e)

all_unread : (c : Arrays Unknown) (rows : List (Arrays Unknown)) → AllByRecursion (IsApart c) rows → list_any (reads_of c) (map step_of rows) ≡ false → list_any (reads_of c) (flat_map made rows) ≡ false
all_unread c [] apart e = refl
all_unread c (a ∷ rows) apart e =
    let parts = neither (reads_of c (step_of a)) (list_any (reads_of c) (map step_of rows)) e in
    list_any-append (reads_of c) (made a) (flat_map made rows) ∙ ap (λ b. b || list_any (reads_of c) (flat_map made rows)) (row_unread c a apart.0 parts.0) ∙ all_unread c rows apart.1 parts.1

-- ---- each construct is done

done_by : (m : Bool) (n k : ℕ) (may u v : Bool) → (m ≡ true → k ≡ n) → (n ≡ 0 → u ≡ false → v ≡ false) → IsTrue ((not m || n == 1) || ((n == 0 && may) && not u)) → IsTrue ((not m || k == 1) || ((k == 0 && may) && not v))
done_by false n k may u v same unread p = refl
done_by true n k may u v same unread p = rw (same refl) (by (n == 1) (n == 0) may u (λ zero. unread (eqb-true n 0 zero)) p)
  where
    by : (one none may r : Bool) → (none ≡ true → r ≡ false → v ≡ false) → IsTrue ((false || one) || ((none && may) && not r)) → IsTrue ((false || one) || ((none && may) && not v))
    by true none may r kept q = refl
    by false true true false kept q = rw (kept refl refl) refl
    by false true true true kept q = absurd cc
    by false true false r kept q = absurd cc
    by false false may r kept q = absurd cc

row_done : (cs rows : List (Arrays Unknown)) → AllByRecursion (RowOf cs) rows → (c : Arrays Unknown) → IsTrue (is_formed c) → IsTrue (is_done (map step_of rows) c) → IsTrue (is_done (flat_map made rows) c)
row_done cs rows forms c formed p =
    done_by (is_made c) (steps_for c (map step_of rows)) (steps_for c (flat_map made rows)) (may_be_left_out c) (list_any (reads_of c) (map step_of rows)) (list_any (reads_of c) (flat_map made rows)) (all_counted c rows)
    (λ none unread. all_unread c rows (apart_rows cs c (has_copy c formed) rows forms none) unread) p

all_done : (cs rows : List (Arrays Unknown)) → AllByRecursion (RowOf cs) rows → (ds : List (Arrays Unknown)) → IsTrue (list_all is_formed ds) → IsTrue (list_all (is_done (map step_of rows)) ds) → IsTrue (list_all (is_done (flat_map made rows)) ds)
all_done cs rows forms [] formed p = refl
all_done cs rows forms (c ∷ ds) formed p =
    both _ _ (row_done cs rows forms c (first_holds (is_formed c) _ formed) (first_holds (is_done (map step_of rows) c) _ p))
    (all_done cs rows forms ds (second_holds (is_formed c) _ formed) (second_holds (is_done (map step_of rows) c) _ p))

-- ---- programs

rows_carried : (cs : List (Arrays Unknown)) → IsTrue (list_all is_formed cs) → (rows : List (Arrays Unknown)) → CarriedBy cs (map step_of rows) → AllByRecursion (IsLoopOf cs) rows → CarriedBy cs (flat_map made rows)
rows_carried cs formed rows carried loops =
    let forms : AllByRecursion (RowOf cs) rows = all_rows cs formed rows loops in
    record {
      done = all_done cs rows forms cs formed carried.done;
      reads = all_reads cs rows forms carried.reads;
      folds = λ kind. ap (count_by (is_kind kind)) (all_folds rows) ∙ carried.folds kind;
      elements = all_elements rows ∙ carried.elements;
      outputs = rw (all_plain is_output (λ os ins. refl) rows) carried.outputs;
    }

pub built_carried : (slots : List Slot) (words : ℕ) (p : Prog Op) → IsTrue (are_kept slots words p) → (typed : Typed) → Carried typed slots p → CarriedParts typed slots (replaced built p)
built_carried slots words p kept typed carried =
    rw (operations_replaced built p, rows_made slots words (operations p) (first_holds _ _ kept)) (rows_carried (constructs typed) (script_formed typed) (rows_of slots p) carried.steps carried.loops)
