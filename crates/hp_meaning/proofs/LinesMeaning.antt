-- What `Meaning` says of the statements that are built is what the script means.
use Rattle.std.proofs.Common.{◌≡◌, ℕ, ◌+◌, ℤ, List, [], ◌∷◌, ◌++◌, Bool, true, false, cond, Option, Some, None, Result, Ok, Err, refl, sym, ap, ◌∙◌, subst, arith}
use Rattle.std.specs.Prelude.{bytes_eq, ◌&&◌, ◌||◌}
use Rattle.std.specs.List.{list_any}
use Rattle.std.specs.Option.{option_map, option_or}
use Rattle.std.proofs.lemmas.List.Folds.{list_any-append}
use Rattle.hp_word.specs.declared.fold.FoldKind.TheVariants.{Sum}
use Rattle.hp_word.specs.declared.order.Orders.{Orders}
use Rattle.hp_word.specs.declared.place.Place.{Place}
use Rattle.hp_word.specs.declared.place.Trap.{Trap}
use Rattle.hp_word.specs.declared.table.Tables.{Tables}
use Rattle.hp_word.specs.Folds.{fold_of}
use Rattle.hp_word.specs.ListRules.{filled}
use Rattle.hp_word.specs.Text.{printed}
use Rattle.hp_script.specs.Mirror.{Tree, Block, done, assign, print, export, choose, loop}
use Rattle.hp_script.specs.Trees.{named}
use Rattle.hp_meaning.specs.declared.line.Line.{Line}
use Rattle.hp_meaning.specs.declared.line.Line.TheVariants.{Fill, PrintSum, AddArrays, AddNumber}
use Rattle.hp_meaning.specs.declared.seen.Seen.{Seen}
use Rattle.hp_meaning.specs.declared.value.Kind.TheVariants.{Number}
use Rattle.hp_meaning.specs.declared.value.Value.TheVariants.{List as Listed}
use Rattle.hp_meaning.specs.declared.value.Var.{Var}
use Rattle.hp_meaning.specs.Arrays.{sum_of, added_number}
use Rattle.hp_meaning.specs.Forms.{◌>>=◌, number_of, variable_of, fill_call, sum_call, added_name, added_form, assigned_form, printed_form, assigns, is_assigned, reads_assigned, built}
use Rattle.hp_meaning.specs.LinesLaw.{EndsAlike}
use Rattle.hp_meaning.specs.Meaning as lines
use Rattle.hp_meaning.specs.Meaning.{Binding, Ending, Ints, array_of, binding, line_meaning, then_lines, lines_meaning}
use Rattle.hp_meaning.specs.Outcomes.{tick}
use Rattle.hp_meaning.specs.Printouts.{printout}
use Rattle.hp_meaning.specs.Run.{State, Ran, End, begun, using_value, store, written, evaluated, run, end_of, start, eval}
use Rattle.hp_word.specs.Runs.{Went, behind}
use Rattle.hp_meaning.specs.Scopes.{outside, value_named, assigned}
use Rattle.hp_meaning.specs.ReadCalls.{reads_of}
use Rattle.hp_meaning.specs.ValueOf.{Supply, supply, value}
use Rattle.hp_meaning.proofs.BuiltReads.{Begins, next_ok}
use Rattle.hp_meaning.proofs.FormMeanings.{made, three, two_ticks, fill_value, sum_value, arrays_value, number_sum_value}
use Rattle.hp_meaning.proofs.FormParts.{bind_some, map_some}
use Rattle.hp_meaning.proofs.NamedVariables.{differ, same_bytes, value_stored, value_kept}
use Rattle.hp_script.proofs.TestLemmas.{and_left, and_right}

-- ---- states

-- The state of the whole meaning is that of the built statements': each name that the lines assign has its array, the
-- output and the ticks are the same, and no order was bad.
record Tracks (before : List Line) (m : lines.Seen) (s : State) : Type 0 where
  pub holds : (name : List ℕ) → is_assigned before name ≡ true → value_named name s.env ≡ Some (Listed Number (array_of m.env name))
  pub out : s.out ≡ m.out
  pub ticks : s.seen.ticks ≡ m.ticks
  pub bad : s.seen.met.bad ≡ []

either_false : (b : Bool) → (b || false) ≡ b
either_false true = refl
either_false false = refl

assigned_more : (before : List Line) (line : Line) (name : List ℕ) → is_assigned (before ++ line ∷ []) name ≡ (is_assigned before name || assigns name line)
unfolding is_assigned
assigned_more before line name = list_any-append (assigns name) before (line ∷ []) ∙ ap (λ b. list_any (assigns name) before || b) (either_false (assigns name line))

-- what the lines assign behind one that does not assign the name
assigned_before : (before : List Line) (line : Line) (name : List ℕ) → assigns name line ≡ false → is_assigned (before ++ line ∷ []) name ≡ true → is_assigned before name ≡ true
assigned_before before line name apart e = sym (assigned_more before line name ∙ ap (λ b. is_assigned before name || b) apart ∙ either_false (is_assigned before name)) ∙ e

-- ---- lines that assign

-- The line assigns to the name, and to no other, what the expression comes to.
record Assigns (g : Supply) (name : List ℕ) (x : Tree) (line : Line) (m : lines.Seen) (s : State) : Type 0 where
  pub array : Result (List ℤ) Trap
  pub means : line_meaning line m ≡ lines.assigned (named name) array m
  pub comes : value g x (outside s.env) (tick s.seen) ≡ made array (three (tick s.seen))
  pub only : (other : List ℕ) → assigns other line ≡ bytes_eq other name

filling : (g : Supply) (name : List ℕ) (x : Tree) (f : Place × ℤ × ℤ) (m : lines.Seen) (s : State) → fill_call x ≡ Some f → Assigns g name x (Fill (named name) f.0 f.1 f.2) m s
filling g name x f m s e =
    record { array = filled f.0 f.2 f.1; means = refl; comes = fill_value g x f (outside s.env) (tick s.seen) e; only = λ other. refl }

adding_arrays : (g : Supply) (name : List ℕ) (x : Tree) (p : Place × List ℕ × Tree) (right : List ℕ) (before : List Line) (m : lines.Seen) (s : State) → added_name x ≡ Some p
    → variable_of p.2 ≡ Some right → Tracks before m s → (is_assigned before p.1 && is_assigned before right) ≡ true → Assigns g name x (AddArrays (named name) p.0 (named p.1) (named right)) m s
adding_arrays g name x p right before m s e f t reads =
    let first = t.holds p.1 (and_left (is_assigned before p.1) (is_assigned before right) reads) in
    let second = t.holds right (and_right (is_assigned before p.1) (is_assigned before right) reads) in
    record {
      array = sum_of p.0 (array_of m.env p.1) (array_of m.env right);
      means = refl;
      comes = arrays_value g x p right (array_of m.env p.1) (array_of m.env right) (outside s.env) (tick s.seen) e f first second;
      only = λ other. refl;
    }

adding_number : (g : Supply) (name : List ℕ) (x : Tree) (p : Place × List ℕ × Tree) (z : ℤ) (before : List Line) (m : lines.Seen) (s : State) → added_name x ≡ Some p → number_of p.2 ≡ Some z
    → Tracks before m s → is_assigned before p.1 ≡ true → Assigns g name x (AddNumber (named name) p.0 (named p.1) z) m s
adding_number g name x p z before m s e f t reads =
    record {
      array = Ok (added_number (array_of m.env p.1) z);
      means = refl;
      comes = number_sum_value g x p z (array_of m.env p.1) (outside s.env) (tick s.seen) e f (t.holds p.1 reads);
      only = λ other. refl;
    }

-- a sum, by what its second side is
adding : (g : Supply) (name : List ℕ) (x : Tree) (p : Place × List ℕ × Tree) (line : Line) (before : List Line) (m : lines.Seen) (s : State) (r : Option (List ℕ)) → added_name x ≡ Some p
    → variable_of p.2 ≡ r
    → option_or (option_map (λ right. AddArrays (named name) p.0 (named p.1) (named right)) r) (option_map (λ n. AddNumber (named name) p.0 (named p.1) n) (number_of p.2)) ≡ Some line
    → Tracks before m s → reads_assigned before line ≡ true → Assigns g name x line m s
adding g name x p line before m s (Some right) e f is t reads =
    let same : AddArrays (named name) p.0 (named p.1) (named right) ≡ line = cc is in
    subst (λ l. Assigns g name x l m s) same (adding_arrays g name x p right before m s e f t (subst (λ l. reads_assigned before l ≡ true) (sym same) reads))
adding g name x p line before m s None e f is t reads =
    let z = map_some (λ n. AddNumber (named name) p.0 (named p.1) n) (number_of p.2) line is in
    subst (λ l. Assigns g name x l m s) z.2 (adding_number g name x p z.0 before m s e z.1 t (subst (λ l. reads_assigned before l ≡ true) (sym z.2) reads))

-- a line that assigns, by whether it calls `fill`
assigning : (g : Supply) (name : List ℕ) (x : Tree) (line : Line) (before : List Line) (m : lines.Seen) (s : State) (r : Option (Place × ℤ × ℤ)) → fill_call x ≡ r
    → option_or (option_map (λ f. Fill (named name) f.0 f.1 f.2) r) (added_name x >>= added_form name) ≡ Some line
    → Tracks before m s → reads_assigned before line ≡ true → Assigns g name x line m s
unfolding added_form
assigning g name x line before m s (Some f) e is t reads =
    let same : Fill (named name) f.0 f.1 f.2 ≡ line = cc is in
    subst (λ l. Assigns g name x l m s) same (filling g name x f m s e)
assigning g name x line before m s None e is t reads =
    let p = bind_some (added_name x) (added_form name) line is in
    adding g name x p.0 line before m s (variable_of p.0.2) p.1 refl p.2 t reads

assigned_line : (g : Supply) (name : List ℕ) (x : Tree) (line : Line) (before : List Line) (m : lines.Seen) (s : State) → assigned_form name x ≡ Some line
    → Tracks before m s → reads_assigned before line ≡ true → Assigns g name x line m s
unfolding assigned_form
assigned_line g name x line before m s is t reads = assigning g name x line before m s (fill_call x) refl is t reads

-- ---- a step that assigns

-- the state behind an assignment
abbrev stored : List ℕ → List ℤ → Seen → State → State
stored name xs n s = store name (Listed Number xs) (record s { seen = n })

abbrev bound : List ℕ → List ℤ → lines.Seen → lines.Seen
bound name xs m = lines.seen (binding name (Ints xs) ∷ m.env) m.out (m.ticks + 4)

held_after : (name other : List ℕ) (xs : List ℤ) (env : List Binding) (vars : List Var) (b : Bool) → bytes_eq name other ≡ b
    → (b ≡ false → value_named other vars ≡ Some (Listed Number (array_of env other)))
    → value_named other (assigned name (Listed Number xs) vars) ≡ Some (Listed Number (cond b xs (array_of env other)))
held_after name other xs env vars true e held =
    ap (λ o. value_named o (assigned name (Listed Number xs) vars)) (sym (same_bytes name other e)) ∙ value_stored name (Listed Number xs) vars
held_after name other xs env vars false e held = value_kept name other (Listed Number xs) vars e ∙ held refl

tracks_assigned : (name : List ℕ) (xs : List ℤ) (line : Line) (before : List Line) (m : lines.Seen) (s : State) (n : Seen)
    → ((other : List ℕ) → assigns other line ≡ bytes_eq other name) → n.ticks ≡ m.ticks + 4 → n.met.bad ≡ [] → Tracks before m s
    → Tracks (before ++ line ∷ []) (bound name xs m) (stored name xs n s)
tracks_assigned name xs line before m s n only ticks bad t =
    record {
      holds = λ other e. held_after name other xs m.env s.env (bytes_eq name other) refl
          (λ apart. t.holds other (assigned_before before line other (only other ∙ differ name other apart) e));
      out = t.out;
      ticks = ticks;
      bad = bad;
    }

-- where an expression comes to an array, the lines and the script go on; at a trap both end
array_step : (name : List ℕ) (r : Result (List ℤ) Trap) (m : lines.Seen) (s : State) (n : Seen) (more : lines.Seen → Ending) (rest : State → Ran)
    → n.ticks ≡ m.ticks + 4 → n.met.bad ≡ [] → s.out ≡ m.out
    → ((xs : List ℤ) → EndsAlike (more (bound name xs m)) (end_of (rest (stored name xs n s))))
    → EndsAlike (then_lines (lines.assigned (named name) r m) m more) (end_of (behind (using_value (begun s) (made r n) (λ a s. Went (store name a s))) rest))
array_step name (Ok xs) m s n more rest ticks bad out later = later xs
array_step name (Err t) m s n more rest ticks bad out later = (refl, out, ticks, bad)

assign_step : (g : Supply) (name : List ℕ) (x : Tree) (line : Line) (before : List Line) (m : lines.Seen) (s : State) (more : lines.Seen → Ending) (rest : State → Ran)
    → Assigns g name x line m s → Tracks before m s
    → ((next : lines.Seen) (now : State) → Tracks (before ++ line ∷ []) next now → EndsAlike (more next) (end_of (rest now)))
    → EndsAlike (then_lines (line_meaning line m) m more) (end_of (behind (evaluated g (value g x) s (λ a s. Went (store name a s))) rest))
assign_step g name x line before m s more rest a t later =
    let n = three (tick s.seen) in
    let ticks : n.ticks ≡ m.ticks + 4 = omega (arith, t.ticks) in
    let made_of = array_step name a.array m s n more rest ticks t.bad t.out
    (λ xs. later (bound name xs m) (stored name xs n s) (tracks_assigned name xs line before m s n a.only ticks t.bad t)) in
    let script = subst (λ o. EndsAlike (then_lines (lines.assigned (named name) a.array m) m more) (end_of (behind (using_value (begun s) o (λ a s. Went (store name a s))) rest))) (sym a.comes) made_of in
    subst (λ r. EndsAlike (then_lines r m more) (end_of (behind (evaluated g (value g x) s (λ a s. Went (store name a s))) rest))) (sym a.means) script

-- ---- a step that prints

-- the state behind an output
abbrev shown : ℤ → Seen → State → State
shown z n s = record s { seen = n; out = s.out ++ printed false z }

tracks_printed : (name : List ℕ) (z : ℤ) (before : List Line) (m : lines.Seen) (s : State) → Tracks before m s
    → Tracks (before ++ PrintSum (named name) ∷ []) (lines.seen m.env (m.out ++ printed false z) (m.ticks + 3)) (shown z (two_ticks (tick s.seen)) s)
tracks_printed name z before m s t =
    record {
      holds = λ other e. t.holds other (assigned_before before (PrintSum (named name)) other refl e);
      out = ap (λ out. out ++ printed false z) t.out;
      ticks = omega (arith, t.ticks);
      bad = t.bad;
    }

print_step : (g : Supply) (x : Tree) (line : Line) (before : List Line) (m : lines.Seen) (s : State) (more : lines.Seen → Ending) (rest : State → Ran)
    → printed_form x ≡ Some line → reads_assigned before line ≡ true → Tracks before m s
    → ((next : lines.Seen) (now : State) → Tracks (before ++ line ∷ []) next now → EndsAlike (more next) (end_of (rest now)))
    → EndsAlike (then_lines (line_meaning line m) m more) (end_of (behind (evaluated g (value g x) s (λ a. written (printout a))) rest))
unfolding printed_form
print_step g x line before m s more rest is reads t later =
    let found = map_some (λ name. PrintSum (named name)) (sum_call x) line is in
    let name = found.0 in
    let z = fold_of Sum (array_of m.env name) in
    let held = t.holds name (subst (λ l. reads_assigned before l ≡ true) (sym found.2) reads) in
    let comes = sum_value g x name (array_of m.env name) (outside s.env) (tick s.seen) found.1 held in
    let next = lines.seen m.env (m.out ++ printed false z) (m.ticks + 3) in
    let now = shown z (two_ticks (tick s.seen)) s in
    let tracked : Tracks (before ++ line ∷ []) next now = subst (λ l. Tracks (before ++ l ∷ []) next now) found.2 (tracks_printed name z before m s t) in
    let script = subst (λ o. EndsAlike (more next) (end_of (behind (using_value (begun s) o (λ a. written (printout a))) rest))) (sym comes) (later next now tracked) in
    subst (λ l. EndsAlike (then_lines (line_meaning l m) m more) (end_of (behind (evaluated g (value g x) s (λ a. written (printout a))) rest))) found.2 script

-- ---- scripts

-- one more line, and those behind it
lines_next : (before : List Line) (form : Option Line) (lines_behind : List Line → Result (List Line) Place) (ls : List Line) (m : lines.Seen) (end : Option End) (b : Begins before form lines_behind ls)
    → EndsAlike (then_lines (line_meaning b.line m) m (lines_meaning b.rest)) end → EndsAlike (lines_meaning ls m) end
lines_next before form lines_behind ls m end b h = subst (λ l. EndsAlike (lines_meaning l m) end) (sym b.parts) h

lines_run : (g : Supply) (before : List Line) (body : Block) (ls : List Line) (m : lines.Seen) (s : State) → built before body ≡ Ok ls → Tracks before m s
    → EndsAlike (lines_meaning ls m) (end_of (run g body s))
unfolding built run
lines_run g before done ls m s e t =
    let none : [] ≡ ls = cc e in
    subst (λ l. EndsAlike (lines_meaning l m) (end_of (Went s))) none (refl, t.out, t.ticks, t.bad)
lines_run g before (assign at name x rest) ls m s e t =
    let b = next_ok before at (assigned_form name x) (λ l. built l rest) ls e in
    let a = assigned_line g name x b.line before m s b.found t b.reads in
    lines_next before (assigned_form name x) (λ l. built l rest) ls m (end_of (run g (assign at name x rest) s)) b
    (assign_step g name x b.line before m s (lines_meaning b.rest) (run g rest) a t (λ next now after. lines_run g (before ++ b.line ∷ []) rest b.rest next now b.goes_on after))
lines_run g before (print at x rest) ls m s e t =
    let b = next_ok before at (printed_form x) (λ l. built l rest) ls e in
    lines_next before (printed_form x) (λ l. built l rest) ls m (end_of (run g (print at x rest) s)) b
    (print_step g x b.line before m s (lines_meaning b.rest) (run g rest) b.found b.reads t (λ next now after. lines_run g (before ++ b.line ∷ []) rest b.rest next now b.goes_on after))
lines_run g before (export at x rest) ls m s e t = absurd cc
lines_run g before (choose at test body other rest) ls m s e t = absurd cc
lines_run g before (loop at test body rest) ls m s e t = absurd cc

-- before the first line
tracks_start : (fuel : ℕ) → Tracks [] (lines.seen [] [] 0) (start fuel)
unfolding is_assigned
tracks_start fuel = record { holds = λ name e. absurd cc; out = refl; ticks = refl; bad = refl }

pub lines_mean : (body : Block) (ls : List Line) (tables : Tables) (orders : Orders) (fuel : ℕ) → built [] body ≡ Ok ls → EndsAlike (lines.eval ls tables orders fuel) (eval body tables.list orders.list fuel)
unfolding Rattle.hp_meaning.specs.Meaning.eval Rattle.hp_meaning.specs.Run.eval
lines_mean body ls tables orders fuel e = lines_run (supply tables.list (reads_of body) orders.list) [] body ls (lines.seen [] [] 0) (start fuel) e (tracks_start fuel)
