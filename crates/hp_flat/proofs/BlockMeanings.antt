-- Blocks and their programs end alike, where each expression comes to its value.
use Rattle.std.proofs.Common.{◌≡◌, ℕ, suc, true, List, ◌∷◌, ◌++◌, Option, Some, None, IsSome, is_some, refl, sym, ap, subst, ◌∙◌, append_assoc, arith}
use Rattle.std.specs.List.{AllByRecursion}
use Rattle.hp_word.specs.declared.name.Name.{Name}
use Rattle.hp_word.specs.declared.order.Order.{Order}
use Rattle.hp_word.specs.declared.place.Place.{Place}
use Rattle.hp_word.specs.declared.table.Table.{Table}
use Rattle.hp_word.specs.Runs as runs
use Rattle.hp_word.specs.Runs.{Went, behind, turned, turns}
use Rattle.hp_script.specs.declared.rule.Rule.TheVariants.{TypeChanged}
use Rattle.hp_script.specs.declared.typed.ReadSpec.{ReadSpec}
use Rattle.hp_script.specs.declared.typed.Shape.{Shape}
use Rattle.hp_script.specs.declared.typed.Shape.TheVariants as shape
use Rattle.hp_script.specs.Checked.{keeps_shape, second_branch, behind_branches, behind_loop, break_in, files_of}
use Rattle.hp_script.specs.Entries.{files_in}
use Rattle.hp_script.specs.Fitting.{CanPrint, FitsBlock, fits_done, fits_first, fits_again, fits_print, fits_export, fits_if, fits_while}
use Rattle.hp_script.specs.Mirror.{Tree, Block, done, assign, print, export, choose, loop}
use Rattle.hp_script.specs.Nodes.{nodes_in, nodes_of}
use Rattle.hp_script.specs.Scope.{Scope, are_some, is_set, shape_among, after_assignment}
use Rattle.hp_script.specs.Shaped as shaped
use Rattle.hp_script.proofs.BlockComplete.{block_passes}
use Rattle.hp_script.proofs.Completeness.{complete}
use Rattle.hp_script.proofs.TestLemmas.{or_left, or_right, passes}
use Rattle.hp_meaning.specs.declared.seen.Seen.{Seen}
use Rattle.hp_meaning.specs.declared.value.Value.{Value}
use Rattle.hp_meaning.specs.declared.value.Var.{Var}
use Rattle.hp_meaning.specs.Fitting.{HasShape, Bound, bound, Keeps}
use Rattle.hp_meaning.specs.Printouts.{printout, export_text}
use Rattle.hp_meaning.specs.ReadCalls.{reads_in, reads_of}
use Rattle.hp_meaning.specs.Run.{State, Ran, begun, using_value, store, written, branch, decided, in_turn, evaluated}
use Rattle.hp_meaning.specs.Run as meaning
use Rattle.hp_meaning.specs.Scopes.{outside}
use Rattle.hp_meaning.specs.ValueOf.{value}
use Rattle.hp_meaning.proofs.Names.{keeps_up, keeps_down, keeps_assigned, own_type, typed_assigned, set_first, set_second}
use Rattle.hp_meaning.proofs.Parts.{finds, Supplies}
use Rattle.hp_meaning.proofs.Safe.{Surrounds, nowhere}
use Rattle.hp_meaning.proofs.SafeBlocks.{Holds}
use Rattle.hp_program.specs.Programs.{Prog, choose as if_word, loop as while_word, joined, run, by_word}
use Rattle.hp_program.specs.Programs as programs
use Rattle.hp_program.proofs.Replaced.{behind_behind, run_joined}
use Rattle.hp_air.specs.declared.slot.Slot.{Slot}
use Rattle.hp_air.specs.Arrays.{Arrays, Export}
use Rattle.hp_air.specs.Unknowns.{Unknown, arrays_at, arrays_named, copied, print_of, no_frame, constructs_in, constructs_of}
use Rattle.hp_air.specs.Wholes.{Env}
use Rattle.hp_flat.specs.Flat.{flat_at, flat_block, store_code, print_code, export_code}
use Rattle.hp_flat.specs.Homes.{Homes, word_of}
use Rattle.hp_flat.specs.Standing.{no_frame_stands}
use Rattle.hp_flat.proofs.AlikeRuns.{IsAlike, EndsAlike, both_went, both_trapped, both_spent, of_mistaken, RunAlike, behind_alike, turns_alike, used_alike}
use Rattle.hp_flat.proofs.FilledFrames.{AreFilled, filled_tree, filled_with, filled_block}
use Rattle.hp_flat.proofs.Fronts.{Gives, gives_nothing, gives_both, gives_mapped, gives_as}
use Rattle.hp_flat.proofs.KeptHomes.{AreOfScript, Differ, differ_both, vars_kept}
use Rattle.hp_flat.proofs.LastSteps.{AreApart, d}
use Rattle.hp_flat.proofs.MeaningRooms.{HasCopy}
use Rattle.hp_flat.proofs.MeantTrees.{AreNamed, IsTop, TreesMean, IsMeant, meant}
use Rattle.hp_flat.proofs.OperandRuns.{StandsAt, run_two}
use Rattle.hp_flat.proofs.ServedCode.{all_apart}
use Rattle.hp_flat.proofs.ShortScopes.{IsShort, AreShortVars}
use Rattle.hp_flat.proofs.ShortValues.{short_value}
use Rattle.hp_flat.proofs.ShortVariables.{fine_both, short_assigned, short_outside}
use Rattle.hp_flat.proofs.Statements.{IsReady, value_printed, frame_exported, branch_alike}
use Rattle.hp_flat.proofs.StoredValues.{VariablesAreAmong, stored_alike}
use Rattle.hp_flat.proofs.ToldTypes.{IsAt, Told, ToldBlock}
use Rattle.hp_flat.proofs.VariableNames.{Kept, kept_block}
use Rattle.hp_flat.proofs.VariablePlaces.{has_place}
use Rattle.hp_flat.proofs.WordMeanings.{g}

-- ---- points of a script

top_with : {s : Scope} (x : List ℕ) (a : Shape) → IsTop s → IsTop (after_assignment s x (Some a))
top_with x a top = record { out = top.out; clear = top.clear }

-- nothing of a script stands in a lambda or a filter
top_block : {s : Scope} {b : Block} {t : Scope} → FitsBlock s b t → IsTop s → IsTop t
top_block fits_done top = top
top_block (fits_first {x = x} {a = a} p new next) top = top_block next (top_with x a top)
top_block (fits_again {x = x} {a = a} p known next) top = top_block next (top_with x a top)
top_block (fits_print p can next) top = top_block next top
top_block (fits_export p next) top = top_block next top
top_block (fits_if p first second next) top =
    let behind_first = top_block first top in
    let behind_second = top_block second (record { out = behind_first.out; clear = behind_first.clear }) in
    top_block next (record { out = behind_second.out; clear = behind_second.clear })
top_block (fits_while p turn next) top =
    let behind_turn = top_block turn top in
    top_block next (record { out = behind_turn.out; clear = behind_turn.clear })

is_outside : {s : Scope} → IsTop s → shaped.IsOutside s
is_outside top = ap are_some top.out

-- an assignment that fits keeps the type of its variable
keeps_type : {s t : Scope} {at : Place} {x : List ℕ} {e : Tree} {rest : Block} {a : Shape} → FitsBlock s (assign at x e rest) t → shaped.HasShape s e a → keeps_shape (shape_among s.vars x) (Some a) ≡ true
unfolding break_in
keeps_type {s = s} {at = at} {x = x} f p =
    ap (keeps_shape (shape_among s.vars x)) (sym (complete p).shape) ∙ passes _ at TypeChanged (or_left _ _ (or_right _ _ (block_passes f).passed))

-- ---- what holds of variables on the way

kind_of_bound : {found : Option Shape} {value : Option Value} → Bound found value → (k : Shape) × (found ≡ Some k)
kind_of_bound (bound {kind = k} typed) = (k, refl)

pub variables_known : (h : Homes) (last s : Scope) (vars : List Var) → AreNamed h last → Holds last s vars → AreOfScript h vars
variables_known h last s vars named holds x a found =
    let kind = kind_of_bound (holds.all.typed x a found) in
    (has_place h x kind.0 (named x kind.0 kind.1)).below

-- at this point of the script the variables fit, and their arrays are short
pub record Fit (last s : Scope) (vars : List Var) : Type 0 where
  pub holds : Holds last s vars
  pub short : AreShortVars vars

abbrev pub Fits : (last s : Scope) → State → Type 0
Fits last s st = Fit last s st.env

fits_at : {last s t : Scope} {vars : List Var} → Fit last s vars → Keeps t vars → Fit last t vars
fits_at fits keeps = record { holds = record { surely = keeps; all = fits.holds.all }; short = fits.short }

-- the same variables fit where as much is set
fits_up : {last s t : Scope} {vars : List Var} → Kept s t → ((x : List ℕ) → is_set t.ways x ≡ true → is_set s.ways x ≡ true) → Fit last s vars → Fit last t vars
fits_up kept less fits = fits_at fits (keeps_up (record { stays = kept }) less fits.holds.surely)

-- what fits behind a block fits before it, where something did
some_kind : {s : Scope} {vars : List Var} → Keeps s vars → (x : List ℕ) → is_set s.ways x ≡ true → IsSome (shape_among s.vars x)
some_kind {s = s} keeps x set = let kind = kind_of_bound (keeps.known x set) in ap is_some kind.1

fits_down : {last s t : Scope} {b : Block} {before vars : List Var} → FitsBlock s b t → Fit last s before → Fit last t vars → Fit last s vars
fits_down {s = s} {b = b} {vars = vars} f fits later = fits_at later (keeps_down s b (some_kind fits.holds.surely) (subst (λ (k : Scope). Keeps k vars) (block_passes f).behind later.holds.surely))

-- ---- runs

-- a part of a statement, what is done behind it, and the statements behind
run_three : {X E : Type 0} (p : programs.Doing X E) (a b c : Prog X) (s : runs.State E ℕ) → run p (joined a (joined b c)) s ≡ behind (behind (run p a s) (run p b)) (run p c)
run_three p a b c s = run_two p a b c s ∙ sym (behind_behind (run p a s) (run p b) (run p c))

run_branch : {X E : Type 0} (p : programs.Doing X E) (a : Prog X) (w : ℕ) (first second c : Prog X) (s : runs.State E ℕ)
    → run p (joined a (if_word w first second c)) s ≡ behind (behind (run p a s) (by_word p w (run p first) (run p second))) (run p c)
unfolding run
run_branch p a w first second c s = run_joined p a (if_word w first second c) s ∙ sym (behind_behind (run p a s) (by_word p w (run p first) (run p second)) (run p c))

module _ (h : Homes) where
  -- more holds where a run has come to
  so_alike : {left : ℕ} {P Q : State → Type 0} {a : Ran} {b : runs.Ran Env ℕ} → ((s : State) → P s → Q s) → EndsAlike h left P a b → EndsAlike h left Q a b
  so_alike so (both_went holds alike) = both_went (so _ holds) alike
  so_alike so (both_trapped out paid) = both_trapped out paid
  so_alike so (both_spent out paid) = both_spent out paid
  so_alike so of_mistaken = of_mistaken

  begun_alike : {left : ℕ} {st : State} {t : runs.State Env ℕ} → IsAlike h left st t → IsAlike h left (begun st) t
  begun_alike alike = record { vars = alike.vars; met = alike.met; out = alike.out; fuel = alike.fuel; paid = let paid = alike.paid in omega (arith, paid) }

  -- behind a look at a word
  looked_alike : {st : State} {t : runs.State Env ℕ} {m : Seen} {e : Env} {work : ℕ} → IsReady h st t m e work → IsAlike h 0 (record st { seen = m }) (programs.worked 1 (record t { env = e; seen = work }))
  looked_alike ready = record { vars = ready.vars; met = ready.met; out = ready.out; fuel = ready.fuel; paid = let paid = ready.paid in omega (arith, paid) }

module _ (h : Homes) (slots : List Slot) (tables : List Table) (orders : List Order) (apart : AreApart h) (stand : VariablesAreAmong h) (last : Scope) (named : AreNamed h last) where
  -- a block ends as its program wherever the variables fit
  abbrev pub BlockAlike : Scope → Block → Scope → Type 0
  BlockAlike s b t = RunAlike h 0 0 (Fits last s) (Fits last t) (meaning.run (g h slots tables orders) b) (run (d h slots tables orders) (flat_block h b))

  abbrev Meant : Scope → Tree → Shape → Type 0
  Meant s x a = IsMeant h slots tables orders s x a

  -- the value of an expression of a statement, and what is done with it
  valued_alike : {Q : State → Type 0} {s : Scope} {x : Tree} {a : Shape} (of_x : Meant s x a) (st : State) (t : runs.State Env ℕ) (more : Value → State → Ran) (code : runs.State Env ℕ → runs.Ran Env ℕ)
      → IsTop s → Fits last s st → IsAlike h 0 st t
      → ((b : Value) (m : Seen) (e : Env) (work : ℕ) → HasShape a b → IsShort b → StandsAt h e x b → IsReady h st t m e work → EndsAlike h 0 Q (more b (record st { seen = m })) (code (record t { env = e; seen = work })))
      → EndsAlike h 0 Q (using_value st (value (g h slots tables orders) x (outside st.env) st.seen) more) (behind (run (d h slots tables orders) (flat_at h x) t) code)
  valued_alike {s = s} {x = x} {a = a} of_x st t more code top holds alike next =
      let known = variables_known h last s st.env named holds.holds in
      let fine = of_x.safe.fine (outside st.env) st.seen (record { keeps = holds.holds.surely; surrounds = subst (λ (o : Option (List Name)). Surrounds o None) (sym top.clear) nowhere }) in
      let gs = g h slots tables orders in
      used_alike h {K = λ b. HasShape a b × IsShort b} st t more code (fine_both fine (short_value gs x (outside st.env) st.seen (short_outside holds.short))) (of_x.means st.env holds.holds.surely known holds.short st.seen t alike.vars no_frame_stands alike.met) (let paid = alike.paid in omega (arith, paid)) alike.out
      (λ b m e work such stands keeps met paid. next b m e work such.0 such.1 stands (record { vars = vars_kept h st.env known keeps alike.vars; met = met; paid = paid; out = alike.out; fuel = alike.fuel }))

  nothing_alike : (s : Scope) → BlockAlike s done s
  unfolding meaning.run flat_block run
  nothing_alike s st t holds alike = both_went holds alike

  -- ---- statements of one operation

  assign_alike : {s t : Scope} {x : Tree} {a : Shape} (at : Place) (name : List ℕ) (rest : Block) (of_x : Meant s x a) → IsAt h.known x a → IsTop s → keeps_shape (shape_among s.vars name) (Some a) ≡ true
      → Kept (after_assignment s name (Some a)) last → BlockAlike (after_assignment s name (Some a)) rest t → BlockAlike s (assign at name x rest) t
  unfolding meaning.run flat_block
  assign_alike {s = s} {t = t} {x = x} {a = a} at name rest of_x told top first kept next st own holds alike =
      let of_last = own_type s last name a first (record { stays = kept }) in
      subst (λ (ran : runs.Ran Env ℕ). EndsAlike h 0 (Fits last t) (meaning.run (g h slots tables orders) (assign at name x rest) st) ran)
      (sym (run_three (d h slots tables orders) (flat_at h x) (store_code h at name x) (flat_block h rest) own))
      (behind_alike h (meaning.run (g h slots tables orders) rest) (run (d h slots tables orders) (flat_block h rest))
      (valued_alike of_x (begun st) own (λ b s. Went (store name b s)) (run (d h slots tables orders) (store_code h at name x)) top holds (begun_alike h alike)
      (λ b m e work typed few stands ready.
      stored_alike h slots tables orders apart stand {P = Fits last (after_assignment s name (Some a))} (begun st) own m e work at name x typed told (named name a of_last)
      (record {
        holds = record { surely = keeps_assigned name holds.holds.surely first typed; all = typed_assigned name holds.holds.all of_last typed };
        short = short_assigned name b st.env holds.short few;
      }) stands ready.vars ready.met ready.paid ready.out ready.fuel))
      next)

  print_alike : {s t : Scope} {x : Tree} {a : Shape} (at : Place) (rest : Block) (of_x : Meant s x a) → IsAt h.known x a → IsTop s → CanPrint a → BlockAlike s rest t → BlockAlike s (print at x rest) t
  unfolding meaning.run flat_block
  print_alike {s = s} {t = t} {x = x} at rest of_x told top can next st own holds alike =
      subst (λ (ran : runs.Ran Env ℕ). EndsAlike h 0 (Fits last t) (meaning.run (g h slots tables orders) (print at x rest) st) ran)
      (sym (run_three (d h slots tables orders) (flat_at h x) (print_code h at x) (flat_block h rest) own))
      (behind_alike h (meaning.run (g h slots tables orders) rest) (run (d h slots tables orders) (flat_block h rest))
      (valued_alike of_x (begun st) own (λ b. written (printout b)) (run (d h slots tables orders) (print_code h at x)) top holds (begun_alike h alike)
      (λ b m e work typed few stands ready. value_printed h slots tables orders {P = Fits last s} (begun st) own m e work at x can typed told stands (λ out. holds) ready))
      next)

  export_alike : {s t : Scope} {x : Tree} {columns : List Name} (at : Place) (rest : Block) (of_x : Meant s x (shape.Frame columns)) → IsAt h.known x (shape.Frame columns) → IsTop s → BlockAlike s rest t → BlockAlike s (export at x rest) t
  unfolding meaning.run flat_block
  export_alike {s = s} {t = t} {x = x} at rest of_x told top next st own holds alike =
      subst (λ (ran : runs.Ran Env ℕ). EndsAlike h 0 (Fits last t) (meaning.run (g h slots tables orders) (export at x rest) st) ran)
      (sym (run_three (d h slots tables orders) (flat_at h x) (export_code h at x) (flat_block h rest) own))
      (behind_alike h (meaning.run (g h slots tables orders) rest) (run (d h slots tables orders) (flat_block h rest))
      (valued_alike of_x (begun st) own (λ b. written (export_text b)) (run (d h slots tables orders) (export_code h at x)) top holds (begun_alike h alike)
      (λ b m e work typed few stands ready. frame_exported h slots tables orders {P = Fits last s} (begun st) own m e work at x typed told stands (λ out. holds) ready))
      next)

  -- ---- branches and loops

  if_both : {s first second t : Scope} {x : Tree} (at : Place) (body other rest : Block) (of_x : Meant s x shape.Bool) → IsTop s → Kept s first → Kept first second
      → BlockAlike s body first → BlockAlike (second_branch s first) other second → BlockAlike (behind_branches first second) rest t → BlockAlike s (choose at x body other rest) t
  unfolding meaning.run flat_block
  if_both {s = s} {first = first} {second = second} {t = t} {x = x} at body other rest of_x top into behind_it taken passed next st own holds alike =
      subst (λ (ran : runs.Ran Env ℕ). EndsAlike h 0 (Fits last t) (meaning.run (g h slots tables orders) (choose at x body other rest) st) ran)
      (sym (run_branch (d h slots tables orders) (flat_at h x) (word_of h x) (flat_block h body) (flat_block h other) (flat_block h rest) own))
      (behind_alike h {P = Fits last (behind_branches first second)} (meaning.run (g h slots tables orders) rest) (run (d h slots tables orders) (flat_block h rest))
      (valued_alike of_x (begun st) own (λ b. branch b (meaning.run (g h slots tables orders) body) (meaning.run (g h slots tables orders) other))
      (by_word (d h slots tables orders) (word_of h x) (run (d h slots tables orders) (flat_block h body)) (run (d h slots tables orders) (flat_block h other))) top holds (begun_alike h alike)
      (λ b m e work typed few stands ready.
      branch_alike h slots tables orders (record (begun st) { seen = m }) (record own { env = e; seen = work }) _ (word_of h x)
      (meaning.run (g h slots tables orders) body) (meaning.run (g h slots tables orders) other) (run (d h slots tables orders) (flat_block h body)) (run (d h slots tables orders) (flat_block h other)) typed stands
      (so_alike h (λ u so. fits_up behind_it (set_first first.ways second.ways) so) (taken _ _ holds (looked_alike h ready)))
      (so_alike h (λ u so. fits_up (λ y k e. e) (set_second first.ways second.ways) so) (passed _ _ (fits_up into (λ y set. set) holds) (looked_alike h ready)))))
      next)

  while_turns : {s turn t : Scope} {x : Tree} (at : Place) (body rest : Block) (of_x : Meant s x shape.Bool) → IsTop s → FitsBlock s body turn
      → BlockAlike s body turn → BlockAlike (behind_loop s turn) rest t → BlockAlike s (loop at x body rest) t
  unfolding meaning.run flat_block run programs.decided
  while_turns {s = s} {turn = turn} {t = t} {x = x} at body rest of_x top fits taken next st own holds alike =
      behind_alike h {P = Fits last (behind_loop s turn)} (meaning.run (g h slots tables orders) rest) (run (d h slots tables orders) (flat_block h rest))
      (subst (λ (k : ℕ). EndsAlike h 0 (Fits last (behind_loop s turn)) (turns (suc st.fuel) (decided (value (g h slots tables orders) x)) (in_turn (meaning.run (g h slots tables orders) body)) (begun st))
      (turns (suc k) (programs.decided (d h slots tables orders) (run (d h slots tables orders) (flat_at h x)) (word_of h x)) (run (d h slots tables orders) (flat_block h body)) own)) (sym alike.fuel)
      (turns_alike h {P = Fits last s} (suc st.fuel) (decided (value (g h slots tables orders) x)) (in_turn (meaning.run (g h slots tables orders) body))
      (programs.decided (d h slots tables orders) (run (d h slots tables orders) (flat_at h x)) (word_of h x)) (run (d h slots tables orders) (flat_block h body))
      (λ u so. so)
      (λ u so. fits_up (kept_block fits) (set_first s.ways turn.ways) so)
      (λ u v so like. so_alike h (λ k behind_it. fits_down fits so behind_it) (taken (begun u) v so (begun_alike h like)))
      (λ first second own_first own_second if_true if_false u v so like.
      valued_alike of_x u v (λ b. branch b first second) (by_word (d h slots tables orders) (word_of h x) own_first own_second) top so like
      (λ b m e work typed few stands ready.
      branch_alike h slots tables orders (record u { seen = m }) (record v { env = e; seen = work }) _ (word_of h x) first second own_first own_second typed stands
      (if_true _ _ so (looked_alike h ready)) (if_false _ _ so (looked_alike h ready))))
      (begun st) own holds (begun_alike h alike)))
      next

  -- ---- blocks

  module _ (trees : TreesMean h slots tables orders) where
    of_statement : {s : Scope} {x : Tree} {a : Shape} (p : shaped.HasShape s x a) → Told h.known p → Differ (nodes_in x) → IsTop s → Kept s last → AreFilled s → AllByRecursion (HasCopy h) (constructs_in h.known no_frame x)
        → Gives (Supplies (finds (g h slots tables orders))) (Meant s x a) (reads_in x) (files_in x)
    of_statement p told differ top kept filled copies = meant h slots tables orders trees p told differ top (λ y k e. named y k (kept y k e)) filled copies

    -- a statement, and what is behind it
    abbrev Behind : (x : Tree) (rest : Block) → Type 0
    Behind x rest = AllByRecursion (HasCopy h) (constructs_in h.known no_frame x) × AllByRecursion (HasCopy h) (constructs_of h.known rest)

    behind_assign : (at : Place) (name : List ℕ) (x : Tree) (rest : Block) → AllByRecursion (HasCopy h) (constructs_of h.known (assign at name x rest)) → Behind x rest
    unfolding constructs_of
    behind_assign at name x rest copies =
        let outer = all_apart (HasCopy h) (constructs_in h.known no_frame x ++ copied (arrays_named h.known name) (arrays_at h.known x)) (constructs_of h.known rest) copies in
        ((all_apart (HasCopy h) (constructs_in h.known no_frame x) (copied (arrays_named h.known name) (arrays_at h.known x)) outer.0).0, outer.1)

    behind_one : (x : Tree) (rest : Block) (c : Arrays Unknown) → AllByRecursion (HasCopy h) (constructs_in h.known no_frame x ++ c ∷ constructs_of h.known rest) → Behind x rest
    behind_one x rest c copies = let both = all_apart (HasCopy h) (constructs_in h.known no_frame x) (c ∷ constructs_of h.known rest) copies in (both.0, both.1.1)

    pub block_means : {s : Scope} {b : Block} {t : Scope} (f : FitsBlock s b t) → ToldBlock h.known f → Differ (nodes_of b) → IsTop s → Kept t last → AreFilled s → AllByRecursion (HasCopy h) (constructs_of h.known b)
        → Gives (Supplies (finds (g h slots tables orders))) (BlockAlike s b t) (reads_of b) (files_of b)
    unfolding nodes_of reads_of files_of constructs_of
    block_means {s = s} fits_done told differ top kept filled copies = gives_mapped (λ r. nothing_alike s) gives_nothing
    block_means {s = s} {t = t} (fits_first {at = at} {x = name} {e = x} {rest = rest} {a = a} p new next) told differ top kept filled copies =
        let numbers = differ_both (nodes_in x) (nodes_of rest) differ in
        let f : FitsBlock s (assign at name x rest) t = fits_first p new next in
        let parts = behind_assign at name x rest copies in
        gives_mapped (λ r. assign_alike at name rest r.0 told.0.0 top (keeps_type f p) (λ y k e. kept y k (kept_block next y k e)) r.1)
        (gives_both (of_statement p told.0 numbers.first top (λ y k e. kept y k (kept_block f y k e)) filled parts.0)
        (block_means next told.1 numbers.second (top_with name a top) kept (filled_with (shape_among s.vars name) s.vars name a (filled_tree p (is_outside top) filled) filled) parts.1))
    block_means {s = s} {t = t} (fits_again {at = at} {x = name} {e = x} {rest = rest} {a = a} p known next) told differ top kept filled copies =
        let numbers = differ_both (nodes_in x) (nodes_of rest) differ in
        let f : FitsBlock s (assign at name x rest) t = fits_again p known next in
        let parts = behind_assign at name x rest copies in
        gives_mapped (λ r. assign_alike at name rest r.0 told.0.0 top (keeps_type f p) (λ y k e. kept y k (kept_block next y k e)) r.1)
        (gives_both (of_statement p told.0 numbers.first top (λ y k e. kept y k (kept_block f y k e)) filled parts.0)
        (block_means next told.1 numbers.second (top_with name a top) kept (filled_with (shape_among s.vars name) s.vars name a (filled_tree p (is_outside top) filled) filled) parts.1))
    block_means (fits_print {at = at} {e = x} {rest = rest} p can next) told differ top kept filled copies =
        let numbers = differ_both (nodes_in x) (nodes_of rest) differ in
        let parts = behind_one x rest (print_of (arrays_at h.known x)) copies in
        gives_mapped (λ r. print_alike at rest r.0 told.0.0 top can r.1)
        (gives_both (of_statement p told.0 numbers.first top (λ y k e. kept y k (kept_block next y k e)) filled parts.0) (block_means next told.1 numbers.second top kept filled parts.1))
    block_means (fits_export {at = at} {d = x} {rest = rest} p next) told differ top kept filled copies =
        let numbers = differ_both (nodes_in x) (nodes_of rest) differ in
        let parts = behind_one x rest (Export (arrays_at h.known x)) copies in
        gives_mapped (λ r. export_alike at rest r.0 told.0.0 top r.1)
        (gives_both (of_statement p told.0 numbers.first top (λ y k e. kept y k (kept_block next y k e)) filled parts.0) (block_means next told.1 numbers.second top kept filled parts.1))
    block_means {s = s} {t = t} (fits_if {first = first} {second = second} {at = at} {c = x} {body = body} {other = other} {rest = rest} p taken passed next) told differ top kept filled copies =
        let outer = differ_both ((nodes_in x ++ nodes_of body) ++ nodes_of other) (nodes_of rest) differ in
        let middle = differ_both (nodes_in x ++ nodes_of body) (nodes_of other) outer.first in
        let inner = differ_both (nodes_in x) (nodes_of body) middle.first in
        let last_copies = all_apart (HasCopy h) ((constructs_in h.known no_frame x ++ constructs_of h.known body) ++ constructs_of h.known other) (constructs_of h.known rest) copies in
        let other_copies = all_apart (HasCopy h) (constructs_in h.known no_frame x ++ constructs_of h.known body) (constructs_of h.known other) last_copies.0 in
        let body_copies = all_apart (HasCopy h) (constructs_in h.known no_frame x) (constructs_of h.known body) other_copies.0 in
        let behind_first = top_block taken top in
        let to_second : IsTop (second_branch s first) = record { out = behind_first.out; clear = behind_first.clear } in
        let behind_second = top_block passed to_second in
        let first_filled : AreFilled first = filled_block taken (is_outside top) filled in
        let second_filled : AreFilled second = filled_block passed (is_outside to_second) first_filled in
        let second_kept : Kept second last = λ y k e. kept y k (kept_block next y k e) in
        let first_kept : Kept first last = λ y k e. second_kept y k (kept_block passed y k e) in
        gives_as (ap (λ (l : List ReadSpec). l ++ files_of rest) (sym (append_assoc (files_in x) (files_of body) (files_of other))))
        (gives_mapped (λ r. if_both at body other rest r.0.0 top (kept_block taken) (kept_block passed) r.0.1.0 r.0.1.1 r.1)
        (gives_both (gives_both (of_statement p told.0 inner.first top (λ y k e. first_kept y k (kept_block taken y k e)) filled body_copies.0)
        (gives_both (block_means taken told.1 inner.second top first_kept filled body_copies.1) (block_means passed told.2 middle.second to_second second_kept first_filled other_copies.1)))
        (block_means next told.3 outer.second (record { out = behind_second.out; clear = behind_second.clear }) kept second_filled last_copies.1)))
    block_means (fits_while {turn = turn} {at = at} {c = x} {body = body} {rest = rest} p taken next) told differ top kept filled copies =
        let outer = differ_both (nodes_in x ++ nodes_of body) (nodes_of rest) differ in
        let inner = differ_both (nodes_in x) (nodes_of body) outer.first in
        let last_copies = all_apart (HasCopy h) (constructs_in h.known no_frame x ++ constructs_of h.known body) (constructs_of h.known rest) copies in
        let body_copies = all_apart (HasCopy h) (constructs_in h.known no_frame x) (constructs_of h.known body) last_copies.0 in
        let behind_turn = top_block taken top in
        let turn_kept : Kept turn last = λ y k e. kept y k (kept_block next y k e) in
        gives_mapped (λ r. while_turns at body rest r.0.0 top taken r.0.1 r.1)
        (gives_both (gives_both (of_statement p told.0 inner.first top (λ y k e. turn_kept y k (kept_block taken y k e)) filled body_copies.0) (block_means taken told.1 inner.second top turn_kept filled body_copies.1))
        (block_means next told.2 outer.second (record { out = behind_turn.out; clear = behind_turn.clear }) kept (filled_block taken (is_outside top) filled) last_copies.1))
