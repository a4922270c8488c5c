-- What the tables that a script reads come to: the columns of a table under the names of the call.
use Rattle.std.proofs.Common.{◌≡◌, ℕ, suc, ◌==◌, ℤ, Bool, true, false, if◌then◌else◌, nat_lt, codes, List, [], ◌∷◌, map, length, Option, Some, None, option_map, refl, sym, ap, ap₂, subst, ◌∙◌, arith, eqb-true}
use Rattle.std.proofs.lemmas.List.{length-map}
use Rattle.std.proofs.lemmas.List.FromFn.{length-range_with_len, fill_by_all}
use Rattle.std.specs.List.{position_or_len, range_with_len}
use Rattle.hp_word.specs.declared.name.Name.{Name}
use Rattle.hp_word.specs.declared.order.Order.{Order}
use Rattle.hp_word.specs.declared.table.Table.{Table}
use Rattle.hp_word.specs.RowRules.{column_at}
use Rattle.hp_word.specs.Runs.{State}
use Rattle.hp_script.specs.Functions.{function_named, scalar_named, fold_named, array_named, frame_named}
use Rattle.hp_script.specs.Mirror.{Head, Tree, Args, call, column, text, plain}
use Rattle.hp_script.specs.Shaped.{AreColumns, no_more_columns, one_column}
use Rattle.hp_meaning.specs.declared.seen.Seen.{Seen}
use Rattle.hp_meaning.specs.declared.value.Value.TheVariants.{Frame}
use Rattle.hp_meaning.specs.FrameRules.{cells_of, named_columns, tabled}
use Rattle.hp_meaning.specs.Outcomes.{Gives, Refuses, tick, ended, Wrong}
use Rattle.hp_meaning.specs.ReadCalls.{table_for}
use Rattle.hp_meaning.specs.Scopes.{Scope}
use Rattle.hp_meaning.specs.ValueOf.{Supply, as_written, value, parts, called_as, table_read, names_in}
use Rattle.hp_program.specs.Programs.{Prog, run, joined}
use Rattle.hp_air.specs.declared.slot.Slot.{Slot}
use Rattle.hp_air.specs.declared.what.Op.{Op}
use Rattle.hp_air.specs.declared.what.What.TheVariants as what
use Rattle.hp_air.specs.Meaning.{does, units, silent, table_columns}
use Rattle.hp_air.specs.Unknowns.{Columns, of_node, at_node, number_of, shape_at, width}
use Rattle.hp_air.specs.Wholes.{Vector, Env, with_slots}
use Rattle.hp_flat.specs.Flat.{flat, flat_among}
use Rattle.hp_flat.specs.FlatCalls.{code_of, table_of, call_code, named_call}
use Rattle.hp_flat.specs.Homes.{Homes, slot_of, slots_of}
use Rattle.hp_flat.specs.Standing.{HasMet, ComesToValue, comes_to_none}
use Rattle.hp_flat.proofs.CodeOfNames.{columns_code}
use Rattle.hp_flat.proofs.FrameSteps.{HasFrame, frame_step}
use Rattle.hp_flat.proofs.KeptHomes.{within_first, keeps_all}
use Rattle.hp_flat.proofs.LastSteps.{AreApart, d}
use Rattle.hp_flat.proofs.ListMeanings.{IsOwn}
use Rattle.hp_flat.proofs.ServedReads.{placed}
use Rattle.hp_flat.proofs.ToldTypes.{ToldColumns}
use Rattle.hp_flat.proofs.WordMeanings.{g, Means}

-- ---- columns of a table

bytes_of : List Name → List (List ℕ)
bytes_of names = map (λ (n : Name). n.bytes) names

-- the names of columns among the arguments of a call
names_found : (gs : Supply) {before : List (List ℕ)} {xs : Args} {names : List Name} → AreColumns before xs names → names_in (map as_written (parts gs xs)) ≡ Some (bytes_of names)
unfolding parts names_in bytes_of
names_found gs no_more_columns = refl
names_found gs (one_column {c = c} new more) = ap (λ (found : Option (List (List ℕ))). option_map (λ (names : List (List ℕ)). c ∷ names) found) (names_found gs more)

-- the columns under names, as many
cells_are : (names : List (List ℕ)) (lists : List (List ℤ)) → length names ≡ length lists → cells_of (named_columns names lists) ≡ lists
unfolding named_columns
cells_are [] [] many = refl
cells_are [] (xs ∷ lists) many = absurd (omega (arith, many))
cells_are (name ∷ names) [] many = absurd (omega (arith, many))
cells_are (name ∷ names) (xs ∷ lists) many = ap (λ (rest : List (List ℤ)). xs ∷ rest) (cells_are names lists (omega (arith, many)))

many_named : (names : List (List ℕ)) (lists : List (List ℤ)) → length names ≡ length lists → length (named_columns names lists) ≡ length names
unfolding named_columns
many_named [] [] many = refl
many_named [] (xs ∷ lists) many = refl
many_named (name ∷ names) [] many = absurd (omega (arith, many))
many_named (name ∷ names) (xs ∷ lists) many = ap suc (many_named names lists (omega (arith, many)))

-- all columns, by their places
all_places : (lists : List (List ℤ)) → lists ≡ map (λ k. column_at k lists) (range_with_len 0 (length lists))
all_places lists = fill_by_all (λ k. column_at k lists) lists (length lists) [] refl (λ k less. refl)

module _ (h : Homes) (slots : List Slot) (tables : List Table) (orders : List Order) (apart : AreApart h) where
  -- the table of a call is where its operation looks for it
  table_is : (id : ℕ) (table : Table) → table_for h.reads id tables ≡ Some table → table_columns (table_of h id) tables ≡ table.columns
  unfolding table_for
  table_is id table found =
      ap (λ (o : Option Table). elim o [ None ↦ [] | Some t ↦ t.columns ])
      (placed (nat_lt (position_or_len (λ k. k == id) h.reads) (length h.reads)) (table_of h id) tables table found)

  -- as many slots as columns
  wide : (id : ℕ) (names : List Name) → HasFrame h id names → length (slots_of h (at_node h.known id)) ≡ length names
  wide id names has =
      length-map (at_node h.known id) (slot_of h) ∙ length-map (range_with_len 0 (width (shape_at h.known id))) (of_node id) ∙ length-range_with_len 0 (width (shape_at h.known id)) ∙ ap width has.shape

  read_taken : {z : Tree} {n : Seen} {s : State Env ℕ} (c : Head) (names : List Name) (table : Table) → number_of z ≡ c.id → IsOwn h z c.id (c.id ∷ []) → HasFrame h c.id names → HasMet s.env n.met → table_for h.reads c.id tables ≡ Some table
      → (b : Bool) → (length (bytes_of names) == length table.columns) ≡ b
      → ComesToValue h z n s (ended (if b then Gives (Frame (named_columns (bytes_of names) table.columns)) else Refuses) (tick n)) (run (d h slots tables orders) (code_of c.at (what.Read (slots_of h (at_node h.known c.id)) (table_of h c.id))) s)
  unfolding does units bytes_of
  read_taken {n = n} {s = s} c names table number is_own has met found true same =
      let outs = slots_of h (at_node h.known c.id) in
      let many : length (bytes_of names) ≡ length table.columns = eqb-true (length (bytes_of names)) (length table.columns) same in
      let columns = named_columns (bytes_of names) table.columns in
      let named : length (bytes_of names) ≡ length names = length-map names (λ (n : Name). n.bytes) in
      let lists : map (λ k. column_at k (table_columns (table_of h c.id) tables)) (range_with_len 0 (length outs)) ≡ cells_of columns =
      ap₂ (λ (all : List (List ℤ)) (k : ℕ). map (λ k. column_at k all) (range_with_len 0 k)) (table_is c.id table found) (wide c.id names has ∙ (sym named ∙ many))
      ∙ (sym (all_places table.columns) ∙ sym (cells_are (bytes_of names) table.columns many)) in
      frame_step h slots tables orders apart {nodes = c.id ∷ []} {m = tick n} {left = 16} c.at (what.Read outs (table_of h c.id)) c.id names columns s.env.executed s.env.bad number has
      (many_named (bytes_of names) table.columns many ∙ named) is_own (record { keeps = keeps_all h; met = record { executed = met.executed; bad = met.bad }; paid = omega arith }) (omega arith) refl
      (ap (λ (made : List (List ℤ)). silent (with_slots outs (map Vector made) s.env)) lists) met.executed met.bad
  read_taken c names table number is_own has met found false same = comes_to_none

  read_last : {z : Tree} {n : Seen} {s : State Env ℕ} (c : Head) (names : List Name) (found : Option Table) → number_of z ≡ c.id → IsOwn h z c.id (c.id ∷ []) → HasFrame h c.id names → HasMet s.env n.met → table_for h.reads c.id tables ≡ found
      → ComesToValue h z n s (ended (tabled (bytes_of names) found) (tick n)) (run (d h slots tables orders) (code_of c.at (what.Read (slots_of h (at_node h.known c.id)) (table_of h c.id))) s)
  unfolding tabled
  read_last c names None number is_own has met found = comes_to_none
  read_last c names (Some table) number is_own has met found = read_taken c names table number is_own has met found (length (bytes_of names) == length table.columns) refl

  -- `read_csv("f", :c, :d)`
  pub read_means : (around : Columns) (v : Scope) (c k m : Head) (f b : List ℕ) (rest : Args) (names : List Name) → (columns : AreColumns [] (plain (column m b) rest) names) → ToldColumns h.known columns → HasFrame h c.id names
      → Means h slots tables orders around v (call c (codes "read_csv") false (plain (text k f) (plain (column m b) rest)))
  unfolding value parts called_as table_read function_named scalar_named fold_named array_named frame_named flat flat_among named_call call_code joined
  read_means around v c k m f b rest names columns told has n s vars frame met =
      let gs = g h slots tables orders in
      let z = call c (codes "read_csv") false (plain (text k f) (plain (column m b) rest)) in
      let code = code_of c.at (what.Read (slots_of h (at_node h.known c.id)) (table_of h c.id)) in
      subst (λ (found : Option (List (List ℕ))). ComesToValue h z n s (elim found [ None ↦ Wrong | Some names ↦ ended (tabled names (table_for h.reads c.id tables)) (tick n) ])
      (run (d h slots tables orders) (joined (flat_among h around around (plain (column m b) rest)) code) s)) (sym (names_found gs columns))
      (subst (λ (p : Prog Op). ComesToValue h z n s (ended (tabled (bytes_of names) (table_for h.reads c.id tables)) (tick n)) (run (d h slots tables orders) (joined p code) s)) (sym (columns_code h around columns told))
      (read_last c names (table_for h.reads c.id tables) refl (record { own = within_first; others = within_first }) has met refl))
