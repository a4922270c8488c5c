-- An expression whose tests pass, outside lambdas, has a value of its type or traps wherever the variables fit and the
-- tables are those of its files.
use Rattle.std.proofs.Common.{◌≡◌, ℕ, Bool, true, false, cond, List, [], ◌∷◌, ◌++◌, Option, Some, None, option_and_then, IsSome, refl, sym, ap, subst, ◌∙◌, append_assoc, append-nil}
use Rattle.hp_word.specs.declared.place.Place.{Place}
use Rattle.hp_script.specs.declared.argument.Argument.{Argument}
use Rattle.hp_script.specs.declared.function.Function.{Function}
use Rattle.hp_script.specs.declared.function.Function.TheVariants as function
use Rattle.hp_script.specs.declared.rule.Rule.TheVariants.{WrongCount}
use Rattle.hp_script.specs.declared.typed.ReadSpec.{ReadSpec}
use Rattle.hp_script.specs.declared.typed.Shape.{Shape}
use Rattle.hp_script.specs.declared.typed.Shape.TheVariants as shape
use Rattle.hp_script.specs.Breaks.{is_flipped, is_transpose_call, count_of, so_far}
use Rattle.hp_script.specs.Entries.{file_of_call, files_in, files_among}
use Rattle.hp_script.specs.Functions.{function_named, takes_count}
use Rattle.hp_script.specs.Mirror.{Head, Tree, Args, none, plain, range, lambda, named}
use Rattle.hp_script.specs.Mirror as trees
use Rattle.hp_script.specs.Results.{call_result}
use Rattle.hp_script.specs.Scope.{Scope, role_of, with_parameter}
use Rattle.hp_script.specs.Typing.{is_window, wanted, role_wanted, inside, plain_argument, range_argument, lambda_argument, named_argument}
use Rattle.hp_script.specs.Walk.{found_of, shape_of, break_of, parts_break, finds_of, in_turn, found_among, site}
use Rattle.hp_script.proofs.FunctionNames.{is_transpose, has_columns, function_tells}
use Rattle.hp_script.proofs.Shaped.{called, call_passes}
use Rattle.hp_script.proofs.Fits.{flipped_means, in_text, result_some}
use Rattle.hp_script.proofs.Turns.{arguments, array_first, array_first_break, breaks_among, order_refusal, order_arguments}
use Rattle.hp_script.proofs.Wants.{wanted_means, range_tested, lambda_tested}
use Rattle.hp_meaning.specs.Fitting.{a_number, a_truth}
use Rattle.hp_meaning.specs.ReadCalls.{is_read, reads_in, reads_among}
use Rattle.hp_meaning.specs.ValueOf as meant
use Rattle.hp_meaning.specs.ValueOf.{Supply, Part, value, parts, flipped, transposed_part}
use Rattle.hp_meaning.proofs.Accorded.{Passed, plain_accorded, range_accorded, known_role, lambda_accorded, named_accorded, inside_named}
use Rattle.hp_meaning.proofs.BodyTrees.{body_safe, else_passes}
use Rattle.hp_meaning.proofs.Called.{FirstText, served, supplies_apart, first_is_text}
use Rattle.hp_meaning.proofs.CallSafety.{map_safe}
use Rattle.hp_meaning.proofs.Fine.{is}
use Rattle.hp_meaning.proofs.FineWords.{truth_of}
use Rattle.hp_meaning.proofs.Parts.{finds, Supplies, Accords, Agree, end, more}
use Rattle.hp_meaning.proofs.ReadNames.{reads, reads_same}
use Rattle.hp_meaning.proofs.Safe.{SafeAs, safe, untyped, ticked, variable_safe, field_safe, column_safe}
use Rattle.hp_meaning.proofs.SafeForms.{unary_safe, index_safe}
use Rattle.hp_meaning.proofs.SafeCalls.{Argued, Mapped, call_in_order, Flipped, transpose_call, sides_pass, no_role, no_window, inside_out}
use Rattle.hp_script.proofs.TestLemmas.{and_right, or_left, or_right, passes}

-- a call that reads begins with a text, where it has a result
text_first : (s : Scope) (at : Place) (f : Function) (dotted : Bool) (xs : Args) → (has_columns f ≡ true → IsSome (call_result f dotted (arguments s at f [] xs))) → reads f ≡ true → FirstText xs
text_first s at function.ReadCsv dotted xs some r = first_is_text s at dotted xs (some refl)
text_first s at _ dotted xs some r = absurd cc

transpose_reads_not : (f : Function) → is_transpose f ≡ true → reads f ≡ false
transpose_reads_not function.Transpose t = refl
transpose_reads_not _ t = absurd cc

not_both : {A : Type 0} (b : Bool) → b ≡ false → b ≡ true → A
not_both true e d = absurd cc
not_both false e d = absurd cc

-- what is indexed is no parameter
indexed_outside : {s : Scope} {found : Option Shape} {m : meant.Meaning} (window : Bool) → window ≡ false → SafeAs s found m → SafeAs s (cond window (Some shape.Int) found) m
indexed_outside true e h = absurd cc
indexed_outside false e h = h

-- all arguments that are tested in the order of the text
all_agree : {g : Supply} {s : Scope} {f : Function} {all : List Argument} {ps : List Part} {ids : List ℕ} {files : List ReadSpec} → Argued g s f [] all ps ids files → Agree s f [] all ps
all_agree {s = s} {f = f} {ps = ps} argued = subst (λ all. Agree s f [] all ps) (sym argued.is) argued.agree

-- one argument, and those behind it
behind_one : {g : Supply} {s : Scope} {f : Function} {before all : List Argument} {x : Argument} {part : Part} {ps : List Part} {ids : List ℕ} {files : List ReadSpec} → Accords (wanted f before) (inside s f before) s x part
    → Argued g s f (before ++ x ∷ []) all ps ids files → Argued g s f before all (part ∷ ps) ids files
behind_one {before = before} {x = x} first next = record { later = x ∷ next.later; is = next.is ∙ append_assoc before (x ∷ []) next.later; agree = more first next.agree; rest = next.rest }

ranged_apart : (g : Supply) (as_ids bs cs ids : List ℕ) (as_files ds es files : List ReadSpec) → Supplies (finds g) (((as_ids ++ bs) ++ cs) ++ ids) (((as_files ++ ds) ++ es) ++ files)
    → Supplies (finds g) (as_ids ++ (bs ++ (cs ++ ids))) (as_files ++ (ds ++ (es ++ files)))
ranged_apart g as_ids bs cs ids as_files ds es files h =
    supplies_apart (finds g) as_ids bs (cs ++ ids) as_files ds (es ++ files) (supplies_apart (finds g) (as_ids ++ bs) cs ids (as_files ++ ds) es files h)

files_apart : (g : Supply) (ids : List ℕ) (as_files bs files : List ReadSpec) → Supplies (finds g) ids ((as_files ++ bs) ++ files) → Supplies (finds g) ids (as_files ++ (bs ++ files))
files_apart g ids as_files bs files h = subst (Supplies (finds g) ids) (append_assoc as_files bs files) h

mutual
  unfolding found_of parts_break finds_of in_turn files_in files_among reads_in reads_among value parts flipped

  pub tree_safe : (g : Supply) (s : Scope) (x : Tree) (ids : List ℕ) (files : List ReadSpec) → s.parameters ≡ [] → break_of s x ≡ None → Supplies (finds g) (reads_in x ++ ids) (files_in x ++ files)
      → Passed g s (shape_of s x) (value g x) ids files
  tree_safe g s (trees.number h z) ids files out e supplies = record { safe = safe (record { fine = λ v n fit. is (a_number z) }); rest = supplies }
  tree_safe g s (trees.truth h holds) ids files out e supplies = record { safe = safe (record { fine = λ v n fit. is (a_truth _ (truth_of holds)) }); rest = supplies }
  tree_safe g s (trees.text h bytes) ids files out e supplies = absurd cc
  tree_safe g s (trees.variable h x) ids files out e supplies =
      record { safe = ticked (variable_safe s (role_of s.parameters x) h.at x (no_role s out x) e); rest = supplies }
  tree_safe g s (trees.column h c) ids files out e supplies = record { safe = ticked (safe (column_safe s s.around h.at c refl e)); rest = supplies }
  tree_safe g s (trees.field h x c) ids files out e supplies =
      record { safe = ticked (safe (field_safe s (role_of s.parameters x) h.at x c (no_role s out x) e)); rest = supplies }
  tree_safe g s (trees.unary h op dotted x) ids files out e supplies =
      let inner = tree_safe g s x ids files out (or_left _ _ e) supplies in
      record { safe = ticked (unary_safe op dotted inner.safe); rest = inner.rest }
  tree_safe g s (trees.binary h op dotted x y) ids files out e supplies =
      let left = tree_safe g s x (reads_in y ++ ids) (files_in y ++ files) out (or_left _ _ e) (supplies_apart (finds g) (reads_in x) (reads_in y) ids (files_in x) (files_in y) files supplies) in
      let both = sides_pass h.at op dotted y (is_flipped s op dotted y) (parts_break s y) refl (or_left _ _ (or_right _ _ e)) left.safe
      (λ t flips. parts_safe g s y ids files out (and_right _ (is_transpose_call y) (flipped_means s op dotted y flips)) t left.rest)
      (λ t. tree_safe g s y ids files out t left.rest) in
      record { safe = ticked both.safe; rest = both.rest }
  tree_safe g s (trees.index h x i) ids files out e supplies =
      let tested = else_passes (is_window s x) _ _ (no_window s x out) e in
      let left = tree_safe g s x (reads_in i ++ ids) (files_in i ++ files) out (or_left _ _ tested) (supplies_apart (finds g) (reads_in x) (reads_in i) ids (files_in x) (files_in i) files supplies) in
      let right = tree_safe g s i ids files out (or_left _ _ (or_right _ _ tested)) left.rest in
      record {
        safe = ticked (indexed_outside (is_window s x) (no_window s x out) (index_safe h.at left.safe right.safe));
        rest = right.rest;
      }
  tree_safe g s (trees.call h name dotted xs) ids files out e supplies =
      let apart = supplies_apart (finds g) (cond (is_read name dotted) (h.id ∷ []) []) (reads_among xs) ids (file_of_call name dotted xs) (files_among xs) files supplies in
      let there = called (λ found. Passed g s (option_and_then (λ f. call_result f dotted (found_among f (finds_of (site s h.at f) xs)).arguments) found) (λ v n. meant.called g found h dotted (parts g xs) v n) ids files)
      h.at (function_named dotted name) _
      (λ f same t.
      let passed = call_passes s f h.at (shape_of s (trees.call h name dotted xs)) (or_right _ _ (or_right _ _ t)) in
      let text = text_first s h.at f dotted xs
      (λ c. subst (λ all. IsSome (call_result f dotted all)) (in_text s h.at f xs c) (result_some (function_named dotted name) f dotted (λ k. (found_among k (finds_of (site s h.at k) xs)).arguments) same passed.shaped.some)) in
      let own = served (finds g) f name dotted h.id xs (reads_among xs ++ ids) (files_among xs ++ files) (reads f) refl (reads_same dotted name f same) text apart in
      subst (λ all. Passed g s (call_result f dotted all) (λ v n. meant.called g (Some f) h dotted (parts g xs) v n) ids files) (sym (order_arguments s h.at f xs))
      (call_in_order f h dotted xs (array_first s h.at xs) (array_first_break s h.at xs) (breaks_among s h.at f [] xs) passed.flips_not (passes (takes_count f (count_of xs)) h.at WrongCount (or_left _ _ t)) text
      own.there (sym (order_refusal s h.at f xs) ∙ or_left _ _ (or_right _ _ t))
      (λ b. first_safe g s h.at xs ids files out b own.rest)
      (λ b. args_safe g s h.at f [] xs ids files out b own.rest))) e in
      record { safe = ticked there.safe; rest = there.rest }

  -- what is transposed on the right of a product
  parts_safe : (g : Supply) (s : Scope) (x : Tree) (ids : List ℕ) (files : List ReadSpec) → s.parameters ≡ [] → is_transpose_call x ≡ true → parts_break s x ≡ None → Supplies (finds g) (reads_in x ++ ids) (files_in x ++ files)
      → Flipped g s (shape_of s x) (flipped g x) ids files
  parts_safe g s (trees.call h name false xs) ids files out flips e supplies =
      let apart = supplies_apart (finds g) (cond (is_read name false) (h.id ∷ []) []) (reads_among xs) ids (file_of_call name false xs) (files_among xs) files supplies in
      called (λ found. Flipped g s (option_and_then (λ f. call_result f false (found_among f (finds_of (site s h.at f) xs)).arguments) found) (transposed_part found (parts g xs)) ids files)
      h.at (function_named false name) _
      (λ f same t.
      let transposes : is_transpose f ≡ true = sym (function_tells false name f same).transpose ∙ flips in
      let own = served (finds g) f name false h.id xs (reads_among xs ++ ids) (files_among xs ++ files) (reads f) refl (reads_same false name f same) (λ r. not_both (reads f) (transpose_reads_not f transposes) r) apart in
      subst (λ all. Flipped g s (call_result f false all) (transposed_part (Some f) (parts g xs)) ids files) (sym (order_arguments s h.at f xs))
      (transpose_call f h.at xs (array_first s h.at xs) (array_first_break s h.at xs) (breaks_among s h.at f [] xs) transposes (sym (order_refusal s h.at f xs) ∙ or_right _ _ t)
      (λ b. args_safe g s h.at f [] xs ids files out b own.rest))) e
  parts_safe g s _ ids files out flips e supplies = absurd cc

  -- the arguments of `map`
  first_safe : (g : Supply) (s : Scope) (at : Place) (xs : Args) (ids : List ℕ) (files : List ReadSpec) → s.parameters ≡ [] → array_first_break s at xs ≡ None → Supplies (finds g) (reads_among xs ++ ids) (files_among xs ++ files)
      → Mapped g s (array_first s at xs) (parts g xs) ids files
  first_safe g s at none ids files out e supplies = record { safe = untyped; rest = supplies }
  first_safe g s at (plain x xs) ids files out e supplies =
      let apart = supplies_apart (finds g) (reads_in x) (reads_among xs) ids (files_in x) (files_among xs) files supplies in
      let first = plain_accorded g (wanted function.Map (arguments s at function.Map [] xs)) s s (so_far function.Map at (arguments s at function.Map [] xs)) x (reads_among xs ++ ids) (files_among xs ++ files) (or_right _ _ e) apart
      (λ t. tree_safe g s x (reads_among xs ++ ids) (files_among xs ++ files) out t apart) in
      let behind = args_safe g s at function.Map [] xs ids files out (or_left _ _ e) first.rest in
      record { safe = map_safe (all_agree behind) first.accords; rest = behind.rest }
  first_safe g s at (range x y xs) ids files out e supplies =
      let apart = ranged_apart g (reads_in x) (reads_in y) (reads_among xs) ids (files_in x) (files_in y) (files_among xs) files supplies in
      let tested = range_tested (wanted function.Map (arguments s at function.Map [] xs)) at _ (or_right _ _ e) in
      let first = tree_safe g s x (reads_in y ++ (reads_among xs ++ ids)) (files_in y ++ (files_among xs ++ files)) out (or_left _ _ tested) apart in
      let second = tree_safe g s y (reads_among xs ++ ids) (files_among xs ++ files) out (or_right _ _ tested) first.rest in
      let behind = args_safe g s at function.Map [] xs ids files out (or_left _ _ e) second.rest in
      record { safe = map_safe (all_agree behind) (range_accorded first.safe second.safe); rest = behind.rest }
  first_safe g s at (lambda p x xs) ids files out e supplies =
      let role = role_wanted (wanted function.Map (arguments s at function.Map [] xs)) in
      let body = body_safe (with_parameter s p role) p role x
      (record { only = ap (λ ps. record { name = p; role = role } ∷ ps) out; known = known_role (wanted_means function.Map (arguments s at function.Map [] xs)) at _ (or_right _ _ e) })
      (lambda_tested (wanted function.Map (arguments s at function.Map [] xs)) at _ (or_right _ _ e)) in
      let first = lambda_accorded g (wanted function.Map (arguments s at function.Map [] xs)) s s p x at (reads_among xs ++ ids) (files_among xs ++ files) (or_right _ _ e) (files_apart g (reads_among xs ++ ids) (files_in x) (files_among xs) files supplies) body in
      let behind = args_safe g s at function.Map [] xs ids files out (or_left _ _ e) first.rest in
      record { safe = map_safe (all_agree behind) first.accords; rest = behind.rest }
  first_safe g s at (named name place x xs) ids files out e supplies =
      let apart = supplies_apart (finds g) (reads_in x) (reads_among xs) ids (files_in x) (files_among xs) files supplies in
      let first = named_accorded g (wanted function.Map (arguments s at function.Map [] xs)) s s (so_far function.Map at (arguments s at function.Map [] xs)) name place x (reads_among xs ++ ids) (files_among xs ++ files) (λ m. refl) (or_right _ _ e) apart
      (λ t. tree_safe g s x (reads_among xs ++ ids) (files_among xs ++ files) out t apart) in
      let behind = args_safe g s at function.Map [] xs ids files out (or_left _ _ e) first.rest in
      record { safe = map_safe (all_agree behind) first.accords; rest = behind.rest }

  -- the arguments behind these
  args_safe : (g : Supply) (s : Scope) (at : Place) (f : Function) (before : List Argument) (xs : Args) (ids : List ℕ) (files : List ReadSpec) → s.parameters ≡ [] → breaks_among s at f before xs ≡ None
      → Supplies (finds g) (reads_among xs ++ ids) (files_among xs ++ files) → Argued g s f before (arguments s at f before xs) (parts g xs) ids files
  args_safe g s at f before none ids files out e supplies = record { later = []; is = sym (append-nil before); agree = end; rest = supplies }
  args_safe g s at f before (plain x xs) ids files out e supplies =
      let apart = supplies_apart (finds g) (reads_in x) (reads_among xs) ids (files_in x) (files_among xs) files supplies in
      let first = plain_accorded g (wanted f before) (inside s f before) s (so_far f at before) x (reads_among xs ++ ids) (files_among xs ++ files) (or_left _ _ e) apart
      (λ t. tree_safe g (inside s f before) x (reads_among xs ++ ids) (files_among xs ++ files) (inside_out s f before out) t apart) in
      behind_one first.accords (args_safe g s at f (before ++ plain_argument (wanted f before) x (shape_of (inside s f before) x) ∷ []) xs ids files out (or_right _ _ e) first.rest)
  args_safe g s at f before (range x y xs) ids files out e supplies =
      let apart = ranged_apart g (reads_in x) (reads_in y) (reads_among xs) ids (files_in x) (files_in y) (files_among xs) files supplies in
      let tested = range_tested (wanted f before) at _ (or_left _ _ e) in
      let first = tree_safe g s x (reads_in y ++ (reads_among xs ++ ids)) (files_in y ++ (files_among xs ++ files)) out (or_left _ _ tested) apart in
      let second = tree_safe g s y (reads_among xs ++ ids) (files_among xs ++ files) out (or_right _ _ tested) first.rest in
      behind_one (range_accorded first.safe second.safe) (args_safe g s at f (before ++ range_argument (shape_of s x) (shape_of s y) ∷ []) xs ids files out (or_right _ _ e) second.rest)
  args_safe g s at f before (lambda p x xs) ids files out e supplies =
      let role = role_wanted (wanted f before) in
      let body = body_safe (with_parameter s p role) p role x
      (record { only = ap (λ ps. record { name = p; role = role } ∷ ps) out; known = known_role (wanted_means f before) at _ (or_left _ _ e) }) (lambda_tested (wanted f before) at _ (or_left _ _ e)) in
      let first = lambda_accorded g (wanted f before) (inside s f before) s p x at (reads_among xs ++ ids) (files_among xs ++ files) (or_left _ _ e) (files_apart g (reads_among xs ++ ids) (files_in x) (files_among xs) files supplies) body in
      behind_one first.accords (args_safe g s at f (before ++ lambda_argument (shape_of (with_parameter s p (role_wanted (wanted f before))) x) ∷ []) xs ids files out (or_right _ _ e) first.rest)
  args_safe g s at f before (named name place x xs) ids files out e supplies =
      let apart = supplies_apart (finds g) (reads_in x) (reads_among xs) ids (files_in x) (files_among xs) files supplies in
      let first = named_accorded g (wanted f before) (inside s f before) s (so_far f at before) name place x (reads_among xs ++ ids) (files_among xs ++ files) (inside_named s f before) (or_left _ _ e) apart
      (λ t. tree_safe g (inside s f before) x (reads_among xs ++ ids) (files_among xs ++ files) (inside_out s f before out) t apart) in
      behind_one first.accords (args_safe g s at f (before ++ named_argument (wanted f before) name x (shape_of (inside s f before) x) ∷ []) xs ids files out (or_right _ _ e) first.rest)
