-- The parts of an expression whose tests pass have types where they have values.
use Rattle.std.proofs.Common.{◌≡◌, ℕ, Bool, true, false, not, ◌||◌, cond, codes, bytes_eq, List, [], ◌∷◌, ◌++◌, Option, Some, None, IsSome, inl, inr, refl, sym, subst, ◌∙◌}
use Rattle.hp_word.specs.declared.place.Place.{Place}
use Rattle.hp_script.specs.declared.argument.Argument.{Argument}
use Rattle.hp_script.specs.declared.function.Function.{Function}
use Rattle.hp_script.specs.declared.function.Function.TheVariants as function
use Rattle.hp_script.specs.Breaks.{is_flipped, is_transpose_call, is_scalar_function, so_far}
use Rattle.hp_script.specs.Entries.{known_shape, of_known, is_column_wanted, plain_entries, named_entries}
use Rattle.hp_script.specs.Functions.{function_named}
use Rattle.hp_script.specs.Mirror.{Tree, Args, number, truth, text, variable, column, field, unary, binary, index, call, none, plain, range, lambda, named}
use Rattle.hp_script.specs.Results.{call_result}
use Rattle.hp_script.specs.Scope.{Scope, is_in_lambda, with_parameter}
use Rattle.hp_script.specs.Typing.{is_window, wanted, role_wanted, inside, is_measure_wanted, plain_argument, range_argument, lambda_argument, named_argument}
use Rattle.hp_script.specs.Valued.{takes_columns, is_column, is_measure, is_parameter, values_in, values_among}
use Rattle.hp_script.specs.Walk.{found_of, shape_of, break_of, entries_of, parts_break, finds_of, in_turn, found_among, entries_among, site}
use Rattle.hp_script.proofs.FunctionNames.{Tells, function_tells, has_columns, is_transpose}
use Rattle.hp_script.proofs.Shaped.{Sound, call_passes, called, shaped}
use Rattle.hp_script.proofs.Turns.{arguments, array_first_break, breaks_among, entries_from, lambda_entries, order_refusal, order_entries}
use Rattle.hp_script.proofs.Wants.{wanted_means, column_agrees, plain_tested, range_tested, lambda_tested, named_tested, measure_agrees}
use Rattle.hp_script.proofs.Fits.{in_text, Fits, fits_nothing, fits_append, fits_absent, fits_shaped, fits_one, either_fits, window_agrees, window_absent, inside_sound, lambda_sound, indexed_fits, index_fits, distance_fits, right_fits, flipped_means, text_fits, call_fits, in_order_fits, result_some, transpose_takes_none, outside_allowed, map_columns}
use Rattle.hp_script.proofs.TestLemmas.{and_left, and_right, or_left, or_right}

mutual
  unfolding found_of parts_break finds_of in_turn plain_entries named_entries

  -- of an expression as a value
  pub tree_fits : (s : Scope) (parameter : Option (List ℕ)) (x : Tree) → Sound s parameter → break_of s x ≡ None → Fits (entries_of s x) (values_in parameter x)
  tree_fits s parameter (number h value) sound e = fits_one (shaped s parameter (number h value) sound e)
  tree_fits s parameter (truth h holds) sound e = fits_one (shaped s parameter (truth h holds) sound e)
  tree_fits s parameter (text h bytes) sound e = fits_absent fits_nothing
  tree_fits s parameter (variable h x) sound e = fits_one (shaped s parameter (variable h x) sound e)
  tree_fits s parameter (column h c) sound e = fits_one (shaped s parameter (column h c) sound e)
  tree_fits s parameter (field h x c) sound e = fits_one (shaped s parameter (field h x c) sound e)
  tree_fits s parameter (unary h op dotted x) sound e = fits_shaped (shaped s parameter (unary h op dotted x) sound e) (tree_fits s parameter x sound (or_left _ _ e))
  tree_fits s parameter (binary h op dotted x y) sound e =
      fits_append (tree_fits s parameter x sound (or_left _ _ e))
      (fits_shaped (shaped s parameter (binary h op dotted x y) sound e)
      (right_fits (is_flipped s op dotted y) (parts_break s y) (break_of s y) (entries_of s y) (values_in parameter y)
      (λ f p. let means = flipped_means s op dotted y f in parts_fit s parameter y sound (and_left _ _ means) (and_right (not (is_in_lambda s)) _ means) p)
      (λ b. tree_fits s parameter y sound b) (or_left _ _ (or_right _ _ e))))
  tree_fits s parameter (index h x i) sound e =
      fits_append
      (indexed_fits (is_window s x) (is_parameter parameter x) x _ (break_of s x) _ (entries_of s x) (values_in parameter x) (window_agrees s parameter x sound.stands)
      (window_absent s x) (λ b. tree_fits s parameter x sound b) e)
      (fits_shaped (shaped s parameter (index h x i) sound e)
      (index_fits (is_window s x) _ (break_of s x) (break_of s i) _ (entries_of s i) (values_in parameter i)
      (λ r. distance_fits s parameter _ h.at i r) (λ b. tree_fits s parameter i sound b) e))
  tree_fits s parameter (call h name dotted xs) sound e =
      called (λ found. Fits (known_shape found (shape_of s (call h name dotted xs)) ∷ of_known found (λ f. entries_among f (found_among f (finds_of (site s h.at f) xs))))
      (cond (bytes_eq name (codes "transpose")) false true ∷ values_among parameter name xs)) h.at (function_named dotted name) _
      (λ f same t.
      let tells = function_tells dotted name f same in
      let passed = call_passes s f h.at (shape_of s (call h name dotted xs)) (or_right _ _ (or_right _ _ t)) in
      call_fits f (shape_of s (call h name dotted xs)) (bytes_eq name (codes "transpose")) _ _ tells.transpose (λ n. passed.shaped)
      (subst (λ l. Fits l (values_among parameter name xs)) (sym (order_entries s h.at f xs)) (in_order_fits f (array_first_break s h.at xs) (breaks_among s h.at f [] xs) (lambda_entries s h.at xs) (entries_from s h.at f [] xs) (values_among parameter name xs)
      (λ is_map b. first_fits s parameter h.at name xs sound (subst (Tells name) is_map tells) (subst (λ k. (not (is_in_lambda s) || is_scalar_function k) ≡ true) is_map passed.allowed) b)
      (λ b. among_fits s parameter h.at f name dotted [] xs sound tells passed.allowed
      (λ c. subst (λ l. IsSome (call_result f dotted l)) (in_text s h.at f xs c) (result_some (function_named dotted name) f dotted (λ g. (found_among g (finds_of (site s h.at g) xs)).arguments) same passed.shaped.some)) b)
      (sym (order_refusal s h.at f xs) ∙ or_left _ _ (or_right _ _ t))))) e

  -- of a call that transposes, but for the call itself
  pub parts_fit : (s : Scope) (parameter : Option (List ℕ)) (x : Tree) → Sound s parameter → not (is_in_lambda s) ≡ true → is_transpose_call x ≡ true → parts_break s x ≡ None
      → Fits (entries_of s x) (values_in parameter x)
  parts_fit s parameter (call h name false xs) sound out flips e =
      called (λ found. Fits (known_shape found (shape_of s (call h name false xs)) ∷ of_known found (λ f. entries_among f (found_among f (finds_of (site s h.at f) xs))))
      (cond (bytes_eq name (codes "transpose")) false true ∷ values_among parameter name xs)) h.at (function_named false name) _
      (λ f same t.
      let tells = function_tells false name f same in
      let is : is_transpose f ≡ true = sym tells.transpose ∙ flips in
      let allowed = outside_allowed (not (is_in_lambda s)) (is_scalar_function f) out in
      call_fits f (shape_of s (call h name false xs)) (bytes_eq name (codes "transpose")) _ _ tells.transpose (λ n. absurd cc)
      (subst (λ l. Fits l (values_among parameter name xs)) (sym (order_entries s h.at f xs)) (in_order_fits f (array_first_break s h.at xs) (breaks_among s h.at f [] xs) (lambda_entries s h.at xs) (entries_from s h.at f [] xs) (values_among parameter name xs)
      (λ is_map b. first_fits s parameter h.at name xs sound (subst (Tells name) is_map tells) (subst (λ k. (not (is_in_lambda s) || is_scalar_function k) ≡ true) is_map allowed) b)
      (λ b. among_fits s parameter h.at f name false [] xs sound tells allowed (λ c. absurd (transpose_takes_none f is c)) b)
      (sym (order_refusal s h.at f xs) ∙ or_right _ _ t)))) e
  parts_fit s parameter _ sound out flips e = absurd cc

  -- of the arguments of `map`
  pub first_fits : (s : Scope) (parameter : Option (List ℕ)) (at : Place) (name : List ℕ) (xs : Args)
      → Sound s parameter → Tells name function.Map → (not (is_in_lambda s) || is_scalar_function function.Map) ≡ true → array_first_break s at xs ≡ None
      → Fits (lambda_entries s at xs) (values_among parameter name xs)
  first_fits s parameter at name none sound tells allowed e = fits_nothing
  first_fits s parameter at name (plain x xs) sound tells allowed e =
      fits_append
      (either_fits (is_column_wanted (wanted function.Map (arguments s at function.Map [] xs))) (takes_columns name) (is_column x) x (entries_of s x) (values_in parameter x)
      (λ c. map_columns (wanted_means function.Map (arguments s at function.Map [] xs)) refl ∙ sym tells.columns)
      (λ w. elim (plain_tested (wanted function.Map (arguments s at function.Map [] xs)) (so_far function.Map at (arguments s at function.Map [] xs)) x (break_of s x) (or_right _ _ e) w) [
        | inl t ↦ text_fits s parameter x t
        | inr b ↦ tree_fits s parameter x sound b
      ]))
      (among_fits s parameter at function.Map name false [] xs sound tells allowed (λ c. absurd cc) (or_left _ _ e))
  first_fits s parameter at name (range x y xs) sound tells allowed e =
      let tested = range_tested (wanted function.Map (arguments s at function.Map [] xs)) at _ (or_right _ _ e) in
      fits_append (fits_append (tree_fits s parameter x sound (or_left _ _ tested)) (tree_fits s parameter y sound (or_right _ _ tested)))
      (among_fits s parameter at function.Map name false [] xs sound tells allowed (λ c. absurd cc) (or_left _ _ e))
  first_fits s parameter at name (lambda p x xs) sound tells allowed e =
      fits_append
      (tree_fits (with_parameter s p (role_wanted (wanted function.Map (arguments s at function.Map [] xs)))) (cond (bytes_eq name (codes "stencil")) (Some p) None) x
      (lambda_sound s parameter function.Map name (arguments s at function.Map [] xs) at _ p sound tells allowed (or_right _ _ e))
      (lambda_tested (wanted function.Map (arguments s at function.Map [] xs)) at _ (or_right _ _ e)))
      (among_fits s parameter at function.Map name false [] xs sound tells allowed (λ c. absurd cc) (or_left _ _ e))
  first_fits s parameter at name (named given place x xs) sound tells allowed e =
      fits_append
      (either_fits (is_measure_wanted (wanted function.Map (arguments s at function.Map [] xs))) (bytes_eq name (codes "aggregate")) (is_measure x) x (entries_of s x) (values_in parameter x)
      (λ m. measure_agrees (wanted_means function.Map (arguments s at function.Map [] xs)) (so_far function.Map at (arguments s at function.Map [] xs)) given place x (break_of s x) (or_right _ _ e) ∙ sym tells.aggregate)
      (λ w. tree_fits s parameter x sound (named_tested (wanted function.Map (arguments s at function.Map [] xs)) (so_far function.Map at (arguments s at function.Map [] xs)) given place x (break_of s x) (or_right _ _ e) w)))
      (among_fits s parameter at function.Map name false [] xs sound tells allowed (λ c. absurd cc) (or_left _ _ e))

  -- of the arguments behind these
  pub among_fits : (s : Scope) (parameter : Option (List ℕ)) (at : Place) (f : Function) (name : List ℕ) (dotted : Bool) (before : List Argument) (xs : Args)
      → Sound s parameter → Tells name f → (not (is_in_lambda s) || is_scalar_function f) ≡ true
      → (has_columns f ≡ true → IsSome (call_result f dotted (arguments s at f before xs))) → breaks_among s at f before xs ≡ None
      → Fits (entries_from s at f before xs) (values_among parameter name xs)
  among_fits s parameter at f name dotted before none sound tells allowed results e = fits_nothing
  among_fits s parameter at f name dotted before (plain x xs) sound tells allowed results e =
      fits_append
      (either_fits (is_column_wanted (wanted f before)) (takes_columns name) (is_column x) x (entries_of (inside s f before) x) (values_in parameter x)
      (column_agrees s f name dotted at before x xs (break_of (inside s f before) x) tells results (or_left _ _ e))
      (λ w. elim (plain_tested (wanted f before) (so_far f at before) x (break_of (inside s f before) x) (or_left _ _ e) w) [
        | inl t ↦ text_fits (inside s f before) parameter x t
        | inr b ↦ tree_fits (inside s f before) parameter x (inside_sound s parameter f before sound) b
      ]))
      (among_fits s parameter at f name dotted (before ++ plain_argument (wanted f before) x (shape_of (inside s f before) x) ∷ []) xs sound tells allowed results (or_right _ _ e))
  among_fits s parameter at f name dotted before (range x y xs) sound tells allowed results e =
      let tested = range_tested (wanted f before) at _ (or_left _ _ e) in
      fits_append (fits_append (tree_fits s parameter x sound (or_left _ _ tested)) (tree_fits s parameter y sound (or_right _ _ tested)))
      (among_fits s parameter at f name dotted (before ++ range_argument (shape_of s x) (shape_of s y) ∷ []) xs sound tells allowed results (or_right _ _ e))
  among_fits s parameter at f name dotted before (lambda p x xs) sound tells allowed results e =
      fits_append
      (tree_fits (with_parameter s p (role_wanted (wanted f before))) (cond (bytes_eq name (codes "stencil")) (Some p) None) x
      (lambda_sound s parameter f name before at _ p sound tells allowed (or_left _ _ e)) (lambda_tested (wanted f before) at _ (or_left _ _ e)))
      (among_fits s parameter at f name dotted (before ++ lambda_argument (shape_of (with_parameter s p (role_wanted (wanted f before))) x) ∷ []) xs sound tells allowed results (or_right _ _ e))
  among_fits s parameter at f name dotted before (named given place x xs) sound tells allowed results e =
      fits_append
      (either_fits (is_measure_wanted (wanted f before)) (bytes_eq name (codes "aggregate")) (is_measure x) x (entries_of (inside s f before) x) (values_in parameter x)
      (λ m. measure_agrees (wanted_means f before) (so_far f at before) given place x (break_of (inside s f before) x) (or_left _ _ e) ∙ sym tells.aggregate)
      (λ w. tree_fits (inside s f before) parameter x (inside_sound s parameter f before sound) (named_tested (wanted f before) (so_far f at before) given place x (break_of (inside s f before) x) (or_left _ _ e) w)))
      (among_fits s parameter at f name dotted (before ++ named_argument (wanted f before) given x (shape_of (inside s f before) x) ∷ []) xs sound tells allowed results (or_right _ _ e))
