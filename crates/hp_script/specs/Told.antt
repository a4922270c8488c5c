-- What a refusal tells of its place: one fact for each rule, on the expression, the argument, the call or the statement that
-- stands there. What else the fact needs to know of types is said by the relations. Which of two tests comes first is not
-- said here.
use Rattle.std.specs.Prelude.{ℕ, ℤ, pos, negsuc, ◌≡◌, Bool, true, false, not, ◌&&◌, List, [], ◌∷◌, ◌++◌, length, nat_le, int_le, Some, None, refl, codes}
use Rattle.std.specs.List.{list_all}
use Rattle.hp_word.specs.declared.name.Name.{Name}
use Rattle.hp_word.specs.declared.place.Place.{Place}
use Rattle.hp_script.specs.declared.rule.Rule.{Rule}
use Rattle.hp_script.specs.declared.rule.Rule.TheVariants.{UnknownName, MaybeUnset, WrongType, TypeChanged, UnknownColumn, DoubleColumn, UnknownCall, WrongCount, TooManyColumns, ReachTooWide}
use Rattle.hp_script.specs.declared.rule.Refusal.{Refusal}
use Rattle.hp_script.specs.declared.tree.UnOp.{UnOp}
use Rattle.hp_script.specs.declared.tree.BinOp.{BinOp}
use Rattle.hp_script.specs.declared.tree.BinOp.TheVariants.{Mul}
use Rattle.hp_script.specs.declared.typed.Shape.{Shape}
use Rattle.hp_script.specs.declared.typed.Shape.TheVariants.{Frame}
use Rattle.hp_script.specs.declared.argument.Argument.{Argument}
use Rattle.hp_script.specs.declared.argument.Argument.TheVariants as argument
use Rattle.hp_script.specs.declared.function.Function.{Function}
use Rattle.hp_script.specs.declared.function.Function.TheVariants as function
use Rattle.hp_script.specs.Breaks.{repeats, names_among, distance_of, count_of, is_scalar, is_frame, is_flipped, is_scalar_function}
use Rattle.hp_script.specs.Checked.{same_shape, is_printed, is_test, start_of, assigned_in}
use Rattle.hp_script.specs.Functions.{scalar_named, fold_named, array_named, frame_named, function_named, takes_count}
use Rattle.hp_script.specs.Mirror.{Head, Tree, Args, text, variable, column, field, unary, binary, index, call, none, plain, range, lambda, named, Block, assign, print, export, choose, loop, done}
use Rattle.hp_script.specs.Results.{are_matrices, unary_result, binary_result, index_result, call_result}
use Rattle.hp_script.specs.Runs.{Position, here, past_assign, past_print, past_export, in_first, in_second, past_if, in_turn, past_loop, IsScopeAt, at_here}
use Rattle.hp_script.specs.Scope.{Role, window, Scope, has, has_column, is_set, shape_among, role_of, is_in_lambda, with_parameter}
use Rattle.hp_script.specs.Shaped.{IsOutside, IsVariable, HasShape, of_column}
use Rattle.hp_script.specs.Trees as trees
use Rattle.hp_script.specs.Typing.{Wanted, an_interval, a_lambda, a_text, a_column, a_given, a_measure, nothing, wanted, inside, is_window, range_argument}
use Rattle.hp_script.specs.Valued.{is_measure}

abbrev pub refusal : Place → Rule → Refusal
refusal at rule = record { at = at; rule = rule }

-- ---- one place

-- the variable that is read at this place
pub data Reads : Tree → Place → List ℕ → Type 0 where
  a_variable : {h : Head} {x : List ℕ} → Reads (variable h x) h.at x
  a_field : {h : Head} {x c : List ℕ} → Reads (field h x c) h.at x

-- `Tells s x r`: at the point `s` of a script, what the refusal tells of the expression, by its rule.
pub data Tells (s : Scope) : Tree → Refusal → Type 0 where
  -- no parameter here has the name, and nothing assigns it
  unknown_name : {t : Tree} {at : Place} {x : List ℕ} → Reads t at x → role_of s.parameters x ≡ None → has x s.assigned ≡ false → Tells s t (refusal at UnknownName)
  -- no parameter here has the name, and some way to here does not assign it
  maybe_unset : {t : Tree} {at : Place} {x : List ℕ} → Reads t at x → role_of s.parameters x ≡ None → has x s.assigned ≡ true → is_set s.ways x ≡ false → Tells s t (refusal at MaybeUnset)
  -- `d.c`: `d` is a frame without such a column
  unknown_field : {h : Head} {d c : List ℕ} {columns : List Name} → IsVariable s d (Frame columns) → has_column c columns ≡ false → Tells s (field h d c) (refusal h.at UnknownColumn)
  -- `:c`: the frame of the innermost filter has no such column
  unknown_column : {h : Head} {c : List ℕ} {columns : List Name} → s.around ≡ Some columns → has_column c columns ≡ false → Tells s (column h c) (refusal h.at UnknownColumn)
  -- `p[d]`: `d` is more than 64 from `p`
  reach_too_wide : {h g : Head} {p : List ℕ} {d : Tree} {distance : ℤ} → role_of s.parameters p ≡ Some window → distance_of d ≡ Some distance
      → (int_le (negsuc 63) distance && int_le distance (pos 64)) ≡ false → Tells s (index h (variable g p) d) (refusal h.at ReachTooWide)
  -- `p[d]`: `d` is no number, nor `-` and a number
  no_distance : {h g : Head} {p : List ℕ} {d : Tree} → role_of s.parameters p ≡ Some window → distance_of d ≡ None → Tells s (index h (variable g p) d) (refusal g.at WrongType)
  -- the parameter of a stencil's lambda is a place, and no value
  place_as_value : {h : Head} {p : List ℕ} → role_of s.parameters p ≡ Some window → Tells s (variable h p) (refusal h.at WrongType)
  -- a text where a value is meant
  text_as_value : {h : Head} {bytes : List ℕ} → Tells s (text h bytes) (refusal h.at WrongType)
  -- a variable in a lambda that is no scalar
  no_scalar : {h : Head} {v : List ℕ} {a : Shape} → is_in_lambda s ≡ true → IsVariable s v a → is_scalar (Some a) ≡ false → Tells s (variable h v) (refusal h.at WrongType)
  -- `d.c`: `d` is a parameter; it stands in a lambda; or `d` is no frame
  field_of_parameter : {h : Head} {d c : List ℕ} {role : Role} → role_of s.parameters d ≡ Some role → Tells s (field h d c) (refusal h.at WrongType)
  field_in_lambda : {h : Head} {d c : List ℕ} → is_in_lambda s ≡ true → Tells s (field h d c) (refusal h.at WrongType)
  field_of_value : {h : Head} {d c : List ℕ} {a : Shape} → IsVariable s d a → is_frame (Some a) ≡ false → Tells s (field h d c) (refusal h.at WrongType)
  -- `:c`: no frame is filtered here; or it stands in a lambda
  column_outside : {h : Head} {c : List ℕ} → s.around ≡ None → Tells s (column h c) (refusal h.at WrongType)
  column_in_lambda : {h : Head} {c : List ℕ} → is_in_lambda s ≡ true → Tells s (column h c) (refusal h.at WrongType)
  -- the operands have types that the operator does not take
  wrong_operand : {h : Head} {op : UnOp} {dotted : Bool} {a : Tree} {one : Shape} → HasShape s a one → unary_result op dotted one ≡ None → Tells s (unary h op dotted a) (refusal h.at WrongType)
  wrong_operands : {h : Head} {op : BinOp} {dotted : Bool} {a b : Tree} {one other : Shape}
      → HasShape s a one → HasShape s b other → binary_result op dotted one other ≡ None → Tells s (binary h op dotted a b) (refusal h.at WrongType)
  -- `A * transpose(B)`: one of them is no matrix
  wrong_factors : {h g : Head} {a b : Tree} {one other : Shape} → IsOutside s → HasShape s a one → HasShape s b other → are_matrices one other ≡ false
      → Tells s (binary h Mul false a (call g (codes "transpose") false (plain b none))) (refusal h.at WrongType)
  -- `a[i]`: it stands in a lambda, and `a` is no place; or the types are not those of an array and places in it
  index_in_lambda : {h : Head} {a i : Tree} → is_in_lambda s ≡ true → is_window s a ≡ false → Tells s (index h a i) (refusal h.at WrongType)
  wrong_index : {h : Head} {a i : Tree} {one other : Shape} → HasShape s a one → HasShape s i other → index_result one other ≡ None → Tells s (index h a i) (refusal h.at WrongType)

-- `TellsCall s f dotted arguments rule`: what the refusal of a call at its own place tells, where its arguments fit, and are
-- this to the function.
pub data TellsCall (s : Scope) : Function → (dotted : Bool) → (arguments : List Argument) → Rule → Type 0 where
  -- `transpose` is called on the right of a product alone
  transposed : {dotted : Bool} {arguments : List Argument} → TellsCall s function.Transpose dotted arguments WrongType
  -- in a lambda only functions of scalars are called
  called_in_lambda : {f : Function} {dotted : Bool} {arguments : List Argument} → is_in_lambda s ≡ true → is_scalar_function f ≡ false → TellsCall s f dotted arguments WrongType
  -- the function takes no such arguments
  no_result : {f : Function} {dotted : Bool} {arguments : List Argument} → call_result f dotted arguments ≡ None → TellsCall s f dotted arguments WrongType
  -- the joined frame would have two columns of a name
  double_column : {dotted : Bool} {arguments : List Argument} {columns : List Name} → call_result function.Join dotted arguments ≡ Some (Frame columns) → repeats columns ≡ true
      → TellsCall s function.Join dotted arguments DoubleColumn
  -- the frame that the function gives would have more than 1,024 columns
  too_many_columns : {f : Function} {dotted : Bool} {arguments : List Argument} {columns : List Name} → call_result f dotted arguments ≡ Some (Frame columns) → nat_le (length columns) 1024 ≡ false
      → TellsCall s f dotted arguments TooManyColumns

-- ---- arguments

-- the arguments in their order of tests: of `map` the first behind the others
abbrev pub behind : Args → Args → Args
behind none last = last
behind (plain x xs) last = plain x (behind xs last)
behind (range x y xs) last = range x y (behind xs last)
behind (lambda p x xs) last = lambda p x (behind xs last)
behind (named name at x xs) last = named name at x (behind xs last)

abbrev pub first_behind : Args → Args
first_behind none = none
first_behind (plain x xs) = behind xs (plain x none)
first_behind (range x y xs) = behind xs (range x y none)
first_behind (lambda p x xs) = behind xs (lambda p x none)
first_behind (named name at x xs) = behind xs (named name at x none)

abbrev pub tested_args : Function → Args → Args
tested_args function.Map xs = first_behind xs
tested_args _ xs = xs

-- where this is meant, a plain argument has to be a value
abbrev pub is_value : Wanted → Tree → Bool
is_value nothing x = false
is_value a_text (text h bytes) = false
is_value a_text (column h c) = false
is_value (a_column frames) (column h c) = false
is_value _ x = true

-- the same of a named one
abbrev pub is_named_value : Wanted → Tree → Bool
is_named_value nothing x = false
is_named_value (a_measure frames) x = not (is_measure x)
is_named_value _ x = true

-- `IsPlain u w x a`: to the function a plain argument is `a`, where `w` is meant and its expression stands at `u`.
pub data IsPlain (u : Scope) : Wanted → Tree → Argument → Type 0 where
  by_value : {w : Wanted} {x : Tree} {a : Shape} → is_value w x ≡ true → HasShape u x a → IsPlain u w x (argument.Value a)
  by_text : {h : Head} {bytes : List ℕ} → IsPlain u a_text (text h bytes) (argument.Text (trees.named bytes))
  by_column : {frames : List (List Name)} {h : Head} {c : List ℕ} → IsPlain u (a_column frames) (column h c) (argument.Column (trees.named c))

-- the same of a named argument
pub data IsNamed (u : Scope) (name : List ℕ) : Wanted → Tree → Argument → Type 0 where
  by_given : {w : Wanted} {x : Tree} {a : Shape} → is_named_value w x ≡ true → HasShape u x a → IsNamed u name w x (argument.Given (trees.named name) a)
  by_measure : {frames : List (List Name)} {x : Tree} → is_measure x ≡ true → IsNamed u name (a_measure frames) x (argument.Measure (trees.named name))

-- `AreArguments s f before xs arguments rest`: with those before, the arguments of the text up to `rest` are this to the
-- function.
pub data AreArguments (s : Scope) (f : Function) : (before : List Argument) → Args → (arguments : List Argument) → (rest : Args) → Type 0 where
  no_more : {arguments : List Argument} {rest : Args} → AreArguments s f arguments rest arguments rest
  then_plain : {before arguments : List Argument} {x : Tree} {xs rest : Args} {a : Argument}
      → IsPlain (inside s f before) (wanted f before) x a → AreArguments s f (before ++ a ∷ []) xs arguments rest → AreArguments s f before (plain x xs) arguments rest
  then_range : {before arguments : List Argument} {x y : Tree} {xs rest : Args} {a b : Shape}
      → HasShape s x a → HasShape s y b → AreArguments s f (before ++ range_argument (Some a) (Some b) ∷ []) xs arguments rest → AreArguments s f before (range x y xs) arguments rest
  then_lambda : {before arguments : List Argument} {role : Role} {p : List ℕ} {x : Tree} {xs rest : Args} {a : Shape}
      → wanted f before ≡ a_lambda role → HasShape (with_parameter s p role) x a → AreArguments s f (before ++ argument.Body a ∷ []) xs arguments rest → AreArguments s f before (lambda p x xs) arguments rest
  then_named : {before arguments : List Argument} {c : List ℕ} {at : Place} {x : Tree} {xs rest : Args} {a : Argument}
      → IsNamed (inside s f before) c (wanted f before) x a → AreArguments s f (before ++ a ∷ []) xs arguments rest → AreArguments s f before (named c at x xs) arguments rest

-- ---- expressions

-- the next argument is of a form that may stand where this is meant
abbrev pub may_stand : Wanted → Args → Bool
may_stand w none = true
may_stand an_interval (range x y xs) = true
may_stand w (range x y xs) = false
may_stand (a_lambda role) (lambda p x xs) = true
may_stand w (lambda p x xs) = false
may_stand nothing xs = false
may_stand w xs = true

-- an argument without a name is meant
abbrev pub is_unnamed : Wanted → Bool
is_unnamed a_given = false
is_unnamed (a_measure frames) = false
is_unnamed nothing = false
is_unnamed _ = true

mutual
  -- `Told s x r`: the same of the expression, or of a part of it at the point where that stands
  pub data Told : Scope → Tree → Refusal → Type 0 where
    told : {s : Scope} {t : Tree} {r : Refusal} → Tells s t r → Told s t r
    in_operand : {s : Scope} {h : Head} {op : UnOp} {dotted : Bool} {a : Tree} {r : Refusal} → Told s a r → Told s (unary h op dotted a) r
    in_left : {s : Scope} {h : Head} {op : BinOp} {dotted : Bool} {a b : Tree} {r : Refusal} → Told s a r → Told s (binary h op dotted a b) r
    in_right : {s : Scope} {h : Head} {op : BinOp} {dotted : Bool} {a b : Tree} {r : Refusal} → is_flipped s op dotted b ≡ false → Told s b r → Told s (binary h op dotted a b) r
    -- `transpose(B)` may stand there
    in_transposed : {s : Scope} {h : Head} {op : BinOp} {dotted : Bool} {a b : Tree} {r : Refusal} → is_flipped s op dotted b ≡ true → ToldCall s b r → Told s (binary h op dotted a b) r
    in_indexed : {s : Scope} {h : Head} {a i : Tree} {r : Refusal} → is_window s a ≡ false → Told s a r → Told s (index h a i) r
    in_index : {s : Scope} {h : Head} {a i : Tree} {r : Refusal} → is_window s a ≡ false → Told s i r → Told s (index h a i) r
    in_call : {s : Scope} {t : Tree} {r : Refusal} → ToldCall s t r → Told s t r
    by_call : {s : Scope} {h : Head} {name : List ℕ} {dotted : Bool} {xs : Args} {f : Function} {arguments : List Argument} {rule : Rule}
        → function_named dotted name ≡ Some f → AreArguments s f [] (tested_args f xs) arguments none → TellsCall s f dotted arguments rule → Told s (call h name dotted xs) (refusal h.at rule)

  -- the same of a call, but for the call itself
  pub data ToldCall : Scope → Tree → Refusal → Type 0 where
    -- no function has the name
    unknown_call : {s : Scope} {h : Head} {name : List ℕ} {dotted : Bool} {xs : Args} → function_named dotted name ≡ None → ToldCall s (call h name dotted xs) (refusal h.at UnknownCall)
    -- the function does not take so many arguments
    wrong_count : {s : Scope} {h : Head} {name : List ℕ} {dotted : Bool} {xs : Args} {f : Function}
        → function_named dotted name ≡ Some f → takes_count f (count_of xs) ≡ false → ToldCall s (call h name dotted xs) (refusal h.at WrongCount)
    in_argument : {s : Scope} {h : Head} {name : List ℕ} {dotted : Bool} {xs rest : Args} {f : Function} {before : List Argument} {r : Refusal}
        → function_named dotted name ≡ Some f → AreArguments s f [] (tested_args f xs) before rest → ToldNext s (inside s f before) h.at before (wanted f before) rest r
        → ToldCall s (call h name dotted xs) r

  -- `ToldNext s u at before w xs r`: the same of the next argument of a call at this place, where `w` is meant; its expression
  -- stands at `u`, but that of a range or a lambda as the call does
  pub data ToldNext : (s u : Scope) → (at : Place) → (before : List Argument) → Wanted → Args → Refusal → Type 0 where
    -- `:c`, which a frame before does not have
    unknown_key : {s u : Scope} {at : Place} {before : List Argument} {frames : List (List Name)} {h : Head} {c : List ℕ} {xs : Args}
        → list_all (has_column c) frames ≡ false → ToldNext s u at before (a_column frames) (plain (column h c) xs) (refusal h.at UnknownColumn)
    -- `x = sum(:c)`, the same
    unknown_measured : {s u : Scope} {at : Place} {before : List Argument} {frames : List (List Name)} {h g : Head} {name x c : List ℕ} {dotted : Bool} {place : Place} {rest xs : Args}
        → is_measure (call h name dotted (plain (column g c) rest)) ≡ true → list_all (has_column c) frames ≡ false
        → ToldNext s u at before (a_measure frames) (named x place (call h name dotted (plain (column g c) rest)) xs) (refusal g.at UnknownColumn)
    -- `:c`, `c = e` or `c = sum(:d)`, where an argument before has the name
    double_key : {s u : Scope} {at : Place} {before : List Argument} {frames : List (List Name)} {h : Head} {c : List ℕ} {xs : Args}
        → has c (names_among before) ≡ true → ToldNext s u at before (a_column frames) (plain (column h c) xs) (refusal h.at DoubleColumn)
    double_given : {s u : Scope} {at : Place} {before : List Argument} {c : List ℕ} {place : Place} {e : Tree} {xs : Args}
        → has c (names_among before) ≡ true → ToldNext s u at before a_given (named c place e xs) (refusal place DoubleColumn)
    double_measure : {s u : Scope} {at : Place} {before : List Argument} {frames : List (List Name)} {c : List ℕ} {place : Place} {e : Tree} {xs : Args}
        → has c (names_among before) ≡ true → ToldNext s u at before (a_measure frames) (named c place e xs) (refusal place DoubleColumn)
    -- `:c` where a text is meant
    column_for_text : {s u : Scope} {at : Place} {before : List Argument} {h : Head} {c : List ℕ} {xs : Args} → ToldNext s u at before a_text (plain (column h c) xs) (refusal h.at WrongType)
    -- `c = e` where no name is meant, and `e` fits
    name_not_meant : {s u : Scope} {at : Place} {before : List Argument} {w : Wanted} {c : List ℕ} {place : Place} {e : Tree} {xs : Args} {a : Shape}
        → is_unnamed w ≡ true → HasShape u e a → ToldNext s u at before w (named c place e xs) (refusal place WrongType)
    -- an argument of another form is meant, or none
    not_meant : {s u : Scope} {at : Place} {before : List Argument} {w : Wanted} {xs : Args} → may_stand w xs ≡ false → ToldNext s u at before w xs (refusal at WrongType)
    in_plain : {s u : Scope} {at : Place} {before : List Argument} {w : Wanted} {x : Tree} {xs : Args} {r : Refusal} → is_value w x ≡ true → Told u x r → ToldNext s u at before w (plain x xs) r
    in_from : {s u : Scope} {at : Place} {before : List Argument} {x y : Tree} {xs : Args} {r : Refusal} → Told s x r → ToldNext s u at before an_interval (range x y xs) r
    in_to : {s u : Scope} {at : Place} {before : List Argument} {x y : Tree} {xs : Args} {r : Refusal} → Told s y r → ToldNext s u at before an_interval (range x y xs) r
    in_lambda : {s u : Scope} {at : Place} {before : List Argument} {role : Role} {p : List ℕ} {x : Tree} {xs : Args} {r : Refusal} → Told (with_parameter s p role) x r → ToldNext s u at before (a_lambda role) (lambda p x xs) r
    in_named : {s u : Scope} {at : Place} {before : List Argument} {w : Wanted} {c : List ℕ} {place : Place} {x : Tree} {xs : Args} {r : Refusal} → is_named_value w x ≡ true → Told u x r → ToldNext s u at before w (named c place x xs) r

-- ---- scripts

-- the same of the statement at a position, where `s` is known
pub data ToldAt : (b : Block) → Position b → Scope → Refusal → Type 0 where
  by_assign : {place : Place} {y : List ℕ} {e : Tree} {rest : Block} {s : Scope} {r : Refusal} → Told s e r → ToldAt (assign place y e rest) here s r
  -- the value has another type than the variable
  by_change : {place : Place} {y : List ℕ} {e : Tree} {rest : Block} {s : Scope} {first found : Shape}
      → shape_among s.vars y ≡ Some first → HasShape s e found → same_shape first found ≡ false → ToldAt (assign place y e rest) here s (refusal place TypeChanged)
  -- the value is of a type that is not printed, is no frame, or no truth value
  not_printed : {place : Place} {e : Tree} {rest : Block} {s : Scope} {a : Shape} → HasShape s e a → is_printed (Some a) ≡ false → ToldAt (print place e rest) here s (refusal place WrongType)
  not_exported : {place : Place} {e : Tree} {rest : Block} {s : Scope} {a : Shape} → HasShape s e a → is_frame (Some a) ≡ false → ToldAt (export place e rest) here s (refusal place WrongType)
  no_test_of_if : {place : Place} {c : Tree} {body other rest : Block} {s : Scope} {a : Shape}
      → HasShape s c a → is_test (Some a) ≡ false → ToldAt (choose place c body other rest) here s (refusal place WrongType)
  no_test_of_while : {place : Place} {c : Tree} {body rest : Block} {s : Scope} {a : Shape} → HasShape s c a → is_test (Some a) ≡ false → ToldAt (loop place c body rest) here s (refusal place WrongType)
  by_print : {place : Place} {e : Tree} {rest : Block} {s : Scope} {r : Refusal} → Told s e r → ToldAt (print place e rest) here s r
  by_export : {place : Place} {e : Tree} {rest : Block} {s : Scope} {r : Refusal} → Told s e r → ToldAt (export place e rest) here s r
  by_if : {place : Place} {c : Tree} {body other rest : Block} {s : Scope} {r : Refusal} → Told s c r → ToldAt (choose place c body other rest) here s r
  by_while : {place : Place} {c : Tree} {body rest : Block} {s : Scope} {r : Refusal} → Told s c r → ToldAt (loop place c body rest) here s r
  told_past_assign : {place : Place} {y : List ℕ} {e : Tree} {rest : Block} {p : Position rest} {s : Scope} {r : Refusal} → ToldAt rest p s r → ToldAt (assign place y e rest) (past_assign p) s r
  told_past_print : {place : Place} {e : Tree} {rest : Block} {p : Position rest} {s : Scope} {r : Refusal} → ToldAt rest p s r → ToldAt (print place e rest) (past_print p) s r
  told_past_export : {place : Place} {e : Tree} {rest : Block} {p : Position rest} {s : Scope} {r : Refusal} → ToldAt rest p s r → ToldAt (export place e rest) (past_export p) s r
  told_in_first : {place : Place} {c : Tree} {body other rest : Block} {p : Position body} {s : Scope} {r : Refusal} → ToldAt body p s r → ToldAt (choose place c body other rest) (in_first p) s r
  told_in_second : {place : Place} {c : Tree} {body other rest : Block} {p : Position other} {s : Scope} {r : Refusal} → ToldAt other p s r → ToldAt (choose place c body other rest) (in_second p) s r
  told_past_if : {place : Place} {c : Tree} {body other rest : Block} {p : Position rest} {s : Scope} {r : Refusal} → ToldAt rest p s r → ToldAt (choose place c body other rest) (past_if p) s r
  told_in_turn : {place : Place} {c : Tree} {body rest : Block} {p : Position body} {s : Scope} {r : Refusal} → ToldAt body p s r → ToldAt (loop place c body rest) (in_turn p) s r
  told_past_loop : {place : Place} {c : Tree} {body rest : Block} {p : Position rest} {s : Scope} {r : Refusal} → ToldAt rest p s r → ToldAt (loop place c body rest) (past_loop p) s r

-- what the refusal of a script tells, at the position of the statement, by what is known of names there
pub record IsTold (body : Block) (r : Refusal) : Type 0 where
  pub position : Position body
  pub known : Scope
  pub stands : IsScopeAt (start_of body) body position known
  pub tells : ToldAt body position known r

-- ---- worked rows

-- `println(y)`, where nothing assigns `y`
row_of_names : (at : Place) (h : Head) → IsTold (print at (variable h (codes "y")) done) (refusal h.at UnknownName)
unfolding assigned_in
row_of_names at h = record { position = here; known = start_of (print at (variable h (codes "y")) done); stands = at_here; tells = by_print (told (unknown_name a_variable refl refl)) }

-- `filter(d, m = :a)`, where `d` has the column: the name stands where a value is meant
row_of_masks : (s : Scope) (h g : Head) (d : Tree) (place : Place) (columns : List Name) → IsOutside s → HasShape s d (Frame columns) → has_column (codes "a") columns ≡ true
    → Told s (call h (codes "filter") false (plain d (named (codes "m") place (column g (codes "a")) none))) (refusal place WrongType)
unfolding function_named scalar_named fold_named array_named frame_named wanted inside
row_of_masks s h g d place columns out frame known =
    in_call (in_argument {f = function.Filter} refl (then_plain (by_value refl frame) no_more) (name_not_meant refl (of_column out refl known)))
