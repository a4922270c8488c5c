-- Calls whose arguments are alike under two lists of orders are alike.
use Rattle.std.proofs.Common.{◌≡◌, ℕ, Bool, true, false, cond, List, [], ◌∷◌, map, ℤ, Option, Some, None, refl, sym, ap}
use Rattle.std.specs.Option.{option_map}
use Rattle.hp_word.specs.declared.place.Place.{Place}
use Rattle.hp_script.specs.declared.function.Function.{Function}
use Rattle.hp_script.specs.declared.function.Function.TheVariants as functions
use Rattle.hp_script.specs.Mirror.{Head, Tree}
use Rattle.hp_meaning.specs.declared.seen.Seen.{Seen}
use Rattle.hp_meaning.specs.declared.value.Column.{Column}
use Rattle.hp_meaning.specs.declared.value.Value.{Value}
use Rattle.hp_meaning.specs.FrameRules.{Measured, framed, filtered, sorted_value, rows_value, tabled}
use Rattle.hp_meaning.specs.LambdaRules.{mapped, stencilled}
use Rattle.hp_meaning.specs.ListRules.{filled, collected, concatenated, length_value, folded, counted, summed}
use Rattle.hp_meaning.specs.MatrixRules.{stacked, row_value}
use Rattle.hp_meaning.specs.Operands.{as_frame, as_numbers}
use Rattle.hp_meaning.specs.OrderLaws.{takes_order}
use Rattle.hp_meaning.specs.Outcomes.{Answer, Outcome, Is, Wrong, followed, ended}
use Rattle.hp_meaning.specs.ReadCalls.{table_for}
use Rattle.hp_meaning.specs.Scopes.{Scope, within}
use Rattle.hp_meaning.specs.ValueOf.{Meaning, Part, Plain, Range, Lambda, Named, column_name, is_text, one, two, ends, with_lambda, rows_among, columns_among, Written, Alone, Under, Otherwise, as_written, names_in, measures_in, table_read, filter_call, join_call, grouped_by, aggregate_call, sort_call, called_as, called}
use Rattle.hp_meaning.specs.WordRules.{scalar_value}
use Rattle.hp_meaning.proofs.Executing.{stays}
use Rattle.hp_meaning.proofs.OrdersAlike.{Twins, left, right, Alike, is, wrong, alike_more, followed_alike, needed_alike, ended_alike, Busy, joined_alike, grouped_alike}

-- ---- meanings and arguments

-- what an expression means under the one and under the other orders
pub record Same (t : Twins) (m k : Meaning) : Type 0 where
  pub alike : (s : Scope) (n : Seen) → Alike t 0 n Value (m s n) (k s n)

pub data SameParts (t : Twins) : List Part → List Part → Type 0 where
  no_parts : SameParts t [] []
  a_plain : {x : Tree} {m k : Meaning} {ps qs : List Part} → Same t m k → SameParts t ps qs → SameParts t (Plain x m ∷ ps) (Plain x k ∷ qs)
  a_range : {m k u v : Meaning} {ps qs : List Part} → Same t m k → Same t u v → SameParts t ps qs → SameParts t (Range m u ∷ ps) (Range k v ∷ qs)
  a_lambda : {p : List ℕ} {x : Tree} {ps qs : List Part} → SameParts t ps qs → SameParts t (Lambda p x ∷ ps) (Lambda p x ∷ qs)
  a_named : {name : List ℕ} {x : Tree} {m k : Meaning} {ps qs : List Part} → Same t m k → SameParts t ps qs → SameParts t (Named name x m ∷ ps) (Named name x k ∷ qs)

-- a value that both have, whatever is behind it
pub same_value : {t : Twins} {A : Type 0} (a : A) (n : Seen) → Alike t 0 n A (Is a n) (Is a n)
same_value {t = t} a n = is (stays t.free 0 n) (λ h. refl)

pub alike_if : {t : Twins} {more : ℕ} {n : Seen} {A : Type 0} (holds : Bool) {o p q r : Outcome A} → Alike t more n A o p → Alike t more n A q r → Alike t more n A (cond holds o q) (cond holds p r)
alike_if true h k = h
alike_if false h k = k

-- ---- by how many arguments have values

pub both_alike : {t : Twins} {m k u v : Meaning} (s : Scope) (n : Seen) (rule : Value → Value → Answer Value) → Same t m k → Same t u v
    → Alike t 0 n Value (followed (m s n) (λ a n. followed (u s n) (λ b. ended (rule a b)))) (followed (k s n) (λ a n. followed (v s n) (λ b. ended (rule a b))))
both_alike s n rule x y = followed_alike _ _ (x.alike s n) (λ a n. followed_alike _ _ (y.alike s n) (λ b n. ended_alike (rule a b) n))

one_alike : {t : Twins} {ps qs : List Part} (s : Scope) (n : Seen) (rule : Value → Answer Value) → SameParts t ps qs → Alike t 0 n Value (one ps s n rule) (one qs s n rule)
unfolding one
one_alike s n rule (a_plain x no_parts) = followed_alike _ _ (x.alike s n) (λ a n. ended_alike (rule a) n)
one_alike s n rule _ = wrong

two_alike : {t : Twins} {ps qs : List Part} (s : Scope) (n : Seen) (rule : Value → Value → Answer Value) → SameParts t ps qs → Alike t 0 n Value (two ps s n rule) (two qs s n rule)
unfolding two
two_alike s n rule (a_plain x (a_plain y no_parts)) = both_alike s n rule x y
two_alike s n rule _ = wrong

ends_alike : {t : Twins} {ps qs : List Part} (s : Scope) (n : Seen) (rule : Value → Value → Answer Value) → SameParts t ps qs → Alike t 0 n Value (ends ps s n rule) (ends qs s n rule)
unfolding ends
ends_alike s n rule (a_range x y no_parts) = both_alike s n rule x y
ends_alike s n rule _ = wrong

lambda_alike : {t : Twins} {ps qs : List Part} (s : Scope) (n : Seen) (rule : List ℕ → Tree → Value → Answer Value) → SameParts t ps qs → Alike t 0 n Value (with_lambda ps s n rule) (with_lambda qs s n rule)
unfolding with_lambda
lambda_alike s n rule (a_lambda {p = p} {x = body} (a_plain x no_parts)) = followed_alike _ _ (x.alike s n) (λ a n. ended_alike (rule p body a) n)
lambda_alike s n rule _ = wrong

rows_alike : {t : Twins} {ps qs : List Part} (s : Scope) (n : Seen) → SameParts t ps qs → Alike t 0 n (List (List ℤ)) (rows_among ps s n) (rows_among qs s n)
unfolding rows_among
rows_alike s n no_parts = same_value [] n
rows_alike s n (a_plain x rest) =
    followed_alike _ _ (x.alike s n) (λ a n. needed_alike (as_numbers a) (λ xs. followed_alike _ _ (rows_alike s n rest) (λ xss n. same_value (xs ∷ xss) n)))
rows_alike s n _ = wrong

columns_alike : {t : Twins} {ps qs : List Part} (s : Scope) (n : Seen) → SameParts t ps qs → Alike t 0 n (List Column) (columns_among ps s n) (columns_among qs s n)
unfolding columns_among
columns_alike s n no_parts = same_value [] n
columns_alike s n (a_named x rest) =
    followed_alike _ _ (x.alike s n) (λ a n. needed_alike (as_numbers a) (λ xs. followed_alike _ _ (columns_alike s n rest) (λ columns n. same_value _ n)))
columns_alike s n _ = wrong

-- ---- the arguments as they are written

same_written : {t : Twins} {ps qs : List Part} → SameParts t ps qs → map as_written ps ≡ map as_written qs
same_written no_parts = refl
same_written (a_plain {x = x} h rest) = ap (λ more. Alone x ∷ more) (same_written rest)
same_written (a_range h k rest) = ap (λ more. Otherwise ∷ more) (same_written rest)
same_written (a_lambda rest) = ap (λ more. Otherwise ∷ more) (same_written rest)
same_written (a_named {name = name} {x = x} h rest) = ap (λ more. Under name x ∷ more) (same_written rest)

-- ---- calls with arguments of their own

answers_alike : {t : Twins} {A B : Type 0} (found other : Option A) (rule : A → Answer B) (n : Seen) → found ≡ other
    → Alike t 0 n B (elim found as (λ _. Outcome B) [ None ↦ Wrong | Some a ↦ ended (rule a) n ]) (elim other as (λ _. Outcome B) [ None ↦ Wrong | Some a ↦ ended (rule a) n ])
answers_alike None other rule n e = wrong
answers_alike (Some a) other rule n e = rw (sym e) (ended_alike (rule a) n)

table_alike : (t : Twins) {ps qs : List Part} (id : ℕ) (n : Seen) → SameParts t ps qs → Alike t 0 n Value (table_read (left t) id ps n) (table_read (right t) id qs n)
unfolding table_read
table_alike t id n (a_plain h no_parts) = wrong
table_alike t id n (a_plain {x = x} h rest) = alike_if (is_text x) (answers_alike _ _ (λ names. tabled names (table_for t.reads id t.tables)) n (ap names_in (same_written rest))) wrong
table_alike t id n _ = wrong

filter_alike : {t : Twins} {ps qs : List Part} (at : Place) (s : Scope) (n : Seen) → SameParts t ps qs → Alike t 0 n Value (filter_call at ps s n) (filter_call at qs s n)
unfolding filter_call
filter_alike at s n (a_plain x (a_plain mask no_parts)) =
    followed_alike _ _ (x.alike s n) (λ a n. needed_alike (as_frame a) (λ columns. followed_alike _ _ (mask.alike (within columns s) n) (λ b n. ended_alike (filtered at columns b) n)))
filter_alike at s n _ = wrong

-- by a column that an argument may name
named_alike : {t : Twins} {more : ℕ} {n : Seen} (found : Option (List ℕ)) (f g : List ℕ → Outcome Value) → ((name : List ℕ) → Alike t more n Value (f name) (g name))
    → Alike t more n Value (elim found as (λ _. Outcome Value) [ None ↦ Wrong | Some name ↦ f name ]) (elim found as (λ _. Outcome Value) [ None ↦ Wrong | Some name ↦ g name ])
named_alike None f g next = wrong
named_alike (Some name) f g next = next name

join_alike : (t : Twins) {ps qs : List Part} (at : Place) (s : Scope) (n : Seen) → Busy t → SameParts t ps qs → Alike t 1 n Value (join_call (left t) at ps s n) (join_call (right t) at qs s n)
unfolding join_call
join_alike t at s n busy (a_plain x (a_plain y (a_plain {x = z} h no_parts))) =
    named_alike (column_name z) _ _ (λ key. followed_alike _ _ (x.alike s n) (λ a n. followed_alike _ _ (y.alike s n) (λ b n. joined_alike t at key a b n busy)))
join_alike t at s n busy _ = wrong

grouped_by_alike : (t : Twins) {n : Seen} {o p : Outcome Value} (key : Option (List ℕ)) (found : Option (List Measured)) → Busy t → Alike t 0 n Value o p
    → Alike t 1 n Value (grouped_by (left t) key found o) (grouped_by (right t) key found p)
grouped_by_alike t (Some key) (Some (m ∷ ms)) busy first = followed_alike _ _ first (λ a n. grouped_alike t key (m ∷ ms) a n busy)
grouped_by_alike t _ _ busy first = wrong

aggregate_alike : (t : Twins) {ps qs : List Part} (s : Scope) (n : Seen) → Busy t → SameParts t ps qs → Alike t 1 n Value (aggregate_call (left t) ps s n) (aggregate_call (right t) qs s n)
unfolding aggregate_call
aggregate_alike t s n busy (a_plain x (a_plain {x = y} h rest)) = rw (ap measures_in (same_written rest)) (grouped_by_alike t (column_name y) _ busy (x.alike s n))
aggregate_alike t s n busy _ = wrong

sort_alike : {t : Twins} {ps qs : List Part} (s : Scope) (n : Seen) → SameParts t ps qs → Alike t 0 n Value (sort_call ps s n) (sort_call qs s n)
unfolding sort_call
sort_alike s n (a_plain x (a_plain {x = y} h no_parts)) = named_alike (column_name y) _ _ (λ key. followed_alike _ _ (x.alike s n) (λ a n. ended_alike (sorted_value key a) n))
sort_alike s n _ = wrong

-- ---- calls

busy_by : (t : Twins) {found : Bool} → found ≡ true → (t.free ≡ true → found ≡ false) → Busy t
busy_by t e without free = let other = without free in absurd cc

called_as_alike : (t : Twins) {ps qs : List Part} (f : Function) (h : Head) (dotted : Bool) (s : Scope) (n : Seen) → (t.free ≡ true → takes_order (Some f) ≡ false) → SameParts t ps qs
    → Alike t 1 n Value (called_as (left t) f h dotted ps s n) (called_as (right t) f h dotted qs s n)
unfolding called_as
called_as_alike t (functions.Scalar f) h dotted s n without xs = alike_more 1 (two_alike s n (scalar_value f dotted h.at) xs)
called_as_alike t (functions.Fold kind) h dotted s n without xs = alike_more 1 (one_alike s n (folded kind h.at) xs)
called_as_alike t functions.Count h dotted s n without xs = alike_more 1 (one_alike s n counted xs)
called_as_alike t functions.Length h dotted s n without xs = alike_more 1 (one_alike s n length_value xs)
called_as_alike t functions.Fill h dotted s n without xs = alike_more 1 (two_alike s n (filled h.at) xs)
called_as_alike t functions.Collect h dotted s n without xs = alike_more 1 (ends_alike s n (collected h.at) xs)
called_as_alike t functions.Cumsum h dotted s n without xs = alike_more 1 (one_alike s n summed xs)
called_as_alike t functions.Map h dotted s n without xs = alike_more 1 (lambda_alike s n (mapped s.vars) xs)
called_as_alike t functions.Stencil h dotted s n without xs = alike_more 1 (lambda_alike s n (stencilled s.vars) xs)
called_as_alike t functions.Vcat h dotted s n without xs = alike_more 1 (two_alike s n (concatenated h.at) xs)
called_as_alike t functions.DataFrame h dotted s n without xs = alike_more 1 (followed_alike _ _ (columns_alike s n xs) (λ columns n. ended_alike (framed h.at columns) n))
called_as_alike t functions.ReadCsv h dotted s n without xs = alike_more 1 (table_alike t h.id n xs)
called_as_alike t functions.Nrow h dotted s n without xs = alike_more 1 (one_alike s n rows_value xs)
called_as_alike t functions.Filter h dotted s n without xs = alike_more 1 (filter_alike h.at s n xs)
called_as_alike t functions.Join h dotted s n without xs = join_alike t h.at s n (busy_by t refl without) xs
called_as_alike t functions.Aggregate h dotted s n without xs = aggregate_alike t s n (busy_by t refl without) xs
called_as_alike t functions.Sort h dotted s n without xs = alike_more 1 (sort_alike s n xs)
called_as_alike t functions.Stack h dotted s n without xs = alike_more 1 (followed_alike _ _ (rows_alike s n xs) (λ rows n. ended_alike (stacked h.at rows) n))
called_as_alike t functions.Row h dotted s n without xs = alike_more 1 (two_alike s n (row_value h.at) xs)
called_as_alike t functions.Transpose h dotted s n without xs = wrong

pub called_alike : (t : Twins) {ps qs : List Part} (found : Option Function) (h : Head) (dotted : Bool) (s : Scope) (n : Seen) → (t.free ≡ true → takes_order found ≡ false) → SameParts t ps qs
    → Alike t 1 n Value (called (left t) found h dotted ps s n) (called (right t) found h dotted qs s n)
called_alike t (Some f) h dotted s n without xs = called_as_alike t f h dotted s n without xs
called_alike t None h dotted s n without xs = wrong
