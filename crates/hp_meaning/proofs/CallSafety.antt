-- Calls of functions of values are safe where their arguments are.
use Rattle.std.proofs.Common.{◌≡◌, ℕ, ℤ, List, [], ◌∷◌, ◌++◌, length, Option, Some, refl, subst}
use Rattle.std.specs.List.{range_with_len}
use Rattle.hp_word.specs.declared.place.Place.{Place}
use Rattle.hp_script.specs.declared.argument.Argument.{Argument}
use Rattle.hp_script.specs.declared.argument.Argument.TheVariants as argument
use Rattle.hp_script.specs.declared.function.Function.{Function}
use Rattle.hp_script.specs.declared.function.Function.TheVariants as function
use Rattle.hp_script.specs.declared.typed.Shape.{Shape}
use Rattle.hp_script.specs.declared.typed.Shape.TheVariants as shape
use Rattle.hp_script.specs.Results.{one_value, two_values, collect_result, map_result, stencil_result, array_of}
use Rattle.hp_script.specs.Scope.{Role, element, window, Scope, with_parameter}
use Rattle.hp_script.specs.Typing.{a_lambda, wanted, inside}
use Rattle.hp_script.specs.Mirror.{Tree}
use Rattle.hp_meaning.specs.declared.value.Kind.{Kind}
use Rattle.hp_meaning.specs.declared.value.Kind.TheVariants.{Number, Truth}
use Rattle.hp_meaning.specs.declared.value.Value.{Value}
use Rattle.hp_meaning.specs.declared.value.Value.TheVariants.{List as Listed}
use Rattle.hp_meaning.specs.declared.value.Var.{Var}
use Rattle.hp_meaning.specs.Fitting.{HasShape, a_number, a_truth, numbers, truths, Keeps}
use Rattle.hp_meaning.specs.LambdaRules.{Element, Around, scalar, kind_of, mapped_words, mapped, stencil_words, stencilled, word_in, number_in}
use Rattle.hp_meaning.specs.LambdaRules as lambdas
use Rattle.hp_meaning.specs.ListRules.{collected}
use Rattle.hp_meaning.specs.Outcomes.{Answer, also, followed, ended}
use Rattle.hp_meaning.specs.ValueOf.{Meaning, Part, Lambda, one, two, ends, with_lambda}
use Rattle.hp_meaning.specs.WordRules.{listed}
use Rattle.hp_meaning.proofs.Bodies.{Sees, sees_number, sees_truth, sees_place, Of, numbers as of_numbers, truths as of_truths, KindAs, a_kind_of_number, a_kind_of_truth}
use Rattle.hp_meaning.proofs.Fine.{Right, gives, traps, Told, all_told, followed_fine, ended_fine, RightAs, so, right_of}
use Rattle.hp_meaning.proofs.FineLists.{collect_right}
use Rattle.hp_meaning.proofs.FineWords.{word_shape, list_shape, listed_right, OfKind, AllOf, mapped_of}
use Rattle.hp_meaning.proofs.Parts.{Makes, Accords, a_value, an_interval, a_body, a_misfit, Agree, end, more}
use Rattle.hp_meaning.proofs.Safe.{Safe, SafeAs, safe, untyped, then_one, then_two}

-- ---- values

pub one_safe : {s : Scope} {f : Function} {later : List Argument} {parts : List Part} (result : Shape → Option Shape) (rule : Value → Answer Value)
    → ((before : List Argument) → inside s f before ≡ s) → ((k : Shape) (a : Value) → HasShape k a → RightAs (result k) (rule a)) → Agree s f [] later parts
    → SafeAs s (one_value result later) (λ v n. one parts v n rule)
unfolding one
one_safe {s} result rule same each (more (a_value {kind = k} {m = m} x) end) = then_one (result k) rule (subst (λ t. Safe t k m) (same []) x) (λ a h. each k a h)
one_safe result rule same each _ = untyped

pub two_safe : {s : Scope} {f : Function} {later : List Argument} {parts : List Part} (result : Shape → Shape → Option Shape) (rule : Value → Value → Answer Value)
    → ((before : List Argument) → inside s f before ≡ s) → ((ka kb : Shape) (a b : Value) → HasShape ka a → HasShape kb b → RightAs (result ka kb) (rule a b)) → Agree s f [] later parts
    → SafeAs s (two_values result later) (λ v n. two parts v n rule)
unfolding two
two_safe {s} result rule same each (more (a_value {kind = ka} {m = m} x) (more (a_value {kind = kb} {m = k} y) end)) =
    then_two (result ka kb) rule (subst (λ t. Safe t ka m) (same []) x) (subst (λ t. Safe t kb k) (same _) y) (λ a b ha hb. each ka kb a b ha hb)
two_safe result rule same each _ = untyped

pub collect_safe : {s : Scope} {f : Function} {later : List Argument} {parts : List Part} (at : Place) → Agree s f [] later parts → SafeAs s (collect_result later) (λ v n. ends parts v n (collected at))
unfolding ends
collect_safe at (more (an_interval x y) end) = then_two (Some shape.Ints) (collected at) x y (λ a b h k. so (collect_right at h k))
collect_safe at _ = untyped

-- ---- lambdas

keeps_inside : {s : Scope} {vars : List Var} (p : List ℕ) (role : Role) → Keeps s vars → Keeps (with_parameter s p role) vars
keeps_inside p role keeps = record { known = keeps.known }

word_told : {kind : Shape} {answer : Answer Value} (made : Kind) → kind ≡ word_shape made → Right Value (HasShape kind) answer → Right ℤ (OfKind made) (also answer word_in)
word_told made e traps = traps
word_told Number e (gives (a_number x)) = gives tt
word_told Truth e (gives (a_number x)) = absurd cc
word_told Number e (gives (a_truth x t)) = gives tt
word_told Truth e (gives (a_truth x t)) = gives t
word_told Number e (gives _) = absurd cc
word_told Truth e (gives _) = absurd cc

number_told : {answer : Answer Value} → Right Value (HasShape shape.Int) answer → Told ℤ (also answer number_in)
number_told traps = traps
number_told (gives (a_number x)) = gives tt

-- what a body makes of each element
mapped_told : {s : Scope} {p : List ℕ} {role : Role} {x : Tree} (made kind : Kind) (vars : List Var) (xs : List ℤ) → AllOf kind xs → ((z : ℤ) → OfKind kind z → Sees role (Element kind z)) → Keeps s vars
    → Makes s role p x (word_shape made) → Right (List ℤ) (AllOf made) (mapped_words vars p x kind xs)
unfolding mapped_words
mapped_told {p = p} {role = role} {x = x} made kind vars xs all sees keeps body =
    mapped_of kind made (λ z. also (scalar x (lambdas.inside p (Element kind z) vars)) word_in)
    (λ z h. word_told made refl (right_of (body.body.right (lambdas.inside p (Element kind z) vars) (record { same = refl; sees = sees z h; keeps = keeps_inside p role keeps })))) xs all

kind_known : {found : Option Shape} {kind : Kind} (made : Kind) → KindAs found kind → found ≡ Some (word_shape made) → kind ≡ made
kind_known Number a_kind_of_number e = refl
kind_known Truth a_kind_of_number e = absurd cc
kind_known Number a_kind_of_truth e = absurd cc
kind_known Truth a_kind_of_truth e = refl
kind_known made _ e = absurd cc

body_right : {s : Scope} {p : List ℕ} {role : Role} {x : Tree} (made kind : Kind) (vars : List Var) (xs : List ℤ) → AllOf kind xs → Of role kind → ((z : ℤ) → OfKind kind z → Sees role (Element kind z)) → Keeps s vars
    → Makes s role p x (word_shape made)
    → Right Value (HasShape (list_shape made)) (listed (kind_of x p kind vars) (mapped_words vars p x kind xs))
body_right {p = p} {role = role} made kind vars xs all of sees keeps body =
    rw (kind_known made (body.body.kind kind vars of (keeps_inside p role keeps)) refl) (listed_right made (mapped_told made kind vars xs all sees keeps body))

mapped_right : {s : Scope} {p : List ℕ} {role : Role} {x : Tree} {k : Shape} {a : Value} (made : Kind) (vars : List Var) → wanted function.Map (argument.Value k ∷ []) ≡ a_lambda role → Keeps s vars
    → Makes s role p x (word_shape made) → HasShape k a → Right Value (HasShape (list_shape made)) (mapped vars p x a)
unfolding wanted mapped
mapped_right {s} {p} {role} {x} made vars meant keeps body (numbers xs) =
    let same : element shape.Int ≡ role = cc in
    subst (λ r. Makes s r p x (word_shape made) → Right Value (HasShape (list_shape made)) (mapped vars p x (Listed Number xs))) same
    (λ body. body_right made Number vars xs tt of_numbers (λ z h. sees_number z) keeps body) body
mapped_right {s} {p} {role} {x} made vars meant keeps body (truths xs all) =
    let same : element shape.Bool ≡ role = cc in
    subst (λ r. Makes s r p x (word_shape made) → Right Value (HasShape (list_shape made)) (mapped vars p x (Listed Truth xs))) same
    (λ body. body_right made Truth vars xs all of_truths sees_truth keeps body) body
mapped_right made vars meant keeps body _ = absurd cc

made_safe : {s : Scope} {p : List ℕ} {x : Tree} {k : Shape} {m : Meaning} (made : Shape) (role : Role)
    → wanted function.Map (argument.Value k ∷ []) ≡ a_lambda role → Safe s k m
    → Makes s role p x made → SafeAs s (array_of made) (λ v n. followed (m v n) (λ a. ended (mapped v.vars p x a)))
made_safe shape.Int role meant y body = safe (record { fine = λ v n fit. followed_fine _ (y.fine v n fit) (λ a n h. ended_fine n (mapped_right Number v.vars meant fit.keeps body h)) })
made_safe shape.Bool role meant y body = safe (record { fine = λ v n fit. followed_fine _ (y.fine v n fit) (λ a n h. ended_fine n (mapped_right Truth v.vars meant fit.keeps body h)) })
made_safe _ role meant y body = untyped

-- the array behind the lambda
pub map_safe : {s : Scope} {behind : List Argument} {first : Argument} {part : Part} {parts : List Part} → Agree s function.Map [] behind parts → Accords (wanted function.Map behind) s s first part
    → SafeAs s (map_result (behind ++ first ∷ [])) (λ v n. with_lambda (part ∷ parts) v n (mapped v.vars))
unfolding with_lambda inside
map_safe (more (a_value y) end) (a_body {made = made} role meant body) = made_safe made role meant y body
map_safe (more (a_value y) end) _ = untyped
map_safe end a_misfit = untyped
map_safe end _ = untyped
map_safe (more (a_value y) (more (a_body role meant body) end)) first = untyped
map_safe (more (a_value y) (more (a_body role meant body) (more z rest))) first = untyped
map_safe (more (a_value y) (more _ rest)) first = untyped
map_safe (more _ rest) first = untyped

stencil_told : {s : Scope} {p : List ℕ} {x : Tree} (vars : List Var) (xs : List ℤ) → Keeps s vars → Makes s window p x shape.Int
    → Told (List ℤ) (stencil_words vars p x xs)
unfolding stencil_words
stencil_told {p = p} {x = x} vars xs keeps body =
    all_told (λ k. also (scalar x (lambdas.inside p (Around xs k) vars)) number_in)
    (λ k. number_told (right_of (body.body.right (lambdas.inside p (Around xs k) vars) (record { same = refl; sees = sees_place xs k; keeps = keeps_inside p window keeps })))) (range_with_len 0 (length xs))

stencil_right : {s : Scope} {p : List ℕ} {role : Role} {x : Tree} {a : Value} (vars : List Var) → window ≡ role → Keeps s vars → Makes s role p x shape.Int
    → HasShape shape.Ints a → Right Value (HasShape shape.Ints) (stencilled vars p x a)
unfolding stencilled
stencil_right {s} {p} {role} {x} vars same keeps body (numbers xs) =
    subst (λ r. Makes s r p x shape.Int → Right Value (HasShape shape.Ints) (listed Number (stencil_words vars p x xs))) same
    (λ body. listed_right Number (stencil_told vars xs keeps body)) body

stencil_behind : {s : Scope} {p : List ℕ} {x : Tree} {later : List Argument} {parts : List Part} (made : Shape) (role : Role) → window ≡ role → Makes s role p x made
    → Agree s function.Stencil (argument.Body made ∷ []) later parts → SafeAs s (stencil_result (argument.Body made ∷ later)) (λ v n. with_lambda (Lambda p x ∷ parts) v n (stencilled v.vars))
unfolding with_lambda inside
stencil_behind shape.Int role same body (more (a_value {kind = shape.Ints} y) end) = safe (record { fine = λ v n fit. followed_fine _ (y.fine v n fit) (λ a n h. ended_fine n (stencil_right v.vars same fit.keeps body h)) })
stencil_behind _ role same body _ = untyped

window_is : (role : Role) → a_lambda window ≡ a_lambda role → window ≡ role
window_is role e = cc

pub stencil_safe : {s : Scope} {later : List Argument} {parts : List Part} → Agree s function.Stencil [] later parts → SafeAs s (stencil_result later) (λ v n. with_lambda parts v n (stencilled v.vars))
unfolding with_lambda inside wanted
stencil_safe (more (a_body {made = made} role meant body) rest) = stencil_behind made role (window_is role meant) body rest
stencil_safe _ = untyped
