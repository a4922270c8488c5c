-- The trees of the forms that are built, by their parts.
use Rattle.std.proofs.Common.{◌≡◌, ℕ, ℤ, List, Bool, true, false, cond, Option, Some, None, refl, ap, ◌∙◌}
use Rattle.std.specs.Prelude.{codes, bytes_eq}
use Rattle.std.specs.Option.{option_map, option_and_then}
use Rattle.std.proofs.lemmas.Slice.Eq.{bytes_eq-Decides}
use Rattle.hp_word.specs.declared.place.Place.{Place}
use Rattle.hp_script.specs.declared.tree.BinOp.{BinOp}
use Rattle.hp_script.specs.declared.tree.BinOp.TheVariants.{Add}
use Rattle.hp_script.specs.Mirror.{Head, Tree, Args, number, truth, text, variable, column, field, unary, binary, index, call, none, plain, range, lambda, named}
use Rattle.hp_meaning.specs.ArgumentShapes.{first_plain, last_plain, one_plain, two_plain}
use Rattle.hp_meaning.specs.Forms.{◌>>=◌, is_add, number_of, variable_of, plain_call, call_named, dotted_sum, fill_call, sum_call, added_name}

-- ---- options

pub bind_some : {A B : Type 0} (r : Option A) (f : A → Option B) (y : B) → (r >>= f) ≡ Some y → (x : A) × (r ≡ Some x) × (f x ≡ Some y)
bind_some (Some x) f y e = (x, refl, e)
bind_some None f y e = absurd cc

then_some : {A B : Type 0} (f : A → Option B) (r : Option A) (y : B) → option_and_then f r ≡ Some y → (x : A) × (r ≡ Some x) × (f x ≡ Some y)
then_some f (Some x) y e = (x, refl, e)
then_some f None y e = absurd cc

pub map_some : {A B : Type 0} (f : A → B) (r : Option A) (y : B) → option_map f r ≡ Some y → (x : A) × (r ≡ Some x) × (f x ≡ y)
map_some f (Some x) y e = let same : Some (f x) ≡ Some y = e in (x, refl, cc)
map_some f None y e = absurd cc

cond_some : {A : Type 0} (b : Bool) (x y : A) → cond b (Some x) None ≡ Some y → (b ≡ true) × (x ≡ y)
cond_some true x y e = (refl, cc)
cond_some false x y e = absurd cc

-- ---- arguments

first_parts : (args : Args) (x : Tree) (rest : Args) → first_plain args ≡ Some (x, rest) → args ≡ plain x rest
first_parts none x rest e = absurd cc
first_parts (plain y more) x rest e =
    let same : (y, more) ≡ (x, rest) = let whole : Some (y, more) ≡ Some (x, rest) = e in cc in
    ap (λ (p : Tree × Args). plain p.0 p.1) same
first_parts (range y z more) x rest e = absurd cc
first_parts (lambda parameter y more) x rest e = absurd cc
first_parts (named name at y more) x rest e = absurd cc

last_parts : (x : Tree) (rest : Args) (y : Tree) → last_plain (x, rest) ≡ Some y → (rest ≡ none) × (x ≡ y)
last_parts x none y e = (refl, cc)
last_parts x (plain z more) y e = absurd cc
last_parts x (range z w more) y e = absurd cc
last_parts x (lambda parameter z more) y e = absurd cc
last_parts x (named name at z more) y e = absurd cc

one_parts : (args : Args) (x : Tree) → one_plain args ≡ Some x → args ≡ plain x none
unfolding one_plain
one_parts args x e =
    let first = then_some last_plain (first_plain args) x e in
    let last = last_parts first.0.0 first.0.1 x first.2 in
    first_parts args first.0.0 first.0.1 first.1 ∙ ap (plain first.0.0) last.0 ∙ ap (λ t. plain t none) last.1

two_parts : (args : Args) (both : Tree × Tree) → two_plain args ≡ Some both → args ≡ plain both.0 (plain both.1 none)
unfolding two_plain
two_parts args both e =
    let first = then_some (λ f. option_map (λ s. (f.0, s)) (one_plain f.1)) (first_plain args) both e in
    let second = map_some (λ s. (first.0.0, s)) (one_plain first.0.1) both first.2 in
    first_parts args first.0.0 first.0.1 first.1 ∙ ap (plain first.0.0) (one_parts first.0.1 second.0 second.1)
    ∙ ap (λ (p : Tree × Tree). plain p.0 (plain p.1 none)) second.2

-- ---- calls and sums

-- a call of this function, with these arguments, at this place
record IsCall (name : List ℕ) (tree : Tree) (x : Place × Args) : Type 0 where
  pub head : Head
  pub is : tree ≡ call head name false x.1
  pub place : head.at ≡ x.0

named_call : (name : List ℕ) (h : Head) (function : List ℕ) (args : Args) (x : Place × Args) → call_named name (Some (h.at, function, args)) ≡ Some x → IsCall name (call h function false args) x
named_call name h function args x e =
    let found = cond_some (bytes_eq function name) (h.at, args) x e in
    let same : function ≡ name = (bytes_eq-Decides function name).0 found.0 in
    record { head = h; is = ap (λ f. call h f false args) same ∙ ap (λ (p : Place × Args). call h name false p.1) found.1; place = ap (λ p. p.0) found.1 }

call_parts : (name : List ℕ) (tree : Tree) (x : Place × Args) → call_named name (plain_call tree) ≡ Some x → IsCall name tree x
unfolding plain_call
call_parts name (call h function false args) x e = named_call name h function args x e
call_parts name (call h function true args) x e = absurd cc
call_parts name (number h value) x e = absurd cc
call_parts name (truth h holds) x e = absurd cc
call_parts name (text h bytes) x e = absurd cc
call_parts name (variable h bytes) x e = absurd cc
call_parts name (column h bytes) x e = absurd cc
call_parts name (field h bytes of_it) x e = absurd cc
call_parts name (unary h op dotted y) x e = absurd cc
call_parts name (binary h op dotted y z) x e = absurd cc
call_parts name (index h y i) x e = absurd cc

-- a sum of elements, of these operands, at this place
record IsSum (tree : Tree) (x : Place × Tree × Tree) : Type 0 where
  pub head : Head
  pub is : tree ≡ binary head Add true x.1 x.2
  pub place : head.at ≡ x.0

added_sum : (h : Head) (op : BinOp) (left right : Tree) (x : Place × Tree × Tree) → cond (is_add op) (Some (h.at, left, right)) None ≡ Some x → IsSum (binary h op true left right) x
added_sum h Add left right x e =
    let same : (h.at, left, right) ≡ x = cc in
    record { head = h; is = ap (λ (p : Place × Tree × Tree). binary h Add true p.1 p.2) same; place = ap (λ p. p.0) same }
added_sum h _ left right x e = absurd cc

sum_parts : (tree : Tree) (x : Place × Tree × Tree) → dotted_sum tree ≡ Some x → IsSum tree x
unfolding dotted_sum
sum_parts (binary h op true left right) x e = added_sum h op left right x e
sum_parts (binary h op false left right) x e = absurd cc
sum_parts (call h function dotted args) x e = absurd cc
sum_parts (number h value) x e = absurd cc
sum_parts (truth h holds) x e = absurd cc
sum_parts (text h bytes) x e = absurd cc
sum_parts (variable h bytes) x e = absurd cc
sum_parts (column h bytes) x e = absurd cc
sum_parts (field h bytes of_it) x e = absurd cc
sum_parts (unary h op dotted y) x e = absurd cc
sum_parts (index h y i) x e = absurd cc

-- ---- operands

pub number_parts : (tree : Tree) (z : ℤ) → number_of tree ≡ Some z → (h : Head) × (tree ≡ number h z)
unfolding number_of
number_parts (number h value) z e = let same : Some value ≡ Some z = e in (h, cc)
number_parts (truth h holds) z e = absurd cc
number_parts (text h bytes) z e = absurd cc
number_parts (variable h bytes) z e = absurd cc
number_parts (column h bytes) z e = absurd cc
number_parts (field h bytes of_it) z e = absurd cc
number_parts (unary h op dotted y) z e = absurd cc
number_parts (binary h op dotted y w) z e = absurd cc
number_parts (index h y i) z e = absurd cc
number_parts (call h function dotted args) z e = absurd cc

pub variable_parts : (tree : Tree) (name : List ℕ) → variable_of tree ≡ Some name → (h : Head) × (tree ≡ variable h name)
unfolding variable_of
variable_parts (variable h bytes) name e = let same : Some bytes ≡ Some name = e in (h, cc)
variable_parts (number h value) name e = absurd cc
variable_parts (truth h holds) name e = absurd cc
variable_parts (text h bytes) name e = absurd cc
variable_parts (column h bytes) name e = absurd cc
variable_parts (field h bytes of_it) name e = absurd cc
variable_parts (unary h op dotted y) name e = absurd cc
variable_parts (binary h op dotted y w) name e = absurd cc
variable_parts (index h y i) name e = absurd cc
variable_parts (call h function dotted args) name e = absurd cc

-- ---- the forms

-- a call `fill(NUMBER, NUMBER)`: its head and its arguments
pub record IsFill (tree : Tree) (x : Place × ℤ × ℤ) : Type 0 where
  pub head : Head
  pub first : Tree
  pub second : Tree
  pub is : tree ≡ call head (codes "fill") false (plain first (plain second none))
  pub place : head.at ≡ x.0
  pub element : number_of first ≡ Some x.1
  pub count : number_of second ≡ Some x.2

two_numbers : (at : Place) (a b : Tree) (x : Place × ℤ × ℤ) → (number_of a >>= λ v. number_of b >>= λ c. Some (at, v, c)) ≡ Some x
    → (at ≡ x.0) × (number_of a ≡ Some x.1) × (number_of b ≡ Some x.2)
two_numbers at a b x e =
    let first = bind_some (number_of a) (λ v. number_of b >>= λ c. Some (at, v, c)) x e in
    let second = bind_some (number_of b) (λ c. Some (at, first.0, c)) x first.2 in
    let same : (at, first.0, second.0) ≡ x = let whole : Some (at, first.0, second.0) ≡ Some x = second.2 in cc in
    (ap (λ p. p.0) same, first.1 ∙ ap (λ p. Some p.1) same, second.1 ∙ ap (λ p. Some p.2) same)

fill_of : (tree : Tree) (asked : Place × Args) (both : Tree × Tree) (x : Place × ℤ × ℤ) → IsCall (codes "fill") tree asked → asked.1 ≡ plain both.0 (plain both.1 none)
    → (number_of both.0 >>= λ v. number_of both.1 >>= λ c. Some (asked.0, v, c)) ≡ Some x → IsFill tree x
fill_of tree asked both x c args e =
    let found = two_numbers asked.0 both.0 both.1 x e in
    record {
      head = c.head;
      first = both.0;
      second = both.1;
      is = c.is ∙ ap (call c.head (codes "fill") false) args;
      place = c.place ∙ found.0;
      element = found.1;
      count = found.2;
    }

pub fill_parts : (tree : Tree) (x : Place × ℤ × ℤ) → fill_call tree ≡ Some x → IsFill tree x
unfolding fill_call
fill_parts tree x e =
    let asked = bind_some (call_named (codes "fill") (plain_call tree)) (λ a. two_plain a.1 >>= λ both. number_of both.0 >>= λ v. number_of both.1 >>= λ c. Some (a.0, v, c)) x e in
    let both = bind_some (two_plain asked.0.1) (λ both. number_of both.0 >>= λ v. number_of both.1 >>= λ c. Some (asked.0.0, v, c)) x asked.2 in
    fill_of tree asked.0 both.0 x (call_parts (codes "fill") tree asked.0 asked.1) (two_parts asked.0.1 both.0 both.1) both.2

-- a call `sum(NAME)`: its head and its argument
pub record IsSumCall (tree : Tree) (name : List ℕ) : Type 0 where
  pub head : Head
  pub only : Tree
  pub is : tree ≡ call head (codes "sum") false (plain only none)
  pub element : variable_of only ≡ Some name

pub sum_call_parts : (tree : Tree) (name : List ℕ) → sum_call tree ≡ Some name → IsSumCall tree name
unfolding sum_call
sum_call_parts tree name e =
    let asked = bind_some (call_named (codes "sum") (plain_call tree)) (λ a. one_plain a.1 >>= variable_of) name e in
    let only = bind_some (one_plain asked.0.1) variable_of name asked.2 in
    let c = call_parts (codes "sum") tree asked.0 asked.1 in
    record { head = c.head; only = only.0; is = c.is ∙ ap (call c.head (codes "sum") false) (one_parts asked.0.1 only.0 only.1); element = only.2 }

-- a sum of elements whose first side is a name
pub record IsAdded (tree : Tree) (x : Place × List ℕ × Tree) : Type 0 where
  pub head : Head
  pub left : Tree
  pub is : tree ≡ binary head Add true left x.2
  pub place : head.at ≡ x.0
  pub first : variable_of left ≡ Some x.1

pub added_parts : (tree : Tree) (x : Place × List ℕ × Tree) → added_name tree ≡ Some x → IsAdded tree x
unfolding added_name
added_parts tree x e =
    let both = bind_some (dotted_sum tree) (λ both. variable_of both.1 >>= λ left. Some (both.0, left, both.2)) x e in
    let left = bind_some (variable_of both.0.1) (λ left. Some (both.0.0, left, both.0.2)) x both.2 in
    let same : (both.0.0, left.0, both.0.2) ≡ x = let whole : Some (both.0.0, left.0, both.0.2) ≡ Some x = left.2 in cc in
    let s = sum_parts tree both.0 both.1 in
    record {
      head = s.head;
      left = both.0.1;
      is = s.is ∙ ap (λ (p : Place × List ℕ × Tree). binary s.head Add true both.0.1 p.2) same;
      place = s.place ∙ ap (λ p. p.0) same;
      first = left.1 ∙ ap (λ p. Some p.1) same;
    }
