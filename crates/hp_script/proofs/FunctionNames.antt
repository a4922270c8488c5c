-- The function of a name tells the name, and what goes by names agrees with what goes by functions.
use Rattle.std.proofs.Common.{◌≡◌, ℕ, Bool, true, false, if◌then◌else◌, List, [], ◌∷◌, codes, bytes_eq, Option, Some, None, refl, sym, ap, ◌∙◌, subst}
use Rattle.std.specs.Option.{option_map, option_or}
use Rattle.hp_word.specs.declared.fold.FoldKind.{FoldKind}
use Rattle.hp_word.specs.declared.fold.FoldKind.TheVariants as fold
use Rattle.hp_script.specs.declared.function.ScalarFunction.{ScalarFunction}
use Rattle.hp_script.specs.declared.function.ScalarFunction.TheVariants as scalar
use Rattle.hp_script.specs.declared.function.Function.{Function}
use Rattle.hp_script.specs.declared.function.Function.TheVariants as function
use Rattle.hp_script.specs.Functions.{scalar_table, fold_table, array_table, frame_table, scalar_named, fold_named, array_named, frame_named, function_named}
use Rattle.hp_script.specs.Lexemes.{entry}
use Rattle.hp_script.specs.Valued.{takes_columns}
use Rattle.hp_script.proofs.TestLemmas.{same_bytes}

-- ---- by functions

-- the calls among whose arguments the name of a column has no value
abbrev pub has_columns : Function → Bool
has_columns function.ReadCsv = true
has_columns function.Join = true
has_columns function.Aggregate = true
has_columns function.Sort = true
has_columns _ = false

abbrev pub is_transpose : Function → Bool
is_transpose function.Transpose = true
is_transpose _ = false

abbrev pub is_stencil : Function → Bool
is_stencil function.Stencil = true
is_stencil _ = false

abbrev pub is_aggregate : Function → Bool
is_aggregate function.Aggregate = true
is_aggregate _ = false

-- a name and its function
pub record Tells (name : List ℕ) (f : Function) : Type 0 where
  pub columns : takes_columns name ≡ has_columns f
  pub transpose : bytes_eq name (codes "transpose") ≡ is_transpose f
  pub stencil : bytes_eq name (codes "stencil") ≡ is_stencil f
  pub aggregate : bytes_eq name (codes "aggregate") ≡ is_aggregate f

-- ---- names of functions

abbrev pub scalar_name : ScalarFunction → List ℕ
scalar_name scalar.Div = codes "div"
scalar_name scalar.Rem = codes "rem"
scalar_name scalar.Min = codes "min"
scalar_name scalar.Max = codes "max"

abbrev pub fold_name : FoldKind → List ℕ
fold_name fold.Sum = codes "sum"
fold_name fold.Prod = codes "prod"
fold_name fold.Min = codes "minimum"
fold_name fold.Max = codes "maximum"
fold_name fold.Any = codes "any"
fold_name fold.All = codes "all"

abbrev pub name_of : Function → List ℕ
name_of (function.Scalar f) = scalar_name f
name_of (function.Fold kind) = fold_name kind
name_of function.Count = codes "count"
name_of function.Length = codes "length"
name_of function.Fill = codes "fill"
name_of function.Collect = codes "collect"
name_of function.Cumsum = codes "cumsum"
name_of function.Map = codes "map"
name_of function.Stencil = codes "stencil"
name_of function.Vcat = codes "vcat"
name_of function.DataFrame = codes "DataFrame"
name_of function.ReadCsv = codes "read_csv"
name_of function.Nrow = codes "nrow"
name_of function.Filter = codes "filter"
name_of function.Join = codes "join"
name_of function.Aggregate = codes "aggregate"
name_of function.Sort = codes "sort"
name_of function.Stack = codes "stack"
name_of function.Row = codes "row"
name_of function.Transpose = codes "transpose"

-- only a function of two numbers has a dotted name
abbrev pub can_be_dotted : Function → Bool
can_be_dotted (function.Scalar f) = true
can_be_dotted _ = false

-- ---- tables

-- each entry of a table has the name of what it stands for
abbrev AreNamed : {A : Type 0} → (A → List ℕ) → List (List ℕ × A) → Type 0
AreNamed name [] = Unit {0}
AreNamed name (x ∷ table) = (x.0 ≡ name x.1) × AreNamed name table

found_step : {A : Type 0} (b : Bool) (x found : A) (rest : Option A) (name : A → List ℕ) (text key : List ℕ)
    → bytes_eq text key ≡ b → key ≡ name x → (rest ≡ Some found → text ≡ name found) → (if b then Some x else rest) ≡ Some found → text ≡ name found
found_step true x found rest name text key t k next e =
    let same : x ≡ found = cc in
    same_bytes text key t ∙ k ∙ ap name same
found_step false x found rest name text key t k next e = next e

found_name : {A : Type 0} (name : A → List ℕ) (table : List (List ℕ × A)) (text : List ℕ) (found : A) → AreNamed name table → entry table text ≡ Some found → text ≡ name found
found_name name [] text found all e = absurd cc
found_name name (x ∷ table) text found all e = found_step (bytes_eq text x.0) x.1 found (entry table text) name text x.0 refl all.0 (found_name name table text found all.1) e

-- ---- functions

-- what a name tells that is a function's
pub record IsNameOf (dotted : Bool) (name : List ℕ) (f : Function) : Type 0 where
  pub is : name ≡ name_of f
  pub plain : can_be_dotted f ≡ false → dotted ≡ false

of_scalar : (dotted : Bool) (name : List ℕ) (f : Function) (found : Option ScalarFunction) → scalar_named name ≡ found → (rest : Option Function)
    → (rest ≡ Some f → IsNameOf dotted name f) → option_or (option_map function.Scalar found) rest ≡ Some f → IsNameOf dotted name f
unfolding scalar_named
of_scalar dotted name f None is rest next e = next e
of_scalar dotted name f (Some g) is rest next e =
    let same : function.Scalar g ≡ f = cc in
    let named : name ≡ scalar_name g = found_name scalar_name scalar_table name g (refl, (refl, (refl, (refl, tt)))) is in
    subst (λ (k : Function). IsNameOf dotted name k) same (record { is = named; plain = λ h. absurd cc })

of_fold : (name : List ℕ) (f : Function) (found : Option FoldKind) → fold_named name ≡ found → (rest : Option Function)
    → (rest ≡ Some f → IsNameOf false name f) → option_or (option_map function.Fold found) rest ≡ Some f → IsNameOf false name f
unfolding fold_named
of_fold name f None is rest next e = next e
of_fold name f (Some kind) is rest next e =
    let same : function.Fold kind ≡ f = cc in
    let named : name ≡ fold_name kind = found_name fold_name fold_table name kind (refl, (refl, (refl, (refl, (refl, (refl, tt)))))) is in
    subst (λ (k : Function). IsNameOf false name k) same (record { is = named; plain = λ h. refl })

array_name : (name : List ℕ) (f : Function) → array_named name ≡ Some f → name ≡ name_of f
unfolding array_named
array_name name f e = found_name name_of array_table name f (refl, (refl, (refl, (refl, (refl, (refl, (refl, (refl, (refl, (refl, (refl, tt))))))))))) e

frame_name : (name : List ℕ) (f : Function) → frame_named name ≡ Some f → name ≡ name_of f
unfolding frame_named
frame_name name f e = found_name name_of frame_table name f (refl, (refl, (refl, (refl, (refl, (refl, (refl, tt))))))) e

of_rest : (name : List ℕ) (f : Function) (found : Option Function) → array_named name ≡ found → option_or found (frame_named name) ≡ Some f → IsNameOf false name f
of_rest name f None is e = record { is = frame_name name f e; plain = λ h. refl }
of_rest name f (Some g) is e =
    let same : g ≡ f = cc in
    subst (λ (k : Function). IsNameOf false name k) same (record { is = array_name name g is; plain = λ h. refl })

none_here : {A : Type 0} (f : Function) → None ≡ Some f → A
none_here f e = absurd cc

pub name_back : (dotted : Bool) (name : List ℕ) (f : Function) → function_named dotted name ≡ Some f → IsNameOf dotted name f
unfolding function_named
name_back true name f e = of_scalar true name f (scalar_named name) refl None (λ h. none_here f h) e
name_back false name f e =
    of_scalar false name f (scalar_named name) refl (option_or (option_map function.Fold (fold_named name)) (option_or (array_named name) (frame_named name)))
    (λ h. of_fold name f (fold_named name) refl (option_or (array_named name) (frame_named name)) (λ k. of_rest name f (array_named name) refl k) h) e

-- ---- what goes by names

scalar_tells : (g : ScalarFunction) → Tells (scalar_name g) (function.Scalar g)
scalar_tells scalar.Div = record { columns = refl; transpose = refl; stencil = refl; aggregate = refl }
scalar_tells scalar.Rem = record { columns = refl; transpose = refl; stencil = refl; aggregate = refl }
scalar_tells scalar.Min = record { columns = refl; transpose = refl; stencil = refl; aggregate = refl }
scalar_tells scalar.Max = record { columns = refl; transpose = refl; stencil = refl; aggregate = refl }

fold_tells : (kind : FoldKind) → Tells (fold_name kind) (function.Fold kind)
fold_tells fold.Sum = record { columns = refl; transpose = refl; stencil = refl; aggregate = refl }
fold_tells fold.Prod = record { columns = refl; transpose = refl; stencil = refl; aggregate = refl }
fold_tells fold.Min = record { columns = refl; transpose = refl; stencil = refl; aggregate = refl }
fold_tells fold.Max = record { columns = refl; transpose = refl; stencil = refl; aggregate = refl }
fold_tells fold.Any = record { columns = refl; transpose = refl; stencil = refl; aggregate = refl }
fold_tells fold.All = record { columns = refl; transpose = refl; stencil = refl; aggregate = refl }

own_tells : (f : Function) → Tells (name_of f) f
own_tells (function.Scalar g) = scalar_tells g
own_tells (function.Fold kind) = fold_tells kind
own_tells _ = record { columns = refl; transpose = refl; stencil = refl; aggregate = refl }

pub function_tells : (dotted : Bool) (name : List ℕ) (f : Function) → function_named dotted name ≡ Some f → Tells name f
function_tells dotted name f e = subst (λ (n : List ℕ). Tells n f) (sym (name_back dotted name f e).is) (own_tells f)
