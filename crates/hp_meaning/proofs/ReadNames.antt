-- The calls that read a file, by the function and by its name.
use Rattle.std.proofs.Common.{◌≡◌, ℕ, Bool, true, false, ◌||◌, codes, bytes_eq, List, [], Option, Some, None, option_map, refl, sym, ap, subst, ◌∙◌}
use Rattle.std.specs.Option.{option_or}
use Rattle.std.proofs.lemmas.Slice.Eq.{bytes_eq-Decides}
use Rattle.hp_script.specs.declared.function.Function.{Function}
use Rattle.hp_script.specs.declared.function.Function.TheVariants as function
use Rattle.hp_script.specs.declared.function.ScalarFunction.{ScalarFunction}
use Rattle.hp_script.specs.Entries.{file_of_call}
use Rattle.hp_script.specs.Functions.{scalar_named, fold_named, array_named, frame_named, function_named}
use Rattle.hp_script.specs.Mirror.{Args, plain, text}
use Rattle.hp_script.proofs.FunctionNames.{function_tells}
use Rattle.hp_meaning.specs.ReadCalls.{is_read}

abbrev pub reads : Function → Bool
reads function.ReadCsv = true
reads _ = false

-- a name that is this one is that of its function
named_so : (name known : List ℕ) (f g : Function) → function_named false known ≡ Some g → function_named false name ≡ Some f → bytes_eq name known ≡ true → g ≡ f
named_so name known f g k h e =
    let same : name ≡ known = (bytes_eq-Decides name known).0 e in
    let found : function_named false known ≡ Some f = subst (λ n. function_named false n ≡ Some f) same h in
    cc

read_known : function_named false (codes "read_csv") ≡ Some function.ReadCsv
unfolding function_named scalar_named fold_named array_named frame_named
read_known = refl

join_known : function_named false (codes "join") ≡ Some function.Join
unfolding function_named scalar_named fold_named array_named frame_named
join_known = refl

aggregate_known : function_named false (codes "aggregate") ≡ Some function.Aggregate
unfolding function_named scalar_named fold_named array_named frame_named
aggregate_known = refl

sort_known : function_named false (codes "sort") ≡ Some function.Sort
unfolding function_named scalar_named fold_named array_named frame_named
sort_known = refl

-- of the four functions that take columns, one reads
one_of_four : (read join aggregate sort : Bool) → (read || join || aggregate || sort) ≡ true → (join ≡ true → ⊥) → (aggregate ≡ true → ⊥) → (sort ≡ true → ⊥) → read ≡ true
one_of_four true join aggregate sort h j a s = refl
one_of_four false true aggregate sort h j a s = absurd (j refl)
one_of_four false false true sort h j a s = absurd (a refl)
one_of_four false false false true h j a s = absurd (s refl)
one_of_four false false false false h j a s = absurd cc

read_name : (name : List ℕ) → function_named false name ≡ Some function.ReadCsv → bytes_eq name (codes "read_csv") ≡ true
read_name name h =
    let tells = function_tells false name function.ReadCsv h in
    one_of_four (bytes_eq name (codes "read_csv")) (bytes_eq name (codes "join")) (bytes_eq name (codes "aggregate")) (bytes_eq name (codes "sort")) tells.columns
    (λ e. let never = named_so name (codes "join") function.ReadCsv function.Join join_known h e in absurd cc)
    (λ e. let never = named_so name (codes "aggregate") function.ReadCsv function.Aggregate aggregate_known h e in absurd cc)
    (λ e. let never = named_so name (codes "sort") function.ReadCsv function.Sort sort_known h e in absurd cc)

read_same : (name : List ℕ) (f : Function) (same : Bool) → bytes_eq name (codes "read_csv") ≡ same → function_named false name ≡ Some f → same ≡ reads f
read_same name f true e h = ap reads (named_so name (codes "read_csv") f function.ReadCsv read_known h e)
read_same name function.ReadCsv false e h = sym e ∙ read_name name h
read_same name _ false e h = refl

scalar_reads_not : (found : Option ScalarFunction) (f : Function) → option_or (option_map function.Scalar found) None ≡ Some f → false ≡ reads f
scalar_reads_not None f h = absurd cc
scalar_reads_not (Some g) f h = let same : function.Scalar g ≡ f = cc in ap reads same

-- a call reads a file just where its function does
pub reads_same : (dotted : Bool) (name : List ℕ) (f : Function) → function_named dotted name ≡ Some f → is_read name dotted ≡ reads f
unfolding function_named
reads_same true name f h = scalar_reads_not (scalar_named name) f h
reads_same false name f h = read_same name f (bytes_eq name (codes "read_csv")) refl h

-- a call that does not read a file has none
pub no_file : (name : List ℕ) (dotted : Bool) (xs : Args) → is_read name dotted ≡ false → file_of_call name dotted xs ≡ []
no_file name true xs h = refl
no_file name false (plain (text g bytes) xs) h = rw h refl
no_file name false _ h = refl
