-- A program whose operations follow the constructs of its script carries it, but for how often each construct is done: what its
-- steps read, its loops, folds, elements and outputs.
use Rattle.std.proofs.Common.{◌≡◌, ℕ, zero, suc, Bool, true, false, ◌&&◌, if◌then◌else◌, List, [], ◌∷◌, ◌++◌, length, map, slice_get, Some, None, IsTrue, refl, sym, ap, subst, ◌∙◌, arith}
use Rattle.std.proofs.lemmas.Bool.{and_from, or_left, or_right}
use Rattle.std.proofs.lemmas.List.Sums.{length-filter}
use Rattle.std.specs.Prelude.{count_by, filter, zip}
use Rattle.std.specs.List.{AllByRecursion, AllZip, list_all, list_any}
use Rattle.hp_word.specs.declared.fold.FoldKind.{FoldKind}
use Rattle.hp_air.specs.Arrays.{Arrays, Scalar, Length, Fill, Range, Read, Copy, Map, Reduce, Scan, Stencil, Filter, Join, Group, Concat, Sort, At, Pick, Frame, Stack, Row, Product, ProductT, PrintWord, PrintList, Export, outs, sides, is_variant}
use Rattle.hp_air.specs.Carried.{Step, step_of, IsItem, is_among, are_same, pairs_copied, copies, IsSource, itself, copied_from, is_plain, looped_of, is_balanced, CopyReads, copy_of, Reads, scalar_reads, construct_reads, length_reads, at_reads, copy_reads, word_reads, list_reads, export_reads, LoopReads, map_read, stencil_read, fold_read, is_result, StepReads, plain_step, loop_step, folds_in, reductions_in, is_element, is_output, plain_in, Outputs, word_output, list_output, table_output, IsLoopOf, map_loop, stencil_loop, no_loop, is_kind, is_done, CarriedBy}
use Rattle.hp_air.specs.Unknowns.{Unknown, same_unknown}
use Rattle.hp_flat.specs.StepByStep.{is_step, Follows, both_end, scalar_work, same_step, first_length}
use Rattle.hp_flat.proofs.ArrayBlocks.{IsArray, same_itself}

-- ---- items

pub item_left : {A : Type 0} (xs ys : List A) (k : ℕ) (x : A) → slice_get xs k ≡ Some x → IsItem (xs ++ ys) x
item_left [] ys k x e = absurd cc
item_left (y ∷ xs) ys zero x e = (zero, e)
item_left (y ∷ xs) ys (suc k) x e = let r = item_left xs ys k x e in (suc r.0, r.1)

pub item_right : {A : Type 0} (xs ys : List A) (x : A) → IsItem ys x → IsItem (xs ++ ys) x
item_right [] ys x item = item
item_right (y ∷ xs) ys x item = let r = item_right xs ys x item in (suc r.0, r.1)

copies_item : (cs : List (Arrays Unknown)) (k : ℕ) (c : Arrays Unknown) (p : Unknown × Unknown) → slice_get cs k ≡ Some c → IsItem (pairs_copied c) p → IsItem (copies cs) p
copies_item [] k c p e item = absurd cc
copies_item (d ∷ cs) zero c p e item = let same : d ≡ c = cc in let own = subst (λ (a : Arrays Unknown). IsItem (pairs_copied a) p) (sym same) item in item_left (pairs_copied d) (copies cs) own.0 p own.1
copies_item (d ∷ cs) (suc k) c p e item = item_right (pairs_copied d) (copies cs) p (copies_item cs k c p e item)

any_item : (t : Arrays Unknown → Bool) (cs : List (Arrays Unknown)) (k : ℕ) (c : Arrays Unknown) → slice_get cs k ≡ Some c → t c ≡ true → IsTrue (list_any t cs)
any_item t [] k c e is = absurd cc
any_item t (d ∷ cs) zero c e is = let same : d ≡ c = cc in or_left (t d) (list_any t cs) (ap t same ∙ is)
any_item t (d ∷ cs) (suc k) c e is = or_right (t d) (list_any t cs) (any_item t cs k c e is)

same_list : (us : List Unknown) → AllByRecursion IsArray us → IsTrue (are_same us us)
same_list [] are = refl
same_list (u ∷ us) are = and_from (same_unknown u u) (are_same us us) (same_itself u are.0) (same_list us are.1)

-- ---- what a construct owes

-- a copy has as many outs as ins, and none is a balanced copy; what is written are arrays of the script
abbrev pub Sound : Arrays Unknown → Type 0
Sound (Copy os ins) = (length os ≡ length ins) × AllByRecursion (λ u. is_balanced u ≡ false) os
Sound a = AllByRecursion IsArray (outs a)

module _ (all : List (Arrays Unknown)) where
  pub each_itself : (us : List Unknown) → AllZip (IsSource all) us us
  each_itself [] = tt
  each_itself (u ∷ us) = (itself, each_itself us)

  sides_themselves : (ss : List (List Unknown)) → AllZip (AllZip (IsSource all)) ss ss
  sides_themselves [] = tt
  sides_themselves (s ∷ ss) = (each_itself s, sides_themselves ss)

  by_construct : (a : Arrays Unknown) → IsItem all a → IsTrue (is_plain a) → is_variant a a ≡ true → AllByRecursion IsArray (outs a) → Reads all a
  by_construct a item is variant arrays = construct_reads item is (and_from (is_variant a a) (are_same (outs a) (outs a)) variant (same_list (outs a) arrays)) (sides_themselves (sides a))

  copied : (os ins : List Unknown) → ((p : Unknown × Unknown) → IsItem (zip os ins) p → IsItem (copies all) p) → length os ≡ length ins → AllByRecursion (λ u. is_balanced u ≡ false) os → AllZip (CopyReads all) os ins
  copied [] [] items many plain = tt
  copied [] (x ∷ ins) items many plain = absurd cc
  copied (o ∷ os) [] items many plain = absurd cc
  copied (o ∷ os) (x ∷ ins) items many plain =
      (copy_of plain.0 (copied_from itself (items (o, x) (zero, refl))), copied os ins (λ p item. items p (suc item.0, item.1)) (omega (arith, many)) plain.1)

  mapped : (out : Unknown) (ins us : List Unknown) → IsItem all (Map out ins) → IsTrue (is_among (out ∷ []) out) → ((u : Unknown) → IsItem us u → IsItem ins u) → AllByRecursion (LoopReads all (out ∷ []) []) us
  mapped out ins [] item own items = tt
  mapped out ins (u ∷ us) item own items = (map_read item own (items u (zero, refl)) itself, mapped out ins us item own (λ v k. items v (suc k.0, k.1)))

  result : (c : Arrays Unknown) (out : Unknown) → IsItem all c → elim (looped_of c) [ None ↦ false | Some made ↦ same_unknown made out ] ≡ true → IsTrue (is_result all out && true)
  result c out item own = and_from (is_result all out) true (any_item (λ d. elim (looped_of d) [ None ↦ false | Some made ↦ same_unknown made out ]) all item.0 c item.1 own) refl

  own_reads : (a : Arrays Unknown) → IsItem all a → IsTrue (is_step a) → Sound a → StepReads all (step_of a)
  unfolding outs is_variant
  own_reads Scalar item is sound = absurd cc
  own_reads (Length x) item is sound = absurd cc
  own_reads (Fill out) item is sound = plain_step (by_construct (Fill out) item refl refl sound)
  own_reads (Range out) item is sound = plain_step (by_construct (Range out) item refl refl sound)
  own_reads (Read os) item is sound = plain_step (by_construct (Read os) item refl refl sound)
  own_reads (Copy os ins) item is sound = plain_step (copy_reads (copied os ins (λ p k. copies_item all item.0 (Copy os ins) p item.1 k) sound.0 sound.1))
  own_reads (Map out ins) item is sound =
      loop_step (result (Map out ins) out item (same_itself out sound.0)) (mapped out ins ins item (or_left (same_unknown out out) false (same_itself out sound.0)) (λ u k. k))
  own_reads (Reduce kind x) item is sound = loop_step refl (fold_read (λ e. absurd cc) item itself, tt)
  own_reads (Scan out x) item is sound = plain_step (by_construct (Scan out x) item refl refl sound)
  own_reads (Stencil out x balanced) item is sound =
      loop_step (result (Stencil out x balanced) out item (same_itself out sound.0)) (stencil_read item (or_left (same_unknown out out) false (same_itself out sound.0)) itself, tt)
  own_reads (Filter os ins mask) item is sound = plain_step (by_construct (Filter os ins mask) item refl refl sound)
  own_reads (Join os lefts rights) item is sound = plain_step (by_construct (Join os lefts rights) item refl refl sound)
  own_reads (Group os ins) item is sound = plain_step (by_construct (Group os ins) item refl refl sound)
  own_reads (Concat out left right) item is sound = plain_step (by_construct (Concat out left right) item refl refl sound)
  own_reads (Sort os ins) item is sound = plain_step (by_construct (Sort os ins) item refl refl sound)
  own_reads (At x) item is sound = plain_step (at_reads item itself)
  own_reads (Pick out x index) item is sound = plain_step (by_construct (Pick out x index) item refl refl sound)
  own_reads (Frame os ins) item is sound = plain_step (by_construct (Frame os ins) item refl refl sound)
  own_reads (Stack out ins) item is sound = plain_step (by_construct (Stack out ins) item refl refl sound)
  own_reads (Row out matrix) item is sound = plain_step (by_construct (Row out matrix) item refl refl sound)
  own_reads (Product out left right) item is sound = plain_step (by_construct (Product out left right) item refl refl sound)
  own_reads (ProductT out left right) item is sound = plain_step (by_construct (ProductT out left right) item refl refl sound)
  own_reads PrintWord item is sound = plain_step word_reads
  own_reads (PrintList x) item is sound = plain_step list_reads
  own_reads (Export xs) item is sound = plain_step export_reads

  own_loop : (a : Arrays Unknown) → IsItem all a → IsLoopOf all a
  own_loop (Map out ins) item = map_loop item (each_itself ins)
  own_loop (Stencil out x balanced) item = stencil_loop item itself
  own_loop _ item = no_loop refl

  all_behind : (us : List Unknown) (cs : List (Arrays Unknown)) → AllByRecursion Sound (map Length us ++ cs) → AllByRecursion Sound cs
  all_behind [] cs sound = sound
  all_behind (u ∷ us) cs sound = all_behind us cs sound.1

  pub steps_read : {rows cs : List (Arrays Unknown)} → Follows rows cs → ((c : Arrays Unknown) → IsItem cs c → IsItem all c) → AllByRecursion Sound cs → AllByRecursion (StepReads all) (map step_of rows)
  steps_read both_end items sound = tt
  steps_read (scalar_work p) items sound = (plain_step scalar_reads, steps_read p items sound)
  steps_read (same_step {a = a} is p) items sound = (own_reads a (items a (zero, refl)) is sound.0, steps_read p (λ c item. items c (suc item.0, item.1)) sound.1)
  steps_read (first_length {cs = cs} u us p) items sound =
      (plain_step (length_reads (items (Length u) (zero, refl)) itself), steps_read p (λ c item. items c (item_right (map Length (u ∷ us)) cs c item)) (all_behind (u ∷ us) cs sound))

  pub loops_are : {rows cs : List (Arrays Unknown)} → Follows rows cs → ((c : Arrays Unknown) → IsItem cs c → IsItem all c) → AllByRecursion (IsLoopOf all) rows
  loops_are both_end items = tt
  loops_are (scalar_work p) items = (no_loop refl, loops_are p items)
  loops_are (same_step {a = a} is p) items = (own_loop a (items a (zero, refl)), loops_are p (λ c item. items c (suc item.0, item.1)))
  loops_are (first_length {cs = cs} u us p) items = (no_loop refl, loops_are p (λ c item. items c (item_right (map Length (u ∷ us)) cs c item)))

-- ---- folds, elements and outputs

no_reductions : (us : List Unknown) (cs : List (Arrays Unknown)) → reductions_in (map Length us ++ cs) ≡ reductions_in cs
no_reductions [] cs = refl
no_reductions (u ∷ us) cs = no_reductions us cs

own_fold : (a : Arrays Unknown) (steps : List (Step Unknown)) (cs : List (Arrays Unknown)) → folds_in steps ≡ reductions_in cs → folds_in (step_of a ∷ steps) ≡ reductions_in (a ∷ cs)
own_fold (Reduce kind x) steps cs e = ap (λ (l : List FoldKind). kind ∷ l) e
own_fold _ steps cs e = e

pub folds_are : {rows cs : List (Arrays Unknown)} → Follows rows cs → folds_in (map step_of rows) ≡ reductions_in cs
folds_are both_end = refl
folds_are (scalar_work p) = folds_are p
folds_are (same_step {a = a} {rows = rows} {cs = cs} is p) = own_fold a (map step_of rows) cs (folds_are p)
folds_are (first_length {cs = cs} u us p) = folds_are p ∙ sym (no_reductions (u ∷ us) cs)

-- a test of operations that no loop, no scalar work and no length passes
pub record IsOfPlain (t : Arrays Unknown → Bool) : Type 0 where
  pub scalar : t Scalar ≡ false
  pub length : (x : Unknown) → t (Length x) ≡ false
  pub map : (out : Unknown) (ins : List Unknown) → t (Map out ins) ≡ false
  pub reduce : (kind : FoldKind) (x : Unknown) → t (Reduce kind x) ≡ false
  pub stencil : (out x balanced : Unknown) → t (Stencil out x balanced) ≡ false

left_out : (t : Arrays Unknown → Bool) (a : Arrays Unknown) (xs ys : List (Arrays Unknown)) → t a ≡ false → filter t xs ≡ filter t ys → filter t (a ∷ xs) ≡ filter t ys
left_out t a xs ys never e = ap (λ (b : Bool). if b then a ∷ filter t xs else filter t xs) never ∙ e

put_in : (t : Arrays Unknown → Bool) (a : Arrays Unknown) (xs ys : List (Arrays Unknown)) → filter t xs ≡ filter t ys → filter t (a ∷ xs) ≡ filter t (a ∷ ys)
put_in t a xs ys e = ap (λ (l : List (Arrays Unknown)). if t a then a ∷ l else l) e

module _ (t : Arrays Unknown → Bool) (of_plain : IsOfPlain t) where
  no_lengths : (us : List Unknown) (cs : List (Arrays Unknown)) → filter t (map Length us ++ cs) ≡ filter t cs
  no_lengths [] cs = refl
  no_lengths (u ∷ us) cs = left_out t (Length u) (map Length us ++ cs) cs (of_plain.length u) (no_lengths us cs)

  own_plain : (a : Arrays Unknown) (steps : List (Step Unknown)) (cs : List (Arrays Unknown)) → filter t (plain_in steps) ≡ filter t cs → filter t (plain_in (step_of a ∷ steps)) ≡ filter t (a ∷ cs)
  own_plain (Map out ins) steps cs e = e ∙ sym (left_out t (Map out ins) cs cs (of_plain.map out ins) refl)
  own_plain (Reduce kind x) steps cs e = e ∙ sym (left_out t (Reduce kind x) cs cs (of_plain.reduce kind x) refl)
  own_plain (Stencil out x balanced) steps cs e = e ∙ sym (left_out t (Stencil out x balanced) cs cs (of_plain.stencil out x balanced) refl)
  own_plain other steps cs e = put_in t other (plain_in steps) cs e

  pub plain_are : {rows cs : List (Arrays Unknown)} → Follows rows cs → filter t (plain_in (map step_of rows)) ≡ filter t cs
  plain_are both_end = refl
  plain_are (scalar_work {rows = rows} {cs = cs} p) = left_out t Scalar (plain_in (map step_of rows)) cs of_plain.scalar (plain_are p)
  plain_are (same_step {a = a} {rows = rows} {cs = cs} is p) = own_plain a (map step_of rows) cs (plain_are p)
  plain_are (first_length {rows = rows} {cs = cs} u us p) =
      left_out t (Length u) (plain_in (map step_of rows)) cs (of_plain.length u) (plain_are p) ∙ sym (no_lengths (u ∷ us) cs)

elements_of_plain : IsOfPlain is_element
elements_of_plain = record { scalar = refl; length = λ x. refl; map = λ out ins. refl; reduce = λ kind x. refl; stencil = λ out x balanced. refl }

outputs_of_plain : IsOfPlain is_output
outputs_of_plain = record { scalar = refl; length = λ x. refl; map = λ out ins. refl; reduce = λ kind x. refl; stencil = λ out x balanced. refl }

pub elements_are : {rows cs : List (Arrays Unknown)} → Follows rows cs → count_by is_element (plain_in (map step_of rows)) ≡ count_by is_element cs
elements_are {rows = rows} {cs = cs} p =
    sym (length-filter is_element (plain_in (map step_of rows))) ∙ ap (λ (l : List (Arrays Unknown)). length l) (plain_are is_element elements_of_plain p) ∙ length-filter is_element cs

own_output : (all : List (Arrays Unknown)) (a : Arrays Unknown) (cs : List (Arrays Unknown)) → AllZip (Outputs all) (filter is_output cs) (filter is_output cs) → AllZip (Outputs all) (filter is_output (a ∷ cs)) (filter is_output (a ∷ cs))
own_output all PrintWord cs rest = (word_output, rest)
own_output all (PrintList x) cs rest = (list_output itself, rest)
own_output all (Export xs) cs rest = (table_output (each_itself all xs), rest)
own_output all _ cs rest = rest

outputs_themselves : (all cs : List (Arrays Unknown)) → AllZip (Outputs all) (filter is_output cs) (filter is_output cs)
outputs_themselves all [] = tt
outputs_themselves all (a ∷ cs) = own_output all a cs (outputs_themselves all cs)

pub outputs_are : {rows cs : List (Arrays Unknown)} → Follows rows cs → AllZip (Outputs cs) (filter is_output cs) (filter is_output (plain_in (map step_of rows)))
outputs_are {cs = cs} p = subst (λ (l : List (Arrays Unknown)). AllZip (Outputs cs) (filter is_output cs) l) (sym (plain_are is_output outputs_of_plain p)) (outputs_themselves cs cs)

-- What is left of a program that carries its script: that its constructs are sound, and that each is done once.
pub carried_so : {rows cs : List (Arrays Unknown)} → Follows rows cs → AllByRecursion Sound cs → IsTrue (list_all (is_done (map step_of rows)) cs) → CarriedBy cs (map step_of rows) × AllByRecursion (IsLoopOf cs) rows
carried_so {rows = rows} {cs = cs} p sound done = (
  record {
    done = done;
    reads = steps_read cs p (λ c item. item) sound;
    folds = λ kind. ap (count_by (is_kind kind)) (folds_are p);
    elements = elements_are p;
    outputs = outputs_are p;
  },
  loops_are cs p (λ c item. item),
)
