-- The slots and words of single operations: each is there, and what is written and read is as the operation asks.
use Rattle.std.proofs.Common.{◌≡◌, ◌≢◌, ℕ, zero, suc, ◌<◌, Bool, true, false, not, ◌&&◌, ◌||◌, cond, nat_lt, List, [], ◌∷◌, ◌++◌, map, zip, length, Option, Some, None, IsTrue, refl, ap, ap₂, ◌∙◌, subst, arith}
use Rattle.std.proofs.lemmas.Bool.{and_from, lt-ltb, or_right}
use Rattle.std.specs.Prelude.{slice_index_or}
use Rattle.std.specs.List.{AllByRecursion, list_all, list_any, range_with_len}
use Rattle.hp_word.specs.declared.place.Place.{Place}
use Rattle.hp_script.specs.declared.typed.Shape.{Shape}
use Rattle.hp_script.specs.declared.typed.Typed.{Typed}
use Rattle.hp_script.specs.Mirror.{Tree, number, truth, text, variable, column, field, unary, binary, index, call}
use Rattle.hp_program.specs.Programs.{Prog, joined}
use Rattle.hp_air.specs.declared.slot.Slot.{Slot}
use Rattle.hp_air.specs.declared.what.Op.{Op}
use Rattle.hp_air.specs.declared.what.What.{What}
use Rattle.hp_air.specs.declared.what.What.TheVariants as what
use Rattle.hp_air.specs.Arrays.{arrays_of, outs, reads, sides}
use Rattle.hp_air.specs.Kept.{are_below, is_within, has_elem, words_in as words_of, is_apart, is_copy, is_one_of, are_distinct, has_frames, is_frame, is_side, values, frame_sides, has_copy, none_balanced, has_matrices, none_matrix, are_both}
use Rattle.hp_air.specs.Unknowns.{Unknown, of_node, known_of, shape_at, number_of, width, at_node}
use Rattle.hp_flat.specs.FlatCalls.{array_copy}
use Rattle.hp_flat.specs.Homes.{Homes, homes_of, homes_in, slots_in, words_in, slot_of, slots_of, word_at, word_of, word_named, is_matrix}
use Rattle.hp_flat.proofs.ElemFits.{named_below}
use Rattle.hp_flat.proofs.SlotValues.{Fine, Grid, At, Off, Value, no_value, all_below, all_plain, no_grid, value_side, none_shared, node_value, node_at, node_off}
use Rattle.hp_flat.proofs.Throughout.{Throughout, through_both}

-- what an operation keeps beside its lists
abbrev pub is_slotted : List Slot → (words : ℕ) → What → Bool
is_slotted slots words w =
    is_within slots words w && is_apart (arrays_of w) && has_frames slots (arrays_of w) && has_copy slots (arrays_of w) && has_matrices slots (arrays_of w)

abbrev pub is_word : ℕ → ℕ → Bool
is_word words k = nat_lt k words

-- an expression with a type is one of the script
pub numbered : (shapes : List (Option Shape)) (k : ℕ) (a : Shape) → slice_index_or shapes k None ≡ Some a → k < length shapes
numbered [] zero a e = absurd cc
numbered [] (suc k) a e = absurd cc
numbered (found ∷ shapes) zero a e = omega arith
numbered (found ∷ shapes) (suc k) a e = omega (arith, numbered shapes k a e)

module _ (typed : Typed) where
  abbrev pub home : Homes
  home = homes_of typed

  abbrev pub slots : List Slot
  slots = slots_in (homes_of typed)

  abbrev pub words : ℕ
  words = words_in (homes_of typed)

  abbrev pub Slotted : Prog Op → Type 0
  Slotted p = Throughout (is_word words) (is_slotted slots words) p

  pub slotted_both : (p q : Prog Op) → Slotted p → Slotted q → Slotted (joined p q)
  slotted_both p q first second = through_both (is_word words) (is_slotted slots words) p q first second

  -- ---- words

  pub some_shapes : (k : ℕ) (a : Shape) → shape_at (known_of typed) k ≡ Some a → 0 < length typed.shapes
  some_shapes k a is = omega (arith, numbered typed.shapes k a is)

  pub own_word : (k : ℕ) (a : Shape) → shape_at (known_of typed) k ≡ Some a → word_at home k < words
  unfolding word_at words_in homes_of homes_in
  own_word k a is = omega (arith, numbered typed.shapes k a is)

  pub name_word : (k : ℕ) (a : Shape) → shape_at (known_of typed) k ≡ Some a → (x : List ℕ) → word_named home x < words
  unfolding homes_of homes_in
  name_word k a is x = named_below home (some_shapes k a is) x

  pub part_word : (x : Tree) (a : Shape) → shape_at (known_of typed) (number_of x) ≡ Some a → word_of home x < words
  unfolding word_of
  part_word (variable n x) a is = name_word n.id a is x
  part_word (number n z) a is = own_word n.id a is
  part_word (truth n holds) a is = own_word n.id a is
  part_word (text n bytes) a is = own_word n.id a is
  part_word (column n c) a is = own_word n.id a is
  part_word (field n d c) a is = own_word n.id a is
  part_word (unary n op dotted x) a is = own_word n.id a is
  part_word (binary n op dotted x y) a is = own_word n.id a is
  part_word (index n x i) a is = own_word n.id a is
  part_word (call n f dotted xs) a is = own_word n.id a is

  pub is_below : (k : ℕ) → k < words → IsTrue (nat_lt k words)
  is_below k less = lt-ltb k words less

  pub one_word : (k : ℕ) → k < words → IsTrue (are_below words (k ∷ []))
  one_word k less = and_from _ _ (is_below k less) refl

  pub two_words : (j k : ℕ) → j < words → k < words → IsTrue (are_below words (j ∷ k ∷ []))
  two_words j k p q = and_from _ _ (is_below j p) (one_word k q)

  pub three_words : (i j k : ℕ) → i < words → j < words → k < words → IsTrue (are_below words (i ∷ j ∷ k ∷ []))
  three_words i j k p q r = and_from _ _ (is_below i p) (two_words j k q r)

  -- ---- operations

  pub both_all : (P : ℕ → Type 0) (xs ys : List ℕ) → AllByRecursion P xs → AllByRecursion P ys → AllByRecursion P (xs ++ ys)
  both_all P [] ys p q = q
  both_all P (x ∷ xs) ys p q = (p.0, both_all P xs ys p.1 q)

  -- by what an operation writes and reads; of a copy what it writes may be read
  pub writes : (w : What) (m : Bool) (os rs : List ℕ) → outs (arrays_of w) ≡ os → reads (arrays_of w) ≡ rs → values (arrays_of w) ≡ os → has_copy slots (arrays_of w) ≡ none_balanced slots (os ++ rs)
      → IsTrue (are_below words (words_of w)) → IsTrue (has_elem words w) → Value typed m os → AllByRecursion (Fine typed) rs → IsTrue (is_copy (arrays_of w) || not (list_any (is_one_of rs) os))
      → IsTrue (list_all (is_side slots) (frame_sides (arrays_of w))) → IsTrue (has_matrices slots (arrays_of w)) → IsTrue (is_slotted slots words w)
  writes w m os rs outs_are reads_are values_are copy_is named elem value fine apart frames grids =
      let all : AllByRecursion (Fine typed) (os ++ rs) = both_all (Fine typed) os rs value.fine fine in
      and_from _ _ (and_from _ _ (and_from _ _ (and_from _ _
      (and_from _ _ (and_from _ _ (ap₂ (λ (x y : List ℕ). are_below (length slots) (x ++ y)) outs_are reads_are ∙ all_below typed (os ++ rs) all) named) elem)
      (and_from _ _ (ap are_distinct outs_are ∙ value.distinct) (ap₂ (λ (x y : List ℕ). is_copy (arrays_of w) || not (list_any (is_one_of y) x)) outs_are reads_are ∙ apart)))
      (and_from _ _ (ap (is_frame slots) values_are ∙ value.frame) frames))
      (copy_is ∙ all_plain typed (os ++ rs) all))
      grids

  -- a read slot is none of this expression
  abbrev pub Read : ℕ → ℕ → Type 0
  Read n k = Fine typed k × Off typed n k × Grid typed false k

  pub read_fine : (n : ℕ) (rs : List ℕ) → AllByRecursion (Read n) rs → AllByRecursion (Fine typed) rs
  read_fine n [] all = tt
  read_fine n (r ∷ rs) all = (all.0.0, read_fine n rs all.1)

  pub read_off : (n : ℕ) (rs : List ℕ) → AllByRecursion (Read n) rs → AllByRecursion (Off typed n) rs
  read_off n [] all = tt
  read_off n (r ∷ rs) all = (all.0.1, read_off n rs all.1)

  pub read_grid : (n : ℕ) (rs : List ℕ) → AllByRecursion (Read n) rs → AllByRecursion (Grid typed false) rs
  read_grid n [] all = tt
  read_grid n (r ∷ rs) all = (all.0.2, read_grid n rs all.1)

  -- no matrix among what is written and read
  pub ordinary : (w : What) (n : ℕ) (os rs : List ℕ) → outs (arrays_of w) ≡ os → reads (arrays_of w) ≡ rs → values (arrays_of w) ≡ os → has_copy slots (arrays_of w) ≡ none_balanced slots (os ++ rs)
      → has_matrices slots (arrays_of w) ≡ none_matrix slots (os ++ rs) → IsTrue (are_below words (words_of w)) → IsTrue (has_elem words w) → Value typed false os → AllByRecursion (At typed n) os
      → AllByRecursion (Read n) rs → IsTrue (list_all (is_side slots) (frame_sides (arrays_of w))) → IsTrue (is_slotted slots words w)
  ordinary w n os rs outs_are reads_are values_are copy_is grid_is named elem value at all frames =
      writes w false os rs outs_are reads_are values_are copy_is named elem value (read_fine n rs all) (or_right _ _ (none_shared typed n os rs at (read_off n rs all))) frames
      (grid_is ∙ no_grid typed (os ++ rs) (both_all (Grid typed false) os rs value.grid (read_grid n rs all)))

  -- scalar work
  pub scalar_slots : (w : What) → outs (arrays_of w) ≡ [] → reads (arrays_of w) ≡ [] → values (arrays_of w) ≡ [] → has_copy slots (arrays_of w) ≡ true → has_matrices slots (arrays_of w) ≡ true
      → IsTrue (are_below words (words_of w)) → IsTrue (has_elem words w) → frame_sides (arrays_of w) ≡ [] → IsTrue (is_slotted slots words w)
  scalar_slots w outs_are reads_are values_are copy_is grid_is named elem sides_are =
      writes w false [] [] outs_are reads_are values_are copy_is named elem (no_value typed) tt (or_right _ _ refl) (ap (list_all (is_side slots)) sides_are) grid_is

  -- ---- copies

  paired_grids : (m : Bool) (os rs : List ℕ) → AllByRecursion (Grid typed m) os → AllByRecursion (Grid typed m) rs → IsTrue (list_all (are_both slots) (zip os rs))
  paired_grids m [] rs p q = refl
  paired_grids m (o ∷ os) [] p q = refl
  paired_grids m (o ∷ os) (r ∷ rs) p q = and_from _ _ (one m _ _ p.0 q.0) (paired_grids m os rs p.1 q.1)
    where
      one : (m a b : Bool) → a ≡ m → b ≡ m → IsTrue (cond a b (not b))
      one true true b p q = q
      one false false b p q = ap not q
      one true false b p q = absurd cc
      one false true b p q = absurd cc

  -- what is copied: a value, or a column of one
  pub record Source (m : Bool) (ks : List ℕ) : Type 0 where
    pub fine : AllByRecursion (Fine typed) ks
    pub grid : AllByRecursion (Grid typed m) ks
    pub side : IsTrue (is_side slots ks)

  pub value_source : {m : Bool} (ks : List ℕ) → Value typed m ks → Source m ks
  value_source ks v = record { fine = v.fine; grid = v.grid; side = value_side typed ks v }

  pub copy_slots : (at : Place) (m : Bool) (os ins : List Unknown) → Value typed m (slots_of home os) → Source m (slots_of home ins) → Slotted (array_copy home at os ins)
  unfolding array_copy arrays_of outs sides
  copy_slots at m [] ins value source = tt
  copy_slots at m (o ∷ os) ins value source =
      let xs = slots_of home (o ∷ os) in
      let ys = slots_of home ins in
      (writes (what.Copy xs ys) m xs (ys ++ []) refl refl refl refl refl refl value (both_all (Fine typed) ys [] source.fine tt) refl (and_from _ _ source.side refl) (paired_grids m xs ys value.grid source.grid), tt)

  -- ---- values of one array

  pub single : (n : ℕ) (a : Shape) → shape_at (known_of typed) n ≡ Some a → width (Some a) ≡ 1 → at_node (known_of typed) n ≡ of_node n 0 ∷ []
  single n a is one = ap (λ (o : Option Shape). map (of_node n) (range_with_len 0 (width o))) is ∙ ap (λ (w : ℕ). map (of_node n) (range_with_len 0 w)) one

  pub value_as : (n : ℕ) (a : Shape) → shape_at (known_of typed) n ≡ Some a → Value typed (is_matrix (Some a)) (slots_of home (at_node (known_of typed) n))
  value_as n a is = subst (λ (o : Option Shape). Value typed (is_matrix o) (slots_of home (at_node (known_of typed) n))) is (node_value typed n)

  pub out_value : (n : ℕ) (a : Shape) → shape_at (known_of typed) n ≡ Some a → width (Some a) ≡ 1 → Value typed (is_matrix (Some a)) (slot_of home (of_node n 0) ∷ [])
  out_value n a is one = subst (λ (us : List Unknown). Value typed (is_matrix (Some a)) (slots_of home us)) (single n a is one) (value_as n a is)

  pub out_at : (n : ℕ) (a : Shape) → shape_at (known_of typed) n ≡ Some a → width (Some a) ≡ 1 → AllByRecursion (At typed n) (slot_of home (of_node n 0) ∷ [])
  out_at n a is one = subst (λ (us : List Unknown). AllByRecursion (At typed n) (slots_of home us)) (single n a is one) (node_at typed n)

  pub three_of : (n : ℕ) (ks : List ℕ) → AllByRecursion (Fine typed) ks → AllByRecursion (Off typed n) ks → AllByRecursion (Grid typed false) ks → AllByRecursion (Read n) ks
  three_of n [] p q r = tt
  three_of n (k ∷ ks) p q r = ((p.0, q.0, r.0), three_of n ks p.1 q.1 r.1)

  -- what is read of another expression
  pub part_reads : (n j : ℕ) (a : Shape) → j ≢ n → shape_at (known_of typed) j ≡ Some a → is_matrix (Some a) ≡ false → AllByRecursion (Read n) (slots_of home (at_node (known_of typed) j))
  part_reads n j a apart is plain =
      let v = value_as j a is in
      three_of n (slots_of home (at_node (known_of typed) j)) v.fine (node_off typed j n apart) (subst (λ (m : Bool). AllByRecursion (Grid typed m) (slots_of home (at_node (known_of typed) j))) plain v.grid)
