-- Frames of slots: a list of all slots of one frame has both or none of two slots of one frame; so a write of arrays of
-- one length to it keeps the lengths of frames even.
use Rattle.std.proofs.Common.{◌≡◌, ℕ, zero, suc, ◌<◌, ◌==◌, Bool, true, false, not, ◌&&◌, ◌||◌, cond, List, [], ◌∷◌, map, filter, length, Option, Some, None, IsTrue, position, unwrap_or, refl, sym, ap, subst, ◌∙◌, arith}
use Rattle.std.proofs.lemmas.Bool.{eqb-true, eq-eqb}
use Rattle.std.proofs.lemmas.List.Folds.{list_any_at}
use Rattle.std.proofs.lemmas.List.FromFn.{length-range_with_len, get_or-range_with_len}
use Rattle.std.proofs.lemmas.List.Quantifiers.{position-Some}
use Rattle.std.proofs.lemmas.Map.Views.{any-filter_same}
use Rattle.std.specs.List.{AllByRecursion, list_all, list_any, range_with_len}
use Rattle.std.specs.Option.{is_some}
use Rattle.hp_word.specs.declared.place.NodeId.{NodeId}
use Rattle.hp_program.proofs.Keeping.{first_holds, second_holds}
use Rattle.hp_air.specs.declared.slot.Slot.{Slot}
use Rattle.hp_air.specs.Frames.{numbers_of, slot_at, is_one_node, is_one_var, is_one_frame, frame_of, first_of}
use Rattle.hp_air.specs.Kept.{stands_for_one, are_equal, is_frame, is_side}
use Rattle.hp_air.specs.Wholes.{Whole, cells, changed_all}

-- ---- two slots of one frame

-- neither is a balanced copy
pub unbalanced : (a b : Slot) → IsTrue (is_one_frame a b) → (a.balanced ≡ false) × (b.balanced ≡ false)
unbalanced a b one = by a.balanced b.balanced (first_holds _ _ one)
  where
    by : (p q : Bool) → IsTrue (not (p || q)) → (p ≡ false) × (q ≡ false)
    by false false h = (refl, refl)
    by false true h = absurd cc
    by true q h = absurd cc

-- both are slots of the program
within : (slots : List Slot) (j : ℕ) (b : Slot) → IsTrue (is_one_frame (slot_at slots j) b) → j < length slots
within [] j b one = let wrong : IsTrue false = second_holds (not b.balanced) false one in absurd cc
within (s ∷ slots) zero b one = omega arith
within (s ∷ slots) (suc j) b one = let rest : j < length slots = within slots j b one in omega arith

with_nothing : (node : Option NodeId) (var : Option ℕ) → IsTrue (is_one_node node None || is_one_var var None) → ⊥
with_nothing None None one = absurd cc
with_nothing None (Some x) one = absurd cc
with_nothing (Some x) None one = absurd cc
with_nothing (Some x) (Some y) one = absurd cc

also_within : (slots : List Slot) (k : ℕ) (a : Slot) → IsTrue (is_one_frame a (slot_at slots k)) → k < length slots
also_within [] k a one = absurd (with_nothing a.node a.var (second_holds _ _ one))
also_within (s ∷ slots) zero a one = omega arith
also_within (s ∷ slots) (suc k) a one = let rest : k < length slots = also_within slots k a one in omega arith

slot_stands : (slots : List Slot) (j : ℕ) → IsTrue (list_all stands_for_one slots) → j < length slots → IsTrue (stands_for_one (slot_at slots j))
slot_stands [] j all lt = absurd (omega arith)
slot_stands (s ∷ slots) zero all lt = first_holds _ _ all
slot_stands (s ∷ slots) (suc j) all lt = slot_stands slots j (second_holds _ _ all) (omega arith)

-- ---- a third slot is of the frame of both or of none

abbrev stands : Option NodeId → Option ℕ → Bool
stands node var = (is_some node && not (is_some var)) || (not (is_some node) && is_some var && not false)

or_alone : (b : Bool) → IsTrue (b || false) → b ≡ true
or_alone true h = refl
or_alone false h = absurd cc

node_alike : (h : Option NodeId) (x y : NodeId) → x.0 ≡ y.0 → is_one_node h (Some x) ≡ is_one_node h (Some y)
node_alike None x y e = refl
node_alike (Some z) x y e = ap (λ n. z.0 == n) e

var_alike : (h : Option ℕ) (x y : ℕ) → x ≡ y → is_one_var h (Some x) ≡ is_one_var h (Some y)
var_alike None x y e = refl
var_alike (Some z) x y e = ap (λ n. z == n) e

third_alike : (h a b : Option NodeId) (h2 a2 b2 : Option ℕ) → IsTrue (stands a a2) → IsTrue (stands b b2) → IsTrue (is_one_node a b || is_one_var a2 b2)
    → (is_one_node h a || is_one_var h2 a2) ≡ (is_one_node h b || is_one_var h2 b2)
third_alike h (Some x) (Some y) h2 None None sa sb one = ap (λ t. t || is_one_var h2 None) (node_alike h x y (eqb-true _ _ (or_alone (x.0 == y.0) one)))
third_alike h None None h2 (Some x) (Some y) sa sb one = ap (λ t. is_one_node h None || t) (var_alike h2 x y (eqb-true _ _ one))
third_alike h (Some x) b h2 (Some y) b2 sa sb one = absurd cc
third_alike h None b h2 None b2 sa sb one = absurd cc
third_alike h (Some x) (Some y) h2 None (Some z) sa sb one = absurd cc
third_alike h (Some x) None h2 None None sa sb one = absurd cc
third_alike h (Some x) None h2 None (Some z) sa sb one = absurd cc
third_alike h None (Some x) h2 (Some y) None sa sb one = absurd cc
third_alike h None (Some x) h2 (Some y) (Some z) sa sb one = absurd cc
third_alike h None None h2 (Some y) None sa sb one = absurd cc

-- the same with what tells whether they are balanced copies
frame_alike : (hb ab bb : Bool) (h a b : Option NodeId) (h2 a2 b2 : Option ℕ) → ab ≡ false → bb ≡ false
    → IsTrue ((is_some a && not (is_some a2)) || (not (is_some a) && is_some a2 && not ab)) → IsTrue ((is_some b && not (is_some b2)) || (not (is_some b) && is_some b2 && not bb))
    → IsTrue (not (ab || bb) && (is_one_node a b || is_one_var a2 b2))
    → (not (hb || ab) && (is_one_node h a || is_one_var h2 a2)) ≡ (not (hb || bb) && (is_one_node h b || is_one_var h2 b2))
frame_alike hb false false h a b h2 a2 b2 p q sa sb one = ap (λ t. not (hb || false) && t) (third_alike h a b h2 a2 b2 sa sb one)
frame_alike hb true bb h a b h2 a2 b2 p q sa sb one = absurd cc
frame_alike hb false true h a b h2 a2 b2 p q sa sb one = absurd cc

one_third : (s a b : Slot) → IsTrue (stands_for_one a) → IsTrue (stands_for_one b) → IsTrue (is_one_frame a b) → is_one_frame s a ≡ is_one_frame s b
one_third s a b sa sb one =
    let plain : (a.balanced ≡ false) × (b.balanced ≡ false) = unbalanced a b one in
    frame_alike s.balanced a.balanced b.balanced s.node a.node b.node s.var a.var b.var plain.0 plain.1 sa sb one

-- ---- lists of slots

abbrev pub among : List ℕ → ℕ → Bool
among ks j = list_any (λ k. j == k) ks

among_numbers : (n j : ℕ) → j < n → among (range_with_len 0 n) j ≡ true
among_numbers n j lt =
    list_any_at (λ k. j == k) (range_with_len 0 n) j 0 (omega (arith, length-range_with_len 0 n)) (eq-eqb _ _ (omega (arith, get_or-range_with_len 0 n j 0 lt)))

-- the list has both or none of two slots of one frame
abbrev pub IsClosed : List Slot → List ℕ → Type 0
IsClosed slots ks = (j k : ℕ) → IsTrue (is_one_frame (slot_at slots j) (slot_at slots k)) → among ks j ≡ among ks k

-- a balanced copy alone has none
apart : (slots : List Slot) (h j : ℕ) → (slot_at slots h).balanced ≡ true → (slot_at slots j).balanced ≡ false → among (h ∷ []) j ≡ false
apart slots h j copy plain = by (j == h) (eqb-true j h)
  where
    by : (test : Bool) → (test ≡ true → j ≡ h) → (test || false) ≡ false
    by false same = refl
    by true same = let wrong : (slot_at slots j).balanced ≡ true = subst (λ i. (slot_at slots i).balanced ≡ true) (sym (same refl)) copy in absurd cc

pub copy_closed : (slots : List Slot) (h : ℕ) → (slot_at slots h).balanced ≡ true → IsClosed slots (h ∷ [])
copy_closed slots h copy j k one =
    let plain : _ × _ = unbalanced (slot_at slots j) (slot_at slots k) one in
    apart slots h j copy plain.0 ∙ sym (apart slots h k copy plain.1)

-- the slots of a frame among all slots
among_frame : (slots : List Slot) (s : Slot) (j : ℕ) → j < length slots → among (filter (λ i. is_one_frame s (slot_at slots i)) (numbers_of slots)) j ≡ is_one_frame s (slot_at slots j)
among_frame slots s j lt =
    any-filter_same (λ i. j == i) (λ i. is_one_frame s (slot_at slots i)) (is_one_frame s (slot_at slots j)) (λ i same. ap (λ m. is_one_frame s (slot_at slots m)) (sym (eqb-true j i same))) (numbers_of slots)
    ∙ ap (λ t. is_one_frame s (slot_at slots j) && t) (among_numbers (length slots) j lt) ∙ and_true (is_one_frame s (slot_at slots j))
  where
    and_true : (b : Bool) → (b && true) ≡ b
    and_true true = refl
    and_true false = refl

frame_closed : (slots : List Slot) → IsTrue (list_all stands_for_one slots) → (h : ℕ) → IsClosed slots (frame_of slots h)
frame_closed slots all h j k one = by (slot_at slots h).balanced refl
  where
    in_one : j < length slots
    in_one = within slots j (slot_at slots k) one

    in_other : k < length slots
    in_other = also_within slots k (slot_at slots j) one

    by : (test : Bool) → (slot_at slots h).balanced ≡ test
        → among (cond test (h ∷ []) (filter (λ i. is_one_frame (slot_at slots h) (slot_at slots i)) (numbers_of slots))) j ≡ among (cond test (h ∷ []) (filter (λ i. is_one_frame (slot_at slots h) (slot_at slots i)) (numbers_of slots))) k
    by true e = copy_closed slots h e j k one
    by false e =
        among_frame slots (slot_at slots h) j in_one
        ∙ one_third (slot_at slots h) (slot_at slots j) (slot_at slots k) (slot_stands slots j all in_one) (slot_stands slots k all in_other) one
        ∙ sym (among_frame slots (slot_at slots h) k in_other)

pub equal_lists : (js ks : List ℕ) → IsTrue (are_equal js ks) → js ≡ ks
equal_lists [] [] e = refl
equal_lists [] (k ∷ ks) e = absurd cc
equal_lists (j ∷ js) [] e = absurd cc
equal_lists (j ∷ js) (k ∷ ks) e = ap (λ i. i ∷ js) (eqb-true j k (first_holds _ _ e)) ∙ ap (λ rest. k ∷ rest) (equal_lists js ks (second_holds _ _ e))

pub frame_is_closed : (slots : List Slot) → IsTrue (list_all stands_for_one slots) → (ks : List ℕ) → IsTrue (is_frame slots ks) → IsClosed slots ks
frame_is_closed slots all [] frame j k one = refl
frame_is_closed slots all (h ∷ ks) frame j k one = subst (IsClosed slots) (equal_lists (frame_of slots h) (h ∷ ks) frame) (frame_closed slots all h) j k one

-- ---- arrays of one length

-- any two slots of one frame hold arrays of one length
abbrev pub AreEven : List Slot → (ℕ → Whole) → Type 0
AreEven slots held = (j k : ℕ) → IsTrue (is_one_frame (slot_at slots j) (slot_at slots k)) → length (cells (held j)) ≡ length (cells (held k))

-- arrays of this length
abbrev pub AreOf : ℕ → List Whole → Type 0
AreOf n xs = AllByRecursion (λ x. length (cells x) ≡ n) xs

write_next : (test rest : Bool) (x y : Whole) (n : ℕ) → length (cells x) ≡ n → (IsTrue rest → length (cells y) ≡ n) → IsTrue (test || rest) → length (cells (cond test x y)) ≡ n
write_next true rest x y n here there found = here
write_next false rest x y n here there found = there found

written : (ks : List ℕ) (xs : List Whole) (n : ℕ) (held : ℕ → Whole) (j : ℕ) → length ks ≡ length xs → AreOf n xs → IsTrue (among ks j) → length (cells (changed_all ks xs held j)) ≡ n
unfolding changed_all
written [] xs n held j even all found = absurd cc
written (k ∷ ks) [] n held j even all found = absurd (omega arith)
written (k ∷ ks) (x ∷ xs) n held j even all found = write_next (j == k) (among ks j) x (changed_all ks xs held j) n all.0 (written ks xs n held j (omega arith) all.1) found

stay_next : (test rest : Bool) (x y z : Whole) → (rest ≡ false → y ≡ z) → (test || rest) ≡ false → cond test x y ≡ z
stay_next true rest x y z same none = absurd cc
stay_next false rest x y z same none = same none

unwritten : (ks : List ℕ) (xs : List Whole) (held : ℕ → Whole) (j : ℕ) → among ks j ≡ false → changed_all ks xs held j ≡ held j
unfolding changed_all
unwritten [] xs held j none = refl
unwritten (k ∷ ks) [] held j none = refl
unwritten (k ∷ ks) (x ∷ xs) held j none = stay_next (j == k) (among ks j) x (changed_all ks xs held j) (held j) (unwritten ks xs held j) none

pub stays_even : (slots : List Slot) (ks : List ℕ) (xs : List Whole) (n : ℕ) (held : ℕ → Whole) → IsClosed slots ks → length ks ≡ length xs → AreOf n xs → AreEven slots held → AreEven slots (changed_all ks xs held)
stays_even slots ks xs n held closed even all before j k one = by (among ks j) refl
  where
    by : (test : Bool) → among ks j ≡ test → length (cells (changed_all ks xs held j)) ≡ length (cells (changed_all ks xs held k))
    by true e = written ks xs n held j even all e ∙ sym (written ks xs n held k even all (sym (closed j k one) ∙ e))
    by false e =
        ap (λ x. length (cells x)) (unwritten ks xs held j e) ∙ before j k one ∙ sym (ap (λ x. length (cells x)) (unwritten ks xs held k (sym (closed j k one) ∙ e)))

-- ---- what is read as a frame

pass_next : (test : ℕ → Bool) (k : ℕ) (rest : List ℕ) (b : Bool) → test k ≡ b → AllByRecursion (λ i. IsTrue (test i)) rest → AllByRecursion (λ i. IsTrue (test i)) (cond b (k ∷ rest) rest)
pass_next test k rest true e all = (e, all)
pass_next test k rest false e all = all

filter_passes : (test : ℕ → Bool) (ks : List ℕ) → AllByRecursion (λ k. IsTrue (test k)) (filter test ks)
filter_passes test [] = tt
filter_passes test (k ∷ ks) = pass_next test k (filter test ks) (test k) refl (filter_passes test ks)

all_long : (slots : List Slot) (h : ℕ) (held : ℕ → Whole) (ks : List ℕ) → AreEven slots held → AllByRecursion (λ k. IsTrue (is_one_frame (slot_at slots h) (slot_at slots k))) ks → AreOf (length (cells (held h))) (map held ks)
all_long slots h held [] even all = tt
all_long slots h held (k ∷ ks) even all = (sym (even h k all.0), all_long slots h held ks even all.1)

frame_long : (slots : List Slot) (h : ℕ) (held : ℕ → Whole) → AreEven slots held → AreOf (length (cells (held h))) (map held (frame_of slots h))
frame_long slots h held even = by (slot_at slots h).balanced
  where
    test : ℕ → Bool
    test = λ k. is_one_frame (slot_at slots h) (slot_at slots k)

    by : (balanced : Bool) → AreOf (length (cells (held h))) (map held (cond balanced (h ∷ []) (filter test (numbers_of slots))))
    by true = (refl, tt)
    by false = all_long slots h held (filter test (numbers_of slots)) even (filter_passes test (numbers_of slots))

-- the arrays of a frame, or of a single slot, are of one length
pub side_even : (slots : List Slot) (ks : List ℕ) (held : ℕ → Whole) → IsTrue (is_side slots ks) → AreEven slots held → (n : ℕ) × AreOf n (map held ks)
side_even slots [] held side even = (0, tt)
side_even slots (h ∷ []) held side even = (length (cells (held h)), (refl, tt))
side_even slots (h ∷ k ∷ ks) held side even =
    (length (cells (held h)), subst (λ list. AreOf (length (cells (held h))) (map held list)) (equal_lists (frame_of slots h) (h ∷ k ∷ ks) side) (frame_long slots h held even))

-- ---- the first slot of each frame

-- each slot's array has the length of the first one of its frame
pub first_even : (slots : List Slot) (held : ℕ → Whole) → AreEven slots held → (ks : List ℕ) → AllByRecursion (λ k. length (cells (held k)) ≡ length (cells (held (first_of slots k)))) ks
unfolding first_of
first_even slots held even [] = tt
first_even slots held even (k ∷ ks) = (by (position (is_one_frame (slot_at slots k)) slots) refl, first_even slots held even ks)
  where
    by : (found : Option ℕ) → position (is_one_frame (slot_at slots k)) slots ≡ found → length (cells (held k)) ≡ length (cells (held (unwrap_or found k)))
    by None e = refl
    by (Some i) e =
        even k i (position-Some (is_one_frame (slot_at slots k)) slots i (record { node = None; var = None; column = 0; matrix = false; balanced = false }) e).1
