-- The instructions of lines: how many there are, what they name, their form, and how they grow line by line.
use Rattle.std.proofs.Common.{◌≡◌, ℕ, zero, suc, ◌+◌, ◌*◌, ◌<◌, ◌≤◌, ◌^◌, List, [], ◌∷◌, ◌++◌, length, take, drop, get_or, refl, sym, ap, ◌∙◌, subst, arith, Bool, true, false, replicate, add-one, append_assoc, cond, ℤ, Some, None}
use Rattle.std.specs.Prelude.{nat_lt}
use Rattle.std.specs.Str.{bytes_eq}
use Rattle.std.proofs.Math.Seq.{get_or-append_seam, drop-cons}
use Rattle.std.proofs.lemmas.List.{length-append, length-replicate, take_more, take_all, drop_all, replicate-append-replicate}
use Rattle.hp_word.specs.declared.name.Name.{Name}
use Rattle.hp_word.specs.declared.place.Place.{Place}
use Rattle.hp_meaning.specs.declared.line.Line.{Line}
use Rattle.hp_meaning.specs.declared.line.Line.TheVariants.{Fill, PrintSum, AddArrays, AddNumber}
use Rattle.hp_meaning.specs.Forms.{ReadsAssigned}
use Rattle.hp_lattice.specs.declared.dist.Dist.{Dist}
use Rattle.hp_lattice.specs.declared.dist.Dist.TheVariants.{Block}
use Rattle.hp_spmd.specs.declared.instr.Instr.{Instr}
use Rattle.hp_spmd.specs.declared.instr.Instr.TheVariants as instr
use Rattle.hp_spmd.specs.Exchanges.{AllJumpOutside, HasForm, LeadsPhase, Outside, SizesFollow}
use Rattle.hp_spmd.specs.Names.{ends_in_halt, names_within, targets_within}
use Rattle.hp_spmd.specs.Store.{dist_at}
use Rattle.hp_lower.specs.Code.{slot_of, names_after, lines_code}
use Rattle.hp_lower.specs.Lowering.{line_code, names_with, assigned_of, sum_code, fill_code, add_code, add_number_code}
use Rattle.hp_lower.proofs.Main.{HasAt, fills}

-- ---- the instructions stand in their list

has_behind : (front rest : List Instr) → HasAt (front ++ rest) (length front) rest
has_behind front [] = tt
has_behind front (i ∷ is) =
    let longer : (front ++ i ∷ []) ++ is ≡ front ++ i ∷ is = append_assoc front (i ∷ []) is in
    let count : length (front ++ i ∷ []) ≡ suc (length front) = length-append front (i ∷ []) ∙ add-one (length front) in (
      get_or-append_seam front i is instr.Halt,
      subst (λ l. HasAt l (suc (length front)) is) longer (subst (λ p. HasAt ((front ++ i ∷ []) ++ is) p is) count (has_behind (front ++ i ∷ []) is)),
    )

pub has_all : (list : List Instr) → HasAt list 0 list
has_all list = has_behind [] list

-- ---- names and arrays

pub names_after_append : (names : List (List ℕ)) (front rest : List Line) → names_after names (front ++ rest) ≡ names_after (names_after names front) rest
names_after_append names [] rest = refl
names_after_append names (Fill name at value count ∷ front) rest = names_after_append (name.bytes ∷ names) front rest
names_after_append names (PrintSum name ∷ front) rest = names_after_append names front rest
names_after_append names (AddArrays name at left right ∷ front) rest = names_after_append (name.bytes ∷ names) front rest
names_after_append names (AddNumber name at left n ∷ front) rest = names_after_append (name.bytes ∷ names) front rest

names_after_one : (names : List (List ℕ)) (line : Line) → names_after names (line ∷ []) ≡ names_with names line
names_after_one names (Fill name at value count) = refl
names_after_one names (PrintSum name) = refl
names_after_one names (AddArrays name at left right) = refl
names_after_one names (AddNumber name at left n) = refl

-- one line more
pub names_after_more : (names : List (List ℕ)) (lines : List Line) (i : ℕ) (line : Line) → i < length lines → names_after names (take (i + 1) lines) ≡ names_with (names_after names (take i lines)) (get_or lines i line)
names_after_more names lines i line lt =
    ap (names_after names) (take_more lines i line lt)
    ∙ names_after_append names (take i lines) (get_or lines i line ∷ [])
    ∙ names_after_one (names_after names (take i lines)) (get_or lines i line)

pub names_count : (names : List (List ℕ)) (lines : List Line) → length (names_after names lines) ≡ length names + fills lines
names_count names [] = omega arith
names_count names (Fill name at value count ∷ ls) = omega (arith, names_count (name.bytes ∷ names) ls)
names_count names (PrintSum name ∷ ls) = names_count names ls
names_count names (AddArrays name at left right ∷ ls) = omega (arith, names_count (name.bytes ∷ names) ls)
names_count names (AddNumber name at left n ∷ ls) = omega (arith, names_count (name.bytes ∷ names) ls)

pub fills_few : (lines : List Line) → fills lines ≤ length lines
fills_few [] = omega arith
fills_few (Fill name at value count ∷ ls) = omega (arith, fills_few ls)
fills_few (PrintSum name ∷ ls) = omega (arith, fills_few ls)
fills_few (AddArrays name at left right ∷ ls) = omega (arith, fills_few ls)
fills_few (AddNumber name at left n ∷ ls) = omega (arith, fills_few ls)

pub names_few : (lines : List Line) → length (names_after [] lines) ≤ length lines
names_few lines = omega (arith, names_count [] lines, fills_few lines)

pub blocks_more : (n : ℕ) → replicate n Block ++ Block ∷ [] ≡ replicate (suc n) Block
blocks_more n = replicate-append-replicate n 1 Block ∙ ap (λ m. replicate m Block) (add-one n)

pub blocks_few : (lines : List Line) (arrays : List Dist) → arrays ≡ replicate (length (names_after [] lines)) Block → length arrays ≤ length lines
blocks_few lines arrays e = omega (arith, ap length e, length-replicate (length (names_after [] lines)) Block, names_few lines)

-- an array lies in blocks, and so counts one that is not there
pub dist_at_blocks : (n k : ℕ) → dist_at (replicate n Block) k ≡ Block
dist_at_blocks zero k = refl
dist_at_blocks (suc n) zero = refl
dist_at_blocks (suc n) (suc k) = dist_at_blocks n k

some_same : (a b : Name) → Some a ≡ Some b → a ≡ b
some_same a b e = cc

no_name : (name : Name) → None ≡ Some name → ⊥
no_name name e = cc

-- a line that assigns a name, and one that assigns none
pub with_some : (names : List (List ℕ)) (line : Line) (name : Name) → assigned_of line ≡ Some name → names_with names line ≡ name.bytes ∷ names
with_some names (Fill n at value count) name e = ap (λ (m : Name). m.bytes ∷ names) (some_same n name e)
with_some names (PrintSum n) name e = absurd (no_name name e)
with_some names (AddArrays n at left right) name e = ap (λ (m : Name). m.bytes ∷ names) (some_same n name e)
with_some names (AddNumber n at left k) name e = ap (λ (m : Name). m.bytes ∷ names) (some_same n name e)

pub with_none : (names : List (List ℕ)) (line : Line) → assigned_of line ≡ None → names_with names line ≡ names
with_none names (Fill n at value count) e = absurd (no_name n (sym e))
with_none names (PrintSum n) e = refl
with_none names (AddArrays n at left right) e = absurd (no_name n (sym e))
with_none names (AddNumber n at left k) e = absurd (no_name n (sym e))

-- ---- the slot of a name

-- so far these are the slot of the name and the number of arrays of the first lines
pub record HasScanned (lines : List Line) (name : List ℕ) (i slot arrays : ℕ) : Type 0 where
  pub slot_is : slot ≡ slot_of (names_after [] (take i lines)) name
  pub arrays_are : arrays ≡ length (names_after [] (take i lines))
  pub few : arrays ≤ i

pub scans_none : (lines : List Line) (name : List ℕ) → HasScanned lines name 0 0 0
scans_none lines name = record { slot_is = refl; arrays_are = refl; few = omega arith }

pub scans_more : (lines : List Line) (name : List ℕ) (i slot arrays : ℕ) (line : Line) → i < length lines → line ≡ get_or lines i line → HasScanned lines name i slot arrays
    → (slot2 arrays2 : ℕ) → slot2 ≡ slot_of (names_with (names_after [] (take i lines)) line) name → arrays2 ≡ length (names_with (names_after [] (take i lines)) line) → arrays2 ≤ i + 1
    → HasScanned lines name (i + 1) slot2 arrays2
scans_more lines name i slot arrays line lt is so slot2 arrays2 slots count few =
    let names = names_after [] (take i lines) in
    let next : names_after [] (take (i + 1) lines) ≡ names_with names line = names_after_more [] lines i line lt ∙ ap (names_with names) (sym is) in
    record { slot_is = slots ∙ ap (λ ns. slot_of ns name) (sym next); arrays_are = count ∙ ap length (sym next); few = few }

-- ---- line by line

pub lines_code_line : (names : List (List ℕ)) (line : Line) (lines : List Line) → lines_code names (line ∷ lines) ≡ line_code names line ++ lines_code (names_with names line) lines
lines_code_line names (Fill name at value count) lines = refl
lines_code_line names (PrintSum name) lines = refl
lines_code_line names (AddArrays name at left right) lines = refl
lines_code_line names (AddNumber name at left n) lines = refl

-- so far these instructions and arrays were made of the first lines
pub record HasLowered (lines : List Line) (i : ℕ) (list : List Instr) (arrays : List Dist) : Type 0 where
  pub code : list ++ lines_code (names_after [] (take i lines)) (drop i lines) ≡ lines_code [] lines
  pub blocks : arrays ≡ replicate (length (names_after [] (take i lines))) Block

pub lowers_none : (lines : List Line) → HasLowered lines 0 [] []
lowers_none lines = record { code = refl; blocks = refl }

pub lowers_more : (lines : List Line) (i : ℕ) (line : Line) (list : List Instr) (arrays : List Dist) → i < length lines → line ≡ get_or lines i line → HasLowered lines i list arrays
    → (list2 : List Instr) (arrays2 : List Dist) → list2 ≡ list ++ line_code (names_after [] (take i lines)) line → arrays2 ≡ replicate (length (names_with (names_after [] (take i lines)) line)) Block
    → HasLowered lines (i + 1) list2 arrays2
lowers_more lines i line list arrays lt is so list2 arrays2 longer more =
    let names = names_after [] (take i lines) in
    let next : names_after [] (take (i + 1) lines) ≡ names_with names line = names_after_more [] lines i line lt ∙ ap (names_with names) (sym is) in
    let rest : drop i lines ≡ line ∷ drop (i + 1) lines = drop-cons lines i line lt ∙ ap (λ l. l ∷ drop (suc i) lines) (sym is) ∙ ap (λ k. line ∷ drop k lines) (sym (add-one i)) in
    record {
      code =
          ap (λ l. l ++ lines_code (names_after [] (take (i + 1) lines)) (drop (i + 1) lines)) longer
          ∙ ap (λ ns. (list ++ line_code names line) ++ lines_code ns (drop (i + 1) lines)) next
          ∙ append_assoc list (line_code names line) (lines_code (names_with names line) (drop (i + 1) lines))
          ∙ ap (λ l. list ++ l) (sym (lines_code_line names line (drop (i + 1) lines)) ∙ ap (lines_code names) (sym rest))
          ∙ so.code;
      blocks = more ∙ ap (λ ns. replicate (length ns) Block) (sym next);
    }

-- behind the last line stands Halt
pub lowers_all : (lines : List Line) (i : ℕ) (list : List Instr) (arrays : List Dist) → length lines ≤ i → HasLowered lines i list arrays
    → (list ++ instr.Halt ∷ [] ≡ lines_code [] lines) × (arrays ≡ replicate (length (names_after [] lines)) Block)
lowers_all lines i list arrays le so =
    let all : take i lines ≡ lines = take_all i lines le in
    let rest : drop i lines ≡ [] = drop_all i lines le in
    (ap (λ ls. list ++ lines_code (names_after [] (take i lines)) ls) (sym rest) ∙ so.code, so.blocks ∙ ap (λ ls. replicate (length (names_after [] ls)) Block) all)

-- ---- how many instructions there are, and the last one

pub code_few : (names : List (List ℕ)) (lines : List Line) → length (lines_code names lines) ≤ 9 * length lines + 1
code_few names [] = omega arith
code_few names (Fill name at value count ∷ ls) = omega (arith, code_few (name.bytes ∷ names) ls)
code_few names (PrintSum name ∷ ls) = omega (arith, code_few names ls)
code_few names (AddArrays name at left right ∷ ls) = omega (arith, code_few (name.bytes ∷ names) ls)
code_few names (AddNumber name at left n ∷ ls) = omega (arith, code_few (name.bytes ∷ names) ls)

pub code_small : (lines : List Line) → length lines ≤ 65536 → length (lines_code [] lines) < 2 ^ 32
code_small lines few = omega (arith, code_few [] lines)

ends_later : (i : Instr) (is : List Instr) → ends_in_halt is ≡ true → ends_in_halt (i ∷ is) ≡ true
ends_later i [] e = absurd (false_true e)
  where
    false_true : false ≡ true → ⊥
    false_true h = cc
ends_later i (j ∷ is) e = e

ends_behind : (front rest : List Instr) → ends_in_halt rest ≡ true → ends_in_halt (front ++ rest) ≡ true
ends_behind [] rest e = e
ends_behind (i ∷ front) rest e = ends_later i (front ++ rest) (ends_behind front rest e)

pub code_ends : (names : List (List ℕ)) (lines : List Line) → ends_in_halt (lines_code names lines) ≡ true
code_ends names [] = refl
code_ends names (Fill name at value count ∷ ls) = ends_behind (fill_code (length names) at value count) (lines_code (name.bytes ∷ names) ls) (code_ends (name.bytes ∷ names) ls)
code_ends names (PrintSum name ∷ ls) = ends_behind (sum_code (slot_of names name.bytes)) (lines_code names ls) (code_ends names ls)
code_ends names (AddArrays name at left right ∷ ls) = ends_behind (add_code (length names) at (slot_of names left.bytes) (slot_of names right.bytes)) (lines_code (name.bytes ∷ names) ls) (code_ends (name.bytes ∷ names) ls)
code_ends names (AddNumber name at left n ∷ ls) = ends_behind (add_number_code (length names) at (slot_of names left.bytes) n) (lines_code (name.bytes ∷ names) ls) (code_ends (name.bytes ∷ names) ls)

-- ---- what the instructions name

slot_by : (b : Bool) (count slot : ℕ) → slot ≤ count → cond b count slot ≤ count
slot_by true count slot le = omega arith
slot_by false count slot le = le

slot_within : (names : List (List ℕ)) (name : List ℕ) → 0 < length names → slot_of names name < length names
slot_within [] name some = some
slot_within (m ∷ ms) name some = omega (arith, slot_by (bytes_eq m name) (length ms) (slot_of ms name) (slot_most ms))
  where
    slot_most : (ns : List (List ℕ)) → slot_of ns name ≤ length ns
    slot_most [] = omega arith
    slot_most (n ∷ ns) = omega (arith, slot_by (bytes_eq n name) (length ns) (slot_of ns name) (slot_most ns))

below : (a b : ℕ) → a < b → nat_lt a b ≡ true
below a b lt = grind arith

-- what the instructions of an addition name
add_within : (arrays slot left right : ℕ) (at : Place) (rest : List Instr) → nat_lt left arrays ≡ true → nat_lt right arrays ≡ true → nat_lt slot arrays ≡ true → names_within 3 arrays 0 rest ≡ true → names_within 3 arrays 0 (add_code slot at left right ++ rest) ≡ true
unfolding Rattle.hp_word.specs.declared.elem.Elem.TheBlock.hidden-the_row-Elem-0 denote.Hole.Carrier.hidden
add_within arrays slot left right at rest l r s w = rw (l, r, s, w) refl

add_number_within : (arrays slot left : ℕ) (at : Place) (n : ℤ) (rest : List Instr) → nat_lt left arrays ≡ true → nat_lt slot arrays ≡ true → names_within 3 arrays 0 rest ≡ true → names_within 3 arrays 0 (add_number_code slot at left n ++ rest) ≡ true
unfolding Rattle.hp_word.specs.declared.elem.Elem.TheBlock.hidden-the_row-Elem-0 denote.Hole.Carrier.hidden
add_number_within arrays slot left at n rest l s w = rw (l, s, w) refl

pub code_within : (arrays : ℕ) (known names : List (List ℕ)) (lines : List Line) → length known ≡ length names → length names + fills lines ≤ arrays → ReadsAssigned known lines → names_within 3 arrays 0 (lines_code names lines) ≡ true
code_within arrays known names [] same room reads = refl
code_within arrays known names (Fill name at value count ∷ ls) same room reads =
    let next : length (known ++ name.bytes ∷ []) ≡ suc (length names) = length-append known (name.bytes ∷ []) ∙ add-one (length known) ∙ ap suc same in
    rw (below (length names) arrays (omega arith)) (code_within arrays (known ++ name.bytes ∷ []) (name.bytes ∷ names) ls next (omega arith) reads.1)
code_within arrays known names (PrintSum name ∷ ls) same room reads =
    let next : length (known ++ []) ≡ length names = length-append known [] ∙ omega arith in
    let some : 0 < length names = omega (arith, reads.0.0.1) in
    rw (below (slot_of names name.bytes) arrays (omega (arith, slot_within names name.bytes some))) (code_within arrays (known ++ []) names ls next room reads.1)
code_within arrays known names (AddArrays name at left right ∷ ls) same room reads =
    let next : length (known ++ name.bytes ∷ []) ≡ suc (length names) = length-append known (name.bytes ∷ []) ∙ add-one (length known) ∙ ap suc same in
    let some : 0 < length names = omega (arith, reads.0.0.1) in
    let l = below (slot_of names left.bytes) arrays (omega (arith, slot_within names left.bytes some)) in
    let r = below (slot_of names right.bytes) arrays (omega (arith, slot_within names right.bytes some)) in
    add_within arrays (length names) (slot_of names left.bytes) (slot_of names right.bytes) at (lines_code (name.bytes ∷ names) ls) l r (below (length names) arrays (omega arith))
    (code_within arrays (known ++ name.bytes ∷ []) (name.bytes ∷ names) ls next (omega arith) reads.1)
code_within arrays known names (AddNumber name at left n ∷ ls) same room reads =
    let next : length (known ++ name.bytes ∷ []) ≡ suc (length names) = length-append known (name.bytes ∷ []) ∙ add-one (length known) ∙ ap suc same in
    let some : 0 < length names = omega (arith, reads.0.0.1) in
    let l = below (slot_of names left.bytes) arrays (omega (arith, slot_within names left.bytes some)) in
    add_number_within arrays (length names) (slot_of names left.bytes) at n (lines_code (name.bytes ∷ names) ls) l (below (length names) arrays (omega arith))
    (code_within arrays (known ++ name.bytes ∷ []) (name.bytes ∷ names) ls next (omega arith) reads.1)

-- what a code is sound by: few instructions, Halt at the end, and names within its counts
pub sound_small : (lines : List Line) (list : List Instr) → list ≡ lines_code [] lines → length lines ≤ 65536 → length list < 2 ^ 32
sound_small lines list e few = subst (λ l. length l < 2 ^ 32) (sym e) (code_small lines few)

pub sound_ends : (lines : List Line) (list : List Instr) → list ≡ lines_code [] lines → ends_in_halt list ≡ true
sound_ends lines list e = ap ends_in_halt e ∙ code_ends [] lines

pub sound_within : (lines : List Line) (list : List Instr) (arrays : List Dist) → list ≡ lines_code [] lines → arrays ≡ replicate (length (names_after [] lines)) Block → ReadsAssigned [] lines → names_within 3 (length arrays) 0 list ≡ true
sound_within lines list arrays e blocks reads =
    let room : 0 + fills lines ≤ length arrays = omega (arith, ap length blocks, length-replicate (length (names_after [] lines)) Block, names_count [] lines) in
    ap (names_within 3 (length arrays) 0) e ∙ code_within (length arrays) [] [] lines refl room reads

-- ---- the form

code_leads : (names : List (List ℕ)) (lines : List Line) → LeadsPhase Outside (lines_code names lines) Outside
code_leads names [] = (refl, refl)
code_leads names (Fill name at value count ∷ ls) = (refl, (refl, (refl, code_leads (name.bytes ∷ names) ls)))
code_leads names (PrintSum name ∷ ls) = (refl, (refl, (refl, (refl, (refl, (refl, (refl, (refl, (refl, code_leads names ls)))))))))
code_leads names (AddArrays name at left right ∷ ls) = (refl, (refl, code_leads (name.bytes ∷ names) ls))
code_leads names (AddNumber name at left n ∷ ls) = (refl, code_leads (name.bytes ∷ names) ls)

-- there is no jump
code_jumps : (whole : List Instr) (names : List (List ℕ)) (lines : List Line) → AllJumpOutside whole (lines_code names lines)
code_jumps whole names [] = (tt, tt)
code_jumps whole names (Fill name at value count ∷ ls) = (tt, (tt, (tt, code_jumps whole (name.bytes ∷ names) ls)))
code_jumps whole names (PrintSum name ∷ ls) = (tt, (tt, (tt, (tt, (tt, (tt, (tt, (tt, (tt, code_jumps whole names ls)))))))))
code_jumps whole names (AddArrays name at left right ∷ ls) = (tt, (tt, code_jumps whole (name.bytes ∷ names) ls))
code_jumps whole names (AddNumber name at left n ∷ ls) = (tt, code_jumps whole (name.bytes ∷ names) ls)

-- there is no join
code_sizes : (names : List (List ℕ)) (lines : List Line) → SizesFollow (lines_code names lines)
code_sizes names [] = (tt, tt)
code_sizes names (Fill name at value count ∷ ls) = (tt, (tt, (tt, code_sizes (name.bytes ∷ names) ls)))
code_sizes names (PrintSum name ∷ ls) = (tt, (tt, (tt, (tt, (tt, (tt, (tt, (tt, (tt, code_sizes names ls)))))))))
code_sizes names (AddArrays name at left right ∷ ls) = (tt, (tt, code_sizes (name.bytes ∷ names) ls))
code_sizes names (AddNumber name at left n ∷ ls) = (tt, code_sizes (name.bytes ∷ names) ls)

pub code_form : (names : List (List ℕ)) (lines : List Line) → HasForm (lines_code names lines)
code_form names lines = record { leads = code_leads names lines; jumps = code_jumps (lines_code names lines) names lines; sizes = code_sizes names lines }

code_targets : (count : ℕ) (names : List (List ℕ)) (lines : List Line) → targets_within count (lines_code names lines) ≡ true
code_targets count names [] = refl
code_targets count names (Fill name at value n ∷ ls) = code_targets count (name.bytes ∷ names) ls
code_targets count names (PrintSum name ∷ ls) = code_targets count names ls
code_targets count names (AddArrays name at left right ∷ ls) = code_targets count (name.bytes ∷ names) ls
code_targets count names (AddNumber name at left n ∷ ls) = code_targets count (name.bytes ∷ names) ls

pub sound_targets : (lines : List Line) (list : List Instr) → list ≡ lines_code [] lines → targets_within (length list) list ≡ true
sound_targets lines list e = ap (targets_within (length list)) e ∙ code_targets (length list) [] lines
