-- Lines that were built read only what lines before them assign.
use Rattle.std.proofs.Common.{◌≡◌, ℕ, List, [], ◌∷◌, ◌++◌, Bool, true, false, cond, Option, Some, None, Result, Ok, Err, refl, sym, ap, ◌∙◌, subst, append_assoc, append-nil}
use Rattle.std.specs.Prelude.{Contains, ◌&&◌, ◌||◌}
use Rattle.std.specs.Str.{bytes_eq}
use Rattle.std.specs.List.{list_any}
use Rattle.std.proofs.lemmas.Map.Views.{Contains-from_any}
use Rattle.std.proofs.lemmas.Slice.Eq.{bytes_eq-Decides}
use Rattle.hp_word.specs.declared.place.Place.{Place}
use Rattle.hp_script.specs.Mirror.{Block, done, assign, print, export, choose, loop}
use Rattle.hp_meaning.specs.declared.line.Line.{Line}
use Rattle.hp_meaning.specs.declared.line.Line.TheVariants.{Fill, PrintSum, AddArrays, AddNumber}
use Rattle.hp_meaning.specs.Forms.{ReadsOnly, ReadsAssigned, assigned, assigned_by, is_assigned, reads_assigned, assigned_form, printed_form, built, built_next, with_line}

-- whether lines assign a name, by the names that they assign
assigned_is : (lines : List Line) (name : List ℕ) → is_assigned lines name ≡ list_any (bytes_eq name) (assigned lines)
unfolding is_assigned
assigned_is [] name = refl
assigned_is (Fill other at value count ∷ lines) name = ap (λ (b : Bool). bytes_eq name other.bytes || b) (assigned_is lines name)
assigned_is (PrintSum other ∷ lines) name = assigned_is lines name
assigned_is (AddArrays other at left right ∷ lines) name = ap (λ (b : Bool). bytes_eq name other.bytes || b) (assigned_is lines name)
assigned_is (AddNumber other at left value ∷ lines) name = ap (λ (b : Bool). bytes_eq name other.bytes || b) (assigned_is lines name)

assigned_sound : (lines : List Line) (name : List ℕ) → is_assigned lines name ≡ true → Contains (assigned lines) name
assigned_sound lines name e = Contains-from_any (λ x y h. (bytes_eq-Decides x y).0 h) name (assigned lines) (sym (assigned_is lines name) ∙ e)

both_true : (a b : Bool) → (a && b) ≡ true → (a ≡ true) × (b ≡ true)
both_true true b e = (refl, e)
both_true false b e = absurd cc

-- a line reads what the lines before it assign, where the test says so
reads_sound : (before : List Line) (line : Line) → reads_assigned before line ≡ true → ReadsOnly (assigned before) line
reads_sound before (Fill name at value count) e = tt
reads_sound before (PrintSum name) e = (assigned_sound before name.bytes e, tt)
reads_sound before (AddArrays name at left right) e =
    let both = both_true (is_assigned before left.bytes) (is_assigned before right.bytes) e in
    (assigned_sound before left.bytes both.0, (assigned_sound before right.bytes both.1, tt))
reads_sound before (AddNumber name at left value) e = (assigned_sound before left.bytes e, tt)

-- ---- what was built

assigned_more : (before : List Line) (line : Line) → assigned (before ++ line ∷ []) ≡ assigned before ++ assigned_by line
assigned_more [] line = append-nil (assigned_by line)
assigned_more (x ∷ before) line = ap (λ ns. assigned_by x ++ ns) (assigned_more before line) ∙ sym (append_assoc (assigned_by x) (assigned before) (assigned_by line))

-- a first line and those behind it
pub record Begins (before : List Line) (form : Option Line) (more : List Line → Result (List Line) Place) (lines : List Line) : Type 0 where
  pub line : Line
  pub rest : List Line
  pub parts : lines ≡ line ∷ rest
  pub found : form ≡ Some line
  pub reads : reads_assigned before line ≡ true
  pub goes_on : more (before ++ line ∷ []) ≡ Ok rest

with_ok : (line : Line) (r : Result (List Line) Place) (lines : List Line) → with_line line r ≡ Ok lines → (rest : List Line) × (r ≡ Ok rest) × (lines ≡ line ∷ rest)
with_ok line (Ok rest) lines e = (rest, refl, cc)
with_ok line (Err at) lines e = absurd cc

read_ok : (b : Bool) (at : Place) (r : Result (List Line) Place) (lines : List Line) → cond b r (Err at) ≡ Ok lines → (b ≡ true) × (r ≡ Ok lines)
read_ok true at r lines e = (refl, e)
read_ok false at r lines e = absurd cc

pub next_ok : (before : List Line) (at : Place) (form : Option Line) (more : List Line → Result (List Line) Place) (lines : List Line) → built_next before at form more ≡ Ok lines → Begins before form more lines
next_ok before at None more lines e = absurd cc
next_ok before at (Some line) more lines e =
    let read = read_ok (reads_assigned before line) at (with_line line (more (before ++ line ∷ []))) lines e in
    let whole = with_ok line (more (before ++ line ∷ [])) lines read.1 in
    record { line = line; rest = whole.0; parts = whole.2; found = refl; reads = read.0; goes_on = whole.1 }

more_reads : (before : List Line) (form : Option Line) (more : List Line → Result (List Line) Place) (lines : List Line) → Begins before form more lines
    → ((next rest : List Line) → more next ≡ Ok rest → ReadsAssigned (assigned next) rest) → ReadsAssigned (assigned before) lines
more_reads before form more lines b again =
    subst (ReadsAssigned (assigned before)) (sym b.parts)
    (reads_sound before b.line b.reads, subst (λ names. ReadsAssigned names b.rest) (assigned_more before b.line) (again (before ++ b.line ∷ []) b.rest b.goes_on))

pub built_reads : (before : List Line) (block : Block) (lines : List Line) → built before block ≡ Ok lines → ReadsAssigned (assigned before) lines
unfolding built
built_reads before done lines e = let none : lines ≡ [] = cc in subst (ReadsAssigned (assigned before)) (sym none) tt
built_reads before (assign at name x rest) lines e =
    let b = next_ok before at (assigned_form name x) (λ ls. built ls rest) lines e in
    more_reads before (assigned_form name x) (λ ls. built ls rest) lines b (λ next ls h. built_reads next rest ls h)
built_reads before (print at x rest) lines e =
    let b = next_ok before at (printed_form x) (λ ls. built ls rest) lines e in
    more_reads before (printed_form x) (λ ls. built ls rest) lines b (λ next ls h. built_reads next rest ls h)
built_reads before (export at x rest) lines e = absurd cc
built_reads before (choose at test body other rest) lines e = absurd cc
built_reads before (loop at test body rest) lines e = absurd cc
