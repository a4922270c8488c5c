-- The greatest of what the steps of a program want.
use Rattle.std.proofs.Common.{◌≡◌, ◌∙◌, refl, sym, ap, arith, ℕ, ◌+◌, ◌<◌, max, List, [], ◌∷◌, ◌++◌, map, take, get_or, length}
use Rattle.std.proofs.lemmas.List.{take_more, map-append}
use Rattle.hp_air.specs.declared.what.Op.{Op}
use Rattle.hp_program.specs.Programs.{Prog, operations}
use Rattle.hp_program.proofs.Replaced.{operations_joined}
use Rattle.hp_parfor.specs.declared.parfor.Parfor.{Parfor}
use Rattle.hp_parfor.specs.declared.parfor.Step.{Step}
use Rattle.hp_parfor.specs.declared.parfor.Step.TheVariants as step
use Rattle.hp_parfor.specs.declared.parfor.Step.TheViews.{If, While}
use Rattle.hp_parfor.specs.Parts.{Part, Does, Loops, program_of, step_of}
use Rattle.hp_parfor.proofs.StepLemmas.{row_steps, steps_joined}
use Rattle.hp_lowering.specs.Room.{greatest}

greatest_join : (xs ys : List ℕ) → greatest (xs ++ ys) ≡ max (greatest xs) (greatest ys)
greatest_join [] ys = let e : greatest ys ≡ max 0 (greatest ys) = omega arith in e
greatest_join (x ∷ xs) ys =
    let more = greatest_join xs ys in
    let e : max x (max (greatest xs) (greatest ys)) ≡ max (max x (greatest xs)) (greatest ys) = omega arith in
    ap (max x) more ∙ e

-- what the steps of a body want the most of
abbrev pub most : (Part → ℕ) → List Step → ℕ
most wants body = greatest (map wants (operations (program_of body)))

pub both_most : {a b c d : ℕ} → a ≡ c → b ≡ d → max a b ≡ max c d
both_most p q = λ i. max (p i) (q i)

module _ (wants : Part → ℕ) where
  abbrev over : List Part → ℕ
  over parts = greatest (map wants parts)

  over_join : (xs ys : List Part) → over (xs ++ ys) ≡ max (over xs) (over ys)
  over_join xs ys = ap greatest (map-append wants xs ys) ∙ greatest_join (map wants xs) (map wants ys)

  most_join : (first second : List Step) → most wants (first ++ second) ≡ max (most wants first) (most wants second)
  most_join first second = ap (λ (p : Prog Part). over (operations p)) (steps_joined first second) ∙ ap over (operations_joined (program_of first) (program_of second)) ∙ over_join (operations (program_of first)) (operations (program_of second))

  pub most_none : 0 ≡ most wants []
  unfolding program_of operations
  most_none = refl

  pub most_next : (steps : List Step) (i : ℕ) (s : Step) (old new : ℕ) → i < length steps → s ≡ get_or steps i s → old ≡ most wants (take i steps) → new ≡ max old (most wants (s ∷ [])) → new ≡ most wants (take (i + 1) steps)
  most_next steps i s old new lt is so now =
      now ∙ ap (λ n. max n (most wants (s ∷ []))) so ∙ sym (most_join (take i steps) (s ∷ [])) ∙ ap (most wants) (ap (λ x. take i steps ++ x ∷ []) is ∙ sym (take_more steps i s lt))

  pub most_plain : (op : Op) (s : Step) (n : ℕ) → s ≡ step.Plain op → n ≡ wants (Does op) → n ≡ most wants (s ∷ [])
  unfolding program_of step_of operations
  most_plain op s n is so = let e : wants (Does op) ≡ max (wants (Does op)) 0 = omega arith in so ∙ e ∙ sym (ap (λ (x : Step). most wants (x ∷ [])) is)

  pub most_loop : (p : Parfor) (s : Step) (n : ℕ) → s ≡ step.Loop p → n ≡ wants (Loops p) → n ≡ most wants (s ∷ [])
  unfolding program_of step_of operations
  most_loop p s n is so = let e : wants (Loops p) ≡ max (wants (Loops p)) 0 = omega arith in so ∙ e ∙ sym (ap (λ (x : Step). most wants (x ∷ [])) is)

  two : (a b : Prog Part) (n : ℕ) → n ≡ max (over (operations a)) (over (operations b)) → n ≡ over ((operations a ++ operations b) ++ [])
  two a b n so =
      let e : max (over (operations a)) (over (operations b)) ≡ max (max (over (operations a)) (over (operations b))) 0 = omega arith in
      so ∙ e ∙ ap (λ k. max k 0) (sym (over_join (operations a) (operations b))) ∙ sym (over_join (operations a ++ operations b) [])

  pub most_choice : (word : ℕ) (first second : List Step) (s : Step) (n : ℕ) → s ≡ If word first second → n ≡ max (most wants first) (most wants second) → n ≡ most wants (s ∷ [])
  unfolding program_of step_of operations
  most_choice word first second s n is so = rw (is, row_steps first, row_steps second) (two (program_of first) (program_of second) n so)

  pub most_turns : (word : ℕ) (test body : List Step) (s : Step) (n : ℕ) → s ≡ While test word body → n ≡ max (most wants test) (most wants body) → n ≡ most wants (s ∷ [])
  unfolding program_of step_of operations
  most_turns word test body s n is so = rw (is, row_steps test, row_steps body) (two (program_of test) (program_of body) n so)
