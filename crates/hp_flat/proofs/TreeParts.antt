-- The parts of an expression have other numbers than it, and each stencil among them has its balanced copy.
use Rattle.std.proofs.Common.{◌≡◌, ◌≢◌, ℕ, ◌+◌, ◌≤◌, Bool, cond, List, [], ◌∷◌, ◌++◌, refl, sym, ap, ◌∙◌, subst, arith}
use Rattle.std.proofs.lemmas.Bool.{eq-eqb}
use Rattle.std.specs.List.{AllByRecursion}
use Rattle.hp_script.specs.Functions.{function_named}
use Rattle.hp_script.specs.Mirror.{Head, Tree, Args, number, truth, text, variable, column, field, unary, binary, index, call, none, plain, range, lambda, named}
use Rattle.hp_script.specs.Nodes.{nodes_in, nodes_in_args}
use Rattle.hp_air.specs.Arrays.{Arrays}
use Rattle.hp_air.specs.Unknowns.{Known, Unknown, Columns, number_of, at_node, arguments_of, balanced_by, binary_of, call_of, frame_around, constructs_in, constructs_among}
use Rattle.hp_flat.proofs.ServedCode.{all_apart}
use Rattle.hp_flat.proofs.StencilCopies.{among, among_append}

-- ---- numbers

-- a number is none of an expression's
abbrev pub Off : ℕ → Tree → Type 0
Off n x = among n (nodes_in x) ≡ 0

head_among : (n : ℕ) (ns : List ℕ) → 1 ≤ among n (n ∷ ns)
head_among n ns = subst (λ (b : Bool). 1 ≤ cond b 1 0 + among n ns) (sym (eq-eqb n n refl)) (omega arith)

middle_among : (n : ℕ) (ns ms : List ℕ) → 1 ≤ among n (ns ++ n ∷ ms)
middle_among n ns ms = omega (arith, among_append n ns (n ∷ ms), head_among n ms)

number_in : (x : Tree) → 1 ≤ among (number_of x) (nodes_in x)
number_in (number n z) = head_among n.id []
number_in (truth n holds) = head_among n.id []
number_in (text n bytes) = head_among n.id []
number_in (variable n x) = head_among n.id []
number_in (column n c) = head_among n.id []
number_in (field n d c) = head_among n.id []
number_in (unary n op dotted x) = head_among n.id (nodes_in x)
number_in (binary n op dotted x y) = middle_among n.id (nodes_in x) (nodes_in y)
number_in (index n x i) = middle_among n.id (nodes_in x) (nodes_in i)
number_in (call n f dotted xs) = head_among n.id (nodes_in_args xs)

pub other_number : (n : ℕ) (x : Tree) → Off n x → number_of x ≢ n
other_number n x off e =
    let is : among (number_of x) (nodes_in x) ≡ 0 = ap (λ (k : ℕ). among k (nodes_in x)) e ∙ off in
    omega (arith, number_in x, is)

-- nor one of the only argument of a call
pub off_argument : (n : ℕ) (k : Head) (f : List ℕ) (dotted : Bool) (y : Tree) → Off n (call k f dotted (plain y none)) → Off n y
off_argument n k f dotted y off = omega (arith, off, among_append n (nodes_in y) [])

-- ---- parts

module _ (g : Known) (P : Unknown → Type 0) where
  abbrev pub Has : List (Arrays Unknown) → Type 0
  Has cs = AllByRecursion (λ c. AllByRecursion P (balanced_by c)) cs

  abbrev mutual
    pub Sits : Tree → Type 0
    Sits (unary n op dotted x) = Off n.id x × Sits x
    Sits (binary n op dotted x y) = (Off n.id x × Sits x) × (Off n.id y × Sits y)
    Sits (index n x i) = (Off n.id x × Sits x) × (Off n.id i × Sits i)
    Sits (call n f dotted xs) = SitsArgs n.id xs × Has (call_of n.id (at_node g n.id) dotted (function_named dotted f) (arguments_of g xs))
    Sits _ = Unit {0}

    pub SitsArgs : ℕ → Args → Type 0
    SitsArgs n none = Unit {0}
    SitsArgs n (plain x xs) = (Off n x × Sits x) × SitsArgs n xs
    SitsArgs n (range x y xs) = (Off n x × Sits x) × (Off n y × Sits y) × SitsArgs n xs
    SitsArgs n (lambda parameter x xs) = SitsArgs n xs
    SitsArgs n (named name at x xs) = (Off n x × Sits x) × SitsArgs n xs

  abbrev pub Once : List ℕ → Type 0
  Once ns = (n : ℕ) → among n ns ≤ 1

  pub once_left : (ns ms : List ℕ) → Once (ns ++ ms) → Once ns
  once_left ns ms once n = let all = once n in omega (arith, all, among_append n ns ms)

  pub once_right : (ns ms : List ℕ) → Once (ns ++ ms) → Once ms
  once_right ns ms once n = let all = once n in omega (arith, all, among_append n ns ms)

  once_tail : (k : ℕ) (ns : List ℕ) → Once (k ∷ ns) → Once ns
  once_tail k ns once n = let all = once n in omega (arith, all)

  head_off : (k : ℕ) (ns : List ℕ) → Once (k ∷ ns) → among k ns ≡ 0
  head_off k ns once =
      let all : 1 + among k ns ≤ 1 = subst (λ (b : Bool). cond b 1 0 + among k ns ≤ 1) (eq-eqb k k refl) (once k) in
      omega (arith, all)

  middle_off : (k : ℕ) (ns ms : List ℕ) → Once (ns ++ k ∷ ms) → (among k ns ≡ 0) × (among k ms ≡ 0)
  middle_off k ns ms once =
      let all = once k in
      let first = head_off k ms (once_right ns (k ∷ ms) once) in
      (omega (arith, all, among_append k ns (k ∷ ms), head_among k ms), first)

  -- of numbers that are none of some, those of a part
  off_left : (n : ℕ) (ns ms : List ℕ) → among n (ns ++ ms) ≡ 0 → among n ns ≡ 0
  off_left n ns ms off = omega (arith, off, among_append n ns ms)

  off_right : (n : ℕ) (ns ms : List ℕ) → among n (ns ++ ms) ≡ 0 → among n ms ≡ 0
  off_right n ns ms off = omega (arith, off, among_append n ns ms)

  pub apart : (cs ds : List (Arrays Unknown)) → Has (cs ++ ds) → Has cs × Has ds
  apart cs ds all = all_apart (λ c. AllByRecursion P (balanced_by c)) cs ds all

  mutual
    unfolding constructs_in constructs_among

    pub sits : (x : Tree) (around : Columns) → Once (nodes_in x) → Has (constructs_in g around x) → Sits x
    sits (number n z) around once all = tt
    sits (truth n holds) around once all = tt
    sits (text n bytes) around once all = tt
    sits (variable n x) around once all = tt
    sits (column n c) around once all = tt
    sits (field n d c) around once all = tt
    sits (unary n op dotted x) around once all = (head_off n.id (nodes_in x) once, sits x around (once_tail n.id (nodes_in x) once) (apart (constructs_in g around x) _ all).0)
    sits (binary n op dotted x y) around once all =
        let off = middle_off n.id (nodes_in x) (nodes_in y) once in
        let both = apart (constructs_in g around x) (constructs_in g around y) (apart (constructs_in g around x ++ constructs_in g around y) (binary_of g n.id op dotted x y) all).0 in
        ((off.0, sits x around (once_left (nodes_in x) (n.id ∷ nodes_in y) once) both.0), (off.1, sits y around (once_tail n.id (nodes_in y) (once_right (nodes_in x) (n.id ∷ nodes_in y) once)) both.1))
    sits (index n x i) around once all =
        let off = middle_off n.id (nodes_in x) (nodes_in i) once in
        let both = apart (constructs_in g around x) (constructs_in g around i) (apart (constructs_in g around x ++ constructs_in g around i) _ all).0 in
        ((off.0, sits x around (once_left (nodes_in x) (n.id ∷ nodes_in i) once) both.0), (off.1, sits i around (once_tail n.id (nodes_in i) (once_right (nodes_in x) (n.id ∷ nodes_in i) once)) both.1))
    sits (call n f dotted xs) around once all =
        let both = apart (constructs_among g around (frame_around g f xs around) xs) (call_of n.id (at_node g n.id) dotted (function_named dotted f) (arguments_of g xs)) all in
        (sits_args n.id xs around (frame_around g f xs around) (head_off n.id (nodes_in_args xs) once) (once_tail n.id (nodes_in_args xs) once) both.0, both.1)

    sits_args : (n : ℕ) (xs : Args) (around behind : Columns) → among n (nodes_in_args xs) ≡ 0 → Once (nodes_in_args xs) → Has (constructs_among g around behind xs) → SitsArgs n xs
    sits_args n none around behind off once all = tt
    sits_args n (plain x xs) around behind off once all =
        let both = apart (constructs_in g around x) (constructs_among g behind behind xs) all in (
          (off_left n (nodes_in x) (nodes_in_args xs) off, sits x around (once_left (nodes_in x) (nodes_in_args xs) once) both.0),
          sits_args n xs behind behind (off_right n (nodes_in x) (nodes_in_args xs) off) (once_right (nodes_in x) (nodes_in_args xs) once) both.1,
        )
    sits_args n (range x y xs) around behind off once all =
        let both = apart (constructs_in g around x ++ constructs_in g around y) (constructs_among g behind behind xs) all in
        let ends = apart (constructs_in g around x) (constructs_in g around y) both.0 in
        let offs = off_left n (nodes_in x ++ nodes_in y) (nodes_in_args xs) off in
        let onces = once_left (nodes_in x ++ nodes_in y) (nodes_in_args xs) once in (
          (off_left n (nodes_in x) (nodes_in y) offs, sits x around (once_left (nodes_in x) (nodes_in y) onces) ends.0),
          (off_right n (nodes_in x) (nodes_in y) offs, sits y around (once_right (nodes_in x) (nodes_in y) onces) ends.1),
          sits_args n xs behind behind (off_right n (nodes_in x ++ nodes_in y) (nodes_in_args xs) off) (once_right (nodes_in x ++ nodes_in y) (nodes_in_args xs) once) both.1,
        )
    sits_args n (lambda parameter x xs) around behind off once all = sits_args n xs behind behind (off_right n (nodes_in x) (nodes_in_args xs) off) (once_right (nodes_in x) (nodes_in_args xs) once) all
    sits_args n (named name at x xs) around behind off once all =
        let both = apart (constructs_in g around x) (constructs_among g behind behind xs) all in (
          (off_left n (nodes_in x) (nodes_in_args xs) off, sits x around (once_left (nodes_in x) (nodes_in_args xs) once) both.0),
          sits_args n xs behind behind (off_right n (nodes_in x) (nodes_in_args xs) off) (once_right (nodes_in x) (nodes_in_args xs) once) both.1,
        )
