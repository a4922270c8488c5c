-- What was written grows by pieces.
use Rattle.std.proofs.Common.{◌≡◌, ℕ, ◌+◌, ◌<◌, List, [], ◌∷◌, ◌++◌, length, take, drop, map, slice_index_or, Option, Some, None, Result, Ok, Err, Bor, refl, ap, sym, ◌∙◌, subst, arith, append_assoc, append-nil}
use Rattle.std.specs.List.{concat}
use Rattle.std.specs.Result.{OnErr}
use Rattle.std.proofs.lemmas.List.{take_more, drop_more, take-append-drop, take-append-le, map-append, length-append}
use Rattle.std.proofs.lemmas.List.Folds.{concat-append}
use Rattle.std.proofs.Math.Seq.{take-add, take-append-add}
use Rattle.hp_outside.specs.Outside.{grown, Grew}

-- no bytes change nothing
pub grown_nothing : (old : Option (List ℕ)) → grown old [] ≡ old
grown_nothing None = refl
grown_nothing (Some bytes) = ap Some (append-nil bytes)

-- bytes and then more bytes are all of them at once
pub grown_append : (old : Option (List ℕ)) (a b : List ℕ) → grown (grown old a) b ≡ grown old (a ++ b)
grown_append None a b = refl
grown_append (Some bytes) a b = ap Some (append_assoc bytes a b)

-- what took bytes and then more took all of them
pub grew_append : (old mid new : Option (List ℕ)) (a b : List ℕ) → Grew old mid a → Grew mid new b → Grew old new (a ++ b)
grew_append old mid new a b first next =
    next ∙ ap (λ (was : Option (List ℕ)). grown was b) first ∙ grown_append old a b

-- what took the first n bytes and then the next m took the first n + m
pub grew_more : (old mid new : Option (List ℕ)) (n m : ℕ) (bytes : List ℕ)
    → Grew old mid (take n bytes) → Grew mid new (take m (drop n bytes)) → Grew old new (take (n + m) bytes)
grew_more old mid new n m bytes first next =
    grew_append old mid new (take n bytes) (take m (drop n bytes)) first next ∙ ap (grown old) (sym (take-add n m bytes))

pub on_err : {T E P : Type 0} (r : Result T E) → P → OnErr r P
on_err (Ok x) p = tt
on_err (Err e) p = p

-- ---- pieces

-- pieces one behind the other
abbrev pub joined : List (Bor (List ℕ)) → List ℕ
joined pieces = concat (map (λ piece. piece.now) pieces)

abbrev pub no_piece : Bor (List ℕ)
no_piece = record { ref_ptr = (0, 0); now = [] }

joined_append : (xs ys : List (Bor (List ℕ))) → joined (xs ++ ys) ≡ joined xs ++ joined ys
joined_append xs ys = ap concat (map-append (λ piece. piece.now) xs ys) ∙ concat-append (map (λ piece. piece.now) xs) (map (λ piece. piece.now) ys)

-- the pieces before one, and this one too
joined_more : (pieces : List (Bor (List ℕ))) (i : ℕ) → i < length pieces → joined (take (i + 1) pieces) ≡ joined (take i pieces) ++ (slice_index_or pieces i no_piece).now
joined_more pieces i in_range =
    ap joined (take_more pieces i no_piece in_range) ∙ joined_append (take i pieces) (slice_index_or pieces i no_piece ∷ []) ∙ ap (λ last. joined (take i pieces) ++ last) (append-nil _)

-- the pieces before one, this one, and the others
joined_split : (pieces : List (Bor (List ℕ))) (i : ℕ) → i < length pieces → joined pieces ≡ joined (take i pieces) ++ ((slice_index_or pieces i no_piece).now ++ joined (drop (i + 1) pieces))
joined_split pieces i in_range =
    ap joined (sym (take-append-drop i pieces) ∙ ap (λ rest. take i pieces ++ rest) (drop_more pieces i no_piece in_range)) ∙ joined_append (take i pieces) (slice_index_or pieces i no_piece ∷ drop (i + 1) pieces)

pub grew_piece : (old mid new : Option (List ℕ)) (pieces : List (Bor (List ℕ))) (i : ℕ) → i < length pieces
    → Grew old mid (joined (take i pieces)) → Grew mid new (slice_index_or pieces i no_piece).now → Grew old new (joined (take (i + 1) pieces))
grew_piece old mid new pieces i in_range first next =
    subst (Grew old new) (sym (joined_more pieces i in_range)) (grew_append old mid new (joined (take i pieces)) (slice_index_or pieces i no_piece).now first next)

take_behind : (a b c : List ℕ) (k : ℕ) → k < length b → take (length a + k) (a ++ (b ++ c)) ≡ a ++ take k b
take_behind a b c k less = take-append-add a (b ++ c) k ∙ ap (λ front. a ++ front) (take-append-le k b c (omega (arith, less)))

grew_part : (old mid new : Option (List ℕ)) (all a b c : List ℕ) → all ≡ a ++ (b ++ c) → Grew old mid a → (k : ℕ) → k < length b → Grew mid new (take k b) → (n : ℕ) × (n < length all) × Grew old new (take n all)
grew_part old mid new all a b c is first k less next =
    let long = ap length is ∙ length-append a (b ++ c) in
    let rest = length-append b c in
    let front : take (length a + k) all ≡ a ++ take k b = ap (take (length a + k)) is ∙ take_behind a b c k less in
    (length a + k, omega (arith, long, rest, less), subst (Grew old new) (sym front) (grew_append old mid new a (take k b) first next))

-- the pieces before one were put, and of this one a front that is shorter
pub grew_short : (old mid new : Option (List ℕ)) (pieces : List (Bor (List ℕ))) (i : ℕ) → i < length pieces
    → Grew old mid (joined (take i pieces)) → (k : ℕ) → k < length (slice_index_or pieces i no_piece).now → Grew mid new (take k (slice_index_or pieces i no_piece).now)
    → (n : ℕ) × (n < length (joined pieces)) × Grew old new (take n (joined pieces))
grew_short old mid new pieces i in_range first k less next =
    grew_part old mid new (joined pieces) (joined (take i pieces)) (slice_index_or pieces i no_piece).now (joined (drop (i + 1) pieces)) (joined_split pieces i in_range) first k less next
