-- What a rank makes of the messages of both exchanges: its block of both vectors together.
use Rattle.std.proofs.Common.{◌≡◌, ◌∙◌, refl, ap, arith, ℕ, suc, ◌+◌, ◌-◌, ◌*◌, ◌<◌, ◌≤◌, ℤ, min, List, [], ◌∷◌, ◌++◌, length, get_or, Ok}
use Rattle.std.specs.Prelude.{slice_index_or}
use Rattle.hp_word.specs.Lengths.{longest}
use Rattle.hp_spmd.specs.declared.code.Code.{Code}
use Rattle.hp_spmd.specs.declared.instr.Need.TheVariants.{First, Second}
use Rattle.hp_spmd.specs.declared.instr.Packing.TheVariants.{Move}
use Rattle.hp_spmd.specs.declared.instr.Unpacking.TheVariants.{Glued, Into}
use Rattle.hp_spmd.specs.declared.store.Piece.{Piece}
use Rattle.hp_spmd.specs.declared.store.Store.{Store}
use Rattle.hp_cuts.specs.Blocks.{block_cuts, block_start}
use Rattle.hp_spmd.specs.Arrays.{with_array}
use Rattle.hp_spmd.specs.Exchange.{unpacked}
use Rattle.hp_spmd.specs.Layout.{Env}
use Rattle.hp_spmd.specs.Needs.{both_lengths, need_span}
use Rattle.hp_spmd.specs.Scalars.{piece_length}
use Rattle.hp_spmd.specs.Store.{data_of, dealt, dist_at, kept, piece_at}
use Rattle.hp_spmd.specs.Unpacks.{glued_data, into_data, joined_words, with_loose}
use Rattle.hp_snippet.specs.Exchanging.{mail_for}
use Rattle.hp_snippet.specs.Holds.{IsCut}
use Rattle.hp_snippet.specs.Moves.{needed}
use Rattle.hp_snippet.proofs.MoveParts.{IsMove, joined_are}
use Rattle.hp_exchange.proofs.Haloing.{vector_range}
use Rattle.hp_exchange.proofs.ConcatParts.{block_made, vector_seen}

-- what a rank needs is put into the loose column
pub into_makes : (code : Code) (ranks : List Store) (env : Env) (left right part : ℕ) → IsMove code ranks env (left ∷ []) (First right) → (i : ℕ) (d : Store) → i < length ranks
    → (let x = get_or ranks i d in
    unpacked code.arrays (Into part) x.number x.ranks (mail_for code.arrays (Move (left ∷ []) (First right)) ranks x.number) (data_of x) ≡ Ok (with_loose part (needed (First right) code.arrays env x left).cells (data_of x)))
unfolding unpacked into_data
into_makes code ranks env left right part m i d li = ap (λ c. Ok (with_loose part c (data_of (get_or ranks i d)))) (joined_are code ranks env left (First right) m i d li)

-- the part of the first vector, as the needs say it of these lengths, and that of the second
abbrev first_part : (rows a b number n : ℕ) → List ℤ → List ℤ
first_part rows a b number n xs =
    let from = block_start number (both_lengths a b) n in
    let until = block_start (suc number) (both_lengths a b) n in
    kept (rows * min from a) (rows * min until a) 0 xs

abbrev second_part : (rows a b number n : ℕ) → List ℤ → List ℤ
second_part rows a b number n ys =
    let from = block_start number (both_lengths a b) n in
    let until = block_start (suc number) (both_lengths a b) n in
    kept (rows * min (from - a) b) (rows * min (until - a) b) 0 ys

abbrev glued_piece : (a b n : ℕ) → (first second : List ℤ) → Piece
glued_piece a b n first second = record { rows = 1; cuts = block_cuts (both_lengths a b) n; cells = first ++ second }

-- the same of vectors, by places
abbrev whole_of : (number n total left right : ℕ) → (xs ys : List ℤ) → Piece
whole_of number n total left right xs ys =
    let from = block_start number total n in
    let until = block_start (suc number) total n in
    record { rows = 1; cuts = block_cuts total n; cells = kept (min from left) (min until left) 0 xs ++ kept (min (from - left) right) (min (until - left) right) 0 ys }

parts : (number n rows_left rows_right left right : ℕ) (xs ys : List ℤ) → rows_left ≡ 1 → rows_right ≡ 1
    → glued_piece left right n (first_part rows_left left right number n xs) (second_part rows_right left right number n ys) ≡ whole_of number n (both_lengths left right) left right xs ys
parts number n rows_left rows_right left right xs ys one other =
    let from = block_start number (both_lengths left right) n in
    let until = block_start (suc number) (both_lengths left right) n in
    ap (λ f. glued_piece left right n f (second_part rows_right left right number n ys)) (vector_range rows_left (min from left) (min until left) xs one)
    ∙ ap (glued_piece left right n (kept (min from left) (min until left) 0 xs)) (vector_range rows_right (min (from - left) right) (min (until - left) right) ys other)

-- that is the loose column and the messages behind it
pub glued_makes : (code : Code) (ranks : List Store) (env : Env) (left right part to : ℕ) → (m : IsMove code ranks env (right ∷ []) (Second left)) → IsCut (dist_at code.arrays to) → (env.arrays left).rows ≡ 1 → (env.arrays right).rows ≡ 1
    → length (env.arrays left).cells + length (env.arrays right).cells ≤ longest → (i : ℕ) (d : Store) → i < length ranks → (get_or ranks i d).number < (get_or ranks i d).ranks
    → slice_index_or (get_or ranks i d).loose part [] ≡ (needed (First right) code.arrays env (get_or ranks i d) left).cells
    → (let x = get_or ranks i d in
    unpacked code.arrays (Glued to part left right) x.number x.ranks (mail_for code.arrays (Move (right ∷ []) (Second left)) ranks x.number) (data_of x)
    ≡ Ok (with_array to (dealt (dist_at code.arrays to) x.number x.ranks ((env.arrays left).cells ++ (env.arrays right).cells)) (data_of x)))
unfolding unpacked glued_data need_span
glued_makes code ranks env left right part to m cut left_one right_one fits i d li below has =
    let x = get_or ranks i d in
    let l = env.arrays left in
    let r = env.arrays right in
    let n = x.ranks in
    let a = piece_length (piece_at x.arrays left) in
    let b = piece_length (piece_at x.arrays right) in
    let left_fits : length l.cells ≤ longest = omega (arith, fits) in
    let right_fits : length r.cells ≤ longest = omega (arith, fits) in
    let left_seen = vector_seen code ranks env m.lays left m.need_named m.some left_one left_fits i d li in
    let right_seen = vector_seen code ranks env m.lays right m.named.0 m.some right_one right_fits i d li in
    let joined = joined_words (mail_for code.arrays (Move (right ∷ []) (Second left)) ranks x.number) in
    let sum : both_lengths (length l.cells) (length r.cells) ≡ length l.cells + length r.cells = omega (arith, fits) in
    let first = λ (s t : ℕ). first_part l.rows s t x.number n l.cells in
    let second = λ (s t : ℕ). second_part r.rows s t x.number n r.cells in
    let piece : glued_piece a b n (slice_index_or x.loose part []) joined ≡ dealt (dist_at code.arrays to) x.number n (l.cells ++ r.cells) = (
    ap (λ f. glued_piece a b n f joined) has
    ∙ ap (glued_piece a b n (first a b)) (joined_are code ranks env right (Second left) m i d li)
    ∙ ap (λ s. glued_piece s b n (first s b) (second s b)) left_seen
    ∙ ap (λ t. glued_piece (length l.cells) t n (first (length l.cells) t) (second (length l.cells) t)) right_seen
    ∙ parts x.number n l.rows r.rows (length l.cells) (length r.cells) l.cells r.cells left_one right_one
    ∙ ap (λ t. whole_of x.number n t (length l.cells) (length r.cells) l.cells r.cells) sum
    ∙ block_made (dist_at code.arrays to) x.number n (length l.cells) (length r.cells) l.cells r.cells cut below refl refl
    ) in
    ap (λ p. Ok (with_array to p (data_of x))) piece
