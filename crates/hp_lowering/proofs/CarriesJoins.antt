-- The code that puts one vector behind another carries it, where both are whole on each rank and where they lie in pieces.
use Rattle.std.proofs.Common.{◌≡◌, ◌∙◌, refl, sym, subst, ap, arith, cond, Bool, true, false, ℕ, ◌+◌, ◌<◌, ◌≤◌, List, [], ◌∷◌, ◌++◌, length, length-append, Ok, Err}
use Rattle.std.specs.Prelude.{◌&&◌, ℤ, nat_le}
use Rattle.std.proofs.lemmas.Bool.{and_parts, leb-true}
use Rattle.hp_word.specs.declared.order.Order.{Order}
use Rattle.hp_word.specs.declared.place.Place.{Place}
use Rattle.hp_word.specs.declared.place.TrapKind.TheVariants.{TooLong}
use Rattle.hp_word.specs.declared.table.Tables.{Tables}
use Rattle.hp_word.specs.Lengths.{longest, trap}
use Rattle.hp_word.specs.ListRules.{appended}
use Rattle.hp_lattice.specs.declared.dist.Dist.{Dist}
use Rattle.hp_spmd.specs.declared.code.Code.{Code}
use Rattle.hp_spmd.specs.Layout as layout
use Rattle.hp_air.specs.declared.slot.Slot.{Slot}
use Rattle.hp_air.specs.declared.what.What.TheVariants as what
use Rattle.hp_air.specs.Arrays.{Concat, arrays_of, outs, sides}
use Rattle.hp_air.specs.Constraints.{Meets, concat_meets}
use Rattle.hp_air.specs.Kept.{is_matrix}
use Rattle.hp_air.specs.Meaning as air
use Rattle.hp_air.specs.Meaning.{does}
use Rattle.hp_air.specs.Placed.{dist_at}
use Rattle.hp_air.specs.Wholes as wholes
use Rattle.hp_air.specs.Wholes.{cells}
use Rattle.hp_parfor.specs.LoopMeaning.{is_rep, part_doing, part_does}
use Rattle.hp_parfor.specs.Parts.{Part, Does as DoesPart}
use Rattle.hp_snippet.specs.Holds.{IsCut}
use Rattle.hp_snippet.specs.Moves.{arrays_alone}
use Rattle.hp_alone.specs.Dealing.{array_made}
use Rattle.hp_alone.specs.Joining.{MayJoin, join_code, joined}
use Rattle.hp_alone.proofs.Joined.{join_performs}
use Rattle.hp_exchange.specs.Concats.{MayConcat, concat_code, concat_writes, concatenated}
use Rattle.hp_exchange.proofs.Concatenating.{list_concatenates}
use Rattle.hp_lowering.specs.PartCode.{part_code, whole_code}
use Rattle.hp_lowering.specs.Room.{Room, room_of}
use Rattle.hp_lowering.specs.Standing.{IsOf}
use Rattle.hp_lowering.proofs.ArraysHeld.{AreCut, all_cut, cells_held, is_whole_on_each, one_row}
use Rattle.hp_lowering.proofs.Carrying.{DoesAs, carries_by}
use Rattle.hp_lowering.proofs.CarriesArrays.{IsShort, vector_does}
use Rattle.hp_lowering.proofs.CarriesPicks.{LieAs}
use Rattle.hp_lowering.proofs.CarriesWords.{IsCarried, performed}
use Rattle.hp_lowering.proofs.PartForm.{steps_straight, steps_work}

appended_short : (at : Place) (xs ys : List ℤ) → IsShort (appended at xs ys)
unfolding appended
appended_short at xs ys = by_test (nat_le (length xs + length ys) longest) (λ e. leb-true (length xs + length ys) longest e)
  where
    by_test : (b : Bool) → (b ≡ true → length xs + length ys ≤ longest) → IsShort (cond b (Ok (xs ++ ys)) (Err (trap at TooLong)))
    by_test true le = let both = length-append xs ys in let less = le refl in omega (arith, both, less)
    by_test false le = tt

module _ (slots : List Slot) (words : ℕ) (dists : List Dist) (code : Code) (tables : Tables) (n : ℕ) (orders : List Order) (at : Place) (out left right : ℕ) (lie : LieAs slots dists code) (o : out < length slots) (l : left < length slots) (r : right < length slots)
    (no_left : is_matrix slots left ≡ false) (no_right : is_matrix slots right ≡ false) where
  abbrev room : Room
  room = room_of slots words

  abbrev part : Part
  part = DoesPart (record { at = at; what = what.Concat out left right })

  abbrev is_alone : Bool
  is_alone = is_rep (dist_at dists out) && (is_rep (dist_at dists left) && (is_rep (dist_at dists right) && true))

  both_do : (e : wholes.Env) (f : layout.Env) → IsOf room e f → DoesAs room e (air.array_made out e (appended at (cells (e.slots left)) (cells (e.slots right)))) (array_made out (appended at (f.arrays left).cells (f.arrays right).cells) f)
  both_do e f h =
      let made = appended at (cells (e.slots left)) (cells (e.slots right)) in
      subst (λ xs. DoesAs room e (air.array_made out e made) (array_made out (appended at xs (f.arrays right).cells) f)) (sym (cells_held room left e f h l))
      (subst (λ ys. DoesAs room e (air.array_made out e made) (array_made out (appended at (cells (e.slots left)) ys) f)) (sym (cells_held room right e f h r))
      (vector_does room out e f made (appended_short at (cells (e.slots left)) (cells (e.slots right))) h))

  alone_carried : is_alone ≡ true → IsCarried slots words dists code tables n orders part
  unfolding part_code whole_code part_does does arrays_of outs sides
  alone_carried is =
      let first = and_parts (is_rep (dist_at dists out)) (is_rep (dist_at dists left) && (is_rep (dist_at dists right) && true)) is in
      let second = and_parts (is_rep (dist_at dists left)) (is_rep (dist_at dists right) && true) first.1 in
      let third = and_parts (is_rep (dist_at dists right)) true second.1 in
      let list = part_code room slots (dist_at dists) part in
      let same : list ≡ join_code out left right at = ap (λ b. cond b (join_code out left right at) (concat_code left right 0 out at)) is in
      carries_by (part_doing slots dists tables.list orders) (part_code room slots (dist_at dists)) code tables n room orders part (arrays_alone (out ∷ [])) (steps_straight room slots (dist_at dists) part) (steps_work room slots (dist_at dists) part) (joined out left right at)
      (λ s e h stand. (
        both_do e h.env h.is,
        performed code tables n room list (arrays_alone (out ∷ [])) (MayJoin out left right) (joined out left right at) (join_performs out left right at list same) s e h stand
            (record {
              left_whole = lie left l ∙ is_whole_on_each (dist_at dists left) second.0;
              right_whole = lie right r ∙ is_whole_on_each (dist_at dists right) third.0;
              to_whole = lie out o ∙ is_whole_on_each (dist_at dists out) first.0;
              left_vector = one_row room left e h.env h.is l no_left;
              right_vector = one_row room right e h.env h.is r no_right;
            }),
      ))

  pieces_carried : is_alone ≡ false → AreCut (dist_at dists out) (dist_at dists left) (dist_at dists right) → IsCarried slots words dists code tables n orders part
  unfolding part_code whole_code part_does does arrays_of outs sides
  pieces_carried is cut =
      let list = part_code room slots (dist_at dists) part in
      let same : list ≡ concat_code left right 0 out at = ap (λ b. cond b (join_code out left right at) (concat_code left right 0 out at)) is in
      carries_by (part_doing slots dists tables.list orders) (part_code room slots (dist_at dists)) code tables n room orders part (concat_writes 0 out) (steps_straight room slots (dist_at dists) part) (steps_work room slots (dist_at dists) part) (concatenated left right out at)
      (λ s e h stand. (
        both_do e h.env h.is,
        performed code tables n room list (concat_writes 0 out) (MayConcat left right out) (concatenated left right out at) (list_concatenates left right 0 out at list same) s e h stand
            (record {
              left_cut = subst IsCut (sym (lie left l)) cut.left_cut;
              right_cut = subst IsCut (sym (lie right r)) cut.right_cut;
              to_cut = subst IsCut (sym (lie out o)) cut.out_cut;
              left_vector = one_row room left e h.env h.is l no_left;
              right_vector = one_row room right e h.env h.is r no_right;
            }),
      ))

  pub concat_carried : Meets (dist_at dists) (Concat out left right) → IsCarried slots words dists code tables n orders part
  concat_carried (concat_meets a b c d) = by_test is_alone refl
    where
      by_test : (t : Bool) → is_alone ≡ t → IsCarried slots words dists code tables n orders part
      by_test true is = alone_carried is
      by_test false is = pieces_carried is (all_cut (dist_at dists out) (dist_at dists left) (dist_at dists right) a b c d is)
