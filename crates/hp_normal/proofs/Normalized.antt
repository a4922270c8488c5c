-- What a script's slots, words and steps are, all that is said of the program of it holds.
use Rattle.std.proofs.Common.{◌≡◌, ℕ, ◌<◌, ◌^◌, List, IsTrue, sym, subst}
use Rattle.hp_word.specs.declared.table.Table.{Table}
use Rattle.hp_script.specs.declared.typed.Typed.{Typed}
use Rattle.hp_script.specs.Checked.{Checked}
use Rattle.hp_meaning.specs.Fitting.{Serves as GoWith}
use Rattle.hp_program.specs.Programs.{Prog}
use Rattle.hp_air.specs.declared.slot.Slot.{Slot}
use Rattle.hp_air.specs.declared.what.Op.{Op}
use Rattle.hp_air.specs.Carried.{Carried, rows_of}
use Rattle.hp_air.specs.Kept.{are_kept, are_slots, names_of, size_of}
use Rattle.hp_air.specs.Meaning.{Serves}
use Rattle.hp_air.specs.Unknowns.{constructs}
use Rattle.hp_flat.specs.Flat.{flat_script}
use Rattle.hp_flat.specs.FlatLaws.{AreCarried, AreKeptSlots, AreServed, AreStepByStep, AskTheSame, AsksTheSame, GiveGreatest, GivesGreatest, HasOneEach, HasOneMeaning, HaveOneEach, HaveOneMeaning, MeanTheSame, MeansTheSame}
use Rattle.hp_flat.specs.Homes.{homes_of, slots_in, words_in}
use Rattle.hp_flat.specs.KeptLaws.{AreKept, AreSmall, HaveFewNames}
use Rattle.hp_flat.specs.StepByStep.{Follows}

-- the slots, words and steps of a script in which no rule breaks
module _ (typed : Typed) (slots : List Slot) (words : ℕ) (p : Prog Op) (s : slots ≡ slots_in (homes_of typed)) (w : words ≡ words_in (homes_of typed)) (b : p ≡ flat_script typed) where
  -- what holds of the script's own slots and program holds of these
  of_these : (P : List Slot → Prog Op → Type 0) → P (slots_in (homes_of typed)) (flat_script typed) → P slots p
  of_these P own = subst (λ (q : Prog Op). P slots q) (sym b) (subst (λ (l : List Slot). P l (flat_script typed)) (sym s) own)

  of_words : (P : List Slot → ℕ → Prog Op → Type 0) → P (slots_in (homes_of typed)) (words_in (homes_of typed)) (flat_script typed) → P slots words p
  of_words P own = subst (λ (n : ℕ). P slots n p) (sym w) (of_these (λ l q. P l (words_in (homes_of typed)) q) own)

  pub in_order : AreKeptSlots → IsTrue (are_slots slots)
  in_order law = of_these (λ l q. IsTrue (are_slots l)) (law typed)

  pub one_each : HaveOneEach → HasOneEach typed slots
  one_each law = of_these (λ l q. HasOneEach typed l) (law typed)

  module _ (checked : Checked typed) where
    pub kept : AreKept → IsTrue (are_kept slots words p)
    kept law = of_words (λ l n q. IsTrue (are_kept l n q)) (law typed checked)

    pub small : AreSmall → size_of p < 2 ^ 24
    small law = of_these (λ l q. size_of q < 2 ^ 24) (law typed checked)

    pub few_names : HaveFewNames → names_of slots words p < 2 ^ 30
    few_names law = of_words (λ l n q. names_of l n q < 2 ^ 30) (law typed checked)

    pub step_by_step : AreStepByStep → Follows (rows_of slots p) (constructs typed)
    step_by_step law = of_these (λ l q. Follows (rows_of l q) (constructs typed)) (law typed checked)

    pub carried : AreCarried → Carried typed slots p
    carried law = of_these (Carried typed) (law typed checked)

    pub asks : AskTheSame → AsksTheSame typed slots p
    asks law = of_these (AsksTheSame typed) (law typed checked)

    pub greatest : GiveGreatest → GivesGreatest typed slots p
    greatest law = of_these (GivesGreatest typed) (law typed checked)

    pub served : AreServed → (tables : List Table) → GoWith tables typed.reads → Serves p tables
    served law tables go = of_these (λ l q. Serves q tables) (law typed tables checked go)

    pub means : MeanTheSame → MeansTheSame typed slots p
    means law = of_these (MeansTheSame typed) (law typed checked)

    pub one_meaning : HaveOneMeaning → HasOneMeaning typed slots p
    one_meaning law = of_these (HasOneMeaning typed) (law typed checked)
