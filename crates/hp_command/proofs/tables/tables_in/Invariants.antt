use Rattle.std.proofs.Common.{◌≡◌, ℕ, List, drop}
use Rattle.hp_command.specs.TableTexts.{AreTexts}
use Rattle.hp_command.proofs.TableLemmas.{Progress}
use Rattle.hp_command.proofs.tables.tables_in.Given as goal

-- the tables so far are those of the calls before this one, and no read failed
abbrev pub invariant-loop-read : goal.invariant-loop-read
invariant-loop-read g l = record {
  progress : Progress (g.F.Files.holds l.fn.files) l.reads (drop l.read-index l.reads) l.list;
  texts : AreTexts (g.F.Files.holds l.fn.files) l.texts;
  same : (other : List ℕ) → g.F.Files.holds l.files other ≡ g.F.Files.holds l.fn.files other;
  faults : g.F.Files.faults l.files ≡ g.F.Files.faults l.fn.files;
}
