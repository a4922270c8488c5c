-- What the statements of a script need of its expressions: that each comes to its value.
use Rattle.std.proofs.Common.{◌≡◌, ℕ, List, [], ◌++◌, Option, Some, None, subst}
use Rattle.std.specs.List.{AllByRecursion}
use Rattle.hp_word.specs.declared.order.Order.{Order}
use Rattle.hp_word.specs.declared.table.Table.{Table}
use Rattle.hp_script.specs.declared.typed.ReadSpec.{ReadSpec}
use Rattle.hp_script.specs.declared.typed.Shape.{Shape}
use Rattle.hp_script.specs.Entries.{files_in}
use Rattle.hp_script.specs.Mirror.{Tree}
use Rattle.hp_script.specs.Nodes.{nodes_in}
use Rattle.hp_script.specs.Scope.{Scope, shape_among}
use Rattle.hp_script.specs.Shaped.{HasShape}
use Rattle.hp_script.proofs.Completeness.{complete}
use Rattle.hp_meaning.specs.declared.value.Var.{Var}
use Rattle.hp_meaning.specs.Fitting.{Keeps}
use Rattle.hp_meaning.specs.ReadCalls.{reads_in}
use Rattle.hp_meaning.specs.Scopes.{outside}
use Rattle.hp_meaning.specs.ValueOf.{value}
use Rattle.hp_meaning.proofs.Parts.{finds, Supplies}
use Rattle.hp_meaning.proofs.Safe.{Safe, SafeAs, safe_of}
use Rattle.hp_meaning.proofs.SafeTrees.{tree_safe}
use Rattle.hp_air.specs.declared.slot.Slot.{Slot}
use Rattle.hp_air.specs.Unknowns.{no_frame, shape_named, constructs_in}
use Rattle.hp_flat.specs.Homes.{Homes}
use Rattle.hp_flat.proofs.FilledFrames.{AreFilled}
use Rattle.hp_flat.proofs.Fronts.{Gives}
use Rattle.hp_flat.proofs.KeptHomes.{AreOfScript, Differ}
use Rattle.hp_flat.proofs.MeaningRooms.{HasCopy}
use Rattle.hp_flat.proofs.ShortScopes.{AreShortVars}
use Rattle.hp_flat.proofs.ToldTypes.{Told}
use Rattle.hp_flat.proofs.WordMeanings.{g, Means}

-- the variables of the script have the types of this point
abbrev pub AreNamed : Homes → Scope → Type 0
AreNamed h s = (x : List ℕ) (a : Shape) → shape_among s.vars x ≡ Some a → shape_named h.known x ≡ Some a

-- a point outside of lambdas and filters
pub record IsTop (s : Scope) : Type 0 where
  pub out : s.parameters ≡ []
  pub clear : s.around ≡ None

module _ (h : Homes) (slots : List Slot) (tables : List Table) (orders : List Order) where
  -- each expression outside of lambdas and filters that fits, whose tables are there, comes to its value wherever the
  -- variables fit
  abbrev pub TreesMean : Type 0
  TreesMean =
      (s : Scope) (x : Tree) (a : Shape) (p : HasShape s x a) → Told h.known p → Differ (nodes_in x) → IsTop s → AreNamed h s → AreFilled s → AllByRecursion (HasCopy h) (constructs_in h.known no_frame x)
      → (ids : List ℕ) (files : List ReadSpec) → Supplies (finds (g h slots tables orders)) (reads_in x ++ ids) (files_in x ++ files)
      → (vars : List Var) → Keeps s vars → AreOfScript h vars → AreShortVars vars → Means h slots tables orders no_frame (outside vars) x

  -- an expression of a statement
  pub record IsMeant (s : Scope) (x : Tree) (a : Shape) : Type 0 where
    pub safe : Safe s a (value (g h slots tables orders) x)
    pub means : (vars : List Var) → Keeps s vars → AreOfScript h vars → AreShortVars vars → Means h slots tables orders no_frame (outside vars) x

  pub meant : TreesMean → {s : Scope} {x : Tree} {a : Shape} (p : HasShape s x a) → Told h.known p → Differ (nodes_in x) → IsTop s → AreNamed h s → AreFilled s
      → AllByRecursion (HasCopy h) (constructs_in h.known no_frame x) → Gives (Supplies (finds (g h slots tables orders))) (IsMeant s x a) (reads_in x) (files_in x)
  meant trees {s = s} {x = x} {a = a} p told differ top named filled copies = record {
    take = λ more others supplies.
        let of_x = complete p in
        let passed = tree_safe (g h slots tables orders) s x more others top.out of_x.passed supplies in (
          record {
            safe = safe_of (subst (λ (found : Option Shape). SafeAs s found (value (g h slots tables orders) x)) of_x.shape passed.safe);
            means = trees s x a p told differ top named filled copies more others supplies;
          },
          passed.rest,
        );
  }
