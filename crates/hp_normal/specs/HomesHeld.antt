-- The places of a script as the code holds them.
use Rattle.std.specs.Prelude.{◌≡◌, ℕ, ◌+◌, List, [], ◌∷◌, ◌++◌, map, Option, Some}
use Rattle.hp_script.specs.declared.typed.Shape.{Shape}
use Rattle.hp_script.specs.declared.typed.Var.{Var}
use Rattle.hp_air.specs.Unknowns.{balanced_of, width, variables_from, nodes_from}
use Rattle.hp_flat.specs.Homes.{Homes}

-- by the types of the expressions, the variables, the calls that read tables, and the stencils
abbrev pub homes_with : List (Option Shape) → List Var → (reads copies : List ℕ) → Homes
homes_with shapes vars reads copies = record {
  known = record { shapes = shapes; vars = vars };
  reads = reads;
  arrays = variables_from 0 vars ++ (nodes_from 0 shapes ++ map balanced_of copies);
}

-- the first slot of each value, where so many stand before and the values have these widths; and how many there are behind
unfoldable pub firsts : ℕ → (widths : List ℕ) → List ℕ
firsts n [] = n ∷ []
firsts n (w ∷ ws) = n ∷ firsts (n + w) ws

abbrev pub var_widths : List Var → List ℕ
var_widths vars = map (λ v. width (Some v.shape)) vars

abbrev pub node_widths : List (Option Shape) → List ℕ
node_widths shapes = map width shapes

abbrev pub widths : List (Option Shape) → List Var → List ℕ
widths shapes vars = var_widths vars ++ node_widths shapes

-- the first slots are those of the variables, then of the expressions, and then the number of them all
abbrev pub AreHomes : List (Option Shape) → List Var → (slots : List ℕ) → Type 0
AreHomes shapes vars slots = slots ≡ firsts 0 (widths shapes vars)
