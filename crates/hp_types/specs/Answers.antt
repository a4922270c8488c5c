-- What the checker's functions answer, by the tests that they make.
use Rattle.std.specs.Prelude.{◌≡◌, List, [], ◌∷◌, ◌++◌, Option, Some, None, Result, Ok, Err}
use Rattle.hp_script.specs.declared.rule.Refusal.{Refusal}
use Rattle.hp_script.specs.declared.function.Function.{Function}
use Rattle.hp_script.specs.declared.typed.Shape.{Shape}
use Rattle.hp_script.specs.declared.typed.ReadSpec.{ReadSpec}
use Rattle.hp_types.specs.declared.error.CheckError.{CheckError}
use Rattle.hp_types.specs.declared.error.CheckError.TheVariants.{Refused, NoMemory}
use Rattle.hp_types.specs.declared.found.Found.{Found}

-- the error of tests of which this is the first that fails
abbrev pub Refuses : Option Refusal → CheckError → Type 0
Refuses first (Refused refusal) = first ≡ Some refusal
Refuses first NoMemory = Unit {0}

-- Ok where the tests pass, and else the first that fails; or memory was refused.
abbrev pub Passes : {A : Type 0} → Option Refusal → Result A CheckError → Type 0
Passes first (Ok a) = first ≡ None
Passes first (Err e) = Refuses first e

-- Where the tests pass, a value that the meaning has.
abbrev pub Tells : {A : Type 0} → Option Refusal → Option A → Result A CheckError → Type 0
Tells first meaning (Ok a) = (first ≡ None) × (meaning ≡ Some a)
Tells first meaning (Err e) = Refuses first e

-- where the tests pass, what the meaning is
abbrev pub Gives : {A : Type 0} → Option Refusal → A → Result A CheckError → Type 0
Gives first meaning (Ok a) = (first ≡ None) × (meaning ≡ a)
Gives first meaning (Err e) = Refuses first e

-- where the tests of a call's parts pass, its function, and the arguments that are the meaning for it
abbrev pub GivesParts : {A : Type 0} → Option Refusal → Option Function → (Function → A) → Result (Function × A) CheckError → Type 0
GivesParts first function meaning (Ok parts) = (first ≡ None) × (function ≡ Some parts.0) × (meaning parts.0 ≡ parts.1)
GivesParts first function meaning (Err e) = Refuses first e

-- where the tests of an argument pass, the one behind these
abbrev pub GivesNext : {A : Type 0} → Option Refusal → List A → List A → Result A CheckError → Type 0
GivesNext first before meaning (Ok a) = (first ≡ None) × (meaning ≡ before ++ a ∷ [])
GivesNext first before meaning (Err e) = Refuses first e

-- these entries and files were added
abbrev pub Grew : Found → Found → List (Option Shape) → List ReadSpec → Type 0
Grew before now entries files = (now.shapes ≡ before.shapes ++ entries) × (now.reads ≡ before.reads ++ files)
