-- The names of the rules by which a script is refused, and how a refusal is shown.
use Rattle.std.specs.Prelude.{ℕ, List, ◌++◌, codes}
use Rattle.std.specs.Fmt.{decimal}
use Rattle.hp_script.specs.declared.rule.Refusal.{Refusal}
use Rattle.hp_script.specs.declared.rule.Rule.{Rule}
use Rattle.hp_script.specs.declared.rule.Rule.TheVariants.{TooLongScript, BadByte, WideNumber, Syntax, TooDeep, UnknownName, MaybeUnset, WrongType, TypeChanged, UnknownColumn, DoubleColumn, UnknownCall, WrongCount, TooManyColumns, ReachTooWide, NotBuilt}

-- the name of a rule, as a refusal shows it
abbrev pub rule_name : Rule → List ℕ
rule_name TooLongScript = codes "TooLongScript"
rule_name BadByte = codes "BadByte"
rule_name WideNumber = codes "WideNumber"
rule_name Syntax = codes "Syntax"
rule_name TooDeep = codes "TooDeep"
rule_name UnknownName = codes "UnknownName"
rule_name MaybeUnset = codes "MaybeUnset"
rule_name WrongType = codes "WrongType"
rule_name TypeChanged = codes "TypeChanged"
rule_name UnknownColumn = codes "UnknownColumn"
rule_name DoubleColumn = codes "DoubleColumn"
rule_name UnknownCall = codes "UnknownCall"
rule_name WrongCount = codes "WrongCount"
rule_name TooManyColumns = codes "TooManyColumns"
rule_name ReachTooWide = codes "ReachTooWide"
rule_name NotBuilt = codes "NotBuilt"

-- a refusal, as `3:5: WrongType`
abbrev pub refusal_text : Refusal → List ℕ
refusal_text refusal = decimal refusal.at.line ++ (codes ":" ++ (decimal refusal.at.col ++ (codes ": " ++ rule_name refusal.rule)))
