-- The values that the evaluator holds or looks at, as values.
use Rattle.std.specs.Prelude.{◌≡◌, ◌≢◌, ◌++◌, ℕ, List, IsSomeAnd, Option, Some, None, Result, Ok, Err}
use Rattle.hp_meaning.specs.declared.held.Look.{Look}
use Rattle.hp_meaning.specs.declared.held.Look.TheVariants as look
use Rattle.hp_meaning.specs.declared.held.Operand.{Operand}
use Rattle.hp_meaning.specs.declared.held.Operand.TheVariants as operand
use Rattle.hp_meaning.specs.declared.held.Held.{Held}
use Rattle.hp_meaning.specs.declared.held.Held.TheVariants as held
use Rattle.hp_meaning.specs.declared.seen.Seen.{Seen}
use Rattle.hp_meaning.specs.declared.seen.Stop.{Stop}
use Rattle.hp_meaning.specs.declared.seen.Stop.TheVariants as stop
use Rattle.hp_meaning.specs.declared.value.Kind.TheVariants.{Number}
use Rattle.hp_meaning.specs.declared.value.Value.{Value}
use Rattle.hp_meaning.specs.declared.value.Value.TheVariants.{Word, List as Listed, Matrix, Frame}
use Rattle.hp_meaning.specs.declared.groups.Wanted.{Wanted}
use Rattle.hp_meaning.specs.declared.orders.Taken.{Taken as Found}
use Rattle.hp_meaning.specs.FrameRules.{Measured}
use Rattle.hp_word.specs.RowRules.{Taken, taken}
use Rattle.hp_meaning.specs.declared.lambdas.Sight.{Sight as Sighted}
use Rattle.hp_meaning.specs.declared.lambdas.Sight.TheVariants as sighted
use Rattle.hp_meaning.specs.declared.lambdas.Inside.{Inside as Lambda}
use Rattle.hp_meaning.specs.LambdaRules.{Sight, Element, Around, Inside, inside}
use Rattle.hp_meaning.specs.declared.scope.Supply.{Supply as Supplied}
use Rattle.hp_meaning.specs.declared.scope.Scope.{Scope as Named}
use Rattle.std.specs.Option.{option_copied}
use Rattle.hp_meaning.specs.Scopes.{Scope}
use Rattle.hp_meaning.specs.ValueOf.{Supply, supply}
use Rattle.hp_meaning.specs.Operands.{Cells, One, Many}
use Rattle.hp_meaning.specs.Outcomes.{Outcome, Is, stopped}

-- what is looked at
abbrev pub looked : Look → Value
looked (look.Word kind x) = Word kind x
looked (look.List kind xs) = Listed kind xs.now
looked (look.Matrix m) = Matrix m.now
looked (look.Frame columns) = Frame columns.now

-- what is held
abbrev pub held_value : Held → Value
held_value (held.Lent a) = a.now
held_value (held.Column xs) = Listed Number xs.now
held_value (held.Made a) = a

-- the words of an operand
abbrev pub cells_in : Operand → Cells
cells_in (operand.One x) = One x
cells_in (operand.Many xs) = Many xs.now

-- what a body of a lambda sees
abbrev pub sight_in : Sighted → Sight
sight_in (sighted.Element kind x) = Element kind x
sight_in (sighted.Around xs place) = Around xs.now place

abbrev pub inside_in : Lambda → Inside
inside_in i = inside i.parameter.now (sight_in i.sight) i.vars.now

-- the order that is taken
abbrev pub taken_in : Found → Taken
taken_in order = taken order.places.now order.is_bad

-- a measure that is wanted
abbrev pub measured_in : Wanted → Measured
measured_in wanted = record { name = wanted.name.now.bytes; kind = wanted.kind; of_it = wanted.of_it.now }

-- The code has found what there is, or it is wrong.
abbrev pub Finds : {A B : Type 0} → (A → B) → Option B → Result A Stop → Type 0
Finds view found (Ok a) = found ≡ Some (view a)
Finds view found (Err e) = (e ≡ stop.Wrong) × (found ≡ None)

-- the same where memory may be refused
abbrev pub FindsAll : {A B : Type 0} → (A → B) → Option B → Result A Stop → Type 0
FindsAll view found (Ok a) = found ≡ Some (view a)
FindsAll view found (Err e) = e ≢ stop.NoMemory → (e ≡ stop.Wrong) × (found ≡ None)

-- what a run is given, and what an expression can name
abbrev pub supply_in : Supplied → Supply
supply_in g = supply g.tables.now g.reads.now g.orders.now

abbrev pub scope_in : Named → Scope
scope_in s = record { vars = s.vars.now; frame = option_copied s.frame }

-- what the code holds, as a value
abbrev pub made_of : Result Held Stop → Result Value Stop
made_of (Ok a) = Ok (held_value a)
made_of (Err e) = Err e

-- the code has written what is to be written, or there is nothing
abbrev pub Writes : {A : Type 0} → Option (List ℕ) → Result A Stop → (before now : List ℕ) → Type 0
Writes found (Ok a) before now = IsSomeAnd found (λ bytes. now ≡ before ++ bytes)
Writes found (Err e) before now = e ≢ stop.NoMemory → (e ≡ stop.Wrong) × (found ≡ None) × (now ≡ before)

-- the code comes to an outcome, whose value it holds
abbrev pub Holds : Outcome Value → Result Held Stop → Seen → Type 0
Holds outcome (Ok a) n = outcome ≡ Is (held_value a) n
Holds outcome (Err e) n = e ≢ stop.NoMemory → outcome ≡ stopped e n
