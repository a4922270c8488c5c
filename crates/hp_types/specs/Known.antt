-- What the checker keeps of a point of a script, and which point that is.
use Rattle.std.specs.Prelude.{ℕ, List, [], ◌∷◌, map, Option, Some, None}
use Rattle.hp_word.specs.declared.name.Name.{Name}
use Rattle.hp_script.specs.declared.typed.Shape.TheVariants as shape
use Rattle.hp_script.specs.Mirror.{Args, plain, column, text}
use Rattle.hp_script.specs.Trees.{named}
use Rattle.hp_word.specs.declared.place.Place.{Place}
use Rattle.hp_script.specs.Breaks.{CallSoFar as TestedCall, so_far}
use Rattle.hp_script.specs.Scope.{Scope, Role, element, window, Parameter as NamedRole}
use Rattle.hp_script.specs.Typing.{Wanted, a_value, an_interval, a_lambda, a_text, a_column, a_given, a_measure, nothing, frames_among}
use Rattle.hp_types.specs.declared.before.CallSoFar.{CallSoFar}
use Rattle.hp_types.specs.declared.variables.Variables.{Variables}
use Rattle.hp_types.specs.declared.wanted.Meant.{Meant}
use Rattle.hp_types.specs.declared.wanted.Meant.TheVariants as meant
use Rattle.hp_types.specs.declared.scope.Parameter.{Parameter}
use Rattle.hp_types.specs.declared.scope.ParameterRole.{ParameterRole}
use Rattle.hp_types.specs.declared.scope.ParameterRole.TheVariants.{Number, Truth, Window}

abbrev pub role_seen : ParameterRole → Role
role_seen Number = element shape.Int
role_seen Truth = element shape.Bool
role_seen Window = window

abbrev pub parameter_seen : Parameter → NamedRole
parameter_seen parameter = record { name = parameter.name.now.bytes; role = role_seen parameter.role }

-- a point in a script that assigns these names: the names that are set there are those of variables that are sure
abbrev pub point : (assigned : List (List ℕ)) → Variables → Option (List Name) → List NamedRole → Scope
point assigned variables around parameters = record {
  assigned = assigned;
  vars = variables.list;
  ways = variables.sure ∷ map (λ var. var.name.bytes) variables.list ∷ [];
  around = around;
  parameters = parameters;
}

-- what is meant, as the rules say it
abbrev pub wanted_seen : Meant → Wanted
wanted_seen meant.Value = a_value
wanted_seen meant.Interval = an_interval
wanted_seen (meant.Lambda role) = a_lambda (role_seen role)
wanted_seen meant.Text = a_text
wanted_seen (meant.Column frames) = a_column (frames_among frames.now)
wanted_seen meant.Given = a_given
wanted_seen (meant.Measure frames) = a_measure (frames_among frames.now)
wanted_seen meant.Nothing = nothing

-- ---- arguments

-- a call with the arguments that are tested so far, as the rules say it
abbrev pub call_seen : CallSoFar → TestedCall
call_seen call = so_far call.function call.at call.before.now

-- the first argument, where it is the name of a column: its place and the name
abbrev pub column_in : Args → Option (Place × List ℕ)
column_in (plain (column h name) rest) = Some (h.at, name)
column_in _ = None

-- the first argument, where it is a text
abbrev pub text_in : Args → Option Name
text_in (plain (text h bytes) rest) = Some (named bytes)
text_in _ = None

abbrev pub listed : {A : Type 0} → Option A → List A
listed None = []
listed (Some a) = a ∷ []
