-- How much the machine has yet to do. A token pays for 32 units; what a phrase may need without a token is its weight.
use Rattle.std.proofs.Common.{◌≡◌, ℕ, ◌+◌, ◌*◌, ◌≤◌, ◌<◌, Bool, true, List, [], ◌∷◌, ◌++◌, length, arith}
use Rattle.std.specs.Prelude.{nat_lt}
use Rattle.hp_script.specs.declared.tree.Level.{Level}
use Rattle.hp_script.specs.declared.tree.Level.TheVariants.{Disjunction, Conjunction, Comparison, Sum, Product}
use Rattle.hp_script.specs.Lexemes.{Lexed}
use Rattle.hp_parse.specs.Machine.{Phrase, Goal, Value, Move, want, make, Chain, Unary, Arguments, Argument, AfterArgumentName, AfterArgument, Statement, AfterStatement, Takes, Deepens, Passes, Refuses, Config, At, Refused, Accepted}

-- what a chain needs that takes no token
abbrev pub chain_weight : Level → ℕ
chain_weight Disjunction = 13
chain_weight Conjunction = 11
chain_weight Comparison = 9
chain_weight Sum = 7
chain_weight Product = 5

abbrev pub weight : Phrase → ℕ
weight (Chain level) = chain_weight level
weight Unary = 3
weight (Arguments before) = 20
weight Argument = 16
weight (AfterArgumentName at bytes) = 10
weight AfterArgument = 2
weight Statement = 19
weight (AfterStatement before) = 2
weight _ = 1

-- what all that is left to do needs
abbrev pub load : List Goal → ℕ
load [] = 0
load (make action ∷ stack) = 1 + load stack
load (want phrase ∷ stack) = weight phrase + load stack

-- What a phrase and the next token pay for. A statement is wanted only where one begins: it has its token already.
abbrev pub room : Phrase → ℕ
room Statement = 19
room phrase = 32 + weight phrase

abbrev pub size : Config → ℕ
size (At [] k d stack values) = load stack
size (At (token ∷ rest) k d [] values) = 32 * length rest
size (At (token ∷ rest) k d (make action ∷ stack) values) = 32 * length rest + (33 + load stack)
size (At (token ∷ rest) k d (want phrase ∷ stack) values) = 32 * length rest + (room phrase + load stack)
size (Refused place rule) = 0
size (Accepted body nodes) = 0

-- whether a move at a token stays within the room
abbrev pub is_light : ℕ → Move → Bool
is_light space (Takes k d goals given) = nat_lt (load goals) space
is_light space (Deepens k d goals given) = nat_lt (load goals) space
is_light space (Passes k (want Statement ∷ goals) given) = nat_lt (19 + load goals) space
is_light space (Passes k goals given) = nat_lt (32 + load goals) space
is_light space Refuses = true

-- whether a move at the end stays within the weight
abbrev pub is_light_at_end : ℕ → Move → Bool
is_light_at_end space (Passes k goals given) = nat_lt (load goals) space
is_light_at_end space _ = true

-- ---- bounds

pub load_joined : (goals stack : List Goal) → load (goals ++ stack) ≡ load goals + load stack
load_joined [] stack = omega arith
load_joined (make action ∷ goals) stack = let e = load_joined goals stack in omega arith
load_joined (want phrase ∷ goals) stack = let e = load_joined goals stack in omega arith

pub some_weight : (phrase : Phrase) → 0 < weight phrase
some_weight (Chain Disjunction) = omega arith
some_weight (Chain Conjunction) = omega arith
some_weight (Chain Comparison) = omega arith
some_weight (Chain Sum) = omega arith
some_weight (Chain Product) = omega arith
some_weight _ = omega arith

pub some_room : (phrase : Phrase) → 0 < room phrase
some_room Statement = omega arith
some_room phrase = omega arith

room_within : (phrase : Phrase) → room phrase ≤ 32 + weight phrase
room_within Statement = omega arith
room_within phrase = omega arith

pub size_within : (tokens : List Lexed) (k d : ℕ) (stack : List Goal) (values : List Value) → size (At tokens k d stack values) ≤ 32 * length tokens + load stack
size_within [] k d stack values = omega arith
size_within (token ∷ rest) k d [] values = omega arith
size_within (token ∷ rest) k d (make action ∷ stack) values = omega arith
size_within (token ∷ rest) k d (want phrase ∷ stack) values = let w = room_within phrase in omega arith

pub below : (a b : ℕ) → nat_lt a b ≡ true → a < b
below a b e = grind arith
