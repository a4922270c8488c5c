-- Reads of a variable that some run has not assigned before.
use Rattle.std.specs.Prelude.{ℕ, ◌≡◌, Bool, true, false, List, bytes_eq}
use Rattle.hp_word.specs.declared.place.Place.{Place}
use Rattle.hp_script.specs.declared.tree.UnOp.{UnOp}
use Rattle.hp_script.specs.declared.tree.BinOp.{BinOp}
use Rattle.hp_script.specs.Checked.{assigned_in}
use Rattle.hp_script.specs.Mirror.{Head, Tree, Args, variable, field, unary, binary, index, call, plain, range, lambda, named, Block, assign, print, export, choose, loop}
use Rattle.hp_script.specs.Runs.{Position, here, past_assign, past_print, past_export, in_first, in_second, past_if, in_turn, past_loop, Arrives}
use Rattle.hp_script.specs.Scope.{has}

-- a variable of this name stands at this place of an expression, or of arguments
mutual
  pub data NamesAt : Tree → Place → List ℕ → Type 0 where
    by_variable : {h : Head} {x : List ℕ} → NamesAt (variable h x) h.at x
    by_field : {h : Head} {x c : List ℕ} → NamesAt (field h x c) h.at x
    in_operand : {h : Head} {op : UnOp} {dotted : Bool} {a : Tree} {at : Place} {x : List ℕ} → NamesAt a at x → NamesAt (unary h op dotted a) at x
    in_left : {h : Head} {op : BinOp} {dotted : Bool} {a b : Tree} {at : Place} {x : List ℕ} → NamesAt a at x → NamesAt (binary h op dotted a b) at x
    in_right : {h : Head} {op : BinOp} {dotted : Bool} {a b : Tree} {at : Place} {x : List ℕ} → NamesAt b at x → NamesAt (binary h op dotted a b) at x
    in_indexed : {h : Head} {a i : Tree} {at : Place} {x : List ℕ} → NamesAt a at x → NamesAt (index h a i) at x
    in_index : {h : Head} {a i : Tree} {at : Place} {x : List ℕ} → NamesAt i at x → NamesAt (index h a i) at x
    in_arguments : {h : Head} {f : List ℕ} {dotted : Bool} {xs : Args} {at : Place} {x : List ℕ} → NamesIn xs at x → NamesAt (call h f dotted xs) at x

  pub data NamesIn : Args → Place → List ℕ → Type 0 where
    in_plain : {a : Tree} {xs : Args} {at : Place} {x : List ℕ} → NamesAt a at x → NamesIn (plain a xs) at x
    past_plain : {a : Tree} {xs : Args} {at : Place} {x : List ℕ} → NamesIn xs at x → NamesIn (plain a xs) at x
    in_from : {a b : Tree} {xs : Args} {at : Place} {x : List ℕ} → NamesAt a at x → NamesIn (range a b xs) at x
    in_to : {a b : Tree} {xs : Args} {at : Place} {x : List ℕ} → NamesAt b at x → NamesIn (range a b xs) at x
    past_range : {a b : Tree} {xs : Args} {at : Place} {x : List ℕ} → NamesIn xs at x → NamesIn (range a b xs) at x
    -- the lambda's own parameter is no variable
    in_lambda : {p : List ℕ} {a : Tree} {xs : Args} {at : Place} {x : List ℕ} → bytes_eq x p ≡ false → NamesAt a at x → NamesIn (lambda p a xs) at x
    past_lambda : {p : List ℕ} {a : Tree} {xs : Args} {at : Place} {x : List ℕ} → NamesIn xs at x → NamesIn (lambda p a xs) at x
    in_named : {c : List ℕ} {place : Place} {a : Tree} {xs : Args} {at : Place} {x : List ℕ} → NamesAt a at x → NamesIn (named c place a xs) at x
    past_named : {c : List ℕ} {place : Place} {a : Tree} {xs : Args} {at : Place} {x : List ℕ} → NamesIn xs at x → NamesIn (named c place a xs) at x

-- a variable of this name stands at this place of the expression of the statement at the position
pub data ReadsAt : (b : Block) → Position b → Place → List ℕ → Type 0 where
  by_assign : {place : Place} {y : List ℕ} {e : Tree} {rest : Block} {at : Place} {x : List ℕ} → NamesAt e at x → ReadsAt (assign place y e rest) here at x
  by_print : {place : Place} {e : Tree} {rest : Block} {at : Place} {x : List ℕ} → NamesAt e at x → ReadsAt (print place e rest) here at x
  by_export : {place : Place} {e : Tree} {rest : Block} {at : Place} {x : List ℕ} → NamesAt e at x → ReadsAt (export place e rest) here at x
  by_if : {place : Place} {c : Tree} {body other rest : Block} {at : Place} {x : List ℕ} → NamesAt c at x → ReadsAt (choose place c body other rest) here at x
  by_while : {place : Place} {c : Tree} {body rest : Block} {at : Place} {x : List ℕ} → NamesAt c at x → ReadsAt (loop place c body rest) here at x
  reads_past_assign : {place : Place} {y : List ℕ} {e : Tree} {rest : Block} {p : Position rest} {at : Place} {x : List ℕ} → ReadsAt rest p at x → ReadsAt (assign place y e rest) (past_assign p) at x
  reads_past_print : {place : Place} {e : Tree} {rest : Block} {p : Position rest} {at : Place} {x : List ℕ} → ReadsAt rest p at x → ReadsAt (print place e rest) (past_print p) at x
  reads_past_export : {place : Place} {e : Tree} {rest : Block} {p : Position rest} {at : Place} {x : List ℕ} → ReadsAt rest p at x → ReadsAt (export place e rest) (past_export p) at x
  reads_in_first : {place : Place} {c : Tree} {body other rest : Block} {p : Position body} {at : Place} {x : List ℕ} → ReadsAt body p at x → ReadsAt (choose place c body other rest) (in_first p) at x
  reads_in_second : {place : Place} {c : Tree} {body other rest : Block} {p : Position other} {at : Place} {x : List ℕ} → ReadsAt other p at x → ReadsAt (choose place c body other rest) (in_second p) at x
  reads_past_if : {place : Place} {c : Tree} {body other rest : Block} {p : Position rest} {at : Place} {x : List ℕ} → ReadsAt rest p at x → ReadsAt (choose place c body other rest) (past_if p) at x
  reads_in_turn : {place : Place} {c : Tree} {body rest : Block} {p : Position body} {at : Place} {x : List ℕ} → ReadsAt body p at x → ReadsAt (loop place c body rest) (in_turn p) at x
  reads_past_loop : {place : Place} {c : Tree} {body rest : Block} {p : Position rest} {at : Place} {x : List ℕ} → ReadsAt rest p at x → ReadsAt (loop place c body rest) (past_loop p) at x

-- At this place a variable is read that the script assigns, but that some run which comes there has not assigned before.
pub record IsUnset (body : Block) (at : Place) : Type 0 where
  pub position : Position body
  pub name : List ℕ
  pub read : ReadsAt body position at name
  pub assigned : has name (assigned_in body) ≡ true
  pub before : List (List ℕ)
  pub run : Arrives body position before
  pub missed : has name before ≡ false
