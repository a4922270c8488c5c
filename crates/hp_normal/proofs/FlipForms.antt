-- A call of `transpose` by the code's trees.
use Rattle.std.proofs.Common.{◌≡◌, ℕ, Bool, true, false, if◌then◌else◌, List, Option, Some, None, refl, sym, ap, ◌∙◌}
use Rattle.hp_word.specs.declared.name.Name.{Name}
use Rattle.hp_script.specs.declared.tree.Arg.{Arg}
use Rattle.hp_script.specs.declared.tree.Arg.TheViews as views
use Rattle.hp_script.specs.declared.tree.Expr.{Expr}
use Rattle.hp_script.specs.Mirror.{Tree, tree_of, args_of}
use Rattle.hp_script.proofs.MirrorLemmas.{tree_call}
use Rattle.hp_meaning.specs.ArgumentShapes.{one_plain}
use Rattle.hp_normal.specs.Programs.{is_transpose, flipped}
use Rattle.hp_normal.proofs.ElementForms.{by_form}

flipped_call : (x : Expr) (function : Name) (dotted : Bool) (xs : List Arg) → x.form ≡ views.Call function dotted xs
    → flipped (tree_of x) ≡ (if is_transpose dotted function.bytes then one_plain (args_of xs) else None)
unfolding tree_of
flipped_call x function dotted xs e = ap flipped (by_form x _ e ∙ tree_call x.id.0 x.at function.bytes dotted xs)

-- a call of another function
pub other_call : (x : Expr) (function : Name) (dotted : Bool) (xs : List Arg) → x.form ≡ views.Call function dotted xs → is_transpose dotted function.bytes ≡ false → None ≡ flipped (tree_of x)
other_call x function dotted xs e other = sym (flipped_call x function dotted xs e ∙ ap (λ (b : Bool). if b then one_plain (args_of xs) else None) other)

-- and one of this, whose arguments are such
pub transposed : (x : Expr) (function : Name) (dotted : Bool) (xs : List Arg) (found : Option Tree) → x.form ≡ views.Call function dotted xs → is_transpose dotted function.bytes ≡ true
    → one_plain (args_of xs) ≡ found → found ≡ flipped (tree_of x)
transposed x function dotted xs found e this one = sym (flipped_call x function dotted xs e ∙ ap (λ (b : Bool). if b then one_plain (args_of xs) else None) this ∙ one)
