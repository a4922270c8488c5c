-- The name is new, or among the names already.
use Rattle.std.proofs.Common.{◌∙◌, ap, sym, ℕ, List}
use Rattle.hp_script.specs.Scope.{has}
use Rattle.hp_types.specs.Names.{bytes_of, with_name}
use Rattle.hp_types.proofs.NameSets.{has_seen, seen_inserted, with_present}
use Rattle.hp_types.proofs.names.Names.add.Goals as goal

pub returns-in_ok-insert : goal.returns-in_ok-insert
returns-in_ok-insert c =
    ap bytes_of c.in_ok-insert.ensures.keys ∙ seen_inserted c.self.inside.set.keys c.in_ok-from_slice.field-0
    ∙ ap (λ (x : List ℕ). with_name x (bytes_of c.self.inside.set.keys)) c.in_ok-from_slice.ensures.items ∙ ap (with_name c.args.name.now) c.self.view_is

pub returns-else-not-contains : goal.returns-else-not-contains
returns-else-not-contains c =
    with_present c.args.name.now c.args.self.now
    (ap (has c.args.name.now) (sym c.self.view_is) ∙ has_seen c.args.name.now c.self.inside.set.keys ∙ sym c.contains.ensures ∙ c.if-not-contains.false)
