-- What is held of the name is its first place.
use Rattle.std.proofs.Common.{List, ap, ◌∙◌}
use Rattle.std.specs.Prelude.{bytes_eq, position}
use Rattle.hp_word.specs.declared.name.Name.{Name}
use Rattle.hp_normal.proofs.column_places.ColumnPlaces.place_of.Goals as goal

pub returns : goal.returns
returns c =
    c.copied.ensures ∙ c.get.ensures.value ∙ c.self.invariant c.args.name.now
    ∙ ap (λ (columns : List Name). position (λ column. bytes_eq c.args.name.now column.bytes) columns) c.self.view_is
