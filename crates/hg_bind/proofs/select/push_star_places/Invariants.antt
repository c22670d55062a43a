use Rattle.std.proofs.Common.{◌≡◌, ◌++◌, ◌+◌, drop, map, length}
use Rattle.hg_bind.specs.BoundSelect.{place_if_named, place_of_column}
use Rattle.hg_bind.proofs.select.push_star_places.Given as goal

abbrev pub invariant-loop-column : goal.invariant-loop-column
invariant-loop-column l = record {
  rest : l.places.items ++ map (place_of_column) (drop l.column-index l.scope) ≡ l.initial.places.items ++ map (place_of_column) l.scope;
  count : length l.places.items ≡ length l.initial.places.items + l.column-index;
}
