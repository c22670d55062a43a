use Rattle.std.proofs.Common.{◌≡◌, ◌++◌, ◌+◌, drop, map, length}
use Rattle.hg_bind.specs.BoundSelect.{place_if_named, place_of_column}
use Rattle.hg_bind.proofs.select.push_named_places.Given as goal

abbrev pub invariant-loop-place : goal.invariant-loop-place
invariant-loop-place l = record {
  rest : l.places.items ++ map (place_if_named l.scope) (drop l.place-index l.named) ≡ map (place_if_named l.scope) l.named;
  count : length l.places.items ≡ l.place-index;
}
