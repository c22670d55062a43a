use Rattle.std.proofs.Common.{◌≡◌, ◌++◌, drop, IsTrue}
use Rattle.std.specs.List.{list_all, filter}
use Rattle.hg_model.specs.Groups as groups
use Rattle.hg_model.specs.SelectMeaning as meaning
use Rattle.hg_model.specs.Width.{is_small_row}
use Rattle.hg_slow.specs.SlowPlaces.{setting}
use Rattle.hg_slow.proofs.slow_groups.group_with.Given as goal

abbrev pub invariant-loop-row : goal.invariant-loop-row
invariant-loop-row l = record {
  built : l.of_key.items ++ filter (λ row. groups.same_values (meaning.group_key (setting l.select l.texts l.places) row) l.key) (drop l.row-index l.rows) ≡ filter (λ row. groups.same_values (meaning.group_key (setting l.select l.texts l.places) row) l.key) l.rows;
  small : IsTrue (list_all is_small_row (drop l.row-index l.rows));
}
