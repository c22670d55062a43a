use Rattle.std.proofs.Common.{◌≡◌, ◌++◌, drop, map, IsTrue}
use Rattle.std.specs.List.{list_all}
use Rattle.hg_model.specs.Evaluation as evaluation
use Rattle.hg_model.specs.SelectMeaning as meaning
use Rattle.hg_model.specs.Width.{is_small_row}
use Rattle.hg_slow.specs.SlowPlaces.{setting}
use Rattle.hg_slow.proofs.slow_groups.operand_values.Given as goal

abbrev pub invariant-loop-row : goal.invariant-loop-row
invariant-loop-row l = record {
  built : l.values.items ++ map (λ row. evaluation.value_of (meaning.row_values (setting l.select l.texts l.places) row) l.node) (drop l.row-index l.rows) ≡ map (λ row. evaluation.value_of (meaning.row_values (setting l.select l.texts l.places) row) l.node) l.rows;
  small : IsTrue (list_all is_small_row (drop l.row-index l.rows));
}
