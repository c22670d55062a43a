use Rattle.std.proofs.Common.{◌≡◌, ◌++◌, drop, map}
use Rattle.std.specs.List.{filter}
use Rattle.hg_model.specs.Groups as groups
use Rattle.hg_model.specs.SelectMeaning as meaning
use Rattle.hg_slow.specs.SlowPlaces.{setting}
use Rattle.hg_slow.proofs.slow_groups.groups_by.Given as goal

abbrev pub invariant-loop-key : goal.invariant-loop-key
invariant-loop-key l = l.groups.items ++ map (λ k. filter (λ row. groups.same_values (meaning.group_key (setting l.select l.texts l.places) row) k) l.rows) (drop l.key-index l.key-items) ≡ map (λ k. filter (λ row. groups.same_values (meaning.group_key (setting l.select l.texts l.places) row) k) l.rows) l.key-items
