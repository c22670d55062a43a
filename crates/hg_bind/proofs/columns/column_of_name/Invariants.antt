use Rattle.std.proofs.Common.{◌≡◌, ◌+◌, drop}
use Rattle.std.specs.List.{list_any, position_or_len}
use Rattle.hg_model.specs.Tables.{same_name}
use Rattle.hg_model.specs.declared.trees.Column.{Column}
use Rattle.hg_bind.proofs.columns.column_of_name.Given as goal

abbrev pub invariant-loop-place : goal.invariant-loop-place
invariant-loop-place l = record {
  first : l.place + position_or_len (λ (c : Column). same_name c.name l.name) (drop l.place l.columns) ≡ position_or_len (λ (c : Column). same_name c.name l.name) l.columns;
  any : list_any (λ (c : Column). same_name c.name l.name) (drop l.place l.columns) ≡ list_any (λ (c : Column). same_name c.name l.name) l.columns;
}
