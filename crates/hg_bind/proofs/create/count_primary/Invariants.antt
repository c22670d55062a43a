use Rattle.std.proofs.Common.{◌≡◌, ◌≤◌, take}
use Rattle.std.specs.List.{count_by}
use Rattle.hg_model.specs.declared.trees.NewColumn.{NewColumn}
use Rattle.hg_bind.proofs.create.count_primary.Given as goal

abbrev pub invariant-loop-column : goal.invariant-loop-column
invariant-loop-column l = record {
  counted : l.count ≡ count_by (λ (c : NewColumn). c.primary) (take l.column-index l.columns);
  most : l.count ≤ l.column-index;
}
