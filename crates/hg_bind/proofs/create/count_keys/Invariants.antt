use Rattle.std.proofs.Common.{◌≡◌, ◌≤◌, take}
use Rattle.std.specs.List.{count_by}
use Rattle.hg_model.specs.Creation.{is_key}
use Rattle.hg_bind.proofs.create.count_keys.Given as goal

abbrev pub invariant-loop-column : goal.invariant-loop-column
invariant-loop-column l = record {
  counted : l.count ≡ count_by is_key (take l.column-index l.columns);
  most : l.count ≤ l.column-index;
}
