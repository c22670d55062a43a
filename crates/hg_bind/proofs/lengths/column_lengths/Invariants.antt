use Rattle.std.proofs.Common.{◌≡◌, ◌≤◌, ◌+◌, ◌*◌, ◌^◌, drop}
use Rattle.std.specs.List.{sum_by}
use Rattle.hg_model.specs.Types.{type_length}
use Rattle.hg_model.specs.declared.tables.FromColumn.{FromColumn}
use Rattle.hg_bind.proofs.lengths.column_lengths.Given as goal

abbrev pub invariant-loop-column : goal.invariant-loop-column
invariant-loop-column l = record {
  rest : l.sum + sum_by (λ (c : FromColumn). type_length c.column.ty) (drop l.column-index l.scope) ≡ sum_by (λ (c : FromColumn). type_length c.column.ty) l.scope;
  small : l.sum ≤ 257 * l.column-index;
}
