use Rattle.std.proofs.Common.{◌≡◌, ◌≤◌, ◌*◌, take, drop}
use Rattle.hg_model.specs.Changes.{row_length}
use Rattle.hg_dml.specs.Making.{made_by, noted_row, breaks_null, breaks_type}
use Rattle.hg_dml.proofs.making.make_row.Given as goal

abbrev pub invariant-loop-place : goal.invariant-loop-place
invariant-loop-place l = record {
  null : noted_row breaks_null l.causes.null l.place (drop l.place l.change.columns.now) (drop l.place (made_by l.change l.row)) ≡ noted_row breaks_null l.initial.causes.null 0 l.change.columns.now (made_by l.change l.row);
  misfit : noted_row breaks_type l.causes.misfit l.place (drop l.place l.change.columns.now) (drop l.place (made_by l.change l.row)) ≡ noted_row breaks_type l.initial.causes.misfit 0 l.change.columns.now (made_by l.change l.row);
  long : l.causes.long ≡ l.initial.causes.long;
  bytes : l.bytes ≡ row_length (take l.place (made_by l.change l.row));
  small : l.bytes ≤ 257 * l.place;
  row : l.bytes ≤ 1000 → l.made ≡ take l.place (made_by l.change l.row);
}
