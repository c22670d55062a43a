use Rattle.hg_expr.proofs.Fitting.{rows_fit}
use Rattle.hg_expr.proofs.TableRows.{no_aggregates_stand, table_rows_fit}
use Rattle.hg_expr.proofs.laws.rows_fit.Goals as goal

pub returns : goal.returns
returns c = record { small = rows_fit; tables = table_rows_fit; none = no_aggregates_stand }
