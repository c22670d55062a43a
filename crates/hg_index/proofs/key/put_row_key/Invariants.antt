use Rattle.hg_index.proofs.Keys.{IsKeyedUpTo}
use Rattle.hg_index.proofs.key.put_row_key.Given as goal

abbrev pub invariant-loop-column : goal.invariant-loop-column
invariant-loop-column l = IsKeyedUpTo l.columns l.row l.column-index l.key.items
