-- The tables and rows of the slow evaluator as the definitions see them.
use Rattle.std.specs.Prelude.{Vec, List, map}
use Rattle.std.specs.declared.alloc.Global.{Global}
use Rattle.hg_model.specs.Tables.{Table}
use Rattle.hg_model.specs.declared.values.Value.{Value}
use Rattle.hg_slow.specs.declared.tables.SlowTable.{SlowTable}

-- rows of values as lists
abbrev pub rows_seen : List (Vec Value Global) → List (List Value)
rows_seen rows = map (λ (row : Vec Value Global). row.items) rows

abbrev pub table_of : SlowTable → Table
table_of t = record { name = t.name; columns = t.columns.items; rows = rows_seen t.rows.items }

abbrev pub tables_of : List SlowTable → List Table
tables_of ts = map table_of ts
