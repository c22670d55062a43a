use Rattle.std.proofs.Common.{◌≡◌, ◌++◌, drop, map, length}
use Rattle.std.specs.Prelude.{slice_get}
use Rattle.hg_model.specs.Binding as binding
use Rattle.hg_model.specs.Tables.{table_named}
use Rattle.hg_model.specs.declared.trees.FromTable.{FromTable}
use Rattle.hg_bind.specs.Bound.{tables_of}
use Rattle.hg_bind.proofs.select.list_tables.Given as goal

abbrev pub invariant-loop-from : goal.invariant-loop-from
invariant-loop-from l = record {
  numbers : map (slice_get (tables_of l.catalog)) l.tables.items ++ map (λ (f : FromTable). table_named (tables_of l.catalog) f.table) (drop l.from-index l.froms)
      ≡ map (λ (f : FromTable). table_named (tables_of l.catalog) f.table) l.froms;
  cause : binding.unknown_table (tables_of l.catalog) (drop l.from-index l.froms) ≡ binding.unknown_table (tables_of l.catalog) l.froms;
  count : length l.tables.items ≡ l.from-index;
}
