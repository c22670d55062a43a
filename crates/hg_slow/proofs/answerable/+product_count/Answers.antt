use Rattle.std.proofs.Common.{arith, min, ap, ◌∙◌, ◌+◌, ◌^◌}
use Rattle.hg_model.specs.Tables as tables
use Rattle.hg_slow.specs.SlowTables as slow_tables
use Rattle.hg_model.specs.Scope as scopes
use Rattle.hg_slow.proofs.Answering as answering
use Rattle.hg_model.specs.declared.trees.FromTable.{FromTable}
use Rattle.hg_slow.proofs.answerable.+product_count.Goals as goal

pub returns-in-len1-up : goal.returns-in-len1-up
returns-in-len1-up t c =
    answering.count_step (λ (f : FromTable). scopes.rows_of (tables.table_named (slow_tables.tables_of c.args.tables.now.items) f.table)) c.args.froms.now c.first-item.result c.min.result c.row_count-rows.result c.product_count-more.result
    (omega arith) c.first-item.is c.row_count-rows.ensures c.product_count-more.ensures (c.min.ensures ∙ ap (λ n. min n (2 ^ 30 + 1)) c.saturating_mul.ensures)
