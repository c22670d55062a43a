use Rattle.std.proofs.Common.{rules}
use Rattle.hg_index.proofs.Keys.{keyed_none, keyed_column, column_fits, keyed_more}
use Rattle.hg_index.proofs.key.put_row_key.Goals as goal

pub loop-column-init : goal.loop-column-init
loop-column-init c = keyed_none c.args.columns.now c.args.row.now c.args.key.now.items c.requires.may c.requires.empty

pub push_index_key-requires : goal.push_index_key-requires
push_index_key-requires c =
    (keyed_column c.args.columns.now c.args.row.now c.loop-column.column-index c.loop-column.key.items c.get.result c.loop-column-test.true c.loop-column.invariant c.get.ensures).indexed.1

pub unreachable-requires : goal.unreachable-requires
unreachable-requires c =
    let k = keyed_column c.args.columns.now c.args.row.now c.loop-column.column-index c.loop-column.key.items c.get.result c.loop-column-test.true c.loop-column.invariant c.get.ensures in
    let f = column_fits c.args.columns.now c.args.row.now c.loop-column.column-index c.loop-column.key.items c.get.result k in
    search rules

pub loop-column-preserved : goal.loop-column-preserved
loop-column-preserved c =
    let k = keyed_column c.args.columns.now c.args.row.now c.loop-column.column-index c.loop-column.key.items c.get.result c.loop-column-test.true c.loop-column.invariant c.get.ensures in
    keyed_more c.args.columns.now c.args.row.now c.loop-column.column-index c.loop-column.key.items c.push_index_key.new.out.items c.get.result k c.in-Ok.ensures.ok
