use Rattle.std.proofs.Common.{◌∙◌}
use Rattle.hg_bind.specs.Bound.{tables_of}
use Rattle.hg_bind.proofs.ScopeColumns.{scope_next, scope_few}
use Rattle.hg_bind.proofs.scope.list_scope.Goals as goal

pub loop-number-preserved : goal.loop-number-preserved
loop-number-preserved c = record {
  columns =
      scope_next (tables_of c.args.catalog.now) c.args.froms.now c.loop-number.number c.index-froms-number.result c.loop-number.scope.items c.push_columns.new.scope.items c.columns_of-columns.result.now
      c.loop-number-test.true c.index-froms-number.is c.columns_of-columns.ensures.columns c.push_columns.ensures ∙ c.loop-number.invariant.columns;
  few =
      scope_few (tables_of c.args.catalog.now) c.args.froms.now c.loop-number.number c.index-froms-number.result c.loop-number.scope.items c.push_columns.new.scope.items c.columns_of-columns.result.now
      c.loop-number-test.true c.index-froms-number.is c.columns_of-columns.ensures.columns c.push_columns.ensures c.columns_of-columns.ensures.few c.loop-number.invariant.few;
}
