use Rattle.hg_model.specs.declared.trees.Column.{Column}
use Rattle.hg_dml.specs.Fitting.{IsSmallType}
use Rattle.hg_dml.proofs.Fits.{all-more}
use Rattle.hg_dml.proofs.insertion.know_types.Goals as goal

pub loop-column-preserved : goal.loop-column-preserved
loop-column-preserved c =
    all-more (λ (x : Column). IsSmallType x.ty) c.args.columns.now c.loop-column.column-index c.column-item.result c.loop-column-test.true c.column-item.is c.loop-column.invariant c.know_type.ensures
