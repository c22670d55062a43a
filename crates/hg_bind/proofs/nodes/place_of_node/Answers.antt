use Rattle.std.proofs.Common.{sym, ◌∙◌}
use Rattle.hg_model.specs.Scope.{columns_from}
use Rattle.hg_bind.proofs.Naming.{no_column, scope_length}
use Rattle.hg_bind.proofs.nodes.place_of_node.Goals as goal

pub returns-in_default : goal.returns-in_default
returns-in_default c =
    let other = no_column (columns_from 0 c.args.table.now 0 c.args.columns.now) c.args.node.now c.in_default.not-Col in
    record { place = sym (other.0 ∙ scope_length 0 c.args.table.now 0 c.args.columns.now); ok = other.1; err = tt }
