use Rattle.std.proofs.Common.{sym, ap, ◌∙◌, length}
use Rattle.hg_value.proofs.Rows.{length-values}
use Rattle.hg_value.proofs.row.Row.len.Goals as goal

pub returns-clause-count : goal.returns-clause-count
returns-clause-count c =
    c.len.ensures.value ∙ sym (length-values 0 c.self.inside.ends c.self.inside.bytes) ∙ ap length c.self.view_is
