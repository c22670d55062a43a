use Rattle.std.proofs.Common.{ap, length, arith}
use Rattle.hg_value.proofs.Rows.{length-values}
use Rattle.hg_value.proofs.row.Row.get.Goals as goal

pub coding_among-requires-clause-inside : goal.coding_among-requires-clause-inside
coding_among-requires-clause-inside c =
    omega (arith, c.requires, ap length c.self.view_is, length-values 0 c.self.inside.ends c.self.inside.bytes, ap length c.as_slice.ensures)
