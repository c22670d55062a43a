use Rattle.hg_worked.proofs.LineNumbersByHand as proved
use Rattle.hg_worked.proofs.rows.numbers_out_of_range.Goals as goal

pub returns : goal.returns
returns c = record { any = proved.line_numbers_hold; pool = proved.pool_numbers_hold }
