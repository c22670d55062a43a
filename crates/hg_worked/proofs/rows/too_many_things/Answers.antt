use Rattle.hg_worked.proofs.LineCountsByHand as proved
use Rattle.hg_worked.proofs.rows.too_many_things.Goals as goal

pub returns : goal.returns
returns c = record { too_many = proved.line_counts_hold; just_fit = proved.line_counts_fit }
