use Rattle.std.proofs.Common.{length}
use Rattle.hg_slow.proofs.answerable.+product_count.Given as goal

abbrev pub decreases-product_count : goal.decreases-product_count
decreases-product_count l = length l.froms.now
