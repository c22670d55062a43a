use Rattle.std.proofs.Common.{true, arith}
use Rattle.hg_space.proofs.BitLemmas.{has_bits-set}
use Rattle.hg_space.proofs.SummaryLemmas.{climbs}
use Rattle.hg_space.proofs.summary.+set_up.Goals as goal

pub returns-then-bit-ge64 : goal.returns-then-bit-ge64
returns-then-bit-ge64 t c = climbs _ _ _ c.args.bit true c.set-had_bits.ensures.changed (omega arith)
    (has_bits-set _ c.args.bit c.set-had_bits.ensures.changed.here) c.set_up.ensures
