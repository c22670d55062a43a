use Rattle.std.proofs.Common.{false, sym, ◌∙◌, arith}
use Rattle.hg_space.proofs.SummaryLemmas.{climbs}
use Rattle.hg_space.proofs.summary.+clear_up.Goals as goal

pub returns-then-bit-ge64 : goal.returns-then-bit-ge64
returns-then-bit-ge64 t c = climbs _ _ _ c.args.bit false c.clear-has_bits.ensures.changed (omega arith)
    (sym c.clear-has_bits.ensures.has ∙ c.if-not-has_bits.true) c.clear_up.ensures
