use Rattle.std.proofs.Common.{arith, ◌∙◌}
use Rattle.hg_serve.proofs.Writing.{more_written}
use Rattle.hg_serve.proofs.output.write_all.Goals as goal

pub loop-at-preserved : goal.loop-at-preserved
loop-at-preserved g c =
    let wrote = c.in_ok-at.ensures {u = tt} in
    record {
      inside = omega (arith, wrote.bound, c.split_at.ensures.back_len);
      written = more_written _ _ _ _ _ _ _ c.loop-at.invariant.written c.split_at.ensures.back wrote.bytes.0;
      same = wrote.cause.stays ∙ c.loop-at.invariant.same;
    }
