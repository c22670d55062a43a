use Rattle.hg_value.specs.RowParts.{HasRead}
use Rattle.hg_value.proofs.decode.read_ends.Given as goal

abbrev pub invariant-loop-place : goal.invariant-loop-place
invariant-loop-place l = HasRead l.bytes l.rest l.ends l._place
