use Rattle.std.proofs.Common.{◌≡◌, take}
use Rattle.hg_model.proofs.values.Chars.from_bytes.Given as goal

abbrev pub invariant-loop-byte : goal.invariant-loop-byte
invariant-loop-byte l = l.text.bytes ≡ take l.byte-index l.bytes
