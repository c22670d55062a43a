use Rattle.std.proofs.Common.{◌≡◌, drop}
use Rattle.std.specs.List.{fold}
use Rattle.hg_value.specs.Hashing.{with_byte, hash_of}
use Rattle.hg_value.proofs.hashing.hash.Given as goal

abbrev pub invariant-loop-byte : goal.invariant-loop-byte
invariant-loop-byte l = fold with_byte l.h (drop l.byte-index l.key) ≡ hash_of l.key
