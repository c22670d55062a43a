use Rattle.std.proofs.Common.{◌≡◌, drop}
use Rattle.std.specs.List.{list_all}
use Rattle.hg_model.specs.Value.{is_printable}
use Rattle.hg_value.proofs.decode.all_printable.Given as goal

abbrev pub invariant-loop-byte : goal.invariant-loop-byte
invariant-loop-byte l = list_all is_printable (drop l.byte-index l.bytes) ≡ list_all is_printable l.bytes
