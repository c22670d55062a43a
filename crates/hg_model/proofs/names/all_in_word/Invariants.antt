use Rattle.std.proofs.Common.{◌≡◌, drop}
use Rattle.std.specs.List.{list_all}
use Rattle.hg_model.specs.Name.{is_in_word}
use Rattle.hg_model.proofs.names.all_in_word.Given as goal

abbrev pub invariant-loop-byte : goal.invariant-loop-byte
invariant-loop-byte l = list_all is_in_word (drop l.byte-index l.bytes) ≡ list_all is_in_word l.bytes
